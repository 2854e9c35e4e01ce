use Rattle.std.proofs.Common.{◌≡◌, ◌∙◌, true, is_some, sym, ap}
use Rattle.std.specs.FinMap as map
use Rattle.zot_table.proofs.ChangeLemmas.{kept_gone}
use Rattle.zot_table.proofs.repository.Repository.remove_manifest.Goals as goal

pub invariant_of-self : goal.invariant_of-self
invariant_of-self c =
    let there : is_some (map.get c.self.inside.manifests.manifests c.args.digest.now) ≡ true = ap is_some (sym c.in-Some.ensures) in
    kept_gone _ _ _ _ _ c.self.invariant c.remove-2.new.self c.remove.new.self.index.sets c.args.digest.now c.in-Some.kept.now.reading (c.remove-2.ensures.removed (c.remove-2.ensures.was ∙ there)) c.remove.ensures
