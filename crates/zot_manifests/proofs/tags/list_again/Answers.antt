use Rattle.std.proofs.Common.{List, ℕ, true, ap, subst, sym, ◌≡◌, ◌∙◌}
use Rattle.std.specs.Prelude.{OnOk}
use Rattle.std.specs.Str.{bytes_eq}
use Rattle.zot_digest.specs.ByteMap.{byte_cmp}
use Rattle.zot_manifests.proofs.BackLemmas.{list_has}
use Rattle.zot_manifests.specs.Index.{Adds, has}
use Rattle.zot_manifests.proofs.tags.list_again.Goals as goal

pub returns-in-Ok-clause-listed : goal.returns-in-Ok-clause-listed
returns-in-Ok-clause-listed c = λ on.
    subst (λ (t : List ℕ). has byte_cmp c.list.new.self.sets c.args.digest.now t ≡ true) (c.in-Ok.ensures ∙ c.words.ensures.value)
    (list_has c.list.result c.args.digest.now c.in-Ok.text c.args.index.now.sets c.list.new.self.sets (sym c.is_ok.ensures.value ∙ on) c.list.ensures.ok)
