use Rattle.std.proofs.Common.{◌≡◌, map, rules, sym, ap, subst, ◌∙◌}
use Rattle.std.specs.List.{list_any}
use Rattle.std.specs.FinMap as finite
use Rattle.std.specs.Map.Iter.{deref}
use Rattle.std.proofs.lemmas.Map.Iter.{iter_end}
use Rattle.zot_digest.specs.ByteMap.{ByteMap}
use Rattle.zot_manifests.proofs.TableLemmas.{none_listed, none_there, says_referred}
use Rattle.zot_manifests.specs.Index.{ListsAll}
use Rattle.zot_manifests.specs.Table.{Table, is_referred, says}
use Rattle.zot_manifests.specs.declared.kept.Kept.{Kept}
use Rattle.zot_manifests.proofs.manifests.Manifests.refers.Goals as goal

pub returns-then-not-self : goal.returns-then-not-self
returns-then-not-self c = c.refers_among.ensures ∙ ap (λ (m : ByteMap Kept). is_referred m c.args.digest.now) (c.tree.ensures ∙ ap (λ (t : Table). t.manifests) c.self.view_is)

pub returns-in_default : goal.returns-in_default
returns-in_default c =
    sym (none_there c.args.self.now.manifests c.self.inside.index.sets c.args.digest.now
    (subst (λ (m : ByteMap Kept). ListsAll m c.self.inside.index.sets) (ap (λ (t : Table). t.manifests) c.self.view_is) (c.self.invariant c.if-not-self.false)) c.in_default.ensures)

pub returns-then-says : goal.returns-then-says
returns-then-says c = sym (says_referred c.args.self.now.manifests c.args.digest.now c.in-Some-manifest.manifest.now (sym c.says.ensures ∙ c.if-says.true))

pub returns : goal.returns
returns c =
    let all : map deref c.loop-manifest.yielded ≡ c.in-Some.listed.now.keys = search (rules, iter_end) in
    sym (none_listed c.args.self.now.manifests c.self.inside.index.sets c.args.digest.now c.in-Some.listed.now
    (subst (λ (m : ByteMap Kept). ListsAll m c.self.inside.index.sets) (ap (λ (t : Table). t.manifests) c.self.view_is) (c.self.invariant c.if-not-self.false)) c.in-Some.ensures
    (ap (list_any (λ manifest. says (finite.get c.args.self.now.manifests manifest) c.args.digest.now)) (sym all) ∙ c.loop-manifest.invariant))
