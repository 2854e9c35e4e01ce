use Rattle.std.proofs.Common.{Some, None, refl, sym, ap, ◌∙◌}
use Rattle.std.proofs.lemmas.Bool.{true≢false}
use Rattle.zot_digest.specs.ByteMap.{ByteMap}
use Rattle.zot_manifests.proofs.TagIndexLemmas.{lists_without, without_listed}
use Rattle.zot_model.specs.Manifests.{without_tags_of}
use Rattle.zot_model.specs.State.{StoredTag}
use Rattle.zot_manifests.proofs.tags.Tags.remove_of.Goals as goal

pub invariant_of-self-in-Some : goal.invariant_of-self-in-Some
invariant_of-self-in-Some c = λ on.
    lists_without c.self.inside.map c.remove_each.new.self c.self.inside.index.sets c.take.new.self.sets c.args.digest.now
    (without_listed c.self.inside.map c.remove_each.new.self c.self.inside.index.sets c.args.digest.now (Some c.in-Some.texts) (c.self.invariant on) c.in-Some.ensures.was c.remove_each.ensures)
    c.take.ensures.taken (c.self.invariant on)

pub returns-in-Some : goal.returns-in-Some
returns-in-Some c =
    without_listed c.self.inside.map c.remove_each.new.self c.self.inside.index.sets c.args.digest.now (Some c.in-Some.texts) (c.self.invariant c.if-not-self.false) c.in-Some.ensures.was c.remove_each.ensures
    ∙ ap (λ (m : ByteMap StoredTag). without_tags_of m c.args.digest.now) c.self.view_is

pub returns-in_default : goal.returns-in_default
returns-in_default c =
    without_listed c.self.inside.map c.self.inside.map c.self.inside.index.sets c.args.digest.now None (c.self.invariant c.if-not-self.false) c.in_default.ensures.was (λ _. refl)
    ∙ ap (λ (m : ByteMap StoredTag). without_tags_of m c.args.digest.now) c.self.view_is
