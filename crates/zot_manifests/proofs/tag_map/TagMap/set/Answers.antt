use Rattle.std.proofs.Common.{None, ap, sym, subst, ◌∙◌}
use Rattle.std.specs.Prelude.{Result, Ok, Err, OnErr}
use Rattle.std.specs.FinMap as finite
use Rattle.zot_digest.specs.ByteMap.{ByteMap, map_of}
use Rattle.zot_maps.proofs.Maps.{byte_order, entries-insert, found_at}
use Rattle.zot_manifests.proofs.TagLemmas.{tags_insert}
use Rattle.zot_model.specs.State.{StoredTag}
use Rattle.zot_names.specs.Tag.{IsTag}
use Rattle.zot_manifests.proofs.tag_map.TagMap.set.Goals as goal

pub invariant_of-self-2 : goal.invariant_of-self-2
invariant_of-self-2 c =
    tags_insert (map_of c.self.inside.tree.entries) (map_of c.insert.new.self.entries) c.into_words.result c.args.entry
    (entries-insert byte_order c.self.inside.tree.entries c.insert.new.self.entries c.into_words.result c.args.entry c.in_ok-insert.ensures.updates.0)
    c.self.invariant (subst IsTag (sym c.into_words.ensures.value) c.into_words.ensures.tag)

pub returns-clause-ok : goal.returns-clause-ok
returns-clause-ok c =
    entries-insert byte_order c.self.inside.tree.entries c.insert.new.self.entries c.into_words.result c.args.entry c.in_ok-insert.ensures.updates.0
    ∙ ap (λ (m : ByteMap StoredTag). finite.insert m c.into_words.result c.args.entry) c.self.view_is
    ∙ ap (λ tag. finite.insert c.args.self.now tag c.args.entry) c.into_words.ensures.value

on_err : {X E : Type 0} {P : Type 0} (r : Result X E) → P → OnErr r P
on_err (Ok x) p = tt
on_err (Err e) p = p

pub returns-in_err-insert-clause-absent : goal.returns-in_err-insert-clause-absent
returns-in_err-insert-clause-absent c =
    on_err c.from_residual.result (sym (ap (finite.get c.args.self.now) c.into_words.ensures.value)
    ∙ found_at byte_order c.self.inside.tree.entries c.args.self.now c.into_words.result None c.self.view_is (sym c.in_err-insert.ensures.absent))
