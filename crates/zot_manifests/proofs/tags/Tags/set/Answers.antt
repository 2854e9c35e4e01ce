use Rattle.std.proofs.Common.{List, ℕ, subst, ◌∙◌}
use Rattle.std.specs.FinMap as finite
use Rattle.std.specs.Str.{bytes_eq}
use Rattle.zot_digest.specs.ByteMap.{byte_cmp}
use Rattle.zot_manifests.proofs.TagIndexLemmas.{lists_set}
use Rattle.zot_manifests.specs.Index.{Adds, Removes}
use Rattle.zot_manifests.specs.Tags.{is_moved_from}
use Rattle.zot_manifests.proofs.tags.Tags.set.Goals as goal

pub invariant_of-self-2 : goal.invariant_of-self-2
invariant_of-self-2 c = λ on.
    let first = c.self.inside.index.sets in
    let mid = c.list.new.self.sets in
    let after = c.unlist_moved.new.index.sets in
    lists_set c.set.result c.self.inside.map c.set.new.self first mid after c.args.tag c.args.entry c.set.ensures.ok c.set.ensures.err c.set.ensures.absent
    (subst (λ (d : List ℕ). Adds byte_cmp (bytes_eq d) c.args.tag first mid) c.digest-digest.ensures
    (subst (λ (t : List ℕ). Adds byte_cmp (bytes_eq c.digest-digest.result) t first mid) (c.in_ok-copy.ensures ∙ c.words.ensures.value) c.in_ok-list.ensures.ok))
    (subst (λ (d : List ℕ). Removes byte_cmp (is_moved_from d (finite.get c.self.inside.map c.args.tag)) c.args.tag mid after) c.digest-digest.ensures c.unlist_moved.ensures)
    (c.self.invariant on)
