use Rattle.std.proofs.Common.{◌≡◌, [], ℕ, List, map as each, string_bytes, rules, sym, ap, ◌++◌, ◌∙◌}
use Rattle.std.specs.List.Sorted.{IsStrictlySortedBy}
use Rattle.std.proofs.lemmas.List.{append-nil}
use Rattle.zot_digest.specs.ByteMap.{byte_cmp}
use Rattle.zot_maps.proofs.Entries.{entries_of_map}
use Rattle.zot_maps.proofs.Maps.{byte_order}
use Rattle.zot_fakes.proofs.object_map.list.Goals as goal

pub returns : goal.returns
returns c =
    let done : c.loop-path.path-iterator ≡ [] = search rules in
    let sorted : IsStrictlySortedBy byte_cmp (each (λ (e : List ℕ × List ℕ). e.0) c.args.tree.now.entries) = search rules in
    let all = each (λ o. (string_bytes o.0, o.1.items)) c.loop-path.list.items in
    sym (append-nil all) ∙ ap (λ (es : List (List ℕ × List ℕ)). all ++ es) (sym done) ∙ c.loop-path.invariant ∙ sym (entries_of_map byte_order c.args.tree.now.entries sorted)
