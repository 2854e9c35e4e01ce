use Rattle.std.proofs.Common.{◌≡◌, ◌∙◌, ◌∷◌, ◌++◌, List, ℕ, Option, ap, map, rules}
use Rattle.std.specs.BTreeMap.{insert_entry}
use Rattle.std.specs.List.Sorted.{IsStrictlySortedBy}
use Rattle.zot_digest.specs.ByteMap.{byte_cmp}
use Rattle.zot_links.proofs.LinkLemmas.{copied_more}
use Rattle.zot_links.proofs.links.copied.Goals as goal

pub loop-name-preserved : goal.loop-name-preserved
loop-name-preserved c =
    let next : c.loop-name.name-iterator ≡ (c.in-Some.name.now, c.in-Some.origin.now) ∷ c.next.new.self = search rules in
    let sorted : IsStrictlySortedBy byte_cmp (map (λ (e : List ℕ × Option (List ℕ)). e.0) c.args.tree.now.entries) = search rules in
    let put : c.put.new.tree.entries ≡ insert_entry byte_cmp c.loop-name.made.entries c.in-Some.name.now c.in-Some.origin.now = cc (c.in_ok-put.ensures, c.in_ok-copy.ensures, c.in_ok-copy_held.ensures) in
    copied_more c.args.tree.now.entries c.loop-name.made.entries c.put.new.tree.entries c.next.new.self c.in-Some.name.now c.in-Some.origin.now
    (c.loop-name.invariant ∙ ap (λ r. c.loop-name.made.entries ++ r) next) sorted put
