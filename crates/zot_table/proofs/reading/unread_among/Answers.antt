use Rattle.std.proofs.Common.{rules, ◌≡◌, ◌++◌, ◌∷◌, ℕ, List, map, subst}
use Rattle.std.specs.List.{filter}
use Rattle.zot_manifests.specs.declared.kept.Kept.{Kept}
use Rattle.zot_table.proofs.LeavingLemmas.{listed_more}
use Rattle.zot_table.specs.Tables.{entry_at, is_unread}
use Rattle.zot_table.proofs.reading.unread_among.Goals as goal

pub loop-digest-preserved : goal.loop-digest-preserved
loop-digest-preserved c =
    let next : c.loop-digest.digest-iterator ≡ (c.in-Some.digest.now, c.in-Some.field-0-1.now) ∷ c.next.new.self = search rules in
    let passes = λ (e : List ℕ × Kept). is_unread (entry_at c.args.blobs.now e.0) in
    let shows = λ (e : List ℕ × Kept). e.0 in
    listed_more passes shows (map shows (filter passes c.args.tree.now.entries)) c.loop-digest.list.items c.add_unread.new.list.items (c.in-Some.digest.now, c.in-Some.field-0-1.now) c.next.new.self
    (subst (λ (l : List (List ℕ × Kept)). map shows (filter passes c.args.tree.now.entries) ≡ c.loop-digest.list.items ++ map shows (filter passes l)) next c.loop-digest.invariant)
    c.in_ok-add_unread.ensures
