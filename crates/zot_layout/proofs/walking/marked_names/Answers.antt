use Rattle.std.proofs.Common.{◌≡◌, IfSome, Some, None, option_map, string_bytes, refl, sym, subst, ◌∙◌}
use Rattle.std.specs.List.{AllByRecursion}
use Rattle.zot_outside.specs.Objects.{Follows}
use Rattle.zot_outside.specs.PathWalks.{HasRoom, last_path}
use Rattle.zot_layout.specs.Rows.{IsOfRow}
use Rattle.zot_layout.specs.Walks.{IsMarkerOf}
use Rattle.zot_layout.proofs.OpenedLemmas.{own_more}
use Rattle.zot_layout.proofs.WalkLemmas.{walked_first, walked_last, walked_on}
use Rattle.zot_layout.proofs.walking.marked_names.Goals as goal

pub loop-init : goal.loop-init
loop-init g c = (
  refl,
  refl,
  c.over-walk.ensures.room,
  walked_first (IsOfRow c.args.key.now c.args.members c.args.row) (g.S.Store.objects c.args.part.now) (last_path c.over-walk.result) c.new-names.result.items (g.met.S.Store.limited c.args.part.now)
      c.over-walk.ensures.last c.new-names.ensures.items,
  subst (AllByRecursion (IsOfRow c.args.key.now c.args.members c.args.row)) (sym c.new-names.ensures.items) tt,
)

pub returns-in_default-clause-told : goal.returns-in_default-clause-told
returns-in_default-clause-told g c =
    walked_last (IsOfRow c.args.key.now c.args.members c.args.row) (g.S.Store.objects c.args.part.now) (last_path c.loop.walk) c.loop.names.items c.loop.counter
    (subst (λ o. Follows o (last_path c.loop.walk) None) c.loop.invariant.1
    (subst (λ f. Follows (g.S.Store.objects c.loop.part) (last_path c.loop.walk) (option_map string_bytes f)) c.in_default.is c.in_ok-path.ensures.ok)) c.loop.invariant.3

pub loop-preserved : goal.loop-preserved
loop-preserved g c =
    let objects = g.S.Store.objects in
    let own = IsOfRow c.args.key.now c.args.members c.args.row in
    let follows = subst (λ f. Follows (objects c.loop.part) (last_path c.loop.walk) (option_map string_bytes f)) c.in-Some.is c.in_ok-path.ensures.ok in (
      c.in_ok-path.ensures.cause.kept ∙ c.loop.invariant.0,
      c.in_ok-path.ensures.kept ∙ c.loop.invariant.1,
      subst (λ f. IfSome f (λ _. HasRoom (objects c.next_path.new.part) c.next_path.new.walk)) c.in-Some.is c.in_ok-path.ensures.room,
      walked_on own (objects c.args.part.now) (last_path c.loop.walk) (string_bytes c.in-Some.path) (last_path c.next_path.new.walk) c.loop.names.items c.add_found.new.names.items c.in_ok-found.found c.loop.counter
          (subst (λ o. Follows o (last_path c.loop.walk) (Some (string_bytes c.in-Some.path))) c.loop.invariant.1 follows)
          (subst (λ p. IsMarkerOf own p c.in_ok-found.found) c.as_str.ensures.value c.in_ok-found.ensures)
          (subst (λ f. IfSome f (λ path. last_path c.next_path.new.walk ≡ string_bytes path)) c.in-Some.is c.in_ok-path.ensures.last)
          c.in_ok-add_found.ensures c.loop.invariant.3,
      own_more own c.loop.names.items c.add_found.new.names.items (string_bytes c.in-Some.path) c.in_ok-found.found c.loop.invariant.4
          (subst (λ p. IsMarkerOf own p c.in_ok-found.found) c.as_str.ensures.value c.in_ok-found.ensures) c.in_ok-add_found.ensures,
    )

pub returns-in_default-clause-own : goal.returns-in_default-clause-own
returns-in_default-clause-own g c = c.loop.invariant.4
