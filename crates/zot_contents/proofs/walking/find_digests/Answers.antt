use Rattle.std.proofs.Common.{◌≡◌, IfSome, Some, None, option_map, string_bytes, refl, sym, subst, ◌∙◌}
use Rattle.zot_outside.specs.Objects.{Follows}
use Rattle.zot_outside.specs.PathWalks.{HasRoom, last_path}
use Rattle.zot_contents.specs.Places.{IsPlaceOf}
use Rattle.zot_contents.specs.Shards.{AllOwn}
use Rattle.zot_contents.proofs.WalkLemmas.{own_none, own_noted, walked_first, walked_last, walked_on}
use Rattle.zot_contents.proofs.walking.find_digests.Goals as goal

pub loop-init : goal.loop-init
loop-init g c = (
  refl,
  refl,
  c.over-walk.ensures.room,
  own_none c.args.number c.new-found.result c.new-found.ensures,
  walked_first c.args.number (g.S.Store.objects c.args.part.now) (last_path c.over-walk.result) c.new-found.result (g.met.S.Store.limited c.args.part.now) c.over-walk.ensures.last c.new-found.ensures,
)

pub returns-in_default-clause-found : goal.returns-in_default-clause-found
returns-in_default-clause-found g c =
    walked_last c.args.number (g.S.Store.objects c.args.part.now) (last_path c.loop.walk) c.loop.found c.loop.counter
    (subst (λ o. Follows o (last_path c.loop.walk) None) c.loop.invariant.1
    (subst (λ f. Follows (g.S.Store.objects c.loop.part) (last_path c.loop.walk) (option_map string_bytes f)) c.in_default.is c.in_ok-path.ensures.ok)) c.loop.invariant.3 c.loop.invariant.4

pub loop-preserved : goal.loop-preserved
loop-preserved g c =
    let objects = g.S.Store.objects in
    let follows = subst (λ f. Follows (objects c.loop.part) (last_path c.loop.walk) (option_map string_bytes f)) c.in-Some.is c.in_ok-path.ensures.ok in
    let placed = subst (λ p. IsPlaceOf p c.in_ok-place.place) c.as_str.ensures.value c.in_ok-place.ensures in (
      c.in_ok-path.ensures.cause.kept ∙ c.loop.invariant.0,
      c.in_ok-path.ensures.kept ∙ c.loop.invariant.1,
      subst (λ f. IfSome f (λ _. HasRoom (objects c.next.new.store) c.next.new.self)) c.in-Some.is c.in_ok-path.ensures.room,
      subst (AllOwn c.args.number) (sym c.in_ok-note.ensures) (own_noted c.args.number (string_bytes c.in-Some.path) c.loop.found c.in_ok-place.place placed c.loop.invariant.3),
      walked_on c.args.number (objects c.args.part.now) (last_path c.loop.walk) (string_bytes c.in-Some.path) (last_path c.next.new.self) c.loop.found c.note.new.found c.in_ok-place.place c.loop.counter
          (subst (λ o. Follows o (last_path c.loop.walk) (Some (string_bytes c.in-Some.path))) c.loop.invariant.1 follows) placed
          (subst (λ f. IfSome f (λ path. last_path c.next.new.self ≡ string_bytes path)) c.in-Some.is c.in_ok-path.ensures.last) c.in_ok-note.ensures c.loop.invariant.4,
    )
