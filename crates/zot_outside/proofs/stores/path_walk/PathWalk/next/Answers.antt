use Rattle.std.proofs.Common.{rules, ◌<◌, ◌+◌, ◌^◌, IfSome, length, string_bytes, subst, sym, ◌∙◌}
use Rattle.zot_outside.proofs.WalkLemmas.{room_after}
use Rattle.zot_outside.specs.Objects.{paths_after}
use Rattle.zot_outside.specs.PathWalks.{last_path}
use Rattle.zot_outside.proofs.stores.path_walk.PathWalk.next.Goals as goal

pub returns-in_ok-self-in-Some-clause-room : goal.returns-in_ok-self-in-Some-clause-room
returns-in_ok-self-in-Some-clause-room g c =
    let objects = g.S.Store.objects in
    let asked = c.args.self.now.asked in
    subst (λ p. IfSome (objects c.next.new.self) (λ told. (asked + 1) + length (paths_after told p) < 2 ^ 63)) (sym (c.in_ok-self-in-Some.ensures.ok ∙ c.as_str-in-Some.ensures.value))
    (room_after (objects c.args.store.now) (objects c.next.new.self) (last_path c.args.self.now) (string_bytes c.in-Some.path) asked (search rules) c.next.ensures.kept c.requires)
