use Rattle.std.proofs.Common.{rules, ◌≡◌, ◌+◌, ◌<◌, ◌^◌, IfSome, length, subst, sym}
use Rattle.std.specs.declared.cmp.Ordering.TheVariants.{Less}
use Rattle.zot_outside.proofs.WalkLemmas.{room_skipped}
use Rattle.zot_outside.specs.Objects.{path_cmp, paths_after}
use Rattle.zot_outside.specs.PathWalks.{last_path}
use Rattle.zot_outside.proofs.stores.path_walk.PathWalk.skip_to.Goals as goal

pub returns-in_ok-self-clause-room : goal.returns-in_ok-self-clause-room
returns-in_ok-self-clause-room c = λ objects room.
    let last = last_path c.args.self.now in
    let asked = c.args.self.now.asked in
    let less : path_cmp last c.args.path.now ≡ Less = search rules in
    subst (λ p. IfSome objects (λ told. asked + length (paths_after told p) < 2 ^ 63)) (sym c.in_ok-self.ensures.ok) (room_skipped objects last c.args.path.now asked less room)
