use Rattle.std.proofs.Common.{ℕ, ◌+◌, ◌≤◌, List, length, take, drop, ap, sym, subst, arith, Vec, Global, Ok, Err}
use Rattle.std.specs.List.{flat_map}
use Rattle.std.proofs.lemmas.Result.{err_from_is_err_and}
use Rattle.zot_head.specs.Progress.{Feeds}
use Rattle.zot_head.proofs.PieceLemmas.{fed-after, fed-then, failed-then, pieces-more, pieces-split, both_within, false_from_not, true_from_not}
use Rattle.zot_head.proofs.chunks.Chunks.feed_all.Goals as goal
use Rattle.zot_head.proofs.chunks.Chunks.feed_all.Goals.{then-not-fed+in_ok-next, else-not-fed}

-- the bytes of a piece
abbrev bytes_of : Vec ℕ Global → List ℕ
bytes_of piece = piece.items

pub returns-in_err-next : goal.returns-in_err-next
returns-in_err-next c =
    let p = err_from_is_err_and c.from_residual-in_err-next.result c.from_residual-in_err-next.ensures.1 in
    let split = pieces-split bytes_of c.args.pieces.now c.loop-piece.piece-index c.piece-item.result c.loop-piece-test.true c.piece-item.is in
    let bytes = flat_map bytes_of (take c.loop-piece.piece-index c.args.pieces.now) in
    let others = flat_map bytes_of (drop (c.loop-piece.piece-index + 1) c.args.pieces.now) in
    let error : Feeds c.loop-piece.self (bytes_of c.piece-item.result) (Err c.in_err-next.field-0.0) c.feed-then-not-fed.new.self c.loop-piece.out.items c.feed-then-not-fed.new.out.items =
    rw (← c.as_slice.ensures.value) c.in_err-next.ensures in
    rw (p.1, p.2)
    (subst (λ (all : List ℕ). Feeds c.args.self.now all (Err c.in_err-next.field-0.0) c.feed-then-not-fed.new.self c.args.out.now.items c.feed-then-not-fed.new.out.items) (sym split)
    (failed-then c.args.self.now c.loop-piece.self c.feed-then-not-fed.new.self bytes (bytes_of c.piece-item.result) others c.loop-piece.fed c.in_err-next.field-0.0 c.args.out.now.items
    c.loop-piece.out.items c.feed-then-not-fed.new.out.items c.loop-piece.invariant (false_from_not _ c.if-not-fed.true) error))

pub overflow_add-fed : goal.overflow_add-fed
overflow_add-fed c =
    let split = pieces-split bytes_of c.args.pieces.now c.loop-piece.piece-index c.piece-item.result c.loop-piece-test.true c.piece-item.is in
    let bytes = flat_map bytes_of (take c.loop-piece.piece-index c.args.pieces.now) in
    let others = flat_map bytes_of (drop (c.loop-piece.piece-index + 1) c.args.pieces.now) in
    let fits : c.in_ok-next.next.taken ≤ length (bytes_of c.piece-item.result) = rw (← c.as_slice.ensures.value) c.in_ok-next.ensures.within in
    let within = both_within c.args.self.now c.loop-piece.self bytes (bytes_of c.piece-item.result) others c.loop-piece.fed c.in_ok-next.next c.args.out.now.items c.loop-piece.out.items
    c.loop-piece.invariant (false_from_not _ c.if-not-fed.true) fits in
    omega (arith, within, ap length split, c.requires)

pub loop-piece-preserved : goal.loop-piece-preserved
loop-piece-preserved c =
    let more = pieces-more bytes_of c.args.pieces.now c.loop-piece.piece-index c.piece-item.result c.loop-piece-test.true c.piece-item.is in
    let bytes = flat_map bytes_of (take c.loop-piece.piece-index c.args.pieces.now) in
    elim c.if-not-fed.branch [
      | then-not-fed+in_ok-next w ↦
          let next : Feeds c.loop-piece.self (bytes_of c.piece-item.result) (Ok w.in_ok-next.next) w.feed-then-not-fed.new.self c.loop-piece.out.items w.feed-then-not-fed.new.out.items =
          rw (← w.as_slice.ensures.value) w.in_ok-next.ensures in
          rw (more, w.self-is, w.out-is, w.fed-is)
          (fed-then c.args.self.now c.loop-piece.self w.feed-then-not-fed.new.self bytes (bytes_of c.piece-item.result) c.loop-piece.fed w.in_ok-next.next c.args.out.now.items
          c.loop-piece.out.items w.feed-then-not-fed.new.out.items c.loop-piece.invariant (false_from_not _ w.if-not-fed.true) next)
      | else-not-fed w ↦
          rw (more, w.self-is, w.out-is, w.fed-is)
          (fed-after c.args.self.now c.loop-piece.self bytes (bytes_of c.piece-item.result) c.loop-piece.fed c.args.out.now.items c.loop-piece.out.items c.loop-piece.invariant (true_from_not _ w.if-not-fed.false))
    ]
