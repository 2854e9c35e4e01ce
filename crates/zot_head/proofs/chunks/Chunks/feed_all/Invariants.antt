use Rattle.std.proofs.Common.{take, Ok}
use Rattle.std.specs.List.{flat_map}
use Rattle.zot_head.specs.Progress.{Feeds}
use Rattle.zot_head.proofs.chunks.Chunks.feed_all.Given as goal

abbrev pub invariant-loop-piece : goal.invariant-loop-piece
invariant-loop-piece l =
    Feeds l.fn.self (flat_map (λ piece. piece.items) (take l.piece-index l.pieces)) (Ok l.fed) l.self l.fn.out.items l.out.items
