use Rattle.std.proofs.Common.{sym, subst}
use Rattle.std.specs.Prelude.{◌↔◌}
use Rattle.zot_names.proofs.TryLemmas.{match_more}
use Rattle.zot_names.specs.Glob.{Matches, StandFor, pieces_of}
use Rattle.zot_names.specs.Tries.{after_star}
use Rattle.zot_names.specs.declared.piece.Piece.TheVariants.{Across}
use Rattle.zot_names.proofs.glob.glob_matches.Goals as goal

pub loop-after-preserved : goal.loop-after-preserved
loop-after-preserved c =
    let h = subst (λ b. Matches c.args.glob.now c.args.name.now ↔ StandFor (after_star b Across (pieces_of c.loop-after.pieces.now)) c.loop-after.rest.now) c.if-not-starred.false c.loop-after.invariant in
    let k = match_more c.args.glob.now c.args.name.now c.loop-after.pieces.now c.loop-after.rest.now c.in-Some.left.now _ h c.in-Failed-2.ensures c.in-Some.ensures.cases.0 in
    subst (λ b. Matches c.args.glob.now c.args.name.now ↔ StandFor (after_star b Across (pieces_of c.loop-after.pieces.now)) c.in-Some.left.now) (sym c.if-not-starred.false) k
