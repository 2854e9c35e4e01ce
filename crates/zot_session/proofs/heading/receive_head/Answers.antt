use Rattle.std.proofs.Common.{◌≡◌, ◌++◌, ◌∙◌, ap, subst}
use Rattle.zot_head.specs.Front as fronts
use Rattle.zot_head.specs.Limits.{head_limit}
use Rattle.zot_head.specs.Lines.{Goes, extent, head_end}
use Rattle.zot_session.specs.declared.heading.Heading.TheVariants as headings
use Rattle.zot_session.specs.Messages.{refused_as}
use Rattle.zot_session.specs.Receiving.{HeadDeclined}
use Rattle.zot_session.proofs.HeadingLemmas.{found_goes, found_too_long, goes_partial}
use Rattle.zot_session.proofs.ReceiveLemmas.{came_piece, head_cut, head_read, refused_is}
use Rattle.zot_session.proofs.RoomLemmas.{holds_piece}
use Rattle.zot_session.proofs.heading.receive_head.Goals as goal

pub returns-in-Ok-clause-heads : goal.returns-in-Ok-clause-heads
returns-in-Ok-clause-heads g c =
    let i = c.pieces.invariant in
    head_read c.in-Ok.heading c.head_of.new.inbox i.pieces i.holds c.in-Ok.ensures

pub returns-in-TooLong-clause-heads : goal.returns-in-TooLong-clause-heads
returns-in-TooLong-clause-heads g c =
    let i = c.pieces.invariant in
    let declined = subst (λ b. HeadDeclined (refused_as fronts.HeadTooLong) b) c.waiting.ensures (found_too_long c.waiting.result.now c.find_head.result c.find_head.ensures.found c.in-TooLong.is) in
    head_read (headings.Refused c.head_too_long.result) c.pieces.inbox i.pieces i.holds (refused_is (headings.Refused c.head_too_long.result) (refused_as fronts.HeadTooLong) c.pieces.inbox (ap headings.Refused c.head_too_long.ensures) declined)

pub pieces-preserved : goal.pieces-preserved
pieces-preserved g c =
    let i = c.pieces.invariant in
    let goes = subst (λ b. extent head_end head_limit b ≡ Goes) c.waiting.ensures (found_goes c.waiting.result.now c.find_head.result c.find_head.ensures.found c.in-More.is) in
    let p = c.in-Ok-take.ensures.piece in
    record { came = i.came ++ p.more; pieces = came_piece i.pieces p; holds = holds_piece goes p; kept = c.in-Ok-take.ensures.faults.kept (λ e. cc e) ∙ i.kept }

pub returns-in-Err-take-clause-cut : goal.returns-in-Err-take-clause-cut
returns-in-Err-take-clause-cut g c =
    let goes = subst (λ b. extent head_end head_limit b ≡ Goes) c.waiting.ensures (found_goes c.waiting.result.now c.find_head.result c.find_head.ensures.found c.in-More.is) in
    head_cut c.pieces.invariant.pieces (goes_partial c.pieces.inbox.bytes goes) c.in-Err-take.ensures.cut
