use Rattle.std.proofs.Common.{◌≡◌, ◌++◌, length, sym, ◌∙◌}
use Rattle.zot_session.specs.Receiving.{no_piece}
use Rattle.zot_session.proofs.LengthLemmas.{length_done, length_joins}
use Rattle.zot_session.proofs.ReceiveLemmas.{came_cut, came_piece}
use Rattle.zot_session.proofs.RoomLemmas.{room_piece}
use Rattle.zot_session.proofs.body.receive_length.Goals as goal

pub returns-then-len-size-clause-bodies : goal.returns-then-len-size-clause-bodies
returns-then-len-size-clause-bodies g c =
    let i = c.pieces.invariant in
    let j = length_joins c.pass.new.self c.extend_from_slice.new.self.items c.waiting.result.now c.waiting-in-pieces.result.now c.share-n.result _ c.args.size c.requires i.pieces i.room i.within c.share-n.ensures c.waiting.ensures
    (c.len.ensures ∙ c.pieces.body.ok.0) c.in-Ok.ensures.items c.waiting-in-pieces.ensures c.pass.ensures.bytes c.pass.ensures.taken c.pass.ensures.held in record {
      passed = c.extend_from_slice.new.self.items;
      came = i.came;
      pieces = j.pieces;
      whole = length_done c.args.size j.pieces c.requires (sym c.extend_from_slice.new.self.ok.0 ∙ sym c.len-in-pieces.ensures ∙ c.if-len-size.true);
    }

pub pieces-preserved : goal.pieces-preserved
pieces-preserved g c =
    let i = c.pieces.invariant in
    let j = length_joins c.pass.new.self c.extend_from_slice.new.self.items c.waiting.result.now c.waiting-in-pieces.result.now c.share-n.result _ c.args.size c.requires i.pieces i.room i.within c.share-n.ensures c.waiting.ensures
    (c.len.ensures ∙ c.pieces.body.ok.0) c.in-Ok.ensures.items c.waiting-in-pieces.ensures c.pass.ensures.bytes c.pass.ensures.taken c.pass.ensures.held in
    let short = λ (e : length c.extend_from_slice.new.self.items ≡ c.args.size). c.if-len-size.false (c.len-in-pieces.ensures ∙ c.extend_from_slice.new.self.ok.0 ∙ e) in
    let p = c.in-Ok-take.ensures.piece in
    record { came = i.came ++ p.more; pieces = came_piece j.pieces p; room = room_piece j.room (j.none short) p; within = j.within; kept = c.in-Ok-take.ensures.faults.kept (λ e. cc e) ∙ i.kept }

pub returns-in-Err-take-clause-cut : goal.returns-in-Err-take-clause-cut
returns-in-Err-take-clause-cut g c =
    let i = c.pieces.invariant in
    let j = length_joins c.pass.new.self c.extend_from_slice.new.self.items c.waiting.result.now c.waiting-in-pieces.result.now c.share-n.result _ c.args.size c.requires i.pieces i.room i.within c.share-n.ensures c.waiting.ensures
    (c.len.ensures ∙ c.pieces.body.ok.0) c.in-Ok.ensures.items c.waiting-in-pieces.ensures c.pass.ensures.bytes c.pass.ensures.taken c.pass.ensures.held in
    let short = λ (e : length c.extend_from_slice.new.self.items ≡ c.args.size). c.if-len-size.false (c.len-in-pieces.ensures ∙ c.extend_from_slice.new.self.ok.0 ∙ e) in
    let k = c.in-Err-take.ensures.cut in
    record { passed = c.extend_from_slice.new.self.items; came = i.came; pieces = came_cut j.pieces k; cause = no_piece (j.partial short) k.cause }
