use Rattle.std.proofs.Common.{[], ◌++◌, Ok, Err, refl, sym, ◌∙◌, subst}
use Rattle.zot_head.specs.Progress.{Feeds}
use Rattle.zot_session.specs.Receiving.{no_piece}
use Rattle.zot_session.proofs.ChunkLemmas.{ReadSoFar, chunks_broken, chunks_passed, chunks_whole, read_more, read_none}
use Rattle.zot_session.proofs.ReceiveLemmas.{came_cut, came_none, came_piece}
use Rattle.zot_session.proofs.RoomLemmas.{room_none, room_piece}
use Rattle.zot_session.proofs.body.receive_chunks.Goals as goal

pub pieces-init : goal.pieces-init
pieces-init g c = record {
  passed = [];
  came = [];
  pieces = came_none c.args.inbox.now c.args.inbox.now (g.C.Source.left c.args.source.now) refl refl;
  room = room_none c.args.inbox.now;
  read = subst (λ b. ReadSoFar [] b c.new-chunks.result) (sym c.new-body.ensures.items) (read_none c.new-chunks.result c.new-chunks.ensures);
  kept = refl;
}

pub returns-in-Some-clause-bodies : goal.returns-in-Some-clause-bodies
returns-in-Some-clause-bodies g c =
    let i = c.pieces.invariant in
    let f = subst (λ b. Feeds c.pieces.chunks b (Err c.in-Err.error) c.feed.new.self c.pieces.body.items c.feed.new.out.items) c.waiting.ensures c.in-Err.ensures in
    chunks_broken c.in-Err.error c.in-Some.reply c.pieces.body.items c.feed.new.out.items c.pieces.chunks i.pieces i.read f.answers (sym c.broken.ensures ∙ c.in-Some.is)

pub returns-then-fed-clause-bodies : goal.returns-then-fed-clause-bodies
returns-then-fed-clause-bodies g c =
    let i = c.pieces.invariant in
    let f = subst (λ b. Feeds c.pieces.chunks b (Ok c.in-Ok.fed) c.feed.new.self c.pieces.body.items c.feed.new.out.items) c.waiting.ensures c.in-Ok.ensures in
    chunks_whole c.pass.new.self c.pieces.body.items c.feed.new.out.items c.pieces.chunks c.in-Ok.fed i.pieces i.read f.answers c.if-fed.true c.pass.ensures.bytes c.pass.ensures.taken

pub pieces-preserved : goal.pieces-preserved
pieces-preserved g c =
    let i = c.pieces.invariant in
    let f = subst (λ b. Feeds c.pieces.chunks b (Ok c.in-Ok.fed) c.feed.new.self c.pieces.body.items c.feed.new.out.items) c.waiting.ensures c.in-Ok.ensures in
    let d = chunks_passed c.pass.new.self c.pieces.body.items c.feed.new.out.items c.pieces.chunks c.in-Ok.fed i.pieces i.room i.read f.answers c.if-fed.false c.pass.ensures.bytes c.pass.ensures.taken c.pass.ensures.held in
    let p = c.in-Ok-take.ensures.piece in record {
      passed = i.passed ++ c.pieces.inbox.bytes;
      came = i.came ++ p.more;
      pieces = came_piece d.pieces p;
      room = room_piece d.room d.none p;
      read = read_more i.passed c.pieces.inbox.bytes c.pieces.chunks c.feed.new.self c.in-Ok.fed.taken c.pieces.body.items c.feed.new.out.items i.read f.goes_on d.all;
      kept = c.in-Ok-take.ensures.faults.kept (λ e. cc e) ∙ i.kept;
    }

pub returns-in-Err-take-clause-cut : goal.returns-in-Err-take-clause-cut
returns-in-Err-take-clause-cut g c =
    let i = c.pieces.invariant in
    let f = subst (λ b. Feeds c.pieces.chunks b (Ok c.in-Ok.fed) c.feed.new.self c.pieces.body.items c.feed.new.out.items) c.waiting.ensures c.in-Ok.ensures in
    let d = chunks_passed c.pass.new.self c.pieces.body.items c.feed.new.out.items c.pieces.chunks c.in-Ok.fed i.pieces i.room i.read f.answers c.if-fed.false c.pass.ensures.bytes c.pass.ensures.taken c.pass.ensures.held in
    let k = c.in-Err-take.ensures.cut in
    record { passed = i.passed ++ c.pieces.inbox.bytes; came = i.came; pieces = came_cut d.pieces k; cause = no_piece d.partial k.cause }
