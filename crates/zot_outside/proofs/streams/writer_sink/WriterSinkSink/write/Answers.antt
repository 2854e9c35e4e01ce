use Rattle.std.proofs.Common.{[], OnErr, subst, sym}
use Rattle.zot_outside.proofs.StreamLemmas.{Appends-lost}
use Rattle.zot_outside.specs.Streams.{Appends}
use Rattle.zot_outside.proofs.streams.writer_sink.WriterSinkSink.write.Goals as goal

pub returns-clause-err : goal.returns-clause-err
returns-clause-err g c =
    let before = g.W.Write.contents c.args.self.now.writer in
    subst (λ w. OnErr c.done.result (Appends before [] (g.W.Write.contents w))) (sym c.done.ensures.writer)
    (Appends-lost before (g.W.Write.contents c.write-written.new.self) c.args.piece.now c.write-written.result c.done.result c.write-written.ensures.bytes c.done.ensures.lost)
