use Rattle.std.proofs.Common.{take}
use Rattle.zot_folder.proofs.CopyLemmas.{moved_on}
use Rattle.zot_folder.proofs.files.copy_by.Goals as goal

pub loop-preserved : goal.loop-preserved
loop-preserved g c =
    let left = g.S.Read.remaining in
    let held = g.W.Write.contents in
    moved_on (left c.args.source.now) (held c.args.sink.now) (left c.loop.source) (held c.loop.sink) (left c.fill.new.source) (held c.write_all.new.self) (take c.in_ok-n.n c.fill.new.buf) c.loop.invariant c.in_ok-n.ensures.taken c.in_ok-write_all.ensures.bytes
