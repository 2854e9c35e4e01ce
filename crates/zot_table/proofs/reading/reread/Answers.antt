use Rattle.std.proofs.Common.{None}
use Rattle.zot_table.proofs.SubjectLemmas.{subjects_after}
use Rattle.zot_table.proofs.reading.reread.Goals as goal

pub returns-clause-lists : goal.returns-clause-lists
returns-clause-lists c = λ all.
    subjects_after c.put.result c.args.manifests.now c.put.new.self c.args.subjects.now.index.sets c.add.new.self.index.sets c.args.digest.now None c.in-Some.kept.now.media c.in-Some.kept.now.arrived c.in_ok-reading.reading
    c.put.ensures.ok c.put.ensures.err c.in_ok-add.ensures.ok all
