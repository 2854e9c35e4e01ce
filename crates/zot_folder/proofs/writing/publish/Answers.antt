use Rattle.zot_folder.proofs.WritingLemmas.{publish_done, publish_failed}
use Rattle.zot_folder.proofs.writing.publish.Goals as goal

pub returns-then-is_err-clause-err : goal.returns-then-is_err-clause-err
returns-then-is_err-clause-err g c =
    let files = g.T.Tree.files in
    publish_failed c.publish-published.result (files c.args.tree.now) (files c.publish-published.new.self) (files c.discard.new.self) c.args.from.now c.requires.hidden c.publish-published.ensures.err c.discard.ensures

pub returns-else-is_err-clause-ok : goal.returns-else-is_err-clause-ok
returns-else-is_err-clause-ok g c =
    let files = g.T.Tree.files in
    publish_done c.publish-published.result (files c.args.tree.now) (files c.publish-published.new.self) c.args.from.now c.args.path.now c.requires.hidden c.requires.named c.publish-published.ensures.ok
