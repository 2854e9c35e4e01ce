use Rattle.zot_folder.proofs.WritingLemmas.{create_failed, created_holds, created_kept}
use Rattle.zot_folder.proofs.writing.create.Goals as goal

pub returns-then-is_err-clause-kept : goal.returns-then-is_err-clause-kept
returns-then-is_err-clause-kept g c =
    let files = g.T.Tree.files in
    create_failed c.create-made.result (files c.args.tree.now) (files c.create-made.new.self) (files c.discard.new.self) c.args.fresh.now c.requires.hidden c.if-is_err.ensures.value c.create-made.ensures.failed c.discard.ensures

pub returns-else-is_err-clause-made : goal.returns-else-is_err-clause-made
returns-else-is_err-clause-made g c =
    let files = g.T.Tree.files in
    created_holds c.create-made.result (files c.args.tree.now) (files c.create-made.new.self) c.args.fresh.now c.args.content c.requires.source c.create-made.ensures.made

pub returns-else-is_err-clause-kept : goal.returns-else-is_err-clause-kept
returns-else-is_err-clause-kept g c =
    let files = g.T.Tree.files in
    created_kept c.create-made.result (files c.args.tree.now) (files c.create-made.new.self) c.args.fresh.now c.args.content c.requires.hidden c.if-is_err.ensures.value c.create-made.ensures.made c.create-made.ensures.taken
