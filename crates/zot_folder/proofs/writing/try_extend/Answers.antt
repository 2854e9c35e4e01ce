use Rattle.std.proofs.Common.{MatchOption, None, subst}
use Rattle.zot_folder.proofs.WritingLemmas.{extend_done, extend_failed}
use Rattle.zot_folder.specs.Trees.{Grows, Tears}
use Rattle.zot_folder.proofs.writing.try_extend.Goals as goal

pub returns-then-is_err-clause-err : goal.returns-then-is_err-clause-err
returns-then-is_err-clause-err g c =
    let files = g.T.Tree.files in
    extend_failed c.extend-extended.result (files c.args.tree.now) (files c.extend-extended.new.self) (files c.restore.new.tree) c.args.path.now c.in_ok-before.before c.in_ok-before.ensures.size
    (subst (λ t. Rattle.std.proofs.Common.OnErr c.extend-extended.result (Tears t c.args.path.now (files c.extend-extended.new.self))) c.in_ok-before.ensures.kept c.extend-extended.ensures.err)
    c.restore.ensures

pub returns-else-is_err-clause-ok : goal.returns-else-is_err-clause-ok
returns-else-is_err-clause-ok g c =
    let files = g.T.Tree.files in
    extend_done c.extend-extended.result (files c.args.tree.now) (files c.extend-extended.new.self) c.args.path.now c.args.bytes.now c.in_ok-before.ensures.named
    (subst (λ t. Rattle.std.proofs.Common.OnOk c.extend-extended.result (Grows t c.args.path.now c.args.bytes.now (files c.extend-extended.new.self))) c.in_ok-before.ensures.kept c.extend-extended.ensures.ok)
