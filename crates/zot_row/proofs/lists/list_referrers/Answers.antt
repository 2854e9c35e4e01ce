use Rattle.std.proofs.Common.{List, Option, ℕ, sym, ap}
use Rattle.zot_model.specs.declared.call.Call.TheVariants as calls
use Rattle.zot_row.proofs.LearnLemmas.{reads_after}
use Rattle.zot_row.specs.declared.stage.Learning.TheVariants as learning
use Rattle.zot_row.proofs.lists.list_referrers.Goals as goal

pub returns-in-Ok-unread : goal.returns-in-Ok-unread
returns-in-Ok-unread c = λ moment.
    reads_after c.args.name.now c.args.repo.now (learning.List c.args.digest.now c.in-Ok.filter) c.unread.new.self (calls.Referrers c.args.digest.now c.args.filter.now) moment c.in-Ok-unread.left.items c.read_next.result c.in-Ok-unread.ensures.list
    c.in-Ok-unread.ensures.stays (ap (λ (filter : Option (List ℕ)). calls.Referrers c.args.digest.now filter) (sym c.in-Ok.ensures)) c.read_next.ensures
