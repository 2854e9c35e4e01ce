use Rattle.std.proofs.Common.{sym, subst, ap, ◌∙◌}
use Rattle.zot_model.specs.Refusals.{refusal}
use Rattle.zot_model.specs.Uploads.{is_full}
use Rattle.zot_model.specs.declared.code.Code.TheVariants.{TooManyRequests}
use Rattle.zot_model.specs.declared.reply.Reply.{Reply}
use Rattle.zot_row.proofs.MountLemmas.{mount_full, mount_opens}
use Rattle.zot_row.specs.Going.{KeepsOthers, KeepsStanding, Opens, TakesBack}
use Rattle.zot_table.specs.Tables.{RepoTable}
use Rattle.zot_row.proofs.mounting.begin_after.Goals as goal

pub returns-then-is_full : goal.returns-then-is_full
returns-then-is_full g c = λ table digest is.
    let objects = g.S.Store.objects in
    let faults = g.S.Store.faults in
    let name = c.args.name.now in
    let before = faults c.args.part.now in
    let after = faults c.take_back.new.part in
    mount_full c.args.moment name table digest c.args.made (objects c.args.part.now) (objects c.take_back.new.part) before after c.take_back.result c.take_back.new.repo
    (ap (λ (t : RepoTable). is_full t.sessions) (sym is) ∙ sym c.if-is_full.ensures)
    (subst (λ (t : RepoTable). TakesBack c.args.made (refusal TooManyRequests) t before c.take_back.result c.take_back.new.repo after) is
    (subst (λ (r : Reply). TakesBack c.args.made r c.args.repo.now before c.take_back.result c.take_back.new.repo after) c.too_many_requests.ensures c.take_back.ensures.takes))
    (subst (λ (t : RepoTable). KeepsStanding (objects c.args.part.now) name t (objects c.take_back.new.part) c.take_back.new.repo) is c.take_back.ensures.stands)
    (subst (λ (t : RepoTable). KeepsOthers (objects c.args.part.now) name t (objects c.take_back.new.part)) is c.take_back.ensures.beside)

pub returns : goal.returns
returns g c = λ table digest is.
    mount_opens c.args.moment c.args.name.now table digest c.args.made c.begin_known.result c.begin_known.new.repo
    (subst (λ (t : RepoTable). Opens c.args.moment t c.begin_known.result c.begin_known.new.repo) is c.begin_known.ensures) (g.S.Store.objects c.args.part.now) (g.S.Store.faults c.args.part.now)
