use Rattle.zot_links.proofs.AimLemmas.{attained, set_by_aim}
use Rattle.zot_links.proofs.PartLemmas.{ok_so}
use Rattle.zot_links.proofs.attaching.attach.Goals as goal

pub returns-clause-ok : goal.returns-clause-ok
returns-clause-ok g c =
    ok_so c.carry_out.result _ _ (set_by_aim (g.S.Store.objects c.args.part.now) (g.S.Store.objects c.choose.new.part) (g.S.Store.objects c.carry_out.new.part) c.args.dedupe c.args.digest.now c.args.links.now
    c.carry_out.new.links c.args.name.now c.args.bytes.now c.in_ok-aim.aim c.in_ok-aim.ensures.kept c.in_ok-aim.ensures.ok) c.carry_out.ensures.ok

pub returns-clause-form : goal.returns-clause-form
returns-clause-form g c =
    ok_so c.carry_out.result _ _ (attained (g.S.Store.objects c.args.part.now) c.args.dedupe c.args.digest.now c.args.links.now c.carry_out.new.links c.args.name.now c.args.bytes.now c.in_ok-aim.aim
    c.in_ok-aim.ensures.ok) c.carry_out.ensures.attains
