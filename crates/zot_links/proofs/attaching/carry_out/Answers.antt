use Rattle.zot_links.proofs.AimLemmas.{carried_link, carried_whole}
use Rattle.zot_links.proofs.PartLemmas.{ok_so}
use Rattle.zot_links.proofs.attaching.carry_out.Goals as goal

pub returns-in-Whole-clause-ok : goal.returns-in-Whole-clause-ok
returns-in-Whole-clause-ok g c =
    ok_so c.hold_bytes.result _ _ (carried_whole (g.S.Store.objects c.args.part.now) (g.S.Store.objects c.hold_bytes.new.part) c.args.digest.now c.args.links.now c.hold_bytes.new.links c.args.name.now c.args.bytes.now
    c.args.aim.now c.in-Whole.is c.requires.stands) c.hold_bytes.ensures.ok

pub returns-in-Link-clause-ok : goal.returns-in-Link-clause-ok
returns-in-Link-clause-ok g c =
    ok_so c.hold_link.result _ _ (carried_link (g.S.Store.objects c.args.part.now) (g.S.Store.objects c.hold_link.new.part) c.args.digest.now c.args.links.now c.hold_link.new.links c.args.name.now c.args.bytes.now
    c.in-Link.origin c.args.aim.now c.in-Link.is c.requires.stands) c.hold_link.ensures.ok
