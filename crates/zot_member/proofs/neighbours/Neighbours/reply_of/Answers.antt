use Rattle.std.proofs.Common.{true, subst}
use Rattle.zot_spell.specs.Wire.{with_hop}
use Rattle.zot_member.proofs.AskLemmas.{handed}
use Rattle.zot_member.specs.Neighbours.{GivesAt}
use Rattle.zot_member.specs.declared.place.Place.{Place}
use Rattle.zot_member.proofs.neighbours.Neighbours.reply_of.Goals as goal

pub returns-clause-hands_on : goal.returns-clause-hands_on
returns-clause-hands_on g c =
    let asks = c.ask_owner.ensures.asks in
    let old = c.args.self.now.rows.now in
    let new = c.ask_owner.new.peers.rows.now in
    let told = g.T.Clock.moment c.args.clock.now in
    handed old new told c.args.request.now c.ask_owner.result asks.result
    (subst (λ (p : Place). GivesAt p old told (with_hop c.args.request.now true) asks.result new) c.requires.own asks.gives.0) asks.reply_is
