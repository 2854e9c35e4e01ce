use Rattle.std.proofs.Common.{◌≡◌, Ok, Err, refl, sym, subst}
use Rattle.zot_route.specs.Stops.{Gives}
use Rattle.zot_route.specs.declared.stop.Stop.TheVariants as stops
use Rattle.zot_route.proofs.message.routed.Goals as goal

pub returns-in-Ok : goal.returns-in-Ok
returns-in-Ok c = (Ok c.in-Ok.call, subst (λ a. Gives a (Ok c.in-Ok.call)) (sym c.in-Ok.is) refl, refl)

pub returns-in-Err-Refused : goal.returns-in-Err-Refused
returns-in-Err-Refused c =
    let e : c.args.call ≡ Err (stops.Refused c.in-Err-Refused.reply) = cc in
    (Err c.in-Err-Refused.reply, subst (λ a. Gives a (Err c.in-Err-Refused.reply)) (sym e) refl, refl)
