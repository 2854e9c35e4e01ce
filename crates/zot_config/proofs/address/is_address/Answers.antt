use Rattle.std.proofs.Common.{◌&&◌, ap, ◌∙◌, sym}
use Rattle.zot_config.specs.Address.{is_port}
use Rattle.zot_config.proofs.AddressLemmas.{at_colon, no_colon}
use Rattle.zot_config.proofs.address.is_address.Goals as goal

pub returns-in_default : goal.returns-in_default
returns-in_default c = no_colon c.args.text.now c.split_once.result c.split_once.ensures.cases c.in_default.is

pub returns-then-is_host : goal.returns-then-is_host
returns-then-is_host c =
    let whole = at_colon c.args.text.now c.split_once.result c.in-Some.parts c.split_once.ensures.cases c.in-Some.is in
    c.is_port.ensures ∙ ap (λ b. b && is_port c.in-Some.parts.1.now) (sym c.if-is_host.true ∙ c.is_host.ensures) ∙ whole

pub returns-else-is_host : goal.returns-else-is_host
returns-else-is_host c =
    let whole = at_colon c.args.text.now c.split_once.result c.in-Some.parts c.split_once.ensures.cases c.in-Some.is in
    c.if-is_host.false ∙ ap (λ b. b && is_port c.in-Some.parts.1.now) (sym c.if-is_host.false ∙ c.is_host.ensures) ∙ whole
