use Rattle.zot_config.proofs.AddressLemmas.{read_as, unread}
use Rattle.zot_config.proofs.address.writes_port.Goals as goal

pub returns-in-Ok : goal.returns-in-Ok
returns-in-Ok c = read_as c.args.digits.now c.parse.result c.in-Ok.number c.parse.ensures.value.0 c.requires c.in-Ok.is

pub returns-in-Err : goal.returns-in-Err
returns-in-Err c = unread c.args.digits.now c.parse.result c.in-Err.field-0 c.parse.ensures.value.0 c.requires c.in-Err.is
