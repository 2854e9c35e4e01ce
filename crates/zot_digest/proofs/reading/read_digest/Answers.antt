use Rattle.zot_digest.proofs.DigestLemmas.{bad_from_named, read_from_named}
use Rattle.zot_digest.proofs.reading.read_digest.Goals as goal

pub returns-clause-read : goal.returns-clause-read
returns-clause-read c = read_from_named c.read_named.result c.args.text.now c.read_named.ensures

pub returns-clause-bad : goal.returns-clause-bad
returns-clause-bad c = bad_from_named c.read_named.result c.args.text.now c.read_named.ensures
