use Rattle.zot_commands.proofs.WordLemmas.{are_verify}
use Rattle.zot_commands.proofs.plain.verify_path.Goals as goal

pub returns-then-eq : goal.returns-then-eq
returns-then-eq c =
    are_verify c.args.words.now c.command-item.result c.path-item.result c.as_str.result.now c.as_str-then-eq.result.now c.eq.result c.in-len2.len_at_least c.in-len2.len_below
    c.command-item.is c.path-item.is c.as_str.ensures.value c.as_str-then-eq.ensures.value c.eq.ensures c.if-eq.true
