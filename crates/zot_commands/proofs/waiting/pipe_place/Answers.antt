use Rattle.std.proofs.Common.{rules, ◌∙◌}
use Rattle.zot_commands.proofs.WordLemmas.{are_pipe_at, no_number, not_three, other_word}
use Rattle.zot_commands.proofs.waiting.pipe_place.Goals as goal
use Rattle.zot_commands.proofs.waiting.pipe_place.Goals.{in_default-via-then-words-lt3, in_default-via-else-words-lt3+else-words-lt4}

pub returns-in-Some : goal.returns-in-Some
returns-in-Some c =
    are_pipe_at c.args.words.now c.command-item.result c.path-item.result c.digits-item.result c.in-len3.len_at_least c.in-len3.len_below c.command-item.is c.path-item.is c.digits-item.is
    c.as_str.result.now c.as_str-in-Some.result.now c.as_bytes.result.now c.eq.result c.in-Some.member c.as_str.ensures.value c.as_str-in-Some.ensures.value (c.as_bytes.ensures.value ∙ c.as_str-then-eq.ensures.value)
    c.eq.ensures c.if-eq.true c.in-Some.ensures

pub returns-in-None : goal.returns-in-None
returns-in-None c =
    no_number c.args.words.now c.command-item.result c.path-item.result c.digits-item.result c.in-len3.len_at_least c.in-len3.len_below c.command-item.is c.path-item.is c.digits-item.is
    c.as_bytes.result.now (c.as_bytes.ensures.value ∙ c.as_str-then-eq.ensures.value) c.in-None.ensures

pub returns-else-eq : goal.returns-else-eq
returns-else-eq c =
    other_word c.args.words.now c.command-item.result c.path-item.result c.digits-item.result c.in-len3.len_at_least c.in-len3.len_below c.command-item.is c.path-item.is c.digits-item.is
    c.as_str.result.now c.eq.result c.as_str.ensures.value c.eq.ensures c.if-eq.false

pub returns-in_default : goal.returns-in_default
returns-in_default c = λ path member. not_three c.args.words.now path member (elim c.in_default.branch [ in_default-via-then-words-lt3 w ↦ search rules | in_default-via-else-words-lt3+else-words-lt4 w ↦ search rules ])
