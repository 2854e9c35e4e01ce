use Rattle.std.proofs.Common.{is_some, ap, ◌∙◌}
use Rattle.regex.specs.Patterns.{find_str}
use Rattle.regex.specs.Strings.{matcher_pattern}
use Rattle.zot_retention.proofs.pattern.is_found.Goals as goal

pub returns-else-mark-clause-found : goal.returns-else-mark-clause-found
returns-else-mark-clause-found c = λ pattern alike.
    rw c.if-mark.false
    (c.is_match.ensures.found
    ∙ ap (λ tag. is_some (find_str (matcher_pattern c.args.matcher.now) tag 0)) c.as_str.ensures.value
    ∙ alike c.args.tag.now c.as_str.ensures.tag)
