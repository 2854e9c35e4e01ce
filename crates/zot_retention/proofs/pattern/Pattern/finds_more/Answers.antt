use Rattle.std.proofs.Common.{is_some, ap, ◌∙◌}
use Rattle.regex.specs.Patterns.{find_str}
use Rattle.zot_retention.specs.Patterns.{finds}
use Rattle.zot_retention.proofs.PatternLemmas.{bytes_of_tag, finds_as_written}
use Rattle.zot_retention.proofs.pattern.Pattern.finds_more.Goals as goal

pub returns : goal.returns
returns c = λ test. c.found_more.ensures c.args.self.now test (λ tag is_tag.
    ap (λ re. is_some (find_str re tag 0)) c.in_ok-matcher.ensures.pattern
    ∙ finds_as_written c.self.inside.regex c.self.invariant.0 c.self.invariant.1 tag (bytes_of_tag tag is_tag)
    ∙ ap (λ text. finds text tag) c.self.view_is)
