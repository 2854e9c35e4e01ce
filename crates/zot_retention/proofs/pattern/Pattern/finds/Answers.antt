use Rattle.std.proofs.Common.{is_some, ap, ◌∙◌}
use Rattle.regex.specs.Patterns.{find_str}
use Rattle.zot_retention.specs.Patterns.{finds}
use Rattle.zot_retention.proofs.PatternLemmas.{finds_as_written}
use Rattle.zot_retention.proofs.pattern.Pattern.finds.Goals as goal

pub returns : goal.returns
returns c =
    let tag = c.args.tag.now in
    c.is_match.ensures.found
    ∙ ap (λ re. is_some (find_str re tag 0)) c.in_ok-matcher.ensures.pattern
    ∙ finds_as_written c.self.inside.regex c.self.invariant.0 c.self.invariant.1 tag (λ k. (c.type_inv.tag k).fits)
    ∙ ap (λ text. finds text tag) c.self.view_is
