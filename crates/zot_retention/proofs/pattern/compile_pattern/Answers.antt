use Rattle.std.proofs.Common.{subst}
use Rattle.zot_retention.specs.Patterns.{IsPattern}
use Rattle.zot_retention.proofs.PatternLemmas.{is_pattern}
use Rattle.zot_retention.proofs.pattern.compile_pattern.Goals as goal

pub returns-in-Ok-clause-read : goal.returns-in-Ok-clause-read
returns-in-Ok-clause-read c =
    subst (λ text. IsPattern text) c.in-Ok.ensures.source (is_pattern c.in-Ok.regex c.in-Ok.ensures.config c.in-Ok.ensures.read)
