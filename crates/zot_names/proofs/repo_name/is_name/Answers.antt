use Rattle.std.proofs.Common.{ap, ◌∙◌, []}
use Rattle.zot_names.specs.Name.{components_of}
use Rattle.zot_names.specs.Reading.{may_all_follow}
use Rattle.zot_names.proofs.NameLemmas.{name_test}
use Rattle.zot_names.proofs.repo_name.is_name.Goals as goal

pub returns-then-text-le-LIMIT : goal.returns-then-text-le-LIMIT
returns-then-text-le-LIMIT c =
    name_test c.args.text.now c.are_components.result c.if-text-le-LIMIT.true
    (c.are_components.ensures ∙ ap (λ t. may_all_follow [] (components_of t)) c.as_bytes.ensures.value)
