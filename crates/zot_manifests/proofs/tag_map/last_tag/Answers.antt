use Rattle.std.proofs.Common.{Some, ap, ◌∙◌}
use Rattle.zot_manifests.proofs.TagLemmas.{last_place}
use Rattle.zot_manifests.proofs.tag_map.last_tag.Goals as goal

pub returns-in_ok-copy-in-Some : goal.returns-in_ok-copy-in-Some
returns-in_ok-copy-in-Some c = ap Some c.in_ok-copy-in-Some.ensures ∙ c.in-Some.ensures.value ∙ last_place c.args.tags.now
