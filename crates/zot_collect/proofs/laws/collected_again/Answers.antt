use Rattle.zot_collect.proofs.LawLemmas.{no_manifests_again, no_tags_again}
use Rattle.zot_collect.proofs.laws.collected_again.Goals as goal

pub returns : goal.returns
returns c = record { tags = no_tags_again; manifests = no_manifests_again }
