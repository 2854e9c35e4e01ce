use Rattle.std.proofs.Common.{sym, ◌∙◌}
use Rattle.std.proofs.lemmas.Bool.{true≢false}
use Rattle.zot_fakes.proofs.OwnerLemmas.{folder_by}
use Rattle.zot_fakes.proofs.owners.is_folder_of_digests.Goals as goal

pub returns-else-is_folder_of_cluster : goal.returns-else-is_folder_of_cluster
returns-else-is_folder_of_cluster c =
    folder_by c.name_before.result c.args.folder.now c.is_some.result c.is_some.ensures
    (λ h. true≢false (sym (c.is_folder_of_cluster.ensures.1 h) ∙ c.if-is_folder_of_cluster.false)) c.name_before.ensures
