use Rattle.std.proofs.Common.{◌≢◌, rules, All, subst, sym}
use Rattle.zot_folder.proofs.FolderLemmas.{child_found, name_without_slash}
use Rattle.zot_folder.proofs.entries.path_of.Goals as goal

pub returns-in_ok-marked-in-Some-clause-child : goal.returns-in_ok-marked-in-Some-clause-child
returns-in_ok-marked-in-Some-clause-child g c =
    let name = c.file_name-name.result.now in
    let plain : All (λ b. b ≢ 47) name = subst (λ n. All (λ b. b ≢ 47) n) (sym c.file_name-name.ensures) (name_without_slash c.args.entry.now) in
    child_found c.args.folder.now name c.in_ok-marked-in-Some.field-0 plain (search rules) c.in_ok-marked-in-Some.ensures.entry
