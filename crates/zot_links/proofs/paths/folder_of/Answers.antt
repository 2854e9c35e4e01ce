use Rattle.std.proofs.Common.{◌++◌, ◌∙◌, ap}
use Rattle.std.specs.Prelude.{codes}
use Rattle.zot_links.proofs.paths.folder_of.Goals as goal

pub returns : goal.returns
returns c = c.in_ok-push_str.ensures.bytes ∙ ap (λ t. t ++ codes "/blobs/sha256/") (c.in_ok-folder.ensures.ok ∙ c.as_str.ensures.value)
