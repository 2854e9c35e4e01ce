use Rattle.std.proofs.Common.{string_bytes}
use Rattle.zot_folder.proofs.FolderLemmas.{All-added}
use Rattle.zot_folder.specs.Listing.{IsChild}
use Rattle.zot_folder.proofs.entries.add_entry.Goals as goal

pub returns-in_ok-add-in-Ok : goal.returns-in_ok-add-in-Ok
returns-in_ok-add-in-Ok g c =
    All-added (λ path. IsChild c.args.folder.now (string_bytes path)) c.args.paths.now.items c.add.new.paths.items c.in_ok-path_of-in-Ok.field-0 c.in_ok-add-in-Ok.ensures.none c.in_ok-add-in-Ok.ensures.some
    c.in_ok-path_of-in-Ok.ensures.child
