use Rattle.zot_folder.proofs.StoreLemmas.{goes_on, copy_others}
use Rattle.zot_folder.specs.Trees.{objects_of}
use Rattle.zot_folder.proofs.folder_store.FolderStoreStore.copy.Goals as goal

pub invariant_of-self : goal.invariant_of-self
invariant_of-self g c =
    let self = c.args.self.now in
    let call = c.copy_object-copied in
    let before = objects_of (g.T.Tree.files self.tree) in
    let after = objects_of (g.T.Tree.files call.new.tree) in
    record { walked = goes_on before after c.args.to.now self.walk c.note.new.self c.note.ensures (copy_others call.result before after c.args.from.now c.args.to.now call.ensures.copied call.ensures.err) self.walked }
