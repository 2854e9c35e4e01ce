use Rattle.zot_folder.proofs.StoreLemmas.{goes_on, appended_others}
use Rattle.zot_folder.specs.Trees.{objects_of}
use Rattle.zot_folder.proofs.folder_store.FolderStoreStore.append.Goals as goal

pub invariant_of-self : goal.invariant_of-self
invariant_of-self g c =
    let self = c.args.self.now in
    let call = c.extend_object-extended in
    let before = objects_of (g.T.Tree.files self.tree) in
    let after = objects_of (g.T.Tree.files call.new.tree) in
    record { walked = goes_on before after c.args.path.now self.walk c.note.new.self c.note.ensures (appended_others call.result before after c.args.path.now c.args.bytes.now call.ensures.ok call.ensures.err) self.walked }
