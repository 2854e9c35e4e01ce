use Rattle.zot_folder.proofs.StoreLemmas.{walked_on}
use Rattle.zot_folder.proofs.folder_store.FolderStoreStore.next.Goals as goal

pub invariant_of-self : goal.invariant_of-self
invariant_of-self g c =
    let self = c.args.self.now in
    let call = c.next_file-next in
    record { walked = walked_on (g.T.Tree.files self.tree) (g.T.Tree.files call.new.tree) self.walk call.new.walk call.ensures.kept call.ensures.walk self.walked }
