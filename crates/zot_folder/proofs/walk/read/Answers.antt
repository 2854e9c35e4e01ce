use Rattle.zot_folder.proofs.NextLemmas.{read_walk}
use Rattle.zot_folder.proofs.walk.read.Goals as goal

pub returns-in_err-add-clause-walk : goal.returns-in_err-add-clause-walk
returns-in_err-add-clause-walk g c =
    let read = c.in_ok-listing.ensures in
    read_walk (g.T.Tree.files c.args.tree.now) c.args.walk.now c.add.new.self c.args.folder.now c.in_ok-listing.listing read.folder read.paths read.lists c.add.ensures.walk

pub returns-clause-walk : goal.returns-clause-walk
returns-clause-walk g c =
    let read = c.in_ok-listing.ensures in
    read_walk (g.T.Tree.files c.args.tree.now) c.args.walk.now c.add.new.self c.args.folder.now c.in_ok-listing.listing read.folder read.paths read.lists c.add.ensures.walk
