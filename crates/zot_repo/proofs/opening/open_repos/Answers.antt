use Rattle.zot_repo.proofs.OpenLemmas.{indexes_opened}
use Rattle.zot_repo.specs.RowGoing.{IsOwn}
use Rattle.zot_repo.proofs.opening.open_repos.Goals as goal

pub repos_of-requires : goal.repos_of-requires
repos_of-requires g c = indexes_opened (IsOwn c.args.config.now c.args.row) c.in-Ok.opened.items c.in-Ok.ensures.indexes
