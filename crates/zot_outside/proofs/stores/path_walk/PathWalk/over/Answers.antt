use Rattle.std.proofs.Common.{string_bytes}
use Rattle.zot_outside.proofs.WalkLemmas.{room_at_first}
use Rattle.zot_outside.proofs.stores.path_walk.PathWalk.over.Goals as goal

pub returns-clause-room : goal.returns-clause-room
returns-clause-room g c = room_at_first (g.S.Store.objects c.args._store.now) (string_bytes c.new.result) (g.met.S.Store.limited c.args._store.now)
