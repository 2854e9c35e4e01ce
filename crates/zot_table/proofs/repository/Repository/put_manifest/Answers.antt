use Rattle.std.proofs.Common.{subst}
use Rattle.zot_table.proofs.PutLemmas.{kept_put, put_is}
use Rattle.zot_table.specs.Putting.{WasPut}
use Rattle.zot_table.specs.Tables.{RepoTable}
use Rattle.zot_table.proofs.repository.Repository.put_manifest.Goals as goal

pub invariant_of-self-2 : goal.invariant_of-self-2
invariant_of-self-2 c =
    kept_put _ _ _ _ _ c.self.invariant c.mark.new.self c.place.new.self c.add.new.self.index.sets c.args.moment c.args.checked.digest c.args.checked.tag c.args.checked.media c.args.checked.reading
    c.in_ok-replaced.ensures.ok c.mark.ensures c.in_ok-add.ensures.ok

pub returns-clause-put : goal.returns-clause-put
returns-clause-put c =
    let now : RepoTable = record { known = c.self.inside.known; slots = c.mark.new.self; table = c.place.new.self; sessions = c.self.inside.sessions } in
    subst (λ (r : RepoTable). WasPut (record { replaced = c.in_ok-replaced.replaced; unread = c.is_unread-unread.result }) r now) c.self.view_is (record {
      moment = c.args.moment;
      checked = c.args.checked;
      is = put_is c.self.inside.known c.self.inside.blobs c.mark.new.self c.self.inside.manifests c.place.new.self c.self.inside.sessions c.args.moment c.args.checked c.in_ok-replaced.ensures.ok c.mark.ensures;
      replaces = c.in_ok-replaced.ensures.replaced;
      unread = c.is_unread-unread.ensures;
      tagged = c.self.invariant.tagged;
    })
