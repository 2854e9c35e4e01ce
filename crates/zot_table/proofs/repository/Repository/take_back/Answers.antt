use Rattle.std.proofs.Common.{sym, subst, ◌∙◌}
use Rattle.zot_table.proofs.PutLemmas.{all_back, kept_back, put_there, table_back}
use Rattle.zot_table.specs.Putting.{WasPut}
use Rattle.zot_table.specs.Tables.{RepoTable}
use Rattle.zot_table.proofs.repository.Repository.take_back.Goals as goal
use Rattle.zot_table.proofs.repository.Repository.take_back.Goals.{then-self, else-self}

pub take_back-requires : goal.take_back-requires
take_back-requires c =
    let repo : RepoTable = record { known = c.self.inside.known; slots = c.self.inside.blobs; table = c.self.inside.manifests; sessions = c.self.inside.sessions } in
    put_there c.args.before c.requires.0 repo (subst (λ (r : RepoTable). WasPut c.args.before c.requires.0 r) (sym c.self.view_is) c.requires.1)

pub invariant_of-self : goal.invariant_of-self
invariant_of-self c =
    let repo : RepoTable = record { known = c.self.inside.known; slots = c.self.inside.blobs; table = c.self.inside.manifests; sessions = c.self.inside.sessions } in
    let was : WasPut c.args.before c.requires.0 repo = subst (λ (r : RepoTable). WasPut c.args.before c.requires.0 r) (sym c.self.view_is) c.requires.1 in
    kept_back _ _ _ _ _ c.self.invariant c.args.before c.requires.0 c.mark.new.self c.take_back.new.self c.list_again-listed.new.subjects.index.sets c.if-self.self
    c.take_back.ensures (c.take_back.ensures ∙ table_back c.args.before c.requires.0 repo was) was.tagged c.list_again-listed.ensures.keeps
    (λ on. elim c.if-self.branch [
      | then-self w ↦ (w.if-self.true, c.list_again-listed.ensures.listed (sym w.self-is ∙ on))
      | else-self w ↦ absurd (cc (on, w.self-is, w.if-self.false))
    ])

pub returns : goal.returns
returns c = λ old was.
    let repo : RepoTable = record { known = c.self.inside.known; slots = c.self.inside.blobs; table = c.self.inside.manifests; sessions = c.self.inside.sessions } in
    all_back c.args.before old repo (subst (λ (r : RepoTable). WasPut c.args.before old r) (sym c.self.view_is) was) c.mark.new.self c.take_back.new.self c.mark.ensures c.take_back.ensures
