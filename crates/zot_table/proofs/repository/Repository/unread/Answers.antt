use Rattle.std.proofs.Common.{arith, ap, sym, ◌∙◌}
use Rattle.std.proofs.lemmas.Bool.Decides.{nat_tests}
use Rattle.zot_table.proofs.KeepingLemmas.{kept_slots}
use Rattle.zot_table.proofs.LeavingLemmas.{all_were_read, empty_list, listed_left, none_left}
use Rattle.zot_table.specs.Tables.{RepoTable, unread_in}
use Rattle.zot_table.proofs.repository.Repository.unread.Goals as goal

pub returns-then-self-clause-list : goal.returns-then-self-clause-list
returns-then-self-clause-list c =
    let repo : RepoTable = record { known = c.self.inside.known; slots = c.self.inside.blobs; table = c.self.inside.manifests; sessions = c.self.inside.sessions } in
    c.new.ensures.items ∙ sym (ap unread_in (sym c.self.view_is) ∙ none_left repo (c.self.invariant.read c.if-self.true))

pub invariant_of-self : goal.invariant_of-self
invariant_of-self c =
    let repo : RepoTable = record { known = c.self.inside.known; slots = c.self.inside.blobs; table = c.self.inside.manifests; sessions = c.self.inside.sessions } in
    kept_slots _ _ _ _ _ c.self.invariant c.self.inside.blobs c.is_empty-self-inside.result
    (λ on. all_were_read repo (sym (listed_left repo c.manifests.result.now.entries c.in_ok-list.list.items c.manifests.ensures c.in_ok-list.ensures.ordered c.in_ok-list.ensures.value)
    ∙ empty_list c.in_ok-list.list.items (grind (arith, nat_tests, c.in_ok-list.list.ok, sym c.is_empty-self-inside.ensures ∙ on))))

pub returns-clause-list : goal.returns-clause-list
returns-clause-list c =
    let repo : RepoTable = record { known = c.self.inside.known; slots = c.self.inside.blobs; table = c.self.inside.manifests; sessions = c.self.inside.sessions } in
    listed_left repo c.manifests.result.now.entries c.in_ok-list.list.items c.manifests.ensures c.in_ok-list.ensures.ordered c.in_ok-list.ensures.value ∙ ap unread_in c.self.view_is
