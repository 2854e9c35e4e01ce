use Rattle.std.proofs.Common.{rules, ◌≡◌, ◌∷◌, [], false, MatchOption, subst, sym, ◌∙◌}
use Rattle.std.proofs.lemmas.Bool.Decides.{Decides-eqb}
use Rattle.std.proofs.lemmas.Slice.Eq.{strip_prefix_is}
use Rattle.zot_folder.proofs.ListingLemmas.{below_found}
use Rattle.zot_folder.specs.Listing.{front}
use Rattle.zot_folder.specs.Walks.{is_prefix}
use Rattle.zot_folder.proofs.listing.lies_below.Goals as goal

pub returns-in-Some : goal.returns-in-Some
returns-in-Some c =
    let path = c.args.path.now in
    let folder = c.args.folder.now in
    let found = below_found path folder c.strip_prefix.result (search rules) (strip_prefix_is Decides-eqb path folder c.strip_prefix.result c.strip_prefix.ensures.cases) in
    c.begins_with_slash.ensures
    ∙ sym (subst (λ r. MatchOption r (is_prefix (front folder) path ≡ false) (λ rest. is_prefix (front folder) path ≡ is_prefix (47 ∷ []) rest.now)) c.in-Some.is found)

pub returns-in-None : goal.returns-in-None
returns-in-None c =
    let path = c.args.path.now in
    let folder = c.args.folder.now in
    let found = below_found path folder c.strip_prefix.result (search rules) (strip_prefix_is Decides-eqb path folder c.strip_prefix.result c.strip_prefix.ensures.cases) in
    sym (subst (λ r. MatchOption r (is_prefix (front folder) path ≡ false) (λ rest. is_prefix (front folder) path ≡ is_prefix (47 ∷ []) rest.now)) c.in-None.is found)
