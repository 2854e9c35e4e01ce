-- The state that a row's part stands for, and what a write at one path leaves of it.
use Rattle.std.proofs.Common.{◌≡◌, ◌≢◌, ℕ, zero, suc, Bool, true, false, List, [], ◌∷◌, map, Contains, Option, Some, None, Result, Ok, Err, is_some, refl, sym, ap, subst, ◌∙◌, arith, ◌⊎◌, inl, inr}
use Rattle.std.specs.Prelude.{if◌then◌else◌}
use Rattle.std.specs.FinMap as finite
use Rattle.std.specs.Str.{bytes_eq}
use Rattle.std.proofs.lemmas.Bool.{true≢false}
use Rattle.std.proofs.lemmas.List.{append_cancel_right}
use Rattle.std.proofs.lemmas.Slice.Eq.{bytes_eq-Decides}
use Rattle.zot_digest.specs.ByteMap.{map_of}
use Rattle.zot_model.specs.State.{Becomes, RepoState, RowState, fresh, repo_at}
use Rattle.zot_model.specs.Uploads.{no_uploads}
use Rattle.zot_outside.specs.Objects.{ChangesAt, Objects}
use Rattle.zot_layout.specs.Marker.{is_marker}
use Rattle.zot_layout.specs.Paths.{IsPathOf, index_end, index_path, marker_end, marker_path}
use Rattle.zot_layout.specs.Reading.{meaning}
use Rattle.zot_layout.specs.Rows.{Opened, OpensRow, index_by, known_by, layout_by, layout_of, opened, with_first, with_others}
use Rattle.zot_layout.specs.Stands.{AreAlike, StandsFor, StandsForRow, opened_manifest, opened_repo, opened_tag, repo_among, repo_of}
use Rattle.zot_layout.specs.State.{as_written}
use Rattle.zot_layout.specs.declared.index_state.IndexState.{IndexState}
use Rattle.zot_layout.specs.declared.layout_error.LayoutError.{LayoutError}
use Rattle.zot_layout.specs.declared.layout_error.LayoutError.TheVariants.{BadIndex}
use Rattle.zot_layout.proofs.BackLemmas.{map_twice}
use Rattle.zot_layout.proofs.RowLemmas.{without_marker}
use Rattle.zot_layout.proofs.WalkLemmas.{one_marker}

-- a repository is alike to itself
pub alike : (repo : RepoState) → AreAlike repo repo
alike repo = record { known = refl; manifests = refl; tags = λ tag. refl }

-- ---- what is opened

stands_by : (objects : Objects) (moment : ℕ) (name : List ℕ) (found : Option IndexState) (repo : RepoState) → layout_of objects name moment ≡ Ok found → repo ≡ repo_of found → StandsFor objects moment name repo
stands_by objects moment name found repo is same = record { found = found; holds = is; alike = subst (AreAlike (repo_of found)) (sym same) (alike (repo_of found)) }

module _ (objects : Objects) (moment : ℕ) (name : List ℕ) where
  abbrev Layout : Type 0
  Layout = Result (Option IndexState) LayoutError

  same_name : (other : List ℕ) → bytes_eq other name ≡ true → other ≡ name
  same_name other is = (bytes_eq-Decides other name).0 is

  -- one more name, before others whose repositories were opened
  abbrev Others : List (List ℕ) → List Opened → Type 0
  Others names others = opened objects moment names ≡ Ok others

  -- what holds of a name that was opened: it had no marker, or stands first
  opened_by : (P : List Opened → Type 0) (n : List ℕ) (names : List (List ℕ)) (repos : List Opened)
      → (layout_of objects n moment ≡ Ok None → Others names repos → P repos)
      → ((index : IndexState) (others : List Opened) → layout_of objects n moment ≡ Ok (Some index) → Others names others → P ((n, index) ∷ others))
      → Others (n ∷ names) repos → P repos
  opened_by P n names repos none some h = first (layout_of objects n moment) refl h where
    rest : (found : Option IndexState) → layout_of objects n moment ≡ Ok found → (others : Result (List Opened) LayoutError) → opened objects moment names ≡ others → with_others n found others ≡ Ok repos → P repos
    rest None at (Ok others) was e = none at (was ∙ e)
    rest (Some index) at (Ok others) was e = let all : (n, index) ∷ others ≡ repos = cc e in subst P all (some index others at was)
    rest found at (Err error) was e = cc e

    first : (layout : Layout) → layout_of objects n moment ≡ layout → with_first n layout (opened objects moment names) ≡ Ok repos → P repos
    first (Ok found) at e = rest found at (opened objects moment names) refl e
    first (Err error) at e = cc e

  abbrev by_name : Bool → IndexState → List Opened → RepoState
  by_name b index others = if b then opened_repo index else repo_among others name

  -- a repository that isn't known is not among those that were opened
  not_among : layout_of objects name moment ≡ Ok None → (names : List (List ℕ)) (repos : List Opened) → Others names repos → repo_among repos name ≡ fresh
  not_among is [] repos h = let none : [] ≡ repos = cc h in ap (λ rs. repo_among rs name) (sym none)
  not_among is (n ∷ names) repos h =
      opened_by (λ rs. repo_among rs name ≡ fresh) n names repos (λ at was. not_among is names repos was)
      (λ index others at was. apart (bytes_eq n name) refl index others at (not_among is names others was)) h where
        apart : (b : Bool) → bytes_eq n name ≡ b → (index : IndexState) (others : List Opened) → layout_of objects n moment ≡ Ok (Some index) → repo_among others name ≡ fresh → by_name b index others ≡ fresh
        apart true tied index others at rest = cc (sym (ap (λ m. layout_of objects m moment) (sym (same_name n tied)) ∙ at) ∙ is)
        apart false tied index others at rest = rest

  -- one that has a marker is
  abbrev Among : List Opened → Type 0
  Among repos = (found : Option IndexState) × (layout_of objects name moment ≡ Ok found) × (repo_among repos name ≡ repo_of found)

  abbrev IsIn : List (List ℕ) → Type 0
  IsIn [] = ⊥
  IsIn (n ∷ names) = (n ≡ name) ⊎ IsIn names

  found_at : (names : List (List ℕ)) → Contains names name → IsIn names
  found_at [] there = absurd (omega (arith, there.1))
  found_at (n ∷ names) (zero, within, is) = inl is
  found_at (n ∷ names) (suc k, within, is) = inr (found_at names (k, omega (arith, within), is))

  later : (n : List ℕ) (names : List (List ℕ)) → bytes_eq n name ≡ false → IsIn (n ∷ names) → IsIn names
  later n names apart (inl is) = absurd (true≢false (sym ((bytes_eq-Decides n name).1 is) ∙ apart))
  later n names apart (inr rest) = rest

  -- the name is the first one
  here : (n : List ℕ) (names : List (List ℕ)) (repos : List Opened) → bytes_eq n name ≡ true → Others (n ∷ names) repos → Among repos
  here n names repos tied h =
      let same : layout_of objects name moment ≡ layout_of objects n moment = ap (λ m. layout_of objects m moment) (sym (same_name n tied)) in
      opened_by Among n names repos (λ at was. (None, same ∙ at, not_among (same ∙ at) names repos was))
      (λ index others at was. (Some index, same ∙ at, ap (λ b. by_name b index others) tied)) h

  -- or a later one
  further : (n : List ℕ) (names : List (List ℕ)) (repos : List Opened) → bytes_eq n name ≡ false → ((others : List Opened) → Others names others → Among others) → Others (n ∷ names) repos → Among repos
  further n names repos apart rest h =
      opened_by Among n names repos (λ at was. rest repos was)
      (λ index others at was. let found = rest others was in (found.0, found.1, ap (λ b. by_name b index others) apart ∙ found.2)) h

  among : (names : List (List ℕ)) (repos : List Opened) → IsIn names → Others names repos → Among repos
  among [] repos there h = absurd there
  among (n ∷ names) repos there h = split (bytes_eq n name) refl (λ apart others was. among names others (later n names apart there) was) where
    split : (b : Bool) → bytes_eq n name ≡ b → (bytes_eq n name ≡ false → (others : List Opened) → Others names others → Among others) → Among repos
    split true tied rest = here n names repos tied h
    split false apart rest = further n names repos apart (rest apart) h

  -- what was opened is what the objects stand for
  pub opening_stands : (IsOwn : List ℕ → Type 0) (repos : List Opened) → OpensRow objects IsOwn moment (Ok repos) → IsOwn name → StandsFor objects moment name (repo_among repos name)
  opening_stands IsOwn repos (names, marked, said) own = split (finite.get objects (marker_path name)) refl where
    split : (marker : Option (List ℕ)) → finite.get objects (marker_path name) ≡ marker → StandsFor objects moment name (repo_among repos name)
    split None is =
        let unknown = without_marker objects name moment is in
        stands_by objects moment name None (repo_among repos name) unknown (not_among unknown names repos said)
    split (Some marker) is =
        let known = among names repos (found_at names (marked.all name own (ap is_some is))) said in
        stands_by objects moment name known.0 (repo_among repos name) known.1 known.2

-- ---- what a write at one path leaves

pub same_layout : (old new : Objects) (name : List ℕ) (moment : ℕ) → finite.get new (marker_path name) ≡ finite.get old (marker_path name) → finite.get new (index_path name) ≡ finite.get old (index_path name)
    → layout_of new name moment ≡ layout_of old name moment
same_layout old new name moment marker index = ap (λ o. layout_by name moment o (finite.get new (index_path name))) marker ∙ ap (layout_by name moment (finite.get old (marker_path name))) index

-- a change at another path leaves what the objects stand for
pub stands_still : (old new : Objects) (path : List ℕ) (object : Option (List ℕ)) (moment : ℕ) (name : List ℕ) (repo : RepoState) → ChangesAt old path object new → path ≢ marker_path name → path ≢ index_path name
    → StandsFor old moment name repo → StandsFor new moment name repo
stands_still old new path object moment name repo changes marker index h = record {
  found = h.found;
  holds = same_layout old new name moment (changes.others (marker_path name) (λ is. marker (sym is))) (changes.others (index_path name) (λ is. index (sym is))) ∙ h.holds;
  alike = h.alike;
}

-- the last byte of a text, or another one where it is empty
abbrev last_or : ℕ → List ℕ → ℕ
last_or d [] = d
last_or d (c ∷ cs) = last_or c cs

marker_last : (d : ℕ) (name : List ℕ) → last_or d (marker_path name) ≡ 116
unfolding marker_end
marker_last d [] = refl
marker_last d (c ∷ cs) = marker_last c cs

index_last : (d : ℕ) (name : List ℕ) → last_or d (index_path name) ≡ 110
unfolding index_end
index_last d [] = refl
index_last d (c ∷ cs) = index_last c cs

-- no marker's path is an index's
pub apart_paths : (name other : List ℕ) → marker_path name ≢ index_path other
apart_paths name other same = omega (arith, sym (marker_last 0 name) ∙ ap (last_or 0) same ∙ index_last 0 other)

pub one_index : (name other : List ℕ) → index_path name ≡ index_path other → name ≡ other
one_index name other same = append_cancel_right name other index_end same

-- a marker that is put makes a repository known with what its index says
pub marker_put : (old new : Objects) (moment : ℕ) (name marker : List ℕ) (index : IndexState) → ChangesAt old (marker_path name) (Some marker) new → is_marker marker ≡ true
    → index_by name moment (finite.get old (index_path name)) ≡ Ok index → StandsFor new moment name (opened_repo index)
marker_put old new moment name marker index changes is said = stands_by new moment name (Some index) (opened_repo index)
    (ap (λ o. layout_by name moment o (finite.get new (index_path name))) changes.here ∙ ap (λ b. if b then known_by (index_by name moment (finite.get new (index_path name))) else Err (BadIndex (marker_path name) marker)) is
    ∙ ap (λ o. known_by (index_by name moment o)) (changes.others (index_path name) (λ same. apart_paths name name (sym same))) ∙ ap known_by said) refl

-- an index that is put is what a known repository has
pub index_put : (old new : Objects) (moment : ℕ) (name marker text : List ℕ) (index : IndexState) → ChangesAt old (index_path name) (Some text) new → finite.get old (marker_path name) ≡ Some marker → is_marker marker ≡ true
    → meaning (index_path name) text moment ≡ Ok index → StandsFor new moment name (opened_repo index)
index_put old new moment name marker text index changes known is said = stands_by new moment name (Some index) (opened_repo index)
    (ap (λ o. layout_by name moment o (finite.get new (index_path name))) (changes.others (marker_path name) (apart_paths name name) ∙ known)
    ∙ ap (λ b. if b then known_by (index_by name moment (finite.get new (index_path name))) else Err (BadIndex (marker_path name) marker)) is
    ∙ ap (λ o. known_by (index_by name moment o)) changes.here ∙ ap known_by said) refl

-- a repository whose marker goes is a fresh one
pub marker_gone : (old new : Objects) (moment : ℕ) (name : List ℕ) → ChangesAt old (marker_path name) None new → StandsFor new moment name fresh
marker_gone old new moment name changes = stands_by new moment name None fresh (without_marker new name moment changes.here) refl

-- ---- the row

-- what isn't stored changes nothing
pub stands_alike : (objects : Objects) (moment : ℕ) (name : List ℕ) (repo other : RepoState) → StandsFor objects moment name repo → AreAlike repo other → StandsFor objects moment name other
stands_alike objects moment name repo other h same = record {
  found = h.found;
  holds = h.holds;
  alike = record { known = same.known ∙ h.alike.known; manifests = same.manifests ∙ h.alike.manifests; tags = λ tag. same.tags tag ∙ h.alike.tags tag };
}

-- a path of one repository is none of another
other_path : (name other path : List ℕ) → IsPathOf name path → (name ≡ other → ⊥) → (path ≢ marker_path other) × (path ≢ index_path other)
other_path name other path (inl is) apart = (λ same. apart (one_marker name other (sym is ∙ same)), λ same. apart_paths name other (sym is ∙ same))
other_path name other path (inr is) apart = (λ same. apart_paths other name (sym same ∙ is), λ same. apart (one_index name other (sym is ∙ same)))

-- a write at a path of one repository changes what the objects stand for of that one
pub row_written : (old new : Objects) (moment : ℕ) (IsOwn : List ℕ → Type 0) (row after : RowState) (name path : List ℕ) (object : Option (List ℕ)) (repo : RepoState) → IsPathOf name path → ChangesAt old path object new
    → Becomes row name repo after → StandsFor new moment name repo → StandsForRow old moment IsOwn row → StandsForRow new moment IsOwn after
row_written old new moment IsOwn row after name path object repo of changes becomes here all other own = split (bytes_eq other name) refl where
  split : (b : Bool) → bytes_eq other name ≡ b → StandsFor new moment other (repo_at after other)
  split true tied =
      let same : other ≡ name = (bytes_eq-Decides other name).0 tied in
      subst (λ n. StandsFor new moment n (repo_at after n)) (sym same) (subst (StandsFor new moment name) (sym becomes.here) here)
  split false tied =
      let apart : other ≡ name → ⊥ = λ same. true≢false (sym ((bytes_eq-Decides other name).1 same) ∙ tied) in
      let far = other_path name other path of (λ same. apart (sym same)) in
      subst (StandsFor new moment other) (sym (becomes.others other apart)) (stands_still old new path object moment other (repo_at row other) changes far.0 far.1 (all other own))

-- sizes aren't part of the state
pub without_sizes : (index : IndexState) → opened_repo (as_written index) ≡ opened_repo index
without_sizes index = ap (λ ms. record { known = true; blobs = finite.empty; manifests = map_of ms; tags = map_of (map opened_tag index.tags); sessions = no_uploads })
    (map_twice _ opened_manifest opened_manifest (λ manifest. refl) index.manifests)
