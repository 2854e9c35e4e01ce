-- What the objects hold of a row's repositories after a write of one of them.
use Rattle.std.proofs.Common.{◌≡◌, ◌≢◌, ℕ, Bool, true, false, List, Option, Some, None, IsSomeAnd, Result, Ok, Err, codes, refl, sym, ap, subst, ◌∙◌}
use Rattle.std.specs.Prelude.{if◌then◌else◌}
use Rattle.std.specs.FinMap as finite
use Rattle.std.specs.Str.{bytes_eq}
use Rattle.std.proofs.lemmas.Slice.Eq.{bytes_eq-Decides}
use Rattle.std.proofs.lemmas.Bool.{true≢false}
use Rattle.serde_json.proofs.OnLiterals.{serde_json_on_literals}
use Rattle.json.proofs.Printed.Utf8.{IsUtf8-are_ascii}
use Rattle.serde_json.specs.Data.{Data, no_members, object, put, string}
use Rattle.zot_media.specs.Fields.{◌>>=◌, document, text_of}
use Rattle.zot_media.specs.Manifest.{is_text}
use Rattle.zot_media.proofs.FieldLemmas.{document_some}
use Rattle.zot_model.specs.State.{Becomes, RepoState, RowState, fresh, repo_at}
use Rattle.zot_outside.specs.Objects.{ChangesAt, Objects, Puts, Told}
use Rattle.zot_layout.specs.Marker.{is_marker, marker_text}
use Rattle.zot_layout.specs.Paths.{index_path, marker_path}
use Rattle.zot_layout.specs.Reading.{meaning}
use Rattle.zot_layout.specs.Rows.{index_by, known_by, layout_by, layout_of}
use Rattle.zot_layout.specs.Stands.{AreAlike, StandsFor, StandsForRow, opened_repo, repo_of}
use Rattle.zot_layout.specs.State.{as_written}
use Rattle.zot_layout.specs.Writing.{IsKnown, IsUnknown, KeepsElsewhere, KeepsLayouts, PutsIndex, SetsLayout, StandsWhereTold}
use Rattle.zot_layout.specs.declared.index_state.IndexState.{IndexState}
use Rattle.zot_layout.specs.declared.layout_error.LayoutError.{LayoutError}
use Rattle.zot_layout.specs.declared.layout_error.LayoutError.TheVariants.{BadIndex}
use Rattle.zot_layout.proofs.RowLemmas.{without_marker}
use Rattle.zot_layout.proofs.StandsLemmas.{apart_paths, one_index, same_layout, stands_alike, without_sizes}
use Rattle.zot_layout.proofs.ToldLemmas.{told_kept, told_on, told_put, told_so, told_then}
use Rattle.zot_layout.proofs.WalkLemmas.{one_marker}

-- ---- the marker that is written

abbrev marker_value : Data
marker_value = object (put (codes "imageLayoutVersion") (string (codes "1.0.0")) no_members)

marker_document : document marker_text ≡ Some marker_value
unfolding marker_text serde_json_on_literals
marker_document = document_some marker_text marker_value (IsUtf8-are_ascii marker_text refl) refl

marker_version : is_text (codes "1.0.0") (text_of (codes "imageLayoutVersion") marker_value) ≡ true
unfolding text_of
marker_version = refl

-- it is one
pub own_marker : is_marker marker_text ≡ true
unfolding is_marker
own_marker = subst (λ found. is_text (codes "1.0.0") (found >>= text_of (codes "imageLayoutVersion")) ≡ true) (sym marker_document) marker_version

-- ---- whether a repository is known

-- a layout with a good marker is what its index says
marked_layout : (objects : Objects) (name marker : List ℕ) (moment : ℕ) → finite.get objects (marker_path name) ≡ Some marker → is_marker marker ≡ true
    → layout_of objects name moment ≡ known_by (index_by name moment (finite.get objects (index_path name)))
marked_layout objects name marker moment there is =
    rw (there, is) refl

known_layout : (objects : Objects) (name : List ℕ) (moment : ℕ) → IsKnown objects name → layout_of objects name moment ≡ known_by (index_by name moment (finite.get objects (index_path name)))
known_layout objects name moment known = split (finite.get objects (marker_path name)) refl known where
  split : (found : Option (List ℕ)) → finite.get objects (marker_path name) ≡ found → IsSomeAnd found (λ marker. is_marker marker ≡ true)
      → layout_of objects name moment ≡ known_by (index_by name moment (finite.get objects (index_path name)))
  split None there is = absurd is
  split (Some marker) there is = marked_layout objects name marker moment there is

-- what is held of a repository says whether it is known
pub known_as_held : (objects : Objects) (name : List ℕ) (moment : ℕ) (index : IndexState) → layout_of objects name moment ≡ Ok (Some index) → IsKnown objects name
known_as_held objects name moment index is = split (finite.get objects (marker_path name)) refl where
  by_marker : (marker : List ℕ) (b : Bool) → is_marker marker ≡ b → (if b then known_by (index_by name moment (finite.get objects (index_path name))) else Err (BadIndex (marker_path name) marker)) ≡ Ok (Some index) → is_marker marker ≡ true
  by_marker marker true good h = good
  by_marker marker false good h = cc h

  split : (found : Option (List ℕ)) → finite.get objects (marker_path name) ≡ found → IsKnown objects name
  split None there = let clash : Ok None ≡ Ok (Some index) = sym (without_marker objects name moment there) ∙ is in cc clash
  split (Some marker) there =
      let good = by_marker marker (is_marker marker) refl (sym (ap (λ found. layout_by name moment found (finite.get objects (index_path name))) there) ∙ is) in
      subst (λ found. IsSomeAnd found (λ marker. is_marker marker ≡ true)) (sym there) good

pub unknown_as_held : (objects : Objects) (name : List ℕ) (moment : ℕ) → layout_of objects name moment ≡ Ok None → IsUnknown objects name
unknown_as_held objects name moment is = split (finite.get objects (marker_path name)) refl where
  never : (marker : List ℕ) (b : Bool) (index : Result IndexState LayoutError) → (if b then known_by index else Err (BadIndex (marker_path name) marker)) ≡ Ok None → ⊥
  never marker true (Ok index) h = cc h
  never marker true (Err error) h = cc h
  never marker false index h = cc h

  split : (found : Option (List ℕ)) → finite.get objects (marker_path name) ≡ found → IsUnknown objects name
  split None there = there
  split (Some marker) there =
      absurd (never marker (is_marker marker) (index_by name moment (finite.get objects (index_path name))) (sym (ap (λ found. layout_by name moment found (finite.get objects (index_path name))) there) ∙ is))

-- so does the repository that the objects stand for
pub stands_known : (objects : Objects) (moment : ℕ) (name : List ℕ) (repo : RepoState) → StandsFor objects moment name repo → repo.known ≡ true → IsKnown objects name
stands_known objects moment name repo stands known = split stands.found stands.holds stands.alike.known where
  split : (found : Option IndexState) → layout_of objects name moment ≡ Ok found → repo.known ≡ (repo_of found).known → IsKnown objects name
  split None is same = absurd (true≢false (sym known ∙ same))
  split (Some index) is same = known_as_held objects name moment index is

pub stands_unknown : (objects : Objects) (moment : ℕ) (name : List ℕ) (repo : RepoState) → StandsFor objects moment name repo → repo.known ≡ false → IsUnknown objects name
stands_unknown objects moment name repo stands unknown = split stands.found stands.holds stands.alike.known where
  split : (found : Option IndexState) → layout_of objects name moment ≡ Ok found → repo.known ≡ (repo_of found).known → IsUnknown objects name
  split None is same = unknown_as_held objects name moment is
  split (Some index) is same = absurd (true≢false (sym same ∙ unknown))

-- ---- a write changes what the objects hold of one repository alone

beside : (old new : Objects) (name : List ℕ) → KeepsElsewhere old name new → (other : List ℕ) → other ≢ name → (moment : ℕ) → layout_of new other moment ≡ layout_of old other moment
beside old new name kept other apart moment =
    same_layout old new other moment (kept (marker_path other) (λ same. apart (one_marker other name same)) (apart_paths other name))
    (kept (index_path other) (λ same. apart_paths name other (sym same)) (λ same. apart (one_index other name same)))

-- an index was put where the marker is there
index_set : (old new : Objects) (name text : List ℕ) (index : IndexState) → ChangesAt old (index_path name) (Some text) new → ((moment : ℕ) → meaning (index_path name) text moment ≡ Ok index) → IsKnown old name → SetsLayout old name (Some index) new
index_set old new name text index changes said known =
    let elsewhere : KeepsElsewhere old name new = λ path marker apart. changes.others path apart in
    let same : finite.get new (marker_path name) ≡ finite.get old (marker_path name) = changes.others (marker_path name) (apart_paths name name) in
    let still : IsKnown new name = subst (λ found. IsSomeAnd found (λ marker. is_marker marker ≡ true)) (sym same) known in
    record {
      here = λ moment. known_layout new name moment still ∙ ap (λ found. known_by (index_by name moment found)) changes.here ∙ ap known_by (said moment);
      beside = beside old new name elsewhere;
      elsewhere = elsewhere;
    }

-- what was known neither before nor after is as it was
still_unknown : (old new : Objects) (name : List ℕ) → IsUnknown old name → IsUnknown new name → KeepsElsewhere old name new → KeepsLayouts old name new
still_unknown old new name was is elsewhere = record { all = λ other moment. split other moment (bytes_eq other name) refl; elsewhere = elsewhere } where
  split : (other : List ℕ) (moment : ℕ) (b : Bool) → bytes_eq other name ≡ b → layout_of new other moment ≡ layout_of old other moment
  split other moment true tied =
      subst (λ n. layout_of new n moment ≡ layout_of old n moment) (sym ((bytes_eq-Decides other name).0 tied)) (without_marker new name moment is ∙ sym (without_marker old name moment was))
  split other moment false tied = beside old new name elsewhere other (λ same. true≢false (sym ((bytes_eq-Decides other name).1 same) ∙ tied)) moment

-- an index was put where no marker is
index_unread : (old new : Objects) (name : List ℕ) (found : Option (List ℕ)) → ChangesAt old (index_path name) found new → IsUnknown old name → KeepsLayouts old name new
index_unread old new name found changes unknown =
    still_unknown old new name unknown (changes.others (marker_path name) (apart_paths name name) ∙ unknown) (λ path marker apart. changes.others path apart)

pub index_put_there : (old new : Objects) (name text : List ℕ) (index : IndexState) → ChangesAt old (index_path name) (Some text) new → ((moment : ℕ) → meaning (index_path name) text moment ≡ Ok index) → PutsIndex old name index new
index_put_there old new name text index changes said = record {
  says = λ moment. ap (index_by name moment) changes.here ∙ said moment;
  others = changes.others;
  known = index_set old new name text index changes said;
  unknown = index_unread old new name (Some text) changes;
}

-- an index was put, and then a marker
pub marked_set : (old mid new : Objects) (name marker : List ℕ) (index : IndexState) → PutsIndex old name index mid → ChangesAt mid (marker_path name) (Some marker) new → is_marker marker ≡ true → SetsLayout old name (Some index) new
marked_set old mid new name marker index first second is =
    let elsewhere : KeepsElsewhere old name new = λ path apart far. second.others path apart ∙ first.others path far in
    let there : finite.get new (index_path name) ≡ finite.get mid (index_path name) = second.others (index_path name) (λ same. apart_paths name name (sym same)) in
    record {
      here = λ moment. marked_layout new name marker moment second.here is ∙ ap (λ found. known_by (index_by name moment found)) there ∙ ap known_by (first.says moment);
      beside = beside old new name elsewhere;
      elsewhere = elsewhere;
    }

-- a marker is gone
pub unmarked : (old new : Objects) (name : List ℕ) → ChangesAt old (marker_path name) None new → SetsLayout old name None new
unmarked old new name changes =
    let elsewhere : KeepsElsewhere old name new = λ path apart index. changes.others path apart in
    record {
      here = λ moment. without_marker new name moment changes.here;
      beside = beside old new name elsewhere;
      elsewhere = elsewhere;
    }

-- ---- the same of a store that may tell its objects

pub index_told : (before after : Option Objects) (name path bytes text : List ℕ) (index : IndexState) → path ≡ index_path name → bytes ≡ text → ((at : List ℕ) (moment : ℕ) → meaning at text moment ≡ Ok index)
    → Puts before path bytes after → Told before after (λ old new. PutsIndex old name index new)
index_told before after name path bytes text index at same said h =
    told_so before after (λ old new. ChangesAt old path (Some bytes) new) (λ old new. PutsIndex old name index new)
    (λ old new k. index_put_there old new name bytes index (subst (λ p. ChangesAt old p (Some bytes) new) at k)
    (λ moment. ap (λ b. meaning (index_path name) b moment) same ∙ said (index_path name) moment)) (told_put before after path bytes h)

pub known_told : (before mid after : Option Objects) (name path bytes : List ℕ) (index : IndexState) → path ≡ marker_path name → bytes ≡ marker_text → Told before mid (λ old new. PutsIndex old name index new)
    → Puts mid path bytes after → Told before after (λ old new. SetsLayout old name (Some index) new)
known_told before mid after name path bytes index at same first h =
    told_then before mid after (λ old x. PutsIndex old name index x) (λ x new. ChangesAt x path (Some bytes) new) (λ old new. SetsLayout old name (Some index) new)
    (λ old x new p k. marked_set old x new name bytes index p (subst (λ q. ChangesAt x q (Some bytes) new) at k) (ap is_marker same ∙ own_marker)) first (told_put mid after path bytes h)

-- a marker that wasn't put leaves a repository unknown, whatever was put as its index
pub unread_told : (before mid after : Option Objects) (name text : List ℕ) → Puts before (index_path name) text mid → after ≡ mid → Told before after (λ old new. IsUnknown old name → KeepsLayouts old name new)
unread_told before mid after name text h kept =
    subst (λ o. Told before o (λ old new. IsUnknown old name → KeepsLayouts old name new)) (sym kept)
    (told_so before mid (λ old new. ChangesAt old (index_path name) (Some text) new) (λ old new. IsUnknown old name → KeepsLayouts old name new)
    (λ old new k. index_unread old new name (Some text) k) (told_put before mid (index_path name) text h))

pub kept_told : (before after : Option Objects) (name : List ℕ) → after ≡ before → Told before after (λ old new. IsUnknown old name → KeepsLayouts old name new)
kept_told before after name kept =
    told_kept before after (λ old new. IsUnknown old name → KeepsLayouts old name new) (λ objects _. record { all = λ _ _. refl; elsewhere = λ _ _ _. refl }) kept

pub unmarked_told : (before after : Option Objects) (name path : List ℕ) → path ≡ marker_path name → Told before after (λ old new. ChangesAt old path None new) → Told before after (λ old new. ChangesAt old (marker_path name) None new)
unmarked_told before after name path at h = subst (λ p. Told before after (λ old new. ChangesAt old p None new)) at h

pub forgotten_told : (before after : Option Objects) (name path : List ℕ) → path ≡ marker_path name → Told before after (λ old new. ChangesAt old path None new)
    → Told before after (λ old new. SetsLayout old name None new)
forgotten_told before after name path at h =
    told_so before after (λ old new. ChangesAt old path None new) (λ old new. SetsLayout old name None new)
    (λ old new k. unmarked old new name (subst (λ p. ChangesAt old p None new) at k)) h

-- ---- writes, one after another

pub set_then : (old mid new : Objects) (name : List ℕ) (first second : Option IndexState) → SetsLayout old name first mid → SetsLayout mid name second new → SetsLayout old name second new
set_then old mid new name first second h k = record {
  here = k.here;
  beside = λ other apart moment. k.beside other apart moment ∙ h.beside other apart moment;
  elsewhere = λ path marker index. k.elsewhere path marker index ∙ h.elsewhere path marker index;
}

pub kept_then_set : (old mid new : Objects) (name : List ℕ) (found : Option IndexState) → KeepsLayouts old name mid → SetsLayout mid name found new → SetsLayout old name found new
kept_then_set old mid new name found h k = record {
  here = k.here;
  beside = λ other apart moment. k.beside other apart moment ∙ h.all other moment;
  elsewhere = λ path marker index. k.elsewhere path marker index ∙ h.elsewhere path marker index;
}

-- what was known for nothing is unknown again
pub known_for_nothing : (old mid new : Objects) (name : List ℕ) (found : Option IndexState) → SetsLayout old name found mid → SetsLayout mid name None new → IsUnknown old name → KeepsLayouts old name new
known_for_nothing old mid new name found h k unknown =
    let both = set_then old mid new name found None h k in
    still_unknown old new name unknown (unknown_as_held new name 0 (both.here 0)) both.elsewhere

-- ---- the row

module _ (old new : Objects) (moment : ℕ) (IsOwn : List ℕ → Type 0) (row : RowState) (name : List ℕ) where
  -- the repository whose layout was set
  pub row_set : (later : RowState) (found : Option IndexState) (repo : RepoState) → AreAlike (repo_of found) repo → Becomes row name repo later → StandsForRow old moment IsOwn row → SetsLayout old name found new → StandsForRow new moment IsOwn later
  row_set later found repo alike becomes all sets other own = split (bytes_eq other name) refl where
    split : (b : Bool) → bytes_eq other name ≡ b → StandsFor new moment other (repo_at later other)
    split true tied =
        subst (λ n. StandsFor new moment n (repo_at later n)) (sym ((bytes_eq-Decides other name).0 tied))
        (subst (StandsFor new moment name) (sym becomes.here) (record { found = found; holds = sets.here moment; alike = alike }))
    split false tied =
        let apart : other ≡ name → ⊥ = λ same. true≢false (sym ((bytes_eq-Decides other name).1 same) ∙ tied) in
        let stood = all other own in
        subst (StandsFor new moment other) (sym (becomes.others other apart)) (record { found = stood.found; holds = sets.beside other apart moment ∙ stood.holds; alike = stood.alike })

  -- with the sizes that are written
  pub row_known : (later : RowState) (index : IndexState) (repo : RepoState) → AreAlike (opened_repo index) repo → Becomes row name repo later → StandsForRow old moment IsOwn row → SetsLayout old name (Some (as_written index)) new
      → StandsForRow new moment IsOwn later
  row_known later index repo alike = row_set later (Some (as_written index)) repo (subst (λ r. AreAlike r repo) (sym (without_sizes index)) alike)

  -- an index was put of a repository that is known
  pub row_put : (later : RowState) (index : IndexState) (repo : RepoState) → IsOwn name → (repo_at row name).known ≡ true → AreAlike (opened_repo index) repo → Becomes row name repo later → StandsForRow old moment IsOwn row
      → PutsIndex old name (as_written index) new → StandsForRow new moment IsOwn later
  row_put later index repo own known alike becomes all puts = row_known later index repo alike becomes all (puts.known (stands_known old moment name (repo_at row name) (all name own) known))

  -- no repository's layout has changed
  pub row_kept : IsOwn name → (repo_at row name).known ≡ false → StandsForRow old moment IsOwn row → (IsUnknown old name → KeepsLayouts old name new) → StandsForRow new moment IsOwn row
  row_kept here unknown all keeps other own =
      let stood = all other own in
      let kept = keeps (stands_unknown old moment name (repo_at row name) (all name here) unknown) in
      record { found = stood.found; holds = kept.all other moment ∙ stood.holds; alike = stood.alike }

-- the repository changes in what isn't stored
pub row_alike : (objects : Objects) (moment : ℕ) (IsOwn : List ℕ → Type 0) (row later : RowState) (name : List ℕ) (repo : RepoState) → AreAlike (repo_at row name) repo → Becomes row name repo later → StandsForRow objects moment IsOwn row
    → StandsForRow objects moment IsOwn later
row_alike objects moment IsOwn row later name repo same becomes all other own = split (bytes_eq other name) refl where
  split : (b : Bool) → bytes_eq other name ≡ b → StandsFor objects moment other (repo_at later other)
  split true tied =
      let here : other ≡ name = (bytes_eq-Decides other name).0 tied in
      subst (λ n. StandsFor objects moment n (repo_at later n)) (sym here)
      (subst (StandsFor objects moment name) (sym becomes.here) (stands_alike objects moment name (repo_at row name) repo (subst (λ n. StandsFor objects moment n (repo_at row n)) here (all other own)) same))
  split false tied =
      subst (StandsFor objects moment other) (sym (becomes.others other (λ same. true≢false (sym ((bytes_eq-Decides other name).1 same) ∙ tied)))) (all other own)

-- ---- the row of a part that may tell its objects

module _ (before after : Option Objects) (moment : ℕ) (IsOwn : List ℕ → Type 0) (row : RowState) (name : List ℕ) where
  abbrev Before : Type 0
  Before = StandsWhereTold before moment IsOwn row

  abbrev After : RowState → Type 0
  After later = StandsWhereTold after moment IsOwn later

  -- what a write makes of the objects makes the row that they stand for
  by_told : (later : RowState) (P : Objects → Objects → Type 0) → ((old new : Objects) → StandsForRow old moment IsOwn row → P old new → StandsForRow new moment IsOwn later) → Told before after P → Before → After later
  by_told later P = told_on before after (λ old. StandsForRow old moment IsOwn row) (λ new. StandsForRow new moment IsOwn later) P

  pub told_put_row : (later : RowState) (index : IndexState) (repo : RepoState) → Told before after (λ old new. PutsIndex old name (as_written index) new) → IsOwn name → (repo_at row name).known ≡ true → AreAlike (opened_repo index) repo
      → Becomes row name repo later → Before → After later
  told_put_row later index repo h own known alike becomes =
      by_told later (λ old new. PutsIndex old name (as_written index) new) (λ old new. row_put old new moment IsOwn row name later index repo own known alike becomes) h

  pub told_same_row : (index : IndexState) → Told before after (λ old new. PutsIndex old name (as_written index) new) → IsOwn name → AreAlike (opened_repo index) (repo_at row name) → Before → After row
  told_same_row index h own alike = told_put_row row index (repo_at row name) h own alike.known alike (record { here = refl; others = λ _ _. refl })

  pub told_known_row : (later : RowState) (index : IndexState) (repo : RepoState) → Told before after (λ old new. SetsLayout old name (Some (as_written index)) new) → AreAlike (opened_repo index) repo → Becomes row name repo later → Before → After later
  told_known_row later index repo h alike becomes =
      by_told later (λ old new. SetsLayout old name (Some (as_written index)) new) (λ old new. row_known old new moment IsOwn row name later index repo alike becomes) h

  pub told_unmarked_row : Told before after (λ old new. IsUnknown old name → KeepsLayouts old name new) → IsOwn name → (repo_at row name).known ≡ false → Before → After row
  told_unmarked_row h own unknown =
      by_told row (λ old new. IsUnknown old name → KeepsLayouts old name new) (λ old new. row_kept old new moment IsOwn row name own unknown) h

  pub told_forgotten_row : (later : RowState) (repo : RepoState) → Told before after (λ old new. SetsLayout old name None new) → AreAlike fresh repo → Becomes row name repo later → Before → After later
  told_forgotten_row later repo h alike becomes =
      by_told later (λ old new. SetsLayout old name None new) (λ old new. row_set old new moment IsOwn row name later None repo alike becomes) h

pub told_alike_row : (objects : Option Objects) (moment : ℕ) (IsOwn : List ℕ → Type 0) (row later : RowState) (name : List ℕ) (repo : RepoState) → AreAlike (repo_at row name) repo → Becomes row name repo later → StandsWhereTold objects moment IsOwn row
    → StandsWhereTold objects moment IsOwn later
told_alike_row None moment IsOwn row later name repo same becomes h = tt
told_alike_row (Some told) moment IsOwn row later name repo same becomes h = row_alike told moment IsOwn row later name repo same becomes h
