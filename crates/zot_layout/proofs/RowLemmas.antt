-- What the layouts of a row hold, put together repository by repository.
use Rattle.std.proofs.Common.{◌≡◌, ℕ, Bool, true, false, List, [], ◌∷◌, ◌++◌, Option, Some, None, Result, Ok, Err, append-nil, append_assoc, refl, sym, ap, subst, ◌∙◌}
use Rattle.std.specs.Prelude.{if◌then◌else◌}
use Rattle.std.specs.FinMap as finite
use Rattle.zot_outside.specs.Objects.{Objects}
use Rattle.zot_layout.specs.Causes.{Answers}
use Rattle.zot_layout.specs.Marker.{is_marker, marker_meaning}
use Rattle.zot_layout.specs.Paths.{index_path, marker_path}
use Rattle.zot_layout.specs.Reading.{IsJust, IsWhy, meaning}
use Rattle.zot_layout.specs.Rows.{Opened, empty_index, index_by, known_by, layout_by, layout_of, opened, with_first}
use Rattle.zot_layout.specs.declared.index_state.IndexState.{IndexState}
use Rattle.zot_layout.specs.declared.layout_error.LayoutError.{LayoutError}
use Rattle.zot_layout.specs.declared.layout_error.LayoutError.TheVariants as errors

-- ---- one repository

module _ (objects : Objects) (name : List ℕ) (moment : ℕ) where
  -- without a marker it isn't known
  pub without_marker : finite.get objects (marker_path name) ≡ None → layout_of objects name moment ≡ Ok None
  without_marker is = ap (λ o. layout_by name moment o (finite.get objects (index_path name))) is

  module _ (marker : List ℕ) (is : finite.get objects (marker_path name) ≡ Some marker) where
    abbrev By : Bool → Result (Option IndexState) LayoutError
    By b = if b then known_by (index_by name moment (finite.get objects (index_path name))) else Err (errors.BadIndex (marker_path name) marker)

    by_marker : layout_of objects name moment ≡ By (is_marker marker)
    by_marker = ap (λ o. layout_by name moment o (finite.get objects (index_path name))) is

    -- a marker that is none
    pub bad_marker : (path : List ℕ) (error : LayoutError) → path ≡ marker_path name → IsWhy error (marker_meaning path marker) → Answers {A = Option IndexState} (Err error) (layout_of objects name moment)
    bad_marker path error same why = subst (Answers {A = Option IndexState} (Err error)) (sym by_marker)
        (by (is_marker marker) error (subst (λ p. IsWhy error (marker_meaning p marker)) same why)) where
          by : (b : Bool) (e : LayoutError) → IsWhy e (if b then Ok (tt {0}) else Err (errors.BadIndex (marker_path name) marker)) → Answers {A = Option IndexState} (Err e) (By b)
          by true (errors.BadIndex p t) h = cc h
          by true (errors.BadMeta p t) h = cc h
          by true errors.Failed h = tt
          by true errors.NoMemory h = tt
          by false (errors.BadIndex p t) h = cc h
          by false (errors.BadMeta p t) h = cc h
          by false errors.Failed h = tt
          by false errors.NoMemory h = tt

    by_index : (path : List ℕ) → marker_meaning path marker ≡ Ok (tt {0}) → layout_of objects name moment ≡ known_by (index_by name moment (finite.get objects (index_path name)))
    by_index path good = by_marker ∙ by (is_marker marker) good where
      by : (b : Bool) → (if b then Ok (tt {0}) else Err (errors.BadIndex path marker)) ≡ Ok (tt {0}) → By b ≡ known_by (index_by name moment (finite.get objects (index_path name)))
      by true h = refl
      by false h = cc h

    -- a marker, and an index that has a meaning, or none
    pub good_index : (path : List ℕ) (index : IndexState) → marker_meaning path marker ≡ Ok (tt {0}) → index_by name moment (finite.get objects (index_path name)) ≡ Ok index → layout_of objects name moment ≡ Ok (Some index)
    good_index path index good said = by_index path good ∙ ap known_by said

    pub bad_index : (path : List ℕ) (error : LayoutError) → marker_meaning path marker ≡ Ok (tt {0}) → Answers {A = IndexState} (Err error) (index_by name moment (finite.get objects (index_path name)))
        → Answers {A = Option IndexState} (Err error) (layout_of objects name moment)
    bad_index path (errors.BadIndex p t) good said = by_index path good ∙ ap known_by said
    bad_index path (errors.BadMeta p t) good said = by_index path good ∙ ap known_by said
    bad_index path errors.Failed good said = tt
    bad_index path errors.NoMemory good said = tt

  -- an index that is there, under its path
  pub read_index : (path bytes : List ℕ) (result : Result IndexState LayoutError) → path ≡ index_path name → finite.get objects path ≡ Some bytes → IsJust result (meaning path bytes moment)
      → Answers result (index_by name moment (finite.get objects (index_path name)))
  read_index path bytes (Ok index) same there just = ap (λ p. index_by name moment (finite.get objects p)) (sym same) ∙ ap (index_by name moment) there ∙ ap (λ p. meaning p bytes moment) (sym same) ∙ just
  read_index path bytes (Err (errors.BadIndex p t)) same there just = ap (λ q. index_by name moment (finite.get objects q)) (sym same) ∙ ap (index_by name moment) there ∙ ap (λ q. meaning q bytes moment) (sym same) ∙ just
  read_index path bytes (Err (errors.BadMeta p t)) same there just = ap (λ q. index_by name moment (finite.get objects q)) (sym same) ∙ ap (index_by name moment) there ∙ ap (λ q. meaning q bytes moment) (sym same) ∙ just
  read_index path bytes (Err errors.Failed) same there just = tt
  read_index path bytes (Err errors.NoMemory) same there just = tt

  -- a missing index is empty
  pub missing_index : (path : List ℕ) (index : IndexState) → path ≡ index_path name → finite.get objects path ≡ None → index ≡ empty_index → index_by name moment (finite.get objects (index_path name)) ≡ Ok index
  missing_index path index same there is = ap (λ p. index_by name moment (finite.get objects p)) (sym same) ∙ ap (index_by name moment) there ∙ ap Ok (sym is)

-- ---- repositories, one after another

-- those that were opened, before those that are left
abbrev pub after : List Opened → Result (List Opened) LayoutError → Result (List Opened) LayoutError
after done (Ok others) = Ok (done ++ others)
after done (Err error) = Err error

module _ (objects : Objects) (moment : ℕ) (all : Result (List Opened) LayoutError) (done : List Opened) where
  -- one more is known
  pub one_known : (name : List ℕ) (names : List (List ℕ)) (index : IndexState) → layout_of objects name moment ≡ Ok (Some index) → all ≡ after done (opened objects moment (name ∷ names))
      → all ≡ after (done ++ (name, index) ∷ []) (opened objects moment names)
  one_known name names index is h = h ∙ ap (λ r. after done (with_first name r (opened objects moment names))) is ∙ by (opened objects moment names) where
    by : (others : Result (List Opened) LayoutError) → after done (with_first name (Ok (Some index)) others) ≡ after (done ++ (name, index) ∷ []) others
    by (Ok others) = ap Ok (sym (append_assoc done ((name, index) ∷ []) others))
    by (Err error) = refl

  -- or isn't
  pub one_unknown : (name : List ℕ) (names : List (List ℕ)) → layout_of objects name moment ≡ Ok None → all ≡ after done (opened objects moment (name ∷ names)) → all ≡ after done (opened objects moment names)
  one_unknown name names is h = h ∙ ap (λ r. after done (with_first name r (opened objects moment names))) is ∙ by (opened objects moment names) where
    by : (others : Result (List Opened) LayoutError) → after done (with_first name (Ok None) others) ≡ after done others
    by (Ok others) = refl
    by (Err error) = refl

  -- or has no meaning
  pub one_bad : (name : List ℕ) (names : List (List ℕ)) (error : LayoutError) → Answers {A = Option IndexState} (Err error) (layout_of objects name moment) → all ≡ after done (opened objects moment (name ∷ names))
      → Answers {A = List Opened} (Err error) all
  one_bad name names (errors.BadIndex p t) is h = h ∙ ap (λ r. after done (with_first name r (opened objects moment names))) is
  one_bad name names (errors.BadMeta p t) is h = h ∙ ap (λ r. after done (with_first name r (opened objects moment names))) is
  one_bad name names errors.Failed is h = tt
  one_bad name names errors.NoMemory is h = tt

  pub none_left : all ≡ after done (opened objects moment []) → all ≡ Ok done
  none_left h = h ∙ ap Ok (append-nil done)
