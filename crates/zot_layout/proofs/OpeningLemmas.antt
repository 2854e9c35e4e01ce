-- The repositories of a row, of a store that may tell its objects.
use Rattle.std.proofs.Common.{◌≡◌, ℕ, List, [], ◌∷◌, ◌++◌, length, Option, Some, None, IfSome, Vec, Global, Result, Ok, Err, append-nil, refl, sym, ap, subst, ◌∙◌}
use Rattle.std.specs.Prelude.{IfOk}
use Rattle.std.specs.Result.{IsErrAnd}
use Rattle.std.proofs.lemmas.Result.{err_from_is_err_and}
use Rattle.zot_outside.specs.Objects.{Objects}
use Rattle.zot_layout.specs.Causes.{Answers, SaysNothing, items_in}
use Rattle.zot_layout.specs.Rows.{AreMarked, Opened, OpensRow, before, layout_of, opened}
use Rattle.zot_layout.specs.Stands.{StandsFor, repo_among}
use Rattle.zot_layout.specs.declared.index_state.IndexState.{IndexState}
use Rattle.zot_layout.specs.declared.layout_error.LayoutError.{LayoutError}
use Rattle.zot_layout.specs.declared.layout_error.LayoutError.TheVariants as errors
use Rattle.zot_layout.proofs.CauseLemmas.{nothing_said}
use Rattle.zot_layout.proofs.RowLemmas.{after, none_left, one_bad, one_known, one_unknown}
use Rattle.zot_layout.proofs.StandsLemmas.{opening_stands}

error_items : {A : Type 0} (result : Result (Vec A Global) LayoutError) (error : LayoutError) → IsErrAnd result (λ e. e ≡ error) → Err error ≡ items_in result
error_items result error is = let p = err_from_is_err_and result is in ap Err (sym p.2) ∙ sym (ap items_in p.1)

none_left_in : {X : Type 0} (left : List X) → 0 ≡ length left → left ≡ []
none_left_in [] h = refl
none_left_in (next ∷ left) h = cc h

-- an iterator that has nothing left
pub none_in : {X : Type 0} (left : List X) (n : ℕ) → n ≡ length left → n ≡ 0 → left ≡ []
none_in left n long none = none_left_in left (sym none ∙ long)

-- ---- repositories, one after another

module _ (objects : Option Objects) (moment : ℕ) (all : List (List ℕ)) where
  abbrev pub Left : List Opened → List (List ℕ) → Type 0
  Left done names = IfSome objects (λ told. opened told moment all ≡ after done (opened told moment names))

  abbrev Gives : Result (List Opened) LayoutError → Type 0
  Gives held = IfSome objects (λ told. Answers held (opened told moment all))

  pub left_first : (done : List Opened) → done ≡ [] → Left done all
  left_first done none = by objects where
    start : (held : Result (List Opened) LayoutError) → held ≡ after [] held
    start (Ok repos) = refl
    start (Err error) = refl

    by : (o : Option Objects) → IfSome o (λ told. opened told moment all ≡ after done (opened told moment all))
    by None = tt
    by (Some told) = start (opened told moment all) ∙ ap (λ d. after d (opened told moment all)) (sym none)

  pub left_more : (done new : List Opened) (name : List ℕ) (names : List (List ℕ)) (found : Option IndexState) (now : Option Objects) → now ≡ objects → new ≡ done ++ before name found []
      → IfSome now (λ told. Answers (Ok found) (layout_of told name moment)) → Left done (name ∷ names) → Left new names
  left_more done new name names found now kept put said left = by objects found put (subst (λ o. IfSome o (λ told. Answers (Ok found) (layout_of told name moment))) kept said) left where
    by : (o : Option Objects) (f : Option IndexState) → new ≡ done ++ before name f [] → IfSome o (λ told. Answers (Ok f) (layout_of told name moment))
        → IfSome o (λ told. opened told moment all ≡ after done (opened told moment (name ∷ names))) → IfSome o (λ told. opened told moment all ≡ after new (opened told moment names))
    by None f put h k = tt
    by (Some told) None put h k =
        one_unknown told moment (opened told moment all) done name names h k ∙ ap (λ d. after d (opened told moment names)) (sym (put ∙ append-nil done))
    by (Some told) (Some index) put h k =
        one_known told moment (opened told moment all) done name names index h k ∙ ap (λ d. after d (opened told moment names)) (sym put)

  pub left_bad : (done : List Opened) (name : List ℕ) (names : List (List ℕ)) (error : LayoutError) (result : Result (Vec Opened Global) LayoutError) (now : Option Objects) → now ≡ objects → IsErrAnd result (λ e. e ≡ error)
      → IfSome now (λ told. Answers {A = Option IndexState} (Err error) (layout_of told name moment)) → Left done (name ∷ names) → Gives (items_in result)
  left_bad done name names error result now kept is said left =
      by objects (subst (λ o. IfSome o (λ told. Answers {A = Option IndexState} (Err error) (layout_of told name moment))) kept said) left where
        by : (o : Option Objects) → IfSome o (λ told. Answers {A = Option IndexState} (Err error) (layout_of told name moment))
            → IfSome o (λ told. opened told moment all ≡ after done (opened told moment (name ∷ names))) → IfSome o (λ told. Answers (items_in result) (opened told moment all))
        by None h k = tt
        by (Some told) h k = subst (λ held. Answers held (opened told moment all)) (error_items result error is) (one_bad told moment (opened told moment all) done name names error h k)

  pub left_unsaid : (error : LayoutError) (result : Result (Vec Opened Global) LayoutError) → IsErrAnd result (λ e. e ≡ error) → SaysNothing error → Gives (items_in result)
  left_unsaid error result is h = by objects where
    by : (o : Option Objects) → IfSome o (λ told. Answers (items_in result) (opened told moment all))
    by None = tt
    by (Some told) = subst (λ held. Answers held (opened told moment all)) (error_items result error is) (nothing_said error (opened told moment all) h)

  pub left_none : (done : List Opened) → Left done [] → Gives (Ok done)
  left_none done left = by objects left where
    by : (o : Option Objects) → IfSome o (λ told. opened told moment all ≡ after done (opened told moment [])) → IfSome o (λ told. Answers (Ok done) (opened told moment all))
    by None h = tt
    by (Some told) h = none_left told moment (opened told moment all) done h

-- ---- the row

module _ (objects : Option Objects) (IsOwn : List ℕ → Type 0) (moment : ℕ) where
  abbrev Opens : Result (List Opened) LayoutError → Type 0
  Opens held = IfSome objects (λ told. OpensRow told IsOwn moment held)

  pub row_opened : (names : List (List ℕ)) (held : Result (List Opened) LayoutError) (now : Option Objects) → now ≡ objects → IfSome objects (λ told. AreMarked told IsOwn names)
      → IfSome now (λ told. Answers held (opened told moment names)) → Opens held
  row_opened names held now kept marked said = by objects held marked (subst (λ o. IfSome o (λ told. Answers held (opened told moment names))) kept said) where
    by : (o : Option Objects) (r : Result (List Opened) LayoutError) → IfSome o (λ told. AreMarked told IsOwn names) → IfSome o (λ told. Answers r (opened told moment names)) → IfSome o (λ told. OpensRow told IsOwn moment r)
    by None r m h = tt
    by (Some told) (Ok repos) m h = (names, m, h)
    by (Some told) (Err (errors.BadIndex path text)) m h = (names, m, h)
    by (Some told) (Err (errors.BadMeta path text)) m h = (names, m, h)
    by (Some told) (Err errors.Failed) m h = tt
    by (Some told) (Err errors.NoMemory) m h = tt

  unsaid : (told : Objects) (error : LayoutError) → SaysNothing error → OpensRow told IsOwn moment (Err error)
  unsaid told (errors.BadIndex path text) h = absurd h
  unsaid told (errors.BadMeta path text) h = absurd h
  unsaid told errors.Failed h = tt
  unsaid told errors.NoMemory h = tt

  pub row_unsaid : (error : LayoutError) (result : Result (Vec Opened Global) LayoutError) → IsErrAnd result (λ e. e ≡ error) → SaysNothing error → Opens (items_in result)
  row_unsaid error result is h = by objects where
    by : (o : Option Objects) → IfSome o (λ told. OpensRow told IsOwn moment (items_in result))
    by None = tt
    by (Some told) = subst (OpensRow told IsOwn moment) (error_items result error is) (unsaid told error h)

  -- what was opened is what the objects stand for
  pub row_stands : (result : Result (Vec Opened Global) LayoutError) → Opens (items_in result)
      → IfSome objects (λ told. IfOk result (λ repos. (name : List ℕ) → IsOwn name → StandsFor told moment name (repo_among repos.items name)))
  row_stands result opens = by objects result opens where
    by : (o : Option Objects) (r : Result (Vec Opened Global) LayoutError) → IfSome o (λ told. OpensRow told IsOwn moment (items_in r))
        → IfSome o (λ told. IfOk r (λ repos. (name : List ℕ) → IsOwn name → StandsFor told moment name (repo_among repos.items name)))
    by None r h = tt
    by (Some told) (Ok repos) h = λ name own. opening_stands told moment name IsOwn repos.items h own
    by (Some told) (Err error) h = tt
