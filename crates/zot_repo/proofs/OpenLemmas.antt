-- What a row's tables are when it is opened: those of what its part holds, with the blobs that are held for it.
use Rattle.std.proofs.Common.{◌≡◌, ◌≢◌, ℕ, List, [], ◌∷◌, Option, Some, None, IfSome, is_some, unwrap_or, Result, Ok, Err, refl, sym, ap, subst, ◌∙◌}
use Rattle.std.specs.Prelude.{IsSome, OnOk}
use Rattle.std.specs.FinMap as finite
use Rattle.std.specs.FinMap.{get-empty}
use Rattle.std.specs.List.{AllByRecursion}
use Rattle.std.proofs.lemmas.Bool.{true≢false}
use Rattle.std.proofs.lemmas.List.Elements.{All-head, All-tail}
use Rattle.zot_contents.specs.Pool.{Holders}
use Rattle.zot_contents.specs.declared.holding.Holding.{Holding}
use Rattle.zot_digest.specs.ByteMap.{byte_cmp}
use Rattle.zot_digest.specs.Digest.{IsDigest}
use Rattle.zot_layout.proofs.BackLemmas.{all_of}
use Rattle.zot_layout.specs.Rows.{AreIndexes, Opened, OpensRow, layout_of}
use Rattle.zot_layout.specs.Stands.{AreAlike, StandsFor, repo_among, repo_of as layout_repo}
use Rattle.zot_layout.specs.State.{IsIndex}
use Rattle.zot_layout.specs.declared.index_state.IndexState.{IndexState}
use Rattle.zot_maps.proofs.Maps.{byte_order, get_elsewhere, get_here, same_by_key}
use Rattle.zot_model.specs.State.{repo_at}
use Rattle.zot_outside.specs.Objects.{Objects}
use Rattle.zot_table.proofs.EntryLemmas.{at_each}
use Rattle.zot_table.proofs.FoundLemmas.{agrees_found, alike_found, found_first, opened_found}
use Rattle.zot_table.specs.Opening.{HasFound, IsOpenedWith, opened_by, opened_table, with_found}
use Rattle.zot_table.specs.Tables.{RepoTable, entry_at, filled, fresh_table}
use Rattle.zot_repo.proofs.RowLemmas.{names_own, repo_is, set_table}
use Rattle.zot_repo.specs.Opening.{AreAllOf, AreOpened, AreOwn, IsOpenedRow, with_holding, with_holdings, with_opened}
use Rattle.zot_repo.specs.RowGoing.{StandsForTables}
use Rattle.zot_repo.specs.Rows.{AgreesRow, NoneFresh, SetsTable, Tables, none_held, state_of, table_at, under}
use Rattle.zot_repo.proofs.HeldLemmas.{all_found, sizes_after, sizes_fit}
use Rattle.zot_repo.proofs.OpenedLemmas.{after_all, index_after, says_after, table_opened}

-- ---- names

module _ (Own : List ℕ → Type 0) where
  abbrev OwnNames : Tables → Type 0
  OwnNames tables = (name : List ℕ) → IsSome (finite.get tables name) → Own name

  put_own : (tables : Tables) (name : List ℕ) (table : RepoTable) → Own name → OwnNames tables → OwnNames (finite.insert tables name table)
  put_own tables name table own all = names_own tables name table (finite.insert tables name table) (set_table tables name table) Own own all

  opened_own : (tables : Tables) (os : List Opened) → AreIndexes Own os → OwnNames tables → OwnNames (with_opened tables os)
  opened_own tables [] are all = all
  opened_own tables (o ∷ others) are all = opened_own (finite.insert tables o.0 (opened_table o.1)) others are.1 (put_own tables o.0 (opened_table o.1) are.0.0 all)

  holdings_own : (moment : ℕ) (tables : Tables) (hs : List Holding) → AreOwn Own hs → OwnNames tables → OwnNames (with_holdings moment tables hs)
  holdings_own moment tables [] own all = all
  holdings_own moment tables (h ∷ others) own all =
      holdings_own moment (with_holding moment tables h) others (All-tail (λ (x : Holding). Own x.name × IsDigest x.digest) h others own)
      (put_own tables h.name (with_found moment (table_at tables h.name) h.digest h.size) (All-head (λ (x : Holding). Own x.name × IsDigest x.digest) h others own).0 all)

  none_own : OwnNames finite.empty
  none_own name is = absurd (true≢false (sym is ∙ ap is_some (get-empty byte_cmp name)))

-- ---- none is a fresh one

abbrev AreFilled : Tables → Type 0
AreFilled tables = (name : List ℕ) → finite.get tables name ≢ Some fresh_table

none_filled : AreFilled finite.empty
none_filled name is = true≢false (sym (ap is_some is) ∙ ap is_some (get-empty byte_cmp name))

put_filled : (tables : Tables) (name : List ℕ) (table : RepoTable) → table ≢ fresh_table → AreFilled tables → AreFilled (finite.insert tables name table)
put_filled tables name table other all =
    at_each (λ q. finite.get (finite.insert tables name table) q ≢ Some fresh_table) name
    (λ is. other (ap (λ (o : Option RepoTable). unwrap_or o table) (sym (get_here byte_order tables name table) ∙ is)))
    (λ q apart is. all q (sym (get_elsewhere byte_order tables name table q apart) ∙ is))

opened_other : (index : IndexState) → opened_table index ≢ fresh_table
opened_other index is = true≢false (ap (λ (t : RepoTable). t.known) is)

found_other : (moment : ℕ) (table : RepoTable) (digest : List ℕ) (size : ℕ) → with_found moment table digest size ≢ fresh_table
found_other moment table digest size is =
    true≢false (sym (ap (λ o. is_some (filled o)) (get_here byte_order table.slots digest _)) ∙ ap (λ (t : RepoTable). is_some (entry_at t.slots digest)) is ∙ ap (λ o. is_some (filled o)) (get-empty byte_cmp digest))

opened_filled : (tables : Tables) (os : List Opened) → AreFilled tables → AreFilled (with_opened tables os)
opened_filled tables [] all = all
opened_filled tables (o ∷ others) all = opened_filled (finite.insert tables o.0 (opened_table o.1)) others (put_filled tables o.0 (opened_table o.1) (opened_other o.1) all)

holdings_filled : (moment : ℕ) (tables : Tables) (hs : List Holding) → AreFilled tables → AreFilled (with_holdings moment tables hs)
holdings_filled moment tables [] all = all
holdings_filled moment tables (h ∷ others) all =
    holdings_filled moment (with_holding moment tables h) others
    (put_filled tables h.name (with_found moment (table_at tables h.name) h.digest h.size) (found_other moment (table_at tables h.name) h.digest h.size) all)

-- ---- the code's steps

some_is : (found : Option RepoTable) → IsSome found → found ≡ Some (unwrap_or found fresh_table)
some_is None is = absurd (true≢false (sym is))
some_is (Some table) is = refl

-- a repository was kept, and then a holding was added to it
pub hold_is : {T E : Type 0} (result : Result T E) (old mid new : Tables) (moment : ℕ) (h : Holding) → SetsTable old h.name (table_at old h.name) mid
    → OnOk result (table_at new h.name ≡ with_found moment (table_at mid h.name) h.digest h.size) → SetsTable mid h.name (table_at new h.name) new → IsSome (finite.get new h.name) → OnOk result (new ≡ with_holding moment old h)
hold_is (Ok x) old mid new moment h keeps found sets kept =
    same_by_key byte_order new (with_holding moment old h) h.name
    (some_is (finite.get new h.name) kept ∙ ap Some (found ∙ ap (λ (t : RepoTable). with_found moment t h.digest h.size) keeps.here)
    ∙ sym (get_here byte_order old h.name (with_found moment (table_at old h.name) h.digest h.size)))
    (λ q apart. sets.others q apart ∙ keeps.others q apart ∙ sym (get_elsewhere byte_order old h.name (with_found moment (table_at old h.name) h.digest h.size) q apart))
hold_is (Err error) old mid new moment h keeps found sets kept = tt

-- what was opened is indexes
pub indexes_opened : (Own : List ℕ → Type 0) (os : List Opened) → AreIndexes Own os → AllByRecursion (λ (o : Opened). IsIndex o.1) os
indexes_opened Own os are = all_of (λ (o : Opened). Own o.0 × IsIndex o.1) (λ (o : Opened). IsIndex o.1) (λ o h. h.1) os are

-- ---- the row

module _ (objects : Option Objects) (Own : List ℕ → Type 0) (moment : ℕ) (holdings : List Holding) (tables : Tables) (made : AreOpened objects Own moment holdings tables) where
  index_of : List ℕ → Option IndexState
  index_of name = index_after None made.opened name

  is_index : (name : List ℕ) → IfSome (index_of name) IsIndex
  unfolding index_of
  is_index name =
      after_all name IsIndex made.opened None (all_of (λ (o : Opened). Own o.0 × IsIndex o.1) (λ (o : Opened). o.0 ≡ name → IsIndex o.1) (λ o h same. h.1) made.opened made.indexes) tt

  -- the table of each name is that of its index, with what is listed for it
  found_at : (name : List ℕ) → HasFound moment (opened_by (index_of name)) (sizes_after name (λ _. None) holdings) (table_at tables name)
  unfolding index_of
  found_at name =
      subst (λ (t : Tables). HasFound moment (opened_by (index_after None made.opened name)) (sizes_after name (λ _. None) holdings) (table_at t name)) (sym made.is)
      (all_found moment (opened_by (index_after None made.opened name)) name (with_opened finite.empty made.opened) holdings (λ _. None)
      (subst (HasFound moment (opened_by (index_after None made.opened name)) (λ _. None))
      (sym (table_opened name finite.empty made.opened None (ap (λ o. unwrap_or o fresh_table) (get-empty byte_cmp name))))
      (found_first moment (index_after None made.opened name))))

  pub open_names : NoneFresh None tables
  open_names name is =
      absurd (subst AreFilled (sym made.is) (holdings_filled moment (with_opened finite.empty made.opened) holdings (opened_filled finite.empty made.opened none_filled)) name is)

  says_at : (told : Objects) → OpensRow told Own moment (Ok made.opened) → (name : List ℕ) → StandsFor told moment name (repo_among made.opened name) → layout_of told name moment ≡ Ok (index_of name)
  unfolding index_of
  says_at told opens name stands = says_after told moment Own name made.opened opens stands

  stands_at : (told : Objects) → OpensRow told Own moment (Ok made.opened) → (name : List ℕ) → StandsFor told moment name (repo_among made.opened name) → StandsFor told moment name (repo_at (state_of tables none_held 0) name)
  stands_at told opens name stands = record {
    found = index_of name;
    holds = says_at told opens name stands;
    alike = subst (AreAlike (layout_repo (index_of name))) (sym (repo_is tables none_held 0 name))
        (alike_found moment (index_of name) (is_index name) (sizes_after name (λ _. None) holdings) (table_at tables name) (found_at name) (under none_held name));
  }

  -- the part stands for the tables
  pub open_stands : StandsForTables objects moment Own tables
  open_stands = by objects made.opens made.stands where
    by : (o : Option Objects) → IfSome o (λ told. OpensRow told Own moment (Ok made.opened)) → IfSome o (λ told. (name : List ℕ) → Own name → StandsFor told moment name (repo_among made.opened name)) → StandsForTables o moment Own tables
    by None opens stands = tt
    by (Some told) opens stands = λ name own. stands_at told opens name (stands name own)

  module _ (own : AreOwn Own holdings) (held : Holders) (are : AreAllOf Own held holdings) where
    -- what is held fits the tables
    pub open_agrees : AgreesRow Own tables held
    open_agrees = record {
      agrees = λ name is. agrees_found moment (index_of name) (is_index name) (sizes_after name (λ _. None) holdings) (table_at tables name) (found_at name) (under held name) (sizes_fit Own held name holdings is own are);
      own = subst (OwnNames Own) (sym made.is) (holdings_own Own moment (with_opened finite.empty made.opened) holdings own (opened_own Own finite.empty made.opened made.indexes (none_own Own)));
    }

  -- the tables stand for the row that was opened
  pub open_state : AreOwn Own holdings → IfSome objects (λ told. (held : Holders) → AreAllOf Own held holdings → IsOpenedRow told moment Own held (state_of tables held 0))
  open_state own = by objects made.opens made.stands where
    by : (o : Option Objects) → IfSome o (λ told. OpensRow told Own moment (Ok made.opened)) → IfSome o (λ told. (name : List ℕ) → Own name → StandsFor told moment name (repo_among made.opened name))
        → IfSome o (λ told. (held : Holders) → AreAllOf Own held holdings → IsOpenedRow told moment Own held (state_of tables held 0))
    by None opens stands = tt
    by (Some told) opens stands = λ held are name is. record {
      found = index_of name;
      says = says_at told opens name (stands name is);
      is = subst (IsOpenedWith moment (layout_repo (index_of name)) (under held name)) (sym (repo_is tables held 0 name))
          (opened_found moment (index_of name) (is_index name) (sizes_after name (λ _. None) holdings) (table_at tables name) (found_at name) (under held name) (sizes_fit Own held name holdings is own are));
    }
