-- A row's tables, and the plain row that they stand for beside what is held.
use Rattle.std.proofs.Common.{◌≡◌, ◌≢◌, ◌==◌, ◌&&◌, ◌<◌, ℕ, zero, suc, nat_lt, Bool, true, false, cond, List, [], ◌∷◌, length, get_or, Option, Some, None, unwrap_or, refl, sym, ap, subst, ◌∙◌, arith}
use Rattle.std.specs.Prelude.{IsSome, Result, Ok, Err, OnOk, OnErr, option_and_then}
use Rattle.std.specs.BTreeMap.{is_at}
use Rattle.std.specs.Map.{lookup}
use Rattle.std.specs.List.{list_all}
use Rattle.std.proofs.lemmas.Bool.{and_parts, eq-eqb, eqb-true, lt-ltb, ltb-true}
use Rattle.std.proofs.lemmas.List.{get_or_past}
use Rattle.std.proofs.lemmas.List.Elements.{All-from_get_or}
use Rattle.std.proofs.lemmas.List.Sums.{list_all-from_AllPass}
use Rattle.std.specs.FinMap as finite
use Rattle.zot_contents.specs.Pool.{Holders}
use Rattle.zot_digest.specs.ByteMap.{byte_cmp, map_of}
use Rattle.zot_digest.specs.Digest.{IsDigest}
use Rattle.zot_maps.proofs.Entries.{Writes, map_written}
use Rattle.zot_maps.proofs.Maps.{byte_order, found_at, get_elsewhere, get_here, removed_elsewhere, removed_here}
use Rattle.zot_model.specs.State.{Becomes, fresh, repo_at}
use Rattle.zot_table.proofs.EntryLemmas.{at_each, get_counterpart}
use Rattle.zot_table.proofs.StandingLemmas.{fresh_is, same_agrees, same_is}
use Rattle.zot_table.specs.Standing.{Agrees, AreEqual, Holds, repo_of}
use Rattle.zot_table.specs.Tables.{RepoTable, fresh_table}
use Rattle.zot_repo.specs.Rows.{AgreesRow, SetsTable, Tables, is_digest, state_of, table_at, under}

-- ---- one repository of the plain row

some_repo : (held : Holders) (name : List ℕ) (found : Option RepoTable) → unwrap_or (option_and_then (λ repo. Some (repo_of repo (under held name))) found) fresh ≡ repo_of (unwrap_or found fresh_table) (under held name)
some_repo held name None = sym (fresh_is (under held name))
some_repo held name (Some table) = refl

-- it is that of its table, with what is held for it
pub repo_is : (tables : Tables) (held : Holders) (faults : ℕ) (name : List ℕ) → repo_at (state_of tables held faults) name ≡ repo_of (table_at tables name) (under held name)
repo_is tables held faults name =
    ap (λ o. unwrap_or o fresh) (get_counterpart (λ key table. Some (repo_of table (under held key))) tables name) ∙ some_repo held name (finite.get tables name)

-- ---- the same is held

fresh_alike : (holds after : Holds) → repo_of fresh_table after ≡ repo_of fresh_table holds
fresh_alike holds after = fresh_is after ∙ sym (fresh_is holds)

-- the table of a name that isn't the row's is a fresh one, which holds nothing, whatever is held
module _ (Own : List ℕ → Type 0) (tables : Tables) (held behind : Holders) (own : (name : List ℕ) → IsSome (finite.get tables name) → Own name) (name : List ℕ) (same : Own name → AreEqual (under held name) (under behind name)) where
  found_alike : (found : Option RepoTable) → finite.get tables name ≡ found → repo_of (unwrap_or found fresh_table) (under behind name) ≡ repo_of (unwrap_or found fresh_table) (under held name)
  found_alike None is = fresh_alike (under held name) (under behind name)
  found_alike (Some table) is = same_is table (under held name) (under behind name) (same (own name (subst (λ o. IsSome o) (sym is) refl)))

  pub repo_stays : repo_of (table_at tables name) (under behind name) ≡ repo_of (table_at tables name) (under held name)
  repo_stays = found_alike (finite.get tables name) refl

-- ---- one table is set

module _ (old : Tables) (name : List ℕ) (table : RepoTable) (new : Tables) (sets : SetsTable old name table new) where
  pub table_beside : (other : List ℕ) → other ≢ name → table_at new other ≡ table_at old other
  table_beside other apart = ap (λ o. unwrap_or o fresh_table) (sets.others other apart)

  -- the row's own names stay its own
  pub names_own : (Own : List ℕ → Type 0) → Own name → ((other : List ℕ) → IsSome (finite.get old other) → Own other) → (other : List ℕ) → IsSome (finite.get new other) → Own other
  names_own Own own all = at_each (λ other. IsSome (finite.get new other) → Own other) name (λ _. own) (λ other apart has. all other (subst (λ o. IsSome o) (sets.others other apart) has))

  module _ (Own : List ℕ → Type 0) (own : Own name) (held behind : Holders) (agrees : AgreesRow Own old held) (others : (other : List ℕ) → Own other → other ≢ name → AreEqual (under held other) (under behind other)) where
    -- what is held fits, where it fits this table
    pub agrees_then : Agrees table (under behind name) → AgreesRow Own new behind
    agrees_then here = record {
      agrees = at_each (λ other. Own other → Agrees (table_at new other) (under behind other)) name
          (λ _. subst (λ (t : RepoTable). Agrees t (under behind name)) (sym sets.here) here)
          (λ other apart is. subst (λ (t : RepoTable). Agrees t (under behind other)) (sym (table_beside other apart))
          (same_agrees (table_at old other) (under held other) (under behind other) (others other is apart) (agrees.agrees other is)));
      own = names_own Own own agrees.own;
    }

    -- the repository of the name is that of the table, and every other is as it was
    pub others_stay : (before after : ℕ) (other : List ℕ) → other ≢ name → repo_at (state_of new behind after) other ≡ repo_at (state_of old held before) other
    others_stay before after other apart =
        repo_is new behind after other
        ∙ ap (λ (t : RepoTable). repo_of t (under behind other)) (table_beside other apart)
        ∙ repo_stays Own old held behind agrees.own other (λ is. others other is apart)
        ∙ sym (repo_is old held before other)

    pub becomes_then : (before after : ℕ) → Becomes (state_of old held before) name (repo_of table (under behind name)) (state_of new behind after)
    becomes_then before after = record {
      here = repo_is new behind after name ∙ ap (λ (t : RepoTable). repo_of t (under behind name)) sets.here;
      others = others_stay before after;
    }

-- one change after another under one name
pub sets_then : (old mid new : Tables) (name : List ℕ) (first second : RepoTable) → SetsTable old name first mid → SetsTable mid name second new → SetsTable old name second new
sets_then old mid new name first second h k = record { here = k.here; others = λ other apart. k.others other apart ∙ h.others other apart }

-- ---- digests

each_byte : (bytes : List ℕ) → list_all (λ b. nat_lt b 256) bytes ≡ true → (i : ℕ) → get_or bytes i 0 < 256
each_byte [] is i = subst (λ n. n < 256) (sym (get_or_past [] i 0 (omega arith))) (omega arith)
each_byte (b ∷ bytes) is zero = ltb-true b 256 (and_parts (nat_lt b 256) (list_all (λ c. nat_lt c 256) bytes) is).0
each_byte (b ∷ bytes) is (suc i) = each_byte bytes (and_parts (nat_lt b 256) (list_all (λ c. nat_lt c 256) bytes) is).1 i

pub digest_tested : (digest : List ℕ) → is_digest digest ≡ true → IsDigest digest
digest_tested digest is =
    let parts = and_parts (length digest == 32) (list_all (λ b. nat_lt b 256) digest) is in record { long = eqb-true (length digest) 32 parts.0; bytes = each_byte digest parts.1 }

pub digest_passes : (digest : List ℕ) → IsDigest digest → is_digest digest ≡ true
digest_passes digest is =
    ap (λ b. b && list_all (λ c. nat_lt c 256) digest) (eq-eqb (length digest) 32 is.long)
    ∙ list_all-from_AllPass (λ c. nat_lt c 256) digest (All-from_get_or (λ c. nat_lt c 256 ≡ true) digest 0 (λ i _. lt-ltb (get_or digest i 0) 256 (is.bytes i)))

-- what is held under a digest
pub under_digest : (held : Holders) (name digest : List ℕ) → IsDigest digest → under held name digest ≡ held digest name
under_digest held name digest is = ap (λ b. cond b (held digest name) None) (digest_passes digest is)

-- the same is held for a name, where it is under a digest
pub under_same_at : (held behind : Holders) (name digest : List ℕ) → (IsDigest digest → behind digest name ≡ held digest name) → under behind name digest ≡ under held name digest
under_same_at held behind name digest same = by (is_digest digest) refl where
  by : (b : Bool) → is_digest digest ≡ b → cond b (behind digest name) None ≡ cond b (held digest name) None
  by true is = same (digest_tested digest is)
  by false is = refl

pub under_same : (held behind : Holders) (name : List ℕ) → ((digest : List ℕ) → IsDigest digest → behind digest name ≡ held digest name) → AreEqual (under held name) (under behind name)
under_same held behind name same = λ digest. under_same_at held behind name digest (same digest)

-- ---- the tree of a row

-- what is kept under a name is what the tree has there
pub found_table : (es : List (List ℕ × RepoTable)) (tables : Tables) (name : List ℕ) (found : RepoTable) → map_of es ≡ tables → Some found ≡ lookup (is_at (byte_cmp name)) es → table_at tables name ≡ found
found_table es tables name found is has = ap (λ o. unwrap_or o fresh_table) (found_at byte_order es tables name (Some found) is has)

is_none : (found : Option RepoTable) → found ≡ None → ¬ (IsSome found)
is_none None h is = cc is
is_none (Some table) h is = cc h

-- a name that is kept is in the tree
pub found_not : (es : List (List ℕ × RepoTable)) (tables : Tables) (name : List ℕ) → map_of es ≡ tables → None ≡ lookup (is_at (byte_cmp name)) es → IsSome (finite.get tables name) → ⊥
found_not es tables name is has some = is_none (finite.get tables name) (found_at byte_order es tables name None is has) some

-- this table is kept under the name, and nothing else has changed
pub set_table : (old : Tables) (name : List ℕ) (table : RepoTable) → SetsTable old name table (finite.insert old name table)
set_table old name table = record { here = ap (λ o. unwrap_or o fresh_table) (get_here byte_order old name table); others = λ other apart. get_elsewhere byte_order old name table other apart }

-- a turn of a repository that the tree has, which is then written there
pub written_turn : (P : RepoTable → RepoTable → Type 0) (es fs : List (List ℕ × RepoTable)) (tables : Tables) (name : List ℕ) (found written : RepoTable) → map_of es ≡ tables → Some found ≡ lookup (is_at (byte_cmp name)) es
    → Writes byte_order es fs name written → P found written → P (table_at tables name) (table_at (map_of fs) name)
written_turn P es fs tables name found written is has writes h =
    let now : map_of fs ≡ finite.insert tables name written = map_written byte_order es fs tables name found written is has writes in
    subst (P (table_at tables name)) (sym (ap (λ (t : Tables). table_at t name) now ∙ (set_table tables name written).here)) (subst (λ (t : RepoTable). P t written) (sym (found_table es tables name found is has)) h)

pub written_sets : (es fs : List (List ℕ × RepoTable)) (tables : Tables) (name : List ℕ) (found written : RepoTable) → map_of es ≡ tables → Some found ≡ lookup (is_at (byte_cmp name)) es → Writes byte_order es fs name written
    → SetsTable tables name (table_at (map_of fs) name) (map_of fs)
written_sets es fs tables name found written is has writes =
    let now : map_of fs ≡ finite.insert tables name written = map_written byte_order es fs tables name found written is has writes in
    record { here = refl; others = λ other apart. ap (λ (t : Tables). finite.get t other) now ∙ get_elsewhere byte_order tables name written other apart }

pub written_kept : (es fs : List (List ℕ × RepoTable)) (tables : Tables) (name : List ℕ) (found written : RepoTable) → map_of es ≡ tables → Some found ≡ lookup (is_at (byte_cmp name)) es → Writes byte_order es fs name written
    → IsSome (finite.get (map_of fs) name)
written_kept es fs tables name found written is has writes =
    subst (λ o. IsSome o) (sym (ap (λ (t : Tables). finite.get t name) (map_written byte_order es fs tables name found written is has writes) ∙ get_here byte_order tables name written)) refl

-- ---- a fresh one

-- where none is kept, a fresh one is none
pub keep_fresh : (old : Tables) (name : List ℕ) → finite.get old name ≡ None → SetsTable old name (table_at old name) (finite.insert old name fresh_table)
keep_fresh old name none = record {
  here = (set_table old name fresh_table).here ∙ sym (ap (λ o. unwrap_or o fresh_table) none);
  others = (set_table old name fresh_table).others;
}

pub drop_fresh : (old : Tables) (name : List ℕ) → finite.get old name ≡ Some fresh_table → SetsTable old name (table_at old name) (finite.remove old name)
drop_fresh old name has = record {
  here = ap (λ o. unwrap_or o fresh_table) (removed_here byte_order old name) ∙ sym (ap (λ o. unwrap_or o fresh_table) has);
  others = λ other apart. removed_elsewhere byte_order old name other apart;
}

pub sets_itself : (tables : Tables) (name : List ℕ) → SetsTable tables name (table_at tables name) tables
sets_itself tables name = record { here = refl; others = λ other apart. refl }

-- a fresh one was kept, or memory ran out
pub set_fresh : {T E : Type 0} (result : Result T E) (old new : Tables) (name : List ℕ) → finite.get old name ≡ None → OnOk result (new ≡ finite.insert old name fresh_table) → OnErr result (new ≡ old) → SetsTable old name (table_at old name) new
set_fresh (Ok x) old new name none ok err = subst (SetsTable old name (table_at old name)) (sym ok) (keep_fresh old name none)
set_fresh (Err error) old new name none ok err = subst (SetsTable old name (table_at old name)) (sym err) (sets_itself old name)

pub set_kept : {T E : Type 0} (result : Result T E) (old new : Tables) (name : List ℕ) (table : RepoTable) → OnOk result (new ≡ finite.insert old name table) → OnOk result (IsSome (finite.get new name))
set_kept (Ok x) old new name table ok = subst (λ o. IsSome o) (sym (ap (λ (t : Tables). finite.get t name) ok ∙ get_here byte_order old name table)) refl
set_kept (Err error) old new name table ok = tt

-- ---- whether a fresh one is there

module _ (es : List (List ℕ × RepoTable)) (tables : Tables) (name : List ℕ) (is : map_of es ≡ tables) where
  pub some_kept : (found : RepoTable) → Some found ≡ lookup (is_at (byte_cmp name)) es → IsSome (finite.get tables name)
  some_kept found has = subst (λ o. IsSome o) (sym (found_at byte_order es tables name (Some found) is has)) refl

  pub none_kept : None ≡ lookup (is_at (byte_cmp name)) es → finite.get tables name ≡ None
  none_kept has = found_at byte_order es tables name None is has

  pub fresh_has : (found : RepoTable) → Some found ≡ lookup (is_at (byte_cmp name)) es → found ≡ fresh_table → finite.get tables name ≡ Some fresh_table
  fresh_has found has fresh = found_at byte_order es tables name (Some found) is has ∙ ap (λ (t : RepoTable). Some t) fresh

  pub fresh_hasnt : (found : RepoTable) → Some found ≡ lookup (is_at (byte_cmp name)) es → found ≢ fresh_table → finite.get tables name ≢ Some fresh_table
  fresh_hasnt found has other h = other (some_same (sym (found_at byte_order es tables name (Some found) is has) ∙ h)) where
    some_same : Some found ≡ Some fresh_table → found ≡ fresh_table
    some_same k = cc k

  pub none_hasnt : None ≡ lookup (is_at (byte_cmp name)) es → finite.get tables name ≢ Some fresh_table
  none_hasnt has h = cc (sym (none_kept has) ∙ h)

-- it goes
pub dropped : (tables new : Tables) (name : List ℕ) → new ≡ finite.remove tables name → finite.get tables name ≡ Some fresh_table → SetsTable tables name (table_at tables name) new
dropped tables new name is has = subst (SetsTable tables name (table_at tables name)) (sym is) (drop_fresh tables name has)

pub dropped_gone : (tables new : Tables) (name : List ℕ) → new ≡ finite.remove tables name → finite.get new name ≢ Some fresh_table
dropped_gone tables new name is h = cc (sym (ap (λ (t : Tables). finite.get t name) is ∙ removed_here byte_order tables name) ∙ h)
