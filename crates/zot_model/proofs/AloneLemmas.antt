-- The entries of one repository, by themselves.
use Rattle.std.proofs.Common.{◌≡◌, ◌≢◌, inl, inr, ℕ, ◌+◌, ◌-◌, ◌^◌, arith, Bool, true, false, cond, List, [], ◌∷◌, map, Option, Some, None, unwrap_or, refl, sym, ap, subst, ◌∙◌}
use Rattle.std.specs.Prelude.{IsSomeAnd}
use Rattle.std.specs.FinMap as finite
use Rattle.std.specs.FinMap.{get-empty}
use Rattle.std.specs.List.{filter}
use Rattle.std.specs.Str.{bytes_eq}
use Rattle.std.proofs.Math.Nat.{min-le_left}
use Rattle.std.proofs.lemmas.Bool.{true≢false}
use Rattle.std.proofs.lemmas.Slice.Eq.{bytes_eq-Decides}
use Rattle.zot_digest.specs.ByteMap.{byte_cmp}
use Rattle.zot_history.proofs.Runs.{run_from}
use Rattle.zot_maps.proofs.Maps.{byte_order, get_elsewhere, get_here}
use Rattle.zot_model.specs.declared.call.Call.{Call}
use Rattle.zot_model.specs.declared.reply.Reply.{Reply}
use Rattle.zot_model.proofs.HistoryLemmas.{same_alike}
use Rattle.zot_model.specs.Alone.{StandAlone, row_with, without_faults}
use Rattle.zot_model.specs.History.{Entry, Event, Happens, Run, Step, asked, failed, is_named, is_of, lacked, mounted, name_of, named, retired, scrubbed, swept, swept_all}
use Rattle.zot_model.specs.Plain.{Goes, MayAnswer, Rise, Stay}
use Rattle.zot_model.specs.State.{AreSame, RepoState, RowState, fresh, repo_at}

module _ (name : List ℕ) where
  -- the repository that a row has alone, and the fresh ones beside it
  at_alone : (repo : RepoState) (faults : ℕ) → repo_at (row_with name repo faults) name ≡ repo
  at_alone repo faults = ap (λ o. unwrap_or o fresh) (get_here byte_order finite.empty name repo)

  beside_alone : (repo : RepoState) (faults : ℕ) (other : List ℕ) → other ≢ name → repo_at (row_with name repo faults) other ≡ fresh
  beside_alone repo faults other differs = ap (λ o. unwrap_or o fresh) (get_elsewhere byte_order finite.empty name repo other differs ∙ get-empty byte_cmp other)

  goes_alone : (Counts : ℕ → ℕ → Type 0) (Way : RepoState → RepoState → Type 0) (before after : ℕ) (old new : RowState) → Counts before after → Goes Counts Way old name new
      → Goes Counts Way (row_with name (repo_at old name) before) name (row_with name (repo_at new name) after)
  goes_alone Counts Way before after old new counted h = record {
    repo = h.repo;
    way = subst (λ (r : RepoState). Way r h.repo) (sym (at_alone (repo_at old name) before)) h.way;
    becomes = record {
      here = at_alone (repo_at new name) after ∙ h.becomes.here;
      others = λ other differs. beside_alone (repo_at new name) after other differs ∙ sym (beside_alone (repo_at old name) before other differs);
    };
    faults = counted;
  }

  -- what happened on the repository is counted by itself: one fault more where there were more in the row
  abbrev Alone : (RowState → RowState → Type 0) → ℕ → RowState → RowState → Type 0
  Alone Happened faults old new = (after : ℕ) × Happened (row_with name (repo_at old name) faults) (row_with name (repo_at new name) after)

  stays_alone : (Way : RepoState → RepoState → Type 0) (faults : ℕ) (old new : RowState) → Goes Stay Way old name new → Alone (λ r s. Goes Stay Way r name s) faults old new
  stays_alone Way faults old new h = (faults, goes_alone Stay Way faults faults old new refl h)

  one_fault : (n : ℕ) → Rise n (n + 1)
  one_fault n = record { later = omega arith; rose = min-le_left (n + 1) (2 ^ 64 - 1) }

  answer_alone : (moment faults : ℕ) (old new : RowState) (call : Call) (reply : Reply) → MayAnswer moment old name call reply new → Alone (λ r s. MayAnswer moment r name call reply s) faults old new
  answer_alone moment faults old new call reply (inl h) = (faults, inl (goes_alone Stay _ faults faults old new refl h))
  answer_alone moment faults old new call reply (inr (inl h)) = (faults, inr (inl (goes_alone Stay _ faults faults old new refl h)))
  answer_alone moment faults old new call reply (inr (inr h)) = (faults + 1, inr (inr (goes_alone Rise _ faults (faults + 1) old new (one_fault faults) h)))

  stays_beside : (moment : ℕ) (old new : RowState) (other : List ℕ) (call : Call) (reply : Reply) → name ≢ other → MayAnswer moment old other call reply new → repo_at new name ≡ repo_at old name
  stays_beside moment old new other call reply differs (inl h) = h.becomes.others name differs
  stays_beside moment old new other call reply differs (inr (inl h)) = h.becomes.others name differs
  stays_beside moment old new other call reply differs (inr (inr h)) = h.becomes.others name differs

  -- what happened on the repository, and what happened on another one
  own_named : (moment faults : ℕ) (old new : RowState) (named : Option (List ℕ)) (call : Call) (reply : Reply) → is_named name named ≡ true → IsSomeAnd named (λ n. MayAnswer moment old n call reply new)
      → Alone (λ r s. IsSomeAnd named (λ n. MayAnswer moment r n call reply s)) faults old new
  own_named moment faults old new None call reply is h = absurd h
  own_named moment faults old new (Some other) call reply is h =
      let same = (bytes_eq-Decides name other).0 is in
      subst (λ n. Alone (λ r s. MayAnswer moment r n call reply s) faults old new) same
      (answer_alone moment faults old new call reply (subst (λ n. MayAnswer moment old n call reply new) (sym same) h))

  own_way : (Way : RepoState → RepoState → Type 0) (faults : ℕ) (old new : RowState) (other : List ℕ) → bytes_eq name other ≡ true → Goes Stay Way old other new → Alone (λ r s. Goes Stay Way r other s) faults old new
  own_way Way faults old new other is h =
      let same = (bytes_eq-Decides name other).0 is in
      subst (λ n. Alone (λ r s. Goes Stay Way r n s) faults old new) same (stays_alone Way faults old new (subst (λ n. Goes Stay Way old n new) (sym same) h))

  own_some_way : (Way : RepoState → RepoState → Type 0) (faults : ℕ) (old new : RowState) (named : Option (List ℕ)) → is_named name named ≡ true → IsSomeAnd named (λ n. Goes Stay Way old n new)
      → Alone (λ r s. IsSomeAnd named (λ n. Goes Stay Way r n s)) faults old new
  own_some_way Way faults old new None is h = absurd h
  own_some_way Way faults old new (Some other) is h = own_way Way faults old new other is h

  same_alone : (faults : ℕ) (row other : RowState) → repo_at other name ≡ repo_at row name → AreSame (row_with name (repo_at row name) faults) (row_with name (repo_at other name) faults)
  same_alone faults row other h = record { repos = λ n. ap (λ (r : RepoState). repo_at (row_with name r faults) n) h; faults = refl }

  own_event : (moment faults : ℕ) (old new : RowState) (event : Event) → is_named name (name_of event) ≡ true → Happens old moment event new → Alone (λ r s. Happens r moment event s) faults old new
  own_event moment faults old new (asked request reply) is h = own_named moment faults old new request.name request.call reply is h
  own_event moment faults old new (mounted request reply bytes) is h = own_some_way _ faults old new request.name is h
  own_event moment faults old new (retired other rules delay gone) is h = own_way _ faults old new other is h
  own_event moment faults old new (swept other delay digest) is h = own_way _ faults old new other is h
  own_event moment faults old new (swept_all other delay) is h = own_way _ faults old new other is h
  own_event moment faults old new (scrubbed other blobs found) is h = own_way _ faults old new other is h
  own_event moment faults old new (named found) is h = absurd (true≢false (sym is))
  own_event moment faults old new (lacked task) is h = (faults, same_alone faults old new (h.repos name))
  own_event moment faults old new (failed task) is h = (
    faults + 1,
    record {
      asks = h.asks;
      repos = (same_alone faults old new (h.repos name)).repos;
      faults = one_fault faults;
    },
  )

  not_named : (b : Bool) (other : List ℕ) → bytes_eq name other ≡ b → b ≡ false → name ≢ other
  not_named b other e none same = cc (sym e ∙ (bytes_eq-Decides name other).1 same, none)

  other_named : (moment : ℕ) (old new : RowState) (named : Option (List ℕ)) (call : Call) (reply : Reply) → is_named name named ≡ false → IsSomeAnd named (λ n. MayAnswer moment old n call reply new)
      → repo_at new name ≡ repo_at old name
  other_named moment old new None call reply is h = absurd h
  other_named moment old new (Some other) call reply is h = stays_beside moment old new other call reply (not_named (bytes_eq name other) other refl is) h

  other_way : (Way : RepoState → RepoState → Type 0) (old new : RowState) (other : List ℕ) → bytes_eq name other ≡ false → Goes Stay Way old other new → repo_at new name ≡ repo_at old name
  other_way Way old new other is h = h.becomes.others name (not_named (bytes_eq name other) other refl is)

  other_some_way : (Way : RepoState → RepoState → Type 0) (old new : RowState) (named : Option (List ℕ)) → is_named name named ≡ false → IsSomeAnd named (λ n. Goes Stay Way old n new) → repo_at new name ≡ repo_at old name
  other_some_way Way old new None is h = absurd h
  other_some_way Way old new (Some other) is h = other_way Way old new other is h

  other_event : (moment : ℕ) (old new : RowState) (event : Event) → is_named name (name_of event) ≡ false → Happens old moment event new → repo_at new name ≡ repo_at old name
  other_event moment old new (asked request reply) is h = other_named moment old new request.name request.call reply is h
  other_event moment old new (mounted request reply bytes) is h = other_some_way _ old new request.name is h
  other_event moment old new (retired other rules delay gone) is h = other_way _ old new other is h
  other_event moment old new (swept other delay digest) is h = other_way _ old new other is h
  other_event moment old new (swept_all other delay) is h = other_way _ old new other is h
  other_event moment old new (scrubbed other blobs found) is h = other_way _ old new other is h
  other_event moment old new (named found) is h = h.1.repos name
  other_event moment old new (lacked task) is h = h.repos name
  other_event moment old new (failed task) is h = h.repos name

  -- entries by themselves, from one row to another, after so many faults
  abbrev pub Stands : ℕ → RowState → List Entry → RowState → Type 0
  Stands faults old entries new =
      (alone : List Entry) × (map without_faults alone ≡ map without_faults entries) × (after : ℕ) × Run (row_with name (repo_at old name) faults) alone (row_with name (repo_at new name) after)

  own_first : (faults : ℕ) (old mid new : RowState) (entry : Entry) (entries : List Entry) → Alone (λ r s. Happens r entry.moment entry.event s) faults old mid
      → ((after : ℕ) → Stands after mid entries new) → Stands faults old (entry ∷ entries) new
  own_first faults old mid new entry entries first rest =
      let h = rest first.0 in (
        record { event = entry.event; moment = entry.moment; faults = first.0 } ∷ h.0,
        ap (λ (l : List (Event × ℕ)). (entry.event, entry.moment) ∷ l) h.1,
        h.2,
        (row_with name (repo_at mid name) first.0, record { happens = first.1; faults = refl }, h.3),
      )

  one_more : (faults : ℕ) (old mid new : RowState) (entry : Entry) (entries : List Entry) (c : Bool) → is_of name entry ≡ c → Step old entry mid → ((after : ℕ) → Stands after mid entries new)
      → Stands faults old (cond c (entry ∷ entries) entries) new
  one_more faults old mid new entry entries true is step rest = own_first faults old mid new entry entries (own_event entry.moment faults old mid entry.event is step.happens) rest
  one_more faults old mid new entry entries false is step rest =
      let h = rest faults in
      let same = same_alone faults old mid (other_event entry.moment old mid entry.event is step.happens) in
      (h.0, h.1, h.2, run_from AreSame Step same_alike (row_with name (repo_at old name) faults) (row_with name (repo_at mid name) faults) (row_with name (repo_at new name) h.2) h.0 same h.3)

  all_alone : (old new : RowState) (entries : List Entry) → Run old entries new → (faults : ℕ) → Stands faults old (filter (is_of name) entries) new
  all_alone old new [] h faults = ([], refl, faults, same_alone faults old new (h.repos name))
  all_alone old new (entry ∷ entries) h faults = one_more faults old h.0 new entry (filter (is_of name) entries) (is_of name entry) refl h.1 (all_alone h.0 new entries h.2)

pub stand_alone : (name : List ℕ) (old new : RowState) (entries : List Entry) → Run old entries new → StandAlone name old entries new
stand_alone name old new entries h = let s = all_alone name old new entries h 0 in record { alone = s.0; faults = s.2; same = s.1; run = s.3 }
