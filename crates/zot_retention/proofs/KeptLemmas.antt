-- What a policy keeps of fewer tags, at another moment, and in which order.
use Rattle.std.proofs.Common.{◌≡◌, ◌≤◌, ℕ, Bool, true, false, cond, not, ◌&&◌, ◌||◌, is_some, List, [], ◌∷◌, Option, None, Some, refl, sym, ap, arith, true≢false}
use Rattle.std.specs.List.{AllByRecursion, count_by, filter, list_any}
use Rattle.std.specs.List.Sorted.{IsStrictlySortedBy}
use Rattle.std.specs.declared.cmp.Ordering.TheVariants.{Less}
use Rattle.std.proofs.lemmas.Bool.Decides.{nat_tests}
use Rattle.std.proofs.lemmas.List.Sums.{sum_by-cons}
use Rattle.zot_digest.specs.ByteMap.{byte_cmp}
use Rattle.zot_retention.specs.Kept.{Ascend, comes_before, is_first, is_found, is_kept, is_kept_by, is_kept_under, is_recent, kept_rows, rank, texts}
use Rattle.zot_retention.specs.declared.keep.Keep.{Keep}
use Rattle.zot_retention.specs.declared.policy.Policy.{Policy}
use Rattle.zot_retention.specs.declared.tag_row.TagRow.{TagRow}

-- fewer elements, fewer that pass
one_fewer : {X : Type 0} (p : X → Bool) (x : X) (fewer more : List X) (stays : Bool) → count_by p fewer ≤ count_by p more →
    count_by p (cond stays (x ∷ fewer) fewer) ≤ count_by p (x ∷ more)
one_fewer p x fewer more true le =
    omega (arith, le, sum_by-cons (λ y. cond (p y) 1 0) x fewer, sum_by-cons (λ y. cond (p y) 1 0) x more)
one_fewer p x fewer more false le = omega (arith, le, sum_by-cons (λ y. cond (p y) 1 0) x more)

count_by-filter_le : {X : Type 0} (p test : X → Bool) (xs : List X) → count_by p (filter test xs) ≤ count_by p xs
count_by-filter_le p test [] = omega arith
count_by-filter_le p test (x ∷ xs) = one_fewer p x (filter test xs) xs (test x) (count_by-filter_le p test xs)

one_again : {X : Type 0} (q : X → Bool) (x : X) (xs : List X) (stays : Bool) → (stays ≡ true → q x ≡ true) → filter q xs ≡ xs →
    filter q (cond stays (x ∷ xs) xs) ≡ cond stays (x ∷ xs) xs
one_again q x xs true weaker e = rw (weaker refl) (ap (λ ys. x ∷ ys) e)
one_again q x xs false weaker e = e

-- what passes stays where what is asked later is weaker
filter_again : {X : Type 0} (p q : X → Bool) (xs : List X) → ((x : X) → p x ≡ true → q x ≡ true) → filter q (filter p xs) ≡ filter p xs
filter_again p q [] weaker = refl
filter_again p q (x ∷ xs) weaker = one_again q x (filter p xs) (p x) (weaker x) (filter_again p q xs weaker)

or_right : (a b : Bool) → b ≡ true → (a || b) ≡ true
or_right true b e = refl
or_right false b e = e

one_or_more : (a b more more' : Bool) → (a ≡ true → b ≡ true) → (more ≡ true → more' ≡ true) → (a || more) ≡ true → (b || more') ≡ true
one_or_more true b more more' f g e = rw (f refl) refl
one_or_more false b more more' f g e = or_right b more' (g e)

any_weaker : {X : Type 0} (p q : X → Bool) (xs : List X) → ((x : X) → p x ≡ true → q x ≡ true) → list_any p xs ≡ true → list_any q xs ≡ true
any_weaker p q [] weaker some = some
any_weaker p q (x ∷ xs) weaker some = one_or_more (p x) (q x) _ _ (weaker x) (any_weaker p q xs weaker) some

-- a criterion that is met still is
still_met : (found none first first' recent recent' : Bool) → (first ≡ true → first' ≡ true) → (recent ≡ true → recent' ≡ true) →
    (found && (none || (first || recent))) ≡ true → (found && (none || (first' || recent'))) ≡ true
still_met true true first first' recent recent' f r h = refl
still_met true false true first' recent recent' f r h = rw (f refl) refl
still_met true false false first' true recent' f r h = or_right first' recent' (r refl)
still_met true false false first' false recent' f r h = absurd (true≢false (sym h))
still_met false none first first' recent recent' f r h = absurd (true≢false (sym h))

first_by_less : (count : Option ℕ) (less more : ℕ) → less ≤ more → is_first count more ≡ true → is_first count less ≡ true
first_by_less None less more le e = e
first_by_less (Some count) less more le e = grind (arith, nat_tests)

recent_before : (within : Option ℕ) (now later pushed : ℕ) → now ≤ later → is_recent within later pushed ≡ true → is_recent within now pushed ≡ true
recent_before None now later pushed le e = e
recent_before (Some within) now later pushed le e = grind (arith, nat_tests)

-- a rule keeps a tag among fewer tags, and at an earlier moment
kept_among_fewer : (rule : Keep) (test : TagRow → Bool) (tags : List TagRow) (moment : ℕ) (row : TagRow) →
    is_kept_by rule tags moment row ≡ true → is_kept_by rule (filter test tags) moment row ≡ true
kept_among_fewer rule test tags moment row =
    still_met (is_found rule row) (not (is_some rule.count || is_some rule.within))
    (is_first rule.count (rank rule tags row)) (is_first rule.count (rank rule (filter test tags) row))
    (is_recent rule.within moment row.pushed) (is_recent rule.within moment row.pushed)
    (first_by_less rule.count _ _ (count_by-filter_le (λ other. is_found rule other && comes_before other row) test tags))
    (λ e. e)

kept_by_before : (rule : Keep) (tags : List TagRow) (now later : ℕ) (row : TagRow) → now ≤ later →
    is_kept_by rule tags later row ≡ true → is_kept_by rule tags now row ≡ true
kept_by_before rule tags now later row le =
    still_met (is_found rule row) (not (is_some rule.count || is_some rule.within))
    (is_first rule.count (rank rule tags row)) (is_first rule.count (rank rule tags row))
    (is_recent rule.within later row.pushed) (is_recent rule.within now row.pushed)
    (λ e. e)
    (recent_before rule.within now later row.pushed le)

still_kept : (rules : Option (List Keep)) (test : TagRow → Bool) (tags : List TagRow) (moment : ℕ) (row : TagRow) →
    is_kept_under rules tags moment row ≡ true → is_kept_under rules (filter test tags) moment row ≡ true
still_kept None test tags moment row e = refl
still_kept (Some rules) test tags moment row e = any_weaker _ _ rules (λ rule. kept_among_fewer rule test tags moment row) e

pub kept_again : (policy : Policy) (tags : List TagRow) (moment : ℕ) →
    kept_rows policy (kept_rows policy tags moment) moment ≡ kept_rows policy tags moment
unfolding kept_rows
kept_again policy tags moment =
    filter_again (is_kept policy tags moment) (is_kept policy (filter (is_kept policy tags moment) tags) moment) tags
    (λ row. still_kept policy.keep (is_kept policy tags moment) tags moment row)

pub kept_before : (policy : Policy) (tags : List TagRow) (now later : ℕ) (row : TagRow) → now ≤ later →
    is_kept policy tags later row ≡ true → is_kept policy tags now row ≡ true
kept_before policy tags now later row le = by_rules policy.keep
  where
    by_rules : (rules : Option (List Keep)) → is_kept_under rules tags later row ≡ true → is_kept_under rules tags now row ≡ true
    by_rules None e = refl
    by_rules (Some rules) e = any_weaker _ _ rules (λ rule. kept_by_before rule tags now later row le) e

-- what is kept of tags that ascend ascends
one_below : (P : List ℕ → Type 0) (row : TagRow) (tags : List TagRow) (stays : Bool) → P row.tag → AllByRecursion P (texts tags) →
    AllByRecursion P (texts (cond stays (row ∷ tags) tags))
one_below P row tags true here all = (here, all)
one_below P row tags false here all = all

each_below : (P : List ℕ → Type 0) (test : TagRow → Bool) (tags : List TagRow) → AllByRecursion P (texts tags) → AllByRecursion P (texts (filter test tags))
each_below P test [] all = all
each_below P test (row ∷ tags) all = one_below P row (filter test tags) (test row) all.0 (each_below P test tags all.1)

one_first : (row : TagRow) (tags : List TagRow) (stays : Bool) → AllByRecursion (λ tag. byte_cmp row.tag tag ≡ Less) (texts tags) →
    Ascend (texts tags) → Ascend (texts (cond stays (row ∷ tags) tags))
unfolding IsStrictlySortedBy
one_first row tags true below up = (below, up)
one_first row tags false below up = up

pub ascend-filter : (test : TagRow → Bool) (tags : List TagRow) → Ascend (texts tags) → Ascend (texts (filter test tags))
unfolding IsStrictlySortedBy
ascend-filter test [] up = up
ascend-filter test (row ∷ tags) up = one_first row (filter test tags) (test row) (each_below _ test tags up.0) (ascend-filter test tags up.1)
