-- Open uploads after a call.
use Rattle.std.proofs.Common.{◌≡◌, ℕ, ◌≤◌, Bool, true, false, not, cond, List, Option, Some, None, IsSome, if◌then◌else◌, refl, sym, ap, ◌∙◌, subst, arith}
use Rattle.std.specs.Prelude.{Result, Ok, Err, OnOk, OnErr}
use Rattle.std.specs.Cmp.{nat_cmp_total}
use Rattle.std.specs.FinMap as map
use Rattle.std.specs.FinMap.{empty_of_len, get-empty, get-insert, get-remove, len-empty}
use Rattle.std.proofs.lemmas.Bool.{eq-eqb, eqb-true}
use Rattle.std.specs.Prelude.{◌==◌, ◌≢◌}
use Rattle.std.specs.Ordering.{eq_by_cmp, nat_cmp}
use Rattle.std.proofs.lemmas.Map.Entries.{option_filter}
use Rattle.std.specs.BTreeMap.{is_at}
use Rattle.std.specs.Map.{KeepsOthers, lookup}
use Rattle.zot_maps.proofs.Maps.{entries-insert, found_at, insert-same, number_order, tied_keys}
use Rattle.zot_model.specs.Ages.{is_aged}
use Rattle.zot_model.specs.Uploads.{NumberMap, OpenUpload, UploadTable, WereGiven, no_uploads, if_young, longer, numbered, put_after}

kept_young : (b : Bool) (upload : OpenUpload) → cond (not b) (Some upload) None ≡ (if b then None else Some upload)
kept_young true upload = refl
kept_young false upload = refl

-- the uploads that aren't aged are the young ones
pub young-filter : (moment delay : ℕ) (found : Option OpenUpload) → option_filter (λ (u : OpenUpload). not (is_aged moment delay u.start)) found ≡ if_young moment delay found
young-filter moment delay None = refl
young-filter moment delay (Some upload) = kept_young (is_aged moment delay upload.start) upload

is_none : (o : Option OpenUpload) → o ≡ None → IsSome o → ⊥
is_none None h is = cc is
is_none (Some u) h is = cc h

-- of no uploads each id was given
pub given-empty : (uploads : NumberMap OpenUpload) (n : ℕ) → uploads ≡ map.empty → WereGiven uploads n
given-empty uploads n is = λ id has. absurd (is_none (map.get uploads id) (ap (λ m. map.get m id) is ∙ get-empty nat_cmp id) has)

placed : (b : Bool) (q k m n : ℕ) (upload : OpenUpload) (found : Option OpenUpload) → eq_by_cmp nat_cmp q k ≡ b → IsSome (cond b (Some upload) found) → (IsSome found → q ≤ m) → k ≤ n → m ≤ n → q ≤ n
placed true q k m n upload found e has given at more = let same = tied_keys number_order q k e in omega arith
placed false q k m n upload found e has given at more = let least = given has in omega arith

-- and after an upload was set under an id that was given
pub given-insert : (old new : NumberMap OpenUpload) (id m n : ℕ) (upload : OpenUpload) → new ≡ map.insert old id upload → WereGiven old m → id ≤ n → m ≤ n → WereGiven new n
given-insert old new id m n upload is given at more = λ q has.
    let found = subst (λ o. IsSome o) (ap (λ u. map.get u q) is ∙ get-insert nat_cmp_total old id upload q) has in
    placed (eq_by_cmp nat_cmp q id) q id m n upload (map.get old q) refl found (given q) at more

gone : (b : Bool) (found : Option OpenUpload) → IsSome (cond b None found) → IsSome found
gone true found h = absurd (is_none None refl h)
gone false found h = h

-- and after one was removed
pub given-remove : (old new : NumberMap OpenUpload) (id n : ℕ) → new ≡ map.remove old id → WereGiven old n → WereGiven new n
given-remove old new id n is given = λ q has.
    given q (gone (eq_by_cmp nat_cmp q id) (map.get old q) (subst (λ o. IsSome o) (ap (λ u. map.get u q) is ∙ get-remove nat_cmp_total old id q) has))

given-after : (old : NumberMap OpenUpload) (id n : ℕ) (piece : List ℕ) (found : Option OpenUpload) → map.get old id ≡ found → WereGiven old n → WereGiven (put_after old id piece found) n
given-after old id n piece None e given = given
given-after old id n piece (Some upload) e given =
    given-insert old (map.insert old id (longer upload piece)) id n n (longer upload piece) refl given (given id (subst (λ o. IsSome o) (sym e) refl)) (omega arith)

-- and after a piece was put after an upload's bytes, or wasn't
pub given-append : {T E : Type 0} (result : Result T E) (old new : NumberMap OpenUpload) (id n : ℕ) (piece : List ℕ) → OnOk result (new ≡ put_after old id piece (map.get old id)) → OnErr result (new ≡ old)
    → WereGiven old n → WereGiven new n
given-append (Ok x) old new id n piece ok err given = subst (λ u. WereGiven u n) (sym ok) (given-after old id n piece (map.get old id) refl given)
given-append (Err e) old new id n piece ok err given = subst (λ u. WereGiven u n) (sym err) given

-- what a tree says that was written through at a number, if it has something there
abbrev pub Through : List (ℕ × OpenUpload) → ℕ → OpenUpload → List (ℕ × OpenUpload) → Type 0
Through es id written fs = IsSome (lookup (is_at (nat_cmp id)) es)
    → ((q : ℕ) → lookup (is_at (nat_cmp q)) fs ≡ cond (is_at (nat_cmp id) q) (Some written) (lookup (is_at (nat_cmp q)) es))
    × (lookup (is_at (nat_cmp id)) fs ≡ Some written)
    × ((q : ℕ) → is_at (nat_cmp id) q ≡ false → lookup (is_at (nat_cmp q)) fs ≡ lookup (is_at (nat_cmp q)) es)
    × KeepsOthers (eq_by_cmp nat_cmp) (is_at (nat_cmp id)) es fs

written_at : (es fs : List (ℕ × OpenUpload)) (uploads : NumberMap OpenUpload) (id : ℕ) (upload written : OpenUpload) → numbered es ≡ uploads
    → Some upload ≡ lookup (is_at (nat_cmp id)) es → Through es id written fs → numbered fs ≡ map.insert uploads id written
written_at es fs uploads id upload written is has through =
    let there = subst (λ o. IsSome o) has refl in
    entries-insert number_order es fs id written (through there).0 ∙ ap (λ (m : NumberMap OpenUpload). map.insert m id written) is

-- a piece was put after the bytes of an open upload
pub put : {T E : Type 0} (result : Result T E) (es fs : List (ℕ × OpenUpload)) (uploads : NumberMap OpenUpload) (id : ℕ) (upload written : OpenUpload) (piece : List ℕ) → numbered es ≡ uploads
    → Some upload ≡ lookup (is_at (nat_cmp id)) es → Through es id written fs → OnOk result (written ≡ longer upload piece)
    → OnOk result (numbered fs ≡ put_after uploads id piece (map.get uploads id))
put (Ok x) es fs uploads id upload written piece is has through ok =
    written_at es fs uploads id upload written is has through ∙ ap (λ (w : OpenUpload). map.insert uploads id w) ok
    ∙ ap (put_after uploads id piece) (sym (found_at number_order es uploads id (Some upload) is has))
put (Err e) es fs uploads id upload written piece is has through ok = tt

-- none was
pub not_put : {T E : Type 0} (result : Result T E) (es fs : List (ℕ × OpenUpload)) (uploads : NumberMap OpenUpload) (id : ℕ) (upload written : OpenUpload) → numbered es ≡ uploads
    → Some upload ≡ lookup (is_at (nat_cmp id)) es → Through es id written fs → OnErr result (written ≡ upload) → OnErr result (numbered fs ≡ uploads)
not_put (Ok x) es fs uploads id upload written is has through err = tt
not_put (Err e) es fs uploads id upload written is has through err =
    written_at es fs uploads id upload written is has through ∙ ap (λ (w : OpenUpload). map.insert uploads id w) err
    ∙ insert-same number_order uploads id upload (found_at number_order es uploads id (Some upload) is has)

-- a table in which nothing was opened and nothing is open
pub is_no_uploads : (uploads : NumberMap OpenUpload) (opened n : ℕ) (table : UploadTable) → record { uploads = uploads; opened = opened } ≡ table → opened ≡ 0 → n ≡ map.len uploads → (n == 0) ≡ true
    → table ≡ no_uploads
is_no_uploads uploads opened n table is none len h =
    let empty = empty_of_len uploads (sym len ∙ eqb-true n 0 h) in
    sym is ∙ ap (λ (u : NumberMap OpenUpload). record { uploads = u; opened = opened }) empty ∙ ap (λ (k : ℕ). record { uploads = map.empty; opened = k }) none

-- and one in which something is
pub isnt_no_uploads : (uploads : NumberMap OpenUpload) (opened n : ℕ) (table : UploadTable) → record { uploads = uploads; opened = opened } ≡ table → n ≡ map.len uploads → (n == 0) ≡ false
    → table ≢ no_uploads
isnt_no_uploads uploads opened n table is len h same =
    let none = len ∙ ap (λ (t : UploadTable). map.len t.uploads) (is ∙ same) ∙ len-empty nat_cmp OpenUpload in
    cc (h, eq-eqb n 0 none)
