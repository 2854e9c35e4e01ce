-- A path has at most one form.
use Rattle.std.proofs.Common.{◌≡◌, ◌≢◌, ℕ, Bool, true, false, inl, inr, Some, None, List, [], ◌∷◌, ◌++◌, refl, sym, ap, subst, ◌∙◌, codes, reverse}
use Rattle.std.proofs.lemmas.Bool.{false_from_ne_true}
use Rattle.std.proofs.lemmas.List.{reverse-append, reverse-reverse}
use Rattle.std.specs.Prelude.{Option, MatchOption, ◌&&◌, ◌⊎◌, if◌then◌else◌}
use Rattle.std.proofs.lemmas.Slice.Eq.{bytes_eq-Decides}
use Rattle.std.specs.Str.{bytes_eq}
use Rattle.zot_route.specs.Ending.{Read, ends_in_two, ends_in_three, or_three, read_back}
use Rattle.zot_route.specs.Path.{IsAfterVersion, IsEnding, IsPath}
use Rattle.zot_route.specs.declared.form.Form.{Form}
use Rattle.zot_route.specs.declared.form.Form.TheVariants as forms

-- ---- texts that are the same, or aren't

same_texts : (xs ys : List ℕ) → bytes_eq xs ys ≡ true → xs ≡ ys
same_texts xs ys e = (bytes_eq-Decides xs ys).0 e

other_texts : (xs ys : List ℕ) → xs ≢ ys → bytes_eq xs ys ≡ false
other_texts xs ys n = false_from_ne_true (bytes_eq xs ys) (λ e. n (same_texts xs ys e))

-- ---- a path is read as what it is

read_two : (name : List (List ℕ)) (kind text : List ℕ)
    → read_back (reverse (name ++ kind ∷ text ∷ [])) ≡ or_three (ends_in_two name kind text) (reverse name) kind text
read_two name kind text =
    ap read_back (reverse-append name (kind ∷ text ∷ []))
    ∙ ap (λ n. or_three (ends_in_two n kind text) (reverse name) kind text) (reverse-reverse name)

read_three : (name : List (List ℕ)) (kind middle text : List ℕ) → ((front : List (List ℕ)) → ends_in_two front middle text ≡ None)
    → read_back (reverse (name ++ kind ∷ middle ∷ text ∷ [])) ≡ ends_in_three name kind middle text
read_three name kind middle text none =
    ap read_back (reverse-append name (kind ∷ middle ∷ text ∷ []))
    ∙ ap (λ r. or_three r (kind ∷ reverse name) middle text) (none (reverse (kind ∷ reverse name)))
    ∙ ap (λ n. ends_in_three n kind middle text) (reverse-reverse name)

uploads_alone : (text : List ℕ) (front : List (List ℕ)) → ends_in_two front (codes "uploads") text ≡ None
unfolding ends_in_two
uploads_alone text front = refl

manifest_two : (name : List (List ℕ)) (text : List ℕ) → ends_in_two name (codes "manifests") text ≡ Some (forms.Manifest, name, text)
unfolding ends_in_two
manifest_two name text = refl

referrers_two : (name : List (List ℕ)) (text : List ℕ) → ends_in_two name (codes "referrers") text ≡ Some (forms.Referrers, name, text)
unfolding ends_in_two
referrers_two name text = refl

tags_two : (name : List (List ℕ)) → ends_in_two name (codes "tags") (codes "list") ≡ Some (forms.Tags, name, [])
unfolding ends_in_two
tags_two name = refl

uploads_two : (name : List (List ℕ)) → ends_in_two name (codes "blobs") (codes "uploads") ≡ Some (forms.Uploads, name, [])
unfolding ends_in_two
uploads_two name = refl

blob_two : (name : List (List ℕ)) (text : List ℕ) → bytes_eq text (codes "uploads") ≡ false → ends_in_two name (codes "blobs") text ≡ Some (forms.Blob, name, text)
unfolding ends_in_two
blob_two name text e = rw e refl

uploads_three : (name : List (List ℕ)) → ends_in_three name (codes "blobs") (codes "uploads") [] ≡ Some (forms.Uploads, name, [])
unfolding ends_in_three
uploads_three name = refl

upload_three : (name : List (List ℕ)) (text : List ℕ) → text ≢ [] → ends_in_three name (codes "blobs") (codes "uploads") text ≡ Some (forms.Upload, name, text)
unfolding ends_in_three
upload_three name [] n = absurd (n refl)
upload_three name (c ∷ text) n = refl

-- a path whose last two segments say its form
by_two : (name rest : List (List ℕ)) (kind text : List ℕ) (read : Read) → rest ≡ kind ∷ text ∷ [] → ends_in_two name kind text ≡ Some read
    → read_back (reverse (name ++ rest)) ≡ Some read
by_two name rest kind text read e f =
    ap (λ r. read_back (reverse (name ++ r))) e ∙ read_two name kind text ∙ ap (λ r. or_three r (reverse name) kind text) f

-- a path of an upload
by_three : (name rest : List (List ℕ)) (text : List ℕ) (read : Read) → rest ≡ codes "blobs" ∷ codes "uploads" ∷ text ∷ []
    → ends_in_three name (codes "blobs") (codes "uploads") text ≡ Some read → read_back (reverse (name ++ rest)) ≡ Some read
by_three name rest text read e f =
    ap (λ r. read_back (reverse (name ++ r))) e ∙ read_three name (codes "blobs") (codes "uploads") text (uploads_alone text) ∙ f

-- a path of no name
by_none : (name rest : List (List ℕ)) (text : List ℕ) → name ≡ [] → text ≡ [] → (rest ≡ []) ⊎ (rest ≡ [] ∷ [])
    → read_back (reverse (name ++ rest)) ≡ Some (forms.Base, name, text)
by_none name rest text a b (inl e) = rw (a, b, e) refl
by_none name rest text a b (inr e) = rw (a, b, e) refl

no_text : (form : Form) (name rest : List (List ℕ)) (text : List ℕ) → text ≡ [] → read_back (reverse (name ++ rest)) ≡ Some (form, name, [])
    → read_back (reverse (name ++ rest)) ≡ Some (form, name, text)
no_text form name rest text e f = f ∙ ap (λ (t : List ℕ). Some (form, name, t)) (sym e)

by_form : (form : Form) (name rest : List (List ℕ)) (text : List ℕ) → IsEnding form name text rest → read_back (reverse (name ++ rest)) ≡ Some (form, name, text)
by_form forms.Base name rest text (a, b, e) = by_none name rest text a b e
by_form forms.Tags name rest text (a, e) = no_text forms.Tags name rest text a (by_two name rest (codes "tags") (codes "list") _ e (tags_two name))
by_form forms.Referrers name rest text e = by_two name rest (codes "referrers") text _ e (referrers_two name text)
by_form forms.Manifest name rest text e = by_two name rest (codes "manifests") text _ e (manifest_two name text)
by_form forms.Uploads name rest text (a, inl e) = no_text forms.Uploads name rest text a (by_two name rest (codes "blobs") (codes "uploads") _ e (uploads_two name))
by_form forms.Uploads name rest text (a, inr e) = no_text forms.Uploads name rest text a (by_three name rest [] _ e (uploads_three name))
by_form forms.Upload name rest text (n, e) = by_three name rest text _ e (upload_three name text n)
by_form forms.Blob name rest text (n, e) = by_two name rest (codes "blobs") text _ e (blob_two name text (other_texts text (codes "uploads") n))

pub read_as : (after : List (List ℕ)) (form : Form) (name : List (List ℕ)) (text : List ℕ) → IsAfterVersion after form name text
    → read_back (reverse after) ≡ Some (form, name, text)
read_as after form name text h = ap (λ b. read_back (reverse b)) h.spelled ∙ by_form form name h.ending text h.ends

-- ---- what is read is a path

abbrev IsRead : List (List ℕ) → Read → Type 0
IsRead after read = IsAfterVersion after read.0 read.1 read.2

module _ (name : List (List ℕ)) (kind text : List ℕ) (read : Read) where
  end_two : (form : Form) (words : List ℕ) → (form, name, words) ≡ read → IsEnding form name words (kind ∷ text ∷ []) → IsRead (name ++ kind ∷ text ∷ []) read
  end_two form words e is = subst (IsRead (name ++ kind ∷ text ∷ [])) e (record { ending = kind ∷ text ∷ []; ends = is; spelled = refl })

  pair_is : (first second : List ℕ) → kind ≡ first → text ≡ second → kind ∷ text ∷ [] ≡ first ∷ second ∷ []
  pair_is first second e f = ap (λ k. k ∷ text ∷ []) e ∙ ap (λ t. first ∷ t ∷ []) f

  tags_by : (d l : Bool) → (if d && l then Some (forms.Tags, name, []) else None) ≡ Some read
      → (d ≡ true → kind ≡ codes "tags") → (l ≡ true → text ≡ codes "list") → IsRead (name ++ kind ∷ text ∷ []) read
  tags_by true true e f g = end_two forms.Tags [] (cc e) (refl, pair_is (codes "tags") (codes "list") (f refl) (g refl))
  tags_by true false e f g = cc e
  tags_by false l e f g = cc e

  blobs_by : (u : Bool) → (if u then Some (forms.Uploads, name, []) else Some (forms.Blob, name, text)) ≡ Some read
      → kind ≡ codes "blobs" → (u ≡ true → text ≡ codes "uploads") → (u ≡ false → text ≢ codes "uploads") → IsRead (name ++ kind ∷ text ∷ []) read
  blobs_by true e f g h = end_two forms.Uploads [] (cc e) (refl, inl (pair_is (codes "blobs") (codes "uploads") f (g refl)))
  blobs_by false e f g h = end_two forms.Blob text (cc e) (h refl, pair_is (codes "blobs") text f refl)

  other_if : (b : Bool) (P : Type 0) → (P → b ≡ true) → b ≡ false → ¬ P
  other_if b P to e p = let t = to p in cc (t, e)

  two_by : (m r b : Bool) → (if m then Some (forms.Manifest, name, text) else if r then Some (forms.Referrers, name, text)
      else if b then (if bytes_eq text (codes "uploads") then Some (forms.Uploads, name, []) else Some (forms.Blob, name, text))
      else if bytes_eq kind (codes "tags") && bytes_eq text (codes "list") then Some (forms.Tags, name, []) else None) ≡ Some read
      → (m ≡ true → kind ≡ codes "manifests") → (r ≡ true → kind ≡ codes "referrers") → (b ≡ true → kind ≡ codes "blobs") → IsRead (name ++ kind ∷ text ∷ []) read
  two_by true r b e f g h = end_two forms.Manifest text (cc e) (pair_is (codes "manifests") text (f refl) refl)
  two_by false true b e f g h = end_two forms.Referrers text (cc e) (pair_is (codes "referrers") text (g refl) refl)
  two_by false false true e f g h =
      blobs_by (bytes_eq text (codes "uploads")) e (h refl) (same_texts text (codes "uploads"))
      (other_if (bytes_eq text (codes "uploads")) (text ≡ codes "uploads") (bytes_eq-Decides text (codes "uploads")).1)
  two_by false false false e f g h =
      tags_by (bytes_eq kind (codes "tags")) (bytes_eq text (codes "list")) e (same_texts kind (codes "tags")) (same_texts text (codes "list"))

  two_sound : ends_in_two name kind text ≡ Some read → IsRead (name ++ kind ∷ text ∷ []) read
  unfolding ends_in_two
  two_sound e =
      two_by (bytes_eq kind (codes "manifests")) (bytes_eq kind (codes "referrers")) (bytes_eq kind (codes "blobs")) e
      (same_texts kind (codes "manifests")) (same_texts kind (codes "referrers")) (same_texts kind (codes "blobs"))

module _ (name : List (List ℕ)) (kind middle : List ℕ) (read : Read) where
  triple_is : (text : List ℕ) → kind ≡ codes "blobs" → middle ≡ codes "uploads" → kind ∷ middle ∷ text ∷ [] ≡ codes "blobs" ∷ codes "uploads" ∷ text ∷ []
  triple_is text e f = ap (λ k. k ∷ middle ∷ text ∷ []) e ∙ ap (λ m. codes "blobs" ∷ m ∷ text ∷ []) f

  three_by : (b u : Bool) (text : List ℕ) → (if b && u then (if bytes_eq text [] then Some (forms.Uploads, name, []) else Some (forms.Upload, name, text)) else None) ≡ Some read
      → (b ≡ true → kind ≡ codes "blobs") → (u ≡ true → middle ≡ codes "uploads") → IsRead (name ++ kind ∷ middle ∷ text ∷ []) read
  three_by true true [] e f g =
      let same : (forms.Uploads, name, []) ≡ read = cc e in
      subst (IsRead (name ++ kind ∷ middle ∷ [] ∷ [])) same (record { ending = kind ∷ middle ∷ [] ∷ []; ends = (refl, inr (triple_is [] (f refl) (g refl))); spelled = refl })
  three_by true true (c ∷ text) e f g =
      let same : (forms.Upload, name, c ∷ text) ≡ read = cc e in
      subst (IsRead (name ++ kind ∷ middle ∷ (c ∷ text) ∷ [])) same
      (record { ending = kind ∷ middle ∷ (c ∷ text) ∷ []; ends = ((λ h. cc h), triple_is (c ∷ text) (f refl) (g refl)); spelled = refl })
  three_by true false text e f g = cc e
  three_by false u text e f g = cc e

  three_sound : (text : List ℕ) → ends_in_three name kind middle text ≡ Some read → IsRead (name ++ kind ∷ middle ∷ text ∷ []) read
  unfolding ends_in_three
  three_sound text e = three_by (bytes_eq kind (codes "blobs")) (bytes_eq middle (codes "uploads")) text e (same_texts kind (codes "blobs")) (same_texts middle (codes "uploads"))

or_sound : (two : Option Read) (more : List (List ℕ)) (middle text : List ℕ) (read : Read)
    → ((r : Read) → two ≡ Some r → IsRead (reverse more ++ middle ∷ text ∷ []) r) → or_three two more middle text ≡ Some read → IsRead (reverse (text ∷ middle ∷ more)) read
or_sound (Some r) more middle text read h e =
    subst (λ b. IsRead b read) (sym (reverse-append (text ∷ middle ∷ []) more)) (h read e)
or_sound None [] middle text read h e = cc e
or_sound None (kind ∷ more) middle text read h e =
    subst (λ b. IsRead b read) (sym (reverse-append (text ∷ middle ∷ kind ∷ []) more)) (three_sound (reverse more) kind middle read text e)

back_sound : (back : List (List ℕ)) (read : Read) → read_back back ≡ Some read → IsRead (reverse back) read
back_sound [] read e =
    let same : (forms.Base, [], []) ≡ read = cc e in
    subst (IsRead []) same (record { ending = []; ends = (refl, refl, inl refl); spelled = refl })
back_sound ([] ∷ []) read e =
    let same : (forms.Base, [], []) ≡ read = cc e in
    subst (IsRead ([] ∷ [])) same (record { ending = [] ∷ []; ends = (refl, refl, inr refl); spelled = refl })
back_sound ((c ∷ text) ∷ []) read e = cc e
back_sound (text ∷ kind ∷ more) read e =
    or_sound (ends_in_two (reverse more) kind text) more kind text read (λ r. two_sound (reverse more) kind text r) e

pub is_read : (after : List (List ℕ)) (read : Read) → read_back (reverse after) ≡ Some read → IsAfterVersion after read.0 read.1 read.2
is_read after read e = subst (λ b. IsRead b read) (reverse-reverse after) (back_sound (reverse after) read e)

-- ---- at most one

pub path_one : (segments : List (List ℕ)) (form other : Form) (name more : List (List ℕ)) (text words : List ℕ) → IsPath segments form name text → IsPath segments other more words
    → (form ≡ other) × (name ≡ more) × (text ≡ words)
path_one segments form other name more text words h k =
    let same : h.after ≡ k.after = cc (h.spelled, k.spelled) in
    let one = read_as h.after form name text h.is in
    let two = read_as k.after other more words k.is in
    let here : Read = (form, name, text) in
    let there : Read = (other, more, words) in
    let both : here ≡ there = cc (sym one ∙ ap (λ b. read_back (reverse b)) same ∙ two) in
    (ap (λ r. r.0) both, ap (λ r. r.1) both, ap (λ r. r.2) both)

pub path_read : (segments after : List (List ℕ)) (read : Option Read) → segments ≡ [] ∷ codes "v2" ∷ after → read ≡ read_back (reverse after)
    → MatchOption read ((form : Form) (name : List (List ℕ)) (text : List ℕ) → ¬ IsPath segments form name text) (λ path. IsPath segments path.0 path.1 path.2)
path_read segments after None e f = λ form name text h.
    let same : h.after ≡ after = cc (h.spelled, e) in
    let some = read_as h.after form name text h.is in
    let none = f ∙ ap (λ b. read_back (reverse b)) (sym same) ∙ some in
    cc none
path_read segments after (Some path) e f = record { after = after; spelled = e; is = is_read after path (sym f) }
