-- The paths of digests' objects: where they are cut, and that each is of one digest and one repository.
use Rattle.std.proofs.Common.{◌≡◌, ◌≢◌, ℕ, suc, ◌<◌, ◌/◌, ◌%◌, ◌==◌, inl, inr, Bool, true, false, not, List, [], ◌∷◌, ◌++◌, length, drop, get_or, slice_index, Option, Some, None, refl, sym, ap, subst, ◌∙◌, arith, append_assoc, codes, lit<}
use Rattle.std.specs.List.{AllByRecursion}
use Rattle.std.specs.Str.{bytes_eq}
use Rattle.std.specs.Str.Pattern.{FindsTextSuffix, RFindsChar, SplitsAroundMatch, StripsSuffix}
use Rattle.std.proofs.lemmas.Bool.{cases_lt, true≢false}
use Rattle.std.proofs.lemmas.List.{append_cancel_left, append_cancel_right, get_or_past, take-append-drop}
use Rattle.std.proofs.lemmas.Slice.Eq.{bytes_eq-Decides}
use Rattle.std.proofs.lemmas.Str.Pattern.{NoCharPasses-char, drop_at_char}
use Rattle.hex.specs.Hex.{encode_lower, encode_with, lower_digits}
use Rattle.zot_digest.specs.Digest.{IsDigest, digest_text}
use Rattle.zot_digest.proofs.DigestLemmas.{passes-at}
use Rattle.zot_links.specs.Meaning.{object_path, record_path}
use Rattle.zot_names.specs.Name.{IsName}
use Rattle.zot_contents.specs.Places.{IsDigestOf, IsPlace, IsPlaceOf, path_of}

-- ---- texts without a slash

abbrev pub IsPlain : List ℕ → Type 0
IsPlain text = AllByRecursion (λ b. b ≢ 47) text

plain_by_index : (text : List ℕ) → ((i : ℕ) → i < length text → get_or text i 0 ≢ 47) → IsPlain text
plain_by_index [] h = tt
plain_by_index (b ∷ text) h = (h 0 (omega arith), plain_by_index text (λ i inside. h (suc i) (omega (arith, inside))))

not_after : (front rest : List ℕ) → ¬ IsPlain (front ++ 47 ∷ rest)
not_after [] rest h = h.0 refl
not_after (b ∷ front) rest h = not_after front rest h.1

-- digits are none
no_slash : (d : ℕ) → slice_index lower_digits d ≢ 47
no_slash d is =
    elim (cases_lt d 16) [
      | inl below ↦ cc (sym (passes-at (λ k. not (slice_index lower_digits k == 47)) 16 d refl below) ∙ ap (λ c. not (c == 47)) is)
      | inr above ↦ cc (sym (get_or_past lower_digits d 0 above) ∙ is)
    ]

pub digits_plain : (bytes : List ℕ) → IsPlain (encode_lower bytes)
unfolding encode_with
digits_plain [] = tt
digits_plain (b ∷ bytes) = (no_slash (b / 16), (no_slash (b % 16), digits_plain bytes))

-- ---- a path cut at its last slash

pub cut_path : (path folder digits : List ℕ) → SplitsAroundMatch (RFindsChar 47) path folder digits → (path ≡ folder ++ 47 ∷ digits) × IsPlain digits
cut_path path folder digits cut =
    let low : 47 < 128 = lit< tt in
    let rest : drop cut.0 path ≡ 47 ∷ digits = drop_at_char 47 path cut.0 cut.1 cut.2.1 low ∙ ap (λ l. 47 ∷ l) (sym cut.4) in (
      sym (take-append-drop cut.0 path) ∙ ap (λ l. l ++ drop cut.0 path) (sym cut.3) ∙ ap (λ l. folder ++ l) rest,
      subst IsPlain (sym cut.4) (plain_by_index (drop cut.1 path) (λ i inside. NoCharPasses-char 47 (drop cut.1 path) i cut.2.0 low inside)),
    )

pub uncut_path : (path : List ℕ) → RFindsChar 47 path None → IsPlain path
uncut_path path none = plain_by_index path (λ i inside. NoCharPasses-char 47 path i none (lit< tt) inside)

-- a path has one last slash
one_cut : (folder other digits beside : List ℕ) → IsPlain digits → IsPlain beside → folder ++ 47 ∷ digits ≡ other ++ 47 ∷ beside → (folder ≡ other) × (digits ≡ beside)
one_cut [] [] digits beside plain also is = let tail : digits ≡ beside = cc is in (refl, tail)
one_cut [] (c ∷ other) digits beside plain also is =
    let tail : digits ≡ other ++ 47 ∷ beside = cc is in absurd (not_after other beside (subst IsPlain tail plain))
one_cut (c ∷ folder) [] digits beside plain also is =
    let tail : folder ++ 47 ∷ digits ≡ beside = cc is in absurd (not_after folder digits (subst IsPlain (sym tail) also))
one_cut (c ∷ folder) (d ∷ other) digits beside plain also is =
    let head : c ≡ d = cc is in
    let tail : folder ++ 47 ∷ digits ≡ other ++ 47 ∷ beside = cc is in
    let rest = one_cut folder other digits beside plain also tail in
    (ap (λ h. h ∷ folder) head ∙ ap (λ r. d ∷ r) rest.0, rest.1)

-- the folder is that of the records, or another
pub same_folder : (folder text : List ℕ) (test : Bool) → test ≡ bytes_eq folder text → test ≡ true → folder ≡ text
same_folder folder text test is same = (bytes_eq-Decides folder text).0 (sym is ∙ same)

pub other_folder : (folder text : List ℕ) (test : Bool) → test ≡ bytes_eq folder text → test ≡ false → folder ≢ text
other_folder folder text test is apart same = true≢false (sym ((bytes_eq-Decides folder text).1 same) ∙ sym is ∙ apart)

-- a text with this end
stripped : (folder text : List ℕ) → StripsSuffix (FindsTextSuffix (codes "/blobs/sha256")) folder text → folder ≡ text ++ codes "/blobs/sha256"
stripped folder text h = h.1.1 ∙ ap (λ front. front ++ codes "/blobs/sha256") (sym h.2)

-- ---- the digits of digests

pub digits_of_text : (digits digest text : List ℕ) → text ≡ codes "sha256:" ++ digits → text ≡ digest_text digest → digits ≡ encode_lower digest
unfolding digest_text
digits_of_text digits digest text spelled named = append_cancel_left (codes "sha256:") digits (encode_lower digest) (sym spelled ∙ named)

pub no_digits : (digits text : List ℕ) → text ≡ codes "sha256:" ++ digits → ((digest : List ℕ) → IsDigest digest → text ≢ digest_text digest) → IsDigestOf digits None
unfolding digest_text
no_digits digits text spelled none digest is same = none digest is (spelled ∙ ap (λ d. codes "sha256:" ++ d) same)

-- ---- the paths of a digest's objects

-- the folder of a repository's objects, or that of the records
abbrev pub folder_of : Option (List ℕ) → List ℕ
folder_of None = codes "_cache/sha256"
folder_of (Some name) = name ++ codes "/blobs/sha256"

pub path_cut : (digest : List ℕ) (name : Option (List ℕ)) → path_of digest name ≡ folder_of name ++ 47 ∷ encode_lower digest
unfolding object_path record_path
path_cut digest None = refl
path_cut digest (Some name) = append_assoc name (codes "/blobs/sha256/") (encode_lower digest) ∙ sym (append_assoc name (codes "/blobs/sha256") (47 ∷ encode_lower digest))

-- a place whose path was cut lies in its folder, and has its digits
placed : (path folder digits digest : List ℕ) (name : Option (List ℕ)) → path ≡ folder ++ 47 ∷ digits → IsPlain digits → IsPlace path digest name → (folder ≡ folder_of name) × (digits ≡ encode_lower digest)
placed path folder digits digest name cut plain is =
    one_cut folder (folder_of name) digits (encode_lower digest) plain (digits_plain digest) (sym cut ∙ is.spelled ∙ path_cut digest name)

-- there is none where the path has no slash, or where its last part isn't digits
pub none_uncut : (path : List ℕ) → IsPlain path → IsPlaceOf path None
none_uncut path plain digest name is = not_after (folder_of name) (encode_lower digest) (subst IsPlain (is.spelled ∙ path_cut digest name) plain)

pub none_named : (path folder digits : List ℕ) → path ≡ folder ++ 47 ∷ digits → IsPlain digits → IsDigestOf digits None → IsPlaceOf path None
none_named path folder digits cut plain none digest name is = none digest is.is_digest (placed path folder digits digest name cut plain is).1

-- nor where the folder is neither that of the records nor a repository's
none_folder : (folder digest : List ℕ) → folder ≢ codes "_cache/sha256" → ((name : List ℕ) → IsName name → folder ≢ name ++ codes "/blobs/sha256")
    → IsPlaceOf (folder ++ 47 ∷ encode_lower digest) None
none_folder folder digest cache named other None is = cache (placed _ folder (encode_lower digest) other None refl (digits_plain digest) is).0
none_folder folder digest cache named other (Some name) is = named name is.named (placed _ folder (encode_lower digest) other (Some name) refl (digits_plain digest) is).0

pub none_suffix : (folder digest : List ℕ) → folder ≢ codes "_cache/sha256" → FindsTextSuffix (codes "/blobs/sha256") folder None → IsPlaceOf (folder ++ 47 ∷ encode_lower digest) None
none_suffix folder digest cache none = none_folder folder digest cache (λ name _ is. none name is)

pub none_name : (folder text digest : List ℕ) → folder ≢ codes "_cache/sha256" → StripsSuffix (FindsTextSuffix (codes "/blobs/sha256")) folder text → ¬ IsName text
    → IsPlaceOf (folder ++ 47 ∷ encode_lower digest) None
none_name folder text digest cache strips bad = none_folder folder digest cache (λ name named is. bad (subst IsName (append_cancel_right name text (codes "/blobs/sha256") (sym is ∙ stripped folder text strips)) named))

-- the places that there are
pub record_there : (folder digest : List ℕ) → IsDigest digest → folder ≡ codes "_cache/sha256" → IsPlace (folder ++ 47 ∷ encode_lower digest) digest None
record_there folder digest is cache = record { is_digest = is; named = tt; spelled = ap (λ f. f ++ 47 ∷ encode_lower digest) cache ∙ sym (path_cut digest None) }

pub object_there : (folder text name digest : List ℕ) → IsDigest digest → IsName text → name ≡ text → StripsSuffix (FindsTextSuffix (codes "/blobs/sha256")) folder text
    → IsPlace (folder ++ 47 ∷ encode_lower digest) digest (Some name)
object_there folder text name digest is named same strips = record {
  is_digest = is;
  named = subst IsName (sym same) named;
  spelled = ap (λ f. f ++ 47 ∷ encode_lower digest) (stripped folder text strips ∙ ap (λ t. t ++ codes "/blobs/sha256") (sym same)) ∙ sym (path_cut digest (Some name));
}
