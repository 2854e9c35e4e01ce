-- The paths of a digest's objects and of its record are all different, so a call at one of them leaves the others.
use Rattle.std.proofs.Common.{◌≡◌, ◌≢◌, ℕ, List, [], ◌∷◌, ◌++◌, length, get_or, Option, Some, refl, sym, ap, ◌∙◌, arith}
use Rattle.std.specs.Prelude.{codes}
use Rattle.std.proofs.lemmas.List.{append_cancel_left, append_cancel_right, length-append}
use Rattle.hex.proofs.HexLemmas.{decode_sized-encode_lower, length-encode_with}
use Rattle.hex.specs.Hex.{decode_sized, encode_lower, lower_digits}
use Rattle.zot_digest.specs.Digest.{IsDigest}
use Rattle.zot_outside.specs.Objects.{ChangesAt, Objects}
use Rattle.zot_links.specs.Changes.{KeepsOthers, SetsObject, SetsRecord}
use Rattle.zot_links.specs.Meaning.{object_at, object_path, record_at, record_in, record_path}
use Rattle.zot_links.specs.declared.record_line.RecordLine.{RecordLine}

-- lists that are equal have equal parts, where their ends are as long
ends_alike : (xs ys s t : List ℕ) → length s ≡ length t → xs ++ s ≡ ys ++ t → (xs ≡ ys) × (s ≡ t)
ends_alike [] [] s t long e = (refl, e)
ends_alike [] (y ∷ ys) s t long e = let parts = length-append ys t in let whole = ap (length {A = ℕ}) e in absurd (omega (arith, parts, whole, long))
ends_alike (x ∷ xs) [] s t long e = let parts = length-append xs s in let whole = ap (length {A = ℕ}) e in absurd (omega (arith, parts, whole, long))
ends_alike (x ∷ xs) (y ∷ ys) s t long e =
    let head : x ≡ y = cc in
    let tail : xs ++ s ≡ ys ++ t = cc in
    let rest = ends_alike xs ys s t long tail in
    (ap (λ h. h ∷ xs) head ∙ ap (λ r. y ∷ r) rest.0, rest.1)

digits_long : (digest : List ℕ) → IsDigest digest → length (encode_lower digest) ≡ 64
digits_long digest is = let twice = length-encode_with lower_digits digest in omega (arith, twice, is.long)

same_long : (digest other : List ℕ) → IsDigest digest → IsDigest other → length (encode_lower digest) ≡ length (encode_lower other)
same_long digest other is also = digits_long digest is ∙ sym (digits_long other also)

-- digits are those of one digest
digits_one : (digest other : List ℕ) → IsDigest digest → IsDigest other → encode_lower digest ≡ encode_lower other → digest ≡ other
digits_one digest other is also e =
    let one = decode_sized-encode_lower digest 32 is.long is.bytes in
    let two = decode_sized-encode_lower other 32 also.long also.bytes in
    let same = ap (λ t. decode_sized t 32) e in
    cc

pub object_path_one : (digest other name beside : List ℕ) → IsDigest digest → IsDigest other → object_path digest name ≡ object_path other beside → (name ≡ beside) × (digest ≡ other)
unfolding object_path
object_path_one digest other name beside is also e =
    let parts = ends_alike (name ++ codes "/blobs/sha256/") (beside ++ codes "/blobs/sha256/") (encode_lower digest) (encode_lower other) (same_long digest other is also) e in
    (append_cancel_right name beside (codes "/blobs/sha256/") parts.0, digits_one digest other is also parts.1)

pub record_path_one : (digest other : List ℕ) → IsDigest digest → IsDigest other → record_path digest ≡ record_path other → digest ≡ other
unfolding record_path
record_path_one digest other is also e = digits_one digest other is also (append_cancel_left (codes "_cache/sha256/") (encode_lower digest) (encode_lower other) e)

no_folder : (name : List ℕ) → name ++ codes "/blobs/sha256/" ≢ codes "_cache/sha256/"
no_folder [] e = let head : 47 ≡ 95 = ap (λ t. get_or t 0 0) e in absurd (omega (arith, head))
no_folder (c ∷ name) e =
    let parts = length-append name (codes "/blobs/sha256/") in
    let whole = ap (length {A = ℕ}) e in
    absurd (omega (arith, parts, whole))

pub paths_apart : (digest other name : List ℕ) → IsDigest digest → IsDigest other → object_path digest name ≢ record_path other
unfolding object_path record_path
paths_apart digest other name is also e =
    no_folder name (ends_alike (name ++ codes "/blobs/sha256/") (codes "_cache/sha256/") (encode_lower digest) (encode_lower other) (same_long digest other is also) e).0

-- a call at an object's path
pub sets_object : (old new : Objects) (digest name : List ℕ) (object : Option (List ℕ)) → IsDigest digest → ChangesAt old (object_path digest name) object new → SetsObject old digest name object new
unfolding object_at record_at
sets_object old new digest name object is h = record {
  here = h.here;
  beside = λ other apart. h.others (object_path digest other) (λ e. apart (object_path_one digest digest other name is is e).0);
  lines = ap record_in (h.others (record_path digest) (λ e. paths_apart digest digest name is is (sym e)));
  elsewhere = λ other also apart. (
    λ beside. h.others (object_path other beside) (λ e. apart (object_path_one other digest beside name also is e).1),
    h.others (record_path other) (λ e. paths_apart digest other name is also (sym e)),
  );
}

-- a call at the record's path
pub sets_record : (old new : Objects) (digest : List ℕ) (object : Option (List ℕ)) (lines : List RecordLine) → IsDigest digest → record_in object ≡ Some lines
    → ChangesAt old (record_path digest) object new → SetsRecord old digest lines new
unfolding object_at record_at
sets_record old new digest object lines is says h = record {
  says = ap record_in h.here ∙ says;
  objects = λ name. h.others (object_path digest name) (λ e. paths_apart digest digest name is is e);
  elsewhere = λ other also apart. (
    λ beside. h.others (object_path other beside) (λ e. paths_apart other digest beside also is e),
    h.others (record_path other) (λ e. apart (record_path_one other digest also is e)),
  );
}

-- what was left is left after a further change
pub keeps_further : (old mid new : Objects) (digest : List ℕ) → KeepsOthers old digest mid → KeepsOthers mid digest new → KeepsOthers old digest new
keeps_further old mid new digest first second other is apart = (
  λ name. (second other is apart).0 name ∙ (first other is apart).0 name,
  (second other is apart).1 ∙ (first other is apart).1,
)
