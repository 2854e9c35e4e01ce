-- A path is owned in one way.
use Rattle.std.proofs.Common.{◌≡◌, ◌≢◌, ℕ, ◌%◌, ◌==◌, inl, inr, Bool, true, List, [], ◌∷◌, ◌++◌, length, drop, slice_index, Option, Some, None, refl, sym, ap, ◌∙◌, subst, arith, codes, IsAscii, length-append}
use Rattle.std.specs.Prelude.{IfOk, IsTrue, MatchOption, nat_lt, is_some, Result, Ok, Err}
use Rattle.std.specs.Borrow.{Bor}
use Rattle.std.specs.List.{list_all}
use Rattle.std.proofs.lemmas.Bool.{and_parts, eq-eqb, eqb-true, ltb-true}
use Rattle.std.proofs.lemmas.Str.Ascii.{IsAscii-cons, IsAscii-nil}
use Rattle.hex.proofs.HexLemmas.{IsAscii-encode_with, decode_of-encode_lower, length-encode_with}
use Rattle.hex.specs.Hex.{decode_of, encode_lower, lower_digits}
use Rattle.zot_digest.specs.Digest.{IsDigest, algorithm, digest_text}
use Rattle.zot_fakes.specs.Owners.{AreDigitsOf, IsCut, IsFolderOfCluster, IsFolderOfDigests, IsOfRepository, RowOwns, ShardOwns, index_path, marker_path}
use Rattle.zot_names.specs.Name.{IsName}
use Rattle.zot_siphash.specs.Owners.{row}
use Rattle.zot_siphash.specs.SipHash.{siphash}

-- of two ways to cut a text where as many bytes are left, one is the other
pub same_ends : (a b s t : List ℕ) → length s ≡ length t → a ++ s ≡ b ++ t → (a ≡ b) × (s ≡ t)
same_ends [] [] s t long is = (refl, is)
same_ends [] (y ∷ b) s t long is = absurd (omega (arith, long, ap length is, length-append (y ∷ b) t))
same_ends (x ∷ a) [] s t long is = absurd (omega (arith, long, ap length is, length-append (x ∷ a) s))
same_ends (x ∷ a) (y ∷ b) s t long is =
    let tails : a ++ s ≡ b ++ t = cc is in
    let rest = same_ends a b s t long tails in
    let heads : x ≡ y = cc is in
    (cc (rest.0, heads), rest.1)

-- a path is that of one repository
pub one_repository : (one other path : List ℕ) → IsOfRepository one path → IsOfRepository other path → one ≡ other
unfolding marker_path index_path
one_repository one other path h k =
    elim h.spelled [
      | inl a ↦ elim k.spelled [
        | inl b ↦ (same_ends one other (codes "/oci-layout") (codes "/oci-layout") refl (sym a ∙ b)).0
        | inr b ↦ (same_ends one other (codes "/oci-layout") (codes "/index.json") refl (sym a ∙ b)).0
      ]
      | inr a ↦ elim k.spelled [
        | inl b ↦ (same_ends one other (codes "/index.json") (codes "/oci-layout") refl (sym a ∙ b)).0
        | inr b ↦ (same_ends one other (codes "/index.json") (codes "/index.json") refl (sym a ∙ b)).0
      ]
    ]

-- a path that has no repository before one of the two ends has the one before the other
pub repository_by : (r : Option (Bor (List ℕ))) (path : List ℕ) → ((name : List ℕ) → IsName name → path ≢ name ++ codes "/oci-layout")
    → MatchOption r ((name : List ℕ) → IsName name → path ≢ name ++ codes "/index.json") (λ name. IsName name.now × (path ≡ name.now ++ codes "/index.json"))
    → MatchOption r ((name : List ℕ) → ¬ IsOfRepository name path) (λ name. IsOfRepository name.now path)
unfolding marker_path index_path
repository_by None path no_marker no_index =
    λ name h. elim h.spelled [ inl a ↦ no_marker name h.is_name a | inr b ↦ no_index name h.is_name b ]
repository_by (Some name) path no_marker found = record { is_name = found.0; spelled = inr found.1 }

-- whether the row of a path's repository is the one that is asked for
pub row_by : (key : List ℕ) (members number : ℕ) (path name : List ℕ) (found : ℕ) → IsOfRepository name path → found ≡ row (siphash key name) members
    → (IsTrue (found == number) → RowOwns key members number path) × (RowOwns key members number path → IsTrue (found == number))
row_by key members number path name found of is = (
  λ same. record { name = name; repository = of; row_is = sym is ∙ eqb-true found number same },
  λ h. eq-eqb found number (is ∙ ap (λ n. row (siphash key n) members) (one_repository name h.name path of h.repository) ∙ h.row_is),
)

-- the digits behind a digest's algorithm
digits_named : (digits digest text : List ℕ) → text ≡ codes "sha256:" ++ digits → text ≡ digest_text digest → digits ≡ encode_lower digest
unfolding digest_text
digits_named digits digest text a b = ap (λ t. drop 7 t) (sym a ∙ b)

pub named_by_digits : (digits digest text : List ℕ) → text ≡ codes "sha256:" ++ digits → digits ≡ encode_lower digest → text ≡ digest_text digest
unfolding digest_text
named_by_digits digits digest text a b = a ∙ ap (λ d. algorithm ++ d) b

-- digits are those of one digest
one_digest : (one other : List ℕ) → IsDigest one → IsDigest other → encode_lower one ≡ encode_lower other → one ≡ other
one_digest one other h k is =
    let same = ap decode_of is in
    let first = decode_of-encode_lower one h.bytes in
    let second = decode_of-encode_lower other k.bytes in
    cc (same, first, second)

-- whether the shard of a digest is the one that is asked for
pub shard_by : (text digits digest : List ℕ) (first shard : ℕ) → text ≡ codes "sha256:" ++ digits → text ≡ digest_text digest → IsDigest digest → first ≡ slice_index digest 0
    → (IsTrue (first % 16 == shard) → AreDigitsOf shard digits) × (AreDigitsOf shard digits → IsTrue (first % 16 == shard))
shard_by text digits digest first shard spelled named is first_is =
    let same = digits_named digits digest text spelled named in (
      λ asked. record { digest = digest; is_digest = is; spelled = same; shard_is = ap (λ f. f % 16) (sym first_is) ∙ eqb-true (first % 16) shard asked },
      λ h. eq-eqb (first % 16) shard (ap (λ f. f % 16) first_is ∙ ap (λ d. slice_index d 0 % 16) (one_digest digest h.digest is h.is_digest (sym same ∙ h.spelled)) ∙ h.shard_is),
    )

-- digits that name no digest are none of a shard
pub no_digits : (text digits : List ℕ) (shard : ℕ) → text ≡ codes "sha256:" ++ digits → ((digest : List ℕ) → IsDigest digest → text ≢ digest_text digest) → ¬ AreDigitsOf shard digits
no_digits text digits shard spelled none = λ h. none h.digest h.is_digest (named_by_digits digits h.digest text spelled h.spelled)

-- the digits of a digest are 64 bytes of ASCII
digits_long : (shard : ℕ) (digits : List ℕ) → AreDigitsOf shard digits → length digits ≡ 64
digits_long shard digits h = let long = length-encode_with lower_digits h.digest in ap length h.spelled ∙ omega (arith, h.is_digest.long)

ascii_by_test : (bs : List ℕ) → list_all (λ b. nat_lt b 128) bs ≡ true → IsAscii bs
ascii_by_test [] h = IsAscii-nil
ascii_by_test (b ∷ bs) h =
    let parts = and_parts (nat_lt b 128) (list_all (λ c. nat_lt c 128) bs) h in
    IsAscii-cons b bs (ltb-true b 128 parts.0) (ascii_by_test bs parts.1)

digits_ascii : (shard : ℕ) (digits : List ℕ) → AreDigitsOf shard digits → IsAscii digits
digits_ascii shard digits h = subst (λ d. IsAscii d) (sym h.spelled) (IsAscii-encode_with lower_digits h.digest (ascii_by_test lower_digits refl))

-- a path that was cut is the shard's exactly where its two parts are
pub owns_by_parts : (shard : ℕ) (path folder digits : List ℕ) → path ≡ folder ++ digits → length digits ≡ 64
    → ((IsFolderOfDigests folder × AreDigitsOf shard digits) → ShardOwns shard path) × (ShardOwns shard path → IsFolderOfDigests folder × AreDigitsOf shard digits)
owns_by_parts shard path folder digits is long = (
  λ h. record { folder = folder; digits = digits; of_digests = h.0; of_shard = h.1; spelled = is },
  λ h.
      let same = same_ends h.folder folder h.digits digits (digits_long shard h.digits h.of_shard ∙ sym long) (sym h.spelled ∙ is) in
      (subst (λ f. IsFolderOfDigests f) same.0 h.of_digests, subst (λ d. AreDigitsOf shard d) same.1 h.of_shard),
)

-- a path that can't be cut is no shard's
pub none_by_parts : (shard : ℕ) (path : List ℕ) → IsCut path None → ¬ ShardOwns shard path
none_by_parts shard path uncut = λ h. uncut h.folder h.digits (digits_long shard h.digits h.of_shard) (digits_ascii shard h.digits h.of_shard) h.spelled

-- a folder that isn't the cluster's has files of digests exactly where a repository stands before its end
pub folder_by : (r : Option (Bor (List ℕ))) (folder : List ℕ) (found : Bool) → found ≡ is_some r → ¬ IsFolderOfCluster folder
    → MatchOption r ((name : List ℕ) → IsName name → folder ≢ name ++ codes "/blobs/sha256/") (λ name. IsName name.now × (folder ≡ name.now ++ codes "/blobs/sha256/"))
    → (IsTrue found → IsFolderOfDigests folder) × (IsFolderOfDigests folder → IsTrue found)
folder_by None folder found is free none = (λ t. cc (t, is), λ h. elim h [ inl a ↦ absurd (free a) | inr k ↦ absurd (none k.0 k.1 k.2) ])
folder_by (Some name) folder found is free there = (λ t. inr (name.now, there.0, there.1), λ h. is)

-- a test of one fact is a test of another that holds in the same cases
pub same_test : {E P Q : Type 0} (r : Result Bool E) → (P → Q) × (Q → P) → IfOk r (λ b. (IsTrue b → P) × (P → IsTrue b)) → IfOk r (λ b. (IsTrue b → Q) × (Q → IsTrue b))
same_test (Ok b) same h = (λ t. same.0 (h.0 t), λ q. h.1 (same.1 q))
same_test (Err e) same h = tt
