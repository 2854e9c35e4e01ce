-- A manifest that was pushed is pulled as it was.
use Rattle.std.proofs.Common.{◌≡◌, ◌⊎◌, inl, inr, ℕ, Bool, true, false, not, List, [], Option, Some, None, refl, sym, ap, subst, ◌∙◌, if◌then◌else◌}
use Rattle.std.specs.Prelude.{option_and_then, option_map}
use Rattle.std.specs.FinMap as finite
use Rattle.std.specs.Str.{bytes_eq}
use Rattle.std.proofs.lemmas.Slice.Eq.{bytes_eq-Decides}
use Rattle.sha2.specs.Sha256.{sha256}
use Rattle.zot_maps.proofs.Maps.{byte_order, get_here}
use Rattle.zot_media.specs.Manifest.{reading}
use Rattle.zot_media.specs.References.{needed}
use Rattle.zot_media.specs.declared.media.Media.{Media}
use Rattle.zot_media.specs.declared.reading.Reading.{Reading}
use Rattle.zot_media.specs.declared.reference.Reference.{Reference}
use Rattle.zot_media.specs.declared.reference.Reference.TheVariants as by
use Rattle.zot_model.specs.declared.call.Call.TheVariants as calls
use Rattle.zot_model.specs.declared.reply.Reply.{Reply}
use Rattle.zot_model.specs.declared.reply.Reply.TheVariants.{Manifest, ManifestMade}
use Rattle.zot_model.specs.Manifests.{Found, first_missing, manifest_at, manifest_of}
use Rattle.zot_model.specs.Outcomes.{Outcome}
use Rattle.zot_model.specs.Plain.{plain}
use Rattle.zot_model.specs.PlainManifests.{get_found, is_other, put_checked, put_read, with_manifest}
use Rattle.zot_model.specs.State.{RepoState, Stored, StoredManifest, StoredTag}

abbrev made_digest : Reply → List ℕ
made_digest (ManifestMade digest subject) = digest
made_digest _ = []

taken : (b : Bool) (x y : Outcome) → b ≡ true → (if b then x else y) ≡ x
taken true x y h = refl
taken false x y h = cc h

not_taken : (b : Bool) (x y : Outcome) → b ≡ false → (if b then x else y) ≡ y
not_taken true x y h = cc h
not_taken false x y h = refl

module _ (moment : ℕ) (repo : RepoState) (reference : Reference) (media : Media) (body digest : List ℕ) (subject : Option (List ℕ)) where
  -- the repository with the manifest
  abbrev put_repo : RepoState
  put_repo = with_manifest moment repo reference (sha256 body) media body

  -- what a put leads to that succeeds
  record HasPut (outcome : Outcome) : Type 0 where
    repo_is : outcome.repo ≡ put_repo
    digest_is : sha256 body ≡ digest
    own : is_other reference (sha256 body) ≡ false

  checked_puts : (read : Reading) (missing : Option (List ℕ)) (outcome : Outcome) → is_other reference (sha256 body) ≡ false
      → put_checked moment repo reference (sha256 body) media body read missing ≡ outcome → outcome.reply ≡ ManifestMade digest subject → HasPut outcome
  checked_puts read (Some missing) outcome own is made = cc (ap (λ (o : Outcome). o.reply) is, made)
  checked_puts read None outcome own is made = record {
    repo_is = ap (λ (o : Outcome). o.repo) (sym is);
    digest_is = ap (λ (o : Outcome). made_digest o.reply) is ∙ ap made_digest made;
    own = own;
  }

  tested_puts : (read : Reading) (b : Bool) (outcome : Outcome) → is_other reference (sha256 body) ≡ b → put_read moment repo reference media body (Some read) ≡ outcome → outcome.reply ≡ ManifestMade digest subject → HasPut outcome
  tested_puts read true outcome e is made = cc (ap (λ (o : Outcome). o.reply) (sym (taken (is_other reference (sha256 body)) _ _ e) ∙ is), made)
  tested_puts read false outcome e is made = checked_puts read (first_missing (finite.contains_key repo.blobs) (needed read)) outcome e (sym (not_taken (is_other reference (sha256 body)) _ _ e) ∙ is) made

  read_puts : (read : Option Reading) (outcome : Outcome) → put_read moment repo reference media body read ≡ outcome → outcome.reply ≡ ManifestMade digest subject → HasPut outcome
  read_puts None outcome is made = cc (ap (λ (o : Outcome). o.reply) is, made)
  read_puts (Some read) outcome is made = tested_puts read (is_other reference (sha256 body)) outcome refl is made

  abbrev found : Found
  found = record { digest = sha256 body; media = media; bytes = body }

  at_digest : manifest_at put_repo (sha256 body) ≡ Some found
  at_digest =
      ap (option_and_then (λ (m : StoredManifest). option_map (λ (s : Stored). record { digest = sha256 body; media = m.media; bytes = s.bytes }) (finite.get put_repo.blobs (sha256 body))))
      (get_here byte_order repo.manifests (sha256 body) (record { media = media; arrived = moment }))
      ∙ ap (option_map (λ (s : Stored). record { digest = sha256 body; media = media; bytes = s.bytes })) (get_here byte_order repo.blobs (sha256 body) (record { bytes = body; arrived = moment }))

is_same : (b : Bool) → not b ≡ false → b ≡ true
is_same true h = refl
is_same false h = cc h

-- the reference of the put finds the manifest
by_reference : (moment : ℕ) (repo : RepoState) (reference : Reference) (media : Media) (body : List ℕ) → is_other reference (sha256 body) ≡ false
    → manifest_of (with_manifest moment repo reference (sha256 body) media body) reference ≡ Some (record { digest = sha256 body; media = media; bytes = body })
by_reference moment repo (by.Digest other) media body own =
    ap (manifest_at (with_manifest moment repo (by.Digest other) (sha256 body) media body)) ((bytes_eq-Decides other (sha256 body)).0 (is_same (bytes_eq other (sha256 body)) own))
    ∙ at_digest moment repo (by.Digest other) media body [] None
by_reference moment repo (by.Tag tag) media body own =
    ap (λ (tagged : Option StoredTag). option_and_then (manifest_at (with_manifest moment repo (by.Tag tag) (sha256 body) media body)) (option_map (λ (stored : StoredTag). stored.digest) tagged))
    (get_here byte_order repo.tags tag (record { digest = sha256 body; pushed = moment; pulls = 0; pulled = 0 }))
    ∙ at_digest moment repo (by.Tag tag) media body [] None

-- so does the digest
by_either : (moment : ℕ) (repo : RepoState) (reference asked : Reference) (media : Media) (body : List ℕ) → is_other reference (sha256 body) ≡ false → (asked ≡ reference) ⊎ (asked ≡ by.Digest (sha256 body))
    → manifest_of (with_manifest moment repo reference (sha256 body) media body) asked ≡ Some (record { digest = sha256 body; media = media; bytes = body })
by_either moment repo reference asked media body own (inl is) = ap (manifest_of (with_manifest moment repo reference (sha256 body) media body)) is ∙ by_reference moment repo reference media body own
by_either moment repo reference asked media body own (inr is) = ap (manifest_of (with_manifest moment repo reference (sha256 body) media body)) is ∙ at_digest moment repo reference media body [] None

pub pulled_as_put : (moment later : ℕ) (repo : RepoState) (reference asked : Reference) (media : Media) (body digest : List ℕ) (subject : Option (List ℕ))
    → (plain moment repo (calls.PutManifest reference (Some media) body)).reply ≡ ManifestMade digest subject → (asked ≡ reference) ⊎ (asked ≡ by.Digest digest)
    → (plain later (plain moment repo (calls.PutManifest reference (Some media) body)).repo (calls.GetManifest asked)).reply ≡ Manifest digest media body
unfolding plain
pulled_as_put moment later repo reference asked media body digest subject made is =
    let outcome = put_read moment repo reference media body (reading media body) in
    let put = read_puts moment repo reference media body digest subject (reading media body) outcome refl made in
    let after = with_manifest moment repo reference (sha256 body) media body in
    ap (λ (r : RepoState). (get_found later r asked (manifest_of r asked)).reply) put.repo_is
    ∙ ap (λ (found : Option Found). (get_found later after asked found).reply) (by_either moment repo reference asked media body put.own (subst (λ d. (asked ≡ reference) ⊎ (asked ≡ by.Digest d)) (sym put.digest_is) is))
    ∙ ap (λ d. Manifest d media body) put.digest_is
