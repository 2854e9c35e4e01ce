-- What a kept manifest needs stays, whatever is asked.
use Rattle.std.proofs.Common.{◌≡◌, ◌≢◌, ◌⊎◌, inl, inr, ℕ, Bool, true, false, cond, not, List, [], ◌∷◌, map, Option, Some, None, refl, sym, ap, subst, ◌∙◌, if◌then◌else◌, unwrap_or}
use Rattle.std.specs.Prelude.{◌||◌, ◌&&◌, IsSome, IsSomeAnd}
use Rattle.std.specs.FinMap as finite
use Rattle.std.specs.FinMap.{find, get-entries, get-insert}
use Rattle.std.specs.Cmp.Lexicographic.{nat_list_cmp_total}
use Rattle.std.specs.List.{filter, list_any}
use Rattle.std.specs.Ordering.{eq_by_cmp}
use Rattle.std.specs.Str.{bytes_eq}
use Rattle.std.proofs.lemmas.Bool.{true≢false}
use Rattle.std.proofs.lemmas.Slice.Eq.{bytes_eq-Decides}
use Rattle.sha2.specs.Sha256.{sha256}
use Rattle.zot_digest.specs.ByteMap.{ByteMap, byte_cmp}
use Rattle.zot_digest.specs.Digest.{is_sound}
use Rattle.zot_maps.proofs.Maps.{byte_order, removed_elsewhere, tied_keys}
use Rattle.zot_media.specs.Manifest.{reading}
use Rattle.zot_media.specs.References.{has_digest, needed, needed_of, refers}
use Rattle.zot_media.specs.declared.descriptor.Descriptor.{Descriptor}
use Rattle.zot_media.specs.declared.media.Media.{Media}
use Rattle.zot_media.specs.declared.reading.Reading.{Reading}
use Rattle.zot_media.specs.declared.reference.Reference.{Reference}
use Rattle.zot_media.specs.declared.reference.Reference.TheVariants as by
use Rattle.zot_model.specs.declared.call.Call.{Call}
use Rattle.zot_model.specs.declared.call.Call.TheVariants as calls
use Rattle.zot_model.specs.declared.reply.Reply.{Reply}
use Rattle.zot_model.specs.declared.span.Span.{Span}
use Rattle.zot_model.specs.Among.{IsAmong}
use Rattle.zot_model.specs.Ages.{is_aged}
use Rattle.zot_model.specs.Collections.{Gone, Retires, Rules, Sweeps, manifest_row, manifest_rows}
use Rattle.zot_model.specs.History.{Entry, Event, Happens, Step, asked, failed, lacked, mounted, named, retired, scrubbed, swept, swept_all}
use Rattle.zot_model.specs.Kept.{IsNeededBy, KeepsNeeded}
use Rattle.zot_model.specs.Manifests.{Found, first_missing, is_needed, is_referred, manifest_of, reading_at}
use Rattle.zot_model.specs.Mounts.{TakesOver}
use Rattle.zot_model.specs.Outcomes.{Outcome, with_blob}
use Rattle.zot_model.specs.Pieces.{goes_on, keeps_limit}
use Rattle.zot_model.specs.Plain.{Goes, MayAnswer, Rise, Stay, bodies_left, leavings, plain}
use Rattle.zot_model.specs.PlainBlobs.{delete_found}
use Rattle.zot_model.specs.PlainManifests.{get_found, head_found, is_other, put_checked, put_read}
use Rattle.zot_model.specs.PlainUploads.{at_found, if_taken, plain_finish, plain_patch, plain_state}
use Rattle.zot_model.specs.State.{RepoState, RowState, Stored, StoredManifest, repo_at}
use Rattle.zot_model.specs.Sweep.{holds, is_held}
use Rattle.zot_model.specs.Uploads.{OpenUpload, is_full}

-- ---- tests on lists and maps

either_true : (a b : Bool) → a ≡ true → (a || b) ≡ true
either_true true b h = refl
either_true false b h = cc h

or_true : (a b : Bool) → b ≡ true → (a || b) ≡ true
or_true true b h = refl
or_true false b h = h

or_false : (a b : Bool) → (a || b) ≡ false → b ≡ false
or_false true b h = cc h
or_false false b h = h

same_some : {A : Type 0} (x y : A) → Some x ≡ Some y → x ≡ y
same_some x y h = ap (λ o. unwrap_or o x) h

find_any : {X : Type 0} (test : List ℕ × X → Bool) (key : List ℕ) (x : X) (es : List (List ℕ × X)) → find byte_cmp key es ≡ Some x → test (key, x) ≡ true → list_any test es ≡ true
find_any test key x [] h passes = cc h
find_any test key x (e ∷ es) h passes =
    elim (eq_by_cmp byte_cmp key e.0) as (λ b. eq_by_cmp byte_cmp key e.0 ≡ b → cond b (Some e.1) (find byte_cmp key es) ≡ Some x → (test e || list_any test es) ≡ true) [
      | true ↦ λ tied is. either_true (test e) (list_any test es) (ap (λ k. test (k, e.1)) (sym (tied_keys byte_order key e.0 tied)) ∙ ap (λ y. test (key, y)) (same_some e.1 x is) ∙ passes)
      | false ↦ λ apart is. or_true (test e) (list_any test es) (find_any test key x es is passes)
    ] refl h

-- some entry of a map passes a test where the one of a key does
pub found_any : {X : Type 0} (test : List ℕ × X → Bool) (m : ByteMap X) (key : List ℕ) (x : X) → finite.get m key ≡ Some x → test (key, x) ≡ true → list_any test (finite.entries m) ≡ true
found_any test m key x h passes = find_any test key x (finite.entries m) (sym (get-entries m key) ∙ h) passes

-- ---- a needed reference is one that the manifest refers to

among_any : (reference : List ℕ) (descriptors : List Descriptor) → IsAmong (map (λ descriptor. descriptor.digest) descriptors) reference → has_digest reference descriptors ≡ true
among_any reference [] h = absurd h
among_any reference (d ∷ ds) (inl is) = either_true (bytes_eq d.digest reference) (has_digest reference ds) ((bytes_eq-Decides d.digest reference).1 (sym is))
among_any reference (d ∷ ds) (inr h) = or_true (bytes_eq d.digest reference) (has_digest reference ds) (among_any reference ds h)

among_layers : (reference : List ℕ) (layers : List Descriptor) → IsAmong (map (λ descriptor. descriptor.digest) (filter (λ layer. not layer.external) layers)) reference
    → IsAmong (map (λ descriptor. descriptor.digest) layers) reference
among_layers reference [] h = absurd h
among_layers reference (d ∷ ds) h =
    elim (not d.external) as (λ b. IsAmong (map (λ descriptor. descriptor.digest) (cond b (d ∷ filter (λ layer. not layer.external) ds) (filter (λ layer. not layer.external) ds))) reference
    → (reference ≡ d.digest) ⊎ IsAmong (map (λ descriptor. descriptor.digest) ds) reference) [
      | true ↦ λ k. elim k [ inl is ↦ inl is | inr l ↦ inr (among_layers reference ds l) ]
      | false ↦ λ k. inr (among_layers reference ds k)
    ] h

among_needed : (reference : List ℕ) (references : List Descriptor) → IsAmong (map (λ descriptor. descriptor.digest) (needed_of references)) reference → IsAmong (map (λ descriptor. descriptor.digest) references) reference
among_needed reference [] h = absurd h
among_needed reference (config ∷ layers) (inl is) = inl is
among_needed reference (config ∷ layers) (inr h) = inr (among_layers reference layers h)

pub needed_refers : (read : Reading) (reference : List ℕ) → IsAmong (needed read) reference → refers read reference ≡ true
unfolding needed refers
needed_refers read reference h = either_true (has_digest reference read.references) (has_digest reference read.children) (among_any reference read.references (among_needed reference read.references h))

needed_referred : (repo : RepoState) (digest reference : List ℕ) → IsNeededBy repo digest reference → is_referred repo reference ≡ true
needed_referred repo digest reference h =
    found_any (λ (entry : List ℕ × StoredManifest). refers (reading_at repo entry.0 entry.1) reference) repo.manifests digest h.manifest h.here (needed_refers (reading_at repo digest h.manifest) reference h.needs)

-- ---- what requests leave

-- each blob that was there is there still
abbrev KeepsBlobs : RepoState → RepoState → Type 0
KeepsBlobs old new = (reference : List ℕ) → IsSome (finite.get old.blobs reference) → IsSome (finite.get new.blobs reference)

by_blobs : (old new : RepoState) → KeepsBlobs old new → KeepsNeeded old new
by_blobs old new h digest reference needs kept has = h reference has

itself : (repo : RepoState) → KeepsNeeded repo repo
itself repo digest reference needs kept has = has

some_either : (b : Bool) (x : Stored) (found : Option Stored) → IsSome found → IsSome (cond b (Some x) found)
some_either true x found h = refl
some_either false x found h = h

put_keeps : (blobs : ByteMap Stored) (key : List ℕ) (x : Stored) (reference : List ℕ) → IsSome (finite.get blobs reference) → IsSome (finite.get (finite.insert blobs key x) reference)
put_keeps blobs key x reference h = subst (λ o. IsSome o) (sym (get-insert nat_list_cmp_total blobs key x reference)) (some_either (eq_by_cmp byte_cmp reference key) x (finite.get blobs reference) h)

blob_keeps : (moment : ℕ) (repo : RepoState) (digest bytes : List ℕ) → KeepsNeeded repo (with_blob moment repo digest bytes)
blob_keeps moment repo digest bytes = by_blobs repo (with_blob moment repo digest bytes) (put_keeps repo.blobs digest (record { bytes = bytes; arrived = moment }))

chosen : (old : RepoState) (b : Bool) (x y : Outcome) → KeepsNeeded old x.repo → KeepsNeeded old y.repo → KeepsNeeded old (if b then x else y).repo
chosen old true x y h k = h
chosen old false x y h k = k

delete_keeps : (repo : RepoState) (digest : List ℕ) (found : Option Stored) → KeepsNeeded repo (delete_found repo digest found).repo
delete_keeps repo digest None = itself repo
delete_keeps repo digest (Some stored) = by_need (is_needed repo digest) refl where
  by_need : (b : Bool) → is_needed repo digest ≡ b → KeepsNeeded repo (delete_found repo digest (Some stored)).repo
  by_need true is = rw is (itself repo)
  by_need false is = rw is (λ other reference needs kept has.
      let apart : reference ≢ digest = λ same. true≢false (sym (subst (λ r. is_referred repo r ≡ true) same (needed_referred repo other reference needs)) ∙ or_false (finite.contains_key repo.manifests digest) (is_referred repo digest) is) in
      subst (λ o. IsSome o) (sym (removed_elsewhere byte_order repo.blobs digest reference apart)) has)

found_keeps : (repo : RepoState) (outcome : OpenUpload → Outcome) (found : Option OpenUpload) → ((upload : OpenUpload) → KeepsNeeded repo (outcome upload).repo) → KeepsNeeded repo (at_found repo outcome found).repo
found_keeps repo outcome None h = itself repo
found_keeps repo outcome (Some upload) h = h upload

taken_keeps : (repo : RepoState) (id : ℕ) (upload : OpenUpload) (range : Option Span) (piece : List ℕ) (outcome : Outcome) → KeepsNeeded repo outcome.repo → KeepsNeeded repo (if_taken repo id upload range piece outcome).repo
taken_keeps repo id upload range piece outcome h =
    chosen repo (goes_on range _ _) _ _ (chosen repo (keeps_limit upload piece) _ _ h (itself repo)) (itself repo)

patch_keeps : (repo : RepoState) (range : Option Span) (piece : List ℕ) (id : ℕ) (found : Option OpenUpload) → KeepsNeeded repo (at_found repo (plain_patch repo range piece id) found).repo
patch_keeps repo range piece id found = found_keeps repo (plain_patch repo range piece id) found (λ upload. taken_keeps repo id upload range piece _ (λ digest reference needs kept has. has))

finish_keeps : (moment : ℕ) (repo : RepoState) (range : Option Span) (digest piece : List ℕ) (id : ℕ) (found : Option OpenUpload) → KeepsNeeded repo (at_found repo (plain_finish moment repo range digest piece id) found).repo
finish_keeps moment repo range digest piece id found =
    found_keeps repo (plain_finish moment repo range digest piece id) found (λ upload. taken_keeps repo id upload range piece _ (chosen repo (is_sound digest _) _ _ (λ other reference needs kept has. put_keeps repo.blobs digest _ reference has) (itself repo)))

state_keeps : (repo : RepoState) (id : ℕ) (found : Option OpenUpload) → KeepsNeeded repo (at_found repo (plain_state repo id) found).repo
state_keeps repo id found = found_keeps repo (plain_state repo id) found (λ upload. itself repo)

checked_keeps : (moment : ℕ) (repo : RepoState) (reference : Reference) (digest : List ℕ) (media : Media) (body : List ℕ) (read : Reading) (missing : Option (List ℕ))
    → KeepsNeeded repo (put_checked moment repo reference digest media body read missing).repo
checked_keeps moment repo reference digest media body read (Some missing) = itself repo
checked_keeps moment repo reference digest media body read None = λ other need needs kept has. put_keeps repo.blobs digest _ need has

put_keeps_needed : (moment : ℕ) (repo : RepoState) (reference : Reference) (media : Media) (body : List ℕ) (read : Option Reading) → KeepsNeeded repo (put_read moment repo reference media body read).repo
put_keeps_needed moment repo reference media body None = itself repo
put_keeps_needed moment repo reference media body (Some read) =
    chosen repo (is_other reference (sha256 body)) _ _ (itself repo)
    (checked_keeps moment repo reference (sha256 body) media body read (first_missing (finite.contains_key repo.blobs) (needed read)))

get_keeps : (moment : ℕ) (repo : RepoState) (reference : Reference) (found : Option Found) → KeepsNeeded repo (get_found moment repo reference found).repo
get_keeps moment repo reference None = itself repo
get_keeps moment repo reference (Some found) = λ digest need needs kept has. has

head_keeps : (repo : RepoState) (found : Option Found) → KeepsNeeded repo (head_found repo found).repo
head_keeps repo None = itself repo
head_keeps repo (Some found) = itself repo

plain_keeps : (moment : ℕ) (repo : RepoState) (call : Call) → KeepsNeeded repo (plain moment repo call).repo
unfolding plain
plain_keeps moment repo calls.Base = itself repo
plain_keeps moment repo (calls.GetBlob digest) = itself repo
plain_keeps moment repo (calls.HeadBlob digest) = itself repo
plain_keeps moment repo (calls.DeleteBlob digest) = delete_keeps repo digest (finite.get repo.blobs digest)
plain_keeps moment repo (calls.Post mount (Some digest) body) = chosen repo (is_sound digest body) _ _ (blob_keeps moment repo digest body) (itself repo)
plain_keeps moment repo (calls.Post mount None body) = chosen repo (is_full repo.sessions) _ _ (itself repo) (λ digest reference needs kept has. has)
plain_keeps moment repo (calls.Patch None range body) = itself repo
plain_keeps moment repo (calls.Patch (Some id) range body) = patch_keeps repo range body id (finite.get repo.sessions.uploads id)
plain_keeps moment repo (calls.Finish None range digest body) = itself repo
plain_keeps moment repo (calls.Finish (Some id) range digest body) = finish_keeps moment repo range digest body id (finite.get repo.sessions.uploads id)
plain_keeps moment repo (calls.UploadState None) = itself repo
plain_keeps moment repo (calls.UploadState (Some id)) = state_keeps repo id (finite.get repo.sessions.uploads id)
plain_keeps moment repo (calls.PutManifest reference None body) = itself repo
plain_keeps moment repo (calls.PutManifest reference (Some media) body) = put_keeps_needed moment repo reference media body (reading media body)
plain_keeps moment repo (calls.GetManifest reference) = get_keeps moment repo reference (manifest_of repo reference)
plain_keeps moment repo (calls.HeadManifest reference) = head_keeps repo (manifest_of repo reference)
plain_keeps moment repo (calls.DeleteManifest (by.Tag tag)) = chosen repo (finite.contains_key repo.tags tag) _ _ (λ digest reference needs kept has. has) (itself repo)
plain_keeps moment repo (calls.DeleteManifest (by.Digest digest)) = chosen repo (finite.contains_key repo.manifests digest) _ _ (λ other reference needs kept has. has) (itself repo)
plain_keeps moment repo (calls.Tags n last) = chosen repo repo.known _ _ (itself repo) (itself repo)
plain_keeps moment repo (calls.Referrers digest filter) = itself repo

-- ---- what want of memory leaves

left_keeps : (moment : ℕ) (repo new : RepoState) (call : Call) → IsAmong (bodies_left moment repo call) new → KeepsNeeded repo new
left_keeps moment repo new calls.Base h = absurd h
left_keeps moment repo new (calls.GetBlob digest) h = absurd h
left_keeps moment repo new (calls.HeadBlob digest) h = absurd h
left_keeps moment repo new (calls.DeleteBlob digest) h = absurd h
left_keeps moment repo new (calls.Post mount digest body) h = absurd h
left_keeps moment repo new (calls.Patch id range body) h = absurd h
left_keeps moment repo new (calls.Finish id range digest body) h = absurd h
left_keeps moment repo new (calls.UploadState id) h = absurd h
left_keeps moment repo new (calls.PutManifest reference media body) (inl is) = subst (λ (r : RepoState). KeepsNeeded repo r) (sym is) (blob_keeps moment repo (sha256 body) body)
left_keeps moment repo new (calls.PutManifest reference media body) (inr h) = absurd h
left_keeps moment repo new (calls.GetManifest reference) h = absurd h
left_keeps moment repo new (calls.HeadManifest reference) h = absurd h
left_keeps moment repo new (calls.DeleteManifest reference) h = absurd h
left_keeps moment repo new (calls.Tags n last) h = absurd h
left_keeps moment repo new (calls.Referrers digest filter) h = absurd h

lacking_keeps : (moment : ℕ) (repo new : RepoState) (call : Call) → IsAmong (leavings moment repo call) new → KeepsNeeded repo new
lacking_keeps moment repo new call (inl is) = subst (λ (r : RepoState). KeepsNeeded repo r) (sym is) (itself repo)
lacking_keeps moment repo new call (inr (inl is)) = subst (λ (r : RepoState). KeepsNeeded repo r) (sym is) (λ digest reference needs kept has. has)
lacking_keeps moment repo new call (inr (inr h)) = left_keeps moment repo new call h

-- ---- the whole step

goes_keeps : (Counts : ℕ → ℕ → Type 0) (Way : RepoState → RepoState → Type 0) (old : RowState) (name : List ℕ) (new : RowState) → Goes Counts Way old name new → ((repo : RepoState) → Way (repo_at old name) repo → KeepsNeeded (repo_at old name) repo)
    → (other : List ℕ) (b : Bool) → bytes_eq other name ≡ b → KeepsNeeded (repo_at old other) (repo_at new other)
goes_keeps Counts Way old name new h keeps other true is =
    subst (λ n. KeepsNeeded (repo_at old n) (repo_at new n)) (sym ((bytes_eq-Decides other name).0 is)) (subst (λ (r : RepoState). KeepsNeeded (repo_at old name) r) (sym h.becomes.here) (keeps h.repo h.way))
goes_keeps Counts Way old name new h keeps other false is =
    let apart : other ≢ name = λ same. true≢false (sym ((bytes_eq-Decides other name).1 same) ∙ is) in
    subst (λ (r : RepoState). KeepsNeeded (repo_at old other) r) (sym (h.becomes.others other apart)) (itself (repo_at old other))

answer_keeps : (moment : ℕ) (old new : RowState) (name : List ℕ) (call : Call) (reply : Reply) → MayAnswer moment old name call reply new → (other : List ℕ) → KeepsNeeded (repo_at old other) (repo_at new other)
answer_keeps moment old new name call reply (inl h) other =
    goes_keeps Stay _ old name new h (λ repo way. subst (λ (r : RepoState). KeepsNeeded (repo_at old name) r) (sym way.repo_is) (plain_keeps moment (repo_at old name) call)) other (bytes_eq other name) refl
answer_keeps moment old new name call reply (inr (inl h)) other =
    goes_keeps Stay _ old name new h (λ repo way. lacking_keeps moment (repo_at old name) repo call way.leaves) other (bytes_eq other name) refl
answer_keeps moment old new name call reply (inr (inr h)) other =
    goes_keeps Rise _ old name new h (λ repo way. lacking_keeps moment (repo_at old name) repo call way.leaves) other (bytes_eq other name) refl

named_keeps : (moment : ℕ) (old new : RowState) (name : Option (List ℕ)) (call : Call) (reply : Reply) → IsSomeAnd name (λ n. MayAnswer moment old n call reply new) → (other : List ℕ) → KeepsNeeded (repo_at old other) (repo_at new other)
named_keeps moment old new None call reply h other = absurd h
named_keeps moment old new (Some name) call reply h other = answer_keeps moment old new name call reply h other

-- a manifest that refers to a digest holds it
held_by : (repo : RepoState) (digest : List ℕ) (es : List (List ℕ × StoredManifest)) → list_any (λ e. refers (reading_at repo e.0 e.1) digest) es ≡ true → is_held (map (manifest_row repo) es) digest ≡ true
held_by repo digest [] h = cc h
held_by repo digest (e ∷ es) h = by (held_by repo digest es) (refers (reading_at repo e.0 e.1) digest) refl h where
  by : (list_any (λ x. refers (reading_at repo x.0 x.1) digest) es ≡ true → is_held (map (manifest_row repo) es) digest ≡ true)
      → (b : Bool) → refers (reading_at repo e.0 e.1) digest ≡ b → (b || list_any (λ x. refers (reading_at repo x.0 x.1) digest) es) ≡ true → is_held (map (manifest_row repo) (e ∷ es)) digest ≡ true
  by others true is k = either_true (holds (manifest_row repo e) digest) (is_held (map (manifest_row repo) es) digest) (or_true (bytes_eq e.0 digest) (refers (reading_at repo e.0 e.1) digest) is)
  by others false is k = or_true (holds (manifest_row repo e) digest) (is_held (map (manifest_row repo) es) digest) (others k)

not_held : (aged held : Bool) → (aged && not held) ≡ true → held ≡ false
not_held true false h = refl
not_held true true h = cc h
not_held false held h = cc h

sweep_keeps : (moment delay : ℕ) (digest : List ℕ) (repo new : RepoState) → Sweeps moment delay digest repo new → KeepsNeeded repo new
sweep_keeps moment delay digest repo new h = subst (λ (r : RepoState). KeepsNeeded repo r) (sym h.left) (λ other reference needs kept has.
    let free = not_held (is_aged moment delay h.stored.arrived) (is_held (manifest_rows repo) digest) h.may in
    let apart : reference ≢ digest = λ same.
    true≢false (sym (held_by repo digest (finite.entries repo.manifests) (subst (λ r. is_referred repo r ≡ true) same (needed_referred repo other reference needs))) ∙ free) in
    subst (λ o. IsSome o) (sym (removed_elsewhere byte_order repo.blobs digest reference apart)) has)

retire_keeps : (moment : ℕ) (rules : Option Rules) (delay : ℕ) (gone : Gone) (repo new : RepoState) → Retires moment rules delay gone repo new → KeepsNeeded repo new
retire_keeps moment rules delay gone repo new h = subst (λ (r : RepoState). KeepsNeeded repo r) (sym h.left) (λ digest reference needs kept has. has)

same_keeps : (repo new : RepoState) → new ≡ repo → KeepsNeeded repo new
same_keeps repo new is = subst (λ (r : RepoState). KeepsNeeded repo r) (sym is) (itself repo)

on_one : (Way : RepoState → RepoState → Type 0) (old : RowState) (name : List ℕ) (new : RowState) → Goes Stay Way old name new → ((repo after : RepoState) → Way repo after → KeepsNeeded repo after) → (other : List ℕ)
    → KeepsNeeded (repo_at old other) (repo_at new other)
on_one Way old name new h keeps other = goes_keeps Stay Way old name new h (keeps (repo_at old name)) other (bytes_eq other name) refl

mount_keeps : (moment : ℕ) (call : Call) (bytes : List ℕ) (reply : Reply) (repo new : RepoState) → TakesOver moment call bytes reply repo new → KeepsNeeded repo new
mount_keeps moment call bytes reply repo new h = subst (λ (r : RepoState). KeepsNeeded repo r) (sym h.repo_is) (blob_keeps moment repo h.digest bytes)

on_some : (Way : RepoState → RepoState → Type 0) (old : RowState) (name : Option (List ℕ)) (new : RowState) → IsSomeAnd name (λ n. Goes Stay Way old n new) → ((repo after : RepoState) → Way repo after → KeepsNeeded repo after)
    → (other : List ℕ) → KeepsNeeded (repo_at old other) (repo_at new other)
on_some Way old None new h keeps other = absurd h
on_some Way old (Some name) new h keeps other = on_one Way old name new h keeps other

event_keeps : (moment : ℕ) (old new : RowState) (event : Event) → Happens old moment event new → (other : List ℕ) → KeepsNeeded (repo_at old other) (repo_at new other)
event_keeps moment old new (asked request reply) h other = named_keeps moment old new request.name request.call reply h other
event_keeps moment old new (mounted request reply bytes) h other = on_some _ old request.name new h (mount_keeps moment request.call bytes reply) other
event_keeps moment old new (retired name rules delay gone) h other = on_one _ old name new h (retire_keeps moment rules delay gone) other
event_keeps moment old new (swept name delay digest) h other = on_one _ old name new h (sweep_keeps moment delay digest) other
event_keeps moment old new (swept_all name delay) h other = on_one _ old name new h (λ repo after way. same_keeps repo after way.stays) other
event_keeps moment old new (scrubbed name blobs found) h other = on_one _ old name new h (λ repo after way. same_keeps repo after way.stays) other
event_keeps moment old new (named found) h other = same_keeps (repo_at old other) (repo_at new other) (h.1.repos other)
event_keeps moment old new (lacked task) h other = same_keeps (repo_at old other) (repo_at new other) (h.repos other)
event_keeps moment old new (failed task) h other = same_keeps (repo_at old other) (repo_at new other) (h.repos other)

pub step_keeps : (old new : RowState) (entry : Entry) (name : List ℕ) → Step old entry new → KeepsNeeded (repo_at old name) (repo_at new name)
step_keeps old new entry name step = event_keeps entry.moment old new entry.event step.happens name
