-- Each manifest stays listed under its subject.
use Rattle.std.proofs.Common.{◌≡◌, ℕ, Bool, true, false, List, Option, ap}
use Rattle.std.specs.Prelude.{OnErr, OnOk, Result, Ok, Err}
use Rattle.std.specs.FinMap as finite
use Rattle.zot_digest.specs.ByteMap.{ByteMap, byte_cmp}
use Rattle.zot_manifests.proofs.IndexLemmas.{is_now, lists_insert, lists_kept, lists_none, lists_remove, others_stay}
use Rattle.zot_manifests.proofs.SetLemmas.{adds_keep}
use Rattle.zot_manifests.specs.Index.{Adds, Removes, Sets}
use Rattle.zot_manifests.specs.Table.{Table, with_manifest}
use Rattle.zot_manifests.specs.declared.kept.Kept.{Kept}
use Rattle.zot_media.specs.declared.media.Media.{Media}
use Rattle.zot_media.specs.declared.reading.Reading.{Reading}
use Rattle.zot_referrers.specs.Listing.{ListsSubjects, says_of}

-- whether a kept manifest says something of a digest
abbrev names : Kept → List ℕ → Bool
names kept subject = says_of kept.reading subject

pub subjects_none : (manifests : ByteMap Kept) (sets : Sets (List ℕ)) → manifests ≡ finite.empty → ListsSubjects manifests sets
subjects_none manifests sets is = lists_none names manifests sets is

-- where a manifest came that was listed before
pub subjects_put : (old new : Table) (before after : Sets (List ℕ)) (digest : List ℕ) (tag : Option (List ℕ)) (media : Media) (arrived : ℕ) (reading : Reading) → new ≡ with_manifest arrived old digest tag media reading
    → Adds byte_cmp (says_of reading) digest before after → ListsSubjects old.manifests before → ListsSubjects new.manifests after
subjects_put old new before after digest tag media arrived reading is adds all =
    lists_insert names old.manifests new.manifests before after digest (record { media = media; arrived = arrived; reading = reading }) (ap (λ (t : Table). t.manifests) is)
    (λ named other apart h. adds_keep byte_cmp (says_of reading) digest before after adds named other h) (is_now true (says_of reading) digest before after adds) all

-- whether it came or memory ran out
pub subjects_after : {X E : Type 0} (result : Result X E) (old new : Table) (before after : Sets (List ℕ)) (digest : List ℕ) (tag : Option (List ℕ)) (media : Media) (arrived : ℕ) (reading : Reading)
    → OnOk result (new ≡ with_manifest arrived old digest tag media reading) → OnErr result (new ≡ old) → Adds byte_cmp (says_of reading) digest before after → ListsSubjects old.manifests before → ListsSubjects new.manifests after
subjects_after (Ok x) old new before after digest tag media arrived reading ok err adds all = subjects_put old new before after digest tag media arrived reading ok adds all
subjects_after (Err e) old new before after digest tag media arrived reading ok err adds all =
    lists_kept names old.manifests new.manifests before after (ap (λ (t : Table). t.manifests) err) (adds_keep byte_cmp (says_of reading) digest before after adds) all

-- where a manifest went
pub subjects_gone : (old new : ByteMap Kept) (before after : Sets (List ℕ)) (digest : List ℕ) (reading : Reading) → new ≡ finite.remove old digest → Removes byte_cmp (says_of reading) digest before after
    → ListsSubjects old before → ListsSubjects new after
subjects_gone old new before after digest reading is removes all = lists_remove names old new before after digest is (others_stay false (says_of reading) digest before after removes) all
