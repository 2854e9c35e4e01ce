-- What a digest's objects mean is a matter of its own paths, and there is one where they stand for some holders.
use Rattle.std.proofs.Common.{◌≡◌, ◌≢◌, ℕ, List, Option, is_some, sym, ap, ◌∙◌}
use Rattle.std.specs.FinMap as map
use Rattle.zot_digest.specs.Digest.{IsDigest}
use Rattle.zot_outside.specs.Objects.{ChangesAt, Objects}
use Rattle.zot_links.proofs.PathLemmas.{paths_apart, object_path_one, record_path_one}
use Rattle.zot_links.proofs.StandLemmas.{held_by_near, origin_some}
use Rattle.zot_links.specs.Changes.{KeepsOthers}
use Rattle.zot_links.specs.Meaning.{HasMeaning, IsLink, Links, Stands, held, held_by, line_among, object_at, object_path, origin_of, record_at, record_in, record_path}

pub object_local : (old new : Objects) (digest name : List ℕ) (object : Option (List ℕ)) → IsDigest digest → ChangesAt old (object_path digest name) object new → KeepsOthers old digest new
unfolding object_at
object_local old new digest name object is h other also apart = (
  λ beside. h.others (object_path other beside) (λ e. apart (object_path_one other digest beside name also is e).1),
  h.others (record_path other) (λ e. paths_apart digest other name is also (sym e)),
)

pub record_local : (old new : Objects) (digest : List ℕ) (object : Option (List ℕ)) → IsDigest digest → ChangesAt old (record_path digest) object new → KeepsOthers old digest new
unfolding object_at
record_local old new digest object is h other also apart = (
  λ beside. h.others (object_path other beside) (λ e. paths_apart other digest beside also is e),
  h.others (record_path other) (λ e. apart (record_path_one other digest also is e)),
)

pub held_local : (old new : Objects) (digest other name : List ℕ) → KeepsOthers old digest new → IsDigest other → other ≢ digest → held new other name ≡ held old other name
unfolding held record_at
held_local old new digest other name keeps is apart =
    let kept = keeps other is apart in
    ap (λ r. held_by (object_at new other) (object_at new other name) (origin_of (line_among (record_in r) name))) kept.1
    ∙ ap (λ o. held_by (object_at new other) o (origin_of (line_among (record_in (map.get old (record_path other))) name))) (kept.0 name)
    ∙ held_by_near (object_at new other) (object_at old other) (object_at old other name) (origin_of (line_among (record_in (map.get old (record_path other))) name)) (λ m _. kept.0 m)

pub stands_means : (objects : Objects) (digest : List ℕ) (links : Links) → Stands objects digest links → HasMeaning objects digest
stands_means objects digest links s = record {
  read = s.read;
  linked = λ name origin is has line.
      let link : IsLink links name origin = origin_some (map.get links name) origin (sym (s.origins name (s.known name is has)) ∙ ap origin_of line) in
      (s.there origin (ap is_some (s.whole name origin link)), s.named name origin link);
}
