-- What calls of the store change of a digest's objects.
use Rattle.std.specs.Prelude.{◌≡◌, ◌≢◌, ℕ, ◌≤◌, if◌then◌else◌, List, Option, Some, None, Result, Ok, Err, ⊤}
use Rattle.std.specs.FinMap as map
use Rattle.std.specs.Str.{bytes_eq}
use Rattle.zot_digest.specs.Digest.{IsDigest}
use Rattle.zot_names.specs.Name.{IsName}
use Rattle.zot_outside.specs.Faults.{OnFailed, Rose}
use Rattle.zot_outside.specs.Objects.{ChangesAt, Objects, Told}
use Rattle.zot_outside.specs.declared.stores.store_error.StoreError.{StoreError}
use Rattle.zot_outside.specs.declared.stores.store_error.StoreError.TheVariants.{Missing, Failed, NoMemory}
use Rattle.zot_links.specs.Meaning.{IsTight, Links, Stands, held, object_at, record_at, record_in, record_path}
use Rattle.zot_links.specs.Records.{line_in, record_of}
use Rattle.zot_links.specs.declared.record_line.RecordLine.{RecordLine}

-- every other digest's objects and record are as before
abbrev pub KeepsOthers : Objects → List ℕ → Objects → Type 0
KeepsOthers old digest new = (other : List ℕ) → IsDigest other → other ≢ digest
    → ((name : List ℕ) → object_at new other name ≡ object_at old other name) × (map.get new (record_path other) ≡ map.get old (record_path other))

-- the object of a repository was set, or removed
pub record SetsObject (old : Objects) (digest name : List ℕ) (object : Option (List ℕ)) (new : Objects) : Type 0 where
  pub here : object_at new digest name ≡ object
  pub beside : (other : List ℕ) → other ≢ name → object_at new digest other ≡ object_at old digest other
  pub lines : record_at new digest ≡ record_at old digest
  pub elsewhere : KeepsOthers old digest new

-- the record was set to these lines
pub record SetsRecord (old : Objects) (digest : List ℕ) (lines : List RecordLine) (new : Objects) : Type 0 where
  pub says : record_at new digest ≡ Some lines
  pub objects : (name : List ℕ) → object_at new digest name ≡ object_at old digest name
  pub elsewhere : KeepsOthers old digest new

-- a text is that of a record with a line for each of these holders, and no other
abbrev pub SaysLinks : List ℕ → Links → Type 0
SaysLinks text links = (lines : List RecordLine) × (record_of text ≡ Some lines) × ((name : List ℕ) → line_in lines name ≡ map.get links name)

-- the record at a path was set to a text, or removed where that is empty
abbrev pub WritesRecord : Objects → List ℕ → List ℕ → Objects → Type 0
WritesRecord old path text new = (object : Option (List ℕ)) × (record_in object ≡ record_of text) × ChangesAt old path object new

-- the record was set to the lines of these holders
abbrev pub RecordsLinks : Objects → List ℕ → Links → Objects → Type 0
RecordsLinks old digest links new = (lines : List RecordLine) × ((name : List ℕ) → line_in lines name ≡ map.get links name) × SetsRecord old digest lines new

-- what is held, with one change
abbrev pub with_held : (List ℕ → Option (List ℕ)) → List ℕ → Option (List ℕ) → List ℕ → Option (List ℕ)
with_held holds name bytes other = if bytes_eq other name then bytes else holds other

-- the objects and what is kept of them have turned into others, which hold this; where that is fresh, they stay tight
pub record Turns (fresh : Type 0) (old : Objects) (digest : List ℕ) (links : Links) (wanted : List ℕ → Option (List ℕ)) (new : Objects) (later : Links) : Type 0 where
  pub stands : Stands new digest later
  pub holds : (name : List ℕ) → IsName name → held new digest name ≡ wanted name
  pub elsewhere : KeepsOthers old digest new
  pub tight : fresh → IsTight old digest links → IsTight new digest later

-- all is held as before
abbrev pub Keeps : Objects → List ℕ → Links → Objects → Links → Type 0
Keeps old digest links new later = Turns (Unit {0}) old digest links (held old digest) new later

-- one repository holds these bytes now, or none, and the others what they held
abbrev pub Sets : Type 0 → Objects → List ℕ → Links → List ℕ → Option (List ℕ) → Objects → Links → Type 0
Sets fresh old digest links name bytes new later = Turns fresh old digest links (with_held (held old digest) name bytes) new later

-- ---- faults of several calls: none but a failed one before what decides is answered, and those behind it only raise the count

abbrev pub UnlessDone : {T : Type 0} → Result T StoreError → Type 0 → Type 0
UnlessDone (Ok x) P = ⊤
UnlessDone (Err Missing) P = P
UnlessDone (Err Failed) P = ⊤
UnlessDone (Err NoMemory) P = P

pub record HasCallsCause {T : Type 0} (before after : ℕ) (result : Result T StoreError) : Type 0 where
  pub later : before ≤ after
  pub failed : OnFailed result (Rose before after)
  pub quiet : UnlessDone result (after ≡ before)
