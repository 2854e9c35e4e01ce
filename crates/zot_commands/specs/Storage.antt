-- What `pipe` does over the configured storage, by its ending.
use Rattle.std.specs.Prelude.{◌≡◌, ◌<◌, ◌≤◌, ◌⊎◌, ℕ, List, [], ◌∷◌, ◌++◌, length, map, Option, Ok, Err, IfSome}
use Rattle.zot_cluster.specs.Configured.{row_config}
use Rattle.zot_cluster.specs.Connections.{IsConducted}
use Rattle.zot_cluster.specs.Opening.{IsOpened}
use Rattle.zot_cluster.specs.Parts.{StandForRows}
use Rattle.zot_config.specs.Settings.{Settings}
use Rattle.zot_host.specs.Configured.{Gives}
use Rattle.zot_host.specs.Parts.{HandsOut, TakesBack}
use Rattle.zot_outside.specs.Moments.{IsAt, StaysAt}
use Rattle.zot_outside.specs.Objects.{IsMissing, Objects}
use Rattle.zot_outside.specs.declared.stores.store.Store.{Ghosts}
use Rattle.zot_pool.specs.Opening.{AreTightTrees}
use Rattle.zot_pool.specs.Pools.{AreTightPool}
use Rattle.zot_rows.specs.Opening.{HasRowsCause, RefusesObject}
use Rattle.zot_rows.specs.Rows.{states_of}
use Rattle.zot_rows.specs.declared.rows.Rows.{Rows}
use Rattle.zot_rows.specs.declared.rows_open_error.RowsOpenError.{RowsOpenError}
use Rattle.zot_session.specs.Ends.{EndsAs, HasFailed}
use Rattle.zot_session.specs.Session.{Served}
use Rattle.zot_session.specs.declared.end.End.{End}
use Rattle.zot_commands.specs.PipeEndings.{pipe_line, pipe_status, unopened_ending}
use Rattle.zot_commands.specs.Program.{ArePipeAt}
use Rattle.zot_commands.specs.declared.pipe_ending.PipeEnding.{PipeEnding}
use Rattle.zot_commands.specs.declared.pipe_ending.PipeEnding.TheVariants as endings

-- what is seen before a call or behind it: the parts that the host has still to hand out, those that it was given back, what is left of the input, and what the output holds; each where it is told
pub record Seen (S : Type 0) : Type 0 where
  pub parts : Option (List S)
  pub kept : Option (List S)
  pub left : Option (List ℕ)
  pub held : Option (List ℕ)

abbrev pub seen : {S : Type 0} → Option (List S) → Option (List S) → Option (List ℕ) → Option (List ℕ) → Seen S
seen parts kept left held = record { parts = parts; kept = kept; left = left; held = held }

-- ---- the opening

-- The file of a path gives a configuration that has a member with this number. The host handed out the parts of its storage, those of the rows and then those of the shards, and its clock gave a moment
pub record AreHanded (S : Type 0) (files : Option Objects) (path : List ℕ) (member : ℕ) (told : Option ℕ) (before after : Option (List S)) : Type 0 where
  pub settings : Settings
  pub given : Gives files path (Ok settings)
  pub within : member < length settings.members
  pub parts : List S
  pub shards : List S
  pub handed : HandsOut before (parts ++ shards) after
  pub moment : ℕ
  pub at : IsAt told moment

-- the file of the path gives a configuration that has no member with this number
abbrev pub IsOutOfRange : Option Objects → List ℕ → ℕ → Type 0
IsOutOfRange files path member = (settings : Settings) × Gives files path (Ok settings) × (length settings.members ≤ member)

module _ {S : Type 0} (G : Ghosts S) (files : Option Objects) (path : List ℕ) (member : ℕ) (told : Option ℕ) where
  -- the rows are opened over the parts that were handed out
  pub record OpensOver (before after : Option (List S)) : Type 0 where
    pub over : AreHanded S files path member told before after
    pub rows : Rows S G
    pub opened : IsOpened (row_config over.settings) over.settings.dedupe over.moment over.parts over.shards rows

  -- No rows are opened over the parts that were handed out, for an error of this ending: a part failed that it names, whose count rose, or an object at the path that it names has no meaning. No object has changed
  pub record RefusesToOpen (before after : Option (List S)) (ending : PipeEnding) : Type 0 where
    pub over : AreHanded S files path member told before after
    pub error : RowsOpenError
    pub ending_is : ending ≡ unopened_ending error
    pub parts : List S
    pub shards : List S
    pub back : map G.objects parts ≡ map G.objects over.parts
    pub shards_back : map G.objects shards ≡ map G.objects over.shards
    pub cause : HasRowsCause (length over.settings.members) (map G.faults over.parts) (map G.faults parts) (map G.faults over.shards) (map G.faults shards) error
    pub bad : RefusesObject (row_config over.settings) over.moment (map G.objects over.parts) (map G.objects over.shards) error

-- ---- behind the opening

module _ {S : Type 0} {G : Ghosts S} where
  -- the parts of rows, and those of their pool's shards, each in their order
  abbrev pub row_parts : Rows S G → List S
  row_parts rows = map (λ r. r.core.part) rows.rows.items

  abbrev pub shard_parts : Rows S G → List S
  shard_parts rows = map (λ s. s.part) rows.pool.shards.items

  -- Rows were closed, and the host was given their parts back, those of the rows and then those of the shards. They stand for what the rows are; this moment is meant where an index doesn't say one
  pub record AreKept (moment : ℕ) (rows : Rows S G) (before after : Option (List S)) : Type 0 where
    pub kept : TakesBack before (row_parts rows ++ shard_parts rows) after
    pub stand : IfSome (states_of rows) (StandForRows rows.config moment (map G.objects (row_parts rows)) (map G.objects (shard_parts rows)))
    pub tight : AreTightPool rows.pool.shards.items → AreTightTrees (map G.objects (shard_parts rows))

  -- a connection was served over opened rows at the member with this number, with a scratch store that the host handed out, and ended so; the rows were these last, and were kept so. The clock told a moment before, and it still tells that one where the connection begins
  pub record ServesOver (moment : ℕ) (first : Rows S G) (member : ℕ) (told : Option ℕ) (before after : Seen S) (end : End) : Type 0 where
    pub scratch : S
    pub lent : HandsOut before.parts (scratch ∷ []) after.parts
    pub last : Rows S G
    pub begins : Option ℕ
    pub later : Option ℕ
    pub stays : StaysAt told begins
    pub served : Served (λ exchanges. IsConducted first member begins later exchanges last) end before.left after.left before.held after.held
    pub of_bytes : ¬ HasFailed end → IfSome before.left (λ bytes. EndsAs bytes end)
    pub kept : AreKept moment last before.kept after.kept

  -- what was done with opened rows, by its ending; where no connection was served they are kept as they were opened
  abbrev pub EndsOver : ℕ → Rows S G → ℕ → Option ℕ → Seen S → Seen S → Type 0 → PipeEnding → Type 0
  EndsOver moment first member told before after Silent (endings.Served end) = ServesOver moment first member told before after end
  EndsOver moment first member told before after Silent (endings.Wrong field found) = ⊥
  EndsOver moment first member told before after Silent endings.Missing = ⊥
  EndsOver moment first member told before after Silent endings.OutOfRange = ⊥
  EndsOver moment first member told before after Silent endings.HostFault = Silent × AreKept moment first before.kept after.kept
  EndsOver moment first member told before after Silent (endings.BadIndex at) = ⊥
  EndsOver moment first member told before after Silent (endings.BadMeta at) = ⊥
  EndsOver moment first member told before after Silent endings.StorageFault = ⊥
  EndsOver moment first member told before after Silent endings.NoMemory = Silent × AreKept moment first before.kept after.kept

-- ---- the whole

module _ {S : Type 0} (G : Ghosts S) (files : Option Objects) (path : List ℕ) (member : ℕ) (told : Option ℕ) where
  -- no part is kept, or the rows were opened, and are kept as they were
  abbrev pub KeepsAllOrNone : Seen S → Seen S → Type 0
  KeepsAllOrNone before after =
      (after.kept ≡ before.kept) ⊎ ((mid : Option (List S)) × (opens : OpensOver G files path member told before.parts mid) × AreKept opens.over.moment opens.rows before.kept after.kept)

  -- The ways in which `pipe` may end at the member with this number, over what the host tells. Where no connection was served nothing is read or written, and before the storage was opened no part is kept
  abbrev pub PipesAt : Seen S → Seen S → Type 0 → PipeEnding → Type 0
  PipesAt before after Silent (endings.Served end) =
      (mid : Option (List S)) × (opens : OpensOver G files path member told before.parts mid)
      × ServesOver opens.over.moment opens.rows member told (seen mid before.kept before.left before.held) after end
  PipesAt before after Silent (endings.Wrong field found) = Silent × (after.kept ≡ before.kept) × Gives files path (Err (record { field = field; found = found }))
  PipesAt before after Silent endings.Missing = Silent × (after.kept ≡ before.kept) × IsMissing files path
  PipesAt before after Silent endings.OutOfRange = Silent × (after.kept ≡ before.kept) × IsOutOfRange files path member
  PipesAt before after Silent endings.HostFault = Silent × KeepsAllOrNone before after
  PipesAt before after Silent (endings.BadIndex at) = Silent × (after.kept ≡ before.kept) × RefusesToOpen G files path member told before.parts after.parts (endings.BadIndex at)
  PipesAt before after Silent (endings.BadMeta at) = Silent × (after.kept ≡ before.kept) × RefusesToOpen G files path member told before.parts after.parts (endings.BadMeta at)
  PipesAt before after Silent endings.StorageFault = Silent × (after.kept ≡ before.kept) × RefusesToOpen G files path member told before.parts after.parts endings.StorageFault
  PipesAt before after Silent endings.NoMemory = Silent × KeepsAllOrNone before after

-- where these are the words of `pipe` for the path of a configuration and a member's number, it ended so, and the status and the note are those of its ending
abbrev pub RunsPipeAt : {S : Type 0} → Ghosts S → List (List ℕ) → Option Objects → Option ℕ → ℕ → Seen S → Seen S → Type 0 → (List ℕ → Type 0) → Type 0
RunsPipeAt G words files told code before after Silent Noted =
    (path : List ℕ) (member : ℕ) → ArePipeAt words path member → (ending : PipeEnding) × PipesAt G files path member told before after Silent ending × (code ≡ pipe_status ending) × Noted (pipe_line path ending)
