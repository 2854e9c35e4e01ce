-- `pipe` over the configured storage.
use Rattle.std.proofs.Common.{◌≡◌, ◌+◌, ◌*◌, arith, inl, inr, ℕ, List, ◌++◌, length, map, Option, refl, sym, ap, ◌∙◌, subst}
use Rattle.std.proofs.lemmas.List.{length-map}
use Rattle.std.proofs.lemmas.List.FromFn.{length-range_with_len}
use Rattle.std.specs.List.{All}
use Rattle.std.specs.Prelude.{IfSome, Result, Ok, Err}
use Rattle.zot_cluster.specs.Configured.{IsConfigured}
use Rattle.zot_cluster.specs.Parts.{StandForRows}
use Rattle.zot_config.specs.Settings.{Settings}
use Rattle.zot_host.specs.Causes.{HasHostCause, OnMissing}
use Rattle.zot_host.specs.Parts.{TakesBack}
use Rattle.zot_host.specs.declared.host_error.HostError.{HostError}
use Rattle.zot_host.specs.declared.host_error.HostError.TheVariants as hosts
use Rattle.zot_contents.specs.Shards.{shards}
use Rattle.zot_outside.proofs.MomentLemmas.{stays_through}
use Rattle.zot_outside.specs.Moments.{StaysAt}
use Rattle.zot_outside.specs.Objects.{Objects}
use Rattle.zot_outside.specs.declared.stores.store.Store.{Ghosts}
use Rattle.zot_pool.specs.Opening.{AreTightTrees}
use Rattle.zot_pool.specs.Pools.{AreTightPool}
use Rattle.zot_rows.specs.Listing.{rows_of}
use Rattle.zot_rows.specs.Rows.{AreOpenedAt, opened_in, states_of}
use Rattle.zot_rows.specs.declared.rows.Rows.{Rows}
use Rattle.zot_rows.specs.declared.rows_open_error.RowsOpenError.{RowsOpenError}
use Rattle.zot_rows.specs.declared.rows_open_error.RowsOpenError.TheVariants as errors
use Rattle.zot_session.proofs.CauseLemmas.{causes_map}
use Rattle.zot_session.specs.Causes.{Causes, Counts}
use Rattle.zot_session.specs.declared.end.End.{End}
use Rattle.zot_session.specs.declared.end.End.TheVariants as ends
use Rattle.zot_commands.proofs.WordLemmas.{one_member, one_path}
use Rattle.zot_commands.specs.PipeEndings.{declined_ending, pipe_line, pipe_status, unopened_ending}
use Rattle.zot_commands.specs.Program.{ArePipeAt}
use Rattle.zot_commands.specs.Storage.{AreKept, EndsOver, OpensOver, PipesAt, RefusesToOpen, RunsPipeAt, Seen, ServesOver, row_parts, seen, shard_parts}
use Rattle.zot_commands.specs.declared.pipe_ending.PipeEnding.{PipeEnding}
use Rattle.zot_commands.specs.declared.pipe_ending.PipeEnding.TheVariants as endings

module _ {S : Type 0} {G : Ghosts S} where
  -- rows that were opened at a moment were so whatever was asked of them
  pub still_opened : (moment : ℕ) (first last : Rows S G) → opened_in last ≡ opened_in first → AreOpenedAt moment first → AreOpenedAt moment last
  still_opened moment first last same opened = subst (All (λ one. one ≡ moment)) (sym same) opened

  -- ---- the room

  shards_long : (rows : Rows S G) → length (shard_parts rows) ≡ shards
  shards_long rows = length-map rows.pool.shards.items (λ s. s.part) ∙ sym (length-map rows.pool.shards.items (λ s. s.number)) ∙ ap length rows.pool.numbered ∙ length-range_with_len 0 shards

  -- so many parts are given back as were handed out
  pub parts_long : (rows : Rows S G) (config : Settings) → IsConfigured config rows.config → length (row_parts rows) + length (shard_parts rows) ≡ rows_of (length config.members) + shards
  parts_long rows config same =
      let long : length rows.rows.items ≡ 8 * length config.members = rows.numbered.many ∙ ap (λ c. 8 * c.members) same in
      omega (arith, length-map rows.rows.items (λ r. r.core.part), long, shards_long rows)

  -- the same of the parts of closed rows
  pub back_long : (rows : Rows S G) (config first : Settings) (parts owned : List S) → IsConfigured config rows.config → config ≡ first → parts ≡ row_parts rows → owned ≡ shard_parts rows → length parts + length owned ≡ rows_of (length first.members) + shards
  back_long rows config first parts owned configured same one two =
      let long : length (row_parts rows) + length (shard_parts rows) ≡ rows_of (length first.members) + shards = parts_long rows config configured ∙ ap (λ (c : Settings). rows_of (length c.members) + shards) same in
      omega (arith, ap length one, ap length two, long)

  -- the parts of closed rows are kept
  pub kept_closed : (moment : ℕ) (rows : Rows S G) (parts owned : List S) (before mid after : Option (List S)) → mid ≡ before → parts ≡ row_parts rows → owned ≡ shard_parts rows → TakesBack mid (parts ++ owned) after
      → IfSome (states_of rows) (StandForRows rows.config moment (map G.objects parts) (map G.objects owned)) → (AreTightPool rows.pool.shards.items → AreTightTrees (map G.objects owned)) → AreKept moment rows before after
  kept_closed moment rows parts owned before mid after same one two taken stand tight = record {
    kept = subst (λ b. TakesBack b (row_parts rows ++ shard_parts rows) after) same (subst (λ p. TakesBack mid (p ++ shard_parts rows) after) one (subst (λ q. TakesBack mid (parts ++ q) after) two taken));
    stand = subst (λ p. IfSome (states_of rows) (StandForRows rows.config moment (map G.objects p) (map G.objects (shard_parts rows)))) one
        (subst (λ q. IfSome (states_of rows) (StandForRows rows.config moment (map G.objects parts) (map G.objects q))) two stand);
    tight = λ pool. subst (λ q. AreTightTrees (map G.objects q)) two (tight pool);
  }

  -- ---- the endings

  -- a connection was served at the moment that another clock tells too
  serves_before : (moment : ℕ) (first : Rows S G) (member : ℕ) (told mid : Option ℕ) (before after : Seen S) (end : End) → StaysAt told mid → ServesOver moment first member mid before after end → ServesOver moment first member told before after end
  serves_before moment first member told mid before after end stays h = record {
    scratch = h.scratch;
    lent = h.lent;
    last = h.last;
    begins = h.begins;
    later = h.later;
    stays = stays_through told mid h.begins stays h.stays;
    served = h.served;
    of_bytes = h.of_bytes;
    kept = h.kept;
  }

module _ {S : Type 0} {G : Ghosts S} (files : Option Objects) (path : List ℕ) (member : ℕ) (told : Option ℕ) where
  -- what was done with the rows that were opened, by its ending
  pub opened_ends : (before after : Seen S) (mid : Option (List S)) (clock : Option ℕ) (Silent : Type 0) (ending : PipeEnding) (opens : OpensOver G files path member told before.parts mid) → StaysAt told clock
      → EndsOver opens.over.moment opens.rows member clock (seen mid before.kept before.left before.held) after Silent ending → PipesAt G files path member told before after Silent ending
  opened_ends before after mid clock Silent (endings.Served end) opens stays h = (mid, opens, serves_before opens.over.moment opens.rows member told clock (seen mid before.kept before.left before.held) after end stays h)
  opened_ends before after mid clock Silent (endings.Wrong field found) opens stays h = absurd h
  opened_ends before after mid clock Silent endings.Missing opens stays h = absurd h
  opened_ends before after mid clock Silent endings.OutOfRange opens stays h = absurd h
  opened_ends before after mid clock Silent endings.HostFault opens stays h = (h.0, inr (mid, opens, h.1))
  opened_ends before after mid clock Silent (endings.BadIndex at) opens stays h = absurd h
  opened_ends before after mid clock Silent (endings.BadMeta at) opens stays h = absurd h
  opened_ends before after mid clock Silent endings.StorageFault opens stays h = absurd h
  opened_ends before after mid clock Silent endings.NoMemory opens stays h = (h.0, inr (mid, opens, h.1))

  -- the rows weren't opened, for an error of this ending
  pub unopened_ends : (before after : Seen S) (Silent : Type 0) (error : RowsOpenError) → Silent → after.kept ≡ before.kept → RefusesToOpen G files path member told before.parts after.parts (unopened_ending error)
      → PipesAt G files path member told before after Silent (unopened_ending error)
  unopened_ends before after Silent (errors.BadIndex at text) silent kept h = (silent, kept, h)
  unopened_ends before after Silent (errors.BadMeta at text) silent kept h = (silent, kept, h)
  unopened_ends before after Silent (errors.RowFault number) silent kept h = (silent, kept, h)
  unopened_ends before after Silent (errors.ShardFault number) silent kept h = (silent, kept, h)
  unopened_ends before after Silent errors.NoMemory silent kept h = (silent, inl kept)

module _ {S : Type 0} (G : Ghosts S) (files : Option Objects) (path : List ℕ) (member : ℕ) (told : Option ℕ) where
  -- the same over what the host told before
  pub pipes_before : (files' : Option Objects) (told' : Option ℕ) (parts parts' kept kept' : Option (List S)) (left held : Option (List ℕ)) (after : Seen S) (Silent : Type 0) (ending : PipeEnding) → files' ≡ files → told' ≡ told → parts' ≡ parts → kept' ≡ kept
      → PipesAt G files' path member told' (seen parts' kept' left held) after Silent ending → PipesAt G files path member told (seen parts kept left held) after Silent ending
  pipes_before files' told' parts parts' kept kept' left held after Silent ending same_files same_moment same_parts same_kept h =
      subst (λ f. PipesAt G f path member told (seen parts kept left held) after Silent ending) same_files
      (subst (λ t. PipesAt G files' path member t (seen parts kept left held) after Silent ending) same_moment
      (subst (λ p. PipesAt G files' path member told' (seen p kept left held) after Silent ending) same_parts
      (subst (λ k. PipesAt G files' path member told' (seen parts' k left held) after Silent ending) same_kept h)))

-- ---- calls of the host without a result

module _ {S : Type 0} {G : Ghosts S} where
  pub declined_over : (moment : ℕ) (first : Rows S G) (member : ℕ) (told : Option ℕ) (before after : Seen S) (Silent : Type 0) (error : HostError) (ending : PipeEnding) → ending ≡ declined_ending error → OnMissing {T = End} (Err error) ⊥ → Silent
      → AreKept moment first before.kept after.kept → EndsOver moment first member told before after Silent ending
  declined_over moment first member told before after Silent error ending is missing silent kept = subst (EndsOver moment first member told before after Silent) (sym is) (by error missing) where
    by : (error : HostError) → OnMissing {T = End} (Err error) ⊥ → EndsOver moment first member told before after Silent (declined_ending error)
    by hosts.Missing missing = absurd missing
    by hosts.Failed missing = (silent, kept)
    by hosts.NoMemory missing = (silent, kept)

not_served : (error : HostError) (end : End) → ¬ (declined_ending error ≡ endings.Served end)
not_served hosts.Missing end h = cc h
not_served hosts.Failed end h = cc h
not_served hosts.NoMemory end h = cc h

-- nothing was served, so nothing was read or written
pub declined_causes : (error : HostError) (ending : PipeEnding) (input input' output output' : ℕ) → ending ≡ declined_ending error → input' ≡ input → output' ≡ output
    → Causes (ending ≡ endings.Served ends.ReadFault) (ending ≡ endings.Served ends.WriteFault) input input' output output'
declined_causes error ending input input' output output' is reads writes = record {
  read = record { rose = λ t. absurd (not_served error ends.ReadFault (sym is ∙ t)); kept = λ f. reads };
  write = record { rose = λ t. absurd (not_served error ends.WriteFault (sym is ∙ t)); kept = λ f. writes };
}

-- the host's count rose where its call failed
pub declined_counts : (error : HostError) (ending : PipeEnding) (before mid after : ℕ) → ending ≡ declined_ending error → OnMissing {T = End} (Err error) ⊥ → after ≡ mid → HasHostCause {T = End} before mid (Err error) → Counts (ending ≡ endings.HostFault) before after
declined_counts error ending before mid after is missing same cause =
    subst (λ n. Counts (ending ≡ endings.HostFault) before n) (sym same) (subst (λ e. Counts (e ≡ endings.HostFault) before mid) (sym is) (by error missing cause)) where
      by : (error : HostError) → OnMissing {T = End} (Err error) ⊥ → HasHostCause {T = End} before mid (Err error) → Counts (declined_ending error ≡ endings.HostFault) before mid
      by hosts.Missing missing cause = absurd missing
      by hosts.Failed missing cause = record { rose = λ t. cause.failed; kept = λ f. absurd (f refl) }
      by hosts.NoMemory missing cause = record { rose = λ t. cc t; kept = λ f. cause.kept }

-- ---- a connection that was served

served_is : (one other : End) → endings.Served one ≡ endings.Served other → one ≡ other
served_is one other h = cc h

abbrev ok : End → Result End HostError
ok end = Ok end

ok_is : (one other : End) → ok one ≡ ok other → one ≡ other
ok_is one other h = cc h

pub served_causes : (end : End) (input input' output output' : ℕ) → Causes (ok end ≡ ok ends.ReadFault) (ok end ≡ ok ends.WriteFault) input input' output output'
    → Causes (endings.Served end ≡ endings.Served ends.ReadFault) (endings.Served end ≡ endings.Served ends.WriteFault) input input' output output'
served_causes end input input' output output' h =
    causes_map refl refl (λ t. ap ok (served_is end ends.ReadFault t)) (λ e. ap endings.Served (ok_is end ends.ReadFault e)) (λ t. ap ok (served_is end ends.WriteFault t)) (λ e. ap endings.Served (ok_is end ends.WriteFault e)) h

served_counts : (end : End) → ¬ (endings.Served end ≡ endings.HostFault)
served_counts end h = cc h

pub no_fault : (end : End) (before after : ℕ) → after ≡ before → Counts (endings.Served end ≡ endings.HostFault) before after
no_fault end before after same = record { rose = λ t. absurd (served_counts end t); kept = λ f. same }

-- ---- the words

-- the ending of the place that the words have
pub runs_pipe_at : {S : Type 0} (G : Ghosts S) (words : List (List ℕ)) (files : Option Objects) (told : Option ℕ) (code : ℕ) (before after : Seen S) (Silent : Type 0) (Noted : List ℕ → Type 0) (found : List ℕ) (number : ℕ) (ending : PipeEnding)
    → ArePipeAt words found number → PipesAt G files found number told before after Silent ending → code ≡ pipe_status ending → Noted (pipe_line found ending) → RunsPipeAt G words files told code before after Silent Noted
runs_pipe_at G words files told code before after Silent Noted found number ending are ended status noted =
    λ path member at.
    subst (λ p. (e : PipeEnding) × PipesAt G files p member told before after Silent e × (code ≡ pipe_status e) × Noted (pipe_line p e)) (one_path words found path number member are at)
    (subst (λ n. (e : PipeEnding) × PipesAt G files found n told before after Silent e × (code ≡ pipe_status e) × Noted (pipe_line found e)) (one_member words found path number member are at) (ending, ended, status, noted))
