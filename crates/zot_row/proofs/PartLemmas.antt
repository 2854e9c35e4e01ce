-- What the part stands for after a turn.
use Rattle.std.proofs.Common.{◌≡◌, ℕ, Bool, true, false, List, Option, Some, None, is_some, refl, sym, ap, subst, ◌∙◌}
use Rattle.std.specs.Prelude.{IfSome, option_map}
use Rattle.std.specs.FinMap as finite
use Rattle.std.specs.FinMap.{get-empty}
use Rattle.std.proofs.lemmas.Bool.{true≢false}
use Rattle.zot_digest.specs.ByteMap.{ByteMap, byte_cmp}
use Rattle.zot_layout.proofs.StandsLemmas.{apart_paths, one_index, same_layout, stands_alike, without_sizes}
use Rattle.zot_layout.proofs.WalkLemmas.{one_marker}
use Rattle.zot_layout.proofs.WritingLemmas.{stands_known, stands_unknown}
use Rattle.zot_layout.specs.Paths.{index_path, marker_path}
use Rattle.zot_layout.specs.Stands.{AreAlike, StandsFor, opened_repo, repo_of as layout_repo, without_pulls}
use Rattle.zot_layout.specs.State.{as_written}
use Rattle.zot_layout.specs.Writing.{IsUnknown, KeepsElsewhere, KeepsLayouts, PutsIndex, SetsLayout, Told}
use Rattle.zot_layout.specs.declared.index_state.IndexState.{IndexState}
use Rattle.zot_manifests.proofs.TableLemmas.{get_plain, plain_empty}
use Rattle.zot_manifests.specs.Table.{Table, empty_table, plain_manifest, plain_manifests}
use Rattle.zot_manifests.specs.declared.kept.Kept.{Kept}
use Rattle.zot_media.specs.declared.reference.Reference.{Reference}
use Rattle.zot_media.specs.declared.reference.Reference.TheVariants as by
use Rattle.zot_model.specs.State.{RepoState, StoredTag, fresh}
use Rattle.zot_outside.specs.Objects.{Objects}
use Rattle.zot_row.specs.Going.{KeepsOthers, KeepsStanding, LeavesOthers, kept_of}
use Rattle.zot_table.proofs.IndexLemmas.{index_alike}
use Rattle.zot_table.specs.Changes.{known_as, without_named}
use Rattle.zot_table.specs.Standing.{Holds, repo_of}
use Rattle.zot_table.specs.Tables.{RepoTable, has_named, index_of}

-- ---- a part that isn't written

-- tables that stand for the same repository, whatever is held, are alike in what the part stores
pub alike_tables : (one other : RepoTable) (holds after : Holds) → repo_of other after ≡ repo_of one holds → AreAlike (kept_of one) (kept_of other)
alike_tables one other holds after h = record {
  known = ap (λ (r : RepoState). r.known) h;
  manifests = ap (λ (r : RepoState). r.manifests) h;
  tags = λ tag. ap (λ (r : RepoState). option_map without_pulls (finite.get r.tags tag)) h;
}

pub quiet_stands : (objects : Option Objects) (name : List ℕ) (old new : RepoTable) → AreAlike (kept_of old) (kept_of new) → KeepsStanding objects name old objects new
quiet_stands None name old new alike opened h = tt
quiet_stands (Some told) name old new alike opened h = stands_alike told opened name (kept_of old) (kept_of new) h alike

nothing_changed : (objects : Objects) (name : List ℕ) → LeavesOthers objects name objects
nothing_changed objects name = record { layouts = λ _ _ _. refl; elsewhere = λ _ _ _. refl }

pub quiet_others : (objects : Option Objects) (name : List ℕ) (old : RepoTable) → KeepsOthers objects name old objects
quiet_others None name old opened h = refl
quiet_others (Some told) name old opened h = nothing_changed told name

-- ---- a part that is written

-- a fact of the told objects, from what they stood for and what was written
from_told : (before after : Option Objects) (F : Objects → Type 0) (P Q : Objects → Objects → Type 0) → ((old new : Objects) → F old → P old new → Q old new) → Told before after P → IfSome before F → Told before after Q
from_told None after F P Q step told h = told
from_told (Some old) None F P Q step told h = absurd told
from_told (Some old) (Some new) F P Q step told h = step old new h told

on_told : (before after : Option Objects) (F G : Objects → Type 0) (P : Objects → Objects → Type 0) → ((old new : Objects) → F old → P old new → G new) → Told before after P → IfSome before F → IfSome after G
on_told None after F G P step told h = subst (λ o. IfSome o G) (sym told) tt
on_told (Some old) None F G P step told h = absurd told
on_told (Some old) (Some new) F G P step told h = step old new h told

elsewhere_others : (old new : Objects) (name : List ℕ) → KeepsElsewhere old name new → LeavesOthers old name new
elsewhere_others old new name kept = record {
  layouts = λ other apart moment. same_layout old new other moment (kept (marker_path other) (λ same. apart (one_marker other name same)) (apart_paths other name))
      (kept (index_path other) (λ same. apart_paths name other (sym same)) (λ same. apart (one_index other name same)));
  elsewhere = kept;
}

-- the layout was set to what is kept now
pub set_stands : (before after : Option Objects) (name : List ℕ) (old new : RepoTable) (index : IndexState) → AreAlike (opened_repo index) (kept_of new) → Told before after (λ a b. SetsLayout a name (Some (as_written index)) b)
    → KeepsStanding before name old after new
set_stands before after name old new index alike told opened =
    on_told before after (λ a. StandsFor a opened name (kept_of old)) (λ b. StandsFor b opened name (kept_of new)) (λ a b. SetsLayout a name (Some (as_written index)) b)
    (λ a b stood sets. record { found = Some (as_written index); holds = sets.here opened; alike = subst (λ r. AreAlike r (kept_of new)) (sym (without_sizes index)) alike }) told

pub set_others : (before after : Option Objects) (name : List ℕ) (old : RepoTable) (found : Option IndexState) → Told before after (λ a b. SetsLayout a name found b) → KeepsOthers before name old after
set_others before after name old found told opened =
    from_told before after (λ a. StandsFor a opened name (kept_of old)) (λ a b. SetsLayout a name found b) (λ a b. LeavesOthers a name b)
    (λ a b stood sets. record { layouts = sets.beside; elsewhere = sets.elsewhere }) told

-- a repository that couldn't be made known is as it was
pub unmade_stands : (before after : Option Objects) (name : List ℕ) (old : RepoTable) → old.known ≡ false → Told before after (λ a b. IsUnknown a name → KeepsLayouts a name b) → KeepsStanding before name old after old
unmade_stands before after name old unknown told opened =
    on_told before after (λ a. StandsFor a opened name (kept_of old)) (λ b. StandsFor b opened name (kept_of old)) (λ a b. IsUnknown a name → KeepsLayouts a name b)
    (λ a b stood keeps. let kept = keeps (stands_unknown a opened name (kept_of old) stood unknown) in record { found = stood.found; holds = kept.all name opened ∙ stood.holds; alike = stood.alike }) told

pub unmade_others : (before after : Option Objects) (name : List ℕ) (old : RepoTable) → old.known ≡ false → Told before after (λ a b. IsUnknown a name → KeepsLayouts a name b) → KeepsOthers before name old after
unmade_others before after name old unknown told opened =
    from_told before after (λ a. StandsFor a opened name (kept_of old)) (λ a b. IsUnknown a name → KeepsLayouts a name b) (λ a b. LeavesOthers a name b)
    (λ a b stood keeps. let kept = keeps (stands_unknown a opened name (kept_of old) stood unknown) in record { layouts = λ other apart moment. kept.all other moment; elsewhere = kept.elsewhere }) told

-- the index of a known repository was put, which says what is kept now
pub put_stands : (before after : Option Objects) (name : List ℕ) (old new : RepoTable) (index : IndexState) → old.known ≡ true → AreAlike (opened_repo index) (kept_of new) → Told before after (λ a b. PutsIndex a name (as_written index) b)
    → KeepsStanding before name old after new
put_stands before after name old new index known alike told opened =
    on_told before after (λ a. StandsFor a opened name (kept_of old)) (λ b. StandsFor b opened name (kept_of new)) (λ a b. PutsIndex a name (as_written index) b)
    (λ a b stood puts. record {
      found = Some (as_written index);
      holds = (puts.known (stands_known a opened name (kept_of old) stood known)).here opened;
      alike = subst (λ r. AreAlike r (kept_of new)) (sym (without_sizes index)) alike;
    }) told

pub put_others : (before after : Option Objects) (name : List ℕ) (old : RepoTable) (index : IndexState) → Told before after (λ a b. PutsIndex a name (as_written index) b) → KeepsOthers before name old after
put_others before after name old index told opened =
    from_told before after (λ a. StandsFor a opened name (kept_of old)) (λ a b. PutsIndex a name (as_written index) b) (λ a b. LeavesOthers a name b)
    (λ a b stood puts. elsewhere_others a b name (λ path marker apart. puts.others path apart)) told

-- the marker was deleted of a repository of which nothing is kept any more
pub forgotten_stands : (before after : Option Objects) (name : List ℕ) (old new : RepoTable) → AreAlike fresh (kept_of new) → Told before after (λ a b. SetsLayout a name None b) → KeepsStanding before name old after new
forgotten_stands before after name old new alike told opened =
    on_told before after (λ a. StandsFor a opened name (kept_of old)) (λ b. StandsFor b opened name (kept_of new)) (λ a b. SetsLayout a name None b)
    (λ a b stood sets. record { found = None; holds = sets.here opened; alike = alike }) told

-- ---- what a turn writes

-- a repository that was made known
pub made_stands : (before after : Option Objects) (name : List ℕ) (old new : RepoTable) (index : IndexState) → index ≡ index_of old → new ≡ known_as true old → Told before after (λ a b. SetsLayout a name (Some (as_written index)) b)
    → KeepsStanding before name old after new
made_stands before after name old new index is same told =
    set_stands before after name old new index
    (subst (λ (t : RepoTable). AreAlike (opened_repo index) (kept_of t)) (sym same) (subst (λ (i : IndexState). AreAlike (opened_repo i) (kept_of (known_as true old))) (sym is) (index_alike (known_as true old) (λ _. None) refl))) told

-- one that has neither manifests nor tags was forgotten
pub bare_stands : (before after : Option Objects) (name : List ℕ) (old new : RepoTable) → old.table ≡ empty_table → new ≡ known_as false old → Told before after (λ a b. SetsLayout a name None b) → KeepsStanding before name old after new
bare_stands before after name old new bare same told = forgotten_stands before after name old new (subst (λ (t : RepoTable). AreAlike fresh (kept_of t)) (sym same) alike) told where
  alike : AreAlike fresh (kept_of (known_as false old))
  alike = record {
    known = refl;
    manifests = ap (λ (t : Table). plain_manifests t.manifests) bare ∙ plain_empty;
    tags = λ tag. ap (λ (t : Table). option_map without_pulls (finite.get t.tags tag)) bare;
  }

-- the index of a known repository was put as it is now
pub index_stands : (before after : Option Objects) (name : List ℕ) (old new : RepoTable) (index : IndexState) → old.known ≡ true → new.known ≡ true → index ≡ index_of new → Told before after (λ a b. PutsIndex a name (as_written index) b)
    → KeepsStanding before name old after new
index_stands before after name old new index was known is told =
    put_stands before after name old new index was (subst (λ (i : IndexState). AreAlike (opened_repo i) (kept_of new)) (sym is) (index_alike new (λ _. None) known)) told

-- where nothing is kept of a repository, nothing is named
nothing_plain : (manifests : ByteMap Kept) (digest : List ℕ) → plain_manifests manifests ≡ finite.empty → is_some (finite.get manifests digest) ≡ true → ⊥
nothing_plain manifests digest none has = split (finite.get manifests digest) refl has where
  split : (found : Option Kept) → finite.get manifests digest ≡ found → is_some found ≡ true → ⊥
  split None is h = true≢false (sym h)
  split (Some kept) is h =
      let clash : Some (plain_manifest kept) ≡ None = sym (ap (option_map plain_manifest) is) ∙ sym (get_plain manifests digest) ∙ ap (λ m. finite.get m digest) none ∙ get-empty byte_cmp digest in cc clash

nothing_tagged : (tags : ByteMap StoredTag) (tag : List ℕ) → option_map without_pulls (finite.get tags tag) ≡ option_map without_pulls (finite.get fresh.tags tag) → is_some (finite.get tags tag) ≡ true → ⊥
nothing_tagged tags tag same has = split (finite.get tags tag) refl has where
  split : (found : Option StoredTag) → finite.get tags tag ≡ found → is_some found ≡ true → ⊥
  split None is h = true≢false (sym h)
  split (Some stored) is h =
      let clash : Some (without_pulls stored) ≡ None = sym (ap (option_map without_pulls) is) ∙ same ∙ ap (option_map without_pulls) (get-empty byte_cmp tag) in cc clash

bare_unnamed : (table : RepoTable) (reference : Reference) → AreAlike fresh (kept_of table) → has_named table reference ≡ true → ⊥
bare_unnamed table (by.Tag tag) alike has = nothing_tagged table.table.tags tag (alike.tags tag) has
bare_unnamed table (by.Digest digest) alike has = nothing_plain table.table.manifests digest alike.manifests has

-- a repository that isn't known is as a fresh one
stands_fresh : (objects : Objects) (opened : ℕ) (name : List ℕ) (table : RepoTable) → table.known ≡ false → StandsFor objects opened name (kept_of table) → AreAlike fresh (kept_of table)
stands_fresh objects opened name table unknown stands = split stands.found stands.alike where
  split : (found : Option IndexState) → AreAlike (layout_repo found) (kept_of table) → AreAlike fresh (kept_of table)
  split None alike = alike
  split (Some index) alike = absurd (true≢false (sym alike.known ∙ unknown))

left_known : (table : RepoTable) (reference : Reference) → (without_named table reference).known ≡ table.known
left_known table (by.Tag tag) = refl
left_known table (by.Digest digest) = refl

-- what a reference names was left out of the index, and then goes
pub removed_stands : (before after : Option Objects) (name : List ℕ) (old new : RepoTable) (reference : Reference) (index : IndexState) → has_named old reference ≡ true → index ≡ index_of (without_named old reference) → new ≡ without_named old reference
    → Told before after (λ a b. PutsIndex a name (as_written index) b) → KeepsStanding before name old after new
removed_stands before after name old new reference index has is same told = split old.known refl where
  split : (known : Bool) → old.known ≡ known → KeepsStanding before name old after new
  split true known opened =
      index_stands before after name old new index known (ap (λ (t : RepoTable). t.known) same ∙ left_known old reference ∙ known) (is ∙ ap index_of (sym same)) told opened
  split false unknown opened =
      on_told before after (λ a. StandsFor a opened name (kept_of old)) (λ b. StandsFor b opened name (kept_of new)) (λ a b. PutsIndex a name (as_written index) b)
      (λ a b stood puts. absurd (bare_unnamed old reference (stands_fresh a opened name old unknown stood) has)) told

-- ---- one turn after another

-- what is known of the part after two writes
pub stands_then : (before mid after : Option Objects) (name : List ℕ) (old between new : RepoTable) → KeepsStanding before name old mid between → KeepsStanding mid name between after new → KeepsStanding before name old after new
stands_then before mid after name old between new first second opened h = second opened (first opened h)

others_told : (before mid after : Option Objects) (name : List ℕ) → Told before mid (λ a b. LeavesOthers a name b) → Told mid after (λ a b. LeavesOthers a name b) → Told before after (λ a b. LeavesOthers a name b)
others_told None mid after name first second = subst (λ m. Told m after (λ a b. LeavesOthers a name b)) first second
others_told (Some a) None after name first second = absurd first
others_told (Some a) (Some b) None name first second = absurd second
others_told (Some a) (Some b) (Some c) name first second = record {
  layouts = λ other apart moment. second.layouts other apart moment ∙ first.layouts other apart moment;
  elsewhere = λ path marker index. second.elsewhere path marker index ∙ first.elsewhere path marker index;
}

pub others_then : (before mid after : Option Objects) (name : List ℕ) (old between : RepoTable) → KeepsStanding before name old mid between → KeepsOthers before name old mid → KeepsOthers mid name between after → KeepsOthers before name old after
others_then before mid after name old between stands first second opened h = others_told before mid after name (first opened h) (second opened (stands opened h))
