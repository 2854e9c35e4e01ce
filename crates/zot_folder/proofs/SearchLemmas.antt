-- How a search through folders comes to the next path.
use Rattle.std.proofs.Common.{◌≡◌, ◌≢◌, ℕ, eqb, ◌<◌, Bool, true, false, ◌⊎◌, inl, inr, List, [], ◌∷◌, ◌++◌, length, get_or, drop, Option, Some, None, refl, sym, ap, ◌∙◌, subst, arith, lit<, All, Contains, IsSome, IfSome, MatchOption, string_bytes, length-append}
use Rattle.std.proofs.lemmas.Bool.{and_parts, eqb-true, true≢false}
use Rattle.std.proofs.lemmas.List.{append_assoc, append-nil, take-append-drop}
use Rattle.std.proofs.lemmas.List.Elements.{All-contains, All-from_get_or, All-head}
use Rattle.std.proofs.lemmas.Str.Pattern.{NoCharPasses-char, drop_at_char}
use Rattle.std.specs.FinMap as map
use Rattle.std.specs.Str.Pattern.{RFindsChar, SplitsAroundMatch}
use Rattle.std.specs.Ordering.{ordering_reverse}
use Rattle.std.specs.declared.cmp.Ordering.{Ordering}
use Rattle.std.specs.declared.cmp.Ordering.TheVariants.{Less, Equal, Greater}
use Rattle.zot_maps.proofs.Maps.{byte_order}
use Rattle.zot_folder.proofs.FolderLemmas.{above_bound, less_not_greater}
use Rattle.zot_folder.proofs.PathLemmas.{folder_named, slashed}
use Rattle.zot_folder.proofs.PrefixLemmas.{between, cancel_front, comparable, prefix_append, prefix_le, prefix_less, prefix_rest, prefix_trans, right_of, same_name, slash_past}
use Rattle.zot_folder.specs.Listing.{FindsAbove, IsChild, IsEntry, IsFileAbove, IsFilePath, IsLeastAbove, NoneAbove, child_path, front}
use Rattle.zot_folder.specs.Paths.{IsParentOf, is_object_path}
use Rattle.zot_folder.specs.Steps.{IsStep, IsStepAbove, Leads}
use Rattle.zot_folder.specs.declared.spot.Spot.{Spot}
use Rattle.zot_folder.specs.declared.spot.Step.{Step}
use Rattle.zot_folder.specs.declared.spot.Step.TheVariants.{End, Folder, Unread}
use Rattle.zot_folder.specs.Walks.{Covers, IsFolderIn, IsFolderOf, IsListing, Searches, ShowsAfter, is_prefix}
use Rattle.zot_outside.specs.Objects.{IsLast, IsNext, Objects, path_cmp}

-- what stands before a slash that no other follows
cut_at : (path before after : List ℕ) → path ≡ before ++ 47 ∷ after → All (λ b. b ≢ 47) after → IsFolderOf path before
cut_at path [] after is plain = (after, plain, inr (refl, is))
cut_at path (b ∷ bs) after is plain = (after, plain, inl (is ∙ sym (append_assoc (b ∷ bs) (47 ∷ []) after)))

pub plain_text : (text : List ℕ) → RFindsChar 47 text None → All (λ b. b ≢ 47) text
plain_text text none = All-from_get_or (λ b. b ≢ 47) text 0 (λ i inside. NoCharPasses-char 47 text i none (lit< tt) inside)

-- where a path is cut at its last slash
pub cut_found : (path before after : List ℕ) → SplitsAroundMatch (RFindsChar 47) path before after → (path ≡ before ++ 47 ∷ after) × All (λ b. b ≢ 47) after
cut_found path before after cut =
    let low : 47 < 128 = lit< tt in
    let rest : drop cut.0 path ≡ 47 ∷ after = drop_at_char 47 path cut.0 cut.1 cut.2.1 low ∙ ap (λ l. 47 ∷ l) (sym cut.4) in (
      sym (take-append-drop cut.0 path) ∙ ap (λ l. l ++ drop cut.0 path) (sym cut.3) ∙ ap (λ l. before ++ l) rest,
      subst (λ l. All (λ b. b ≢ 47) l) (sym cut.4) (All-from_get_or (λ b. b ≢ 47) (drop cut.1 path) 0 (λ i inside. NoCharPasses-char 47 (drop cut.1 path) i cut.2.0 low inside)),
    )

pub folder_found : (path before after : List ℕ) → SplitsAroundMatch (RFindsChar 47) path before after → IsFolderOf path before
folder_found path before after cut = let found = cut_found path before after cut in cut_at path before after found.0 found.1

-- the folder of the system that a path lies in
pub root_parent : (path before after : List ℕ) → before ≡ [] → SplitsAroundMatch (RFindsChar 47) path before after → IsParentOf path (47 ∷ [])
root_parent path before after empty cut = let found = cut_found path before after cut in (after, found.1, inr (inl (found.0 ∙ ap (λ f. f ++ 47 ∷ after) empty, refl)))

pub folder_parent : (path before after : List ℕ) → before ≢ [] → SplitsAroundMatch (RFindsChar 47) path before after → IsParentOf path before
folder_parent path before after some cut = let found = cut_found path before after cut in (after, found.1, inl (found.0, some))

pub own_parent : (path : List ℕ) → RFindsChar 47 path None → IsParentOf path (46 ∷ [])
own_parent path none = (path, plain_text path none, inr (inr (refl, refl)))

pub no_folder_found : (path : List ℕ) → RFindsChar 47 path None → IsFolderOf path []
no_folder_found path none = (path, plain_text path none, inl refl)

-- the path of a name in a folder begins as all in the folder do
child_front : (folder name : List ℕ) → child_path folder name ≡ front folder ++ name
child_front [] name = refl
child_front (b ∷ bs) name = sym (append_assoc (b ∷ bs) (47 ∷ []) name)

child_begins : (folder path : List ℕ) → IsChild folder path → is_prefix (front folder) path ≡ true
child_begins folder path child =
    elim child.entry [
      | inl is ↦ ap (is_prefix (front folder)) (is ∙ child_front folder child.name) ∙ prefix_append (front folder) child.name
      | inr is ↦ ap (is_prefix (front folder)) (is ∙ child_front folder (child.name ++ 47 ∷ [])) ∙ prefix_append (front folder) (child.name ++ 47 ∷ [])
    ]

prefix_self : (path : List ℕ) → is_prefix path path ≡ true
prefix_self path = ap (is_prefix path) (sym (append-nil path)) ∙ prefix_append path []

-- the order, both ways
turned : (one other : List ℕ) → path_cmp one other ≡ Less → path_cmp other one ≡ Greater
turned one other less = byte_order.total.antisymm other one ∙ ap ordering_reverse less

reverse_greater : (r : Ordering) → ordering_reverse r ≡ Greater → r ≡ Less
reverse_greater Less h = refl
reverse_greater Equal h = cc h
reverse_greater Greater h = cc h

-- what isn't less has the other one not greater
pub not_less_le : (one other : List ℕ) → path_cmp one other ≢ Less → path_cmp other one ≢ Greater
not_less_le one other h greater = h (reverse_greater (path_cmp one other) (sym (byte_order.total.antisymm other one) ∙ greater))

equal_not_less : Equal ≢ Less
equal_not_less k = cc k

greater_not_less : Greater ≢ Less
greater_not_less k = cc k

-- a path is less than another unless that one isn't greater
less_unless : (one other : List ℕ) → (path_cmp other one ≢ Greater → ⊥) → path_cmp one other ≡ Less
less_unless one other h =
    elim (path_cmp one other) as (λ r. path_cmp one other ≡ r → r ≡ Less) [
      | Less ↦ λ _. refl
      | Equal ↦ λ tied. absurd (h (not_less_le one other (λ less. equal_not_less (sym tied ∙ less))))
      | Greater ↦ λ more. absurd (h (not_less_le one other (λ less. greater_not_less (sym more ∙ less))))
    ] refl

le_apart_less : (one other : List ℕ) → path_cmp one other ≢ Greater → one ≢ other → path_cmp one other ≡ Less
le_apart_less one other le apart =
    elim (path_cmp one other) as (λ r. path_cmp one other ≡ r → r ≡ Less) [
      | Less ↦ λ _. refl
      | Equal ↦ λ tied. absurd (apart (byte_order.antisymmetric one other tied))
      | Greater ↦ λ greater. absurd (le greater)
    ] refl

le_less : (one mid other : List ℕ) → path_cmp one mid ≢ Greater → path_cmp mid other ≢ Greater → path_cmp one other ≢ Greater
le_less one mid other h k =
    elim (path_cmp mid other) as (λ r. path_cmp mid other ≡ r → path_cmp one other ≢ Greater) [
      | Less ↦ λ less. less_not_greater one other (above_bound one mid other h less)
      | Equal ↦ λ tied. subst (λ o. path_cmp one o ≢ Greater) (byte_order.antisymmetric mid other tied) h
      | Greater ↦ λ greater. absurd (k greater)
    ] refl

-- an entry isn't greater than what it covers
covers_le : (folder entry path : List ℕ) → Covers folder entry path → path_cmp entry path ≢ Greater
covers_le folder entry path (inl is) = subst (λ p. path_cmp entry p ≢ Greater) is (prefix_le entry entry (prefix_self entry))
covers_le folder entry path (inr h) = prefix_le entry path h.1

-- a path begins as all in its folder do, and with no folder in that one
of_begins : (path folder : List ℕ) → IsFolderOf path folder → is_prefix (front folder) path ≡ true
of_begins path folder of =
    elim of.2 [
      | inl is ↦ ap (is_prefix (front folder)) is ∙ prefix_append (front folder) of.0
      | inr h ↦ ap (λ f. is_prefix (front f) path) h.0
    ]

slash_first : (name last : List ℕ) → All (λ b. b ≢ 47) name → name ≢ [] → is_prefix (name ++ 47 ∷ []) (47 ∷ last) ≡ true → ⊥
slash_first [] last plain named h = named refl
slash_first (n ∷ name) last plain named h = All-head (λ b. b ≢ 47) n name plain (eqb-true n 47 (and_parts (eqb n 47) (is_prefix (name ++ 47 ∷ []) last) h).0)

no_child : (path folder entry : List ℕ) → IsFolderOf path folder → IsFolderIn folder entry → is_prefix entry path ≡ true → ⊥
no_child path folder entry of child h =
    elim of.2 [
      | inl is ↦ slash_past child.name of.0 of.1
          (cancel_front (front folder) (child.name ++ 47 ∷ []) of.0 (sym (ap (λ p. is_prefix p (front folder ++ of.0)) child.entry_is) ∙ sym (ap (is_prefix entry) is) ∙ h))
      | inr is ↦ slash_first child.name of.0 child.plain child.named
          (sym (ap (λ f. is_prefix (front f ++ (child.name ++ 47 ∷ [])) (47 ∷ of.0)) is.0) ∙ sym (ap (λ p. is_prefix p (47 ∷ of.0)) child.entry_is) ∙ sym (ap (is_prefix entry) is.1) ∙ h)
    ]

decided : (b : Bool) → (b ≡ true) ⊎ (b ≡ false)
decided true = inl refl
decided false = inr refl

-- an entry of the folder of a path is greater than the path, if it covers a greater one
behind : (after folder entry path : List ℕ) → IsFolderOf after folder → path_cmp after path ≡ Less → Covers folder entry path → path_cmp after entry ≡ Less
behind after folder entry path of above (inl is) = subst (λ p. path_cmp after p ≡ Less) (sym is) above
behind after folder entry path of above (inr h) = less_unless after entry (λ le. no_child after folder entry of h.0 (between entry after path h.1 le above))

-- a search begins in the folder of the path after which it looks
pub begun_at : (objects : Objects) (after folder : List ℕ) → ((path : List ℕ) → IsSome (map.get objects path) → is_object_path path ≡ true) → IsFolderOf after folder → Searches objects after folder after
begun_at objects after folder named of = record {
  named = named;
  begun = prefix_le after after (prefix_self after);
  inside = of_begins after folder of;
  ahead = λ path held above.
      elim (decided (is_prefix (front folder) path)) [
        | inl below ↦ inl (below, λ entry covers. behind after folder entry path of above covers)
        | inr beside ↦ inr (beside, above)
      ];
}

no_bytes : (name : List ℕ) → length name ≡ 0 → name ≡ []
no_bytes [] h = refl
no_bytes (b ∷ name) h = absurd (omega arith)

-- a folder with a slash behind it is no object's path
ends_named : (path stem : List ℕ) → path ≡ stem ++ 47 ∷ [] → is_object_path path ≡ true → ⊥
ends_named path stem is named = true≢false (sym named ∙ ap is_object_path is ∙ slashed stem)

short : (b : ℕ) (bs rest : List ℕ) → 47 ∷ [] ≡ (b ∷ bs) ++ 47 ∷ rest → ⊥
short b bs rest is = absurd (omega (arith, ap length is, length-append (b ∷ bs) (47 ∷ rest)))

no_root_entry : (folder : List ℕ) (name : List ℕ) → All (λ b. b ≢ 47) name → name ≢ [] → IsEntry folder name (47 ∷ []) → ⊥
no_root_entry [] name plain named (inl is) = All-head (λ b. b ≢ 47) 47 [] (subst (λ n. All (λ b. b ≢ 47) n) (sym is) plain) refl
no_root_entry [] name plain named (inr is) = named (no_bytes name (omega (arith, ap length is, length-append name (47 ∷ []))))
no_root_entry (b ∷ bs) name plain named (inl is) = short b bs name is
no_root_entry (b ∷ bs) name plain named (inr is) = short b bs (name ++ 47 ∷ []) is

pub child_proper : (folder path : List ℕ) → IsChild folder path → path ≢ 47 ∷ []
child_proper folder path child is = no_root_entry folder child.name child.plain child.named (subst (λ e. IsEntry folder child.name e) is child.entry)

-- all in a folder begin with its entry
front_is_entry : (entry stem : List ℕ) → entry ≢ 47 ∷ [] → entry ≡ stem ++ 47 ∷ [] → front stem ≡ entry
front_is_entry entry [] proper is = absurd (proper is)
front_is_entry entry (b ∷ bs) proper is = sym is

longer : (front name : List ℕ) → front ≡ front ++ (name ++ 47 ∷ []) → ⊥
longer front name is = absurd (omega (arith, ap length is, length-append front (name ++ 47 ∷ []), length-append name (47 ∷ [])))

-- an object that a folder's entry begins is covered by greater ones in the folder
covered_further : (entry stem inner path : List ℕ) → front stem ≡ entry → entry ≡ stem ++ 47 ∷ [] → is_object_path path ≡ true → is_prefix entry path ≡ true → Covers stem inner path → path_cmp entry inner ≡ Less
covered_further entry stem inner path begins is named below (inl same) =
    subst (λ p. path_cmp entry p ≡ Less) (sym same) (prefix_less entry path below (λ k. ends_named path stem (sym k ∙ is) named))
covered_further entry stem inner path begins is named below (inr h) =
    let inner_is : inner ≡ entry ++ (h.0.name ++ 47 ∷ []) = h.0.entry_is ∙ ap (λ f. f ++ (h.0.name ++ 47 ∷ [])) begins in
    prefix_less entry inner (ap (is_prefix entry) inner_is ∙ prefix_append entry (h.0.name ++ 47 ∷ [])) (λ k. longer entry h.0.name (k ∙ inner_is))

front_longer : (folder : List ℕ) → is_prefix folder (front folder) ≡ true
front_longer [] = refl
front_longer (b ∷ bs) = prefix_append (b ∷ bs) (47 ∷ [])

pub front_of : (folder : List ℕ) → folder ≢ [] → front folder ≡ folder ++ 47 ∷ []
front_of [] h = absurd (h refl)
front_of (b ∷ bs) h = refl

-- an entry of the folder around a folder that begins what all in that begin with is its own
same_entry : (folder outer entry : List ℕ) → folder ≢ [] → IsFolderOf folder outer → IsFolderIn outer entry → is_prefix entry (front folder) ≡ true → entry ≡ front folder
same_entry folder outer entry inside of child h =
    elim of.2 [
      | inl is ↦
          let whole : front folder ≡ front outer ++ (of.0 ++ 47 ∷ []) = front_of folder inside ∙ ap (λ f. f ++ 47 ∷ []) is ∙ append_assoc (front outer) of.0 (47 ∷ []) in
          let name : child.name ≡ of.0 = same_name child.name of.0 child.plain of.1
          (cancel_front (front outer) (child.name ++ 47 ∷ []) (of.0 ++ 47 ∷ []) (sym (ap (λ e. is_prefix e (front outer ++ (of.0 ++ 47 ∷ []))) child.entry_is) ∙ sym (ap (is_prefix entry) whole) ∙ h)) in
          child.entry_is ∙ ap (λ n. front outer ++ (n ++ 47 ∷ [])) name ∙ sym whole
      | inr is ↦
          let whole : front folder ≡ 47 ∷ (of.0 ++ 47 ∷ []) = front_of folder inside ∙ ap (λ f. f ++ 47 ∷ []) is.1 in
          absurd (slash_first child.name (of.0 ++ 47 ∷ []) child.plain child.named
          (sym (ap (λ f. is_prefix (front f ++ (child.name ++ 47 ∷ [])) (47 ∷ (of.0 ++ 47 ∷ []))) is.0) ∙ sym (ap (λ e. is_prefix e (47 ∷ (of.0 ++ 47 ∷ []))) child.entry_is) ∙ sym (ap (is_prefix entry) whole) ∙ h))
    ]

-- an entry of the folder around a folder is greater than the bound of a search in that, if it covers a path to the right
outer_entry : (folder outer bound entry path : List ℕ) → folder ≢ [] → IsFolderOf folder outer → is_prefix (front folder) bound ≡ true → is_prefix (front folder) path ≡ false → path_cmp bound path ≡ Less
    → Covers outer entry path → path_cmp bound entry ≡ Less
outer_entry folder outer bound entry path inside of within beside right (inl is) = subst (λ p. path_cmp bound p ≡ Less) (sym is) right
outer_entry folder outer bound entry path inside of within beside right (inr h) =
    less_unless bound entry (λ le.
    elim (comparable entry (front folder) bound (between entry bound path h.1 le right) within) [
      | inl shorter ↦ true≢false (sym h.1 ∙ ap (λ e. is_prefix e path) (same_entry folder outer entry inside of h.0 shorter) ∙ beside)
      | inr longer ↦ true≢false (sym (prefix_trans (front folder) entry path longer h.1) ∙ beside)
    ])

module _ (objects : Objects) (after folder bound : List ℕ) (paths : List (List ℕ)) (search : Searches objects after folder bound) (shown : ShowsAfter objects after folder paths) where
  -- what the least entry behind the bound isn't greater than
  from_least : (least path : List ℕ) → IsLeastAbove paths bound least → IsSome (map.get objects path) → path_cmp after path ≡ Less → path_cmp least path ≢ Greater
  from_least least path found held above =
      elim (search.ahead path held above) [
        | inl h ↦ λ greater.
            shown.2 path held above h.0 (λ entry listed covers.
            le_less least entry path (not_less_le entry least (All-contains (λ other. path_cmp bound other ≡ Less → path_cmp other least ≢ Less) paths entry found.least listed (h.1 entry covers))) (covers_le folder entry path covers) greater)
        | inr h ↦ less_not_greater least path (right_of (front folder) bound least path search.inside (All-contains (λ path. (is_prefix (front folder) path ≡ true) × (path ≢ 47 ∷ [])) paths least shown.0 found.listed).0 h.0 h.1)
      ]

  -- a file that is the least behind the bound is the next path
  pub next_found : (least : List ℕ) → IsLeastAbove paths bound least → IsFilePath least → IsNext objects after least
  next_found least found file =
      let above = above_bound after bound least search.begun found.above in
      record {
        held = shown.1 least found.listed file above;
        above = above;
        least = λ other held behind less. from_least least other found held behind (turned other least less);
      }

  -- a folder that is the least behind the bound is entered
  pub entered : (least stem : List ℕ) → IsLeastAbove paths bound least → least ≡ stem ++ 47 ∷ [] → Searches objects after stem least
  entered least stem found is =
      let begins : front stem ≡ least = front_is_entry least stem (All-contains (λ path. (is_prefix (front folder) path ≡ true) × (path ≢ 47 ∷ [])) paths least shown.0 found.listed).1 is in
      record {
        named = search.named;
        begun = less_not_greater after least (above_bound after bound least search.begun found.above);
        inside = ap (λ f. is_prefix f least) begins ∙ prefix_self least;
        ahead = λ path held above.
            elim (decided (is_prefix least path)) [
              | inl below ↦ inl (ap (λ f. is_prefix f path) begins ∙ below, λ inner covers. covered_further least stem inner path begins is (search.named path held) below covers)
              | inr beside ↦ inr (
                ap (λ f. is_prefix f path) begins ∙ beside,
                le_apart_less least path (from_least least path found held above)
                    (λ same. true≢false (sym (prefix_self least) ∙ ap (is_prefix least) same ∙ beside)),
              )
            ];
      }

  -- where no entry is behind the bound, each object lies to the right
  right_only : (path : List ℕ) → NoneAbove paths bound → IsSome (map.get objects path) → path_cmp after path ≡ Less → (is_prefix (front folder) path ≡ false) × (path_cmp bound path ≡ Less)
  right_only path none held above =
      elim (search.ahead path held above) [
        | inl h ↦ absurd (shown.2 path held above h.0 (λ entry listed covers. All-contains (λ other. path_cmp bound other ≢ Less) paths entry none listed (h.1 entry covers)))
        | inr h ↦ h
      ]

  -- in the root there is no object then
  pub none_left : NoneAbove paths bound → folder ≡ [] → IsLast objects after
  none_left none root other held above = true≢false (ap (λ f. is_prefix (front f) other) (sym root) ∙ (right_only other none held above).0)

  -- another folder is left
  pub left : (outer : List ℕ) → NoneAbove paths bound → folder ≢ [] → IsFolderOf folder outer → Searches objects after outer bound
  left outer none inside of = record {
    named = search.named;
    begun = search.begun;
    inside = prefix_trans (front outer) folder bound (of_begins folder outer of) (prefix_trans folder (front folder) bound (front_longer folder) search.inside);
    ahead = λ path held above.
        let right = right_only path none held above in
        elim (decided (is_prefix (front outer) path)) [
          | inl below ↦ inl (below, λ entry covers. outer_entry folder outer bound entry path inside of search.inside right.0 right.1 covers)
          | inr beside ↦ inr (beside, right.1)
        ];
  }

-- where a step leads
pub leads : (objects : Objects) (since : List ℕ) (spot after : Spot) (paths : List (List ℕ)) (least : Option (List ℕ)) (step : Step) → ShowsAfter objects since (string_bytes spot.folder) paths → FindsAbove paths (string_bytes spot.bound) least
    → IsStep least spot step after → Searches objects since (string_bytes spot.folder) (string_bytes spot.bound) → Leads objects since step after
leads objects since spot after paths (Some path) (End found) shown above step search =
    subst (λ f. MatchOption f (IsLast objects since) (IsNext objects since)) (sym step.1) (next_found objects since (string_bytes spot.folder) (string_bytes spot.bound) paths search shown path above step.0)
leads objects since spot after paths (Some path) Folder shown above step search =
    subst (λ b. Searches objects since (string_bytes after.folder) b) (sym step.1) (entered objects since (string_bytes spot.folder) (string_bytes spot.bound) paths search shown path (string_bytes after.folder) above step.0)
leads objects since spot after paths (Some path) Unread shown above step search = absurd step
leads objects since spot after paths None (End found) shown above step search =
    subst (λ f. MatchOption f (IsLast objects since) (IsNext objects since)) (sym step.1) (none_left objects since (string_bytes spot.folder) (string_bytes spot.bound) paths search shown above step.0)
leads objects since spot after paths None Folder shown above step search =
    subst (λ b. Searches objects since (string_bytes after.folder) b) (sym step.2) (left objects since (string_bytes spot.folder) (string_bytes spot.bound) paths search shown (string_bytes after.folder) above step.0 step.1)
leads objects since spot after paths None Unread shown above step search = absurd step

-- and that it only leads on
pub step_above : (spot after : Spot) (paths : List (List ℕ)) (least : Option (List ℕ)) (step : Step) → FindsAbove paths (string_bytes spot.bound) least → IsStep least spot step after → IsStepAbove spot step after
step_above spot after paths (Some path) (End found) above step = subst (λ f. IfSome f (IsFileAbove (string_bytes spot.bound))) (sym step.1) (record { above = above.above; file = step.0 })
step_above spot after paths (Some path) Folder above step = inr (subst (λ b. path_cmp (string_bytes spot.bound) b ≡ Less) (sym step.1) above.above)
step_above spot after paths (Some path) Unread above step = absurd step
step_above spot after paths None (End found) above step = subst (λ f. IfSome f (IsFileAbove (string_bytes spot.bound))) (sym step.1) tt
step_above spot after paths None Folder above step = inl step.2
step_above spot after paths None Unread above step = absurd step

-- what a folder's listing shows, from any path on
pub shows_after : (objects : Objects) (since folder : List ℕ) (paths : List (List ℕ)) → All (IsChild folder) paths → IsListing objects folder paths → ShowsAfter objects since folder paths
shows_after objects since folder paths children lists = (
  λ k d inside. (child_begins folder (get_or paths k d) (children k d inside), child_proper folder (get_or paths k d) (children k d inside)),
  λ path listed file _. lists.files path listed file,
  λ path held _ below refute. let entry = lists.shows path held below in refute entry.0 entry.1 entry.2,
)

none_listed : (path : List ℕ) → Contains [] path → ⊥
none_listed path listed = absurd (omega (arith, listed.1))

-- a folder in which there can be no object has none
pub nothing_below : (objects : Objects) (folder : List ℕ) → ((path : List ℕ) → IsSome (map.get objects path) → is_object_path path ≡ true) → folder ≢ [] → is_object_path folder ≡ false → IsListing objects folder []
nothing_below objects folder named inside hidden = record {
  files = λ path listed file. absurd (none_listed path listed);
  shows = λ path held below.
      let rest = prefix_rest (front folder) path below in
      let whole : path ≡ folder ++ 47 ∷ rest.0 = rest.1 ∙ ap (λ f. f ++ rest.0) (front_of folder inside) ∙ append_assoc folder (47 ∷ []) rest.0 in
      absurd (true≢false (sym (folder_named folder rest.0 (sym (ap is_object_path whole) ∙ named path held)) ∙ hidden));
}
