-- The members of what `serde_json` reads stand in byte order of their keys, each key once, and so do annotations.
use Rattle.std.proofs.Common.{◌≡◌, ℕ, Bool, true, false, List, map, Option, Some, None, option_map, option_and_then, Ordering, Less, Equal, Greater, nat_cmp, refl, sym, ap, ◌∙◌, subst, if◌then◌else◌}
use Rattle.std.specs.Prelude.{⊤}
use Rattle.std.specs.Cmp.Lexicographic.{slice_cmp}
use Rattle.std.specs.List.{AllByRecursion}
use Rattle.std.specs.List.Sorted.{IsStrictlySortedBy}
use Rattle.std.specs.Ordering.{match_ordering, ordering_reverse}
use Rattle.std.specs.Str.{is_utf8}
use Rattle.std.proofs.lemmas.Cmp.{nat_list_cmp_total}
use Rattle.json.specs.Json as json
use Rattle.json.specs.Lex.{tokens}
use Rattle.serde_json.specs.Data.{Data, null, boolean, number, string, array, object, Items, no_items, item, Members, no_members, member, put}
use Rattle.serde_json.specs.Find.{as_object, as_str, get, get_member}
use Rattle.serde_json.specs.Read.{number_of, of_items, max_depth, of_json, of_members, read}
use Rattle.zot_media.specs.Fields.{document, each, given, pairs_of, unless_null}
use Rattle.zot_media.specs.Manifest.{annotated, annotation_of, annotations_of, artifact_of, children_of, is_headed, reading, reading_of, references_of, subject_of}
use Rattle.zot_media.specs.declared.annotation.Annotation.{Annotation}
use Rattle.zot_media.specs.declared.media.Media.{Media}
use Rattle.zot_media.specs.declared.reading.Reading.{Reading}

-- ---- what is there has a property

abbrev pub Where : {A : Type 0} → (A → Type 0) → Option A → Type 0
Where P None = ⊤
Where P (Some x) = P x

where-map : {A B : Type 0} (P : A → Type 0) (Q : B → Type 0) (f : A → B) → ((x : A) → P x → Q (f x)) → (o : Option A) → Where P o → Where Q (option_map f o)
where-map P Q f h None is = tt
where-map P Q f h (Some x) is = h x is

where-then : {A B : Type 0} (P : A → Type 0) (Q : B → Type 0) (f : A → Option B) → ((x : A) → P x → Where Q (f x)) → (o : Option A) → Where P o → Where Q (option_and_then f o)
where-then P Q f h None is = tt
where-then P Q f h (Some x) is = h x is

any : {A : Type 0} (o : Option A) → Where (λ _. ⊤) o
any None = tt
any (Some x) = tt

where-both : {A : Type 0} (P Q : A → Type 0) (o : Option A) → Where P o → Where Q o → Where (λ x. P x × Q x) o
where-both P Q None p q = tt
where-both P Q (Some x) p q = (p, q)

-- ---- members in order

-- each key is greater than this one
abbrev IsAbove : List ℕ → Members → Type 0
IsAbove k no_members = ⊤
IsAbove k (member l e ms) = (slice_cmp nat_cmp k l ≡ Less) × IsAbove k ms

abbrev mutual
  IsOrdered : Data → Type 0
  IsOrdered null = ⊤
  IsOrdered (boolean b) = ⊤
  IsOrdered (number n) = ⊤
  IsOrdered (string s) = ⊤
  IsOrdered (array ds) = AreOrdered ds
  IsOrdered (object ms) = Ascend ms

  AreOrdered : Items → Type 0
  AreOrdered no_items = ⊤
  AreOrdered (item d ds) = IsOrdered d × AreOrdered ds

  Ascend : Members → Type 0
  Ascend no_members = ⊤
  Ascend (member k d ms) = IsAbove k ms × IsOrdered d × Ascend ms

above-by : (o : Ordering) (k : List ℕ) (a b c : Members) → IsAbove k a → IsAbove k b → IsAbove k c → IsAbove k (match_ordering o a b c)
above-by Less k a b c x y z = x
above-by Equal k a b c x y z = y
above-by Greater k a b c x y z = z

above-put : (k l : List ℕ) (d : Data) (ms : Members) → slice_cmp nat_cmp k l ≡ Less → IsAbove k ms → IsAbove k (put l d ms)
above-put k l d no_members below h = (below, tt)
above-put k l d (member m e ms) below h =
    above-by (slice_cmp nat_cmp l m) k (member l d (member m e ms)) (member m d ms) (member m e (put l d ms)) (below, h) h (h.0, above-put k l d ms below h.1)

above-all : (k l : List ℕ) (ms : Members) → slice_cmp nat_cmp k l ≡ Less → IsAbove l ms → IsAbove k ms
above-all k l no_members below h = tt
above-all k l (member m e ms) below h = (nat_list_cmp_total.trans k l m below h.0, above-all k l ms below h.1)

ascend-by : (o : Ordering) (k l : List ℕ) (d e : Data) (ms : Members) → slice_cmp nat_cmp k l ≡ o → IsOrdered d → Ascend (member l e ms) → Ascend (put k d ms)
    → Ascend (match_ordering o (member k d (member l e ms)) (member l d ms) (member l e (put k d ms)))
ascend-by Less k l d e ms is x h more = ((is, above-all k l ms is h.0), x, h)
ascend-by Equal k l d e ms is x h more = (h.0, x, h.2)
ascend-by Greater k l d e ms is x h more = (above-put l k d ms (nat_list_cmp_total.antisymm l k ∙ ap ordering_reverse is) h.0, h.1, more)

ascend-put : (k : List ℕ) (d : Data) (ms : Members) → IsOrdered d → Ascend ms → Ascend (put k d ms)
ascend-put k d no_members x h = (tt, x, tt)
ascend-put k d (member l e ms) x h = ascend-by (slice_cmp nat_cmp k l) k l d e ms refl x h (ascend-put k d ms x h.2)

mutual
  ordered-json : (j : json.Json) → Where IsOrdered (of_json j)
  ordered-json json.null = tt
  ordered-json (json.boolean b) = tt
  ordered-json (json.number s) = where-map (λ _. ⊤) IsOrdered number (λ n x. tt) (number_of s) (any (number_of s))
  ordered-json (json.string s) = tt
  ordered-json (json.array js) = where-map AreOrdered IsOrdered array (λ ds x. x) (of_items js) (ordered-items js)
  ordered-json (json.object ms) = where-map Ascend IsOrdered object (λ ds x. x) (of_members ms no_members) (ordered-members ms no_members tt)

  ordered-items : (js : json.Items) → Where AreOrdered (of_items js)
  ordered-items json.no_items = tt
  ordered-items (json.item j js) =
      where-then IsOrdered AreOrdered _ (λ d x. where-map AreOrdered AreOrdered (item d) (λ ds y. (x, y)) (of_items js) (ordered-items js)) (of_json j) (ordered-json j)

  ordered-members : (ms : json.Members) (found : Members) → Ascend found → Where Ascend (of_members ms found)
  ordered-members json.no_members found h = h
  ordered-members (json.member k j ms) found h =
      where-then IsOrdered Ascend _ (λ d x. ordered-members ms (put k d found) (ascend-put k d found x h)) (of_json j) (ordered-json j)

ordered-then : (o : Option json.Json) → Where IsOrdered (option_and_then of_json o)
ordered-then None = tt
ordered-then (Some j) = ordered-json j

ordered-document : (bytes : List ℕ) → Where IsOrdered (document bytes)
unfolding document
ordered-document bytes = ordered-by (is_utf8 bytes) where
  ordered-by : (b : Bool) → Where IsOrdered (if b then read bytes else None)
  ordered-by true = ordered-then (option_and_then (λ p. json.if_last p.0 p.1) (json.value max_depth (tokens bytes)))
  ordered-by false = tt

-- ---- a field of an object in order

found-by : (o : Ordering) (e : Data) (rest : Option Data) → IsOrdered e → Where IsOrdered rest → Where IsOrdered (match_ordering o rest (Some e) rest)
found-by Less e rest x h = h
found-by Equal e rest x h = x
found-by Greater e rest x h = h

ordered-member : (k : List ℕ) (ms : Members) → Ascend ms → Where IsOrdered (get_member k ms)
ordered-member k no_members h = tt
ordered-member k (member l e ms) h = found-by (slice_cmp nat_cmp k l) e (get_member k ms) h.1 (ordered-member k ms h.2)

ordered-get : (k : List ℕ) (d : Data) → IsOrdered d → Where IsOrdered (get k d)
ordered-get k null h = tt
ordered-get k (boolean b) h = tt
ordered-get k (number n) h = tt
ordered-get k (string s) h = tt
ordered-get k (array ds) h = tt
ordered-get k (object ms) h = ordered-member k ms h

ordered-unless : (d : Data) → IsOrdered d → Where IsOrdered (unless_null d)
ordered-unless null h = tt
ordered-unless (boolean b) h = tt
ordered-unless (number n) h = tt
ordered-unless (string s) h = tt
ordered-unless (array ds) h = h
ordered-unless (object ms) h = h

ordered-given : (k : List ℕ) (d : Data) → IsOrdered d → Where IsOrdered (given k d)
unfolding given
ordered-given k d h = where-then IsOrdered IsOrdered unless_null ordered-unless (get k d) (ordered-get k d h)

-- ---- annotations in order

abbrev AllAbove : List ℕ → List Annotation → Type 0
AllAbove k found = AllByRecursion (λ y. slice_cmp nat_cmp k y ≡ Less) (map (λ annotation. annotation.key) found)

abbrev pub AreAscending : List Annotation → Type 0
AreAscending found = IsStrictlySortedBy (slice_cmp nat_cmp) (map (λ annotation. annotation.key) found)

keyed : (k : List ℕ) (d : Data) → Where (λ annotation. annotation.key ≡ k) (annotation_of (k, d))
unfolding annotation_of
keyed k d = where-map (λ _. ⊤) (λ annotation. annotation.key ≡ k) _ (λ text x. refl) (as_str d) (any (as_str d))

all-above : (k : List ℕ) (ms : Members) → IsAbove k ms → Where (AllAbove k) (each annotation_of (pairs_of ms))
all-above k no_members h = tt
all-above k (member l d ms) h =
    where-then (λ annotation. annotation.key ≡ l) (AllAbove k) _
    (λ first is. where-then (AllAbove k) (AllAbove k) _ (λ others x. (ap (slice_cmp nat_cmp k) is ∙ h.0, x)) (each annotation_of (pairs_of ms)) (all-above k ms h.1)) (annotation_of (l, d)) (keyed l d)

ascending : (ms : Members) → Ascend ms → Where AreAscending (each annotation_of (pairs_of ms))
unfolding IsStrictlySortedBy
ascending no_members h = tt
ascending (member l d ms) h =
    where-then (λ annotation. annotation.key ≡ l) AreAscending _
    (λ first is. where-then (λ others. AllAbove l others × AreAscending others) AreAscending _ (λ others x. (subst (λ k. AllAbove k others) (sym is) x.0, x.1)) (each annotation_of (pairs_of ms))
    (where-both (AllAbove l) AreAscending _ (all-above l ms h.0) (ascending ms h.2))) (annotation_of (l, d)) (keyed l d)

of-object : (d : Data) → IsOrdered d → Where Ascend (as_object d)
of-object null h = tt
of-object (boolean b) h = tt
of-object (number n) h = tt
of-object (string s) h = tt
of-object (array ds) h = tt
of-object (object ms) h = h

ascending-annotated : (field : Option Data) → Where IsOrdered field → Where AreAscending (annotated field)
unfolding IsStrictlySortedBy
ascending-annotated None h = tt
ascending-annotated (Some d) h = where-then Ascend AreAscending _ ascending (as_object d) (of-object d h)

ascending-annotations : (d : Data) → IsOrdered d → Where AreAscending (annotations_of d)
unfolding annotations_of
ascending-annotations d h = ascending-annotated _ (ordered-given _ d h)

-- ---- the reading of a manifest

abbrev HasOrder : Reading → Type 0
HasOrder found = AreAscending found.annotations

ordered-reading_of : (media : Media) (d : Data) → IsOrdered d → Where HasOrder (reading_of media d)
unfolding reading_of
ordered-reading_of media d h =
    where-then (λ _. ⊤) HasOrder _ (λ references x.
    where-then (λ _. ⊤) HasOrder _ (λ children x.
    where-then (λ _. ⊤) HasOrder _ (λ subject x.
    where-then (λ _. ⊤) HasOrder _ (λ artifact x.
    where-then AreAscending HasOrder _ (λ annotations x. x) (annotations_of d) (ascending-annotations d h))
    (artifact_of d) (any _)) (subject_of d) (any _)) (children_of media d) (any _)) (references_of media d) (any _)

ordered-reading : (media : Media) (bytes : List ℕ) → Where HasOrder (reading media bytes)
unfolding reading
ordered-reading media bytes = where-then IsOrdered HasOrder _ (λ d h. headed d (is_headed media d) h) (document bytes) (ordered-document bytes) where
  headed : (d : Data) (b : Bool) → IsOrdered d → Where HasOrder (if b then reading_of media d else None)
  headed d true h = ordered-reading_of media d h
  headed d false h = tt

pub annotations_in_order : (media : Media) (bytes : List ℕ) (found : Reading) → reading media bytes ≡ Some found → AreAscending found.annotations
annotations_in_order media bytes found e = subst (Where HasOrder) e (ordered-reading media bytes)
