-- A cluster that was read has 1 to 8 members.
use Rattle.std.proofs.Common.{◌≡◌, ℕ, ◌+◌, ◌≤◌, Bool, true, false, List, [], ◌∷◌, ◌++◌, length, Option, Some, None, Ok, Err, ok_or, option_and_then, refl, sym, ap, ◌∙◌, arith, length-append}
use Rattle.std.proofs.lemmas.Bool.Decides.{nat_tests}
use Rattle.serde_json.specs.Data.{Items, item, no_items}
use Rattle.serde_json.specs.Events.{items_len}
use Rattle.serde_json.specs.Find.{as_array}
use Rattle.zot_config.specs.declared.cluster.Cluster.{Cluster}
use Rattle.zot_config.specs.declared.field.Field.TheVariants as fields
use Rattle.zot_config.specs.declared.wrong.Wrong.{Wrong}
use Rattle.zot_config.specs.Forms.{counted, if_so, is_count, key_form, members_form}
use Rattle.zot_config.specs.Object.{Object, read_field, single, wrong}
use Rattle.zot_config.specs.Settings.{IsCounted}
use Rattle.zot_config.specs.Table.{cluster_of, member_of, members_of}
use Rattle.zot_config.specs.Wrong.{Read, after}

-- a whole that is right has a right part
after_right : {A B : Type 0} (read : Read A) (next : A → Read B) (b : B) → after read next ≡ Ok b → (a : A) × (read ≡ Ok a) × (next a ≡ Ok b)
after_right (Ok a) next b h = (a, refl, h)
after_right (Err w) next b h = absurd (cc)

ok_or_right : {A : Type 0} (o : Option A) (w : Wrong) (a : A) → ok_or {E = Wrong} o w ≡ Ok a → o ≡ Some a
ok_or_right (Some x) w a h = cc
ok_or_right None w a h = absurd (cc)

so_right : {A : Type 0} (b : Bool) (x a : A) → if_so b x ≡ Some a → (b ≡ true) × (x ≡ a)
so_right true x a h = (refl, cc)
so_right false x a h = absurd (cc)

counted_right : (o : Option Items) (items : Items) → option_and_then counted o ≡ Some items → is_count (items_len items) ≡ true
counted_right (Some its) items h =
    let so = so_right (is_count (items_len its)) its items h in
    ap (λ i. is_count (items_len i)) (sym so.1) ∙ so.0
counted_right None items h = absurd (cc)

-- the list of the members
field_counted : (object : Object) (items : Items) → read_field fields.Members members_form object ≡ Ok items → is_count (items_len items) ≡ true
field_counted object items h =
    let found = after_right (single fields.Members object) (λ value. ok_or (members_form value) (wrong fields.Members value)) items h in
    let form = ok_or_right (members_form found.0) (wrong fields.Members found.0) items found.2 in
    counted_right (option_and_then as_array found.0) items form

-- the members are as many as the list has elements
members_long : (earlier : List (List ℕ)) (items : Items) (members : List (List ℕ)) → members_of earlier items ≡ Ok members → length members ≡ length earlier + items_len items
members_long earlier no_items members h =
    let same : earlier ≡ members = cc in
    omega (arith, ap length same)
members_long earlier (item d rest) members h =
    let more = after_right (member_of earlier d) (λ address. members_of (earlier ++ address ∷ []) rest) members h in
    let later = members_long (earlier ++ more.0 ∷ []) rest members more.2 in
    omega (arith, later, length-append earlier (more.0 ∷ []))

counts : (n : ℕ) → is_count n ≡ true → (1 ≤ n) × (n ≤ 8)
counts n h = grind (arith, nat_tests)

abbrev made : List (List ℕ) → List ℕ → Read Cluster
made members key = Ok (record { members = members; key = key })

made_of : (members : List (List ℕ)) (key : List ℕ) (cluster : Cluster) → made members key ≡ Ok cluster → cluster.members ≡ members
made_of members key cluster h =
    let whole : cluster ≡ record { members = members; key = key } = cc in
    ap (λ (w : Cluster). w.members) whole

pub cluster_counted : (object : Object) (cluster : Cluster) → cluster_of object ≡ Ok cluster → IsCounted cluster.members
cluster_counted object cluster h =
    let list = after_right (read_field fields.Members members_form object) _ cluster h in
    let members = after_right (members_of [] list.0) _ cluster list.2 in
    let key = after_right (read_field fields.HashKey key_form object) _ cluster members.2 in
    let long = members_long [] list.0 members.0 members.1 in
    let count = counts (items_len list.0) (field_counted object list.0 list.1) in
    let same = made_of members.0 key.0 cluster key.2 in
    record { some = omega (arith, ap length same, long, count.0); few = omega (arith, ap length same, long, count.1) }
