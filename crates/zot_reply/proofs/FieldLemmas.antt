-- The fields of replies, and that their lines say which they are, whatever bytes the repository's name has.
use Rattle.std.proofs.Common.{◌≡◌, ℕ, ◌-◌, ◌==◌, Bool, true, false, if◌then◌else◌, List, [], ◌∷◌, ◌++◌, drop, Option, Some, None, length, refl, sym, ap, ap₂, subst, ◌∙◌, arith, slice_index}
use Rattle.std.specs.Fmt.{decimal}
use Rattle.std.specs.List.{AllByRecursion}
use Rattle.std.specs.Prelude.{IfSome, codes}
use Rattle.std.specs.Str.{bytes_eq}
use Rattle.std.proofs.lemmas.Bool.{cond_both}
use Rattle.std.proofs.lemmas.List.{append_assoc}
use Rattle.zot_digest.specs.Digest.{IsDigest, digest_text}
use Rattle.zot_media.specs.declared.media.Media.TheVariants.{Index}
use Rattle.zot_media.specs.Media.{media_text}
use Rattle.zot_model.specs.declared.detail.Detail.{Detail}
use Rattle.zot_model.specs.declared.detail.Detail.TheVariants as details
use Rattle.zot_model.specs.declared.methods.Methods.{Methods}
use Rattle.zot_model.specs.declared.methods.Methods.TheVariants as methods
use Rattle.zot_model.specs.declared.reply.Reply.{Reply}
use Rattle.zot_model.specs.declared.reply.Reply.TheVariants as replies
use Rattle.zot_model.specs.Values.{IsReal}
use Rattle.zot_names.specs.Tag.{IsTag}
use Rattle.zot_names.specs.Upload.{upload_text}
use Rattle.zot_spell.specs.Bodies.{error_body, page_body}
use Rattle.zot_spell.specs.declared.field.Field.{Field}
use Rattle.zot_spell.specs.declared.field_name.FieldName.{FieldName}
use Rattle.zot_spell.specs.declared.field_name.FieldName.TheVariants as names
use Rattle.zot_spell.specs.Fields.{allow_field, blob_place, closing_fields, filter_fields, length_fields, link_fields, link_text, manifest_place, methods_text, range_text, subject_fields, upload_fields, upload_place, version_field}
use Rattle.zot_spell.specs.Heads.{AreFields, IsFree, field_of, fields_text, length_field_of, name_text, type_fields}
use Rattle.zot_spell.specs.Spelling.{all_fields, base_body, byte_media, json_media, parts_of, refusal_fields}
use Rattle.zot_spell.proofs.CutLemmas.{cut_front, free_append, same_ended}
use Rattle.zot_reply.proofs.PageLemmas.{link_front, link_is, link_rest_free}
use Rattle.zot_reply.proofs.TextLemmas.{decimal_free, digest_free, free_by_test, media_free, upload_free}
use Rattle.zot_reply.specs.Pages.{link_rest}

-- what stands in the value of a field of this name through the repository's name
abbrev pub place_front : List ℕ → List ℕ → List ℕ
place_front name field = if bytes_eq field (name_text names.Location) then (codes "/v2/" ++ name) else (if bytes_eq field (name_text names.Link) then link_front name else [])

-- a field of a reply: what comes after the repository's name has no CR
pub record IsOwn (name : List ℕ) (field : Field) : Type 0 where
  pub colon : IsFree 58 field.name
  pub line : IsFree 13 field.name
  pub rest : List ℕ
  pub is : field.value ≡ place_front name field.name ++ rest
  pub free : IsFree 13 rest

abbrev pub AreOwn : List ℕ → List Field → Type 0
AreOwn name fields = AllByRecursion (IsOwn name) fields

-- ---- the fields of each reply

names_free : (which : FieldName) → IsFree 58 (name_text which) × IsFree 13 (name_text which)
unfolding name_text
names_free names.Allow = (free_by_test 58 (name_text names.Allow) refl, free_by_test 13 (name_text names.Allow) refl)
names_free which = (free_by_test 58 (name_text which) refl, free_by_test 13 (name_text which) refl)

own : (name : List ℕ) (which : FieldName) (value rest : List ℕ) → value ≡ place_front name (name_text which) ++ rest → IsFree 13 rest → IsOwn name (field_of which value)
unfolding field_of
own name which value rest e f = record { colon = (names_free which).0; line = (names_free which).1; rest = rest; is = e; free = f }

place_own : (name part text : List ℕ) → IsFree 13 part → IsFree 13 text → IsOwn name (field_of names.Location (codes "/v2/" ++ name ++ part ++ text))
unfolding name_text
place_own name part text f g = own name names.Location (codes "/v2/" ++ name ++ part ++ text) (part ++ text) (append_assoc (codes "/v2/" ++ name) part text) (free_append 13 part text f g)

content_own : (name digest : List ℕ) → IsDigest digest → IsOwn name (field_of names.ContentDigest (digest_text digest))
unfolding name_text
content_own name digest is = own name names.ContentDigest (digest_text digest) (digest_text digest) refl (digest_free digest is)

upload_are : (name : List ℕ) (id size : ℕ) (more : List Field) → AreOwn name more → AreOwn name (upload_fields name id size ++ more)
unfolding upload_fields upload_place range_text name_text
upload_are name id size more all = (
  place_own name (codes "/blobs/uploads/") (upload_text id) (free_by_test 13 (codes "/blobs/uploads/") refl) (upload_free id),
  (
    own name names.Range (codes "0-" ++ decimal (size - 1)) (codes "0-" ++ decimal (size - 1)) refl (free_append 13 (codes "0-") (decimal (size - 1)) (free_by_test 13 (codes "0-") refl) (decimal_free 13 (size - 1) (omega arith))),
    (own name names.UploadId (upload_text id) (upload_text id) refl (upload_free id), all),
  ),
)

link_are : (name : List ℕ) (n : ℕ) (next : Option (List ℕ)) (more : List Field) → IfSome next IsTag → AreOwn name more → AreOwn name (link_fields name n next ++ more)
unfolding link_fields name_text
link_are name n None more is all = all
link_are name n (Some tag) more is all = (own name names.Link (link_text name n tag) (link_rest n tag) (link_is name n tag) (link_rest_free n tag is), all)

subject_are : (name : List ℕ) (subject : Option (List ℕ)) (more : List Field) → IfSome subject IsDigest → AreOwn name more → AreOwn name (subject_fields subject ++ more)
unfolding subject_fields name_text
subject_are name None more is all = all
subject_are name (Some digest) more is all = (own name names.Subject (digest_text digest) (digest_text digest) refl (digest_free digest is), all)

filter_are : (name : List ℕ) (filtered : Bool) (more : List Field) → AreOwn name more → AreOwn name (filter_fields filtered ++ more)
unfolding filter_fields name_text
filter_are name true more all = (own name names.FiltersApplied (codes "artifactType") (codes "artifactType") refl (free_by_test 13 (codes "artifactType") refl), all)
filter_are name false more all = all

methods_free : (which : Methods) → IsFree 13 (methods_text which)
unfolding methods_text
methods_free methods.Read = free_by_test 13 (methods_text methods.Read) refl
methods_free which = free_by_test 13 (methods_text which) refl

refusal_are : (name : List ℕ) (detail : Detail) (more : List Field) → AreOwn name more → AreOwn name (refusal_fields name detail ++ more)
unfolding refusal_fields allow_field name_text
refusal_are name (details.Allow which) more all = (own name names.Allow (methods_text which) (methods_text which) refl (methods_free which), all)
refusal_are name (details.Session id size) more all = upload_are name id size more all
refusal_are name detail more all = all

tail_either : (name : List ℕ) (b c : Bool) (length closing : Field) → IsOwn name length → IsOwn name closing → AreOwn name ((if b then [] else (length ∷ [])) ++ (if c then (closing ∷ []) else []))
tail_either name true true length closing x y = (y, tt)
tail_either name true false length closing x y = tt
tail_either name false true length closing x y = (x, (y, tt))
tail_either name false false length closing x y = (x, tt)

-- the fields after those of the media
tail_are : (name : List ℕ) (status size : ℕ) (close : Bool) → AreOwn name (length_fields status size ++ closing_fields close)
unfolding length_fields length_field_of closing_fields name_text
tail_are name status size close =
    tail_either name (status == 204) close (field_of names.ContentLength (decimal size)) (field_of names.Connection (codes "close"))
    (own name names.ContentLength (decimal size) (decimal size) refl (decimal_free 13 size (omega arith)))
    (own name names.Connection (codes "close") (codes "close") refl (free_by_test 13 (codes "close") refl))

typed_are : (name media : List ℕ) (status size : ℕ) (close : Bool) → IsFree 13 media → AreOwn name (type_fields (Some media) ++ (length_fields status size ++ closing_fields close))
unfolding type_fields name_text
typed_are name media status size close f = (own name names.ContentType media media refl f, tail_are name status size close)

-- the fields of a reply, to a request on the repository of the name
abbrev pub fields_of : List ℕ → Reply → Bool → List Field
fields_of name reply close = all_fields (parts_of name reply) close

pub all_are : (name : List ℕ) (reply : Reply) (close : Bool) → IsReal reply → AreOwn name (fields_of name reply close)
unfolding parts_of all_fields byte_media json_media type_fields version_field blob_place manifest_place name_text
all_are name replies.Base close is = (own name names.ApiVersion (codes "registry/2.0") (codes "registry/2.0") refl (free_by_test 13 (codes "registry/2.0") refl), typed_are name json_media 200 (length base_body) close (free_by_test 13 json_media refl))
all_are name (replies.Blob digest bytes) close is = (content_own name digest is, typed_are name byte_media 200 (length bytes) close (free_by_test 13 byte_media refl))
all_are name (replies.BlobHead digest size) close is = (content_own name digest is.0, typed_are name byte_media 200 size close (free_by_test 13 byte_media refl))
all_are name (replies.BlobMade digest) close is = (place_own name (codes "/blobs/") (digest_text digest) (free_by_test 13 (codes "/blobs/") refl) (digest_free digest is), (content_own name digest is, tail_are name 201 0 close))
all_are name (replies.Session id size status) close is = upload_are name id size _ (tail_are name status 0 close)
all_are name (replies.ManifestMade digest subject) close is =
    (place_own name (codes "/manifests/") (digest_text digest) (free_by_test 13 (codes "/manifests/") refl) (digest_free digest is.0), (content_own name digest is.0, subject_are name subject _ is.1 (tail_are name 201 0 close)))
all_are name (replies.Manifest digest media bytes) close is = (content_own name digest is, typed_are name (media_text media) 200 (length bytes) close (media_free media))
all_are name (replies.ManifestHead digest media size) close is = (content_own name digest is.0, typed_are name (media_text media) 200 size close (media_free media))
all_are name (replies.Tags tags next n) close is = link_are name n next _ is.1 (typed_are name json_media 200 (length (page_body name tags)) close (free_by_test 13 json_media refl))
all_are name (replies.Referrers text filtered) close is = filter_are name filtered _ (typed_are name (media_text Index) 200 (length text) close (media_free Index))
all_are name replies.Deleted close is = tail_are name 202 0 close
all_are name (replies.Refused status code detail) close is = refusal_are name detail _ (typed_are name json_media status (length (error_body code detail)) close (free_by_test 13 json_media refl))

-- ---- of a repository whose name has no CR

front_free : (name field : List ℕ) → IsFree 13 name → IsFree 13 (place_front name field)
front_free name field f =
    let place = free_append 13 (codes "/v2/") name (free_by_test 13 (codes "/v2/") refl) f in
    let link = free_append 13 (codes "<") (codes "/v2/" ++ name ++ codes "/tags/list?n=") (free_by_test 13 (codes "<") refl) (free_append 13 (codes "/v2/" ++ name) (codes "/tags/list?n=") place (free_by_test 13 (codes "/tags/list?n=") refl)) in
    cond_both (bytes_eq field (name_text names.Location)) (codes "/v2/" ++ name) _ (IsFree 13) (λ e. place) (λ e. cond_both (bytes_eq field (name_text names.Link)) (link_front name) [] (IsFree 13) (λ e. link) (λ e. free_by_test 13 [] refl))

pub are_fields : (name : List ℕ) (fields : List Field) → IsFree 13 name → AreOwn name fields → AreFields fields
are_fields name [] f all = tt
are_fields name (field ∷ fields) f all =
    let o = all.0 in
    (record { name = o.colon; line = o.line; value = subst (IsFree 13) (sym o.is) (free_append 13 (place_front name field.name) o.rest (front_free name field.name f) o.free) }, are_fields name fields f all.1)

-- ---- fields with the same lines

line : (field : Field) (fields : List Field) (body : List ℕ) → fields_text (field ∷ fields) ++ body ≡ field.name ++ (58 ∷ (32 ∷ (field.value ++ (13 ∷ (10 ∷ (fields_text fields ++ body))))))
line field fields body = simp append_assoc

not_line : (name rest a : List ℕ) → IsFree 13 name → 13 ∷ a ≡ name ++ (58 ∷ rest) → ⊥
not_line [] rest a f e = let first : 13 ≡ 58 = ap (λ (l : List ℕ). slice_index l 0) e in omega (arith, first)
not_line (c ∷ name) rest a f e =
    let first : 13 ≡ c = ap (λ (l : List ℕ). slice_index l 0) e in
    let other : (c == 13) ≡ false = f 0 (omega arith) in
    let same : (13 == 13) ≡ false = subst (λ (d : ℕ). (d == 13) ≡ false) (sym first) other in
    cc same

same_rest : (name field v w x y a b : List ℕ) → v ≡ place_front name field ++ x → w ≡ place_front name field ++ y → IsFree 13 x → IsFree 13 y → v ++ (13 ∷ a) ≡ w ++ (13 ∷ b) → (v ≡ w) × (a ≡ b)
same_rest name field v w x y a b p q f g e =
    let front = place_front name field in
    let back = λ (t u c : List ℕ) (h : t ≡ front ++ u). ap (λ (s : List ℕ). s ++ (13 ∷ c)) h ∙ append_assoc front u (13 ∷ c) in
    let s = same_ended 13 x y a b f g (cut_front front (x ++ (13 ∷ a)) (y ++ (13 ∷ b)) (sym (back v x a p) ∙ e ∙ back w y b q)) in
    (p ∙ ap (λ (r : List ℕ). front ++ r) s.0 ∙ sym q, s.1)

pub same_fields : (name : List ℕ) (f g : List Field) (b c : List ℕ) → AreOwn name f → AreOwn name g → fields_text f ++ b ≡ fields_text g ++ c → (f ≡ g) × (b ≡ c)
same_fields name [] [] b c x y e = (refl, ap (drop 2) e)
same_fields name [] (w ∷ g) b c x y e = absurd (not_line w.name _ (10 ∷ b) y.0.line (e ∙ line w g c))
same_fields name (v ∷ f) [] b c x y e = absurd (not_line v.name _ (10 ∷ c) x.0.line (sym e ∙ line v f b))
same_fields name (v ∷ f) (w ∷ g) b c x y e =
    let s = same_ended 58 v.name w.name (32 ∷ (v.value ++ (13 ∷ (10 ∷ (fields_text f ++ b))))) (32 ∷ (w.value ++ (13 ∷ (10 ∷ (fields_text g ++ c))))) x.0.colon y.0.colon (sym (line v f b) ∙ e ∙ line w g c) in
    let at = subst (λ (n : List ℕ). v.value ≡ place_front name n ++ x.0.rest) s.0 x.0.is in
    let t = same_rest name w.name v.value w.value x.0.rest y.0.rest (10 ∷ (fields_text f ++ b)) (10 ∷ (fields_text g ++ c)) at y.0.is x.0.free y.0.free (ap (drop 1) s.1) in
    let more = same_fields name f g b c x.1 y.1 (ap (drop 1) t.1) in
    let first : v ≡ w = ap₂ (λ (n m : List ℕ). let r : Field = record { name = n; value = m } in r) s.0 t.0 in
    (ap₂ (λ (h : Field) (r : List Field). h ∷ r) first more.0, more.1)
