-- A request's head and body ask the request.
use Rattle.std.proofs.Common.{◌≡◌, ℕ, Bool, Some, None, Ok, Option, Result, IsUtf8, inr, List, [], ◌++◌, codes, decimal, option_map, refl, sym, ap, subst, ◌∙◌}
use Rattle.std.specs.List.{AllByRecursion, join_with_byte}
use Rattle.std.proofs.lemmas.List.Splits.{join_with_byte-slice_split}
use Rattle.zot_digest.specs.Digest.{IsDigest, digest_text}
use Rattle.zot_digest.proofs.DigestLemmas.{digest_named-digest_text}
use Rattle.zot_media.specs.declared.reference.Reference.{Reference}
use Rattle.zot_model.specs.declared.call.Call.{Call}
use Rattle.zot_model.specs.declared.call.Call.TheVariants as calls
use Rattle.zot_model.specs.declared.mount.Mount.{Mount}
use Rattle.zot_model.specs.declared.reply.Reply.{Reply}
use Rattle.zot_model.specs.declared.request.Request.{Request}
use Rattle.zot_model.specs.declared.span.Span.{Span}
use Rattle.zot_model.specs.Valid.{IsValid}
use Rattle.zot_names.specs.Name.{IsName, slash}
use Rattle.zot_route.specs.declared.form.Form.{Form}
use Rattle.zot_route.specs.declared.form.Form.TheVariants as forms
use Rattle.zot_route.specs.declared.routed.Routed.TheVariants as routes
use Rattle.zot_route.specs.declared.method.Method.TheVariants.{Get, Patch, Post, Put}
use Rattle.zot_route.specs.Calls.{IsFrom, digest_or, finish_of, page_of, post_call, referrers_call, tags_call, upload_call}
use Rattle.zot_route.specs.Lines.{range_of}
use Rattle.zot_route.specs.Methods.{method_of}
use Rattle.zot_route.specs.Path.{IsPath, query_of, segments_of}
use Rattle.zot_route.specs.Query.{first_of, value_of}
use Rattle.zot_route.specs.Routes.{IsCall, Names, Routes, in_query}
use Rattle.zot_spell.specs.Wire.{body_of, form_of, id_text, mount_from, parts_of, path_of, reference_text, target_text}
use Rattle.zot_model.specs.Values.{HasValues, IsRef}
use Rattle.zot_delivery.proofs.AskLemmas.{are_media, digest_asked, hop_read, id_named, id_some, not_uploads, number_read, post_asked, range_read, refers}
use Rattle.zot_delivery.proofs.ByteLemmas.{digest_part}
use Rattle.zot_delivery.proofs.FieldLemmas.{chosen}
use Rattle.zot_delivery.proofs.HeadLemmas.{hop_values, media_values, range_values, read_of}
use Rattle.zot_delivery.proofs.PathLemmas.{base_path, blob_path, decoded-path, manifest_path, path_texts, referrers_path, split, tags_path, upload_path, uploads_path}
use Rattle.zot_delivery.proofs.QueryLemmas.{first_only, is_key, segments_of-target, query_of-target, value_of-form}
use Rattle.zot_delivery.proofs.WrittenLemmas.{id_part, parts_written, path_bytes, reference_part}

-- the head and the body of a request ask it
abbrev pub IsAsked : Request → Type 0
IsAsked request = Routes (read_of request) (body_of request) (routes.Request request)

name_is : (name : List ℕ) → IsName name → (Some name ≡ Some (join_with_byte slash (split name))) × IsName (join_with_byte slash (split name))
name_is name is =
    let same = join_with_byte-slice_split slash name in
    (ap Some (sym same), subst IsName (sym same) is)

-- ---- what is read of a request's head

module _ (request : Request) (values : HasValues request) (valid : IsValid request) where
  target_parts : segments_of (target_text request) ≡ split (path_of request)
  unfolding target_text
  target_parts =
      segments_of-target (path_of request) (form_of (parts_of request.call)) (path_bytes request values valid) ∙ decoded-path (path_of request) (path_bytes request values valid)

  target_query : query_of (target_text request) ≡ form_of (parts_of request.call)
  unfolding target_text
  target_query = query_of-target (path_of request) (form_of (parts_of request.call)) (path_bytes request values valid)

  target_texts : AllByRecursion IsUtf8 (segments_of (target_text request))
  target_texts = subst (AllByRecursion IsUtf8) (sym target_parts) (path_texts (path_of request) (path_bytes request values valid))

  query_read : (key : List ℕ) → in_query (read_of request) key ≡ first_of (chosen (is_key key) (parts_of request.call).query)
  query_read key = ap (value_of key) target_query ∙ value_of-form key (parts_of request.call).query (parts_written request values valid).query

  range_is : range_of (read_of request).fields ≡ Some (parts_of request.call).range
  range_is = range_read (read_of request).fields (parts_of request.call).range (parts_written request values valid).range (range_values request)

  -- a head whose path, name and call are those of the request asks it
  asked : (form : Form) (parts : List (List ℕ)) (text : List ℕ) → IsPath (segments_of (target_text request)) form parts text → Names form parts request.name
      → IsCall form text (read_of request) (body_of request) (Ok request.call) → IsAsked request
  asked form parts text path names asks =
      inr (
        target_texts,
        form,
        parts,
        text,
        path,
        inr (
          request.name,
          names,
          Ok request.call,
          asks,
          ap (λ (h : Bool). routes.Request (record { name = request.name; call = request.call; hop = h })) (sym (hop_read (read_of request).fields request.hop (hop_values request))),
        ),
      )

-- ---- each call

base_asked : (hop : Bool) → HasValues (record { name = None; call = calls.Base; hop = hop }) → IsValid (record { name = None; call = calls.Base; hop = hop }) → IsAsked (record { name = None; call = calls.Base; hop = hop })
unfolding parts_of method_of
base_asked hop values valid =
    let q : Request = record { name = None; call = calls.Base; hop = hop } in
    asked q values valid forms.Base [] [] (base_path (segments_of (target_text q)) (target_parts q values valid)) refl refl

module _ (name : List ℕ) (hop : Bool) where
  abbrev req : Call → Request
  req call = record { name = Some name; call = call; hop = hop }

  -- the path after the name, as the parts of the target have it
  named_parts : (call : Call) (values : HasValues (req call)) (valid : IsValid (req call)) (path : List ℕ) → (parts_of call).path ≡ path → segments_of (target_text (req call)) ≡ split (codes "/v2/" ++ name ++ path)
  named_parts call values valid path e = target_parts (req call) values valid ∙ ap (λ (p : List ℕ). split (codes "/v2/" ++ name ++ p)) e

  blob_asked : (call : Call) (digest : List ℕ) → IsDigest digest → (parts_of call).path ≡ codes "/blobs/" ++ digest_text digest → (values : HasValues (req call)) → IsValid (req call)
      → IsCall forms.Blob (digest_text digest) (read_of (req call)) (body_of (req call)) (Ok call) → IsAsked (req call)
  blob_asked call digest is path values valid asks =
      asked (req call) values valid forms.Blob (split name) (digest_text digest)
      (blob_path (segments_of (target_text (req call))) name (digest_text digest) (named_parts call values valid (codes "/blobs/" ++ digest_text digest) path) (digest_part digest is) (not_uploads digest))
      (name_is name values.name) asks

  upload_asked : (call : Call) (id : Option ℕ) → (parts_of call).path ≡ codes "/blobs/uploads/" ++ id_text id → (values : HasValues (req call)) → IsValid (req call)
      → IsCall forms.Upload (id_text id) (read_of (req call)) (body_of (req call)) (Ok call) → IsAsked (req call)
  upload_asked call id path values valid asks =
      asked (req call) values valid forms.Upload (split name) (id_text id)
      (upload_path (segments_of (target_text (req call))) name (id_text id) (named_parts call values valid (codes "/blobs/uploads/" ++ id_text id) path) (id_part id) (id_some id))
      (name_is name values.name) asks

  manifest_asked : (call : Call) (reference : Reference) → IsRef reference → (parts_of call).path ≡ codes "/manifests/" ++ reference_text reference → (values : HasValues (req call)) → IsValid (req call)
      → IsCall forms.Manifest (reference_text reference) (read_of (req call)) (body_of (req call)) (Ok call) → IsAsked (req call)
  manifest_asked call reference is path values valid asks =
      asked (req call) values valid forms.Manifest (split name) (reference_text reference)
      (manifest_path (segments_of (target_text (req call))) name (reference_text reference) (named_parts call values valid (codes "/manifests/" ++ reference_text reference) path) (reference_part reference is))
      (name_is name values.name) asks

  call_asked : (call : Call) → HasValues (req call) → IsValid (req call) → IsAsked (req call)
  unfolding parts_of method_of body_of
  call_asked calls.Base values valid = let none = valid.named.1 refl in cc none
  call_asked (calls.GetBlob digest) values valid = blob_asked (calls.GetBlob digest) digest values.call refl values valid (digest_asked calls.GetBlob digest values.call)
  call_asked (calls.HeadBlob digest) values valid = blob_asked (calls.HeadBlob digest) digest values.call refl values valid (digest_asked calls.HeadBlob digest values.call)
  call_asked (calls.DeleteBlob digest) values valid = blob_asked (calls.DeleteBlob digest) digest values.call refl values valid (digest_asked calls.DeleteBlob digest values.call)
  call_asked (calls.Post mount digest body) values valid =
      let q = req (calls.Post mount digest body) in
      let p = post_asked mount digest body values.call.0 values.call.1 in
      let m = query_read q values valid (codes "mount") ∙ first_only (option_map (λ (t : Mount). digest_text t.digest) mount) in
      let f = query_read q values valid (codes "from") ∙ first_only (mount_from mount) in
      let d = query_read q values valid (codes "digest") ∙ first_only (option_map digest_text digest) in
      asked q values valid forms.Uploads (split name) [] (uploads_path (segments_of (target_text q)) name (target_parts q values valid)) (name_is name values.name)
      (p.0, subst (λ (o : Option (List ℕ)). IsFrom o p.0) (sym f) p.1, p.2 ∙ (λ i. post_call Post (sym m i) p.0 (sym d i) body))
  call_asked (calls.Patch id range body) values valid =
      let q = req (calls.Patch id range body) in
      upload_asked (calls.Patch id range body) id refl values valid
      (id, id_named id values.call, ap (λ (r : Option (Option Span)). upload_call Patch id r (in_query (read_of q) (codes "digest")) body) (sym (range_is q values valid)))
  call_asked (calls.Finish id range digest body) values valid =
      let q = req (calls.Finish id range digest body) in
      let r = range_is q values valid in
      let d = query_read q values valid (codes "digest") in
      upload_asked (calls.Finish id range digest body) id refl values valid (
        id,
        id_named id values.call.0,
        sym (ap (λ (named : Result (List ℕ) Reply). finish_of id body named (Ok range)) (ap digest_or (digest_named-digest_text digest values.call.1))) ∙ (λ i. upload_call Put id (sym r i) (sym d i) body),
      )
  call_asked (calls.UploadState id) values valid = upload_asked (calls.UploadState id) id refl values valid (id, id_named id values.call, refl)
  call_asked (calls.PutManifest reference media body) values valid =
      let q = req (calls.PutManifest reference media body) in
      manifest_asked (calls.PutManifest reference media body) reference values.call refl values valid
      (Ok reference, refers reference values.call, inr (valid.call, media, are_media (read_of q).fields body media (media_values q), refl))
  call_asked (calls.GetManifest reference) values valid = manifest_asked (calls.GetManifest reference) reference values.call refl values valid (Ok reference, refers reference values.call, refl)
  call_asked (calls.HeadManifest reference) values valid = manifest_asked (calls.HeadManifest reference) reference values.call refl values valid (Ok reference, refers reference values.call, refl)
  call_asked (calls.DeleteManifest reference) values valid = manifest_asked (calls.DeleteManifest reference) reference values.call refl values valid (Ok reference, refers reference values.call, refl)
  call_asked (calls.Tags n last) values valid =
      let q = req (calls.Tags n last) in
      let first = query_read q values valid (codes "n") ∙ first_only (option_map decimal n) in
      let second = query_read q values valid (codes "last") ∙ first_only last in
      asked q values valid forms.Tags (split name) [] (tags_path (segments_of (target_text q)) name (target_parts q values valid)) (name_is name values.name)
      (sym (ap (page_of last) (number_read n valid.call)) ∙ (λ i. tags_call Get (sym first i) (sym second i)))
  call_asked (calls.Referrers digest filter) values valid =
      let q = req (calls.Referrers digest filter) in
      let f = query_read q values valid (codes "artifactType") ∙ first_only filter in
      asked q values valid forms.Referrers (split name) (digest_text digest)
      (referrers_path (segments_of (target_text q)) name (digest_text digest) (target_parts q values valid) (digest_part digest values.call.0)) (name_is name values.name)
      (digest_asked (λ named. calls.Referrers named filter) digest values.call.0 ∙ ap (referrers_call Get (digest_text digest)) (sym f))

pub request_asked : (name : Option (List ℕ)) (call : Call) (hop : Bool) → HasValues (record { name = name; call = call; hop = hop }) → IsValid (record { name = name; call = call; hop = hop })
    → IsAsked (record { name = name; call = call; hop = hop })
request_asked None call hop values valid =
    subst (λ (c : Call). HasValues (record { name = None; call = c; hop = hop }) → IsValid (record { name = None; call = c; hop = hop }) → IsAsked (record { name = None; call = c; hop = hop }))
    (sym (valid.named.0 refl)) (base_asked hop) values valid
request_asked (Some name) call hop values valid = call_asked name hop call values valid
