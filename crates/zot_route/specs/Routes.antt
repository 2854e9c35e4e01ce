-- What becomes of a message whose head and body are whole: one request, or the one refusal that comes first. A path is looked at first, then its name, then the method, and then what the path's form needs.
use Rattle.std.specs.Prelude.{◌≡◌, ◌≢◌, ◌⊎◌, IsUtf8, ℕ, Bool, List, Option, Some, None, Ok, Err, codes}
use Rattle.std.specs.List.{AllByRecursion, join_with_byte}
use Rattle.zot_head.specs.declared.head.Head.{Head}
use Rattle.zot_model.specs.declared.code.Code.TheVariants.{NameInvalid}
use Rattle.zot_model.specs.declared.request.Request.{Request}
use Rattle.zot_model.specs.Calls.{is_head}
use Rattle.zot_model.specs.Refusals.{refusal, unsupported_path}
use Rattle.zot_names.specs.Name.{IsName, slash}
use Rattle.zot_route.specs.declared.form.Form.{Form}
use Rattle.zot_route.specs.declared.form.Form.TheVariants as forms
use Rattle.zot_route.specs.declared.routed.Routed.{Routed}
use Rattle.zot_route.specs.declared.routed.Routed.TheVariants as routes
use Rattle.zot_route.specs.Calls.{CallOrRefusal, IsFrom, IsId, IsManifestCall, base_call, blob_call, post_call, referrers_call, tags_call, upload_call}
use Rattle.zot_route.specs.Lines.{is_hop, range_of}
use Rattle.zot_route.specs.Methods.{hides_body, method_of}
use Rattle.zot_route.specs.Path.{IsPath, query_of, segments_of}
use Rattle.zot_route.specs.Query.{value_of}

-- the first value of a key in a head's query
abbrev pub in_query : Head → List ℕ → Option (List ℕ)
in_query head key = value_of key (query_of head.target)

-- the call that a message makes on a path of that form with that text, or its refusal
abbrev pub IsCall : Form → List ℕ → Head → List ℕ → CallOrRefusal → Type 0
IsCall forms.Base text head body call = call ≡ base_call (method_of head.method)
IsCall forms.Tags text head body call = call ≡ tags_call (method_of head.method) (in_query head (codes "n")) (in_query head (codes "last"))
IsCall forms.Referrers text head body call = call ≡ referrers_call (method_of head.method) text (in_query head (codes "artifactType"))
IsCall forms.Manifest text head body call = IsManifestCall (method_of head.method) text head.fields body call
IsCall forms.Uploads text head body call = (from : Option (List ℕ)) × IsFrom (in_query head (codes "from")) from
    × (call ≡ post_call (method_of head.method) (in_query head (codes "mount")) from (in_query head (codes "digest")) body)
IsCall forms.Upload text head body call = (id : Option ℕ) × IsId text id
    × (call ≡ upload_call (method_of head.method) id (range_of head.fields) (in_query head (codes "digest")) body)
IsCall forms.Blob text head body call = call ≡ blob_call (method_of head.method) text

-- the name that a path has: none on the base route, and elsewhere its segments joined by slashes
abbrev pub Names : Form → List (List ℕ) → Option (List ℕ) → Type 0
Names forms.Base segments name = name ≡ None
Names form segments name = (name ≡ Some (join_with_byte slash segments)) × IsName (join_with_byte slash segments)

-- the call, on the repository of that name, or the refusal
abbrev pub routed_as : Option (List ℕ) → Bool → CallOrRefusal → Routed
routed_as name hop (Ok call) = routes.Request (record { name = name; call = call; hop = hop })
routed_as name hop (Err reply) = routes.Refused reply

-- what becomes of a message with that path
abbrev pub RoutesPath : Form → List (List ℕ) → List ℕ → Head → List ℕ → Routed → Type 0
RoutesPath form segments text head body routed =
    (((name : Option (List ℕ)) → ¬ Names form segments name) × (routed ≡ routes.Refused (refusal NameInvalid)))
    ⊎ ((name : Option (List ℕ)) × Names form segments name × (call : CallOrRefusal) × IsCall form text head body call × (routed ≡ routed_as name (is_hop head.fields) call))

-- on a repository, the request's call is one of HEAD just where the method of the message hides the body
abbrev pub HidesAlike : Head → Request → Type 0
HidesAlike head request = request.name ≢ None → is_head request.call ≡ hides_body (method_of head.method)

-- the target has no path
abbrev pub HasNoPath : List ℕ → Type 0
HasNoPath target = (¬ AllByRecursion IsUtf8 (segments_of target)) ⊎ ((form : Form) (name : List (List ℕ)) (text : List ℕ) → ¬ IsPath (segments_of target) form name text)

-- what becomes of a message
abbrev pub Routes : Head → List ℕ → Routed → Type 0
Routes head body routed =
    (HasNoPath head.target × (routed ≡ routes.Refused unsupported_path))
    ⊎ (AllByRecursion IsUtf8 (segments_of head.target) × (form : Form) × (name : List (List ℕ)) × (text : List ℕ)
    × IsPath (segments_of head.target) form name text × RoutesPath form name text head body routed)
