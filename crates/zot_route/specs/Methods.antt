-- The methods of messages (RFC 9110, section 9).
use Rattle.std.specs.Prelude.{ℕ, Bool, true, false, if◌then◌else◌, List, codes}
use Rattle.std.specs.Str.{bytes_eq}
use Rattle.zot_route.specs.declared.method.Method.{Method}
use Rattle.zot_route.specs.declared.method.Method.TheVariants.{Delete, Get, Head, Other, Patch, Post, Put}

-- the method that a text is (section 9.1), compared as it stands
unfoldable pub method_of : List ℕ → Method
method_of text =
    if bytes_eq text (codes "GET") then Get
    else if bytes_eq text (codes "HEAD") then Head
    else if bytes_eq text (codes "PUT") then Put
    else if bytes_eq text (codes "POST") then Post
    else if bytes_eq text (codes "PATCH") then Patch
    else if bytes_eq text (codes "DELETE") then Delete
    else Other

-- whether every reply to a message of this method, a refusal too, shows no body (section 9.3.2)
abbrev pub hides_body : Method → Bool
hides_body Head = true
hides_body Get = false
hides_body Put = false
hides_body Post = false
hides_body Patch = false
hides_body Delete = false
hides_body Other = false
