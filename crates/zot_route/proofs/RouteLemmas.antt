-- What becomes of a message.
use Rattle.std.proofs.Common.{ℕ, None, Ok, Err, inr, List, ◌≡◌, subst}
use Rattle.std.specs.Prelude.{Option, Result, MatchOption, IfOk}
use Rattle.zot_route.specs.Ending.{Read}
use Rattle.zot_route.specs.Path.{IsPath, segments_of}
use Rattle.zot_route.specs.Routes.{HasNoPath}
use Rattle.zot_route.specs.declared.form.Form.{Form}

-- what a reader of a path says
abbrev pub Reads : List (List ℕ) → Option Read → Type 0
Reads segments read = MatchOption read ((form : Form) (name : List (List ℕ)) (text : List ℕ) → ¬ IsPath segments form name text) (λ path. IsPath segments path.0 path.1 path.2)

pub no_path : (target : List ℕ) (list : List (List ℕ)) (read : Option Read) → list ≡ segments_of target → Reads list read → read ≡ None → HasNoPath target
no_path target list read e h f = inr (subst (λ p. Reads p None) e (subst (Reads list) f h))

-- what holds of each outcome holds of an answer
pub if_ok : {X E : Type 0} (result : Result X E) (P Q : X → Type 0) → ((x : X) → P x → Q x) → IfOk result P → IfOk result Q
if_ok (Ok x) P Q to h = to x h
if_ok (Err e) P Q to h = tt
