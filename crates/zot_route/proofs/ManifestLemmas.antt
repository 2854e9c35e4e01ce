-- What a manifest is given where memory didn't run out.
use Rattle.std.proofs.Common.{◌≡◌, ℕ, List, Ok, Err, refl, sym, subst}
use Rattle.std.specs.Prelude.{Result}
use Rattle.zot_head.specs.declared.field.Field.{Field}
use Rattle.zot_media.specs.declared.reference.Reference.{Reference}
use Rattle.zot_model.specs.declared.call.Call.{Call}
use Rattle.zot_model.specs.declared.reply.Reply.{Reply}
use Rattle.zot_route.specs.Calls.{CallOrRefusal, IsManifestCall, IsPutCall, Refers, on_reference}
use Rattle.zot_route.specs.Stops.{UnlessNoMemory}
use Rattle.zot_route.specs.declared.stop.Stop.{Stop}
use Rattle.zot_route.specs.declared.stop.Stop.TheVariants as stops
use Rattle.zot_route.specs.declared.method.Method.{Method}

module _ (method : Method) (text : List ℕ) (fields : List Field) (body : List ℕ) where
  abbrev Is : CallOrRefusal → Type 0
  Is given = IsManifestCall method text fields body given

  -- the cases of a method are these of a call on a reference
  pub call_ok : (this : Method) (other : Reply) (call : Reference → Call) (reference : Reference) → method ≡ this
      → ((given : CallOrRefusal) → (r : Result Reference Reply) × Refers text other r × (given ≡ on_reference call r) → IsManifestCall this text fields body given)
      → Refers text other (Ok reference) → Is (Ok (call reference))
  call_ok this other call reference e to h = subst (λ v. IsManifestCall v text fields body (Ok (call reference))) (sym e) (to _ (Ok reference, h, refl))

  pub call_err : (this : Method) (other : Reply) (call : Reference → Call) (stop : Stop) (answer : Result Call Stop) → method ≡ this
      → ((given : CallOrRefusal) → (r : Result Reference Reply) × Refers text other r × (given ≡ on_reference call r) → IsManifestCall this text fields body given)
      → UnlessNoMemory {X = Reference} (Err stop) (Refers text other) → answer ≡ Err stop → UnlessNoMemory answer Is
  call_err this other call (stops.Refused reply) answer e to h f =
      subst (λ a. UnlessNoMemory a Is) (sym f) (subst (λ v. IsManifestCall v text fields body (Err reply)) (sym e) (to _ (Err reply, h, refl)))
  call_err this other call stops.NoMemory answer e to h f = subst (λ a. UnlessNoMemory a Is) (sym f) tt

  pub put_err : (this : Method) (other : Reply) (stop : Stop) (answer : Result Call Stop) → method ≡ this
      → ((given : CallOrRefusal) → (r : Result Reference Reply) × Refers text other r × IsPutCall fields body r given → IsManifestCall this text fields body given)
      → UnlessNoMemory {X = Reference} (Err stop) (Refers text other) → answer ≡ Err stop → UnlessNoMemory answer Is
  put_err this other (stops.Refused reply) answer e to h f =
      subst (λ a. UnlessNoMemory a Is) (sym f) (subst (λ v. IsManifestCall v text fields body (Err reply)) (sym e) (to _ (Err reply, h, refl)))
  put_err this other stops.NoMemory answer e to h f = subst (λ a. UnlessNoMemory a Is) (sym f) tt

  pub put_ok : (this : Method) (other : Reply) (reference : Reference) (answer : Result Call Stop) → method ≡ this
      → ((given : CallOrRefusal) → (r : Result Reference Reply) × Refers text other r × IsPutCall fields body r given → IsManifestCall this text fields body given)
      → Refers text other (Ok reference) → UnlessNoMemory answer (IsPutCall fields body (Ok reference)) → UnlessNoMemory answer Is
  put_ok this other reference (Ok call) e to h k = subst (λ v. IsManifestCall v text fields body (Ok call)) (sym e) (to _ (Ok reference, h, k))
  put_ok this other reference (Err (stops.Refused reply)) e to h k = subst (λ v. IsManifestCall v text fields body (Err reply)) (sym e) (to _ (Ok reference, h, k))
  put_ok this other reference (Err stops.NoMemory) e to h k = tt
