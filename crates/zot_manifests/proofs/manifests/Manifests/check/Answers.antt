use Rattle.std.proofs.Common.{ℕ, List, Option, Some, None, Ok, inl, is_some, length, sym, ap, ◌∙◌}
use Rattle.sha2.specs.Sha256.{sha256}
use Rattle.zot_manifests.specs.Check.{check_of}
use Rattle.zot_media.specs.declared.media.Media.{Media}
use Rattle.zot_model.specs.Manifests.{first_missing}
use Rattle.zot_model.specs.PlainManifests.{is_other}
use Rattle.zot_manifests.proofs.CheckLemmas.{check_at}
use Rattle.zot_manifests.proofs.manifests.Manifests.check.Goals as goal

pub returns-in-Some-first_missing : goal.returns-in-Some-first_missing
returns-in-Some-first_missing g c =
    let sizes = g.H.Held.sizes c.args.held.now in
    inl (sym (ap (λ (m : Option Media). check_of sizes c.args.reference.now m c.args.body.now) c.in-Some.is
    ∙ check_at sizes c.args.reference.now c.in-Some.media c.args.body.now c.in-Ok.reading (Some c.in-Some-first_missing.missing) c.in-Ok.ensures
    (ap (is_other c.args.reference.now) (sym c.digest_of-digest.ensures) ∙ sym c.is_other.ensures ∙ c.if-is_other.false)
    (ap (first_missing (λ (digest : List ℕ). is_some (sizes digest))) (sym (c.as_slice.ensures.value ∙ c.in_ok-needed.ensures)) ∙ sym c.first_missing.ensures ∙ c.in-Some-first_missing.is)))

pub returns : goal.returns
returns g c =
    let sizes = g.H.Held.sizes c.args.held.now in
    let size = length c.args.body.now in
    inl (ap (λ (d : List ℕ). Ok (record { digest = d; media = c.in-Some.media; tag = c.in_ok-tag_in.field-0; reading = c.in-Ok.reading; size = size })) c.digest_of-digest.ensures
    ∙ ap (λ (t : Option (List ℕ)). Ok (record { digest = sha256 c.args.body.now; media = c.in-Some.media; tag = t; reading = c.in-Ok.reading; size = size })) c.in_ok-tag_in.ensures
    ∙ sym (ap (λ (m : Option Media). check_of sizes c.args.reference.now m c.args.body.now) c.in-Some.is
    ∙ check_at sizes c.args.reference.now c.in-Some.media c.args.body.now c.in-Ok.reading None c.in-Ok.ensures
    (ap (is_other c.args.reference.now) (sym c.digest_of-digest.ensures) ∙ sym c.is_other.ensures ∙ c.if-is_other.false)
    (ap (first_missing (λ (digest : List ℕ). is_some (sizes digest))) (sym (c.as_slice.ensures.value ∙ c.in_ok-needed.ensures)) ∙ sym c.first_missing.ensures ∙ c.in_default-first_missing.is)))
