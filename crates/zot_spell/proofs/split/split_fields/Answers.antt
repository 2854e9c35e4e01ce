use Rattle.std.proofs.Common.{◌≡◌, ◌++◌, ℕ, List, sym, ap, subst, ◌∙◌}
use Rattle.std.specs.Borrow.{Bor}
use Rattle.std.specs.List.{flat_map}
use Rattle.zot_spell.specs.declared.field.Field.{Field}
use Rattle.zot_spell.specs.Heads.{field_line}
use Rattle.zot_spell.proofs.CutLemmas.{if_some, matched, unmatched}
use Rattle.zot_spell.proofs.SplitLemmas.{AreLeft, IsFirst, joined_more, left_more, left_none}
use Rattle.zot_spell.proofs.split.split_fields.Goals as goal

pub loop-fields-preserved : goal.loop-fields-preserved
loop-fields-preserved c = record {
  joined =
      subst (λ (x : List Field). c.args.bytes.now ≡ flat_map field_line x ++ c.in-Some.rest.now) (sym c.in_ok-push.ensures.items)
      (joined_more c.args.bytes.now c.loop-fields.left.now c.in-Some.rest.now c.loop-fields.fields.items c.in-Some.field c.loop-fields.invariant.joined
      (if_some (λ (p : Field × Bor (List ℕ)). c.loop-fields.left.now ≡ field_line p.0 ++ p.1.now) c.in_ok-field.field-0 (c.in-Some.field, c.in-Some.rest) c.in_ok-field.ensures.joined c.in-Some.is));
  apart = λ fields body all e.
      subst (λ (x : List Field). AreLeft fields body x c.in-Some.rest.now) (sym c.in_ok-push.ensures.items)
      (left_more fields c.loop-fields.fields.items body c.loop-fields.left.now c.in-Some.rest.now c.in-Some.field (c.loop-fields.invariant.apart fields body all e)
      (λ r s. cc (c.in_ok-field.ensures.end r s, c.in-Some.is))
      (λ f r is s. matched (IsFirst f r) c.in_ok-field.field-0 (c.in-Some.field, c.in-Some.rest) (c.in_ok-field.ensures.apart f r is s) c.in-Some.is));
}

pub returns-in-Some-after-clause-apart : goal.returns-in-Some-after-clause-apart
returns-in-Some-after-clause-apart c = λ fields body all e.
    let l = left_none fields c.loop-fields.fields.items body c.loop-fields.left.now (c.loop-fields.invariant.apart fields body all e)
    (λ f r is s. unmatched (IsFirst f r) c.in_ok-field.field-0 (c.in_ok-field.ensures.apart f r is s) c.in_default.is) in
    (l.0, cc (c.in-Some-after.ensures.found body (l.1 ∙ ap (λ (t : List ℕ). t ++ body) (sym c.as_slice.ensures))))

pub returns-clause-apart : goal.returns-clause-apart
returns-clause-apart c = λ fields body all e.
    let l = left_none fields c.loop-fields.fields.items body c.loop-fields.left.now (c.loop-fields.invariant.apart fields body all e)
    (λ f r is s. unmatched (IsFirst f r) c.in_ok-field.field-0 (c.in_ok-field.ensures.apart f r is s) c.in_default.is) in
    cc (c.in-None.ensures.found body (l.1 ∙ ap (λ (t : List ℕ). t ++ body) (sym c.as_slice.ensures)))
