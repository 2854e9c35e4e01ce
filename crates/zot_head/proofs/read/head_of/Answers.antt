use Rattle.std.proofs.Common.{◌≡◌, ℕ, List, map, sym, ap, ◌∙◌}
use Rattle.zot_head.specs.declared.field.Field.{Field}
use Rattle.zot_head.specs.Front.{field_of}
use Rattle.zot_head.specs.Fields.{framing_of, expects_of, closes_of}
use Rattle.zot_head.proofs.ReadLemmas.{method_text, fields_at, texts_at}
use Rattle.zot_head.proofs.read.head_of.Goals as goal

pub words_at-requires-clause-text : goal.words_at-requires-clause-text
words_at-requires-clause-text c = method_text c.args.bytes.now c.args.spans.now c.args.request.now c.requires.reads.0 c.requires.reads.1

pub fields_of-requires : goal.fields_of-requires
fields_of-requires c = texts_at c.args.bytes.now c.args.spans.now c.args.request.now c.requires.reads.0 c.requires.within c.requires.reads.1

pub returns-in_default-clause-bad : goal.returns-in_default-clause-bad
returns-in_default-clause-bad c =
    let at = c.requires.reads.1 in
    let same : c.in_ok-fields.fields ≡ map field_of c.requires.reads.0.fields =
    c.in_ok-fields.ensures ∙ fields_at c.args.bytes.now c.args.spans.now c.args.request.now c.requires.reads.0 at in
    λ e. (c.requires.reads.0, at, ap framing_of (sym same) ∙ ap framing_of (sym c.as_slice.ensures) ∙ sym c.framing.ensures ∙ c.in_default.is)

pub returns-clause-head : goal.returns-clause-head
returns-clause-head c =
    let h = c.requires.reads.0 in
    let at = c.requires.reads.1 in (
      h,
      at,
      record {
        method = c.in_ok-method.ensures ∙ at.method;
        target = c.in_ok-target.ensures ∙ at.path;
        fields = c.in_ok-fields.ensures ∙ fields_at c.args.bytes.now c.args.spans.now c.args.request.now h at;
        framing = ap framing_of (sym c.as_slice.ensures) ∙ sym c.framing.ensures ∙ c.in-Some.is;
        expects = c.expects-expects.ensures ∙ ap (λ (m : ℕ). expects_of m c.as_slice-2.result.now c.in-Some.framing) at.version
            ∙ ap (λ (f : List Field). expects_of h.minor f c.in-Some.framing) c.as_slice-2.ensures;
        closes = c.closes-closes.ensures ∙ ap (λ (m : ℕ). closes_of m c.as_slice-3.result.now) at.version ∙ ap (λ (f : List Field). closes_of h.minor f) c.as_slice-3.ensures;
      },
    )
