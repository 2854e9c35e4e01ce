use Rattle.std.proofs.Common.{◌≡◌, ℕ, ◌++◌, List, [], ◌∷◌, Option, Some, codes, decimal, option_map, subst, ◌∙◌}
use Rattle.zot_model.specs.declared.span.Span.{Span}
use Rattle.zot_spell.specs.declared.field.Field.{Field}
use Rattle.zot_spell.specs.declared.field_name.FieldName.TheVariants as names
use Rattle.zot_spell.specs.Wire.{fields_given, hop_value, parts_of, span_text}
use Rattle.zot_spell.proofs.RequestLemmas.{five_fields}
use Rattle.zot_spell.proofs.request.fields_of.Goals as goal

pub returns : goal.returns
returns c =
    let parts = parts_of c.args.request.now.call in
    let one = c.add_some.new.fields.items in
    let two = c.add_some-2.new.fields.items in
    let three = c.add_span.new.fields.items in
    let four = c.add_some-3.new.fields.items in
    let typed = subst (λ (m : Option (List ℕ)). two ≡ one ++ fields_given ((names.ContentType, m) ∷ [])) c.media_in.ensures c.in_ok-add_some-2.ensures in
    let ranged = subst (λ (s : Option Span). three ≡ two ++ fields_given ((names.ContentRange, option_map span_text s) ∷ [])) c.range_in.ensures c.in_ok-add_span.ensures in
    let handed = subst (λ (h : Option (List ℕ)). four ≡ three ++ fields_given ((names.HopCount, h) ∷ [])) c.hop_text.ensures c.in_ok-add_some-3.ensures in
    let sized = subst (λ (b : Option (List ℕ)). c.add_size.new.fields.items ≡ four ++ fields_given ((names.ContentLength, option_map (λ body. decimal c.args.size) b) ∷ [])) c.body_in.ensures c.in_ok-add_size.ensures in
    sized ∙ five_fields one two three four (names.Host, Some (codes "member")) (names.ContentType, parts.media) (names.ContentRange, option_map span_text parts.range)
    (names.HopCount, hop_value c.args.hop) (names.ContentLength, option_map (λ body. decimal c.args.size) parts.body) (subst (λ (fields : List Field). one ≡ fields ++ fields_given ((names.Host, Some (codes "member")) ∷ [])) c.new-fields.ensures.items c.in_ok-add_some.ensures) typed ranged handed
