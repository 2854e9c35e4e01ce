use Rattle.std.proofs.Common.{◌≡◌, ◌∷◌, ◌++◌, [], ℕ, List, Option, OnOk, string_bytes, rules, append-nil, sym, subst, ◌∙◌}
use Rattle.zot_spell.specs.declared.field_name.FieldName.TheVariants as names
use Rattle.zot_spell.specs.Fields.{link_fields, link_text}
use Rattle.zot_spell.specs.Heads.{field_of}
use Rattle.zot_spell.proofs.BodyLemmas.{link_of}
use Rattle.zot_spell.proofs.fields.add_link.Goals as goal

pub returns-in_ok-link-in-Some : goal.returns-in_ok-link-in-Some
unfolding link_fields
returns-in_ok-link-in-Some c =
    let link : string_bytes c.in_ok-link-in-Some.link ≡ link_text c.args.name.now c.args.n c.in-Some.tag =
    link_of c.args.name.now c.args.n c.as_str.result.now c.as_str-in-Some.result.now c.in-Some.tag _ (search rules) c.as_str-in-Some.ensures.value c.in_ok-link-in-Some.ensures.ok in
    subst (λ (x : Option (List ℕ)). OnOk c.add_field.result (c.add_field.new.fields.items ≡ c.args.fields.now.items ++ link_fields c.args.name.now c.args.n x)) (sym c.in-Some.is)
    (subst (λ (t : List ℕ). OnOk c.add_field.result (c.add_field.new.fields.items ≡ c.args.fields.now.items ++ (field_of names.Link t ∷ []))) (c.as_str-in-Some-2.ensures.value ∙ link) c.add_field.ensures)

pub returns-in-None : goal.returns-in-None
unfolding link_fields
returns-in-None c = search (rules, append-nil)
