use Rattle.std.proofs.Common.{ap, sym, subst, ◌∙◌}
use Rattle.std.proofs.lemmas.Bool.{true≢false}
use Rattle.zot_names.specs.Name.{IsName}
use Rattle.zot_layout.specs.Paths.{marker_path}
use Rattle.zot_layout.proofs.WalkLemmas.{cut_end, named_so, other_end}
use Rattle.zot_siphash.specs.Owners as owners
use Rattle.zot_siphash.specs.SipHash.{siphash}
use Rattle.zot_layout.proofs.walking.marked_name.Goals as goal

pub returns-in_default : goal.returns-in_default
returns-in_default c = λ name own same. other_end c.args.path.now c.in_default.ensures.cases name same

pub returns-then-not-is_name : goal.returns-then-not-is_name
returns-then-not-is_name c = λ name own same.
    let is = named_so c.args.path.now c.in-Some.text.now name (cut_end c.args.path.now c.in-Some.text.now c.in-Some.ensures.cases) same in
    true≢false (sym (c.is_name.ensures.1 (subst IsName is own.named)) ∙ c.if-not-is_name.true)

pub returns-then-row_of-row : goal.returns-then-row_of-row
returns-then-row_of-row c =
    let is = c.new-name.ensures ∙ c.in_ok-from_str.ensures.ok in
    let placed = ap (λ n. owners.row (siphash c.args.key.now n) c.args.members) c.as_slice.ensures.value in (
      record { named = c.as_slice.ensures.name; placed = sym (c.row_of.ensures ∙ placed) ∙ c.if-row_of-row.true },
      cut_end c.args.path.now c.in-Some.text.now c.in-Some.ensures.cases ∙ ap marker_path (sym is),
    )

pub returns-else-row_of-row : goal.returns-else-row_of-row
returns-else-row_of-row c = λ name own same.
    let is = named_so c.args.path.now c.in-Some.text.now name (cut_end c.args.path.now c.in-Some.text.now c.in-Some.ensures.cases) same in
    let placed = ap (λ n. owners.row (siphash c.args.key.now n) c.args.members) (c.as_slice.ensures.value ∙ c.new-name.ensures ∙ c.in_ok-from_str.ensures.ok ∙ sym is) in
    c.if-row_of-row.false (c.row_of.ensures ∙ placed ∙ own.placed)
