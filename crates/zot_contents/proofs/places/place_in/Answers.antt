use Rattle.std.proofs.Common.{codes, sym, ◌∙◌}
use Rattle.std.proofs.lemmas.Bool.{true≢false}
use Rattle.zot_contents.proofs.PlaceLemmas.{none_name, none_suffix, object_there, other_folder, record_there, same_folder}
use Rattle.zot_contents.proofs.places.place_in.Goals as goal

pub returns-then-eq : goal.returns-then-eq
returns-then-eq c = record_there c.args.folder.now c.args.digest c.requires (same_folder c.args.folder.now (codes "_cache/sha256") c.eq.result c.eq.ensures c.if-eq.true)

pub returns-in_default : goal.returns-in_default
returns-in_default c =
    none_suffix c.args.folder.now c.args.digest (other_folder c.args.folder.now (codes "_cache/sha256") c.eq.result c.eq.ensures c.if-eq.false) c.in_default.ensures.cases

pub returns-then-not-is_name : goal.returns-then-not-is_name
returns-then-not-is_name c =
    none_name c.args.folder.now c.in-Some.text.now c.args.digest (other_folder c.args.folder.now (codes "_cache/sha256") c.eq.result c.eq.ensures c.if-eq.false) c.in-Some.ensures.cases
    (λ named. true≢false (sym (c.is_name.ensures.1 named) ∙ c.if-not-is_name.true))

pub returns : goal.returns
returns c =
    object_there c.args.folder.now c.in-Some.text.now c.new-name.result c.args.digest c.requires (c.is_name.ensures.0 c.if-not-is_name.false) (c.new-name.ensures ∙ c.in_ok-from_str.ensures.ok)
    c.in-Some.ensures.cases
