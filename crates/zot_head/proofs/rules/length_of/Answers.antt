use Rattle.std.proofs.Common.{◌≡◌, sym, ◌∙◌, rules, arith}
use Rattle.std.specs.List.{list_all}
use Rattle.std.specs.Char.{is_ascii_digit}
use Rattle.std.proofs.lemmas.Bool.Decides.{nat_tests}
use Rattle.std.proofs.lemmas.Iterator.{YieldsList-from_slice}
use Rattle.std.proofs.lemmas.Iterator.Search.{all_from_yields_List}
use Rattle.zot_head.proofs.RuleLemmas.{length_of_some}
use Rattle.zot_head.proofs.rules.length_of.Goals as goal

pub returns : goal.returns
returns c =
    let all : c.all.result ≡ list_all is_ascii_digit c.args.value.now =
    all_from_yields_List is_ascii_digit _ _ c.all.result c.all.ensures.ran (YieldsList-from_slice c.args.value.now cc) (λ x b q k. search rules) in
    length_of_some c.args.value.now c.digits_value.result (search (rules, nat_tests)) (omega arith) (sym all ∙ c.if-not-all.false) c.digits_value.ensures
