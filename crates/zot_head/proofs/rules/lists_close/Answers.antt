use Rattle.std.proofs.Common.{◌==◌, rules}
use Rattle.std.proofs.lemmas.Bool.Decides.{nat_tests}
use Rattle.std.proofs.lemmas.Iterator.Search.{any_from_yields_List}
use Rattle.std.proofs.lemmas.Iterator.Splits.{YieldsList-from_slice_split}
use Rattle.httparse.specs.Grammar.{trim_ows}
use Rattle.zot_head.specs.Fields.{is_word, close_word}
use Rattle.zot_head.proofs.rules.lists_close.Goals as goal

pub returns : goal.returns
returns c =
    any_from_yields_List (λ piece. is_word close_word (trim_ows piece)) _ _ c.any.result c.any.ensures.ran
    (YieldsList-from_slice_split _ (λ b. b == 44) c.args.value.now c.split.ensures.rest c.split.ensures.done c.split.ensures.closure (λ x b q k. search (rules, nat_tests)))
    (λ x b q k. search rules)
