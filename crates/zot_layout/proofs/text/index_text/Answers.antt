use Rattle.std.proofs.Common.{◌∙◌, ap, map}
use Rattle.serde_json.specs.View.{items_of, view}
use Rattle.serde_json.specs.Written.{items_have_float}
use Rattle.zot_layout.proofs.IndexLemmas.{all_depth, read_means, shallow_by}
use Rattle.zot_layout.proofs.PlainLemmas.{all_plain, text_is}
use Rattle.zot_layout.proofs.text.index_text.Goals as goal

pub text_with-requires-clause-plain : goal.text_with-requires-clause-plain
text_with-requires-clause-plain c =
    ap (λ ds. items_have_float (items_of ds)) c.in_ok-descriptors.ensures ∙ all_plain c.as_slice-2.result.now c.as_slice.result.now

pub text_with-requires-clause-shallow : goal.text_with-requires-clause-shallow
text_with-requires-clause-shallow c = shallow_by _ _ c.in_ok-descriptors.ensures (all_depth c.as_slice-2.result.now c.as_slice.result.now)

pub returns-clause-text : goal.returns-clause-text
returns-clause-text c =
    ap (λ v. v.items) c.into_bytes.ensures.value
    ∙ text_is c.args.state.now c.as_slice.result.now c.as_slice-2.result.now (map view c.in_ok-descriptors.descriptors.items) _
    c.as_slice.ensures c.as_slice-2.ensures c.in_ok-descriptors.ensures c.in_ok-text.ensures.text

pub returns-clause-comes_back : goal.returns-clause-comes_back
returns-clause-comes_back c =
    read_means c.args.state.now c.as_slice.result.now c.as_slice-2.result.now (map view c.in_ok-descriptors.descriptors.items) c.into_bytes.result.items _
    c.as_slice.ensures c.as_slice-2.ensures c.in_ok-descriptors.ensures (ap (λ v. v.items) c.into_bytes.ensures.value) c.in_ok-text.ensures.comes_back
