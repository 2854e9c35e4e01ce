use Rattle.serde_json.proofs.Views.{view-Array}
use Rattle.serde_json.specs.View.{items_view, view}
use Rattle.zot_layout.proofs.IndexLemmas.{index_depth, string_document}
use Rattle.zot_layout.proofs.PlainLemmas.{index_plain, plain_text}
use Rattle.zot_layout.specs.Text.{index_with}
use Rattle.zot_layout.proofs.text.text_with.Goals as goal

pub returns-clause-text : goal.returns-clause-text
returns-clause-text c =
    let items = items_view c.args.descriptors.items in
    plain_text c.to_string.result (view c.in_ok-value.value) (index_with items) (c.in_ok-value.ensures items (view-Array c.args.descriptors))
    (index_plain items c.requires.plain) c.to_string.ensures.text

pub returns-clause-comes_back : goal.returns-clause-comes_back
returns-clause-comes_back c =
    let items = items_view c.args.descriptors.items in
    string_document c.to_string.result (view c.in_ok-value.value) (index_with items) (c.in_ok-value.ensures items (view-Array c.args.descriptors))
    (index_depth items c.requires.shallow) c.to_string.ensures.reads_back
