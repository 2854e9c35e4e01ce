use Rattle.std.proofs.Common.{ap, ◌∙◌}
use Rattle.zot_layout.specs.Paths.{index_path}
use Rattle.zot_layout.specs.State.{as_written}
use Rattle.zot_layout.proofs.ToldLemmas.{ok_so}
use Rattle.zot_layout.proofs.WritingLemmas.{index_told}
use Rattle.zot_layout.proofs.writing.put_index.Goals as goal

pub returns-clause-ok : goal.returns-clause-ok
returns-clause-ok g c = λ is.
    let at = c.as_str-2.ensures.value ∙ c.in_ok-path.ensures ∙ ap index_path c.as_str.ensures.value in
    ok_so c.put.result _ _ (index_told (g.S.Store.objects c.args.part.now) (g.S.Store.objects c.put.new.self) c.args.name.now c.as_str-2.result.now c.as_slice.result.now c.in_ok-text.text.items (as_written c.args.state.now)
    at c.as_slice.ensures.value (c.in_ok-text.ensures.comes_back is)) c.put.ensures.ok
