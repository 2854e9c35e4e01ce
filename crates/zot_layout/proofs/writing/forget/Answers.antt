use Rattle.std.proofs.Common.{ap, ◌∙◌}
use Rattle.zot_layout.specs.Paths.{marker_path}
use Rattle.zot_layout.proofs.ToldLemmas.{ok_so}
use Rattle.zot_layout.proofs.WritingLemmas.{forgotten_told, unmarked_told}
use Rattle.zot_layout.proofs.writing.forget.Goals as goal

pub returns-clause-deletes : goal.returns-clause-deletes
returns-clause-deletes g c =
    let at = c.as_str-2.ensures.value ∙ c.in_ok-path.ensures ∙ ap marker_path c.as_str.ensures.value in
    ok_so c.delete_at.result _ _ (unmarked_told (g.S.Store.objects c.args.part.now) (g.S.Store.objects c.delete_at.new.part) c.args.name.now c.as_str-2.result.now at) c.delete_at.ensures.ok

pub returns-clause-ok : goal.returns-clause-ok
returns-clause-ok g c =
    let at = c.as_str-2.ensures.value ∙ c.in_ok-path.ensures ∙ ap marker_path c.as_str.ensures.value in
    ok_so c.delete_at.result _ _ (forgotten_told (g.S.Store.objects c.args.part.now) (g.S.Store.objects c.delete_at.new.part) c.args.name.now c.as_str-2.result.now at) c.delete_at.ensures.ok
