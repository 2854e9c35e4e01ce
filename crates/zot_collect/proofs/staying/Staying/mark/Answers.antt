use Rattle.std.proofs.Common.{refl, sym, ◌∙◌, false}
use Rattle.std.proofs.lemmas.List.{get_or_default}
use Rattle.zot_collect.proofs.SpreadLemmas.{grows_one}
use Rattle.zot_collect.proofs.staying.Staying.mark.Goals as goal

pub returns-clause-grows : goal.returns-clause-grows
returns-clause-grows c =
    grows_one c.args.self.now _ c.args.place c.requires
    (get_or_default c.args.self.now.marks.items c.args.place false c.index.result.now c.requires ∙ sym c.index.ensures ∙ c.if-index.false)
    refl c.in_ok-push.ensures.items
