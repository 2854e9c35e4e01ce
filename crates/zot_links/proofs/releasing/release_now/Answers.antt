use Rattle.zot_links.proofs.HeldLemmas.{released_holder, released_none}
use Rattle.zot_links.proofs.ReleaseLemmas.{both_ok}
use Rattle.zot_links.proofs.releasing.release_now.Goals as goal

pub returns-in-None-clause-ok : goal.returns-in-None-clause-ok
returns-in-None-clause-ok g c = released_none (g.S.Store.objects c.args.part.now) c.args.digest.now c.args.links.now c.args.name.now c.in-None.ensures.name c.in-None.ensures.source

pub returns-in-Some-clause-ok : goal.returns-in-Some-clause-ok
returns-in-Some-clause-ok g c =
    both_ok c.remove_holder.result _ _ _ (λ was answer h. released_holder (g.S.Store.objects c.args.part.now) (g.S.Store.objects c.remove_holder.new.part) c.args.digest.now c.args.links.now c.remove_holder.new.links c.args.name.now
    c.in-Some.field-0.now was c.in-Some.ensures.name c.in-Some.ensures.source answer h) c.remove_holder.ensures.answer c.remove_holder.ensures.ok
