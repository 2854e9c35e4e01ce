use Rattle.std.proofs.Common.{◌++◌, ◌∙◌, ap}
use Rattle.std.specs.Vec.Iter.{into_iter_items}
use Rattle.zot_host.proofs.PartLemmas.{given_all, given_more}
use Rattle.zotd.proofs.arguments.all_of.Goals as goal

pub loop-word-preserved : goal.loop-word-preserved
loop-word-preserved c =
    ap (λ given. given ++ into_iter_items c.next.new.self) c.in_ok-push.ensures.items
    ∙ given_more c.loop-word.all.items (into_iter_items c.args.args) c.in-Some.word (into_iter_items c.loop-word.word-iterator) (into_iter_items c.next.new.self) c.loop-word.invariant c.in-Some.ensures.steps.0

pub returns : goal.returns
returns c =
    given_all c.loop-word.all.items (into_iter_items c.args.args) (into_iter_items c.loop-word.word-iterator) _ c.loop-word.invariant c.loop-word.word-iterator.rest.ok.0 c.in-None.ensures.steps.0
