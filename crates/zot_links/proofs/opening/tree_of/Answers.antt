use Rattle.std.proofs.Common.{◌≡◌, ◌++◌, ◌∙◌, List, ap, map, subst, append-nil}
use Rattle.std.specs.Vec.Iter.{into_iter_items}
use Rattle.zot_links.specs.Records.{pair_of}
use Rattle.zot_links.specs.declared.record_line.RecordLine.{RecordLine}
use Rattle.zot_links.proofs.OpeningLemmas.{line_put, lines_put, none_in}
use Rattle.zot_links.proofs.opening.tree_of.Goals as goal

pub loop-line-preserved : goal.loop-line-preserved
loop-line-preserved c =
    line_put c.args.lines.items (into_iter_items c.next.new.self) c.loop-line.tree.entries c.put.new.tree.entries c.in-Some.line c.requires
    (subst (λ (ls : List RecordLine). map pair_of c.args.lines.items ≡ c.loop-line.tree.entries ++ map pair_of ls) c.in-Some.ensures.steps.0 c.loop-line.invariant) c.in_ok-put.ensures

pub returns : goal.returns
returns c =
    let none = none_in (into_iter_items c.loop-line.line-iterator) _ c.loop-line.line-iterator.rest.ok.0 c.in-None.ensures.steps.0 in
    lines_put c.args.lines.items c.loop-line.tree.entries c.of.result
    (c.loop-line.invariant ∙ ap (λ (ls : List RecordLine). c.loop-line.tree.entries ++ map pair_of ls) none ∙ append-nil c.loop-line.tree.entries) c.of.ensures
