use Rattle.std.proofs.Common.{◌≡◌, ◌∙◌, true, Contains, subst, sym, arith}
use Rattle.std.proofs.lemmas.List.{nil_from_length}
use Rattle.std.proofs.lemmas.List.Elements.{Contains-push}
use Rattle.zot_collect.proofs.WalkLemmas.{least_at_end, nothing_left, spreading_first, spreading_more, underway_first, underway_more, waiting_within}
use Rattle.zot_collect.specs.Marks.{HoldsThere, Spreads}
use Rattle.zot_collect.specs.declared.staying.Staying.{Staying}
use Rattle.zot_media.specs.References.{has_digest}
use Rattle.zot_collect.proofs.children.mark_descendants.Goals as goal

pub loop-init : goal.loop-init
loop-init c = record {
  underway = underway_first c.args.manifests.now c.args.state.now c.requires.ready;
  spreading = λ root roots. spreading_first root c.args.manifests.now c.args.state.now c.requires.ready roots;
}

pub returns-in_default : goal.returns-in_default
returns-in_default c = λ root roots.
    least_at_end root c.args.manifests.now c.loop.state.marks.items c.loop.state.waiting.items c.requires.ascend c.loop.invariant.underway.long
    (nil_from_length c.loop.state.waiting.items (sym c.loop.state.waiting.ok.0 ∙ c.in_default.ensures.cases.0)) (c.loop.invariant.spreading root roots)

pub row_at-row-requires : goal.row_at-row-requires
row_at-row-requires c =
    waiting_within c.args.manifests.now c.loop.state.marks.items c.loop.state.waiting.items c.pop.new.self.items c.loop.counter c.in-Some.place c.loop.invariant.underway c.in-Some.ensures.items

pub mark_children-requires : goal.mark_children-requires
mark_children-requires c = record { long = c.loop.invariant.underway.long; ascend = c.requires.ascend }

pub loop-preserved : goal.loop-preserved
loop-preserved c =
    let rows = c.args.manifests.now in
    let before : Staying = record { marks = c.loop.state.marks; waiting = c.pop.new.self } in
    let parent = c.row_at-row.result.now in
    let spread = subst (λ children. Spreads (λ row. has_digest row.digest children ≡ true) rows before c.mark_children.new.state) c.as_slice.ensures c.in_ok-mark_children.ensures in
    let here = c.loop.invariant.underway.marked c.in-Some.place (subst (λ waiting. Contains waiting c.in-Some.place) (sym c.in-Some.ensures.items) (Contains-push c.pop.new.self.items c.in-Some.place)) in
    record {
      underway = underway_more (HoldsThere (λ row. has_digest row.digest parent.reading.children ≡ true) rows) rows before c.mark_children.new.state c.loop.state.waiting.items c.loop.counter c.in-Some.place
          c.loop.invariant.underway c.in-Some.ensures.items spread.grows;
      spreading = λ root roots.
          spreading_more root rows before c.mark_children.new.state c.loop.state.waiting.items c.in-Some.place parent (c.loop.invariant.spreading root roots) here c.in-Some.ensures.items
          c.row_at-row.ensures spread;
    }

pub returns : goal.returns
returns c = λ root roots.
    least_at_end root c.args.manifests.now c.loop.state.marks.items c.loop.state.waiting.items c.requires.ascend c.loop.invariant.underway.long
    (nothing_left c.args.manifests.now c.loop.state.marks.items c.loop.state.waiting.items c.loop.counter c.loop.invariant.underway (omega (arith, c.loop-test.false)))
    (c.loop.invariant.spreading root roots)
