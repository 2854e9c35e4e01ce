use Rattle.std.proofs.Common.{rules, ◌≡◌, Contains, Vec, Global, refl, sym, subst, ◌∙◌}
use Rattle.std.specs.List.{AllByRecursion}
use Rattle.std.specs.Vec.Iter.{into_iter_items}
use Rattle.zot_layout.specs.Causes.{HasLayoutCause}
use Rattle.zot_layout.specs.Rows.{AreIndexes, Opened}
use Rattle.zot_layout.proofs.CauseLemmas.{no_fault}
use Rattle.zot_layout.proofs.OpenedLemmas.{all_in, indexes_more}
use Rattle.zot_layout.proofs.OpeningLemmas.{Left, left_bad, left_first, left_more, left_none, none_in}
use Rattle.zot_layout.proofs.opening.read_layouts.Goals as goal

pub loop-name-init : goal.loop-name-init
loop-name-init g c =
    let objects = g.S.Store.objects c.args.part.now in
    let given : into_iter_items c.into_iter-name-iterator.result ≡ c.args.names.items = c.into_iter-name-iterator.ensures.into_iter_gives.0 in (
      refl,
      refl,
      subst (Left objects c.args.moment c.args.names.items c.new-repos.result.items) (sym given)
          (left_first objects c.args.moment c.args.names.items c.new-repos.result.items c.new-repos.ensures.items),
      subst (AreIndexes (Contains c.args.names.items)) (sym c.new-repos.ensures.items) tt,
      subst (AllByRecursion (Contains c.args.names.items)) (sym given) (all_in c.args.names.items),
    )

pub returns-in_err-found-clause-cause : goal.returns-in_err-found-clause-cause
returns-in_err-found-clause-cause g c =
    subst (λ f. HasLayoutCause {A = Vec Opened Global} f (g.S.Store.faults c.read_layout.new.part) c.from_residual.result) c.loop-name.invariant.0 (search rules)

pub returns-in_err-found-clause-kept : goal.returns-in_err-found-clause-kept
returns-in_err-found-clause-kept g c = c.in_err-found.ensures.kept ∙ c.loop-name.invariant.1

pub returns-in_err-found-clause-told : goal.returns-in_err-found-clause-told
returns-in_err-found-clause-told g c =
    let objects = g.S.Store.objects in
    left_bad (objects c.args.part.now) c.args.moment c.args.names.items c.loop-name.repos.items c.in-Some.name (into_iter_items c.next.new.self) c.in_err-found.field-0.0 c.from_residual.result
    (objects c.loop-name.part) c.loop-name.invariant.1 c.from_residual.ensures.1 c.in_err-found.ensures.told
    (subst (Left (objects c.args.part.now) c.args.moment c.args.names.items c.loop-name.repos.items) c.in-Some.ensures.steps.0 c.loop-name.invariant.2)

pub loop-name-preserved : goal.loop-name-preserved
loop-name-preserved g c =
    let objects = g.S.Store.objects in
    let left = subst (AllByRecursion (Contains c.args.names.items)) c.in-Some.ensures.steps.0 c.loop-name.invariant.4 in (
      c.in_ok-found.ensures.cause.kept ∙ c.loop-name.invariant.0,
      c.in_ok-found.ensures.kept ∙ c.loop-name.invariant.1,
      left_more (objects c.args.part.now) c.args.moment c.args.names.items c.loop-name.repos.items c.add_known.new.repos.items c.in-Some.name (into_iter_items c.next.new.self) c.in_ok-found.found
          (objects c.loop-name.part) c.loop-name.invariant.1 c.in_ok-add_known.ensures c.in_ok-found.ensures.told
          (subst (Left (objects c.args.part.now) c.args.moment c.args.names.items c.loop-name.repos.items) c.in-Some.ensures.steps.0 c.loop-name.invariant.2),
      indexes_more (Contains c.args.names.items) c.loop-name.repos.items c.add_known.new.repos.items c.in-Some.name c.in_ok-found.found c.loop-name.invariant.3 left.0 c.in_ok-found.ensures.index c.in_ok-add_known.ensures,
      left.1,
    )

pub returns-in_err-add_known-clause-cause : goal.returns-in_err-add_known-clause-cause
returns-in_err-add_known-clause-cause g c =
    subst (λ f. HasLayoutCause {A = Vec Opened Global} f (g.S.Store.faults c.read_layout.new.part) c.from_residual-in_err-add_known.result) (c.in_ok-found.ensures.cause.kept ∙ c.loop-name.invariant.0) (search rules)

pub returns-in_err-add_known-clause-kept : goal.returns-in_err-add_known-clause-kept
returns-in_err-add_known-clause-kept g c = c.in_ok-found.ensures.kept ∙ c.loop-name.invariant.1

pub returns-clause-cause : goal.returns-clause-cause
returns-clause-cause g c = no_fault (g.S.Store.faults c.args.part.now) (g.S.Store.faults c.loop-name.part) c.loop-name.repos c.loop-name.invariant.0

pub returns-clause-kept : goal.returns-clause-kept
returns-clause-kept g c = c.loop-name.invariant.1

pub returns-clause-told : goal.returns-clause-told
returns-clause-told g c =
    let objects = g.S.Store.objects c.args.part.now in
    left_none objects c.args.moment c.args.names.items c.loop-name.repos.items
    (subst (Left objects c.args.moment c.args.names.items c.loop-name.repos.items) (none_in (into_iter_items c.loop-name.name-iterator) _ c.loop-name.name-iterator.rest.ok.0 c.in-None.ensures.steps.0) c.loop-name.invariant.2)

pub returns-clause-indexes : goal.returns-clause-indexes
returns-clause-indexes g c = c.loop-name.invariant.3
