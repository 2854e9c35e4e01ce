use Rattle.std.proofs.Common.{◌≤◌, [], ◌∷◌, length, arith, refl, sym, subst, ◌∙◌}
use Rattle.std.proofs.lemmas.List.{length-append}
use Rattle.std.specs.Vec.Iter.{into_iter_items}
use Rattle.zot_host.proofs.PartLemmas.{given_all, given_more, one_left, takes_both, takes_none, uses_both, uses_none}
use Rattle.zot_host.specs.Parts.{TakesBack, UsesRoom}
use Rattle.zot_host.proofs.parts.keep_some.Goals as goal

pub loop-part-init : goal.loop-part-init
loop-part-init g c =
    let all = c.into_iter-part-iterator.ensures.into_iter_gives.0 in (
      all,
      takes_none (g.H.Host.kept c.args.host.now),
      subst (λ l. g.H.Host.room c.args.host.now (length l)) (sym all) c.requires,
      uses_none (g.H.Host.room c.args.host.now),
      refl,
      refl,
      refl,
      refl,
    )

pub keep-requires : goal.keep-requires
keep-requires g c =
    let it = c.loop-part.part-iterator in
    let more = one_left (into_iter_items it) (into_iter_items c.next.new.self) c.in-Some.part c.in-Some.ensures.steps.0 in
    let some : 1 ≤ length (into_iter_items it) = omega (arith, more) in
    g.met.H.Host.fewer c.loop-part.host 1 (length (into_iter_items it)) some c.loop-part.invariant.2

pub loop-part-preserved : goal.loop-part-preserved
loop-part-preserved g c =
    let it = c.loop-part.part-iterator in
    let left = into_iter_items c.next.new.self in
    let more = one_left (into_iter_items it) left c.in-Some.part c.in-Some.ensures.steps.0 in
    let inv = c.loop-part.invariant in (
      given_more c.loop-part.yielded c.args.parts.items c.in-Some.part (into_iter_items it) left inv.0 c.in-Some.ensures.steps.0,
      takes_both (g.H.Host.kept c.args.host.now) (g.H.Host.kept c.loop-part.host) (g.H.Host.kept c.keep.new.self) c.loop-part.yielded (c.in-Some.part ∷ []) inv.1 c.keep.ensures.kept,
      c.keep.ensures.room (length left) (subst (g.H.Host.room c.loop-part.host) more inv.2),
      subst (λ n. UsesRoom (g.H.Host.room c.args.host.now) n (g.H.Host.room c.keep.new.self)) (sym (length-append c.loop-part.yielded (c.in-Some.part ∷ [])))
          (uses_both (g.H.Host.room c.args.host.now) (g.H.Host.room c.loop-part.host) (g.H.Host.room c.keep.new.self) (length c.loop-part.yielded) 1 inv.3 c.keep.ensures.room),
      ◌∙◌ {a = g.H.Host.faults c.keep.new.self} c.keep.ensures.faults inv.4,
      ◌∙◌ {a = g.H.Host.files c.keep.new.self} c.keep.ensures.files inv.5,
      ◌∙◌ {a = g.H.Host.parts c.keep.new.self} c.keep.ensures.parts inv.6,
      ◌∙◌ {a = g.H.Host.moment c.keep.new.self} c.keep.ensures.moment inv.7,
    )

pub returns-clause-kept : goal.returns-clause-kept
returns-clause-kept g c =
    let it = c.loop-part.part-iterator in
    let all = given_all c.loop-part.yielded c.args.parts.items (into_iter_items it) _ c.loop-part.invariant.0 it.rest.ok.0 c.in-None.ensures.steps.0 in
    subst (λ l. TakesBack (g.H.Host.kept c.args.host.now) l (g.H.Host.kept c.loop-part.host)) all c.loop-part.invariant.1

pub returns-clause-room : goal.returns-clause-room
returns-clause-room g c =
    let it = c.loop-part.part-iterator in
    let all = given_all c.loop-part.yielded c.args.parts.items (into_iter_items it) _ c.loop-part.invariant.0 it.rest.ok.0 c.in-None.ensures.steps.0 in
    subst (λ l. UsesRoom (g.H.Host.room c.args.host.now) (length l) (g.H.Host.room c.loop-part.host)) all c.loop-part.invariant.3

pub returns-clause-faults : goal.returns-clause-faults
returns-clause-faults g c = c.loop-part.invariant.4

pub returns-clause-files : goal.returns-clause-files
returns-clause-files g c = c.loop-part.invariant.5

pub returns-clause-parts : goal.returns-clause-parts
returns-clause-parts g c = c.loop-part.invariant.6

pub returns-clause-moment : goal.returns-clause-moment
returns-clause-moment g c = c.loop-part.invariant.7
