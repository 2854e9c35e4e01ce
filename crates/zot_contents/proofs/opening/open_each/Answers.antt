use Rattle.std.proofs.Common.{rules, ◌≡◌, [], ◌∷◌, ℕ, IfSome, List, map, refl, subst, ◌∙◌}
use Rattle.std.specs.List.Sorted.{IsStrictlySortedBy}
use Rattle.zot_digest.specs.ByteMap.{byte_cmp}
use Rattle.zot_links.specs.Meaning.{Links, record_path}
use Rattle.zot_links.specs.Opening.{HasObjects, LacksMeaning}
use Rattle.zot_contents.proofs.OpeningLemmas.{AreLeft, Entries, HasOpened, among_more, among_none, bad_on, bad_where, first_where, left_first, left_more, more_where, stand_where, tight_where}
use Rattle.zot_contents.specs.Opening.{IsFirstBad, WhereFound}
use Rattle.zot_contents.proofs.opening.open_each.Goals as goal

pub loop-digest-init : goal.loop-digest-init
loop-digest-init g c =
    let objects = g.S.Store.objects c.args.part.now in
    let given : c.into_iter-digest-iterator.result ≡ c.tree.result.now.entries = search rules in
    let sorted : IsStrictlySortedBy byte_cmp (map (λ (e : List ℕ × Links). e.0) c.tree.result.now.entries) = search rules in (
      refl,
      refl,
      left_first c.args.found.now c.tree.result.now.entries c.into_iter-digest-iterator.result given c.tree.ensures sorted,
      among_none c.args.found.now c.new-digests.result c.new-digests.ensures,
      first_where objects c.args.found.now c.tree.result.now.entries c.into_iter-digest-iterator.result c.new-digests.result given c.tree.ensures c.new-digests.ensures,
    )

pub returns-in_err-links-clause-bad : goal.returns-in_err-links-clause-bad
returns-in_err-links-clause-bad g c =
    let objects = g.S.Store.objects in
    let digest = c.in-Some.digest.now in
    let holders = c.in-Some.holders.now in
    let next : c.loop-digest.digest-iterator ≡ (digest, holders) ∷ c.next.new.self = search rules in
    bad_on
    (λ path text. IfSome (objects c.loop-digest.part) (λ told. HasObjects told digest holders → (path ≡ record_path digest) × LacksMeaning told digest text))
    (λ path text. WhereFound (objects c.args.part.now) c.args.found.now (λ told number. IsFirstBad told number path text))
    (λ path text refused. bad_where (objects c.args.part.now) (objects c.loop-digest.part) c.args.found.now digest holders c.next.new.self c.loop-digest.digests path text c.loop-digest.invariant.1
    (subst (AreLeft c.args.found.now) next c.loop-digest.invariant.2) refused
    (subst (λ (l : Entries). WhereFound (objects c.args.part.now) c.args.found.now (λ told number. HasOpened told number l c.loop-digest.digests)) next c.loop-digest.invariant.4))
    c.from_residual.result c.in_err-links.field-0.0 c.from_residual.ensures.1 c.in_err-links.ensures.bad

pub loop-digest-preserved : goal.loop-digest-preserved
loop-digest-preserved g c =
    let objects = g.S.Store.objects in
    let next : c.loop-digest.digest-iterator ≡ (c.in-Some.digest.now, c.in-Some.holders.now) ∷ c.next.new.self = search rules in
    let is_left = subst (AreLeft c.args.found.now) next c.loop-digest.invariant.2 in (
      c.in_ok-links.ensures.quiet ∙ c.loop-digest.invariant.0,
      c.in_ok-links.ensures.kept ∙ c.loop-digest.invariant.1,
      left_more c.args.found.now (c.in-Some.digest.now, c.in-Some.holders.now) c.next.new.self is_left,
      among_more c.args.found.now c.loop-digest.digests c.set.new.self c.tidy.new.self c.in-Some.digest.now c.in-Some.holders.now c.in_ok-links.links c.next.new.self is_left c.in_ok-set.ensures.ok c.tidy.ensures.only c.loop-digest.invariant.3,
      more_where (objects c.args.part.now) (objects c.loop-digest.part) c.args.found.now c.in-Some.digest.now c.in-Some.holders.now c.next.new.self c.loop-digest.digests c.set.new.self c.tidy.new.self c.in_ok-links.links
          c.loop-digest.invariant.1 is_left c.in_ok-set.ensures.ok c.tidy.ensures.same c.in_ok-links.ensures.ok c.in_ok-links.ensures.names
          (subst (λ (l : Entries). WhereFound (objects c.args.part.now) c.args.found.now (λ told number. HasOpened told number l c.loop-digest.digests)) next c.loop-digest.invariant.4),
    )

pub returns-clause-stand : goal.returns-clause-stand
returns-clause-stand g c =
    let none : c.loop-digest.digest-iterator ≡ [] = search rules in
    stand_where (g.S.Store.objects c.args.part.now) c.args.found.now c.loop-digest.digests c.loop-digest.digest-iterator none c.loop-digest.invariant.4

pub returns-clause-tight : goal.returns-clause-tight
returns-clause-tight g c =
    let none : c.loop-digest.digest-iterator ≡ [] = search rules in
    tight_where (g.S.Store.objects c.args.part.now) c.args.found.now c.loop-digest.digests c.loop-digest.digest-iterator none c.loop-digest.invariant.4
