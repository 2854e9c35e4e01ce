use Rattle.std.proofs.Common.{◌≡◌, subst, true, Some, IfSome, OnOk, OnErr}
use Rattle.zot_links.specs.Aims.{IsAimed}
use Rattle.zot_outside.specs.Objects.{Told}
use Rattle.zot_links.specs.Changes.{Keeps, Sets}
use Rattle.zot_links.specs.Meaning.{Links, StandsWhereTold}
use Rattle.zot_contents.proofs.KeptLemmas.{both_moved, found_links, not_found, written_beside, written_here, written_only}
use Rattle.zot_contents.specs.Shards.{links_at}
use Rattle.zot_contents.proofs.digests.Digests.attach.Goals as goal

pub attach-requires : goal.attach-requires
attach-requires g c = record {
  stands =
      subst (λ (l : Links). StandsWhereTold (g.S.Store.objects c.args.part.now) c.args.digest.now l)
      (found_links c.self.inside.tree.entries c.args.self.now c.args.digest.now c.in-Some.links.now c.self.view_is c.in-Some.ensures.value) c.requires.stands;
}

pub unreachable-requires : goal.unreachable-requires
unreachable-requires g c = not_found c.self.inside.tree.entries c.args.self.now c.args.digest.now c.self.view_is c.in-None.ensures.value c.requires.kept

pub returns-clause-ok : goal.returns-clause-ok
returns-clause-ok g c =
    both_moved (λ x y. OnOk c.attach.result (Told (g.S.Store.objects c.args.part.now) (g.S.Store.objects c.attach.new.part) (λ old new. Sets (c.args.dedupe ≡ true) old c.args.digest.now x c.args.name.now (Some c.args.bytes.now) new y)))
    c.in-Some.links.now c.attach.new.links (links_at c.args.self.now c.args.digest.now) _
    (found_links c.self.inside.tree.entries c.args.self.now c.args.digest.now c.in-Some.links.now c.self.view_is c.in-Some.ensures.value)
    (written_here c.self.inside.tree.entries (c.get_mut.follows.lender c.attach.new.links).entries c.args.self.now c.args.digest.now c.in-Some.links.now c.attach.new.links c.self.view_is c.in-Some.ensures.value
    (c.get_mut.follows.holds c.attach.new.links).3)
    c.attach.ensures.ok

pub returns-clause-err : goal.returns-clause-err
returns-clause-err g c =
    both_moved (λ x y. OnErr c.attach.result (Told (g.S.Store.objects c.args.part.now) (g.S.Store.objects c.attach.new.part) (λ old new. Keeps old c.args.digest.now x new y)))
    c.in-Some.links.now c.attach.new.links (links_at c.args.self.now c.args.digest.now) _
    (found_links c.self.inside.tree.entries c.args.self.now c.args.digest.now c.in-Some.links.now c.self.view_is c.in-Some.ensures.value)
    (written_here c.self.inside.tree.entries (c.get_mut.follows.lender c.attach.new.links).entries c.args.self.now c.args.digest.now c.in-Some.links.now c.attach.new.links c.self.view_is c.in-Some.ensures.value
    (c.get_mut.follows.holds c.attach.new.links).3)
    c.attach.ensures.err

pub returns-clause-beside : goal.returns-clause-beside
returns-clause-beside g c =
    written_beside c.self.inside.tree.entries (c.get_mut.follows.lender c.attach.new.links).entries c.args.self.now c.args.digest.now c.in-Some.links.now c.attach.new.links c.self.view_is c.in-Some.ensures.value
    (c.get_mut.follows.holds c.attach.new.links).3

pub returns-clause-form : goal.returns-clause-form
returns-clause-form g c =
    both_moved (λ x y. OnOk c.attach.result (IfSome (g.S.Store.objects c.args.part.now) (λ told. IsAimed c.args.dedupe told c.args.digest.now x c.args.name.now c.args.bytes.now y)))
    c.in-Some.links.now c.attach.new.links (links_at c.args.self.now c.args.digest.now) _
    (found_links c.self.inside.tree.entries c.args.self.now c.args.digest.now c.in-Some.links.now c.self.view_is c.in-Some.ensures.value)
    (written_here c.self.inside.tree.entries (c.get_mut.follows.lender c.attach.new.links).entries c.args.self.now c.args.digest.now c.in-Some.links.now c.attach.new.links c.self.view_is c.in-Some.ensures.value
    (c.get_mut.follows.holds c.attach.new.links).3)
    c.attach.ensures.form

pub returns-clause-only : goal.returns-clause-only
returns-clause-only g c =
    written_only c.self.inside.tree.entries (c.get_mut.follows.lender c.attach.new.links).entries c.args.self.now c.args.digest.now c.in-Some.links.now c.attach.new.links c.self.view_is c.in-Some.ensures.value
    (c.get_mut.follows.holds c.attach.new.links).3
