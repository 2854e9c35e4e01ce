use Rattle.std.proofs.Common.{sym, None}
use Rattle.zot_links.proofs.HoldLemmas.{err_so}
use Rattle.zot_links.proofs.LineLemmas.{on_ok}
use Rattle.zot_outside.specs.Objects.{Told}
use Rattle.zot_links.specs.Changes.{Keeps, with_held}
use Rattle.zot_links.specs.Holding.{Releases}
use Rattle.zot_links.specs.Meaning.{held}
use Rattle.zot_contents.proofs.KeptLemmas.{own_after}
use Rattle.zot_contents.proofs.ShardLemmas.{beside_all, detached, either_ok, kept_bytes, released_sets, stand_alike, turned_stand, turned_tight}
use Rattle.zot_contents.specs.Shards.{AllStand, AreTight, links_at}
use Rattle.zot_contents.proofs.shard.DigestShard.detach.Goals as goal

pub release-released-requires-clause-stands : goal.release-released-requires-clause-stands
release-released-requires-clause-stands g c =
    stand_alike (g.S.Store.objects c.args.self.now.part) c.args.self.now.number c.args.self.now.digests c.keep.new.self c.keep.ensures.same c.args.self.now.stand c.args.digest.now c.requires

pub invariant_of-self-2 : goal.invariant_of-self-2
invariant_of-self-2 g c =
    let before = g.S.Store.objects c.args.self.now.part in
    let after = g.S.Store.objects c.release-released.new.part in
    let digest = c.args.digest.now in
    let links = links_at c.keep.new.self digest in
    let later = links_at c.release-released.new.self digest in
    let beside = beside_all c.args.self.now.digests c.keep.new.self c.release-released.new.self c.tidy.new.self digest c.keep.ensures.same c.release-released.ensures.beside c.tidy.ensures.same in
    record {
      own =
          own_after c.args.self.now.number c.args.self.now.digests c.keep.new.self c.release-released.new.self c.tidy.new.self digest c.requires c.keep.ensures.only c.release-released.ensures.only
          c.tidy.ensures.only c.args.self.now.own;
      stand =
          either_ok c.release-released.result
          (λ was. Told before after (λ old new. Releases was old digest links c.args.name.now new later))
          (Told before after (λ old new. Keeps old digest links new later))
          (AllStand after c.args.self.now.number c.tidy.new.self)
          (λ was told. turned_stand before after c.args.self.now.number c.args.self.now.digests c.tidy.new.self digest links later (Unit {0}) (λ old. with_held (held old digest) c.args.name.now None)
          (sym (c.keep.ensures.same digest)) (c.tidy.ensures.same digest) beside (released_sets before after digest c.args.name.now links later was told) c.args.self.now.stand)
          (λ told. turned_stand before after c.args.self.now.number c.args.self.now.digests c.tidy.new.self digest links later (Unit {0}) (λ old. held old digest)
          (sym (c.keep.ensures.same digest)) (c.tidy.ensures.same digest) beside told c.args.self.now.stand)
          c.release-released.ensures.ok c.release-released.ensures.err;
    }

pub returns-clause-ok : goal.returns-clause-ok
returns-clause-ok g c =
    on_ok c.release-released.result _ _ (λ was told.
    detached (g.S.Store.objects c.args.self.now.part) (g.S.Store.objects c.release-released.new.part) c.args.digest.now c.args.name.now
    (links_at c.keep.new.self c.args.digest.now) (links_at c.release-released.new.self c.args.digest.now) was told) c.release-released.ensures.ok

pub returns-clause-err : goal.returns-clause-err
returns-clause-err g c =
    err_so c.release-released.result _ _
    (kept_bytes (g.S.Store.objects c.args.self.now.part) (g.S.Store.objects c.release-released.new.part) c.args.digest.now
    (links_at c.keep.new.self c.args.digest.now) (links_at c.release-released.new.self c.args.digest.now)) c.release-released.ensures.err

pub returns-clause-tight : goal.returns-clause-tight
returns-clause-tight g c dedupes =
    let before = g.S.Store.objects c.args.self.now.part in
    let after = g.S.Store.objects c.release-released.new.part in
    let digest = c.args.digest.now in
    let links = links_at c.keep.new.self digest in
    let later = links_at c.release-released.new.self digest in
    let beside = beside_all c.args.self.now.digests c.keep.new.self c.release-released.new.self c.tidy.new.self digest c.keep.ensures.same c.release-released.ensures.beside c.tidy.ensures.same in
    either_ok c.release-released.result
    (λ was. Told before after (λ old new. Releases was old digest links c.args.name.now new later))
    (Told before after (λ old new. Keeps old digest links new later))
    (Told before after (λ old new. AreTight old c.args.self.now.number c.args.self.now.digests → AreTight new c.args.self.now.number c.tidy.new.self))
    (λ was told. turned_tight before after c.args.self.now.number c.args.self.now.digests c.tidy.new.self digest links later (Unit {0}) (λ old. with_held (held old digest) c.args.name.now None)
    (sym (c.keep.ensures.same digest)) (c.tidy.ensures.same digest) beside (released_sets before after digest c.args.name.now links later was told) tt)
    (λ told. turned_tight before after c.args.self.now.number c.args.self.now.digests c.tidy.new.self digest links later (Unit {0}) (λ old. held old digest)
    (sym (c.keep.ensures.same digest)) (c.tidy.ensures.same digest) beside told tt)
    c.release-released.ensures.ok c.release-released.ensures.err
