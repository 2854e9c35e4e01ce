use Rattle.std.proofs.Common.{◌≡◌, sym, true, Some}
use Rattle.std.specs.Prelude.{IfSome, OnOk}
use Rattle.zot_links.proofs.HoldLemmas.{err_so}
use Rattle.zot_links.proofs.PartLemmas.{either, ok_so}
use Rattle.zot_links.specs.Aims.{IsAimed}
use Rattle.zot_outside.specs.Objects.{Told}
use Rattle.zot_links.specs.Changes.{Keeps, Sets, with_held}
use Rattle.zot_links.specs.Meaning.{held}
use Rattle.zot_contents.proofs.KeptLemmas.{both_moved, own_after}
use Rattle.zot_contents.proofs.ShardLemmas.{attached, beside_all, kept_bytes, stand_alike, turned_stand, turned_tight}
use Rattle.zot_contents.specs.Shards.{AllStand, AreTight, links_at}
use Rattle.zot_contents.proofs.shard.DigestShard.attach.Goals as goal

pub attach-attached-requires-clause-stands : goal.attach-attached-requires-clause-stands
attach-attached-requires-clause-stands g c =
    stand_alike (g.S.Store.objects c.args.self.now.part) c.args.self.now.number c.args.self.now.digests c.keep.new.self c.keep.ensures.same c.args.self.now.stand c.args.digest.now c.requires

pub invariant_of-self-2 : goal.invariant_of-self-2
invariant_of-self-2 g c =
    let before = g.S.Store.objects c.args.self.now.part in
    let after = g.S.Store.objects c.attach-attached.new.part in
    let digest = c.args.digest.now in
    let links = links_at c.keep.new.self digest in
    let later = links_at c.attach-attached.new.self digest in
    let beside = beside_all c.args.self.now.digests c.keep.new.self c.attach-attached.new.self c.tidy.new.self digest c.keep.ensures.same c.attach-attached.ensures.beside c.tidy.ensures.same in
    record {
      own =
          own_after c.args.self.now.number c.args.self.now.digests c.keep.new.self c.attach-attached.new.self c.tidy.new.self digest c.requires c.keep.ensures.only c.attach-attached.ensures.only
          c.tidy.ensures.only c.args.self.now.own;
      stand =
          either c.attach-attached.result
          (Told before after (λ old new. Sets (c.args.self.now.dedupe ≡ true) old digest links c.args.name.now (Some c.args.bytes.now) new later))
          (Told before after (λ old new. Keeps old digest links new later))
          (AllStand after c.args.self.now.number c.tidy.new.self)
          (λ told. turned_stand before after c.args.self.now.number c.args.self.now.digests c.tidy.new.self digest links later (c.args.self.now.dedupe ≡ true) (λ old. with_held (held old digest) c.args.name.now (Some c.args.bytes.now))
          (sym (c.keep.ensures.same digest)) (c.tidy.ensures.same digest) beside told c.args.self.now.stand)
          (λ told. turned_stand before after c.args.self.now.number c.args.self.now.digests c.tidy.new.self digest links later (Unit {0}) (λ old. held old digest)
          (sym (c.keep.ensures.same digest)) (c.tidy.ensures.same digest) beside told c.args.self.now.stand)
          c.attach-attached.ensures.ok c.attach-attached.ensures.err;
    }

pub returns-clause-ok : goal.returns-clause-ok
returns-clause-ok g c =
    ok_so c.attach-attached.result _ _
    (attached (g.S.Store.objects c.args.self.now.part) (g.S.Store.objects c.attach-attached.new.part) c.args.digest.now c.args.name.now c.args.bytes.now
    (links_at c.keep.new.self c.args.digest.now) (links_at c.attach-attached.new.self c.args.digest.now) (c.args.self.now.dedupe ≡ true)) c.attach-attached.ensures.ok

pub returns-clause-err : goal.returns-clause-err
returns-clause-err g c =
    err_so c.attach-attached.result _ _
    (kept_bytes (g.S.Store.objects c.args.self.now.part) (g.S.Store.objects c.attach-attached.new.part) c.args.digest.now
    (links_at c.keep.new.self c.args.digest.now) (links_at c.attach-attached.new.self c.args.digest.now)) c.attach-attached.ensures.err

pub returns-clause-tight : goal.returns-clause-tight
returns-clause-tight g c dedupes =
    let before = g.S.Store.objects c.args.self.now.part in
    let after = g.S.Store.objects c.attach-attached.new.part in
    let digest = c.args.digest.now in
    let links = links_at c.keep.new.self digest in
    let later = links_at c.attach-attached.new.self digest in
    let beside = beside_all c.args.self.now.digests c.keep.new.self c.attach-attached.new.self c.tidy.new.self digest c.keep.ensures.same c.attach-attached.ensures.beside c.tidy.ensures.same in
    either c.attach-attached.result
    (Told before after (λ old new. Sets (c.args.self.now.dedupe ≡ true) old digest links c.args.name.now (Some c.args.bytes.now) new later))
    (Told before after (λ old new. Keeps old digest links new later))
    (Told before after (λ old new. AreTight old c.args.self.now.number c.args.self.now.digests → AreTight new c.args.self.now.number c.tidy.new.self))
    (λ told. turned_tight before after c.args.self.now.number c.args.self.now.digests c.tidy.new.self digest links later (c.args.self.now.dedupe ≡ true) (λ old. with_held (held old digest) c.args.name.now (Some c.args.bytes.now))
    (sym (c.keep.ensures.same digest)) (c.tidy.ensures.same digest) beside told dedupes)
    (λ told. turned_tight before after c.args.self.now.number c.args.self.now.digests c.tidy.new.self digest links later (Unit {0}) (λ old. held old digest)
    (sym (c.keep.ensures.same digest)) (c.tidy.ensures.same digest) beside told tt)
    c.attach-attached.ensures.ok c.attach-attached.ensures.err

pub returns-clause-form : goal.returns-clause-form
returns-clause-form g c =
    both_moved (λ x y. OnOk c.attach-attached.result (IfSome (g.S.Store.objects c.args.self.now.part) (λ told. IsAimed c.args.self.now.dedupe told c.args.digest.now x c.args.name.now c.args.bytes.now y)))
    (links_at c.keep.new.self c.args.digest.now) (links_at c.attach-attached.new.self c.args.digest.now) (links_at c.args.self.now.digests c.args.digest.now) (links_at c.tidy.new.self c.args.digest.now)
    (sym (c.keep.ensures.same c.args.digest.now)) (c.tidy.ensures.same c.args.digest.now) c.attach-attached.ensures.form
