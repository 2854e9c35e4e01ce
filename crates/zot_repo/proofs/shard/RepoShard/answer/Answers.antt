use Rattle.std.proofs.Common.{◌≡◌, ◌+◌}
use Rattle.std.specs.Prelude.{sum}
use Rattle.zot_contents.specs.Pool.{Holders}
use Rattle.zot_model.specs.declared.row.RowCall.TheVariants.{Ask}
use Rattle.zot_pool.specs.Pools.{faults_of, holds, objects_of}
use Rattle.zot_repo.proofs.AskLemmas.{both_each}
use Rattle.zot_repo.proofs.StepLemmas.{led_steps, unfailed_stays}
use Rattle.zot_repo.specs.RowGoing.{IsOwn}
use Rattle.zot_repo.specs.Rows.{AgreesRow}
use Rattle.zot_repo.specs.Shards.{IsUnfailed, Led, StepsRow}
use Rattle.zot_repo.specs.declared.row_next.RowNext.TheVariants as nexts
use Rattle.zot_repo.proofs.shard.RepoShard.answer.Goals as goal

pub returns : goal.returns
returns g c =
    let drives = c.drive.ensures.drives in
    record {
      steps = both_each (holds (objects_of c.args.pool.now.shards.items)) (holds (objects_of c.drive.new.pool.shards.items))
          (λ (held behind : Holders). AgreesRow (IsOwn c.args.self.now.core.config c.args.self.now.core.row) c.args.self.now.core.repos held → Led (IsOwn c.args.self.now.core.config c.args.self.now.core.row) (Ask c.args.request.now) c.args.moment c.args.self.now.core.repos held (g.S.Store.faults c.args.self.now.core.part + c.args.self.now.failed) (nexts.Done c.drive.result) c.drive.new.core.waiting c.drive.new.core.repos behind (g.S.Store.faults c.drive.new.core.part + c.drive.new.failed))
          (λ (held behind : Holders). AgreesRow (IsOwn c.args.self.now.core.config c.args.self.now.core.row) c.args.self.now.core.repos held → StepsRow (IsOwn c.args.self.now.core.config c.args.self.now.core.row) c.args.self.now.core.repos held (g.S.Store.faults c.args.self.now.core.part + c.args.self.now.failed) (Ask c.args.request.now) c.args.moment c.drive.result c.drive.new.core.repos behind (g.S.Store.faults c.drive.new.core.part + c.drive.new.failed))
          (λ held behind led agrees. led_steps (IsOwn c.args.self.now.core.config c.args.self.now.core.row) (Ask c.args.request.now) c.args.moment c.args.self.now.core.repos held (g.S.Store.faults c.args.self.now.core.part + c.args.self.now.failed) c.drive.result c.drive.new.core.waiting c.drive.new.core.repos behind (g.S.Store.faults c.drive.new.core.part + c.drive.new.failed) (led agrees)) c.drive.ensures.drives.answer;
      others = drives.others;
      entries = drives.entries;
      fault = drives.cause;
      unfailed = both_each (holds (objects_of c.args.pool.now.shards.items)) (holds (objects_of c.drive.new.pool.shards.items))
          (λ (held behind : Holders). AgreesRow (IsOwn c.args.self.now.core.config c.args.self.now.core.row) c.args.self.now.core.repos held → Led (IsOwn c.args.self.now.core.config c.args.self.now.core.row) (Ask c.args.request.now) c.args.moment c.args.self.now.core.repos held (g.S.Store.faults c.args.self.now.core.part + c.args.self.now.failed) (nexts.Done c.drive.result) c.drive.new.core.waiting c.drive.new.core.repos behind (g.S.Store.faults c.drive.new.core.part + c.drive.new.failed))
          (λ (held behind : Holders). AgreesRow (IsOwn c.args.self.now.core.config c.args.self.now.core.row) c.args.self.now.core.repos held → IsUnfailed c.drive.result → c.drive.new.failed ≡ c.args.self.now.failed)
          (λ held behind led agrees. unfailed_stays (IsOwn c.args.self.now.core.config c.args.self.now.core.row) (Ask c.args.request.now) c.args.moment c.args.self.now.core.repos held (g.S.Store.faults c.args.self.now.core.part) c.args.self.now.failed c.drive.result c.drive.new.core.waiting c.drive.new.core.repos behind (g.S.Store.faults c.drive.new.core.part) c.drive.new.failed (sum (faults_of c.args.pool.now.shards.items)) (sum (faults_of c.drive.new.pool.shards.items)) (led agrees) c.drive.ensures.drives.cause) c.drive.ensures.drives.answer;
      later = drives.later;
      counted = drives.counted;
      fits = drives.fits;
      beside = drives.beside;
      names = drives.names;
      tight = drives.tight;
      dedupe = drives.dedupe;
      row = drives.row;
      config = drives.config;
      opened = drives.opened;
    }
