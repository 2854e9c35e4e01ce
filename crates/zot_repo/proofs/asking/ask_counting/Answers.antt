use Rattle.std.proofs.Common.{slice_index, sym, ◌∙◌}
use Rattle.zot_contents.specs.Pool.{Holders, MayAnswer}
use Rattle.zot_pool.specs.Pools.{faults_of, holds, number_in, objects_of}
use Rattle.zot_repo.proofs.AskLemmas.{answers_asked, asked_none, both_each, for_digest, for_name, others_asked, rose_whole}
use Rattle.zot_repo.proofs.SeatLemmas.{enters_one}
use Rattle.zot_repo.specs.Seats.{EntersPool}
use Rattle.zot_repo.specs.Shards.{AnswersAsked, KeepsOtherNames}
use Rattle.zot_repo.proofs.asking.ask_counting.Goals as goal

pub call-answered-requires : goal.call-answered-requires
call-answered-requires g c = for_digest c.args.name.now c.args.asked.now (sym c.is_for.ensures.value ∙ c.if-is_for.true)

pub returns-then-is_for : goal.returns-then-is_for
returns-then-is_for g c =
    let name = c.args.name.now in
    let asked = c.args.asked.now in
    let old = c.args.pool.now.shards.items in
    let new = c.call-answered.new.self.shards.items in
    let answered = c.call-answered.result in
    let answer = both_each (holds (objects_of old)) (holds (objects_of new))
    (λ (held behind : Holders). MayAnswer (number_in asked) (record { held = held; faults = slice_index (faults_of old) (number_in asked) }) asked answered (record { held = behind; faults = slice_index (faults_of new) (number_in asked) }))
    (AnswersAsked asked answered)
    (λ held behind h. answers_asked (number_in asked) (slice_index (faults_of old) (number_in asked)) (slice_index (faults_of new) (number_in asked)) held behind asked answered c.is_for.ensures.digest h)
    c.call-answered.ensures.answer in
    record {
      answer = answer;
      others = both_each (holds (objects_of old)) (holds (objects_of new)) (AnswersAsked asked answered) (KeepsOtherNames name)
          (λ held behind h. others_asked name asked answered held behind c.is_for.ensures.name (sym c.is_for.ensures.value ∙ c.if-is_for.true) h) answer;
      entries = both_each (holds (objects_of old)) (holds (objects_of new))
          (λ (held behind : Holders). MayAnswer (number_in asked) (record { held = held; faults = slice_index (faults_of old) (number_in asked) }) asked answered (record { held = behind; faults = slice_index (faults_of new) (number_in asked) }))
          (EntersPool name)
          (λ held behind h. enters_one name (number_in asked) (slice_index (faults_of old) (number_in asked)) (slice_index (faults_of new) (number_in asked)) held behind asked answered
          c.is_for.ensures.name (for_name name asked (sym c.is_for.ensures.value ∙ c.if-is_for.true)) c.is_for.ensures.digest h)
          c.call-answered.ensures.answer;
      counts = c.count.ensures;
      rose = rose_whole (number_in asked) (faults_of old) (faults_of new) answered c.call-answered.ensures.cause;
      later = c.call-answered.ensures.cause.whole;
      tight = c.call-answered.ensures.tight;
      dedupe = c.call-answered.ensures.dedupe;
    }

pub returns-else-is_for : goal.returns-else-is_for
returns-else-is_for g c = asked_none c.args.name.now c.args.pool.now.shards.items c.args.failed.now c.args.asked.now
