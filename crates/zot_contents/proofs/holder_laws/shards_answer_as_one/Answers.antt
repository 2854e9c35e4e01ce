use Rattle.zot_contents.proofs.HolderLemmas.{answer_of_all}
use Rattle.zot_contents.proofs.holder_laws.shards_answer_as_one.Goals as goal

pub returns : goal.returns
returns c number shard later all after before since call reply covers then_covers others own answer =
    answer_of_all number shard later all after before since call reply covers then_covers others own answer
