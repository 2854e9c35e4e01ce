use Rattle.zot_media.proofs.MediaLemmas.{text_named}
use Rattle.zot_media.proofs.laws.only_texts_are_read.Goals as goal

pub returns : goal.returns
returns c = text_named
