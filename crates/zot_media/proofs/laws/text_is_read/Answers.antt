use Rattle.zot_media.proofs.MediaLemmas.{named_text}
use Rattle.zot_media.proofs.laws.text_is_read.Goals as goal

pub returns : goal.returns
returns c = named_text
