use Rattle.zot_spell.proofs.FitLemmas.{has_status}
use Rattle.zot_spell.proofs.reply.spell_front.Goals as goal

pub head_of-requires-clause-status : goal.head_of-requires-clause-status
head_of-requires-clause-status c = has_status _ _ _ c.requires.fits
