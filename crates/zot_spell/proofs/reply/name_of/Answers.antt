use Rattle.std.proofs.Common.{sym, subst}
use Rattle.std.specs.List.{AllPass}
use Rattle.zot_names.proofs.ByteLemmas.{name_bytes}
use Rattle.zot_names.specs.Name.{is_name_byte}
use Rattle.zot_spell.proofs.reply.name_of.Goals as goal

pub returns-in-Some-name-clause-bytes : goal.returns-in-Some-name-clause-bytes
returns-in-Some-name-clause-bytes c = subst (AllPass is_name_byte) (sym c.as_str.ensures.value) (name_bytes _ c.as_str.ensures.name)
