use Rattle.std.proofs.Common.{refl, subst, sym}
use Rattle.zot_names.specs.Name.{IsName}
use Rattle.zot_links.proofs.NameLemmas.{name_fails, name_passes, name_text}
use Rattle.zot_links.proofs.reading.read_name.Goals as goal

pub returns-in_default-clause-bad : goal.returns-in_default-clause-bad
returns-in_default-clause-bad c = λ _. name_fails c.args.bytes.now (λ is. c.in_default.ensures.cases.0 (name_text c.args.bytes.now is))

pub returns-in-Ok-read-clause-read : goal.returns-in-Ok-read-clause-read
returns-in-Ok-read-clause-read c = name_passes c.args.bytes.now (subst IsName c.in-Ok.ensures.cases.0 c.in-Ok-read.ensures.named)

pub returns-in-Err-Bad-clause-bad : goal.returns-in-Err-Bad-clause-bad
returns-in-Err-Bad-clause-bad c =
    let bad = rw c.in-Err-Bad.field-0-is at c.in-Err-Bad.ensures.bad in
    λ _. name_fails c.args.bytes.now (λ is. bad.0 refl (subst IsName (sym c.in-Ok.ensures.cases.0) is))
