-- Parts that are right or wrong, one after another.
use Rattle.std.proofs.Common.{ap}
use Rattle.zot_config.specs.declared.config_error.ConfigError.{ConfigError}
use Rattle.zot_config.specs.declared.config_error.ConfigError.TheVariants.{Field, NoMemory}
use Rattle.zot_config.specs.Wrong.{Read, Refuses, after}

-- what is wrong before is wrong in the whole
pub after_refused : {A B : Type 0} (read : Read A) (next : A → Read B) (e : ConfigError) → Refuses read e → Refuses (after read next) e
after_refused read next (Field field found) h = ap (λ r. after r next) h
after_refused read next NoMemory h = tt
