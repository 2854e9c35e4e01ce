use Rattle.std.proofs.Common.{None, IsSomeAnd, subst, sym}
use Rattle.zot_outside.specs.Objects.{ChangesAt}
use Rattle.zot_outside.proofs.ObjectLemmas.{changes-remove}
use Rattle.zot_outside.proofs.stores.laws.delete_changes.Goals as goal

pub returns : goal.returns
returns c = λ old path after h. (h.0, subst (λ o. IsSomeAnd o (ChangesAt old path None)) (sym h.1) (changes-remove old path))
