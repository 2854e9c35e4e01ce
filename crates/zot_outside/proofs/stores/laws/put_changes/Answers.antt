use Rattle.std.proofs.Common.{Some, IsSomeAnd, subst, sym}
use Rattle.zot_outside.specs.Objects.{ChangesAt}
use Rattle.zot_outside.proofs.ObjectLemmas.{changes-put}
use Rattle.zot_outside.proofs.stores.laws.put_changes.Goals as goal

pub returns : goal.returns
returns c = λ old path bytes after h. subst (λ o. IsSomeAnd o (ChangesAt old path (Some bytes))) (sym h) (changes-put old path bytes)
