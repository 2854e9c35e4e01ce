use Rattle.std.proofs.Common.{◌++◌, Some, IsSomeAnd, subst, sym}
use Rattle.zot_outside.specs.Objects.{ChangesAt, bytes_at}
use Rattle.zot_outside.proofs.ObjectLemmas.{changes-put}
use Rattle.zot_outside.proofs.stores.laws.append_changes.Goals as goal

pub returns : goal.returns
returns c = λ old path bytes after h. subst (λ o. IsSomeAnd o (ChangesAt old path (Some (bytes_at old path ++ bytes)))) (sym h) (changes-put old path (bytes_at old path ++ bytes))
