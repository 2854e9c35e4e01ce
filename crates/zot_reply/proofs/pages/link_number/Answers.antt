use Rattle.std.proofs.Common.{◌++◌, ◌∷◌, arith}
use Rattle.std.specs.Fmt.{decimal}
use Rattle.std.specs.Prelude.{codes}
use Rattle.zot_reply.proofs.TextLemmas.{decimal_free}
use Rattle.zot_reply.proofs.pages.link_number.Goals as goal

pub returns : goal.returns
returns c = λ n tag is e.
    c.number_of.ensures n is (c.up_to.ensures (decimal n) (codes "last" ++ (61 ∷ (tag ++ (62 ∷ codes "; rel=\"next\"")))) (decimal_free 38 n (omega arith)) (c.from_number.ensures n tag e))
