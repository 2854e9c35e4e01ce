use Rattle.std.proofs.Common.{◌++◌, ◌∷◌, refl, arith}
use Rattle.std.specs.Fmt.{decimal}
use Rattle.std.specs.Prelude.{codes}
use Rattle.zot_reply.proofs.ReplyLemmas.{if_ok}
use Rattle.zot_reply.proofs.TextLemmas.{decimal_free, tag_free}
use Rattle.zot_reply.proofs.pages.link_tag.Goals as goal

pub returns : goal.returns
returns c = if_ok c.tag_of.result c.tag_of.ensures (λ found read. λ n tag is e.
    let last = c.after_first.ensures (decimal n) (codes "last" ++ (61 ∷ (tag ++ (62 ∷ codes "; rel=\"next\"")))) (decimal_free 38 n (omega arith)) (c.from_number.ensures n tag e) in
    let from_tag = c.skip-from_tag.ensures (codes "last=") (tag ++ (62 ∷ codes "; rel=\"next\"")) refl last in
    read tag is (c.up_to.ensures tag (codes "; rel=\"next\"") (tag_free 62 tag refl is) from_tag))
