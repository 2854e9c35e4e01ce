use Rattle.std.proofs.Common.{◌∙◌, refl}
use Rattle.std.specs.Prelude.{codes}
use Rattle.zot_reply.specs.Pages.{link_rest}
use Rattle.zot_reply.proofs.PageLemmas.{link_pieces}
use Rattle.zot_reply.proofs.pages.from_number.Goals as goal

pub returns : goal.returns
returns c = λ n tag e. c.skip_text.ensures (codes "</v2/") (codes "/tags/list?n=") (link_rest n tag) refl refl (e ∙ link_pieces c.args.name.now n tag)
