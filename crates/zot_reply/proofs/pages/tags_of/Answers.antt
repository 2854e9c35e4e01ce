use Rattle.std.proofs.Common.{false, ◌∙◌, refl, sym}
use Rattle.std.specs.Prelude.{codes}
use Rattle.zot_reply.specs.Pages.{tags_text}
use Rattle.zot_reply.proofs.PageLemmas.{page_pieces}
use Rattle.zot_reply.proofs.pages.tags_of.Goals as goal

pub returns : goal.returns
returns c = λ tags all e.
    let listed = c.skip_text.ensures (codes "{\"name\":\"") (codes "\",\"tags\":[") (tags_text false tags) refl refl (e ∙ page_pieces c.args.name.now tags c.requires all) in
    sym (c.new.ensures ∙ c.in_ok-tags.ensures tags all listed)
