use Rattle.std.proofs.Common.{◌∙◌, ℕ, List, Option, sym, ap, subst}
use Rattle.zot_model.specs.Pages.{page}
use Rattle.zot_model.specs.declared.call.Call.TheVariants as calls
use Rattle.zot_model.specs.declared.reply.Reply.{Reply}
use Rattle.zot_model.specs.declared.reply.Reply.TheVariants.{Tags}
use Rattle.zot_row.proofs.ManifestLemmas.{tags_known, tags_unknown}
use Rattle.zot_row.specs.Going.{Quietly}
use Rattle.zot_row.specs.declared.turn.Turn.TheVariants as turns
use Rattle.zot_row.proofs.lists.list_tags.Goals as goal

pub returns-then-not-known : goal.returns-then-not-known
returns-then-not-known c = λ moment name.
    subst (λ (reply : Reply). Quietly (calls.Tags c.args.n c.args.last.now) moment name c.args.repo.now (turns.Done reply) c.args.repo.now) (sym c.name_unknown.ensures)
    (tags_unknown moment name c.args.repo.now c.args.n c.args.last.now (sym c.if-not-known.ensures))

pub returns-in-Ok : goal.returns-in-Ok
returns-in-Ok c = λ moment name.
    let tags = c.args.repo.now.table.tags in
    let found = page tags c.args.n c.args.last.now in
    tags_known moment name c.args.repo.now c.args.n c.args.last.now (Tags c.in-Ok.page.tags c.in-Ok.page.next c.unwrap_or.result) (sym c.if-not-known.ensures)
    (ap (λ (t : List (List ℕ)). Tags t c.in-Ok.page.next c.unwrap_or.result) (c.in-Ok.ensures.tags ∙ ap (λ last. (page tags c.args.n last).tags) c.text_of.ensures)
    ∙ ap (λ (x : Option (List ℕ)). Tags found.tags x c.unwrap_or.result) (c.in-Ok.ensures.next ∙ ap (λ last. (page tags c.args.n last).next) c.text_of.ensures)
    ∙ ap (Tags found.tags found.next) c.unwrap_or.ensures)
