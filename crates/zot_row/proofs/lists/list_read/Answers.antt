use Rattle.std.proofs.Common.{◌∙◌, List, ℕ, Vec, Global, ap}
use Rattle.zot_media.specs.Referrers.{referrers_text}
use Rattle.zot_model.specs.declared.reply.Reply.TheVariants.{Referrers}
use Rattle.zot_referrers.specs.Listing.{all_pushed}
use Rattle.zot_row.proofs.LearnLemmas.{list_on}
use Rattle.zot_table.specs.Tables.{size_at}
use Rattle.zot_row.proofs.lists.list_read.Goals as goal

pub returns-in-Ok : goal.returns-in-Ok
returns-in-Ok c = λ name.
    let pushed = all_pushed (size_at c.args.repo.now.slots) c.args.repo.now.table.manifests in
    let text = c.new.ensures ∙ ap (λ (v : Vec ℕ Global). v.items) c.into_bytes.ensures.value ∙ c.in-Ok.ensures ∙ ap (referrers_text pushed c.args.digest.now) c.text_of.ensures in
    list_on name c.args.repo.now c.args.digest.now c.args.filter.now (Referrers c.new.result c.is_some.result)
    (ap (λ (t : List ℕ). Referrers t c.is_some.result) text ∙ ap (Referrers (referrers_text pushed c.args.digest.now c.args.filter.now)) c.is_some.ensures)
