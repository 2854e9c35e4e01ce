use Rattle.std.proofs.Common.{ℕ, not, rules, arith, ap, ◌∙◌}
use Rattle.std.specs.FinMap as map
use Rattle.std.proofs.lemmas.Map.Made.{filter_same_pairs}
use Rattle.zot_maps.proofs.Maps.{get-filtered, len-sorted, number_order}
use Rattle.zot_uploads.proofs.TableLemmas.{young-filter}
use Rattle.zot_model.specs.Ages.{is_aged}
use Rattle.zot_model.specs.Uploads.{OpenUpload, if_young}
use Rattle.zot_uploads.proofs.upload_map.UploadMap.remove_aged.Goals as goal

pub returns-clause-young : goal.returns-clause-young
returns-clause-young c = λ id.
    get-filtered number_order (λ (u : OpenUpload). not (is_aged c.args.moment c.args.delay u.start)) c.self.inside.tree.entries c.retain.new.self.entries id c.retain.ensures.was_ordered
    (filter_same_pairs _ (λ (e : ℕ × OpenUpload). not (is_aged c.args.moment c.args.delay e.1.start)) _ (λ k v b w f' t. search rules) _ _ c.retain.ensures.filtered)
    ∙ young-filter c.args.moment c.args.delay _ ∙ ap (λ m. if_young c.args.moment c.args.delay (map.get m id)) c.self.view_is

pub returns-clause-bound : goal.returns-clause-bound
returns-clause-bound c =
    omega (
      arith,
      ap (λ m. map.len m) c.self.view_is,
      len-sorted number_order c.self.inside.tree.entries c.retain.ensures.was_ordered,
      len-sorted number_order c.retain.new.self.entries c.retain.ensures.ordered,
      c.retain.ensures.bound,
    )
