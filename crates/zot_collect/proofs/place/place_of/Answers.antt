use Rattle.std.proofs.Common.{rules}
use Rattle.std.proofs.lemmas.List.Sorted.{answers_always}
use Rattle.zot_collect.proofs.PlaceLemmas.{found_place, no_place}
use Rattle.zot_model.specs.declared.manifest_row.ManifestRow.{ManifestRow}
use Rattle.zot_collect.proofs.place.place_of.Goals as goal

pub returns-in-Ok-clause-found : goal.returns-in-Ok-clause-found
returns-in-Ok-clause-found c =
    found_place c.args.manifests.now c.args.digest.now c.in-Ok.place c.in-Ok.ensures.bound
    (c.in-Ok.ensures.position (λ (row : ManifestRow). row.digest) (answers_always _ _ _ (λ f a r g called. search rules)))

pub returns-in-Err-clause-none : goal.returns-in-Err-clause-none
returns-in-Err-clause-none c =
    no_place c.args.manifests.now c.args.digest.now c.in-Err.field-0 c.requires
    (c.in-Err.ensures.position (λ (row : ManifestRow). row.digest) (answers_always _ _ _ (λ f a r g called. search rules)))
