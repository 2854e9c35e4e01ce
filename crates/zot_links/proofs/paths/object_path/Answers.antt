use Rattle.std.proofs.Common.{◌++◌, ◌∙◌, ap}
use Rattle.hex.specs.Hex.{encode_lower}
use Rattle.zot_links.proofs.LineLemmas.{on_ok}
use Rattle.zot_links.specs.Meaning.{object_path}
use Rattle.zot_links.proofs.paths.object_path.Goals as goal

pub returns-clause-path : goal.returns-clause-path
unfolding object_path
returns-clause-path c = on_ok c.with_digits.result _ _ (λ path h. h ∙ ap (λ f. f ++ encode_lower c.args.digest.now) c.in_ok-folder.ensures) c.with_digits.ensures.path
