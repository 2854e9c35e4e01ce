use Rattle.std.proofs.Common.{◌∙◌, sym, ap, Option}
use Rattle.std.specs.Prelude.{option_copied, unwrap_or}
use Rattle.std.specs.FinMap as map
use Rattle.zot_links.specs.Meaning.{Links}
use Rattle.zot_contents.proofs.KeptLemmas.{removed_all, removed_only}
use Rattle.zot_contents.proofs.digests.Digests.tidy.Goals as goal

pub returns-in-Some : goal.returns-in-Some
returns-in-Some c = record {
  same =
      removed_all c.args.self.now c.remove.new.self c.args.digest.now
      (ap (λ (o : Option Links). unwrap_or o map.empty) (sym c.get.ensures ∙ ap option_copied c.in-Some.is) ∙ c.is_empty.ensures.0 c.if-is_empty.true) c.remove.ensures;
  only = removed_only c.args.self.now c.remove.new.self c.args.digest.now c.remove.ensures;
}
