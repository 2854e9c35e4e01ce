use Rattle.std.proofs.Common.{IfSome, ◌≡◌, inl, string_bytes, subst, sym}
use Rattle.std.specs.declared.cmp.Ordering.TheVariants.{Less}
use Rattle.zot_folder.proofs.FolderLemmas.{less_not_greater}
use Rattle.zot_outside.specs.Objects.{path_cmp}
use Rattle.zot_folder.proofs.walk.Walk.found.Goals as goal

pub returns-in-Some : goal.returns-in-Some
returns-in-Some c = record {
  walk = λ objects walk.
      let less = subst (λ f. IfSome f (λ path. path_cmp (string_bytes c.args.self.now.since) (string_bytes path) ≡ Less)) c.in-Some.is c.requires in
      c.reach.ensures.walk objects (inl (less_not_greater (string_bytes c.args.self.now.since) c.as_str.result.now (subst (λ p. path_cmp (string_bytes c.args.self.now.since) p ≡ Less) (sym c.as_str.ensures.value) less))) walk;
}
