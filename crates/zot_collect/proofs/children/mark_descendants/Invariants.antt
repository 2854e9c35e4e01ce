use Rattle.std.proofs.Common.{Bool}
use Rattle.zot_collect.proofs.WalkLemmas.{IsSpreading, IsUnderway}
use Rattle.zot_collect.specs.Marks.{AreRoots}
use Rattle.zot_model.specs.declared.manifest_row.ManifestRow.{ManifestRow}
use Rattle.zot_collect.proofs.children.mark_descendants.Given as goal

abbrev pub invariant-loop : goal.invariant-loop
invariant-loop l = record {
  underway : IsUnderway l.manifests l.state.marks.items l.state.waiting.items l.counter;
  spreading : (root : ManifestRow → Bool) → AreRoots root l.manifests l.fn.state.marks.items → IsSpreading root l.manifests l.state.marks.items l.state.waiting.items;
}
