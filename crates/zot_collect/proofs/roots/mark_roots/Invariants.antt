use Rattle.std.proofs.Common.{◌≡◌, ◌<◌, ℕ, true, slice_get, Some}
use Rattle.std.specs.BTreeSet.{contains}
use Rattle.zot_collect.specs.Marks.{Grows, HoldsThere, IsMarked}
use Rattle.zot_model.specs.Retire.{is_root}
use Rattle.zot_model.specs.declared.manifest_row.ManifestRow.{ManifestRow}
use Rattle.zot_digest.specs.ByteMap.{byte_cmp}
use Rattle.zot_collect.proofs.roots.mark_roots.Given as goal

abbrev pub invariant-loop-place : goal.invariant-loop-place
invariant-loop-place l =
    let root = is_root (contains byte_cmp l.tagged) l.moment l.delay in
    record {
      grows : Grows (HoldsThere (λ row. root row ≡ true) l.manifests) l.fn.state l.state;
      all : (place : ℕ) (row : ManifestRow) → place < l.place → slice_get l.manifests place ≡ Some row → root row ≡ true → IsMarked l.state.marks.items place;
    }
