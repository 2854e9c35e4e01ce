use Rattle.std.proofs.Common.{◌≡◌, map, drop}
use Rattle.zot_table.specs.Opening.{opened_kept, put_each}
use Rattle.zot_table.proofs.opening.put_manifests.Given as goal

-- the manifests so far, with those that are left, are all
abbrev pub invariant-loop-manifest : goal.invariant-loop-manifest
invariant-loop-manifest l = record {
  put : put_each l.table.manifests (map opened_kept (drop l.manifest-index l.manifests)) ≡ put_each l.fn.table.manifests (map opened_kept l.manifests);
  tags : l.table.tags ≡ l.fn.table.tags;
}
