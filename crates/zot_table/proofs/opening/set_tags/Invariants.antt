use Rattle.std.proofs.Common.{◌≡◌, map}
use Rattle.zot_layout.specs.Stands.{opened_tag}
use Rattle.zot_table.specs.Opening.{put_each}
use Rattle.zot_table.proofs.opening.set_tags.Given as goal

-- the tags so far, with those that are left, are all
abbrev pub invariant-loop-tag : goal.invariant-loop-tag
invariant-loop-tag l = record {
  set : put_each l.table.tags (map opened_tag l.tag-iterator.rest.items) ≡ put_each l.fn.table.tags (map opened_tag l.fn.tags.items);
  manifests : l.table.manifests ≡ l.fn.table.manifests;
}
