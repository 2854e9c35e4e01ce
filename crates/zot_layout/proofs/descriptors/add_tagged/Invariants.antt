use Rattle.std.proofs.Common.{◌≡◌, ◌++◌, drop, map}
use Rattle.serde_json.specs.View.{view}
use Rattle.zot_layout.specs.Text.{tagged}
use Rattle.zot_layout.proofs.descriptors.add_tagged.Given as goal

-- the descriptors so far, with those of the tags that are left, are all
abbrev pub invariant-loop-tag : goal.invariant-loop-tag
invariant-loop-tag l =
    map view l.initial.descriptors.items ++ map (λ tag. tagged l.manifest tag.now) l.tags
    ≡ map view l.descriptors.items ++ map (λ tag. tagged l.manifest tag.now) (drop l.tag-index l.tags)
