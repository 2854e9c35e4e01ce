use Rattle.std.proofs.Common.{◌≡◌, ap, refl, sym, ◌∙◌}
use Rattle.std.specs.BTreeMap.{is_at}
use Rattle.std.specs.Map.{lookup}
use Rattle.zot_digest.specs.ByteMap.{byte_cmp}
use Rattle.zot_layout.proofs.GroupLemmas.{one_more, refs_in}
use Rattle.zot_layout.proofs.groups.add_tag.Goals.{in-None, in-Some}
use Rattle.zot_layout.proofs.groups.add_tag.Goals as goal

pub returns : goal.returns
returns c =
    let taken : refs_in (lookup (is_at (byte_cmp c.args.tag.now.digest)) c.args.groups.now.entries) ≡ c.match-remove.group.items = elim c.match-remove.branch [
      | in-Some w ↦ ap refs_in (sym w.in-Some.ensures.value) ∙ ap (λ group. group.items) (sym w.group-is)
      | in-None w ↦ ap refs_in (sym w.in-None.ensures.value) ∙ sym (ap (λ group. group.items) w.group-is ∙ w.new-group.ensures.items)
    ] in
    λ tags all digest.
    one_more tags c.args.tag.now c.args.groups.now.entries c.remove.new.self.entries c.insert.new.self.entries c.push.new.self all c.remove.ensures.updates.0
    c.in_ok-insert.ensures.updates.0 c.args.tag c.match-remove.group.items refl taken c.in_ok-push.ensures.items digest
