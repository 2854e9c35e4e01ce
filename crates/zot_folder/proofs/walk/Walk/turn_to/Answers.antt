use Rattle.std.proofs.Common.{rules, ◌≢◌, inl, string_bytes}
use Rattle.std.specs.declared.cmp.Ordering.TheVariants.{Less}
use Rattle.zot_folder.proofs.SearchLemmas.{not_less_le}
use Rattle.zot_outside.specs.Objects.{path_cmp}
use Rattle.zot_folder.proofs.walk.Walk.turn_to.Goals as goal

pub returns-else-is_less-clause-ready : goal.returns-else-is_less-clause-ready
returns-else-is_less-clause-ready c =
    let late : path_cmp c.args.after.now (string_bytes c.args.self.now.since) ≢ Less = search rules in
    inl (not_less_le c.args.after.now (string_bytes c.args.self.now.since) late)
