use Rattle.std.proofs.Common.{◌∙◌, sym, ap}
use Rattle.std.specs.Prelude.{option_copied}
use Rattle.zot_contents.proofs.KeptLemmas.{found_none, keep_all, set_kept, set_only_so}
use Rattle.zot_contents.proofs.digests.Digests.keep.Goals as goal

pub returns-clause-kept : goal.returns-clause-kept
returns-clause-kept c = set_kept c.set.result c.args.self.now c.set.new.self c.args.digest.now c.new.result c.set.ensures.ok

pub returns-clause-same : goal.returns-clause-same
returns-clause-same c =
    keep_all c.set.result c.args.self.now c.set.new.self c.args.digest.now c.new.result
    (sym c.get.ensures ∙ ap option_copied (found_none c.get.result (sym c.is_some.ensures ∙ c.if-is_some.false))) c.new.ensures c.set.ensures.ok c.set.ensures.err

pub returns-clause-only : goal.returns-clause-only
returns-clause-only c = set_only_so c.set.result c.args.self.now c.set.new.self c.args.digest.now c.new.result c.set.ensures.ok c.set.ensures.err
