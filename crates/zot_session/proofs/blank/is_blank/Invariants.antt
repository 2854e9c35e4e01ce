use Rattle.std.proofs.Common.{◌≡◌, drop}
use Rattle.zot_session.specs.Messages.{is_blank}
use Rattle.zot_session.proofs.BlankLemmas.{blank_after}
use Rattle.zot_session.proofs.blank.is_blank.Given as goal

-- the rest after the bytes so far decides
abbrev pub invariant-loop-b : goal.invariant-loop-b
invariant-loop-b l = blank_after l.cr (drop l.b-index l.bytes) ≡ is_blank l.bytes
