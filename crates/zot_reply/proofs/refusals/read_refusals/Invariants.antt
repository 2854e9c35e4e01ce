use Rattle.std.proofs.Common.{drop}
use Rattle.zot_model.specs.Codes.{HasDetail}
use Rattle.zot_model.specs.declared.code.Code.{Code}
use Rattle.zot_model.specs.declared.detail.Detail.{Detail}
use Rattle.zot_model.specs.Fits.{IsAmong}
use Rattle.zot_model.specs.Refusals.{refusal_with}
use Rattle.zot_reply.specs.Reading.{IsWanted, seen_of}
use Rattle.zot_reply.proofs.refusals.read_refusals.Given as goal

abbrev pub invariant-loop-code : goal.invariant-loop-code
invariant-loop-code l =
    (code : Code) (detail : Detail) → IsAmong l.codes code → HasDetail code detail → IsWanted l.request (refusal_with code detail) l.bytes (seen_of l.split) → IsAmong (drop l.code-index l.codes) code
