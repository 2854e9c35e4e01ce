use Rattle.std.proofs.Common.{◌≡◌, true, false, string_bytes, sym, ◌∙◌}
use Rattle.serde_json.proofs.Views.{Entry}
use Rattle.zot_config.specs.Unknown.{is_known}
use Rattle.zot_config.proofs.WalkLemmas.{known_here, unknown_here}
use Rattle.zot_config.proofs.unknown.first_unknown.Goals as goal

pub returns-then-not-is_known : goal.returns-then-not-is_known
returns-then-not-is_known c =
    let e : Entry = (c.in-Some.name.now, c.in-Some.member.now) in
    let known = c.args.known.now in
    let other : is_known known (string_bytes e.0) ≡ false = cc in
    sym (c.loop-name.invariant ∙ unknown_here known _ c.next.new.self e c.in-Some.ensures.steps other)

pub loop-name-preserved : goal.loop-name-preserved
loop-name-preserved c =
    let e : Entry = (c.in-Some.name.now, c.in-Some.member.now) in
    let known = c.args.known.now in
    let same : is_known known (string_bytes e.0) ≡ true = cc in
    c.loop-name.invariant ∙ known_here known _ c.next.new.self e c.in-Some.ensures.steps same
