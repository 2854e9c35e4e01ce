use Rattle.std.proofs.Common.{◌≡◌, inl, ◌∙◌, rules}
use Rattle.zot_route.specs.Path.{segments_of}
use Rattle.zot_route.proofs.RouteLemmas.{no_path}
use Rattle.zot_route.proofs.message.outcome.Goals as goal

pub returns-in-None : goal.returns-in-None
returns-in-None c =
    let same : c.in-Some.segments.items ≡ segments_of c.args.head.now.target = search rules in
    inl (no_path c.args.head.now.target c.as_slice.result.now c.read.result (c.as_slice.ensures.value ∙ same) c.read.ensures c.in-None.is, cc (c.unsupported_path-in-None.ensures))
