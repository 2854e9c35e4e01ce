use Rattle.std.proofs.Common.{◌≡◌, ◌++◌, refl, sym, subst, ◌∙◌}
use Rattle.zot_host.specs.Parts.{HandsOut}
use Rattle.zot_outside.specs.Moments.{IsAt, StaysAt}
use Rattle.zot_commands.proofs.StorageLemmas.{opened_ends, unopened_ends}
use Rattle.zot_commands.specs.Storage.{AreHanded, EndsOver, OpensOver, PipesAt, seen}
use Rattle.zot_commands.proofs.storage.pipe_parts.Goals as goal

pub returns-in-Ok-open-clause-ends : goal.returns-in-Ok-open-clause-ends
returns-in-Ok-open-clause-ends g c = λ path given.
    let clock_is = c.clock-clock.ensures.clock ∙ c.in-Ok.ensures.moment in
    let over : AreHanded g.row.H-S.Denot (g.H.Host.files c.args.host.now) path c.args.member (g.H.Host.moment c.args.host.now) (g.H.Host.parts c.args.host.now) (g.H.Host.parts c.clock-clock.new.self) = record {
      settings = c.args.config;
      given = given;
      within = c.requires.member;
      parts = c.in-Ok.parts.rows.items;
      shards = c.in-Ok.parts.shards.items;
      handed = subst (HandsOut (g.H.Host.parts c.args.host.now) (c.in-Ok.parts.rows.items ++ c.in-Ok.parts.shards.items)) (sym c.clock-clock.ensures.parts) c.in-Ok.ensures.ok;
      moment = c.now-moment.result;
      at = subst (λ t. IsAt t c.now-moment.result) clock_is c.now-moment.ensures.told;
    } in
    let opens : OpensOver g.H.S.Store (g.H.Host.files c.args.host.now) path c.args.member (g.H.Host.moment c.args.host.now) (g.H.Host.parts c.args.host.now) (g.H.Host.parts c.clock-clock.new.self) =
    record { over = over; rows = c.in-Ok-open.cluster.rows; opened = c.in-Ok-open.ensures.opened } in
    let clock = g.H.T.Clock.moment c.now-moment.new.self in
    let after = seen (g.H.Host.parts c.pipe_cluster.new.host) (g.H.Host.kept c.pipe_cluster.new.host) (g.C.Source.left c.pipe_cluster.new.input) (g.K.Sink.held c.pipe_cluster.new.output) in
    let Silent = c.pipe_cluster.new.input ≡ c.args.input.now × c.pipe_cluster.new.output ≡ c.args.output.now in
    opened_ends (g.H.Host.files c.args.host.now) path c.args.member (g.H.Host.moment c.args.host.now)
    (seen (g.H.Host.parts c.args.host.now) (g.H.Host.kept c.args.host.now) (g.C.Source.left c.args.input.now) (g.K.Sink.held c.args.output.now)) after (g.H.Host.parts c.clock-clock.new.self) clock Silent c.pipe_cluster.result opens
    (subst (λ t. StaysAt t clock) clock_is c.now-moment.ensures.kept)
    (subst (λ k. EndsOver c.now-moment.result c.in-Ok-open.cluster.rows c.args.member clock (seen (g.H.Host.parts c.clock-clock.new.self) k (g.C.Source.left c.args.input.now) (g.K.Sink.held c.args.output.now)) after Silent c.pipe_cluster.result)
    (c.clock-clock.ensures.kept ∙ c.in-Ok.ensures.kept) (c.pipe_cluster.ensures.ends c.now-moment.result c.in-Ok-open.ensures.opened.opened c.in-Ok-open.ensures.opened.agreed))

pub returns-in-Err-open-clause-ends : goal.returns-in-Err-open-clause-ends
returns-in-Err-open-clause-ends g c = λ path given.
    let clock_is = c.clock-clock.ensures.clock ∙ c.in-Ok.ensures.moment in
    let over : AreHanded g.row.H-S.Denot (g.H.Host.files c.args.host.now) path c.args.member (g.H.Host.moment c.args.host.now) (g.H.Host.parts c.args.host.now) (g.H.Host.parts c.clock-clock.new.self) = record {
      settings = c.args.config;
      given = given;
      within = c.requires.member;
      parts = c.in-Ok.parts.rows.items;
      shards = c.in-Ok.parts.shards.items;
      handed = subst (HandsOut (g.H.Host.parts c.args.host.now) (c.in-Ok.parts.rows.items ++ c.in-Ok.parts.shards.items)) (sym c.clock-clock.ensures.parts) c.in-Ok.ensures.ok;
      moment = c.now-moment.result;
      at = subst (λ t. IsAt t c.now-moment.result) clock_is c.now-moment.ensures.told;
    } in
    let before = seen (g.H.Host.parts c.args.host.now) (g.H.Host.kept c.args.host.now) (g.C.Source.left c.args.input.now) (g.K.Sink.held c.args.output.now) in
    let after = seen (g.H.Host.parts c.clock-clock.new.self) (g.H.Host.kept c.clock-clock.new.self) (g.C.Source.left c.args.input.now) (g.K.Sink.held c.args.output.now) in
    let Silent = c.args.input.now ≡ c.args.input.now × c.args.output.now ≡ c.args.output.now in
    let unopened = c.in-Err-open.unopened in
    subst (PipesAt g.H.S.Store (g.H.Host.files c.args.host.now) path c.args.member (g.H.Host.moment c.args.host.now) before after Silent) (sym c.unopened_ending.ensures)
    (unopened_ends (g.H.Host.files c.args.host.now) path c.args.member (g.H.Host.moment c.args.host.now) before after Silent unopened.error (refl, refl) (c.clock-clock.ensures.kept ∙ c.in-Ok.ensures.kept)
    (record {
      over = over;
      error = unopened.error;
      ending_is = refl;
      parts = unopened.parts.items;
      shards = unopened.shards.items;
      back = c.in-Err-open.ensures.back;
      shards_back = c.in-Err-open.ensures.shards;
      cause = c.in-Err-open.ensures.cause;
      bad = c.in-Err-open.ensures.bad;
    }))
