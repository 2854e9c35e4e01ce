use Rattle.std.proofs.Common.{[], ◌∷◌, length, sym, ap, subst, ◌+◌, ◌≡◌, ◌∙◌}
use Rattle.zot_contents.specs.Shards.{shards as shard_count}
use Rattle.zot_host.specs.Parts.{HandsOut}
use Rattle.zot_outside.proofs.MomentLemmas.{stays_itself}
use Rattle.zot_rows.specs.Listing.{rows_of}
use Rattle.zot_rows.specs.Rows.{AreAgreedIn, AreOpenedAt}
use Rattle.zot_commands.proofs.StorageLemmas.{back_long, declined_causes, declined_counts, declined_over, kept_closed, no_fault, served_causes, still_opened}
use Rattle.zot_commands.specs.Storage.{AreKept, seen}
use Rattle.zot_commands.proofs.storage.pipe_cluster.Goals as goal

pub keep_parts-requires : goal.keep_parts-requires
keep_parts-requires g c =
    let last = c.serve_lent-served.new.cluster in
    let long : length c.close-parts.result.rows.items + length c.close-parts.result.shards.items ≡ rows_of (length c.args.cluster.config.members) + shard_count =
    back_long last.rows last.config c.args.cluster.config c.close-parts.result.rows.items c.close-parts.result.shards.items last.same c.serve_lent-served.ensures.config c.close-parts.ensures.parts c.close-parts.ensures.shards in
    c.serve_lent-served.ensures.room _ (subst (g.H.Host.room c.args.host.now) (sym long) c.requires.room)

pub returns-in-Ok-clause-ends : goal.returns-in-Ok-clause-ends
returns-in-Ok-clause-ends g c = λ moment opened agreed.
    let last = c.serve_lent-served.new.cluster.rows in
    let kept = c.in-Ok.ensures.served.has_history.kept in
    record {
      scratch = c.in-Ok.ensures.lent.0;
      lent = subst (HandsOut (g.H.Host.parts c.args.host.now) (c.in-Ok.ensures.lent.0 ∷ [])) (sym c.keep_parts.ensures.parts) c.in-Ok.ensures.lent.1;
      last = last;
      begins = g.H.T.Clock.moment c.args.clock;
      later = g.H.T.Clock.moment c.serve_lent-served.new.clock;
      stays = stays_itself (g.H.T.Clock.moment c.args.clock);
      served = c.in-Ok.ensures.served;
      of_bytes = c.in-Ok.ensures.of_bytes;
      kept = kept_closed moment last c.close-parts.result.rows.items c.close-parts.result.shards.items (g.H.Host.kept c.args.host.now) (g.H.Host.kept c.serve_lent-served.new.host) (g.H.Host.kept c.keep_parts.new.host)
          c.serve_lent-served.ensures.kept c.close-parts.ensures.parts c.close-parts.ensures.shards c.keep_parts.ensures.kept
          (c.close-parts.ensures.stand moment (still_opened moment c.args.cluster.rows last kept.opened opened) (kept.agreed agreed)) c.close-parts.ensures.tight;
    }

pub returns-in-Ok-clause-causes : goal.returns-in-Ok-clause-causes
returns-in-Ok-clause-causes g c = served_causes c.in-Ok.end _ _ _ _ c.in-Ok.ensures.causes

pub returns-in-Ok-clause-host : goal.returns-in-Ok-clause-host
returns-in-Ok-clause-host g c = no_fault c.in-Ok.end _ _ (c.keep_parts.ensures.faults ∙ c.in-Ok.ensures.cause.kept)

pub returns-clause-ends : goal.returns-clause-ends
returns-clause-ends g c = λ moment opened agreed.
    let first = c.args.cluster.rows in
    let last = c.serve_lent-served.new.cluster.rows in
    let same : last ≡ first = ap (λ k. k.rows) c.in-Err.ensures.err.0 in
    declined_over moment first c.args.member (g.H.T.Clock.moment c.args.clock) (seen (g.H.Host.parts c.args.host.now) (g.H.Host.kept c.args.host.now) (g.C.Source.left c.args.input.now) (g.K.Sink.held c.args.output.now))
    (seen (g.H.Host.parts c.keep_parts.new.host) (g.H.Host.kept c.keep_parts.new.host) (g.C.Source.left c.serve_lent-served.new.input) (g.K.Sink.held c.serve_lent-served.new.output))
    (c.serve_lent-served.new.input ≡ c.args.input.now × c.serve_lent-served.new.output ≡ c.args.output.now) c.in-Err.error c.declined.result c.declined.ensures c.in-Err.ensures.missing
    (c.in-Err.ensures.err.1, c.in-Err.ensures.err.2)
    (subst (λ rows. AreKept moment rows (g.H.Host.kept c.args.host.now) (g.H.Host.kept c.keep_parts.new.host)) same
    (kept_closed moment last c.close-parts.result.rows.items c.close-parts.result.shards.items (g.H.Host.kept c.args.host.now) (g.H.Host.kept c.serve_lent-served.new.host) (g.H.Host.kept c.keep_parts.new.host)
    c.serve_lent-served.ensures.kept c.close-parts.ensures.parts c.close-parts.ensures.shards c.keep_parts.ensures.kept
    (c.close-parts.ensures.stand moment (subst (λ rows. AreOpenedAt moment rows) (sym same) opened) (subst (λ rows. AreAgreedIn rows) (sym same) agreed)) c.close-parts.ensures.tight))

pub returns-clause-causes : goal.returns-clause-causes
returns-clause-causes g c =
    declined_causes c.in-Err.error c.declined.result _ _ _ _ c.declined.ensures (ap g.C.Source.faults c.in-Err.ensures.err.1) (ap g.K.Sink.faults c.in-Err.ensures.err.2)

pub returns-clause-host : goal.returns-clause-host
returns-clause-host g c =
    declined_counts c.in-Err.error c.declined.result (g.H.Host.faults c.args.host.now) (g.H.Host.faults c.serve_lent-served.new.host) (g.H.Host.faults c.keep_parts.new.host) c.declined.ensures c.in-Err.ensures.missing
    c.keep_parts.ensures.faults c.in-Err.ensures.cause
