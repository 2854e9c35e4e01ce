use Rattle.zot_cluster.proofs.OpeningLemmas.{opened_by}
use Rattle.zot_cluster.proofs.cluster.Cluster.open.Goals as goal

pub returns-clause-opened : goal.returns-clause-opened
returns-clause-opened g c =
    let found = c.in_ok-rows.ensures in
    opened_by c.args.config c.member_count.result c.key.result.now c.dedupe-dedupe.result c.args.moment c.args.parts.rows.items c.args.parts.shards.items c.in_ok-rows.rows c.member_count.ensures.value c.key.ensures c.dedupe-dedupe.ensures
    (record {
      config_is = found.config;
      agreed = found.agreed;
      failed = found.failed;
      opened = found.opened;
      state = found.state;
      objects = found.objects;
      pooled = found.pooled;
      quiet = found.quiet;
      still = found.still;
      whole = found.whole;
      meaning = found.meaning;
      tight = found.tight;
      dedupe_is = found.dedupe;
    })
