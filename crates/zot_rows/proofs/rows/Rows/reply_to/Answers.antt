use Rattle.std.proofs.Common.{◌<◌, ℕ, length, map, set, sym, ap, subst, ◌∙◌}
use Rattle.std.specs.Prelude.{IfSome, sum}
use Rattle.zot_repo.specs.RowGoing.{IsOwn}
use Rattle.zot_pool.specs.Pools.{ChangesOnly, faults_of, holds, objects_of}
use Rattle.zot_pool.proofs.PoolLemmas.{set_beside}
use Rattle.zot_rows.proofs.AnswerLemmas.{agreed_then, answered, counts, faulted, opened_same, still_rows}
use Rattle.zot_rows.proofs.SeatLemmas.{owners_enter}
use Rattle.zot_rows.specs.Rows.{HasRowFault, row_by}
use Rattle.zot_siphash.specs.SipHash.{siphash}
use Rattle.zot_rows.proofs.rows.Rows.reply_to.Goals as goal

pub invariant_of-self : goal.invariant_of-self
invariant_of-self g c =
    let self = c.args.self.now in
    let rows = self.rows.items in
    let name = c.in-Some.name in
    let here = ap (row_by self.config) (sym c.as_slice.ensures.value) ∙ sym c.row_of-number.ensures in
    let within = subst (λ n. n < length rows) here (subst (λ m. row_by self.config name < m) (sym self.numbered.many) (c.owners_and_rows.ensures.rows (siphash self.config.key name) self.config.members self.members.0)) in
    record { members = self.members; numbered = still_rows self.config rows c.row_of-number.result c.index_mut-row.result.now c.reply_to.new.self within c.index_mut-row.ensures.value self.numbered c.reply_to.ensures.row c.reply_to.ensures.config; roomy = self.roomy }

pub returns-clause-answers : goal.returns-clause-answers
returns-clause-answers g c = λ agreed.
    let self = c.args.self.now in
    let rows = self.rows.items in
    let name = c.in-Some.name in
    let here = ap (row_by self.config) (sym c.as_slice.ensures.value) ∙ sym c.row_of-number.ensures in
    let within = subst (λ n. n < length rows) here (subst (λ m. row_by self.config name < m) (sym self.numbered.many) (c.owners_and_rows.ensures.rows (siphash self.config.key name) self.config.members self.members.0)) in
    let own : IsOwn self.config c.row_of-number.result name = record { named = c.as_slice.ensures.name; placed = here } in
    answered self.config rows c.row_of-number.result c.index_mut-row.result.now c.reply_to.new.self within c.index_mut-row.ensures.value self.numbered c.reply_to.ensures.row c.reply_to.ensures.config name own c.args.request.now c.in-Some.is c.args.moment c.reply_to.result
    (holds (objects_of self.pool.shards.items)) (holds (objects_of c.reply_to.new.pool.shards.items)) c.reply_to.ensures.steps c.reply_to.ensures.others agreed

pub returns-clause-agreed : goal.returns-clause-agreed
returns-clause-agreed g c = λ agreed.
    let self = c.args.self.now in
    let rows = self.rows.items in
    let name = c.in-Some.name in
    let here = ap (row_by self.config) (sym c.as_slice.ensures.value) ∙ sym c.row_of-number.ensures in
    let within = subst (λ n. n < length rows) here (subst (λ m. row_by self.config name < m) (sym self.numbered.many) (c.owners_and_rows.ensures.rows (siphash self.config.key name) self.config.members self.members.0)) in
    let own : IsOwn self.config c.row_of-number.result name = record { named = c.as_slice.ensures.name; placed = here } in
    agreed_then self.config rows c.row_of-number.result c.index_mut-row.result.now c.reply_to.new.self within c.index_mut-row.ensures.value self.numbered c.reply_to.ensures.row c.reply_to.ensures.config name own c.args.request.now c.in-Some.is c.args.moment c.reply_to.result
    (holds (objects_of self.pool.shards.items)) (holds (objects_of c.reply_to.new.pool.shards.items)) c.reply_to.ensures.steps c.reply_to.ensures.others agreed

pub returns-clause-cause : goal.returns-clause-cause
returns-clause-cause g c =
    let self = c.args.self.now in
    let rows = self.rows.items in
    let name = c.in-Some.name in
    let here = ap (row_by self.config) (sym c.as_slice.ensures.value) ∙ sym c.row_of-number.ensures in
    let within = subst (λ n. n < length rows) here (subst (λ m. row_by self.config name < m) (sym self.numbered.many) (c.owners_and_rows.ensures.rows (siphash self.config.key name) self.config.members self.members.0)) in
    counts self.config rows c.row_of-number.result c.index_mut-row.result.now c.reply_to.new.self within c.index_mut-row.ensures.value self.numbered c.reply_to.ensures.row c.reply_to.ensures.config
    (sum (faults_of self.pool.shards.items)) (sum (faults_of c.reply_to.new.pool.shards.items)) c.reply_to.ensures.later c.reply_to.ensures.counted

pub returns-clause-opened : goal.returns-clause-opened
returns-clause-opened g c =
    let self = c.args.self.now in
    let rows = self.rows.items in
    let name = c.in-Some.name in
    let here = ap (row_by self.config) (sym c.as_slice.ensures.value) ∙ sym c.row_of-number.ensures in
    let within = subst (λ n. n < length rows) here (subst (λ m. row_by self.config name < m) (sym self.numbered.many) (c.owners_and_rows.ensures.rows (siphash self.config.key name) self.config.members self.members.0)) in
    opened_same self.config rows c.row_of-number.result c.index_mut-row.result.now c.reply_to.new.self within c.index_mut-row.ensures.value self.numbered c.reply_to.ensures.row c.reply_to.ensures.config c.reply_to.ensures.opened

pub returns-clause-seats : goal.returns-clause-seats
returns-clause-seats g c =
    let self = c.args.self.now in
    owners_enter self.config c.in-Some.name c.args.request.now.name (holds (objects_of self.pool.shards.items)) (holds (objects_of c.reply_to.new.pool.shards.items)) c.in-Some.is c.reply_to.ensures.entries

pub returns-clause-fault : goal.returns-clause-fault
returns-clause-fault g c =
    let self = c.args.self.now in
    let rows = self.rows.items in
    let name = c.in-Some.name in
    let here = ap (row_by self.config) (sym c.as_slice.ensures.value) ∙ sym c.row_of-number.ensures in
    let within = subst (λ n. n < length rows) here (subst (λ m. row_by self.config name < m) (sym self.numbered.many) (c.owners_and_rows.ensures.rows (siphash self.config.key name) self.config.members self.members.0)) in
    let new = set rows c.row_of-number.result c.reply_to.new.self in
    let before = map (λ r. g.S.Store.faults r.core.part) rows in
    let after = map (λ r. g.S.Store.faults r.core.part) new in
    let pooled = sum (faults_of self.pool.shards.items) in
    let later = sum (faults_of c.reply_to.new.pool.shards.items) in
    subst (λ o. IfSome o (λ n. HasRowFault (row_by self.config n) c.reply_to.result before after pooled later)) (sym c.in-Some.is)
    (subst (λ (r : ℕ). HasRowFault r c.reply_to.result before after pooled later) (sym here)
    (faulted self.config rows c.row_of-number.result c.index_mut-row.result.now c.reply_to.new.self within c.index_mut-row.ensures.value self.numbered c.reply_to.ensures.row c.reply_to.ensures.config c.reply_to.result pooled later c.reply_to.ensures.fault))

pub returns-clause-beside : goal.returns-clause-beside
returns-clause-beside g c =
    let self = c.args.self.now in
    let rows = self.rows.items in
    let name = c.in-Some.name in
    let here = ap (row_by self.config) (sym c.as_slice.ensures.value) ∙ sym c.row_of-number.ensures in
    let new = set rows c.row_of-number.result c.reply_to.new.self in
    subst (λ o. IfSome o (λ n. ChangesOnly (row_by self.config n) rows new)) (sym c.in-Some.is)
    (subst (λ (r : ℕ). ChangesOnly r rows new) (sym here) (set_beside rows c.row_of-number.result c.reply_to.new.self))
