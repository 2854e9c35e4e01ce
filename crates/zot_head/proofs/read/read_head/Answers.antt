use Rattle.std.proofs.Common.{[], sym, subst, refl, IsTrue}
use Rattle.std.proofs.lemmas.Result.{IfOk-weaker}
use Rattle.httparse.specs.Grammar.{RequestHead}
use Rattle.httparse.specs.Spans.{IsRequestAt}
use Rattle.zot_head.specs.Front.{IsHeadOf, IsHead}
use Rattle.zot_head.proofs.ReadLemmas.{bad-too_long, bad-no_memory, too_long-bad, too_long-no_memory, not_crowded, whole_request, is_head, is_no_head, no_head, no_head-short, no_head-overflow}
use Rattle.zot_head.proofs.read.read_head.Goals as goal

pub returns-then-is_crowded : goal.returns-then-is_crowded
returns-then-is_crowded c =
    let crowded = c.is_crowded.ensures.0 (subst IsTrue (sym c.if-is_crowded.true) refl) in
    record { head = tt; bad = λ e. absurd (too_long-bad e); too_long = (λ e. crowded, λ more. refl); no_memory = λ e. absurd (too_long-no_memory e) }

pub returns-then-request-bytes : goal.returns-then-request-bytes
returns-then-request-bytes c =
    let few = not_crowded c.args.bytes.now c.is_crowded.result c.is_crowded.ensures c.if-is_crowded.false in
    let found = rw c.in-Ok-Complete.field-0-is at c.in-Ok-Complete.ensures.complete in
    record {
      head = tt;
      bad = λ e. no_head-short c.args.bytes.now c.parse_request.new.headers c.in-Ok-Complete.request found.0 few c.if-request-bytes.true found.1;
      too_long = (λ e. absurd (bad-too_long e), λ crowded. absurd (few crowded));
      no_memory = λ e. absurd (bad-no_memory e);
    }

pub returns-else-request-bytes : goal.returns-else-request-bytes
returns-else-request-bytes c =
    let few = not_crowded c.args.bytes.now c.is_crowded.result c.is_crowded.ensures c.if-is_crowded.false in
    let found = rw c.in-Ok-Complete.field-0-is at c.in-Ok-Complete.ensures.complete in
    record {
      head = IfOk-weaker c.head_of.result
          (λ head. (h : RequestHead) × IsRequestAt c.args.bytes.now c.parse_request.new.headers c.in-Ok-Complete.request h × IsHeadOf h head)
          (IsHead c.args.bytes.now)
          (λ head read. is_head c.args.bytes.now c.parse_request.new.headers c.in-Ok-Complete.request read.0 head few c.if-request-bytes.false read.1 read.2)
          c.head_of.ensures.head;
      bad = λ e.
          let read = c.head_of.ensures.bad e in
          is_no_head c.args.bytes.now c.parse_request.new.headers c.in-Ok-Complete.request read.0 few c.if-request-bytes.false read.1 read.2;
      too_long = (λ e. absurd (c.head_of.ensures.few e), λ crowded. absurd (few crowded));
      no_memory = λ e. (found.0, whole_request c.args.bytes.now c.parse_request.new.headers c.in-Ok-Complete.request found.0 c.if-request-bytes.false found.1);
    }

pub returns-in-Ok-Partial : goal.returns-in-Ok-Partial
returns-in-Ok-Partial c =
    let few = not_crowded c.args.bytes.now c.is_crowded.result c.is_crowded.ensures c.if-is_crowded.false in
    let none = rw c.in-Ok-Partial.field-0-is at c.in-Ok-Partial.ensures.partial in
    record {
      head = tt;
      bad = λ e. no_head c.args.bytes.now few (λ h. none h []);
      too_long = (λ e. absurd (bad-too_long e), λ crowded. absurd (few crowded));
      no_memory = λ e. absurd (bad-no_memory e);
    }

pub returns-in-Err : goal.returns-in-Err
returns-in-Err c =
    let few = not_crowded c.args.bytes.now c.is_crowded.result c.is_crowded.ensures c.if-is_crowded.false in
    record {
      head = tt;
      bad = λ e. no_head-overflow c.args.bytes.now few c.in-Err.ensures.no_room;
      too_long = (λ e. absurd (bad-too_long e), λ crowded. absurd (few crowded));
      no_memory = λ e. absurd (bad-no_memory e);
    }
