-- Counts of faults of calls that are made of other calls.
use Rattle.std.proofs.Common.{◌≡◌, ℕ, Bool, true, false, Some, refl, sym, ap, ◌∙◌, subst}
use Rattle.zot_session.specs.declared.cut.Cut.{Cut}
use Rattle.zot_session.specs.declared.cut.Cut.TheVariants as cuts
use Rattle.zot_session.specs.declared.end.End.{End}
use Rattle.zot_session.specs.declared.end.End.TheVariants as ends
use Rattle.zot_session.specs.declared.send_error.SendError.{SendError}
use Rattle.zot_session.specs.declared.send_error.SendError.TheVariants as errors
use Rattle.zot_session.specs.Causes.{Causes, Counts}
use Rattle.zot_session.specs.Cuts.{end_at}
use Rattle.zot_session.specs.Sending.{end_unsent}

-- nothing failed
counts_kept : {failed : Type 0} {before after : ℕ} → ¬ failed → after ≡ before → Counts failed before after
counts_kept none same = record { rose = λ f. absurd (none f); kept = λ other. same }

-- the same failures, where the count had stayed before
counts_map : {first second : Type 0} {start before after : ℕ} → before ≡ start → (second → first) → (first → second) → Counts first before after → Counts second start after
counts_map {second = second} {after = after} same back on c = subst (λ n. Counts second n after) same (record { rose = λ f. c.rose (back f); kept = λ other. c.kept (λ f. other (on f)) })

pub causes_map : {read read' write write' : Type 0} {start reads reads' start' writes writes' : ℕ} → reads ≡ start → writes ≡ start' → (read' → read) → (read → read') → (write' → write) → (write → write')
    → Causes read write reads reads' writes writes' → Causes read' write' start reads' start' writes'
causes_map same same' back on back' on' c = record { read = counts_map same back on c.read; write = counts_map same' back' on' c.write }

-- a cut gives a connection the end of a failed read where the source failed, and never that of a failed write
cut_failed : (cut : Cut) (blank : Bool) (n : ℕ) → end_at cut blank n ≡ ends.ReadFault → cut ≡ cuts.Fault
cut_failed cuts.Over true n e = absurd (cc e)
cut_failed cuts.Over false n e = absurd (cc e)
cut_failed cuts.Fault blank n e = λ i. cuts.Fault
cut_failed cuts.Full blank n e = absurd (cc e)
cut_failed cuts.NoMemory blank n e = absurd (cc e)

cut_fails : (cut : Cut) (blank : Bool) (n : ℕ) → cut ≡ cuts.Fault → end_at cut blank n ≡ ends.ReadFault
cut_fails cut blank n e = λ i. end_at (e i) blank n

cut_no_write : (cut : Cut) (blank : Bool) (n : ℕ) → end_at cut blank n ≡ ends.WriteFault → ⊥
cut_no_write cuts.Over true n e = cc e
cut_no_write cuts.Over false n e = cc e
cut_no_write cuts.Fault blank n e = cc e
cut_no_write cuts.Full blank n e = cc e
cut_no_write cuts.NoMemory blank n e = cc e

-- a connection that is cut
pub causes_cut : {failed : Type 0} {start reads reads' writes writes' : ℕ} (cut : Cut) (blank : Bool) (n : ℕ) (end : End) → end ≡ end_at cut blank n → (failed → cut ≡ cuts.Fault) → (cut ≡ cuts.Fault → failed) → reads ≡ start
    → Counts failed reads reads' → writes' ≡ writes → Causes (end ≡ ends.ReadFault) (end ≡ ends.WriteFault) start reads' writes writes'
causes_cut cut blank n end is on back before c same = record {
  read = counts_map before (λ e. back (cut_failed cut blank n (sym is ∙ e))) (λ f. is ∙ cut_fails cut blank n (on f)) c;
  write = counts_kept (λ e. cut_no_write cut blank n (sym is ∙ e)) same;
}

-- what isn't sent whole gives a connection the end of a failed write where the sink failed, and never that of a failed read
unsent_failed : (error : SendError) → end_unsent error ≡ ends.WriteFault → error ≡ errors.Fault
unsent_failed errors.Fault e = λ i. errors.Fault
unsent_failed errors.NoMemory e = absurd (cc e)

pub unsent_no_read : (error : SendError) → end_unsent error ≡ ends.ReadFault → ⊥
unsent_no_read errors.Fault e = cc e
unsent_no_read errors.NoMemory e = cc e

-- a connection that ends with a reply that isn't sent whole
pub counts_unsent : {failed : Type 0} {before after : ℕ} (error : SendError) (end : End) → end ≡ end_unsent error → (failed → error ≡ errors.Fault) → (error ≡ errors.Fault → failed) → Counts failed before after
    → Counts (Some end ≡ Some ends.WriteFault) before after
counts_unsent error end is on back c = counts_map refl (λ e. back (unsent_failed error (sym is ∙ within e))) (λ f. ap Some (is ∙ (λ i. end_unsent (on f i)))) c
  where
    within : Some end ≡ Some ends.WriteFault → end ≡ ends.WriteFault
    within e = cc e

-- nothing was read in a call, and a write failed where it says so
pub causes_written : {read write : Type 0} {reads reads' start writes writes' : ℕ} → ¬ read → reads' ≡ reads → writes ≡ start → Counts write writes writes' → Causes read write reads reads' start writes'
causes_written none same before c = record { read = counts_kept none same; write = counts_map before (λ f. f) (λ f. f) c }
