use Rattle.std.proofs.Common.{◌<◌, Option, sym, subst, ◌∙◌}
use Rattle.zot_model.specs.declared.row.RowCall.{RowCall}
use Rattle.zot_repo.specs.RowGoing.{FitsNext, GoesOnRow, IsForCall, IsOwn, IsPlaced, KeepsBeside, Rests, pending_of}
use Rattle.zot_repo.specs.declared.waiting.Waiting.{Waiting}
use Rattle.zot_repo.proofs.RowTurnLemmas.{at_waiting, filled_then, filled_was, on_waiting, placed_left}
use Rattle.zot_repo.proofs.row_core.RowCore.resume.Goals as goal

pub invariant_of-self : goal.invariant_of-self
invariant_of-self g c =
    let is = (sym c.take.ensures.value ∙ c.in-Some.is) in
    let placed = at_waiting (λ (w : Waiting). IsPlaced c.args.self.now.config c.args.self.now.row w.name) c.args.self.now.waiting c.in-Some.was is c.args.self.now.placed in
    let resumes = c.go_on.ensures c.args.self.now.config.key c.args.self.now.config.members c.args.self.now.row (record { named = c.as_slice.ensures.name; placed = placed }) in
    record {
      stands = resumes.stands c.args.self.now.opened c.args.self.now.stands;
      filled = resumes.names (filled_was c.args.self.now.waiting c.in-Some.was c.args.self.now.repos is c.args.self.now.filled);
      kept = resumes.kept;
      placed = placed_left c.args.self.now.config c.args.self.now.row c.go_on.result c.in-Some.was.name c.in-Some.was.moment c.go_on.new.waiting placed resumes.rests;
    }

pub returns-clause-answer : goal.returns-clause-answer
returns-clause-answer g c =
    let is = (sym c.take.ensures.value ∙ c.in-Some.is) in
    let resumes = c.go_on.ensures c.args.self.now.config.key c.args.self.now.config.members c.args.self.now.row (record { named = c.as_slice.ensures.name; placed = at_waiting (λ (w : Waiting). IsPlaced c.args.self.now.config c.args.self.now.row w.name) c.args.self.now.waiting c.in-Some.was is c.args.self.now.placed }) in
    subst (λ (o : Option Waiting). GoesOnRow (IsOwn c.args.self.now.config c.args.self.now.row) o c.args.answered c.args.self.now.repos (g.S.Store.faults c.args.self.now.part) c.go_on.result c.go_on.new.waiting c.go_on.new.repos (g.S.Store.faults c.go_on.new.part)) (sym is)
    resumes.answer

pub returns-clause-idle : goal.returns-clause-idle
returns-clause-idle g c =
    let is = (sym c.take.ensures.value ∙ c.in-Some.is) in
    let resumes = c.go_on.ensures c.args.self.now.config.key c.args.self.now.config.members c.args.self.now.row (record { named = c.as_slice.ensures.name; placed = at_waiting (λ (w : Waiting). IsPlaced c.args.self.now.config c.args.self.now.row w.name) c.args.self.now.waiting c.in-Some.was is c.args.self.now.placed }) in
    on_waiting (λ (w : Waiting). Rests c.go_on.result w.name w.moment c.go_on.new.waiting) c.args.self.now.waiting c.in-Some.was is resumes.rests

pub returns-clause-faults : goal.returns-clause-faults
returns-clause-faults g c =
    let is = (sym c.take.ensures.value ∙ c.in-Some.is) in
    let resumes = c.go_on.ensures c.args.self.now.config.key c.args.self.now.config.members c.args.self.now.row (record { named = c.as_slice.ensures.name; placed = at_waiting (λ (w : Waiting). IsPlaced c.args.self.now.config c.args.self.now.row w.name) c.args.self.now.waiting c.in-Some.was is c.args.self.now.placed }) in
    resumes.cause

pub returns-clause-fits : goal.returns-clause-fits
returns-clause-fits g c =
    let is = (sym c.take.ensures.value ∙ c.in-Some.is) in
    let resumes = c.go_on.ensures c.args.self.now.config.key c.args.self.now.config.members c.args.self.now.row (record { named = c.as_slice.ensures.name; placed = at_waiting (λ (w : Waiting). IsPlaced c.args.self.now.config c.args.self.now.row w.name) c.args.self.now.waiting c.in-Some.was is c.args.self.now.placed }) in
    on_waiting (λ (w : Waiting). (call : RowCall) → IsForCall call w → FitsNext call c.go_on.result c.go_on.new.waiting) c.args.self.now.waiting c.in-Some.was is resumes.fits

pub returns-clause-falls : goal.returns-clause-falls
returns-clause-falls g c =
    let is = (sym c.take.ensures.value ∙ c.in-Some.is) in
    let resumes = c.go_on.ensures c.args.self.now.config.key c.args.self.now.config.members c.args.self.now.row (record { named = c.as_slice.ensures.name; placed = at_waiting (λ (w : Waiting). IsPlaced c.args.self.now.config c.args.self.now.row w.name) c.args.self.now.waiting c.in-Some.was is c.args.self.now.placed }) in
    subst (λ (o : Option Waiting). pending_of c.go_on.new.waiting < pending_of o) (sym is) resumes.falls

pub returns-clause-beside : goal.returns-clause-beside
returns-clause-beside g c =
    let is = (sym c.take.ensures.value ∙ c.in-Some.is) in
    let resumes = c.go_on.ensures c.args.self.now.config.key c.args.self.now.config.members c.args.self.now.row (record { named = c.as_slice.ensures.name; placed = at_waiting (λ (w : Waiting). IsPlaced c.args.self.now.config c.args.self.now.row w.name) c.args.self.now.waiting c.in-Some.was is c.args.self.now.placed }) in
    on_waiting (λ (w : Waiting). KeepsBeside (g.S.Store.objects c.args.self.now.part) w.name (g.S.Store.objects c.go_on.new.part)) c.args.self.now.waiting c.in-Some.was is (resumes.beside c.args.self.now.opened c.args.self.now.stands)

pub returns-clause-names : goal.returns-clause-names
returns-clause-names g c =
    let is = (sym c.take.ensures.value ∙ c.in-Some.is) in
    let resumes = c.go_on.ensures c.args.self.now.config.key c.args.self.now.config.members c.args.self.now.row (record { named = c.as_slice.ensures.name; placed = at_waiting (λ (w : Waiting). IsPlaced c.args.self.now.config c.args.self.now.row w.name) c.args.self.now.waiting c.in-Some.was is c.args.self.now.placed }) in
    filled_then c.go_on.result c.in-Some.was.name c.in-Some.was.moment c.go_on.new.waiting c.go_on.new.repos resumes.rests (resumes.names (filled_was c.args.self.now.waiting c.in-Some.was c.args.self.now.repos is c.args.self.now.filled))
