use Rattle.std.proofs.Common.{List, ℕ, refl}
use Rattle.zot_model.specs.declared.row.RowCall.TheVariants.{Ask}
use Rattle.zot_repo.specs.RowGoing.{IsOwn, KeepsBeside, Rests}
use Rattle.zot_repo.proofs.RowTurnLemmas.{filled_idle, filled_then, on_name, own_of, placed_left}
use Rattle.zot_repo.proofs.row_core.RowCore.ask.Goals as goal

pub invariant_of-self : goal.invariant_of-self
invariant_of-self g c =
    let own = own_of (IsOwn c.args.self.now.config c.args.self.now.row) (Ask c.args.request.now) c.args.request.now c.in-Some.name refl c.in-Some.is c.requires.own in
    let starts = c.begin.ensures c.args.self.now.config.key c.args.self.now.config.members c.args.self.now.row own in
    record {
      stands = starts.stands c.args.self.now.opened c.args.self.now.stands;
      filled = starts.names (filled_idle c.args.self.now.waiting c.args.self.now.repos c.requires.idle c.args.self.now.filled);
      kept = starts.kept;
      placed = placed_left c.args.self.now.config c.args.self.now.row c.begin.result c.in-Some.name c.args.moment c.begin.new.waiting own.placed starts.rests;
    }

pub returns : goal.returns
returns g c =
    let own = own_of (IsOwn c.args.self.now.config c.args.self.now.row) (Ask c.args.request.now) c.args.request.now c.in-Some.name refl c.in-Some.is c.requires.own in
    let starts = c.begin.ensures c.args.self.now.config.key c.args.self.now.config.members c.args.self.now.row own in
    record {
      answer = starts.answer;
      idle = on_name (λ (n : List ℕ). Rests c.begin.result n c.args.moment c.begin.new.waiting) (Ask c.args.request.now) c.args.request.now c.in-Some.name refl c.in-Some.is starts.rests;
      faults = starts.cause;
      fits = starts.fits;
      mount = starts.mount;
      beside = on_name (λ (n : List ℕ). KeepsBeside (g.S.Store.objects c.args.self.now.part) n (g.S.Store.objects c.begin.new.part)) (Ask c.args.request.now) c.args.request.now c.in-Some.name refl c.in-Some.is (starts.beside c.args.self.now.opened c.args.self.now.stands);
      names = filled_then c.begin.result c.in-Some.name c.args.moment c.begin.new.waiting c.begin.new.repos starts.rests (starts.names (filled_idle c.args.self.now.waiting c.args.self.now.repos c.requires.idle c.args.self.now.filled));
      row = refl;
      config = refl;
      opened = refl;
    }
