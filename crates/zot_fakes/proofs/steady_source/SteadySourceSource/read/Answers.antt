use Rattle.std.proofs.Common.{ℕ, List, ◌+◌, ap, ◌∙◌, slice_range, length, drop, arith}
use Rattle.zot_fakes.proofs.SourceLemmas.{read_piece}
use Rattle.zot_fakes.proofs.steady_source.SteadySourceSource.read.Goals as goal

pub returns-clause-ok : goal.returns-clause-ok
returns-clause-ok c =
    let s = c.args.self.now in
    read_piece s.bytes.items s.start c.min-n.result (length c.args.buf.now) (drop c.min-n.result c.args.buf.now) c.copy_from_slice.new.self
    (omega (arith, s.bytes.ok.0, s.within)) (omega (arith, s.bytes.ok.0, c.min-n.ensures, c.len.ensures))
    (c.copy_from_slice.ensures.after ∙ ap (λ (b : List ℕ). slice_range b s.start (s.start + c.min-n.result)) c.deref.ensures.value)
