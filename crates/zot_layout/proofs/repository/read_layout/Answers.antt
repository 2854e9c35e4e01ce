use Rattle.zot_layout.proofs.CauseLemmas.{nothing_told}
use Rattle.zot_layout.specs.Rows.{layout_of}
use Rattle.zot_layout.proofs.repository.read_layout.Goals as goal

pub returns-in_err-marker-clause-told : goal.returns-in_err-marker-clause-told
returns-in_err-marker-clause-told g c =
    nothing_told (g.S.Store.objects c.args.part.now) (λ told. layout_of told c.args.name.now c.args.moment)
    c.from_residual-in_err-marker.result c.in_err-marker.field-0.0 c.from_residual-in_err-marker.ensures.1 c.in_err-marker.ensures.error
