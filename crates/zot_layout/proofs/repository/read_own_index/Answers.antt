use Rattle.zot_layout.proofs.OpenedLemmas.{just_index}
use Rattle.zot_layout.proofs.CauseLemmas.{nothing_told}
use Rattle.zot_layout.specs.Rows.{index_by}
use Rattle.zot_layout.specs.Paths.{index_path}
use Rattle.std.specs.FinMap as map
use Rattle.zot_layout.proofs.repository.read_own_index.Goals as goal

pub returns-in_err-bytes-clause-told : goal.returns-in_err-bytes-clause-told
returns-in_err-bytes-clause-told g c =
    nothing_told (g.S.Store.objects c.args.part.now) (λ told. index_by c.args.name.now c.args.moment (map.get told (index_path c.args.name.now)))
    c.from_residual-in_err-bytes.result c.in_err-bytes.field-0.0 c.from_residual-in_err-bytes.ensures.1 c.in_err-bytes.ensures.error

pub returns-in-Some-clause-index : goal.returns-in-Some-clause-index
returns-in-Some-clause-index g c = just_index c.read_index.result c.as_str-in-Some.result.now c.as_slice.result.now c.args.moment c.ranges.moment.fits c.read_index.ensures
