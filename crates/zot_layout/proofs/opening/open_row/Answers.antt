use Rattle.zot_layout.specs.Causes.{items_in}
use Rattle.zot_layout.specs.Rows.{IsOfRow}
use Rattle.zot_layout.proofs.OpenedLemmas.{own_indexes}
use Rattle.zot_layout.proofs.OpeningLemmas.{row_opened, row_stands}
use Rattle.zot_layout.proofs.opening.open_row.Goals as goal

pub returns-clause-opens : goal.returns-clause-opens
returns-clause-opens g c =
    row_opened (g.S.Store.objects c.args.part.now) (IsOfRow c.args.key.now c.args.members c.args.row) c.args.moment c.in_ok-names.names.items (items_in c.read_layouts.result)
    (g.S.Store.objects c.marked_names.new.part) c.in_ok-names.ensures.kept c.in_ok-names.ensures.told c.read_layouts.ensures.told

pub returns-clause-stands : goal.returns-clause-stands
returns-clause-stands g c =
    row_stands (g.S.Store.objects c.args.part.now) (IsOfRow c.args.key.now c.args.members c.args.row) c.args.moment c.read_layouts.result
    (row_opened (g.S.Store.objects c.args.part.now) (IsOfRow c.args.key.now c.args.members c.args.row) c.args.moment c.in_ok-names.names.items (items_in c.read_layouts.result)
    (g.S.Store.objects c.marked_names.new.part) c.in_ok-names.ensures.kept c.in_ok-names.ensures.told c.read_layouts.ensures.told)

pub returns-clause-indexes : goal.returns-clause-indexes
returns-clause-indexes g c =
    own_indexes (IsOfRow c.args.key.now c.args.members c.args.row) c.read_layouts.result c.in_ok-names.names.items c.in_ok-names.ensures.own c.read_layouts.ensures.indexes
