use Rattle.std.proofs.Common.{arith, ap, get_or, length}
use Rattle.zot_rows.proofs.rows.Rows.close.Goals as goal

pub give_back-requires : goal.give_back-requires
give_back-requires g c =
    let none = ap length c.args.self.roomy.none in
    omega (arith, c.args.self.numbered.many, none, c.args.self.rows.ok.0, c.args.self.room.ok.0, c.args.self.roomy.enough)

pub returns-clause-stand : goal.returns-clause-stand
returns-clause-stand g c = λ k d within. (get_or c.args.self.rows.items k d).core.stands
