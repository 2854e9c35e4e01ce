use Rattle.tests_turn.specs.declared.row.Row.{Row}
use Rattle.tests_turn.proofs.Counting.{paired, paired_home, inner_more}
use Rattle.tests_turn.proofs.row.visited_by_two.Goals as goal

pub returns : goal.returns
returns g c =
    let pair = paired c.args.rows c.args.visitor c.split.new.seat c.in_ok-other.other c.requires.first c.in_ok-other.ensures.parted _ _ _ c.join.new.seat c.join.ensures 1 1 c.join-visitor.ensures.first c.join-visitor.ensures.second in
    let home = paired_home c.args.rows c.args.visitor c.split.new.seat c.in_ok-other.other c.requires.first c.in_ok-other.ensures.parted _ _ _ c.join.new.seat c.join.ensures 1 c.join-visitor.ensures.first in
    inner_more _ (λ (r : Row). r.seat) (λ a b n e made. made) 1 1 c.join.new.seat pair c.args.rows home c.close.result c.close.ensures.stands c.close.ensures.all c.close.ensures.own
