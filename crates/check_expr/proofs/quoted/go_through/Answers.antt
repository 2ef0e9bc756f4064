use Rattle.check_expr.specs.Quoted.{names_ahead}
use Rattle.check_expr.proofs.Ahead.{part_under, part_past}
use Rattle.check_expr.proofs.quoted.go_through.Goals as goal

pub returns-then-part : goal.returns-then-part
returns-then-part c =
    let a = c.args in
    part_past a.world.now a.part (names_ahead a.world.now a.ahead.now.items) c.if-part.true

pub returns : goal.returns
returns c =
    let a = c.args in
    let w = a.world.now in
    part_under w a.part (names_ahead w c.parts_at.new.ahead.items) (names_ahead w a.ahead.now.items) c.if-part.false
    c.in_ok-parts_at.ensures
