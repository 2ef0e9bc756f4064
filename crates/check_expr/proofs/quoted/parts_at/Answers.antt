use Rattle.check_expr.specs.Quoted.{names_ahead}
use Rattle.check_expr.proofs.Ahead.{node_there, node_absent, misplaced_expression, misplaced_statement, function_names}
use Rattle.check_expr.proofs.Ahead.{absent_names, expression_gone, statement_gone}
use Rattle.check_expr.proofs.Branching.{nothing_ahead}
use Rattle.check_expr.proofs.quoted.parts_at.Goals as goal

pub returns-then-is_statement : goal.returns-then-is_statement
returns-then-is_statement c =
    let a = c.args in
    let w = a.world.now in
    let m = c.in-Some-Expression in
    nothing_ahead _ (names_ahead w a.ahead.now.items)
    (misplaced_expression w a.is_statement a.term.0 _ _ _ c.if-is_statement.true
    (node_there _ w a.term.0 m.field-0.now _ c.world.view_is m.field-0-is m.ensures))

pub returns-then-not-is_statement : goal.returns-then-not-is_statement
returns-then-not-is_statement c =
    let a = c.args in
    let w = a.world.now in
    let m = c.in-Some-Statement in
    nothing_ahead _ (names_ahead w a.ahead.now.items)
    (misplaced_statement w a.is_statement a.term.0 _ _ c.if-not-is_statement.true
    (node_there _ w a.term.0 m.field-0.now _ c.world.view_is m.field-0-is m.ensures))

pub returns-in_ok-parts_of_expression-in-Some-Expression : goal.returns-in_ok-parts_of_expression-in-Some-Expression
returns-in_ok-parts_of_expression-in-Some-Expression c =
    let a = c.args in
    let w = a.world.now in
    let m = c.in-Some-Expression in
    expression_gone w a.is_statement a.term.0 m.at m.of m.form (names_ahead w c.parts_of_expression.new.ahead.items)
    (names_ahead w a.ahead.now.items) c.if-is_statement.false
    (node_there _ w a.term.0 m.field-0.now _ c.world.view_is m.field-0-is m.ensures)
    (c.in_ok-parts_of_expression-in-Some-Expression.ensures w)

pub returns-in_ok-parts_of_statement-in-Some-Statement : goal.returns-in_ok-parts_of_statement-in-Some-Statement
returns-in_ok-parts_of_statement-in-Some-Statement c =
    let a = c.args in
    let w = a.world.now in
    let m = c.in-Some-Statement in
    statement_gone w a.is_statement a.term.0 m.field-0-0 m.doing (names_ahead w c.parts_of_statement.new.ahead.items)
    (names_ahead w a.ahead.now.items) c.if-not-is_statement.false
    (node_there _ w a.term.0 m.field-0.now _ c.world.view_is m.field-0-is m.ensures)
    (c.in_ok-parts_of_statement-in-Some-Statement.ensures w m.field-0-0)

pub returns-in-Some-Function : goal.returns-in-Some-Function
returns-in-Some-Function c =
    let a = c.args in
    let w = a.world.now in
    let m = c.in-Some-Function in
    nothing_ahead _ (names_ahead w a.ahead.now.items)
    (function_names w a.is_statement a.term.0 _ _ _
    (node_there _ w a.term.0 m.field-0.now _ c.world.view_is m.field-0-is m.ensures))

pub returns-in-None : goal.returns-in-None
returns-in-None c =
    let a = c.args in
    let w = a.world.now in
    nothing_ahead _ (names_ahead w a.ahead.now.items)
    (absent_names w a.is_statement a.term.0 (node_absent _ w a.term.0 c.world.view_is (rw c.in-None.is at c.typed.ensures)))
