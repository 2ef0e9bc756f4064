use Rattle.std.proofs.Common.{true, false}
use Rattle.check_flow.specs.Parts.{parts_mentions}
use Rattle.check_flow.proofs.Through.{node_there, node_absent, from_not, none_gone, misplaced_expression, misplaced_statement}
use Rattle.check_flow.proofs.Through.{function_mentions, absent_mentions, expression_gone, statement_gone}
use Rattle.check_flow.proofs.mentions.go_through.Goals as goal

pub returns-then-part-2 : goal.returns-then-part-2
returns-then-part-2 c =
    let a = c.args in
    let w = a.world.now in
    let m = c.in-Some-Expression in
    none_gone w a.part a.queue.now a.by (parts_mentions w a.parts.now.items)
    (misplaced_expression w a.part _ _ _ c.if-part-2.true c.if-part.false
    (node_there _ w a.part.term.0 m.field-0.now _ c.world.view_is m.field-0-is m.ensures))

pub returns-then-not-part : goal.returns-then-not-part
returns-then-not-part c =
    let a = c.args in
    let w = a.world.now in
    let m = c.in-Some-Statement in
    none_gone w a.part a.queue.now a.by (parts_mentions w a.parts.now.items)
    (misplaced_statement w a.part _ _ (from_not a.part.is_statement true c.if-not-part.true) c.if-part.false
    (node_there _ w a.part.term.0 m.field-0.now _ c.world.view_is m.field-0-is m.ensures))

pub returns-in_ok-parts_of_expression-in-Some-Expression : goal.returns-in_ok-parts_of_expression-in-Some-Expression
returns-in_ok-parts_of_expression-in-Some-Expression c =
    let a = c.args in
    let w = a.world.now in
    let m = c.in-Some-Expression in
    expression_gone w a.part m.at _ m.form a.queue.now c.mention.new.queue a.by (parts_mentions w c.parts_of_expression.new.parts.items)
    (parts_mentions w a.parts.now.items) c.if-part-2.false c.if-part.false
    (node_there _ w a.part.term.0 m.field-0.now _ c.world.view_is m.field-0-is m.ensures) c.in_ok-mention-in-Some-Expression.ensures
    (c.in_ok-parts_of_expression-in-Some-Expression.ensures w m.at)

pub returns-in_ok-parts_of_statement-in-Some-Statement : goal.returns-in_ok-parts_of_statement-in-Some-Statement
returns-in_ok-parts_of_statement-in-Some-Statement c =
    let a = c.args in
    let w = a.world.now in
    let m = c.in-Some-Statement in
    statement_gone w a.part _ m.doing a.queue.now a.by (parts_mentions w c.parts_of_statement.new.parts.items)
    (parts_mentions w a.parts.now.items) (from_not a.part.is_statement false c.if-not-part.false) c.if-part.false
    (node_there _ w a.part.term.0 m.field-0.now _ c.world.view_is m.field-0-is m.ensures)
    (c.in_ok-parts_of_statement-in-Some-Statement.ensures w)

pub returns-in-Some-Function : goal.returns-in-Some-Function
returns-in-Some-Function c =
    let a = c.args in
    let w = a.world.now in
    let m = c.in-Some-Function in
    none_gone w a.part a.queue.now a.by (parts_mentions w a.parts.now.items)
    (function_mentions w a.part _ _ _ c.if-part.false
    (node_there _ w a.part.term.0 m.field-0.now _ c.world.view_is m.field-0-is m.ensures))

pub returns-in-None : goal.returns-in-None
returns-in-None c =
    let a = c.args in
    let w = a.world.now in
    none_gone w a.part a.queue.now a.by (parts_mentions w a.parts.now.items)
    (absent_mentions w a.part c.if-part.false (node_absent _ w a.part.term.0 c.world.view_is (rw c.in-None.is at c.typed.ensures)))
