use Rattle.check_flow.specs.Parts.{parts_mentions}
use Rattle.check_flow.proofs.Through.{node_there, node_absent, body_mentioned, no_body_expression, no_body_statement, no_body_there}
use Rattle.check_flow.proofs.Through.{none_before, before_old}
use Rattle.check_flow.proofs.mentions.body_of.Goals as goal

pub returns-in_ok-all-in-Some-Function : goal.returns-in_ok-all-in-Some-Function
returns-in_ok-all-in-Some-Function c =
    let a = c.args in
    let w = a.world.now in
    let m = c.in-Some-Function in
    before_old (parts_mentions w c.all.new.parts.items) _ _ (parts_mentions w a.parts.now.items)
    (body_mentioned w a.made m.field-0-0 m.field-0-1 m.body (node_there _ w a.made.0 m.field-0.now _ c.world.view_is m.field-0-is m.ensures))
    (rw c.as_slice.ensures at (c.in_ok-all-in-Some-Function.ensures w))

pub returns-in-Some-Expression : goal.returns-in-Some-Expression
returns-in-Some-Expression c =
    let a = c.args in
    let w = a.world.now in
    let m = c.in-Some-Expression in
    none_before _ (parts_mentions w a.parts.now.items)
    (no_body_expression w a.made _ _ _ (node_there _ w a.made.0 m.field-0.now _ c.world.view_is m.field-0-is m.ensures))

pub returns-in-Some-Statement : goal.returns-in-Some-Statement
returns-in-Some-Statement c =
    let a = c.args in
    let w = a.world.now in
    let m = c.in-Some-Statement in
    none_before _ (parts_mentions w a.parts.now.items)
    (no_body_statement w a.made _ _ (node_there _ w a.made.0 m.field-0.now _ c.world.view_is m.field-0-is m.ensures))

pub returns-in-None : goal.returns-in-None
returns-in-None c =
    let a = c.args in
    let w = a.world.now in
    none_before _ (parts_mentions w a.parts.now.items)
    (no_body_there w a.made (node_absent _ w a.made.0 c.world.view_is (rw c.in-None.is at c.typed.ensures)))
