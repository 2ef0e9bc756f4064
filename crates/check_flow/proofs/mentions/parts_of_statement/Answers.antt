use Rattle.check_flow.specs.Parts.{parts_mentions}
use Rattle.check_flow.proofs.Going.{var_gone, assign_gone, if_gone, if_else_gone, while_gone, repeat_gone, for_gone, do_gone}
use Rattle.check_flow.proofs.mentions.parts_of_statement.Goals as goal

pub returns-in_ok-all-in-Var : goal.returns-in_ok-all-in-Var
returns-in_ok-all-in-Var c = λ w.
    rw c.in-Var.is
    (var_gone w c.args.below c.in-Var.field-0 c.in-Var.values (parts_mentions w c.all.new.parts.items) (parts_mentions w c.args.parts.now.items)
    (rw c.as_slice.ensures at (c.in_ok-all-in-Var.ensures w)))

pub returns-in_ok-all-in-Assign-2 : goal.returns-in_ok-all-in-Assign-2
returns-in_ok-all-in-Assign-2 c = λ w.
    rw c.in-Assign.is
    (assign_gone w c.args.below c.in-Assign.targets c.in-Assign.values (parts_mentions w c.all-in-Assign-2.new.parts.items)
    (parts_mentions w c.all-in-Assign.new.parts.items) (parts_mentions w c.args.parts.now.items)
    (rw c.as_slice-in-Assign.ensures at (c.in_ok-all-in-Assign.ensures w))
    (rw c.as_slice-in-Assign-2.ensures at (c.in_ok-all-in-Assign-2.ensures w)))

pub returns-in_ok-expression-in-None : goal.returns-in_ok-expression-in-None
returns-in_ok-expression-in-None c = λ w.
    let m = c.in-If in
    rw m.is
    (if_gone w c.args.below m.test m.block m.others (parts_mentions w c.expression.new.parts.items)
    (parts_mentions w c.all-in-None.new.parts.items) (parts_mentions w c.args.parts.now.items) c.in-None.is
    (rw c.as_slice-in-None.ensures at (c.in_ok-all-in-None.ensures w)) (c.in_ok-expression-in-None.ensures w))

pub returns-in_ok-expression-in-Some : goal.returns-in_ok-expression-in-Some
returns-in_ok-expression-in-Some c = λ w.
    let m = c.in-If in
    rw m.is
    (if_else_gone w c.args.below m.test m.block m.others c.in-Some.others (parts_mentions w c.expression-in-Some.new.parts.items)
    (parts_mentions w c.all-in-Some-2.new.parts.items) (parts_mentions w c.all-in-Some.new.parts.items)
    (parts_mentions w c.args.parts.now.items) c.in-Some.is
    (rw c.as_slice-in-Some.ensures at (c.in_ok-all-in-Some.ensures w))
    (rw c.as_slice-in-Some-2.ensures at (c.in_ok-all-in-Some-2.ensures w)) (c.in_ok-expression-in-Some.ensures w))

pub returns-in_ok-expression-in-While : goal.returns-in_ok-expression-in-While
returns-in_ok-expression-in-While c = λ w.
    let m = c.in-While in
    rw m.is
    (while_gone w c.args.below m.test m.block (parts_mentions w c.expression-in-While.new.parts.items)
    (parts_mentions w c.all-in-While.new.parts.items) (parts_mentions w c.args.parts.now.items)
    (rw c.as_slice-in-While.ensures at (c.in_ok-all-in-While.ensures w)) (c.in_ok-expression-in-While.ensures w))

pub returns-in_ok-all-in-Repeat : goal.returns-in_ok-all-in-Repeat
returns-in_ok-all-in-Repeat c = λ w.
    let m = c.in-Repeat in
    rw m.is
    (repeat_gone w c.args.below m.block m.test (parts_mentions w c.all-in-Repeat.new.parts.items)
    (parts_mentions w c.expression-in-Repeat.new.parts.items) (parts_mentions w c.args.parts.now.items)
    (c.in_ok-expression-in-Repeat.ensures w) (rw c.as_slice-in-Repeat.ensures at (c.in_ok-all-in-Repeat.ensures w)))

pub returns-in_ok-all-in-For-2 : goal.returns-in_ok-all-in-For-2
returns-in_ok-all-in-For-2 c = λ w.
    let m = c.in-For in
    rw m.is
    (for_gone w c.args.below m.field-0 m.bounds m.block (parts_mentions w c.all-in-For-2.new.parts.items)
    (parts_mentions w c.all-in-For.new.parts.items) (parts_mentions w c.args.parts.now.items)
    (rw c.as_slice-in-For.ensures at (c.in_ok-all-in-For.ensures w)) (rw c.as_slice-in-For-2.ensures at (c.in_ok-all-in-For-2.ensures w)))

pub returns-in_ok-all-in-Do : goal.returns-in_ok-all-in-Do
returns-in_ok-all-in-Do c = λ w.
    rw c.in-Do.is
    (do_gone w c.args.below c.in-Do.block (parts_mentions w c.all-in-Do.new.parts.items) (parts_mentions w c.args.parts.now.items)
    (rw c.as_slice-in-Do.ensures at (c.in_ok-all-in-Do.ensures w)))
