use Rattle.check_expr.specs.Quoted.{names_ahead}
use Rattle.check_expr.proofs.Branching.{var_ahead, assign_ahead, if_ahead, if_else_ahead, while_ahead, repeat_ahead, for_ahead, do_ahead}
use Rattle.check_expr.proofs.quoted.parts_of_statement.Goals as goal

pub returns-in_ok-all-in-Var : goal.returns-in_ok-all-in-Var
returns-in_ok-all-in-Var c = λ w at.
    let m = c.in-Var in
    rw m.is
    (var_ahead w at c.args.below m.names m.values (names_ahead w c.all.new.ahead.items) (names_ahead w c.declarations.new.ahead.items)
    (names_ahead w c.args.ahead.now.items)
    (rw c.as_slice.ensures at (c.in_ok-declarations-in-Var.ensures w)) (rw c.as_slice-in-Var.ensures at (c.in_ok-all-in-Var.ensures w)))

pub returns-in_ok-all-in-Assign-2 : goal.returns-in_ok-all-in-Assign-2
returns-in_ok-all-in-Assign-2 c = λ w at.
    let m = c.in-Assign in
    rw m.is
    (assign_ahead w at c.args.below m.targets m.values (names_ahead w c.all-in-Assign-2.new.ahead.items)
    (names_ahead w c.all-in-Assign.new.ahead.items) (names_ahead w c.args.ahead.now.items)
    (rw c.as_slice-in-Assign.ensures at (c.in_ok-all-in-Assign.ensures w))
    (rw c.as_slice-in-Assign-2.ensures at (c.in_ok-all-in-Assign-2.ensures w)))

pub returns-in_ok-expression-in-None : goal.returns-in_ok-expression-in-None
returns-in_ok-expression-in-None c = λ w at.
    let m = c.in-If in
    rw m.is
    (if_ahead w at c.args.below m.test m.terms m.others (names_ahead w c.expression.new.ahead.items)
    (names_ahead w c.block.new.ahead.items) (names_ahead w c.args.ahead.now.items) c.in-None.is
    (rw c.as_slice-in-None.ensures at (c.in_ok-block-in-None.ensures w)) (c.in_ok-expression-in-None.ensures w))

pub returns-in_ok-expression-in-Some : goal.returns-in_ok-expression-in-Some
returns-in_ok-expression-in-Some c = λ w at.
    let m = c.in-If in
    rw m.is
    (if_else_ahead w at c.args.below m.test m.terms m.others c.in-Some.others (names_ahead w c.expression-in-Some.new.ahead.items)
    (names_ahead w c.block-in-Some-2.new.ahead.items) (names_ahead w c.block-in-Some.new.ahead.items)
    (names_ahead w c.args.ahead.now.items) c.in-Some.is
    (rw c.as_slice-in-Some.ensures at (c.in_ok-block-in-Some.ensures w))
    (rw c.as_slice-in-Some-2.ensures at (c.in_ok-block-in-Some-2.ensures w)) (c.in_ok-expression-in-Some.ensures w))

pub returns-in_ok-expression-in-While : goal.returns-in_ok-expression-in-While
returns-in_ok-expression-in-While c = λ w at.
    let m = c.in-While in
    rw m.is
    (while_ahead w at c.args.below m.test m.terms (names_ahead w c.expression-in-While.new.ahead.items)
    (names_ahead w c.block-in-While.new.ahead.items) (names_ahead w c.args.ahead.now.items)
    (rw c.as_slice-in-While.ensures at (c.in_ok-block-in-While.ensures w)) (c.in_ok-expression-in-While.ensures w))

pub returns-in_ok-block_with-in-Repeat : goal.returns-in_ok-block_with-in-Repeat
returns-in_ok-block_with-in-Repeat c = λ w at.
    let m = c.in-Repeat in
    rw m.is
    (repeat_ahead w at c.args.below m.terms m.test (names_ahead w c.block_with.new.ahead.items) (names_ahead w c.args.ahead.now.items)
    (rw c.as_slice-in-Repeat.ensures at (c.in_ok-block_with-in-Repeat.ensures w)))

pub returns-in_ok-all-in-For : goal.returns-in_ok-all-in-For
returns-in_ok-all-in-For c = λ w at.
    let m = c.in-For in
    rw m.is
    (for_ahead w at c.args.below m.name m.bounds m.terms (names_ahead w c.all-in-For.new.ahead.items)
    (names_ahead w c.block_of.new.ahead.items) (names_ahead w c.args.ahead.now.items)
    (rw c.as_slice-in-For.ensures at (c.in_ok-block_of-in-For.ensures w)) (rw c.as_slice-in-For-2.ensures at (c.in_ok-all-in-For.ensures w)))

pub returns-in_ok-block-in-Do : goal.returns-in_ok-block-in-Do
returns-in_ok-block-in-Do c = λ w at.
    let m = c.in-Do in
    rw m.is
    (do_ahead w at c.args.below m.terms (names_ahead w c.block-in-Do.new.ahead.items) (names_ahead w c.args.ahead.now.items)
    (rw c.as_slice-in-Do.ensures at (c.in_ok-block-in-Do.ensures w)))
