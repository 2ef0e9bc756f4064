use Rattle.check_expr.specs.Quoted.{names_ahead}
use Rattle.check_expr.proofs.Branching.{constant_ahead, nothing_ahead, operate_ahead, two_ahead, address_ahead, let_ahead}
use Rattle.check_expr.proofs.quoted.parts_of_expression.Goals as goal

pub returns-in-Constant : goal.returns-in-Constant
returns-in-Constant c = λ w.
    let a = c.args in
    let m = c.in-Constant in
    rw m.is (nothing_ahead _ (names_ahead w a.ahead.now.items) (constant_ahead w a.at a.of a.below m.field-0))

pub returns-in_ok-all-in-Operate : goal.returns-in_ok-all-in-Operate
returns-in_ok-all-in-Operate c = λ w.
    let a = c.args in
    let m = c.in-Operate in
    rw m.is
    (operate_ahead w a.at a.of a.below m.field-0 m.operands (names_ahead w c.all.new.ahead.items) (names_ahead w a.ahead.now.items)
    (rw c.as_slice.ensures at (c.in_ok-all-in-Operate.ensures w)))

pub returns-in_ok-two-in-Both : goal.returns-in_ok-two-in-Both
returns-in_ok-two-in-Both c = λ w.
    let m = c.in-Both in
    rw m.is
    (two_ahead w c.args.below m.first m.second (names_ahead w c.two.new.ahead.items) (names_ahead w c.args.ahead.now.items)
    (c.in_ok-two-in-Both.ensures w))

pub returns-in_ok-two-in-Either : goal.returns-in_ok-two-in-Either
returns-in_ok-two-in-Either c = λ w.
    let m = c.in-Either in
    rw m.is
    (two_ahead w c.args.below m.first m.second (names_ahead w c.two-in-Either.new.ahead.items) (names_ahead w c.args.ahead.now.items)
    (c.in_ok-two-in-Either.ensures w))

pub returns-in_ok-two-in-Element : goal.returns-in_ok-two-in-Element
returns-in_ok-two-in-Element c = λ w.
    let m = c.in-Element in
    rw m.is
    (two_ahead w c.args.below m.object m.key (names_ahead w c.two-in-Element.new.ahead.items) (names_ahead w c.args.ahead.now.items)
    (c.in_ok-two-in-Element.ensures w))

pub returns-in_ok-two-in-Index : goal.returns-in_ok-two-in-Index
returns-in_ok-two-in-Index c = λ w.
    let m = c.in-Index in
    rw m.is
    (two_ahead w c.args.below m.object m.key (names_ahead w c.two-in-Index.new.ahead.items) (names_ahead w c.args.ahead.now.items)
    (c.in_ok-two-in-Index.ensures w))

pub returns-in_ok-expression-in-Address : goal.returns-in_ok-expression-in-Address
returns-in_ok-expression-in-Address c = λ w.
    let a = c.args in
    let m = c.in-Address in
    rw m.is
    (address_ahead w a.at a.of a.below m.object (names_ahead w c.expression-in-Address.new.ahead.items) (names_ahead w a.ahead.now.items)
    (c.in_ok-expression-in-Address.ensures w))

pub returns-in_ok-block_with-in-Let : goal.returns-in_ok-block_with-in-Let
returns-in_ok-block_with-in-Let c = λ w.
    let a = c.args in
    let m = c.in-Let in
    rw m.is
    (let_ahead w a.at a.of a.below m.terms m.value (names_ahead w c.block_with.new.ahead.items) (names_ahead w a.ahead.now.items)
    (rw c.as_slice-in-Let.ensures at (c.in_ok-block_with-in-Let.ensures w)))
