use Rattle.check_flow.specs.Parts.{parts_mentions}
use Rattle.check_flow.proofs.Going.{operate_gone, two_gone, let_gone}
use Rattle.check_flow.proofs.mentions.parts_of_expression.Goals as goal

pub returns-in_ok-all-in-Operate : goal.returns-in_ok-all-in-Operate
returns-in_ok-all-in-Operate c = λ w at.
    let m = c.in-Operate in
    rw m.is
    (operate_gone w at c.args.below m.field-0 m.operands (parts_mentions w c.all.new.parts.items) (parts_mentions w c.args.parts.now.items)
    (rw c.as_slice.ensures at (c.in_ok-all-in-Operate.ensures w)))

pub returns-in_ok-two-in-Both : goal.returns-in_ok-two-in-Both
returns-in_ok-two-in-Both c = λ w at.
    let m = c.in-Both in
    rw m.is
    (two_gone w c.args.below m.first m.second (parts_mentions w c.two.new.parts.items) (parts_mentions w c.args.parts.now.items)
    (c.in_ok-two-in-Both.ensures w))

pub returns-in_ok-two-in-Either : goal.returns-in_ok-two-in-Either
returns-in_ok-two-in-Either c = λ w at.
    let m = c.in-Either in
    rw m.is
    (two_gone w c.args.below m.first m.second (parts_mentions w c.two-in-Either.new.parts.items) (parts_mentions w c.args.parts.now.items)
    (c.in_ok-two-in-Either.ensures w))

pub returns-in_ok-two-in-Element : goal.returns-in_ok-two-in-Element
returns-in_ok-two-in-Element c = λ w at.
    let m = c.in-Element in
    rw m.is
    (two_gone w c.args.below m.object m.key (parts_mentions w c.two-in-Element.new.parts.items) (parts_mentions w c.args.parts.now.items)
    (c.in_ok-two-in-Element.ensures w))

pub returns-in_ok-two-in-Index : goal.returns-in_ok-two-in-Index
returns-in_ok-two-in-Index c = λ w at.
    let m = c.in-Index in
    rw m.is
    (two_gone w c.args.below m.object m.key (parts_mentions w c.two-in-Index.new.parts.items) (parts_mentions w c.args.parts.now.items)
    (c.in_ok-two-in-Index.ensures w))

pub returns-in_ok-all-in-Let : goal.returns-in_ok-all-in-Let
returns-in_ok-all-in-Let c = λ w at.
    let m = c.in-Let in
    rw m.is
    (let_gone w at c.args.below m.block m.value (parts_mentions w c.all-in-Let.new.parts.items)
    (parts_mentions w c.expression-in-Let.new.parts.items) (parts_mentions w c.args.parts.now.items)
    (c.in_ok-expression-in-Let.ensures w) (rw c.as_slice-in-Let.ensures at (c.in_ok-all-in-Let.ensures w)))
