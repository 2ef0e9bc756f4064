use Rattle.std.proofs.Common.{◌≡◌, [], rules, ◌∙◌}
use Rattle.check_model.specs.contracts.typing.Typing.{the_view}
use Rattle.check_expr.specs.Quoted.{names_ahead, wrong_from}
use Rattle.check_expr.proofs.Walking.{begun, taken, is_first, is_later, nothing_left}
use Rattle.check_expr.proofs.quoted.first_wrong.Goals as goal

pub ahead-init : goal.ahead-init
ahead-init c =
    let a = c.args in
    begun (the_view c.typing.inside) a.typing.now a.base c.new-scopes.result a.made c.new-ahead.result.items c.parts_at.new.ahead.items
    c.typing.view_is c.new-scopes.ensures.declared c.new-scopes.ensures.marks c.new-ahead.ensures.items c.in_ok-parts_at.ensures

pub ahead-preserved : goal.ahead-preserved
ahead-preserved c =
    let a = c.args in
    let w = a.typing.now in
    is_later c.in_ok-wrong.wrong (wrong_from w a.base c.go_on.new.scopes (names_ahead w.stage c.go_on.new.ahead.items)) c.if-is_some.ensures
    ∙ c.in_ok-wrong.ensures
    ∙ taken w a.base c.ahead.scopes c.ahead.ahead.items c.pop.new.self.items c.in-Some.next c.in-Some.ensures.items
    ∙ c.ahead.invariant

pub returns-in_default : goal.returns-in_default
returns-in_default c =
    let a = c.args in
    let none : c.ahead.ahead.items ≡ [] = search rules in
    nothing_left a.typing.now a.base c.ahead.scopes c.ahead.ahead.items none ∙ c.ahead.invariant

pub returns-then-is_some : goal.returns-then-is_some
returns-then-is_some c =
    let a = c.args in
    let w = a.typing.now in
    is_first c.in_ok-wrong.wrong (wrong_from w a.base c.go_on.new.scopes (names_ahead w.stage c.go_on.new.ahead.items)) c.if-is_some.ensures
    ∙ c.in_ok-wrong.ensures
    ∙ taken w a.base c.ahead.scopes c.ahead.ahead.items c.pop.new.self.items c.in-Some.next c.in-Some.ensures.items
    ∙ c.ahead.invariant
