use Rattle.std.proofs.Common.{ap, sym, ◌∙◌}
use Rattle.check_model.specs.Expressions.{is_in}
use Rattle.check_expr.proofs.Scoping.{in_reversed}
use Rattle.check_expr.proofs.quoted.Scopes.has.Goals as goal

pub declared-init : goal.declared-init
declared-init c =
    let a = c.args in
    ap (is_in a.symbol) c.as_slice-declared-items.ensures.value ∙ sym (in_reversed a.symbol a.self.now.declared.items)
