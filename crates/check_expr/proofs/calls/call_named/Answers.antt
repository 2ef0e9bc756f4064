use Rattle.tl_base.proofs.Results.{carried}
use Rattle.check_expr.proofs.calls.call_named.Goals as goal

pub returns-in-Function-clause-means : goal.returns-in-Function-clause-means
returns-in-Function-clause-means c = carried _ _ c.call_function.result c.call_function.ensures.means (λ step g. rw c.in-Function.is
    (g c.args.budget.now))

pub returns-in-Primitive-clause-means : goal.returns-in-Primitive-clause-means
returns-in-Primitive-clause-means c = carried _ _ c.call_primitive.result c.call_primitive.ensures.means (λ step g. rw c.in-Primitive.is
    (g c.args.budget.now))

pub returns-in-Macro-clause-means : goal.returns-in-Macro-clause-means
returns-in-Macro-clause-means c = carried _ _ c.call_macro.result c.call_macro.ensures.means (λ step g.
    rw c.in-Macro.is (g c.args.budget.now))

pub returns-in-Type-clause-means : goal.returns-in-Type-clause-means
returns-in-Type-clause-means c = carried _ _ c.cast.result c.cast.ensures.means (λ step g. rw c.in-Type.is (g c.args.budget.now))

pub returns-in-SizeOf-clause-means : goal.returns-in-SizeOf-clause-means
returns-in-SizeOf-clause-means c = carried _ _ c.call_size.result c.call_size.ensures.means (λ step g. rw c.in-SizeOf.is g)

pub returns-in-Value-clause-means : goal.returns-in-Value-clause-means
returns-in-Value-clause-means c =
    rw c.in-Value.is (c.refuse.ensures.means c.args.typing.now c.args.budget.now c.args.frames.now.items)
