use Rattle.tl_base.proofs.Results.{carried}
use Rattle.check_expr.proofs.layouts.with_layout.Goals as goal

pub returns-in-Value-clause-means : goal.returns-in-Value-clause-means
returns-in-Value-clause-means c = rw c.in-Value.is (c.value_if_narrow.ensures.means c.args.budget.now c.args.frames.now.items)

pub returns-in-Makes-clause-means : goal.returns-in-Makes-clause-means
returns-in-Makes-clause-means c = carried _ _ c.gives.result c.gives.ensures.means (λ step g. rw c.in-Makes.is (g c.args.budget.now
    c.args.frames.now.items))

pub returns-in-Difference-clause-means : goal.returns-in-Difference-clause-means
returns-in-Difference-clause-means c = carried _ _ c.difference.result c.difference.ensures.means (λ step g. rw c.in-Difference.is (g
    c.args.budget.now c.args.frames.now.items))

pub returns-in-Size-clause-means : goal.returns-in-Size-clause-means
returns-in-Size-clause-means c = carried _ _ c.size.result c.size.ensures.means (λ step g. rw c.in-Size.is (g c.args.budget.now
    c.args.frames.now.items))

pub returns-in-Entry-clause-means : goal.returns-in-Entry-clause-means
returns-in-Entry-clause-means c = carried _ _ c.with_entry.result c.with_entry.ensures.means (λ step g. rw c.in-Entry.is (g c.args.budget.now))

pub returns-in-New-clause-means : goal.returns-in-New-clause-means
returns-in-New-clause-means c = carried _ _ c.construct.result c.construct.ensures.means (λ step g. rw c.in-New.is (g c.args.budget.now))

pub returns-in-Name-clause-means : goal.returns-in-Name-clause-means
returns-in-Name-clause-means c = carried _ _ c.with_name.result c.with_name.ensures.means (λ step g. rw c.in-Name.is g)

pub returns-in-Parameter-clause-means : goal.returns-in-Parameter-clause-means
returns-in-Parameter-clause-means c = carried _ _ c.with_parameter.result c.with_parameter.ensures.means (λ step g. rw c.in-Parameter.is g)
