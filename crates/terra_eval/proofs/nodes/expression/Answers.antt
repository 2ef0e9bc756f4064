use Rattle.std.proofs.Common.{ap, Option}
use Rattle.terra_term.specs.TypedTerms as typed
use Rattle.terra_term.specs.Planted.{typed_in}
use Rattle.terra_eval.proofs.Growing.{part-tree}
use Rattle.terra_eval.proofs.nodes.expression.Goals as goal

pub returns-in-Some-Expression-clause-tree : goal.returns-in-Some-Expression-clause-tree
returns-in-Some-Expression-clause-tree c =
    ap (λ (i : Option typed.Item). typed_in i)
    (part-tree c.args.store.now.typed c.args.below c.args.node.0 _ (rw c.in-Some-Expression.field-0-is at c.in-Some-Expression.ensures.node))

pub returns-in-Some-Statement-clause-tree : goal.returns-in-Some-Statement-clause-tree
returns-in-Some-Statement-clause-tree c =
    ap (λ (i : Option typed.Item). typed_in i)
    (part-tree c.args.store.now.typed c.args.below c.args.node.0 _ (rw c.in-Some-Statement.field-0-is at c.in-Some-Statement.ensures.node))

pub returns-in-Some-Function-clause-tree : goal.returns-in-Some-Function-clause-tree
returns-in-Some-Function-clause-tree c =
    ap (λ (i : Option typed.Item). typed_in i)
    (part-tree c.args.store.now.typed c.args.below c.args.node.0 _ (rw c.in-Some-Function.field-0-is at c.in-Some-Function.ensures.node))

pub returns-in-None-clause-tree : goal.returns-in-None-clause-tree
returns-in-None-clause-tree c =
    ap (λ (i : Option typed.Item). typed_in i)
    (part-tree c.args.store.now.typed c.args.below c.args.node.0 _ c.in-None.ensures.node)
