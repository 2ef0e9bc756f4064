use Rattle.std.proofs.Common.{refl, sym, ap, ◌∙◌, List, [], ◌∷◌, ◌≤◌, ◌<◌, ℕ, ◌≡◌, ◌-◌, arith}
use Rattle.tl_base.specs.declared.ids.NodeId.{NodeId}
use Rattle.tl_base.specs.declared.machine.Step.TheVariants.{Spent}
use Rattle.tl_tree.specs.Arena.{items_of}
use Rattle.spec_machine.specs.declared.frame.VarFrame.{VarFrame}
use Rattle.spec_machine.specs.Frames.{wanted_from, variable_plan}
use Rattle.spec_machine.proofs.Doing.{moved, pays}
use Rattle.spec_machine.proofs.Paying.{unpaid_step}
use Rattle.tl_base.proofs.Results.{carried}
use Rattle.spec_machine.proofs.Pushing.{none_is}
use Rattle.spec_machine.proofs.variables.variables.Goals as goal

pub returns-in-None-clause-means : goal.returns-in-None-clause-means
returns-in-None-clause-means c =
    let a = c.args in
    let f = a.frame in
    let items = items_of a.tree.now in
    carried _ _ c.values.result c.values.ensures.means (λ step g.
    moved items a.frames.now.items c.values.new.frames.items (wanted_from items f f.rest.now f.wanted) (wanted_from items f [] f.wanted)
    a.world.now a.world.now c.values.new.world a.budget.now a.budget.now step
    (ap (λ (ns : List NodeId). wanted_from items f ns f.wanted) (none_is f.rest.now c.in-None.ensures.cases)) refl
    (g items a.budget.now))

pub returns-then-not-pay-clause-means : goal.returns-then-not-pay-clause-means
returns-then-not-pay-clause-means c =
    let a = c.args in
    let f = a.frame in
    let items = items_of a.tree.now in
    let fs = a.frames.now.items in
    let n = c.in-Some.first.now in
    let rest = c.in-Some.rest in
    let w = a.world.now in
    let left = a.budget.now in
    let after = c.pay.new.self in
    let g : VarFrame = record { rest = rest; values = f.values; place = f.place; env = f.env; wanted = f.wanted } in
    moved items fs fs (wanted_from items f f.rest.now f.wanted) (wanted_from items f (n ∷ rest.now) f.wanted) w w w left after Spent
    (ap (λ (ns : List NodeId). wanted_from items f ns f.wanted) c.in-Some.ensures.cases.0) refl
    (unpaid_step items fs 1 (variable_plan items n g) w left after c.if-not-pay.ensures.short c.if-not-pay.ensures.refused)

pub returns-else-not-pay-clause-means : goal.returns-else-not-pay-clause-means
returns-else-not-pay-clause-means c =
    let a = c.args in
    let f = a.frame in
    let items = items_of a.tree.now in
    let fs = a.frames.now.items in
    let fs2 = c.variable.new.frames.items in
    let n = c.in-Some.first.now in
    let rest = c.in-Some.rest in
    let w = a.world.now in
    let w2 = c.variable.new.world in
    let left = a.budget.now in
    let after = c.pay.new.self in
    let g : VarFrame = record { rest = rest; values = f.values; place = f.place; env = f.env; wanted = f.wanted } in
    let enough : 1 ≤ left = grind (arith, c.if-not-pay.ensures.enough) in
    carried _ _ c.variable.result c.variable.ensures.means (λ step h.
    moved items fs fs2 (wanted_from items f f.rest.now f.wanted) (wanted_from items f (n ∷ rest.now) f.wanted) w w w2 left after step
    (ap (λ (ns : List NodeId). wanted_from items f ns f.wanted) c.in-Some.ensures.cases.0) refl
    (pays items fs fs2 1 (variable_plan items n g) w w2 left after after step enough c.if-not-pay.ensures.paid (h after)))
