use Rattle.std.proofs.Common.{◌≡◌, ℕ, ◌-◌, refl, sym, ap, ◌∙◌, rules}
use Rattle.tl_base.specs.declared.ids.TypeId.{TypeId}
use Rattle.tl_base.specs.Plan.{Give}
use Rattle.tl_tree.specs.Arena.{items_of}
use Rattle.tl_tree.specs.Code.{place_at}
use Rattle.tl_tree.specs.Item.{Item}
use Rattle.tl_tree.specs.Item as kept
use Rattle.tl_tree.specs.Nodes.{item_at}
use Rattle.tl_tree.specs.Scopes.{binder}
use Rattle.terra_term.specs.declared.term.Expression.TheVariants as e
use Rattle.spec_model.specs.declared.end.End.TheVariants as ends
use Rattle.spec_model.specs.Nodes as nodes
use Rattle.spec_model.specs.Plans as plans
use Rattle.spec_model.specs.Plans.{SpecPlan}
use Rattle.spec_model.specs.Expressions as expressions
use Rattle.spec_machine.proofs.Doing.{moved}
use Rattle.tl_lex.specs.Values.{value_of as literal_value}
use Rattle.spec_machine.proofs.expressions.node.Goals as goal

pub returns-in_ok-step-in-Name-clause-means : goal.returns-in_ok-step-in-Name-clause-means
returns-in_ok-step-in-Name-clause-means c =
    let a = c.args in
    let n = a.node in
    let env = a.env in
    let items = items_of a.tree.now in
    let fs = a.frames.now.items in
    let w = a.world.now in
    let left = a.budget.now in
    let plan : Item → SpecPlan = λ i. expressions.expression_plan items i n env in
    let m = c.in-Name in
    let is : item_at items n ≡ kept.Name m.place m.field-1 m.name.now = search rules in
    moved items fs c.use_of.new.frames.items (plan (item_at items n)) (expressions.named_value (binder items n) m.name.now m.place env (expressions.found m.place))
    w w c.use_of.new.world left left c.in_ok-step-in-Name.step (ap plan is) refl
    (c.in_ok-step-in-Name.ensures.means items left c.requires)

pub returns-in_ok-step-in-Numeral-clause-means : goal.returns-in_ok-step-in-Numeral-clause-means
returns-in_ok-step-in-Numeral-clause-means c =
    let a = c.args in
    let n = a.node in
    let env = a.env in
    let items = items_of a.tree.now in
    let fs = a.frames.now.items in
    let w = a.world.now in
    let left = a.budget.now in
    let plan : Item → SpecPlan = λ i. expressions.expression_plan items i n env in
    let m = c.in-Numeral in
    let is : item_at items n ≡ kept.Numeral m.place m.digits.now = search rules in
    let number : ℕ → TypeId → SpecPlan = λ x t. plans.make m.place (e.Number x t) in
    moved items fs fs (plan (item_at items n)) (number c.numeral.result c.numeral_type.result) w w c.make.new.world left left c.in_ok-step-in-Numeral.step
    (ap plan is ∙ ap (λ (x : ℕ). number x (nodes.numeral_type m.digits.now)) (sym c.numeral.ensures)
    ∙ ap (λ (t : TypeId). number c.numeral.result t) (sym c.numeral_type.ensures)) refl (c.in_ok-step-in-Numeral.ensures.means items left fs)

pub returns-in_ok-step-in-Literal-clause-means : goal.returns-in_ok-step-in-Literal-clause-means
returns-in_ok-step-in-Literal-clause-means c =
    let a = c.args in
    let n = a.node in
    let env = a.env in
    let items = items_of a.tree.now in
    let fs = a.frames.now.items in
    let w = a.world.now in
    let left = a.budget.now in
    let plan : Item → SpecPlan = λ i. expressions.expression_plan items i n env in
    let m = c.in-Literal in
    let is : item_at items n ≡ kept.Literal m.place m.written.now = search rules in
    moved items fs fs (plan (item_at items n)) (plans.literal (literal_value m.written.now) m.place (λ t. Give (ends.Made t))) w w c.written_text.new.world
    left c.written_text.new.budget c.in_ok-step-in-Literal.step (ap plan is) refl (c.in_ok-step-in-Literal.ensures.means items fs)

pub returns-in_ok-step-in-TerraExpression-clause-means : goal.returns-in_ok-step-in-TerraExpression-clause-means
returns-in_ok-step-in-TerraExpression-clause-means c =
    let a = c.args in
    let n = a.node in
    let env = a.env in
    let items = items_of a.tree.now in
    let fs = a.frames.now.items in
    let w = a.world.now in
    let left = a.budget.now in
    let plan : Item → SpecPlan = λ i. expressions.expression_plan items i n env in
    let m = c.in-TerraExpression in
    let is : item_at items n ≡ kept.TerraExpression m.place m.expression = search rules in
    moved items fs c.specialise.new.frames.items (plan (item_at items n)) (expressions.expression_of items m.expression m.place env) w w c.specialise.new.world
    left left c.in_ok-step-in-TerraExpression.step (ap plan is) refl (c.in_ok-step-in-TerraExpression.ensures.means left)

pub returns-in_ok-step-in-Expression-clause-means : goal.returns-in_ok-step-in-Expression-clause-means
returns-in_ok-step-in-Expression-clause-means c =
    let a = c.args in
    let n = a.node in
    let env = a.env in
    let items = items_of a.tree.now in
    let fs = a.frames.now.items in
    let w = a.world.now in
    let left = a.budget.now in
    let plan : Item → SpecPlan = λ i. expressions.expression_plan items i n env in
    let m = c.in-Expression in
    let is : item_at items n ≡ kept.Expression m.field-0 m.field-1 = search rules in
    moved items fs fs (plan (item_at items n)) (plans.make (place_at items n) e.Nil) w w c.nothing.new.world left left c.in_ok-step-in-Expression.step
    (ap plan is) refl (c.in_ok-step-in-Expression.ensures.means left fs)

pub returns-in_ok-step-in-Statement-clause-means : goal.returns-in_ok-step-in-Statement-clause-means
returns-in_ok-step-in-Statement-clause-means c =
    let a = c.args in
    let n = a.node in
    let env = a.env in
    let items = items_of a.tree.now in
    let fs = a.frames.now.items in
    let w = a.world.now in
    let left = a.budget.now in
    let plan : Item → SpecPlan = λ i. expressions.expression_plan items i n env in
    let m = c.in-Statement in
    let is : item_at items n ≡ kept.Statement m.field-0 m.field-1 = search rules in
    moved items fs fs (plan (item_at items n)) (plans.make (place_at items n) e.Nil) w w c.nothing-in-Statement.new.world left left c.in_ok-step-in-Statement.step
    (ap plan is) refl (c.in_ok-step-in-Statement.ensures.means left fs)

pub returns-in_ok-step-in-TerraStatement-clause-means : goal.returns-in_ok-step-in-TerraStatement-clause-means
returns-in_ok-step-in-TerraStatement-clause-means c =
    let a = c.args in
    let n = a.node in
    let env = a.env in
    let items = items_of a.tree.now in
    let fs = a.frames.now.items in
    let w = a.world.now in
    let left = a.budget.now in
    let plan : Item → SpecPlan = λ i. expressions.expression_plan items i n env in
    let m = c.in-TerraStatement in
    let is : item_at items n ≡ kept.TerraStatement m.field-0 m.field-1 = search rules in
    moved items fs fs (plan (item_at items n)) (plans.make (place_at items n) e.Nil) w w c.nothing-in-TerraStatement.new.world left left c.in_ok-step-in-TerraStatement.step
    (ap plan is) refl (c.in_ok-step-in-TerraStatement.ensures.means left fs)

pub returns-in_ok-step-in-Piece-clause-means : goal.returns-in_ok-step-in-Piece-clause-means
returns-in_ok-step-in-Piece-clause-means c =
    let a = c.args in
    let n = a.node in
    let env = a.env in
    let items = items_of a.tree.now in
    let fs = a.frames.now.items in
    let w = a.world.now in
    let left = a.budget.now in
    let plan : Item → SpecPlan = λ i. expressions.expression_plan items i n env in
    let m = c.in-Piece in
    let is : item_at items n ≡ kept.Piece m.field-0 = search rules in
    moved items fs fs (plan (item_at items n)) (plans.make (place_at items n) e.Nil) w w c.nothing-in-Piece.new.world left left c.in_ok-step-in-Piece.step
    (ap plan is) refl (c.in_ok-step-in-Piece.ensures.means left fs)
