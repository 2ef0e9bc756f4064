use Rattle.std.proofs.Common.{◌≡◌, refl, sym, ap, ◌∙◌, List, []}
use Rattle.tl_base.specs.declared.ids.EnvId.{EnvId}
use Rattle.tl_base.specs.declared.ids.NodeId.{NodeId}
use Rattle.tl_base.specs.declared.ids.TermId.{TermId}
use Rattle.tl_base.specs.declared.machine.Step.TheVariants.{Return}
use Rattle.tl_base.specs.declared.place.Place.{Place}
use Rattle.tl_tree.specs.Arena.{items_of}
use Rattle.tl_tree.specs.Code.{Items}
use Rattle.tl_tree.specs.Item.{Item}
use Rattle.tl_tree.specs.Item as kept
use Rattle.tl_tree.specs.Nodes.{item_at, item_of}
use Rattle.tl_tree.specs.declared.node.Node.{Node}
use Rattle.tl_tree.specs.declared.node.Node.TheVariants as nodes
use Rattle.tl_tree.specs.declared.node.TerraStatement.{TerraStatement}
use Rattle.spec_model.specs.declared.end.End.TheVariants.{Joined}
use Rattle.spec_model.specs.Statements.{statement_plan, statement_of, joined}
use Rattle.spec_machine.proofs.Doing.{moved}
use Rattle.tl_base.proofs.Results.{carried}
use Rattle.spec_machine.proofs.Entering.{gives}
use Rattle.spec_machine.proofs.statements.statement.Goals as goal

-- what is no statement of Terra code does nothing
other_statement : (items : Items) (node : Node) (item : Item) (n : NodeId) (env : EnvId)
    → item_of node ≡ item → ((place : Place) (x : TerraStatement) → node ≡ nodes.TerraStatement place x → ⊥)
    → statement_plan items item n env ≡ joined []
other_statement items (nodes.TerraStatement place x) item n env is not_statement = absurd (not_statement place x refl)
other_statement items node item n env is not_statement = ap (λ (i : Item). statement_plan items i n env) (sym is)

pub returns-in-TerraStatement-clause-means : goal.returns-in-TerraStatement-clause-means
returns-in-TerraStatement-clause-means c =
    let a = c.args in
    let m = c.in-TerraStatement in
    let items = items_of a.tree.now in
    let w = a.world.now in
    let is : item_at items a.node ≡ kept.TerraStatement m.place m.statement = sym c.node.ensures ∙ ap item_of m.is in
    carried _ _ c.specialise.result c.specialise.ensures.means (λ step g.
    moved items a.frames.now.items c.specialise.new.frames.items (statement_plan items (item_at items a.node) a.node a.env)
    (statement_of items m.statement a.node m.place a.env) w w c.specialise.new.world a.budget.now c.specialise.new.budget step
    (ap (λ (i : Item). statement_plan items i a.node a.env) is) refl g)

pub returns-in_ok-none-in_default-clause-means : goal.returns-in_ok-none-in_default-clause-means
returns-in_ok-none-in_default-clause-means c =
    let a = c.args in
    let items = items_of a.tree.now in
    let w = a.world.now in
    let none = c.in_ok-none-in_default.none in
    moved items a.frames.now.items a.frames.now.items (statement_plan items (item_at items a.node) a.node a.env) (joined []) w w w
    a.budget.now a.budget.now (Return (Joined none))
    (other_statement items c.node.result.now (item_at items a.node) a.node a.env c.node.ensures c.in_default.not-TerraStatement) refl
    (gives items a.frames.now.items (Joined []) (Joined none) w a.budget.now
    (ap (λ (ts : List TermId). Joined ts) (c.in_ok-none-in_default.ensures ∙ c.new.ensures)))
