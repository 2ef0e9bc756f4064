-- The trees of a store's nodes: the parts of a node stand before it, and what isn't there, or isn't of its kind, is nil or a break.
use Rattle.std.specs.Prelude.{ℕ, List, Some, take, slice_get}
use Rattle.tl_base.specs.declared.place.Place.{Place}
use Rattle.tl_base.specs.declared.ids.TermId.{TermId}
use Rattle.tl_base.specs.declared.ids.TypeId.{TypeId}
use Rattle.terra_term.specs.declared.typed.Typed.TheVariants as nodes
use Rattle.terra_term.specs.declared.typed.TypedExpression.{TypedExpression}
use Rattle.terra_term.specs.declared.typed.TypedStatement.{TypedStatement}
use Rattle.terra_term.specs.TypedTerms as typed
use Rattle.terra_term.specs.Planted.{nowhere, typed_at, typed_block_at, typed_doing_in, typed_in, typed_list_at, typed_planted, typed_trees}
use Rattle.terra_term.specs.Held.{Held}
use Rattle.terra_term.specs.Stores.{Callable}
use Rattle.terra_eval.specs.declared.nodes.Callable as code

-- the trees before a number
abbrev pub before : Held → ℕ → List typed.Item
before store below = take below (typed_trees store.typed)

abbrev pub expression_before : Held → ℕ → TermId → typed.Expression
expression_before store below node = typed_at (before store below) node

abbrev pub list_before : Held → ℕ → List TermId → typed.Expressions
list_before store below nodes = typed_list_at (before store below) nodes

abbrev pub statement_before : Held → ℕ → TermId → typed.Statement
statement_before store below node = typed_doing_in (slice_get (before store below) node.0)

abbrev pub block_before : Held → ℕ → List TermId → typed.Statements
block_before store below nodes = typed_block_at (before store below) nodes

-- an expression, and a statement, whose parts are before a number
abbrev pub expression_tree : Held → ℕ → Place → TypeId → TypedExpression → typed.Expression
expression_tree store below at of form = typed_in (Some (typed_planted (before store below) (nodes.Expression at of form)))

abbrev pub statement_tree : Held → ℕ → Place → TypedStatement → typed.Statement
statement_tree store below at doing = typed_doing_in (Some (typed_planted (before store below) (nodes.Statement at doing)))

abbrev pub absent_statement : typed.Statement
absent_statement = typed.statement nowhere typed.Break

-- a function that can be called
abbrev pub callable_tree : Held → code.Callable → Callable
callable_tree store k = record {
  at = k.at;
  body = record {
    parameters = k.parameters.now;
    result = k.result;
    body = block_before store k.node k.body.now;
  };
}
