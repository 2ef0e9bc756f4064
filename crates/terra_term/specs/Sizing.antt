-- The size of a node by the kept sizes of the nodes before it: a view of the code, which private contracts cite.
use Rattle.std.specs.Prelude.{◌≡◌, ℕ, List, [], ◌∷◌, length, Option, Some, None, slice_get}
use Rattle.tl_base.specs.declared.ids.TermId.{TermId}
use Rattle.terra_types.specs.Grown.{grown}
use Rattle.terra_term.specs.declared.size.Size.{Size}
use Rattle.terra_term.specs.declared.size.SizedNode.{SizedNode}
use Rattle.terra_term.specs.declared.size.SizedNode.TheVariants as sized
use Rattle.terra_term.specs.declared.term.Term as nodes
use Rattle.terra_term.specs.declared.term.Term.TheVariants as kinds
use Rattle.terra_term.specs.declared.term.Expression as expressions
use Rattle.terra_term.specs.declared.term.Expression.TheVariants as e
use Rattle.terra_term.specs.declared.term.Statement as statements
use Rattle.terra_term.specs.declared.term.Statement.TheVariants as s
use Rattle.terra_term.specs.declared.term.Initialiser.TheVariants.{Positional, Named}
use Rattle.terra_term.specs.declared.typed.Typed as typed_nodes
use Rattle.terra_term.specs.declared.typed.Typed.TheVariants as typed_kinds
use Rattle.terra_term.specs.declared.typed.TypedExpression as typed_expressions
use Rattle.terra_term.specs.declared.typed.TypedExpression.TheVariants as te
use Rattle.terra_term.specs.declared.typed.TypedStatement as typed_statements
use Rattle.terra_term.specs.declared.typed.TypedStatement.TheVariants as ts
use Rattle.terra_term.specs.declared.store.Quote.{Quote}
use Rattle.terra_term.specs.Held.{NamesTyped, QuotesTyped}
use Rattle.terra_term.specs.Sizes.{none, leaf, joined, above, names_size, capped, callee_size}

abbrev pub of_expression : Size → SizedNode
of_expression s = sized.Expression s.levels s.nodes

abbrev pub of_statement : Size → SizedNode
of_statement s = sized.Statement s.levels s.nodes

abbrev pub of_function : Size → SizedNode
of_function s = sized.Function s.levels s.nodes

abbrev pub node_size : SizedNode → Size
node_size (sized.Expression levels nodes) = record { nodes = nodes; levels = levels }
node_size (sized.Statement levels nodes) = record { nodes = nodes; levels = levels }
node_size (sized.Function levels nodes) = record { nodes = nodes; levels = levels }

abbrev pub beside : Size → Size → Size
beside a b = capped (joined a b)

abbrev pub around : Size → Size
around parts = capped (above parts)

abbrev pub named : ℕ → Size
named n = capped (names_size n)

-- the size of an expression before, and of a statement; of what isn't there, that of nil and of a break

abbrev pub expression_in : Option SizedNode → Size
expression_in (Some (sized.Expression levels nodes)) = record { nodes = nodes; levels = levels }
expression_in _ = leaf

abbrev pub expression_at : List SizedNode → TermId → Size
expression_at before t = expression_in (slice_get before t.0)

abbrev pub statement_in : Option SizedNode → Size
statement_in (Some (sized.Statement levels nodes)) = record { nodes = nodes; levels = levels }
statement_in _ = leaf

abbrev pub statement_at : List SizedNode → TermId → Size
statement_at before t = statement_in (slice_get before t.0)

abbrev pub list_at : List SizedNode → List TermId → Size
list_at before [] = none
list_at before (t ∷ ts) = beside (expression_at before t) (list_at before ts)

abbrev pub block_at : List SizedNode → List TermId → Size
block_at before [] = none
block_at before (t ∷ ts) = beside (statement_at before t) (block_at before ts)

-- typed nodes

abbrev pub typed_form : List SizedNode → typed_expressions.TypedExpression → Size
typed_form before (te.Constant c) = leaf
typed_form before (te.Variable x) = leaf
typed_form before (te.Global address) = leaf
typed_form before (te.Operate op es) = around (beside (callee_size op) (list_at before es))
typed_form before (te.Both a b) = around (beside (expression_at before a) (expression_at before b))
typed_form before (te.Either a b) = around (beside (expression_at before a) (expression_at before b))
typed_form before (te.Dereference p) = around (expression_at before p)
typed_form before (te.Select offset a) = around (expression_at before a)
typed_form before (te.Follow offset p) = around (expression_at before p)
typed_form before (te.Element a i) = around (beside (expression_at before a) (expression_at before i))
typed_form before (te.Index p i) = around (beside (expression_at before p) (expression_at before i))
typed_form before (te.Address a) = around (expression_at before a)
typed_form before (te.Decay a) = around (expression_at before a)
typed_form before (te.Let block a) = around (beside (block_at before block) (expression_at before a))

abbrev pub choice : List SizedNode → TermId → List TermId → Option (List TermId) → Size
choice before test then_block None = around (beside (expression_at before test) (block_at before then_block))
choice before test then_block (Some else_block) =
    around (beside (beside (expression_at before test) (block_at before then_block)) (block_at before else_block))

abbrev pub typed_return : List SizedNode → Option TermId → Size
typed_return before None = leaf
typed_return before (Some t) = around (expression_at before t)

abbrev pub typed_doing : List SizedNode → typed_statements.TypedStatement → Size
typed_doing before (ts.Var names values) = around (beside (named (length names)) (list_at before values))
typed_doing before (ts.Assign targets values) = around (beside (list_at before targets) (list_at before values))
typed_doing before (ts.If test then_block else_block) = choice before test then_block else_block
typed_doing before (ts.While test body) = around (beside (expression_at before test) (block_at before body))
typed_doing before (ts.Repeat body test) = around (beside (block_at before body) (expression_at before test))
typed_doing before (ts.For name bounds body) = around (beside (list_at before bounds) (block_at before body))
typed_doing before (ts.Do body) = around (block_at before body)
typed_doing before ts.Break = leaf
typed_doing before (ts.Return value) = typed_return before value
typed_doing before (ts.Perform a) = around (expression_at before a)

abbrev pub typed_sized : List SizedNode → typed_nodes.Typed → SizedNode
typed_sized before (typed_kinds.Expression at of x) = of_expression (typed_form before x)
typed_sized before (typed_kinds.Statement at x) = of_statement (typed_doing before x)
typed_sized before (typed_kinds.Function parameters result body) =
    of_function (around (beside (named (length parameters)) (block_at before body)))

-- specialised nodes, beside the kept sizes of the typed ones

abbrev pub form : List SizedNode → List SizedNode → expressions.Expression → Size
form made before (e.Number bits of) = leaf
form made before (e.Truth b) = leaf
form made before e.Nil = leaf
form made before (e.Variable x) = leaf
form made before (e.Function f) = leaf
form made before (e.Primitive p) = leaf
form made before (e.Static address) = leaf
form made before (e.Global g) = leaf
form made before (e.Type t) = leaf
form made before (e.Macro m) = leaf
form made before e.SizeOf = leaf
form made before (e.Unary op a) = around (expression_at before a)
form made before (e.Binary op a b) = around (beside (expression_at before a) (expression_at before b))
form made before (e.Call f arguments) = around (beside (expression_at before f) (list_at before arguments))
form made before (e.Method o name arguments) = around (beside (expression_at before o) (list_at before arguments))
form made before (e.Select o field) = around (expression_at before o)
form made before (e.Index a i) = around (beside (expression_at before a) (expression_at before i))
form made before (e.New of (Positional values)) = around (list_at before values)
form made before (e.New of (Named fields values)) = around (list_at before values)
form made before (e.Let block a) = around (beside (block_at before block) (expression_at before a))
form made before (e.Typed source t) = expression_at made t

abbrev pub var_of : List SizedNode → ℕ → Option (List TermId) → Size
var_of before n None = around (named n)
var_of before n (Some values) = around (beside (named n) (list_at before values))

abbrev pub doing : List SizedNode → statements.Statement → Size
doing before (s.Var names values) = var_of before (length names) values
doing before (s.Assign targets values) = around (beside (list_at before targets) (list_at before values))
doing before (s.If test then_block else_block) = choice before test then_block else_block
doing before (s.While test body) = around (beside (expression_at before test) (block_at before body))
doing before (s.Repeat body test) = around (beside (block_at before body) (expression_at before test))
doing before (s.For name bounds body) = around (beside (list_at before bounds) (block_at before body))
doing before (s.Do body) = around (block_at before body)
doing before s.Break = leaf
doing before (s.Return values) = around (list_at before values)
doing before (s.Perform a) = around (expression_at before a)

abbrev pub term_sized : List SizedNode → List SizedNode → nodes.Term → SizedNode
term_sized made before (kinds.Expression at x) = of_expression (form made before x)
term_sized made before (kinds.Statement at x) = of_statement (doing before x)
term_sized made before (kinds.Function parameters result body) =
    of_function (around (beside (named (length parameters)) (block_at before body)))

-- what is kept of all nodes

abbrev pub typed_kept : List typed_nodes.Typed → List SizedNode
typed_kept ns = grown typed_sized [] ns

abbrev pub terms_kept : List SizedNode → List nodes.Term → List SizedNode
terms_kept made ns = grown (term_sized made) [] ns

abbrev pub AllHold : {A : Type 0} → (A → Type 0) → List A → Type 0
AllHold P [] = Unit {0}
AllHold P (x ∷ xs) = P x × AllHold P xs

-- What a store keeps of sizes, and that its quotes and nodes name typed terms that are there.
pub record AreSized
    (quotes : List Quote) (terms : List nodes.Term) (typed : List typed_nodes.Typed)
    (term_sizes typed_sizes : List SizedNode) : Type 0 where
  pub of_typed : typed_sizes ≡ typed_kept typed
  pub of_terms : term_sizes ≡ terms_kept typed_sizes terms
  pub named : AllHold (NamesTyped (length typed)) terms
  pub quoted : AllHold (QuotesTyped (length typed)) quotes
