-- The trees of nodes. A node's parts have smaller numbers than it has, so its tree is made of those of the nodes before it: a new
-- node adds a tree and changes none. A part that isn't before it, or isn't of the kind that its place asks for, is nil, or a break.
use Rattle.std.specs.Prelude.{List, [], ◌∷◌, Option, Some, None, slice_get}
use Rattle.tl_base.specs.declared.place.Place.{Place}
use Rattle.tl_base.specs.declared.ids.TermId.{TermId}
use Rattle.terra_types.specs.Grown.{grown}
use Rattle.terra_types.specs.Opening.{rawstring}
use Rattle.terra_term.specs.declared.operators.Constant.TheVariants as constants
use Rattle.terra_term.specs.declared.term.Term as nodes
use Rattle.terra_term.specs.declared.term.Term.TheVariants as kinds
use Rattle.terra_term.specs.declared.term.Expression as expressions
use Rattle.terra_term.specs.declared.term.Expression.TheVariants as e
use Rattle.terra_term.specs.declared.term.Statement as statements
use Rattle.terra_term.specs.declared.term.Statement.TheVariants as s
use Rattle.terra_term.specs.declared.term.Initialiser.TheVariants.{Positional, Named}
use Rattle.terra_term.specs.declared.typed.Typed as typed_nodes
use Rattle.terra_term.specs.declared.typed.Typed.TheVariants as typed_kinds
use Rattle.terra_term.specs.declared.typed.TypedExpression as typed_expressions
use Rattle.terra_term.specs.declared.typed.TypedExpression.TheVariants as te
use Rattle.terra_term.specs.declared.typed.TypedStatement as typed_statements
use Rattle.terra_term.specs.declared.typed.TypedStatement.TheVariants as ts
use Rattle.terra_term.specs.declared.lists.VarName as lists
use Rattle.terra_term.specs.Terms as terms
use Rattle.terra_term.specs.TypedTerms as typed

abbrev pub nowhere : Place
nowhere = record { line = 0; word = 0 }

-- typed terms

abbrev pub absent_typed : typed.Expression
absent_typed = typed.typed nowhere rawstring (typed.Constant' constants.Nil)

abbrev pub typed_in : Option typed.Item → typed.Expression
typed_in (Some (typed.expression x)) = x
typed_in _ = absent_typed

abbrev pub typed_at : List typed.Item → TermId → typed.Expression
typed_at before t = typed_in (slice_get before t.0)

abbrev pub typed_doing_in : Option typed.Item → typed.Statement
typed_doing_in (Some (typed.doing x)) = x
typed_doing_in _ = typed.statement nowhere typed.Break

abbrev pub typed_list_at : List typed.Item → List TermId → typed.Expressions
typed_list_at before [] = typed.no_more
typed_list_at before (t ∷ ts) = typed.then_one (typed_at before t) (typed_list_at before ts)

abbrev pub typed_block_at : List typed.Item → List TermId → typed.Statements
typed_block_at before [] = typed.done
typed_block_at before (t ∷ ts) = typed.and_then (typed_doing_in (slice_get before t.0)) (typed_block_at before ts)

abbrev typed_form : List typed.Item → typed_expressions.TypedExpression → typed.Form
typed_form before (te.Constant c) = typed.Constant' c
typed_form before (te.Variable x) = typed.Variable x
typed_form before (te.Global address) = typed.Global address
typed_form before (te.Operate op es) = typed.Operate op (typed_list_at before es)
typed_form before (te.Both a b) = typed.Both (typed_at before a) (typed_at before b)
typed_form before (te.Either a b) = typed.Either (typed_at before a) (typed_at before b)
typed_form before (te.Dereference p) = typed.Dereference (typed_at before p)
typed_form before (te.Select offset a) = typed.Select offset (typed_at before a)
typed_form before (te.Follow offset p) = typed.Follow offset (typed_at before p)
typed_form before (te.Element a i) = typed.Element (typed_at before a) (typed_at before i)
typed_form before (te.Index p i) = typed.Index (typed_at before p) (typed_at before i)
typed_form before (te.Address a) = typed.Address (typed_at before a)
typed_form before (te.Decay a) = typed.Decay (typed_at before a)
typed_form before (te.Let block a) = typed.Let (typed_block_at before block) (typed_at before a)

abbrev typed_choice : List typed.Item → typed.Expression → typed.Statements → Option (List TermId) → typed.Doing
typed_choice before test then_block None = typed.If test then_block
typed_choice before test then_block (Some else_block) = typed.IfElse test then_block (typed_block_at before else_block)

abbrev typed_return : List typed.Item → Option TermId → typed.Doing
typed_return before None = typed.Finish
typed_return before (Some t) = typed.Return (typed_at before t)

abbrev typed_doing : List typed.Item → typed_statements.TypedStatement → typed.Doing
typed_doing before (ts.Var names values) = typed.Var names (typed_list_at before values)
typed_doing before (ts.Assign targets values) = typed.Assign (typed_list_at before targets) (typed_list_at before values)
typed_doing before (ts.If test then_block else_block) =
    typed_choice before (typed_at before test) (typed_block_at before then_block) else_block
typed_doing before (ts.While test body) = typed.While (typed_at before test) (typed_block_at before body)
typed_doing before (ts.Repeat body test) = typed.Repeat (typed_block_at before body) (typed_at before test)
typed_doing before (ts.For name bounds body) = typed.For name (typed_list_at before bounds) (typed_block_at before body)
typed_doing before (ts.Do body) = typed.Do (typed_block_at before body)
typed_doing before ts.Break = typed.Break
typed_doing before (ts.Return value) = typed_return before value
typed_doing before (ts.Perform a) = typed.Perform (typed_at before a)

abbrev pub typed_planted : List typed.Item → typed_nodes.Typed → typed.Item
typed_planted before (typed_kinds.Expression at of form) = typed.expression (typed.typed at of (typed_form before form))
typed_planted before (typed_kinds.Statement at doing) = typed.doing (typed.statement at (typed_doing before doing))
typed_planted before (typed_kinds.Function parameters result body) =
    typed.body (record { parameters = parameters; result = result; body = typed_block_at before body })

-- the trees of typed nodes, behind those of the nodes before them
abbrev pub typed_trees_from : List typed.Item → List typed_nodes.Typed → List typed.Item
typed_trees_from before ns = grown typed_planted before ns

-- specialised terms; a typed quote among them names its typed term by number, so these trees need no typed ones

abbrev pub absent : terms.Term
absent = terms.term nowhere terms.Nil

abbrev pub term_in : Option terms.Item → terms.Term
term_in (Some (terms.expression x)) = x
term_in _ = absent

abbrev pub term_at : List terms.Item → TermId → terms.Term
term_at before t = term_in (slice_get before t.0)

abbrev pub doing_in : Option terms.Item → terms.Statement
doing_in (Some (terms.doing x)) = x
doing_in _ = terms.statement nowhere terms.Break

abbrev pub list_at : List terms.Item → List TermId → terms.Terms
list_at before [] = terms.no_more
list_at before (t ∷ ts) = terms.then_one (term_at before t) (list_at before ts)

abbrev pub statement_at : List terms.Item → TermId → terms.Statement
statement_at before t = doing_in (slice_get before t.0)

abbrev pub block_at : List terms.Item → List TermId → terms.Statements
block_at before [] = terms.done
block_at before (t ∷ ts) = terms.and_then (statement_at before t) (block_at before ts)

abbrev pub form_of : List terms.Item → expressions.Expression → terms.Form
form_of before (e.Number bits of) = terms.Number bits of
form_of before (e.Truth b) = terms.Truth b
form_of before e.Nil = terms.Nil
form_of before (e.Variable x) = terms.Variable x
form_of before (e.Function f) = terms.Function f
form_of before (e.Primitive p) = terms.Primitive' p
form_of before (e.Static address) = terms.Static address
form_of before (e.Global g) = terms.Global g
form_of before (e.Type t) = terms.Named t
form_of before (e.Macro m) = terms.Macro m
form_of before e.SizeOf = terms.SizeOf
form_of before (e.Unary op a) = terms.Unary op (term_at before a)
form_of before (e.Binary op a b) = terms.Binary op (term_at before a) (term_at before b)
form_of before (e.Call f arguments) = terms.Call (term_at before f) (list_at before arguments)
form_of before (e.Method o name arguments) = terms.Method (term_at before o) name (list_at before arguments)
form_of before (e.Select o field) = terms.Select (term_at before o) field
form_of before (e.Index a i) = terms.Index (term_at before a) (term_at before i)
form_of before (e.New of (Positional values)) = terms.New of [] (list_at before values)
form_of before (e.New of (Named fields values)) = terms.New of fields (list_at before values)
form_of before (e.Let block a) = terms.Let (block_at before block) (term_at before a)
form_of before (e.Typed source t) = terms.Typed (term_at before source) t

abbrev pub var_of : List terms.Item → List lists.VarName → Option (List TermId) → terms.Doing
var_of before names None = terms.Declare names
var_of before names (Some values) = terms.Var names (list_at before values)

abbrev pub choice_of : List terms.Item → terms.Term → terms.Statements → Option (List TermId) → terms.Doing
choice_of before test then_block None = terms.If test then_block
choice_of before test then_block (Some else_block) = terms.IfElse test then_block (block_at before else_block)

abbrev pub doing_of : List terms.Item → statements.Statement → terms.Doing
doing_of before (s.Var names values) = var_of before names values
doing_of before (s.Assign targets values) = terms.Assign (list_at before targets) (list_at before values)
doing_of before (s.If test then_block else_block) = choice_of before (term_at before test) (block_at before then_block) else_block
doing_of before (s.While test body) = terms.While (term_at before test) (block_at before body)
doing_of before (s.Repeat body test) = terms.Repeat (block_at before body) (term_at before test)
doing_of before (s.For name bounds body) = terms.For name (list_at before bounds) (block_at before body)
doing_of before (s.Do body) = terms.Do (block_at before body)
doing_of before s.Break = terms.Break
doing_of before (s.Return values) = terms.Return (list_at before values)
doing_of before (s.Perform a) = terms.Perform (term_at before a)

abbrev pub planted : List terms.Item → nodes.Term → terms.Item
planted before (kinds.Expression at x) = terms.expression (terms.term at (form_of before x))
planted before (kinds.Statement at x) = terms.doing (terms.statement at (doing_of before x))
planted before (kinds.Function parameters result body) =
    terms.definition (record { parameters = parameters; result = result; body = block_at before body })

-- the trees of specialised nodes, behind those of the nodes before them
abbrev pub trees_from : List terms.Item → List nodes.Term → List terms.Item
trees_from before ns = grown planted before ns

-- the trees of all typed nodes, and those of all specialised ones
abbrev pub typed_trees : List typed_nodes.Typed → List typed.Item
typed_trees ns = typed_trees_from [] ns

abbrev pub trees : List nodes.Term → List terms.Item
trees ns = trees_from [] ns
