-- How many nodes and levels terms have. The nodes of a term are its statements, its expressions, and each name that a `var`
-- declares; a function is a node, and so is each of its parameters. Callees, places and the parts of a `let` are expressions; in a
-- typed term each conversion is one too. A part is one level deeper than what it is a part of. The lists of an `if` or a `repeat`
-- are no nodes, and a typed quote counts as its typed term.
use Rattle.std.specs.Prelude.{ℕ, zero, suc, ◌+◌, max, min, List, length, Option, Some, None, slice_get}
use Rattle.std.specs.Option.{option_map}
use Rattle.tl_base.specs.declared.ids.TermId.{TermId}
use Rattle.terra_term.specs.declared.operators.Operation.{Operation}
use Rattle.terra_term.specs.declared.operators.Operation.TheVariants as operations
use Rattle.terra_term.specs.declared.size.Size.{Size}
use Rattle.terra_term.specs.Held.{Held}
use Rattle.terra_term.specs.Planted.{trees, typed_trees, typed_at}
use Rattle.terra_term.specs.Stores.{Callable}
use Rattle.terra_term.specs.Terms.{Term, term, Number, Truth, Nil, Variable, Function, Primitive', Static, Global, Named, Macro, SizeOf}
use Rattle.terra_term.specs.Terms.{Unary, Binary, Call, Method, Select, Index, New, Let, Typed, Terms, no_more, then_one, Statement}
use Rattle.terra_term.specs.Terms.{statement, Declare, Var, Assign, If, IfElse, While, Repeat, For, Do, Break, Return, Perform, Statements}
use Rattle.terra_term.specs.Terms.{done, and_then, Definition, Item, expression, doing, definition}
use Rattle.terra_term.specs.TypedTerms as typed

abbrev pub none : Size
none = record { nodes = 0; levels = 0 }

-- a node without parts
abbrev pub leaf : Size
leaf = record { nodes = 1; levels = 1 }

-- parts side by side
abbrev pub joined : Size → Size → Size
joined a b = record { nodes = a.nodes + b.nodes; levels = max a.levels b.levels }

-- a node with these parts
abbrev pub above : Size → Size
above parts = record { nodes = parts.nodes + 1; levels = parts.levels + 1 }

abbrev depth : ℕ → ℕ
depth zero = 0
depth (suc n) = 1

-- so many names: nodes without parts
abbrev pub names_size : ℕ → Size
names_size n = record { nodes = n; levels = depth n }

-- the last number of 32 bits stands for all from it on, and for levels the last of 16 bits
abbrev pub most : ℕ
most = 4294967295

abbrev pub most_levels : ℕ
most_levels = 65535

abbrev pub capped : Size → Size
capped s = record { nodes = min s.nodes most; levels = min s.levels most_levels }

-- a callee that isn't evaluated is a node without parts
abbrev pub callee_size : Operation → Size
callee_size (operations.Call f) = leaf
callee_size (operations.Primitive p) = leaf
callee_size _ = none

abbrev mutual
  pub typed_size : typed.Expression → Size
  typed_size (typed.typed at of (typed.Constant' c)) = leaf
  typed_size (typed.typed at of (typed.Variable x)) = leaf
  typed_size (typed.typed at of (typed.Global address)) = leaf
  typed_size (typed.typed at of (typed.Operate op es)) = above (joined (callee_size op) (typed_list_size es))
  typed_size (typed.typed at of (typed.Both a b)) = above (joined (typed_size a) (typed_size b))
  typed_size (typed.typed at of (typed.Either a b)) = above (joined (typed_size a) (typed_size b))
  typed_size (typed.typed at of (typed.Dereference p)) = above (typed_size p)
  typed_size (typed.typed at of (typed.Select offset e)) = above (typed_size e)
  typed_size (typed.typed at of (typed.Follow offset p)) = above (typed_size p)
  typed_size (typed.typed at of (typed.Element a i)) = above (joined (typed_size a) (typed_size i))
  typed_size (typed.typed at of (typed.Index p i)) = above (joined (typed_size p) (typed_size i))
  typed_size (typed.typed at of (typed.Address e)) = above (typed_size e)
  typed_size (typed.typed at of (typed.Decay a)) = above (typed_size a)
  typed_size (typed.typed at of (typed.Let block e)) = above (joined (typed_block_size block) (typed_size e))

  pub typed_list_size : typed.Expressions → Size
  typed_list_size typed.no_more = none
  typed_list_size (typed.then_one e es) = joined (typed_size e) (typed_list_size es)

  pub typed_statement_size : typed.Statement → Size
  typed_statement_size (typed.statement at (typed.Var names values)) =
      above (joined (names_size (length names)) (typed_list_size values))
  typed_statement_size (typed.statement at (typed.Assign targets values)) =
      above (joined (typed_list_size targets) (typed_list_size values))
  typed_statement_size (typed.statement at (typed.If test then_block)) =
      above (joined (typed_size test) (typed_block_size then_block))
  typed_statement_size (typed.statement at (typed.IfElse test then_block else_block)) =
      above (joined (joined (typed_size test) (typed_block_size then_block)) (typed_block_size else_block))
  typed_statement_size (typed.statement at (typed.While test body)) = above (joined (typed_size test) (typed_block_size body))
  typed_statement_size (typed.statement at (typed.Repeat body test)) = above (joined (typed_block_size body) (typed_size test))
  typed_statement_size (typed.statement at (typed.For name bounds body)) =
      above (joined (typed_list_size bounds) (typed_block_size body))
  typed_statement_size (typed.statement at (typed.Do body)) = above (typed_block_size body)
  typed_statement_size (typed.statement at typed.Break) = leaf
  typed_statement_size (typed.statement at typed.Finish) = leaf
  typed_statement_size (typed.statement at (typed.Return e)) = above (typed_size e)
  typed_statement_size (typed.statement at (typed.Perform e)) = above (typed_size e)

  pub typed_block_size : typed.Statements → Size
  typed_block_size typed.done = none
  typed_block_size (typed.and_then s ss) = joined (typed_statement_size s) (typed_block_size ss)

abbrev pub body_size : typed.Body → Size
body_size b = above (joined (names_size (length b.parameters)) (typed_block_size b.body))

abbrev pub typed_item_size : typed.Item → Size
typed_item_size (typed.expression e) = typed_size e
typed_item_size (typed.doing s) = typed_statement_size s
typed_item_size (typed.body b) = body_size b

-- specialised terms, beside the typed ones

abbrev mutual
  pub size_of : List typed.Item → Term → Size
  size_of made (term at (Number bits of)) = leaf
  size_of made (term at (Truth b)) = leaf
  size_of made (term at Nil) = leaf
  size_of made (term at (Variable x)) = leaf
  size_of made (term at (Function f)) = leaf
  size_of made (term at (Primitive' p)) = leaf
  size_of made (term at (Static address)) = leaf
  size_of made (term at (Global g)) = leaf
  size_of made (term at (Named t)) = leaf
  size_of made (term at (Macro m)) = leaf
  size_of made (term at SizeOf) = leaf
  size_of made (term at (Unary op a)) = above (size_of made a)
  size_of made (term at (Binary op a b)) = above (joined (size_of made a) (size_of made b))
  size_of made (term at (Call f arguments)) = above (joined (size_of made f) (list_size made arguments))
  size_of made (term at (Method o name arguments)) = above (joined (size_of made o) (list_size made arguments))
  size_of made (term at (Select o field)) = above (size_of made o)
  size_of made (term at (Index a i)) = above (joined (size_of made a) (size_of made i))
  size_of made (term at (New of fields values)) = above (list_size made values)
  size_of made (term at (Let block e)) = above (joined (block_size made block) (size_of made e))
  size_of made (term at (Typed source t)) = typed_size (typed_at made t)

  pub list_size : List typed.Item → Terms → Size
  list_size made no_more = none
  list_size made (then_one e es) = joined (size_of made e) (list_size made es)

  pub statement_size : List typed.Item → Statement → Size
  statement_size made (statement at (Declare names)) = above (names_size (length names))
  statement_size made (statement at (Var names values)) = above (joined (names_size (length names)) (list_size made values))
  statement_size made (statement at (Assign targets values)) = above (joined (list_size made targets) (list_size made values))
  statement_size made (statement at (If test then_block)) = above (joined (size_of made test) (block_size made then_block))
  statement_size made (statement at (IfElse test then_block else_block)) =
      above (joined (joined (size_of made test) (block_size made then_block)) (block_size made else_block))
  statement_size made (statement at (While test body)) = above (joined (size_of made test) (block_size made body))
  statement_size made (statement at (Repeat body test)) = above (joined (block_size made body) (size_of made test))
  statement_size made (statement at (For name bounds body)) = above (joined (list_size made bounds) (block_size made body))
  statement_size made (statement at (Do body)) = above (block_size made body)
  statement_size made (statement at Break) = leaf
  statement_size made (statement at (Return values)) = above (list_size made values)
  statement_size made (statement at (Perform e)) = above (size_of made e)

  pub block_size : List typed.Item → Statements → Size
  block_size made done = none
  block_size made (and_then s ss) = joined (statement_size made s) (block_size made ss)

abbrev pub definition_size : List typed.Item → Definition → Size
definition_size made d = above (joined (names_size (length d.parameters)) (block_size made d.body))

abbrev pub item_size : List typed.Item → Item → Size
item_size made (expression e) = size_of made e
item_size made (doing s) = statement_size made s
item_size made (definition d) = definition_size made d

-- the sizes that a store keeps of its nodes
abbrev pub size_of_term : Held → TermId → Option Size
size_of_term s t = option_map (λ item. capped (item_size (typed_trees s.typed) item)) (slice_get (trees s.terms) t.0)

abbrev pub size_of_typed : Held → TermId → Option Size
size_of_typed s t = option_map (λ item. capped (typed_item_size item)) (slice_get (typed_trees s.typed) t.0)

-- how many typed nodes a function has, none where it isn't typed
abbrev pub nodes_of : Option Callable → ℕ
nodes_of None = 0
nodes_of (Some k) = (body_size k.body).nodes
