-- The trees of texts, and the parts of a text that are one level of nesting each.
use Rattle.std.specs.Prelude.{ℕ, Bool, List}
use Rattle.tl_base.specs.declared.place.Place.{Place}
use Rattle.tl_tree.specs.declared.mode.Mode.{Mode}
use Rattle.tl_tree.specs.declared.mode.Context.{Context}
use Rattle.tl_tree.specs.declared.node.BinaryOperator.{BinaryOperator}
use Rattle.tl_tree.specs.declared.node.UnaryOperator.{UnaryOperator}

-- The place of a tree is that of its first token, with these exceptions: a binary operator has the operator's; a call,
-- index, selection or method call that of its `(`, `[`, `.` or `:`, and a call whose argument is a table or text alone
-- that argument's; a constructor has that of its `{`. A name in a path has that of the `.` or `:` before it.
pub data Tree : Type 0 where
  -- no tree, and the empty list
  Nothing : Tree
  -- a list of trees: those before, and the last
  More : Tree → Tree → Tree
  -- a tree where there may be none
  Just : Tree → Tree
  -- ---- tokens with a text
  -- a name, where an expression stands and where one is declared, selected or called, with the offset of its token
  Name : Place → ℕ → List ℕ → Tree
  Numeral Literal : Place → List ℕ → Tree
  -- ---- expressions of Lua code (Lua 5.1 manual, section 2.5)
  Nil False True Varargs : Place → Tree
  -- its body
  Function : Place → Tree → Tree
  -- its fields, which are expressions, `NamedField` and `KeyedField`
  Table : Place → Tree → Tree
  Binary : Place → BinaryOperator → Tree → Tree → Tree
  Unary : Place → UnaryOperator → Tree → Tree
  Paren : Place → Tree → Tree
  -- the object and the key
  Index : Place → Tree → Tree → Tree
  -- the object and the name
  Select : Place → Tree → Tree → Tree
  -- the function and the arguments
  Call : Place → Tree → Tree → Tree
  -- the object, the name and the arguments
  Method : Place → Tree → Tree → Tree → Tree
  -- `terra` and its body
  TerraFunction : Place → Tree → Tree
  -- `struct` and its entries
  Struct : Place → Tree → Tree
  -- `quote` and what is quoted
  Quote : Place → Tree → Tree
  -- a Terra expression behind a backtick
  Backtick : Place → Tree → Tree
  -- ---- statements of Lua code (Lua 5.1 manual, section 2.4)
  -- the targets and the expressions
  Assign : Place → Tree → Tree → Tree
  -- a call that is a statement
  CallStatement : Place → Tree → Tree
  Do : Place → Tree → Tree
  -- the condition and the block
  While : Place → Tree → Tree → Tree
  -- the block and the condition
  Repeat : Place → Tree → Tree → Tree
  -- the arms, and the block behind `else` if there is one
  If : Place → Tree → Tree → Tree
  -- the name, the first value, the limit, the step if there is one, and the block
  NumericFor : Place → Tree → Tree → Tree → Tree → Tree → Tree
  -- the names, the expressions and the block
  GenericFor : Place → Tree → Tree → Tree → Tree
  -- the path and the body
  DefineFunction : Place → Tree → Tree → Tree
  -- the name and the body
  LocalFunction : Place → Tree → Tree → Tree
  -- the names and the expressions
  Local : Place → Tree → Tree → Tree
  -- `terra`, the path and the body, or the type behind `::`
  DefineTerra DeclareTerra : Place → Tree → Tree → Tree
  -- `local terra`, the place of `terra`, the name and the body, or the type behind `::`
  LocalTerra LocalDeclareTerra : Place → Place → Tree → Tree → Tree
  -- the path and the entries
  DefineStruct : Place → Tree → Tree → Tree
  -- `local struct`, the place of `struct`, the name and the entries
  LocalStruct : Place → Place → Tree → Tree → Tree
  Emit : Place → Tree → Tree
  -- the expressions
  Return : Place → Tree → Tree
  Break : Place → Tree
  -- ---- expressions of Terra code
  TerraNil TerraFalse TerraTrue : Place → Tree
  TerraBinary : Place → BinaryOperator → Tree → Tree → Tree
  TerraUnary : Place → UnaryOperator → Tree → Tree
  TerraParen : Place → Tree → Tree
  -- Lua code in `[` and `]`, where an expression stands and where a name does
  Escape : Place → Tree → Tree
  -- the object and the key
  TerraIndex : Place → Tree → Tree → Tree
  -- the object and the name
  TerraSelect : Place → Tree → Tree → Tree
  -- the function and the arguments
  TerraCall : Place → Tree → Tree → Tree
  -- the object, the name and the arguments
  TerraMethod : Place → Tree → Tree → Tree → Tree
  -- the type and its initialisers, which are expressions, or all `NamedField`
  Construct : Place → Tree → Tree → Tree
  -- ---- statements of Terra code
  -- the targets and the expressions
  TerraAssign : Place → Tree → Tree → Tree
  -- a call that is a statement
  TerraCallStatement : Place → Tree → Tree
  -- Lua code in `[` and `]` that is a statement
  Splice : Place → Tree → Tree
  TerraDo : Place → Tree → Tree
  -- the condition and the block
  TerraWhile : Place → Tree → Tree → Tree
  -- the block and the condition
  TerraRepeat : Place → Tree → Tree → Tree
  -- the arms, and the block behind `else` if there is one
  TerraIf : Place → Tree → Tree → Tree
  -- the name, the first value, the limit, the step if there is one, and the block
  TerraFor : Place → Tree → Tree → Tree → Tree → Tree → Tree
  -- the variables and the expressions
  Var : Place → Tree → Tree → Tree
  -- `escape` and its block of Lua code
  EscapeBlock : Place → Tree → Tree
  -- the expressions
  TerraReturn : Place → Tree → Tree
  TerraBreak : Place → Tree
  -- ---- what is within these, and is no expression and no statement
  -- the statements
  Block : Tree → Tree
  -- a condition and its block
  Arm : Tree → Tree → Tree
  -- the parameters of a Lua function, whether `...` is one more, and its block
  Body : Tree → Bool → Tree → Tree
  -- a first name and the names behind it, each of these with the place of its `.`, and the method's name, if there is
  -- one, with that of its `:`
  Path : Tree → Tree → Tree
  -- a name and its value
  NamedField : Tree → Tree → Tree
  -- a key and its value
  KeyedField : Tree → Tree → Tree
  -- the name and the type of a struct's entry
  Entry : Tree → Tree → Tree
  -- the block of a quote, and its expression if there is one
  Quoted : Tree → Tree → Tree
  -- the parameters of a Terra function, its result type if it is written, and its block
  TerraBody : Place → Tree → Tree → Tree → Tree
  -- the name and the type of a Terra function's parameter
  Parameter : Place → Tree → Tree → Tree
  -- Lua code in `[` and `]` that is a parameter
  SpliceParameter : Place → Tree → Tree
  -- a name that `var` declares, and its type if it is written
  Variable : Place → Tree → Tree → Tree

-- What is read one level of nesting deeper than the token before it.
pub data Part : Type 0 where
  -- an expression of Lua code; the operand of a prefix operator, or the right operand of `^`; the right operand of
  -- `..`; the arguments of a call; the fields of a table
  Expression Operand Concatenation Arguments Fields : Mode → Part
  -- the statements of a block of Lua code
  Statements : Context → Part
  -- the parameters of a Lua function, its block and its `end`
  FunctionBody : Part
  -- the entries of a struct
  Entries : Mode → Part
  -- an expression of Terra code; the operand of a prefix operator; the arguments of a call; the initialisers of a
  -- constructor
  TerraExpression TerraOperand TerraArguments Initialisers : Part
  -- the statements of a block of Terra code
  TerraStatements : Part
  -- the parameters of a Terra function behind their `(`, which stands at this place, its result type, its block and its
  -- `end`
  TerraFunctionBody : Place → Part
  -- the statements of a quote, and its expression
  QuotedCode : Part
