-- Specialised terms as trees.
use Rattle.std.specs.Prelude.{ℕ, Bool, List, Option}
use Rattle.tl_base.specs.declared.place.Place.{Place}
use Rattle.tl_base.specs.declared.ids.SymId.{SymId}
use Rattle.tl_base.specs.declared.ids.TypeId.{TypeId}
use Rattle.tl_base.specs.declared.ids.FnId.{FnId}
use Rattle.tl_base.specs.declared.ids.TextId.{TextId}
use Rattle.tl_base.specs.declared.ids.GlobalId.{GlobalId}
use Rattle.tl_base.specs.declared.ids.MacroId.{MacroId}
use Rattle.tl_base.specs.declared.ids.TermId.{TermId}
use Rattle.terra_term.specs.declared.operators.UnaryOperator.{UnaryOperator}
use Rattle.terra_words.specs.declared.words.BinaryOperator.{BinaryOperator}
use Rattle.lua_value.specs.declared.primitive.Primitive.{Primitive}
use Rattle.terra_term.specs.declared.lists.Parameter.{Parameter}
use Rattle.terra_term.specs.declared.lists.VarName.{VarName}

mutual
  -- an expression, with its place
  pub data Term : Type 0 where
    term : (at : Place) (form : Form) → Term

  pub data Form : Type 0 where
    Number : (bits : ℕ) (of : TypeId) → Form
    Truth : Bool → Form
    Nil : Form
    Variable : SymId → Form
    Function : FnId → Form
    Primitive' : Primitive → Form
    Static : (address : ℕ) → Form
    Global : GlobalId → Form
    Named : TypeId → Form
    Macro : MacroId → Form
    SizeOf : Form
    Unary : UnaryOperator → Term → Form
    Binary : BinaryOperator → Term → Term → Form
    Call : (callee : Term) (arguments : Terms) → Form
    Method : (object : Term) (name : TextId) (arguments : Terms) → Form
    Select : (object : Term) (field : TextId) → Form
    Index : Term → Term → Form
    -- a constructor: with as many names as values, or with none for the struct's own order
    New : (of : TypeId) (fields : List TextId) (values : Terms) → Form
    Let : (block : Statements) (value : Term) → Form
    -- a typed quote: the term from which it was typed, and the number of its typed term
    Typed : (source : Term) (made : TermId) → Form

  pub data Terms : Type 0 where
    no_more : Terms
    then_one : Term → Terms → Terms

  pub data Statement : Type 0 where
    statement : (at : Place) (doing : Doing) → Statement

  pub data Doing : Type 0 where
    -- without a `=`, and with one
    Declare : (names : List VarName) → Doing
    Var : (names : List VarName) (values : Terms) → Doing
    Assign : (targets values : Terms) → Doing
    If : (test : Term) (then_block : Statements) → Doing
    IfElse : (test : Term) (then_block else_block : Statements) → Doing
    While : (test : Term) (body : Statements) → Doing
    Repeat : (body : Statements) (test : Term) → Doing
    -- two bounds, and a third expression where a step is written
    For : (name : VarName) (bounds : Terms) (body : Statements) → Doing
    Do : (body : Statements) → Doing
    Break : Doing
    Return : (values : Terms) → Doing
    Perform : Term → Doing

  pub data Statements : Type 0 where
    done : Statements
    and_then : Statement → Statements → Statements

-- a function's term
pub record Definition : Type 0 where
  pub parameters : List Parameter
  pub result : Option TypeId
  pub body : Statements

-- what a node is
pub data Item : Type 0 where
  expression : Term → Item
  doing : Statement → Item
  definition : Definition → Item
