-- What a typed term does with names, in the order of evaluation: scopes, declarations, uses of variables, and mentions of
-- functions. Right sides come before targets, values before the names of their `var`, bounds before the variable of a `for`, and
-- the mention of a callee before its arguments. A name is in scope from its declaration to the end of the scope around it.
use Rattle.std.specs.Prelude.{List, [], ◌∷◌, ◌++◌}
use Rattle.tl_base.specs.declared.place.Place.{Place}
use Rattle.tl_base.specs.declared.ids.SymId.{SymId}
use Rattle.tl_base.specs.declared.ids.TypeId.{TypeId}
use Rattle.tl_base.specs.declared.ids.FnId.{FnId}
use Rattle.terra_term.specs.declared.operators.Constant.{Constant}
use Rattle.terra_term.specs.declared.operators.Constant.TheVariants as constants
use Rattle.terra_term.specs.declared.operators.Operation.{Operation}
use Rattle.terra_term.specs.declared.operators.Operation.TheVariants as operations
use Rattle.terra_term.specs.declared.lists.TypedName.{TypedName}
use Rattle.terra_term.specs.TypedTerms.{Expression, typed, Constant', Variable, Global, Operate, Both, Either, Dereference, Select, Follow}
use Rattle.terra_term.specs.TypedTerms.{Element, Index, Address, Decay, Let, Expressions, no_more, then_one, Statement, statement, Var}
use Rattle.terra_term.specs.TypedTerms.{Assign, If, IfElse, While, Repeat, For, Do, Break, Finish, Return, Perform, Statements, done}
use Rattle.terra_term.specs.TypedTerms.{and_then, Body}

pub data Event : Type 0 where
  Opens Closes : Event
  Declares : SymId → TypeId → Event
  -- the address of a variable is taken
  Takes : SymId → Event
  Uses : Place → SymId → TypeId → Event
  -- a function is called, or stands as a value
  Mentions : Place → FnId → Event

abbrev constant_events : Place → Constant → List Event
constant_events at (constants.FnValue f) = Mentions at f ∷ []
constant_events at _ = []

abbrev pub operation_events : Place → Operation → List Event
operation_events at (operations.Call f) = Mentions at f ∷ []
operation_events at _ = []

abbrev pub takes : Expression → List Event
takes (typed at of (Variable x)) = Takes x ∷ []
takes _ = []

abbrev pub declares : TypedName → List Event
declares name = Declares name.symbol name.of ∷ []

abbrev pub declares_all : List TypedName → List Event
declares_all [] = []
declares_all (name ∷ names) = declares name ++ declares_all names

abbrev pub scope : List Event → List Event
scope events = Opens ∷ events ++ Closes ∷ []

abbrev mutual
  pub events_of : Expression → List Event
  events_of (typed at of (Constant' c)) = constant_events at c
  events_of (typed at of (Variable x)) = Uses at x of ∷ []
  events_of (typed at of (Global address)) = []
  events_of (typed at of (Operate op es)) = operation_events at op ++ list_events es
  events_of (typed at of (Both a b)) = events_of a ++ events_of b
  events_of (typed at of (Either a b)) = events_of a ++ events_of b
  events_of (typed at of (Dereference p)) = events_of p
  events_of (typed at of (Select offset e)) = events_of e
  events_of (typed at of (Follow offset p)) = events_of p
  events_of (typed at of (Element a i)) = events_of a ++ events_of i
  events_of (typed at of (Index p i)) = events_of p ++ events_of i
  events_of (typed at of (Address e)) = takes e ++ events_of e
  events_of (typed at of (Decay a)) = events_of a
  events_of (typed at of (Let block e)) = scope (block_events block ++ events_of e)

  pub list_events : Expressions → List Event
  list_events no_more = []
  list_events (then_one e es) = events_of e ++ list_events es

  pub doing_events : Statement → List Event
  doing_events (statement at (Var names values)) = list_events values ++ declares_all names
  doing_events (statement at (Assign targets values)) = list_events values ++ list_events targets
  doing_events (statement at (If test then_block)) = events_of test ++ scope (block_events then_block)
  doing_events (statement at (IfElse test then_block else_block)) =
      events_of test ++ scope (block_events then_block) ++ scope (block_events else_block)
  doing_events (statement at (While test body)) = events_of test ++ scope (block_events body)
  doing_events (statement at (Repeat body test)) = scope (block_events body ++ events_of test)
  doing_events (statement at (For name bounds body)) = list_events bounds ++ scope (declares name ++ block_events body)
  doing_events (statement at (Do body)) = scope (block_events body)
  doing_events (statement at Break) = []
  doing_events (statement at Finish) = []
  doing_events (statement at (Return e)) = events_of e
  doing_events (statement at (Perform e)) = events_of e

  pub block_events : Statements → List Event
  block_events done = []
  block_events (and_then s ss) = doing_events s ++ block_events ss

-- those of a function, whose parameters are in scope in its whole body
abbrev pub body_events : Body → List Event
body_events b = declares_all b.parameters ++ block_events b.body

-- the functions that are mentioned, in order, and where
abbrev pub mentions_in : List Event → List (Place × FnId)
mentions_in [] = []
mentions_in (Mentions at f ∷ events) = (at, f) ∷ mentions_in events
mentions_in (_ ∷ events) = mentions_in events

-- the types of the declarations, in order
abbrev pub declared_in : List Event → List TypeId
declared_in [] = []
declared_in (Declares x t ∷ events) = t ∷ declared_in events
declared_in (_ ∷ events) = declared_in events
