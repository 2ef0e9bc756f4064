-- Terms that call no function that is a value.
use Rattle.std.specs.Prelude.{Bool, true, ◌&&◌}
use Rattle.terra_term.specs.TypedTerms.{Expression, typed, Constant', Variable, Global, Operate, Both, Either, Dereference, Select, Follow}
use Rattle.terra_term.specs.TypedTerms.{Element, Index, Address, Decay, Let, Expressions, no_more, then_one, Statement, statement, Var}
use Rattle.terra_term.specs.TypedTerms.{Assign, If, IfElse, While, Repeat, For, Do, Break, Finish, Return, Perform, Statements, done}
use Rattle.terra_term.specs.TypedTerms.{and_then}
pub use Rattle.terra_term.specs.WellTyped.{is_plain_operation}

abbrev mutual
  pub is_plain : Expression → Bool
  is_plain (typed at of (Constant' k)) = true
  is_plain (typed at of (Variable x)) = true
  is_plain (typed at of (Global a)) = true
  is_plain (typed at of (Operate op es)) = is_plain_operation op && are_plain es
  is_plain (typed at of (Both a b)) = is_plain a && is_plain b
  is_plain (typed at of (Either a b)) = is_plain a && is_plain b
  is_plain (typed at of (Dereference e)) = is_plain e
  is_plain (typed at of (Select offset e)) = is_plain e
  is_plain (typed at of (Follow offset e)) = is_plain e
  is_plain (typed at of (Element a i)) = is_plain a && is_plain i
  is_plain (typed at of (Index a i)) = is_plain a && is_plain i
  is_plain (typed at of (Address e)) = is_plain e
  is_plain (typed at of (Decay e)) = is_plain e
  is_plain (typed at of (Let block e)) = all_plain block && is_plain e

  pub are_plain : Expressions → Bool
  are_plain no_more = true
  are_plain (then_one e es) = is_plain e && are_plain es

  pub one_plain : Statement → Bool
  one_plain (statement at (Var xs values)) = are_plain values
  one_plain (statement at (Assign places values)) = are_plain values && are_plain places
  one_plain (statement at (If test block)) = is_plain test && all_plain block
  one_plain (statement at (IfElse test block other)) = is_plain test && all_plain block && all_plain other
  one_plain (statement at (While test body)) = is_plain test && all_plain body
  one_plain (statement at (Repeat body test)) = all_plain body && is_plain test
  one_plain (statement at (For x bounds body)) = are_plain bounds && all_plain body
  one_plain (statement at (Do body)) = all_plain body
  one_plain (statement at Break) = true
  one_plain (statement at Finish) = true
  one_plain (statement at (Return e)) = is_plain e
  one_plain (statement at (Perform e)) = is_plain e

  pub all_plain : Statements → Bool
  all_plain done = true
  all_plain (and_then st ss) = one_plain st && all_plain ss
