-- Of two pointers a `nil` takes the other one's type.
use Rattle.std.specs.Prelude.{Bool, not, ◌&&◌, if◌then◌else◌}
use Rattle.terra_types.specs.Making.{same_type}
use Rattle.terra_term.specs.Held.{next_typed}
use Rattle.terra_term.specs.declared.operators.Constant.TheVariants as constants
use Rattle.terra_term.specs.declared.typed.Typed.TheVariants as typed_kinds
use Rattle.terra_term.specs.declared.typed.TypedExpression.TheVariants as te
use Rattle.check_model.specs.declared.made.Made.{Made}
use Rattle.check_model.specs.Typing.{TypingState, made_of}
use Rattle.check_expr.specs.Steps.{with_node}

abbrev pub is_retyped : Bool → Made → Made → Bool
is_retyped is_nil m other = is_nil && not (same_type m.of other.of)

abbrev pub retyped_as : Bool → TypingState → Made → Made → Made
retyped_as is_nil w m other =
    if is_retyped is_nil m other then made_of (next_typed w.stage.store) m.source m.at other.of (te.Constant constants.Nil) else m

abbrev pub with_retyped : Bool → TypingState → Made → Made → TypingState
with_retyped is_nil w m other =
    if is_retyped is_nil m other then with_node w (typed_kinds.Expression m.at other.of (te.Constant constants.Nil)) else w
