-- What plans are made of: how they go on with ends, how they raise, and how they make and find texts.
use Rattle.std.specs.Prelude.{ℕ, ◌+◌, pos, List, [], ◌∷◌, ◌++◌, length, nat_le, Some, None, if◌then◌else◌}
use Rattle.tl_base.specs.declared.ids.NodeId.{NodeId}
use Rattle.tl_base.specs.declared.ids.EnvId.{EnvId}
use Rattle.tl_base.specs.declared.place.Place.{Place}
use Rattle.tl_base.specs.Plan.{Plan, Give, Do, AskFor, Read, Write, Pay}
use Rattle.tl_base.specs.declared.text.TheConstants.Text.{MAX_LEN}
use Rattle.lua_value.specs.Numbers.{number_from}
use Rattle.lua_value.specs.declared.value.Value.{Value}
use Rattle.lua_value.specs.declared.value.Value.TheVariants as values
use Rattle.lua_table.specs.LuaState.{LuaState}
use Rattle.lua_table.specs.Heap.{interned_id, with_text, next_env, with_env}
use Rattle.lua_table.specs.Cells.{first_value}
use Rattle.lua_ops.specs.declared.fault.Fault.{Fault}
use Rattle.lua_ops.specs.Faults.{fault_text}
use Rattle.lua_ops.specs.Placed.{placed}
use Rattle.lua_model.specs.declared.scope.Scope.{Scope}
use Rattle.lua_model.specs.declared.job.Job.{Job}
use Rattle.lua_model.specs.declared.job.Job.TheVariants as jobs
use Rattle.lua_model.specs.declared.end.End.{End}
use Rattle.lua_model.specs.declared.end.End.TheVariants.{One, Many, Fell, Broke, Returned, Raised}
use Rattle.lua_model.specs.declared.question.LuaQuestion.{LuaQuestion}
use Rattle.lua_model.specs.declared.question.LuaQuestion.TheVariants.{Specialise}
use Rattle.lua_model.specs.declared.question.LuaAnswer.{LuaAnswer}
use Rattle.lua_model.specs.declared.question.LuaAnswer.TheVariants as answers
pub use Rattle.lua_value.specs.Values.{number_or_nil as whole_from}
pub use Rattle.lua_table.specs.Heap.{text_units}

abbrev pub LuaPlan : Type 0
LuaPlan = Plan Job LuaState LuaQuestion LuaAnswer End

-- ---- scopes

-- Lua code in an environment that no function around it was called for
abbrev pub scope_at : EnvId → Scope
scope_at env = record { env = env; extra = record { 0 = 0 }; count = 0; call = None }

-- the same call, in another environment
abbrev pub within : Scope → EnvId → Scope
within scope env = record scope { env = env }

-- ---- ends

abbrev pub give : Value → LuaPlan
give v = Give (One v)

-- gives a value as a list of values, as what is asked for does
abbrev pub alone : Value → LuaPlan
alone v = Give (Many (v ∷ []))

-- a statement ends and emitted nothing
abbrev pub fell : LuaPlan
fell = Give (Fell [])

-- goes on with one value, or raises
abbrev pub on_one : End → (Value → LuaPlan) → LuaPlan
on_one (One v) go = go v
on_one (Many vs) go = go (first_value vs)
on_one (Fell out) go = go values.Nil
on_one (Broke out) go = go values.Nil
on_one (Returned vs out) go = go values.Nil
on_one (Raised v place) go = Give (Raised v place)

-- goes on with all values, or raises
abbrev pub on_all : End → (List Value → LuaPlan) → LuaPlan
on_all (One v) go = go (v ∷ [])
on_all (Many vs) go = go vs
on_all (Fell out) go = go []
on_all (Broke out) go = go []
on_all (Returned vs out) go = go []
on_all (Raised v place) go = Give (Raised v place)

-- goes on where a statement fell through, with what was emitted up to there; another end is that of the statements, of
-- which so much was emitted before
abbrev pub on_fell : End → List Value → (End → LuaPlan) → (List Value → LuaPlan) → LuaPlan
on_fell (One v) out leave go = go out
on_fell (Many vs) out leave go = go out
on_fell (Fell more) out leave go = go (out ++ more)
on_fell (Broke more) out leave go = leave (Broke (out ++ more))
on_fell (Returned vs more) out leave go = leave (Returned vs (out ++ more))
on_fell (Raised v place) out leave go = leave (Raised v place)

-- the end that an answer gives
abbrev pub reply : LuaAnswer → End
reply answers.Go = Many []
reply (answers.Values vs) = Many vs
reply (answers.Raise v place) = Raised v place

-- ---- jobs

-- evaluates an expression, and goes on with one value
abbrev pub value_of : NodeId → Scope → (Value → LuaPlan) → LuaPlan
value_of n scope go = Do (jobs.Expression n scope) (λ r. on_one r go)

-- evaluates expressions in their order, and goes on with one value of each, but with all of the last one
abbrev pub values_of : List NodeId → Scope → List Value → (List Value → LuaPlan) → LuaPlan
values_of [] scope vs go = go vs
values_of (n ∷ []) scope vs go = Do (jobs.Expression n scope) (λ r. on_all r (λ us. go (vs ++ us)))
values_of (n ∷ m ∷ ns) scope vs go =
    Do (jobs.Expression n scope) (λ r. on_one r (λ v. values_of (m ∷ ns) scope (vs ++ v ∷ []) go))

-- executes statements in their order, up to the first that doesn't fall through
abbrev pub statements : List NodeId → Scope → List Value → (End → LuaPlan) → LuaPlan
statements [] scope out go = go (Fell out)
statements (n ∷ ns) scope out go =
    Do (jobs.Statement n scope) (λ r. on_fell r out go (λ all. statements ns scope all go))

-- enters a block, with an environment of its own
abbrev pub entering : NodeId → Scope → (Scope → LuaPlan) → LuaPlan
entering block scope go = Read (λ s. Write (with_env s block (Some scope.env)) (go (within scope (next_env s))))

-- ---- questions

-- has the Terra code of a node specialised
abbrev pub specialise : NodeId → Scope → (End → LuaPlan) → LuaPlan
specialise n scope go = AskFor (Specialise n scope.env) (λ a. go (reply a))

-- ---- texts

-- Goes on with the text of these bytes. A longer one than texts can be is never made: what gives the bytes sees to
-- that,
-- and so the last case is met in no source's tree.
abbrev pub with_text_of : List ℕ → (Value → LuaPlan) → LuaPlan
with_text_of bytes go =
    if nat_le (length bytes) MAX_LEN then Read (λ s. Write (with_text s bytes) (go (values.Text (interned_id s bytes))))
    else go values.Nil

-- ---- numbers

-- the value of a number from 0 up. No source has one out of the profile, and that is nil
abbrev pub whole : ℕ → Value
whole n = whole_from (number_from (pos n))

-- ---- errors

abbrev pub error_text : Place → Fault → List ℕ
error_text place fault = placed place (fault_text fault)

-- raises a fault, with its place before its text, which is paid for
abbrev pub raise : Place → Fault → LuaPlan
raise place fault =
    let text = error_text place fault in
    Pay (text_units (length text)) (with_text_of text (λ v. Give (Raised v place)))
