-- What a source comes to that is staged and whose exports are compiled.
use Rattle.std.specs.Prelude.{ℕ, zero, suc, ◌≡◌, ◌/◌, ◌^◌, ◌≤◌, ◌<◌, Bool, true, false, if◌then◌else◌, List, length, Some, slice_get}
use Rattle.std.specs.Prelude.{slice_index}
use Rattle.tl_base.specs.declared.ids.FnId.{FnId}
use Rattle.tl_base.specs.declared.limits.Limits.{Limits}
use Rattle.tl_base.specs.declared.place.Place.{Place}
use Rattle.tl_base.specs.Limits.{IsLimits}
use Rattle.tl_tree.specs.Code.{Items}
use Rattle.terra_term.specs.declared.store.Export.{Export}
use Rattle.terra_term.specs.declared.store.FunctionState.{FunctionState}
use Rattle.terra_term.specs.declared.store.FunctionState.TheVariants.{Undefined}
use Rattle.terra_term.specs.Held.{Held, state_of}
use Rattle.terra_term.specs.Stores.{Contents, contents_of, static_bytes}
use Rattle.exotype.specs.World.{StageState}
use Rattle.check_sound.specs.Exports.{HasName}
use Rattle.stage_model.specs.declared.staging.End.{End}
use Rattle.stage_model.specs.declared.staging.End.TheVariants as ends
use Rattle.stage_model.specs.declared.staging.Mode.TheVariants.{Exports}
use Rattle.stage_model.specs.Staging.{Ending, outcome}
use Rattle.back_end.specs.Compiled.{AreExports, AreFew, AreReady, HasTypedPart, IsCompiled, name_bytes}
use Rattle.stage_image.specs.declared.emitting.Emitted.{Emitted}
use Rattle.stage_image.specs.declared.emitting.Made.{Made}
use Rattle.stage_image.specs.declared.emitting.Made.TheVariants as made

-- ---- which functions are defined

abbrev state_is_defined : FunctionState → Bool
state_is_defined Undefined = false
state_is_defined state = true

abbrev pub is_defined : Held → FnId → Bool
is_defined store f = state_is_defined (state_of store f)

-- a count with one function more, if that is defined
abbrev pub counted : Held → FnId → ℕ → ℕ
counted store f count = if is_defined store f then suc count else count

-- how many of the first functions are defined
abbrev pub defined_below : Held → ℕ → ℕ
defined_below store zero = zero
defined_below store (suc n) = counted store (record { 0 = n }) (defined_below store n)

abbrev pub defined_count : Held → ℕ
defined_count store = defined_below store (length store.functions)

-- ---- when exports can be compiled

-- Names of 1 to 255 bytes, none of them zero; no two are the same, and with one byte more for each they have at most 4,000,000,000 bytes.
pub record HaveNames (exports : List Export) : Type 0 where
  pub names : (i : ℕ) (e : Export) → slice_get exports i ≡ Some e → HasName e
  pub differ : (i j : ℕ) (e f : Export) → slice_get exports i ≡ Some e → slice_get exports j ≡ Some f → e.name ≡ f.name → i ≡ j
  pub few : name_bytes exports ≤ 4000000000

-- Bytes are below 256. No definition of a staging says so of the bytes of a name; the type of the code's texts does.
abbrev pub AreBytes : List ℕ → Type 0
AreBytes bytes = (k : ℕ) → slice_index bytes k < 2 ^ 8

abbrev pub HaveBytes : List Export → Type 0
HaveBytes exports = (i : ℕ) (e : Export) → slice_get exports i ≡ Some e → AreBytes e.name

-- All that compiling asks of the exports of a store, but for the bytes of their names.
pub record CanCompile (store : Contents) (exports : List Export) (limits : Limits) : Type 0 where
  pub limits_are : IsLimits limits
  pub typed : HasTypedPart store exports
  pub half : length (static_bytes store) ≤ limits.memory / 2
  pub ready : AreReady store exports
  pub few : AreFew store exports
  pub outward : AreExports store exports
  pub named : HaveNames exports

-- ---- what is made

-- the image of exports, or none where no memory was found
abbrev pub IsImageOf : Contents → List Export → (memory : ℕ) → Made → Type 0
IsImageOf store exports memory (made.Image image) = IsCompiled store memory exports image
IsImageOf store exports memory made.Unmade = Unit {0}
IsImageOf store exports memory _ = ⊥

-- where a staging is done, the image of its exports; and else how it ended
abbrev pub IsMade : StageState → (memory : ℕ) → End → Made → Type 0
IsMade w memory ends.Done it = IsImageOf (contents_of w.store) w.exports.list memory it
IsMade w memory (ends.Raised text place) it = it ≡ made.Raised text place
IsMade w memory ends.Spent it = it ≡ made.Spent

-- What is emitted is that of the ending to which the staging comes: what was printed until then, how many functions are defined then,
-- and what was made.
pub record IsEmitted (items : Items) (place : Place) (limits : Limits) (it : Emitted) : Type 0 where
  pub n : ℕ
  pub ending : Ending
  pub comes : outcome items place Exports n limits.budget limits.memory ≡ Some ending
  pub printed : it.printed ≡ ending.left.world.typing.stage.heap.printed
  pub functions : it.functions ≡ defined_count ending.left.world.typing.stage.store
  pub end : IsMade ending.left.world.typing.stage limits.memory ending.end it.end
