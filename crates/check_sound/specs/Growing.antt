-- How worlds of a staging follow one another: what stays of the store, and what a layer of the staging leaves when it has ended.
use Rattle.std.specs.Prelude.{◌≡◌, ℕ, ◌≤◌, List, length, Some, true, slice_get}
use Rattle.lua_table.specs.Keeping.{IsFront}
use Rattle.tl_base.specs.declared.ids.FnId.{FnId}
use Rattle.tl_base.specs.declared.ids.TermId.{TermId}
use Rattle.tl_base.specs.declared.ids.TypeId.{TypeId}
use Rattle.tl_base.specs.declared.limits.TheConstants.Limits.{MAX_BUDGET}
use Rattle.terra_types.specs.Keeping.{KeepsTypes}
use Rattle.terra_term.specs.Keeping.{AllStay, AreKept}
use Rattle.terra_term.specs.Held.{state_of}
use Rattle.terra_term.specs.declared.store.Export.{Export}
use Rattle.terra_term.specs.declared.store.Function.{Function}
use Rattle.terra_term.specs.declared.store.FunctionState.TheVariants as standing
use Rattle.exotype.specs.World.{StageState}
use Rattle.check_model.specs.declared.job.Reached.{Reached}
use Rattle.check_model.specs.declared.known.KnownResult.TheVariants.{Is}
use Rattle.check_model.specs.Typing.{function_at}
use Rattle.check_model.specs.Calls.{parameters_of, result_of}
use Rattle.check_model.specs.Checks.{was_reached}
use Rattle.check_sound.specs.Sound.{IsSound, IsReady}
use Rattle.check_sound.specs.Exports.{HasName, IsOutward, AreCounted}

-- Nodes have their places for ever; a type keeps what it is, and a layout that is settled; a function keeps its term, its typed term and
-- its refusal, and its type once that is known.
pub record Grows (w v : StageState) : Type 0 where
  pub terms : AreKept w.store.terms v.store.terms
  pub typed_nodes : AreKept w.store.typed v.store.typed
  pub types : KeepsTypes w.store.types v.store.types
  pub functions : AllStay w.store v.store
  pub parameters : (f : FnId) (ps : List TypeId) → parameters_of w f ≡ Some ps → parameters_of v f ≡ Some ps
  pub results : (f : FnId) (t : TypeId) → result_of w f ≡ Is t → result_of v f ≡ Is t

-- a function and all that it reaches could be called in a sound world, since which this one has grown
pub record WasReady (v : StageState) (f : FnId) : Type 0 where
  pub then : StageState
  pub sound : IsSound then
  pub grows : Grows then v
  pub queue : List Reached
  pub reached : was_reached f queue ≡ true
  pub ready : (g : FnId) → was_reached g queue ≡ true → IsReady then queue g

-- a function is there still, and has the type with which it was declared
pub record StaysDeclared (v : StageState) (f : FnId) (g : Function) : Type 0 where
  pub now : Function
  pub at : function_at v f ≡ Some now
  pub declared : now.declared ≡ g.declared

-- exports were counted in a sound world, since which this one has grown
pub record WereCounted (v : StageState) (exports : List Export) (fs : List ℕ) (nodes : ℕ) : Type 0 where
  pub then : StageState
  pub sound : IsSound then
  pub grows : Grows then v
  pub counted : AreCounted then exports fs nodes

-- Exports of a world: each has a name of its own and was checked, and its parameters and result have one word each; no more than a budget
-- buys; and with all that they reach they have no more typed nodes than they may.
pub record AreFine (v : StageState) : Type 0 where
  pub names : (i : ℕ) (e : Export) → slice_get v.exports.list i ≡ Some e → HasName e
  pub differ : (i j : ℕ) (d e : Export) → slice_get v.exports.list i ≡ Some d → slice_get v.exports.list j ≡ Some e →
      d.name ≡ e.name → i ≡ j
  pub ready : (i : ℕ) (e : Export) → slice_get v.exports.list i ≡ Some e → WasReady v e.function
  pub outward : (i : ℕ) (e : Export) → slice_get v.exports.list i ≡ Some e → IsOutward v e.function
  pub many : length v.exports.list ≤ MAX_BUDGET
  pub functions : List ℕ
  pub nodes : ℕ
  pub counted : WereCounted v v.exports.list functions nodes

-- What a layer leaves when it has ended, seen from where it began: it grows, each function keeps the type with which it was declared, no
-- function that others are typing is taken from them, the memory is the same, exports stay, and are fine if they were.
pub record Leads (w v : StageState) : Type 0 where
  pub grows : Grows w v
  pub declared : (f : FnId) (g : Function) → function_at w f ≡ Some g → StaysDeclared v f g
  pub typing : (f : FnId) (t : TermId) → state_of w.store f ≡ standing.Typing t → state_of v.store f ≡ standing.Typing t
  pub memory : v.memory ≡ w.memory
  pub exports : IsFront w.exports.list v.exports.list
  pub fine : AreFine w → AreFine v
