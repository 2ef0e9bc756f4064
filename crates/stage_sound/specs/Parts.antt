-- What an image is made of, in the store that a staging leaves: a store of its own, with what was checked for the exports alone.
use Rattle.std.specs.Prelude.{◌≡◌, ℕ, ◌≤◌, true, List, [], Some, slice_get}
use Rattle.tl_base.specs.declared.ids.FnId.{FnId}
use Rattle.terra_term.specs.declared.store.Export.{Export}
use Rattle.terra_term.specs.Sizes.{body_size}
use Rattle.terra_term.specs.Stores.{Contents, Callable, callable_of}
use Rattle.terra_term.specs.WellTyped.{body_typed, is_placed}
use Rattle.terra_meaning.specs.Laws.{Reaches}
use Rattle.check_model.specs.Bodies.{most_nodes}

-- a function that can be called, with a place of a text and a body that passes the test of typed terms and has no more nodes than it may
pub record IsCalled (store : Contents) (f : FnId) : Type 0 where
  pub term : Callable
  pub is : callable_of store f ≡ Some term
  pub passes : body_typed store term.body ≡ true
  pub place : is_placed term.at ≡ true
  pub few : (body_size term.body).nodes ≤ most_nodes

-- all that the exports reach can be called, and is called so in a store in which whatever can be called passes the test
pub record HasPart (store : Contents) (exports : List Export) : Type 0 where
  pub called : (i : ℕ) (e : Export) (f : FnId) → slice_get exports i ≡ Some e → Reaches store [] e.function f → IsCalled store f
  pub part : Contents
  pub types : part.types ≡ store.types
  pub statics : part.statics ≡ store.statics
  pub same : (i : ℕ) (e : Export) (f : FnId) → slice_get exports i ≡ Some e → Reaches store [] e.function f →
      callable_of part f ≡ callable_of store f
  pub typed : (f : FnId) (k : Callable) → callable_of part f ≡ Some k → body_typed part k.body ≡ true
