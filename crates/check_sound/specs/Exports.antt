-- What is known of the exports of a world: their names, their types, and how many typed nodes they have with all that they reach.
use Rattle.std.specs.Prelude.{◌≡◌, ℕ, ◌+◌, ◌≤◌, Bool, true, not, ◌==◌, ◌&&◌, List, [], ◌∷◌, length, Some, slice_get}
use Rattle.std.specs.List.{list_all}
use Rattle.tl_base.specs.declared.ids.FnId.{FnId}
use Rattle.tl_base.specs.declared.ids.TypeId.{TypeId}
use Rattle.tl_base.specs.declared.place.Place.{Place}
use Rattle.tl_base.specs.declared.limits.TheConstants.{MAX_COMPILED_NODES, MAX_NAME_BYTES, MAX_PARAMETERS}
use Rattle.terra_term.specs.declared.store.Export.{Export}
use Rattle.terra_term.specs.Stores.{Callable, contents_of, callable_of}
use Rattle.terra_term.specs.WellTyped.{body_typed}
use Rattle.exotype.specs.World.{StageState}
use Rattle.check_model.specs.declared.known.KnownResult.TheVariants.{Is}
use Rattle.check_model.specs.Typing.{form_in}
use Rattle.check_model.specs.Calls.{parameters_of, result_of}
use Rattle.check_model.specs.Checks.{mentions_at}
pub use Rattle.terra_types.specs.Scalars.{is_scalar as is_word_form, is_result as is_result_form}
pub use Rattle.terra_term.specs.Sizes.{nodes_of as body_nodes}

-- ---- names and types

-- a name of 1 to 255 bytes, none of them zero
pub record HasName (e : Export) : Type 0 where
  pub least : 1 ≤ length e.name
  pub most : length e.name ≤ MAX_NAME_BYTES
  pub no_zero : list_all (λ b. not (b == 0)) e.name ≡ true

abbrev pub all_words : StageState → List TypeId → Bool
all_words w [] = true
all_words w (t ∷ ts) = is_word_form (form_in w t) && all_words w ts

-- a function with at most eight parameters, each of one word, and a result of one word or none
pub record IsOutward (w : StageState) (f : FnId) : Type 0 where
  pub parameters : List TypeId
  pub parameters_are : parameters_of w f ≡ Some parameters
  pub eight : length parameters ≤ MAX_PARAMETERS
  pub words : all_words w parameters ≡ true
  pub result : TypeId
  pub result_is : result_of w f ≡ Is result
  pub gives : is_result_form (form_in w result) ≡ true

-- ---- typed nodes

abbrev pub Stands : List ℕ → ℕ → Type 0
Stands fs f = (k : ℕ) × (slice_get fs k ≡ Some f)

abbrev pub numbered : ℕ → FnId
numbered f = record { 0 = f }

-- how many typed nodes functions have, which are given by their numbers
abbrev pub nodes_in : StageState → List ℕ → ℕ
nodes_in w [] = 0
nodes_in w (f ∷ fs) = body_nodes (callable_of (contents_of w.store) (numbered f)) + nodes_in w fs

-- a function can be called, and what it mentions stands among these functions
pub record IsClosed (w : StageState) (fs : List ℕ) (f : ℕ) : Type 0 where
  pub callable : (k : Callable) × (callable_of (contents_of w.store) (numbered f) ≡ Some k) ×
      (body_typed (contents_of w.store) k.body ≡ true)
  pub mentions : (i : ℕ) (m : Place × FnId) → slice_get (mentions_at w (numbered f)) i ≡ Some m → Stands fs m.1.0

-- Exports were counted: their functions, with all that these reach, stand in a list, each once, and have so many typed nodes, which are no
-- more than exports may have.
pub record AreCounted (w : StageState) (exports : List Export) (fs : List ℕ) (nodes : ℕ) : Type 0 where
  pub exported : (i : ℕ) (e : Export) → slice_get exports i ≡ Some e → Stands fs e.function.0
  pub once : (i j f : ℕ) → slice_get fs i ≡ Some f → slice_get fs j ≡ Some f → i ≡ j
  pub closed : (k f : ℕ) → slice_get fs k ≡ Some f → IsClosed w fs f
  pub sum : nodes_in w fs ≡ nodes
  pub most : nodes ≤ MAX_COMPILED_NODES
