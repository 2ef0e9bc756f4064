-- What is needed of a store to run what was typed: its types, its functions, its statics, and the trees of its typed terms.
use Rattle.std.specs.Prelude.{ℕ, ◌-◌, List, [], ◌∷◌, ◌++◌, length, replicate, Option, Some, None, slice_get}
use Rattle.tl_base.specs.declared.place.Place.{Place}
use Rattle.tl_base.specs.declared.ids.FnId.{FnId}
use Rattle.tl_base.specs.declared.ids.TermId.{TermId}
use Rattle.terra_types.specs.declared.types.TypeForm.{TypeForm}
use Rattle.terra_term.specs.declared.store.Function.{Function}
use Rattle.terra_term.specs.declared.store.Static.{Static}
use Rattle.terra_term.specs.Held as stores
use Rattle.terra_term.specs.Held.{first_static}
use Rattle.terra_term.specs.Planted.{typed_trees}
use Rattle.terra_term.specs.TypedTerms as typed

pub record Contents : Type 0 where
  pub types : List TypeForm
  pub functions : List Function
  pub statics : List Static
  pub typed : List typed.Item

abbrev pub contents_of : stores.Held → Contents
contents_of s = record {
  types = s.types;
  functions = s.functions;
  statics = s.statics;
  typed = typed_trees s.typed;
}

-- a function's typed term, once it is typed
abbrev pub body_in : Option typed.Item → Option typed.Body
body_in (Some (typed.body b)) = Some b
body_in _ = None

abbrev body_at : List typed.Item → Option TermId → Option typed.Body
body_at items None = None
body_at items (Some made) = body_in (slice_get items made.0)

-- A function that can be called: its place and its typed term.
pub record Callable : Type 0 where
  pub at : Place
  pub body : typed.Body

abbrev called : Place → Option typed.Body → Option Callable
called at None = None
called at (Some body) = Some (record { at = at; body = body })

abbrev callable_in : List typed.Item → Option Function → Option Callable
callable_in items None = None
callable_in items (Some f) = called f.place (body_at items (stores.typed_in f.state))

-- none where the function isn't typed
abbrev pub callable_of : Contents → FnId → Option Callable
callable_of store f = callable_in store.typed (slice_get store.functions f.0)

-- a static behind others, with zeros up to its address
abbrev with_static : List ℕ → Static → List ℕ
with_static bytes s = bytes ++ replicate (s.address - first_static - length bytes) 0 ++ s.bytes

abbrev statics_from : List ℕ → List Static → List ℕ
statics_from bytes [] = bytes
statics_from bytes (s ∷ ss) = statics_from (with_static bytes s) ss

-- the bytes with which the region begins: the statics at their addresses, with zeros between them
abbrev pub static_bytes : Contents → List ℕ
static_bytes store = statics_from [] store.statics
