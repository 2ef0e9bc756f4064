-- What stays in a store, whatever is called: a function's term once it is defined, its typed term once it is typed, its refusal,
-- and the trees of nodes.
use Rattle.std.specs.Prelude.{◌≡◌, ℕ, List, Some, slice_get}
use Rattle.tl_base.specs.declared.ids.FnId.{FnId}
use Rattle.tl_base.specs.declared.ids.TermId.{TermId}
use Rattle.terra_term.specs.declared.refusal.Refusal.{Refusal}
use Rattle.terra_term.specs.declared.store.FunctionState.{FunctionState}
use Rattle.terra_term.specs.Held.{Held, state_of, term_in, typed_in, refusal_in}

-- how far a function came stays, but that it may come further
pub record Stays (old new : FunctionState) : Type 0 where
  pub term : (t : TermId) → term_in old ≡ Some t → term_in new ≡ Some t
  pub typed : (made : TermId) → typed_in old ≡ Some made → typed_in new ≡ Some made
  pub refusal : (why : Refusal) → refusal_in old ≡ Some why → refusal_in new ≡ Some why

abbrev pub AllStay : (old new : Held) → Type 0
AllStay old new = (f : FnId) → Stays (state_of old f) (state_of new f)

-- the elements of a list keep their places in another
abbrev pub AreKept : {A : Type 0} → (old new : List A) → Type 0
AreKept {A} old new = (i : ℕ) (x : A) → slice_get old i ≡ Some x → slice_get new i ≡ Some x
