-- Where the variables of a function are. A variable has an address where it is an aggregate or its address is taken,
-- and then lies in the call's frame, at an offset in the order of declaration. All others are values alone.
use Rattle.std.specs.Prelude.{ℕ, suc, ◌+◌, Bool, false, ◌||◌, nat_eq, if◌then◌else◌, List, [], ◌∷◌, ◌++◌, unwrap_or, slice_get}
use Rattle.tl_base.specs.declared.ids.SymId.{SymId}
use Rattle.tl_base.specs.declared.ids.TypeId.{TypeId}
use Rattle.terra_types.specs.declared.types.TypeForm.{TypeForm}
use Rattle.terra_types.specs.Sizes.{align_of}
use Rattle.terra_types.specs.Layouts.{rounded}
use Rattle.terra_term.specs.TypedTerms.{Body}
use Rattle.terra_term.specs.Events.{Event, Opens, Closes, Declares, Takes, body_events, declared_in}
use Rattle.terra_meaning.specs.Values.{is_aggregate, bytes_at}

-- A declaration in scope: its symbol, and its number among the declarations of the function.
pub record InScope : Type 0 where
  pub symbol : SymId
  pub number : ℕ

abbrev pub number_of : SymId → List InScope → List ℕ
number_of x [] = []
number_of x (d ∷ ds) = if nat_eq x.0 d.symbol.0 then d.number ∷ [] else number_of x ds

-- the numbers of the declarations whose address is taken, with those in scope, the nearest first, and those of the
-- scopes around
abbrev pub taken : List Event → List InScope → List (List InScope) → ℕ → List ℕ
taken [] here around next = []
taken (Opens ∷ es) here around next = taken es here (here ∷ around) next
taken (Closes ∷ es) here [] next = taken es [] [] next
taken (Closes ∷ es) here (outer ∷ around) next = taken es outer around next
taken (Declares x t ∷ es) here around next = taken es (record { symbol = x; number = next } ∷ here) around (suc next)
taken (Takes x ∷ es) here around next = number_of x here ++ taken es here around next
taken (_ ∷ es) here around next = taken es here around next

-- where a declaration's variable is: a value alone, or at an offset of the frame
pub data Home : Type 0 where
  by_value : Home
  in_frame : (offset : ℕ) → Home

-- A frame: the homes of the declarations in order, and how many bytes it has.
pub record Frame : Type 0 where
  pub homes : List Home
  pub size : ℕ

abbrev pub with_home : Home → Frame → Frame
with_home h f = record f { homes = h ∷ f.homes }

abbrev pub has : ℕ → List ℕ → Bool
has n [] = false
has n (m ∷ ms) = nat_eq n m || has n ms

abbrev pub framed : List TypeForm → (placed : List ℕ) → (next offset : ℕ) → List TypeId → Frame
framed types placed next offset [] = record { homes = []; size = rounded offset 16 }
framed types placed next offset (t ∷ ts) =
    if is_aggregate types t || has next placed
    then (let at = rounded offset (unwrap_or (align_of types t) 1) in
    with_home (in_frame at) (framed types placed (suc next) (at + bytes_at types t) ts))
    else with_home by_value (framed types placed (suc next) offset ts)

abbrev pub frame_from : List TypeForm → List Event → Frame
frame_from types events = framed types (taken events [] [] 0) 0 0 (declared_in events)

abbrev pub frame_of : List TypeForm → Body → Frame
frame_of types b = frame_from types (body_events b)

abbrev pub home_at : List Home → ℕ → Home
home_at homes k = unwrap_or (slice_get homes k) by_value
