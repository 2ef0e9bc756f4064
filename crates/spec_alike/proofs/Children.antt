-- What holds of each node of a list, and of one where there may be none.
use Rattle.std.proofs.Common.{suc, List, [], ◌∷◌, Option, Some, None, arith}
use Rattle.std.specs.Prelude.{option_to_list}
use Rattle.std.specs.List.{All, AllByRecursion as Each}

abbrev pub IfAny : {X : Type 0} → (X → Type 0) → Option X → Type 0
IfAny P (Some x) = P x
IfAny P None = Unit {0}

pub each : {X : Type 0} (P : X → Type 0) (xs : List X) → All P xs → Each P xs
each P [] h = tt
each P (x ∷ xs) h = (h 0 x (omega arith), each P xs (λ k d below. h (suc k) d (omega (arith, below))))

pub each-if-any : {X : Type 0} (P : X → Type 0) (o : Option X) → Each P (option_to_list o) → IfAny P o
each-if-any P (Some x) h = h.0
each-if-any P None h = tt
