-- How many declarations the parts of a term have.
use Rattle.std.proofs.Common.{◌≡◌, refl, sym, ap, suc, ◌+◌, List, [], ◌∷◌, ◌++◌, length, arith, zero-add}
use Rattle.tl_base.specs.declared.place.Place.{Place}
use Rattle.terra_term.specs.declared.operators.Operation.{Operation}
use Rattle.terra_term.specs.declared.operators.Operation.TheVariants as operations
use Rattle.terra_term.specs.declared.lists.TypedName.{TypedName}
use Rattle.terra_term.specs.TypedTerms.{Expression, typed, Constant', Variable, Global, Operate, Both, Either, Dereference, Select, Follow}
use Rattle.terra_term.specs.TypedTerms.{Element, Index, Address, Decay, Let}
use Rattle.terra_term.specs.Events.{Event, Opens, Closes, Declares, Takes, Uses, Mentions, declared_in, declares_all, operation_events}
use Rattle.terra_term.specs.Events.{scope, takes}

pub declared_append : (xs ys : List Event) → length (declared_in (xs ++ ys)) ≡ length (declared_in xs) + length (declared_in ys)
declared_append [] ys = sym (zero-add (length (declared_in ys)))
declared_append (Opens ∷ xs) ys = declared_append xs ys
declared_append (Closes ∷ xs) ys = declared_append xs ys
declared_append (Declares x t ∷ xs) ys =
    let rest : length (declared_in (xs ++ ys)) ≡ length (declared_in xs) + length (declared_in ys) = declared_append xs ys in omega (arith, rest)
declared_append (Takes x ∷ xs) ys = declared_append xs ys
declared_append (Uses at x t ∷ xs) ys = declared_append xs ys
declared_append (Mentions at f ∷ xs) ys = declared_append xs ys

-- a scope declares nothing of its own
pub declared_scope : (xs : List Event) → length (declared_in (scope xs)) ≡ length (declared_in xs)
declared_scope xs =
    let all : length (declared_in (xs ++ Closes ∷ [])) ≡ length (declared_in xs) + 0 = declared_append xs (Closes ∷ []) in omega (arith, all)

pub declared_names : (xs : List TypedName) → length (declared_in (declares_all xs)) ≡ length xs
declared_names [] = refl
declared_names (x ∷ xs) = ap suc (declared_names xs)

pub declared_operation : (at : Place) (op : Operation) (es : List Event) → length (declared_in (operation_events at op ++ es)) ≡ length (declared_in es)
declared_operation at operations.Negate es = refl
declared_operation at operations.Not es = refl
declared_operation at (operations.Binary op) es = refl
declared_operation at operations.StepForward es = refl
declared_operation at operations.StepBack es = refl
declared_operation at operations.Difference es = refl
declared_operation at operations.Convert es = refl
declared_operation at (operations.Extract offset) es = refl
declared_operation at (operations.Call f) es = refl
declared_operation at (operations.Primitive p) es = refl
declared_operation at operations.CallValue es = refl
declared_operation at (operations.Construct offsets) es = refl

pub declared_takes : (e : Expression) (es : List Event) → length (declared_in (takes e ++ es)) ≡ length (declared_in es)
declared_takes (typed at of (Constant' c)) es = refl
declared_takes (typed at of (Variable x)) es = refl
declared_takes (typed at of (Global address)) es = refl
declared_takes (typed at of (Operate op os)) es = refl
declared_takes (typed at of (Both a b)) es = refl
declared_takes (typed at of (Either a b)) es = refl
declared_takes (typed at of (Dereference p)) es = refl
declared_takes (typed at of (Select offset e)) es = refl
declared_takes (typed at of (Follow offset p)) es = refl
declared_takes (typed at of (Element a i)) es = refl
declared_takes (typed at of (Index p i)) es = refl
declared_takes (typed at of (Address e)) es = refl
declared_takes (typed at of (Decay a)) es = refl
declared_takes (typed at of (Let block e)) es = refl
