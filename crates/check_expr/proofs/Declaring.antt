-- Variables that are declared one after another, and scopes that are left.
use Rattle.std.proofs.Common.{◌≡◌, ℕ, ◌+◌, ◌<◌, ◌≤◌, List, [], ◌∷◌, ◌++◌, length, drop, get_or, refl, sym, ap, ◌∙◌, arith}
use Rattle.std.proofs.lemmas.List.{append-nil, append_assoc, at_drop_more, at_drop_all, take-take}
use Rattle.terra_term.specs.declared.lists.TypedName.{TypedName}
use Rattle.check_model.specs.Typing.{TypingState, with_variable, with_variables, cut_to}

abbrev having : TypingState → List TypedName → TypingState
having w vs = record w { variables = vs }

-- one variable more
pub names_more : (w : TypingState) (ns : List TypedName) (i : ℕ) (d : TypedName) → i < length ns
    → with_variables (with_variable w (get_or ns i d).symbol (get_or ns i d).of) (drop (i + 1) ns) ≡ with_variables w (drop i ns)
names_more w ns i d within =
    let n = get_or ns i d in
    let rest = drop (i + 1) ns in
    ap (having w) (append_assoc w.variables (n ∷ []) rest ∙ ap (λ (vs : List TypedName). w.variables ++ vs) (sym
    (at_drop_more (λ vs. vs) ns i d within)))

-- no variable is left
pub names_end : (w : TypingState) (ns : List TypedName) (i : ℕ) → length ns ≤ i → with_variables w (drop i ns) ≡ w
names_end w ns i over =
    ap (having w) (ap (λ (vs : List TypedName). w.variables ++ vs) (at_drop_all (λ vs. vs) ns i over) ∙ append-nil w.variables)

-- a scope within another one
pub cut_twice : (w : TypingState) (n m : ℕ) → n ≤ m → cut_to (cut_to w m) n ≡ cut_to w n
cut_twice w n m within = ap (having w) (take-take n m w.variables within)

-- how many there are with one more
pub length_push : (vs : List TypedName) (v : TypedName) → length (vs ++ v ∷ []) ≡ length vs + 1
length_push [] v = refl
length_push (u ∷ us) v = let h = length_push us v in omega (arith, h)
