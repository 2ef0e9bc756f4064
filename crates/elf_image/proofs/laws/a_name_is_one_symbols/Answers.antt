use Rattle.std.proofs.Common.{◌≡◌, ◌⊎◌, ℕ, zero, suc, Bool, true, false, ◌||◌, cond, inl, inr, List, [], ◌∷◌, Some, slice_get, refl, sym}
use Rattle.std.proofs.Common.{ap, ◌∙◌}
use Rattle.std.specs.List.{list_any}
use Rattle.std.specs.Str.{bytes_eq}
use Rattle.std.proofs.lemmas.Slice.Eq.{bytes_eq-Decides}
use Rattle.elf_image.specs.declared.image.Symbol.{Symbol}
use Rattle.elf_image.specs.Exports.{names_differ}
use Rattle.elf_image.specs.Calls.{symbol_named}
use Rattle.elf_image.proofs.laws.a_name_is_one_symbols.Goals as goal

same_bytes : (a b : List ℕ) → a ≡ b → bytes_eq a b ≡ true
same_bytes a b e = (bytes_eq-Decides a b).1 e

-- a symbol that passes a test is among those that some symbol of which passes it
any_at : (p : Symbol → Bool) (xs : List Symbol) (k : ℕ) (s : Symbol) → slice_get xs k ≡ Some s → p s ≡ true → list_any p xs ≡ true
any_at p [] k s e h = absurd cc
any_at p (x ∷ xs) zero s e h =
    let is : x ≡ s = cc in
    let here : p x ≡ true = ap p is ∙ h in
    rw here refl
any_at p (x ∷ xs) (suc k) s e h = let behind : list_any p xs ≡ true = any_at p xs k s e h in either (p x) (list_any p xs) behind
  where
    either : (a b : Bool) → b ≡ true → (a || b) ≡ true
    either true b e = refl
    either false b e = e

-- the first test of names passed, and those behind it
first_differs : (a b : Bool) → cond a false b ≡ true → (a ≡ false) × (b ≡ true)
first_differs true b e = absurd cc
first_differs false b e = (refl, e)

is_true_or_false : (b : Bool) → (b ≡ true) ⊎ (b ≡ false)
is_true_or_false true = inl refl
is_true_or_false false = inr refl

one : (symbols : List Symbol) (k : ℕ) (s : Symbol) → names_differ symbols ≡ true → slice_get symbols k ≡ Some s → symbol_named s.name symbols ≡ Some s
one [] k s differ e = absurd cc
one (t ∷ ts) zero s differ e =
    let is : t ≡ s = cc in
    let here : bytes_eq s.name t.name ≡ true = same_bytes s.name t.name (ap (λ (u : Symbol). u.name) (sym is)) in
    ap (λ (b : Bool). cond b (Some t) (symbol_named s.name ts)) here ∙ ap Some is
one (t ∷ ts) (suc k) s differ e =
    let d = first_differs (list_any (λ (u : Symbol). bytes_eq t.name u.name) ts) (names_differ ts) differ in
    elim (is_true_or_false (bytes_eq s.name t.name)) [
      | inl same ↦
          let found = any_at (λ (u : Symbol). bytes_eq t.name u.name) ts k s e (same_bytes t.name s.name (sym ((bytes_eq-Decides s.name t.name).0 same))) in
          let no : true ≡ false = sym found ∙ d.0 in
          absurd cc
      | inr other ↦ ap (λ (b : Bool). cond b (Some t) (symbol_named s.name ts)) other ∙ one ts k s d.1 e
    ]

pub returns : goal.returns
returns c = λ symbols k s differ e. one symbols k s differ e
