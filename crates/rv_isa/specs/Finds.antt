-- Looking up in a table.
use Rattle.std.specs.Prelude.{ℕ, Option, Some, None, ◌≡◌, ◌≢◌}

-- What is found under a code: something with this code, or None where nothing has it.
abbrev pub Finds : {A : Type 0} → (A → ℕ) → ℕ → Option A → Type 0
Finds {A} code_of code (Some x) = code_of x ≡ code
Finds {A} code_of code None = (x : A) → code_of x ≢ code

-- The same under a code of two numbers.
abbrev pub FindsBoth : {A : Type 0} → (A → ℕ) → (A → ℕ) → ℕ → ℕ → Option A → Type 0
FindsBoth {A} high_of low_of high low (Some x) = (high_of x ≡ high) × (low_of x ≡ low)
FindsBoth {A} high_of low_of high low None = (x : A) → high_of x ≡ high → low_of x ≢ low
