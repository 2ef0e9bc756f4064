-- What is marked is numbered in order.
use Rattle.std.specs.Prelude.{◌≡◌, ℕ, zero, suc, ◌+◌, ◌<◌, Bool, true, false, List, [], ◌∷◌, ◌++◌, length, drop, get_or, Option, Some, None}
use Rattle.std.specs.Prelude.{if◌then◌else◌}
use Rattle.std.proofs.Common.{refl, sym, ap, ◌∙◌, arith}
use Rattle.std.proofs.lemmas.List.{append_assoc}
use Rattle.std.proofs.Math.Seq.{drop-cons}
use Rattle.tl_tree.specs.Code.{Items}
use Rattle.tl_renaming.specs.Renamed.{declarations_below}
use Rattle.tl_renaming.specs.Passes.{numbers_from, AreDeclarations, AreNumbers}

abbrev bit : Bool → ℕ
bit b = if b then 1 else 0

-- how many of the first so many are marked
abbrev count : List Bool → ℕ → ℕ
count marks zero = 0
count marks (suc n) = count marks n + bit (get_or marks n false)

moved : (a b c d : ℕ) → a ≡ b + c → a + d ≡ b + (c + d)
moved a b c d e = omega (arith, e)

count_cons : (m : Bool) (marks : List Bool) (n : ℕ) → count (m ∷ marks) (suc n) ≡ bit m + count marks n
count_cons m marks zero = omega arith
count_cons m marks (suc n) =
    moved (count (m ∷ marks) (suc n)) (bit m) (count marks n) (bit (get_or marks n false)) (count_cons m marks n)

abbrev numbered : Bool → ℕ → Option ℕ
numbered b k = if b then Some k else None

later : (start one more all : ℕ) → all ≡ one + more → (start + one) + more + 1 ≡ start + all + 1
later start one more all e = omega (arith, e)

same_start : (start more all : ℕ) → all ≡ 0 + more → start + more + 1 ≡ start + all + 1
same_start start more all e = omega (arith, e)

first_number : (start : ℕ) → start + 1 ≡ start + 0 + 1
first_number start = omega arith

number_at : (marks : List Bool) (start n : ℕ)
    → get_or (numbers_from start marks) n None ≡ numbered (get_or marks n false) (start + count marks n + 1)
number_at [] start n = refl
number_at (true ∷ marks) start zero = ap Some (first_number start)
number_at (true ∷ marks) start (suc n) =
    number_at marks (start + 1) n
    ∙ ap (numbered (get_or marks n false)) (later start 1 (count marks n) (count (true ∷ marks) (suc n)) (count_cons true marks n))
number_at (false ∷ marks) start zero = refl
number_at (false ∷ marks) start (suc n) =
    number_at marks start n
    ∙ ap (numbered (get_or marks n false)) (same_start start (count marks n) (count (false ∷ marks) (suc n)) (count_cons false marks n))

count_below : (items : Items) (marks : List Bool) → AreDeclarations items marks → (n : ℕ) → count marks n ≡ declarations_below items n
count_below items marks h zero = refl
count_below items marks h (suc n) =
    ap (λ k. k + bit (get_or marks n false)) (count_below items marks h n)
    ∙ ap (λ b. declarations_below items n + bit b) (h n)

from_none : (k : ℕ) → 0 + k + 1 ≡ k + 1
from_none k = omega arith

pub are_numbers : (items : Items) (marks : List Bool) (numbers : List (Option ℕ)) → AreDeclarations items marks
    → numbers ≡ numbers_from 0 marks → AreNumbers items numbers
are_numbers items marks numbers h e = λ n.
    ap (λ l. get_or l n None) e ∙ number_at marks 0 n
    ∙ ap (numbered (get_or marks n false)) (from_none (count marks n) ∙ ap (λ k. k + 1) (count_below items marks h n))
    ∙ ap (λ b. numbered b (declarations_below items n + 1)) (h n)

-- one more is numbered
pub number_step : (marks : List Bool) (i start : ℕ) (numbers total : List (Option ℕ)) → i < length marks → get_or marks i false ≡ true
    → numbers ++ numbers_from start (drop i marks) ≡ total
    → numbers ++ Some (start + 1) ∷ [] ++ numbers_from (start + 1) (drop (suc i) marks) ≡ total
number_step marks i start numbers total lt is h =
    append_assoc numbers (Some (start + 1) ∷ []) (numbers_from (start + 1) (drop (suc i) marks))
    ∙ sym (ap (λ l. numbers ++ numbers_from start l) (drop-cons marks i false lt ∙ ap (λ b. b ∷ drop (suc i) marks) is)) ∙ h

pub unmarked_step : (marks : List Bool) (i start : ℕ) (numbers total : List (Option ℕ)) → i < length marks → get_or marks i false ≡ false
    → numbers ++ numbers_from start (drop i marks) ≡ total
    → numbers ++ None ∷ [] ++ numbers_from start (drop (suc i) marks) ≡ total
unmarked_step marks i start numbers total lt is h =
    append_assoc numbers (None ∷ []) (numbers_from start (drop (suc i) marks))
    ∙ sym (ap (λ l. numbers ++ numbers_from start l) (drop-cons marks i false lt ∙ ap (λ b. b ∷ drop (suc i) marks) is)) ∙ h
