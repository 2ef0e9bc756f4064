-- Long brackets: where the first closing one stands.
use Rattle.std.proofs.Common.{◌≡◌, ℕ, suc, ◌+◌, ◌-◌, ◌*◌, ◌<◌, ◌≤◌, Bool, true, false, cond, eqb, ◌&&◌, List, [], ◌∷◌, length, get_or, take}
use Rattle.std.proofs.Common.{drop, Option, Some, None, refl, sym, ap, ◌∙◌, arith}
use Rattle.std.specs.Prelude.{option_map}
use Rattle.std.proofs.lemmas.Bool.{false≢true, eqb-true, and_parts}
use Rattle.std.proofs.lemmas.List.{drop_more, drop_all, length-drop, get_or-drop, length-take-le}
use Rattle.tl_lex.specs.Brackets.{begins_with, equals_len, bracket_level, is_level, closes, closing_place, inside_at}

pub begins_with-is : (c : ℕ) (bytes : List ℕ) → begins_with c bytes ≡ true → (0 < length bytes) × (get_or bytes 0 0 ≡ c)
begins_with-is c [] e = absurd (false≢true e)
begins_with-is c (x ∷ rest) e = (omega arith, eqb-true x c e)

-- a long bracket has its `=` and its two ends
pub bracket_bounds : (c : ℕ) (bytes : List ℕ) (level : ℕ) → bracket_level c bytes ≡ Some level → (level + 2 ≤ length bytes) × (get_or bytes (level + 1) 0 ≡ c)
unfolding bracket_level
bracket_bounds c [] level e = absurd cc
bracket_bounds c (x ∷ rest) level e = go (eqb x c && begins_with c (drop (equals_len rest) rest)) refl e
  where
    go : (b : Bool) → (eqb x c && begins_with c (drop (equals_len rest) rest)) ≡ b → cond b (Some (equals_len rest)) None ≡ Some level → (level + 2 ≤ length (x ∷ rest)) × (get_or (x ∷ rest) (level + 1) 0 ≡ c)
    go false h o = absurd cc
    go true h o =
        let n : equals_len rest ≡ level = cc in
        let parts = and_parts (eqb x c) (begins_with c (drop (equals_len rest) rest)) h in
        let b = begins_with-is c (drop level rest) (ap (λ k. begins_with c (drop k rest)) (sym n) ∙ parts.1) in
        let l = length-drop level rest in
        let s : level + 1 ≡ suc level = omega arith in
        (omega (arith, b.0), ap (λ k. get_or (x ∷ rest) k 0) s ∙ ap (λ k. get_or rest k 0) (omega arith) ∙ sym (get_or-drop level rest 0 0) ∙ b.1)

pub is_level-is : (level : ℕ) (o : Option ℕ) → is_level level o ≡ true → o ≡ Some level
is_level-is level (Some n) e = ap Some (eqb-true n level e)
is_level-is level None e = absurd (false≢true e)

abbrev shifted : ℕ → Option ℕ → Option ℕ
shifted at o = option_map (λ n. at + n) o

shifted_none : (o : Option ℕ) → o ≡ shifted 0 o
shifted_none None = refl
shifted_none (Some n) = ap Some (omega arith)

shifted_more : (at : ℕ) (o : Option ℕ) → shifted at (option_map suc o) ≡ shifted (at + 1) o
shifted_more at None = refl
shifted_more at (Some n) = ap Some (omega arith)

-- the bytes before `at` begin no closing bracket
pub record Open (level : ℕ) (bytes : List ℕ) (at : ℕ) : Type 0 where
  pub same : closing_place level bytes ≡ shifted at (closing_place level (drop at bytes))

pub open_none : (level : ℕ) (bytes : List ℕ) → Open level bytes 0
open_none level bytes = record { same = shifted_none (closing_place level bytes) }

pub closing_step : (level x : ℕ) (rest : List ℕ) → closing_place level (x ∷ rest) ≡ cond (closes level (x ∷ rest)) (Some 0) (option_map suc (closing_place level rest))
unfolding closing_place
closing_step level x rest = refl

at_place : (level : ℕ) (bytes : List ℕ) (at : ℕ) → at < length bytes → closing_place level (drop at bytes) ≡ cond (closes level (drop at bytes)) (Some 0) (option_map suc (closing_place level (drop (at + 1) bytes)))
at_place level bytes at lt =
    let d = drop_more bytes at 0 lt in
    ap (closing_place level) d
    ∙ closing_step level (get_or bytes at 0) (drop (at + 1) bytes)
    ∙ ap (λ l. cond (closes level l) (Some 0) (option_map suc (closing_place level (drop (at + 1) bytes)))) (sym d)

pub open_more : (level : ℕ) (bytes : List ℕ) (at : ℕ) → at < length bytes → closes level (drop at bytes) ≡ false → Open level bytes at → Open level bytes (at + 1)
open_more level bytes at lt other h = record {
  same =
      h.same
      ∙ ap (shifted at) (at_place level bytes at lt ∙ ap (λ b. cond b (Some 0) (option_map suc (closing_place level (drop (at + 1) bytes)))) other)
      ∙ shifted_more at (closing_place level (drop (at + 1) bytes));
}

pub closed_here : (level : ℕ) (bytes : List ℕ) (at : ℕ) → at < length bytes → closes level (drop at bytes) ≡ true → Open level bytes at → closing_place level bytes ≡ Some at
closed_here level bytes at lt found h =
    h.same
    ∙ ap (shifted at) (at_place level bytes at lt ∙ ap (λ b. cond b (Some 0) (option_map suc (closing_place level (drop (at + 1) bytes)))) found)
    ∙ ap Some (omega arith)

pub closing_nil : (level : ℕ) → closing_place level [] ≡ None
unfolding closing_place
closing_nil level = refl

pub never_closed : (level : ℕ) (bytes : List ℕ) (at : ℕ) → length bytes ≤ at → Open level bytes at → closing_place level bytes ≡ None
never_closed level bytes at le h = h.same ∙ ap (λ l. shifted at (closing_place level l)) (drop_all at bytes le) ∙ ap (shifted at) (closing_nil level)

-- a closing bracket is within the text, and its last byte is `]`
pub closing_bounds : (level : ℕ) (bytes : List ℕ) (n : ℕ) → closing_place level bytes ≡ Some n → (n + level + 2 ≤ length bytes) × (get_or bytes (n + level + 1) 0 ≡ 93)
closing_bounds level [] n e = let h = closing_nil level in absurd cc
closing_bounds level (x ∷ rest) n e = go (closes level (x ∷ rest)) refl (closing_place level rest) (closing_bounds level rest) (sym (closing_step level x rest) ∙ e)
  where
    go : (b : Bool) → closes level (x ∷ rest) ≡ b → (o : Option ℕ) → ((k : ℕ) → o ≡ Some k → (k + level + 2 ≤ length rest) × (get_or rest (k + level + 1) 0 ≡ 93)) → cond b (Some 0) (option_map suc o) ≡ Some n → (n + level + 2 ≤ length (x ∷ rest)) × (get_or (x ∷ rest) (n + level + 1) 0 ≡ 93)
    go true h o ih q =
        let z : 0 ≡ n = cc in
        let b = bracket_bounds 93 (x ∷ rest) level (is_level-is level (bracket_level 93 (x ∷ rest)) h) in
        let m : n + level + 1 ≡ level + 1 = omega arith in
        (omega (arith, b.0), ap (λ k. get_or (x ∷ rest) k 0) m ∙ b.1)
    go false h None ih q = absurd cc
    go false h (Some k) ih q =
        let z : suc k ≡ n = cc in
        let b = ih k refl in
        let m : n + level + 1 ≡ suc (k + level + 1) = omega arith in
        (omega (arith, b.0), ap (λ j. get_or (x ∷ rest) j 0) m ∙ b.1)

pub inside_by : (level : ℕ) (bytes : List ℕ) (n : ℕ) → closing_place level (drop (level + 2) bytes) ≡ Some n → inside_at level bytes ≡ Some (take n (drop (level + 2) bytes))
inside_by level bytes n e = ap (option_map (λ k. take k (drop (level + 2) bytes))) e

pub inside_none : (level : ℕ) (bytes : List ℕ) → closing_place level (drop (level + 2) bytes) ≡ None → inside_at level bytes ≡ None
inside_none level bytes e = ap (option_map (λ k. take k (drop (level + 2) bytes))) e

pub inside_short : (level : ℕ) (bytes : List ℕ) → length bytes ≤ level + 2 → inside_at level bytes ≡ None
inside_short level bytes le = inside_none level bytes (ap (closing_place level) (drop_all (level + 2) bytes le) ∙ closing_nil level)

-- how long what is inside is, and that a `]` ends it all
pub inside_bounds : (level : ℕ) (bytes inside : List ℕ) → inside_at level bytes ≡ Some inside → (length inside + 2 * (level + 2) ≤ length bytes) × (get_or bytes (length inside + 2 * (level + 2) - 1) 0 ≡ 93)
inside_bounds level bytes inside e = go (closing_place level (drop (level + 2) bytes)) refl e
  where
    go : (o : Option ℕ) → closing_place level (drop (level + 2) bytes) ≡ o → option_map (λ k. take k (drop (level + 2) bytes)) o ≡ Some inside → (length inside + 2 * (level + 2) ≤ length bytes) × (get_or bytes (length inside + 2 * (level + 2) - 1) 0 ≡ 93)
    go None h q = absurd cc
    go (Some n) h q =
        let b = closing_bounds level (drop (level + 2) bytes) n h in
        let t : take n (drop (level + 2) bytes) ≡ inside = cc in
        let d = length-drop (level + 2) bytes in
        let k : length (take n (drop (level + 2) bytes)) ≡ n = length-take-le n (drop (level + 2) bytes) (omega (arith, b.0)) in
        let l : length inside ≡ n = ap length (sym t) ∙ k in
        let m : length inside + 2 * (level + 2) - 1 ≡ (level + 2) + (n + level + 1) = omega arith in
        (omega (arith, b.0), ap (λ j. get_or bytes j 0) m ∙ sym (get_or-drop (level + 2) bytes (n + level + 1) 0) ∙ b.1)
