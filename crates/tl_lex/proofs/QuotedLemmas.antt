-- The characters of a literal in quotes, one after another.
use Rattle.std.proofs.Common.{◌≡◌, ℕ, zero, suc, ◌+◌, ◌≤◌, Bool, true, false, cond, eqb, ltb, ◌||◌, List, [], ◌∷◌, length, take, drop, refl}
use Rattle.std.proofs.Common.{sym, ap, ◌∙◌, arith}
use Rattle.std.proofs.lemmas.Bool.{true≢false, ne_eqb, eq-eqb}
use Rattle.std.proofs.lemmas.List.{drop-drop, length-drop, length-take}
use Rattle.std.proofs.lemmas.List.Sums.{sum_by-cons, prefix_len-le-length}
use Rattle.tl_lex.specs.Bytes.{is_line_end, is_digit}
use Rattle.tl_lex.specs.LineEnds.{line_end_len}
use Rattle.tl_lex.specs.Quoted.{character, no_character, decimal, decimal_len, escaped_byte, escape, quoted_character, characters_up_to}
use Rattle.tl_lex.specs.Quoted.{characters, source_len, has_bad_escape}
use Rattle.tl_lex.specs.declared.quoted.Character.{Character}
use Rattle.tl_lex.proofs.LineEndLemmas.{line_end_len_within}

choice : (b : Bool) (x y : Character) (m : ℕ) → x.len ≤ m → y.len ≤ m → (cond b x y).len ≤ m
choice true x y m p q = p
choice false x y m p q = q

escape_within : (bytes : List ℕ) → (escape bytes).len ≤ 1 + length bytes
unfolding escape
escape_within [] = omega arith
escape_within (c ∷ rest) =
    let bs = c ∷ rest in
    choice (is_line_end c) (character (1 + line_end_len bs) 10) _ (1 + length bs)
    (omega (arith, line_end_len_within bs))
    (choice (is_digit c) (character (1 + decimal_len bs) (decimal (take (decimal_len bs) bs))) (character 2 (escaped_byte c)) (1 + length bs) (omega (arith, prefix_len-le-length is_digit (take 3 bs), length-take 3 bs)) (omega arith))

pub quoted_character_within : (quote : ℕ) (bytes : List ℕ) → (quoted_character quote bytes).len ≤ length bytes
unfolding quoted_character
quoted_character_within quote [] = omega arith
quoted_character_within quote (c ∷ rest) =
    choice (eqb c 92) (escape rest) _ (length (c ∷ rest)) (omega (arith, escape_within rest))
    (choice (eqb c quote || is_line_end c) no_character (character 1 c) (length (c ∷ rest)) (omega arith) (omega arith))

quoted_character_nil : (quote : ℕ) → (quoted_character quote []).len ≡ 0
unfolding quoted_character
quoted_character_nil quote = refl

-- no more characters come than bytes
fuel : (n m quote : ℕ) (bytes : List ℕ) → length bytes ≤ n → length bytes ≤ m → characters_up_to n quote bytes ≡ characters_up_to m quote bytes
fuel zero zero quote bytes p q = refl
fuel zero (suc m) quote [] p q = sym (ap (λ k. cond (eqb k 0) [] (quoted_character quote [] ∷ characters_up_to m quote (drop k []))) (quoted_character_nil quote))
fuel zero (suc m) quote (c ∷ rest) p q = absurd (omega arith)
fuel (suc n) zero quote [] p q = ap (λ k. cond (eqb k 0) [] (quoted_character quote [] ∷ characters_up_to n quote (drop k []))) (quoted_character_nil quote)
fuel (suc n) zero quote (c ∷ rest) p q = absurd (omega arith)
fuel (suc n) (suc m) quote bytes p q =
    go (quoted_character quote bytes).len refl (fuel n m quote (drop (quoted_character quote bytes).len bytes))
  where
    go : (k : ℕ) → (quoted_character quote bytes).len ≡ k → (length (drop (quoted_character quote bytes).len bytes) ≤ n → length (drop (quoted_character quote bytes).len bytes) ≤ m → characters_up_to n quote (drop (quoted_character quote bytes).len bytes) ≡ characters_up_to m quote (drop (quoted_character quote bytes).len bytes)) → characters_up_to (suc n) quote bytes ≡ characters_up_to (suc m) quote bytes
    go zero e ih =
        ap (λ b. cond b [] (quoted_character quote bytes ∷ characters_up_to n quote (drop (quoted_character quote bytes).len bytes))) (eq-eqb _ 0 e)
        ∙ sym (ap (λ b. cond b [] (quoted_character quote bytes ∷ characters_up_to m quote (drop (quoted_character quote bytes).len bytes))) (eq-eqb _ 0 e))
    go (suc k) e ih =
        let l = length-drop (quoted_character quote bytes).len bytes in
        ap (λ cs. cond (eqb (quoted_character quote bytes).len 0) [] (quoted_character quote bytes ∷ cs)) (ih (omega arith) (omega arith))

pub characters_step : (quote : ℕ) (bytes : List ℕ) → characters quote bytes ≡ cond (eqb (quoted_character quote bytes).len 0) [] (quoted_character quote bytes ∷ characters quote (drop (quoted_character quote bytes).len bytes))
unfolding characters
characters_step quote bytes =
    fuel (length bytes) (suc (length bytes)) quote bytes (omega arith) (omega arith)
    ∙ go (quoted_character quote bytes).len refl
  where
    go : (k : ℕ) → (quoted_character quote bytes).len ≡ k → characters_up_to (suc (length bytes)) quote bytes ≡ cond (eqb (quoted_character quote bytes).len 0) [] (quoted_character quote bytes ∷ characters_up_to (length (drop (quoted_character quote bytes).len bytes)) quote (drop (quoted_character quote bytes).len bytes))
    go k e =
        let l = length-drop (quoted_character quote bytes).len bytes in
        ap (λ cs. cond (eqb (quoted_character quote bytes).len 0) [] (quoted_character quote bytes ∷ cs))
        (fuel (length bytes) (length (drop (quoted_character quote bytes).len bytes)) quote (drop (quoted_character quote bytes).len bytes) (omega arith) (omega arith))

pub last_character : (quote : ℕ) (bytes : List ℕ) → (quoted_character quote bytes).len ≡ 0 → characters quote bytes ≡ []
last_character quote bytes e = characters_step quote bytes ∙ ap (λ b. cond b [] (quoted_character quote bytes ∷ characters quote (drop (quoted_character quote bytes).len bytes))) (eq-eqb _ 0 e)

pub next_character : (quote : ℕ) (bytes : List ℕ) (at : ℕ) (c : Character) → c ≡ quoted_character quote (drop at bytes) → (c.len ≡ 0 → ⊥) → characters quote (drop at bytes) ≡ c ∷ characters quote (drop (at + c.len) bytes)
next_character quote bytes at c e h =
    characters_step quote (drop at bytes)
    ∙ ap (λ (d : Character). cond (eqb d.len 0) [] (d ∷ characters quote (drop d.len (drop at bytes)))) (sym e)
    ∙ ap (λ b. cond b [] (c ∷ characters quote (drop c.len (drop at bytes)))) (ne_eqb c.len 0 h)
    ∙ ap (λ l. c ∷ characters quote l) (drop-drop c.len at bytes)

-- what a walk over the characters has counted so far
pub record Walked (quote : ℕ) (bytes : List ℕ) (at count : ℕ) (bad : Bool) : Type 0 where
  pub within : at ≤ length bytes
  pub count_small : count ≤ at
  pub len_is : at + source_len (characters quote (drop at bytes)) ≡ source_len (characters quote bytes)
  pub count_is : count + length (characters quote (drop at bytes)) ≡ length (characters quote bytes)
  pub bad_is : (bad || has_bad_escape (characters quote (drop at bytes))) ≡ has_bad_escape (characters quote bytes)

pub walked_none : (quote : ℕ) (bytes : List ℕ) → Walked quote bytes 0 0 false
walked_none quote bytes = record { within = omega arith; count_small = omega arith; len_is = omega arith; count_is = omega arith; bad_is = refl }

or_assoc : (a b c : Bool) → ((a || b) || c) ≡ (a || (b || c))
or_assoc true b c = refl
or_assoc false b c = refl

abbrev pub len_of : Character → ℕ
len_of c = c.len

pub walked_more : (quote : ℕ) (bytes : List ℕ) (at count : ℕ) (bad : Bool) (c : Character) → c ≡ quoted_character quote (drop at bytes) → (c.len ≡ 0 → ⊥) → Walked quote bytes at count bad → Walked quote bytes (at + c.len) (count + 1) (bad || ltb 255 c.value)
walked_more quote bytes at count bad c e h w =
    let s = next_character quote bytes at c e h in
    let more = characters quote (drop (at + c.len) bytes) in
    let n = quoted_character_within quote (drop at bytes) in
    let k : c.len ≡ (quoted_character quote (drop at bytes)).len = ap (λ (d : Character). d.len) e in
    let l = length-drop at bytes in
    let a : source_len (characters quote (drop at bytes)) ≡ c.len + source_len more = ap source_len s ∙ sum_by-cons len_of c more in
    let b : length (characters quote (drop at bytes)) ≡ suc (length more) = ap length s in
    record {
      within = omega arith;
      count_small = omega (arith, w.count_small);
      len_is = omega (arith, w.len_is);
      count_is = omega (arith, w.count_is);
      bad_is = or_assoc bad (ltb 255 c.value) (has_bad_escape more) ∙ ap (λ cs. bad || has_bad_escape cs) (sym s) ∙ w.bad_is;
    }

pub bad_already : (a b : Bool) → a ≡ true → (a || b) ≡ a
bad_already true b e = refl
bad_already false b e = absurd (true≢false (sym e))

pub bad_now : (a b : Bool) → a ≡ false → (a || b) ≡ b
bad_now true b e = absurd (true≢false e)
bad_now false b e = refl

or_false : (a : Bool) → (a || false) ≡ a
or_false true = refl
or_false false = refl

pub walked_all : (quote : ℕ) (bytes : List ℕ) (at count : ℕ) (bad : Bool) (c : Character) → c ≡ quoted_character quote (drop at bytes) → c.len ≡ 0 → Walked quote bytes at count bad → (at ≡ source_len (characters quote bytes)) × (count ≡ length (characters quote bytes)) × (bad ≡ has_bad_escape (characters quote bytes))
walked_all quote bytes at count bad c e z w =
    let s = last_character quote (drop at bytes) (sym (ap (λ (d : Character). d.len) e) ∙ z) in
    let a : source_len (characters quote (drop at bytes)) ≡ 0 = ap source_len s in
    let b : length (characters quote (drop at bytes)) ≡ 0 = ap length s in
    (omega (arith, w.len_is), omega (arith, w.count_is), sym (or_false bad) ∙ ap (λ cs. bad || has_bad_escape cs) (sym s) ∙ w.bad_is)

-- the characters' source is within the text
pub source_within : (n quote : ℕ) (bytes : List ℕ) → source_len (characters_up_to n quote bytes) ≤ length bytes
source_within zero quote bytes = omega arith
source_within (suc n) quote bytes = go (eqb (quoted_character quote bytes).len 0) (source_within n quote (drop (quoted_character quote bytes).len bytes))
  where
    go : (b : Bool) → source_len (characters_up_to n quote (drop (quoted_character quote bytes).len bytes)) ≤ length (drop (quoted_character quote bytes).len bytes) → source_len (cond b [] (quoted_character quote bytes ∷ characters_up_to n quote (drop (quoted_character quote bytes).len bytes))) ≤ length bytes
    go true ih = omega arith
    go false ih = omega (arith, length-drop (quoted_character quote bytes).len bytes, quoted_character_within quote bytes, sum_by-cons len_of (quoted_character quote bytes) (characters_up_to n quote (drop (quoted_character quote bytes).len bytes)))

pub characters_within : (quote : ℕ) (bytes : List ℕ) → source_len (characters quote bytes) ≤ length bytes
unfolding characters
characters_within quote bytes = source_within (length bytes) quote bytes
