-- What a front of a text decides by itself: long brackets and characters in quotes that end within it.
use Rattle.std.proofs.Common.{◌≡◌, ℕ, zero, suc, ◌+◌, ◌-◌, ◌<◌, ◌≤◌, min, Bool, true, false, cond, eqb, ◌&&◌, ◌||◌, List, [], ◌∷◌, length}
use Rattle.std.proofs.Common.{get_or, take, drop, Option, Some, None, refl, sym, ap, ◌∙◌, arith}
use Rattle.std.specs.Prelude.{option_map}
use Rattle.std.specs.List.{prefix_len, list_all}
use Rattle.std.proofs.lemmas.Bool.{true≢false, false≢true, eqb-true, eq-eqb, ne_eqb, and_parts, and_from}
use Rattle.std.proofs.lemmas.List.{drop-drop, drop-take, take-take, length-take, length-drop, get_or-drop, get_or-take}
use Rattle.std.proofs.lemmas.List.Sums.{sum_by-cons}
use Rattle.tl_lex.specs.Bytes.{is_line_end, is_digit, is_quote}
use Rattle.tl_lex.specs.LineEnds.{is_pair, line_end_len}
use Rattle.tl_lex.specs.Brackets.{begins_with, equals_len, bracket_level, is_level, closes, closing_place}
use Rattle.tl_lex.specs.Quoted.{character, no_character, decimal, decimal_len, escaped_byte, escape, quoted_character, characters}
use Rattle.tl_lex.specs.Quoted.{source_len}
use Rattle.tl_lex.specs.declared.quoted.Character.{Character}
use Rattle.tl_lex.proofs.BracketLemmas.{begins_with-is, is_level-is, closing_step, closing_nil, closing_bounds}
use Rattle.tl_lex.proofs.QuotedLemmas.{characters_step, last_character, len_of}

-- ---- prefixes

pub prefix_len-take : (p : ℕ → Bool) (n : ℕ) (xs : List ℕ) → prefix_len p (take n xs) ≡ min n (prefix_len p xs)
prefix_len-take p zero xs = omega arith
prefix_len-take p (suc n) [] = omega arith
prefix_len-take p (suc n) (x ∷ xs) = go (p x) (prefix_len-take p n xs)
  where
    go : (b : Bool) → prefix_len p (take n xs) ≡ min n (prefix_len p xs) → cond b (1 + prefix_len p (take n xs)) 0 ≡ min (suc n) (cond b (1 + prefix_len p xs) 0)
    go true ih = omega (arith, ih)
    go false ih = omega arith

-- a front whose bytes are all of a class is no longer than the longest
pub run_bound : (p : ℕ → Bool) (n : ℕ) (xs : List ℕ) → n ≤ length xs → list_all p (take n xs) ≡ true → n ≤ prefix_len p xs
run_bound p zero xs le h = omega arith
run_bound p (suc n) [] le h = absurd (omega arith)
run_bound p (suc n) (x ∷ xs) le h =
    let parts = and_parts (p x) (list_all p (take n xs)) h in
    let ih = run_bound p n xs (omega arith) parts.1 in
    let e : prefix_len p (x ∷ xs) ≡ 1 + prefix_len p xs = ap (λ b. cond b (1 + prefix_len p xs) 0) parts.0 in
    omega arith

pub run_all : (p : ℕ → Bool) (xs : List ℕ) → list_all p (take (prefix_len p xs) xs) ≡ true
run_all p [] = refl
run_all p (x ∷ xs) = go (p x) refl (run_all p xs)
  where
    go : (b : Bool) → p x ≡ b → list_all p (take (prefix_len p xs) xs) ≡ true → list_all p (take (cond b (1 + prefix_len p xs) 0) (x ∷ xs)) ≡ true
    go false e ih = refl
    go true e ih =
        let s : 1 + prefix_len p xs ≡ suc (prefix_len p xs) = omega arith in
        ap (λ k. list_all p (take k (x ∷ xs))) s ∙ and_from (p x) (list_all p (take (prefix_len p xs) xs)) e ih

begins_from : (c : ℕ) (bytes : List ℕ) → 0 < length bytes → get_or bytes 0 0 ≡ c → begins_with c bytes ≡ true
begins_from c [] p e = absurd (omega arith)
begins_from c (x ∷ rest) p e = eq-eqb x c e

-- ---- long brackets

level_by : (c x : ℕ) (rest : List ℕ) (level : ℕ) → x ≡ c → level ≡ equals_len rest → begins_with c (drop level rest) ≡ true → bracket_level c (x ∷ rest) ≡ Some level
unfolding bracket_level
level_by c x rest level e l b =
    ap (λ t. cond (t && begins_with c (drop (equals_len rest) rest)) (Some (equals_len rest)) None) (eq-eqb x c e)
    ∙ ap (λ t. cond t (Some (equals_len rest)) None) (ap (λ k. begins_with c (drop k rest)) (sym l) ∙ b)
    ∙ ap Some (sym l)

pub record Bracket (c x : ℕ) (rest : List ℕ) (level : ℕ) : Type 0 where
  pub first : x ≡ c
  pub level_is : level ≡ equals_len rest
  pub last : begins_with c (drop level rest) ≡ true

pub level_parts : (c x : ℕ) (rest : List ℕ) (level : ℕ) → bracket_level c (x ∷ rest) ≡ Some level → Bracket c x rest level
unfolding bracket_level
level_parts c x rest level e = go (eqb x c && begins_with c (drop (equals_len rest) rest)) refl e
  where
    go : (b : Bool) → (eqb x c && begins_with c (drop (equals_len rest) rest)) ≡ b → cond b (Some (equals_len rest)) None ≡ Some level → Bracket c x rest level
    go false h o = absurd cc
    go true h o =
        let n : equals_len rest ≡ level = cc in
        let parts = and_parts (eqb x c) (begins_with c (drop (equals_len rest) rest)) h in
        record { first = eqb-true x c parts.0; level_is = sym n; last = ap (λ k. begins_with c (drop k rest)) (sym n) ∙ parts.1 }

level_nil : (c : ℕ) (level : ℕ) → bracket_level c [] ≡ Some level → ⊥
unfolding bracket_level
level_nil c level e = absurd cc

pub begins_in_front : (c i n : ℕ) (r : List ℕ) → begins_with c (drop n (take i r)) ≡ true → begins_with c (drop n r) ≡ true
begins_in_front c i n r e =
    let b = begins_with-is c (drop n (take i r)) e in
    let l = length-drop n (take i r) in
    let t = length-take i r in
    let d = length-drop n r in
    let z : n + 0 ≡ n = omega arith in
    let lt : n < i = omega (arith, b.0) in
    begins_from c (drop n r) (omega (arith, b.0))
    (get_or-drop n r 0 0 ∙ ap (λ k. get_or r k 0) z ∙ sym (get_or-take i r n 0 lt) ∙ sym (ap (λ k. get_or (take i r) k 0) z) ∙ sym (get_or-drop n (take i r) 0 0) ∙ b.1)

begins_of_front : (c i n : ℕ) (r : List ℕ) → n < i → begins_with c (drop n r) ≡ true → begins_with c (drop n (take i r)) ≡ true
begins_of_front c i n r lt e =
    let b = begins_with-is c (drop n r) e in
    let l = length-drop n (take i r) in
    let t = length-take i r in
    let d = length-drop n r in
    let z : n + 0 ≡ n = omega arith in
    begins_from c (drop n (take i r)) (omega (arith, b.0))
    (get_or-drop n (take i r) 0 0 ∙ ap (λ k. get_or (take i r) k 0) z ∙ get_or-take i r n 0 lt ∙ sym (ap (λ k. get_or r k 0) z) ∙ sym (get_or-drop n r 0 0) ∙ b.1)

-- a bracket at the front of a front is one of the text
pub bracket_in_front : (c : ℕ) (bytes : List ℕ) (j level : ℕ) → bracket_level c (take j bytes) ≡ Some level → bracket_level c bytes ≡ Some level
bracket_in_front c [] zero level e = absurd (level_nil c level e)
bracket_in_front c [] (suc i) level e = absurd (level_nil c level e)
bracket_in_front c (x ∷ r) zero level e = absurd (level_nil c level e)
bracket_in_front c (x ∷ r) (suc i) level e =
    let p = level_parts c x (take i r) level e in
    let b = begins_with-is c (drop level (take i r)) p.last in
    let l = length-drop level (take i r) in
    let t = length-take i r in
    let k = prefix_len-take (λ y. eqb y 61) i r in
    level_by c x r level p.first (omega (arith, p.level_is, b.0)) (begins_in_front c i level r p.last)

-- a bracket of the text within a front is one of the front
pub bracket_of_front : (c : ℕ) (bytes : List ℕ) (j level : ℕ) → level + 2 ≤ j → bracket_level c bytes ≡ Some level → bracket_level c (take j bytes) ≡ Some level
bracket_of_front c [] j level le e = absurd (level_nil c level e)
bracket_of_front c (x ∷ r) zero level le e = absurd (omega arith)
bracket_of_front c (x ∷ r) (suc i) level le e =
    let p = level_parts c x r level e in
    let k = prefix_len-take (λ y. eqb y 61) i r in
    level_by c x (take i r) level p.first (omega (arith, p.level_is)) (begins_of_front c i level r (omega arith) p.last)

closes_by : (level : ℕ) (bytes : List ℕ) → bracket_level 93 bytes ≡ Some level → closes level bytes ≡ true
closes_by level bytes e = ap (is_level level) e ∙ eq-eqb level level refl

closes_is : (level : ℕ) (bytes : List ℕ) → closes level bytes ≡ true → bracket_level 93 bytes ≡ Some level
closes_is level bytes e = is_level-is level (bracket_level 93 bytes) e

closing_cons : (level x : ℕ) (rest : List ℕ) (b : Bool) → closes level (x ∷ rest) ≡ b → closing_place level (x ∷ rest) ≡ cond b (Some 0) (option_map suc (closing_place level rest))
closing_cons level x rest b e = closing_step level x rest ∙ ap (λ t. cond t (Some 0) (option_map suc (closing_place level rest))) e

is_false : (b : Bool) → (b ≡ true → ⊥) → b ≡ false
is_false true h = absurd (h refl)
is_false false h = refl

-- the first closing bracket of a front is that of the text
pub closing_in_front : (level j : ℕ) (bytes : List ℕ) (n : ℕ) → closing_place level (take j bytes) ≡ Some n → closing_place level bytes ≡ Some n
closing_in_front level zero bytes n e = let h = closing_nil level in absurd cc
closing_in_front level (suc i) [] n e = e
closing_in_front level (suc i) (x ∷ r) n e = go (closes level (x ∷ take i r)) refl (closing_place level (take i r)) refl (closing_in_front level i r)
  where
    go : (b : Bool) → closes level (x ∷ take i r) ≡ b → (o : Option ℕ) → closing_place level (take i r) ≡ o → ((k : ℕ) → closing_place level (take i r) ≡ Some k → closing_place level r ≡ Some k) → closing_place level (x ∷ r) ≡ Some n
    go true h o q ih =
        closing_cons level x r true (closes_by level (x ∷ r) (bracket_in_front 93 (x ∷ r) (suc i) level (closes_is level (x ∷ take i r) h)))
        ∙ sym (closing_cons level x (take i r) true h) ∙ e
    go false h None q ih =
        let f : None ≡ Some n = ap (option_map suc) (sym q) ∙ sym (closing_cons level x (take i r) false h) ∙ e in
        absurd cc
    go false h (Some k) q ih =
        let b = closing_bounds level (take i r) k q in
        let t = length-take i r in
        let other = is_false (closes level (x ∷ r)) (λ y. true≢false (sym (closes_by level (x ∷ take i r) (bracket_of_front 93 (x ∷ r) (suc i) level (omega (arith, b.0)) (closes_is level (x ∷ r) y))) ∙ h)) in
        closing_cons level x r false other
        ∙ ap (option_map suc) (ih k q ∙ sym q)
        ∙ sym (closing_cons level x (take i r) false h) ∙ e

-- the first closing bracket of a text, in a front that has it
pub closing_of_front : (level j : ℕ) (bytes : List ℕ) (n : ℕ) → n + level + 2 ≤ j → closing_place level bytes ≡ Some n → closing_place level (take j bytes) ≡ Some n
closing_of_front level zero bytes n le e = absurd (omega arith)
closing_of_front level (suc i) [] n le e = e
closing_of_front level (suc i) (x ∷ r) n le e = go (closes level (x ∷ r)) refl (closing_place level r) refl (closing_of_front level i r)
  where
    go : (b : Bool) → closes level (x ∷ r) ≡ b → (o : Option ℕ) → closing_place level r ≡ o → ((k : ℕ) → k + level + 2 ≤ i → closing_place level r ≡ Some k → closing_place level (take i r) ≡ Some k) → closing_place level (x ∷ take i r) ≡ Some n
    go true h o q ih =
        let z : Some 0 ≡ Some n = sym (closing_cons level x r true h) ∙ e in
        closing_cons level x (take i r) true (closes_by level (x ∷ take i r) (bracket_of_front 93 (x ∷ r) (suc i) level (omega arith) (closes_is level (x ∷ r) h))) ∙ z
    go false h None q ih =
        let f : None ≡ Some n = ap (option_map suc) (sym q) ∙ sym (closing_cons level x r false h) ∙ e in
        absurd cc
    go false h (Some k) q ih =
        let f : Some (suc k) ≡ Some n = ap (option_map suc) (sym q) ∙ sym (closing_cons level x r false h) ∙ e in
        let m : suc k ≡ n = cc in
        let other = is_false (closes level (x ∷ take i r)) (λ y. true≢false (sym (closes_by level (x ∷ r) (bracket_in_front 93 (x ∷ r) (suc i) level (closes_is level (x ∷ take i r) y))) ∙ h)) in
        closing_cons level x (take i r) false other ∙ ap (option_map suc) (ih k (omega arith) q) ∙ f

-- ---- characters in quotes

decimal_same : (i : ℕ) (r : List ℕ) → decimal_len (take i r) < i → decimal_len (take i r) ≡ decimal_len r
decimal_same i r lt =
    let a = prefix_len-take is_digit 3 (take i r) in
    let b = prefix_len-take is_digit i r in
    let c = prefix_len-take is_digit 3 r in
    omega arith

decimal_back : (i : ℕ) (r : List ℕ) → decimal_len r < i → decimal_len (take i r) ≡ decimal_len r
decimal_back i r lt =
    let a = prefix_len-take is_digit 3 (take i r) in
    let b = prefix_len-take is_digit i r in
    let c = prefix_len-take is_digit 3 r in
    omega arith

-- a line end within a front
line_end_same : (y h : ℕ) (s : List ℕ) → is_line_end y ≡ true → line_end_len (y ∷ take h s) < suc h → line_end_len (y ∷ take h s) ≡ line_end_len (y ∷ s)
line_end_same y zero s e lt = let k : line_end_len (y ∷ []) ≡ 1 = ap (λ (b : Bool). cond b 1 0) e in absurd (omega arith)
line_end_same y (suc h) [] e lt = refl
line_end_same y (suc h) (z ∷ s) e lt = refl

line_end_back : (y h : ℕ) (s : List ℕ) → is_line_end y ≡ true → line_end_len (y ∷ s) < suc h → line_end_len (y ∷ take h s) ≡ line_end_len (y ∷ s)
line_end_back y zero [] e lt = refl
line_end_back y zero (z ∷ s) e lt = absurd (go (is_pair y z) (is_line_end y) e lt)
  where
    go : (b c : Bool) → c ≡ true → cond b 2 (cond c 1 0) < 1 → ⊥
    go true c f q = omega arith
    go false true f q = omega arith
    go false false f q = absurd (false≢true f)
line_end_back y (suc h) [] e lt = refl
line_end_back y (suc h) (z ∷ s) e lt = refl

-- an escape that ends within a front, by the front
escape_in_front : (i : ℕ) (r : List ℕ) → 0 < (escape (take i r)).len → (escape (take i r)).len < suc i → escape (take i r) ≡ escape r
unfolding escape
escape_in_front zero r p q = absurd (omega arith)
escape_in_front (suc h) [] p q = refl
escape_in_front (suc h) (y ∷ s) p q = go (is_line_end y) refl (is_digit y) q
  where
    go : (b : Bool) → is_line_end y ≡ b → (d : Bool) → (cond b (character (1 + line_end_len (y ∷ take h s)) 10) (cond d (character (1 + decimal_len (y ∷ take h s)) (decimal (take (decimal_len (y ∷ take h s)) (y ∷ take h s)))) (character 2 (escaped_byte y)))).len < suc (suc h) → cond b (character (1 + line_end_len (y ∷ take h s)) 10) (cond d (character (1 + decimal_len (y ∷ take h s)) (decimal (take (decimal_len (y ∷ take h s)) (y ∷ take h s)))) (character 2 (escaped_byte y))) ≡ cond b (character (1 + line_end_len (y ∷ s)) 10) (cond d (character (1 + decimal_len (y ∷ s)) (decimal (take (decimal_len (y ∷ s)) (y ∷ s)))) (character 2 (escaped_byte y)))
    go true e d lt = ap (λ n. character (1 + n) 10) (line_end_same y h s e (omega arith))
    go false e true lt =
        let l : decimal_len (y ∷ take h s) < suc h = omega arith in
        let same = decimal_same (suc h) (y ∷ s) l in
        let t : take (decimal_len (y ∷ take h s)) (y ∷ take h s) ≡ take (decimal_len (y ∷ take h s)) (y ∷ s) = take-take (decimal_len (y ∷ take h s)) (suc h) (y ∷ s) (omega arith) in
        ap (λ (ds : List ℕ). character (1 + decimal_len (y ∷ take h s)) (decimal ds)) t
        ∙ ap (λ (n : ℕ). character (1 + n) (decimal (take n (y ∷ s)))) same
    go false e false lt = refl

-- and by the text
escape_of_front : (i : ℕ) (r : List ℕ) → 0 < (escape r).len → (escape r).len < suc i → escape (take i r) ≡ escape r
unfolding escape
escape_of_front zero [] p q = refl
escape_of_front zero (y ∷ s) p q = absurd (go (is_line_end y) refl (is_digit y) refl q)
  where
    go : (b : Bool) → is_line_end y ≡ b → (d : Bool) → is_digit y ≡ d → (cond b (character (1 + line_end_len (y ∷ s)) 10) (cond d (character (1 + decimal_len (y ∷ s)) (decimal (take (decimal_len (y ∷ s)) (y ∷ s)))) (character 2 (escaped_byte y)))).len < 1 → ⊥
    go true e d f lt = omega arith
    go false e true f lt = omega arith
    go false e false f lt = omega arith
escape_of_front (suc h) [] p q = refl
escape_of_front (suc h) (y ∷ s) p q = go (is_line_end y) refl (is_digit y) q
  where
    go : (b : Bool) → is_line_end y ≡ b → (d : Bool) → (cond b (character (1 + line_end_len (y ∷ s)) 10) (cond d (character (1 + decimal_len (y ∷ s)) (decimal (take (decimal_len (y ∷ s)) (y ∷ s)))) (character 2 (escaped_byte y)))).len < suc (suc h) → cond b (character (1 + line_end_len (y ∷ take h s)) 10) (cond d (character (1 + decimal_len (y ∷ take h s)) (decimal (take (decimal_len (y ∷ take h s)) (y ∷ take h s)))) (character 2 (escaped_byte y))) ≡ cond b (character (1 + line_end_len (y ∷ s)) 10) (cond d (character (1 + decimal_len (y ∷ s)) (decimal (take (decimal_len (y ∷ s)) (y ∷ s)))) (character 2 (escaped_byte y)))
    go true e d lt = ap (λ n. character (1 + n) 10) (line_end_back y h s e (omega arith))
    go false e true lt =
        let l : decimal_len (y ∷ s) < suc h = omega arith in
        let same = decimal_back (suc h) (y ∷ s) l in
        let t : take (decimal_len (y ∷ s)) (y ∷ take h s) ≡ take (decimal_len (y ∷ s)) (y ∷ s) = take-take (decimal_len (y ∷ s)) (suc h) (y ∷ s) (omega arith) in
        ap (λ (n : ℕ). character (1 + n) (decimal (take n (y ∷ take h s)))) same
        ∙ ap (λ (ds : List ℕ). character (1 + decimal_len (y ∷ s)) (decimal ds)) t
    go false e false lt = refl

quoted_in_front : (quote j : ℕ) (bytes : List ℕ) → 0 < (quoted_character quote (take j bytes)).len → (quoted_character quote (take j bytes)).len < j → quoted_character quote (take j bytes) ≡ quoted_character quote bytes
unfolding quoted_character
quoted_in_front quote zero bytes p q = absurd (omega arith)
quoted_in_front quote (suc i) [] p q = refl
quoted_in_front quote (suc i) (x ∷ r) p q = go (eqb x 92) p q
  where
    go : (b : Bool) → 0 < (cond b (escape (take i r)) (cond (eqb x quote || is_line_end x) no_character (character 1 x))).len → (cond b (escape (take i r)) (cond (eqb x quote || is_line_end x) no_character (character 1 x))).len < suc i → cond b (escape (take i r)) (cond (eqb x quote || is_line_end x) no_character (character 1 x)) ≡ cond b (escape r) (cond (eqb x quote || is_line_end x) no_character (character 1 x))
    go true m n = escape_in_front i r m n
    go false m n = refl

quoted_of_front : (quote j : ℕ) (bytes : List ℕ) → 0 < (quoted_character quote bytes).len → (quoted_character quote bytes).len < j → quoted_character quote (take j bytes) ≡ quoted_character quote bytes
unfolding quoted_character
quoted_of_front quote zero bytes p q = absurd (omega arith)
quoted_of_front quote (suc i) [] p q = refl
quoted_of_front quote (suc i) (x ∷ r) p q = go (eqb x 92) p q
  where
    go : (b : Bool) → 0 < (cond b (escape r) (cond (eqb x quote || is_line_end x) no_character (character 1 x))).len → (cond b (escape r) (cond (eqb x quote || is_line_end x) no_character (character 1 x))).len < suc i → cond b (escape (take i r)) (cond (eqb x quote || is_line_end x) no_character (character 1 x)) ≡ cond b (escape r) (cond (eqb x quote || is_line_end x) no_character (character 1 x))
    go true m n = escape_of_front i r m n
    go false m n = refl

-- at the closing quote there is no character
not_backslash : (k : ℕ) → is_quote k ≡ true → k ≡ 92 → ⊥
not_backslash k a b = true≢false (sym a ∙ ap is_quote b)

at_quote : (quote : ℕ) (bytes : List ℕ) → is_quote quote ≡ true → begins_with quote bytes ≡ true → (quoted_character quote bytes).len ≡ 0
unfolding quoted_character
at_quote quote [] q e = absurd (false≢true e)
at_quote quote (x ∷ r) q e = go (eqb x 92) refl (eqb-true x quote e)
  where
    go : (b : Bool) → eqb x 92 ≡ b → x ≡ quote → (cond b (escape r) (cond (eqb x quote || is_line_end x) no_character (character 1 x))).len ≡ 0
    go true f s = absurd (not_backslash quote q (sym s ∙ eqb-true x 92 f))
    go false f s = ap (λ (t : Bool). (cond (t || is_line_end x) no_character (character 1 x)).len) e

char_cons : (quote k : ℕ) (bytes : List ℕ) (c : Character) → quoted_character quote bytes ≡ c → c.len ≡ suc k → characters quote bytes ≡ c ∷ characters quote (drop (suc k) bytes)
char_cons quote k bytes c e l =
    let ne : eqb c.len 0 ≡ false = ne_eqb c.len 0 (λ z. absurd (omega arith)) in
    characters_step quote bytes
    ∙ ap (λ (d : Character). cond (eqb d.len 0) [] (d ∷ characters quote (drop d.len bytes))) e
    ∙ ap (λ b. cond b [] (c ∷ characters quote (drop c.len bytes))) ne
    ∙ ap (λ n. c ∷ characters quote (drop n bytes)) l

source_cons : (quote k : ℕ) (bytes : List ℕ) (c : Character) → quoted_character quote bytes ≡ c → c.len ≡ suc k → source_len (characters quote bytes) ≡ suc k + source_len (characters quote (drop (suc k) bytes))
source_cons quote k bytes c e l =
    ap source_len (char_cons quote k bytes c e l) ∙ sum_by-cons len_of c (characters quote (drop (suc k) bytes)) ∙ ap (λ n. n + source_len (characters quote (drop (suc k) bytes))) l

drop_front : (j k : ℕ) (bytes : List ℕ) → suc k ≤ j → drop (suc k) (take j bytes) ≡ take (j - suc k) (drop (suc k) bytes)
drop_front j k bytes le =
    let m : j ≡ suc k + (j - suc k) = omega arith in
    ap (λ n. drop (suc k) (take n bytes)) m ∙ drop-take (suc k) (j - suc k) bytes

-- characters up to a closing quote within a front, by the front
pub characters_in_front : (n quote j : ℕ) (bytes : List ℕ) → j ≤ n → is_quote quote ≡ true → source_len (characters quote (take j bytes)) < j → begins_with quote (drop (source_len (characters quote (take j bytes))) (take j bytes)) ≡ true → characters quote bytes ≡ characters quote (take j bytes)
characters_in_front zero quote j bytes le q lt e = absurd (omega arith)
characters_in_front (suc n) quote j bytes le q lt e = go (quoted_character quote (take j bytes)).len refl (characters_in_front n)
  where
    go : (k : ℕ) → (quoted_character quote (take j bytes)).len ≡ k → ((quote j : ℕ) (b : List ℕ) → j ≤ n → is_quote quote ≡ true → source_len (characters quote (take j b)) < j → begins_with quote (drop (source_len (characters quote (take j b))) (take j b)) ≡ true → characters quote b ≡ characters quote (take j b)) → characters quote bytes ≡ characters quote (take j bytes)
    go zero k ih =
        let none = last_character quote (take j bytes) k in
        let s : source_len (characters quote (take j bytes)) ≡ 0 = ap source_len none in
        let b : begins_with quote (take j bytes) ≡ true = ap (λ m. begins_with quote (drop m (take j bytes))) (sym s) ∙ e in
        last_character quote bytes (at_quote quote bytes q (begins_in_front quote j 0 bytes b)) ∙ sym none
    go (suc k) f ih =
        let c = quoted_character quote (take j bytes) in
        let s = source_cons quote k (take j bytes) c refl f in
        let same : quoted_character quote bytes ≡ c = sym (quoted_in_front quote j bytes (omega arith) (omega arith)) in
        let d = drop_front j k bytes (omega arith) in
        let t : source_len (characters quote (drop (suc k) (take j bytes))) ≡ source_len (characters quote (take (j - suc k) (drop (suc k) bytes))) = ap (λ l. source_len (characters quote l)) d in
        let b : begins_with quote (drop (source_len (characters quote (take (j - suc k) (drop (suc k) bytes)))) (take (j - suc k) (drop (suc k) bytes))) ≡ true =
        ap (λ l. begins_with quote (drop (source_len (characters quote l)) l)) (sym d)
        ∙ ap (begins_with quote) (drop-drop (source_len (characters quote (drop (suc k) (take j bytes)))) (suc k) (take j bytes))
        ∙ ap (λ m. begins_with quote (drop m (take j bytes))) (sym s)
        ∙ e in
        char_cons quote k bytes c same f
        ∙ ap (λ l. c ∷ l) (ih quote (j - suc k) (drop (suc k) bytes) (omega arith) q (omega arith) b ∙ ap (characters quote) (sym d))
        ∙ sym (char_cons quote k (take j bytes) c refl f)

-- and by the text
pub characters_of_front : (n quote j : ℕ) (bytes : List ℕ) → j ≤ n → is_quote quote ≡ true → source_len (characters quote bytes) < j → begins_with quote (drop (source_len (characters quote bytes)) bytes) ≡ true → characters quote (take j bytes) ≡ characters quote bytes
characters_of_front zero quote j bytes le q lt e = absurd (omega arith)
characters_of_front (suc n) quote j bytes le q lt e = go (quoted_character quote bytes).len refl (characters_of_front n)
  where
    go : (k : ℕ) → (quoted_character quote bytes).len ≡ k → ((quote j : ℕ) (b : List ℕ) → j ≤ n → is_quote quote ≡ true → source_len (characters quote b) < j → begins_with quote (drop (source_len (characters quote b)) b) ≡ true → characters quote (take j b) ≡ characters quote b) → characters quote (take j bytes) ≡ characters quote bytes
    go zero k ih =
        let none = last_character quote bytes k in
        let s : source_len (characters quote bytes) ≡ 0 = ap source_len none in
        let b : begins_with quote bytes ≡ true = ap (λ m. begins_with quote (drop m bytes)) (sym s) ∙ e in
        last_character quote (take j bytes) (at_quote quote (take j bytes) q (begins_of_front quote j 0 bytes (omega arith) b)) ∙ sym none
    go (suc k) f ih =
        let c = quoted_character quote bytes in
        let s = source_cons quote k bytes c refl f in
        let same : quoted_character quote (take j bytes) ≡ c = quoted_of_front quote j bytes (omega arith) (omega arith) in
        let d = drop_front j k bytes (omega arith) in
        let b : begins_with quote (drop (source_len (characters quote (drop (suc k) bytes))) (drop (suc k) bytes)) ≡ true =
        ap (begins_with quote) (drop-drop (source_len (characters quote (drop (suc k) bytes))) (suc k) bytes)
        ∙ ap (λ m. begins_with quote (drop m bytes)) (sym s)
        ∙ e in
        char_cons quote k (take j bytes) c same f
        ∙ ap (λ l. c ∷ l) (ap (characters quote) d ∙ ih quote (j - suc k) (drop (suc k) bytes) (omega arith) q (omega arith) b)
        ∙ sym (char_cons quote k bytes c refl f)
