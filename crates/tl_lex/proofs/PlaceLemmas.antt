-- The places that the lexer counts on are those of the definition.
use Rattle.std.proofs.Common.{◌≡◌, ℕ, zero, suc, ◌+◌, ◌-◌, ◌<◌, ◌≤◌, Bool, true, false, cond, eqb, List, [], ◌∷◌, ◌++◌, length, get_or}
use Rattle.std.proofs.Common.{take, drop, count_by, ◌⊎◌, Ok, refl, sym, ap, ◌∙◌, subst, length-append, arith}
use Rattle.std.proofs.lemmas.Bool.{ne_eqb, eq-eqb}
use Rattle.std.proofs.lemmas.List.{length-take-le, get_or-take, get_or-drop}
use Rattle.std.proofs.lemmas.List.Sums.{sum_by-cons, sum_by-append}
use Rattle.tl_base.specs.declared.place.Place.{Place}
use Rattle.tl_lex.specs.Bytes.{is_line_end}
use Rattle.tl_lex.specs.LineEnds.{line_ends}
use Rattle.tl_lex.specs.Fronts.{front_of}
use Rattle.tl_lex.specs.Answers.{Token, Answer, Position, token_at, place_at, place_behind, position_behind, answers_at, answers_behind}
use Rattle.tl_lex.specs.Lexing.{moved, counted_at, counted}
use Rattle.tl_lex.specs.declared.front.Front.{Front}
use Rattle.tl_lex.specs.declared.front.Front.TheVariants as fronts
use Rattle.tl_lex.proofs.LineLemmas.{Apart, last_of, first_of, line_ends-append, last_of-append, last_of-is, first_of-is}
use Rattle.tl_lex.proofs.FrontLemmas.{Fitting, Fine, front_fine}

abbrev on_line : ℕ → Token → Bool
on_line line t = eqb t.place.line line

abbrev counts_on : ℕ → Token → ℕ
counts_on line t = cond (on_line line t) 1 0

-- no token begins on a later line
abbrev pub NotLater : ℕ → List Token → Type 0
NotLater line [] = Unit {0}
NotLater line (t ∷ ts) = (t.place.line ≤ line) × NotLater line ts

later_still : (n m : ℕ) (ts : List Token) → n ≤ m → NotLater n ts → NotLater m ts
later_still n m [] le h = tt
later_still n m (t ∷ ts) le h = (omega (arith, h.0), later_still n m ts le h.1)

not_later-push : (n : ℕ) (ts : List Token) (t : Token) → t.place.line ≤ n → NotLater n ts → NotLater n (ts ++ t ∷ [])
not_later-push n [] t le h = (le, tt)
not_later-push n (u ∷ ts) t le h = (h.0, not_later-push n ts t le h.1)

-- a later line has no token yet
none_later : (n m : ℕ) (ts : List Token) → n < m → NotLater n ts → count_by (on_line m) ts ≡ 0
none_later n m [] lt h = refl
none_later n m (t ∷ ts) lt h =
    let ne : eqb t.place.line m ≡ false = ne_eqb t.place.line m (λ e. absurd (omega (arith, h.0))) in
    let ih = none_later n m ts lt h.1 in
    sum_by-cons (counts_on m) t ts ∙ ap (λ b. cond b 1 0 + count_by (on_line m) ts) ne ∙ omega (arith, ih)

-- where one stands: behind these bytes and tokens
pub record Standing (passed : List ℕ) (tokens : List Token) (bytes : List ℕ) : Type 0 where
  pub seam : Apart passed bytes
  pub lines : NotLater (1 + line_ends passed) tokens

front_apart : (passed bytes : List ℕ) (n : ℕ) → Fitting bytes n → Apart passed bytes → Apart passed (take n bytes)
front_apart passed bytes n f a =
    let e : first_of (take n bytes) ≡ first_of bytes = first_of-is (take n bytes) ∙ get_or-take n bytes 0 0 f.some ∙ sym (first_of-is bytes) in
    record { apart = subst (λ c. (is_line_end (last_of passed) ≡ false) ⊎ (is_line_end c ≡ false)) (sym e) a.apart }

last_taken : (passed bytes : List ℕ) (n : ℕ) → 0 < n → n ≤ length bytes → last_of (passed ++ take n bytes) ≡ get_or bytes (n - 1) 0
last_taken passed bytes n p q = go (take n bytes) refl
  where
    go : (xs : List ℕ) → take n bytes ≡ xs → last_of (passed ++ xs) ≡ get_or bytes (n - 1) 0
    go [] e = absurd (omega (arith, length-take-le n bytes q, ap length e))
    go (y ∷ ys) e =
        let l : length (y ∷ ys) ≡ n = ap length (sym e) ∙ length-take-le n bytes q in
        last_of-append passed y ys
        ∙ last_of-is (y ∷ ys) (omega arith)
        ∙ ap (λ k. get_or (y ∷ ys) (k - 1) 0) l
        ∙ ap (λ zs. get_or zs (n - 1) 0) (sym e)
        ∙ get_or-take n bytes (n - 1) 0 (omega arith)

behind_apart : (passed bytes : List ℕ) (n : ℕ) → Fitting bytes n → Apart (passed ++ take n bytes) (drop n bytes)
behind_apart passed bytes n f =
    let l = last_taken passed bytes n f.some f.within in
    let z : n + 0 ≡ n = omega arith in
    let r : first_of (drop n bytes) ≡ get_or bytes n 0 = first_of-is (drop n bytes) ∙ get_or-drop n bytes 0 0 ∙ ap (λ k. get_or bytes k 0) z in
    record {
      apart =
          subst (λ c. (is_line_end (last_of (passed ++ take n bytes)) ≡ false) ⊎ (is_line_end c ≡ false)) (sym r)
          (subst (λ c. (is_line_end c ≡ false) ⊎ (is_line_end (get_or bytes n 0) ≡ false)) (sym l) f.seam);
    }

-- the line goes on by the line ends of the front
abbrev line_of : List ℕ → ℕ
line_of passed = 1 + line_ends passed

lines_more : (passed bytes : List ℕ) (n : ℕ) → Fitting bytes n → Apart passed bytes → line_of (passed ++ take n bytes) ≡ line_of passed + line_ends (take n bytes)
lines_more passed bytes n f a = let e = line_ends-append passed (take n bytes) (front_apart passed bytes n f a) in omega (arith, e)

-- the word behind a front, where `now` tokens stand on the line so far
words_more : (line lines now : ℕ) (tokens : List Token) (words : ℕ) → NotLater line tokens → count_by (on_line line) tokens ≡ now → 1 + count_by (on_line (line + lines)) tokens ≡ cond (eqb lines 0) (1 + now) 1
words_more line zero now tokens words h e =
    let z : line + 0 ≡ line = omega arith in
    ap (λ l. 1 + count_by (on_line l) tokens) z ∙ ap (λ k. 1 + k) e
words_more line (suc m) now tokens words h e =
    let none = none_later line (line + suc m) tokens (omega arith) h in
    let ne : eqb (suc m) 0 ≡ false = ne_eqb (suc m) 0 (λ q. absurd (omega arith)) in
    omega (arith, none) ∙ sym (ap (λ b. cond b (1 + now) 1) ne)

place_same : (line word line' word' : ℕ) → line ≡ line' → word ≡ word' → place_at line word ≡ place_at line' word'
place_same line word line' word' p q = ap (λ l. place_at l word) p ∙ ap (λ w. place_at line' w) q

place_blank : (passed bytes : List ℕ) (tokens : List Token) (n : ℕ) → Fitting bytes n → Standing passed tokens bytes → place_behind (passed ++ take n bytes) tokens ≡ moved (place_behind passed tokens) (line_ends (take n bytes)) 0
place_blank passed bytes tokens n f s =
    let l = lines_more passed bytes n f s.seam in
    let lines = line_ends (take n bytes) in
    let now = count_by (on_line (line_of passed)) tokens in
    let z : 1 + now + 0 ≡ 1 + now = omega arith in
    place_same _ _ _ _ l
    (ap (λ k. 1 + count_by (on_line k) tokens) l
    ∙ words_more (line_of passed) lines now tokens 0 s.lines refl
    ∙ ap (λ k. cond (eqb lines 0) k 1) (sym z))

stand_blank : (passed bytes : List ℕ) (tokens : List Token) (n : ℕ) → Fitting bytes n → Standing passed tokens bytes → Standing (passed ++ take n bytes) tokens (drop n bytes)
stand_blank passed bytes tokens n f s =
    let l = lines_more passed bytes n f s.seam in
    record { seam = behind_apart passed bytes n f; lines = later_still (line_of passed) (line_of (passed ++ take n bytes)) tokens (omega (arith, l)) s.lines }

place_token : (passed bytes : List ℕ) (tokens : List Token) (t : Token) (n : ℕ) → Fitting bytes n → Standing passed tokens bytes → t.place.line ≡ line_of passed → place_behind (passed ++ take n bytes) (tokens ++ t ∷ []) ≡ moved (place_behind passed tokens) (line_ends (take n bytes)) 1
place_token passed bytes tokens t n f s on =
    let l = lines_more passed bytes n f s.seam in
    let lines = line_ends (take n bytes) in
    let line = line_of passed in
    let now = count_by (on_line line) tokens in
    let yes : eqb t.place.line line ≡ true = eq-eqb t.place.line line on in
    let one : count_by (on_line line) (tokens ++ t ∷ []) ≡ now + 1 = sum_by-append (counts_on line) tokens (t ∷ []) ∙ ap (λ (b : Bool). now + (0 + cond b 1 0)) yes ∙ omega arith in
    let z : 1 + (now + 1) ≡ 1 + now + 1 = omega arith in
    place_same _ _ _ _ l
    (ap (λ k. 1 + count_by (on_line k) (tokens ++ t ∷ [])) l
    ∙ words_more line lines (now + 1) (tokens ++ t ∷ []) 0 (not_later-push line tokens t (omega (arith, on)) s.lines) one
    ∙ ap (λ k. cond (eqb lines 0) k 1) z)

stand_token : (passed bytes : List ℕ) (tokens : List Token) (t : Token) (n : ℕ) → Fitting bytes n → Standing passed tokens bytes → t.place.line ≡ line_of passed → Standing (passed ++ take n bytes) (tokens ++ t ∷ []) (drop n bytes)
stand_token passed bytes tokens t n f s on =
    let l = lines_more passed bytes n f s.seam in
    record {
      seam = behind_apart passed bytes n f;
      lines = later_still (line_of passed) (line_of (passed ++ take n bytes)) (tokens ++ t ∷ []) (omega (arith, l)) (not_later-push (line_of passed) tokens t (omega (arith, on)) s.lines);
    }

position_same : (p q : Place) (n k : ℕ) {m : ℕ} → p ≡ q → m ≡ n + k → ◌≡◌ {A = Position} (record { place = p; offset = m }) (record { place = q; offset = n + k })
position_same p q n k {m} e f = ap (λ (x : Place). position x m) e ∙ ap (λ (x : ℕ). position q x) f
  where
    position : Place → ℕ → Position
    position x y = record { place = x; offset = y }

passed_more : (passed bytes : List ℕ) (n : ℕ) → Fitting bytes n → length (passed ++ take n bytes) ≡ length passed + n
passed_more passed bytes n f = omega (arith, length-append passed (take n bytes), length-take-le n bytes f.within)

pub answers_counted : (n : ℕ) (passed : List ℕ) (tokens : List Token) (bytes : List ℕ) → Standing passed tokens bytes → answers_behind n passed tokens bytes ≡ counted n bytes (position_behind passed tokens)
answers_counted zero passed tokens bytes s = refl
answers_counted (suc n) passed tokens bytes s = go (front_of bytes) (front_fine bytes) (answers_counted n)
  where
    go : (f : Front) → Fine bytes f → ((p : List ℕ) (ts : List Token) (b : List ℕ) → Standing p ts b → answers_behind n p ts b ≡ counted n b (position_behind p ts)) → answers_at f passed tokens bytes (answers_behind n) ≡ counted_at f bytes (position_behind passed tokens) (counted n)
    go fronts.End fine ih = refl
    go (fronts.Refusal w) fine ih = refl
    go (fronts.Blank k) fine ih =
        ih (passed ++ take k bytes) tokens (drop k bytes) (stand_blank passed bytes tokens k fine s)
        ∙ ap (λ (p : Position). counted n (drop k bytes) p) (position_same _ _ (length passed) k (place_blank passed bytes tokens k fine s) (passed_more passed bytes k fine))
    go (fronts.Lexeme kind k) fine ih =
        let t = token_at kind (take k bytes) (position_behind passed tokens) in
        ap (λ (xs : List Answer). Ok t ∷ xs)
        (ih (passed ++ take k bytes) (tokens ++ t ∷ []) (drop k bytes) (stand_token passed bytes tokens t k fine.0 s refl)
        ∙ ap (λ (p : Position). counted n (drop k bytes) p) (position_same _ _ (length passed) k (place_token passed bytes tokens t k fine.0 s refl) (passed_more passed bytes k fine.0)))
