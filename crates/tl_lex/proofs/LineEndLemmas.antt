-- Line ends, one character after another.
use Rattle.std.proofs.Common.{◌≡◌, ℕ, suc, ◌+◌, ◌<◌, ◌≤◌, Bool, true, false, cond, eqb, ◌||◌, List, [], ◌∷◌, length, get_or, drop, count_by}
use Rattle.std.proofs.Common.{refl, sym, ap, ◌∙◌, arith}
use Rattle.std.proofs.lemmas.Bool.{true≢false, ne_eqb}
use Rattle.std.proofs.lemmas.List.{drop_more, drop-drop, drop_all, length-drop}
use Rattle.std.proofs.lemmas.List.Sums.{sum_by-cons}
use Rattle.tl_lex.specs.Bytes.{is_line_end}
use Rattle.tl_lex.specs.LineEnds.{is_pair, with_line_feeds, line_ends, line_end_len}

-- the first character: a line end, or a byte
abbrev stepped : ℕ → ℕ → List ℕ → List ℕ
stepped len x rest = cond (eqb len 0) (x ∷ with_line_feeds rest) (10 ∷ with_line_feeds (drop len (x ∷ rest)))

pub feeds_step : (x : ℕ) (rest : List ℕ) → with_line_feeds (x ∷ rest) ≡ stepped (line_end_len (x ∷ rest)) x rest
feeds_step x [] = go (is_line_end x)
  where
    go : (b : Bool) → cond b 10 x ∷ [] ≡ stepped (cond b 1 0) x []
    go true = refl
    go false = refl
feeds_step x (y ∷ r) = go (is_pair x y) (is_line_end x)
  where
    go : (p b : Bool) → cond p (10 ∷ with_line_feeds r) (cond b 10 x ∷ with_line_feeds (y ∷ r)) ≡ stepped (cond p 2 (cond b 1 0)) x (y ∷ r)
    go true b = refl
    go false true = refl
    go false false = refl

pub line_end_len_within : (bytes : List ℕ) → line_end_len bytes ≤ length bytes
line_end_len_within [] = omega arith
line_end_len_within (x ∷ []) = go (is_line_end x)
  where
    go : (b : Bool) → cond b 1 0 ≤ 1
    go true = omega arith
    go false = omega arith
line_end_len_within (x ∷ y ∷ r) = go (is_pair x y) (is_line_end x)
  where
    go : (p b : Bool) → cond p 2 (cond b 1 0) ≤ suc (suc (length r))
    go true b = omega arith
    go false true = omega arith
    go false false = omega arith

-- no line end begins with another byte
pub no_line_end : (x : ℕ) (rest : List ℕ) → line_end_len (x ∷ rest) ≡ 0 → is_line_end x ≡ false
no_line_end x [] e = go (is_line_end x) 0 (sym e) refl
  where
    go : (b : Bool) (n : ℕ) → n ≡ cond b 1 0 → n ≡ 0 → b ≡ false
    go true n h z = absurd (omega arith)
    go false n h z = refl
no_line_end x (y ∷ r) e = go (is_pair x y) (is_line_end x) 0 (sym e) refl
  where
    go : (p b : Bool) (n : ℕ) → n ≡ cond p 2 (cond b 1 0) → n ≡ 0 → b ≡ false
    go true b n h z = absurd (omega arith)
    go false true n h z = absurd (omega arith)
    go false false n h z = refl

or_none : (a b : Bool) → (a || b) ≡ false → a ≡ false
or_none true b h = absurd (true≢false h)
or_none false b h = refl

pub no_feed : (x : ℕ) → is_line_end x ≡ false → eqb x 10 ≡ false
no_feed x h = or_none (eqb x 10) (eqb x 13) h

-- what a walk over a text has counted so far
pub record Counted (bytes : List ℕ) (at len lines : ℕ) : Type 0 where
  pub within : at ≤ length bytes
  pub len_is : len + length (with_line_feeds (drop at bytes)) ≡ length (with_line_feeds bytes)
  pub lines_is : lines + line_ends (drop at bytes) ≡ line_ends bytes
  pub len_small : len ≤ at
  pub lines_small : lines ≤ at

pub feeds_byte : (bytes : List ℕ) (at : ℕ) → at < length bytes → line_end_len (drop at bytes) ≡ 0 → with_line_feeds (drop at bytes) ≡ get_or bytes at 0 ∷ with_line_feeds (drop (at + 1) bytes)
feeds_byte bytes at lt e =
    let d = drop_more bytes at 0 lt in
    ap with_line_feeds d
    ∙ feeds_step (get_or bytes at 0) (drop (at + 1) bytes)
    ∙ ap (λ n. stepped n (get_or bytes at 0) (drop (at + 1) bytes)) (ap line_end_len (sym d) ∙ e)

pub feeds_end : (bytes : List ℕ) (at n : ℕ) → at < length bytes → n ≡ line_end_len (drop at bytes) → (n ≡ 0 → ⊥) → with_line_feeds (drop at bytes) ≡ 10 ∷ with_line_feeds (drop (at + n) bytes)
feeds_end bytes at n lt e h =
    let d = drop_more bytes at 0 lt in
    let f = ne_eqb n 0 h in
    ap with_line_feeds d
    ∙ feeds_step (get_or bytes at 0) (drop (at + 1) bytes)
    ∙ ap (λ m. stepped m (get_or bytes at 0) (drop (at + 1) bytes)) (ap line_end_len (sym d) ∙ sym e)
    ∙ ap (λ b. cond b (get_or bytes at 0 ∷ with_line_feeds (drop (at + 1) bytes)) (10 ∷ with_line_feeds (drop n (get_or bytes at 0 ∷ drop (at + 1) bytes)))) f
    ∙ ap (λ l. 10 ∷ with_line_feeds (drop n l)) (sym d)
    ∙ ap (λ l. 10 ∷ with_line_feeds l) (drop-drop n at bytes)

pub first_byte : (bytes : List ℕ) (at : ℕ) → at < length bytes → line_end_len (drop at bytes) ≡ 0 → eqb (get_or bytes at 0) 10 ≡ false
first_byte bytes at lt e = no_feed (get_or bytes at 0) (no_line_end (get_or bytes at 0) (drop (at + 1) bytes) (ap line_end_len (sym (drop_more bytes at 0 lt)) ∙ e))

abbrev pub is_feed : ℕ → Bool
is_feed x = eqb x 10

abbrev pub feed_count : ℕ → ℕ
feed_count x = cond (is_feed x) 1 0

pub counted_none : (bytes : List ℕ) → Counted bytes 0 0 0
counted_none bytes = record { within = omega arith; len_is = omega arith; lines_is = omega arith; len_small = omega arith; lines_small = omega arith }

pub counted_byte : (bytes : List ℕ) (at len lines n : ℕ) → at < length bytes → n ≡ line_end_len (drop at bytes) → n ≡ 0 → Counted bytes at len lines → Counted bytes (at + 1) (len + 1) lines
counted_byte bytes at len lines n lt e z c =
    let s = feeds_byte bytes at lt (sym e ∙ z) in
    let l : length (with_line_feeds (drop at bytes)) ≡ suc (length (with_line_feeds (drop (at + 1) bytes))) = ap length s in
    let k : line_ends (drop at bytes) ≡ line_ends (drop (at + 1) bytes) =
    ap (λ xs. count_by is_feed xs) s
    ∙ sum_by-cons feed_count (get_or bytes at 0) (with_line_feeds (drop (at + 1) bytes))
    ∙ ap (λ b. cond b 1 0 + line_ends (drop (at + 1) bytes)) (first_byte bytes at lt (sym e ∙ z))
    ∙ omega arith in
    record { within = omega arith; len_is = omega (arith, c.len_is); lines_is = omega (arith, c.lines_is); len_small = omega arith; lines_small = omega arith }

pub counted_end : (bytes : List ℕ) (at len lines n : ℕ) → at < length bytes → n ≡ line_end_len (drop at bytes) → (n ≡ 0 → ⊥) → Counted bytes at len lines → Counted bytes (at + n) (len + 1) (lines + 1)
counted_end bytes at len lines n lt e z c =
    let s = feeds_end bytes at n lt e z in
    let w = line_end_len_within (drop at bytes) in
    let d = length-drop at bytes in
    let l : length (with_line_feeds (drop at bytes)) ≡ suc (length (with_line_feeds (drop (at + n) bytes))) = ap length s in
    let k : line_ends (drop at bytes) ≡ 1 + line_ends (drop (at + n) bytes) =
    ap (λ xs. count_by is_feed xs) s ∙ sum_by-cons feed_count 10 (with_line_feeds (drop (at + n) bytes)) in
    record { within = omega arith; len_is = omega (arith, c.len_is); lines_is = omega (arith, c.lines_is); len_small = omega arith; lines_small = omega arith }

-- a whole text
pub counted_all : (bytes : List ℕ) (at len lines : ℕ) → length bytes ≤ at → Counted bytes at len lines → (len ≡ length (with_line_feeds bytes)) × (lines ≡ line_ends bytes)
counted_all bytes at len lines le c =
    let d = drop_all at bytes le in
    let a : length (with_line_feeds (drop at bytes)) ≡ 0 = ap (λ b. length (with_line_feeds b)) d in
    let b : line_ends (drop at bytes) ≡ 0 = ap line_ends d in
    (omega (arith, c.len_is), omega (arith, c.lines_is))
