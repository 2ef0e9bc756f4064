-- Plain numbers of a call: addresses, offsets of frames, and counts of steps.
use Rattle.std.proofs.Common.{◌≡◌, ℕ, ◌+◌, ◌-◌, ◌*◌, ◌/◌, ◌%◌, ◌^◌, ◌<◌, ◌≤◌, suc, true, false, sym, ◌∙◌, ⊎_elim, arith}
use Rattle.std.specs.Prelude.{nat_le, nat_lt}
use Rattle.std.proofs.lemmas.Bool.{cases_lt, le-leb, lt-ltb}

pub far : (a r at n : ℕ) → n ≡ a + r → 2 ≤ r → at + 4 * n + 256 ≤ 2 ^ 30 → at + 4 * a + 8 + 256 ≤ 2 ^ 30
far a r at n e h g = omega (arith, e, h, g)

pub stack-less : (top n frame : ℕ) → top < 2 ^ 30 + n - n / 4 + frame → top < 2 ^ 30 + n - n / 4 + frame
stack-less top n frame h = h

pub stack-more : (top n frame : ℕ) → 2 ^ 30 + n - n / 4 + frame ≤ top → 2 ^ 30 + n - n / 4 + frame ≤ top
stack-more top n frame h = h

pub steps-few : (k b e r : ℕ) → k ≤ b → k + 2 + e ≤ b + 2 + (e + r)
steps-few k b e r h = omega (arith, h)

pub link-facts : (n : ℕ) → n + 8 + 256 ≤ 2 ^ 30 → (n < 2 ^ 30) × (n ≤ 2 ^ 30)
link-facts n h = (omega (arith, h), omega (arith, h))

pub entry-facts : (at a n : ℕ) → at + 4 * a ≤ n → n + 256 ≤ 2 ^ 30 → at % 4 ≡ 0 → (at + 4 * a < 2 ^ 30) × ((at + 4 * a) % 2 ≡ 0)
entry-facts at a n h g r = (omega (arith, h, g), omega (arith, r))

pub chain : (a b c d l : ℕ) → a + b + c ≡ d → d ≤ l → a ≤ l
chain a b c d l h g = omega (arith, h, g)

pub head-in : (at h g : ℕ) → at + 4 * h ≤ at + 4 * (h + g)
head-in at h g = omega arith

pub least : (a n l : ℕ) → a + n ≤ l → a ≤ l
least a n l h = omega (arith, h)

pub word-near : (n k : ℕ) → n ≤ k → k + 256 ≤ 2 ^ 30 → n < 2 ^ 64
word-near n k h g = omega (arith, h, g)

pub bytes-least : (h a q : ℕ) → 88 ≤ 8 * 11 + 8 * h + 128 * a + 8 * q
bytes-least h a q = omega arith

pub nearer : (n k : ℕ) → n ≤ k → k + 256 ≤ 2 ^ 30 → n < 2 ^ 30
nearer n k h g = omega (arith, h, g)

pub shorter : (a b c : ℕ) → a + b ≡ c → c < 2 ^ 30 → a < 2 ^ 30
shorter a b c h g = omega (arith, h, g)

pub link-low : (n : ℕ) → n + 8 + 256 ≤ 2 ^ 30 → n + 8 < 2 ^ 30
link-low n h = omega (arith, h)

pub link-word : (n : ℕ) → n + 8 + 256 ≤ 2 ^ 30 → n + 8 < 2 ^ 64
link-word n h = omega (arith, h)

pub word-of : (n : ℕ) → n < 2 ^ 30 → n < 2 ^ 64
word-of n h = omega (arith, h)

pub goes : (a b l : ℕ) → b ≤ a → a ≤ l → a - b + b ≤ l
goes a b l h g = omega (arith, h, g)

pub less-frame : (h p n : ℕ) → h + n ≤ p → h ≤ p - n
less-frame h p n g = omega (arith, g)

pub frame-fits : (h p n : ℕ) → h + n ≤ p → n ≤ p
frame-fits h p n g = omega (arith, g)

pub still-below : (p n e : ℕ) → p ≤ e → p - n ≤ e
still-below p n e h = omega (arith, h)

pub top-is : (base h a q : ℕ) → 8 * 11 + 8 * h + 128 * a + 8 * q ≤ base →
    base - (8 * 11 + 8 * h + 128 * a + 8 * q) + (8 * 11 + 8 * h + 128 * a + 8 * q) + 8 * 0 ≡ base
top-is base h a q g = omega (arith, g)

pub words-under : (base h a q : ℕ) → 8 * 11 + 8 * h + 128 * a + 8 * q ≤ base →
    base - (8 * 11 + 8 * h + 128 * a + 8 * q) + (8 * 11 + 8 * h + 128 * a) ≤ base
words-under base h a q g = omega (arith, g)

pub word-high : (base h a q n k : ℕ) → 8 * 11 + 8 * h + 128 * a + 8 * q ≤ base → n ≡ q → k < n →
    base - (8 * 11 + 8 * h + 128 * a + 8 * q) + 88 ≤ base - 8 * (0 + k + 1)
word-high base h a q n k g e l = omega (arith, g, e, l)

pub some-steps : (a b : ℕ) → 1 ≤ a + 2 + b
some-steps a b = omega arith

pub all-few : (a b c e r : ℕ) → a ≤ b → c ≤ e → a + 2 + c + r ≤ b + 2 + (e + r)
all-few a b c e r h g = omega (arith, h, g)

pub zero-first : (k : ℕ) → 0 + k + 1 ≡ k + 1
zero-first k = omega arith

pub words-within : (h a q n : ℕ) → n ≡ q → 8 * n ≤ 8 * 11 + 8 * h + 128 * a + 8 * q
words-within h a q n e = omega (arith, e)

pub args-room : (base h a q n : ℕ) → 8 * 11 + 8 * h + 128 * a + 8 * q ≤ base → n ≡ q → 8 * n ≤ base
args-room base h a q n g e = omega (arith, g, e)

pub not-le : (a b : ℕ) → nat_le a b ≡ false → b < a
not-le a b e = ⊎_elim (λ l. l) (λ l. let t : nat_le a b ≡ true = le-leb a b l in let no : true ≡ false = sym t ∙ e in cc) (cases_lt b a)

pub not-lt : (a b : ℕ) → nat_lt a b ≡ false → b ≤ a
not-lt a b e = ⊎_elim (λ l. let t : nat_lt a b ≡ true = lt-ltb a b l in let no : true ≡ false = sym t ∙ e in cc) (λ l. l) (cases_lt a b)

pub deep-is : (n : ℕ) → 512 ≤ suc n → 511 ≤ n
deep-is n h = omega (arith, h)

pub shallow-is : (n : ℕ) → suc n < 512 → n < 511
shallow-is n h = omega (arith, h)

pub few-deep : (n r : ℕ) → n ≤ n + 2 + r
few-deep n r = omega arith
