-- The temporary of a copy that goes is read behind that copy alone: no block reads it before it has a name there.
use Rattle.std.proofs.Common.{◌≡◌, ℕ, zero, suc, ◌+◌, ◌≤◌, Bool, true, false, not, ◌&&◌, ◌||◌, List, [], ◌∷◌, Some, refl, sym, ◌∙◌, subst}
use Rattle.std.proofs.Common.{le_trans, le_of_eq, true≢false, arith}
use Rattle.std.specs.Prelude.{if◌then◌else◌, nat_eq, slice_get, sum_by}
use Rattle.std.proofs.lemmas.Bool.{eqb-true}
use Rattle.std.proofs.lemmas.List.Sums.{sum_by-cons}
use Rattle.std.proofs.lemmas.Option.{none-some, same_Some}
use Rattle.tac_form.specs.declared.tac.Operand.TheVariants.{Temp}
use Rattle.tac_form.specs.declared.tac.Instruction.{Instruction}
use Rattle.tac_form.specs.declared.tac.Instruction.TheVariants.{Copy}
use Rattle.tac_form.specs.declared.tac.Exit.{Exit}
use Rattle.tac_form.specs.declared.tac.Block.{Block}
use Rattle.tac_form.specs.declared.tac.Tac.{Tac}
use Rattle.tac_form.specs.Flow.{put}
use Rattle.tac_form.specs.Graph.{exit_reads, instruction_reads, instruction_write}
use Rattle.tac_form.specs.Live.{has, is_written}
use Rattle.tac_copies.specs.Once.{block_times, instruction_times, is_once, reads_in, times}
use Rattle.tac_copies.specs.Shortened.{few, goes, own_names, reads_first}

-- ---- names behind an instruction

-- the instruction is a copy that goes, of this temporary
abbrev pub carries : (once : ℕ → Bool) → (names : ℕ → ℕ) → ℕ → Instruction → List Instruction → Exit → Bool
carries once names t (Copy d (Temp u)) is e = nat_eq d t && goes once d (names u) is e
carries once names t _ is e = false

abbrev pub after : (once : ℕ → Bool) → (names : ℕ → ℕ) → Instruction → List Instruction → Exit → ℕ → ℕ
after once names (Copy d (Temp u)) is e = if goes once d (names u) is e then put names d (names u) else names
after once names _ is e = names

-- it is read where it has no name yet
abbrev pub exposed : (once : ℕ → Bool) → (names : ℕ → ℕ) → ℕ → List Instruction → Exit → Bool
exposed once names t [] e = has (exit_reads e) t
exposed once names t (i ∷ is) e =
    has (instruction_reads i) t || (not (carries once names t i is e) && exposed once (after once names i is e) t is e)

-- a copy of it goes
abbrev pub gone : (once : ℕ → Bool) → (names : ℕ → ℕ) → ℕ → List Instruction → Exit → Bool
gone once names t [] e = false
gone once names t (i ∷ is) e = carries once names t i is e || gone once (after once names i is e) t is e

-- no block reads it where it has no name
abbrev pub Hidden : Tac → ℕ → Type 0
Hidden code t =
    (n : ℕ) (b : Block) → slice_get code.blocks n ≡ Some b → exposed (is_once code) own_names t b.instructions b.exit ≡ false

-- ---- Booleans and options

pub by_value : {P : Type 0} → (b : Bool) → (b ≡ true → P) → (b ≡ false → P) → P
by_value true f g = f refl
by_value false f g = g refl

pub false-true : false ≡ true → ⊥
false-true e = true≢false (sym e)

pub clash : {P : Type 0} (b : Bool) → b ≡ true → b ≡ false → P
clash b e g = absurd (true≢false (sym e ∙ g))

pub or-false_left : (x y : Bool) → (x || y) ≡ false → x ≡ false
or-false_left true y e = e
or-false_left false y e = refl

pub or-false_right : (x y : Bool) → (x || y) ≡ false → y ≡ false
or-false_right true y e = absurd (true≢false e)
or-false_right false y e = e

pub or-rest : (x y : Bool) → x ≡ false → (x || y) ≡ true → y ≡ true
or-rest true y e h = absurd (true≢false e)
or-rest false y e h = h

pub and-left : (x y : Bool) → (x && y) ≡ true → x ≡ true
and-left true y e = refl
and-left false y e = e

pub and-right : (x y : Bool) → (x && y) ≡ true → y ≡ true
and-right true y e = e
and-right false y e = absurd (false-true e)

pub not-is : (x : Bool) → not x ≡ true → x ≡ false
not-is true e = absurd (false-true e)
not-is false e = refl

pub is-not : (x : Bool) → x ≡ false → not x ≡ true
is-not true e = absurd (true≢false e)
is-not false e = refl

-- ---- counting

abbrev pub times_from : ℕ → List Instruction → Exit → ℕ
times_from t [] e = times t (exit_reads e)
times_from t (i ∷ is) e = times t (instruction_reads i) + times_from t is e

abbrev times_blocks : ℕ → List Block → ℕ
times_blocks t [] = 0
times_blocks t (b ∷ bs) = times_from t b.instructions b.exit + times_blocks t bs

left-has : (n m : ℕ) → 1 ≤ n → 1 ≤ n + m
left-has n m h = omega (arith, h)

right-has : (n m : ℕ) → 1 ≤ m → 1 ≤ n + m
right-has n m h = omega (arith, h)

both-have : (n m : ℕ) → 1 ≤ n → 1 ≤ m → 2 ≤ n + m
both-have n m h g = omega (arith, h, g)

right-two : (n m : ℕ) → 2 ≤ m → 2 ≤ n + m
right-two n m h = omega (arith, h)

left-two : (n m : ℕ) → 2 ≤ n → 2 ≤ n + m
left-two n m h = omega (arith, h)

pub too-many : {P : Type 0} (n : ℕ) → n ≤ 1 → 2 ≤ n → P
too-many n h g = absurd (omega (arith, h, g))

pub rest-few : (n m : ℕ) → n + m ≤ 1 → m ≤ 1
rest-few n m h = omega (arith, h)

pub has-times : (t : ℕ) (ts : List ℕ) → has ts t ≡ true → 1 ≤ times t ts
has-times t [] h = absurd (false-true h)
has-times t (u ∷ us) h = by_value (nat_eq u t)
    (λ e. left-has (if nat_eq u t then 1 else 0) (times t us) (one (nat_eq u t) e))
    (λ e. right-has (if nat_eq u t then 1 else 0) (times t us) (has-times t us (or-rest (nat_eq u t) (has us t) e h)))
  where
    one : (b : Bool) → b ≡ true → 1 ≤ (if b then 1 else 0)
    one true e = omega arith
    one false e = absurd (false-true e)

-- what is read first is read
pub first-times : (n t s : ℕ) (is : List Instruction) (e : Exit) → reads_first n t s is e ≡ true → 1 ≤ times_from t is e
first-times zero t s [] e h = has-times t (exit_reads e) h
first-times (suc n) t s [] e h = has-times t (exit_reads e) h
first-times zero t s (i ∷ is) e h = absurd (false-true h)
first-times (suc n) t s (i ∷ is) e h = by_value (has (instruction_reads i) t)
    (λ g. left-has (times t (instruction_reads i)) (times_from t is e) (has-times t (instruction_reads i) g))
    (λ g. right-has (times t (instruction_reads i)) (times_from t is e)
    (first-times n t s is e
    (and-right (not (is_written (instruction_write i) t || is_written (instruction_write i) s)) (reads_first n t s is e)
    (or-rest (has (instruction_reads i) t)
    (not (is_written (instruction_write i) t || is_written (instruction_write i) s) && reads_first n t s is e) g h))))

-- so is what is read where it has no name
pub exposed-times : (once : ℕ → Bool) (names : ℕ → ℕ) (t : ℕ) (is : List Instruction) (e : Exit) →
    exposed once names t is e ≡ true → 1 ≤ times_from t is e
exposed-times once names t [] e h = has-times t (exit_reads e) h
exposed-times once names t (i ∷ is) e h = by_value (has (instruction_reads i) t)
    (λ g. left-has (times t (instruction_reads i)) (times_from t is e) (has-times t (instruction_reads i) g))
    (λ g. right-has (times t (instruction_reads i)) (times_from t is e)
    (exposed-times once (after once names i is e) t is e
    (and-right (not (carries once names t i is e)) (exposed once (after once names i is e) t is e)
    (or-rest (has (instruction_reads i) t)
    (not (carries once names t i is e) && exposed once (after once names i is e) t is e) g h))))

-- a copy that goes has its read behind it
carried : (once : ℕ → Bool) (names : ℕ → ℕ) (t : ℕ) (i : Instruction) (is : List Instruction) (e : Exit) →
    carries once names t i is e ≡ true → (once t ≡ true) × (1 ≤ times_from t is e)
carried once names t (Copy d (Temp u)) is e h = subst (λ z. (once z ≡ true) × (1 ≤ times_from z is e)) same (
  and-left (once d) (not (nat_eq d (names u)) && reads_first few d (names u) is e) going,
  first-times few d (names u) is e
      (and-right (not (nat_eq d (names u))) (reads_first few d (names u) is e)
      (and-right (once d) (not (nat_eq d (names u)) && reads_first few d (names u) is e) going)),
)
  where
    same : d ≡ t
    same = eqb-true d t (and-left (nat_eq d t) (goes once d (names u) is e) h)

    going : goes once d (names u) is e ≡ true
    going = and-right (nat_eq d t) (goes once d (names u) is e) h
carried once names t _ is e h = absurd (false-true h)

pub gone-times : (once : ℕ → Bool) (names : ℕ → ℕ) (t : ℕ) (is : List Instruction) (e : Exit) →
    gone once names t is e ≡ true → (once t ≡ true) × (1 ≤ times_from t is e)
gone-times once names t [] e h = absurd (false-true h)
gone-times once names t (i ∷ is) e h = by_value (carries once names t i is e)
    (λ g. more (carried once names t i is e g))
    (λ g. more (gone-times once (after once names i is e) t is e
    (or-rest (carries once names t i is e) (gone once (after once names i is e) t is e) g h)))
  where
    more : (once t ≡ true) × (1 ≤ times_from t is e) → (once t ≡ true) × (1 ≤ times t (instruction_reads i) + times_from t is e)
    more p = (p.0, right-has (times t (instruction_reads i)) (times_from t is e) p.1)

-- it would be read twice in a block that has both
both-times : (once : ℕ → Bool) (names : ℕ → ℕ) (t : ℕ) (is : List Instruction) (e : Exit) →
    gone once names t is e ≡ true → exposed once names t is e ≡ true → 2 ≤ times_from t is e
both-times once names t [] e h g = absurd (false-true h)
both-times once names t (i ∷ is) e h g = by_value (carries once names t i is e)
    (λ c. by_value (has (instruction_reads i) t)
    (λ r. here r (carried once names t i is e c).1)
    (λ r. clash (carries once names t i is e) c (not-is (carries once names t i is e)
    (and-left (not (carries once names t i is e)) (exposed once (after once names i is e) t is e) (later r)))))
    (λ c. by_value (has (instruction_reads i) t)
    (λ r. here r (gone-times once (after once names i is e) t is e (further c)).1)
    (λ r. right-two (times t (instruction_reads i)) (times_from t is e) (both-times once (after once names i is e) t is e (further c)
    (and-right (not (carries once names t i is e)) (exposed once (after once names i is e) t is e) (later r)))))
  where
    here : has (instruction_reads i) t ≡ true → 1 ≤ times_from t is e → 2 ≤ times t (instruction_reads i) + times_from t is e
    here r k = both-have (times t (instruction_reads i)) (times_from t is e) (has-times t (instruction_reads i) r) k

    later : has (instruction_reads i) t ≡ false →
        (not (carries once names t i is e) && exposed once (after once names i is e) t is e) ≡ true
    later r = or-rest (has (instruction_reads i) t)
        (not (carries once names t i is e) && exposed once (after once names i is e) t is e) r g

    further : carries once names t i is e ≡ false → gone once (after once names i is e) t is e ≡ true
    further c = or-rest (carries once names t i is e) (gone once (after once names i is e) t is e) c h

abbrev gone_at : (once : ℕ → Bool) → ℕ → List Block → ℕ → Type 0
gone_at once t bs n = (b : Block) × (slice_get bs n ≡ Some b) × (gone once own_names t b.instructions b.exit ≡ true)

abbrev exposed_at : (once : ℕ → Bool) → ℕ → List Block → ℕ → Type 0
exposed_at once t bs n = (b : Block) × (slice_get bs n ≡ Some b) × (exposed once own_names t b.instructions b.exit ≡ true)

gone-block : (once : ℕ → Bool) (t : ℕ) (b : Block) (bs : List Block) → gone_at once t (b ∷ bs) 0 →
    gone once own_names t b.instructions b.exit ≡ true
gone-block once t b bs h = subst (λ c. gone once own_names t c.instructions c.exit ≡ true) (same_Some h.0 b (sym h.1)) h.2

exposed-block : (once : ℕ → Bool) (t : ℕ) (b : Block) (bs : List Block) → exposed_at once t (b ∷ bs) 0 →
    exposed once own_names t b.instructions b.exit ≡ true
exposed-block once t b bs h = subst (λ c. exposed once own_names t c.instructions c.exit ≡ true) (same_Some h.0 b (sym h.1)) h.2

gone-blocks : (once : ℕ → Bool) (t : ℕ) (bs : List Block) (n : ℕ) → gone_at once t bs n → 1 ≤ times_blocks t bs
gone-blocks once t [] n h = absurd (none-some h.0 h.1)
gone-blocks once t (b ∷ bs) zero h =
    left-has (times_from t b.instructions b.exit) (times_blocks t bs)
    (gone-times once own_names t b.instructions b.exit (gone-block once t b bs h)).1
gone-blocks once t (b ∷ bs) (suc n) h =
    right-has (times_from t b.instructions b.exit) (times_blocks t bs) (gone-blocks once t bs n h)

exposed-blocks : (once : ℕ → Bool) (t : ℕ) (bs : List Block) (n : ℕ) → exposed_at once t bs n → 1 ≤ times_blocks t bs
exposed-blocks once t [] n h = absurd (none-some h.0 h.1)
exposed-blocks once t (b ∷ bs) zero h =
    left-has (times_from t b.instructions b.exit) (times_blocks t bs)
    (exposed-times once own_names t b.instructions b.exit (exposed-block once t b bs h))
exposed-blocks once t (b ∷ bs) (suc n) h =
    right-has (times_from t b.instructions b.exit) (times_blocks t bs) (exposed-blocks once t bs n h)

two-blocks : (once : ℕ → Bool) (t : ℕ) (bs : List Block) (n m : ℕ) → gone_at once t bs n → exposed_at once t bs m → 2 ≤ times_blocks t bs
two-blocks once t [] n m h g = absurd (none-some h.0 h.1)
two-blocks once t (b ∷ bs) zero zero h g =
    left-two (times_from t b.instructions b.exit) (times_blocks t bs)
    (both-times once own_names t b.instructions b.exit (gone-block once t b bs h) (exposed-block once t b bs g))
two-blocks once t (b ∷ bs) zero (suc m) h g =
    both-have (times_from t b.instructions b.exit) (times_blocks t bs)
    (gone-times once own_names t b.instructions b.exit (gone-block once t b bs h)).1 (exposed-blocks once t bs m g)
two-blocks once t (b ∷ bs) (suc n) zero h g =
    both-have (times_from t b.instructions b.exit) (times_blocks t bs)
    (exposed-times once own_names t b.instructions b.exit (exposed-block once t b bs g)) (gone-blocks once t bs n h)
two-blocks once t (b ∷ bs) (suc n) (suc m) h g =
    right-two (times_from t b.instructions b.exit) (times_blocks t bs) (two-blocks once t bs n m h g)

-- ---- how often the whole code reads it

instructions-times : (t : ℕ) (is : List Instruction) (e : Exit) →
    sum_by (instruction_times t) is + times t (exit_reads e) ≡ times_from t is e
instructions-times t [] e = omega arith
instructions-times t (i ∷ is) e = more (sum_by (instruction_times t) (i ∷ is)) (instruction_times t i) (sum_by (instruction_times t) is)
    (times t (exit_reads e)) (times_from t is e) (sum_by-cons (instruction_times t) i is) (instructions-times t is e)
  where
    more : (all one rest last from : ℕ) → all ≡ one + rest → rest + last ≡ from → all + last ≡ one + from
    more all one rest last from h g = omega (arith, h, g)

blocks-times : (t : ℕ) (bs : List Block) → sum_by (block_times t) bs ≡ times_blocks t bs
blocks-times t [] = refl
blocks-times t (b ∷ bs) = more (sum_by (block_times t) (b ∷ bs)) (block_times t b) (sum_by (block_times t) bs)
    (times_from t b.instructions b.exit) (times_blocks t bs) (sum_by-cons (block_times t) b bs)
    (instructions-times t b.instructions b.exit) (blocks-times t bs)
  where
    more : (all one rest first from : ℕ) → all ≡ one + rest → one ≡ first → rest ≡ from → all ≡ first + from
    more all one rest first from h g k = omega (arith, h, g, k)

once-times : (code : Tac) (t : ℕ) → is_once code t ≡ true → times_blocks t code.blocks ≡ 1
unfolding is_once
once-times code t h = sym (blocks-times t code.blocks) ∙ eqb-true (reads_in code t) 1 h

-- in a block too it is read once at most
block-few : (t : ℕ) (bs : List Block) (n : ℕ) (b : Block) → slice_get bs n ≡ Some b → times_from t b.instructions b.exit ≤ times_blocks t bs
block-few t [] n b h = absurd (none-some b h)
block-few t (c ∷ bs) zero b h =
    subst (λ z. times_from t z.instructions z.exit ≤ times_from t c.instructions c.exit + times_blocks t bs) (same_Some c b h)
    (first (times_from t c.instructions c.exit) (times_blocks t bs))
  where
    first : (n m : ℕ) → n ≤ n + m
    first n m = omega arith
block-few t (c ∷ bs) (suc n) b h =
    more (times_from t b.instructions b.exit) (times_from t c.instructions c.exit) (times_blocks t bs) (block-few t bs n b h)
  where
    more : (k n m : ℕ) → k ≤ m → k ≤ n + m
    more k n m g = omega (arith, g)

pub once-few : (code : Tac) (t n : ℕ) (b : Block) → slice_get code.blocks n ≡ Some b → is_once code t ≡ true →
    times_from t b.instructions b.exit ≤ 1
once-few code t n b h g = le_trans (block-few t code.blocks n b h) (le_of_eq (once-times code t g))

-- a temporary whose copy goes is hidden
pub gone-hidden : (code : Tac) (t n : ℕ) (b : Block) → slice_get code.blocks n ≡ Some b →
    gone (is_once code) own_names t b.instructions b.exit ≡ true → Hidden code t
gone-hidden code t n b h g m c k =
    by_value (exposed (is_once code) own_names t c.instructions c.exit)
    (λ e. too-many (times_blocks t code.blocks)
    (le_of_eq (once-times code t (gone-times (is_once code) own_names t b.instructions b.exit g).0))
    (two-blocks (is_once code) t code.blocks n m (b, h, g) (c, k, e)))
    (λ e. e)

pub gone-once : (code : Tac) (t : ℕ) (b : Block) → gone (is_once code) own_names t b.instructions b.exit ≡ true → is_once code t ≡ true
gone-once code t b g = (gone-times (is_once code) own_names t b.instructions b.exit g).0
