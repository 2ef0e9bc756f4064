-- A block whose last instruction has one code with its exit.
use Rattle.std.proofs.Common.{◌≡◌, ℕ, zero, suc, ◌+◌, ◌-◌, ◌<◌, ◌≤◌, Bool, true, false, ◌&&◌, List, [], ◌∷◌, length, take, get_or, sum_by}
use Rattle.std.proofs.Common.{Option, Some, None, refl, sym, ap, ◌∙◌, subst, arith}
use Rattle.std.specs.Prelude.{◌==◌, if◌then◌else◌, nat_eq, slice_get}
use Rattle.std.specs.List.{list_all}
use Rattle.std.proofs.lemmas.Bool.{eqb-true}
use Rattle.std.proofs.lemmas.Bool.Decides.{nat_tests}
use Rattle.std.proofs.lemmas.List.{length-take-le}
use Rattle.std.proofs.lemmas.List.Sums.{sum_by-cons}
use Rattle.std.proofs.lemmas.Option.{slice_get_past, slice_get_read, slice_get_within}
use Rattle.tac_form.specs.declared.tac.Operand.TheVariants.{Temp, Constant}
use Rattle.tac_form.specs.declared.tac.Instruction.{Instruction}
use Rattle.tac_form.specs.declared.tac.Instruction.TheVariants.{Alloc, Call, CallValue, Clear, Compute, Copy, Load, Locate, Move, PutByte}
use Rattle.tac_form.specs.declared.tac.Instruction.TheVariants.{Store, TestDivisor, Write}
use Rattle.tac_form.specs.declared.tac.Exit.{Exit}
use Rattle.tac_form.specs.declared.tac.Exit.TheVariants.{Branch, Fail, Jump, Return}
use Rattle.tac_form.specs.declared.tac.Block.{Block}
use Rattle.tac_form.specs.declared.tac.Tac.{Tac}
use Rattle.rv_operators.specs.Codes.{is_comparison}
use Rattle.rv_select.specs.declared.pairs.Reads.{Reads}
use Rattle.rv_select.specs.declared.pairs.Pair.{Pair}
use Rattle.rv_select.specs.Pairs.{but_pair, is_once, pair_at, pair_of, plain_of, reads_at, reads_of}
use Rattle.rv_select.specs.Waiting.{plain_in}

-- items of a front are items of the whole
take-get : {A : Type 0} (n : ℕ) (xs : List A) (k : ℕ) (x : A) → slice_get (take n xs) k ≡ Some x → slice_get xs k ≡ Some x
take-get zero xs k x e = cc
take-get (suc n) [] k x e = cc
take-get (suc n) (y ∷ xs) zero x e = e
take-get (suc n) (y ∷ xs) (suc k) x e = take-get n xs k x e

pub plain-get : (o : Option Pair) (is : List Instruction) (k : ℕ) (i : Instruction) → slice_get (but_pair o is) k ≡ Some i →
    slice_get is k ≡ Some i
plain-get None is k i e = e
plain-get (Some pair) is k i e = take-get (length is - 1) is k i e

-- behind an instruction with code of its own there is another or the block's end
pub before-next : (code : Tac) (b k : ℕ) (block : Block) (i : Instruction) → slice_get code.blocks b ≡ Some block →
    slice_get (plain_of (reads_of code) block) k ≡ Some i → suc k ≤ length (plain_in (reads_of code) (slice_get code.blocks b))
before-next code b k block i e g =
    subst (λ o. suc k ≤ length (plain_in (reads_of code) o)) (sym e)
    (next (length (plain_of (reads_of code) block)) (slice_get_within (plain_of (reads_of code) block) k i g))
  where
    next : (n : ℕ) → k < n → suc k ≤ n
    next n h = omega (arith, h)

-- what holds of all instructions holds of those
take-all : {A : Type 0} (f : A → Bool) (n : ℕ) (xs : List A) → list_all f xs ≡ true → list_all f (take n xs) ≡ true
take-all f zero xs h = refl
take-all f (suc n) [] h = refl
take-all f (suc n) (x ∷ xs) h = both (f x) (list_all f xs) (list_all f (take n xs)) h (take-all f n xs)
  where
    both : (a b c : Bool) → (a && b) ≡ true → (b ≡ true → c ≡ true) → (a && c) ≡ true
    both true b c e g = g e
    both false b c e g = e

pub plain-all : (f : Instruction → Bool) (o : Option Pair) (is : List Instruction) → list_all f is ≡ true →
    list_all f (but_pair o is) ≡ true
plain-all f None is h = h
plain-all f (Some pair) is h = take-all f (length is - 1) is h

-- a sum without the last item
sum-front : {A : Type 0} (f : A → ℕ) (xs : List A) (k : ℕ) (x : A) → slice_get xs k ≡ Some x → suc k ≡ length xs →
    sum_by f (take k xs) + f x ≡ sum_by f xs
sum-front f [] k x e h = cc
sum-front f (y ∷ []) zero x e h =
    let same : y ≡ x = cc in
    subst (λ z. sum_by f [] + f z ≡ sum_by f (y ∷ [])) same (swap (f y) (sum_by f []) (sum_by f (y ∷ [])) (sum_by-cons f y []))
  where
    swap : (a b c : ℕ) → c ≡ a + b → b + a ≡ c
    swap a b c g = omega (arith, g)
sum-front f (y ∷ z ∷ xs) zero x e h = absurd (none (length xs) h)
  where
    none : (n : ℕ) → 1 ≡ suc (suc n) → ⊥
    none n g = omega (arith, g)
sum-front f (y ∷ xs) (suc k) x e h =
    more (sum_by f (take k xs)) (f x) (sum_by f xs) (f y) (sum_by f (y ∷ take k xs)) (sum_by f (y ∷ xs))
    (sum-front f xs k x e (less (length xs) h))
    (sum_by-cons f y (take k xs)) (sum_by-cons f y xs)
  where
    less : (n : ℕ) → suc (suc k) ≡ suc n → suc k ≡ n
    less n g = omega (arith, g)

    more : (a b c y d w : ℕ) → a + b ≡ c → d ≡ y + a → w ≡ y + c → d + b ≡ w
    more a b c y d w g i j = omega (arith, g, i, j)

-- a list with a last item isn't empty
last-place : {A : Type 0} (xs : List A) (x : A) → slice_get xs (length xs - 1) ≡ Some x → suc (length xs - 1) ≡ length xs
last-place xs x e = least (length xs) (slice_get_within xs (length xs - 1) x e)
  where
    least : (n : ℕ) → n - 1 < n → suc (n - 1) ≡ n
    least n h = omega (arith, h)

-- the comparison of a pair, by the temporary that gets its result
abbrev pub compare_of : Pair → ℕ → Instruction
compare_of pair d = Compute d pair.operator pair.form pair.a pair.b

-- A comparison at a block's end, whose branch tests its result.
pub record IsPair (reads : List Reads) (last : Option Instruction) (exit : Exit) (pair : Pair) : Type 0 where
  pub result : ℕ
  pub last_is : last ≡ Some (compare_of pair result)
  pub exit_is : exit ≡ Branch (Temp result) pair.first pair.second
  pub compares : is_comparison pair.operator ≡ true
  pub once : is_once (reads_at reads result) ≡ true

pub pair-parts : (reads : List Reads) (last : Option Instruction) (exit : Exit) (pair : Pair) → pair_at reads last exit ≡ Some pair →
    IsPair reads last exit pair
unfolding pair_at
pair-parts reads None exit pair h = cc
pair-parts reads (Some (Compute d op form a b)) (Branch (Temp t) e f) pair h =
    tested (nat_eq d t) (is_comparison op) (is_once (reads_at reads t)) refl refl refl h
  where
    tested : (x y z : Bool) → nat_eq d t ≡ x → is_comparison op ≡ y → is_once (reads_at reads t) ≡ z →
        (if x && (y && z) then Some (record { operator = op; form = form; a = a; b = b; first = e; second = f }) else None) ≡ Some pair →
        IsPair reads (Some (Compute d op form a b)) (Branch (Temp t) e f) pair
    tested true true true i j k g =
        let same : record { operator = op; form = form; a = a; b = b; first = e; second = f } ≡ pair = cc in
        subst (λ q. IsPair reads (Some (Compute d op form a b)) (Branch (Temp t) e f) q) same
        (record {
          result = t;
          last_is = ap (λ n. Some (Compute n op form a b)) (eqb-true d t i);
          exit_is = refl;
          compares = j;
          once = k;
        })
    tested true true false i j k g = cc
    tested true false z i j k g = cc
    tested false y z i j k g = cc
pair-parts reads (Some (Compute d op form a b)) (Branch (Constant c) e f) pair h = cc
pair-parts reads (Some (Compute d op form a b)) (Jump e) pair h = cc
pair-parts reads (Some (Compute d op form a b)) (Return v) pair h = cc
pair-parts reads (Some (Compute d op form a b)) (Fail kind place) pair h = cc
pair-parts reads (Some (TestDivisor place a)) exit pair h = cc
pair-parts reads (Some (Copy d a)) exit pair h = cc
pair-parts reads (Some (Locate d offset)) exit pair h = cc
pair-parts reads (Some (Load d form spot)) exit pair h = cc
pair-parts reads (Some (Store spot n a)) exit pair h = cc
pair-parts reads (Some (Move to from n)) exit pair h = cc
pair-parts reads (Some (Clear n k)) exit pair h = cc
pair-parts reads (Some (Call to place f arguments)) exit pair h = cc
pair-parts reads (Some (CallValue to place sig a arguments)) exit pair h = cc
pair-parts reads (Some (PutByte a)) exit pair h = cc
pair-parts reads (Some (Write place a b)) exit pair h = cc
pair-parts reads (Some (Alloc d a)) exit pair h = cc

-- the words of a block with such a comparison
pub pair-sum : (f : Instruction → ℕ) (is : List Instruction) (i : Instruction) → slice_get is (length is - 1) ≡ Some i →
    sum_by f (take (length is - 1) is) + f i ≡ sum_by f is
pair-sum f is i e = sum-front f is (length is - 1) i e (last-place is i e)

pub past : {A : Type 0} (xs : List A) (k : ℕ) → slice_get xs k ≡ None → length xs ≤ k
past [] k e = omega arith
past (x ∷ xs) zero e = cc
past (x ∷ xs) (suc k) e = more (length xs) (past xs k e)
  where
    more : (n : ℕ) → n ≤ k → suc n ≤ suc k
    more n h = omega (arith, h)

-- where the instructions with code of their own end, the comparison stands, and nothing behind it
pub pair-place : (is : List Instruction) (i : Instruction) (k : ℕ) → slice_get is (length is - 1) ≡ Some i →
    k ≤ length (take (length is - 1) is) →
    slice_get (take (length is - 1) is) k ≡ None → (slice_get is k ≡ Some i) × (slice_get is (suc k) ≡ None)
pair-place is i k e h g =
    let at : k ≡ length is - 1 =
    both k (length is - 1) (length (take (length is - 1) is)) (length-take-le (length is - 1) is (least (length is))) h
    (past (take (length is - 1) is) k g) in (
      ap (slice_get is) at ∙ e,
      slice_get_past is (suc k) (behind (length is) (length is - 1) at (last-place is i e)),
    )
  where
    least : (n : ℕ) → n - 1 ≤ n
    least n = omega arith

    both : (k n m : ℕ) → m ≡ n → k ≤ m → m ≤ k → k ≡ n
    both k n m e h g = omega (arith, e, h, g)

    behind : (n m : ℕ) → k ≡ m → suc m ≡ n → n ≤ suc k
    behind n m e g = omega (arith, e, g)

-- the last instruction, as code finds it
pub last-pair : (reads : List Reads) (b : Block) (is : List Instruction) (i : Instruction) (r : Option Pair) → is ≡ b.instructions →
    i ≡ get_or is (length is - 1) i → (length is == 0) ≡ false → r ≡ pair_at reads (Some i) b.exit → r ≡ pair_of reads b
last-pair reads b is i r e g some h =
    let last : slice_get is (length is - 1) ≡ Some i = slice_get_read is (length is) (length is - 1) i refl (inside (length is) some) g in
    h ∙ (ap (λ o. pair_at reads o b.exit) (sym last) ∙ ap (λ z. pair_at reads (slice_get z (length z - 1)) b.exit) e)
  where
    inside : (n : ℕ) → (n == 0) ≡ false → n - 1 < n
    inside n h = grind (arith, nat_tests)
