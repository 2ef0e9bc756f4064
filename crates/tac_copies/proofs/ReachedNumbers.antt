-- The numbers that the code keeps are those of the blocks that are reached, and one block after the other is looked at.
use Rattle.std.proofs.Common.{◌≡◌, ◌<◌, ℕ, suc, ◌+◌, Bool, true, false, ◌&&◌, ◌||◌, List, [], ◌∷◌, ◌++◌, drop, length, get_or, refl, sym}
use Rattle.std.proofs.Common.{ap, ap₂, ◌∙◌, subst, arith}
use Rattle.std.specs.Prelude.{if◌then◌else◌, nat_eq, nat_le}
use Rattle.std.proofs.Math.Bool.{or_assoc}
use Rattle.std.proofs.Math.Path.{fun_ext}
use Rattle.std.proofs.lemmas.Bool.{eq-eqb, eqb-true, false≢true, ne_eqb}
use Rattle.std.proofs.lemmas.List.{append_assoc, drop_more}
use Rattle.std.proofs.lemmas.List.Folds.{list_any-append}
use Rattle.tac_form.specs.declared.tac.Exit.{Exit}
use Rattle.tac_form.specs.declared.tac.Exit.TheVariants.{Jump, Branch, Return, Fail}
use Rattle.tac_form.specs.declared.tac.Block.{Block}
use Rattle.tac_form.specs.declared.tac.Tac.{Tac}
use Rattle.tac_form.specs.Graph.{exit_next}
use Rattle.tac_form.specs.Live.{has}
use Rattle.tac_copies.specs.Kept.{is_among, reached_numbers, with_ahead, with_back, with_backs, with_next, with_one, with_one_if}
use Rattle.tac_copies.specs.Reached.{is_reached, leads_back, leads_to, passed, passed_where, reached_on}

pub or-none : (a : Bool) → (a || false) ≡ a
or-none true = refl
or-none false = refl

or-all : (a : Bool) → (a || true) ≡ true
or-all true = refl
or-all false = refl

and-none : (a : Bool) → (a && false) ≡ false
and-none true = refl
and-none false = refl

same-test : (n m : ℕ) → nat_eq n m ≡ nat_eq m n
same-test n m = by (nat_eq n m) refl
  where
    by : (b : Bool) → nat_eq n m ≡ b → nat_eq n m ≡ nat_eq m n
    by true e = e ∙ sym (eq-eqb m n (sym (eqb-true n m e)))
    by false e = e ∙ sym (ne_eqb m n (λ h. false≢true (sym e ∙ eq-eqb n m (sym h))))

-- ---- with one more

pub among-one : (ns : List ℕ) (n m : ℕ) → is_among (with_one ns n) m ≡ (is_among ns m || nat_eq n m)
among-one ns n m = by (is_among ns n) refl
  where
    there : (b : Bool) → nat_eq n m ≡ b → is_among ns n ≡ true → is_among ns m ≡ (is_among ns m || b)
    there true q e = subst (λ k. is_among ns k ≡ true) (eqb-true n m q) e ∙ sym (or-all (is_among ns m))
    there false q e = sym (or-none (is_among ns m))

    by : (b : Bool) → is_among ns n ≡ b → is_among (if b then ns else ns ++ n ∷ []) m ≡ (is_among ns m || nat_eq n m)
    by true e = there (nat_eq n m) refl e
    by false e =
        list_any-append (nat_eq m) ns (n ∷ [])
        ∙ ap (λ z. is_among ns m || z) (or-none (nat_eq m n) ∙ same-test m n)

-- what holds of it is tested of the other where they are one
tested : (P : ℕ → Bool) (n m : ℕ) → (P m && nat_eq n m) ≡ (P n && nat_eq n m)
tested P n m = by (nat_eq n m) refl
  where
    by : (b : Bool) → nat_eq n m ≡ b → (P m && b) ≡ (P n && b)
    by true q = ap (λ k. P k && true) (sym (eqb-true n m q))
    by false q = and-none (P m) ∙ sym (and-none (P n))

among-if : (from : ℕ) (ns : List ℕ) (n m : ℕ) →
    is_among (with_one_if (nat_le n from) ns n) m ≡ (is_among ns m || (nat_le m from && nat_eq n m))
among-if from ns n m =
    by (nat_le n from) ∙ ap (λ z. is_among ns m || z) (sym (tested (λ k. nat_le k from) n m))
  where
    by : (b : Bool) → is_among (with_one_if b ns n) m ≡ (is_among ns m || (b && nat_eq n m))
    by true = among-one ns n m
    by false = sym (or-none (is_among ns m))

and-or : (a b c : Bool) → ((a && b) || (a && c)) ≡ (a && (b || c))
and-or true b c = refl
and-or false b c = refl

-- ---- with those to which an exit leads

among-back : (from : ℕ) (ns : List ℕ) (e : Exit) (m : ℕ) →
    is_among (with_back from ns e) m ≡ (is_among ns m || (nat_le m from && has (exit_next e) m))
among-back from ns (Jump e) m =
    among-if from ns e.block m ∙ ap (λ z. is_among ns m || (nat_le m from && z)) (sym (or-none (nat_eq e.block m)))
among-back from ns (Branch a e f) m =
    among-if from (with_one_if (nat_le e.block from) ns e.block) f.block m
    ∙ ap (λ z. z || (nat_le m from && nat_eq f.block m)) (among-if from ns e.block m)
    ∙ or_assoc (is_among ns m) (nat_le m from && nat_eq e.block m) (nat_le m from && nat_eq f.block m)
    ∙ ap (λ z. is_among ns m || z) (and-or (nat_le m from) (nat_eq e.block m) (nat_eq f.block m))
    ∙ ap (λ z. is_among ns m || (nat_le m from && (nat_eq e.block m || z))) (sym (or-none (nat_eq f.block m)))
among-back from ns (Return v) m = sym (ap (λ z. is_among ns m || z) (and-none (nat_le m from)) ∙ or-none (is_among ns m))
among-back from ns (Fail kind at) m = sym (ap (λ z. is_among ns m || z) (and-none (nat_le m from)) ∙ or-none (is_among ns m))

among-next : (ns : List ℕ) (e : Exit) (m : ℕ) → is_among (with_next ns e) m ≡ (is_among ns m || has (exit_next e) m)
among-next ns (Jump e) m = among-one ns e.block m ∙ ap (λ z. is_among ns m || z) (sym (or-none (nat_eq e.block m)))
among-next ns (Branch a e f) m =
    among-one (with_one ns e.block) f.block m ∙ ap (λ z. z || nat_eq f.block m) (among-one ns e.block m)
    ∙ or_assoc (is_among ns m) (nat_eq e.block m) (nat_eq f.block m)
    ∙ ap (λ z. is_among ns m || (nat_eq e.block m || z)) (sym (or-none (nat_eq f.block m)))
among-next ns (Return v) m = sym (or-none (is_among ns m))
among-next ns (Fail kind at) m = sym (or-none (is_among ns m))

-- ---- with those of all blocks

among-backs : (bs : List Block) (from : ℕ) (ns : List ℕ) (m : ℕ) →
    is_among (with_backs from ns bs) m ≡ (is_among ns m || leads_back from bs m)
among-backs [] from ns m = sym (or-none (is_among ns m))
among-backs (b ∷ bs) from ns m =
    among-backs bs (suc from) (with_back from ns b.exit) m
    ∙ ap (λ z. z || leads_back (suc from) bs m) (among-back from ns b.exit m)
    ∙ or_assoc (is_among ns m) (nat_le m from && leads_to b m) (leads_back (suc from) bs m)

among-ahead : (bs : List Block) (from : ℕ) (ns : List ℕ) (known : ℕ → Bool) → ((m : ℕ) → is_among ns m ≡ known m) → (m : ℕ) →
    is_among (with_ahead from ns bs) m ≡ reached_on known from bs m
among-ahead [] from ns known h m = h m
among-ahead (b ∷ bs) from ns known h m =
    among-ahead bs (suc from) (if is_among ns from then with_next ns b.exit else ns)
    (λ k. known k || (known from && leads_to b k)) (λ k. by k (is_among ns from) refl) m
  where
    by : (k : ℕ) (r : Bool) → is_among ns from ≡ r →
        is_among (if r then with_next ns b.exit else ns) k ≡ (known k || (known from && leads_to b k))
    by k true e =
        among-next ns b.exit k ∙ ap₂ (λ x y. x || (y && leads_to b k)) (h k) (sym e ∙ h from)
    by k false e =
        h k ∙ sym (or-none (known k)) ∙ ap (λ y. known k || (y && leads_to b k)) (sym e ∙ h from)

numbers-are : (code : Tac) → is_among (reached_numbers code.blocks) ≡ is_reached code
unfolding is_reached
numbers-are code = fun_ext (λ m.
    among-ahead code.blocks 0 (with_backs 0 (0 ∷ []) code.blocks) (λ k. nat_eq k 0 || leads_back 0 code.blocks k)
    (λ k. among-backs code.blocks 0 (0 ∷ []) k ∙ ap (λ z. z || leads_back 0 code.blocks k) (or-none (nat_eq k 0))) m)

pub all_numbers : (code : Tac) (none first backs all : List ℕ) → none ≡ [] → first ≡ with_one none 0 →
    backs ≡ with_backs 0 first code.blocks → all ≡ with_ahead 0 backs code.blocks → is_among all ≡ is_reached code
all_numbers code none first backs all e f g h =
    ap is_among (h ∙ ap (λ ns. with_ahead 0 ns code.blocks) (g ∙ ap (λ ns. with_backs 0 ns code.blocks) (f ∙ ap (λ ns. with_one ns 0) e)))
    ∙ numbers-are code

-- ---- one block after the other

later : (n : ℕ) → n + 1 ≡ suc n
later n = omega arith

pub backs_next : (bs : List Block) (ns more whole : List ℕ) (k : ℕ) (d b : Block) → k < length bs → b ≡ get_or bs k d →
    more ≡ with_back k ns b.exit → with_backs k ns (drop k bs) ≡ whole → with_backs (k + 1) more (drop (k + 1) bs) ≡ whole
backs_next bs ns more whole k d b less read grown before =
    ap₂ (λ n ms. with_backs n ms (drop (k + 1) bs)) (later k) (grown ∙ ap (λ z. with_back k ns z.exit) read)
    ∙ sym (ap (with_backs k ns) (drop_more bs k d less)) ∙ before

pub ahead_next : (bs : List Block) (ns more whole : List ℕ) (k : ℕ) (d b : Block) → k < length bs → b ≡ get_or bs k d →
    more ≡ (if is_among ns k then with_next ns b.exit else ns) → with_ahead k ns (drop k bs) ≡ whole →
    with_ahead (k + 1) more (drop (k + 1) bs) ≡ whole
ahead_next bs ns more whole k d b less read grown before =
    ap₂ (λ n ms. with_ahead n ms (drop (k + 1) bs)) (later k)
    (grown ∙ ap (λ z. if is_among ns k then with_next ns z.exit else ns) read)
    ∙ sym (ap (with_ahead k ns) (drop_more bs k d less)) ∙ before

pub passed_next : (reached : ℕ → Bool) (bs made more whole : List Block) (k : ℕ) (d b x : Block) → k < length bs → b ≡ get_or bs k d →
    x ≡ (if reached k then b else passed k) → more ≡ made ++ x ∷ [] → made ++ passed_where reached k (drop k bs) ≡ whole →
    more ++ passed_where reached (k + 1) (drop (k + 1) bs) ≡ whole
passed_next reached bs made more whole k d b x less read one grown before =
    ap₂ (λ ms n. ms ++ passed_where reached n (drop (k + 1) bs)) grown (later k)
    ∙ append_assoc made (x ∷ []) (passed_where reached (suc k) (drop (k + 1) bs))
    ∙ ap (λ z. made ++ z ∷ passed_where reached (suc k) (drop (k + 1) bs))
    (one ∙ ap (λ z. if reached k then z else passed k) read)
    ∙ sym (ap (λ l. made ++ passed_where reached k l) (drop_more bs k d less)) ∙ before
