-- One parameter after the other is taken from the front on.
use Rattle.std.proofs.Common.{◌≡◌, ◌<◌, ◌≤◌, ℕ, zero, suc, ◌+◌, ◌-◌, Bool, true, false, not, ◌&&◌, ◌||◌, List, [], ◌∷◌, ◌++◌, map, drop}
use Rattle.std.proofs.Common.{take, length, get_or, Option, Some, None, refl, sym, ap, ap₂, ◌∙◌, subst, ⊎_elim, arith}
use Rattle.std.specs.Prelude.{if◌then◌else◌, nat_eq, nat_lt, unwrap_or}
use Rattle.std.specs.List.{list_any}
use Rattle.std.proofs.Math.Path.{fun_ext}
use Rattle.std.proofs.lemmas.Bool.{cases_lt, false≢true, ltb-false, ltb-true}
use Rattle.std.proofs.lemmas.List.{append_assoc, drop_all, drop_more, take_more, take_rest}
use Rattle.tac_form.specs.declared.tac.Operand.TheVariants.{Temp}
use Rattle.tac_form.specs.declared.tac.Destination.{Destination}
use Rattle.tac_form.specs.declared.tac.Instruction.{Instruction}
use Rattle.tac_form.specs.declared.tac.Instruction.TheVariants.{Copy}
use Rattle.tac_form.specs.declared.tac.Exit.{Exit}
use Rattle.tac_form.specs.declared.tac.Block.{Block}
use Rattle.tac_form.specs.declared.tac.Tac.{Tac}
use Rattle.tac_form.specs.Graph.{exit_next}
use Rattle.tac_form.specs.Live.{has}
use Rattle.tac_form.specs.Fits.{goes_to}
use Rattle.tac_copies.specs.Reached.{leads_to}
use Rattle.tac_copies.specs.Kept.{is_among, needed_numbers, next_pair, standing, taken_pair, with_one_if}
use Rattle.tac_copies.specs.Taken.{block_reads, goes_instead, is_needed, is_needed_from, may_go, most_taken, reads, taken_code, taken_once}
use Rattle.tac_copies.specs.Taken.{taken_times}
use Rattle.tac_copies.proofs.ReachedNumbers.{among-one, or-none}

-- a pair of temporaries is one, or there is none
clash : (o : Option (ℕ × ℕ)) (x : ℕ × ℕ) → o ≡ None → o ≡ Some x → ⊥
clash o x e h = cc

same-first : (o : Option (ℕ × ℕ)) (x y : ℕ × ℕ) → o ≡ Some x → o ≡ Some y → x.0 ≡ y.0
same-first o x y e h = ap (λ (z : Option (ℕ × ℕ)). (unwrap_or z (0, 0)).0) (sym e ∙ h)

same-second : (o : Option (ℕ × ℕ)) (x y : ℕ × ℕ) → o ≡ Some x → o ≡ Some y → x.1 ≡ y.1
same-second o x y e h = ap (λ (z : Option (ℕ × ℕ)). (unwrap_or z (0, 0)).1) (sym e ∙ h)

module _ (code : Tac) (ds : List Destination) (e : Exit) (bs : List Block) where
  pair-some : (is : List Instruction) (p v : ℕ) → taken_pair ds is e bs ≡ Some (p, v) →
      taken_once (standing code ds is e bs) ≡ standing code (map (goes_instead p v) ds) (drop 1 is) e bs
  unfolding taken_once
  pair-some [] p v h = absurd (clash None (p, v) refl h)
  pair-some (Copy w (Temp q) ∷ is) p v h = by (may_go ds q w is e bs) refl
    where
      pair : (b : Bool) → may_go ds q w is e bs ≡ b → taken_pair ds (Copy w (Temp q) ∷ is) e bs ≡ (if b then Some (q, w) else None)
      pair b g = ap (λ (c : Bool). if c then Some (q, w) else None) g

      by : (b : Bool) → may_go ds q w is e bs ≡ b →
          (if b then standing code (map (goes_instead q w) ds) is e bs else standing code ds (Copy w (Temp q) ∷ is) e bs)
          ≡ standing code (map (goes_instead p v) ds) is e bs
      by true g =
          let o = taken_pair ds (Copy w (Temp q) ∷ is) e bs in
          ap₂ (λ x y. standing code (map (goes_instead x y) ds) is e bs) (same-first o (q, w) (p, v) (pair true g) h)
          (same-second o (q, w) (p, v) (pair true g) h)
      by false g = absurd (clash (taken_pair ds (Copy w (Temp q) ∷ is) e bs) (p, v) (pair false g) h)
  pair-some (i ∷ is) p v h = absurd (clash None (p, v) refl h)

  pair-none : (is : List Instruction) → taken_pair ds is e bs ≡ None → taken_once (standing code ds is e bs) ≡ standing code ds is e bs
  unfolding taken_once
  pair-none [] h = refl
  pair-none (Copy w (Temp q) ∷ is) h = by (may_go ds q w is e bs) refl
    where
      by : (b : Bool) → may_go ds q w is e bs ≡ b →
          (if b then standing code (map (goes_instead q w) ds) is e bs else standing code ds (Copy w (Temp q) ∷ is) e bs)
          ≡ standing code ds (Copy w (Temp q) ∷ is) e bs
      by true g =
          absurd (clash (taken_pair ds (Copy w (Temp q) ∷ is) e bs) (q, w) h
          (ap (λ (c : Bool). if c then Some (q, w) else None) g))
      by false g = refl
  pair-none (i ∷ is) h = refl

times-none : (n : ℕ) (x : Tac) → taken_once x ≡ x → taken_times n x ≡ x
times-none zero x h = refl
times-none (suc n) x h = ap (taken_times n) h ∙ times-none n x h

-- ---- behind k parameters

module _ (code whole : Tac) (e : Exit) (bs : List Block) (all : List Instruction) (k : ℕ) where
  dropped : (xs : List Instruction) (n : ℕ) → drop 1 (drop n xs) ≡ drop (n + 1) xs
  dropped xs n = sym (one-more n xs) ∙ ap (λ m. drop m xs) (next n)
    where
      next : (m : ℕ) → suc m ≡ m + 1
      next m = omega arith

      one-more : (m : ℕ) (ys : List Instruction) → drop (suc m) ys ≡ drop 1 (drop m ys)
      one-more zero ys = refl
      one-more (suc m) [] = refl
      one-more (suc m) (y ∷ ys) = one-more m ys

  -- the instruction is there that copies the parameter
  is-there : (ds : List Destination) (p v : ℕ) → taken_pair ds (drop k all) e bs ≡ Some (p, v) → k < length all
  is-there ds p v h =
      ⊎_elim (λ l. l)
      (λ l. absurd (clash (taken_pair ds (drop k all) e bs) (p, v) (ap (λ js. taken_pair ds js e bs) (drop_all k all l)) h))
      (cases_lt k (length all))

  abbrev Left : ℕ → List Destination → Type 0
  Left n ds = taken_times (most_taken - n) (standing code ds (drop n all) e bs) ≡ whole

  one-less : k < most_taken → most_taken - k ≡ suc (most_taken - (k + 1))
  one-less l = omega (arith, l)

  no-more : most_taken ≤ k → most_taken - k ≡ 0
  no-more l = omega (arith, l)

  goes-on : (ds : List Destination) (p v : ℕ) → k < most_taken → taken_pair ds (drop k all) e bs ≡ Some (p, v) → Left k ds →
      Left (k + 1) (map (goes_instead p v) ds)
  goes-on ds p v l h before =
      ap (taken_times (most_taken - (k + 1)))
      (ap (λ js. standing code (map (goes_instead p v) ds) js e bs) (sym (dropped all k)) ∙ sym (pair-some code ds e bs (drop k all) p v h))
      ∙ sym (ap (λ n. taken_times n (standing code ds (drop k all) e bs)) (one-less l))
      ∙ before

  -- the pair that was found, by whether there may be one more
  found-in : (ds : List Destination) (o : Option (ℕ × ℕ)) → o ≡ next_pair k ds (take (length all - k) (drop k all)) e bs →
      (b : Bool) → nat_lt k most_taken ≡ b → o ≡ (if b then taken_pair ds (drop k all) e bs else None)
  found-in ds o h b q =
      h ∙ ap (λ js. next_pair k ds js e bs) (take_rest all k)
      ∙ ap (λ (c : Bool). if c then taken_pair ds (drop k all) e bs else None) q

  -- what holds behind one more
  pub record Goes (more : List Destination) : Type 0 where
    pub within : k + 1 ≤ length all
    pub few : k + 1 ≤ most_taken
    pub left : Left (k + 1) more

  pub parameter_goes : (ds given again more : List Destination) (p v : ℕ) (o : Option (ℕ × ℕ)) → given ≡ ds → again ≡ ds →
      o ≡ next_pair k given (take (length all - k) (drop k all)) e bs → o ≡ Some (p, v) → more ≡ map (goes_instead p v) again →
      Left k ds → Goes more
  parameter_goes ds given again more p v o same other found some grown before = by (nat_lt k most_taken) refl
    where
      in-ds : o ≡ next_pair k ds (take (length all - k) (drop k all)) e bs
      in-ds = found ∙ ap (λ es. next_pair k es (take (length all - k) (drop k all)) e bs) same

      by : (b : Bool) → nat_lt k most_taken ≡ b → Goes more
      by false q = absurd (clash o (p, v) (found-in ds o in-ds false q) some)
      by true q =
          let l = ltb-true k most_taken q in
          let h : taken_pair ds (drop k all) e bs ≡ Some (p, v) = sym (found-in ds o in-ds true q) ∙ some in
          record {
            within = at-most (length all) (is-there ds p v h);
            few = at-most most_taken l;
            left = subst (Left (k + 1)) (sym (grown ∙ ap (map (goes_instead p v)) other)) (goes-on ds p v l h before);
          }
        where
          at-most : (n : ℕ) → k < n → k + 1 ≤ n
          at-most n l = omega (arith, l)

  pub parameters_end : (ds given : List Destination) (made : Tac) (o : Option (ℕ × ℕ)) → given ≡ ds →
      o ≡ next_pair k given (take (length all - k) (drop k all)) e bs → o ≡ None →
      made ≡ standing code ds (take (length all - k) (drop k all)) e bs → Left k ds → made ≡ whole
  parameters_end ds given made o same found none is before =
      is ∙ ap (λ js. standing code ds js e bs) (take_rest all k) ∙ by (nat_lt k most_taken) refl
    where
      in-ds : o ≡ next_pair k ds (take (length all - k) (drop k all)) e bs
      in-ds = found ∙ ap (λ es. next_pair k es (take (length all - k) (drop k all)) e bs) same

      by : (b : Bool) → nat_lt k most_taken ≡ b → standing code ds (drop k all) e bs ≡ whole
      by false q =
          sym (ap (λ n. taken_times n (standing code ds (drop k all) e bs)) (no-more (ltb-false k most_taken q))) ∙ before
      by true q =
          sym (times-none (most_taken - k) (standing code ds (drop k all) e bs)
          (pair-none code ds e bs (drop k all) (sym (found-in ds o in-ds true q) ∙ none)))
          ∙ before

-- ---- what is needed

among-needed : (t : ℕ) (bs : List Block) (from n : ℕ) → is_among (needed_numbers t from bs) n ≡ is_needed_from t from bs n
among-needed t [] from n = refl
among-needed t (b ∷ bs) from n =
    one (is_needed t b.instructions b.exit (is_among (needed_numbers t (suc from) bs)))
    ∙ ap₂ (λ x y. x || (y && nat_eq from n)) (among-needed t bs (suc from) n)
    (ap (λ f. is_needed t b.instructions b.exit f) (fun_ext (among-needed t bs (suc from))))
  where
    one : (c : Bool) → is_among (with_one_if c (needed_numbers t (suc from) bs) from) n
        ≡ (is_among (needed_numbers t (suc from) bs) n || (c && nat_eq from n))
    one true = among-one (needed_numbers t (suc from) bs) from n
    one false = sym (or-none (is_among (needed_numbers t (suc from) bs) n))

pub all_needed : (t : ℕ) (bs : List Block) (ns : List ℕ) → ns ≡ needed_numbers t 1 bs → is_among ns ≡ is_needed_from t 1 bs
all_needed t bs ns h = ap is_among h ∙ fun_ext (among-needed t bs 1)

-- one block after the other, from the last on
pub needed_next : (t k : ℕ) (bs : List Block) (ns more : List ℕ) (d b : Block) → k < length bs → b ≡ get_or bs k d →
    more ≡ with_one_if (is_needed t b.instructions b.exit (is_among ns)) ns (k + 1) → ns ≡ needed_numbers t (k + 2) (drop (k + 1) bs) →
    more ≡ needed_numbers t (k + 1) (drop k bs)
needed_next t k bs ns more d b less read grown before =
    let z : k + 2 ≡ suc (k + 1) = omega arith in
    let same : ns ≡ needed_numbers t (suc (k + 1)) (drop (k + 1) bs) = before ∙ ap (λ m. needed_numbers t m (drop (k + 1) bs)) z in
    grown
    ∙ ap₂ (λ ms (c : Block). with_one_if (is_needed t c.instructions c.exit (is_among ms)) ms (k + 1)) same read
    ∙ sym (ap (needed_numbers t (k + 1)) (drop_more bs k d less))

-- ---- the whole

pub whole_taken : (code made : Tac) (b : Block) (bs : List Block) → code.blocks ≡ b ∷ bs →
    made ≡ taken_code (record code { blocks = b ∷ bs }) → made ≡ taken_code code
whole_taken code made b bs h g = g ∙ sym (ap (λ (x : List Block). taken_code (record code { blocks = x })) h)

none-left : (bs : List Block) → length bs ≡ 0 → bs ≡ []
none-left [] h = refl
none-left (b ∷ bs) h = absurd (omega (arith, h))

pub empty_taken : (code made : Tac) (given bs : List Block) → given ≡ code.blocks → length given ≡ 0 → bs ≡ [] →
    made ≡ record code { blocks = bs } → made ≡ taken_code code
unfolding taken_code taken_once
empty_taken code made given bs same none e g =
    g ∙ ap (λ (x : List Block). record code { blocks = x }) e
    ∙ sym (ap (λ (x : List Block). taken_code (record code { blocks = x })) (sym same ∙ none-left given none))

pub parameters_begin : (code : Tac) (ds : List Destination) (is : List Instruction) (e : Exit) (bs : List Block) →
    ds ≡ code.parameters →
    taken_times (most_taken - 0) (standing code ds (drop 0 is) e bs) ≡ taken_code (standing code code.parameters is e bs)
unfolding taken_code
parameters_begin code ds is e bs h = ap (λ es. taken_times most_taken (standing code es is e bs)) h

-- ---- whether a parameter may go

all-five : (a b c d n : Bool) → a ≡ true → b ≡ false → c ≡ false → d ≡ false → (a && (not b && (not c && (not d && n)))) ≡ n
all-five true false false false n _ _ _ _ = refl
all-five false b c d n h _ _ _ = absurd (false≢true h)
all-five true true c d n _ h _ _ = absurd (false≢true (sym h))
all-five true false true d n _ _ h _ = absurd (false≢true (sym h))
all-five true false false true n _ _ _ h = absurd (false≢true (sym h))

pub goes_if : (ds : List Destination) (p v : ℕ) (is : List Instruction) (e : Exit) (bs : List Block) (ns : List ℕ) (a b c d n : Bool) →
    a ≡ list_any (goes_to p) ds → b ≡ list_any (goes_to v) ds → c ≡ (reads p is e || list_any (block_reads p) bs) →
    d ≡ (has (exit_next e) 0 || list_any (λ z. leads_to z 0) bs) → a ≡ true → b ≡ false → c ≡ false → d ≡ false →
    ns ≡ needed_numbers v 1 bs → n ≡ is_needed v is e (is_among ns) → n ≡ may_go ds p v is e bs
goes_if ds p v is e bs ns a b c d n ea eb ec ed ta fb fc fd en ee =
    ee ∙ ap (is_needed v is e) (all_needed v bs ns en)
    ∙ sym (all-five (list_any (goes_to p) ds) (list_any (goes_to v) ds) (reads p is e || list_any (block_reads p) bs)
    (has (exit_next e) 0 || list_any (λ z. leads_to z 0) bs) (is_needed v is e (is_needed_from v 1 bs))
    (sym ea ∙ ta) (sym eb ∙ fb) (sym ec ∙ fc) (sym ed ∙ fd))

-- ---- copies behind other blocks

pub copies_next : (first made more copied : List Block) (k : ℕ) (d b x : Block) → k < length copied → b ≡ get_or copied k d → x ≡ b →
    more ≡ made ++ x ∷ [] → made ≡ first ++ take k copied → more ≡ first ++ take (k + 1) copied
copies_next first made more copied k d b x less read same grown before =
    grown ∙ ap₂ (λ ms y. ms ++ y ∷ []) before (same ∙ read)
    ∙ append_assoc first (take k copied) (get_or copied k d ∷ [])
    ∙ ap (λ l. first ++ l) (sym (take_more copied k d less))
