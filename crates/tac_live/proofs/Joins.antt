-- What is live where blocks begin goes into a set, block by block.
use Rattle.std.proofs.Common.{◌≡◌, ℕ, ◌+◌, ◌<◌, ◌≤◌, Bool, true, false, ◌||◌, List, [], length}
use Rattle.std.proofs.Common.{get_or, take, refl, sym, ap, ◌∙◌, arith}
use Rattle.std.specs.List.{list_any}
use Rattle.std.proofs.lemmas.List.{get_or_past}
use Rattle.std.proofs.lemmas.List.Folds.{list_any_more}
use Rattle.tac_form.specs.declared.graph.FlowBlock.{FlowBlock}
use Rattle.tac_form.specs.Live.{has}
use Rattle.tac_live.specs.Rows.{in_rows}
use Rattle.tac_live.specs.Sets.{at, marked, IsSet}
use Rattle.tac_live.proofs.Marking.{marked-at, marked-long}

-- a row that isn't there has nothing
pub join-missing : (rows : List (List ℕ)) (c : ℕ) (xs : List Bool) → length rows ≤ c →
    IsSet xs (length xs) (λ t. at xs t || in_rows rows c t)
join-missing rows c xs h = record {
  long = refl;
  holds = λ t l. or_none (at xs t) ∙ ap (λ (r : List ℕ). at xs t || has r t) (sym (get_or_past rows c [] h));
}
  where
    or_none : (b : Bool) → b ≡ (b || false)
    or_none true = refl
    or_none false = refl

pub join-row : (rows : List (List ℕ)) (c : ℕ) (old new : List Bool) (row : List ℕ) → get_or rows c [] ≡ row → new ≡ marked row old →
    IsSet new (length old) (λ t. at old t || in_rows rows c t)
join-row rows c old new row e m = record {
  long = ap length m ∙ marked-long row old;
  holds = λ t l.
      ap (λ v. at v t) m ∙ (marked-at row old t l ∙ (or_turned (has row t) (at old t) ∙ ap (λ (r : List ℕ). at old t || has r t) (sym e)));
}
  where
    or_turned : (a b : Bool) → (a || b) ≡ (b || a)
    or_turned true true = refl
    or_turned true false = refl
    or_turned false true = refl
    or_turned false false = refl

-- the blocks behind an exit, one after the other
pub exit-none : (count : ℕ) (xs ys : List Bool) (block : FlowBlock) (rows : List (List ℕ)) → length xs ≡ count →
    ((t : ℕ) → t < count → at xs t ≡ false) → ys ≡ marked block.reads xs →
    IsSet ys count (λ t. has block.reads t || list_any (λ c. in_rows rows c t) (take 0 block.next))
exit-none count xs ys block rows l f e = record {
  long = ap length e ∙ marked-long block.reads xs ∙ l;
  holds = λ t h.
      let k : t < length xs = omega arith in
      ap (λ v. at v t) e ∙ marked-at block.reads xs t k ∙ ap (λ b. has block.reads t || b) (f t h);
}

pub exit-turn : (count i c : ℕ) (xs ys : List Bool) (reads next : List ℕ) (rows : List (List ℕ)) → i < length next → get_or next i 0 ≡ c →
    IsSet xs count (λ t. has reads t || list_any (λ n. in_rows rows n t) (take i next)) →
    IsSet ys (length xs) (λ t. at xs t || in_rows rows c t) →
    IsSet ys count (λ t. has reads t || list_any (λ n. in_rows rows n t) (take (i + 1) next))
exit-turn count i c xs ys reads next rows h e old new = record {
  long = new.long ∙ old.long;
  holds = λ t k.
      let l : t < length xs = omega (arith, old.long) in
      new.holds t l ∙ ap (λ b. b || in_rows rows c t) (old.holds t k)
      ∙ or_assoc (has reads t) (list_any (λ n. in_rows rows n t) (take i next)) (in_rows rows c t)
      ∙ ap (λ b. has reads t || b) (ap (λ n. list_any (λ m. in_rows rows m t) (take i next) || in_rows rows n t) (sym e)
      ∙ sym (list_any_more (λ n. in_rows rows n t) next i 0 h));
}
  where
    or_assoc : (a b c : Bool) → ((a || b) || c) ≡ (a || (b || c))
    or_assoc true b c = refl
    or_assoc false b c = refl
