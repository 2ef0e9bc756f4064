-- Rows of what is live where blocks begin, as temporaries are gone through one after the other.
use Rattle.std.proofs.Common.{◌≡◌, ℕ, ◌+◌, ◌<◌, ◌≤◌, ◌↔◌, Bool, true, false, ◌&&◌, ◌||◌, eqb, List, [], length, replicate}
use Rattle.std.proofs.Common.{refl, sym, ap, ◌∙◌, subst, ⊎_elim, arith}
use Rattle.std.proofs.lemmas.List.{get_or-replicate, length-replicate, get_or_past}
use Rattle.std.proofs.lemmas.Option.{slice_get_past}
use Rattle.std.proofs.lemmas.Bool.{cases_eq, cases_lt, eq-eqb, false≢true}
use Rattle.tac_form.specs.declared.graph.FlowBlock.{FlowBlock}
use Rattle.tac_form.specs.Live.{has, IsLive}
use Rattle.tac_live.specs.Flows.{all_put}
use Rattle.tac_live.specs.Reach.{AreLive}
use Rattle.tac_live.specs.Rows.{in_rows, AreLiveRows}
use Rattle.tac_live.proofs.Ways.{nothing-there}
use Rattle.tac_live.proofs.Grouping.{Adds, all-adds, eqb-other}

none-past : (rows : List (List ℕ)) (b t : ℕ) → length rows ≤ b → in_rows rows b t ≡ false
none-past rows b t h = ap (λ v. has v t) (get_or_past rows b [] h)

-- no temporary
pub rows-none : (graph : List FlowBlock) (rows : List (List ℕ)) → rows ≡ replicate (length graph) [] → AreLiveRows graph 0 rows
rows-none graph rows e = record {
  long = ap length e ∙ length-replicate (length graph) [];
  exact = λ b t l. absurd (omega arith);
  no_others = λ b t l.
      ⊎_elim
      (λ h. ap (λ v. in_rows v b t) e ∙ ap (λ v. has v t) (get_or-replicate (length graph) b [] [] h))
      (λ h. none-past rows b t (omega (arith, ap length e ∙ length-replicate {A = List ℕ} (length graph) [])))
      (cases_lt b (length graph));
}

-- one temporary more
pub rows-turn : (graph : List FlowBlock) (t : ℕ) (found : List ℕ) (old : List (List ℕ)) → AreLive graph t found → AreLiveRows graph t old →
    AreLiveRows graph (t + 1) (all_put found t old)
rows-turn graph t found old live was = record {
  long = long;
  exact = λ b u l. ⊎_elim (λ h. inside b u l h) (λ h. outside b u h) (cases_lt b (length old));
  no_others = λ b u l.
      ⊎_elim
      (λ h.
      adds.holds b u h ∙ (ap (λ v. in_rows old b u || (v && has found b)) (eqb-other t u (λ e. absurd (omega (arith, e))))
      ∙ (or-false (in_rows old b u) ∙ was.no_others b u (omega arith))))
      (λ h. none-past (all_put found t old) b u (omega (arith, adds.long)))
      (cases_lt b (length old));
}
  where
    adds : Adds t (λ b. has found b) old (all_put found t old)
    adds = all-adds found t old

    long : length (all_put found t old) ≡ length graph
    long = adds.long ∙ was.long

    or-false : (a : Bool) → (a || false) ≡ a
    or-false true = refl
    or-false false = refl

    along : {P : Type 0} (x y : Bool) → x ≡ y → ((y ≡ true) ↔ P) → ((x ≡ true) ↔ P)
    along x y e f = (λ h. f.0 (sym e ∙ h), λ p. e ∙ f.1 p)

    outside : (b u : ℕ) → length old ≤ b → (in_rows (all_put found t old) b u ≡ true) ↔ IsLive graph b 0 u
    outside b u h = (
      λ e. absurd (false≢true (sym (none-past (all_put found t old) b u (omega (arith, adds.long))) ∙ e)),
      λ w. absurd (nothing-there graph w.0 b 0 u (slice_get_past graph b (omega (arith, was.long))) w.1),
    )

    inside : (b u : ℕ) → u < t + 1 → b < length old → (in_rows (all_put found t old) b u ≡ true) ↔ IsLive graph b 0 u
    inside b u l h =
        ⊎_elim
        (λ same. along (in_rows (all_put found t old) b u) (has found b)
        (adds.holds b u h ∙ (ap (λ v. v || (eqb t u && has found b)) (was.no_others b u (omega (arith, same)))
        ∙ ap (λ v. v && has found b) (eq-eqb t u (sym same))))
        (here b u same))
        (λ other. along (in_rows (all_put found t old) b u) (in_rows old b u)
        (adds.holds b u h ∙ (ap (λ v. in_rows old b u || (v && has found b)) (eqb-other t u (λ e. other (sym e))) ∙ or-false (in_rows old b u)))
        (was.exact b u (omega (arith, other))))
        (cases_eq u t)
      where
        here : (b u : ℕ) → u ≡ t → (has found b ≡ true) ↔ IsLive graph b 0 u
        here b u same = (λ e. subst (λ v. IsLive graph b 0 v) (sym same) ((live b).0 e), λ w. (live b).1 (subst (λ v. IsLive graph b 0 v) same w))
