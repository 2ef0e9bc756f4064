-- The entries that the values of a constructor are for.
use Rattle.std.proofs.Common.{◌≡◌, ℕ, zero, suc, ◌+◌, ◌<◌, ◌≤◌, List, [], ◌∷◌, ◌++◌, length, drop, Option, Some}
use Rattle.std.proofs.Common.{None, refl, sym, ap, ◌∙◌, arith}
use Rattle.std.specs.Prelude.{slice_get}
use Rattle.std.proofs.lemmas.List.{append-nil, append_assoc, at_drop_more, at_drop_all}
use Rattle.std.proofs.lemmas.Option.{slice_get_within, get_or_from_slice_get}
use Rattle.tl_base.specs.declared.ids.TermId.{TermId}
use Rattle.terra_types.specs.declared.layout.Laid.{Laid}
use Rattle.check_model.specs.Expressions.{in_order}

-- one entry more
pub order_more : (ls : List Laid) (ts : List TermId) (i : ℕ) (l : Laid) (t : TermId) (made all : List (Option Laid))
    → i < length ts → slice_get ls i ≡ Some l → made ++ in_order (drop i ls) (drop i ts) ≡ all
    → (made ++ Some l ∷ []) ++ in_order (drop (i + 1) ls) (drop (i + 1) ts) ≡ all
order_more ls ts i l t made all within found so_far =
    let rest = drop (i + 1) ls in
    let more = drop (i + 1) ts in
    append_assoc made (Some l ∷ []) (in_order rest more)
    ∙ ap (λ (es : List (Option Laid)). made ++ es)
    (sym (at_drop_more (λ xs. in_order xs (drop i ts)) ls i l (slice_get_within ls i l found)
    ∙ ap (λ (x : Laid). in_order (x ∷ rest) (drop i ts)) (get_or_from_slice_get ls i l l found)
    ∙ at_drop_more (λ xs. in_order (l ∷ rest) xs) ts i t within)) ∙ so_far

past : {X : Type 0} (xs : List X) (i : ℕ) → slice_get xs i ≡ None → length xs ≤ i
past {X} [] i none = omega arith
past {X} (x ∷ xs) zero none = absurd (cc none)
past {X} (x ∷ xs) (suc i) none = let h = past xs i none in omega (arith, h)

-- no entry is left
pub order_over : (ls : List Laid) (ts : List TermId) (i : ℕ) (made all : List (Option Laid))
    → slice_get ls i ≡ None → made ++ in_order (drop i ls) (drop i ts) ≡ all → made ≡ all
order_over ls ts i made all none so_far =
    sym (append-nil made)
    ∙ ap (λ (es : List (Option Laid)). made ++ es) (sym (at_drop_all (λ xs. in_order xs (drop i ts)) ls i (past ls i none))) ∙ so_far

nothing_for : (ls : List Laid) → in_order ls [] ≡ []
nothing_for [] = refl
nothing_for (l ∷ ls) = refl

-- no value is left
pub order_end : (ls : List Laid) (ts : List TermId) (i : ℕ) (made all : List (Option Laid))
    → length ts ≤ i → made ++ in_order (drop i ls) (drop i ts) ≡ all → made ≡ all
order_end ls ts i made all over so_far =
    sym (append-nil made)
    ∙ ap (λ (es : List (Option Laid)). made ++ es)
    (sym (at_drop_all (λ xs. in_order (drop i ls) xs) ts i over ∙ nothing_for (drop i ls))) ∙ so_far
