-- What is kept of the temporaries that are read tells which are read once.
use Rattle.std.proofs.Common.{◌≡◌, ℕ, zero, suc, ◌+◌, Bool, true, false, not, List, [], ◌∷◌, ◌++◌, Some, refl, sym, ap, ◌∙◌, subst, arith}
use Rattle.std.proofs.Common.{◌<◌, length, take}
use Rattle.std.proofs.Math.Path.{fun_ext}
use Rattle.std.proofs.lemmas.Bool.Decides.{nat_tests}
use Rattle.std.proofs.lemmas.List.{take_more}
use Rattle.std.proofs.lemmas.List.Concat.{flat_map-cons}
use Rattle.std.proofs.lemmas.List.Sums.{sum_by-cons}
use Rattle.std.specs.Prelude.{get_or, nat_eq, is_some, if◌then◌else◌, sum_by, unwrap_or}
use Rattle.std.specs.Map.{lookup}
use Rattle.tac_form.specs.declared.tac.Instruction.{Instruction}
use Rattle.tac_form.specs.declared.tac.Block.{Block}
use Rattle.tac_form.specs.declared.tac.Tac.{Tac}
use Rattle.tac_form.specs.Graph.{instruction_reads, exit_reads}
use Rattle.tac_copies.specs.Once.{times, instruction_times, block_times, is_once}
use Rattle.tac_copies.specs.Kept.{Notes, Told, told, told_once, instructions_reads, block_reads, blocks_reads, code_reads}

times-append : (t : ℕ) (us vs : List ℕ) → times t (us ++ vs) ≡ times t us + times t vs
times-append t [] vs = let e : times t vs ≡ 0 + times t vs = omega arith in e
times-append t (u ∷ us) vs = let h = times-append t us vs in omega (arith, h)

times-instructions : (t : ℕ) (is : List Instruction) → sum_by (instruction_times t) is ≡ times t (instructions_reads is)
times-instructions t [] = refl
times-instructions t (i ∷ is) =
    sum_by-cons (instruction_times t) i is ∙ ap (λ n. instruction_times t i + n) (times-instructions t is)
    ∙ sym (ap (times t) (flat_map-cons instruction_reads i is) ∙ times-append t (instruction_reads i) (instructions_reads is))

times-block : (t : ℕ) (b : Block) → block_times t b ≡ times t (block_reads b)
times-block t b =
    let h = times-instructions t b.instructions in
    let k = times-append t (instructions_reads b.instructions) (exit_reads b.exit) in omega (arith, h, k)

times-blocks : (t : ℕ) (bs : List Block) → sum_by (block_times t) bs ≡ times t (blocks_reads bs)
times-blocks t [] = refl
times-blocks t (b ∷ bs) =
    sum_by-cons (block_times t) b bs ∙ ap (λ n. n + sum_by (block_times t) bs) (times-block t b)
    ∙ ap (λ n. times t (block_reads b) + n) (times-blocks t bs)
    ∙ sym (ap (times t) (flat_map-cons block_reads b bs) ∙ times-append t (block_reads b) (blocks_reads bs))

-- ---- one more

told-next : (n : ℕ) → Some (not (is_some (told n))) ≡ told (suc n)
told-next zero = refl
told-next (suc n) = let e : false ≡ nat_eq (suc n) 0 = grind (arith, nat_tests) in ap Some e

more : (n : ℕ) (b : Bool) → (if b then Some (not (is_some (told n))) else told n) ≡ told (n + (if b then 1 else 0))
more n true = let e : n + 1 ≡ suc n = omega arith in told-next n ∙ ap told (sym e)
more n false = let e : n + 0 ≡ n = omega arith in ap told (sym e)

-- where the numbers are one, both tests are of one number
as-here : (u t : ℕ) (b : Bool) (old : List (ℕ × Bool)) (reads : List ℕ) → nat_eq u t ≡ b → Told old reads →
    (if b then Some (not (is_some (lookup (nat_eq u) old))) else lookup (nat_eq t) old)
    ≡ (if b then Some (not (is_some (told (times t reads)))) else told (times t reads))
as-here u t true old reads e h =
    ap (λ o. Some (not (is_some o))) (h.each u ∙ ap (λ v. told (times v reads)) (grind (arith, e)))
as-here u t false old reads e h = h.each t

pub told-more : (u : ℕ) (old new : List (ℕ × Bool)) (reads : List ℕ) → Told old reads → Notes u old new → Told new (reads ++ u ∷ [])
told-more u old new reads h n = record {
  each = λ t.
      n.each t ∙ as-here u t (nat_eq u t) old reads refl h ∙ more (times t reads) (nat_eq u t)
      ∙ ap told (same t);
}
  where
    same : (t : ℕ) → times t reads + (if nat_eq u t then 1 else 0) ≡ times t (reads ++ u ∷ [])
    same t = let k = times-append t reads (u ∷ []) in omega (arith, k)

told-is : (n : ℕ) → unwrap_or (told n) false ≡ nat_eq n 1
told-is zero = refl
told-is (suc n) = let e : nat_eq n 0 ≡ nat_eq (suc n) 1 = grind (arith, nat_tests) in e

-- ---- all

pub told-code : (code : Tac) (entries : List (ℕ × Bool)) (reads : List ℕ) → reads ≡ code_reads code → Told entries reads →
    told_once entries ≡ is_once code
unfolding is_once
told-code code entries reads e h = fun_ext (λ t.
    ap (λ o. unwrap_or o false) (h.each t) ∙ told-is (times t reads)
    ∙ ap (λ n. nat_eq n 1) (ap (times t) e ∙ sym (times-blocks t code.blocks)))

pub told-front : (temps : List ℕ) (k d : ℕ) (old new : List (ℕ × Bool)) → k < length temps → Told old (take k temps) →
    Notes (get_or temps k d) old new → Told new (take (k + 1) temps)
told-front temps k d old new less h n =
    subst (Told new) (sym (take_more temps k d less)) (told-more (get_or temps k d) old new (take k temps) h n)
