-- Where the parts of a function's code stand.
use Rattle.std.proofs.Common.{◌≡◌, ℕ, zero, suc, ◌+◌, ◌*◌, ◌%◌, ◌^◌, ◌<◌, ◌≤◌, List, [], ◌∷◌, ◌++◌, drop, length, append_assoc, Option}
use Rattle.std.proofs.Common.{Some, None, refl, ap, ◌∙◌, subst, arith}
use Rattle.std.specs.Prelude.{slice_get}
use Rattle.std.proofs.lemmas.List.{length-append}
use Rattle.tl_base.specs.declared.ids.FnId.{FnId}
use Rattle.rv_isa.specs.declared.instr.Instr.{Instr}
use Rattle.tac_form.specs.declared.tac.Instruction.{Instruction}
use Rattle.tac_form.specs.declared.tac.Block.{Block}
use Rattle.tac_form.specs.declared.tac.Tac.{Tac}
use Rattle.rv_machine.specs.Word.{low}
use Rattle.rv_operators.specs.Runs.{Stands}
use Rattle.rv_select.specs.Places.{Layout, frame_bytes}
use Rattle.rv_select.specs.Shapes.{held_after, start_of}
use Rattle.rv_select.specs.Calls.{block_code, block_starts, blocks_code, blocks_length, body_code, function_code, head_code, held_behind}
use Rattle.rv_select.specs.Calls.{instruction_code, instructions_code, last_address, starts_from}
use Rattle.rv_select.specs.Entering.{begun, entered, left, received, words_offset}
use Rattle.rv_select.specs.Waiting.{held_at, instruction_at}
use Rattle.rv_select.proofs.Lengths.{block-length, blocks-length}
use Rattle.rv_select.proofs.Ways.{stands-back, stands-front}

near-low : (n : ℕ) → n ≤ 2 ^ 30 → low n ≡ n
unfolding low
near-low n h = omega arith

no-more : (at : ℕ) → at ≡ at + 4 * 0
no-more at = omega arith

-- code behind other code, below 2 ^ 30
pub stands-next : (program : List (Option Instr)) (at : ℕ) (a b : List Instr) → at + 4 * length a ≤ 2 ^ 30 → Stands program at (a ++ b) →
    Stands program (at + 4 * length a) b
stands-next program at a b h there =
    subst (λ q. Stands program q b) (near-low (at + 4 * length a) h) (stands-back program at a b (omega (arith, h)) there)

-- An instruction's code stands at its place, and what follows behind it.
pub record Found (program : List (Option Instr)) (y : Layout) (sizes : List ℕ) (places : FnId → ℕ) (held : Option ℕ) (i : Instruction)
    (top at behind : ℕ) : Type 0 where
  pub stands : Stands program at (instruction_code y sizes places at held i)
  pub next : behind ≡ at + 4 * length (instruction_code y sizes places at held i)
  pub near : at + 4 * length (instruction_code y sizes places at held i) ≤ top

pub find-instruction : (program : List (Option Instr)) (y : Layout) (sizes : List ℕ) (places : FnId → ℕ) (held : Option ℕ)
    (is : List Instruction) (k : ℕ) (i : Instruction) (top at : ℕ) (rest : List Instr) →
    slice_get is k ≡ Some i → top ≤ 2 ^ 30 → at + 4 * length (instructions_code y sizes places at held is) ≤ top →
    Stands program at (instructions_code y sizes places at held is ++ rest) →
    Found program y sizes places (held_at held is k) i top (instruction_at y sizes places at held is k)
    (instruction_at y sizes places at held is (suc k))
find-instruction program y sizes places held [] k i top at rest e small near there = cc
find-instruction program y sizes places held (j ∷ is) zero i top at rest e small near there =
    let same : j ≡ i = cc in
    let A = instruction_code y sizes places at held j in
    let B = instructions_code y sizes places (at + 4 * length A) (held_after j) is in
    let here : Found program y sizes places held j top at (at + 4 * length A) = record {
      stands = stands-front program at A (B ++ rest) (subst (λ z. Stands program at z) (append_assoc A B rest) there);
      next = refl;
      near = omega (arith, near, length-append A B);
    } in
    subst (λ x. Found program y sizes places held x top at (at + 4 * length A)) same here
find-instruction program y sizes places held (j ∷ is) (suc k) i top at rest e small near there =
    let A = instruction_code y sizes places at held j in
    let B = instructions_code y sizes places (at + 4 * length A) (held_after j) is in
    let count : length (A ++ B) ≡ length A + length B = length-append A B in
    find-instruction program y sizes places (held_after j) is k i top (at + 4 * length A) rest e small (omega (arith, near, count))
    (stands-next program at A (B ++ rest) (omega (arith, near, count, small))
    (subst (λ z. Stands program at z) (append_assoc A B rest) there))

-- what T0 holds behind an instruction, and before an exit
pub held-next : (held : Option ℕ) (is : List Instruction) (k : ℕ) (i : Instruction) → slice_get is k ≡ Some i →
    held_at held is (suc k) ≡ held_after i
held-next held [] k i e = cc
held-next held (j ∷ is) zero i e = let same : j ≡ i = cc in ap held_after same
held-next held (j ∷ is) (suc k) i e = held-next (held_after j) is k i e

pub held-last : (held : Option ℕ) (is : List Instruction) (k : ℕ) → slice_get is k ≡ None → held_at held is k ≡ held_behind held is
held-last held [] zero e = refl
held-last held [] (suc k) e = refl
held-last held (j ∷ is) zero e = cc
held-last held (j ∷ is) (suc k) e = held-last (held_after j) is k e

pub find-exit : (program : List (Option Instr)) (y : Layout) (sizes : List ℕ) (places : FnId → ℕ) (held : Option ℕ)
    (is : List Instruction) (k at : ℕ) (rest : List Instr) →
    slice_get is k ≡ None → at + 4 * length (instructions_code y sizes places at held is) ≤ 2 ^ 30 →
    Stands program at (instructions_code y sizes places at held is ++ rest) →
    (instruction_at y sizes places at held is k ≡ at + 4 * length (instructions_code y sizes places at held is)) ×
    Stands program (at + 4 * length (instructions_code y sizes places at held is)) rest
find-exit program y sizes places held [] zero at rest e near there = (omega arith, subst (λ q. Stands program q rest) (no-more at) there)
find-exit program y sizes places held [] (suc k) at rest e near there = (omega arith, subst (λ q. Stands program q rest) (no-more at) there)
find-exit program y sizes places held (j ∷ is) zero at rest e near there = cc
find-exit program y sizes places held (j ∷ is) (suc k) at rest e near there =
    let A = instruction_code y sizes places at held j in
    let B = instructions_code y sizes places (at + 4 * length A) (held_after j) is in
    let count : length (A ++ B) ≡ length A + length B = length-append A B in
    let all : at + 4 * length A + 4 * length B ≡ at + 4 * length (A ++ B) = omega (arith, count) in
    let found = find-exit program y sizes places (held_after j) is k (at + 4 * length A) rest e (omega (arith, near, count))
    (stands-next program at A (B ++ rest) (omega (arith, near, count)) (subst (λ z. Stands program at z) (append_assoc A B rest) there)) in
    (found.0 ∙ all, subst (λ q. Stands program q rest) all found.1)

-- A block's code stands where its number says.
pub record FoundBlock (program : List (Option Instr)) (y : Layout) (sizes : List ℕ) (places : FnId → ℕ) (starts : ℕ → ℕ)
    (last top at rest : ℕ) (b : Block) : Type 0 where
  pub stands : Stands program at (block_code y sizes places starts last at rest b)
  pub near : at + 4 * length (block_code y sizes places starts last at rest b) ≤ top
  pub aligned : at % 4 ≡ 0

pub find-block : (program : List (Option Instr)) (y : Layout) (sizes : List ℕ) (places : FnId → ℕ) (starts : ℕ → ℕ) (last top : ℕ)
    (bs : List Block) (k : ℕ) (b : Block) (at : ℕ) (rest : List Instr) →
    slice_get bs k ≡ Some b → at % 4 ≡ 0 → at + 4 * length (blocks_code y sizes places starts last at bs) ≤ top → top ≤ 2 ^ 30 →
    Stands program at (blocks_code y sizes places starts last at bs ++ rest) →
    FoundBlock program y sizes places starts last top (start_of (starts_from y sizes at bs) k) (length (drop (suc k) bs)) b
find-block program y sizes places starts last top [] k b at rest e even near small there = cc
find-block program y sizes places starts last top (j ∷ bs) zero b at rest e even near small there =
    let same : j ≡ b = cc in
    let A = block_code y sizes places starts last at (length bs) j in
    let B = blocks_code y sizes places starts last (at + 4 * length A) bs in
    let here : FoundBlock program y sizes places starts last top at (length bs) j = record {
      stands = stands-front program at A (B ++ rest) (subst (λ z. Stands program at z) (append_assoc A B rest) there);
      near = omega (arith, near, length-append A B);
      aligned = even;
    } in
    subst (λ x. FoundBlock program y sizes places starts last top at (length bs) x) same here
find-block program y sizes places starts last top (j ∷ bs) (suc k) b at rest e even near small there =
    let A = block_code y sizes places starts last at (length bs) j in
    let B = blocks_code y sizes places starts last (at + 4 * length A) bs in
    let count : length (A ++ B) ≡ length A + length B = length-append A B in
    let found = find-block program y sizes places starts last top bs k b (at + 4 * length A) rest e (omega (arith, even))
    (omega (arith, near, count)) small
    (stands-next program at A (B ++ rest) (omega (arith, near, count, small))
    (subst (λ z. Stands program at z) (append_assoc A B rest) there)) in
    subst (λ n. FoundBlock program y sizes places starts last top (start_of (starts_from y sizes (at + 4 * n) bs) k) (length (drop (suc k) bs)) b)
    (block-length y sizes places (λ f. 0) starts (λ c. 0) last 0 at 0 (length bs) j) found

-- where blocks begin
pub starts-near : (y : Layout) (sizes : List ℕ) (places : FnId → ℕ) (starts : ℕ → ℕ) (last top : ℕ) (bs : List Block) (k at : ℕ) →
    at % 4 ≡ 0 →
    at + 4 * length (blocks_code y sizes places starts last at bs) ≤ top → (start_of (starts_from y sizes at bs) k ≤ top) ×
    (start_of (starts_from y sizes at bs) k % 4 ≡ 0)
starts-near y sizes places starts last top [] k at even near = (omega arith, refl)
starts-near y sizes places starts last top (j ∷ bs) zero at even near = (omega (arith, near), even)
starts-near y sizes places starts last top (j ∷ bs) (suc k) at even near =
    let A = block_code y sizes places starts last at (length bs) j in
    let B = blocks_code y sizes places starts last (at + 4 * length A) bs in
    let count : length (A ++ B) ≡ length A + length B = length-append A B in
    let found = starts-near y sizes places starts last top bs k (at + 4 * length A) (omega (arith, even)) (omega (arith, near, count)) in
    subst (λ n. (start_of (starts_from y sizes (at + 4 * n) bs) k ≤ top) × (start_of (starts_from y sizes (at + 4 * n) bs) k % 4 ≡ 0))
    (block-length y sizes places (λ f. 0) starts (λ c. 0) last 0 at 0 (length bs) j) found

-- behind a block the next begins, and behind the last the blocks end
pub starts-next : (y : Layout) (sizes : List ℕ) (places : FnId → ℕ) (starts : ℕ → ℕ) (last from : ℕ) (bs : List Block) (k : ℕ) (b : Block)
    (at : ℕ) → slice_get bs k ≡ Some b → suc k < length bs →
    start_of (starts_from y sizes at bs) (suc k)
    ≡ start_of (starts_from y sizes at bs) k + 4 * length (block_code y sizes places starts last from (length (drop (suc k) bs)) b)
starts-next y sizes places starts last from [] k b at e h = cc
starts-next y sizes places starts last from (j ∷ []) zero b at e h = absurd (omega (arith, h))
starts-next y sizes places starts last from (j ∷ i ∷ bs) zero b at e h =
    let same : j ≡ b = cc in
    let n : ℕ = length (i ∷ bs) in
    ap (λ z. at + 4 * z) (block-length y sizes (λ f. 0) places (λ c. 0) starts 0 last 0 from n j
    ∙ ap (λ z. length (block_code y sizes places starts last from n z)) same)
starts-next y sizes places starts last from (j ∷ bs) (suc k) b at e h =
    starts-next y sizes places starts last from bs k b (at + 4 * length (block_code y sizes (λ f. 0) (λ c. 0) 0 0 (length bs) j)) e
    (omega (arith, h))

pub starts-last : (y : Layout) (sizes : List ℕ) (places : FnId → ℕ) (starts : ℕ → ℕ) (last from : ℕ) (bs : List Block) (k : ℕ) (b : Block)
    (at : ℕ) → slice_get bs k ≡ Some b → suc k ≡ length bs →
    at + 4 * blocks_length y sizes bs
    ≡ start_of (starts_from y sizes at bs) k + 4 * length (block_code y sizes places starts last from (length (drop (suc k) bs)) b)
starts-last y sizes places starts last from [] k b at e h = cc
starts-last y sizes places starts last from (j ∷ []) zero b at e h =
    let same : j ≡ b = cc in
    let A : List Instr = block_code y sizes (λ f. 0) (λ c. 0) 0 0 0 j in
    let none : length (A ++ []) ≡ length A + 0 = length-append A [] in
    let here : length A ≡ length (block_code y sizes places starts last from 0 b) =
    block-length y sizes (λ f. 0) places (λ c. 0) starts 0 last 0 from 0 j
    ∙ ap (λ z. length (block_code y sizes places starts last from 0 z)) same in
    omega (arith, none, here)
starts-last y sizes places starts last from (j ∷ i ∷ bs) zero b at e h = absurd (omega (arith, h))
starts-last y sizes places starts last from (j ∷ bs) (suc k) b at e h =
    let A : List Instr = block_code y sizes (λ f. 0) (λ c. 0) 0 0 (length bs) j in
    let B : List Instr = blocks_code y sizes (λ f. 0) (λ c. 0) 0 (0 + 4 * length A) bs in
    let count : length (A ++ B) ≡ length A + length B = length-append A B in
    let same : length B ≡ blocks_length y sizes bs =
    blocks-length y sizes (λ f. 0) (λ f. 0) (λ c. 0) (λ c. 0) 0 0 (0 + 4 * length A) 0 bs in
    let rest = starts-last y sizes places starts last from bs k b (at + 4 * length A) e (omega (arith, h)) in
    let sum : at + 4 * length (A ++ B) ≡ at + 4 * length A + 4 * blocks_length y sizes bs = omega (arith, count, same) in
    sum ∙ rest

-- each begins behind what comes before the blocks
pub starts-least : (y : Layout) (sizes : List ℕ) (bs : List Block) (k at : ℕ) → k < length bs → at ≤ start_of (starts_from y sizes at bs) k
starts-least y sizes [] k at h = absurd (omega (arith, h))
starts-least y sizes (j ∷ bs) zero at h = omega arith
starts-least y sizes (j ∷ bs) (suc k) at h =
    let n : ℕ = length (block_code y sizes (λ f. 0) (λ c. 0) 0 0 (length bs) j) in
    least (start_of (starts_from y sizes (at + 4 * n) bs) k) n (starts-least y sizes bs k (at + 4 * n) (omega (arith, h)))
  where
    least : (z n : ℕ) → at + 4 * n ≤ z → at ≤ z
    least z n e = omega (arith, e)

-- blocks behind a block begin behind its code
pub starts-later : (y : Layout) (sizes : List ℕ) (places : FnId → ℕ) (starts : ℕ → ℕ) (last from : ℕ) (bs : List Block) (k c : ℕ) (b : Block)
    (at : ℕ) → slice_get bs k ≡ Some b → k < c → c < length bs →
    start_of (starts_from y sizes at bs) k + 4 * length (block_code y sizes places starts last from (length (drop (suc k) bs)) b)
    ≤ start_of (starts_from y sizes at bs) c
starts-later y sizes places starts last from [] k c b at e l h = cc
starts-later y sizes places starts last from (j ∷ bs) zero zero b at e l h = absurd (omega (arith, l))
starts-later y sizes places starts last from (j ∷ bs) zero (suc c) b at e l h =
    let same : j ≡ b = cc in
    let count : length (block_code y sizes (λ f. 0) (λ c. 0) 0 0 (length bs) j) ≡ length (block_code y sizes places starts last from (length bs) b) =
    block-length y sizes (λ f. 0) places (λ c. 0) starts 0 last 0 from (length bs) j
    ∙ ap (λ z. length (block_code y sizes places starts last from (length bs) z)) same in
    subst (λ n. at + 4 * n ≤ start_of (starts_from y sizes (at + 4 * length (block_code y sizes (λ f. 0) (λ c. 0) 0 0 (length bs) j)) bs) c) count
    (starts-least y sizes bs c (at + 4 * length (block_code y sizes (λ f. 0) (λ c. 0) 0 0 (length bs) j)) (omega (arith, h)))
starts-later y sizes places starts last from (j ∷ bs) (suc k) zero b at e l h = absurd (omega (arith, l))
starts-later y sizes places starts last from (j ∷ bs) (suc k) (suc c) b at e l h =
    starts-later y sizes places starts last from bs k c b (at + 4 * length (block_code y sizes (λ f. 0) (λ c. 0) 0 0 (length bs) j)) e
    (omega (arith, l)) (omega (arith, h))

pub instruction-aligned : (y : Layout) (sizes : List ℕ) (places : FnId → ℕ) (held : Option ℕ) (is : List Instruction) (k at : ℕ) →
    at % 4 ≡ 0 → instruction_at y sizes places at held is k % 4 ≡ 0
instruction-aligned y sizes places held is zero at h = h
instruction-aligned y sizes places held [] (suc k) at h = h
instruction-aligned y sizes places held (i ∷ is) (suc k) at h =
    instruction-aligned y sizes places (held_after i) is k (at + 4 * length (instruction_code y sizes places at held i)) (omega (arith, h))

-- The parts of a function's code.
pub record FoundFunction (program : List (Option Instr)) (y : Layout) (code : Tac) (places : FnId → ℕ) (at : ℕ) : Type 0 where
  pub begins : Stands program at (begun code)
  pub enters : Stands program (at + 4 * length (begun code)) (entered y (frame_bytes y) code.frame)
  pub receives : Stands program (at + 4 * length (begun code) + 4 * length (entered y (frame_bytes y) code.frame))
      (received y code.areas (words_offset y) code.parameters)
  pub first : at + 4 * length (begun code) + 4 * length (entered y (frame_bytes y) code.frame) + 4 * length
      (received y code.areas (words_offset y) code.parameters) ≡ at + 4 * length (head_code y code)
  pub body : Stands program (at + 4 * length (head_code y code)) (body_code y code places at ++ left y (frame_bytes y) code.frame)
  pub leaves : Stands program (last_address y code at) (left y (frame_bytes y) code.frame)
  pub whole : at + 4 * length (head_code y code) + 4 * length (body_code y code places at) ≡ last_address y code at
  pub near : last_address y code at + 256 ≤ 2 ^ 30

pub find-function : (program : List (Option Instr)) (y : Layout) (code : Tac) (places : FnId → ℕ) (at : ℕ) →
    at + 4 * length (function_code y code places at) + 256 ≤ 2 ^ 30 →
    Stands program at (function_code y code places at) → FoundFunction program y code places at
find-function program y code places at near there =
    let A : List Instr = begun code in
    let B : List Instr = entered y (frame_bytes y) code.frame in
    let C : List Instr = received y code.areas (words_offset y) code.parameters in
    let H : List Instr = head_code y code in
    let D : List Instr = body_code y code places at in
    let L : List Instr = left y (frame_bytes y) code.frame in
    let count : length (H ++ (D ++ L)) ≡ length H + (length D + length L) = length-append H (D ++ L) ∙ ap (λ n. length H + n)
    (length-append D L) in
    let counts : length H ≡ length A + (length B + length C) = length-append A (B ++ C) ∙ ap (λ n. length A + n) (length-append B C) in
    let all : Stands program at (A ++ (B ++ (C ++ (D ++ L)))) =
    subst (λ z. Stands program at z) (append_assoc A (B ++ C) (D ++ L) ∙ ap (λ z. A ++ z) (append_assoc B C (D ++ L))) there in
    let enters : Stands program (at + 4 * length A) (B ++ (C ++ (D ++ L))) = stands-next program at A (B ++ (C ++ (D ++ L)))
    (omega (arith, near, count, counts)) all in
    let receives : Stands program (at + 4 * length A + 4 * length B) (C ++ (D ++ L)) =
    stands-next program (at + 4 * length A) B (C ++ (D ++ L)) (omega (arith, near, count, counts)) enters in
    let body : Stands program (at + 4 * length H) (D ++ L) = stands-next program at H (D ++ L) (omega (arith, near, count)) there in
    let blocks : length D ≡ blocks_length y code.areas code.blocks =
    blocks-length y code.areas places (λ f. 0) (start_of (block_starts y code at)) (λ b. 0) (last_address y code at) 0 (at + 4 * length H)
    0 code.blocks in
    let whole : at + 4 * length H + 4 * length D ≡ last_address y code at = omega (arith, blocks) in
    record {
      begins = stands-front program at A (B ++ (C ++ (D ++ L))) all;
      enters = stands-front program (at + 4 * length A) B (C ++ (D ++ L)) enters;
      receives = stands-front program (at + 4 * length A + 4 * length B) C (D ++ L) receives;
      first = omega (arith, counts);
      body = body;
      leaves = subst (λ q. Stands program q L) whole (stands-next program (at + 4 * length H) D L (omega (arith, near, count)) body);
      whole = whole;
      near = omega (arith, near, count, whole);
    }
