-- Branches to blocks, of which one may stand behind them.
use Rattle.std.proofs.Common.{◌≡◌, ℕ, ◌+◌, ◌*◌, ◌%◌, ◌^◌, ◌<◌, ◌≤◌, Bool, true, false, not, List, length, Option, Some, None}
use Rattle.std.proofs.Common.{refl, sym, ap, ◌∙◌, subst, arith}
use Rattle.std.specs.Prelude.{if◌then◌else◌, nat_eq, nat_lt, int_lt}
use Rattle.std.proofs.lemmas.Bool.{eqb-true}
use Rattle.rv_isa.specs.declared.instr.Instr.{Instr}
use Rattle.rv_isa.specs.declared.instr.Instr.TheVariants.{Branch}
use Rattle.rv_isa.specs.declared.operation.BranchCondition.{BranchCondition}
use Rattle.rv_isa.specs.declared.operation.BranchCondition.TheVariants.{Eq, Ne, Lt, Ge, Ltu, Geu}
use Rattle.rv_isa.specs.declared.operand.Register.{Register}
use Rattle.rv_isa.specs.declared.operand.BranchOffset.{BranchOffset}
use Rattle.rv_machine.specs.Word.{low, signed, word}
use Rattle.rv_machine.specs.Arithmetic.{is_taken}
use Rattle.rv_machine.specs.Machine.{State, fetch, goes_to, value_at}
use Rattle.rv_operators.specs.Runs.{Stands}
use Rattle.rv_select.specs.declared.settings.Follows.{Follows}
use Rattle.rv_select.specs.declared.settings.Follows.TheVariants.{Neither, First, Second}
use Rattle.rv_select.specs.Settings.{follower, is_next}
use Rattle.rv_select.specs.Shapes.{branch_bytes, branch_offset, branched, branched_bytes, chosen, distance, jump, negated}
use Rattle.rv_select.proofs.Faults.{branch-way}
use Rattle.rv_select.proofs.Jumps.{Jumped, Reaches, branched-count, branched_words, chosen-count, chosen_words, fetched-even, jump_words}
use Rattle.rv_select.proofs.Jumps.{jumps-there, near-target}
use Rattle.rv_select.proofs.Ways.{Near, Way, at_pc, near-both, near-pc, stands-back, stands-front, step-way, way-both}

pub low-near : (n : ℕ) → n < 2 ^ 30 → low n ≡ n
unfolding low
low-near n h = omega arith

pub is-next : (next : Option ℕ) (b : ℕ) → is_next next b ≡ true → next ≡ Some b
is-next None b e = cc
is-next (Some n) b e = ap Some (eqb-true n b e)

-- which block stands behind
pub follower-first : (next : Option ℕ) (first second : ℕ) → follower next first second ≡ First → next ≡ Some first
follower-first next first second e = is-next next first (taken (is_next next first) (is_next next second) e)
  where
    taken : (a b : Bool) → (if a then First else (if b then Second else Neither)) ≡ First → a ≡ true
    taken true b e = refl
    taken false true e = cc
    taken false false e = cc

pub follower-second : (next : Option ℕ) (first second : ℕ) → follower next first second ≡ Second → next ≡ Some second
follower-second next first second e = is-next next second (taken (is_next next first) (is_next next second) e)
  where
    taken : (a b : Bool) → (if a then First else (if b then Second else Neither)) ≡ Second → b ≡ true
    taken true b e = cc
    taken false true e = refl
    taken false false e = cc

twice : (b : Bool) → b ≡ not (not b)
twice true = refl
twice false = refl

-- a condition holds where its negation doesn't
pub negated-taken : (condition : BranchCondition) (x y : ℕ) → is_taken (negated condition) x y ≡ not (is_taken condition x y)
negated-taken Eq x y = refl
negated-taken Ne x y = twice (nat_eq x y)
negated-taken Lt x y = refl
negated-taken Ge x y = twice (int_lt (signed x) (signed y))
negated-taken Ltu x y = refl
negated-taken Geu x y = twice (nat_lt x y)

bytes-are : (short : Bool) → branch_bytes short ≡ 4 + 4 * jump_words short
bytes-are true = refl
bytes-are false = refl

bytes-few : (short : Bool) → branch_bytes short ≤ 12
bytes-few true = omega arith
bytes-few false = omega arith

branched-bytes : (near short : Bool) → branched_bytes near short ≡ 4 * branched_words near short
branched-bytes true short = refl
branched-bytes false short = omega (arith, bytes-are short)

pub branched-few : (near short : Bool) → branched_bytes near short ≤ 12
branched-few true short = omega arith
branched-few false short = bytes-few short

-- The run comes to an address in at least one and at most so many steps, and nothing but scratch registers changes.
pub record Turned (program : List (Option Instr)) (most to : ℕ) (m : State) : Type 0 where
  pub steps : ℕ
  pub after : State
  pub way : Way program steps m after
  pub near : Near m after
  pub pc : after.pc ≡ to
  pub some : 1 ≤ steps
  pub few : steps ≤ most

-- a branch leads so far
abbrev pub IsNearby : (near : Bool) → (from to : ℕ) → Type 0
IsNearby near from to = near ≡ true → (from ≤ to + 4096) × (to ≤ from + 4094)

-- a branch that is taken, or isn't
branch-to : (program : List (Option Instr)) (condition : BranchCondition) (a b : Register) (offset : BranchOffset) (m : State) (taken : Bool) →
    fetch program m.pc ≡ Some (Some (Branch condition a b offset)) → is_taken condition (value_at m a) (value_at m b) ≡ taken →
    Way program 1 m (at_pc m (if taken then low (m.pc + word offset.bytes) else low (m.pc + 4)))
branch-to program condition a b offset m taken there e =
    step-way program (Branch condition a b offset) m (at_pc m (if taken then low (m.pc + word offset.bytes) else low (m.pc + 4))) there
    (ap (λ t. goes_to m (if t then low (m.pc + word offset.bytes) else low (m.pc + 4))) e)

-- a branch in a function that is near
module _ (program : List (Option Instr)) (k : State) (condition : BranchCondition) (a b : Register) (at to : ℕ)
    (here : k.pc ≡ at) (room : at + 64 ≤ 2 ^ 30) (small : to < 2 ^ 30) (even : to % 2 ≡ 0) (reach : (at ≤ to + 4096) × (to ≤ at + 4094))
    (there : Stands program at (branched true true condition a b at to)) where
  mine : fetch program k.pc ≡ Some (Some (Branch condition a b (branch_offset (distance at to))))
  mine = subst (λ q. fetch program q ≡ Some (Some (Branch condition a b (branch_offset (distance at to))))) (sym here) there.0

  near-turns : is_taken condition (value_at k a) (value_at k b) ≡ true → Turned program 1 to k
  near-turns e = record {
    steps = 1;
    after = at_pc k (low (k.pc + word (branch_offset (distance at to)).bytes));
    way = branch-to program condition a b (branch_offset (distance at to)) k true mine e;
    near = near-pc k (low (k.pc + word (branch_offset (distance at to)).bytes));
    pc = ap (λ q. low (q + word (branch_offset (distance at to)).bytes)) here
        ∙ near-target at to (omega (arith, room)) small
        (fetched-even program at (Branch condition a b (branch_offset (distance at to))) there.0) even reach.0 reach.1;
    some = omega arith;
    few = omega arith;
  }

  near-passes : is_taken condition (value_at k a) (value_at k b) ≡ false → Turned program 1 (at + 4) k
  near-passes e = record {
    steps = 1;
    after = at_pc k (low (k.pc + 4));
    way = branch-to program condition a b (branch_offset (distance at to)) k false mine e;
    near = near-pc k (low (k.pc + 4));
    pc = ap (λ q. low (q + 4)) here ∙ low-near (at + 4) (omega (arith, room));
    some = omega arith;
    few = omega arith;
  }

-- in any other it passes a jump, to which it comes where a condition holds
module _ (program : List (Option Instr)) (k : State) (short : Bool) (condition : BranchCondition) (a b : Register) (at to : ℕ)
    (here : k.pc ≡ at) (room : at + 64 ≤ 2 ^ 30) (small : to < 2 ^ 30) (even : to % 2 ≡ 0) (reach : Reaches short (at + 4) to)
    (there : Stands program at (branched false short condition a b at to)) where
  passes : (t : Bool) → is_taken condition (value_at k a) (value_at k b) ≡ t →
      Way program 1 k (at_pc k (if not t then low (k.pc + branch_bytes short) else low (k.pc + 4)))
  passes t e =
      let few : branch_bytes short ≤ 12 = bytes-few short in
      let is : branch_bytes short ≡ 4 + 4 * jump_words short = bytes-are short in
      let from-here : Stands program k.pc (branched false short condition a b at to) =
      subst (λ q. Stands program q (branched false short condition a b at to)) (sym here) there in
      branch-way program (negated condition) a b (branch_bytes short) k (not t) (omega (arith, few)) (omega (arith, is)) from-here.0
      (negated-taken condition (value_at k a) (value_at k b) ∙ ap not e)

  far-turns : is_taken condition (value_at k a) (value_at k b) ≡ true → Turned program (1 + jump_words short) to k
  far-turns e =
      let n : State = at_pc k (low (k.pc + 4)) in
      let next : low (k.pc + 4) ≡ at + 4 = ap (λ q. low (q + 4)) here ∙ low-near (at + 4) (omega (arith, room)) in
      let next-there : Stands program (at + 4) (jump short (at + 4) to) =
      subst (λ q. Stands program q (jump short (at + 4) to)) (low-near (at + 4) (omega (arith, room))) there.1 in
      let j : Jumped program (jump_words short) to n =
      jumps-there program n short (at + 4) to next (omega (arith, room)) small even reach next-there in
      record {
        steps = 1 + jump_words short;
        after = j.after;
        way = way-both program 1 (jump_words short) k n j.after (passes true e) j.way;
        near = near-both k n j.after (near-pc k (low (k.pc + 4))) j.near;
        pc = j.pc;
        some = omega arith;
        few = omega arith;
      }

  far-passes : is_taken condition (value_at k a) (value_at k b) ≡ false → Turned program 1 (at + branch_bytes short) k
  far-passes e = record {
    steps = 1;
    after = at_pc k (low (k.pc + branch_bytes short));
    way = passes false e;
    near = near-pc k (low (k.pc + branch_bytes short));
    pc = ap (λ q. low (q + branch_bytes short)) here ∙ low-near (at + branch_bytes short) (omega (arith, room, bytes-few short));
    some = omega arith;
    few = omega arith;
  }

-- a branch to one block
pub branch-turns : (program : List (Option Instr)) (k : State) (near short : Bool) (condition : BranchCondition) (a b : Register) (at to : ℕ) →
    k.pc ≡ at → at + 64 ≤ 2 ^ 30 → to < 2 ^ 30 → to % 2 ≡ 0 → Reaches short (at + 4) to → IsNearby near at to →
    Stands program at (branched near short condition a b at to) → is_taken condition (value_at k a) (value_at k b) ≡ true →
    Turned program (branched_words near short) to k
branch-turns program k true short condition a b at to here room small even reach close there e =
    near-turns program k condition a b at to here room small even (close refl) there e
branch-turns program k false short condition a b at to here room small even reach close there e =
    far-turns program k short condition a b at to here room small even reach there e

pub branch-passes : (program : List (Option Instr)) (k : State) (near short : Bool) (condition : BranchCondition) (a b : Register) (at to : ℕ) →
    k.pc ≡ at → at + 64 ≤ 2 ^ 30 → to < 2 ^ 30 → to % 2 ≡ 0 → Reaches short (at + 4) to → IsNearby near at to →
    Stands program at (branched near short condition a b at to) → is_taken condition (value_at k a) (value_at k b) ≡ false →
    Turned program 1 (at + branched_bytes near short) k
branch-passes program k true short condition a b at to here room small even reach close there e =
    near-passes program k condition a b at to here room small even (close refl) there e
branch-passes program k false short condition a b at to here room small even reach close there e =
    far-passes program k short condition a b at to here room small even reach there e

branched-some : (near short : Bool) → 1 ≤ branched_words near short
branched-some true short = omega arith
branched-some false short = omega arith

more-steps : (program : List (Option Instr)) (few most to begin-to : ℕ) (k : State) → few ≤ most → begin-to ≡ to → Turned program few begin-to k →
    Turned program most to k
more-steps program few most to begin-to k h e t = record {
  steps = t.steps;
  after = t.after;
  way = t.way;
  near = t.near;
  pc = t.pc ∙ e;
  some = t.some;
  few = omega (arith, t.few, h);
}

-- a branch to two blocks, where that which stands behind it begins there
module _ (program : List (Option Instr)) (k : State) (near short : Bool) (condition : BranchCondition) (a b : Register) (at first second : ℕ)
    (here : k.pc ≡ at) (room : at + 64 ≤ 2 ^ 30) (first-small : first < 2 ^ 30) (first-even : first % 2 ≡ 0)
    (second-small : second < 2 ^ 30) (second-even : second % 2 ≡ 0)
    (first-reach : Reaches short (at + 4) first) (second-reach : Reaches short (at + 4) second)
    (second-later : Reaches short (at + branched_bytes near short) second)
    (first-close : IsNearby near at first) (second-close : IsNearby near at second) where
  -- the second stands behind, or a jump to it
  turns-second : (t : Bool) → is_taken condition (value_at k a) (value_at k b) ≡ t → second ≡ at + branched_bytes near short →
      Stands program at (branched near short condition a b at first) → Turned program (branched_words near short) (if t then first else second) k
  turns-second true e is there =
      branch-turns program k near short condition a b at first here room first-small first-even first-reach first-close there e
  turns-second false e is there =
      more-steps program 1 (branched_words near short) second (at + branched_bytes near short) k (branched-some near short) (sym is)
      (branch-passes program k near short condition a b at first here room first-small first-even first-reach first-close there e)

  turns-first : (t : Bool) → is_taken condition (value_at k a) (value_at k b) ≡ t → first ≡ at + branched_bytes near short →
      Stands program at (branched near short (negated condition) a b at second) →
      Turned program (branched_words near short) (if t then first else second) k
  turns-first true e is there =
      more-steps program 1 (branched_words near short) first (at + branched_bytes near short) k (branched-some near short) (sym is)
      (branch-passes program k near short (negated condition) a b at second here room second-small second-even second-reach second-close there
      (negated-taken condition (value_at k a) (value_at k b) ∙ ap not e))
  turns-first false e is there =
      branch-turns program k near short (negated condition) a b at second here room second-small second-even second-reach second-close there
      (negated-taken condition (value_at k a) (value_at k b) ∙ ap not e)

  turns-neither : (t : Bool) → is_taken condition (value_at k a) (value_at k b) ≡ t →
      Stands program at (chosen near short Neither condition a b at first second) →
      Turned program (branched_words near short + jump_words short) (if t then first else second) k
  turns-neither true e there =
      more-steps program (branched_words near short) (branched_words near short + jump_words short) first first k (omega arith) refl
      (branch-turns program k near short condition a b at first here room first-small first-even first-reach first-close
      (stands-front program at (branched near short condition a b at first) (jump short (at + branched_bytes near short) second) there) e)
  turns-neither false e there =
      let B : List Instr = branched near short condition a b at first in
      let J : List Instr = jump short (at + branched_bytes near short) second in
      let few : branched_bytes near short ≤ 12 = branched-few near short in
      let is : branched_bytes near short ≡ 4 * branched_words near short = branched-bytes near short in
      let one = branch-passes program k near short condition a b at first here room first-small first-even first-reach first-close
      (stands-front program at B J there) e in
      let count : length B ≡ branched_words near short = branched-count near short condition a b at first in
      let behind : low (at + 4 * length B) ≡ at + branched_bytes near short =
      ap low (sum (length B) (branched_words near short) count is) ∙ low-near (at + branched_bytes near short) (omega (arith, room, few)) in
      let j : Jumped program (jump_words short) second one.after =
      jumps-there program one.after short (at + branched_bytes near short) second one.pc (omega (arith, room, few)) second-small second-even second-later
      (subst (λ q. Stands program q J) behind (stands-back program at B J (omega (arith, room)) there)) in
      record {
        steps = one.steps + jump_words short;
        after = j.after;
        way = way-both program one.steps (jump_words short) k one.after j.after one.way j.way;
        near = near-both k one.after j.after one.near j.near;
        pc = j.pc;
        some = omega (arith, one.some);
        few = omega (arith, one.few, branched-some near short);
      }
    where
      sum : (l n : ℕ) → l ≡ n → branched_bytes near short ≡ 4 * n → at + 4 * l ≡ at + branched_bytes near short
      sum l n c e = omega (arith, c, e)

  -- where what stands behind it begins
  behind-is : (o : Follows) (n : ℕ) → n ≡ at + 4 * length (chosen near short o condition a b at first second) →
      length (chosen near short o condition a b at first second) ≡ branched_words near short → n ≡ at + branched_bytes near short
  behind-is o n e c = let is : branched_bytes near short ≡ 4 * branched_words near short = branched-bytes near short in omega (arith, e, c, is)

  pub chosen-turns : (o : Follows) (t : Bool) → is_taken condition (value_at k a) (value_at k b) ≡ t →
      (o ≡ First → first ≡ at + 4 * length (chosen near short o condition a b at first second)) →
      (o ≡ Second → second ≡ at + 4 * length (chosen near short o condition a b at first second)) →
      Stands program at (chosen near short o condition a b at first second) →
      Turned program (chosen_words near short o) (if t then first else second) k
  chosen-turns Neither t e f s there = turns-neither t e there
  chosen-turns First t e f s there =
      turns-first t e (behind-is First first (f refl) (chosen-count near short First condition a b at first second)) there
  chosen-turns Second t e f s there =
      turns-second t e (behind-is Second second (s refl) (chosen-count near short Second condition a b at first second)) there
