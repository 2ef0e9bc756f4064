-- Ways to a block that take no count.
use Rattle.std.proofs.Common.{◌≡◌, ℕ, ◌+◌, ◌*◌, ◌%◌, ◌^◌, ◌<◌, ◌≤◌, Bool, true, false, List, [], ◌++◌}
use Rattle.std.proofs.Common.{length, Option, refl, sym, ◌∙◌, subst, arith}
use Rattle.std.specs.Prelude.{if◌then◌else◌}
use Rattle.std.proofs.lemmas.List.{length-append}
use Rattle.rv_isa.specs.declared.instr.Instr.{Instr}
use Rattle.rv_isa.specs.declared.operation.BranchCondition.{BranchCondition}
use Rattle.rv_isa.specs.declared.operand.Register.{Register}
use Rattle.rv_machine.specs.Arithmetic.{is_taken}
use Rattle.rv_machine.specs.Machine.{State, value_at}
use Rattle.rv_operators.specs.Runs.{Stands}
use Rattle.rv_select.specs.Places.{Holds, Housed, Layout, World}
use Rattle.rv_select.specs.declared.settings.Follows.{Follows}
use Rattle.rv_select.specs.declared.settings.Follows.TheVariants.{First, Second}
use Rattle.rv_select.specs.Shapes.{branched_bytes, chosen, jump}
use Rattle.rv_select.specs.Steps.{AreFewer, Comes}
use Rattle.rv_select.proofs.Straight.{Scratch}
use Rattle.rv_select.proofs.Ways.{Near, Way, near-both, scratch-near, stands-back, stands-front, straight-way}
use Rattle.rv_select.proofs.Ways.{way-both}
use Rattle.rv_select.proofs.Divisors.{stays}
use Rattle.rv_select.proofs.Branched.{IsNearby, Turned, branched-few, chosen-turns, low-near}
use Rattle.rv_select.proofs.Jumps.{Jumped, Reaches, chosen-count, chosen_words, jump-count, jump-few, jump_words, jumps-there}

-- a jump to a block, from anywhere near the exit
pub jump-comes : (y : Layout) (Used Next : ℕ → Type 0) (w : World) (base k weight from to : ℕ) (short : Bool) (program : List (Option Instr))
    (m n : State) →
    Holds y Used w base m → Housed y Used → AreFewer Used Next → Way program k m n → Near m n → n.pc ≡ from → from < 2 ^ 30 → to < 2 ^ 30 → to % 2 ≡ 0 →
    Reaches short from to → Stands program from (jump short from to) → k + length (jump short from to) ≤ weight → Comes y program Next w base weight to [] m
jump-comes y Used Next w base k weight from to short program m n p h f way near e small few even reach there enough =
    let j : Jumped program (jump_words short) to n = jumps-there program n short from to e small few even reach there in
    let c : (1 ≤ jump_words short) × (jump_words short ≤ 2) = jump-few short in
    stays y Used Next w base (k + jump_words short) weight to program m j.after p h f (way-both program k (jump_words short) m n j.after way j.way)
    (near-both m n j.after near j.near)
    (subst (λ q. q < 2 ^ 64) (sym j.pc) (omega arith)) (omega (arith, c.0)) (omega (arith, jump-count short from to, enough)) j.pc

-- within a function, from an address and from what stands close behind it
abbrev pub InReach : (short : Bool) → (from to : ℕ) → Type 0
InReach short from to = short ≡ true → (from ≤ to + 2 ^ 19) × (to ≤ from + 2 ^ 19)

abbrev pub InNear : (near : Bool) → (from to : ℕ) → Type 0
InNear near from to = near ≡ true → (from ≤ to + 4000) × (to ≤ from + 4000)

pub reach-behind : (short : Bool) (from to n : ℕ) → n ≤ 256 → InReach short from to → Reaches short (from + n) to
reach-behind short from to n h r e = (omega (arith, h, (r e).0), omega (arith, h, (r e).1))

-- a branch on two registers, and where it comes to
pub chosen-comes : (y : Layout) (Used Next : ℕ → Type 0) (w : World) (base first second to weight : ℕ) (near-by short : Bool) (o : Follows)
    (condition : BranchCondition)
    (a b : Register) (taken_it : Bool) (A : List Instr) (program : List (Option Instr)) (m k : State) →
    Scratch A m k → Holds y Used w base m → Housed y Used → AreFewer Used Next →
    length (A ++ chosen near-by short o condition a b (m.pc + 4 * length A) first second) ≤ weight → length A ≤ 16 → m.pc + 256 ≤ 2 ^ 30 →
    (first < 2 ^ 30) × (first % 2 ≡ 0) → (second < 2 ^ 30) × (second % 2 ≡ 0) → InReach short m.pc first → InReach short m.pc second →
    InNear near-by m.pc first → InNear near-by m.pc second →
    (o ≡ First → first ≡ m.pc + 4 * length (A ++ chosen near-by short o condition a b (m.pc + 4 * length A) first second)) →
    (o ≡ Second → second ≡ m.pc + 4 * length (A ++ chosen near-by short o condition a b (m.pc + 4 * length A) first second)) →
    Stands program m.pc (A ++ chosen near-by short o condition a b (m.pc + 4 * length A) first second) →
    is_taken condition (value_at k a) (value_at k b) ≡ taken_it → (if taken_it then first else second) ≡ to → Comes y program Next w base weight to [] m
chosen-comes y Used Next w base first second to weight near-by short o condition a b taken_it A program m k l p h f enough few near first-near second-near first-reach
    second-reach first-close second-close first-next second-next there e is =
    let at : ℕ = m.pc + 4 * length A in
    let over : ℕ = branched_bytes near-by short in
    let over-few : over ≤ 12 = branched-few near-by short in
    let at-is : k.pc ≡ at = l.behind ∙ low-near at (omega (arith, few, near)) in
    let B : List Instr = chosen near-by short o condition a b at first second in
    let count : length (A ++ B) ≡ length A + length B = length-append A B in
    let rest : Stands program at B =
    subst (λ q. Stands program q B) (low-near at (omega (arith, few, near))) (stands-back program m.pc A B p.pc there) in
    let one : Way program (length A) m k = straight-way program A m k (stands-front program m.pc A B there) l.straight l.goes in
    let t : Turned program (chosen_words near-by short o) (if taken_it then first else second) k =
    chosen-turns program k near-by short condition a b at first second at-is (omega (arith, few, near)) first-near.0 first-near.1 second-near.0 second-near.1
    (later first (4 * length A + 4) (at + 4) (omega arith) (omega (arith, few)) first-reach)
    (later second (4 * length A + 4) (at + 4) (omega arith) (omega (arith, few)) second-reach)
    (later second (4 * length A + over) (at + over) (omega arith) (omega (arith, few, over-few)) second-reach)
    (closer first (4 * length A) at refl (omega (arith, few)) first-close) (closer second (4 * length A) at refl (omega (arith, few)) second-close)
    o taken_it e
    (λ q. omega (arith, first-next q, count)) (λ q. omega (arith, second-next q, count)) rest in
    stays y Used Next w base (length A + t.steps) weight to program m t.after p h f (way-both program (length A) t.steps m k t.after one t.way)
    (near-both m k t.after (scratch-near A m k l) t.near) (subst (λ q. q < 2 ^ 64) (sym t.pc) (small taken_it)) (omega (arith, t.some))
    (omega (arith, t.few, enough, length-append A B, chosen-count near-by short o condition a b at first second)) (t.pc ∙ is)
  where
    later : (to n from : ℕ) → m.pc + n ≡ from → n ≤ 256 → InReach short m.pc to → Reaches short from to
    later to n from e few r = subst (λ q. Reaches short q to) e (reach-behind short m.pc to n few r)

    closer : (to n from : ℕ) → m.pc + n ≡ from → n ≤ 64 → InNear near-by m.pc to → IsNearby near-by from to
    closer to n from e few r q = (omega (arith, e, few, (r q).0), omega (arith, e, few, (r q).1))

    small : (t : Bool) → (if t then first else second) < 2 ^ 64
    small true = omega (arith, first-near.0)
    small false = omega (arith, second-near.0)
