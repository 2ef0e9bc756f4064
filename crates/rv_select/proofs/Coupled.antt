-- A comparison and the branch on its result: two steps at once.
use Rattle.std.proofs.Common.{◌≡◌, ℕ, zero, suc, ◌+◌, ◌-◌, ◌*◌, ◌^◌, ◌≤◌, Bool, true, false, ◌&&◌, ◌||◌, List, length, take, Option, Some, None}
use Rattle.std.proofs.Common.{refl, sym, ap, ◌∙◌, subst, arith}
use Rattle.std.specs.Prelude.{if◌then◌else◌, nat_eq, slice_get}
use Rattle.std.proofs.lemmas.Bool.{eq-eqb}
use Rattle.rv_isa.specs.declared.instr.Instr.{Instr}
use Rattle.terra_words.specs.Runs.{End, Fault, More, Over, Run, Stuck}
use Rattle.tac_counts.specs.Counts.{left_after, left_behind, left_in, takes}
use Rattle.tac_form.specs.declared.tac.Operand.TheVariants.{Temp}
use Rattle.tac_form.specs.declared.tac.Exit.TheVariants.{Branch}
use Rattle.terra_words.specs.Words.{applied, divides}
use Rattle.tac_form.specs.declared.tac.Block.{Block}
use Rattle.tac_form.specs.declared.tac.Tac.{Tac}
use Rattle.tac_form.specs.Flow as tac
use Rattle.tac_form.specs.Flow.{Goes, Program, Stops, Temps, leave, put, step, steps, width_of}
use Rattle.tac_form.specs.Graph.{block_of, exit_reads, graph_of, step_of}
use Rattle.tac_form.specs.Live.{IsLive, has}
use Rattle.tac_form.specs.Fits.{exit_fits}
use Rattle.rv_select.specs.Steps.{IsReached, Left}
use Rattle.rv_machine.specs.Machine.{State}
use Rattle.rv_operators.specs.Runs.{Stands}
use Rattle.rv_select.specs.declared.pairs.Pair.{Pair}
use Rattle.rv_select.specs.declared.settings.Setting.{Setting}
use Rattle.rv_select.specs.Pairs.{but_pair, pair_of, plain_of, reads_of}
use Rattle.rv_select.specs.Places.{Layout, layout_of, value_in}
use Rattle.rv_select.specs.Shapes.{has_exit_shape, start_of}
use Rattle.rv_select.specs.Compared.{StandsAtCompare, compared_shape}
use Rattle.rv_select.specs.Calls.{block_starts, pair_code}
use Rattle.rv_select.specs.Waiting.{Image, IsLinked, IsPlaced, StandsIn, Stepped, held_in, place_in, plain_in}
use Rattle.rv_select.specs.Whole.{AreShort}
use Rattle.rv_select.proofs.Asking.{pair-homes}
use Rattle.rv_select.proofs.Carries.{by-test}
use Rattle.rv_select.proofs.Compares.{carry-leave}
use Rattle.rv_select.proofs.Falls.{FallsIf, falls-exit}
use Rattle.rv_select.proofs.Inner.{LeavesIf, leave-to}
use Rattle.rv_select.proofs.Lives.{step-in-graph}
use Rattle.rv_select.proofs.Pairing.{IsPair, compare_of, pair-place}
use Rattle.rv_select.proofs.Stands.{AtExit, exit-within, instruction-within, within-parts}
use Rattle.rv_select.proofs.Through.{follows-on, left-joined}
use Rattle.rv_select.proofs.Reached.{exit-reaches, starts-small}
use Rattle.rv_select.proofs.Unread.{unread-begins}

-- three-address code behind the comparison
abbrev after_temps : tac.State → Pair → ℕ → Temps
after_temps s pair d =
    put s.here.temps d (applied (width_of pair.form) pair.operator (value_in s.here.temps pair.a) (value_in s.here.temps pair.b))

abbrev after_it : tac.State → Pair → ℕ → tac.State
after_it s pair d = record s { here = record s.here { at = suc s.here.at; temps = after_temps s pair d } }

abbrev stuck-at : tac.State → Pair → Bool
stuck-at s pair = divides pair.operator && nat_eq (tac.operand s pair.b) 0

-- what the two steps are
record Couple (p : Program) (s : tac.State) (block : Block) (pair : Pair) (d : ℕ) : Type 0 where
  here : slice_get block.instructions s.here.at ≡ Some (compare_of pair d)
  behind : slice_get block.instructions (suc s.here.at) ≡ None
  first : step p s ≡ (if stuck-at s pair then tac.stop s Stuck else Goes (after_it s pair d))
  leaves : LeavesIf block.exit (after_it s pair d) (step p (after_it s pair d))
  follows : (end : End) (out : List ℕ) → step p (after_it s pair d) ≡ Stops (Over end out) → ⊥

couple : (p : Program) (code : Tac) (s : tac.State) (block : Block) (pair : Pair) → p.code s.here.function ≡ Some code →
    slice_get code.blocks s.here.block ≡ Some block → slice_get (plain_of (reads_of code) block) s.here.at ≡ None →
    s.here.at ≤ length (plain_in (reads_of code) (slice_get code.blocks s.here.block)) →
    pair_of (reads_of code) block ≡ Some pair →
    (k : IsPair (reads_of code) (slice_get block.instructions (length block.instructions - 1)) block.exit pair) →
    Couple p s block pair k.result
couple p code s block pair function in-f in-p within is k = record {
  here = place.0;
  behind = place.1;
  first = let e = place.0 in rw (function, in-f, e) refl;
  leaves = let e = place.1 in rw (function, in-f, e) (leave-to p block.exit (after_it s pair k.result) (ap has_exit_shape k.exit_is));
  follows = λ end out q.
      let e = place.1 in
      let e4 = k.exit_is in
      let here : leave p block.exit (after_it s pair k.result) ≡ Stops (Over end out) = rw (function, in-f, e) at q in
      goes-on end out (rw e4 at here);
}
  where
    goes-on : (end : End) (out : List ℕ) → leave p (Branch (Temp k.result) pair.first pair.second) (after_it s pair k.result) ≡ Stops (Over end out) → ⊥
    goes-on end out q =
        let t : tac.State = after_it s pair k.result in
        by-test (λ moved. moved ≡ Stops (Over end out) → ⊥) (nat_eq (tac.operand t (Temp k.result)) 0) (tac.follow pair.second t)
        (tac.follow pair.first t) (λ z. follows-on t pair.second end out) (λ z. follows-on t pair.first end out) q

    plain : plain_of (reads_of code) block ≡ take (length block.instructions - 1) block.instructions
    plain = ap (λ o. but_pair o block.instructions) is

    place : (slice_get block.instructions s.here.at ≡ Some (compare_of pair k.result)) ×
        (slice_get block.instructions (suc s.here.at) ≡ None)
    place =
        pair-place block.instructions (compare_of pair k.result) s.here.at k.last_is
        (subst (λ z. s.here.at ≤ length z) plain (subst (λ o. s.here.at ≤ length (plain_in (reads_of code) o)) in-f within))
        (ap (λ z. slice_get z s.here.at) (sym plain) ∙ in-p)

-- what is left behind both
pub pair-left : (p : Program) (code : Tac) (s : tac.State) (block : Block) (pair : Pair) → p.code s.here.function ≡ Some code →
    slice_get code.blocks s.here.block ≡ Some block → slice_get (plain_of (reads_of code) block) s.here.at ≡ None →
    s.here.at ≤ length (plain_in (reads_of code) (slice_get code.blocks s.here.block)) →
    pair_of (reads_of code) block ≡ Some pair →
    IsPair (reads_of code) (slice_get block.instructions (length block.instructions - 1)) block.exit pair →
    (n : ℕ) (r : Run) → steps p n (Goes s) ≡ Stops r →
    left_in p n s ≡ left_after (steps p 2 (Goes s)) (left_in p (n - 2)) (left_behind p s)
pair-left p code s block pair function in-f in-p within is k n r e = go n e
  where
    both : Couple p s block pair k.result
    both = couple p code s block pair function in-f in-p within is k

    t : tac.State
    t = after_it s pair k.result

    same-behind : (moved : tac.Moved) → LeavesIf block.exit t moved → ((end : End) (out : List ℕ) → moved ≡ Stops (Over end out) → ⊥) →
        (f : tac.State → ℕ) → left_after moved f (left_behind p t) ≡ left_after moved f (left_behind p s)
    same-behind (Goes u) l never f = refl
    same-behind (Stops (More out)) l never f = none (takes p t) l.1 ∙ sym (none (takes p s) l.1)
      where
        none : (b : Bool) → s.left ≡ 0 → (if b then s.left - 1 else s.left) ≡ 0
        none true z = omega (arith, z)
        none false z = z
    same-behind (Stops (Over end out)) l never f = absurd (never end out refl)

    last : (n : ℕ) → steps p n (Goes t) ≡ Stops r → left_in p n t ≡ left_after (step p t) (left_in p (suc n - 2)) (left_behind p s)
    last zero q = cc
    last (suc n) q =
        let same : n ≡ suc (suc n) - 2 = omega arith in
        same-behind (step p t) both.leaves both.follows (left_in p n)
        ∙ ap (λ m. left_after (step p t) (left_in p m) (left_behind p s)) same

    go : (n : ℕ) → steps p n (Goes s) ≡ Stops r →
        left_in p n s ≡ left_after (steps p 2 (Goes s)) (left_in p (n - 2)) (left_behind p s)
    go zero q = cc
    go (suc n) q =
        subst
        (λ m. steps p n m ≡ Stops r →
        left_after m (left_in p n) (left_behind p s) ≡ left_after (steps p 1 m) (left_in p (suc n - 2)) (left_behind p s)) (sym both.first)
        (by-test (λ m. steps p n m ≡ Stops r →
        left_after m (left_in p n) (left_behind p s) ≡ left_after (steps p 1 m) (left_in p (suc n - 2)) (left_behind p s)) (stuck-at s pair)
        (tac.stop s Stuck) (Goes t) (λ h q. refl) (λ h q. last n q)) q

-- the code of both
pair-is : (y : Layout) (setting : Setting) (held : Option ℕ) (at : ℕ) (starts : ℕ → ℕ) (pair : Pair) →
    pair_code y setting held at starts pair
    ≡ compared_shape y setting held at starts pair.operator pair.form pair.a pair.b pair.first pair.second
unfolding pair_code
pair-is y setting held at starts pair = refl

-- the machine carries out both
pub pair-steps : (p : Program) (image : Image) (program : List (Option Instr)) (most size : ℕ) → IsLinked p image program most →
    (s : tac.State) (base : ℕ) (m : State) (x : StandsIn p image program most size s base m) (block : Block) (pair : Pair) →
    slice_get x.code.blocks s.here.block ≡ Some block → slice_get (plain_of (reads_of x.code) block) s.here.at ≡ None →
    pair_of (reads_of x.code) block ≡ Some pair →
    (k : IsPair (reads_of x.code) (slice_get block.instructions (length block.instructions - 1)) block.exit pair) →
    (found : AtExit p image program x.code (image s.here.function) s.here.block (held_in x.code s.here.block s.here.at) (Some pair) block.exit
    (place_in p image x.code (image s.here.function) s.here.block s.here.at)) →
    Stepped p image program most size (left_behind p s) found.own s m (steps p 2 (Goes s))
pair-steps p image program most size linked s base m x block pair in-f in-p is k found =
    subst (λ moved. Stepped p image program most size (left_behind p s) found.own s m (steps p 1 moved)) (sym both.first)
    (by-test (λ moved. Stepped p image program most size (left_behind p s) found.own s m (steps p 1 moved)) (stuck-at s pair) _ _ (λ h. tt)
    (λ h.
    left-joined p image program most size found.own linked s (suc s.here.at) (after_temps s pair k.result) base m x block.exit
    (step p (after_it s pair k.result)) both.leaves (λ kind place out q. absurd (both.follows (Fault kind place) out q))
    (subst (λ n. Left y (graph_of x.code) program base n starts s m (step p (after_it s pair k.result))) (sym own-is)
    (carry-leave p x.code (image s.here.function).homes held k.result pair.operator pair.form pair.a pair.b pair.first pair.second starts s
    program
    base m before))))
  where
    pl : IsPlaced p image program most x.code (image s.here.function)
    pl = linked s.here.function x.code x.function

    both : Couple p s block pair k.result
    both = couple p x.code s block pair x.function in-f in-p x.before_end is k

    held : Option ℕ
    held = held_in x.code s.here.block s.here.at

    starts : ℕ → ℕ
    starts = start_of (block_starts (layout_of x.code (image s.here.function).homes) x.code (image s.here.function).at)

    y : Layout
    y = layout_of x.code (image s.here.function).homes

    at : ℕ
    at = place_in p image x.code (image s.here.function) s.here.block s.here.at

    shape-at : ℕ → List Instr
    shape-at q =
        compared_shape (layout_of x.code (image s.here.function).homes) found.setting held q starts pair.operator pair.form pair.a pair.b
        pair.first pair.second

    code-is : pair_code (layout_of x.code (image s.here.function).homes) found.setting held at starts pair ≡ shape-at at
    code-is = pair-is (layout_of x.code (image s.here.function).homes) found.setting held at starts pair

    own-is : found.own ≡ length (shape-at m.pc)
    own-is = found.own_is ∙ (ap length code-is ∙ ap (λ q. length (shape-at q)) (sym x.pc))

    unread : (c : ℕ) → IsLive (graph_of x.code) c 0 k.result → ⊥
    unread c =
        let g = step-in-graph x.code block (compare_of pair k.result) s.here.block s.here.at in-f both.here in
        unread-begins x.code k.result s.here.block (block_of block) s.here.at (step_of (compare_of pair k.result)) k.once g.0
        (ap (λ e. has (exit_reads e) k.result) k.exit_is ∙ ap (λ b. b || false) (eq-eqb k.result k.result refl)) g.1
        (eq-eqb k.result k.result refl) c

    before : StandsAtCompare p x.code (image s.here.function).homes (held_in x.code s.here.block s.here.at) k.result pair.operator pair.form
        pair.a pair.b pair.first pair.second
        (start_of (block_starts (layout_of x.code (image s.here.function).homes) x.code (image s.here.function).at)) s program base m
    before = record {
      block = block;
      function = x.function;
      in_function = in-f;
      in_block = both.here;
      last = both.behind;
      is = k.exit_is;
      compares = k.compares;
      fits = instruction-within x.code s.here.block s.here.at block (compare_of pair k.result)
          (within-parts p image program most x.code (image s.here.function) pl).blocks in-f both.here;
      first_unread = unread pair.first.block;
      second_unread = unread pair.second.block;
      right = pl.right;
      asked = pair-homes x.code (image s.here.function).homes s.here.block s.here.at block pl.right in-f k.result pair in-p is both.here;
      near = subst (λ q. q + 256 ≤ 2 ^ 30) (sym x.pc) found.near;
      blocks = starts-small p image program most x.code s.here.function pl;
      there = subst (λ z. exit_fits x.code z ≡ true) k.exit_is
          (exit-within x.code s.here.block block (within-parts p image program most x.code (image s.here.function) pl).blocks in-f);
      reach = subst (λ q. IsReached x.code (start_of (block_starts (layout_of x.code (image s.here.function).homes) x.code (image s.here.function).at)) q)
          (sym x.pc) (exit-reaches p image program most x.code s.here.function _ pl found.low found.high);
      setting = found.setting;
      near_is = found.near_is;
      short_is = found.short_is;
      counts_is = found.counts_is;
      stands = subst (λ q. Stands program q (shape-at q)) (sym x.pc) (subst (λ c. Stands program at c) code-is found.stands);
      next_there = λ n g. subst (λ q. starts n ≡ q + 4 * length (shape-at q)) (sym x.pc)
          (subst (λ c. starts n ≡ at + 4 * length c) code-is (found.next_there n g));
      holds = x.holds;
      five = x.five;
      counts = x.counts;
    }

pub falls-pair : (p : Program) (image : Image) (program : List (Option Instr)) (most size words : ℕ) → IsLinked p image program most →
    AreShort p image words → (s : tac.State) (base : ℕ) (m : State) (x : StandsIn p image program most size s base m) (block : Block)
    (pair : Pair) →
    slice_get x.code.blocks s.here.block ≡ Some block → slice_get (plain_of (reads_of x.code) block) s.here.at ≡ None →
    pair_of (reads_of x.code) block ≡ Some pair →
    (k : IsPair (reads_of x.code) (slice_get block.instructions (length block.instructions - 1)) block.exit pair) →
    (found : AtExit p image program x.code (image s.here.function) s.here.block (held_in x.code s.here.block s.here.at) (Some pair) block.exit
    (place_in p image x.code (image s.here.function) s.here.block s.here.at)) →
    FallsIf p image words found.own s (steps p 2 (Goes s))
falls-pair p image program most size words linked short s base m x block pair in-f in-p is k found =
    subst (λ moved. FallsIf p image words found.own s (steps p 1 moved)) (sym both.first)
    (by-test (λ moved. FallsIf p image words found.own s (steps p 1 moved)) (stuck-at s pair) _ _ (λ h. tt)
    (λ h.
    falls-exit p image program most words short x.code block (suc s.here.at) (after_temps s pair k.result) s
    (step p (after_it s pair k.result)) (linked s.here.function x.code x.function) x.function in-f (Some pair) (held_in x.code s.here.block s.here.at) found
    both.leaves))
  where
    both : Couple p s block pair k.result
    both = couple p x.code s block pair x.function in-f in-p x.before_end is k
