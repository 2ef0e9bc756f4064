-- A call of three-address code is carried out.
use Rattle.std.proofs.Common.{◌≡◌, ◌≢◌, ℕ, zero, suc, ◌+◌, ◌-◌, ◌*◌, ◌/◌, ◌^◌, ◌<◌, ◌≤◌, true, ◌&&◌, List, [], ◌∷◌, ◌++◌}
use Rattle.std.proofs.Common.{length, take, drop, Option, Some, None, refl, sym, ap, ◌∙◌, subst, ⊎_elim, inl, arith}
use Rattle.std.specs.Prelude.{nat_le, nat_lt, slice_get}
use Rattle.std.specs.List.{list_all}
use Rattle.std.proofs.lemmas.Bool.{eqb-true, leb-true, ltb-true}
use Rattle.std.proofs.lemmas.List.{length-append}
use Rattle.tl_base.specs.declared.ids.FnId.{FnId}
use Rattle.tl_base.specs.declared.place.Place.{Place}
use Rattle.reg_alloc.specs.declared.assignment.Home.{Home}
use Rattle.rv_isa.specs.declared.instr.Instr.{Instr}
use Rattle.terra_memory.specs.Numbers.{number_of}
use Rattle.terra_memory.specs.Region.{end_address, heap_limit}
use Rattle.terra_words.specs.declared.words.FaultKind.{FaultKind}
use Rattle.terra_words.specs.declared.words.FaultKind.TheVariants.{CallDepth, StackFull}
use Rattle.terra_words.specs.Words.{most_calls}
use Rattle.terra_words.specs.Runs.{Value}
use Rattle.tac_form.specs.declared.tac.Part.{Part}
use Rattle.tac_form.specs.declared.tac.Part.TheVariants as parts
use Rattle.tac_form.specs.declared.tac.Destination.{Destination}
use Rattle.tac_form.specs.declared.tac.Destination.TheVariants.{Temp, Area, Nothing}
use Rattle.tac_form.specs.declared.tac.Instruction.TheVariants.{Call}
use Rattle.tac_form.specs.declared.tac.Block.{Block}
use Rattle.tac_form.specs.declared.tac.Tac.{Tac}
use Rattle.tac_form.specs.Flow as tac
use Rattle.tac_form.specs.Flow.{Activation, Caller, Goes, Program, Stops, accepts_all, enter, operand, step, takes, takes_all, values_of}
use Rattle.tac_form.specs.Fits.{destination_fits, instruction_fits, part_fits, place_fits}
use Rattle.tac_form.specs.Graph.{block_of, destination_write, graph_of, part_reads, parts_reads, step_of}
use Rattle.tac_form.specs.Live.{InUse, has, is_written}
use Rattle.rv_machine.specs.Word.{low}
use Rattle.rv_machine.specs.Machine.{State, run_of}
use Rattle.rv_operators.specs.Runs.{Stands}
use Rattle.rv_select.specs.Pairs.{pair_of, plain_of, reads_of}
use Rattle.rv_select.specs.Asked.{asked_homes, part_asks, passed_asks}
use Rattle.rv_select.specs.Places.{HasHome, Holds, Housed, Layout, World, area_offset, frame_bytes, home_of, layout_of, link_in}
use Rattle.rv_select.specs.Places.{private_word}
use Rattle.rv_select.specs.Shapes.{place_number, start_of}
use Rattle.rv_select.specs.Steps.{Ends, CountsLeft, EndsLeft, OnMore, world_of}
use Rattle.tac_counts.specs.Counts.{left_behind}
use Rattle.rv_select.specs.Calls.{block_starts, blocks_length, call_begun, call_ended, call_jump, head_code, instruction_code, last_address}
use Rattle.rv_select.specs.Calls.{depth_tested, one_more, passed, starts_from}
use Rattle.rv_select.specs.Entering.{begun, entered, received, words_offset}
use Rattle.rv_select.specs.Frames.{ArePassed, BeforeEntering, Enters, IsPartFirst, Received, part_value, seen, without_words}
use Rattle.rv_select.specs.Waiting.{Arrives, HasRoom, Image, IsLinked, IsPlaced, StandsIn, Stepped, Waiting, Waits, counts_in, entries_of, entry_of}
use Rattle.rv_select.specs.Waiting.{held_in, place_in, plain_in, restored}
use Rattle.rv_select.proofs.Amounts.{all-few, args-room, bytes-least, chain, deep-is, entry-facts, far, few-deep, frame-fits, goes, head-in}
use Rattle.rv_select.proofs.Amounts.{least, less-frame, link-facts, link-low, link-word, nearer, not-le, not-lt, shallow-is, shorter}
use Rattle.rv_select.proofs.Amounts.{some-steps, stack-less, stack-more, steps-few, still-below, top-is, word-high, word-near, word-of}
use Rattle.rv_select.proofs.Amounts.{words-under, words-within, zero-first}
use Rattle.rv_select.proofs.Asking.{instruction-homes}
use Rattle.rv_select.proofs.Arrivals.{InFunction, areas-lie, begin-holds, enters-call, has-words, link-after, room-next, same-after}
use Rattle.rv_select.proofs.Callings.{Begun, JumpedTo, begins, begun-words, call-breaks, jumps-to, too-deep}
use Rattle.rv_select.proofs.Counts.{count-left, counts-stay, ends-left}
use Rattle.rv_select.proofs.Carries.{by-test, first-read, has-left, has-right, nothing-written, place-small}
use Rattle.rv_select.proofs.Entrances.{functions-entered}
use Rattle.rv_select.proofs.Finds.{FoundFunction}
use Rattle.rv_select.proofs.Pairing.{plain-get}
use Rattle.rv_select.proofs.Lives.{housed, read-live, step-in-graph, use-follows}
use Rattle.rv_select.proofs.Passes.{parts-small}
use Rattle.rv_select.proofs.Receives.{parameters-received}
use Rattle.rv_select.proofs.Stands.{AtPlace, Within, at-instruction, both-true, instruction-within, the-function, within-parts}
use Rattle.rv_select.proofs.Waits.{SameAbove, link-kept, restored-same, same-home, waits-same}
use Rattle.rv_select.proofs.Ways.{Way, stands-front, way-both}

-- what comes before the jump of a call that an activation makes
abbrev pub begun_in : Image → Tac → Activation → Place → List Part → List Instr
begun_in image code a place arguments =
    call_begun (layout_of code (image a.function).homes) (held_in code a.block a.at) place arguments

-- how many words enter a function, and how many take its parameters
abbrev pub entering_words : Image → FnId → Tac → ℕ
entering_words image f code =
    length (entered (layout_of code (image f).homes) (frame_bytes (layout_of code (image f).homes)) code.frame)

abbrev pub receiving_words : Image → FnId → Tac → ℕ
receiving_words image f code =
    length (received (layout_of code (image f).homes) code.areas (words_offset (layout_of code (image f).homes)) code.parameters)

-- the most steps from where calls enter a function to its first block, and those of a whole call
abbrev pub taking : Image → FnId → Option Tac → ℕ
taking image f None = 0
taking image f (Some code) = entering_words image f code + receiving_words image f code

-- how many steps a call takes at most, with so many counts left: with none it only begins
abbrev pub call_most : Program → Image → Tac → Activation → (left : ℕ) → Place → FnId → List Part → ℕ
call_most p image code a zero place f arguments = length (begun_in image code a place arguments)
call_most p image code a (suc left) place f arguments = length (begun_in image code a place arguments) + 2 + taking image f (p.code f)

-- what a call passes is in use before it, and is at home unless T0 holds it
part-first : (code : Tac) (homes : List (Option Home)) (held : Option ℕ) (Used : ℕ → Type 0) (q : Part) → part_fits code q ≡ true →
    ((t : ℕ) → has (part_reads q) t ≡ true → Used t) → ((t : ℕ) → has (part_asks held q) t ≡ true → HasHome (layout_of code homes) t) →
    IsPartFirst (layout_of code homes) held Used q
part-first code homes held Used (parts.Word a) fits f g = first-read code (layout_of code homes) held Used a fits f g
part-first code homes held Used (parts.Area n) fits f g = ltb-true n (length code.areas) fits

are-passed : (code : Tac) (homes : List (Option Home)) (held : Option ℕ) (Used : ℕ → Type 0) (ps : List Part) →
    list_all (part_fits code) ps ≡ true → ((t : ℕ) → has (parts_reads ps) t ≡ true → Used t) →
    ((t : ℕ) → has (passed_asks held ps) t ≡ true → HasHome (layout_of code homes) t) → ArePassed (layout_of code homes) held Used ps
are-passed code homes held Used [] fits f g = tt
are-passed code homes held Used (p ∷ ps) fits f g =
    let both = both-true (part_fits code p) (list_all (part_fits code) ps) fits in (
      part-first code homes held Used p both.0 (λ t h. f t (has-left (part_reads p) (parts_reads ps) t h))
          (λ t h. g t (has-left (part_asks held p) (passed_asks None ps) t h)),
      are-passed code homes None Used ps both.1 (λ t h. f t (has-right (part_reads p) (parts_reads ps) t h))
          (λ t h. g t (has-right (part_asks held p) (passed_asks None ps) t h)),
    )

-- the first block begins behind the code that enters the function
pub first-start : (y : Layout) (code : Tac) (at : ℕ) → 0 < length code.blocks →
    start_of (block_starts y code at) 0 ≡ at + 4 * length (head_code y code)
first-start y code at h = go code.blocks h
  where
    go : (bs : List Block) → 0 < length bs →
        start_of (starts_from y code.areas (at + 4 * length (head_code y code)) bs) 0 ≡ at + 4 * length (head_code y code)
    go [] h = absurd (omega (arith, h))
    go (b ∷ bs) h = refl

-- a caller that made a call waits, once the machine has the same above the callee's frame
made-waiting : (p : Program) (image : Image) (program : List (Option Instr)) (most size : ℕ) → IsLinked p image program most →
    (s : tac.State) (base : ℕ) (m M : State)
    (x : StandsIn p image program most size s base m) (block : Block) (to : Destination) (place : Place) (f : FnId) (arguments : List Part)
    (link : ℕ) →
    slice_get x.code.blocks s.here.block ≡ Some block → slice_get (plain_of (reads_of x.code) block) s.here.at ≡ Some
    (Call to place f arguments) →
    link ≡ place_in p image x.code (image s.here.function) s.here.block s.here.at + 4 * length
    (begun_in image x.code s.here place arguments) + 8 →
    SameAbove base m M → Waiting p image most (record { waits = record s.here { at = suc s.here.at }; to = to }) (length s.callers) link
    base s.here.base M
made-waiting p image program most size linked s base m M x block to place f arguments link in-f in-b link-is same = record {
  code = x.code;
  function = x.function;
  block = block;
  in_function = in-f;
  before = s.here.at;
  at = refl;
  place = place;
  callee = f;
  arguments = arguments;
  in_block = in-b;
  returns = link-is;
  values = λ t u o k. same-home (layout_of x.code (image s.here.function).homes) base (s.here.temps t) m M
      (home_of (layout_of x.code (image s.here.function).homes) t)
      ((housed x.code (image s.here.function).homes s.here.block s.here.at (linked s.here.function x.code x.function).right).homes t
      (before t u o) k) same (x.holds.values t (before t u o) k) (x.holds.words t (before t u o));
  words = λ t u o. x.holds.words t (before t u o);
  areas = λ n l. same.private (base + area_offset (layout_of x.code (image s.here.function).homes) n) (length (s.here.areas n))
      (omega arith) ∙ x.holds.areas n l;
  short = x.holds.short;
  area_bytes = x.holds.area_bytes;
  placed_is = refl;
  room = x.room;
}
  where
    written : (o : Option ℕ) (t : ℕ) → is_written o t ≡ true → o ≡ Some t
    written None t e = cc
    written (Some d) t e = ap (λ z. Some z) (eqb-true d t e)

    before : (t : ℕ) → InUse (graph_of x.code) s.here.block (suc s.here.at) t → destination_write to ≢ Some t →
        InUse (graph_of x.code) s.here.block s.here.at t
    before t u o =
        let g = step-in-graph x.code block (Call to place f arguments) s.here.block s.here.at in-f
        (plain-get (pair_of (reads_of x.code) block) block.instructions s.here.at (Call to place f arguments) in-b) in
        ⊎_elim (λ w. absurd (o (written (destination_write to) t w))) (λ z. z)
        (use-follows (graph_of x.code) s.here.block s.here.at t (block_of block) (step_of (Call to place f arguments)) g.0 g.1 u)

pub takes-is : (ds : List Destination) (vs : List Value) (a : Activation) →
    takes_all ds vs a ≡ record a { temps = (takes_all ds vs a).temps; areas = (takes_all ds vs a).areas }
takes-is [] vs a = refl
takes-is (d ∷ ds) [] a = refl
takes-is (Temp t ∷ ds) (v ∷ vs) a = takes-is ds vs (takes (Temp t) v a)
takes-is (Area n ∷ ds) (v ∷ vs) a = takes-is ds vs (takes (Area n) v a)
takes-is (Nothing ∷ ds) (v ∷ vs) a = takes-is ds vs a

-- with the parameters' words the frame is as long as it is
pub widen : (z : Layout) (Used : ℕ → Type 0) (w : World) (base : ℕ) (m : State) → Holds (without_words z) Used w base m →
    base + frame_bytes z ≤ length m.private → Holds z Used w base m
widen z Used w base m h within = record {
  frame = record { pointer = h.frame.pointer; within = within; private = h.frame.private; bytes = h.frame.bytes };
  pc = h.pc;
  values = h.values;
  words = h.words;
  areas = h.areas;
  short = h.short;
  area_bytes = h.area_bytes;
  region = h.region;
  bytes = h.bytes;
  lawful = h.lawful;
  heap = h.heap;
  limit = h.limit;
  placed = h.placed;
  above = h.above;
  below = h.below;
  depth = h.depth;
}

low-near : (n : ℕ) → n < 2 ^ 30 → low n ≡ n
unfolding low
low-near n h = omega arith

pc-in : (e a b : ℕ) (x y z : ℕ) → x ≡ e → y ≡ low (x + 4 * a) → z ≡ low (y + 4 * b) → e + 4 * a + 4 * b < 2 ^ 30 → z ≡ e + 4 * a + 4 * b
unfolding low
pc-in e a b x y z p q r h = omega arith

link-pc : (f x : ℕ) → x ≡ f → f + 8 < 2 ^ 30 → low (x + 8) ≡ f + 8
unfolding low
link-pc f x e h = omega arith

-- the state in which a function begins that is called
abbrev pub fresh_call : FnId → Tac → tac.State → Activation
fresh_call f code s = record { function = f; block = 0; at = 0; temps = λ t. 0; areas = λ n. []; base = s.here.base - code.frame }

abbrev pub entered_state : tac.State → Destination → (left : ℕ) → Activation → tac.State
entered_state s to l a = record s
    { left = l; callers = record { waits = record s.here { at = suc s.here.at }; to = to } ∷ s.callers; here = a }

-- the machine stands where the function begins
pub lands : (p : Program) (image : Image) (program : List (Option Instr)) (most size bound : ℕ) → IsLinked p image program most →
    (s : tac.State) (base : ℕ) (m : State)
    (x : StandsIn p image program most size s base m) (block : Block) (to : Destination) (place : Place) (f : FnId) (arguments : List Part)
    →
    slice_get x.code.blocks s.here.block ≡ Some block → slice_get (plain_of (reads_of x.code) block) s.here.at ≡ Some
    (Call to place f arguments) →
    (callee : Tac) → p.code f ≡ Some callee →
    (l k target : ℕ) (a : Activation) (n : State) → a ≡ record (fresh_call f callee s) { temps = a.temps; areas = a.areas } →
    CountsLeft callee.counts l n →
    Way program k m n → 1 ≤ k → k + receiving_words image f callee ≤ bound →
    (frame_bytes (layout_of callee (image f).homes)) ≤ base →
    HasRoom most (suc (length s.callers)) (base - (frame_bytes (layout_of callee (image f).homes))) → callee.frame ≤ s.here.base →
    s.here.base ≤ end_address s.region → base ≤ length m.private →
    InFunction (layout_of callee (image f).homes) base (base - (frame_bytes (layout_of callee (image f).homes)))
    (s.here.base - callee.frame) (suc (length s.callers))
    (place_in p image x.code (image s.here.function) s.here.block s.here.at + 4 * length
    (begun_in image x.code s.here place arguments) + 8) m n →
    target ≡ place_in p image callee (image f) 0 0 →
    Received program (without_words (layout_of callee (image f).homes)) (InUse (graph_of callee) 0 0)
    (seen a s.region (suc (length s.callers))) (base - (frame_bytes (layout_of callee (image f).homes))) (receiving_words image f callee)
    target n →
    Arrives p image program most size bound (suc l) [] (entered_state s to l a) m
unfolding made-waiting
lands p image program most size bound linked s base m x block to place f arguments in-f in-b callee e l k target a n a-is counted way some few fit
    room enough below within inside to-is rc =
    subst
    (λ b. Received program (without_words (layout_of callee (image f).homes)) (InUse (graph_of callee) 0 0)
    (seen b s.region (suc (length s.callers))) (base - (frame_bytes (layout_of callee (image f).homes))) (receiving_words image f callee)
    target n →
    Arrives p image program most size bound (suc l) [] (entered_state s to l b) m)
    (sym a-is) (made a.temps a.areas) rc
  where
    from-zero : (n : ℕ) → 0 ≤ n
    from-zero n = omega arith

    back-up : (a b : ℕ) → b ≤ a → a - b + b ≡ a
    back-up a b h = omega (arith, h)

    at-most : (x y z : ℕ) → x ≡ y → y ≤ z → x ≤ z
    at-most x y z h g = omega (arith, h, g)

    least : (b : ℕ) → (frame_bytes (layout_of callee (image f).homes)) ≤ b →
        b - (frame_bytes (layout_of callee (image f).homes)) + frame_bytes (without_words (layout_of callee (image f).homes)) ≤ b
    least b h = omega (arith, h)

    made : (temps : tac.Temps) (areas : tac.Areas) →
        Received program (without_words (layout_of callee (image f).homes)) (InUse (graph_of callee) 0 0)
        (seen (record (fresh_call f callee s) { temps = temps; areas = areas }) s.region (suc (length s.callers)))
        (base - (frame_bytes (layout_of callee (image f).homes)))
        (receiving_words image f callee) target n →
        Arrives p image program most size bound (suc l) []
        (entered_state s to l (record (fresh_call f callee s) { temps = temps; areas = areas })) m
    made temps areas r =
        let up : base - (frame_bytes (layout_of callee (image f).homes)) + (frame_bytes (layout_of callee (image f).homes)) ≡ base =
        back-up base (frame_bytes (layout_of callee (image f).homes)) fit in
        let over : s.here.base - callee.frame + callee.frame ≡ s.here.base = back-up s.here.base callee.frame enough in
        let same : SameAbove base m
        (restored (layout_of callee (image f).homes) (base - (frame_bytes (layout_of callee (image f).homes))) r.after) =
        same-after (layout_of callee (image f).homes) base (base - (frame_bytes (layout_of callee (image f).homes)))
        (s.here.base - callee.frame) (suc (length s.callers))
        (place_in p image x.code (image s.here.function) s.here.block s.here.at + 4 * length
        (begun_in image x.code s.here place arguments) + 8) m n r.after inside r.keeps (least base fit)
        in
        let word : link_in (layout_of callee (image f).homes) (base - (frame_bytes (layout_of callee (image f).homes))) r.after ≡
        (place_in p image x.code (image s.here.function) s.here.block s.here.at + 4 * length
        (begun_in image x.code s.here place arguments) + 8) =
        link-after (layout_of callee (image f).homes) base (base - (frame_bytes (layout_of callee (image f).homes)))
        (s.here.base - callee.frame) (suc (length s.callers))
        (place_in p image x.code (image s.here.function) s.here.block s.here.at + 4 * length
        (begun_in image x.code s.here place arguments) + 8) m n r.after inside r.keeps in
        let caller : Waiting p image most (record { waits = record s.here { at = suc s.here.at }; to = to }) (length s.callers)
        (place_in p image x.code (image s.here.function) s.here.block s.here.at + 4 * length
        (begun_in image x.code s.here place arguments) + 8) base s.here.base
        (restored (layout_of callee (image f).homes) (base - (frame_bytes (layout_of callee (image f).homes))) r.after) =
        made-waiting p image program most size linked s base m
        (restored (layout_of callee (image f).homes) (base - (frame_bytes (layout_of callee (image f).homes))) r.after) x block to
        place f arguments (place_in p image x.code (image s.here.function) s.here.block s.here.at + 4 * length
        (begun_in image x.code s.here place arguments) + 8) in-f in-b refl same in
        let first : private_word (restored (layout_of callee (image f).homes) (base - (frame_bytes (layout_of callee (image f).homes)))
        r.after) base ≡ link_in (layout_of x.code (image s.here.function).homes) base m =
        ap number_of (same.private base 8 (omega arith))
        ∙ sym (link-kept x.code (image s.here.function).homes s.here.block s.here.at block (Call to place f arguments) base m in-f
        (plain-get (pair_of (reads_of x.code) block) block.instructions s.here.at (Call to place f arguments) in-b) refl) in
        let others : Waits p image most size s.callers
        (private_word (restored (layout_of callee (image f).homes) (base - (frame_bytes (layout_of callee (image f).homes))) r.after)
        base) (base + frame_bytes (layout_of x.code (image s.here.function).homes)) (s.here.base + x.code.frame)
        (restored (layout_of x.code (image s.here.function).homes) base
        (restored (layout_of callee (image f).homes) (base - (frame_bytes (layout_of callee (image f).homes))) r.after)) =
        subst (λ q. Waits p image most size s.callers q (base + frame_bytes (layout_of x.code (image s.here.function).homes))
        (s.here.base + x.code.frame)
        (restored (layout_of x.code (image s.here.function).homes) base
        (restored (layout_of callee (image f).homes) (base - (frame_bytes (layout_of callee (image f).homes))) r.after))) (sym first)
        (waits-same p image program most size s.callers (link_in (layout_of x.code (image s.here.function).homes) base m)
        (base + frame_bytes (layout_of x.code (image s.here.function).homes)) (s.here.base + x.code.frame)
        (restored (layout_of x.code (image s.here.function).homes) base m)
        (restored (layout_of x.code (image s.here.function).homes) base
        (restored (layout_of callee (image f).homes) (base - (frame_bytes (layout_of callee (image f).homes))) r.after)) linked
        (restored-same (layout_of x.code (image s.here.function).homes) base
        (frame_bytes (layout_of x.code (image s.here.function).homes)) m
        (restored (layout_of callee (image f).homes) (base - (frame_bytes (layout_of callee (image f).homes))) r.after) same) x.waits)
        in
        record {
          steps = k + r.steps;
          after = r.after;
          base = base - (frame_bytes (layout_of callee (image f).homes));
          enough = omega (arith, some);
          few = omega (arith, few, r.few);
          runs = λ more.
              let split : k + r.steps + more ≡ k + (r.steps + more) = omega arith in
              ap (run_of program m) split ∙ (way.runs (r.steps + more) ∙ r.runs more);
          stands = record {
            code = callee;
            function = e;
            before_end = from-zero (length (plain_in (reads_of callee) (slice_get callee.blocks 0)));
            pc = r.at ∙ to-is;
            five = tt;
            counts = counts-stay callee.counts l n r.after r.keeps.count counted;
            holds = widen (layout_of callee (image f).homes) (InUse (graph_of callee) 0 0)
                (seen (record (fresh_call f callee s) { temps = temps; areas = areas }) s.region (suc (length s.callers)))
                (base - (frame_bytes (layout_of callee (image f).homes))) r.after r.holds
                (subst (λ q. base - (frame_bytes (layout_of callee (image f).homes)) + (frame_bytes (layout_of callee (image f).homes)) ≤
                q) (sym same.long) (at-most
                (base - (frame_bytes (layout_of callee (image f).homes)) + (frame_bytes (layout_of callee (image f).homes))) base
                (length m.private) up within));
            frame = at-most (s.here.base - callee.frame + callee.frame) s.here.base (end_address s.region) over below;
            region = x.region;
            room = room;
            waits = subst (λ q. Waits p image most size (record { waits = record s.here { at = suc s.here.at }; to = to } ∷ s.callers) q
                (base - (frame_bytes (layout_of callee (image f).homes)) + (frame_bytes (layout_of callee (image f).homes)))
                (s.here.base - callee.frame + callee.frame)
                (restored (layout_of callee (image f).homes) (base - (frame_bytes (layout_of callee (image f).homes))) r.after)) (sym word)
                (subst (λ q. Waits p image most size (record { waits = record s.here { at = suc s.here.at }; to = to } ∷ s.callers)
                (place_in p image x.code (image s.here.function) s.here.block s.here.at + 4 * length
                (begun_in image x.code s.here place arguments) + 8) q
                (s.here.base - callee.frame + callee.frame)
                (restored (layout_of callee (image f).homes) (base - (frame_bytes (layout_of callee (image f).homes))) r.after)) (sym up)
                (subst (λ q. Waits p image most size (record { waits = record s.here { at = suc s.here.at }; to = to } ∷ s.callers)
                (place_in p image x.code (image s.here.function) s.here.block s.here.at + 4 * length
                (begun_in image x.code s.here place arguments) + 8) base q
                (restored (layout_of callee (image f).homes) (base - (frame_bytes (layout_of callee (image f).homes))) r.after)) (sym over)
                (caller, others)));
          };
        }

pub slice-below : {A : Type 0} (xs : List A) (k : ℕ) (x : A) → slice_get xs k ≡ Some x → k < length xs
slice-below [] k x e = cc
slice-below (y ∷ xs) zero x e = omega arith
slice-below (y ∷ xs) (suc k) x e = omega (arith, slice-below xs k x e)

-- What a call's code gives, up to its jump: where it stands, and what it reads.
pub record AtCall (p : Program) (image : Image) (program : List (Option Instr)) (most size : ℕ) (s : tac.State) (base : ℕ) (m : State)
    (x : StandsIn p image program most size s base m) (to : Destination) (place : Place)
    (f : FnId) (arguments : List Part) : Type 0 where
  pub code : Stands program m.pc
      (begun_in image x.code s.here place arguments ++
      (call_jump (place_in p image x.code (image s.here.function) s.here.block s.here.at + 4 * length
      (begun_in image x.code s.here place arguments)) (entries_of p image f) ++ call_ended
      (layout_of x.code (image s.here.function).homes) x.code.areas to))
  pub near : (place_in p image x.code (image s.here.function) s.here.block s.here.at + 4 * length
      (begun_in image x.code s.here place arguments)) + 8 + 256 ≤ 2 ^ 30
  pub reads : ArePassed (layout_of x.code (image s.here.function).homes) (held_in x.code s.here.block s.here.at)
      (InUse (graph_of x.code) s.here.block s.here.at) arguments
  pub small : (k : ℕ) (q : Part) → slice_get arguments k ≡ Some q →
      part_value (layout_of x.code (image s.here.function).homes) base (world_of s) q < 2 ^ 64
  pub place_small : place_number place < 2 ^ 64
  pub homes : Housed (layout_of x.code (image s.here.function).homes) (InUse (graph_of x.code) s.here.block s.here.at)

pub at-call : (p : Program) (image : Image) (program : List (Option Instr)) (most size : ℕ) → IsLinked p image program most →
    (s : tac.State) (base : ℕ) (m : State)
    (x : StandsIn p image program most size s base m) (block : Block) (to : Destination) (place : Place) (f : FnId) (arguments : List Part)
    →
    slice_get x.code.blocks s.here.block ≡ Some block → slice_get (plain_of (reads_of x.code) block) s.here.at ≡ Some
    (Call to place f arguments) →
    AtCall p image program most size s base m x to place f arguments
at-call p image program most size linked s base m x block to place f arguments in-f in-b =
    record {
      code = subst (λ q. Stands program q
          (begun_in image x.code s.here place arguments ++
          (call_jump (place_in p image x.code (image s.here.function) s.here.block s.here.at + 4 * length
          (begun_in image x.code s.here place arguments)) (entries_of p image f) ++ call_ended
          (layout_of x.code (image s.here.function).homes) x.code.areas to))) (sym x.pc) found.stands;
      near = far (length (begun_in image x.code s.here place arguments))
          (length (call_jump (place_in p image x.code (image s.here.function) s.here.block s.here.at + 4 * length
          (begun_in image x.code s.here place arguments)) (entries_of p image f) ++ call_ended
          (layout_of x.code (image s.here.function).homes) x.code.areas to))
          (place_in p image x.code (image s.here.function) s.here.block s.here.at)
          (length (instruction_code (layout_of x.code (image s.here.function).homes) x.code.areas (entries_of p image)
          (place_in p image x.code (image s.here.function) s.here.block s.here.at) (held_in x.code s.here.block s.here.at)
          (Call to place f arguments)))
          (length-append (begun_in image x.code s.here place arguments)
          (call_jump (place_in p image x.code (image s.here.function) s.here.block s.here.at + 4 * length
          (begun_in image x.code s.here place arguments)) (entries_of p image f) ++ call_ended
          (layout_of x.code (image s.here.function).homes) x.code.areas to)) rest-some found.near;
      reads = reads;
      small = parts-small (layout_of x.code (image s.here.function).homes) (held_in x.code s.here.block s.here.at)
          (InUse (graph_of x.code) s.here.block s.here.at) (world_of s) base m arguments x.holds reads;
      place_small = place-small place
          (both-true (destination_fits x.code to) (place_fits place)
          (both-true (destination_fits x.code to && place_fits place) (list_all (part_fits x.code) arguments) fits).0).1;
      homes = housed x.code (image s.here.function).homes s.here.block s.here.at pl.right;
    }
  where
    pl : IsPlaced p image program most x.code (image s.here.function)
    pl = linked s.here.function x.code x.function

    found : AtPlace p image program x.code (image s.here.function) s.here.block s.here.at (Call to place f arguments)
        (place_in p image x.code (image s.here.function) s.here.block s.here.at)
    found = at-instruction p image program most x.code (image s.here.function) s.here.block s.here.at block (Call to place f arguments) pl
        in-f in-b

    fits : instruction_fits x.code (Call to place f arguments) ≡ true
    fits = instruction-within x.code s.here.block s.here.at block (Call to place f arguments)
        (within-parts p image program most x.code (image s.here.function) pl).blocks in-f
        (plain-get (pair_of (reads_of x.code) block) block.instructions s.here.at (Call to place f arguments) in-b)

    rest-some : 2 ≤ length (call_jump
        (place_in p image x.code (image s.here.function) s.here.block s.here.at + 4 * length
        (begun_in image x.code s.here place arguments)) (entries_of p image f) ++ call_ended
        (layout_of x.code (image s.here.function).homes) x.code.areas to)
    rest-some = omega arith

    reads : ArePassed (layout_of x.code (image s.here.function).homes) (held_in x.code s.here.block s.here.at)
        (InUse (graph_of x.code) s.here.block s.here.at) arguments
    reads =
        let g = step-in-graph x.code block (Call to place f arguments) s.here.block s.here.at in-f
        (plain-get (pair_of (reads_of x.code) block) block.instructions s.here.at (Call to place f arguments) in-b) in
        are-passed x.code (image s.here.function).homes (held_in x.code s.here.block s.here.at)
        (InUse (graph_of x.code) s.here.block s.here.at) arguments
        (both-true (destination_fits x.code to && place_fits place) (list_all (part_fits x.code) arguments) fits).1
        (λ t h. inl (read-live (graph_of x.code) s.here.block s.here.at t (block_of block) (step_of (Call to place f arguments)) g.0 g.1 h))
        (instruction-homes x.code (image s.here.function).homes s.here.block s.here.at block pl.right in-f (Call to place f arguments) in-b)

-- a call that comes to a function: its frame has no room, or the machine stands where it begins
callee-step : (p : Program) (image : Image) (program : List (Option Instr)) (most size : ℕ) → IsLinked p image program most →
    (s : tac.State) (base : ℕ) (m : State)
    (x : StandsIn p image program most size s base m) (block : Block) (to : Destination) (place : Place) (f : FnId) (arguments : List Part)
    →
    slice_get x.code.blocks s.here.block ≡ Some block → slice_get (plain_of (reads_of x.code) block) s.here.at ≡ Some
    (Call to place f arguments) →
    (callee : Tac) → p.code f ≡ Some callee →
    AtCall p image program most size s base m x to place f arguments → length arguments ≡ length callee.parameters →
    length s.callers < 511 → (l : ℕ) → CountsLeft x.code.counts (suc l) m →
    (b : Begun program (layout_of x.code (image s.here.function).homes) (held_in x.code s.here.block s.here.at) base (world_of s) place
    arguments l (call_jump (place_in p image x.code (image s.here.function) s.here.block s.here.at + 4 * length
    (begun_in image x.code s.here place arguments)) (entries_of p image f) ++ call_ended
    (layout_of x.code (image s.here.function).homes) x.code.areas to) m) →
    (s.here.base < heap_limit s.region + callee.frame →
    EndsLeft x.code.counts program StackFull place (length (begun_in image x.code s.here place arguments) + 2 + taking image f (Some callee)) l m) ×
    (heap_limit s.region + callee.frame ≤ s.here.base → accepts_all callee callee.parameters (values_of s arguments) ≡ true →
    Arrives p image program most size (length (begun_in image x.code s.here place arguments) + 2 + taking image f (Some callee)) (suc l) []
    (entered_state s to l (takes_all callee.parameters (values_of s arguments) (fresh_call f callee s))) m)
callee-step p image program most size linked s base m x block to place f arguments in-f in-b callee e c count shallow l counted b = (
  λ less. ends-left x.code.counts program StackFull place (b.steps + 2) (entering_words image f callee)
      (length (begun_in image x.code s.here place arguments) + 2 + taking image f (Some callee)) l m jump.after jumped
      (entering.0 (stack-less s.here.base (length s.region.bytes) callee.frame less))
      (steps-few b.steps (length (begun_in image x.code s.here place arguments)) (entering_words image f callee) (receiving_words image f callee) b.few) counted-jump,
  λ fits accepts. arrived (entering.1 (stack-more s.here.base (length s.region.bytes) callee.frame fits)) fits accepts,
)
  where
    plz : IsPlaced p image program most callee (image f)
    plz = linked f callee e

    fn : FoundFunction program (layout_of callee (image f).homes) callee (entries_of p image) (image f).at
    fn = the-function p image program most callee (image f) plz

    wi : Within callee
    wi = within-parts p image program most callee (image f) plz

    entry-is : entries_of p image f ≡ ((image f).at + 4 * length (begun callee))
    entry-is = ap (λ o. entry_of o (image f)) e

    entry-low : ((image f).at + 4 * length (begun callee)) ≤ last_address (layout_of callee (image f).homes) callee (image f).at
    entry-low =
        chain ((image f).at + 4 * length (begun callee))
        (4 * length (entered (layout_of callee (image f).homes) (frame_bytes (layout_of callee (image f).homes)) callee.frame))
        (4 * length (received (layout_of callee (image f).homes) callee.areas (words_offset (layout_of callee (image f).homes))
        callee.parameters)) ((image f).at + 4 * length (head_code (layout_of callee (image f).homes) callee))
        (last_address (layout_of callee (image f).homes) callee (image f).at) fn.first
        (head-in (image f).at (length (head_code (layout_of callee (image f).homes) callee))
        (blocks_length (layout_of callee (image f).homes) callee.areas callee.blocks))

    here : b.after.pc ≡ (place_in p image x.code (image s.here.function) s.here.block s.here.at + 4 * length
        (begun_in image x.code s.here place arguments))
    here = b.pc ∙ (ap (λ q. low (q + 4 * length (begun_in image x.code s.here place arguments))) x.pc ∙
        low-near (place_in p image x.code (image s.here.function) s.here.block s.here.at + 4 * length
        (begun_in image x.code s.here place arguments))
        (link-facts (place_in p image x.code (image s.here.function) s.here.block s.here.at + 4 * length
        (begun_in image x.code s.here place arguments)) c.near).0)

    jump : JumpedTo program ((image f).at + 4 * length (begun callee)) b.after
    jump =
        let ef = entry-facts (image f).at (length (begun callee)) (last_address (layout_of callee (image f).homes) callee (image f).at)
        entry-low fn.near plz.aligned in
        jumps-to program b.after (place_in p image x.code (image s.here.function) s.here.block s.here.at + 4 * length
        (begun_in image x.code s.here place arguments)) ((image f).at + 4 * length (begun callee))
        (call_ended (layout_of x.code (image s.here.function).homes) x.code.areas to) here
        (link-facts (place_in p image x.code (image s.here.function) s.here.block s.here.at + 4 * length
        (begun_in image x.code s.here place arguments)) c.near).0 ef.0 ef.1
        (subst (λ q. Stands program b.after.pc
        (call_jump (place_in p image x.code (image s.here.function) s.here.block s.here.at + 4 * length
        (begun_in image x.code s.here place arguments)) q ++ call_ended
        (layout_of x.code (image s.here.function).homes) x.code.areas to)) entry-is b.there)

    jumped : Way program (b.steps + 2) m jump.after
    jumped = way-both program b.steps 2 m b.after jump.after b.way jump.way

    room : ((frame_bytes (layout_of callee (image f).homes)) ≤ base) ×
        HasRoom most (suc (length s.callers)) (base - (frame_bytes (layout_of callee (image f).homes)))
    room = room-next most (length s.callers) base (frame_bytes (layout_of callee (image f).homes)) x.room shallow plz.frame

    top-within : base ≤ length m.private
    top-within = least base (frame_bytes (layout_of x.code (image s.here.function).homes)) (length m.private) x.holds.frame.within

    same : (r : ℕ) → r ≢ 1 → r ≢ 5 → r ≢ 6 → r ≢ 7 → r ≢ 9 → r ≢ 11 → r ≢ 28 → jump.after.registers r ≡ m.registers r
    same r one five six seven nine eleven more = jump.others r one five ∙ b.others r five six seven nine eleven more

    counted-jump : CountsLeft x.code.counts l jump.after
    counted-jump = count-left x.code.counts l m jump.after counted
        (jump.others 9 (λ q. omega (arith, q)) (λ q. omega (arith, q)) ∙ b.count)

    before : BeforeEntering program (layout_of callee (image f).homes) (frame_bytes (layout_of callee (image f).homes)) callee.frame base
        s.here.base (length s.region.bytes) place jump.after
    before = record {
      stands = subst (λ q. Stands program q
          (entered (layout_of callee (image f).homes) (frame_bytes (layout_of callee (image f).homes)) callee.frame)) (sym jump.pc)
          fn.enters;
      pc = subst (λ q. q < 2 ^ 64) (sym jump.pc)
          (word-near ((image f).at + 4 * length (begun callee)) (last_address (layout_of callee (image f).homes) callee (image f).at)
          entry-low fn.near);
      pointer = same 2 (λ q. omega (arith, q)) (λ q. omega (arith, q)) (λ q. omega (arith, q)) (λ q. omega (arith, q))
          (λ q. omega (arith, q)) (λ q. omega (arith, q)) (λ q. omega (arith, q)) ∙ x.holds.frame.pointer;
      limit = same 4 (λ q. omega (arith, q)) (λ q. omega (arith, q)) (λ q. omega (arith, q)) (λ q. omega (arith, q))
          (λ q. omega (arith, q)) (λ q. omega (arith, q)) (λ q. omega (arith, q)) ∙ x.holds.limit;
      placed_is = same 8 (λ q. omega (arith, q)) (λ q. omega (arith, q)) (λ q. omega (arith, q)) (λ q. omega (arith, q))
          (λ q. omega (arith, q)) (λ q. omega (arith, q)) (λ q. omega (arith, q)) ∙ x.holds.placed;
      place = λ some. jump.others 11 (λ q. omega (arith, q)) (λ q. omega (arith, q)) ∙ b.place;
      small = wi.frame;
      above = x.holds.above;
      below = x.holds.below;
      region = subst (λ q. length q ≤ 67108864) (sym (jump.region ∙ (b.region ∙ x.holds.region))) x.holds.lawful.sized.2;
      region_is = x.holds.lawful.sized.2;
      private = subst (λ q. q ≤ 603979776) (sym (ap length jump.private ∙ b.long)) x.holds.frame.private;
      within = subst (λ q. base ≤ q) (sym (ap length jump.private ∙ b.long)) top-within;
      least = bytes-least (length (asked_homes callee (image f).homes)) (length callee.areas) (length callee.parameters);
      room = room.0;
    }

    entering : (s.here.base < 2 ^ 30 + length s.region.bytes - length s.region.bytes / 4 + callee.frame →
        Ends program StackFull place (entering_words image f callee) jump.after) ×
        (2 ^ 30 + length s.region.bytes - length s.region.bytes / 4 + callee.frame ≤ s.here.base →
        Enters program (layout_of callee (image f).homes) (base - (frame_bytes (layout_of callee (image f).homes)))
        (s.here.base - callee.frame) (entering_words image f callee)
        (low (jump.after.pc + 4 * length
        (entered (layout_of callee (image f).homes) (frame_bytes (layout_of callee (image f).homes)) callee.frame))) jump.after)
    entering = functions-entered program (layout_of callee (image f).homes) (frame_bytes (layout_of callee (image f).homes)) callee.frame
        base s.here.base (length s.region.bytes) place jump.after before

    arrived : Enters program (layout_of callee (image f).homes) (base - (frame_bytes (layout_of callee (image f).homes)))
        (s.here.base - callee.frame) (entering_words image f callee)
        (low (jump.after.pc + 4 * length
        (entered (layout_of callee (image f).homes) (frame_bytes (layout_of callee (image f).homes)) callee.frame))) jump.after →
        heap_limit s.region + callee.frame ≤ s.here.base → accepts_all callee callee.parameters (values_of s arguments) ≡ true →
        Arrives p image program most size (length (begun_in image x.code s.here place arguments) + 2 + taking image f (Some callee)) (suc l) []
        (entered_state s to l (takes_all callee.parameters (values_of s arguments) (fresh_call f callee s))) m
    arrived en fits accepts =
        let inside : InFunction (layout_of callee (image f).homes) base (base - (frame_bytes (layout_of callee (image f).homes)))
        (s.here.base - callee.frame) (suc (length s.callers))
        (place_in p image x.code (image s.here.function) s.here.block s.here.at + 4 * length
        (begun_in image x.code s.here place arguments) + 8) m en.after =
        enters-call program (layout_of x.code (image s.here.function).homes) (held_in x.code s.here.block s.here.at)
        (layout_of callee (image f).homes) base
        (frame_bytes (layout_of callee (image f).homes)) callee.frame s.here.base ((image f).at + 4 * length (begun callee))
        (entering_words image f callee)
        (low (jump.after.pc + 4 * length
        (entered (layout_of callee (image f).homes) (frame_bytes (layout_of callee (image f).homes)) callee.frame)))
        (place_in p image x.code (image s.here.function) s.here.block s.here.at + 4 * length
        (begun_in image x.code s.here place arguments) + 8) (world_of s) place arguments l
        (call_jump (place_in p image x.code (image s.here.function) s.here.block s.here.at + 4 * length
        (begun_in image x.code s.here place arguments)) (entries_of p image f) ++ call_ended
        (layout_of x.code (image s.here.function).homes) x.code.areas to) m b jump en before.least room.0
        (words-within (length (asked_homes callee (image f).homes)) (length callee.areas) (length callee.parameters) (length arguments) count)
        (link-pc (place_in p image x.code (image s.here.function) s.here.block s.here.at + 4 * length
        (begun_in image x.code s.here place arguments)) b.after.pc here
        (link-low (place_in p image x.code (image s.here.function) s.here.block s.here.at + 4 * length
        (begun_in image x.code s.here place arguments)) c.near))
        (link-word (place_in p image x.code (image s.here.function) s.here.block s.here.at + 4 * length
        (begun_in image x.code s.here place arguments)) c.near) in
        let ahead : en.after.pc ≡ ((image f).at + 4 * length (begun callee)) + 4 * length
        (entered (layout_of callee (image f).homes) (frame_bytes (layout_of callee (image f).homes)) callee.frame) =
        en.at ∙ (ap (λ q. low (q + 4 * length
        (entered (layout_of callee (image f).homes) (frame_bytes (layout_of callee (image f).homes)) callee.frame))) jump.pc ∙ low-near
        (((image f).at + 4 * length (begun callee)) + 4 * length
        (entered (layout_of callee (image f).homes) (frame_bytes (layout_of callee (image f).homes)) callee.frame)) enter-near) in
        let holds : Holds (without_words (layout_of callee (image f).homes)) (λ t. ⊥)
        (seen (fresh_call f callee s) s.region (suc (length s.callers))) (base - (frame_bytes (layout_of callee (image f).homes)))
        en.after =
        begin-holds (layout_of callee (image f).homes) base (base - (frame_bytes (layout_of callee (image f).homes)))
        (s.here.base - callee.frame) (suc (length s.callers))
        (place_in p image x.code (image s.here.function) s.here.block s.here.at + 4 * length
        (begun_in image x.code s.here place arguments) + 8) s.region (fresh_call f callee s) m en.after
        inside refl (λ k. refl)
        (subst (λ q. base - (frame_bytes (layout_of callee (image f).homes)) + (frame_bytes (layout_of callee (image f).homes)) ≤ q)
        (sym inside.long) within-back) x.holds.frame.private x.holds.frame.bytes
        (subst (λ q. q < 2 ^ 64) (sym ahead)
        (word-of (((image f).at + 4 * length (begun callee)) + 4 * length
        (entered (layout_of callee (image f).homes) (frame_bytes (layout_of callee (image f).homes)) callee.frame)) enter-near))
        x.holds.region x.holds.bytes x.holds.lawful x.holds.heap x.holds.limit
        (less-frame (heap_limit s.region) s.here.base callee.frame fits)
        (still-below s.here.base callee.frame (end_address s.region) x.holds.below) in
        let words = has-words (layout_of x.code (image s.here.function).homes) base s
        (base - (frame_bytes (layout_of callee (image f).homes))) (words_offset (layout_of callee (image f).homes)) base 0
        callee.parameters arguments en.after (sym count)
        (top-is base (length (asked_homes callee (image f).homes)) (length callee.areas) (length callee.parameters) room.0)
        (λ k q g. passed-word en k q g (position k q g)) c.small
        (areas-lie (layout_of x.code (image s.here.function).homes) (InUse (graph_of x.code) s.here.block s.here.at) (world_of s) base
        (base - (frame_bytes (layout_of callee (image f).homes))) (words_offset (layout_of callee (image f).homes)) m en.after x.holds
        inside.above inside.long
        (words-under base (length (asked_homes callee (image f).homes)) (length callee.areas) (length callee.parameters) room.0))
        (held_in x.code s.here.block s.here.at) (InUse (graph_of x.code) s.here.block s.here.at) c.reads in
        let rc = parameters-received callee (image f).homes program (values_of s arguments) (fresh_call f callee s) s.region
        (suc (length s.callers)) (base - (frame_bytes (layout_of callee (image f).homes))) en.after plz.fits plz.right accepts
        (subst (λ q. Stands program q
        (received (layout_of callee (image f).homes) callee.areas (words_offset (layout_of callee (image f).homes)) callee.parameters))
        (sym ahead) fn.receives) holds words
        (subst (λ q. base - (frame_bytes (layout_of callee (image f).homes)) + (frame_bytes (layout_of callee (image f).homes)) ≤ q)
        (sym inside.long) within-back) in
        lands p image program most size (length (begun_in image x.code s.here place arguments) + 2 + taking image f (Some callee)) linked s base m x block to place f arguments in-f in-b callee e l
        (b.steps + 2 + en.steps)
        (low (en.after.pc + 4 * length
        (received (layout_of callee (image f).homes) callee.areas (words_offset (layout_of callee (image f).homes)) callee.parameters)))
        (takes_all callee.parameters (values_of s arguments) (fresh_call f callee s)) en.after
        (takes-is callee.parameters (values_of s arguments) (fresh_call f callee s)) counted-in
        (way-both program (b.steps + 2) en.steps m jump.after en.after jumped (record { runs = en.runs })) (some-steps b.steps en.steps)
        (all-few b.steps (length (begun_in image x.code s.here place arguments)) en.steps (entering_words image f callee) (receiving_words image f callee) b.few
        en.few)
        room.0 room.1 (frame-fits (heap_limit s.region) s.here.base callee.frame fits) x.holds.below top-within inside
        (ap (λ q. low (q + 4 * length
        (received (layout_of callee (image f).homes) callee.areas (words_offset (layout_of callee (image f).homes))
        callee.parameters))) ahead ∙
        (low-near (((image f).at + 4 * length (begun callee)) + 4 * length
        (entered (layout_of callee (image f).homes) (frame_bytes (layout_of callee (image f).homes)) callee.frame) + 4 * length
        (received (layout_of callee (image f).homes) callee.areas (words_offset (layout_of callee (image f).homes)) callee.parameters))
        (subst (λ q. q < 2 ^ 30) (sym fn.first) head-near)
        ∙ (fn.first ∙ sym (first-start (layout_of callee (image f).homes) callee (image f).at wi.entered)))) rc
      where
        counted-in : CountsLeft callee.counts l en.after
        counted-in =
            subst (λ c. CountsLeft c l en.after) (sym ((linked s.here.function x.code x.function).alike f callee e))
            (counts-stay x.code.counts l jump.after en.after
            (en.others 9 (λ q. omega (arith, q)) (λ q. omega (arith, q)) (λ q. omega (arith, q)) (λ q. omega (arith, q)) (λ q. omega (arith, q)))
            counted-jump)

        head-near : (image f).at + 4 * length (head_code (layout_of callee (image f).homes) callee) < 2 ^ 30
        head-near = nearer ((image f).at + 4 * length (head_code (layout_of callee (image f).homes) callee))
            (last_address (layout_of callee (image f).homes) callee (image f).at)
            (head-in (image f).at (length (head_code (layout_of callee (image f).homes) callee))
            (blocks_length (layout_of callee (image f).homes) callee.areas callee.blocks)) fn.near

        enter-near : ((image f).at + 4 * length (begun callee)) + 4 * length
            (entered (layout_of callee (image f).homes) (frame_bytes (layout_of callee (image f).homes)) callee.frame) < 2 ^ 30
        enter-near = shorter (((image f).at + 4 * length (begun callee)) + 4 * length
            (entered (layout_of callee (image f).homes) (frame_bytes (layout_of callee (image f).homes)) callee.frame))
            (4 * length (received (layout_of callee (image f).homes) callee.areas (words_offset (layout_of callee (image f).homes))
            callee.parameters)) ((image f).at + 4 * length (head_code (layout_of callee (image f).homes) callee)) fn.first head-near

        within-back : base - (frame_bytes (layout_of callee (image f).homes)) + (frame_bytes (layout_of callee (image f).homes)) ≤ length
            m.private
        within-back = goes base (frame_bytes (layout_of callee (image f).homes)) (length m.private) room.0 top-within

        position : (k : ℕ) (q : Part) → slice_get arguments k ≡ Some q → k < length arguments
        position k q g = slice-below arguments k q g

        passed-word : (en : Enters program (layout_of callee (image f).homes) (base - (frame_bytes (layout_of callee (image f).homes)))
            (s.here.base - callee.frame) (entering_words image f callee)
            (low (jump.after.pc + 4 * length
            (entered (layout_of callee (image f).homes) (frame_bytes (layout_of callee (image f).homes)) callee.frame))) jump.after) →
            (k : ℕ) (q : Part) → slice_get arguments k ≡ Some q → k < length arguments →
            private_word en.after (base - 8 * (0 + k + 1)) ≡ part_value (layout_of x.code (image s.here.function).homes) base (world_of s) q
        passed-word en k q g l =
            ap number_of (en.above (base - 8 * (0 + k + 1)) 8
            (word-high base (length (asked_homes callee (image f).homes)) (length callee.areas) (length callee.parameters) (length arguments) k room.0 count
            l))
            ∙ (ap (λ z. number_of (take 8 (drop (base - 8 * (0 + k + 1)) z))) jump.private ∙
            (ap (λ n. private_word b.after (base - 8 * n)) (zero-first k) ∙ b.words k q g))

-- a call
pub call-step : (p : Program) (image : Image) (program : List (Option Instr)) (most size : ℕ) → IsLinked p image program most →
    (s : tac.State) (base : ℕ) (m : State)
    (x : StandsIn p image program most size s base m) (block : Block) (to : Destination) (place : Place) (f : FnId) (arguments : List Part)
    →
    slice_get x.code.blocks s.here.block ≡ Some block → slice_get (plain_of (reads_of x.code) block) s.here.at ≡ Some
    (Call to place f arguments) →
    Stepped p image program most size (left_behind p s) (call_most p image x.code s.here s.left place f arguments) s m (step p s)
call-step p image program most size linked s base m x block to place f arguments in-f in-b =
    stepped (call_most p image x.code s.here s.left place f arguments) refl
  where
    here : slice_get block.instructions s.here.at ≡ Some (Call to place f arguments)
    here = plain-get (pair_of (reads_of x.code) block) block.instructions s.here.at (Call to place f arguments) in-b

    c : AtCall p image program most size s base m x to place f arguments
    c = at-call p image program most size linked s base m x block to place f arguments in-f in-b

    count : (callee : Tac) → p.code f ≡ Some callee → length arguments ≡ length callee.parameters
    count callee e = (linked s.here.function x.code x.function).passes s.here.block s.here.at block to place f arguments callee in-f here e

    room : (callee : Tac) → p.code f ≡ Some callee → length s.callers < 511 → 8 * length arguments ≤ base
    room callee e less =
        args-room base (length (asked_homes callee (image f).homes)) (length callee.areas) (length callee.parameters) (length arguments)
        (room-next most (length s.callers) base (frame_bytes (layout_of callee (image f).homes)) x.room less (linked f callee e).frame).0
        (count callee e)

    counted : (l : ℕ) → s.left ≡ l → CountsLeft x.code.counts l m
    counted l q = subst (λ n. CountsLeft x.code.counts n m) q x.counts

    taken : (l : ℕ) → s.left ≡ suc l → left_behind p s ≡ l
    taken l q = let e1 = x.function in rw (e1, in-f, here) (omega (arith, q))

    ends-so : (l : ℕ) → s.left ≡ suc l → (kind : FaultKind) (few most : ℕ) → few ≤ most → EndsLeft x.code.counts program kind place few l m →
        EndsLeft (counts_in (p.code s.here.function)) program kind place most (left_behind p s) m
    ends-so l q kind few most h d =
        subst (λ o. EndsLeft (counts_in o) program kind place most (left_behind p s) m) (sym x.function)
        (subst (λ n. EndsLeft x.code.counts program kind place most n m) (sym (taken l q))
        (record { steps = d.steps; last = d.last; few = under d.steps few most d.few h; runs = d.runs; count = d.count }))
      where
        under : (a b c : ℕ) → a ≤ b → b ≤ c → a ≤ c
        under a b c g i = omega (arith, g, i)

    with-code : (l : ℕ) → s.left ≡ suc l → (o : Option Tac) → p.code f ≡ o →
        Stepped p image program most size (left_behind p s) (length (begun_in image x.code s.here place arguments) + 2 + taking image f o) s m
        (enter place f o (values_of s arguments) s.here.base (record { waits = record s.here { at = suc s.here.at }; to = to } ∷ s.callers)
        (record s { left = l }))
    with-code l q None e = tt
    with-code l q (Some callee) e =
        by-test (Stepped p image program most size (left_behind p s) (length (begun_in image x.code s.here place arguments) + 2 + taking image f (Some callee)) s m) (nat_le most_calls (suc (length s.callers))) _ _
        (λ deep. (
          refl,
          ends-so l q CallDepth (length (begun_in image x.code s.here place arguments))
              (length (begun_in image x.code s.here place arguments) + 2 + taking image f (Some callee)) (few-deep (length (begun_in image x.code s.here place arguments)) (taking image f (Some callee)))
              (too-deep program (layout_of x.code (image s.here.function).homes) (held_in x.code s.here.block s.here.at)
              (InUse (graph_of x.code) s.here.block s.here.at) (world_of s) base place arguments
              (call_jump (place_in p image x.code (image s.here.function) s.here.block s.here.at + 4 * length
              (begun_in image x.code s.here place arguments)) (entries_of p image f) ++ call_ended
              (layout_of x.code (image s.here.function).homes) x.code.areas to) m x.holds x.five c.homes c.place_small l (counted (suc l) q) c.code
              (deep-is (length s.callers) (leb-true most_calls (suc (length s.callers)) deep))),
        ))
        (λ shallow.
        let less : length s.callers < 511 = shallow-is (length s.callers) (not-le most_calls (suc (length s.callers)) shallow) in
        let both = callee-step p image program most size linked s base m x block to place f arguments in-f in-b callee e c (count callee e)
        less l (counted (suc l) q)
        (begins program (layout_of x.code (image s.here.function).homes) (held_in x.code s.here.block s.here.at)
        (InUse (graph_of x.code) s.here.block s.here.at) (world_of s) base
        place arguments (call_jump
        (place_in p image x.code (image s.here.function) s.here.block s.here.at + 4 * length
        (begun_in image x.code s.here place arguments)) (entries_of p image f) ++ call_ended
        (layout_of x.code (image s.here.function).homes) x.code.areas to) m x.holds x.five c.homes c.place_small l (counted (suc l) q) c.code less c.reads
        (room callee e less)) in
        by-test (Stepped p image program most size (left_behind p s) (length (begun_in image x.code s.here place arguments) + 2 + taking image f (Some callee)) s m)
        (nat_lt s.here.base (heap_limit s.region + callee.frame)) _ _
        (λ full. (
          refl,
          ends-so l q StackFull (length (begun_in image x.code s.here place arguments) + 2 + taking image f (Some callee))
              (length (begun_in image x.code s.here place arguments) + 2 + taking image f (Some callee)) (omega arith)
              (both.0 (ltb-true s.here.base (heap_limit s.region + callee.frame) full)),
        ))
        (λ fits.
        by-test (Stepped p image program most size (left_behind p s) (length (begun_in image x.code s.here place arguments) + 2 + taking image f (Some callee)) s m)
        (accepts_all callee callee.parameters (values_of s arguments)) _ _
        (λ accepted. (
          [],
          nothing-written s.out,
          subst
              (λ z. Arrives p image program most size (length (begun_in image x.code s.here place arguments) + 2 + taking image f (Some callee)) z []
              (entered_state s to l (takes_all callee.parameters (values_of s arguments) (fresh_call f callee s))) m)
              (sym q) (both.1 (not-lt s.here.base (heap_limit s.region + callee.frame) fits) accepted),
        )) (λ no. tt)))

    counts : (l : ℕ) → s.left ≡ l →
        Stepped p image program most size (left_behind p s) (call_most p image x.code s.here l place f arguments) s m
        (tac.counted l s (λ z. enter place f (p.code f) (values_of s arguments) z.here.base
        (record { waits = (tac.ahead z).here; to = to } ∷ z.callers) z))
    counts zero q = (
      refl,
      q,
      subst (λ o. OnMore (counts_in o) program (length (begun_in image x.code s.here place arguments)) m) (sym x.function)
          (call-breaks program x.code.counts place
          (depth_tested ++ (passed (layout_of x.code (image s.here.function).homes) (held_in x.code s.here.block s.here.at) 0 arguments ++ one_more))
          m x.holds.pc c.place_small (counted 0 q) (length (begun_in image x.code s.here place arguments))
          (omega (arith, begun-words (layout_of x.code (image s.here.function).homes) (held_in x.code s.here.block s.here.at) place arguments))
          (stands-front program m.pc (begun_in image x.code s.here place arguments) _ c.code)),
    )
    counts (suc l) q = with-code l q (p.code f) refl

    one-less : left_behind p s ≡ s.left - 1
    one-less = let e1 = x.function in let e2 = here in rw (e1, in-f, e2) refl

    stepped : (n : ℕ) → call_most p image x.code s.here s.left place f arguments ≡ n → Stepped p image program most size (left_behind p s) n s m (step p s)
    stepped n same =
        let e1 = x.function in
        let e2 = here in
        rw (e1, in-f, e2)
        (subst (λ w. Stepped p image program most size w n s m
        (tac.counted s.left s (λ z. enter place f (p.code f) (values_of s arguments) z.here.base
        (record { waits = (tac.ahead z).here; to = to } ∷ z.callers) z))) one-less
        (subst (λ z. Stepped p image program most size (left_behind p s) z s m
        (tac.counted s.left s (λ z. enter place f (p.code f) (values_of s arguments) z.here.base
        (record { waits = (tac.ahead z).here; to = to } ∷ z.callers) z))) same (counts s.left refl)))
