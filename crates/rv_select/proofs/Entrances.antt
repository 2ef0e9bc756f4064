-- The laws of entering and leaving functions.
use Rattle.std.proofs.Common.{◌≡◌, ℕ, ◌+◌, ◌-◌, ◌*◌, ◌^◌, ◌<◌, ◌≤◌, List, [], ◌++◌, length, take, drop, Option, refl, sym, ap, ◌∙◌, subst}
use Rattle.std.proofs.Common.{inl, inr, arith}
use Rattle.std.proofs.lemmas.List.{append-nil, length-append}
use Rattle.rv_isa.specs.declared.instr.Instr.{Instr}
use Rattle.tl_base.specs.declared.place.Place.{Place}
use Rattle.terra_words.specs.declared.words.FaultKind.{FaultKind}
use Rattle.rv_machine.specs.Word.{low}
use Rattle.rv_machine.specs.Machine.{State}
use Rattle.rv_operators.specs.Runs.{Stands}
use Rattle.tac_form.specs.Graph.{graph_of}
use Rattle.tac_form.specs.Live.{InUse}
use Rattle.rv_select.specs.Places.{AreBytes, Housed, Layout, frame_bytes, layout_of}
use Rattle.rv_select.proofs.Lives.{housed}
use Rattle.rv_select.specs.Steps.{Ends}
use Rattle.rv_select.specs.Entering.{entered, frame_taken, left, region_taken}
use Rattle.rv_select.specs.Calls.{call_begun, depth_tested, one_more, passed, returned}
use Rattle.rv_select.specs.Frames.{BeforeEntering, Calls, CallsAreBegun, Enters, FunctionsAreEntered, FunctionsAreLeft, Returns, part_value}
use Rattle.rv_select.proofs.Callings.{Begun, begins, begun-words, call-breaks, too-deep}
use Rattle.rv_select.proofs.Enters.{Placed, Taken, region-refused, takes-frame, takes-region}
use Rattle.rv_select.proofs.Returns.{BackIn, goes-back}
use Rattle.rv_select.proofs.Straight.{low-below, pc-both}
use Rattle.rv_select.proofs.Ways.{Way, way-both}

pub more-ends : (program : List (Option Instr)) (kind : FaultKind) (at : Place) (weight whole : ℕ) (m : State) → weight ≤ whole → Ends program kind at weight m → Ends program kind at whole m
more-ends program kind at weight whole m h e =
    record { steps = e.steps; last = e.last; few = omega (arith, h, e.few); runs = e.runs; count = e.count }

-- both frames are taken
both-entered : (program : List (Option Instr)) (y : Layout) (bytes frame top placed size : ℕ) (at : Place) (m : State) → BeforeEntering program y bytes frame top placed size at m →
    (p : Placed program (region_taken frame) (frame_taken y bytes) (placed - frame) m) → Taken program y bytes (top - bytes) [] p.after →
    Enters program y (top - bytes) (placed - frame) (length (entered y bytes frame)) (low (m.pc + 4 * length (entered y bytes frame))) m
both-entered program y bytes frame top placed size at m h p t =
    let way : Way program (p.steps + t.steps) m t.after = way-both program p.steps t.steps m p.after t.after p.way t.way in
    let count : length (entered y bytes frame) ≡ length (region_taken frame) + length (frame_taken y bytes) = length-append (region_taken frame) (frame_taken y bytes) in
    record {
      steps = p.steps + t.steps;
      after = t.after;
      some = omega (arith, t.some);
      few = omega (arith, p.few, t.few, count);
      runs = way.runs;
      at = pc-both m.pc p.after.pc t.after.pc (length (region_taken frame)) (length (frame_taken y bytes)) p.pc t.pc ∙ ap (λ n. low (m.pc + 4 * n)) (sym count);
      pointer = t.pointer;
      placed = t.others 8 (λ z. omega (arith, z)) (λ z. omega (arith, z)) (λ z. omega (arith, z)) ∙ p.eight;
      others = λ r two five six seven eight. t.others r two six seven ∙ p.keeps r five six seven eight;
      region = t.region ∙ p.region;
      long = t.long ∙ ap length p.private;
      bytes = λ b. t.bytes_are (subst AreBytes (sym p.private) b);
      above = λ a n o. t.above a n o ∙ ap (λ z. take n (drop a z)) p.private;
      below = λ a n o. t.below a n o ∙ ap (λ z. take n (drop a z)) p.private;
      link = λ calls. t.link calls ∙ ap low (p.keeps 1 (λ z. omega (arith, z)) (λ z. omega (arith, z)) (λ z. omega (arith, z)) (λ z. omega (arith, z)));
      kept = λ r lo hi used. t.kept r lo hi used
          ∙ ap low (p.keeps r (λ z. omega (arith, z, lo)) (λ z. omega (arith, z, lo)) (λ z. omega (arith, z, lo)) (λ z. omega (arith, z, lo)));
    }

pub functions-entered : FunctionsAreEntered
functions-entered program y bytes frame top placed size at m h =
    let most : size ≤ 67108864 = h.region_is in
    let placed-small : placed < 2 ^ 63 = omega (arith, h.below) in (
      λ less. more-ends program _ at (length (region_taken frame)) (length (entered y bytes frame)) m
          (omega (arith, length-append (region_taken frame) (frame_taken y bytes)))
          (region-refused program frame size placed (frame_taken y bytes) m h.pc h.small h.limit most h.placed_is placed-small h.above h.stands at h.place less),
      λ fits. taken (takes-region program frame size placed (frame_taken y bytes) m h.pc h.small h.limit most h.placed_is placed-small fits h.stands),
    )
  where
    taken : (p : Placed program (region_taken frame) (frame_taken y bytes) (placed - frame) m) →
        Enters program y (top - bytes) (placed - frame) (length (entered y bytes frame)) (low (m.pc + 4 * length (entered y bytes frame))) m
    taken p =
        both-entered program y bytes frame top placed size at m h p
        (takes-frame program y bytes top [] p.after (subst (λ q. q < 2 ^ 64) (sym p.pc) (low-below (m.pc + 4 * length (region_taken frame))))
        (p.keeps 2 (λ z. omega (arith, z)) (λ z. omega (arith, z)) (λ z. omega (arith, z)) (λ z. omega (arith, z)) ∙ h.pointer) h.least h.room
        (subst (λ z. top ≤ length z) (sym p.private) h.within) (subst (λ z. length z ≤ 606076928) (sym p.private) h.private)
        (subst (λ z. length z ≤ 67108864) (sym p.region) h.region) (subst (λ z. Stands program p.after.pc z) (sym (append-nil (frame_taken y bytes))) p.there))

pub calls-begun : CallsAreBegun
calls-begun code homes held block step program w base at ps m right p f fits there =
    let y : Layout = layout_of code homes in
    let Used : ℕ → Type 0 = InUse (graph_of code) block step in
    let h : Housed y Used = housed code homes block step right in
    let all : Stands program m.pc (call_begun y held at ps ++ []) =
    subst (λ z. Stands program m.pc z) (sym (append-nil (call_begun y held at ps))) there in (
      λ none. call-breaks program code.counts at (depth_tested ++ (passed y held 0 ps ++ one_more)) m p.pc fits none (length (call_begun y held at ps))
          (omega (arith, begun-words y held at ps)) there,
      λ left counts. (
        λ deep. too-deep program y held Used w base at ps [] m p f h fits left counts all deep,
        λ shallow reads room. made left (begins program y held Used w base at ps [] m p f h fits left counts all shallow reads room),
      ),
    )
  where
    made : (left : ℕ) → Begun program (layout_of code homes) held base w at ps left [] m →
        Calls program (layout_of code homes) held base w at ps left m
    made left b = record {
      steps = b.steps;
      after = b.after;
      few = b.few;
      runs = b.way.runs;
      pc = b.pc;
      place = b.place;
      waiting = b.waiting;
      others = b.others;
      count = b.count;
      region = b.region;
      long = b.long;
      bytes = b.bytes;
      above = b.above;
      below = b.below;
      words = b.words;
    }

pub functions-left : FunctionsAreLeft
functions-left code homes held block step program w base frame last link v m setting right p five reads near small even reach behind fits link-is link-even link-small there leaves =
    made
    (goes-back program (layout_of code homes) held (InUse (graph_of code) block step) w base frame last link 0 v m setting p
    (housed code homes block step right) five reads near small even reach behind fits link-is link-even link-small there leaves)
  where
    made : BackIn program (layout_of code homes) (frame_bytes (layout_of code homes)) base (w.placed + frame) link (part_value (layout_of code homes) base w v)
        (length (returned (layout_of code homes) setting held m.pc last v)
        + length (left (layout_of code homes) (frame_bytes (layout_of code homes)) frame)) m →
        Returns program (layout_of code homes) base (w.placed + frame) link (part_value (layout_of code homes) base w v)
        (length (returned (layout_of code homes) setting held m.pc last v)
        + length (left (layout_of code homes) (frame_bytes (layout_of code homes)) frame)) m
    made b = record {
      steps = b.steps;
      after = b.after;
      some = b.some;
      few = b.few;
      runs = b.way.runs;
      at = b.pc;
      result = b.ten;
      pointer = b.pointer;
      placed = b.eight;
      heap = b.others 3 (inl refl);
      limit = b.others 4 (inr (inl refl));
      waiting = b.others 28 (inr (inr refl));
      count = b.count;
      registers = b.registers;
      region = b.region;
      private = b.private;
    }
