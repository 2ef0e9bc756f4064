-- States that share what an activation's words rest on, and runs that write to the output.
use Rattle.std.proofs.Common.{◌≡◌, ◌≢◌, ℕ, suc, ◌+◌, ◌^◌, ◌<◌, ◌≤◌, Bool, true, false, ◌&&◌, ◌||◌, List, [], length, take, drop, Option}
use Rattle.std.proofs.Common.{Some, refl, sym, ap, ◌∙◌, subst, arith}
use Rattle.std.specs.Prelude.{if◌then◌else◌, nat_eq, nat_le}
use Rattle.std.proofs.lemmas.Bool.{le-leb, ne_eqb}
use Rattle.rv_isa.specs.declared.instr.Instr.{Instr}
use Rattle.rv_isa.specs.declared.instr.Instr.TheVariants.{Ecall}
use Rattle.reg_alloc.specs.declared.assignment.Home.{Home}
use Rattle.reg_alloc.specs.declared.assignment.Home.TheVariants as homes
use Rattle.terra_memory.specs.Numbers.{number_of}
use Rattle.rv_machine.specs.declared.memory.Place.{Place}
use Rattle.rv_machine.specs.declared.stops.MachineKind.TheVariants.{BadCall}
use Rattle.rv_machine.specs.declared.stops.Stop.TheVariants.{Returned}
use Rattle.rv_machine.specs.Memory.{bytes_at, place_of}
use Rattle.rv_machine.specs.Machine.{Faults, GoesOn, State, Writes, act, after_output, after_step, at_with, fetch, obeys, returned, run_of}
use Rattle.rv_machine.specs.Machine.{stands, step, throw_call, write_call, writes_from}
use Rattle.rv_operators.proofs.Runs.{not-zero}
use Rattle.rv_select.specs.Places.{AreBytes, Holds, Housed, IsHome, Keeps, Layout, World, area_offset, frame_bytes, home_of, is_lasting}
use Rattle.rv_select.specs.Places.{slot_offset, word_at}
use Rattle.rv_select.specs.Steps.{AreFewer, Comes}
use Rattle.rv_select.proofs.Straight.{written-elsewhere}
use Rattle.rv_select.proofs.Ways.{Near, Way}
use Rattle.rv_select.proofs.Moves.{fewer-holds}

-- registers that hold something between two instructions of three-address code
abbrev pub is_held : ℕ → Bool
is_held r =
    nat_eq r 2 || (nat_eq r 3 || (nat_eq r 4 || (nat_eq r 8 || (nat_eq r 9 || (nat_eq r 28 || (nat_eq r 1 || (nat_le 18 r && nat_le r 27)))))))

first-or-last : (a b c d e g k f : Bool) → (a || f) ≡ true → (a || (b || (c || (d || (e || (g || (k || f))))))) ≡ true
first-or-last true b c d e g k f h = refl
first-or-last false true c d e g k f h = refl
first-or-last false false true d e g k f h = refl
first-or-last false false false true e g k f h = refl
first-or-last false false false false true g k f h = refl
first-or-last false false false false false true k f h = refl
first-or-last false false false false false false true f h = refl
first-or-last false false false false false false false f h = h

or-last : (a f : Bool) → f ≡ true → (a || f) ≡ true
or-last true f h = refl
or-last false f h = h

lasting-held : (r : ℕ) → is_lasting r ≡ true → is_held r ≡ true
lasting-held r h = first-or-last (nat_eq r 2) (nat_eq r 3) (nat_eq r 4) (nat_eq r 8) (nat_eq r 9) (nat_eq r 28) (nat_eq r 1) (nat_le 18 r && nat_le r 27) h

home-held : (r : ℕ) → 18 ≤ r → r ≤ 27 → is_held r ≡ true
home-held r l u =
    first-or-last (nat_eq r 2) (nat_eq r 3) (nat_eq r 4) (nat_eq r 8) (nat_eq r 9) (nat_eq r 28) (nat_eq r 1) (nat_le 18 r && nat_le r 27)
    (or-last (nat_eq r 2) (nat_le 18 r && nat_le r 27) (ap (λ b. b && nat_le r 27) (le-leb 18 r l) ∙ le-leb r 27 u))

-- The registers that hold something and both memories are the same.
pub record Calm (m n : State) : Type 0 where
  pub keeps : (r : ℕ) → is_held r ≡ true → n.registers r ≡ m.registers r
  pub region : n.region ≡ m.region
  pub private : n.private ≡ m.private

pub held-not : (r n : ℕ) → is_held r ≡ true → is_held n ≡ false → r ≢ n
held-not r n h f e = let g : is_held r ≡ false = ap is_held e ∙ f in cc

pub calm-both : (m n r : State) → Calm m n → Calm n r → Calm m r
calm-both m n r h k = record {
  keeps = λ x l. k.keeps x l ∙ h.keeps x l;
  region = k.region ∙ h.region;
  private = k.private ∙ h.private;
}

pub near-calm : (m n : State) → Near m n → Calm m n
near-calm m n h = record {
  keeps = λ r l. h.keeps r (held-not r 5 l refl) (held-not r 6 l refl) (held-not r 7 l refl);
  region = h.region;
  private = h.private;
}

-- a write to a register that holds nothing
pub calm-with : (m : State) (pc d v : ℕ) → is_held d ≡ false → Calm m (at_with m pc d v)
calm-with m pc d v f = record { keeps = λ r l. written-elsewhere m.registers d v r (held-not r d l f); region = refl; private = refl }

-- code that changes one such register
pub calm-loads : (d : ℕ) (m n : State) → is_held d ≡ false → ((r : ℕ) → r ≢ d → r ≢ 7 → n.registers r ≡ m.registers r) → n.region ≡ m.region → n.private ≡ m.private → Calm m n
calm-loads d m n f k region private = record { keeps = λ r l. k r (held-not r d l f) (held-not r 7 l refl); region = region; private = private }

calm-home : (y : Layout) (base : ℕ) (m n : State) (h : Home) → IsHome y h → Calm m n → word_at base n h ≡ word_at base m h
calm-home y base m n (homes.Register x) i c = c.keeps x (home-held x i.0 i.1)
calm-home y base m n (homes.Slot s) i c = ap (λ bytes. number_of (take 8 (drop (base + slot_offset s) bytes))) c.private

pub calm-holds : (y : Layout) (Used : ℕ → Type 0) (w : World) (base : ℕ) (m n : State) → Holds y Used w base m → Housed y Used → Calm m n → n.pc < 2 ^ 64 → Holds y Used w base n
calm-holds y Used w base m n p h c small = record {
  frame = record {
    pointer = c.keeps 2 refl ∙ p.frame.pointer;
    within = subst (λ z. base + frame_bytes y ≤ length z) (sym c.private) p.frame.within;
    private = subst (λ z. length z ≤ 606076928) (sym c.private) p.frame.private;
    bytes = subst AreBytes (sym c.private) p.frame.bytes;
  };
  pc = small;
  values = λ t u k. calm-home y base m n (home_of y t) (h.homes t u k) c ∙ p.values t u k;
  words = p.words;
  areas = λ k l. ap (λ z. take (length (w.areas k)) (drop (base + area_offset y k) z)) c.private ∙ p.areas k l;
  short = p.short;
  area_bytes = p.area_bytes;
  bytes = p.bytes;
  region = c.region ∙ p.region;
  lawful = p.lawful;
  heap = c.keeps 3 refl ∙ p.heap;
  limit = c.keeps 4 refl ∙ p.limit;
  placed = c.keeps 8 refl ∙ p.placed;
  above = p.above;
  below = p.below;
  depth = c.keeps 28 refl ∙ p.depth;
}

pub calm-keeps : (y : Layout) (base : ℕ) (m n : State) → Calm m n → Keeps y base m n
calm-keeps y base m n c = record {
  registers = λ r l u. c.keeps r (lasting-held r l);
  link = c.keeps 1 refl;
  count = c.keeps 9 refl;
  long = ap length c.private;
  outside = λ at k o. ap (λ z. take k (drop at z)) c.private;
}

-- In so many steps the run comes from one state to another, and writes bytes to the output.
pub record Wrote (program : List (Option Instr)) (steps : ℕ) (out : List ℕ) (m n : State) : Type 0 where
  pub runs : (more : ℕ) → run_of program m (steps + more) ≡ after_output out (run_of program n more)

write-step : (program : List (Option Instr)) (s next : State) (bytes : List ℕ) (more : ℕ) → fetch program s.pc ≡ Some (Some Ecall) → act Ecall s ≡ Writes next bytes →
    run_of program s (suc more) ≡ after_output bytes (run_of program next more)
write-step program s next bytes more there e =
    ap (λ b. if b then stands (Returned (s.registers 10)) s else after_step (step program s) s (λ k. run_of program k more)) (ne_eqb s.pc 0 (not-zero program s.pc Ecall there))
    ∙ (ap (λ found. after_step (obeys found s) s (λ k. run_of program k more)) there ∙ ap (λ m. after_step m s (λ k. run_of program k more)) e)

-- a way, a call that writes, and a way
pub wrote : (program : List (Option Instr)) (a b : ℕ) (out : List ℕ) (m c d n : State) → Way program a m c → fetch program c.pc ≡ Some (Some Ecall) → act Ecall c ≡ Writes d out → Way program b d n →
    Wrote program (a + suc b) out m n
wrote program a b out m c d n first there e last = record {
  runs = λ more.
      let split : a + suc b + more ≡ a + suc (b + more) = omega arith in
      ap (run_of program m) split ∙ (first.runs (suc (b + more)) ∙ (write-step program c d out (b + more) there e ∙ ap (after_output out) (last.runs more)));
}

-- the call that writes bytes
pub write-act : (s : State) (place : Place) (n : ℕ) → s.registers 17 ≡ 64 → s.registers 10 ≡ 1 → s.registers 12 ≡ n → n ≢ 0 →
    place_of (length s.region) (length s.private) (s.registers 11) n ≡ Some place → act Ecall s ≡ Writes (returned s) (bytes_at s.region s.private place n)
write-act s place n e f g o there =
    ap (λ v. if nat_eq v 64 then write_call s else (if nat_eq v 1024 then throw_call s else Faults BadCall)) e
    ∙ (ap (λ v. if nat_eq v 1 then (if nat_eq (s.registers 12) 0 then GoesOn (returned s) else writes_from s (place_of (length s.region) (length s.private) (s.registers 11) (s.registers 12))) else Faults BadCall) f
    ∙ (ap (λ b. if b then GoesOn (returned s) else writes_from s (place_of (length s.region) (length s.private) (s.registers 11) (s.registers 12))) (ap (λ v. nat_eq v 0) g ∙ ne_eqb n 0 o)
    ∙ (ap (λ v. writes_from s (place_of (length s.region) (length s.private) (s.registers 11) v)) g
    ∙ (ap (writes_from s) there ∙ ap (λ v. Writes (returned s) (bytes_at s.region s.private place v)) g))))

-- a calm way with output
pub calm-comes : (y : Layout) (Used Next : ℕ → Type 0) (w : World) (base steps weight target : ℕ) (out : List ℕ) (program : List (Option Instr)) (m n : State) →
    Holds y Used w base m → Housed y Used → AreFewer Used Next → Wrote program steps out m n → Calm m n → n.pc < 2 ^ 64 → 1 ≤ steps → steps ≤ weight → n.pc ≡ target →
    Comes y program Next w base weight target out m
calm-comes y Used Next w base steps weight target out program m n p h f way calm small some few to = record {
  steps = steps;
  after = n;
  some = some;
  few = few;
  runs = way.runs;
  at = to;
  holds = fewer-holds y Used Next w base n f (calm-holds y Used w base m n p h calm small);
  keeps = calm-keeps y base m n calm;
}

-- a way writes nothing
pub way-wrote : (program : List (Option Instr)) (steps : ℕ) (m n : State) → Way program steps m n → Wrote program steps [] m n
way-wrote program steps m n way = record { runs = way.runs }

-- a way before
pub then-wrote : (program : List (Option Instr)) (a b : ℕ) (out : List ℕ) (m t n : State) → Way program a m t → Wrote program b out t n → Wrote program (a + b) out m n
then-wrote program a b out m t n first last = record {
  runs = λ more. let split : a + b + more ≡ a + (b + more) = omega arith in ap (run_of program m) split ∙ (first.runs (b + more) ∙ last.runs more);
}
