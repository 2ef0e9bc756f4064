-- Each instruction at its place in a function's code.
use Rattle.std.proofs.Common.{◌≡◌, ◌≢◌, ℕ, zero, suc, ◌+◌, ◌-◌, ◌%◌, ◌^◌, ◌<◌, ◌≤◌, Bool, true, false, not, ◌&&◌, ◌||◌, List, [], ◌∷◌, ◌++◌}
use Rattle.std.proofs.Common.{length, Option, Some, None, refl, sym, ap, ◌∙◌, subst, ⊎_elim, inl, inr, arith}
use Rattle.std.specs.Prelude.{if◌then◌else◌, nat_eq, nat_le, nat_lt, slice_get, unwrap_or, ◌⊎◌}
use Rattle.std.specs.List.{list_all}
use Rattle.std.proofs.lemmas.Bool.{cases_Bool, cases_eq, cases_lt, eq-eqb, eqb-true, leb-true, ltb-true}
use Rattle.std.proofs.lemmas.List.{append-nil}
use Rattle.tl_base.specs.declared.place.Place.{Place}
use Rattle.rv_isa.specs.declared.instr.Instr.{Instr}
use Rattle.reg_alloc.specs.declared.assignment.Home.{Home}
use Rattle.rv_machine.specs.Machine.{State}
use Rattle.terra_memory.specs.Region.{Contents, end_address, first_address, range_of}
use Rattle.terra_words.specs.declared.words.BinaryOperator.{BinaryOperator}
use Rattle.terra_memory.specs.Numbers.{low_bytes, number_of, part}
use Rattle.terra_words.specs.declared.words.FaultKind.TheVariants.{BadAddress}
use Rattle.terra_words.specs.Words.{divides, is_negative, wrapped}
use Rattle.terra_words.specs.Runs.{put_bytes}
use Rattle.tac_form.specs.declared.tac.Number.{Number}
use Rattle.tac_form.specs.declared.tac.Size.{Size}
use Rattle.tac_form.specs.declared.tac.Operand.{Operand}
use Rattle.tac_form.specs.declared.tac.Address.{Address}
use Rattle.tac_form.specs.declared.tac.Address.TheVariants.{Word, Frame}
use Rattle.tac_form.specs.declared.tac.Spot.{Spot}
use Rattle.tac_form.specs.declared.tac.Spot.TheVariants as spots
use Rattle.tac_form.specs.declared.tac.Operand.TheVariants.{Temp, Constant}
use Rattle.tac_form.specs.declared.tac.Instruction.{Instruction}
use Rattle.tac_form.specs.declared.tac.Instruction.TheVariants.{Alloc, Call, CallValue, Clear, Compute, Copy, Load, Locate, Move, PutByte}
use Rattle.tac_form.specs.declared.tac.Instruction.TheVariants.{Store, TestDivisor, Write}
use Rattle.tac_form.specs.declared.tac.Tac.{Tac}
use Rattle.tac_form.specs.Flow as tac
use Rattle.tac_form.specs.Flow.{Program, area_size, bytes_of, step, width_of}
use Rattle.tac_form.specs.Graph.{block_of, graph_of, instruction_reads, instruction_write, address_reads, operand_reads, step_of}
use Rattle.tac_form.specs.Live.{InUse, has, is_written}
use Rattle.tac_form.specs.Fits.{are_apart, area_fits, area_there, instruction_fits, operand_fits, place_fits, spot_fits}
use Rattle.tac_form.specs.Weights.{most_moved}
use Rattle.rv_select.specs.Asked.{address_asks, both_ask, first_asks, is_held, is_second, is_turned}
use Rattle.rv_select.specs.Places.{HasHome, Holds, IsFirst, IsHeld, IsRead, Layout, World, layout_of, value_in}
use Rattle.rv_operators.specs.Runs.{Stands}
use Rattle.rv_select.specs.Shapes.{bytes_moved, held_after, is_five, loaded, range_written, shape_of, some_moved, stored}
use Rattle.rv_select.specs.Steps.{AreFewer, Carried, Comes, Ends, Follows, IsPlace, InstructionsAreCarried, StandsBefore, behind, with_temp}
use Rattle.rv_select.specs.Steps.{world_of}
use Rattle.rv_select.proofs.Claims.{Gives, IsReached, address_in, with_region}
pub use Rattle.rv_select.proofs.Granted.{has-left, has-right}
use Rattle.rv_select.proofs.Lives.{housed, read-live, step-in-graph, use-follows, write-used}
use Rattle.rv_select.proofs.Operating.{copies, operators}
use Rattle.rv_select.proofs.Homes.{five-held, home-unless}
use Rattle.rv_select.proofs.Divisors.{addresses, divisors}
use Rattle.rv_select.proofs.Regions.{insides, region-loads}
use Rattle.rv_select.proofs.Stores.{region-stores}
use Rattle.rv_select.proofs.Areas.{area-loads, area-stores}
use Rattle.rv_select.proofs.Clears.{clears}
use Rattle.rv_select.proofs.Nothing.{nothing-happens}
use Rattle.rv_select.proofs.Transports.{area-moves, nothing-comes, put-none, region-moves, some-is, stores-moved}
use Rattle.rv_select.proofs.Printed.{byte-puts}
use Rattle.rv_select.proofs.Ranges.{RangeWritten, range-inside, range-none, range-outside, ranges}
use Rattle.rv_select.proofs.Allocs.{allocs}

pub both-true : (a b : Bool) → (a && b) ≡ true → (a ≡ true) × (b ≡ true)
both-true true b e = (refl, e)
both-true false b e = cc

-- what an instruction reads is in use before it
abbrev used : Tac → tac.State → ℕ → Type 0
used code s = InUse (graph_of code) s.here.block s.here.at

abbrev next : Tac → tac.State → ℕ → Type 0
next code s = InUse (graph_of code) s.here.block (suc s.here.at)

reads : (p : Program) (code : Tac) (homes : List (Option Home)) (held : Option ℕ) (i : Instruction) (s : tac.State) (program : List (Option Instr)) (base : ℕ) (m : State) →
    StandsBefore p code homes held i s program base m → (t : ℕ) → has (instruction_reads i) t ≡ true → used code s t
reads p code homes held i s program base m x t h =
    let g = step-in-graph code x.block i s.here.block s.here.at x.in_function x.in_block in
    inl (read-live (graph_of code) s.here.block s.here.at t (block_of x.block) (step_of i) g.0 g.1 h)

follows : (p : Program) (code : Tac) (homes : List (Option Home)) (held : Option ℕ) (i : Instruction) (s : tac.State) (program : List (Option Instr)) (base : ℕ) (m : State) (d : ℕ) →
    StandsBefore p code homes held i s program base m → instruction_write i ≡ Some d → Follows (used code s) (next code s) d
follows p code homes held i s program base m d x e t u =
    let g = step-in-graph code x.block i s.here.block s.here.at x.in_function x.in_block in
    ⊎_elim (λ w. inl (sym (eqb-true d t (sym (written t) ∙ w)))) (λ o. inr o)
    (use-follows (graph_of code) s.here.block s.here.at t (block_of x.block) (step_of i) g.0 g.1 u)
  where
    written : (t : ℕ) → is_written (step_of i).write t ≡ nat_eq d t
    written t = ap (λ o. is_written o t) e

fewer : (p : Program) (code : Tac) (homes : List (Option Home)) (held : Option ℕ) (i : Instruction) (s : tac.State) (program : List (Option Instr)) (base : ℕ) (m : State) →
    StandsBefore p code homes held i s program base m → instruction_write i ≡ None → AreFewer (used code s) (next code s)
fewer p code homes held i s program base m x e t u =
    let g = step-in-graph code x.block i s.here.block s.here.at x.in_function x.in_block in
    ⊎_elim (λ w. let none : false ≡ true = sym (ap (λ o. is_written o t) e) ∙ w in cc) (λ o. o)
    (use-follows (graph_of code) s.here.block s.here.at t (block_of x.block) (step_of i) g.0 g.1 u)

written-next : (p : Program) (code : Tac) (homes : List (Option Home)) (held : Option ℕ) (i : Instruction) (s : tac.State) (program : List (Option Instr)) (base : ℕ) (m : State) (d : ℕ) →
    StandsBefore p code homes held i s program base m → instruction_write i ≡ Some d → next code s d
written-next p code homes held i s program base m d x e =
    let g = step-in-graph code x.block i s.here.block s.here.at x.in_function x.in_block in
    write-used (graph_of code) s.here.block s.here.at d (block_of x.block) (step_of i) g.0 g.1 (ap (λ o. is_written o d) e ∙ eq-eqb d d refl)

-- operands
pub operand-read : (code : Tac) (y : Layout) (Used : ℕ → Type 0) (a : Operand) → operand_fits code a ≡ true → ((t : ℕ) → has (operand_reads a) t ≡ true → Used t) →
    ((t : ℕ) → has (operand_reads a) t ≡ true → HasHome y t) → IsRead y Used a
operand-read code y Used (Temp t) fits f g =
    let here : has (t ∷ []) t ≡ true = ap (λ b. b || false) (eq-eqb t t refl) in (f t here, g t here)
operand-read code y Used (Constant c) fits f g = ltb-true c (2 ^ 64) fits

-- an operand that T0 takes
pub first-read : (code : Tac) (y : Layout) (held : Option ℕ) (Used : ℕ → Type 0) (a : Operand) → operand_fits code a ≡ true →
    ((t : ℕ) → has (operand_reads a) t ≡ true → Used t) → ((t : ℕ) → has (first_asks held a) t ≡ true → HasHome y t) → IsFirst y held Used a
first-read code y held Used (Temp t) fits f g =
    (f t here, ⊎_elim (λ e. inl e) (λ e. inr (g t (ap (λ b. has (if b then [] else t ∷ []) t) e ∙ here))) (cases_Bool (is_held held t)))
  where
    here : has (t ∷ []) t ≡ true
    here = ap (λ b. b || false) (eq-eqb t t refl)
first-read code y held Used (Constant c) fits f g = ltb-true c (2 ^ 64) fits

-- two operands, of which T0 takes the first
pub both-read : (code : Tac) (y : Layout) (held : Option ℕ) (Used : ℕ → Type 0) (a b : Operand) → operand_fits code a ≡ true → operand_fits code b ≡ true →
    ((t : ℕ) → has (operand_reads a) t ≡ true → Used t) → ((t : ℕ) → has (operand_reads b) t ≡ true → Used t) →
    ((t : ℕ) → has (both_ask held a b) t ≡ true → HasHome y t) → IsFirst y held Used a × IsRead y Used b
both-read code y held Used a b fit-a fit-b read-a read-b asked = (
  first-read code y held Used a fit-a read-a (λ t u. asked t (has-left (first_asks held a) (operand_reads b) t u)),
  operand-read code y Used b fit-b read-b (λ t u. asked t (has-right (first_asks held a) (operand_reads b) t u)),
)

-- one that T0 holds
second-read : (y : Layout) (held : Option ℕ) (Used : ℕ → Type 0) (a : Operand) → is_second held a ≡ true →
    ((t : ℕ) → has (operand_reads a) t ≡ true → Used t) → IsFirst y held Used a
second-read y held Used (Temp t) e f = let here : has (t ∷ []) t ≡ true = ap (λ b. b || false) (eq-eqb t t refl) in (f t here, inl e)
second-read y held Used (Constant c) e f = cc

-- the word of one in use
pub used-small : (code : Tac) (y : Layout) (Used : ℕ → Type 0) (w : World) (base : ℕ) (m : State) (a : Operand) → Holds y Used w base m →
    operand_fits code a ≡ true → ((t : ℕ) → has (operand_reads a) t ≡ true → Used t) → value_in w.temps a < 2 ^ 64
used-small code y Used w base m (Temp t) p fits f =
    let here : has (t ∷ []) t ≡ true = ap (λ b. b || false) (eq-eqb t t refl) in p.words t (f t here)
used-small code y Used w base m (Constant c) p fits f = ltb-true c (2 ^ 64) fits

pub place-small : (at : Place) → place_fits at ≡ true → IsPlace at
place-small at h =
    let b = both-true (nat_lt at.line (2 ^ 32)) (nat_lt at.word (2 ^ 32)) h in
    let l : at.line < 2 ^ 32 = ltb-true at.line (2 ^ 32) b.0 in
    let w : at.word < 2 ^ 32 = ltb-true at.word (2 ^ 32) b.1 in
    omega arith

pub nothing-written : (out : List ℕ) → out ≡ out ++ []
nothing-written out = sym (append-nil out)

-- an instruction that leaves a temporary's word in T0
given : (written : List ℕ) {y : Layout} {program : List (Option Instr)} {Next : ℕ → Type 0} {w : World} {base most target d : ℕ} {m : State} →
    Gives y program Next w base most target d m →
    (out : List ℕ) × (written ≡ written ++ out) × (c : Comes y program Next w base most target out m) × IsHeld y (Some d) w.temps c.after
given written g = ([], nothing-written written, g.comes, g.five)

-- one that may leave it there
told : (written : List ℕ) (held : Option ℕ) {y : Layout} {program : List (Option Instr)} {Next : ℕ → Type 0} {w : World}
    {base most target : ℕ} {m : State} → (c : Comes y program Next w base most target [] m) × IsHeld y held w.temps c.after →
    (out : List ℕ) × (written ≡ written ++ out) × (c : Comes y program Next w base most target out m) × IsHeld y held w.temps c.after
told written held g = ([], nothing-written written, g.0, g.1)

carry-copy : (p : Program) (code : Tac) (homes : List (Option Home)) (held : Option ℕ) (d : ℕ) (a : Operand) (s : tac.State) (program : List (Option Instr)) (base : ℕ) (m : State) →
    StandsBefore p code homes held (Copy d a) s program base m →
    Carried (layout_of code homes) (graph_of code) program base (held_after (Copy d a)) (shape_of (layout_of code homes) held (Copy d a)) s m (step p s)
carry-copy p code homes held d a s program base m x =
    let fit = both-true (nat_lt d code.temps) (operand_fits code a) x.fits in
    let e1 = x.function in
    let e2 = x.in_function in
    let e3 = x.in_block in
    rw (e1, e2, e3) (told s.out (held_after (Copy d a)) (copies (layout_of code homes) held d a (used code s) (next code s) (world_of s) base program m x.stands x.five x.holds
    (housed code homes s.here.block s.here.at x.right) (housed code homes s.here.block (suc s.here.at) x.right)
    (first-read code (layout_of code homes) held (used code s) a fit.1 (reads p code homes held (Copy d a) s program base m x)
    (λ t u. x.asked t (has-right (d ∷ []) (first_asks held a) t u)))
    (written-next p code homes held (Copy d a) s program base m d x refl) (x.asked d (ap (λ b. b || has (first_asks held a) d) (eq-eqb d d refl)))
    (follows p code homes held (Copy d a) s program base m d x refl)))

-- by a test, and by whether there is something
pub by-test : {A : Type 0} (P : A → Type 0) (c : Bool) (x y : A) → (c ≡ true → P x) → (c ≡ false → P y) → P (if c then x else y)
by-test P true x y f g = f refl
by-test P false x y f g = g refl

some-or-none : {A : Type 0} (o : Option A) → (o ≡ None) ⊎ ((x : A) × (o ≡ Some x))
some-or-none None = inl refl
some-or-none (Some x) = inr (x, refl)

no-zero : (a b : Bool) (x : ℕ) → (a && b) ≡ false → b ≡ nat_eq x 0 → a ≡ true → x ≢ 0
no-zero a b x e f g z = let t : b ≡ true = f ∙ eq-eqb x 0 z in let both : (a && b) ≡ true = ap (λ c. c && b) g ∙ t in let none : true ≡ false = sym both ∙ e in cc

-- what an operator asks for whose operands don't change places
abbrev unturned-asks : (held : Option ℕ) → (a b : Operand) → (second : Bool) → List ℕ
unturned-asks held a b second = if second then first_asks held a else both_ask held a b

unturned : (held : Option ℕ) (a b : Operand) (t : ℕ) (turned second : Bool) → turned ≡ false →
    has (if turned then both_ask held b a else unturned-asks held a b second) t ≡ has (unturned-asks held a b second) t
unturned held a b t turned second e = ap (λ c. has (if c then both_ask held b a else unturned-asks held a b second) t) e

-- an operand in T0 is held, and one that is held and not in T0 has a register as its home
five-second : (y : Layout) (held : Option ℕ) (b : Operand) → is_five y held b ≡ true → is_second held b ≡ true
five-second y held (Temp t) e = five-held y held t e
five-second y held (Constant c) e = cc

held-read : (y : Layout) (held : Option ℕ) (Used : ℕ → Type 0) (b : Operand) → is_five y held b ≡ false → is_second held b ≡ true →
    ((t : ℕ) → has (operand_reads b) t ≡ true → Used t) → IsRead y Used b
held-read y held Used (Temp t) e g f =
    let here : has (t ∷ []) t ≡ true = ap (λ b. b || false) (eq-eqb t t refl) in (f t here, home-unless y held t e (inl g))
held-read y held Used (Constant c) e g f = cc

in-turn-read : (code : Tac) (y : Layout) (held : Option ℕ) (Used : ℕ → Type 0) (a b : Operand) → operand_fits code a ≡ true →
    operand_fits code b ≡ true → ((t : ℕ) → has (operand_reads a) t ≡ true → Used t) → ((t : ℕ) → has (operand_reads b) t ≡ true → Used t) →
    is_five y held b ≡ false → ((t : ℕ) → has (unturned-asks held a b (is_second held b)) t ≡ true → HasHome y t) →
    IsFirst y held Used a × IsRead y Used b
in-turn-read code y held Used a b fit-a fit-b read-a read-b five asked = either (is_second held b) refl asked
  where
    either : (c : Bool) → is_second held b ≡ c → ((t : ℕ) → has (unturned-asks held a b c) t ≡ true → HasHome y t) →
        IsFirst y held Used a × IsRead y Used b
    either false e g = both-read code y held Used a b fit-a fit-b read-a read-b g
    either true e g = (first-read code y held Used a fit-a read-a g, held-read y held Used b five e read-b)

carry-compute : (p : Program) (code : Tac) (homes : List (Option Home)) (held : Option ℕ) (d : ℕ) (op : BinaryOperator) (form : Number) (a b : Operand) (s : tac.State)
    (program : List (Option Instr)) (base : ℕ) (m : State) → StandsBefore p code homes held (Compute d op form a b) s program base m →
    Carried (layout_of code homes) (graph_of code) program base (held_after (Compute d op form a b)) (shape_of (layout_of code homes) held (Compute d op form a b)) s m (step p s)
carry-compute p code homes held d op form a b s program base m x =
    let fit = both-true (nat_lt d code.temps && operand_fits code a) (operand_fits code b) x.fits in
    let fit-a = both-true (nat_lt d code.temps) (operand_fits code a) fit.0 in
    let i : Instruction = Compute d op form a b in
    let read-a : (t : ℕ) → has (operand_reads a) t ≡ true → used code s t =
    λ t u. reads p code homes held i s program base m x t (has-left (operand_reads a) (operand_reads b) t u) in
    let read-b : (t : ℕ) → has (operand_reads b) t ≡ true → used code s t =
    λ t u. reads p code homes held i s program base m x t (has-right (operand_reads a) (operand_reads b) t u) in
    let e1 = x.function in
    let e2 = x.in_function in
    let e3 = x.in_block in
    rw (e1, e2, e3)
    (by-test
    (λ moved. Carried (layout_of code homes) (graph_of code) program base (held_after (Compute d op form a b)) (shape_of (layout_of code homes) held (Compute d op form a b)) s m moved)
    (divides op && nat_eq (value_in s.here.temps b) 0) _ _ (λ h. tt)
    (λ h. (given s.out (operators (layout_of code homes) held d op form a b (used code s) (next code s) (world_of s) base program m x.stands x.five
    (no-zero (divides op) (nat_eq (value_in s.here.temps b) 0) (value_in s.here.temps b) h refl) x.holds
    (housed code homes s.here.block s.here.at x.right) (housed code homes s.here.block (suc s.here.at) x.right)
    (λ plain first. in-turn-read code (layout_of code homes) held (used code s) a b fit-a.1 fit.1 read-a read-b first
    (λ t u. x.asked t (unturned held a b t (is_turned held op b) (is_second held b) plain ∙ u)))
    (λ second. second-read (layout_of code homes) held (used code s) b (five-second (layout_of code homes) held b second) read-b)
    (λ plain second. first-read code (layout_of code homes) held (used code s) a fit-a.1 read-a
    (λ t u. x.asked t (unturned held a b t (is_turned held op b) (is_second held b) plain
    ∙ (ap (λ c. has (unturned-asks held a b c) t) (five-second (layout_of code homes) held b second) ∙ u))))
    (λ turn. both-read code (layout_of code homes) held (used code s) b a fit.1 fit-a.1 read-b read-a
    (λ t u. x.asked t (ap (λ c. has (if c then both_ask held b a else unturned-asks held a b (is_second held b)) t) turn ∙ u)))
    (written-next p code homes held i s program base m d x refl) (follows p code homes held i s program base m d x refl)))))

carry-test : (p : Program) (code : Tac) (homes : List (Option Home)) (held : Option ℕ) (at : Place) (a : Operand) (s : tac.State) (program : List (Option Instr)) (base : ℕ) (m : State) →
    StandsBefore p code homes held (TestDivisor at a) s program base m →
    Carried (layout_of code homes) (graph_of code) program base (held_after (TestDivisor at a)) (shape_of (layout_of code homes) held (TestDivisor at a)) s m (step p s)
carry-test p code homes held at a s program base m x =
    let fit = both-true (place_fits at) (operand_fits code a) x.fits in
    let i : Instruction = TestDivisor at a in
    let e1 = x.function in
    let e2 = x.in_function in
    let e3 = x.in_block in
    let both =
    divisors (layout_of code homes) held at a (used code s) (next code s) (world_of s) base program m x.stands x.five (place-small at fit.0) x.holds
    (housed code homes s.here.block s.here.at x.right) (first-read code (layout_of code homes) held (used code s) a fit.1 (reads p code homes held i s program base m x) x.asked)
    (fewer p code homes held i s program base m x refl) in
    rw (e1, e2, e3)
    (by-test
    (λ moved. Carried (layout_of code homes) (graph_of code) program base (held_after (TestDivisor at a)) (shape_of (layout_of code homes) held (TestDivisor at a)) s m moved)
    (nat_eq (value_in s.here.temps a) 0) _ _ (λ h. (refl, both.1 (eqb-true (value_in s.here.temps a) 0 h)))
    (λ h. ([], nothing-written s.out, both.0 (λ z. let t : nat_eq (value_in s.here.temps a) 0 ≡ true = eq-eqb (value_in s.here.temps a) 0 z in let none : true ≡ false = sym t ∙ h in cc), tt)))

carry-locate : (p : Program) (code : Tac) (homes : List (Option Home)) (held : Option ℕ) (d offset : ℕ) (s : tac.State) (program : List (Option Instr)) (base : ℕ) (m : State) →
    StandsBefore p code homes held (Locate d offset) s program base m →
    Carried (layout_of code homes) (graph_of code) program base (held_after (Locate d offset)) (shape_of (layout_of code homes) held (Locate d offset)) s m (step p s)
carry-locate p code homes held d offset s program base m x =
    let fit = both-true (nat_lt d code.temps) (nat_le offset code.frame) x.fits in
    let within : offset ≤ code.frame = leb-true offset code.frame fit.1 in
    let most : length s.region.bytes ≤ 67108864 = x.holds.lawful.sized.2 in
    let end : s.here.base + code.frame ≤ end_address s.region = x.frame in
    let i : Instruction = Locate d offset in
    let e1 = x.function in
    let e2 = x.in_function in
    let e3 = x.in_block in
    rw (e1, e2, e3) (given s.out (addresses (layout_of code homes) d offset (used code s) (next code s) (world_of s) base program m x.stands (omega arith) x.holds
    (housed code homes s.here.block s.here.at x.right) (housed code homes s.here.block (suc s.here.at) x.right)
    (written-next p code homes held i s program base m d x refl) (follows p code homes held i s program base m d x refl)))

-- an address in the region
address-reached : (code : Tac) (y : Layout) (held : Option ℕ) (Used : ℕ → Type 0) (s : tac.State) (at : Place) (size : ℕ) (a : Address) → spot_fits code size (spots.Region at a) ≡ true →
    s.here.base + code.frame ≤ end_address s.region → ((t : ℕ) → has (address_reads a) t ≡ true → Used t) →
    ((t : ℕ) → has (address_asks held a) t ≡ true → HasHome y t) → IsReached y held Used (world_of s) size a
address-reached code y held Used s at size (Word a) h frame f g = first-read code y held Used a (both-true (place_fits at) (operand_fits code a) h).1 f g
address-reached code y held Used s at size (Frame offset) h frame f g =
    let within : offset + size ≤ code.frame = leb-true (offset + size) code.frame (both-true (place_fits at) (nat_le (offset + size) code.frame) h).1 in
    omega arith

spot-place : (code : Tac) (at : Place) (size : ℕ) (a : Address) → spot_fits code size (spots.Region at a) ≡ true → IsPlace at
spot-place code at size (Word a) h = place-small at (both-true (place_fits at) (operand_fits code a) h).0
spot-place code at size (Frame offset) h = place-small at (both-true (place_fits at) (nat_le (offset + size) code.frame) h).0

-- a load, by what it reads
carry-load : (p : Program) (code : Tac) (homes : List (Option Home)) (held : Option ℕ) (d : ℕ) (form : Number) (at : Place) (a : Address) (s : tac.State) (program : List (Option Instr)) (base : ℕ) (m : State) →
    StandsBefore p code homes held (Load d form (spots.Region at a)) s program base m →
    Carried (layout_of code homes) (graph_of code) program base (held_after (Load d form (spots.Region at a))) (shape_of (layout_of code homes) held (Load d form (spots.Region at a))) s m (step p s)
carry-load p code homes held d form at a s program base m x =
    let fit = both-true (nat_lt d code.temps) (spot_fits code (bytes_of form.size) (spots.Region at a)) x.fits in
    let i : Instruction = Load d form (spots.Region at a) in
    let both =
    region-loads (layout_of code homes) held d form at a (used code s) (next code s) (world_of s) base program m x.stands x.five (spot-place code at (bytes_of form.size) a fit.1)
    (address-reached code (layout_of code homes) held (used code s) s at (bytes_of form.size) a fit.1 x.frame (reads p code homes held i s program base m x) x.asked) x.holds
    (housed code homes s.here.block s.here.at x.right) (housed code homes s.here.block (suc s.here.at) x.right)
    (written-next p code homes held i s program base m d x refl) (follows p code homes held i s program base m d x refl) in
    load-step p code homes held d form at a s program base m x both (some-or-none (range_of s.region (address_in (world_of s) a) (bytes_of form.size)))
  where
    load-step : (p : Program) (code : Tac) (homes : List (Option Home)) (held : Option ℕ) (d : ℕ) (form : Number) (at : Place) (a : Address) (s : tac.State) (program : List (Option Instr)) (base : ℕ) (m : State) →
        StandsBefore p code homes held (Load d form (spots.Region at a)) s program base m →
        ((bs : List ℕ) → range_of s.region (address_in (world_of s) a) (bytes_of form.size) ≡ Some bs →
        Gives (layout_of code homes) program (next code s) (with_temp (world_of s) d (wrapped (width_of form) (number_of bs))) base
        (length (loaded (layout_of code homes) held d form (spots.Region at a)))
        (behind m (loaded (layout_of code homes) held d form (spots.Region at a))) d m)
        × (range_of s.region (address_in (world_of s) a) (bytes_of form.size) ≡ None → Ends program BadAddress at (length (loaded (layout_of code homes) held d form (spots.Region at a))) m) →
        (range_of s.region (address_in (world_of s) a) (bytes_of form.size) ≡ None) ⊎ ((bs : List ℕ) × (range_of s.region (address_in (world_of s) a) (bytes_of form.size) ≡ Some bs)) →
        Carried (layout_of code homes) (graph_of code) program base (held_after (Load d form (spots.Region at a))) (shape_of (layout_of code homes) held (Load d form (spots.Region at a))) s m (step p s)
    load-step p code homes held d form at (Word (Temp t)) s program base m x both o =
        let e1 = x.function in
        let e2 = x.in_function in
        let e3 = x.in_block in
        ⊎_elim (λ e4. rw (e1, e2, e3) (rw e4 (refl, both.1 e4))) (λ q. let e4 = q.1 in rw (e1, e2, e3) (rw e4 (given s.out (both.0 q.0 e4)))) o
    load-step p code homes held d form at (Word (Constant c)) s program base m x both o =
        let e1 = x.function in
        let e2 = x.in_function in
        let e3 = x.in_block in
        ⊎_elim (λ e4. rw (e1, e2, e3) (rw e4 (refl, both.1 e4))) (λ q. let e4 = q.1 in rw (e1, e2, e3) (rw e4 (given s.out (both.0 q.0 e4)))) o
    load-step p code homes held d form at (Frame offset) s program base m x both o =
        let e1 = x.function in
        let e2 = x.in_function in
        let e3 = x.in_block in
        ⊎_elim (λ e4. rw (e1, e2, e3) (rw e4 (refl, both.1 e4))) (λ q. let e4 = q.1 in rw (e1, e2, e3) (rw e4 (given s.out (both.0 q.0 e4)))) o

-- a store, by what it writes
carry-store : (p : Program) (code : Tac) (homes : List (Option Home)) (held : Option ℕ) (size : Size) (at : Place) (a : Address) (b : Operand) (s : tac.State) (program : List (Option Instr)) (base : ℕ) (m : State) →
    StandsBefore p code homes held (Store (spots.Region at a) size b) s program base m →
    Carried (layout_of code homes) (graph_of code) program base (held_after (Store (spots.Region at a) size b)) (shape_of (layout_of code homes) held (Store (spots.Region at a) size b)) s m (step p s)
carry-store p code homes held size at a b s program base m x =
    let fit = both-true (spot_fits code (bytes_of size) (spots.Region at a)) (operand_fits code b) x.fits in
    let i : Instruction = Store (spots.Region at a) size b in
    let both =
    region-stores (layout_of code homes) held size at a b (used code s) (next code s) (world_of s) base program m x.stands x.five (spot-place code at (bytes_of size) a fit.0)
    (address-reached code (layout_of code homes) held (used code s) s at (bytes_of size) a fit.0 x.frame
    (λ t u. reads p code homes held i s program base m x t (has-left (address_reads a) (operand_reads b) t u))
    (λ t u. x.asked t (has-left (address_asks held a) (operand_reads b) t u)))
    (operand-read code (layout_of code homes) (used code s) b fit.1 (λ t u. reads p code homes held i s program base m x t (has-right (address_reads a) (operand_reads b) t u))
    (λ t u. x.asked t (has-right (address_asks held a) (operand_reads b) t u))) x.holds
    (housed code homes s.here.block s.here.at x.right) (fewer p code homes held i s program base m x refl) in
    store-step p code homes held size at a b s program base m x both
    (some-or-none (put_bytes s.region (address_in (world_of s) a) (low_bytes (bytes_of size) (value_in s.here.temps b))))
  where
    store-step : (p : Program) (code : Tac) (homes : List (Option Home)) (held : Option ℕ) (size : Size) (at : Place) (a : Address) (b : Operand) (s : tac.State) (program : List (Option Instr)) (base : ℕ) (m : State) →
        StandsBefore p code homes held (Store (spots.Region at a) size b) s program base m →
        ((r : Contents) → put_bytes s.region (address_in (world_of s) a) (low_bytes (bytes_of size) (value_in s.here.temps b)) ≡ Some r →
        Comes (layout_of code homes) program (next code s) (with_region (world_of s) r) base
        (length (stored (layout_of code homes) held (spots.Region at a) size b))
        (behind m (stored (layout_of code homes) held (spots.Region at a) size b)) [] m)
        × (put_bytes s.region (address_in (world_of s) a) (low_bytes (bytes_of size) (value_in s.here.temps b)) ≡ None →
        Ends program BadAddress at (length (stored (layout_of code homes) held (spots.Region at a) size b)) m) →
        (put_bytes s.region (address_in (world_of s) a) (low_bytes (bytes_of size) (value_in s.here.temps b)) ≡ None)
        ⊎ ((r : Contents) × (put_bytes s.region (address_in (world_of s) a) (low_bytes (bytes_of size) (value_in s.here.temps b)) ≡ Some r)) →
        Carried (layout_of code homes) (graph_of code) program base (held_after (Store (spots.Region at a) size b)) (shape_of (layout_of code homes) held (Store (spots.Region at a) size b)) s m (step p s)
    store-step p code homes held size at (Word (Temp t)) b s program base m x both o =
        let e1 = x.function in
        let e2 = x.in_function in
        let e3 = x.in_block in
        ⊎_elim (λ e4. rw (e1, e2, e3) (rw e4 (refl, both.1 e4))) (λ q. let e4 = q.1 in rw (e1, e2, e3) (rw e4 ([], nothing-written s.out, both.0 q.0 e4, tt))) o
    store-step p code homes held size at (Word (Constant c)) b s program base m x both o =
        let e1 = x.function in
        let e2 = x.in_function in
        let e3 = x.in_block in
        ⊎_elim (λ e4. rw (e1, e2, e3) (rw e4 (refl, both.1 e4))) (λ q. let e4 = q.1 in rw (e1, e2, e3) (rw e4 ([], nothing-written s.out, both.0 q.0 e4, tt))) o
    store-step p code homes held size at (Frame offset) b s program base m x both o =
        let e1 = x.function in
        let e2 = x.in_function in
        let e3 = x.in_block in
        ⊎_elim (λ e4. rw (e1, e2, e3) (rw e4 (refl, both.1 e4))) (λ q. let e4 = q.1 in rw (e1, e2, e3) (rw e4 ([], nothing-written s.out, both.0 q.0 e4, tt))) o

-- areas have at most 128 bytes
areas-short : (sizes : List ℕ) (n : ℕ) → list_all area_fits sizes ≡ true → unwrap_or (slice_get sizes n) 0 ≤ most_moved
areas-short [] n e = omega arith
areas-short (x ∷ xs) zero e = leb-true x most_moved (both-true (area_fits x) (list_all area_fits xs) e).0
areas-short (x ∷ xs) (suc n) e = areas-short xs n (both-true (area_fits x) (list_all area_fits xs) e).1

area-spot : (code : Tac) (n offset size : ℕ) → spot_fits code size (spots.Area n offset) ≡ true → list_all area_fits code.areas ≡ true →
    (n < length code.areas) × (offset + size ≤ most_moved)
area-spot code n offset size e f =
    let b = both-true (area_there code n) (nat_le (offset + size) (area_size code n)) e in
    let l : offset + size ≤ area_size code n = leb-true (offset + size) (area_size code n) b.1 in
    (ltb-true n (length code.areas) b.0, omega (arith, l, areas-short code.areas n f))

carry-area-load : (p : Program) (code : Tac) (homes : List (Option Home)) (held : Option ℕ) (d : ℕ) (form : Number) (n offset : ℕ) (s : tac.State) (program : List (Option Instr)) (base : ℕ) (m : State) →
    StandsBefore p code homes held (Load d form (spots.Area n offset)) s program base m →
    Carried (layout_of code homes) (graph_of code) program base (held_after (Load d form (spots.Area n offset))) (shape_of (layout_of code homes) held (Load d form (spots.Area n offset))) s m (step p s)
carry-area-load p code homes held d form n offset s program base m x =
    let fit = both-true (nat_lt d code.temps) (spot_fits code (bytes_of form.size) (spots.Area n offset)) x.fits in
    let i : Instruction = Load d form (spots.Area n offset) in
    let e1 = x.function in
    let e2 = x.in_function in
    let e3 = x.in_block in
    rw (e1, e2, e3)
    (by-test (λ moved. Carried (layout_of code homes) (graph_of code) program base (held_after (Load d form (spots.Area n offset))) (shape_of (layout_of code homes) held (Load d form (spots.Area n offset))) s m moved)
    (nat_le (offset + bytes_of form.size) (length (s.here.areas n))) _ _
    (λ h. (given s.out (area-loads (layout_of code homes) held d form n offset (used code s) (next code s) (world_of s) base program m x.stands
    (area-spot code n offset (bytes_of form.size) fit.1 x.areas).0 (leb-true (offset + bytes_of form.size) (length (s.here.areas n)) h) x.holds
    (housed code homes s.here.block s.here.at x.right) (housed code homes s.here.block (suc s.here.at) x.right)
    (written-next p code homes held i s program base m d x refl) (follows p code homes held i s program base m d x refl))))
    (λ h. tt))

carry-area-store : (p : Program) (code : Tac) (homes : List (Option Home)) (held : Option ℕ) (size : Size) (n offset : ℕ) (b : Operand) (s : tac.State) (program : List (Option Instr)) (base : ℕ) (m : State) →
    StandsBefore p code homes held (Store (spots.Area n offset) size b) s program base m →
    Carried (layout_of code homes) (graph_of code) program base (held_after (Store (spots.Area n offset) size b)) (shape_of (layout_of code homes) held (Store (spots.Area n offset) size b)) s m (step p s)
carry-area-store p code homes held size n offset b s program base m x =
    let fit = both-true (spot_fits code (bytes_of size) (spots.Area n offset)) (operand_fits code b) x.fits in
    let spot = area-spot code n offset (bytes_of size) fit.0 x.areas in
    let i : Instruction = Store (spots.Area n offset) size b in
    let e1 = x.function in
    let e2 = x.in_function in
    let e3 = x.in_block in
    rw (e1, e2, e3)
    (by-test (λ moved. Carried (layout_of code homes) (graph_of code) program base (held_after (Store (spots.Area n offset) size b)) (shape_of (layout_of code homes) held (Store (spots.Area n offset) size b)) s m moved)
    (nat_le offset (length (s.here.areas n))) _ _
    (λ h. (
      [],
      nothing-written s.out,
      area-stores (layout_of code homes) held size n offset b (used code s) (next code s) (world_of s) base program m x.stands spot.0
          (leb-true offset (length (s.here.areas n)) h) spot.1
          (operand-read code (layout_of code homes) (used code s) b fit.1 (reads p code homes held i s program base m x) x.asked) x.holds
          (housed code homes s.here.block s.here.at x.right) (fewer p code homes held i s program base m x refl),
      tt,
    ))
    (λ h. tt))

carry-clear : (p : Program) (code : Tac) (homes : List (Option Home)) (held : Option ℕ) (n size : ℕ) (s : tac.State) (program : List (Option Instr)) (base : ℕ) (m : State) → size ≤ most_moved →
    StandsBefore p code homes held (Clear n size) s program base m →
    Carried (layout_of code homes) (graph_of code) program base (held_after (Clear n size)) (shape_of (layout_of code homes) held (Clear n size)) s m (step p s)
carry-clear p code homes held n size s program base m most x =
    let fit = both-true (area_there code n) (nat_le size (area_size code n)) x.fits in
    let i : Instruction = Clear n size in
    let e1 = x.function in
    let e2 = x.in_function in
    let e3 = x.in_block in
    rw (e1, e2, e3) (
      [],
      nothing-written s.out,
      clears (layout_of code homes) n size (used code s) (next code s) (world_of s) base program m x.stands (ltb-true n (length code.areas) fit.0) most x.holds
          (housed code homes s.here.block s.here.at x.right) (fewer p code homes held i s program base m x refl),
      tt,
    )

carry-byte : (p : Program) (code : Tac) (homes : List (Option Home)) (held : Option ℕ) (a : Operand) (s : tac.State) (program : List (Option Instr)) (base : ℕ) (m : State) →
    StandsBefore p code homes held (PutByte a) s program base m →
    Carried (layout_of code homes) (graph_of code) program base (held_after (PutByte a)) (shape_of (layout_of code homes) held (PutByte a)) s m (step p s)
carry-byte p code homes held a s program base m x =
    let i : Instruction = PutByte a in
    let e1 = x.function in
    let e2 = x.in_function in
    let e3 = x.in_block in
    rw (e1, e2, e3) (
      value_in s.here.temps a % 256 ∷ [],
      refl,
      byte-puts (layout_of code homes) held a (used code s) (next code s) (world_of s) base program m x.stands x.five x.holds (housed code homes s.here.block s.here.at x.right)
          (first-read code (layout_of code homes) held (used code s) a x.fits (reads p code homes held i s program base m x) x.asked) (fewer p code homes held i s program base m x refl),
      tt,
    )

carry-alloc : (p : Program) (code : Tac) (homes : List (Option Home)) (held : Option ℕ) (d : ℕ) (a : Operand) (s : tac.State) (program : List (Option Instr)) (base : ℕ) (m : State) →
    StandsBefore p code homes held (Alloc d a) s program base m →
    Carried (layout_of code homes) (graph_of code) program base (held_after (Alloc d a)) (shape_of (layout_of code homes) held (Alloc d a)) s m (step p s)
carry-alloc p code homes held d a s program base m x =
    let fit = both-true (nat_lt d code.temps) (operand_fits code a) x.fits in
    let i : Instruction = Alloc d a in
    let e1 = x.function in
    let e2 = x.in_function in
    let e3 = x.in_block in
    rw (e1, e2, e3) (given s.out (allocs (layout_of code homes) held d a (used code s) (next code s) (world_of s) base program m x.stands x.five x.holds
    (housed code homes s.here.block s.here.at x.right) (housed code homes s.here.block (suc s.here.at) x.right)
    (first-read code (layout_of code homes) held (used code s) a fit.1 (reads p code homes held i s program base m x) x.asked)
    (written-next p code homes held i s program base m d x refl) (follows p code homes held i s program base m d x refl)))

-- a range that is written, by where it lies
module _ (p : Program) (code : Tac) (homes : List (Option Home)) (held : Option ℕ) (at : Place) (a b : Operand) (s : tac.State) (program : List (Option Instr)) (base : ℕ) (m : State)
    (x : StandsBefore p code homes held (Write at a b) s program base m) where
  abbrev va : ℕ
  va = value_in s.here.temps a

  abbrev vb : ℕ
  vb = value_in s.here.temps b

  range-result : RangeWritten (layout_of code homes) program (next code s) (world_of s) base (length (range_written (layout_of code homes) at a b)) va vb (behind m (range_written (layout_of code homes) at a b)) at m
  range-result =
      let fit = both-true (place_fits at && operand_fits code a) (operand_fits code b) x.fits in
      let fit-a = both-true (place_fits at) (operand_fits code a) fit.0 in
      let i : Instruction = Write at a b in
      ranges (layout_of code homes) at a b (used code s) (next code s) (world_of s) base program m x.stands (place-small at fit-a.0)
      (operand-read code (layout_of code homes) (used code s) a fit-a.1
      (λ t u. reads p code homes held i s program base m x t (has-left (operand_reads a) (operand_reads b) t u))
      (λ t u. x.asked t (has-left (operand_reads a) (operand_reads b) t u)))
      (operand-read code (layout_of code homes) (used code s) b fit.1
      (λ t u. reads p code homes held i s program base m x t (has-right (operand_reads a) (operand_reads b) t u))
      (λ t u. x.asked t (has-right (operand_reads a) (operand_reads b) t u)))
      x.holds (housed code homes s.here.block s.here.at x.right) (fewer p code homes held i s program base m x refl)

  write-goes : (bs : List ℕ) → range_of s.region va vb ≡ Some bs → Comes (layout_of code homes) program (next code s) (world_of s) base (length (range_written (layout_of code homes) at a b)) (behind m (range_written (layout_of code homes) at a b)) bs m
  write-goes bs e =
      ⊎_elim
      (λ none.
      let q : range_of s.region va vb ≡ Some [] = range-none s.region va vb none in
      let same : [] ≡ bs = cc in
      subst (λ z. Comes (layout_of code homes) program (next code s) (world_of s) base (length (range_written (layout_of code homes) at a b)) (behind m (range_written (layout_of code homes) at a b)) z m) same (range-result.nothing none))
      (λ many.
      ⊎_elim
      (λ i.
      let q : range_of s.region va vb ≡ Some (part s.region.bytes (va - first_address) vb) = range-inside s.region va vb many i.0 i.1 in
      let same : part s.region.bytes (va - first_address) vb ≡ bs = cc in
      subst (λ z. Comes (layout_of code homes) program (next code s) (world_of s) base (length (range_written (layout_of code homes) at a b)) (behind m (range_written (layout_of code homes) at a b)) z m) same (range-result.inside many i.0 i.1))
      (λ o. let q : range_of s.region va vb ≡ None = range-outside s.region va vb many o in let none : Some bs ≡ None = sym e ∙ q in cc)
      (insides s.region va vb))
      (cases_eq vb 0)

  write-none : range_of s.region va vb ≡ None → Ends program BadAddress at (length (range_written (layout_of code homes) at a b)) m
  write-none e =
      ⊎_elim (λ none. let q : range_of s.region va vb ≡ Some [] = range-none s.region va vb none in let no : Some [] ≡ None = sym q ∙ e in cc)
      (λ many.
      ⊎_elim
      (λ i.
      let q : range_of s.region va vb ≡ Some (part s.region.bytes (va - first_address) vb) = range-inside s.region va vb many i.0 i.1 in
      let no : Some (part s.region.bytes (va - first_address) vb) ≡ None = sym q ∙ e in cc)
      (λ o. range-result.outside many o) (insides s.region va vb))
      (cases_eq vb 0)

  write-below : is_negative vb ≡ true → Ends program BadAddress at (length (range_written (layout_of code homes) at a b)) m
  write-below h =
      let large : 2 ^ 63 ≤ vb = leb-true (2 ^ 63) vb h in
      let most : length s.region.bytes ≤ 67108864 = x.holds.lawful.sized.2 in
      range-result.outside (λ z. omega (arith, z, large)) (⊎_elim (λ k. inl k) (λ k. inr (k, omega arith)) (cases_lt va first_address))

write-step : (p : Program) (code : Tac) (homes : List (Option Home)) (held : Option ℕ) (at : Place) (a b : Operand) (s : tac.State) (program : List (Option Instr)) (base : ℕ) (m : State) →
    StandsBefore p code homes held (Write at a b) s program base m →
    (is_negative (value_in s.here.temps b) ≡ true → Ends program BadAddress at (length (range_written (layout_of code homes) at a b)) m) →
    (range_of s.region (value_in s.here.temps a) (value_in s.here.temps b) ≡ None → Ends program BadAddress at (length (range_written (layout_of code homes) at a b)) m) →
    ((bs : List ℕ) → range_of s.region (value_in s.here.temps a) (value_in s.here.temps b) ≡ Some bs →
    Comes (layout_of code homes) program (next code s) (world_of s) base (length (range_written (layout_of code homes) at a b)) (behind m (range_written (layout_of code homes) at a b)) bs m) →
    (range_of s.region (value_in s.here.temps a) (value_in s.here.temps b) ≡ None) ⊎ ((bs : List ℕ) × (range_of s.region (value_in s.here.temps a) (value_in s.here.temps b) ≡ Some bs)) →
    Carried (layout_of code homes) (graph_of code) program base (held_after (Write at a b)) (shape_of (layout_of code homes) held (Write at a b)) s m (step p s)
write-step p code homes held at (Temp t) (Temp u) s program base m x below none goes o =
    let e1 = x.function in
    let e2 = x.in_function in
    let e3 = x.in_block in
    ⊎_elim
    (λ e4. rw (e1, e2, e3) (rw e4 (by-test (λ moved. Carried (layout_of code homes) (graph_of code) program base (held_after (Write at (Temp t) (Temp u))) (shape_of (layout_of code homes) held (Write at (Temp t) (Temp u))) s m moved) (is_negative (s.here.temps u)) _ _ (λ h. (refl, below h)) (λ h. (refl, none e4)))))
    (λ q.
    let e4 = q.1 in
    rw (e1, e2, e3) (rw e4 (by-test (λ moved. Carried (layout_of code homes) (graph_of code) program base (held_after (Write at (Temp t) (Temp u))) (shape_of (layout_of code homes) held (Write at (Temp t) (Temp u))) s m moved) (is_negative (s.here.temps u)) _ _ (λ h. (refl, below h)) (λ h. (q.0, refl, goes q.0 e4, tt))))) o
write-step p code homes held at (Temp t) (Constant e) s program base m x below none goes o =
    let e1 = x.function in
    let e2 = x.in_function in
    let e3 = x.in_block in
    ⊎_elim
    (λ e4. rw (e1, e2, e3) (rw e4 (by-test (λ moved. Carried (layout_of code homes) (graph_of code) program base (held_after (Write at (Temp t) (Constant e))) (shape_of (layout_of code homes) held (Write at (Temp t) (Constant e))) s m moved) (is_negative e) _ _ (λ h. (refl, below h)) (λ h. (refl, none e4)))))
    (λ q.
    let e4 = q.1 in
    rw (e1, e2, e3) (rw e4 (by-test (λ moved. Carried (layout_of code homes) (graph_of code) program base (held_after (Write at (Temp t) (Constant e))) (shape_of (layout_of code homes) held (Write at (Temp t) (Constant e))) s m moved) (is_negative e) _ _ (λ h. (refl, below h)) (λ h. (q.0, refl, goes q.0 e4, tt))))) o
write-step p code homes held at (Constant c) (Temp u) s program base m x below none goes o =
    let e1 = x.function in
    let e2 = x.in_function in
    let e3 = x.in_block in
    ⊎_elim
    (λ e4. rw (e1, e2, e3) (rw e4 (by-test (λ moved. Carried (layout_of code homes) (graph_of code) program base (held_after (Write at (Constant c) (Temp u))) (shape_of (layout_of code homes) held (Write at (Constant c) (Temp u))) s m moved) (is_negative (s.here.temps u)) _ _ (λ h. (refl, below h)) (λ h. (refl, none e4)))))
    (λ q.
    let e4 = q.1 in
    rw (e1, e2, e3) (rw e4 (by-test (λ moved. Carried (layout_of code homes) (graph_of code) program base (held_after (Write at (Constant c) (Temp u))) (shape_of (layout_of code homes) held (Write at (Constant c) (Temp u))) s m moved) (is_negative (s.here.temps u)) _ _ (λ h. (refl, below h)) (λ h. (q.0, refl, goes q.0 e4, tt))))) o
write-step p code homes held at (Constant c) (Constant e) s program base m x below none goes o =
    let e1 = x.function in
    let e2 = x.in_function in
    let e3 = x.in_block in
    ⊎_elim
    (λ e4. rw (e1, e2, e3) (rw e4 (by-test (λ moved. Carried (layout_of code homes) (graph_of code) program base (held_after (Write at (Constant c) (Constant e))) (shape_of (layout_of code homes) held (Write at (Constant c) (Constant e))) s m moved) (is_negative e) _ _ (λ h. (refl, below h)) (λ h. (refl, none e4)))))
    (λ q.
    let e4 = q.1 in
    rw (e1, e2, e3) (rw e4 (by-test (λ moved. Carried (layout_of code homes) (graph_of code) program base (held_after (Write at (Constant c) (Constant e))) (shape_of (layout_of code homes) held (Write at (Constant c) (Constant e))) s m moved) (is_negative e) _ _ (λ h. (refl, below h)) (λ h. (q.0, refl, goes q.0 e4, tt))))) o

carry-write : (p : Program) (code : Tac) (homes : List (Option Home)) (held : Option ℕ) (at : Place) (a b : Operand) (s : tac.State) (program : List (Option Instr)) (base : ℕ) (m : State) →
    StandsBefore p code homes held (Write at a b) s program base m →
    Carried (layout_of code homes) (graph_of code) program base (held_after (Write at a b)) (shape_of (layout_of code homes) held (Write at a b)) s m (step p s)
carry-write p code homes held at a b s program base m x =
    write-step p code homes held at a b s program base m x (write-below p code homes held at a b s program base m x) (write-none p code homes held at a b s program base m x)
    (write-goes p code homes held at a b s program base m x) (some-or-none (range_of s.region (value_in s.here.temps a) (value_in s.here.temps b)))

-- a move fits where its spots do
move-fits : (code : Tac) (to from : Spot) (size : ℕ) → instruction_fits code (Move to from size) ≡ true → ((spot_fits code size to ≡ true) × (spot_fits code size from ≡ true)) × (are_apart to from ≡ true)
move-fits code to from size h =
    let a = both-true ((spot_fits code size to && spot_fits code size from) && are_apart to from) (nat_le size most_moved) h in
    let b = both-true (spot_fits code size to && spot_fits code size from) (are_apart to from) a.0 in
    (both-true (spot_fits code size to) (spot_fits code size from) b.0, b.1)

apart-areas : (n k : ℕ) → not (nat_eq n k) ≡ true → n ≢ k
apart-areas n k h e = let t : nat_eq n k ≡ true = eq-eqb n k e in let none : false ≡ true = sym (ap not t) ∙ h in cc

-- by what a read and a write of the region gives
by-fetched : (at : Place) (s : tac.State) (o : Option (List ℕ)) (go : List ℕ → tac.Moved) (P : tac.Moved → Type 0) → ((bs : List ℕ) → o ≡ Some bs → P (go bs)) →
    (o ≡ None → P (tac.fault BadAddress at s)) → P (tac.fetched at s o go)
by-fetched at s None go P f g = g refl
by-fetched at s (Some bs) go P f g = f bs refl

by-written : (at : Place) (s : tac.State) (o : Option Contents) (P : tac.Moved → Type 0) → ((r : Contents) → o ≡ Some r → P (tac.Goes (tac.ahead (record s { region = r })))) →
    (o ≡ None → P (tac.fault BadAddress at s)) → P (tac.written at s o)
by-written at s None P f g = g refl
by-written at s (Some r) P f g = f r refl

address-same : (s : tac.State) (a : Address) → address_in (world_of s) a ≡ tac.address s a
address-same s (Word (Temp t)) = refl
address-same s (Word (Constant c)) = refl
address-same s (Frame offset) = refl

carry-area-move : (p : Program) (code : Tac) (homes : List (Option Home)) (held : Option ℕ) (n offset k other size : ℕ) (s : tac.State) (program : List (Option Instr)) (base : ℕ) (m : State) →
    StandsBefore p code homes held (Move (spots.Area n offset) (spots.Area k other) size) s program base m →
    Carried (layout_of code homes) (graph_of code) program base (held_after (Move (spots.Area n offset) (spots.Area k other) size)) (shape_of (layout_of code homes) held (Move (spots.Area n offset) (spots.Area k other) size)) s m (step p s)
carry-area-move p code homes held n offset k other zero s program base m x =
    let fit = move-fits code (spots.Area n offset) (spots.Area k other) 0 x.fits in
    let i : Instruction = Move (spots.Area n offset) (spots.Area k other) 0 in
    let e1 = x.function in
    let e2 = x.in_function in
    let e3 = x.in_block in
    rw (e1, e2, e3)
    (by-test (λ moved. Carried (layout_of code homes) (graph_of code) program base (held_after (Move (spots.Area n offset) (spots.Area k other) 0)) (shape_of (layout_of code homes) held (Move (spots.Area n offset) (spots.Area k other) 0)) s m moved)
    (nat_le (other + 0) (length (s.here.areas k))) _ _
    (λ h.
    by-test (λ moved. Carried (layout_of code homes) (graph_of code) program base (held_after (Move (spots.Area n offset) (spots.Area k other) 0)) (shape_of (layout_of code homes) held (Move (spots.Area n offset) (spots.Area k other) 0)) s m moved)
    (nat_le offset (length (s.here.areas n))) _ _
    (λ g. (
      [],
      nothing-written s.out,
      nothing-comes (layout_of code homes) (used code s) (next code s) (world_of s) base n offset 1 program m x.stands (omega arith) (area-spot code n offset 0 fit.0.0 x.areas).0 x.holds
          (housed code homes s.here.block s.here.at x.right) (fewer p code homes held i s program base m x refl),
      tt,
    ))
    (λ g. tt))
    (λ h. tt))
carry-area-move p code homes held n offset k other (suc size) s program base m x =
    let is : bytes_moved (layout_of code homes) held (spots.Area n offset) (spots.Area k other) (suc size) ≡ some_moved (layout_of code homes) held (spots.Area n offset) (spots.Area k other) (suc size) = some-is (layout_of code homes) held (spots.Area n offset) (spots.Area k other) (suc size) (λ e. omega (arith, e)) in
    let fit = move-fits code (spots.Area n offset) (spots.Area k other) (suc size) x.fits in
    let to = area-spot code n offset (suc size) fit.0.0 x.areas in
    let from = area-spot code k other (suc size) fit.0.1 x.areas in
    let i : Instruction = Move (spots.Area n offset) (spots.Area k other) (suc size) in
    let e1 = x.function in
    let e2 = x.in_function in
    let e3 = x.in_block in
    subst (λ c. Carried (layout_of code homes) (graph_of code) program base None c s m (step p s)) (sym is)
    (rw (e1, e2, e3)
    (by-test (λ moved. Carried (layout_of code homes) (graph_of code) program base None (some_moved (layout_of code homes) held (spots.Area n offset) (spots.Area k other) (suc size)) s m moved)
    (nat_le (other + suc size) (length (s.here.areas k))) _ _
    (λ h.
    by-test (λ moved. Carried (layout_of code homes) (graph_of code) program base None (some_moved (layout_of code homes) held (spots.Area n offset) (spots.Area k other) (suc size)) s m moved)
    (nat_le offset (length (s.here.areas n))) _ _
    (λ g. (
      [],
      nothing-written s.out,
      area-moves (layout_of code homes) held n offset k other (suc size) (used code s) (next code s) (world_of s) base program m (subst (λ c. Stands program m.pc c) is x.stands) to.0 from.0 (apart-areas n k fit.1)
          (leb-true offset (length (s.here.areas n)) g) to.1 (leb-true (other + suc size) (length (s.here.areas k)) h) x.holds
          (housed code homes s.here.block s.here.at x.right) (fewer p code homes held i s program base m x refl),
      tt,
    ))
    (λ g. tt))
    (λ h. tt)))

carry-region-move : (p : Program) (code : Tac) (homes : List (Option Home)) (held : Option ℕ) (n offset : ℕ) (at : Place) (a : Address) (size : ℕ) (s : tac.State) (program : List (Option Instr)) (base : ℕ) (m : State) →
    StandsBefore p code homes held (Move (spots.Area n offset) (spots.Region at a) size) s program base m →
    Carried (layout_of code homes) (graph_of code) program base (held_after (Move (spots.Area n offset) (spots.Region at a) size)) (shape_of (layout_of code homes) held (Move (spots.Area n offset) (spots.Region at a) size)) s m (step p s)
carry-region-move p code homes held n offset at a zero s program base m x =
    let fit = move-fits code (spots.Area n offset) (spots.Region at a) 0 x.fits in
    let i : Instruction = Move (spots.Area n offset) (spots.Region at a) 0 in
    let e1 = x.function in
    let e2 = x.in_function in
    let e3 = x.in_block in
    let none : range_of s.region (tac.address s a) 0 ≡ Some [] = range-none s.region (tac.address s a) 0 refl in
    rw (e1, e2, e3)
    (by-fetched at s (range_of s.region (tac.address s a) 0) (λ bs. tac.to_spot (spots.Area n offset) bs s)
    (λ moved. Carried (layout_of code homes) (graph_of code) program base (held_after (Move (spots.Area n offset) (spots.Region at a) 0)) (shape_of (layout_of code homes) held (Move (spots.Area n offset) (spots.Region at a) 0)) s m moved)
    (λ bs e.
    let same : [] ≡ bs = cc in
    subst
    (λ z. Carried (layout_of code homes) (graph_of code) program base (held_after (Move (spots.Area n offset) (spots.Region at a) 0)) (shape_of (layout_of code homes) held (Move (spots.Area n offset) (spots.Region at a) 0)) s m (tac.to_spot (spots.Area n offset) z s)) same
    (by-test
    (λ moved. Carried (layout_of code homes) (graph_of code) program base (held_after (Move (spots.Area n offset) (spots.Region at a) 0)) (shape_of (layout_of code homes) held (Move (spots.Area n offset) (spots.Region at a) 0)) s m moved)
    (nat_le offset (length (s.here.areas n))) _ _
    (λ g. (
      [],
      nothing-written s.out,
      nothing-comes (layout_of code homes) (used code s) (next code s) (world_of s) base n offset 1 program m x.stands (omega arith)
          (area-spot code n offset 0 fit.0.0 x.areas).0 x.holds (housed code homes s.here.block s.here.at x.right) (fewer p code homes held i s program base m x refl),
      tt,
    ))
    (λ g. tt)))
    (λ e. let no : Some [] ≡ None = sym none ∙ e in cc))
carry-region-move p code homes held n offset at a (suc size) s program base m x =
    let is : bytes_moved (layout_of code homes) held (spots.Area n offset) (spots.Region at a) (suc size) ≡ some_moved (layout_of code homes) held (spots.Area n offset) (spots.Region at a) (suc size) = some-is (layout_of code homes) held (spots.Area n offset) (spots.Region at a) (suc size) (λ e. omega (arith, e)) in
    let fit = move-fits code (spots.Area n offset) (spots.Region at a) (suc size) x.fits in
    let i : Instruction = Move (spots.Area n offset) (spots.Region at a) (suc size) in
    let to = area-spot code n offset (suc size) fit.0.0 x.areas in
    let e1 = x.function in
    let e2 = x.in_function in
    let e3 = x.in_block in
    let both =
    region-moves (layout_of code homes) held n offset at a (suc size) (used code s) (next code s) (world_of s) base program m (subst (λ c. Stands program m.pc c) is x.stands) x.five (spot-place code at (suc size) a fit.0.1)
    (address-reached code (layout_of code homes) held (used code s) s at (suc size) a fit.0.1 x.frame (reads p code homes held i s program base m x) x.asked) (omega arith) to.0 to.1 x.holds
    (housed code homes s.here.block s.here.at x.right) (fewer p code homes held i s program base m x refl) in
    let there = address-same s a in
    subst (λ c. Carried (layout_of code homes) (graph_of code) program base None c s m (step p s)) (sym is)
    (rw (e1, e2, e3)
    (by-fetched at s (range_of s.region (tac.address s a) (suc size)) (λ bs. tac.to_spot (spots.Area n offset) bs s)
    (λ moved. Carried (layout_of code homes) (graph_of code) program base None (some_moved (layout_of code homes) held (spots.Area n offset) (spots.Region at a) (suc size)) s m moved)
    (λ bs e.
    by-test
    (λ moved. Carried (layout_of code homes) (graph_of code) program base None (some_moved (layout_of code homes) held (spots.Area n offset) (spots.Region at a) (suc size)) s m moved)
    (nat_le offset (length (s.here.areas n))) _ _
    (λ g. ([], nothing-written s.out, both.0 bs (ap (λ z. range_of s.region z (suc size)) there ∙ e) (leb-true offset (length (s.here.areas n)) g), tt))
    (λ g. tt))
    (λ e. (refl, both.1 (ap (λ z. range_of s.region z (suc size)) there ∙ e)))))

carry-move-out : (p : Program) (code : Tac) (homes : List (Option Home)) (held : Option ℕ) (at : Place) (a : Address) (n offset size : ℕ) (s : tac.State) (program : List (Option Instr)) (base : ℕ) (m : State) →
    StandsBefore p code homes held (Move (spots.Region at a) (spots.Area n offset) size) s program base m →
    Carried (layout_of code homes) (graph_of code) program base (held_after (Move (spots.Region at a) (spots.Area n offset) size)) (shape_of (layout_of code homes) held (Move (spots.Region at a) (spots.Area n offset) size)) s m (step p s)
carry-move-out p code homes held at a n offset zero s program base m x =
    let i : Instruction = Move (spots.Region at a) (spots.Area n offset) 0 in
    let e1 = x.function in
    let e2 = x.in_function in
    let e3 = x.in_block in
    let none : put_bytes s.region (tac.address s a) [] ≡ Some s.region = put-none s.region (tac.address s a) in
    rw (e1, e2, e3)
    (by-test
    (λ moved. Carried (layout_of code homes) (graph_of code) program base (held_after (Move (spots.Region at a) (spots.Area n offset) 0)) (shape_of (layout_of code homes) held (Move (spots.Region at a) (spots.Area n offset) 0)) s m moved)
    (nat_le (offset + 0) (length (s.here.areas n))) _ _
    (λ h.
    by-written at s (put_bytes s.region (tac.address s a) [])
    (λ moved. Carried (layout_of code homes) (graph_of code) program base (held_after (Move (spots.Region at a) (spots.Area n offset) 0)) (shape_of (layout_of code homes) held (Move (spots.Region at a) (spots.Area n offset) 0)) s m moved)
    (λ r e.
    let same : s.region ≡ r = cc in (
      [],
      nothing-written s.out,
      subst (λ z. Comes (layout_of code homes) program (next code s) (with_region (world_of s) z) base 1
          (behind m (shape_of (layout_of code homes) held (Move (spots.Region at a) (spots.Area n offset) 0))) [] m) same
          (nothing-happens (layout_of code homes) (used code s) (next code s) (world_of s) base 1 program m x.stands (omega arith) x.holds
          (housed code homes s.here.block s.here.at x.right) (fewer p code homes held i s program base m x refl)),
      tt,
    ))
    (λ e. let no : Some s.region ≡ None = sym none ∙ e in cc))
    (λ h. tt))
carry-move-out p code homes held at a n offset (suc size) s program base m x =
    let is : bytes_moved (layout_of code homes) held (spots.Region at a) (spots.Area n offset) (suc size) ≡ some_moved (layout_of code homes) held (spots.Region at a) (spots.Area n offset) (suc size) = some-is (layout_of code homes) held (spots.Region at a) (spots.Area n offset) (suc size) (λ e. omega (arith, e)) in
    let fit = move-fits code (spots.Region at a) (spots.Area n offset) (suc size) x.fits in
    let i : Instruction = Move (spots.Region at a) (spots.Area n offset) (suc size) in
    let from = area-spot code n offset (suc size) fit.0.1 x.areas in
    let e1 = x.function in
    let e2 = x.in_function in
    let e3 = x.in_block in
    let there = address-same s a in
    subst (λ c. Carried (layout_of code homes) (graph_of code) program base None c s m (step p s)) (sym is)
    (rw (e1, e2, e3)
    (by-test
    (λ moved. Carried (layout_of code homes) (graph_of code) program base None (some_moved (layout_of code homes) held (spots.Region at a) (spots.Area n offset) (suc size)) s m moved)
    (nat_le (offset + suc size) (length (s.here.areas n))) _ _
    (λ h.
    let both =
    stores-moved (layout_of code homes) held at a n offset (suc size) (used code s) (next code s) (world_of s) base program m (subst (λ c. Stands program m.pc c) is x.stands) x.five (spot-place code at (suc size) a fit.0.0)
    (address-reached code (layout_of code homes) held (used code s) s at (suc size) a fit.0.0 x.frame
    (λ t u. reads p code homes held i s program base m x t (has-left (address_reads a) [] t u)) (λ t u. x.asked t (has-left (address_asks held a) [] t u))) (omega arith) from.0
    (leb-true (offset + suc size) (length (s.here.areas n)) h) x.holds (housed code homes s.here.block s.here.at x.right) (fewer p code homes held i s program base m x refl) in
    by-written at s (put_bytes s.region (tac.address s a) (part (s.here.areas n) offset (suc size)))
    (λ moved. Carried (layout_of code homes) (graph_of code) program base None (some_moved (layout_of code homes) held (spots.Region at a) (spots.Area n offset) (suc size)) s m moved)
    (λ r e. ([], nothing-written s.out, both.0 r (ap (λ z. put_bytes s.region z (part (s.here.areas n) offset (suc size))) there ∙ e), tt))
    (λ e. (refl, both.1 (ap (λ z. put_bytes s.region z (part (s.here.areas n) offset (suc size))) there ∙ e))))
    (λ h. tt)))

pub instructions : InstructionsAreCarried
instructions p code homes held (Compute d op form a b) s program base m h x = carry-compute p code homes held d op form a b s program base m x
instructions p code homes held (TestDivisor at a) s program base m h x = carry-test p code homes held at a s program base m x
instructions p code homes held (Copy d a) s program base m h x = carry-copy p code homes held d a s program base m x
instructions p code homes held (Locate d offset) s program base m h x = carry-locate p code homes held d offset s program base m x
instructions p code homes held (Load d form (spots.Region at a)) s program base m h x = carry-load p code homes held d form at a s program base m x
instructions p code homes held (Load d form (spots.Area n offset)) s program base m h x = carry-area-load p code homes held d form n offset s program base m x
instructions p code homes held (Store (spots.Region at a) size b) s program base m h x = carry-store p code homes held size at a b s program base m x
instructions p code homes held (Store (spots.Area n offset) size b) s program base m h x = carry-area-store p code homes held size n offset b s program base m x
instructions p code homes held (Move (spots.Area n offset) (spots.Area k other) size) s program base m h x = carry-area-move p code homes held n offset k other size s program base m x
instructions p code homes held (Move (spots.Area n offset) (spots.Region at a) size) s program base m h x = carry-region-move p code homes held n offset at a size s program base m x
instructions p code homes held (Move (spots.Region at a) (spots.Area n offset) size) s program base m h x = carry-move-out p code homes held at a n offset size s program base m x
instructions p code homes held (Move (spots.Region at a) (spots.Region other b) size) s program base m h x =
    let none : false ≡ true = (move-fits code (spots.Region at a) (spots.Region other b) size x.fits).1 in cc
instructions p code homes held (Clear n size) s program base m h x = carry-clear p code homes held n size s program base m (leb-true size most_moved h) x
instructions p code homes held (Call to at f arguments) s program base m h x = cc
instructions p code homes held (CallValue to at sig a arguments) s program base m h x = cc
instructions p code homes held (PutByte a) s program base m h x = carry-byte p code homes held a s program base m x
instructions p code homes held (Write at a b) s program base m h x = carry-write p code homes held at a b s program base m x
instructions p code homes held (Alloc d a) s program base m h x = carry-alloc p code homes held d a s program base m x
