-- Code without the blocks that no way leads to runs as before: a run stands only in blocks that are reached, and each step does the same.
use Rattle.std.proofs.Common.{◌≡◌, ℕ, zero, suc, ◌≤◌, List, [], ◌∷◌, Option, Some, None, true, refl, sym, ap, ◌∙◌, subst, arith}
use Rattle.std.specs.Prelude.{slice_get, option_map}
use Rattle.tl_base.specs.declared.ids.FnId.{FnId}
use Rattle.terra_memory.specs.Region.{Contents, end_address, fresh}
use Rattle.terra_words.specs.Runs.{Value, Stuck, Run, Over}
use Rattle.tac_form.specs.declared.tac.Destination.{Destination}
use Rattle.tac_form.specs.declared.tac.Destination.TheVariants as destinations
use Rattle.tac_form.specs.declared.tac.Instruction.{Instruction}
use Rattle.tac_form.specs.declared.tac.Block.{Block}
use Rattle.tac_form.specs.declared.tac.Tac.{Tac}
use Rattle.tac_form.specs.Flow.{Areas, Activation, Caller, State, Moved, Goes, Stops, takes, takes_all, Program, enter, act, give, leave}
use Rattle.tac_form.specs.Flow.{step_in, in_block, in_function, step, steps, place_of, begun, TacRun}
use Rattle.tac_form.specs.Graph.{instruction_write}
use Rattle.tac_copies.specs.Reached.{is_reached, reached_blocks, reached_code}
use Rattle.tac_copies.specs.Laws.{IsMade}
use Rattle.tac_copies.proofs.Alike.{twin, acted, entered, waiting, fresh_in, called, back, with_blocks, HasBlocks, same-values, Paired}
use Rattle.tac_copies.proofs.Alike.{paired-long, act-alike, call-alike, enter-alike, give-alike, leave-within, own-in, own-exit}
use Rattle.tac_copies.proofs.ReachedNext.{first-reached, next-reached}
use Rattle.tac_copies.proofs.ReachedBlocks.{same-block}

-- a call stands in a block that is reached
abbrev Stands : Program → Activation → Type 0
Stands p a = (code : Tac) → p.code a.function ≡ Some code → is_reached code a.block ≡ true

record Waits (p : Program) (c d : Caller) : Type 0 where
  same : d ≡ c
  stands : Stands p c.waits

record Related (p : Program) (s : State) (callers : List Caller) : Type 0 where
  here : Stands p s.here
  others : Paired (Waits p) s.callers callers

abbrev kept_blocks : Tac → List Block
kept_blocks code = reached_blocks (is_reached code) code.blocks

-- a call begins in the first block
takes-block : (d : Destination) (v : Value) (a : Activation) → (takes d v a).block ≡ a.block
takes-block (destinations.Temp t) v a = refl
takes-block (destinations.Area n) v a = refl
takes-block destinations.Nothing v a = refl

takes_all-block : (ds : List Destination) (vs : List Value) (a : Activation) → (takes_all ds vs a).block ≡ a.block
takes_all-block [] vs a = refl
takes_all-block (d ∷ ds) [] a = refl
takes_all-block (d ∷ ds) (v ∷ vs) a = takes_all-block ds vs (takes d v a) ∙ takes-block d v a

fresh-stands : (p : Program) (f : FnId) (code : Tac) (arguments : List Value) (top : ℕ) →
    Stands p (takes_all code.parameters arguments (fresh_in f code top))
fresh-stands p f code arguments top c h =
    subst (λ b. is_reached c b ≡ true) (sym (takes_all-block code.parameters arguments (fresh_in f code top))) (first-reached c)

stopped : (p : Program) (k : ℕ) (r : Run) → steps p k (Stops r) ≡ Stops r
stopped p zero r = refl
stopped p (suc k) r = refl

-- ---- runs

module _ (p q : Program) (made : HasBlocks kept_blocks p q) (r : Run) where
  abbrev Ends : Moved → Type 0
  Ends m = (k : ℕ) × (steps q k m ≡ Stops r)

  -- what ends so in at most so many steps ends so after the other
  abbrev Answered : ℕ → Moved → Moved → Type 0
  Answered n m new = (k : ℕ) → k ≤ n → steps p k m ≡ Stops r → Ends new

  stops : (n : ℕ) (x : Run) → Answered n (Stops x) (Stops x)
  stops n x k less e = (0, sym (stopped p k x) ∙ e)

  abbrev AllAnswered : ℕ → Type 0
  AllAnswered n =
      (s : State) (callers : List Caller) → Related p s callers → Answered n (Goes s) (Goes (twin s s.here.at s.here.temps callers))

  waits-same : (c d : Caller) → Waits p c d → (d.waits.function ≡ c.waits.function) × (d.to ≡ c.to)
  waits-same c d w = (ap (λ z. z.waits.function) w.same, ap (λ z. z.to) w.same)

  module _ (n : ℕ) (ih : AllAnswered n) (s : State) (callers : List Caller) (related : Related p s callers) where
    abbrev new : State
    new = twin s s.here.at s.here.temps callers

    -- a result is taken by who waited
    takes-on : (to : Destination) (v : Value) (a : Activation) (cs ds : List Caller) → Stands p a → Paired (Waits p) cs ds →
        Answered n (Goes (record s { here = takes to v a; callers = cs })) (Goes (record new { here = takes to v a; callers = ds }))
    takes-on (destinations.Temp t) v a cs ds st w =
        ih (record s { here = takes (destinations.Temp t) v a; callers = cs }) ds (record { here = st; others = w })
    takes-on (destinations.Area m) v a cs ds st w =
        ih (record s { here = takes (destinations.Area m) v a; callers = cs }) ds (record { here = st; others = w })
    takes-on destinations.Nothing v a cs ds st w = ih (record s { here = a; callers = cs }) ds (record { here = st; others = w })

    backs : (v : Value) (c d : Caller) (cs ds : List Caller) → Waits p c d → Paired (Waits p) cs ds →
        Answered n (Goes (back v c cs s)) (Goes (back v d ds new))
    backs v c d cs ds w others =
        subst (λ z. Answered n (Goes (back v c cs s)) (Goes (back v z ds new))) (sym w.same)
        (takes-on c.to v c.waits cs ds w.stands others)

    gives : (v : Value) → Answered n (give p v s.callers s) (give q v callers new)
    gives v =
        give-alike (Answered n) (stops n) kept_blocks p q made (Waits p) waits-same s s.here.at s.here.temps callers v s.callers callers
        related.others
        (λ c d cs ds w others. backs v c d cs ds w others)

    enters : (block left : ℕ) → ((code : Tac) → p.code s.here.function ≡ Some code → is_reached code block ≡ true) →
        Answered n (Goes (entered block left s)) (Goes (entered block left new))
    enters block left st = ih (entered block left s) callers (record { here = st; others = related.others })

    -- what follows an instruction that isn't a call
    does : (w : Option ℕ) (v : ℕ) (areas : Areas) (region : Contents) (out : List ℕ) →
        Answered n (Goes (acted w v areas region out s)) (Goes (acted w v areas region out new))
    does w v areas region out =
        ih (acted w v areas region out s) callers (record { here = related.here; others = related.others })

    -- and a call
    calls : (to : Destination) (g : FnId) (code : Tac) (arguments : List Value) (left : ℕ) →
        Answered n (Goes (called to g code arguments left s)) (Goes (called to g code arguments left new))
    calls to g code arguments left =
        ih (called to g code arguments left s) (waiting to new ∷ callers)
        (record {
          here = fresh-stands p g code arguments s.here.base;
          others = (record { same = refl; stands = related.here }, related.others);
        })

    acts : (i : Instruction) → Answered n (act p i s) (act q i new)
    acts i =
        subst (λ j. Answered n (act p i s) (act q j new)) (own-in i)
        (act-alike (λ t. t) s s.here.at s.here.temps callers (Answered n) (stops n) p q (same-values kept_blocks p q made) i
        (λ t h. refl) (does (instruction_write i))
        (λ to w place f arguments.
        call-alike (λ t. t) s s.here.at s.here.temps callers (Answered n) (stops n) kept_blocks p q made
        (paired-long (Waits p) s.callers callers related.others) to place f arguments
        (λ c e left. calls to f c arguments left)))

    module _ (code : Tac) (is_code : p.code s.here.function ≡ Some code) (block : Block)
        (is_block : slice_get code.blocks s.here.block ≡ Some block) where
      one : (c : Tac) → p.code s.here.function ≡ Some c → code ≡ c
      one c g = let codes : Some code ≡ Some c = sym is_code ∙ g in cc

      leaves : Answered n (leave p block.exit s) (leave q block.exit new)
      leaves =
          subst (λ e. Answered n (leave p block.exit s) (leave q e new)) (own-exit block.exit)
          (leave-within (λ t. t) s s.here.at s.here.temps callers (Answered n) (stops n) p q block.exit (λ t h. refl)
          (λ b left h. enters b left
          (λ c g. subst (λ z. is_reached z b ≡ true) (one c g)
          (next-reached code s.here.block b block is_block (related.here code is_code) h)))
          gives)

      stands-at : (o : Option Instruction) → Answered n (step_in p block.exit o s) (step_in q block.exit o new)
      stands-at None = leaves
      stands-at (Some i) = acts i

    blocked : (code : Tac) → p.code s.here.function ≡ Some code → (o : Option Block) → slice_get code.blocks s.here.block ≡ o →
        Answered n (in_block p o s) (in_block q o new)
    blocked code e None f = stops n (Over Stuck s.out)
    blocked code e (Some block) f = stands-at code e block f (slice_get block.instructions s.here.at)

    function : (o : Option Tac) → p.code s.here.function ≡ o →
        Answered n (in_function p o s) (in_function q (option_map (with_blocks kept_blocks) o) new)
    function None e = stops n (Over Stuck s.out)
    function (Some code) e =
        subst (λ o. Answered n (in_block p (slice_get code.blocks s.here.block) s) (in_block q o new))
        (sym (same-block (is_reached code) code.blocks s.here.block (related.here code e)))
        (blocked code e (slice_get code.blocks s.here.block) refl)

    stepped : Answered n (step p s) (step q new)
    stepped =
        subst (λ o. Answered n (step p s) (in_function q o new)) (sym (made.code s.here.function)) (function (p.code s.here.function) refl)

  answered : (n : ℕ) → AllAnswered n
  answered n s callers related zero less e = absurd cc
  answered zero s callers related (suc k) less e = absurd (omega (arith, less))
  answered (suc n) s callers related (suc k) less e =
      let rest : Ends (step q (twin s s.here.at s.here.temps callers)) =
      stepped n (answered n) s callers related k (omega (arith, less)) e in
      (suc rest.0, rest.1)

  -- a function begins
  entered-first : (n : ℕ) (s : State) (top : ℕ) (f : FnId) (o : Option Tac) (arguments : List Value) →
      Answered n (enter (place_of o) f o arguments top [] s)
      (enter (place_of (option_map (with_blocks kept_blocks) o)) f (option_map (with_blocks kept_blocks) o) arguments top [] s)
  entered-first n s top f None arguments = stops n (Over Stuck s.out)
  entered-first n s top f (Some code) arguments =
      enter-alike (Answered n) (stops n) kept_blocks s s.here.at s.here.temps s.callers code.place f (Some code) arguments top [] []
      refl
      (λ c e.
      answered n (record s { callers = []; here = takes_all c.parameters arguments (fresh_in f c top) }) []
      (record { here = fresh-stands p f c arguments top; others = tt }))

  same-run : (statics : List ℕ) (memory m : ℕ) (f : FnId) (arguments : List Value) → TacRun p statics memory m f arguments r →
      TacRun q statics memory m f arguments r
  same-run statics memory m f arguments ran =
      let region : Contents = fresh memory statics in
      let nowhere : Activation =
      record { function = f; block = 0; at = 0; temps = λ t. 0; areas = λ a. []; base = end_address region } in
      let first : State = record { here = nowhere; callers = []; region = region; left = m; out = [] } in
      subst (λ o. Answered ran.0 (begun p statics memory m f arguments) (enter (place_of o) f o arguments (end_address region) [] first))
      (sym (made.code f))
      (entered-first ran.0 first (end_address region) f (p.code f) arguments) ran.0 (omega arith) ran.1

has-blocks : (p q : Program) → IsMade reached_code p q → HasBlocks kept_blocks p q
unfolding reached_code
has-blocks p q made = record { code = made.code; entries = made.entries }

pub reached-runs : (p q : Program) → IsMade reached_code p q → (statics : List ℕ) (memory n : ℕ) (f : FnId) (arguments : List Value)
    (r : Run) → TacRun p statics memory n f arguments r → TacRun q statics memory n f arguments r
reached-runs p q made statics memory n f arguments r ran = same-run p q (has-blocks p q made) r statics memory n f arguments ran
