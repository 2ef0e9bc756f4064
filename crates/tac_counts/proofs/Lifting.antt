-- What a step does with one count more.
use Rattle.std.proofs.Common.{◌≡◌, ℕ, zero, suc, ◌-◌, ◌<◌, Bool, true, false, List, [], ◌∷◌, refl, sym, ap, ◌∙◌, subst, arith, Option, Some, None, slice_get}
use Rattle.std.specs.Prelude.{if◌then◌else◌, nat_eq, nat_le, nat_lt, length, ◌+◌, ◌&&◌}
use Rattle.tl_base.specs.declared.ids.FnId.{FnId}
use Rattle.tl_base.specs.declared.place.Place.{Place}
use Rattle.terra_memory.specs.Region.{Contents, range_of, heap_limit}
use Rattle.terra_words.specs.declared.words.FaultKind.TheVariants.{BadCall}
use Rattle.terra_words.specs.Words.{divides, is_negative, most_calls}
use Rattle.terra_words.specs.Runs.{Value, word, put_bytes, End, Over, More, Run}
use Rattle.tac_form.specs.declared.tac.Operand.{Operand}
use Rattle.tac_form.specs.declared.tac.Operand.TheVariants as operands
use Rattle.tac_form.specs.declared.tac.Address.{Address}
use Rattle.tac_form.specs.declared.tac.Address.TheVariants as addresses
use Rattle.tac_form.specs.declared.tac.Spot.{Spot}
use Rattle.tac_form.specs.declared.tac.Spot.TheVariants as spots
use Rattle.tac_form.specs.declared.tac.Part.{Part}
use Rattle.tac_form.specs.declared.tac.Part.TheVariants as parts
use Rattle.tac_form.specs.declared.tac.Destination.{Destination}
use Rattle.tac_form.specs.declared.tac.Instruction.{Instruction}
use Rattle.tac_form.specs.declared.tac.Instruction.TheVariants as i
use Rattle.tac_form.specs.declared.tac.Edge.{Edge}
use Rattle.tac_form.specs.declared.tac.Exit.{Exit}
use Rattle.tac_form.specs.declared.tac.Exit.TheVariants as x
use Rattle.tac_form.specs.declared.tac.Block.{Block}
use Rattle.tac_form.specs.declared.tac.Signature.{Signature}
use Rattle.tac_form.specs.declared.tac.Tac.{Tac}
use Rattle.tac_form.specs.Flow as tac
use Rattle.tac_form.specs.Flow.{Program, State, Caller, Moved, Goes, Stops, operand, address, value_of, values_of, from_spot, to_spot, fetched, written}
use Rattle.tac_form.specs.Flow.{enter, counted, call, call_entry, has_signature, entry, act, follow, given, give, leave, step_in, in_block, in_function, step, steps}
use Rattle.tac_counts.specs.Counts.{exit_takes, entry_takes, instruction_takes, step_takes, block_takes, function_takes, takes, left_behind, left_in, left_after}

abbrev pub lift : State → State
lift s = record s { left = suc s.left }

-- one is what the other is with one count more, unless it needs more
abbrev pub Lifts : Moved → Moved → Type 0
Lifts (Goes t) m = m ≡ Goes (lift t)
Lifts (Stops (Over e out)) m = m ≡ Stops (Over e out)
Lifts (Stops (More out)) m = Unit {0}

-- what a step does to the counts
abbrev pub Taken : Bool → State → Moved → Type 0
Taken true s (Goes t) = suc t.left ≡ s.left
Taken false s (Goes t) = t.left ≡ s.left
Taken true s (Stops (Over e out)) = 0 < s.left
Taken false s (Stops (Over e out)) = Unit {0}
Taken b s (Stops (More out)) = (b ≡ true) × (s.left ≡ 0)

abbrev pub Does : Bool → State → Moved → Moved → Type 0
Does b s m n = Taken b s m × Lifts m n

operand-lift : (s : State) (a : Operand) → operand (lift s) a ≡ operand s a
operand-lift s (operands.Temp t) = refl
operand-lift s (operands.Constant c) = refl

address-lift : (s : State) (a : Address) → address (lift s) a ≡ address s a
address-lift s (addresses.Word a) = operand-lift s a
address-lift s (addresses.Frame o) = refl

value-lift : (s : State) (p : Part) → value_of (lift s) p ≡ value_of s p
value-lift s (parts.Word a) = ap (λ n. word n) (operand-lift s a)
value-lift s (parts.Area n) = refl

values-lift : (s : State) (ps : List Part) → values_of (lift s) ps ≡ values_of s ps
values-lift s [] = refl
values-lift s (p ∷ ps) = rw (value-lift s p, values-lift s ps) refl

does-if : (b : Bool) (t : Bool) (s : State) (m n m' n' : Moved) → Does b s m m' → Does b s n n' →
    Does b s (if t then m else n) (if t then m' else n')
does-if b true s m n m' n' h k = h
does-if b false s m n m' n' h k = k

written-does : (at : Place) (s : State) (o : Option Contents) → Does false s (written at s o) (written at (lift s) o)
written-does at s None = (tt, refl)
written-does at s (Some r) = (refl, refl)

to-does : (to : Spot) (bs : List ℕ) (s : State) → Does false s (to_spot to bs s) (to_spot to bs (lift s))
to-does (spots.Region at a) bs s = rw (address-lift s a) (written-does at s (put_bytes s.region (address s a) bs))
to-does (spots.Area n offset) bs s =
    does-if false (nat_le offset (length (s.here.areas n))) s _ _ _ _ (refl, refl) (tt, refl)

fetched-does : (at : Place) (s : State) (o : Option (List ℕ)) (go go' : List ℕ → Moved) → ((bs : List ℕ) → Does false s (go bs) (go' bs)) →
    Does false s (fetched at s o go) (fetched at (lift s) o go')
fetched-does at s None go go' h = (tt, refl)
fetched-does at s (Some bs) go go' h = h bs

from-does : (from : Spot) (size : ℕ) (s : State) (go go' : List ℕ → Moved) → ((bs : List ℕ) → Does false s (go bs) (go' bs)) →
    Does false s (from_spot from size s go) (from_spot from size (lift s) go')
from-does (spots.Region at a) size s go go' h =
    rw (address-lift s a) (fetched-does at s (range_of s.region (address s a) size) go go' h)
from-does (spots.Area n offset) size s go go' h =
    does-if false (nat_le (offset + size) (length (s.here.areas n))) s _ _ _ _ (h _) (tt, refl)

-- ---- calls

enter-does : (at : Place) (f : FnId) (code : Option Tac) (vs : List Value) (top : ℕ) (cs : List Caller) (s : State) →
    Does false s (enter at f code vs top cs s) (enter at f code vs top cs (lift s))
enter-does at f None vs top cs s = (tt, refl)
enter-does at f (Some code) vs top cs s =
    does-if false (nat_le most_calls (length cs)) s _ _ _ _ (tt, refl)
    (does-if false (nat_lt top (heap_limit s.region + code.frame)) s _ _ _ _ (tt, refl)
    (does-if false (tac.accepts_all code code.parameters vs) s _ _ _ _ (refl, refl) (tt, refl)))

-- one that goes on from one count fewer takes a count
counted-does : (l : ℕ) (s : State) (go : State → Moved) → s.left ≡ l → ((t : State) → Does false t (go t) (go (lift t))) →
    Does true s (counted l s go) (counted (suc l) (lift s) go)
counted-does zero s go e h = ((refl, e), tt)
counted-does (suc l) s go e h = (taken (go (record s { left = l })) (h (record s { left = l })).0, (h (record s { left = l })).1)
  where
    taken : (m : Moved) → Taken false (record s { left = l }) m → Taken true s m
    taken (Goes t) k = ap (λ n. suc n) k ∙ sym e
    taken (Stops (Over end out)) k = omega (arith, e)
    taken (Stops (More out)) k = absurd (cc k.0)

call-does : (p : Program) (to : Destination) (at : Place) (f : FnId) (vs : List Value) (s : State) →
    Does true s (call p to at f vs s) (call p to at f vs (lift s))
call-does p to at f vs s =
    counted-does s.left s (λ s'. enter at f (p.code f) vs s'.here.base (record { waits = (tac.ahead s').here; to = to } ∷ s'.callers) s') refl
    (λ t. enter-does at f (p.code f) vs t.here.base (record { waits = (tac.ahead t).here; to = to } ∷ t.callers) t)

entry-does : (p : Program) (to : Destination) (at : Place) (sig : Signature) (o : Option FnId) (vs : List Value) (s : State) →
    Does (entry_takes p sig o) s (call_entry p to at sig o vs s) (call_entry p to at sig o vs (lift s))
entry-does p to at sig None vs s = (tt, refl)
entry-does p to at sig (Some f) vs s = by (has_signature sig (p.code f))
  where
    by : (b : Bool) → Does b s (if b then call p to at f vs s else tac.fault BadCall at s)
        (if b then call p to at f vs (lift s) else tac.fault BadCall at (lift s))
    by true = call-does p to at f vs s
    by false = (tt, refl)

-- ---- instructions and exits

act-does : (p : Program) (one : Instruction) (s : State) → Does (instruction_takes p s one) s (act p one s) (act p one (lift s))
act-does p (i.Compute d op form a b) s =
    rw (operand-lift s a, operand-lift s b)
    (does-if false (divides op && nat_eq (operand s b) 0) s _ _ _ _ (tt, refl) (refl, refl))
act-does p (i.TestDivisor at a) s = rw (operand-lift s a) (does-if false (nat_eq (operand s a) 0) s _ _ _ _ (tt, refl) (refl, refl))
act-does p (i.Copy d a) s = rw (operand-lift s a) (refl, refl)
act-does p (i.Locate d offset) s = (refl, refl)
act-does p (i.Load d form spot) s = from-does spot (tac.bytes_of form.size) s _ _ (λ bs. (refl, refl))
act-does p (i.Store spot size a) s = rw (operand-lift s a) (to-does spot _ s)
act-does p (i.Move to from size) s = from-does from size s _ _ (λ bs. to-does to bs s)
act-does p (i.Clear n size) s = (refl, refl)
act-does p (i.Call to at f arguments) s = rw (values-lift s arguments) (call-does p to at f (values_of s arguments) s)
act-does p (i.CallValue to at sig a arguments) s =
    rw (operand-lift s a, values-lift s arguments) (entry-does p to at sig (entry p.entries (operand s a)) (values_of s arguments) s)
act-does p (i.PutByte a) s = rw (operand-lift s a) (refl, refl)
act-does p (i.Write at a b) s =
    rw (operand-lift s a, operand-lift s b)
    (does-if false (is_negative (operand s b)) s _ _ _ _ (tt, refl)
    (fetched-does at s (range_of s.region (operand s a) (operand s b)) _ _ (λ bs. (refl, refl))))
act-does p (i.Alloc d a) s = rw (operand-lift s a) (refl, refl)

follow-does : (e : Edge) (s : State) → Does e.counts s (follow e s) (follow e (lift s))
follow-does e s = by e.counts
  where
    go : State → Moved
    go s' = Goes (record s' { here = record s'.here { block = e.block; at = 0 } })

    by : (b : Bool) → Does b s (if b then counted s.left s go else go s) (if b then counted (suc s.left) (lift s) go else go (lift s))
    by true = counted-does s.left s go refl (λ t. (refl, refl))
    by false = (refl, refl)

given-does : (v : Value) (o : Option Tac) (c : Caller) (cs : List Caller) (s : State) → Does false s (given v o c cs s) (given v o c cs (lift s))
given-does v None c cs s = (tt, refl)
given-does v (Some code) c cs s = does-if false (tac.accepts code c.to v) s _ _ _ _ (refl, refl) (tt, refl)

give-does : (p : Program) (v : Value) (cs : List Caller) (s : State) → Does false s (give p v cs s) (give p v cs (lift s))
give-does p v [] s = (tt, refl)
give-does p v (c ∷ cs) s = given-does v (p.code c.waits.function) c cs s

leave-does : (p : Program) (exit : Exit) (s : State) → Does (exit_takes s exit) s (leave p exit s) (leave p exit (lift s))
leave-does p (x.Jump e) s = follow-does e s
leave-does p (x.Branch a e f) s = rw (operand-lift s a) (by (nat_eq (operand s a) 0))
  where
    by : (b : Bool) → Does (if b then f.counts else e.counts) s (if b then follow f s else follow e s)
        (if b then follow f (lift s) else follow e (lift s))
    by true = follow-does f s
    by false = follow-does e s
leave-does p (x.Return v) s = rw (value-lift s v) (give-does p (value_of s v) s.callers s)
leave-does p (x.Fail kind at) s = (tt, refl)

step-in-does : (p : Program) (exit : Exit) (o : Option Instruction) (s : State) →
    Does (step_takes p s exit o) s (step_in p exit o s) (step_in p exit o (lift s))
step-in-does p exit None s = leave-does p exit s
step-in-does p exit (Some one) s = act-does p one s

in-block-does : (p : Program) (o : Option Block) (s : State) → Does (block_takes p s o) s (in_block p o s) (in_block p o (lift s))
in-block-does p None s = (tt, refl)
in-block-does p (Some b) s = step-in-does p b.exit (slice_get b.instructions s.here.at) s

in-function-does : (p : Program) (o : Option Tac) (s : State) → Does (function_takes p s o) s (in_function p o s) (in_function p o (lift s))
in-function-does p None s = (tt, refl)
in-function-does p (Some code) s = in-block-does p (slice_get code.blocks s.here.block) s

pub step-does : (p : Program) (s : State) → Does (takes p s) s (step p s) (step p (lift s))
step-does p s = in-function-does p (p.code s.here.function) s

-- ---- runs

pub stops-stay : (p : Program) (k : ℕ) (r : Run) → steps p k (Stops r) ≡ Stops r
stops-stay p zero r = refl
stops-stay p (suc k) r = refl

-- what is left never rises, so where nothing is left nothing is left at the end
none-left : (p : Program) (k : ℕ) (s : State) (r : Run) → s.left ≡ 0 → steps p k (Goes s) ≡ Stops r → left_in p k s ≡ 0
none-left p zero s r e h = absurd (cc h)
none-left p (suc k) s r e h = by (λ t q w. none-left p k t r q w) (step p s) refl
  where
    behind : left_behind p s ≡ 0
    behind = at (takes p s)
      where
        at : (b : Bool) → (if b then s.left - 1 else s.left) ≡ 0
        at true = omega (arith, e)
        at false = e

    by : ((t : State) → t.left ≡ 0 → steps p k (Goes t) ≡ Stops r → left_in p k t ≡ 0) → (m : Moved) → step p s ≡ m →
        left_after (step p s) (left_in p k) (left_behind p s) ≡ 0
    by again (Goes t) is =
        let took : Taken (takes p s) s (Goes t) = subst (λ m. Taken (takes p s) s m) is (step-does p s).0 in
        rw is (again t (less (takes p s) took) (sym (ap (λ m. steps p k m) is) ∙ h))
      where
        less : (b : Bool) → Taken b s (Goes t) → t.left ≡ 0
        less true q = omega (arith, q, e)
        less false q = q ∙ e
    by again (Stops o) is = rw is behind

-- which steps take a count doesn't depend on how many are left
exit-lift : (s : State) (e : Exit) → exit_takes (lift s) e ≡ exit_takes s e
exit-lift s (x.Jump e) = refl
exit-lift s (x.Branch a e f) = rw (operand-lift s a) refl
exit-lift s (x.Return v) = refl
exit-lift s (x.Fail kind at) = refl

instruction-lift : (p : Program) (s : State) (one : Instruction) → instruction_takes p (lift s) one ≡ instruction_takes p s one
instruction-lift p s (i.CallValue to at sig a arguments) = rw (operand-lift s a) refl
instruction-lift p s one = refl

takes-lift : (p : Program) (s : State) → takes p (lift s) ≡ takes p s
takes-lift p s = at-function (p.code s.here.function)
  where
    at-step : (e : Exit) (o : Option Instruction) → step_takes p (lift s) e o ≡ step_takes p s e o
    at-step e None = exit-lift s e
    at-step e (Some one) = instruction-lift p s one

    at-block : (o : Option Block) → block_takes p (lift s) o ≡ block_takes p s o
    at-block None = refl
    at-block (Some b) = at-step b.exit (slice_get b.instructions s.here.at)

    at-function : (o : Option Tac) → function_takes p (lift s) o ≡ function_takes p s o
    at-function None = refl
    at-function (Some code) = at-block (slice_get code.blocks s.here.block)

-- where the one count more is taken, nothing is left
none-after : (p : Program) (k : ℕ) (s : State) (r : Run) → (takes p s ≡ true) × (s.left ≡ 0) → steps p (suc k) (Goes (lift s)) ≡ Stops r →
    left_in p (suc k) (lift s) ≡ 0
none-after p k s r more h = by (step p (lift s)) refl
  where
    counted-up : takes p (lift s) ≡ true
    counted-up = takes-lift p s ∙ more.0

    by : (m : Moved) → step p (lift s) ≡ m → left_after (step p (lift s)) (left_in p k) (left_behind p (lift s)) ≡ 0
    by (Goes t) is =
        let did : Taken true (lift s) (step p (lift s)) =
        subst (λ b. Taken b (lift s) (step p (lift s))) counted-up (step-does p (lift s)).0 in
        let q : Taken true (lift s) (Goes t) = subst (λ m. Taken true (lift s) m) is did in
        rw is (none-left p k t r (omega (arith, q, more.1)) (sym (ap (λ m. steps p k m) is) ∙ h))
    by (Stops o) is = rw (is, counted-up) (omega (arith, more.1))

-- a run with one count more that stops with some left, and one that stops with none
pub fewer : (p : Program) (k c : ℕ) (s : State) (e : End) (out : List ℕ) →
    steps p k (Goes (lift s)) ≡ Stops (Over e out) → left_in p k (lift s) ≡ suc c →
    (steps p k (Goes s) ≡ Stops (Over e out)) × (left_in p k s ≡ c)
fewer p zero c s e out h l = absurd (cc h)
fewer p (suc k) c s e out h l = by (λ t q w. fewer p k c t e out q w) (step p s) refl
  where
    d : Does (takes p s) s (step p s) (step p (lift s))
    d = step-does p s

    by : ((t : State) → steps p k (Goes (lift t)) ≡ Stops (Over e out) → left_in p k (lift t) ≡ suc c →
        (steps p k (Goes t) ≡ Stops (Over e out)) × (left_in p k t ≡ c)) → (m : Moved) → step p s ≡ m →
        (steps p k (step p s) ≡ Stops (Over e out)) × (left_after (step p s) (left_in p k) (left_behind p s) ≡ c)
    by again (Goes t) is =
        let up : step p (lift s) ≡ Goes (lift t) = subst (λ m. Lifts m (step p (lift s))) is d.1 in
        rw is (again t (sym (ap (λ m. steps p k m) up) ∙ h)
        (sym (ap (λ m. left_after m (left_in p k) (left_behind p (lift s))) up) ∙ l))
    by again (Stops (Over e' out')) is =
        let up : step p (lift s) ≡ Stops (Over e' out') = subst (λ m. Lifts m (step p (lift s))) is d.1 in
        let stays : steps p k (Stops (Over e' out')) ≡ Stops (Over e' out') = stops-stay p k (Over e' out') in
        let same : Stops (Over e' out') ≡ Stops (Over e out) = sym stays ∙ (sym (ap (λ m. steps p k m) up) ∙ h) in
        let left : left_behind p (lift s) ≡ suc c = sym (ap (λ m. left_after m (left_in p k) (left_behind p (lift s))) up) ∙ l in
        rw is (stays ∙ same, lower (takes p s) (subst (λ m. Taken (takes p s) s m) is d.0) left)
      where
        lower : (b : Bool) → Taken b s (Stops (Over e' out')) → (if b then suc s.left - 1 else suc s.left) ≡ suc c →
            (if b then s.left - 1 else s.left) ≡ c
        lower true q w = omega (arith, q, w)
        lower false q w = omega (arith, w)
    by again (Stops (More less)) is =
        let more : (takes p s ≡ true) × (s.left ≡ 0) = subst (λ m. Taken (takes p s) s m) is d.0 in
        absurd (zero-not c (sym (none-after p k s (Over e out) more h) ∙ l))
      where
        zero-not : (c : ℕ) → 0 ≡ suc c → ⊥
        zero-not c e = cc e

pub none : (p : Program) (k : ℕ) (s : State) (e : End) (out : List ℕ) →
    steps p k (Goes (lift s)) ≡ Stops (Over e out) → left_in p k (lift s) ≡ 0 →
    (less : List ℕ) × (steps p k (Goes s) ≡ Stops (More less))
none p zero s e out h l = absurd cc
none p (suc k) s e out h l = by (λ t q w. none p k t e out q w) (step p s) refl
  where
    d : Does (takes p s) s (step p s) (step p (lift s))
    d = step-does p s

    by : ((t : State) → steps p k (Goes (lift t)) ≡ Stops (Over e out) → left_in p k (lift t) ≡ 0 →
        (less : List ℕ) × (steps p k (Goes t) ≡ Stops (More less))) → (m : Moved) → step p s ≡ m →
        (less : List ℕ) × (steps p k (step p s) ≡ Stops (More less))
    by again (Goes t) is =
        let up : step p (lift s) ≡ Goes (lift t) = subst (λ m. Lifts m (step p (lift s))) is d.1 in
        rw is (again t (sym (ap (λ m. steps p k m) up) ∙ h)
        (sym (ap (λ m. left_after m (left_in p k) (left_behind p (lift s))) up) ∙ l))
    by again (Stops (Over e' out')) is =
        let up : step p (lift s) ≡ Stops (Over e' out') = subst (λ m. Lifts m (step p (lift s))) is d.1 in
        let left : left_behind p (lift s) ≡ 0 = sym (ap (λ m. left_after m (left_in p k) (left_behind p (lift s))) up) ∙ l in
        absurd (never (takes p s) (subst (λ m. Taken (takes p s) s m) is d.0) left)
      where
        never : (b : Bool) → Taken b s (Stops (Over e' out')) → (if b then suc s.left - 1 else suc s.left) ≡ 0 → ⊥
        never true q w = omega (arith, q, w)
        never false q w = omega (arith, w)
    by again (Stops (More less)) is = rw is (less, stops-stay p k (More less))
