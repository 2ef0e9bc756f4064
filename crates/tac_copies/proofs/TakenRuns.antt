-- Code whose parameters are taken at once runs as before: where a call begins, the copy of its parameter is passed, and then each step is
-- answered by one.
use Rattle.std.proofs.Common.{◌≡◌, ℕ, zero, suc, ◌≤◌, Bool, true, false, List, [], ◌∷◌, map, Option, Some, None, refl, sym, ap, ap₂, ◌∙◌}
use Rattle.std.proofs.Common.{subst, arith, inl, inr}
use Rattle.std.specs.Prelude.{IsTrue, nat_eq, if◌then◌else◌, slice_get, option_map}
use Rattle.std.specs.List.{list_any}
use Rattle.std.proofs.lemmas.Bool.{eq-eqb, eqb-true, false≢true, ne_eqb, or_left, or_parts, or_right}
use Rattle.std.proofs.Math.Path.{fun_ext}
use Rattle.tl_base.specs.declared.ids.FnId.{FnId}
use Rattle.terra_memory.specs.Region.{Contents, end_address, fresh}
use Rattle.terra_words.specs.Runs.{Value, number, Stuck, Run, Over}
use Rattle.tac_form.specs.declared.tac.Operand.TheVariants.{Temp}
use Rattle.tac_form.specs.declared.tac.Destination.{Destination}
use Rattle.tac_form.specs.declared.tac.Destination.TheVariants as destinations
use Rattle.tac_form.specs.declared.tac.Instruction.{Instruction}
use Rattle.tac_form.specs.declared.tac.Instruction.TheVariants.{Copy}
use Rattle.tac_form.specs.declared.tac.Block.{Block}
use Rattle.tac_form.specs.declared.tac.Tac.{Tac}
use Rattle.tac_form.specs.Flow.{Temps, Areas, put, Activation, Caller, State, Moved, Goes, Stops, ahead, set_temp, takes, takes_all}
use Rattle.tac_form.specs.Flow.{Program, enter, act, give, leave, step_in, in_block, in_function, step, steps, place_of, begun, TacRun}
use Rattle.tac_form.specs.Graph.{instruction_reads, instruction_write, exit_reads, exit_next}
use Rattle.tac_form.specs.Live.{has}
use Rattle.tac_form.specs.Fits.{goes_to}
use Rattle.tac_copies.specs.Reached.{leads_to}
use Rattle.tac_copies.specs.Taken.{block_reads, goes_instead, most_taken, taken_code, taken_once, taken_times}
use Rattle.tac_copies.specs.Laws.{IsMade, KeepsRuns}
use Rattle.tac_copies.proofs.Alike.{twin, put_in, acted, entered, waiting, fresh_in, back, Paired, paired-long, act-alike, leave-within}
use Rattle.tac_copies.proofs.Alike.{own-in, own-exit}
use Rattle.tac_copies.proofs.TakenShape.{Shape, Takes, block-with, is-free, is-unread, none-back, shape}
use Rattle.tac_copies.proofs.TakenAlike.{call-taken, enter-taken, give-taken, same-values, takes-alike}

-- ---- what a list has none of, none of its elements is

pub any-at : {A : Type 0} (P : A → Bool) (xs : List A) (n : ℕ) (x : A) → slice_get xs n ≡ Some x → P x ≡ true → list_any P xs ≡ true
any-at P [] n x e h = cc
any-at P (y ∷ xs) zero x e h =
    let s : y ≡ x = cc in
    or_left (P y) (list_any P xs) (subst (λ z. P z ≡ true) (sym s) h)
any-at P (y ∷ xs) (suc n) x e h = or_right (P y) (list_any P xs) (any-at P xs n x e h)

pub none-at : {A : Type 0} (P : A → Bool) (xs : List A) (n : ℕ) (x : A) → list_any P xs ≡ false → slice_get xs n ≡ Some x → P x ≡ true → ⊥
none-at P xs n x none e h = false≢true (sym none ∙ any-at P xs n x e h)

-- ---- temporaries

put-same : (temps olds : Temps) (d x t : ℕ) → temps t ≡ olds t → put temps d x t ≡ put olds d x t
put-same temps olds d x t e = ap (λ z. if nat_eq t d then x else z) e

put-in-same : (w : Option ℕ) (x : ℕ) (temps olds : Temps) (t : ℕ) → temps t ≡ olds t → put_in w x temps t ≡ put_in w x olds t
put-in-same None x temps olds t e = e
put-in-same (Some d) x temps olds t e = put-same temps olds d x t e

put-here : (temps : Temps) (d x t : ℕ) → t ≡ d → put temps d x t ≡ x
put-here temps d x t h = ap (λ b. if b then x else temps t) (eq-eqb t d h)

put-there : (temps : Temps) (d x t : ℕ) → (t ≡ d → ⊥) → put temps d x t ≡ temps t
put-there temps d x t n = ap (λ b. if b then x else temps t) (ne_eqb t d n)

not-one : (t d : ℕ) → nat_eq t d ≡ false → t ≡ d → ⊥
not-one t d e h = false≢true (sym e ∙ eq-eqb t d h)

-- the one holds in v what the other holds in p, and the same in the others
record Renamed (p v : ℕ) (old new : Temps) : Type 0 where
  first : new v ≡ old p
  others : (t : ℕ) → (t ≡ p → ⊥) → (t ≡ v → ⊥) → new t ≡ old t

-- what a call takes, where v stands for p
record Instead (p v : ℕ) (ds : List Destination) (vs : List Value) (a : Activation) (w : Temps) : Type 0 where
  new : Temps
  is : takes_all (map (goes_instead p v) ds) vs (record a { temps = w }) ≡ record (takes_all ds vs a) { temps = new }
  renamed : Renamed p v (takes_all ds vs a).temps new

put-renamed : (p v t n : ℕ) (olds w : Temps) → nat_eq t v ≡ false → Renamed p v olds w →
    Renamed p v (put olds t n) (put w (if nat_eq t p then v else t) n)
put-renamed p v t n olds w free h = by (nat_eq t p) refl
  where
    by : (b : Bool) → nat_eq t p ≡ b → Renamed p v (put olds t n) (put w (if b then v else t) n)
    by true e =
        let s : t ≡ p = eqb-true t p e in
        record {
          first = put-here w v n v refl ∙ sym (put-here olds t n p (sym s));
          others = λ u np nv.
              put-there w v n u nv ∙ h.others u np nv ∙ sym (put-there olds t n u (λ z. np (z ∙ s)));
        }
    by false e = record {
      first = put-there w t n v (λ z. not-one t v free (sym z)) ∙ h.first ∙ sym (put-there olds t n p (λ z. not-one t p e (sym z)));
      others = λ u np nv. put-same w olds t n u (h.others u np nv);
    }

takes-instead : (p v : ℕ) (ds : List Destination) (vs : List Value) (a : Activation) (w : Temps) → list_any (goes_to v) ds ≡ false →
    Renamed p v a.temps w → Instead p v ds vs a w
takes-instead p v [] vs a w free h = record { new = w; is = refl; renamed = h }
takes-instead p v (d ∷ ds) [] a w free h = record { new = w; is = refl; renamed = h }
takes-instead p v (destinations.Temp t ∷ ds) (x ∷ vs) a w free h =
    let f = or_parts (nat_eq t v) (list_any (goes_to v) ds) free in
    let r = takes-instead p v ds vs (takes (destinations.Temp t) x a) (put w (if nat_eq t p then v else t) (number x)) f.1
    (put-renamed p v t (number x) a.temps w f.0 h) in
    record { new = r.new; is = r.is; renamed = r.renamed }
takes-instead p v (destinations.Area m ∷ ds) (x ∷ vs) a w free h =
    let f = or_parts false (list_any (goes_to v) ds) free in
    let r = takes-instead p v ds vs (takes (destinations.Area m) x a) w f.1 h in
    record { new = r.new; is = r.is; renamed = r.renamed }
takes-instead p v (destinations.Nothing ∷ ds) (x ∷ vs) a w free h =
    let f = or_parts false (list_any (goes_to v) ds) free in
    let r = takes-instead p v ds vs a w f.1 h in
    record { new = r.new; is = r.is; renamed = r.renamed }

-- ---- where a call begins

record Fresh (f : FnId) (a : Activation) : Type 0 where
  function : a.function ≡ f
  block : a.block ≡ 0
  at : a.at ≡ 0

takes-fresh : (f : FnId) (d : Destination) (v : Value) (a : Activation) → Fresh f a → Fresh f (takes d v a)
takes-fresh f (destinations.Temp t) v a h = record { function = h.function; block = h.block; at = h.at }
takes-fresh f (destinations.Area n) v a h = record { function = h.function; block = h.block; at = h.at }
takes-fresh f destinations.Nothing v a h = h

takes_all-fresh : (f : FnId) (ds : List Destination) (vs : List Value) (a : Activation) → Fresh f a → Fresh f (takes_all ds vs a)
takes_all-fresh f [] vs a h = h
takes_all-fresh f (d ∷ ds) [] a h = h
takes_all-fresh f (d ∷ ds) (v ∷ vs) a h = takes_all-fresh f ds vs (takes d v a) (takes-fresh f d v a h)

-- ---- related states

-- the place in a block: in the first, the copy isn't before
abbrev Place : (block old new : ℕ) → Type 0
Place zero old new = old ≡ suc new
Place (suc b) old new = old ≡ new

place-next : (b old new : ℕ) → Place b old new → Place b (suc old) (suc new)
place-next zero old new h = ap suc h
place-next (suc b) old new h = ap suc h

place-entered : (b : ℕ) → (b ≡ 0 → ⊥) → Place b 0 0
place-entered zero n = absurd (n refl)
place-entered (suc b) n = refl

abbrev AgreesAt : (code : Tac) → Shape code → (block old new : ℕ) → (temps olds : Temps) → Type 0
AgreesAt code (inl q) block old new temps olds = (new ≡ old) × ((t : ℕ) → temps t ≡ olds t)
AgreesAt code (inr k) block old new temps olds = Place block old new × ((t : ℕ) → (t ≡ k.p → ⊥) → temps t ≡ olds t)

abbrev Agrees : (code : Tac) → Shape code → Activation → ℕ → Temps → Type 0
Agrees code h a at temps = AgreesAt code h a.block a.at at temps a.temps

agrees-next : (code : Tac) (h : Shape code) (block old new : ℕ) (temps olds : Temps) → AgreesAt code h block old new temps olds →
    AgreesAt code h block (suc old) (suc new) temps olds
agrees-next code (inl q) block old new temps olds h = (ap suc h.0, h.1)
agrees-next code (inr k) block old new temps olds h = (place-next block old new h.0, h.1)

agrees-put : (code : Tac) (h : Shape code) (block old new : ℕ) (temps olds : Temps) (w : Option ℕ) (x : ℕ) →
    AgreesAt code h block old new temps olds → AgreesAt code h block old new (put_in w x temps) (put_in w x olds)
agrees-put code (inl q) block old new temps olds w x h = (h.0, λ t. put-in-same w x temps olds t (h.1 t))
agrees-put code (inr k) block old new temps olds w x h = (h.0, λ t n. put-in-same w x temps olds t (h.1 t n))

record Follows (p : Program) (a : Activation) (at : ℕ) (temps : Temps) : Type 0 where
  agrees : (code : Tac) → p.code a.function ≡ Some code → Agrees code (shape code) a at temps

record Waits (p : Program) (c d : Caller) : Type 0 where
  at : ℕ
  temps : Temps
  is : d ≡ record { waits = record c.waits { at = at; temps = temps }; to = c.to }
  follows : Follows p c.waits at temps

record Related (p : Program) (s : State) (at : ℕ) (temps : Temps) (callers : List Caller) : Type 0 where
  here : Follows p s.here at temps
  others : Paired (Waits p) s.callers callers

-- ---- a block of the code that is made

record Stands (code : Tac) (b : Block) (n old new : ℕ) (temps olds : Temps) : Type 0 where
  made : Block
  is_made : slice_get (taken_once code).blocks n ≡ Some made
  exit : made.exit ≡ b.exit
  here : slice_get made.instructions new ≡ slice_get b.instructions old
  known : (i : Instruction) → slice_get b.instructions old ≡ Some i → (t : ℕ) → IsTrue (has (instruction_reads i) t) →
      temps t ≡ olds t
  known-exit : (t : ℕ) → IsTrue (has (exit_reads b.exit) t) → temps t ≡ olds t

-- the parameter is read by none of these
unread-at : (code : Tac) (k : Takes code) (b : Block) → block_reads k.p b ≡ false → (n t : ℕ) (i : Instruction) →
    slice_get b.instructions n ≡ Some i → IsTrue (has (instruction_reads i) t) → t ≡ k.p → ⊥
unread-at code k b none n t i e h s =
    none-at (λ j. has (instruction_reads j) k.p) b.instructions n i
    (or_parts (list_any (λ j. has (instruction_reads j) k.p) b.instructions) (has (exit_reads b.exit) k.p) none).0 e
    (subst (λ u. has (instruction_reads i) u ≡ true) s h)

unread-exit : (code : Tac) (k : Takes code) (b : Block) → block_reads k.p b ≡ false → (t : ℕ) → IsTrue (has (exit_reads b.exit) t) →
    t ≡ k.p → ⊥
unread-exit code k b none t h s =
    false≢true (sym (or_parts (list_any (λ j. has (instruction_reads j) k.p) b.instructions) (has (exit_reads b.exit) k.p) none).1
    ∙ subst (λ u. has (exit_reads b.exit) u ≡ true) s h)

-- a block behind the first reads it in none
unread-block : (code : Tac) (k : Takes code) (n : ℕ) (b : Block) → slice_get k.bs n ≡ Some b → block_reads k.p b ≡ false
unread-block code k n b g = by (block_reads k.p b) refl
  where
    by : (r : Bool) → block_reads k.p b ≡ r → block_reads k.p b ≡ false
    by true e = absurd (none-at (block_reads k.p) k.bs n b (is-unread code k).1 g e)
    by false e = e

-- the first block, and those behind it
first-is : (code : Tac) (k : Takes code) (b : Block) → slice_get code.blocks 0 ≡ Some b → block-with (Copy k.v (Temp k.p) ∷ k.is) k.e ≡ b
first-is code k b g =
    let e : Some (block-with (Copy k.v (Temp k.p) ∷ k.is) k.e) ≡ Some b = sym (ap (λ bs. slice_get bs 0) k.blocks) ∙ g in cc

later-is : (code : Tac) (k : Takes code) (n : ℕ) (o : Option Block) → slice_get code.blocks (suc n) ≡ o → slice_get k.bs n ≡ o
later-is code k n o g = sym (ap (λ bs. slice_get bs (suc n)) k.blocks) ∙ g

stands-in : (code : Tac) (h : Shape code) (n old new : ℕ) (temps olds : Temps) (b : Block) → slice_get code.blocks n ≡ Some b →
    AgreesAt code h n old new temps olds → Stands code b n old new temps olds
stands-in code (inl q) n old new temps olds b g h = record {
  made = b;
  is_made = ap (λ c. slice_get c.blocks n) q ∙ g;
  exit = refl;
  here = ap (λ m. slice_get b.instructions m) h.0;
  known = λ i e t r. h.1 t;
  known-exit = λ t r. h.1 t;
}
stands-in code (inr k) zero old new temps olds b g h =
    let rest : Block = block-with k.is k.e in
    let from : slice_get (Copy k.v (Temp k.p) ∷ k.is) old ≡ slice_get k.is new =
    ap (λ m. slice_get (Copy k.v (Temp k.p) ∷ k.is) m) h.0 in
    subst (λ z. Stands code z 0 old new temps olds) (first-is code k b g)
    (record {
      made = rest;
      is_made = ap (λ c. slice_get c.blocks 0) k.made;
      exit = refl;
      here = sym from;
      known = λ i e t r. h.1 t (unread-at code k rest (is-unread code k).0 new t i (sym from ∙ e) r);
      known-exit = λ t r. h.1 t (unread-exit code k rest (is-unread code k).0 t r);
    })
stands-in code (inr k) (suc n) old new temps olds b g h =
    let there : slice_get k.bs n ≡ Some b = later-is code k n (Some b) g in
    let none : block_reads k.p b ≡ false = unread-block code k n b there in
    record {
      made = b;
      is_made = ap (λ c. slice_get c.blocks (suc n)) k.made ∙ there;
      exit = refl;
      here = ap (λ m. slice_get b.instructions m) (sym h.0);
      known = λ i e t r. h.1 t (unread-at code k b none old t i e r);
      known-exit = λ t r. h.1 t (unread-exit code k b none t r);
    }

none-in : (code : Tac) (h : Shape code) (n : ℕ) → slice_get code.blocks n ≡ None → slice_get (taken_once code).blocks n ≡ None
none-in code (inl q) n g = ap (λ c. slice_get c.blocks n) q ∙ g
none-in code (inr k) zero g = absurd (some (sym (ap (λ bs. slice_get bs 0) k.blocks) ∙ g))
  where
    some : Some (block-with (Copy k.v (Temp k.p) ∷ k.is) k.e) ≡ None → ⊥
    some e = cc
none-in code (inr k) (suc n) g = ap (λ c. slice_get c.blocks (suc n)) k.made ∙ later-is code k n None g

-- where a block leads, a call stands as before
entering : (code : Tac) (h : Shape code) (n old new : ℕ) (temps olds : Temps) (b : Block) (to : ℕ) → slice_get code.blocks n ≡ Some b →
    has (exit_next b.exit) to ≡ true → AgreesAt code h n old new temps olds → AgreesAt code h to 0 0 temps olds
entering code (inl q) n old new temps olds b to g l h = (refl, h.1)
entering code (inr k) n old new temps olds b to g l h =
    (place-entered to (λ z. never n b g (subst (λ m. has (exit_next b.exit) m ≡ true) z l)), h.1)
  where
    never : (m : ℕ) (c : Block) → slice_get code.blocks m ≡ Some c → has (exit_next c.exit) 0 ≡ true → ⊥
    never zero c d e =
        false≢true (sym (none-back code k).0 ∙ subst (λ z. has (exit_next z.exit) 0 ≡ true) (sym (first-is code k c d)) e)
    never (suc m) c d e = none-at (λ z. leads_to z 0) k.bs m c (none-back code k).1 (later-is code k m (Some c) d) e

stopped : (p : Program) (k : ℕ) (r : Run) → steps p k (Stops r) ≡ Stops r
stopped p zero r = refl
stopped p (suc k) r = refl

-- ---- runs

module _ (p q : Program) (made : IsMade taken_once p q) (r : Run) where
  abbrev Ends : Moved → Type 0
  Ends m = (k : ℕ) × (steps q k m ≡ Stops r)

  -- what ends so in at most so many steps ends so after the other
  abbrev Answered : ℕ → Moved → Moved → Type 0
  Answered n m new = (k : ℕ) → k ≤ n → steps p k m ≡ Stops r → Ends new

  stops : (n : ℕ) (x : Run) → Answered n (Stops x) (Stops x)
  stops n x k less e = (0, sym (stopped p k x) ∙ e)

  abbrev AllAnswered : ℕ → Type 0
  AllAnswered n =
      (s : State) (at : ℕ) (temps : Temps) (callers : List Caller) → Related p s at temps callers →
      Answered n (Goes s) (Goes (twin s at temps callers))

  waits-same : (c d : Caller) → Waits p c d → (d.waits.function ≡ c.waits.function) × (d.to ≡ c.to)
  waits-same c d w = (ap (λ z. z.waits.function) w.is, ap (λ z. z.to) w.is)

  one : (f : FnId) (code c : Tac) → p.code f ≡ Some code → p.code f ≡ Some c → code ≡ c
  one f code c h g = let codes : Some code ≡ Some c = sym h ∙ g in cc

  -- the code of a call is one
  follows-by : (code : Tac) (a : Activation) (at : ℕ) (temps : Temps) → p.code a.function ≡ Some code → Agrees code (shape code) a at temps →
      Follows p a at temps
  follows-by code a at temps h g = record {
    agrees = λ c e. subst (λ z. Agrees z (shape z) a at temps) (one a.function code c h e) g;
  }

  -- the copy is passed with which a call begins
  copied : (code : Tac) (k : Takes code) (s : State) → p.code s.here.function ≡ Some code → s.here.block ≡ 0 → s.here.at ≡ 0 →
      step p s ≡ Goes (ahead (set_temp k.v (s.here.temps k.p) s))
  copied code k s is_code first start =
      ap (λ o. in_function p o s) is_code
      ∙ ap (λ b. in_block p (slice_get code.blocks b) s) first
      ∙ ap (λ bs. in_block p (slice_get bs 0) s) k.blocks
      ∙ ap (λ m. step_in p k.e (slice_get (Copy k.v (Temp k.p) ∷ k.is) m) s) start

  module _ (n : ℕ) (ih : AllAnswered n) where
    copy-passed : (code : Tac) (k : Takes code) (s : State) (w : Temps) (callers : List Caller) → shape code ≡ inr k →
        p.code s.here.function ≡ Some code → s.here.block ≡ 0 → s.here.at ≡ 0 → Renamed k.p k.v s.here.temps w →
        Paired (Waits p) s.callers callers → Answered n (Goes s) (Goes (twin s s.here.at w callers))
    copy-passed code k s w callers eq is_code first start renamed others zero less e = absurd cc
    copy-passed code k s w callers eq is_code first start renamed others (suc j) less e =
        let behind : State = ahead (set_temp k.v (s.here.temps k.p) s) in
        ih behind s.here.at w callers
        (record {
          here = follows-by code behind.here s.here.at w is_code
              (subst (λ z. Agrees code z behind.here s.here.at w) (sym eq)
              (subst (λ b. Place b (suc s.here.at) s.here.at) (sym first) refl, λ t np. by t np (nat_eq t k.v) refl));
          others = others;
        })
        j (under j n less) (subst (λ m. steps p j m ≡ Stops r) (copied code k s is_code first start) e)
      where
        under : (j n : ℕ) → suc j ≤ n → j ≤ n
        under j n l = omega (arith, l)

        by : (t : ℕ) → (t ≡ k.p → ⊥) → (b : Bool) → nat_eq t k.v ≡ b → w t ≡ put s.here.temps k.v (s.here.temps k.p) t
        by t np true q =
            let z : t ≡ k.v = eqb-true t k.v q in
            ap w z ∙ renamed.first ∙ sym (put-here s.here.temps k.v (s.here.temps k.p) t z)
        by t np false q =
            let z : t ≡ k.v → ⊥ = not-one t k.v q in
            renamed.others t np z ∙ sym (put-there s.here.temps k.v (s.here.temps k.p) t z)

    -- a call begins
    module _ (s : State) (f : FnId) (code : Tac) (arguments : List Value) (top : ℕ) (cs ds : List Caller)
        (is_code : p.code f ≡ Some code) (others : Paired (Waits p) cs ds) where
      abbrev a : Activation
      a = takes_all code.parameters arguments (fresh_in f code top)

      abbrev old : State
      old = record s { here = a; callers = cs }

      abbrev of-code : Tac → State
      of-code c = record s { here = takes_all c.parameters arguments (fresh_in f c top); callers = ds }

      at-first : Fresh f a
      at-first = takes_all-fresh f code.parameters arguments (fresh_in f code top) (record { function = refl; block = refl; at = refl })

      of-a : p.code a.function ≡ Some code
      of-a = ap p.code at-first.function ∙ is_code

      by-shape : (h : Shape code) → shape code ≡ h → Answered n (Goes old) (Goes (of-code (taken_once code)))
      by-shape (inl q) e =
          subst (λ c. Answered n (Goes old) (Goes (of-code c))) (sym q)
          (ih old a.at a.temps ds
          (record {
            here = follows-by code a a.at a.temps of-a (subst (λ z. Agrees code z a a.at a.temps) (sym e) (refl, λ t. refl));
            others = others;
          }))
      by-shape (inr k) e =
          let t = takes-instead k.p k.v code.parameters arguments (fresh_in f code top) (λ u. 0) (is-free code k)
          (record { first = refl; others = λ u np nv. refl }) in
          subst (λ c. Answered n (Goes old) (Goes (of-code c))) (sym k.made)
          (subst (λ x. Answered n (Goes old) (Goes (record s { here = x; callers = ds }))) (sym t.is)
          (copy-passed code k old t.new ds e of-a at-first.block at-first.at t.renamed others))

      begins : Answered n (Goes old) (Goes (of-code (taken_once code)))
      begins = by-shape (shape code) refl

  module _ (n : ℕ) (ih : AllAnswered n) (s : State) (at : ℕ) (temps : Temps) (callers : List Caller)
      (related : Related p s at temps callers) where
    abbrev new : State
    new = twin s at temps callers

    -- a result is taken by who waited
    takes-follows : (to : Destination) (v : Value) (a : Activation) (other : ℕ) (words : Temps) (cs ds : List Caller) →
        Follows p a other words → Paired (Waits p) cs ds →
        Answered n (Goes (record s { here = takes to v a; callers = cs }))
        (Goes (record new { here = takes to v (record a { at = other; temps = words }); callers = ds }))
    takes-follows (destinations.Temp t) v a other words cs ds f w =
        ih (record s { here = takes (destinations.Temp t) v a; callers = cs }) other (put words t (number v)) ds
        (record {
          here = record {
            agrees = λ code h. agrees-put code (shape code) a.block a.at other words a.temps (Some t) (number v) (f.agrees code h);
          };
          others = w;
        })
    takes-follows (destinations.Area m) v a other words cs ds f w =
        ih (record s { here = takes (destinations.Area m) v a; callers = cs }) other words ds
        (record { here = record { agrees = f.agrees }; others = w })
    takes-follows destinations.Nothing v a other words cs ds f w =
        ih (record s { here = a; callers = cs }) other words ds (record { here = f; others = w })

    backs : (v : Value) (c d : Caller) (cs ds : List Caller) → Waits p c d → Paired (Waits p) cs ds →
        Answered n (Goes (back v c cs s)) (Goes (back v d ds new))
    backs v c d cs ds w others =
        subst (λ z. Answered n (Goes (back v c cs s)) (Goes (back v z ds new))) (sym w.is)
        (takes-follows c.to v c.waits w.at w.temps cs ds w.follows others)

    gives : (v : Value) → Answered n (give p v s.callers s) (give q v callers new)
    gives v =
        give-taken (Answered n) (stops n) s at temps callers p q made (Waits p) waits-same v s.callers callers related.others
        (λ c d cs ds w others. backs v c d cs ds w others)

    module _ (code : Tac) (is_code : p.code s.here.function ≡ Some code) (block : Block)
        (is_block : slice_get code.blocks s.here.block ≡ Some block) where
      agrees : Agrees code (shape code) s.here at temps
      agrees = related.here.agrees code is_code

      stands : Stands code block s.here.block s.here.at at temps s.here.temps
      stands = stands-in code (shape code) s.here.block s.here.at at temps s.here.temps block is_block agrees

      enters : (to left : ℕ) → has (exit_next block.exit) to ≡ true → Answered n (Goes (entered to left s)) (Goes (entered to left new))
      enters to left l =
          ih (entered to left s) 0 temps callers
          (record {
            here = follows-by code (entered to left s).here 0 temps is_code
                (entering code (shape code) s.here.block s.here.at at temps s.here.temps block to is_block l agrees);
            others = related.others;
          })

      leaves : Answered n (leave p block.exit s) (leave q block.exit new)
      leaves =
          subst (λ e. Answered n (leave p block.exit s) (leave q e new)) (own-exit block.exit)
          (leave-within (λ t. t) s at temps callers (Answered n) (stops n) p q block.exit stands.known-exit enters gives)

      -- what follows an instruction
      next : Agrees code (shape code) (ahead s).here (suc at) temps
      next = agrees-next code (shape code) s.here.block s.here.at at temps s.here.temps agrees

      does : (w : Option ℕ) (v : ℕ) (areas : Areas) (region : Contents) (out : List ℕ) →
          Answered n (Goes (acted w v areas region out s)) (Goes (acted w v areas region out new))
      does w v areas region out =
          ih (acted w v areas region out s) (suc at) (put_in w v temps) callers
          (record {
            here = follows-by code (acted w v areas region out s).here (suc at) (put_in w v temps) is_code
                (agrees-put code (shape code) s.here.block (suc s.here.at) (suc at) temps s.here.temps w v next);
            others = related.others;
          })

      acts : (i : Instruction) → slice_get block.instructions s.here.at ≡ Some i → Answered n (act p i s) (act q i new)
      acts i here =
          subst (λ j. Answered n (act p i s) (act q j new)) (own-in i)
          (act-alike (λ t. t) s at temps callers (Answered n) (stops n) p q (same-values p q made) i (stands.known i here)
          (does (instruction_write i))
          (λ to w place f arguments.
          call-taken (Answered n) (stops n) s at temps callers p q made (paired-long (Waits p) s.callers callers related.others)
          to place f arguments
          (λ c e left.
          begins n ih (record s { left = left }) f c arguments s.here.base (waiting to s ∷ s.callers) (waiting to new ∷ callers) e (
            record { at = suc at; temps = temps; is = refl; follows = follows-by code (ahead s).here (suc at) temps is_code next },
            related.others,
          ))))

      stands-at : (o : Option Instruction) → slice_get block.instructions s.here.at ≡ o →
          Answered n (step_in p block.exit o s) (step_in q block.exit o new)
      stands-at None e = leaves
      stands-at (Some i) e = acts i e

      in-the-block : Answered n (in_block p (Some block) s) (in_block q (slice_get (taken_once code).blocks s.here.block) new)
      in-the-block =
          subst (λ o. Answered n (in_block p (Some block) s) (in_block q o new)) (sym stands.is_made)
          (subst (λ x. Answered n (in_block p (Some block) s) (step_in q x (slice_get stands.made.instructions at) new)) (sym stands.exit)
          (subst (λ o. Answered n (in_block p (Some block) s) (step_in q block.exit o new)) (sym stands.here)
          (stands-at (slice_get block.instructions s.here.at) refl)))

    blocked : (code : Tac) → p.code s.here.function ≡ Some code → (o : Option Block) → slice_get code.blocks s.here.block ≡ o →
        Answered n (in_block p o s) (in_block q (slice_get (taken_once code).blocks s.here.block) new)
    blocked code e None f =
        subst (λ o. Answered n (in_block p None s) (in_block q o new)) (sym (none-in code (shape code) s.here.block f))
        (stops n (Over Stuck s.out))
    blocked code e (Some block) f = in-the-block code e block f

    function : (o : Option Tac) → p.code s.here.function ≡ o → Answered n (in_function p o s) (in_function q (option_map taken_once o) new)
    function None e = stops n (Over Stuck s.out)
    function (Some code) e = blocked code e (slice_get code.blocks s.here.block) refl

    stepped : Answered n (step p s) (step q new)
    stepped =
        subst (λ o. Answered n (step p s) (in_function q o new)) (sym (made.code s.here.function)) (function (p.code s.here.function) refl)

  answered : (n : ℕ) → AllAnswered n
  answered n s at temps callers related zero less e = absurd cc
  answered zero s at temps callers related (suc k) less e = absurd (omega (arith, less))
  answered (suc n) s at temps callers related (suc k) less e =
      let rest : Ends (step q (twin s at temps callers)) = stepped n (answered n) s at temps callers related k (omega (arith, less)) e in
      (suc rest.0, rest.1)

  -- a function begins
  entered-first : (n : ℕ) (s : State) (top : ℕ) (f : FnId) (o : Option Tac) → p.code f ≡ o → (arguments : List Value) →
      Answered n (enter (place_of o) f o arguments top [] s)
      (enter (place_of (option_map taken_once o)) f (option_map taken_once o) arguments top [] s)
  entered-first n s top f None g arguments = stops n (Over Stuck s.out)
  entered-first n s top f (Some code) g arguments =
      subst
      (λ place. Answered n (enter code.place f (Some code) arguments top [] s) (enter place f (Some (taken_once code)) arguments top [] s))
      (sym (takes-alike code).place)
      (enter-taken (Answered n) (stops n) s s.here.at s.here.temps s.callers code.place f (Some code) arguments top [] [] refl
      (λ c e. begins n (answered n) s f c arguments top [] [] (g ∙ e) tt))

  same-run : (statics : List ℕ) (memory m : ℕ) (f : FnId) (arguments : List Value) → TacRun p statics memory m f arguments r →
      TacRun q statics memory m f arguments r
  same-run statics memory m f arguments ran =
      let region : Contents = fresh memory statics in
      let nowhere : Activation =
      record { function = f; block = 0; at = 0; temps = λ t. 0; areas = λ a. []; base = end_address region } in
      let first : State = record { here = nowhere; callers = []; region = region; left = m; out = [] } in
      subst (λ o. Answered ran.0 (begun p statics memory m f arguments) (enter (place_of o) f o arguments (end_address region) [] first))
      (sym (made.code f))
      (entered-first ran.0 first (end_address region) f (p.code f) refl arguments) ran.0 (omega arith) ran.1

pub once-runs : (p q : Program) → IsMade taken_once p q → (statics : List ℕ) (memory n : ℕ) (f : FnId) (arguments : List Value)
    (r : Run) → TacRun p statics memory n f arguments r → TacRun q statics memory n f arguments r
once-runs p q made statics memory n f arguments r ran = same-run p q made r statics memory n f arguments ran

-- ---- so many times

by-turns : (n : ℕ) (o : Option Tac) → option_map (taken_times (suc n)) o ≡ option_map (taken_times n) (option_map taken_once o)
by-turns n None = refl
by-turns n (Some code) = refl

program-is : (p q : Program) → q.code ≡ p.code → q.entries ≡ p.entries → p ≡ q
program-is p q e d = sym (ap₂ (λ c es. record { code = c; entries = es }) e d)

no-turn : (o : Option Tac) → option_map (taken_times 0) o ≡ o
no-turn None = refl
no-turn (Some code) = refl

times-run : (n : ℕ) → KeepsRuns (taken_times n)
times-run zero p q made statics memory m f arguments r ran =
    subst (λ x. TacRun x statics memory m f arguments r) same ran
  where
    same : p ≡ q
    same = program-is p q (fun_ext (λ g. made.code g ∙ no-turn (p.code g))) made.entries
times-run (suc n) p q made statics memory m f arguments r ran =
    let middle : Program = record { code = λ g. option_map taken_once (p.code g); entries = p.entries } in
    times-run n middle q (record { code = λ g. made.code g ∙ by-turns n (p.code g); entries = made.entries }) statics memory m f arguments r
    (once-runs p middle (record { code = λ g. refl; entries = refl }) statics memory m f arguments r ran)

pub taken-runs : KeepsRuns taken_code
unfolding taken_code
taken-runs = times-run most_taken
