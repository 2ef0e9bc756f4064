-- Code whose results go at once to where they are copied runs as before: each step is answered by one, and the two of a result and its
-- copy by one.
use Rattle.std.proofs.Common.{◌≡◌, ℕ, zero, suc, ◌≤◌, Bool, true, false, ◌&&◌, List, [], ◌∷◌, map, drop, Option, Some, None, refl, sym, ap}
use Rattle.std.proofs.Common.{◌∙◌, subst, arith}
use Rattle.std.specs.Prelude.{IsTrue, nat_eq, if◌then◌else◌, slice_get, option_map}
use Rattle.std.proofs.lemmas.Bool.{eq-eqb, ne_eqb, false≢true, and_from}
use Rattle.std.proofs.lemmas.Option.{slice_get-map}
use Rattle.tl_base.specs.declared.ids.FnId.{FnId}
use Rattle.terra_memory.specs.Region.{Contents, end_address, fresh}
use Rattle.terra_words.specs.Runs.{Value, number, Stuck, Run, Over}
use Rattle.tac_form.specs.declared.tac.Operand.TheVariants.{Temp}
use Rattle.tac_form.specs.declared.tac.Destination.{Destination}
use Rattle.tac_form.specs.declared.tac.Destination.TheVariants as destinations
use Rattle.tac_form.specs.declared.tac.Instruction.{Instruction}
use Rattle.tac_form.specs.declared.tac.Instruction.TheVariants.{Copy}
use Rattle.tac_form.specs.declared.tac.Block.{Block}
use Rattle.tac_form.specs.declared.tac.Tac.{Tac}
use Rattle.tac_form.specs.Flow.{Temps, Areas, put, Activation, Caller, State, Moved, Goes, Stops, ahead, takes, takes_all, Program, enter}
use Rattle.tac_form.specs.Flow.{act, give, leave, step_in, in_block, in_function, step, steps, place_of, begun, TacRun}
use Rattle.tac_form.specs.Graph.{instruction_reads, instruction_write, exit_reads}
use Rattle.tac_form.specs.Live.{has}
use Rattle.tac_copies.specs.Once.{is_once}
use Rattle.tac_copies.specs.Directed.{makes, directed, directed_all, directed_block, directed_code}
use Rattle.tac_copies.specs.Laws.{IsMade}
use Rattle.tac_copies.proofs.Once.{copy-reads, same-place, not-both}
use Rattle.tac_copies.proofs.Alike.{twin, put_in, acted, entered, waiting, fresh_in, called, back, with_blocks, HasBlocks, same-values}
use Rattle.tac_copies.proofs.Alike.{Paired, paired-long, act-alike, direct-alike, call-alike, enter-alike, give-alike, leave-alike, own-in}
use Rattle.tac_copies.proofs.Alike.{own-exit}
use Rattle.tac_copies.proofs.DirectedWays.{Way, together, alone, way}

-- ---- what is left of a list

pub get-drop : {A : Type 0} (xs : List A) (n : ℕ) → slice_get xs n ≡ slice_get (drop n xs) 0
get-drop [] zero = refl
get-drop [] (suc n) = refl
get-drop (x ∷ xs) zero = refl
get-drop (x ∷ xs) (suc n) = get-drop xs n

pub drop-next : {A : Type 0} (xs : List A) (n : ℕ) (y : A) (ys : List A) → drop n xs ≡ y ∷ ys → drop (suc n) xs ≡ ys
drop-next [] zero y ys e = cc
drop-next [] (suc n) y ys e = cc
drop-next (x ∷ xs) zero y ys e = cc
drop-next (x ∷ xs) (suc n) y ys e = drop-next xs n y ys e

first-some : {A : Type 0} (xs : List A) (y : A) → slice_get xs 0 ≡ Some y → (ys : List A) × (xs ≡ y ∷ ys)
first-some [] y e = cc
first-some (x ∷ xs) y e = let same : x ≡ y = cc in (xs, ap (λ z. z ∷ xs) same)

-- ---- related states

-- the place is no copy that goes
abbrev Kept : (once : ℕ → Bool) → List Instruction → ℕ → Type 0
Kept once is at =
    (k : ℕ) (i : Instruction) (x t : ℕ) → at ≡ suc k → slice_get is k ≡ Some i → slice_get is at ≡ Some (Copy x (Temp t)) →
    (makes t i && once t) ≡ false

-- two places of which the second has before it what becomes of what the first has
record Stands (once : ℕ → Bool) (is : List Instruction) (at new : ℕ) : Type 0 where
  rest : drop new (directed_all once is) ≡ directed_all once (drop at is)
  kept : Kept once is at

-- a temporary that is written no more
record Dropped (code : Tac) (t : ℕ) : Type 0 where
  once : IsTrue (is_once code t)
  b : ℕ
  block : Block
  is_block : slice_get code.blocks b ≡ Some block
  k : ℕ
  i : Instruction
  x : ℕ
  first : slice_get block.instructions k ≡ Some i
  is_made : IsTrue (makes t i)
  second : slice_get block.instructions (suc k) ≡ Some (Copy x (Temp t))

record Follows (p : Program) (a : Activation) (at : ℕ) (temps : Temps) : Type 0 where
  words : (code : Tac) → p.code a.function ≡ Some code → (t : ℕ) → (Dropped code t → ⊥) → temps t ≡ a.temps t
  stands : (code : Tac) (block : Block) → p.code a.function ≡ Some code → slice_get code.blocks a.block ≡ Some block →
      Stands (is_once code) block.instructions a.at at

record Waits (p : Program) (c d : Caller) : Type 0 where
  at : ℕ
  temps : Temps
  is : d ≡ record { waits = record c.waits { at = at; temps = temps }; to = c.to }
  follows : Follows p c.waits at temps

record Related (p : Program) (s : State) (at : ℕ) (temps : Temps) (callers : List Caller) : Type 0 where
  here : Follows p s.here at temps
  others : Paired (Waits p) s.callers callers

abbrev directed_blocks : Tac → List Block
directed_blocks code = map (directed_block (is_once code)) code.blocks

start-kept : (once : ℕ → Bool) (is : List Instruction) → Kept once is 0
start-kept once is k i x t e = absurd (omega (arith, e))

start-stands : (once : ℕ → Bool) (is : List Instruction) → Stands once is 0 0
start-stands once is = record { rest = refl; kept = start-kept once is }

-- behind an instruction that stands alone
alone-stands : (once : ℕ → Bool) (is : List Instruction) (at new : ℕ) (i : Instruction) (rest : List Instruction) → Stands once is at new →
    drop at is ≡ i ∷ rest → directed_all once (i ∷ rest) ≡ i ∷ directed_all once rest →
    ((x t : ℕ) (js : List Instruction) → rest ≡ Copy x (Temp t) ∷ js → (makes t i && once t) ≡ false) →
    Stands once is (suc at) (suc new)
alone-stands once is at new i rest h e d n =
    let behind : drop (suc at) is ≡ rest = drop-next is at i rest e in
    record {
      rest = drop-next (directed_all once is) new i (directed_all once rest) (h.rest ∙ ap (directed_all once) e ∙ d)
          ∙ sym (ap (directed_all once) behind);
      kept = kept behind;
    }
  where
    kept : drop (suc at) is ≡ rest → Kept once is (suc at)
    kept behind k j x t same first second =
        let here : at ≡ k = omega (arith, same) in
        let got : Some i ≡ Some j = sym (get-drop is at ∙ ap (λ l. slice_get l 0) e) ∙ (ap (λ m. slice_get is m) here ∙ first) in
        let is_i : i ≡ j = cc in
        let there : slice_get rest 0 ≡ Some (Copy x (Temp t)) =
        sym (get-drop is (suc at) ∙ ap (λ l. slice_get l 0) behind) ∙ second in
        let split = first-some rest (Copy x (Temp t)) there in
        ap (λ z. makes t z && once t) (sym is_i) ∙ n x t split.0 split.1

-- behind an instruction and the copy of its result
together-stands : (once : ℕ → Bool) (is : List Instruction) (at new : ℕ) (i : Instruction) (x t : ℕ) (js : List Instruction) →
    Stands once is at new → drop at is ≡ i ∷ Copy x (Temp t) ∷ js →
    directed_all once (i ∷ Copy x (Temp t) ∷ js) ≡ directed x i ∷ directed_all once js → Stands once is (suc (suc at)) (suc new)
together-stands once is at new i x t js h e d =
    let behind : drop (suc at) is ≡ Copy x (Temp t) ∷ js = drop-next is at i (Copy x (Temp t) ∷ js) e in
    let after : drop (suc (suc at)) is ≡ js = drop-next is (suc at) (Copy x (Temp t)) js behind in
    record {
      rest = drop-next (directed_all once is) new (directed x i) (directed_all once js) (h.rest ∙ ap (directed_all once) e ∙ d)
          ∙ sym (ap (directed_all once) after);
      kept = kept behind;
    }
  where
    kept : drop (suc at) is ≡ Copy x (Temp t) ∷ js → Kept once is (suc (suc at))
    kept behind k j y u same first second =
        let here : suc at ≡ k = omega (arith, same) in
        let got : Some (Copy x (Temp t)) ≡ Some j =
        sym (get-drop is (suc at) ∙ ap (λ l. slice_get l 0) behind) ∙ (ap (λ m. slice_get is m) here ∙ first) in
        let is_j : Copy x (Temp t) ≡ j = cc in
        ap (λ z. makes u z && once u) (sym is_j)

-- ---- what a kept place reads

module _ (code : Tac) (b : ℕ) (block : Block) (is_block : slice_get code.blocks b ≡ Some block) (at : ℕ)
    (kept : Kept (is_once code) block.instructions at) where
  reads-kept : (i : Instruction) → slice_get block.instructions at ≡ Some i → (t : ℕ) → IsTrue (has (instruction_reads i) t) →
      Dropped code t → ⊥
  reads-kept i here t h d =
      let places = same-place code t d.once b d.b at (suc d.k) block d.block i (Copy d.x (Temp t)) is_block d.is_block here d.second h
      (copy-reads d.x t) in
      let same : Some d.block ≡ Some block = sym d.is_block ∙ (ap (λ n. slice_get code.blocks n) (sym places.0) ∙ is_block) in
      let it : d.block ≡ block = cc in
      let first : slice_get block.instructions d.k ≡ Some d.i = subst (λ z. slice_get z.instructions d.k ≡ Some d.i) it d.first in
      let second : slice_get block.instructions at ≡ Some (Copy d.x (Temp t)) =
      ap (λ n. slice_get block.instructions n) places.1
      ∙ subst (λ z. slice_get z.instructions (suc d.k) ≡ Some (Copy d.x (Temp t))) it d.second in
      let parted : (makes t d.i && is_once code t) ≡ false = kept d.k d.i d.x t places.1 first second in
      let joined : (makes t d.i && is_once code t) ≡ true = and_from (makes t d.i) (is_once code t) d.is_made d.once in
      false≢true (sym parted ∙ joined)

exit-kept : (code : Tac) (b : ℕ) (block : Block) → slice_get code.blocks b ≡ Some block → (t : ℕ) → IsTrue (has (exit_reads block.exit) t) →
    Dropped code t → ⊥
exit-kept code b block is_block t h d =
    not-both code t d.once d.b b (suc d.k) d.block block (Copy d.x (Temp t)) d.is_block is_block d.second (copy-reads d.x t) h

-- ---- temporaries that agree

put-same : (temps olds : Temps) (d v t : ℕ) → temps t ≡ olds t → put temps d v t ≡ put olds d v t
put-same temps olds d v t e = ap (λ z. if nat_eq t d then v else z) e

put-in-same : (w : Option ℕ) (v : ℕ) (temps olds : Temps) (t : ℕ) → temps t ≡ olds t → put_in w v temps t ≡ put_in w v olds t
put-in-same None v temps olds t e = e
put-in-same (Some d) v temps olds t e = put-same temps olds d v t e

put-here : (temps : Temps) (d v : ℕ) → put temps d v d ≡ v
put-here temps d v = ap (λ b. if b then v else temps d) (eq-eqb d d refl)

put-there : (temps : Temps) (d v t : ℕ) → (t ≡ d → ⊥) → put temps d v t ≡ temps t
put-there temps d v t n = ap (λ b. if b then v else temps t) (ne_eqb t d n)

-- a result and its copy, where all but the first temporary agree
put-both : (temps olds : Temps) (x t v u : ℕ) → temps u ≡ olds u → (u ≡ t → ⊥) →
    put temps x v u ≡ put (put olds t v) x (put olds t v t) u
put-both temps olds x t v u e n =
    ap (λ z. if nat_eq u x then v else z) (e ∙ sym (put-there olds t v u n))
    ∙ ap (λ z. if nat_eq u x then z else put olds t v u) (sym (put-here olds t v))

-- where a call begins
takes-at : (d : Destination) (v : Value) (a : Activation) → (takes d v a).at ≡ a.at
takes-at (destinations.Temp t) v a = refl
takes-at (destinations.Area n) v a = refl
takes-at destinations.Nothing v a = refl

takes_all-at : (ds : List Destination) (vs : List Value) (a : Activation) → (takes_all ds vs a).at ≡ a.at
takes_all-at [] vs a = refl
takes_all-at (d ∷ ds) [] a = refl
takes_all-at (d ∷ ds) (v ∷ vs) a = takes_all-at ds vs (takes d v a) ∙ takes-at d v a

fresh-follows : (p : Program) (a : Activation) → a.at ≡ 0 → Follows p a a.at a.temps
fresh-follows p a e = record {
  words = λ code h t n. refl;
  stands = λ code block h g.
      subst (λ n. Stands (is_once code) block.instructions n n) (sym e) (start-stands (is_once code) block.instructions);
}

stopped : (p : Program) (k : ℕ) (r : Run) → steps p k (Stops r) ≡ Stops r
stopped p zero r = refl
stopped p (suc k) r = refl

-- ---- runs

module _ (p q : Program) (made : HasBlocks directed_blocks p q) (r : Run) where
  abbrev Ends : Moved → Type 0
  Ends m = (k : ℕ) × (steps q k m ≡ Stops r)

  -- what ends so in at most so many steps ends so after the other
  abbrev Answered : ℕ → Moved → Moved → Type 0
  Answered n m new = (k : ℕ) → k ≤ n → steps p k m ≡ Stops r → Ends new

  stops : (n : ℕ) (x : Run) → Answered n (Stops x) (Stops x)
  stops n x k less e = (0, sym (stopped p k x) ∙ e)

  abbrev AllAnswered : ℕ → Type 0
  AllAnswered n =
      (s : State) (at : ℕ) (temps : Temps) (callers : List Caller) → Related p s at temps callers →
      Answered n (Goes s) (Goes (twin s at temps callers))

  waits-same : (c d : Caller) → Waits p c d → (d.waits.function ≡ c.waits.function) × (d.to ≡ c.to)
  waits-same c d w = (ap (λ z. z.waits.function) w.is, ap (λ z. z.to) w.is)

  module _ (n : ℕ) (ih : AllAnswered n) (s : State) (at : ℕ) (temps : Temps) (callers : List Caller)
      (related : Related p s at temps callers) where
    abbrev new : State
    new = twin s at temps callers

    -- a result is taken by who waited
    takes-follows : (to : Destination) (v : Value) (a : Activation) (other : ℕ) (words : Temps) (cs ds : List Caller) →
        Follows p a other words → Paired (Waits p) cs ds →
        Answered n (Goes (record s { here = takes to v a; callers = cs }))
        (Goes (record new { here = takes to v (record a { at = other; temps = words }); callers = ds }))
    takes-follows (destinations.Temp t) v a other words cs ds f w =
        ih (record s { here = takes (destinations.Temp t) v a; callers = cs }) other (put words t (number v)) ds
        (record {
          here = record {
            words = λ code h u m. put-same words a.temps t (number v) u (f.words code h u m);
            stands = f.stands;
          };
          others = w;
        })
    takes-follows (destinations.Area m) v a other words cs ds f w =
        ih (record s { here = takes (destinations.Area m) v a; callers = cs }) other words ds
        (record { here = record { words = f.words; stands = f.stands }; others = w })
    takes-follows destinations.Nothing v a other words cs ds f w =
        ih (record s { here = a; callers = cs }) other words ds (record { here = f; others = w })

    backs : (v : Value) (c d : Caller) (cs ds : List Caller) → Waits p c d → Paired (Waits p) cs ds →
        Answered n (Goes (back v c cs s)) (Goes (back v d ds new))
    backs v c d cs ds w others =
        subst (λ z. Answered n (Goes (back v c cs s)) (Goes (back v z ds new))) (sym w.is)
        (takes-follows c.to v c.waits w.at w.temps cs ds w.follows others)

    gives : (v : Value) → Answered n (give p v s.callers s) (give q v callers new)
    gives v =
        give-alike (Answered n) (stops n) directed_blocks p q made (Waits p) waits-same s at temps callers v s.callers callers
        related.others
        (λ c d cs ds w others. backs v c d cs ds w others)

    enters : (block left : ℕ) → Answered n (Goes (entered block left s)) (Goes (entered block left new))
    enters block left =
        ih (entered block left s) 0 temps callers
        (record {
          here = record {
            words = related.here.words;
            stands = λ code b h g. start-stands (is_once code) b.instructions;
          };
          others = related.others;
        })

    -- what follows an instruction that isn't a call, in an activation that stands on
    does : (w : Option ℕ) → Follows p (ahead s).here (suc at) temps → (v : ℕ) (areas : Areas) (region : Contents) (out : List ℕ) →
        Answered n (Goes (acted w v areas region out s)) (Goes (acted w v areas region out new))
    does w f v areas region out =
        ih (acted w v areas region out s) (suc at) (put_in w v temps) callers
        (record {
          here = record {
            words = λ code h t m. put-in-same w v temps s.here.temps t (f.words code h t m);
            stands = f.stands;
          };
          others = related.others;
        })

    -- and a call
    calls : Follows p (ahead s).here (suc at) temps → (to : Destination) (f : FnId) (code : Tac) (arguments : List Value) (left : ℕ) →
        Answered n (Goes (called to f code arguments left s)) (Goes (called to f code arguments left new))
    calls f to g code arguments left =
        let a : Activation = takes_all code.parameters arguments (fresh_in g code s.here.base) in
        ih (called to g code arguments left s) a.at a.temps (waiting to new ∷ callers)
        (record {
          here = fresh-follows p a (takes_all-at code.parameters arguments (fresh_in g code s.here.base));
          others = (record { at = suc at; temps = temps; is = refl; follows = f }, related.others);
        })

    module _ (code : Tac) (is_code : p.code s.here.function ≡ Some code) (block : Block)
        (is_block : slice_get code.blocks s.here.block ≡ Some block) where
      abbrev once : ℕ → Bool
      once = is_once code

      stands : Stands once block.instructions s.here.at at
      stands = related.here.stands code block is_code is_block

      -- an exit
      leaves : Answered n (leave p block.exit s) (leave q block.exit new)
      leaves =
          subst (λ e. Answered n (leave p block.exit s) (leave q e new)) (own-exit block.exit)
          (leave-alike (λ t. t) s at temps callers (Answered n) (stops n) p q block.exit
          (λ t h. related.here.words code is_code t (exit-kept code s.here.block block is_block t h)) enters gives)

      known : (i : Instruction) → slice_get block.instructions s.here.at ≡ Some i → (t : ℕ) → IsTrue (has (instruction_reads i) t) →
          temps t ≡ s.here.temps t
      known i here t h =
          related.here.words code is_code t (reads-kept code s.here.block block is_block s.here.at stands.kept i here t h)

      -- places of the same block
      stands-by : (old place : ℕ) → Stands once block.instructions old place → (c : Tac) (b : Block) → p.code s.here.function ≡ Some c →
          slice_get c.blocks s.here.block ≡ Some b → Stands (is_once c) b.instructions old place
      stands-by old place on c b h g =
          let codes : Some code ≡ Some c = sym is_code ∙ h in
          let one : code ≡ c = cc in
          let found : Some block ≡ Some b = sym is_block ∙ (ap (λ z. slice_get z.blocks s.here.block) one ∙ g) in
          let same : block ≡ b = cc in
          subst (λ z. Stands (is_once z) b.instructions old place) one (subst (λ z. Stands once z.instructions old place) same on)

      -- an instruction that stands alone
      acts : (i : Instruction) → slice_get block.instructions s.here.at ≡ Some i → Stands once block.instructions (suc s.here.at) (suc at) →
          Answered n (act p i s) (act q i new)
      acts i here on =
          subst (λ j. Answered n (act p i s) (act q j new)) (own-in i)
          (act-alike (λ t. t) s at temps callers (Answered n) (stops n) p q (same-values directed_blocks p q made) i (known i here)
          (does (instruction_write i) follows)
          (λ to w place f arguments.
          call-alike (λ t. t) s at temps callers (Answered n) (stops n) directed_blocks p q made
          (paired-long (Waits p) s.callers callers related.others) to place f arguments
          (λ c e left. calls follows to f c arguments left)))
        where
          follows : Follows p (ahead s).here (suc at) temps
          follows = record {
            words = related.here.words;
            stands = λ c b h g. stands-by (suc s.here.at) (suc at) on c b h g;
          }

      -- a result and its copy
      module _ (i : Instruction) (x t : ℕ) (first : slice_get block.instructions s.here.at ≡ Some i)
          (second : slice_get block.instructions (suc s.here.at) ≡ Some (Copy x (Temp t))) (is_made : IsTrue (makes t i))
          (is_read : IsTrue (once t)) (on : Stands once block.instructions (suc (suc s.here.at)) (suc at)) where
        dropped : Dropped code t
        dropped = record {
          once = is_read;
          b = s.here.block;
          block = block;
          is_block = is_block;
          k = s.here.at;
          i = i;
          x = x;
          first = first;
          is_made = is_made;
          second = second;
        }

        same-words : (v : ℕ) (c : Tac) → p.code s.here.function ≡ Some c → (u : ℕ) → (Dropped c u → ⊥) →
            put temps x v u ≡ put (put s.here.temps t v) x (put s.here.temps t v t) u
        same-words v c h u m =
            let codes : Some code ≡ Some c = sym is_code ∙ h in
            let one : code ≡ c = cc in
            put-both temps s.here.temps x t v u (related.here.words c h u m)
            (λ e. m (subst (λ z. Dropped c z) (sym e) (subst (λ z. Dropped z t) one dropped)))

        copies : (v : ℕ) (region : Contents) →
            Answered n (Goes (acted (Some t) v s.here.areas region s.out s)) (Goes (acted (Some x) v s.here.areas region s.out new))
        copies v region zero less e = absurd cc
        copies v region (suc k) less e =
            let between : State = acted (Some t) v s.here.areas region s.out s in
            let behind : State = acted (Some x) (put s.here.temps t v t) s.here.areas region s.out between in
            let stepped : step p between ≡ Goes behind =
            ap (λ o. in_function p o between) is_code ∙ ap (λ o. in_block p o between) is_block
            ∙ ap (λ o. step_in p block.exit o between) second in
            ih behind (suc at) (put temps x v) callers
            (record {
              here = record {
                words = same-words v;
                stands = λ c b h g. stands-by (suc (suc s.here.at)) (suc at) on c b h g;
              };
              others = related.others;
            })
            k (omega (arith, less)) (ap (λ m. steps p k m) (sym stepped) ∙ e)

        pairs : Answered n (act p i s) (act q (directed x i) new)
        pairs =
            subst (λ j. Answered n (act p i s) (act q (directed x j) new)) (own-in i)
            (direct-alike (λ u. u) s at temps callers (Answered n) (stops n) p q x t i is_made (known i first) copies)

      -- what becomes of the first instruction that is left
      goes-on : (i : Instruction) (rest : List Instruction) → drop s.here.at block.instructions ≡ i ∷ rest → Way once i rest →
          Answered n (act p i s) (step_in q block.exit (slice_get (directed_all once (i ∷ rest)) 0) new)
      goes-on i rest e (together x t js split is_made is_read d) =
          let here : slice_get block.instructions s.here.at ≡ Some i =
          get-drop block.instructions s.here.at ∙ ap (λ l. slice_get l 0) e in
          let behind : drop (suc s.here.at) block.instructions ≡ Copy x (Temp t) ∷ js =
          drop-next block.instructions s.here.at i rest e ∙ split in
          let second : slice_get block.instructions (suc s.here.at) ≡ Some (Copy x (Temp t)) =
          get-drop block.instructions (suc s.here.at) ∙ ap (λ l. slice_get l 0) behind in
          let on : Stands once block.instructions (suc (suc s.here.at)) (suc at) =
          together-stands once block.instructions s.here.at at i x t js stands (e ∙ ap (λ l. i ∷ l) split)
          (ap (λ l. directed_all once (i ∷ l)) (sym split) ∙ d) in
          subst (λ o. Answered n (act p i s) (step_in q block.exit o new)) (sym (ap (λ l. slice_get l 0) d))
          (pairs i x t here second is_made is_read on)
      goes-on i rest e (alone d apart) =
          let here : slice_get block.instructions s.here.at ≡ Some i =
          get-drop block.instructions s.here.at ∙ ap (λ l. slice_get l 0) e in
          subst (λ o. Answered n (act p i s) (step_in q block.exit o new)) (sym (ap (λ l. slice_get l 0) d))
          (acts i here (alone-stands once block.instructions s.here.at at i rest stands e d apart))

      left : (rest : List Instruction) → drop s.here.at block.instructions ≡ rest →
          Answered n (step_in p block.exit (slice_get rest 0) s) (step_in q block.exit (slice_get (directed_all once rest) 0) new)
      left [] e = leaves
      left (i ∷ rest) e = goes-on i rest e (way once i rest)

      in-the-block : Answered n (in_block p (Some block) s) (in_block q (Some (directed_block once block)) new)
      in-the-block =
          let rest : List Instruction = drop s.here.at block.instructions in
          subst (λ o. Answered n (step_in p block.exit o s)
          (step_in q block.exit (slice_get (directed_all once block.instructions) at) new))
          (sym (get-drop block.instructions s.here.at))
          (subst (λ o. Answered n (step_in p block.exit (slice_get rest 0) s) (step_in q block.exit o new))
          (sym (get-drop (directed_all once block.instructions) at ∙ ap (λ l. slice_get l 0) stands.rest))
          (left rest refl))

    blocked : (code : Tac) → p.code s.here.function ≡ Some code → (o : Option Block) → slice_get code.blocks s.here.block ≡ o →
        Answered n (in_block p o s) (in_block q (option_map (directed_block (is_once code)) o) new)
    blocked code e None f = stops n (Over Stuck s.out)
    blocked code e (Some block) f = in-the-block code e block f

    function : (o : Option Tac) → p.code s.here.function ≡ o →
        Answered n (in_function p o s) (in_function q (option_map (with_blocks directed_blocks) o) new)
    function None e = stops n (Over Stuck s.out)
    function (Some code) e =
        subst (λ o. Answered n (in_block p (slice_get code.blocks s.here.block) s) (in_block q o new))
        (sym (slice_get-map (directed_block (is_once code)) code.blocks s.here.block))
        (blocked code e (slice_get code.blocks s.here.block) refl)

    stepped : Answered n (step p s) (step q new)
    stepped =
        subst (λ o. Answered n (step p s) (in_function q o new)) (sym (made.code s.here.function)) (function (p.code s.here.function) refl)

  answered : (n : ℕ) → AllAnswered n
  answered n s at temps callers related zero less e = absurd cc
  answered zero s at temps callers related (suc k) less e = absurd (omega (arith, less))
  answered (suc n) s at temps callers related (suc k) less e =
      let rest : Ends (step q (twin s at temps callers)) = stepped n (answered n) s at temps callers related k (omega (arith, less)) e in
      (suc rest.0, rest.1)

  -- a function begins
  entered-first : (n : ℕ) (s : State) (top : ℕ) (f : FnId) (o : Option Tac) (arguments : List Value) →
      Answered n (enter (place_of o) f o arguments top [] s)
      (enter (place_of (option_map (with_blocks directed_blocks) o)) f (option_map (with_blocks directed_blocks) o) arguments top [] s)
  entered-first n s top f None arguments = stops n (Over Stuck s.out)
  entered-first n s top f (Some code) arguments =
      enter-alike (Answered n) (stops n) directed_blocks s s.here.at s.here.temps s.callers code.place f (Some code) arguments top [] []
      refl
      (λ c e.
      let a : Activation = takes_all c.parameters arguments (fresh_in f c top) in
      answered n (record s { callers = []; here = a }) a.at a.temps []
      (record { here = fresh-follows p a (takes_all-at c.parameters arguments (fresh_in f c top)); others = tt }))

  same-run : (statics : List ℕ) (memory m : ℕ) (f : FnId) (arguments : List Value) → TacRun p statics memory m f arguments r →
      TacRun q statics memory m f arguments r
  same-run statics memory m f arguments ran =
      let region : Contents = fresh memory statics in
      let nowhere : Activation =
      record { function = f; block = 0; at = 0; temps = λ t. 0; areas = λ a. []; base = end_address region } in
      let first : State = record { here = nowhere; callers = []; region = region; left = m; out = [] } in
      subst (λ o. Answered ran.0 (begun p statics memory m f arguments) (enter (place_of o) f o arguments (end_address region) [] first))
      (sym (made.code f))
      (entered-first ran.0 first (end_address region) f (p.code f) arguments) ran.0 (omega arith) ran.1

has-blocks : (p q : Program) → IsMade directed_code p q → HasBlocks directed_blocks p q
unfolding directed_code
has-blocks p q made = record { code = made.code; entries = made.entries }

pub directed-runs : (p q : Program) → IsMade directed_code p q → (statics : List ℕ) (memory n : ℕ) (f : FnId) (arguments : List Value)
    (r : Run) → TacRun p statics memory n f arguments r → TacRun q statics memory n f arguments r
directed-runs p q made statics memory n f arguments r ran = same-run p q (has-blocks p q made) r statics memory n f arguments ran
