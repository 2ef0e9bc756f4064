-- An instruction that calls nothing does the same by other names, where what it reads is the same.
use Rattle.std.proofs.Common.{◌≡◌, ℕ, suc, ◌+◌, ◌%◌, Bool, true, false, ◌&&◌, List, [], ◌∷◌, ◌++◌, length, map, replicate, Option, Some}
use Rattle.std.proofs.Common.{None, refl, sym, ap, ap₂, subst, subst₂, true≢false}
use Rattle.std.specs.Prelude.{if◌then◌else◌, nat_eq, nat_le}
use Rattle.terra_memory.specs.Numbers.{low_bytes, number_of, overwritten, part}
use Rattle.terra_memory.specs.Region.{Contents, alloc_of, range_of}
use Rattle.terra_words.specs.Runs.{Run, put_bytes, word, Over, Fault, Stuck}
use Rattle.terra_words.specs.Words.{applied, divides, is_negative, signed, wrapped}
use Rattle.terra_words.specs.declared.words.BinaryOperator.{BinaryOperator}
use Rattle.terra_words.specs.declared.words.FaultKind.TheVariants.{BadAddress, DivZero}
use Rattle.tl_base.specs.declared.place.Place.{Place}
use Rattle.tac_form.specs.declared.tac.Number.{Number}
use Rattle.tac_form.specs.declared.tac.Operand.{Operand}
use Rattle.tac_form.specs.declared.tac.Operand.TheVariants.{Constant, Temp}
use Rattle.tac_form.specs.declared.tac.Address.{Address}
use Rattle.tac_form.specs.declared.tac.Address.TheVariants.{Frame, Word}
use Rattle.tac_form.specs.declared.tac.Spot.{Spot}
use Rattle.tac_form.specs.declared.tac.Spot.TheVariants as spots
use Rattle.tac_form.specs.declared.tac.Part.{Part}
use Rattle.tac_form.specs.declared.tac.Part.TheVariants as parts
use Rattle.tac_form.specs.declared.tac.Instruction.{Instruction}
use Rattle.tac_form.specs.declared.tac.Instruction.TheVariants.{Alloc, Call, CallValue, Clear, Compute, Copy, Load, Locate, Move, PutByte}
use Rattle.tac_form.specs.declared.tac.Instruction.TheVariants.{Store, TestDivisor, Write}
use Rattle.tac_form.specs.Flow.{Areas, Caller, Goes, Moved, Program, State, Stops, Temps, act, address, ahead, allocated, bytes_of, fetched}
use Rattle.tac_form.specs.Flow.{from_spot, operand, put, set_temp, stop, to_spot, value_of, values_of, width_of, written}
use Rattle.tac_form.specs.Graph.{address_reads, instruction_reads, instruction_write, operand_reads, part_reads, parts_reads, spot_reads}
use Rattle.tac_copies.specs.Shortened.{named, named_address, named_in, named_part, named_spot}
use Rattle.tac_copies.proofs.ShortenedRunsSafe.{Agrees, agrees-left, agrees-right, put_if}

-- the same state elsewhere in its block, with other temporaries and callers
abbrev pub moved : (at : ℕ) → (new : Temps) → (callers : List Caller) → State → State
moved at new callers s = record s { here = record s.here { at = at; temps = new }; callers = callers }

-- the state behind an instruction
abbrev pub done : (w : Option ℕ) → (x : ℕ) → Areas → Contents → (out : List ℕ) → State → State
done w x areas region out s = record s {
  here = record s.here { at = suc s.here.at; temps = put_if w x s.here.temps; areas = areas };
  region = region;
  out = out;
}

-- two states go on in the same way, or both stop
pub data Answers (w : Option ℕ) (s s' : State) : Moved → Moved → Type 0 where
  stops : (r : Run) → Answers w s s' (Stops r) (Stops r)
  does : (x : ℕ) (areas : Areas) (region : Contents) (out : List ℕ) →
      Answers w s s' (Goes (done w x areas region out s)) (Goes (done w x areas region out s'))

abbrev pub calls : Instruction → Bool
calls (Call to at f arguments) = true
calls (CallValue to at sig a arguments) = true
calls _ = false

chosen : (w : Option ℕ) (s s' : State) (b : Bool) (m m' n n' : Moved) → Answers w s s' m m' → Answers w s s' n n' →
    Answers w s s' (if b then m else n) (if b then m' else n')
chosen w s s' true m m' n n' h g = h
chosen w s s' false m m' n n' h g = g

module _ (names : ℕ → ℕ) (s : State) (at : ℕ) (new : Temps) (callers : List Caller) where
  abbrev Reads : List ℕ → Type 0
  Reads ts = Agrees names s.here.temps new ts

  abbrev there : State
  there = moved at new callers s

  pub operand-same : (a : Operand) → Reads (operand_reads a) → operand there (named names a) ≡ operand s a
  operand-same (Temp t) h = sym h.0
  operand-same (Constant c) h = refl

  address-same : (a : Address) → Reads (address_reads a) → address there (named_address names a) ≡ address s a
  address-same (Word a) h = operand-same a h
  address-same (Frame offset) h = refl

  pub value-same : (v : Part) → Reads (part_reads v) → value_of there (named_part names v) ≡ value_of s v
  value-same (parts.Word a) h = ap word (operand-same a h)
  value-same (parts.Area n) h = refl

  pub values-same : (vs : List Part) → Reads (parts_reads vs) → values_of there (map (named_part names) vs) ≡ values_of s vs
  values-same [] h = refl
  values-same (v ∷ vs) h = ap₂ ◌∷◌ (value-same v (agrees-left names s.here.temps new (part_reads v) (parts_reads vs) h))
      (values-same vs (agrees-right names s.here.temps new (part_reads v) (parts_reads vs) h))

  fetched-alike : (w : Option ℕ) (place : Place) (o : Option (List ℕ)) (go go' : List ℕ → Moved) →
      ((bs : List ℕ) → Answers w s there (go bs) (go' bs)) → Answers w s there (fetched place s o go) (fetched place there o go')
  fetched-alike w place None go go' h = stops (Over (Fault BadAddress place) s.out)
  fetched-alike w place (Some bs) go go' h = h bs

  from-alike : (w : Option ℕ) (spot : Spot) (size : ℕ) (go go' : List ℕ → Moved) → Reads (spot_reads spot) →
      ((bs : List ℕ) → Answers w s there (go bs) (go' bs)) →
      Answers w s there (from_spot spot size s go) (from_spot (named_spot names spot) size there go')
  from-alike w (spots.Region place a) size go go' reads h = subst
      (λ x. Answers w s there (fetched place s (range_of s.region (address s a) size) go)
      (fetched place there (range_of s.region x size) go'))
      (sym (address-same a reads)) (fetched-alike w place (range_of s.region (address s a) size) go go' h)
  from-alike w (spots.Area n offset) size go go' reads h =
      chosen w s there (nat_le (offset + size) (length (s.here.areas n))) (go (part (s.here.areas n) offset size))
      (go' (part (s.here.areas n) offset size)) (stop s Stuck) (stop there Stuck) (h (part (s.here.areas n) offset size))
      (stops (Over Stuck s.out))

  written-alike : (place : Place) (o : Option Contents) → Answers None s there (written place s o) (written place there o)
  written-alike place None = stops (Over (Fault BadAddress place) s.out)
  written-alike place (Some r) = does 0 s.here.areas r s.out

  to-alike : (spot : Spot) (bs : List ℕ) → Reads (spot_reads spot) →
      Answers None s there (to_spot spot bs s) (to_spot (named_spot names spot) bs there)
  to-alike (spots.Region place a) bs reads = subst
      (λ x. Answers None s there (written place s (put_bytes s.region (address s a) bs)) (written place there (put_bytes s.region x bs)))
      (sym (address-same a reads)) (written-alike place (put_bytes s.region (address s a) bs))
  to-alike (spots.Area n offset) bs reads =
      chosen None s there (nat_le offset (length (s.here.areas n))) _ _ (stop s Stuck) (stop there Stuck)
      (does 0 (put s.here.areas n (overwritten (s.here.areas n) offset bs)) s.region s.out)
      (stops (Over Stuck s.out))

  -- what an operator, and what prints, does with words
  abbrev computes : ℕ → BinaryOperator → Number → (x y : ℕ) → State → Moved
  computes d op form x y u =
      if divides op && nat_eq y 0 then stop u Stuck else Goes (ahead (set_temp d (applied (width_of form) op x y) u))

  computes-alike : (d : ℕ) (op : BinaryOperator) (form : Number) (x y : ℕ) →
      Answers (Some d) s there (computes d op form x y s) (computes d op form x y there)
  computes-alike d op form x y = chosen (Some d) s there (divides op && nat_eq y 0) (stop s Stuck) (stop there Stuck) _ _
      (stops (Over Stuck s.out)) (does (applied (width_of form) op x y) s.here.areas s.region s.out)

  abbrev prints : Place → (x y : ℕ) → State → Moved
  prints place x y u =
      if is_negative y then stop u (Fault BadAddress place)
      else fetched place u (range_of u.region x y) (λ bs. Goes (ahead (record u { out = u.out ++ bs })))

  prints-alike : (place : Place) (x y : ℕ) → Answers None s there (prints place x y s) (prints place x y there)
  prints-alike place x y = chosen None s there (is_negative y) (stop s (Fault BadAddress place)) (stop there (Fault BadAddress place)) _ _
      (stops (Over (Fault BadAddress place) s.out))
      (fetched-alike None place (range_of s.region x y) _ _ (λ bs. does 0 s.here.areas s.region (s.out ++ bs)))

  abbrev tests : Place → ℕ → State → Moved
  tests place x u = if nat_eq x 0 then stop u (Fault DivZero place) else Goes (ahead u)

  tests-alike : (place : Place) (x : ℕ) → Answers None s there (tests place x s) (tests place x there)
  tests-alike place x = chosen None s there (nat_eq x 0) (stop s (Fault DivZero place)) (stop there (Fault DivZero place)) _ _
      (stops (Over (Fault DivZero place) s.out)) (does 0 s.here.areas s.region s.out)

  pub acts-alike : (p q : Program) (i : Instruction) → calls i ≡ false → Reads (instruction_reads i) →
      Answers (instruction_write i) s there (act p i s) (act q (named_in names i) there)
  acts-alike p q (Compute d op form a b) h reads = subst₂
      (λ x y. Answers (Some d) s there (computes d op form (operand s a) (operand s b) s) (computes d op form x y there))
      (sym (operand-same a (agrees-left names s.here.temps new (operand_reads a) (operand_reads b) reads)))
      (sym (operand-same b (agrees-right names s.here.temps new (operand_reads a) (operand_reads b) reads)))
      (computes-alike d op form (operand s a) (operand s b))
  acts-alike p q (TestDivisor place a) h reads = subst (λ x. Answers None s there (tests place (operand s a) s) (tests place x there))
      (sym (operand-same a reads)) (tests-alike place (operand s a))
  acts-alike p q (Copy d a) h reads = subst
      (λ x. Answers (Some d) s there (Goes (ahead (set_temp d (operand s a) s))) (Goes (ahead (set_temp d x there))))
      (sym (operand-same a reads)) (does (operand s a) s.here.areas s.region s.out)
  acts-alike p q (Locate d offset) h reads = does (s.here.base + offset) s.here.areas s.region s.out
  acts-alike p q (Load d form spot) h reads =
      from-alike (Some d) spot (bytes_of form.size) _ _ reads
      (λ bs. does (wrapped (width_of form) (number_of bs)) s.here.areas s.region s.out)
  acts-alike p q (Store spot size a) h reads = subst
      (λ x. Answers None s there (to_spot spot (low_bytes (bytes_of size) (operand s a)) s)
      (to_spot (named_spot names spot) (low_bytes (bytes_of size) x) there))
      (sym (operand-same a (agrees-right names s.here.temps new (spot_reads spot) (operand_reads a) reads)))
      (to-alike spot (low_bytes (bytes_of size) (operand s a))
      (agrees-left names s.here.temps new (spot_reads spot) (operand_reads a) reads))
  acts-alike p q (Move to from size) h reads =
      from-alike None from size _ _ (agrees-right names s.here.temps new (spot_reads to) (spot_reads from) reads)
      (λ bs. to-alike to bs (agrees-left names s.here.temps new (spot_reads to) (spot_reads from) reads))
  acts-alike p q (Clear n size) h reads = does 0 (put s.here.areas n (replicate size 0)) s.region s.out
  acts-alike p q (Call to place f arguments) h reads = absurd (true≢false h)
  acts-alike p q (CallValue to place sig a arguments) h reads = absurd (true≢false h)
  acts-alike p q (PutByte a) h reads = subst
      (λ x. Answers None s there (Goes (ahead (record s { out = s.out ++ operand s a % 256 ∷ [] })))
      (Goes (ahead (record there { out = s.out ++ x % 256 ∷ [] }))))
      (sym (operand-same a reads)) (does 0 s.here.areas s.region (s.out ++ operand s a % 256 ∷ []))
  acts-alike p q (Write place a b) h reads = subst₂
      (λ x y. Answers None s there (prints place (operand s a) (operand s b) s) (prints place x y there))
      (sym (operand-same a (agrees-left names s.here.temps new (operand_reads a) (operand_reads b) reads)))
      (sym (operand-same b (agrees-right names s.here.temps new (operand_reads a) (operand_reads b) reads)))
      (prints-alike place (operand s a) (operand s b))
  acts-alike p q (Alloc d a) h reads = subst
      (λ x. Answers (Some d) s there (allocated d s (alloc_of s.region (signed (operand s a))))
      (allocated d there (alloc_of s.region (signed x))))
      (sym (operand-same a reads))
      (does (alloc_of s.region (signed (operand s a))).0 s.here.areas (alloc_of s.region (signed (operand s a))).1 s.out)
