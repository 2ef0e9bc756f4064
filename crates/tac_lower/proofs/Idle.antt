-- Where a temporary isn't live in lowered code: a piece reads what it is given, and what it writes itself before.
use Rattle.std.proofs.Common.{◌≡◌, ℕ, zero, suc, ◌+◌, ◌<◌, Bool, true, false, List, [], ◌∷◌, ◌++◌, length, map, Option, Some, None, refl}
use Rattle.std.proofs.Common.{ap, ◌∙◌, subst, arith}
use Rattle.std.specs.Prelude.{◌^◌, ◌-◌, not, ◌&&◌, ◌||◌, nat_eq, slice_get, option_map, if◌then◌else◌}
use Rattle.std.specs.List.{list_any}
use Rattle.std.proofs.lemmas.List.Folds.{list_any-append}
use Rattle.std.proofs.lemmas.Option.{slice_get-map}
use Rattle.tl_base.specs.declared.place.Place.{Place}
use Rattle.tl_base.specs.declared.ids.SymId.{SymId}
use Rattle.tl_base.specs.declared.ids.TypeId.{TypeId}
use Rattle.tl_base.specs.declared.ids.FnId.{FnId}
use Rattle.lua_value.specs.declared.primitive.Primitive.TheVariants as primitives
use Rattle.terra_words.specs.declared.words.BinaryOperator.{BinaryOperator}
use Rattle.terra_words.specs.declared.words.BinaryOperator.TheVariants as operators
use Rattle.terra_words.specs.Words.{wrapped, divides}
use Rattle.terra_types.specs.declared.types.TypeForm.{TypeForm}
use Rattle.terra_types.specs.Opening.{boolean}
use Rattle.terra_term.specs.declared.operators.Operation.{Operation}
use Rattle.terra_term.specs.declared.operators.Operation.TheVariants as operations
use Rattle.terra_term.specs.declared.lists.TypedName.{TypedName}
use Rattle.terra_term.specs.TypedTerms.{Expression, typed, Constant', Variable, Global, Operate, Both, Either, Dereference, Select, Follow}
use Rattle.terra_term.specs.TypedTerms.{Element, Index, Address, Decay, Let, Expressions, no_more, then_one, type_of, place_of}
use Rattle.terra_meaning.specs.Values.{form_at, bytes_at, is_aggregate, target_of}
use Rattle.terra_meaning.specs.Frames.{Home, by_value, in_frame, home_at}
use Rattle.terra_meaning.specs.Meaning.{Wanted, the_value, the_address, type_at}
use Rattle.tac_form.specs.declared.tac.Number.{Number}
use Rattle.tac_form.specs.declared.tac.Operand.{Operand}
use Rattle.tac_form.specs.declared.tac.Operand.TheVariants.{Temp, Constant}
use Rattle.tac_form.specs.declared.tac.Address.TheVariants as addresses
use Rattle.tac_form.specs.declared.tac.Spot.{Spot}
use Rattle.tac_form.specs.declared.tac.Spot.TheVariants as spots
use Rattle.tac_form.specs.declared.tac.Destination.{Destination}
use Rattle.tac_form.specs.declared.tac.Destination.TheVariants as destinations
use Rattle.tac_form.specs.declared.tac.Instruction.{Instruction}
use Rattle.tac_form.specs.declared.tac.Instruction.TheVariants.{Compute, TestDivisor, Copy, Locate, Load, Store, Move, Clear, Call}
use Rattle.tac_form.specs.declared.tac.Instruction.TheVariants.{CallValue, PutByte, Write, Alloc}
use Rattle.tac_form.specs.declared.tac.Exit.{Exit}
use Rattle.tac_form.specs.declared.tac.Block.{Block}
use Rattle.tac_form.specs.declared.graph.FlowBlock.{FlowBlock}
use Rattle.tac_form.specs.Graph.{operand_reads, spot_reads, part_reads, parts_reads, instruction_reads, instruction_write, exit_reads}
use Rattle.tac_form.specs.Graph.{exit_next, step_of, steps_of, block_of}
use Rattle.tac_form.specs.Live as live
use Rattle.tac_form.specs.Live.{is_written, before_step, before_exit, at_step, at_place, read_within}
use Rattle.tac_form.specs.Flow as flow
use Rattle.tac_lower.specs.Pieces.{Used, with_temp, with_area, Piece, known, doing, following, then_piece, taken, Result, a_word, an_area}
use Rattle.tac_lower.specs.Pieces.{an_offset, no_word, word_of, part_of, parts_of, address_of, result_at, word_at, rest, long, whole_word}
use Rattle.tac_lower.specs.Pieces.{number_of, is_bool, compute, copied, located, loaded_bit, loaded_number, loaded_word, loaded}
use Rattle.tac_lower.specs.Pieces.{stored_part, stored, placed, Holder, in_temp, at_offset, Holders, holder_of, bound, Around, declare_at}
use Rattle.tac_lower.specs.Pieces.{declare, declare_all, first_of}
use Rattle.tac_lower.specs.Lowering.{cut, fitted, is_whole, reached, variable, entry, element, binary, difference, form_of, turned_form}
use Rattle.tac_lower.specs.Lowering.{turned_over, extracted, constructed, signature_in, call, call_value, operation, Target, to_temp}
use Rattle.tac_lower.specs.Lowering.{to_place, target_at, aimed, assigned_all, Counting, is_one, either_way, runs}
use Rattle.tac_lower.proofs.Places.{Point, step_on, start_of, after, after-append, DoesAt, EndsAt, HasAt, has-front, has-back}

abbrev pub before : ℕ → ℕ
before zero = zero
before (suc n) = n

-- a value or none
abbrev pub listed : Option Result → List Result
listed None = []
listed (Some r) = r ∷ []

module _ (blocks : List Block) (t : ℕ) where
  abbrev pub graph : List FlowBlock
  graph = map block_of blocks

  -- the temporary isn't among these
  abbrev pub Lacks : List ℕ → Type 0
  Lacks ts = live.has ts t ≡ false

  -- no way of fewer than so many steps leads from a place to a read of the temporary with no write between
  abbrev pub Idle : ℕ → Point → Type 0
  Idle k at = (j : ℕ) → j < k → read_within graph j at.block at.at t ≡ false

  pub idle-before : (k : ℕ) (at : Point) → Idle k at → Idle (before k) at
  idle-before zero at h j lt = absurd (omega (arith, lt))
  idle-before (suc k) at h j lt = h j (omega (arith, lt))

  lacks-both : (a b : List ℕ) → Lacks a → Lacks b → Lacks (a ++ b)
  lacks-both a b x y = list_any-append (λ u. nat_eq u t) a b ∙ ap (λ p. p || live.has b t) x ∙ y

  -- a step that doesn't read it, and writes it or leaves it idle
  pub step-idle : (at : Point) (i : Instruction) (k : ℕ) → DoesAt blocks at i → Lacks (instruction_reads i) →
      (is_written (instruction_write i) t ≡ false → Idle k (step_on at)) → Idle k at
  step-idle at i k d lacks next zero lt = refl
  step-idle at i k d lacks next (suc j) lt =
      ap (λ b. at_place b at.at (λ c. read_within graph j c 0 t) (read_within graph j at.block (suc at.at) t) t) here
      ∙ ap (λ s. at_step (block_of d.block) s (λ c. read_within graph j c 0 t) (read_within graph j at.block (suc at.at) t) t) stands
      ∙ ap (λ b. b || (not (is_written (instruction_write i) t) && read_within graph j at.block (suc at.at) t)) lacks
      ∙ by (is_written (instruction_write i) t) next
    where
      here : slice_get graph at.block ≡ Some (block_of d.block)
      here = slice_get-map block_of blocks at.block ∙ ap (λ o. option_map block_of o) d.there

      stands : slice_get (steps_of d.block.instructions) at.at ≡ Some (step_of i)
      stands = slice_get-map step_of d.block.instructions at.at ∙ ap (λ o. option_map step_of o) d.does

      by : (w : Bool) → (w ≡ false → Idle k (step_on at)) → (not w && read_within graph j at.block (suc at.at) t) ≡ false
      by true n = refl
      by false n = n refl j (omega (arith, lt))

  -- idle in each block that follows
  abbrev pub IdleNext : ℕ → List ℕ → Type 0
  IdleNext k [] = Unit {0}
  IdleNext k (c ∷ cs) = Idle k (start_of c) × IdleNext k cs

  pub exit-idle : (at : Point) (x : Exit) (k : ℕ) → EndsAt blocks at x → Lacks (exit_reads x) → IdleNext (before k)
      (exit_next x) → Idle k at
  exit-idle at x k d lacks next zero lt = refl
  exit-idle at x zero d lacks next (suc j) lt = absurd (omega (arith, lt))
  exit-idle at x (suc k) d lacks next (suc j) lt =
      ap (λ b. at_place b at.at (λ c. read_within graph j c 0 t) (read_within graph j at.block (suc at.at) t) t) here
      ∙ ap (λ s. at_step (block_of d.block) s (λ c. read_within graph j c 0 t) (read_within graph j at.block (suc at.at) t) t) stands
      ∙ ap (λ y. live.has (exit_reads y) t || list_any (λ c. read_within graph j c 0 t) (exit_next y)) d.ends
      ∙ ap (λ b. b || list_any (λ c. read_within graph j c 0 t) (exit_next x)) lacks
      ∙ by (exit_next x) next
    where
      here : slice_get graph at.block ≡ Some (block_of d.block)
      here = slice_get-map block_of blocks at.block ∙ ap (λ o. option_map block_of o) d.there

      stands : slice_get (steps_of d.block.instructions) at.at ≡ None
      stands = slice_get-map step_of d.block.instructions at.at ∙ ap (λ o. option_map step_of o) d.does

      by : (cs : List ℕ) → IdleNext k cs → list_any (λ c. read_within graph j c 0 t) cs ≡ false
      by [] n = refl
      by (c ∷ cs) n = ap (λ b. b || list_any (λ e. read_within graph j e 0 t) cs) (n.0 j (omega (arith, lt))) ∙ by cs n.1

  -- what isn't the temporary

  abbrev pub Free : Operand → Type 0
  Free (Temp n) = nat_eq n t ≡ false
  Free (Constant c) = Unit {0}

  abbrev pub FreeResult : Result → Type 0
  FreeResult r = Free (word_of r)

  abbrev pub FreeAll : List Result → Type 0
  FreeAll [] = Unit {0}
  FreeAll (r ∷ rs) = FreeResult r × FreeAll rs

  abbrev pub FreeSpot : Spot → Type 0
  FreeSpot (spots.Region at (addresses.Word a)) = Free a
  FreeSpot (spots.Region at (addresses.Frame o)) = Unit {0}
  FreeSpot (spots.Area n o) = Unit {0}

  abbrev pub FreeHolder : Holder → Type 0
  FreeHolder (in_temp n) = nat_eq n t ≡ false
  FreeHolder (at_offset o) = Unit {0}

  abbrev pub FreeScope : Holders → Type 0
  FreeScope [] = Unit {0}
  FreeScope (b ∷ bs) = FreeHolder b.holder × FreeScope bs

  abbrev pub FreeHeld : Option Holder → Type 0
  FreeHeld None = Unit {0}
  FreeHeld (Some h) = FreeHolder h

  abbrev pub FreeTarget : Target → Type 0
  FreeTarget (to_temp n) = Unit {0}
  FreeTarget (to_place r) = FreeResult r

  abbrev pub FreeTargets : List Target → Type 0
  FreeTargets [] = Unit {0}
  FreeTargets (p ∷ ps) = FreeTarget p × FreeTargets ps

  pub lacks-word : (o : Operand) → Free o → Lacks (operand_reads o)
  lacks-word (Temp n) h = ap (λ b. b || false) h
  lacks-word (Constant c) h = refl

  pub lacks-two : (a b : Operand) → Free a → Free b → Lacks (operand_reads a ++ operand_reads b)
  lacks-two a b x y = lacks-both (operand_reads a) (operand_reads b) (lacks-word a x) (lacks-word b y)

  lacks-spot : (s : Spot) → FreeSpot s → Lacks (spot_reads s)
  lacks-spot (spots.Region at (addresses.Word a)) h = lacks-word a h
  lacks-spot (spots.Region at (addresses.Frame o)) h = refl
  lacks-spot (spots.Area n o) h = refl

  pub lacks-part : (r : Result) → FreeResult r → Lacks (part_reads (part_of r))
  lacks-part (a_word o) h = lacks-word o h
  lacks-part (an_area n) h = refl
  lacks-part (an_offset o) h = refl

  lacks-parts : (rs : List Result) → FreeAll rs → Lacks (parts_reads (parts_of rs))
  lacks-parts [] h = refl
  lacks-parts (r ∷ rs) h = lacks-both (part_reads (part_of r)) (parts_reads (parts_of rs)) (lacks-part r h.0) (lacks-parts rs h.1)

  address-free : (at : Place) (r : Result) → FreeResult r → FreeSpot (spots.Region at (address_of r))
  address-free at (a_word o) h = h
  address-free at (an_area n) h = tt
  address-free at (an_offset o) h = tt

  pub result-free : (rs : List Result) (i : ℕ) → FreeAll rs → FreeResult (result_at rs i)
  result-free [] i h = tt
  result-free (r ∷ rs) zero h = h.0
  result-free (r ∷ rs) (suc i) h = result-free rs i h.1

  pub rest-free : (rs : List Result) → FreeAll rs → FreeAll (rest rs)
  rest-free [] h = tt
  rest-free (r ∷ rs) h = h.1

  held-free : (x : SymId) (scope : Holders) → FreeScope scope → FreeHeld (holder_of x scope)
  held-free x [] h = tt
  held-free x (b ∷ bs) h = by (nat_eq x.0 b.symbol.0) (held-free x bs h.1)
    where
      by : (c : Bool) → FreeHeld (holder_of x bs) → FreeHeld (if c then Some b.holder else holder_of x bs)
      by true more = h.0
      by false more = more

  -- pieces

  -- Where the temporary isn't among what a piece is given, it is idle where the piece begins, if it is where the piece ends or is
  -- among what the piece gives.
  pub record Clean {A : Type 0} (P : Type 0) (p : Piece A) (R : A → Type 0) : Type 0 where
    pub idle : (out k : ℕ) (at : Point) → HasAt blocks out at p.code → P → (R p.result → Idle k (after p.code at)) →
        Idle (before k) (start_of out) → Idle k at

  pub then-clean : {A B : Type 0} {P : Type 0} {R : A → Type 0} {S : B → Type 0} (p : Piece A) (q : Piece B) → Clean P p R →
      Clean (P × R p.result) q S → Clean P (following p q) S
  then-clean p q x y = record {
    idle = λ out k at has h c o.
        x.idle out k at (has-front blocks out at p.code q.code has) h
        (λ r. y.idle out k (after p.code at) (has-back blocks out at p.code q.code has) (h, r)
        (λ s. subst (λ m. Idle k m) (after-append p.code q.code at) (c s)) o) o;
  }

  pub weak-clean : {A : Type 0} {P Q : Type 0} {R : A → Type 0} (p : Piece A) → Clean P p R → (Q → P) → Clean Q p R
  weak-clean p x f = record { idle = λ out k at has h c o. x.idle out k at has (f h) c o }

  pub taken-clean : {A B : Type 0} {P : Type 0} {R : A → Type 0} (S : B → Type 0) (f : A → B) (p : Piece A) → Clean P p R →
      (P → R p.result → S (f p.result)) → Clean P (taken f p) S
  taken-clean S f p x g = record { idle = λ out k at has h c o. x.idle out k at has h (λ r. c (g h r)) o }

  pub known-clean : {A : Type 0} {P : Type 0} (R : A → Type 0) (a : A) (u : Used) → (P → R a) → Clean P (known a u) R
  known-clean R a u f = record { idle = λ out k at has h c o. c (f h) }

  pub doing-clean : {A : Type 0} {P : Type 0} (R : A → Type 0) (a : A) (i : Instruction) (u : Used) → (P → Lacks (instruction_reads i)) →
      (P → is_written (instruction_write i) t ≡ false → R a) → Clean P (doing a i u) R
  doing-clean R a i u reads writes =
      record { idle = λ out k at has h c o. step-idle at i k has.0 (reads h) (λ w. c (writes h w)) }

  pub compute-clean : {P : Type 0} (op : BinaryOperator) (form : Number) (a b : Operand) (u : Used) → (P → Free a) → (P → Free b) →
      Clean P (compute op form a b u) FreeResult
  compute-clean op form a b u x y =
      doing-clean FreeResult (a_word (Temp u.temps)) (Compute u.temps op form a b) (with_temp u) (λ h. lacks-two a b (x h) (y h)) (λ h w. w)

  fitted-clean : {P : Type 0} (form : Number) (a : Operand) (u : Used) → (P → Free a) → Clean P (fitted form a u) FreeResult
  fitted-clean {P} form a u x = by (is_whole form.size)
    where
      less : (b : Operand) → (P → Free b) → Clean P (cut form b u) FreeResult
      less (Temp d) y = compute-clean operators.Add form (Temp d) (Constant 0) u y (λ h. tt)
      less (Constant c) y = known-clean FreeResult (a_word (Constant (wrapped (flow.width_of form) c))) u (λ h. tt)

      by : (whole : Bool) → Clean P (if whole then known (a_word a) u else cut form a u) FreeResult
      by true = known-clean FreeResult (a_word a) u x
      by false = less a x

  copied-clean : {P : Type 0} (a : Operand) (u : Used) → (P → Free a) → Clean P (copied a u) FreeResult
  copied-clean a u x =
      doing-clean FreeResult (a_word (Temp u.temps)) (Copy u.temps a) (with_temp u) (λ h. lacks-word a (x h)) (λ h w. w)

  pub located-clean : {P : Type 0} (r : Result) (u : Used) → (P → FreeResult r) → Clean P (located r u) FreeResult
  located-clean (a_word o) u x = known-clean FreeResult (a_word o) u x
  located-clean (an_area n) u x = known-clean FreeResult (an_area n) u x
  located-clean (an_offset o) u x =
      doing-clean FreeResult (a_word (Temp u.temps)) (Locate u.temps o) (with_temp u) (λ h. refl) (λ h w. w)

  loaded-clean : {P : Type 0} (types : List TypeForm) (of : TypeId) (from : Spot) (u : Used) → (P → FreeSpot from) →
      Clean P (loaded types of from u) FreeResult
  loaded-clean {P = P} types of from u x = by (is_aggregate types of) (nat_eq (bytes_at types of) 0) (nat_eq (bytes_at types of) 0)
    where
      size : ℕ
      size = bytes_at types of

      area : (b : Bool) → Clean P (if b then known (an_area (length u.areas)) (with_area (bytes_at types of) u)
          else doing (an_area (length u.areas)) (Move (spots.Area (length u.areas) 0) from (bytes_at types of))
          (with_area (bytes_at types of) u)) FreeResult
      area true = known-clean FreeResult (an_area (length u.areas)) (with_area (bytes_at types of) u) (λ h. tt)
      area false =
          doing-clean FreeResult (an_area (length u.areas)) (Move (spots.Area (length u.areas) 0) from (bytes_at types of))
          (with_area (bytes_at types of) u) (λ h. lacks-spot from (x h)) (λ h w. tt)

      bit : (b : Bool) (r : Result) (v : Used) → Clean (P × FreeResult r) (loaded_bit b r v) FreeResult
      bit true r v = compute-clean operators.And whole_word (word_of r) (Constant 1) v (λ h. h.1) (λ h. tt)
      bit false r v = known-clean FreeResult r v (λ h. h.1)

      by : (agg none empty : Bool) → Clean P (if agg then (if empty then known (an_area (length u.areas)) (with_area (bytes_at types of) u)
          else doing (an_area (length u.areas)) (Move (spots.Area (length u.areas) 0) from (bytes_at types of))
          (with_area (bytes_at types of) u)) else (if none then known no_word u else loaded_word types of from u)) FreeResult
      by true none empty = area empty
      by false true empty = known-clean FreeResult no_word u (λ h. tt)
      by false false empty =
          then-clean {R = FreeResult} (loaded_number (number_of types of) from u)
          (loaded_bit (is_bool types of) (a_word (Temp u.temps)) (with_temp u))
          (doing-clean FreeResult (a_word (Temp u.temps)) (Load u.temps (number_of types of) from) (with_temp u)
          (λ h. lacks-spot from (x h)) (λ h w. w)) (bit (is_bool types of) (a_word (Temp u.temps)) (with_temp u))

  stored-clean : {P : Type 0} (types : List TypeForm) (of : TypeId) (to : Spot) (r : Result) (u : Used) → (P → FreeSpot to) →
      (P → FreeResult r) → Clean P (stored types of to r u) (λ b. Unit {0})
  stored-clean {P = P} types of to r u x y = by (nat_eq (bytes_at types of) 0) r y
    where
      store : (q : Result) → (P → FreeResult q) → Clean P (doing (tt {0}) (Store to (number_of types of).size (word_of q)) u)
          (λ b. Unit {0})
      store q f =
          doing-clean (λ b. Unit {0}) (tt {0}) (Store to (number_of types of).size (word_of q)) u
          (λ h. lacks-both (spot_reads to) (operand_reads (word_of q)) (lacks-spot to (x h)) (lacks-word (word_of q) (f h))) (λ h w. tt)

      by : (b : Bool) (q : Result) → (P → FreeResult q) → Clean P (if b then known (tt {0}) u else stored_part types of to q u)
          (λ b. Unit {0})
      by true q f = known-clean (λ b. Unit {0}) (tt {0}) u (λ h. tt)
      by false (a_word o) f = store (a_word o) f
      by false (an_area n) f =
          doing-clean (λ b. Unit {0}) (tt {0}) (Move to (spots.Area n 0) (bytes_at types of)) u
          (λ h. lacks-both (spot_reads to) [] (lacks-spot to (x h)) refl) (λ h w. tt)
      by false (an_offset o) f = store (an_offset o) f

  placed-clean : {P : Type 0} (types : List TypeForm) (of : TypeId) (to : Spot) (r : Result) (u : Used) → (P → FreeSpot to) →
      (P → FreeResult r) → Clean P (placed types of to r u) (λ b. Unit {0})
  placed-clean types of to (an_area n) u x y = stored-clean types of to (an_area n) u x y
  placed-clean {P = P} types of to (a_word a) u x y = by (nat_eq (bytes_at types of) 0)
    where
      by : (b : Bool) → Clean P (if b then taken (λ c. tt {0}) (copied a u) else stored types of to (a_word a) u) (λ b. Unit {0})
      by true = taken-clean (λ b. Unit {0}) (λ c. tt {0}) (copied a u) (copied-clean a u y) (λ h r. tt)
      by false = stored-clean types of to (a_word a) u x y
  placed-clean {P = P} types of to (an_offset a) u x y = by (nat_eq (bytes_at types of) 0)
    where
      by : (b : Bool) → Clean P (if b then taken (λ c. tt {0}) (copied (Constant 0) u) else stored types of to (an_offset a) u)
          (λ b. Unit {0})
      by true = taken-clean (λ b. Unit {0}) (λ c. tt {0}) (copied (Constant 0) u) (copied-clean (Constant 0) u (λ h. tt)) (λ h r. tt)
      by false = stored-clean types of to (an_offset a) u x y

  pub reached-clean : {P : Type 0} (types : List TypeForm) (want : Wanted) (at : Place) (of : TypeId) (r : Result) (u : Used) →
      (P → FreeResult r) → Clean P (reached types want at of r u) FreeResult
  reached-clean types the_value at of r u x =
      loaded-clean types of (spots.Region at (address_of r)) u (λ h. address-free at r (x h))
  reached-clean types the_address at of r u x = known-clean FreeResult r u x

  pub variable-clean : {P : Type 0} (types : List TypeForm) (want : Wanted) (at : Place) (of : TypeId) (x : SymId) (scope : Holders)
      (u : Used) → (P → FreeScope scope) → Clean P (variable types want at of (holder_of x scope) u) FreeResult
  variable-clean {P = P} types want at of x scope u f = by (holder_of x scope) (λ h. held-free x scope (f h))
    where
      by : (o : Option Holder) → (P → FreeHeld o) → Clean P (variable types want at of o u) FreeResult
      by None g = known-clean FreeResult no_word u (λ h. tt)
      by (Some (in_temp n)) g = copied-clean (Temp n) u g
      by (Some (at_offset o)) g = reached-clean types want at of (an_offset o) u (λ h. tt)

  pub entry-clean : {P : Type 0} (offset : ℕ) (r : Result) (u : Used) → (P → FreeResult r) → Clean P (entry offset r u) FreeResult
  entry-clean offset (an_offset o) u x = known-clean FreeResult (an_offset (o + offset)) u (λ h. tt)
  entry-clean {P = P} offset (a_word a) u x = by (nat_eq offset 0)
    where
      by : (b : Bool) → Clean P (if b then known (a_word a) u else compute operators.Add whole_word a (Constant offset) u) FreeResult
      by true = known-clean FreeResult (a_word a) u x
      by false = compute-clean operators.Add whole_word a (Constant offset) u x (λ h. tt)
  entry-clean {P = P} offset (an_area n) u x = by (nat_eq offset 0)
    where
      by : (b : Bool) → Clean P (if b then known (a_word (Constant 0)) u
          else compute operators.Add whole_word (Constant 0) (Constant offset) u) FreeResult
      by true = known-clean FreeResult (a_word (Constant 0)) u x
      by false = compute-clean operators.Add whole_word (Constant 0) (Constant offset) u x (λ h. tt)

  -- two operators, the second over what the first gives
  twice-clean : {P : Type 0} (op other : BinaryOperator) (form second : Number) (a b x : Operand) (u : Used) → (P → Free a) → (P → Free b) →
      (P → Free x) → Clean P (then_piece (compute op form a b u) (λ r u'. compute other second x (word_of r) u')) FreeResult
  twice-clean op other form second a b x u ha hb hx =
      then-clean {R = FreeResult} (compute op form a b u) (compute other second x (Temp u.temps) (with_temp u))
      (compute-clean op form a b u ha hb)
      (compute-clean other second x (Temp u.temps) (with_temp u) (λ h. hx h.0) (λ h. h.1))

  pub element-clean : {P : Type 0} (size : ℕ) (from index : Operand) (u : Used) → (P → Free from) → (P → Free index) →
      Clean P (element size from index u) FreeResult
  element-clean size from index u x y =
      twice-clean operators.Multiply operators.Add whole_word whole_word index (Constant size) from u y (λ h. tt) x

  difference-clean : {P : Type 0} (size : ℕ) (x y : Operand) (u : Used) → (P → Free x) → (P → Free y) →
      Clean P (difference size x y u) FreeResult
  difference-clean size x y u f g =
      then-clean {R = FreeResult} (compute operators.Subtract (long true) x y u)
      (compute operators.Divide (long true) (Temp u.temps) (Constant size) (with_temp u))
      (compute-clean operators.Subtract (long true) x y u f g)
      (compute-clean operators.Divide (long true) (Temp u.temps) (Constant size) (with_temp u) (λ h. h.1) (λ h. tt))

  binary-clean : {P : Type 0} (at : Place) (form : Number) (op : BinaryOperator) (x y : Operand) (u : Used) → (P → Free x) → (P → Free y) →
      Clean P (binary at form op x y u) FreeResult
  binary-clean {P = P} at form op x y u f g = by (divides op)
    where
      by : (b : Bool) → Clean P (then_piece (if b then doing (tt {0}) (TestDivisor at y) u else known (tt {0}) u)
          (λ t1 u'. compute op (form_of op form y) x y u')) FreeResult
      by true =
          then-clean {R = λ b. Unit {0}} (doing (tt {0}) (TestDivisor at y) u) (compute op (form_of op form y) x y u)
          (doing-clean (λ b. Unit {0}) (tt {0}) (TestDivisor at y) u (λ h. lacks-word y (g h)) (λ h w. tt))
          (compute-clean op (form_of op form y) x y u (λ h. f h.0) (λ h. g h.0))
      by false =
          then-clean {R = λ b. Unit {0}} (known (tt {0}) u) (compute op (form_of op form y) x y u)
          (known-clean (λ b. Unit {0}) (tt {0}) u (λ h. tt))
          (compute-clean op (form_of op form y) x y u (λ h. f h.0) (λ h. g h.0))

  extracted-clean : {P : Type 0} (types : List TypeForm) (of : TypeId) (offset : ℕ) (r : Result) (u : Used) →
      Clean P (extracted types of offset r u) FreeResult
  extracted-clean types of offset (an_area n) u = loaded-clean types of (spots.Area n offset) u (λ h. tt)
  extracted-clean types of offset (a_word o) u = known-clean FreeResult no_word u (λ h. tt)
  extracted-clean types of offset (an_offset o) u = known-clean FreeResult no_word u (λ h. tt)

  constructed-clean : (types : List TypeForm) (area : ℕ) (os : List ℕ) (ts : List TypeId) (rs : List Result) (u : Used) →
      Clean (FreeAll rs) (constructed types area os ts rs u) (λ b. Unit {0})
  constructed-clean types area [] ts rs u = known-clean (λ b. Unit {0}) (tt {0}) u (λ h. tt)
  constructed-clean types area (o ∷ os) [] rs u = known-clean (λ b. Unit {0}) (tt {0}) u (λ h. tt)
  constructed-clean types area (o ∷ os) (s ∷ ts) [] u = known-clean (λ b. Unit {0}) (tt {0}) u (λ h. tt)
  constructed-clean types area (o ∷ os) (s ∷ ts) (r ∷ rs) u =
      let p = stored types s (spots.Area area o) r u in
      then-clean {R = λ b. Unit {0}} p (constructed types area os ts rs p.used)
      (stored-clean types s (spots.Area area o) r u (λ h. tt) (λ h. h.0))
      (weak-clean (constructed types area os ts rs p.used) (constructed-clean types area os ts rs p.used) (λ h. h.0.1))

  module _ (c : Around) (at : Place) (of : TypeId) (ts : List TypeId) (rs : List Result) (u : Used) where
    abbrev forms_of : List TypeForm
    forms_of = c.types

    abbrev Fit : Operation → Type 0
    Fit op = Clean (FreeAll rs) (operation c at of op ts rs u) FreeResult

    word : (i : ℕ) → FreeAll rs → Free (word_at rs i)
    word i h = result-free rs i h

    abbrev goes_to : Bool → Piece Destination
    goes_to b = if b then known (destinations.Area (length u.areas)) (with_area (bytes_at forms_of of) u)
        else known (destinations.Temp u.temps) (with_temp u)

    call-clean : (f : FnId) → Fit (operations.Call f)
    call-clean f = by (is_aggregate forms_of of)
      where
        by : (b : Bool) → Clean (FreeAll rs) (then_piece (goes_to b) (λ to u'. call at f rs to u')) FreeResult
        by true =
            doing-clean FreeResult (an_area (length u.areas)) (Call (destinations.Area (length u.areas)) at f (parts_of rs))
            (with_area (bytes_at forms_of of) u) (λ h. lacks-parts rs h) (λ h w. tt)
        by false =
            doing-clean FreeResult (a_word (Temp u.temps)) (Call (destinations.Temp u.temps) at f (parts_of rs)) (with_temp u)
            (λ h. lacks-parts rs h) (λ h w. w)

    value-call-clean : Fit operations.CallValue
    value-call-clean = by (is_aggregate forms_of of)
      where
        reads : FreeAll rs → Lacks (operand_reads (word_at rs 0) ++ parts_reads (parts_of (rest rs)))
        reads h =
            lacks-both (operand_reads (word_at rs 0)) (parts_reads (parts_of (rest rs))) (lacks-word (word_at rs 0) (word 0 h))
            (lacks-parts (rest rs) (rest-free rs h))

        by : (b : Bool) → Clean (FreeAll rs)
            (then_piece (goes_to b) (λ to u'. call_value at (signature_in (form_at forms_of (type_at ts 0))) rs to u')) FreeResult
        by true =
            doing-clean FreeResult (an_area (length u.areas)) (CallValue (destinations.Area (length u.areas)) at
            (signature_in (form_at forms_of (type_at ts 0))) (word_at rs 0) (parts_of (rest rs)))
            (with_area (bytes_at forms_of of) u) reads (λ h w. tt)
        by false =
            doing-clean FreeResult (a_word (Temp u.temps)) (CallValue (destinations.Temp u.temps) at
            (signature_in (form_at forms_of (type_at ts 0))) (word_at rs 0) (parts_of (rest rs))) (with_temp u) reads (λ h w. w)

    not-clean : Fit operations.Not
    not-clean = by (nat_eq of.0 boolean.0)
      where
        by : (b : Bool) → Clean (FreeAll rs) (if b then compute operators.Xor whole_word (word_at rs 0) (Constant 1) u
            else turned_over (number_of forms_of of) (word_at rs 0) u) FreeResult
        by true = compute-clean operators.Xor whole_word (word_at rs 0) (Constant 1) u (word 0) (λ h. tt)
        by false =
            compute-clean operators.Xor (turned_form (number_of forms_of of)) (word_at rs 0) (Constant (2 ^ 64 - 1)) u (word 0) (λ h. tt)

    convert-clean : Fit operations.Convert
    convert-clean = by (nat_eq of.0 boolean.0)
      where
        by : (b : Bool) → Clean (FreeAll rs) (if b then compute operators.NotEqual whole_word (word_at rs 0) (Constant 0) u
            else fitted (number_of forms_of of) (word_at rs 0) u) FreeResult
        by true = compute-clean operators.NotEqual whole_word (word_at rs 0) (Constant 0) u (word 0) (λ h. tt)
        by false = fitted-clean (number_of forms_of of) (word_at rs 0) u (word 0)

    pub operation-clean : (op : Operation) → Fit op
    operation-clean operations.Negate =
        compute-clean operators.Subtract (number_of forms_of of) (Constant 0) (word_at rs 0) u (λ h. tt) (word 0)
    operation-clean operations.Not = not-clean
    operation-clean (operations.Binary op) =
        binary-clean at (number_of forms_of (type_at ts 0)) op (word_at rs 0) (word_at rs 1) u (word 0) (word 1)
    operation-clean operations.StepForward =
        twice-clean operators.Multiply operators.Add whole_word whole_word (word_at rs 1) (Constant (bytes_at forms_of
        (target_of forms_of of)))
        (word_at rs 0) u (word 1) (λ h. tt) (word 0)
    operation-clean operations.StepBack =
        twice-clean operators.Multiply operators.Subtract whole_word whole_word (word_at rs 1)
        (Constant (bytes_at forms_of (target_of forms_of of))) (word_at rs 0) u (word 1) (λ h. tt) (word 0)
    operation-clean operations.Difference =
        difference-clean (bytes_at forms_of (target_of forms_of (type_at ts 0))) (word_at rs 0) (word_at rs 1) u (word 0) (word 1)
    operation-clean operations.Convert = convert-clean
    operation-clean (operations.Extract o) = extracted-clean forms_of of o (result_at rs 0) u
    operation-clean (operations.Call f) = call-clean f
    operation-clean (operations.Primitive primitives.PutByte) =
        doing-clean FreeResult no_word (PutByte (word_at rs 0)) u (λ h. lacks-word (word_at rs 0) (word 0 h)) (λ h w. tt)
    operation-clean (operations.Primitive primitives.Write) =
        doing-clean FreeResult no_word (Write at (word_at rs 0) (word_at rs 1)) u
        (λ h. lacks-two (word_at rs 0) (word_at rs 1) (word 0 h) (word 1 h)) (λ h w. tt)
    operation-clean (operations.Primitive primitives.Alloc) =
        doing-clean FreeResult (a_word (Temp u.temps)) (Alloc u.temps (word_at rs 0)) (with_temp u)
        (λ h. lacks-word (word_at rs 0) (word 0 h)) (λ h w. w)
    operation-clean operations.CallValue = value-call-clean
    operation-clean (operations.Construct os) =
        let n = length u.areas in
        let size = bytes_at forms_of of in
        let p = doing (tt {0}) (Clear n size) (with_area size u) in
        let q = constructed forms_of n os ts rs (with_area size u) in
        taken-clean {R = λ b. Unit {0}} FreeResult (λ b. an_area n) (following p q)
        (then-clean {R = λ b. Unit {0}} p q
        (doing-clean (λ b. Unit {0}) (tt {0}) (Clear n size) (with_area size u) (λ h. refl) (λ h w. tt))
        (weak-clean q (constructed-clean forms_of n os ts rs (with_area size u)) (λ h. h.0))) (λ h r. tt)

  -- declarations

  declare-clean : {P : Type 0} (types : List TypeForm) (at : Place) (x : TypedName) (o : Option Result) (home : Home) (scope : Holders)
      (u : Used) → (P → FreeAll (listed o)) → (P → FreeScope scope) → Clean P (declare_at types at x o home scope u) FreeScope
  declare-clean types at x None by_value scope u y s =
      taken-clean {R = FreeResult} FreeScope (λ a. bound x.symbol (in_temp u.temps) scope) (copied (Constant 0) u)
      (copied-clean (Constant 0) u (λ h. tt)) (λ h r. (r, s h))
  declare-clean types at x (Some v) by_value scope u y s =
      taken-clean {R = FreeResult} FreeScope (λ a. bound x.symbol (in_temp u.temps) scope) (copied (word_of v) u)
      (copied-clean (word_of v) u (λ h. (y h).0)) (λ h r. (r, s h))
  declare-clean types at x None (in_frame o) scope u y s =
      known-clean FreeScope (bound x.symbol (at_offset o) scope) u (λ h. (tt, s h))
  declare-clean types at x (Some v) (in_frame o) scope u y s =
      taken-clean {R = λ b. Unit {0}} FreeScope (λ a. bound x.symbol (at_offset o) scope)
      (placed types x.of (spots.Region at (addresses.Frame o)) v u)
      (placed-clean types x.of (spots.Region at (addresses.Frame o)) v u (λ h. tt) (λ h. (y h).0)) (λ h r. (tt, s h))

  first-listed : (rs : List Result) → FreeAll rs → FreeAll (listed (first_of rs))
  first-listed [] h = tt
  first-listed (r ∷ rs) h = (h.0, tt)

  pub declares-clean : (c : Around) (at : Place) (xs : List TypedName) (rs : List Result) (k : ℕ) (scope : Holders) (u : Used) →
      Clean (FreeAll rs × FreeScope scope) (declare_all c at xs rs k scope u) FreeScope
  declares-clean c at [] rs k scope u = known-clean FreeScope scope u (λ h. h.1)
  declares-clean c at (x ∷ xs) rs k scope u =
      let p = declare c at x (first_of rs) k scope u in
      let q = declare_all c at xs (rest rs) (suc k) p.result p.used in
      then-clean {R = FreeScope} p q
      (declare-clean c.types at x (first_of rs) (home_at c.homes k) scope u (λ h. first-listed rs h.0) (λ h. h.1))
      (weak-clean q (declares-clean c at xs (rest rs) (suc k) p.result p.used) (λ h. (rest-free rs h.0.0, h.1)))

  pub one-declare-clean : {P : Type 0} (c : Around) (at : Place) (x : TypedName) (r : Result) (k : ℕ) (scope : Holders) (u : Used) →
      (P → FreeResult r) → (P → FreeScope scope) → Clean P (declare c at x (Some r) k scope u) FreeScope
  one-declare-clean c at x r k scope u y s =
      declare-clean c.types at x (Some r) (home_at c.homes k) scope u (λ h. (y h, tt)) s

  -- assignments

  target-clean : {P : Type 0} (o : Option Holder) (p : Piece Result) (u : Used) → Clean P p FreeResult → Clean P
      (target_at o p u) FreeTarget
  target-clean None p u x = taken-clean {R = FreeResult} FreeTarget to_place p x (λ h r. r)
  target-clean (Some (in_temp n)) p u x = known-clean FreeTarget (to_temp n) u (λ h. tt)
  target-clean (Some (at_offset o)) p u x = taken-clean {R = FreeResult} FreeTarget to_place p x (λ h r. r)

  pub aimed-clean : {P : Type 0} (scope : Holders) (e : Expression) (p : Piece Result) (u : Used) → Clean P p FreeResult →
      Clean P (aimed scope e p u) FreeTarget
  aimed-clean scope (typed at of (Variable y)) p u x = target-clean (holder_of y scope) p u x
  aimed-clean scope (typed at of (Constant' y)) p u x = taken-clean {R = FreeResult} FreeTarget to_place p x (λ h r. r)
  aimed-clean scope (typed at of (Global y)) p u x = taken-clean {R = FreeResult} FreeTarget to_place p x (λ h r. r)
  aimed-clean scope (typed at of (Operate y z)) p u x = taken-clean {R = FreeResult} FreeTarget to_place p x (λ h r. r)
  aimed-clean scope (typed at of (Both y z)) p u x = taken-clean {R = FreeResult} FreeTarget to_place p x (λ h r. r)
  aimed-clean scope (typed at of (Either y z)) p u x = taken-clean {R = FreeResult} FreeTarget to_place p x (λ h r. r)
  aimed-clean scope (typed at of (Dereference y)) p u x = taken-clean {R = FreeResult} FreeTarget to_place p x (λ h r. r)
  aimed-clean scope (typed at of (Select y z)) p u x = taken-clean {R = FreeResult} FreeTarget to_place p x (λ h r. r)
  aimed-clean scope (typed at of (Follow y z)) p u x = taken-clean {R = FreeResult} FreeTarget to_place p x (λ h r. r)
  aimed-clean scope (typed at of (Element y z)) p u x = taken-clean {R = FreeResult} FreeTarget to_place p x (λ h r. r)
  aimed-clean scope (typed at of (Index y z)) p u x = taken-clean {R = FreeResult} FreeTarget to_place p x (λ h r. r)
  aimed-clean scope (typed at of (Address y)) p u x = taken-clean {R = FreeResult} FreeTarget to_place p x (λ h r. r)
  aimed-clean scope (typed at of (Decay y)) p u x = taken-clean {R = FreeResult} FreeTarget to_place p x (λ h r. r)
  aimed-clean scope (typed at of (Let y z)) p u x = taken-clean {R = FreeResult} FreeTarget to_place p x (λ h r. r)

  pub assigned-clean : (types : List TypeForm) (es : Expressions) (ps : List Target) (rs : List Result) (u : Used) →
      Clean (FreeTargets ps × FreeAll rs) (assigned_all types es ps rs u) (λ b. Unit {0})
  assigned-clean types no_more ps rs u = known-clean (λ b. Unit {0}) (tt {0}) u (λ h. tt)
  assigned-clean types (then_one e es) [] rs u = known-clean (λ b. Unit {0}) (tt {0}) u (λ h. tt)
  assigned-clean types (then_one e es) (to_temp n ∷ ps) rs u =
      let p = doing (tt {0}) (Copy n (word_of (result_at rs 0))) u in
      let q = assigned_all types es ps (rest rs) u in
      then-clean {R = λ b. Unit {0}} p q
      (doing-clean (λ b. Unit {0}) (tt {0}) (Copy n (word_of (result_at rs 0))) u
      (λ h. lacks-word (word_of (result_at rs 0)) (result-free rs 0 h.1)) (λ h w. tt))
      (weak-clean q (assigned-clean types es ps (rest rs) u) (λ h. (h.0.0.1, rest-free rs h.0.1)))
  assigned-clean types (then_one e es) (to_place r ∷ ps) rs u =
      let p = stored types (type_of e) (spots.Region (place_of e) (address_of r)) (result_at rs 0) u in
      let q = assigned_all types es ps (rest rs) p.used in
      then-clean {R = λ b. Unit {0}} p q
      (stored-clean types (type_of e) (spots.Region (place_of e) (address_of r)) (result_at rs 0) u
      (λ h. address-free (place_of e) r h.0.0) (λ h. result-free rs 0 h.1))
      (weak-clean q (assigned-clean types es ps (rest rs) p.used) (λ h. (h.0.0.1, rest-free rs h.0.1)))

  -- the test of a `for`

  module _ {P : Type 0} (k : Counting) (value : P → Free (Temp k.value)) (limit : P → Free k.limit) (stepped : P → Free k.step) where
    either-clean : {Q : Type 0} (below : Operand) (u : Used) → (Q → P) → (Q → Free below) → Clean Q (either_way k below u) FreeResult
    either-clean {Q = Q} below u f b =
        let u1 = with_temp u in let u2 = with_temp u1 in let u3 = with_temp u2 in let u4 = with_temp u3 in
        let above = Temp u.temps in let falls = Temp u1.temps in let rises = Temp u2.temps in let falling = Temp u3.temps in
        let rising = Temp u4.temps in
        let p1 = compute operators.Less k.number k.limit (Temp k.value) u in
        let p2 = compute operators.Less k.number k.step (Constant 0) u1 in
        let p3 = compute operators.Greater k.number k.step (Constant 0) u2 in
        let p4 = compute operators.And whole_word falls above u3 in
        let p5 = compute operators.And whole_word rises below u4 in
        let p6 = compute operators.Or whole_word falling rising (with_temp u4) in
        then-clean {R = FreeResult} p1 (following p2 (following p3 (following p4 (following p5 p6))))
        (compute-clean operators.Less k.number k.limit (Temp k.value) u (λ h. limit (f h)) (λ h. value (f h)))
        (then-clean {R = FreeResult} p2 (following p3 (following p4 (following p5 p6)))
        (compute-clean operators.Less k.number k.step (Constant 0) u1 (λ h. stepped (f h.0)) (λ h. tt))
        (then-clean {R = FreeResult} p3 (following p4 (following p5 p6))
        (compute-clean operators.Greater k.number k.step (Constant 0) u2 (λ h. stepped (f h.0.0)) (λ h. tt))
        (then-clean {R = FreeResult} p4 (following p5 p6)
        (compute-clean operators.And whole_word falls above u3 (λ h. h.0.1) (λ h. h.0.0.1))
        (then-clean {R = FreeResult} p5 p6
        (compute-clean operators.And whole_word rises below u4 (λ h. h.0.1) (λ h. b h.0.0.0.0))
        (compute-clean operators.Or whole_word falling rising (with_temp u4) (λ h. h.0.1) (λ h. h.1))))))

    abbrev last : (signed : Bool) → Used → Piece Result
    last signed u =
        if signed then either_way k (Temp u.temps) (with_temp (with_temp u))
        else compute operators.And whole_word (Temp u.temps) (Temp (suc u.temps)) (with_temp (with_temp u))

    pub runs-clean : (u : Used) → Clean P (runs k u) FreeResult
    runs-clean u = by (is_one k.step) k.number.signed
      where
        last-clean : (signed : Bool) → Clean ((P × Free (Temp u.temps)) × Free (Temp (suc u.temps))) (last signed u) FreeResult
        last-clean true = either-clean (Temp u.temps) (with_temp (with_temp u)) (λ h. h.0.0) (λ h. h.0.1)
        last-clean false =
            compute-clean operators.And whole_word (Temp u.temps) (Temp (suc u.temps)) (with_temp (with_temp u)) (λ h. h.0.1) (λ h. h.1)

        by : (one signed : Bool) → Clean P (then_piece (compute operators.Less k.number (Temp k.value) k.limit u) (λ below u'.
            if one then known below u' else then_piece (compute operators.NotEqual whole_word k.step (Constant 0) u') (λ moves u''.
            if signed then either_way k (word_of below) u'' else compute operators.And whole_word (word_of below) (word_of moves) u'')))
            FreeResult
        by true signed =
            then-clean {R = FreeResult} (compute operators.Less k.number (Temp k.value) k.limit u)
            (known (a_word (Temp u.temps)) (with_temp u)) (compute-clean operators.Less k.number (Temp k.value) k.limit u value limit)
            (known-clean FreeResult (a_word (Temp u.temps)) (with_temp u) (λ h. h.1))
        by false signed =
            then-clean {R = FreeResult} (compute operators.Less k.number (Temp k.value) k.limit u)
            (following (compute operators.NotEqual whole_word k.step (Constant 0) (with_temp u)) (last signed u))
            (compute-clean operators.Less k.number (Temp k.value) k.limit u value limit)
            (then-clean {R = FreeResult} (compute operators.NotEqual whole_word k.step (Constant 0) (with_temp u)) (last signed u)
            (compute-clean operators.NotEqual whole_word k.step (Constant 0) (with_temp u) (λ h. stepped h.0) (λ h. tt))
            (last-clean signed))
