-- Lowered code of typed functions names what is there, and reaches what lies within its frame and areas.
use Rattle.std.proofs.Common.{◌≡◌, ℕ, zero, suc, ◌+◌, ◌<◌, ◌≤◌, Bool, true, false, List, [], ◌∷◌, ◌++◌, length, Option, Some, None, refl}
use Rattle.std.proofs.Common.{sym, ap, ◌∙◌, subst, arith, length-append, append_assoc}
use Rattle.std.specs.Prelude.{◌^◌, ◌&&◌, nat_eq, nat_le, nat_lt, slice_get, unwrap_or, if◌then◌else◌}
use Rattle.std.proofs.lemmas.Bool.{and_from, eqb-false, ltb-true, lt-ltb, le-leb, ne_eqb, not_from_false}
use Rattle.std.specs.List.{list_all}
use Rattle.std.proofs.lemmas.List.Folds.{list_all-append}
use Rattle.std.proofs.lemmas.Option.{slice_get-get_or}
use Rattle.std.proofs.Math.Seq.{get_or-append_seam}
use Rattle.tl_base.specs.declared.place.Place.{Place}
use Rattle.tl_base.specs.declared.ids.SymId.{SymId}
use Rattle.tl_base.specs.declared.ids.TypeId.{TypeId}
use Rattle.terra_words.specs.declared.words.BinaryOperator.{BinaryOperator}
use Rattle.terra_words.specs.declared.words.BinaryOperator.TheVariants as operators
use Rattle.terra_types.specs.declared.types.Integer.TheVariants.{Int8, Int16, Int32, Int64, Uint8, Uint16, Uint32, Uint64}
use Rattle.terra_types.specs.declared.types.TypeForm.{TypeForm}
use Rattle.terra_types.specs.declared.types.TypeForm.TheVariants as forms
use Rattle.terra_term.specs.declared.lists.TypedName.{TypedName}
use Rattle.terra_term.specs.WellTyped as typing
use Rattle.terra_meaning.specs.Values.{form_at, bytes_at, is_aggregate}
use Rattle.terra_meaning.specs.Meaning.{Wanted, the_value, the_address}
use Rattle.tac_form.specs.declared.tac.Number.{Number}
use Rattle.tac_form.specs.declared.tac.Operand.{Operand}
use Rattle.tac_form.specs.declared.tac.Operand.TheVariants.{Temp, Constant}
use Rattle.tac_form.specs.declared.tac.Address.TheVariants as addresses
use Rattle.tac_form.specs.declared.tac.Instruction.{Instruction}
use Rattle.tac_form.specs.declared.tac.Instruction.TheVariants.{Compute, Copy, Locate, Load, Store, Move}
use Rattle.tac_form.specs.declared.tac.Spot.{Spot}
use Rattle.tac_form.specs.declared.tac.Spot.TheVariants as spots
use Rattle.tac_form.specs.declared.tac.Tac.{Tac}
use Rattle.tac_form.specs.Flow as flow
use Rattle.tac_form.specs.Flow.{area_size}
use Rattle.tac_form.specs.Fits.{area_fits, operand_fits, place_fits, area_there, part_fits, spot_fits, are_apart, instruction_fits}
use Rattle.tac_lower.specs.Items.{Item, does, ends, Ending, skips, tests, repeats, repeats_unless, leaves, gives, fails, count_ends}
use Rattle.tac_lower.specs.Items.{loop_of}
use Rattle.tac_lower.specs.Pieces.{Used, with_temp, with_area, Piece, known, doing, following, taken, Result, a_word, an_area, an_offset}
use Rattle.tac_lower.specs.Pieces.{no_word, word_of, part_of, address_of, whole_word, number_in, number_of, is_bool, compute, copied}
use Rattle.tac_lower.specs.Pieces.{located, loaded_bit, loaded_number, loaded_area, loaded_word, loaded, stored_part, stored, placed}
use Rattle.tac_lower.specs.Pieces.{declare_at, parts_of, word_at, Holder, in_temp, at_offset, Holders, holder_of}
use Rattle.tac_lower.specs.Lowering.{reached, variable, entry, element}
use Rattle.terra_meaning.specs.Frames.{Home, by_value, in_frame}
use Rattle.tac_lower.specs.Needs.{GoodHome}
use Rattle.tac_lower.proofs.Standing.{SizedBy, Grown}
use Rattle.tac_lower.proofs.Simulates.{grown-none, grown-then}
use Rattle.tac_lower.proofs.Writes.{grown-temp, grown-area}
use Rattle.tac_lower.proofs.Keeps.{sizes}
use Rattle.tac_lower.proofs.Places.{count-append}
use Rattle.tac_lower.proofs.Typing.{no, same-id}

-- a number has the bytes of its type
number-bytes : (f : TypeForm) (n : ℕ) → SizedBy f n → is_aggregate (f ∷ []) (record { 0 = 0 }) ≡ false → nat_eq n 0 ≡ false →
    flow.bytes_of (number_in f).size ≡ n
number-bytes (forms.Integer Int8) n s p z = sym s
number-bytes (forms.Integer Int16) n s p z = sym s
number-bytes (forms.Integer Int32) n s p z = sym s
number-bytes (forms.Integer Int64) n s p z = sym s
number-bytes (forms.Integer Uint8) n s p z = sym s
number-bytes (forms.Integer Uint16) n s p z = sym s
number-bytes (forms.Integer Uint32) n s p z = sym s
number-bytes (forms.Integer Uint64) n s p z = sym s
number-bytes forms.Bool n s p z = sym s
number-bytes forms.Unit n s p z = absurd (eqb-false n 0 z s)
number-bytes (forms.Pointer t) n s p z = sym s
number-bytes (forms.Function ps r) n s p z = sym s
number-bytes (forms.Array t m) n s p z = let bad : true ≡ false = p in absurd (grind (arith, bad))
number-bytes (forms.Struct m q l) n s p z = let bad : true ≡ false = p in absurd (grind (arith, bad))

module _ (types : List TypeForm) (tac : Tac) where
  abbrev pub within : Used
  within = record { temps = tac.temps; areas = tac.areas }

  -- items of which a function's code may be made, where so many blocks end behind them
  abbrev pub EndFits : Ending → ℕ → Type 0
  EndFits (skips k) more = k < more
  EndFits (tests a k) more = (operand_fits tac a ≡ true) × (k < more)
  EndFits (repeats k) more = Unit {0}
  EndFits (repeats_unless a k) more = (operand_fits tac a ≡ true) × (0 < more)
  EndFits leaves more = Unit {0}
  EndFits (gives v) more = part_fits tac v ≡ true
  EndFits (fails kind at) more = place_fits at ≡ true

  abbrev pub ItemsFit : List Item → ℕ → Type 0
  ItemsFit [] more = Unit {0}
  ItemsFit (does i ∷ is) more = (instruction_fits tac i ≡ true) × ItemsFit is more
  ItemsFit (ends e ∷ is) more = EndFits e (count_ends is + more) × ItemsFit is more

  -- a piece of code, behind which a block ends
  abbrev pub Fine : List Item → Type 0
  Fine is = (more : ℕ) → 1 ≤ more → ItemsFit is more

  pub items-append : (a b : List Item) (more : ℕ) → ItemsFit a (count_ends b + more) → ItemsFit b more → ItemsFit (a ++ b) more
  items-append [] b more x y = y
  items-append (does i ∷ a) b more x y = (x.0, items-append a b more x.1 y)
  items-append (ends e ∷ a) b more x y = (
    subst (EndFits e) (let h = count-append a b in
        let n : count_ends a + (count_ends b + more) ≡ count_ends (a ++ b) + more = omega (arith, h) in n) x.0,
    items-append a b more x.1 y,
  )

  pub fine-append : (a b : List Item) → Fine a → Fine b → Fine (a ++ b)
  fine-append a b x y more one = items-append a b more (x (count_ends b + more) (omega (arith, one))) (y more one)

  pub fine-loop : (is : List Item) → Fine is → Fine (loop_of is)
  fine-loop is x more one = by is more one (x more one)
    where
      count-loop : (is : List Item) → count_ends (loop_of is) ≡ count_ends is
      count-loop [] = refl
      count-loop (does i ∷ is) = count-loop is
      count-loop (ends e ∷ is) = ap suc (count-loop is)

      same : (e : Ending) (is : List Item) (more : ℕ) → EndFits e (count_ends is + more) → EndFits e (count_ends (loop_of is) + more)
      same e is more h = subst (λ n. EndFits e (n + more)) (sym (count-loop is)) h

      by : (is : List Item) (more : ℕ) → 1 ≤ more → ItemsFit is more → ItemsFit (loop_of is) more
      by [] more one h = tt
      by (does i ∷ is) more one h = (h.0, by is more one h.1)
      by (ends (skips k) ∷ is) more one h = (same (skips k) is more h.0, by is more one h.1)
      by (ends (tests a k) ∷ is) more one h = (same (tests a k) is more h.0, by is more one h.1)
      by (ends (repeats k) ∷ is) more one h = (tt, by is more one h.1)
      by (ends (repeats_unless a k) ∷ is) more one h = (same (repeats_unless a k) is more h.0, by is more one h.1)
      by (ends leaves ∷ is) more one h =
          (let e = count-loop is in let n : count_ends is < count_ends (loop_of is) + more = omega (arith, e, one) in n, by is more one h.1)
      by (ends (gives v) ∷ is) more one h = (h.0, by is more one h.1)
      by (ends (fails kind at) ∷ is) more one h = (h.0, by is more one h.1)

  -- no area has more than 128 bytes
  abbrev pub Slim : Used → Type 0
  Slim u = list_all area_fits u.areas ≡ true

  pub slim-area : (size : ℕ) (u : Used) → size ≤ 128 → Slim u → Slim (with_area size u)
  slim-area size u narrow n =
      list_all-append area_fits u.areas (size ∷ [])
      ∙ and_from (list_all area_fits u.areas) (list_all area_fits (size ∷ [])) n (and_from (nat_le size 128) true
      (le-leb size 128 narrow) refl)

  -- A piece of code that fits where this is so, with what it gives.
  pub record Ok {A : Type 0} (P : Type 0) (u : Used) (p : Piece A) (R : A → Type 0) : Type 0 where
    pub grown : Grown u p.used
    pub slim : Slim u → Slim p.used
    pub fine : P → Grown p.used within → Fine p.code
    pub result : P → Grown p.used within → R p.result

  pub then-ok : {A B : Type 0} {P : Type 0} {u : Used} {R : A → Type 0} {S : B → Type 0} (p : Piece A) (q : Piece B) → Ok P u p R →
      Ok (P × R p.result) p.used q S → Ok P u (following p q) S
  then-ok {u = u} p q x y = record {
    grown = grown-then u p.used q.used x.grown y.grown;
    slim = λ n. y.slim (x.slim n);
    fine = λ h g. let g1 = grown-then p.used q.used within y.grown g in
        fine-append p.code q.code (x.fine h g1) (y.fine (h, x.result h g1) g);
    result = λ h g. let g1 = grown-then p.used q.used within y.grown g in y.result (h, x.result h g1) g;
  }

  -- what a piece gives of a type, where so much is used
  abbrev pub Gives : Wanted → TypeId → Used → Result → Type 0
  Gives the_value t u (a_word o) = (operand_fits tac o ≡ true) × (is_aggregate types t ≡ false)
  Gives the_value t u (an_area n) = (n < length u.areas) × (n < length tac.areas) × (area_size tac n ≡ bytes_at types t)
  Gives the_value t u (an_offset o) = ⊥
  Gives the_address t u (a_word o) = operand_fits tac o ≡ true
  Gives the_address t u (an_area n) = ⊥
  Gives the_address t u (an_offset o) = o + bytes_at types t ≤ tac.frame

  -- a value that is used has at most 128 bytes
  abbrev pub Narrow : Wanted → TypeId → Type 0
  Narrow the_value t = bytes_at types t ≤ 128
  Narrow the_address t = Unit {0}

  pub grown-count : (u v : Used) → Grown u v → length u.areas ≤ length v.areas
  grown-count u v g = let e = ap length g.areas.1 ∙ length-append u.areas g.areas.0 in omega (arith, e)

  pub gives-later : (want : Wanted) (t : TypeId) (u v : Used) (r : Result) → Grown u v → Gives want t u r → Gives want t v r
  gives-later the_value t u v (a_word o) g h = h
  gives-later the_value t u v (an_area n) g h = let l = grown-count u v g in let lt = h.0 in (omega (arith, l, lt), h.1, h.2)
  gives-later the_value t u v (an_offset o) g h = h
  gives-later the_address t u v (a_word o) g h = h
  gives-later the_address t u v (an_area n) g h = h
  gives-later the_address t u v (an_offset o) g h = h

  pub word-fits : (want : Wanted) (t : TypeId) (u : Used) (r : Result) → Gives want t u r → operand_fits tac (word_of r) ≡ true
  word-fits the_value t u (a_word o) h = h.0
  word-fits the_value t u (an_area n) h = refl
  word-fits the_value t u (an_offset o) h = refl
  word-fits the_address t u (a_word o) h = h
  word-fits the_address t u (an_area n) h = refl
  word-fits the_address t u (an_offset o) h = refl

  pub part-ok : (t : TypeId) (u : Used) (r : Result) → Gives the_value t u r → part_fits tac (part_of r) ≡ true
  part-ok t u (a_word o) h = h.0
  part-ok t u (an_area n) h = lt-ltb n (length tac.areas) h.1
  part-ok t u (an_offset o) h = refl

  -- words as results
  abbrev pub Words : (Result → Type 0) → Type 0
  Words S = (o : Operand) → operand_fits tac o ≡ true → S (a_word o)

  -- temporaries and areas of their own
  pub own-temp : (u : Used) → Grown (with_temp u) within → nat_lt u.temps tac.temps ≡ true
  own-temp u g = let h = g.temps in lt-ltb u.temps tac.temps (omega (arith, h))

  pub own-area : (size : ℕ) (u : Used) → Grown (with_area size u) within → area_size tac (length u.areas) ≡ size
  own-area size u g =
      let e : tac.areas ≡ u.areas ++ size ∷ g.areas.0 = g.areas.1 ∙ append_assoc u.areas (size ∷ []) g.areas.0 in
      let lt : length u.areas < length (u.areas ++ size ∷ g.areas.0) = omega (arith, length-append u.areas (size ∷ g.areas.0)) in
      ap (λ l. unwrap_or (slice_get l (length u.areas)) 0) e
      ∙ ap (λ o. unwrap_or o 0) (slice_get-get_or (u.areas ++ size ∷ g.areas.0) (length u.areas) size lt)
      ∙ get_or-append_seam u.areas size g.areas.0 size

  pub area-in : (size : ℕ) (u : Used) → Grown (with_area size u) within → length u.areas < length tac.areas
  area-in size u g =
      let l = grown-count (with_area size u) within g in
      let n = length-append u.areas (size ∷ []) in omega (arith, l, n)

  pub new-area : (t : TypeId) (u : Used) → Grown (with_area (bytes_at types t) u) within →
      Gives the_value t (with_area (bytes_at types t) u) (an_area (length u.areas))
  new-area t u g =
      let n = length-append u.areas (bytes_at types t ∷ []) in
      (omega (arith, n), area-in (bytes_at types t) u g, own-area (bytes_at types t) u g)

  -- one instruction
  pub one-fits : (i : Instruction) → instruction_fits tac i ≡ true → Fine (does i ∷ [])
  one-fits i h more one = (h, tt)

  pub none-fits : Fine []
  none-fits more one = tt

  pub compute-ok : {P : Type 0} (S : Result → Type 0) (op : BinaryOperator) (form : Number) (a b : Operand) (u : Used) →
      (P → operand_fits tac a ≡ true) → (P → operand_fits tac b ≡ true) → Words S → Ok P u (compute op form a b u) S
  compute-ok S op form a b u x y s = record {
    grown = grown-temp u;
    slim = λ n. n;
    fine = λ h g. one-fits (Compute u.temps op form a b)
        (and_from (nat_lt u.temps tac.temps && operand_fits tac a) (operand_fits tac b)
        (and_from (nat_lt u.temps tac.temps) (operand_fits tac a) (own-temp u g) (x h)) (y h));
    result = λ h g. s (Temp u.temps) (own-temp u g);
  }

  pub copied-ok : {P : Type 0} (S : Result → Type 0) (a : Operand) (u : Used) → (P → operand_fits tac a ≡ true) → Words S →
      Ok P u (copied a u) S
  copied-ok S a u x s = record {
    grown = grown-temp u;
    slim = λ n. n;
    fine = λ h g. one-fits (Copy u.temps a) (and_from (nat_lt u.temps tac.temps) (operand_fits tac a) (own-temp u g) (x h));
    result = λ h g. s (Temp u.temps) (own-temp u g);
  }

  pub known-ok : {A : Type 0} {P : Type 0} (S : A → Type 0) (a : A) (u : Used) → (P → S a) → Ok P u (known a u) S
  known-ok S a u x = record { grown = grown-none u; slim = λ n. n; fine = λ h g. none-fits; result = λ h g. x h }

  pub located-ok : {P : Type 0} (S : Result → Type 0) (t : TypeId) (v : Used) (r : Result) (u : Used) → (P → Gives the_address t v r) →
      Words S → Ok P u (located r u) S
  located-ok S t v (a_word o) u x s = known-ok S (a_word o) u (λ h. s o (x h))
  located-ok S t v (an_area n) u x s = known-ok S (an_area n) u (λ h. absurd (x h))
  located-ok S t v (an_offset o) u x s = record {
    grown = grown-temp u;
    slim = λ n. n;
    fine = λ h g. one-fits (Locate u.temps o) (and_from (nat_lt u.temps tac.temps) (nat_le o tac.frame) (own-temp u g)
        (let l = x h in le-leb o tac.frame (omega (arith, l))));
    result = λ h g. s (Temp u.temps) (own-temp u g);
  }

  -- spots

  abbrev pub Reaches : TypeId → Used → Spot → Type 0
  Reaches t u (spots.Region at (addresses.Word a)) = (place_fits at ≡ true) × (operand_fits tac a ≡ true)
  Reaches t u (spots.Region at (addresses.Frame o)) = (place_fits at ≡ true) × (o + bytes_at types t ≤ tac.frame)
  Reaches t u (spots.Area m o) = (m < length u.areas) × (m < length tac.areas) × (o + bytes_at types t ≤ area_size tac m)

  pub spot-ok : (t : TypeId) (u : Used) (s : Spot) (size : ℕ) → size ≡ bytes_at types t → Reaches t u s → spot_fits tac size s ≡ true
  spot-ok t u (spots.Region at (addresses.Word a)) size e h = and_from (place_fits at) (operand_fits tac a) h.0 h.1
  spot-ok t u (spots.Region at (addresses.Frame o)) size e h =
      let l = h.1 in and_from (place_fits at) (nat_le (o + size) tac.frame) h.0 (le-leb (o + size) tac.frame (omega (arith, l, e)))
  spot-ok t u (spots.Area m o) size e h =
      let l = h.2 in
      and_from (area_there tac m) (nat_le (o + size) (area_size tac m)) (lt-ltb m (length tac.areas) h.1)
      (le-leb (o + size) (area_size tac m) (omega (arith, l, e)))

  apart-ok : (t : TypeId) (u : Used) (s : Spot) → Reaches t u s → are_apart (spots.Area (length u.areas) 0) s ≡ true
  apart-ok t u (spots.Region at (addresses.Word a)) h = refl
  apart-ok t u (spots.Region at (addresses.Frame o)) h = refl
  apart-ok t u (spots.Area m o) h =
      let lt = h.0 in
      not_from_false (nat_eq (length u.areas) m) (ne_eqb (length u.areas) m (λ e. let z : ⊥ = absurd (omega (arith, lt, e)) in z))

  module _ {P : Type 0} (t : TypeId) (from : Spot) (u : Used) (narrow : bytes_at types t ≤ 128) (reaches : P → Reaches t u from) where
    abbrev size : ℕ
    size = bytes_at types t

    abbrev area_piece : Bool → Piece Result
    area_piece b = if b then known (an_area (length u.areas)) (with_area size u)
        else doing (an_area (length u.areas)) (Move (spots.Area (length u.areas) 0) from size) (with_area size u)

    area-ok : (b : Bool) → Ok P u (area_piece b) (Gives the_value t (area_piece b).used)
    area-ok true = record {
      grown = grown-area size u;
      slim = slim-area size u narrow;
      fine = λ h g. none-fits;
      result = λ h g. new-area t
          u g;
    }
    area-ok false = record {
      grown = grown-area size u;
      slim = slim-area size u narrow;
      fine = λ h g. one-fits (Move (spots.Area (length u.areas) 0) from size)
          (and_from (spot_fits tac size (spots.Area (length u.areas) 0) && spot_fits tac size from
          && are_apart (spots.Area (length u.areas) 0) from) (nat_le size 128)
          (and_from (spot_fits tac size (spots.Area (length u.areas) 0) && spot_fits tac size from)
          (are_apart (spots.Area (length u.areas) 0) from)
          (and_from (spot_fits tac size (spots.Area (length u.areas) 0)) (spot_fits tac size from)
          (and_from (area_there tac (length u.areas)) (nat_le (0 + size) (area_size tac (length u.areas)))
          (lt-ltb (length u.areas) (length tac.areas) (area-in size u g))
          (let e = own-area size u g in le-leb (0 + size) (area_size tac (length u.areas)) (omega (arith, e))))
          (spot-ok t u from size refl (reaches h)))
          (apart-ok t u from (reaches h)))
          (le-leb size 128 narrow));
      result = λ h g. new-area t u g;
    }

    word-ok : is_aggregate types t ≡ false → nat_eq size 0 ≡ false →
        Ok P u (loaded_number (number_of types t) from u) (Gives the_value t (with_temp u))
    word-ok plain some = record {
      grown = grown-temp u;
      slim = λ n. n;
      fine = λ h g. one-fits (Load u.temps (number_of types t) from)
          (and_from (nat_lt u.temps tac.temps) (spot_fits tac (flow.bytes_of (number_of types t).size) from) (own-temp u g)
          (spot-ok t u from (flow.bytes_of (number_of types t).size) (number-bytes (form_at types t) size (sizes types t) plain some)
          (reaches h)));
      result = λ h g. (own-temp u g, plain);
    }

    bit-ok : is_aggregate types t ≡ false → (b : Bool) →
        Ok (P × Gives the_value t (with_temp u) (a_word (Temp u.temps))) (with_temp u) (loaded_bit b (a_word (Temp u.temps)) (with_temp u))
        (Gives the_value t (loaded_bit b (a_word (Temp u.temps)) (with_temp u)).used)
    bit-ok plain true =
        compute-ok (Gives the_value t (with_temp (with_temp u))) operators.And whole_word (Temp u.temps) (Constant 1) (with_temp u)
        (λ h. h.1.0) (λ h. refl) (λ o f. (f, plain))
    bit-ok plain false = known-ok (Gives the_value t (with_temp u)) (a_word (Temp u.temps)) (with_temp u) (λ h. h.1)

    abbrev loaded_piece : Bool → Bool → Piece Result
    loaded_piece agg none = if agg then loaded_area size from u else (if none then known no_word u else loaded_word types t from u)

    by-form : (agg : Bool) → is_aggregate types t ≡ agg → (none : Bool) → nat_eq size 0 ≡ none →
        Ok P u (loaded_piece agg none) (Gives the_value t (loaded_piece agg none).used)
    by-form true e none f = area-ok (nat_eq size 0)
    by-form false e true f = known-ok (Gives the_value t u) no_word u (λ h. (refl, e))
    by-form false e false f =
        then-ok (loaded_number (number_of types t) from u) (loaded_bit (is_bool types t) (a_word (Temp u.temps)) (with_temp u))
        (word-ok e f) (bit-ok e (is_bool types t))

    pub loaded-ok : Ok P u (loaded types t from u) (Gives the_value t (loaded types t from u).used)
    loaded-ok = by-form (is_aggregate types t) refl (nat_eq size 0) refl

  pub reached-ok : {P : Type 0} (want : Wanted) (at : Place) (t : TypeId) (r : Result) (u : Used) → Narrow want t → place_fits at ≡ true →
      (P → Gives the_address t u r) → Ok P u (reached types want at t r u) (Gives want t (reached types want at t r u).used)
  reached-ok the_value at t r u narrow place x = loaded-ok t (spots.Region at (address_of r)) u narrow (λ h. by r (x h))
    where
      by : (q : Result) → Gives the_address t u q → Reaches t u (spots.Region at (address_of q))
      by (a_word o) h = (place, h)
      by (an_area n) h = absurd h
      by (an_offset o) h = (place, h)
  reached-ok the_address at t r u narrow place x = known-ok (Gives the_address t u) r u x

  -- variables

  abbrev pub HolderFits : TypeId → Holder → Type 0
  HolderFits t (in_temp n) = (n < tac.temps) × (is_aggregate types t ≡ false)
  HolderFits t (at_offset o) = o + bytes_at types t ≤ tac.frame

  -- the variables in scope, beside their names and types
  abbrev pub Scoped : List TypedName → Holders → Type 0
  Scoped [] [] = Unit {0}
  Scoped (y ∷ ys) (b ∷ bs) = (y.symbol ≡ b.symbol) × HolderFits y.of b.holder × Scoped ys bs
  Scoped _ _ = ⊥

  abbrev pub HeldFits : TypeId → Option Holder → Type 0
  HeldFits t None = ⊥
  HeldFits t (Some h) = HolderFits t h

  pub holder-ok : (x : SymId) (t : TypeId) (names : List TypedName) (scope : Holders) → Scoped names scope →
      typing.in_scope x t names ≡ true → HeldFits t (holder_of x scope)
  holder-ok x t [] [] s h = absurd (no h)
  holder-ok x t [] (b ∷ bs) s h = absurd s
  holder-ok x t (y ∷ ys) [] s h = absurd s
  holder-ok x t (y ∷ ys) (b ∷ bs) s h =
      subst (λ q. HeldFits t (if nat_eq x.0 q.0 then Some b.holder else holder_of x bs)) s.0
      (by (nat_eq x.0 y.symbol.0) h (λ e. holder-ok x t ys bs s.2 e))
    where
      by : (c : Bool) → (if c then typing.same t y.of else typing.in_scope x t ys) ≡ true →
          (typing.in_scope x t ys ≡ true → HeldFits t (holder_of x bs)) → HeldFits t (if c then Some b.holder else holder_of x bs)
      by true e more = subst (λ k. HolderFits k b.holder) (sym (same-id t y.of e)) s.1
      by false e more = more e

  pub variable-ok : {P : Type 0} (want : Wanted) (at : Place) (t : TypeId) (o : Option Holder) (u : Used) → Narrow want t →
      place_fits at ≡ true → (P → HeldFits t o) → Ok P u (variable types want at t o u) (Gives want t (variable types want at t o u).used)
  variable-ok want at t None u narrow place x = known-ok (Gives want t u) no_word u (λ h. absurd (x h))
  variable-ok {P = P} want at t (Some (in_temp n)) u narrow place x = record {
    grown = grown-temp u;
    slim = λ n. n;
    fine = λ h g. one-fits (Copy u.temps (Temp n)) (and_from (nat_lt u.temps tac.temps) (nat_lt n tac.temps) (own-temp u g)
        (lt-ltb n tac.temps (x h).0));
    result = λ h g. by want (own-temp u g) (x h).1;
  }
    where
      by : (w : Wanted) → operand_fits tac (Temp u.temps) ≡ true → is_aggregate types t ≡ false → Gives w t (with_temp u) (a_word
          (Temp u.temps))
      by the_value f p = (f, p)
      by the_address f p = f
  variable-ok want at t (Some (at_offset o)) u narrow place x = reached-ok want at t (an_offset o) u narrow place x

  pub entry-ok : {P : Type 0} (s t : TypeId) (offset : ℕ) (r : Result) (u v : Used) → offset < 2 ^ 64 →
      offset + bytes_at types t ≤ bytes_at types s → (P → Gives the_address s v r) →
      Ok P u (entry offset r u) (Gives the_address t (entry offset r u).used)
  entry-ok s t offset (an_offset at) u v small fits x =
      known-ok (Gives the_address t u) (an_offset (at + offset)) u (λ h. let l = x h in omega (arith, l, fits))
  entry-ok s t offset (an_area n) u v small fits x = record {
    grown = by (nat_eq offset 0);
    slim = slims (nat_eq offset 0);
    fine = λ h g. absurd (x h);
    result = λ h g. absurd (x h);
  }
    where
      slims : (b : Bool) → Slim u → Slim (if b then known (a_word (Constant 0)) u
          else compute operators.Add whole_word (Constant 0) (Constant offset) u).used
      slims true n = n
      slims false n = n

      by : (b : Bool) → Grown u (if b then known (a_word (Constant 0)) u else compute operators.Add whole_word (Constant 0)
          (Constant offset)
          u).used
      by true = grown-none u
      by false = grown-temp u
  entry-ok {P = P} s t offset (a_word o) u v small fits x = by (nat_eq offset 0)
    where
      by : (b : Bool) → Ok P u (if b then known (a_word o) u else compute operators.Add whole_word o (Constant offset) u)
          (Gives the_address t (if b then known (a_word o) u else compute operators.Add whole_word o (Constant offset) u).used)
      by true = known-ok (Gives the_address t u) (a_word o) u x
      by false =
          compute-ok (Gives the_address t (with_temp u)) operators.Add whole_word o (Constant offset) u x (λ h. lt-ltb offset
          (2 ^ 64) small)
          (λ a f. f)

  pub element-ok : {P : Type 0} (t : TypeId) (size : ℕ) (from index : Operand) (u : Used) → size < 2 ^ 64 →
      (P → operand_fits tac from ≡ true) → (P → operand_fits tac index ≡ true) →
      Ok P u (element size from index u) (Gives the_address t (element size from index u).used)
  element-ok t size from index u small x y =
      then-ok {R = λ r. operand_fits tac (word_of r) ≡ true} (compute operators.Multiply whole_word index (Constant size) u)
      (compute operators.Add whole_word from (Temp u.temps) (with_temp u))
      (compute-ok (λ r. operand_fits tac (word_of r) ≡ true) operators.Multiply whole_word index (Constant size) u y
      (λ h. lt-ltb size (2 ^ 64) small) (λ o f. f))
      (compute-ok (Gives the_address t (with_temp (with_temp u))) operators.Add whole_word from (Temp u.temps) (with_temp u) (λ h. x h.0)
      (λ h. h.1) (λ o f. f))

  -- a value goes to a spot
  pub stored-ok : {P : Type 0} (t : TypeId) (to : Spot) (r : Result) (u v : Used) → bytes_at types t ≤ 128 → (P → Reaches t v to) →
      (P → Gives the_value t v r) → (P → (n : ℕ) → r ≡ an_area n → are_apart to (spots.Area n 0) ≡ true) →
      Ok P u (stored types t to r u) (λ b. Unit {0})
  stored-ok {P = P} t to r u v narrow reaches value apart = by (nat_eq (bytes_at types t) 0) refl r value apart
    where
      size : ℕ
      size = bytes_at types t

      by : (b : Bool) → nat_eq (bytes_at types t) 0 ≡ b → (q : Result) → (P → Gives the_value t v q) →
          (P → (n : ℕ) → q ≡ an_area n → are_apart to (spots.Area n 0) ≡ true) →
          Ok P u (if b then known (tt {0}) u else stored_part types t to q u) (λ b. Unit {0})
      by true e q x y = known-ok (λ b. Unit {0}) tt u (λ h. tt)
      by false e (a_word o) x y = record {
        grown = grown-none u;
        slim = λ n. n;
        fine = λ h g. one-fits (Store to (number_of types t).size o)
            (and_from (spot_fits tac (flow.bytes_of (number_of types t).size) to) (operand_fits tac o)
            (spot-ok t v to (flow.bytes_of (number_of types t).size)
            (number-bytes (form_at types t) (bytes_at types t) (sizes types t) (x h).1 e) (reaches h)) (x h).0);
        result = λ h g. tt;
      }
      by false e (an_area n) x y = record {
        grown = grown-none u;
        slim = λ n. n;
        fine = λ h g. one-fits (Move to (spots.Area n 0) (bytes_at types t))
            (and_from (spot_fits tac (bytes_at types t) to && spot_fits tac (bytes_at types t) (spots.Area n 0)
            && are_apart to (spots.Area n 0)) (nat_le (bytes_at types t) 128)
            (and_from (spot_fits tac (bytes_at types t) to && spot_fits tac (bytes_at types t) (spots.Area n 0))
            (are_apart to (spots.Area n 0))
            (and_from (spot_fits tac (bytes_at types t) to) (spot_fits tac (bytes_at types t) (spots.Area n 0))
            (spot-ok t v to (bytes_at types t) refl (reaches h))
            (and_from (area_there tac n) (nat_le (0 + bytes_at types t) (area_size tac n)) (lt-ltb n (length tac.areas) (x h).1)
            (let l = (x h).2 in le-leb (0 + bytes_at types t) (area_size tac n) (omega (arith, l)))))
            (y h n refl))
            (le-leb (bytes_at types t) 128 narrow));
        result = λ h g. tt;
      }
      by false e (an_offset o) x y = record { grown = grown-none u; slim = λ n. n; fine = λ h g. absurd (x h); result = λ h g. tt }

  -- other results of the same code
  pub taken-ok : {A B : Type 0} {P : Type 0} {R : A → Type 0} (S : B → Type 0) (f : A → B) (p : Piece A) (u : Used) → Ok P u p R →
      ((a : A) → R a → S (f a)) → Ok P u (taken f p) S
  taken-ok S f p u x h = record { grown = x.grown; slim = x.slim; fine = x.fine; result = λ y g. h p.result (x.result y g) }

  pub placed-ok : {P : Type 0} (t : TypeId) (at : Place) (o : ℕ) (r : Result) (u v : Used) → bytes_at types t ≤ 128 →
      place_fits at ≡ true → o + bytes_at types t ≤ tac.frame → (P → Gives the_value t v r) →
      Ok P u (placed types t (spots.Region at (addresses.Frame o)) r u) (λ b. Unit {0})
  placed-ok t at o (an_area n) u v narrow place fits x =
      stored-ok t (spots.Region at (addresses.Frame o)) (an_area n) u v narrow (λ h. (place, fits)) x (λ h m e. refl)
  placed-ok {P = P} t at o (a_word a) u v narrow place fits x = by (nat_eq (bytes_at types t) 0)
    where
      by : (b : Bool) → Ok P u (if b then taken (λ c. tt {0}) (copied a u) else stored types t (spots.Region at (addresses.Frame o))
          (a_word a) u)
          (λ c. Unit {0})
      by true =
          taken-ok (λ c. Unit {0}) (λ c. tt {0}) (copied a u) u (copied-ok (λ c. Unit {0}) a u (λ h. (x h).0) (λ c f. tt)) (λ c f. tt)
      by false = stored-ok t (spots.Region at (addresses.Frame o)) (a_word a) u v narrow (λ h. (place, fits)) x (λ h m e. refl)
  placed-ok {P = P} t at o (an_offset a) u v narrow place fits x = by (nat_eq (bytes_at types t) 0)
    where
      by : (b : Bool) → Ok P u (if b then taken (λ c. tt {0}) (copied (Constant 0) u)
          else stored types t (spots.Region at (addresses.Frame o)) (an_offset a) u) (λ c. Unit {0})
      by true =
          taken-ok (λ c. Unit {0}) (λ c. tt {0}) (copied (Constant 0) u) u
          (copied-ok (λ c. Unit {0}) (Constant 0) u (λ h. refl) (λ c f. tt)) (λ c f. tt)
      by false = stored-ok t (spots.Region at (addresses.Frame o)) (an_offset a) u v narrow (λ h. (place, fits)) x (λ h m e. refl)

  -- declarations

  abbrev pub NarrowIf : TypeId → Option Result → Type 0
  NarrowIf t None = Unit {0}
  NarrowIf t (Some r) = bytes_at types t ≤ 128

  abbrev pub GivesIf : TypeId → Used → Option Result → Type 0
  GivesIf t v None = Unit {0}
  GivesIf t v (Some r) = Gives the_value t v r

  pub declare-ok : {P : Type 0} (at : Place) (x : TypedName) (o : Option Result) (home : Home) (names : List TypedName) (scope : Holders)
      (u v : Used) → place_fits at ≡ true → GoodHome types tac.frame x.of home → NarrowIf x.of o → (P → GivesIf x.of v o) →
      (P → Scoped names scope) → Ok P u (declare_at types at x o home scope u) (Scoped (x ∷ names))
  declare-ok at x None by_value names scope u v place good narrow value scoped = record {
    grown = grown-temp u;
    slim = λ n. n;
    fine = λ h g. one-fits (Copy u.temps (Constant 0))
        (and_from (nat_lt u.temps tac.temps) (operand_fits tac (Constant 0)) (own-temp u g) refl);
    result = λ h g. (refl, (ltb-true u.temps tac.temps (own-temp u g), good), scoped h);
  }
  declare-ok at x (Some r) by_value names scope u v place good narrow value scoped = record {
    grown = grown-temp u;
    slim = λ n. n;
    fine = λ h g. one-fits (Copy u.temps (word_of r))
        (and_from (nat_lt u.temps tac.temps) (operand_fits tac (word_of r)) (own-temp u g) (word-fits the_value x.of v r (value h)));
    result = λ h g. (refl, (ltb-true u.temps tac.temps (own-temp u g), good), scoped h);
  }
  declare-ok at x None (in_frame o) names scope u v place good narrow value scoped = record {
    grown = grown-none u;
    slim = λ n. n;
    fine = λ h g. none-fits;
    result = λ h g. (refl, good, scoped h);
  }
  declare-ok at x (Some r) (in_frame o) names scope u v place good narrow value scoped =
      let y = placed-ok x.of at o r u v narrow place good value in
      record { grown = y.grown; slim = y.slim; fine = y.fine; result = λ h g. (refl, good, scoped h) }

  -- results of lists

  abbrev pub AllGive : List TypeId → Used → List Result → Type 0
  AllGive [] v [] = Unit {0}
  AllGive (t ∷ ts) v (r ∷ rs) = Gives the_value t v r × AllGive ts v rs
  AllGive _ v _ = ⊥

  pub all-later : (ts : List TypeId) (u v : Used) (rs : List Result) → Grown u v → AllGive ts u rs → AllGive ts v rs
  all-later [] u v [] g h = tt
  all-later [] u v (r ∷ rs) g h = absurd h
  all-later (t ∷ ts) u v [] g h = absurd h
  all-later (t ∷ ts) u v (r ∷ rs) g h = (gives-later the_value t u v r g h.0, all-later ts u v rs g h.1)

  pub words-fit : (ts : List TypeId) (v : Used) (rs : List Result) (i : ℕ) → AllGive ts v rs → operand_fits tac (word_at rs i) ≡ true
  words-fit [] v [] i h = refl
  words-fit [] v (r ∷ rs) i h = absurd h
  words-fit (t ∷ ts) v [] i h = absurd h
  words-fit (t ∷ ts) v (r ∷ rs) zero h = word-fits the_value t v r h.0
  words-fit (t ∷ ts) v (r ∷ rs) (suc i) h = words-fit ts v rs i h.1

  pub parts-fit : (ts : List TypeId) (v : Used) (rs : List Result) → AllGive ts v rs → list_all (part_fits tac) (parts_of rs) ≡ true
  parts-fit [] v [] h = refl
  parts-fit [] v (r ∷ rs) h = absurd h
  parts-fit (t ∷ ts) v [] h = absurd h
  parts-fit (t ∷ ts) v (r ∷ rs) h =
      and_from (part_fits tac (part_of r)) (list_all (part_fits tac) (parts_of rs)) (part-ok t v r h.0) (parts-fit ts v rs h.1)

  pub doing-ok : {A : Type 0} {P : Type 0} (S : A → Type 0) (a : A) (i : Instruction) (u : Used) → (P → instruction_fits tac i ≡ true) →
      (P → S a) → Ok P u (doing a i u) S
  doing-ok S a i u x y = record { grown = grown-none u; slim = λ n. n; fine = λ h g. one-fits i (x h); result = λ h g. y h }

  pub weak-ok : {A : Type 0} {P Q : Type 0} {R : A → Type 0} (p : Piece A) (u : Used) → Ok P u p R → (Q → P) → Ok Q u p R
  weak-ok p u x f = record { grown = x.grown; slim = x.slim; fine = λ h g. x.fine (f h) g; result = λ h g. x.result (f h) g }
