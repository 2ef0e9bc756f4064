-- Each operation's code fits.
use Rattle.std.proofs.Common.{◌≡◌, ℕ, ◌+◌, ◌<◌, ◌≤◌, Bool, true, false, List, [], ◌∷◌, length, Option, Some, None, refl, sym, ◌∙◌, subst}
use Rattle.std.proofs.Common.{arith, length-append}
use Rattle.std.specs.Prelude.{◌^◌, ◌-◌, ◌&&◌, nat_eq, nat_le, nat_lt, unwrap_or, if◌then◌else◌}
use Rattle.std.proofs.lemmas.Bool.{and_parts, and_from, lt-ltb, le-leb, leb-true, ne_eqb, not_from_false}
use Rattle.std.specs.List.{list_all}
use Rattle.tl_base.specs.declared.place.Place.{Place}
use Rattle.tl_base.specs.declared.ids.TypeId.{TypeId}
use Rattle.terra_words.specs.declared.words.BinaryOperator.{BinaryOperator}
use Rattle.terra_words.specs.declared.words.BinaryOperator.TheVariants as operators
use Rattle.terra_words.specs.Words.{wrapped, divides}
use Rattle.terra_types.specs.declared.types.TypeForm.{TypeForm}
use Rattle.terra_types.specs.declared.types.TypeForm.TheVariants as forms
use Rattle.tl_base.specs.declared.ids.FnId.{FnId}
use Rattle.terra_types.specs.Opening.{AreTypes, boolean}
use Rattle.terra_types.specs.Sizes.{size_of}
use Rattle.terra_term.specs.Stores.{Contents}
use Rattle.terra_term.specs.declared.operators.Operation.{Operation}
use Rattle.terra_term.specs.declared.operators.Operation.TheVariants as operations
use Rattle.tac_form.specs.declared.tac.Destination.{Destination}
use Rattle.tac_form.specs.declared.tac.Destination.TheVariants as destinations
use Rattle.tac_form.specs.declared.tac.Signature.{Signature}
use Rattle.terra_term.specs.WellTyped as typing
use Rattle.lua_value.specs.declared.primitive.Primitive.TheVariants as primitives
use Rattle.terra_meaning.specs.Values.{form_at, bytes_at, is_aggregate, target_of}
use Rattle.terra_meaning.specs.Meaning.{the_value, type_at}
use Rattle.tac_form.specs.declared.tac.Number.{Number}
use Rattle.tac_form.specs.declared.tac.Operand.{Operand}
use Rattle.tac_form.specs.declared.tac.Operand.TheVariants.{Temp, Constant}
use Rattle.tac_form.specs.declared.tac.Instruction.TheVariants.{TestDivisor, Clear, Call, CallValue, PutByte, Write, Alloc}
use Rattle.tac_form.specs.declared.tac.Spot.TheVariants as spots
use Rattle.tac_form.specs.declared.tac.Tac.{Tac}
use Rattle.tac_form.specs.Flow.{area_size}
use Rattle.tac_form.specs.Fits.{operand_fits, place_fits, area_there, part_fits, are_apart}
use Rattle.tac_form.specs.Flow as flow
use Rattle.tac_lower.specs.Items.{does}
use Rattle.tac_lower.specs.Pieces.{Used, with_temp, with_area, Piece, known, doing, then_piece, Result, a_word, an_area, an_offset, no_word}
use Rattle.tac_lower.specs.Pieces.{word_of, whole_word, long, number_of, compute, stored, parts_of, word_at, result_at, rest, Around}
use Rattle.tac_lower.specs.Lowering.{cut, fitted, is_whole, binary, difference, form_of, turned_form, turned_over, extracted, constructed}
use Rattle.tac_lower.specs.Lowering.{operation, call, call_value, signature_in}
use Rattle.terra_meaning.specs.Frames.{Home}
use Rattle.tac_lower.specs.Needs.{HasNumber, IsWide, EntriesFit, NumberUnless, BinaryNeeds, is_comparison}
use Rattle.tac_lower.proofs.Words.{number-small}
use Rattle.tac_lower.proofs.Standing.{Grown}
use Rattle.tac_lower.proofs.Simulates.{grown-none, grown-then}
use Rattle.tac_lower.proofs.Writes.{grown-temp, grown-area}
use Rattle.tac_lower.proofs.Homes.{sized}
use Rattle.tac_lower.proofs.Typing.{no}
use Rattle.tac_lower.proofs.Needing.{plain-boolean, operation-needs}
use Rattle.tac_lower.proofs.Fitting as pieces_fit

module _ (types : List TypeForm) (tac : Tac) where
  pub number-plain : (f : TypeForm) → HasNumber f → is_aggregate (f ∷ []) (record { 0 = 0 }) ≡ false
  number-plain (forms.Integer i) h = refl
  number-plain (forms.Pointer t) h = refl
  number-plain (forms.Function ps r) h = refl
  number-plain forms.Bool h = absurd h
  number-plain forms.Unit h = absurd h
  number-plain (forms.Array t m) h = absurd h
  number-plain (forms.Struct m q l) h = absurd h

  wide-plain : (t : TypeId) → IsWide types t → is_aggregate types t ≡ false
  wide-plain t h = (h 0 (omega arith)).0

  -- two operators, the second over what the first gives
  twice-ok : {P : Type 0} (t : TypeId) (op other : BinaryOperator) (form : Number) (a b x : Operand) (u : Used) →
      is_aggregate types t ≡ false → (P → operand_fits tac a ≡ true) → (P → operand_fits tac b ≡ true) → (P → operand_fits tac x ≡ true) →
      pieces_fit.Ok types tac P u (then_piece (compute op form a b u) (λ r u'. compute other form x (word_of r) u'))
      (pieces_fit.Gives types tac the_value t (with_temp (with_temp u)))
  twice-ok t op other form a b x u plain ha hb hx =
      pieces_fit.then-ok types tac {R = λ r. operand_fits tac (word_of r) ≡ true} (compute op form a b u) (compute other form x
      (Temp u.temps) (with_temp u))
      (pieces_fit.compute-ok types tac (λ r. operand_fits tac (word_of r) ≡ true) op form a b u ha hb (λ o f. f))
      (pieces_fit.compute-ok types tac (pieces_fit.Gives types tac the_value t (with_temp (with_temp u))) other form x (Temp u.temps)
      (with_temp u) (λ h. hx h.0) (λ h. h.1)
      (λ o f. (f, plain)))

  apart-ok-ok : {P : Type 0} (t : TypeId) (x y : Operand) (size : ℕ) (u : Used) → size < 2 ^ 64 → is_aggregate types t ≡ false →
      (P → operand_fits tac x ≡ true) → (P → operand_fits tac y ≡ true) →
      pieces_fit.Ok types tac P u (difference size x y u) (pieces_fit.Gives types tac the_value t (with_temp (with_temp u)))
  apart-ok-ok t x y size u small plain hx hy =
      pieces_fit.then-ok types tac {R = λ r. operand_fits tac (word_of r) ≡ true} (compute operators.Subtract (long true) x y u)
      (compute operators.Divide (long true) (Temp u.temps) (Constant size) (with_temp u))
      (pieces_fit.compute-ok types tac (λ r. operand_fits tac (word_of r) ≡ true) operators.Subtract (long true) x y u hx hy (λ o f. f))
      (pieces_fit.compute-ok types tac (pieces_fit.Gives types tac the_value t (with_temp (with_temp u))) operators.Divide (long true)
      (Temp u.temps) (Constant size) (with_temp u)
      (λ h. h.1) (λ h. lt-ltb size (2 ^ 64) small) (λ o f. (f, plain)))

  pub binary-ok : {P : Type 0} (at : Place) (t : TypeId) (form : Number) (op : BinaryOperator) (x y : Operand) (u : Used) →
      place_fits at ≡ true → is_aggregate types t ≡ false → (P → operand_fits tac x ≡ true) → (P → operand_fits tac y ≡ true) →
      pieces_fit.Ok types tac P u (binary at form op x y u) (pieces_fit.Gives types tac the_value t (binary at form op x y u).used)
  binary-ok {P = P} at t form op x y u place plain hx hy = by (divides op)
    where
      by : (b : Bool) → pieces_fit.Ok types tac P u (then_piece (if b then doing (tt {0}) (TestDivisor at y) u else known (tt {0}) u)
          (λ t1 u'. compute op (form_of op form y) x y u')) (pieces_fit.Gives types tac the_value t (then_piece (if b then doing (tt {0})
          (TestDivisor at y) u else known (tt {0}) u)
          (λ t1 u'. compute op (form_of op form y) x y u')).used)
      by true =
          pieces_fit.then-ok types tac {R = λ b. Unit {0}} (doing (tt {0}) (TestDivisor at y) u) (compute op (form_of op form y) x y u)
          (pieces_fit.doing-ok types tac (λ b. Unit {0}) tt (TestDivisor at y) u (λ h. and_from (place_fits at)
          (operand_fits tac y) place (hy h)) (λ h. tt))
          (pieces_fit.compute-ok types tac (pieces_fit.Gives types tac the_value t (with_temp u)) op (form_of op form y) x y u (λ h. hx h.0)
          (λ h. hy h.0) (λ o f. (f, plain)))
      by false =
          pieces_fit.compute-ok types tac (pieces_fit.Gives types tac the_value t (with_temp u)) op (form_of op form y) x y u hx hy
          (λ o f. (f, plain))

  pub extracted-ok : {P : Type 0} (s t : TypeId) (offset : ℕ) (r : Result) (u : Used) → bytes_at types t ≤ 128 →
      is_aggregate types s ≡ true → offset + bytes_at types t ≤ bytes_at types s → (P → pieces_fit.Gives types tac the_value s u r) →
      pieces_fit.Ok types tac P u (extracted types t offset r u) (pieces_fit.Gives types tac the_value t
      (extracted types t offset r u).used)
  extracted-ok s t offset (an_area n) u narrow agg fits x =
      pieces_fit.loaded-ok types tac t (spots.Area n offset) u narrow
      (λ h. let v = x h in let e = v.2 in (v.0, v.1, omega (arith, e, fits)))
  extracted-ok s t offset (a_word o) u narrow agg fits x = record {
    grown = grown-none u;
    slim = λ n. n;
    fine = λ h g. pieces_fit.none-fits types tac;
    result = λ h g. let bad : true ≡ false = sym agg ∙ (x h).1 in absurd (grind (arith, bad));
  }
  extracted-ok s t offset (an_offset o) u narrow agg fits x =
      record { grown = grown-none u; slim = λ n. n; fine = λ h g. pieces_fit.none-fits types tac; result = λ h g. absurd (x h) }

  -- the entries of a struct go to its area, which is none of theirs

  abbrev pub NarrowAll : List TypeId → Type 0
  NarrowAll [] = Unit {0}
  NarrowAll (t ∷ ts) = (bytes_at types t ≤ 128) × NarrowAll ts

  pub constructed-ok : {P : Type 0} (u w : Used) (size : ℕ) (os : List ℕ) (ts : List TypeId) (rs : List Result) → NarrowAll ts →
      EntriesFit types size os ts → length u.areas < length w.areas → Grown u w →
      (P → (length u.areas < length tac.areas) × (area_size tac (length u.areas) ≡ size)) → (P → pieces_fit.AllGive types tac ts u rs) →
      pieces_fit.Ok types tac P w (constructed types (length u.areas) os ts rs w) (λ b. Unit {0})
  constructed-ok u w size [] ts rs narrow fits lt g there x = pieces_fit.known-ok types tac (λ b. Unit {0}) tt w (λ h. tt)
  constructed-ok u w size (o ∷ os) [] rs narrow fits lt g there x = pieces_fit.known-ok types tac (λ b. Unit {0}) tt w (λ h. tt)
  constructed-ok u w size (o ∷ os) (t ∷ ts) [] narrow fits lt g there x = pieces_fit.known-ok types tac (λ b. Unit {0}) tt w (λ h. tt)
  constructed-ok {P = P} u w size (o ∷ os) (t ∷ ts) (r ∷ rs) narrow fits lt g there x =
      let p = stored types t (spots.Area (length u.areas) o) r w in
      let first = pieces_fit.stored-ok types tac t (spots.Area (length u.areas) o) r w w narrow.0
      (λ h. let e = (there h).1 in let f = fits.0 in (lt, (there h).0, omega (arith, e, f)))
      (λ h. pieces_fit.gives-later types tac the_value t u w r g (x h).0)
      (λ h n e. apart r (x h).0 n e) in
      pieces_fit.then-ok types tac {R = λ b. Unit {0}} p (constructed types (length u.areas) os ts rs p.used) first
      (constructed-ok u p.used size os ts rs narrow.1 fits.1
      (let c = pieces_fit.grown-count types tac w p.used first.grown in omega (arith, c, lt)) (grown-then u w p.used g first.grown)
      (λ h. there h.0)
      (λ h. (x h.0).1))
    where
      apart : (q : Result) → pieces_fit.Gives types tac the_value t u q → (n : ℕ) → q ≡ an_area n → are_apart (spots.Area
          (length u.areas) o) (spots.Area n 0) ≡ true
      apart (an_area m) h n e =
          let lt1 = h.0 in
          let same : m ≡ n = grind (arith, e) in
          not_from_false (nat_eq (length u.areas) n) (ne_eqb (length u.areas) n (λ f. let z : ⊥ = absurd (omega
          (arith, lt1, f, same)) in z))
      apart (a_word a) h n e = absurd (grind (arith, e))
      apart (an_offset a) h n e = absurd (grind (arith, e))

  module _ (st : Contents) (are : AreTypes types) (entries : List FnId) (few : length entries < 2 ^ 32) (homes : List Home) where
    abbrev store : Contents
    store = record st { types = types }

    abbrev c : Around
    c = record { types = store.types; entries = entries; homes = homes }

    pub small-size : (t : TypeId) → bytes_at types t < 2 ^ 64
    small-size t = let h = sized types are t in omega (arith, h)

    unless-plain : (t : TypeId) → NumberUnless types (nat_eq t.0 boolean.0) t → is_aggregate types t ≡ false
    unless-plain t h = by (nat_eq t.0 boolean.0) refl h
      where
        by : (b : Bool) → nat_eq t.0 boolean.0 ≡ b → NumberUnless types b t → is_aggregate types t ≡ false
        by true e n = plain-boolean store are entries few t e
        by false e n = number-plain (form_at types t) n

    binary-plain : (b : Bool) (first t : TypeId) → BinaryNeeds types b first t → is_aggregate types t ≡ false
    binary-plain true first t h = subst (λ g. is_aggregate (g ∷ []) (record { 0 = 0 }) ≡ false) (sym h) refl
    binary-plain false first t h = subst (λ k. is_aggregate types k ≡ false) h.1 (number-plain (form_at types first) h.0)

    pub usable-small : (t : TypeId) → typing.is_usable store t ≡ true → bytes_at types t ≤ 128
    usable-small t h = by (size_of types t) h
      where
        by : (o : Option ℕ) → typing.small o ≡ true → unwrap_or o 0 ≤ 128
        by None e = absurd (no e)
        by (Some n) e = leb-true n 128 e

    pub usable-all : (ts : List TypeId) → typing.all_usable store ts ≡ true → NarrowAll ts
    usable-all [] h = tt
    usable-all (t ∷ ts) h =
        let p = and_parts (typing.is_usable store t) (typing.all_usable store ts) h in (usable-small t p.0, usable-all ts p.1)

    rest-give : (t : TypeId) (ts : List TypeId) (v : Used) (rs : List Result) → pieces_fit.AllGive types tac
        (t ∷ ts) v rs → pieces_fit.AllGive types tac ts v (rest rs)
    rest-give t ts v [] h = absurd h
    rest-give t ts v (r ∷ rs) h = h.1

    first-gives : (t : TypeId) (ts : List TypeId) (v : Used) (rs : List Result) → pieces_fit.AllGive types tac (t ∷ ts) v rs →
        pieces_fit.Gives types tac the_value t v (result_at rs 0)
    first-gives t ts v [] h = absurd h
    first-gives t ts v (r ∷ rs) h = h.0

    module _ {P : Type 0} (at : Place) (t : TypeId) (ts : List TypeId) (rs : List Result) (u : Used) (place : place_fits at ≡ true)
        (narrow : bytes_at types t ≤ 128) (usable : typing.all_usable store ts ≡ true) (x : P → pieces_fit.AllGive types tac ts u rs) where
      abbrev Fit : Operation → Type 0
      Fit op = pieces_fit.Ok types tac P u (operation c at t op ts rs u) (pieces_fit.Gives types tac the_value t
          (operation c at t op ts rs u).used)

      abbrev W : Result → Type 0
      W = pieces_fit.Gives types tac the_value t (with_temp u)

      word : (i : ℕ) → P → operand_fits tac (word_at rs i) ≡ true
      word i h = pieces_fit.words-fit types tac ts u rs i (x h)

      not-ok : is_aggregate types t ≡ false → Fit operations.Not
      not-ok plain = by (nat_eq t.0 boolean.0)
        where
          by : (b : Bool) → pieces_fit.Ok types tac P u (if b then compute operators.Xor whole_word (word_at rs 0) (Constant 1) u
              else turned_over (number_of types t) (word_at rs 0) u)
              (pieces_fit.Gives types tac the_value t (if b then compute operators.Xor whole_word (word_at rs 0) (Constant 1) u
              else turned_over (number_of types t) (word_at rs 0) u).used)
          by true = pieces_fit.compute-ok types tac W operators.Xor whole_word (word_at rs 0) (Constant 1) u (word 0) (λ h. refl) (λ o f.
              (f, plain))
          by false =
              pieces_fit.compute-ok types tac W operators.Xor (turned_form (number_of types t)) (word_at rs 0) (Constant (2 ^ 64 - 1)) u
              (word 0) (λ h. refl) (λ o f. (f, plain))

      convert-ok : is_aggregate types t ≡ false → Fit operations.Convert
      convert-ok plain = by (nat_eq t.0 boolean.0)
        where
          by : (b : Bool) → pieces_fit.Ok types tac P u (if b then compute operators.NotEqual whole_word (word_at rs 0) (Constant 0) u
              else fitted (number_of types t) (word_at rs 0) u)
              (pieces_fit.Gives types tac the_value t (if b then compute operators.NotEqual whole_word (word_at rs 0) (Constant 0) u
              else fitted (number_of types t) (word_at rs 0) u).used)
          by true = pieces_fit.compute-ok types tac W operators.NotEqual whole_word (word_at rs 0) (Constant 0) u (word 0) (λ h. refl)
              (λ o f. (f, plain))
          by false = whole (is_whole (number_of types t).size)
            where
              fit : (x : Operand) → (P → operand_fits tac x ≡ true) → pieces_fit.Ok types tac P u (cut (number_of types t) x u)
                  (pieces_fit.Gives types tac the_value t (cut (number_of types t) x u).used)
              fit (Temp d) h = pieces_fit.compute-ok types tac W operators.Add (number_of types t) (Temp d) (Constant 0) u h (λ p. refl)
                  (λ o f. (f, plain))
              fit (Constant c) h =
                  let w = wrapped (flow.width_of (number_of types t)) c in
                  pieces_fit.known-ok types tac (pieces_fit.Gives types tac the_value t u) (a_word (Constant w)) u
                  (λ p. (lt-ltb w (2 ^ 64) (number-small (number_of types t) c), plain))

              whole : (b : Bool) → pieces_fit.Ok types tac P u (if b then known (a_word (word_at rs 0)) u
                  else cut (number_of types t) (word_at rs 0) u) (pieces_fit.Gives types tac the_value t (if b
                  then known (a_word (word_at rs 0)) u else cut (number_of types t) (word_at rs 0) u).used)
              whole true = pieces_fit.known-ok types tac (pieces_fit.Gives types tac the_value t u) (a_word (word_at rs 0)) u
                  (λ p. (word 0 p, plain))
              whole false = fit (word_at rs 0) (word 0)

      abbrev goes : Bool → Piece Destination
      goes b = if b then known (destinations.Area (length u.areas)) (with_area (bytes_at types t) u)
          else known (destinations.Temp u.temps) (with_temp u)

      call-ok : (f : FnId) → Fit (operations.Call f)
      call-ok f = by (is_aggregate types t) refl
        where
          by : (b : Bool) → is_aggregate types t ≡ b → pieces_fit.Ok types tac P u (then_piece (goes b) (λ to u'. call at f rs to u'))
              (pieces_fit.Gives types tac the_value t (then_piece (goes b) (λ to u'. call at f rs to u')).used)
          by true e = record {
            grown = grown-area (bytes_at types t) u;
            slim = pieces_fit.slim-area types tac (bytes_at types t) u narrow;
            fine = λ h g. pieces_fit.one-fits types tac (Call (destinations.Area (length u.areas)) at f (parts_of rs))
                (and_from (area_there tac (length u.areas) && place_fits at) (list_all (part_fits tac) (parts_of rs))
                (and_from (area_there tac (length u.areas)) (place_fits at)
                (lt-ltb (length u.areas) (length tac.areas) (pieces_fit.area-in types tac (bytes_at types t) u g)) place)
                (pieces_fit.parts-fit types tac ts u rs (x h)));
            result = λ h g. pieces_fit.new-area types tac t u g;
          }
          by false e = record {
            grown = grown-temp u;
            slim = λ n. n;
            fine = λ h g. pieces_fit.one-fits types tac (Call (destinations.Temp u.temps) at f (parts_of rs))
                (and_from (nat_lt u.temps tac.temps && place_fits at) (list_all (part_fits tac) (parts_of rs))
                (and_from (nat_lt u.temps tac.temps) (place_fits at) (pieces_fit.own-temp types tac u g) place)
                (pieces_fit.parts-fit types tac ts u rs (x h)));
            result = λ h g. (pieces_fit.own-temp types tac u g, e);
          }

      value-call-ok : (P → list_all (part_fits tac) (parts_of (rest rs)) ≡ true) → Fit operations.CallValue
      value-call-ok parts = by (is_aggregate types t) refl
        where
          sig : Signature
          sig = signature_in (form_at types (type_at ts 0))

          by : (b : Bool) → is_aggregate types t ≡ b →
              pieces_fit.Ok types tac P u (then_piece (goes b) (λ to u'. call_value at (signature_in (form_at types
              (type_at ts 0))) rs to u'))
              (pieces_fit.Gives types tac the_value t (then_piece (goes b) (λ to u'. call_value at (signature_in (form_at types
              (type_at ts 0))) rs to u')).used)
          by true e = record {
            grown = grown-area (bytes_at types t) u;
            slim = pieces_fit.slim-area types tac (bytes_at types t) u narrow;
            fine = λ h g. pieces_fit.one-fits types tac (CallValue (destinations.Area (length u.areas)) at sig (word_at rs 0) (parts_of
                (rest rs)))
                (and_from (area_there tac (length u.areas) && place_fits at && operand_fits tac (word_at rs 0))
                (list_all (part_fits tac) (parts_of (rest rs)))
                (and_from (area_there tac (length u.areas) && place_fits at) (operand_fits tac (word_at rs 0))
                (and_from (area_there tac (length u.areas)) (place_fits at)
                (lt-ltb (length u.areas) (length tac.areas) (pieces_fit.area-in types tac (bytes_at types t) u g)) place) (word 0 h))
                (parts h));
            result = λ h g. pieces_fit.new-area types tac t u g;
          }
          by false e = record {
            grown = grown-temp u;
            slim = λ n. n;
            fine = λ h g. pieces_fit.one-fits types tac (CallValue (destinations.Temp u.temps) at sig (word_at rs 0) (parts_of (rest rs)))
                (and_from (nat_lt u.temps tac.temps && place_fits at && operand_fits tac (word_at rs 0))
                (list_all (part_fits tac) (parts_of (rest rs)))
                (and_from (nat_lt u.temps tac.temps && place_fits at) (operand_fits tac (word_at rs 0))
                (and_from (nat_lt u.temps tac.temps) (place_fits at) (pieces_fit.own-temp types tac u g) place) (word 0 h))
                (parts h));
            result = λ h g. (pieces_fit.own-temp types tac u g, e);
          }

      construct-ok : (os : List ℕ) → EntriesFit types (bytes_at types t) os ts → Fit (operations.Construct os)
      construct-ok os fits =
          let size = bytes_at types t in
          let w = with_area size u in
          let inner = constructed-ok {P = P × (Unit {0} × ((length u.areas < length tac.areas) × (area_size tac (length u.areas) ≡ size)))}
          u w size os ts rs (usable-all ts usable) fits
          (let n = length-append u.areas (size ∷ []) in omega (arith, n)) (grown-area size u) (λ h. h.1.1) (λ h. x h.0) in
          record {
            grown = grown-then u w (constructed types (length u.areas) os ts rs w).used (grown-area size u) inner.grown;
            slim = λ n. inner.slim (pieces_fit.slim-area types tac size u narrow n);
            fine = λ h g.
                let g1 = grown-then w (constructed types (length u.areas) os ts rs w).used (pieces_fit.within types tac) inner.grown g in
                let there = pieces_fit.area-in types tac size u g1 in
                let own = pieces_fit.own-area types tac size u g1 in
                pieces_fit.fine-append types tac (does (Clear (length u.areas) size) ∷ []) (constructed types
                (length u.areas) os ts rs w).code
                (pieces_fit.one-fits types tac (Clear (length u.areas) size)
                (and_from (area_there tac (length u.areas)) (nat_le size (area_size tac (length u.areas)))
                (lt-ltb (length u.areas) (length tac.areas) there) (le-leb size (area_size tac (length u.areas)) (omega (arith, own)))))
                (inner.fine (h, (tt, (there, own))) g);
            result = λ h g.
                let v = (constructed types (length u.areas) os ts rs w).used in
                let g1 = grown-then w v (pieces_fit.within types tac) inner.grown g in
                pieces_fit.gives-later types tac the_value t w v (an_area (length u.areas)) inner.grown
                (pieces_fit.new-area types tac t u g1);
          }

    -- an operation of the operands' types fits, and gives a value of its type
    pub operation-ok : {P : Type 0} (at : Place) (t : TypeId) (op : Operation) (ts : List TypeId) (rs : List Result) (u : Used) →
        place_fits at ≡ true → bytes_at types t ≤ 128 → typing.all_usable store ts ≡ true → typing.operation_typed store op ts t ≡ true →
        (P → pieces_fit.AllGive types tac ts u rs) → pieces_fit.Ok types tac P u (operation c at t op ts rs u)
        (pieces_fit.Gives types tac the_value t (operation c at t op ts rs u).used)
    operation-ok at t operations.Negate ts rs u place narrow usable h x =
        let n = operation-needs store are entries few operations.Negate ts t usable h in
        pieces_fit.compute-ok types tac (pieces_fit.Gives types tac the_value t (with_temp u)) operators.Subtract (number_of types t)
        (Constant 0) (word_at rs 0) u (λ y. refl)
        (λ y. pieces_fit.words-fit types tac ts u rs 0 (x y)) (λ o f. (f, number-plain (form_at types t) n))
    operation-ok at t operations.Not ts rs u place narrow usable h x =
        let n = operation-needs store are entries few operations.Not ts t usable h in
        not-ok at t ts rs u place narrow usable x (unless-plain t n.1)
    operation-ok at t (operations.Binary op) ts rs u place narrow usable h x =
        let n = operation-needs store are entries few (operations.Binary op) ts t usable h in
        binary-ok at t (number_of types (type_at ts 0)) op (word_at rs 0) (word_at rs 1) u place
        (binary-plain (is_comparison op) (type_at ts 0) t n.0) (λ y. pieces_fit.words-fit types tac ts u rs 0 (x y))
        (λ y. pieces_fit.words-fit types tac ts u rs 1 (x y))
    operation-ok at t operations.StepForward ts rs u place narrow usable h x =
        let n = operation-needs store are entries few operations.StepForward ts t usable h in
        let size = bytes_at types (target_of types t) in
        twice-ok t operators.Multiply operators.Add whole_word (word_at rs 1) (Constant size) (word_at rs 0) u (wide-plain t n)
        (λ y. pieces_fit.words-fit types tac ts u rs 1 (x y)) (λ y. lt-ltb size (2 ^ 64) (small-size (target_of types t)))
        (λ y. pieces_fit.words-fit types tac ts u rs 0 (x y))
    operation-ok at t operations.StepBack ts rs u place narrow usable h x =
        let n = operation-needs store are entries few operations.StepBack ts t usable h in
        let size = bytes_at types (target_of types t) in
        twice-ok t operators.Multiply operators.Subtract whole_word (word_at rs 1) (Constant size) (word_at rs 0) u (wide-plain t n)
        (λ y. pieces_fit.words-fit types tac ts u rs 1 (x y)) (λ y. lt-ltb size (2 ^ 64) (small-size (target_of types t)))
        (λ y. pieces_fit.words-fit types tac ts u rs 0 (x y))
    operation-ok at t operations.Difference ts rs u place narrow usable h x =
        let n = operation-needs store are entries few operations.Difference ts t usable h in
        apart-ok-ok t (word_at rs 0) (word_at rs 1) (bytes_at types (target_of types (type_at ts 0))) u
        (small-size (target_of types (type_at ts 0))) (wide-plain t n.1) (λ y. pieces_fit.words-fit types tac ts u rs 0 (x y))
        (λ y. pieces_fit.words-fit types tac ts u rs 1 (x y))
    operation-ok at t operations.Convert ts rs u place narrow usable h x =
        let n = operation-needs store are entries few operations.Convert ts t usable h in
        convert-ok at t ts rs u place narrow usable x (unless-plain t n)
    operation-ok at t (operations.Extract o) [] rs u place narrow usable h x = absurd (no h)
    operation-ok at t (operations.Extract o) (s ∷ ts) rs u place narrow usable h x =
        let n = operation-needs store are entries few (operations.Extract o) (s ∷ ts) t usable h in
        extracted-ok s t o (result_at rs 0) u narrow n.0 n.1 (λ y. first-gives s ts u rs (x y))
    operation-ok at t (operations.Call f) ts rs u place narrow usable h x = call-ok at t ts rs u place narrow usable x f
    operation-ok at t (operations.Primitive primitives.PutByte) ts rs u place narrow usable h x =
        let n = operation-needs store are entries few (operations.Primitive primitives.PutByte) ts t usable h in
        pieces_fit.doing-ok types tac (pieces_fit.Gives types tac the_value t u) no_word (PutByte (word_at rs 0)) u
        (λ y. pieces_fit.words-fit types tac ts u rs 0 (x y)) (λ y. (refl, n.0))
    operation-ok at t (operations.Primitive primitives.Write) ts rs u place narrow usable h x =
        let n = operation-needs store are entries few (operations.Primitive primitives.Write) ts t usable h in
        pieces_fit.doing-ok types tac (pieces_fit.Gives types tac the_value t u) no_word (Write at (word_at rs 0) (word_at rs 1)) u
        (λ y. and_from (place_fits at && operand_fits tac (word_at rs 0)) (operand_fits tac (word_at rs 1))
        (and_from (place_fits at) (operand_fits tac (word_at rs 0)) place (pieces_fit.words-fit types tac ts u rs 0 (x y)))
        (pieces_fit.words-fit types tac ts u rs 1 (x y)))
        (λ y. (refl, n.0))
    operation-ok at t (operations.Primitive primitives.Alloc) ts rs u place narrow usable h x =
        let n = operation-needs store are entries few (operations.Primitive primitives.Alloc) ts t usable h in
        record {
          grown = grown-temp u;
          slim = λ n. n;
          fine = λ y g. pieces_fit.one-fits types tac (Alloc u.temps (word_at rs 0))
              (and_from (nat_lt u.temps tac.temps) (operand_fits tac (word_at rs 0)) (pieces_fit.own-temp types tac u g)
              (pieces_fit.words-fit types tac ts u rs 0 (x y)));
          result = λ y g. (pieces_fit.own-temp types tac u g, wide-plain t n);
        }
    operation-ok at t operations.CallValue [] rs u place narrow usable h x =
        absurd (operation-needs store are entries few operations.CallValue [] t usable h)
    operation-ok at t operations.CallValue (s ∷ ts) rs u place narrow usable h x =
        value-call-ok at t (s ∷ ts) rs u place narrow usable x (λ y. pieces_fit.parts-fit types tac ts u (rest rs) (rest-give s ts u rs
        (x y)))
    operation-ok at t (operations.Construct os) ts rs u place narrow usable h x =
        let n = operation-needs store are entries few (operations.Construct os) ts t usable h in
        construct-ok at t ts rs u place narrow usable x os n.1
