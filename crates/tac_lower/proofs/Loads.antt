-- Loads: the value of a type at an address, in code and in the meaning.
use Rattle.std.proofs.Common.{◌≡◌, ◌≢◌, ℕ, zero, suc, ◌+◌, ◌<◌, ◌≤◌, Bool, true, false, List, [], ◌∷◌, ◌++◌, length, drop, Option, Some}
use Rattle.std.proofs.Common.{None, refl, sym, ap, ◌∙◌, subst, arith, append-nil, append_assoc, length-append}
use Rattle.std.specs.Prelude.{◌^◌, ◌%◌, ◌-◌, ◌&&◌, slice_get, unwrap_or, nat_eq, if◌then◌else◌, bit_and}
use Rattle.std.proofs.lemmas.Option.{slice_get-get_or}
use Rattle.std.proofs.Math.Seq.{get_or-append_seam}
use Rattle.std.proofs.lemmas.Bool.{eqb-true, eqb-false, le-leb}
use Rattle.std.proofs.lemmas.List.{nil_from_length, length-take-le, length-drop, drop_all}
use Rattle.std.proofs.lemmas.Nat.{and_mask}
use Rattle.tl_base.specs.declared.place.Place.{Place}
use Rattle.tl_base.specs.declared.ids.TypeId.{TypeId}
use Rattle.terra_memory.specs.Numbers.{number_of, part, overwritten}
use Rattle.terra_memory.specs.Region.{Contents, range_of, is_inside, first_address}
use Rattle.terra_memory.proofs.RegionLaws.{inside_parts}
use Rattle.terra_words.specs.declared.words.FaultKind.TheVariants.{BadAddress}
use Rattle.terra_words.specs.declared.words.BinaryOperator.{BinaryOperator}
use Rattle.terra_words.specs.declared.words.BinaryOperator.TheVariants as operators
use Rattle.terra_words.specs.Words.{wrapped, applied, divides}
use Rattle.terra_words.specs.Runs.{Value, word, bytes, number, Stuck}
use Rattle.terra_types.specs.declared.types.Integer.TheVariants.{Int8, Int16, Int32, Int64, Uint8, Uint16, Uint32, Uint64}
use Rattle.terra_types.specs.declared.types.TypeForm.{TypeForm}
use Rattle.terra_types.specs.declared.types.TypeForm.TheVariants as forms
use Rattle.terra_term.specs.declared.lists.TypedName.{TypedName}
use Rattle.terra_meaning.specs.Values.{form_at, bytes_at, is_aggregate, width_of, IsValue}
use Rattle.terra_meaning.specs.Running.{State, Got, Gives, Ends, next, fault}
use Rattle.terra_meaning.specs.Meaning as meaning
use Rattle.terra_meaning.specs.Meaning.{Wanted, the_value, the_address}
use Rattle.tac_form.specs.declared.tac.Number.{Number}
use Rattle.tac_form.specs.declared.tac.Operand.{Operand}
use Rattle.tac_form.specs.declared.tac.Operand.TheVariants.{Temp, Constant}
use Rattle.tac_form.specs.declared.tac.Address.{Address}
use Rattle.tac_form.specs.declared.tac.Spot.{Spot}
use Rattle.tac_form.specs.declared.tac.Spot.TheVariants as spots
use Rattle.tac_form.specs.declared.tac.Instruction.TheVariants.{Compute, Copy, Load, Move}
use Rattle.tac_form.specs.Flow as flow
use Rattle.tac_form.specs.Flow.{Moved, Goes, Stops, act, area_size, fetched}
use Rattle.tac_lower.specs.Pieces.{Used, with_temp, with_area, Piece, known, doing, then_piece, Result, a_word, an_area, an_offset, word_of}
use Rattle.tac_lower.specs.Pieces.{address_of, no_word, Holders, number_in, bool_form, whole_word, compute, copied, loaded_bit}
use Rattle.tac_lower.specs.Pieces.{loaded_number, loaded_word, loaded}
use Rattle.tac_lower.specs.Lowering.{reached}
use Rattle.tac_lower.proofs.Places.{Point, after}
use Rattle.tac_lower.proofs.Standing.{Setting, SizedBy, Private, stands, word_in, operand-is, Fine, Grown, Good, Means, Comes, Leaves}
use Rattle.tac_lower.proofs.Simulates.{Fact, one_of, Knows, KnowsAll, whole, Sim, then_sim}
use Rattle.tac_lower.proofs.Words.{width_by, wrapped-again, wrapped-small, wrapped-zero, HasNumber, number-width}
use Rattle.tac_lower.proofs.Writes.{same-self, Puts, PutsOr, puts_sim, FillsOr, fills_sim, known_sim}

-- a part of the meaning, told otherwise
pub sim_as : {A B : Type 0} {z : Setting} {n : ℕ} {names names' : List TypedName} {scope scope' : Holders} {facts : List Fact} {u : Used}
    {r : Piece A} {post : B → Fact}
    (go go' : State → Got B) → ((s : State) → go s ≡ go' s) → Sim z n names scope facts u r go names' scope' post →
    Sim z n names scope facts u r go' names' scope' post
sim_as {A} {B} {z} {n} {names} {names'} {scope} {scope'} {facts} {u} {r} {post} go go' e x = record {
  grown = x.grown;
  over = x.over;
  run = λ out at k s has whole_ fine knows less.
      subst (λ g. Leaves z at k s (λ b s'. Comes z names scope at u k s (after r.code at) names' scope' r.used s'
      (Knows z scope' r.used (post b))) g) (e s)
      (x.run out at k s has whole_ fine knows less);
}

-- the same where it is told so of the states in which the code may stand
pub sim_from : {A B : Type 0} {z : Setting} {n : ℕ} {names names' : List TypedName} {scope scope' : Holders} {facts : List Fact}
    {u : Used} {r : Piece A} {post : B → Fact}
    (go go' : State → Got B) → ((k : Private) (s : State) → Fine z names scope u k s → KnowsAll z scope u facts k → go s ≡ go' s) →
    Sim z n names scope facts u r go names' scope' post → Sim z n names scope facts u r go' names' scope' post
sim_from {A} {B} {z} {n} {names} {names'} {scope} {scope'} {facts} {u} {r} {post} go go' e x = record {
  grown = x.grown;
  over = x.over;
  run = λ out at k s has whole_ fine knows less.
      subst (λ g. Leaves z at k s (λ b s'. Comes z names scope at u k s (after r.code at) names' scope' r.used s'
      (Knows z scope' r.used (post b))) g) (e k s fine knows)
      (x.run out at k s has whole_ fine knows less);
}

-- computing

-- the words of two operands, by what is known
abbrev pub AreWords : Setting → Holders → List Fact → Operand → Operand → ℕ → ℕ → Type 0
AreWords z scope facts a b x y = (u : Used) (k : Private) → KnowsAll z scope u facts k → (word_in k a ≡ x) × (word_in k b ≡ y)

pub compute_sim : {z : Setting} {n : ℕ} {names : List TypedName} {scope : Holders} {facts : List Fact} (u : Used) (want : Wanted)
    (of : TypeId) (op : BinaryOperator) (form : Number) (a b : Operand)
    (x y : ℕ) (v : Value) → AreWords z scope facts a b x y → (divides op && nat_eq y 0) ≡ false →
    word (applied (flow.width_of form) op x y) ≡ v →
    Good z want of (a_word (Temp u.temps)) v →
    Sim z n names scope facts u (compute op form a b u) (λ s. Gives v s) names scope (λ w. one_of want of (a_word (Temp u.temps)) w)
compute_sim {z} {n} {names} {scope} {facts} u want of op form a b x y v words safe is good =
    puts_sim u want of (Compute u.temps op form a b) (λ s. Gives v s) (λ at k s fine knows.
    let w = words u k knows in
    let ea = operand-is z at k s a ∙ w.0 in
    let eb = operand-is z at k s b ∙ w.1 in
    record {
      word_put = applied (flow.width_of form) op x y;
      moves = moves at k s (flow.operand (stands z at k s) a) (flow.operand (stands z at k s) b) ea eb;
      is = is;
      good = good;
      same = same-self s;
    })
  where
    moves : (at : Point) (k : Private) (s : State) (i j : ℕ) → i ≡ x → j ≡ y →
        (if divides op && nat_eq j 0 then flow.stop (stands z at k s) Stuck else Goes
        (flow.ahead (flow.set_temp u.temps (applied (flow.width_of form) op i j) (stands z at k s))))
        ≡ Goes (flow.ahead (flow.set_temp u.temps (applied (flow.width_of form) op x y) (stands z at k s)))
    moves at k s i j ei ej =
        ap (λ m. if divides op && nat_eq m 0 then flow.stop (stands z at k s) Stuck else Goes
        (flow.ahead (flow.set_temp u.temps (applied (flow.width_of form) op i m) (stands z at k s)))) ej
        ∙ ap (λ m. if m then flow.stop (stands z at k s) Stuck else Goes
        (flow.ahead (flow.set_temp u.temps (applied (flow.width_of form) op i y) (stands z at k s)))) safe
        ∙ ap (λ m. Goes (flow.ahead (flow.set_temp u.temps (applied (flow.width_of form) op m y) (stands z at k s)))) ei

-- a copy of a word
pub copied_sim : {z : Setting} {n : ℕ} {names : List TypedName} {scope : Holders} {facts : List Fact} (u : Used) (want : Wanted)
    (of : TypeId) (a : Operand) (go : State → Got Value) →
    ((k : Private) (s : State) → Fine z names scope u k s → KnowsAll z scope u facts k → (go s ≡ Gives (word (word_in k a)) s) ×
    Good z want of (a_word (Temp u.temps)) (word (word_in k a))) →
    Sim z n names scope facts u (copied a u) go names scope (λ w. one_of want of (a_word (Temp u.temps)) w)
copied_sim {z} {n} {names} {scope} {facts} u want of a go h =
    puts_sim u want of (Copy u.temps a) go (λ at k s fine knows.
    let g = h k s fine knows in
    subst (λ x. PutsOr z want of at k s u.temps (Copy u.temps a) x) (sym g.0)
    (puts at k s g.1))
  where
    puts : (at : Point) (k : Private) (s : State) → Good z want of (a_word (Temp u.temps)) (word (word_in k a)) →
        Puts z want of at k s u.temps (Copy u.temps a) (word (word_in k a)) s
    puts at k s good = record {
      word_put = word_in k a;
      moves = ap (λ x. Goes (flow.ahead (flow.set_temp u.temps x (stands z at k s)))) (operand-is z at k s a);
      is = refl;
      good = good;
      same = same-self s;
    }

-- addresses

pub address-is : (z : Setting) (of : TypeId) (scope : Holders) (u : Used) (r : Result) (at : Point) (k : Private) (s : State) (a : ℕ) →
    Means z the_address of scope u r k (word a) → flow.address (stands z at k s) (address_of r) ≡ a
address-is z of scope u (a_word o) at k s a m = operand-is z at k s o ∙ ap number m.is
address-is z of scope u (an_area n) at k s a m = absurd m.good
address-is z of scope u (an_offset o) at k s a m = ap number m.is

-- the word of a result that is wanted as a value
pub word-is : (z : Setting) (of : TypeId) (scope : Holders) (u : Used) (r : Result) (k : Private) (v : Value) →
    Means z the_value of scope u r k v → word_in k (word_of r) ≡ number v
word-is z of scope u (a_word o) k v m = ap number m.is
word-is z of scope u (an_area n) k v m = ap number m.is
word-is z of scope u (an_offset o) k v m = absurd m.good

pub is-value : (z : Setting) (of : TypeId) (r : Result) (v : Value) → Good z the_value of r v → IsValue z.types of v
is-value z of (a_word o) v h = h
is-value z of (an_area n) v h = h
is-value z of (an_offset o) v h = absurd h

-- ranges

pub part-length : (bs : List ℕ) (at count : ℕ) → at + count ≤ length bs → length (part bs at count) ≡ count
part-length bs at count le = length-take-le count (drop at bs) (let e = length-drop at bs in omega (arith, e, le))

range-length : (r : Contents) (a n : ℕ) (bs : List ℕ) → range_of r a n ≡ Some bs → length bs ≡ n
unfolding range_of
range-length r a zero bs e = grind (arith, e)
range-length r a (suc n) bs e = by (is_inside r a (suc n)) refl e
  where
    by : (b : Bool) → is_inside r a (suc n) ≡ b → (if b then Some (part r.bytes (a - first_address) (suc n)) else None) ≡ Some bs →
        length bs ≡ suc n
    by false inside h = grind (arith, h)
    by true inside h =
        let p = inside_parts r a (suc n) inside in
        let le : (a - first_address) + suc n ≤ length r.bytes = omega (arith, p.0, p.1) in
        let same : part r.bytes (a - first_address) (suc n) ≡ bs = grind (arith, h) in
        ap length (sym same) ∙ part-length r.bytes (a - first_address) (suc n) le

-- loads

-- which of a type's forms a load of a word is for
pub load-number : (z : Setting) (of : TypeId) (form : TypeForm) → form_at z.types of ≡ form → HasNumber form →
    (flow.bytes_of (number_in form).size ≡ bytes_at z.types of) × (is_aggregate z.types of ≡ false) ×
    (flow.width_of (number_in form) ≡ width_of z.types of)
load-number z of form e h =
    let s = subst (λ f. SizedBy f (bytes_at z.types of)) e (z.sizes of) in (
      bytes form h s,
      subst (λ f. is_aggregate (f ∷ []) (record { 0 = 0 }) ≡ false) (sym e) (plain form h),
      number-width form h
          ∙ ap width_by (sym e),
    )
  where
    bytes : (f : TypeForm) → HasNumber f → SizedBy f (bytes_at z.types of) → flow.bytes_of (number_in f).size ≡ bytes_at z.types of
    bytes (forms.Integer Int8) h s = sym s
    bytes (forms.Integer Int16) h s = sym s
    bytes (forms.Integer Int32) h s = sym s
    bytes (forms.Integer Int64) h s = sym s
    bytes (forms.Integer Uint8) h s = sym s
    bytes (forms.Integer Uint16) h s = sym s
    bytes (forms.Integer Uint32) h s = sym s
    bytes (forms.Integer Uint64) h s = sym s
    bytes (forms.Pointer t) h s = sym s
    bytes (forms.Function params result) h s = sym s
    bytes forms.Bool h s = absurd h
    bytes forms.Unit h s = absurd h
    bytes (forms.Array t m) h s = absurd h
    bytes (forms.Struct number place layout) h s = absurd h

    plain : (f : TypeForm) → HasNumber f → is_aggregate (f ∷ []) (record { 0 = 0 }) ≡ false
    plain (forms.Integer i) h = refl
    plain (forms.Pointer t) h = refl
    plain (forms.Function params result) h = refl
    plain forms.Bool h = absurd h
    plain forms.Unit h = absurd h
    plain (forms.Array t m) h = absurd h
    plain (forms.Struct number place layout) h = absurd h

-- a word of an address, and how many bytes
abbrev word_from : Place → Number → State → Option (List ℕ) → Got Value
word_from at form s None = fault BadAddress at s
word_from at form s (Some bs) = Gives (word (wrapped (flow.width_of form) (number_of bs))) s

abbrev word_read : Place → Number → (size : ℕ) → ℕ → State → Got Value
word_read at form size a s = word_from at form s (range_of s.region a size)

word_sim : {z : Setting} {n : ℕ} {names : List TypedName} {scope : Holders} {facts : List Fact} (u : Used) (want : Wanted) (of : TypeId)
    (place : Place) (form : Number) (address : Address) (a : ℕ) →
    ((at : Point) (k : Private) (s : State) → Fine z names scope u k s → KnowsAll z scope u facts k →
    flow.address (stands z at k s) address ≡ a) →
    ((m : ℕ) → Good z want of (a_word (Temp u.temps)) (word (wrapped (flow.width_of form) m))) →
    Sim z n names scope facts u (loaded_number form (spots.Region place address) u) (word_read place form (flow.bytes_of form.size) a)
    names scope (λ w. one_of want of (a_word (Temp u.temps)) w)
word_sim {z} {n} {names} {scope} {facts} u want of place form address a there good =
    puts_sim u want of (Load u.temps form (spots.Region place address)) (word_read place form (flow.bytes_of form.size) a)
    (λ at k s fine knows.
    by at k s (range_of s.region a (flow.bytes_of form.size))
    (ap (λ x. fetched place (stands z at k s) (range_of s.region x (flow.bytes_of form.size))
    (λ bs. Goes (flow.ahead (flow.set_temp u.temps (wrapped (flow.width_of form) (number_of bs)) (stands z at k s)))))
    (there at k s fine knows)))
  where
    by : (at : Point) (k : Private) (s : State) (o : Option (List ℕ)) →
        act z.program (Load u.temps form (spots.Region place address)) (stands z at k s)
        ≡ fetched place (stands z at k s) o
        (λ bs. Goes (flow.ahead (flow.set_temp u.temps (wrapped (flow.width_of form) (number_of bs)) (stands z at k s)))) →
        PutsOr z want of at k s u.temps (Load u.temps form (spots.Region place address)) (word_from place form s o)
    by at k s None e = e
    by at k s (Some bs) e = record {
      word_put = wrapped (flow.width_of form) (number_of bs);
      moves = e;
      is = refl;
      good = good (number_of bs);
      same = same-self s;
    }

pub next-same : {A : Type 0} (g : Got A) → next g (λ a s. Gives a s) ≡ g
next-same (Gives a s) = refl
next-same (Ends r) = refl

-- what a read of a type is: of a number, its word
read-number : (types : List TypeForm) (place : Place) (of : TypeId) (form : Number) (s : State) (o : Option (List ℕ)) →
    is_aggregate types of ≡ false →
    flow.width_of form ≡ width_of types of → next (word_from place form s o) (λ v s'. Gives v s') ≡ meaning.read types place of s o
read-number types place of form s None plain w = refl
read-number types place of form s (Some bs) plain w =
    ap (λ x. Gives (word (wrapped x (number_of bs))) s) w
    ∙ ap (λ b. Gives (if b then bytes bs else word (wrapped (width_of types of) (number_of bs))) s) (sym plain)

pub bit-is : (m : ℕ) → wrapped (record { signed = false; bits = 64 }) (bit_and (wrapped (record { signed = false; bits = 8 }) m) 1)
    ≡ wrapped (record { signed = false; bits = 1 }) m
unfolding wrapped
bit-is m =
    let e : bit_and (m % 256) 1 ≡ m % 256 % 2 = and_mask (m % 256) 1 in
    ap (λ x. x % 2 ^ 64) e ∙ omega arith

abbrev pub word_piece : TypeForm → Spot → Used → Piece Result
word_piece form from u = then_piece (loaded_number (number_in form) from u) (λ r u'. loaded_bit (bool_form form) r u')

-- what code does at an address that it knows
abbrev pub IsThere : Setting → List TypedName → Holders → Used → List Fact → Address → ℕ → Type 0
IsThere z names scope u facts address a = (at : Point) (k : Private) (s : State) → Fine z names scope u k s → KnowsAll z scope u facts k →
    flow.address (stands z at k s) address ≡ a

number_sim : {z : Setting} {n : ℕ} {names : List TypedName} {scope : Holders} {facts : List Fact} (u : Used) (place : Place) (of : TypeId)
    (form : TypeForm) (address : Address) (a : ℕ) →
    form_at z.types of ≡ form → HasNumber form → IsThere z names scope u facts address a →
    Sim z n names scope facts u (then_piece (loaded_number (number_in form) (spots.Region place address) u) (λ r u'. known r u'))
    (meaning.loaded z.types place of a) names scope (λ v. one_of the_value of (a_word (Temp u.temps)) v)
number_sim {z} {n} {names} {scope} {facts} u place of form address a e h there =
    let l = load-number z of form e h in
    sim_as (λ s. next (word_read place (number_in form) (flow.bytes_of (number_in form).size) a s) (λ v s'. Gives v s'))
    (meaning.loaded z.types place of a)
    (λ s. read-number z.types place of (number_in form) s (range_of s.region a (flow.bytes_of (number_in form).size)) l.1 l.2 ∙ ap
    (λ m. meaning.read z.types place of s (range_of s.region a m)) l.0)
    (then_sim (λ r u'. known r u') (λ v s'. Gives v s') (word 0)
    (word_sim u the_value of place (number_in form) address a there
    (λ m. (l.1, subst (λ w. wrapped (width_of z.types of) (wrapped w m) ≡ wrapped w m) (sym l.2) (wrapped-again (form_at z.types of) m))))
    (λ v. known_sim (with_temp u) (a_word (Temp u.temps)) v (λ k s fine knows. knows.0)))

pub and-bit : (x : ℕ) → wrapped (record { signed = false; bits = 1 }) (applied (record { signed = false; bits = 64 }) operators.And x 1)
    ≡ applied (record { signed = false; bits = 64 }) operators.And x 1
unfolding wrapped applied
and-bit x =
    let e : bit_and x 1 ≡ x % 2 = and_mask x 1 in
    let f : x % 2 % 2 ^ 64 % 2 ≡ x % 2 % 2 ^ 64 = omega arith in
    subst (λ y. y % 2 ^ 64 % 2 ≡ y % 2 ^ 64) (sym e) f

read-bool : (types : List TypeForm) (place : Place) (of : TypeId) (s : State) (o : Option (List ℕ)) → is_aggregate types of ≡ false →
    width_of types of ≡ record { signed = false; bits = 1 } →
    next (word_from place (number_in forms.Bool) s o)
    (λ v s'. Gives (word (applied (flow.width_of whole_word) operators.And (number v) 1)) s') ≡ meaning.read types place of s o
unfolding applied
read-bool types place of s None plain w = refl
read-bool types place of s (Some bs) plain w =
    ap (λ m. Gives (word m) s) (bit-is (number_of bs))
    ∙ ap (λ x. Gives (word (wrapped x (number_of bs))) s) (sym w)
    ∙ ap (λ b. Gives (if b then bytes bs else word (wrapped (width_of types of) (number_of bs))) s) (sym plain)

bool_sim : {z : Setting} {n : ℕ} {names : List TypedName} {scope : Holders} {facts : List Fact} (u : Used) (place : Place) (of : TypeId)
    (address : Address) (a : ℕ) →
    form_at z.types of ≡ forms.Bool → IsThere z names scope u facts address a →
    Sim z n names scope facts u (word_piece forms.Bool (spots.Region place address) u) (meaning.loaded z.types place of a) names scope
    (λ v. one_of the_value of (a_word (Temp (suc u.temps))) v)
bool_sim {z} {n} {names} {scope} {facts} u place of address a e there =
    let size = subst (λ f. SizedBy f (bytes_at z.types of)) e (z.sizes of) in
    let plain : is_aggregate z.types of ≡ false = subst (λ f. is_aggregate (f ∷ []) (record { 0 = 0 }) ≡ false) (sym e) refl in
    let width : width_of z.types of ≡ record { signed = false; bits = 1 } = ap width_by e in
    sim_as (λ s. next (word_read place (number_in forms.Bool) 1 a s)
    (λ v s'. Gives (word (applied (flow.width_of whole_word) operators.And (number v) 1)) s')) (meaning.loaded z.types place of a)
    (λ s. read-bool z.types place of s (range_of s.region a 1) plain width ∙ ap
    (λ m. meaning.read z.types place of s (range_of s.region a m)) (sym size))
    (then_sim (λ r u'. loaded_bit true r u') (λ v s'. Gives (word (applied (flow.width_of whole_word) operators.And (number v) 1)) s')
    (word 0)
    (word_sim u the_address of place (number_in forms.Bool) address a there (λ m. wrapped-small (forms.Integer Uint8) m))
    (λ v. compute_sim (with_temp u) the_value of operators.And whole_word (Temp u.temps) (Constant 1) (number v) 1
    (word (applied (flow.width_of whole_word) operators.And (number v) 1))
    (λ u1 k knows. (ap number knows.0.is, refl)) refl refl (
      plain,
      subst (λ w. wrapped w (applied (flow.width_of whole_word) operators.And (number v) 1) ≡ applied
          (flow.width_of whole_word) operators.And (number v) 1) (sym width) (and-bit (number v)),
    )))

word_piece_sim : {z : Setting} {n : ℕ} {names : List TypedName} {scope : Holders} {facts : List Fact} (u : Used) (place : Place)
    (of : TypeId) (address : Address) (a : ℕ) →
    IsThere z names scope u facts address a → is_aggregate z.types of ≡ false → bytes_at z.types of ≢ 0 → (form : TypeForm) →
    form_at z.types of ≡ form →
    Sim z n names scope facts u (word_piece form (spots.Region place address) u) (meaning.loaded z.types place of a) names scope
    (λ v. one_of the_value of (word_piece form (spots.Region place address) u).result v)
word_piece_sim {z} u place of address a there plain some (forms.Integer i) e = number_sim u place of (forms.Integer i) address a e tt there
word_piece_sim {z} u place of address a there plain some (forms.Pointer t) e = number_sim u place of (forms.Pointer t) address a e tt there
word_piece_sim {z} u place of address a there plain some (forms.Function params result) e =
    number_sim u place of (forms.Function params result) address a e tt there
word_piece_sim {z} u place of address a there plain some forms.Bool e = bool_sim u place of address a e there
word_piece_sim {z} u place of address a there plain some forms.Unit e =
    absurd (some (subst (λ f. SizedBy f (bytes_at z.types of)) e (z.sizes of)))
word_piece_sim {z} u place of address a there plain some (forms.Array t m) e =
    let p : true ≡ false = subst (λ f. is_aggregate (f ∷ []) (record { 0 = 0 }) ≡ false) e plain in absurd (grind (arith, p))
word_piece_sim {z} u place of address a there plain some (forms.Struct number placed layout) e =
    let p : true ≡ false = subst (λ f. is_aggregate (f ∷ []) (record { 0 = 0 }) ≡ false) e plain in absurd (grind (arith, p))

-- the size of a new area
pub area-size : (z : Setting) (size : ℕ) (u : Used) → Grown (with_area size u) (whole z) → area_size z.tac (length u.areas) ≡ size
area-size z size u g =
    let e : z.tac.areas ≡ u.areas ++ size ∷ g.areas.0 = g.areas.1 ∙ append_assoc u.areas (size ∷ []) g.areas.0 in
    let lt : length u.areas < length (u.areas ++ size ∷ g.areas.0) = omega (arith, length-append u.areas (size ∷ g.areas.0)) in
    ap (λ l. unwrap_or (slice_get l (length u.areas)) 0) e
    ∙ ap (λ o. unwrap_or o 0) (slice_get-get_or (u.areas ++ size ∷ g.areas.0) (length u.areas) size lt)
    ∙ get_or-append_seam u.areas size g.areas.0 size

pub overwritten-whole : (old bs : List ℕ) → length old ≤ length bs → overwritten old 0 bs ≡ bs
overwritten-whole old bs le =
    let n : 0 + length bs ≡ length bs = omega arith in
    ap (λ m. bs ++ drop m old) n ∙ ap (λ l. bs ++ l) (drop_all (length bs) old le) ∙ append-nil bs

-- an area of no bytes holds none
pub empty_sim : {z : Setting} {n : ℕ} {names : List TypedName} {scope : Holders} {facts : List Fact} (u : Used) (of : TypeId) (size : ℕ) →
    is_aggregate z.types of ≡ true → bytes_at z.types of ≡ size → size ≡ 0 →
    Sim z n names scope facts u (known (an_area (length u.areas)) (with_area size u)) (λ s. Gives (bytes []) s) names scope
    (λ v. one_of the_value of (an_area (length u.areas)) v)
empty_sim {z} {n} {names} {scope} {facts} u of size agg bytes_are e = record {
  grown = record { temps = omega arith; areas = (size ∷ [], refl) };
  over = λ t lt away. away;
  run = λ out at k s has whole_ fine knows less.
      let none : bytes_at z.types of ≡ 0 = bytes_are ∙ e in
      let empty : k.areas (length u.areas) ≡ [] =
      nil_from_length (k.areas (length u.areas)) (omega (arith, fine.small (length u.areas), area-size z size u whole_, e)) in
      let zero_long : 0 ≡ bytes_at z.types of = sym none in
      let ok : Means z the_value of scope (with_area size u) (an_area (length u.areas)) k (bytes []) = record {
        is = ap bytes empty;
        own = omega (arith, length-append u.areas (size ∷ []));
        good = (agg, zero_long);
      } in
      record {
        private = k;
        leads = (0, refl);
        ok = ok;
        fine = record { holds = fine.holds; small = fine.small; sized = fine.sized };
        keeps = record { temps = λ t lt away. refl; areas = λ m lt. refl };
        fewer = omega arith;
      };
}

-- nothing is read into it
empty_read_sim : {z : Setting} {n : ℕ} {names : List TypedName} {scope : Holders} {facts : List Fact} (u : Used) (place : Place)
    (of : TypeId) (a size : ℕ) → is_aggregate z.types of ≡ true → bytes_at z.types of ≡ size → size ≡ 0 →
    Sim z n names scope facts u (known (an_area (length u.areas)) (with_area size u)) (meaning.loaded z.types place of a) names scope
    (λ v. one_of the_value of (an_area (length u.areas)) v)
unfolding range_of
empty_read_sim {z} u place of a size agg bytes_are e =
    sim_as (λ s. Gives (bytes []) s) (meaning.loaded z.types place of a) (λ s. sym (
    ap (λ m. meaning.read z.types place of s (range_of s.region a m)) (bytes_are ∙ e)
    ∙ ap (λ b. Gives (if b then bytes [] else word (wrapped (width_of z.types of) (number_of []))) s) agg))
    (empty_sim u of size agg bytes_are e)

-- bytes are moved into an area
moved_sim : {z : Setting} {n : ℕ} {names : List TypedName} {scope : Holders} {facts : List Fact} (u : Used) (place : Place) (of : TypeId)
    (address : Address) (a size : ℕ) →
    is_aggregate z.types of ≡ true → bytes_at z.types of ≡ size → IsThere z names scope u facts address a →
    Sim z n names scope facts u (doing (an_area (length u.areas)) (Move (spots.Area (length u.areas) 0) (spots.Region place address) size)
    (with_area size u)) (meaning.loaded z.types place of a) names scope (λ v. one_of the_value of (an_area (length u.areas)) v)
moved_sim {z} {n} {names} {scope} {facts} u place of address a size agg bytes_are there =
    fills_sim u the_value of size (Move (spots.Area (length u.areas) 0) (spots.Region place address) size)
    (meaning.loaded z.types place of a) (λ at k s whole_ fine knows.
    by at k s (fine.small (length u.areas)) (area-size z size u whole_) (range_of s.region a (bytes_at z.types of)) refl
    (ap (λ x. fetched place (stands z at k s) (range_of s.region x size)
    (λ bs. flow.to_spot (spots.Area (length u.areas) 0) bs (stands z at k s))) (there at k s fine knows)
    ∙ ap (λ m. fetched place (stands z at k s) (range_of s.region a m)
    (λ bs. flow.to_spot (spots.Area (length u.areas) 0) bs (stands z at k s))) (sym bytes_are)))
  where
    by : (at : Point) (k : Private) (s : State) → length (k.areas (length u.areas)) ≤ area_size z.tac (length u.areas) →
        area_size z.tac (length u.areas) ≡ size →
        (o : Option (List ℕ)) → range_of s.region a (bytes_at z.types of) ≡ o →
        act z.program (Move (spots.Area (length u.areas) 0) (spots.Region place address) size) (stands z at k s)
        ≡ fetched place (stands z at k s) o (λ bs. flow.to_spot (spots.Area (length u.areas) 0) bs (stands z at k s)) →
        FillsOr z the_value of at k s (length u.areas) (Move (spots.Area (length u.areas) 0) (spots.Region place address) size)
        (meaning.read z.types place of s o)
    by at k s small sized None r e = e
    by at k s small sized (Some bs) r e =
        let long : length bs ≡ bytes_at z.types of = range-length s.region a (bytes_at z.types of) bs r in
        record {
          bytes_put = bs;
          moves = e
              ∙ ap (λ b. if b then Goes
              (flow.ahead (flow.set_area (length u.areas) (overwritten (k.areas (length u.areas)) 0 bs) (stands z at k s))) else
              flow.stop (stands z at k s) Stuck) (le-leb 0 (length (k.areas (length u.areas))) (omega arith))
              ∙ ap (λ l. Goes (flow.ahead (flow.set_area (length u.areas) l (stands z at k s))))
              (overwritten-whole (k.areas (length u.areas)) bs (omega (arith, small, sized, long, bytes_are)));
          is = ap (λ b. if b then bytes bs else word (wrapped (width_of z.types of) (number_of bs))) (sym agg);
          small = omega (arith, sized, long, bytes_are);
          good = subst (λ v. Good z the_value of (an_area (length u.areas)) v)
              (ap (λ b. if b then bytes bs else word (wrapped (width_of z.types of) (number_of bs))) (sym agg)) (agg, long);
          same = same-self s;
        }

-- nothing is read of a type of no bytes
loads-nothing : (z : Setting) (place : Place) (of : TypeId) (a : ℕ) (s : State) → bytes_at z.types of ≡ 0 →
    is_aggregate z.types of ≡ false → meaning.loaded z.types place of a s ≡ Gives (word 0) s
unfolding range_of number_of
loads-nothing z place of a s e plain =
    ap (λ m. meaning.read z.types place of s (range_of s.region a m)) e
    ∙ ap (λ b. Gives (if b then bytes [] else word (wrapped (width_of z.types of) (number_of []))) s) plain
    ∙ ap (λ x. Gives (word x) s) (wrapped-zero (form_at z.types of))

-- the value of a type at an address
pub loaded_sim : {z : Setting} {n : ℕ} {names : List TypedName} {scope : Holders} {facts : List Fact} (u : Used) (place : Place)
    (of : TypeId) (address : Address) (a : ℕ) →
    IsThere z names scope u facts address a →
    Sim z n names scope facts u (loaded z.types of (spots.Region place address) u) (meaning.loaded z.types place of a) names scope
    (λ v. one_of the_value of (loaded z.types of (spots.Region place address) u).result v)
loaded_sim {z} {n} {names} {scope} {facts} u place of address a there =
    by (is_aggregate z.types of) refl (nat_eq (bytes_at z.types of) 0) refl
  where
    piece_by : Bool → Bool → Piece Result
    piece_by agg none =
        if agg then (if none then known (an_area (length u.areas)) (with_area (bytes_at z.types of) u)
        else doing (an_area (length u.areas)) (Move (spots.Area (length u.areas) 0) (spots.Region place address) (bytes_at z.types of))
        (with_area (bytes_at z.types of) u))
        else (if none then known no_word u else loaded_word z.types of (spots.Region place address) u)

    by : (agg : Bool) → is_aggregate z.types of ≡ agg → (none : Bool) → nat_eq (bytes_at z.types of) 0 ≡ none →
        Sim z n names scope facts u (piece_by agg none) (meaning.loaded z.types place of a) names scope
        (λ v. one_of the_value of (piece_by agg none).result v)
    by true agg true none = empty_read_sim u place of a (bytes_at z.types of) agg refl (eqb-true (bytes_at z.types of) 0 none)
    by true agg false none = moved_sim u place of address a (bytes_at z.types of) agg refl there
    by false agg true none = nothing_sim (eqb-true (bytes_at z.types of) 0 none) agg
      where
        nothing_sim : bytes_at z.types of ≡ 0 → is_aggregate z.types of ≡ false → Sim z n names scope facts u (known no_word u)
            (meaning.loaded z.types place of a) names scope (λ v. one_of the_value of no_word v)
        nothing_sim e plain = sim_as (λ s. Gives (word 0) s) (meaning.loaded z.types place of a)
            (λ s. sym (loads-nothing z place of a s e plain))
            (known_sim u no_word (word 0)
            (λ k s fine knows. record { is = refl; own = tt; good = (plain, wrapped-zero (form_at z.types of)) }))
    by false agg false none =
        word_piece_sim u place of address a there agg (eqb-false (bytes_at z.types of) 0 none) (form_at z.types of) refl

-- a place that was reached by its address
pub reached_sim : {z : Setting} {n : ℕ} {names : List TypedName} {scope : Holders} {facts : List Fact} (u : Used) (want : Wanted)
    (place : Place) (of : TypeId) (r : Result) (a : ℕ) →
    ((k : Private) (s : State) → Fine z names scope u k s → KnowsAll z scope u facts k → Means z the_address of scope u r k (word a)) →
    Sim z n names scope facts u (reached z.types want place of r u) (meaning.reached z.types want place of a) names scope
    (λ v. one_of want of (reached z.types want place of r u).result v)
reached_sim {z} {n} {names} {scope} {facts} u the_value place of r a means =
    loaded_sim u place of (address_of r) a (λ at k s fine knows. address-is z of scope u r at k s a (means k s fine knows))
reached_sim {z} {n} {names} {scope} {facts} u the_address place of r a means =
    known_sim u r (word a) (λ k s fine knows. means k s fine knows)
