-- An entry of a value of a struct: what is read from an area.
use Rattle.std.proofs.Common.{◌≡◌, ◌≢◌, ℕ, suc, ◌+◌, ◌≤◌, Bool, true, false, List, [], ◌∷◌, length, refl, sym, ap, ◌∙◌, subst, arith}
use Rattle.std.specs.Prelude.{nat_eq, nat_le, if◌then◌else◌}
use Rattle.std.proofs.lemmas.Bool.{eqb-true, eqb-false, le-leb}
use Rattle.tl_base.specs.declared.ids.TypeId.{TypeId}
use Rattle.terra_memory.specs.Numbers.{number_of, part, overwritten}
use Rattle.terra_words.specs.declared.words.BinaryOperator.TheVariants as operators
use Rattle.terra_words.specs.Words.{wrapped, applied}
use Rattle.terra_words.specs.Runs.{Value, word, bytes, number, bytes_in, Stuck}
use Rattle.terra_types.specs.declared.types.Integer.TheVariants.{Uint8}
use Rattle.terra_types.specs.declared.types.TypeForm.{TypeForm}
use Rattle.terra_types.specs.declared.types.TypeForm.TheVariants as forms
use Rattle.terra_term.specs.declared.lists.TypedName.{TypedName}
use Rattle.terra_meaning.specs.Values.{form_at, bytes_at, is_aggregate, width_of, decoded, IsValue}
use Rattle.terra_meaning.specs.Running.{State, Got, Gives, next}
use Rattle.terra_meaning.specs.Meaning.{Wanted, the_value, the_address}
use Rattle.tac_form.specs.declared.tac.Number.{Number}
use Rattle.tac_form.specs.declared.tac.Operand.TheVariants.{Temp, Constant}
use Rattle.tac_form.specs.declared.tac.Spot.TheVariants as spots
use Rattle.tac_form.specs.declared.tac.Instruction.TheVariants.{Load, Move}
use Rattle.tac_form.specs.Flow as flow
use Rattle.tac_form.specs.Flow.{Goes, area_size}
use Rattle.tac_lower.specs.Pieces.{Used, with_temp, with_area, Piece, known, doing, then_piece, Result, a_word, an_area, an_offset, no_word}
use Rattle.tac_lower.specs.Pieces.{Holders, number_in, whole_word, loaded_bit, loaded_number, loaded_word, loaded}
use Rattle.tac_lower.proofs.Places.{Point}
use Rattle.tac_lower.proofs.Standing.{Setting, SizedBy, Private, stands, Good, Means}
use Rattle.tac_lower.proofs.Simulates.{Fact, one_of, KnowsAll, Sim, then_sim}
use Rattle.tac_lower.proofs.Words.{width_by, wrapped-again, wrapped-small, wrapped-zero, HasNumber}
use Rattle.tac_lower.proofs.Writes.{same-self, puts_sim, fills_sim, known_sim}
use Rattle.tac_lower.proofs.Loads.{sim_as, compute_sim, load-number, word_piece, empty_sim, part-length, and-bit, bit-is, area-size}
use Rattle.tac_lower.proofs.Loads.{overwritten-whole}
use Rattle.tac_lower.proofs.Shorts.{plain-bool}

part-none : (bs : List ℕ) (at size : ℕ) → size ≡ 0 → part bs at size ≡ []
part-none bs at size e = ap (λ m. part bs at m) e

module _ (z : Setting) (n : ℕ) (names : List TypedName) (scope : Holders) (facts : List Fact) (u : Used) (of : TypeId)
    (area offset : ℕ) (bs : List ℕ)
    (there : (u1 : Used) (k : Private) → KnowsAll z scope u1 facts k → k.areas area ≡ bs)
    (fits : offset + bytes_at z.types of ≤ length bs) where
  abbrev size : ℕ
  size = bytes_at z.types of

  abbrev entry : List ℕ
  entry = part bs offset size

  abbrev given : State → Got Value
  given s = Gives (decoded z.types of entry) s

  -- what an area holds is read
  reads : (at : Point) (k : Private) (s : State) (m : ℕ) (go : List ℕ → flow.Moved) → k.areas area ≡ bs → offset + m ≤ length bs →
      flow.from_spot (spots.Area area offset) m (stands z at k s) go ≡ go (part bs offset m)
  reads at k s m go e le =
      ap (λ l. if nat_le (offset + m) (length l) then go (part l offset m) else flow.stop (stands z at k s) Stuck) e
      ∙ ap (λ b. if b then go (part bs offset m) else flow.stop (stands z at k s) Stuck) (le-leb (offset + m) (length bs) le)

  area_word_sim : (want : Wanted) (form : Number) → offset + flow.bytes_of form.size ≤ length bs →
      Good z want of (a_word (Temp u.temps)) (word (wrapped (flow.width_of form) (number_of (part bs offset (flow.bytes_of form.size))))) →
      Sim z n names scope facts u (loaded_number form (spots.Area area offset) u)
      (λ s. Gives (word (wrapped (flow.width_of form) (number_of (part bs offset (flow.bytes_of form.size))))) s) names scope
      (λ w. one_of want of (a_word (Temp u.temps)) w)
  area_word_sim want form le good =
      puts_sim u want of (Load u.temps form (spots.Area area offset))
      (λ s. Gives (word (wrapped (flow.width_of form) (number_of (part bs offset (flow.bytes_of form.size))))) s)
      (λ at k s fine knows. record {
        word_put = wrapped (flow.width_of form) (number_of (part bs offset (flow.bytes_of form.size)));
        moves = reads at k s (flow.bytes_of form.size)
            (λ cs. Goes (flow.ahead (flow.set_temp u.temps (wrapped (flow.width_of form) (number_of cs)) (stands z at k s))))
            (there u k knows) le;
        is = refl;
        good = good;
        same = same-self s;
      })

  number_sim : (form : TypeForm) → form_at z.types of ≡ form → HasNumber form →
      Sim z n names scope facts u (then_piece (loaded_number (number_in form) (spots.Area area offset) u) (λ r u'. known r u')) given
      names scope (λ v. one_of the_value of (a_word (Temp u.temps)) v)
  number_sim form e h =
      let l = load-number z of form e h in
      let bytes_are : flow.bytes_of (number_in form).size ≡ size = l.0 in
      let x = wrapped (flow.width_of (number_in form)) (number_of (part bs offset (flow.bytes_of (number_in form).size))) in
      sim_as (λ s. next (Gives (word x) s) (λ v s'. Gives v s')) given
      (λ s.
      ap (λ m. Gives (word (wrapped (flow.width_of (number_in form)) (number_of (part bs offset m)))) s) bytes_are
      ∙ ap (λ w. Gives (word (wrapped w (number_of entry))) s) l.2
      ∙ ap (λ b. Gives (if b then bytes entry else word (wrapped (width_of z.types of) (number_of entry))) s) (sym l.1))
      (then_sim (λ r u'. known r u') (λ v s'. Gives v s') (word 0)
      (area_word_sim the_value (number_in form) (omega (arith, fits, bytes_are)) (
        l.1,
        subst (λ w. wrapped (width_of z.types of) (wrapped w (number_of (part bs offset (flow.bytes_of (number_in form).size))))
            ≡ wrapped w (number_of (part bs offset (flow.bytes_of (number_in form).size)))) (sym l.2)
            (wrapped-again (form_at z.types of) (number_of (part bs offset (flow.bytes_of (number_in form).size)))),
      ))
      (λ v. known_sim (with_temp u) (a_word (Temp u.temps)) v (λ k s fine knows. knows.0)))

  bool_sim : form_at z.types of ≡ forms.Bool →
      Sim z n names scope facts u (word_piece forms.Bool (spots.Area area offset) u) given names scope
      (λ v. one_of the_value of (a_word (Temp (suc u.temps))) v)
  unfolding applied
  bool_sim e =
      let one : size ≡ 1 = subst (λ f. SizedBy f (bytes_at z.types of)) e (z.sizes of) in
      let plain = plain-bool z.types of e in
      let width : width_of z.types of ≡ record { signed = false; bits = 1 } = ap width_by e in
      let m = number_of (part bs offset 1) in
      let x = wrapped (flow.width_of (number_in forms.Bool)) m in
      let y = applied (flow.width_of whole_word) operators.And x 1 in
      sim_as (λ s. next (Gives (word x) s) (λ v s'. Gives (word (applied (flow.width_of whole_word) operators.And (number v) 1)) s')) given
      (λ s.
      ap (λ i. Gives (word i) s) (bit-is m)
      ∙ ap (λ w. Gives (word (wrapped w m)) s) (sym width)
      ∙ ap (λ i. Gives (word (wrapped (width_of z.types of) (number_of (part bs offset i)))) s) (sym one)
      ∙ ap (λ b. Gives (if b then bytes entry else word (wrapped (width_of z.types of) (number_of entry))) s) (sym plain))
      (then_sim (λ r u'. loaded_bit true r u') (λ v s'. Gives (word (applied (flow.width_of whole_word) operators.And (number v) 1)) s')
      (word 0)
      (area_word_sim the_address (number_in forms.Bool) (omega (arith, fits, one)) (wrapped-small (forms.Integer Uint8) m))
      (λ v. compute_sim (with_temp u) the_value of operators.And whole_word (Temp u.temps) (Constant 1) (number v) 1
      (word (applied (flow.width_of whole_word) operators.And (number v) 1)) (λ u1 k knows. (ap number knows.0.is, refl)) refl refl (
        plain,
        subst (λ w. wrapped w (applied (flow.width_of whole_word) operators.And (number v) 1)
            ≡ applied (flow.width_of whole_word) operators.And (number v) 1) (sym width) (and-bit (number v)),
      )))

  word_piece_sim : is_aggregate z.types of ≡ false → size ≢ 0 → (form : TypeForm) → form_at z.types of ≡ form →
      Sim z n names scope facts u (word_piece form (spots.Area area offset) u) given names scope
      (λ v. one_of the_value of (word_piece form (spots.Area area offset) u).result v)
  word_piece_sim plain some (forms.Integer i) e = number_sim (forms.Integer i) e tt
  word_piece_sim plain some (forms.Pointer t) e = number_sim (forms.Pointer t) e tt
  word_piece_sim plain some (forms.Function params result) e = number_sim (forms.Function params result) e tt
  word_piece_sim plain some forms.Bool e = bool_sim e
  word_piece_sim plain some forms.Unit e = absurd (some (subst (λ f. SizedBy f (bytes_at z.types of)) e (z.sizes of)))
  word_piece_sim plain some (forms.Array t m) e =
      let p : true ≡ false = subst (λ f. is_aggregate (f ∷ []) (record { 0 = 0 }) ≡ false) e plain in absurd (grind (arith, p))
  word_piece_sim plain some (forms.Struct number placed layout) e =
      let p : true ≡ false = subst (λ f. is_aggregate (f ∷ []) (record { 0 = 0 }) ≡ false) e plain in absurd (grind (arith, p))

  aggregate-is : is_aggregate z.types of ≡ true → decoded z.types of entry ≡ bytes entry
  aggregate-is agg = ap (λ b. if b then bytes entry else word (wrapped (width_of z.types of) (number_of entry))) agg

  area_sim : is_aggregate z.types of ≡ true →
      Sim z n names scope facts u
      (doing (an_area (length u.areas)) (Move (spots.Area (length u.areas) 0) (spots.Area area offset) size) (with_area size u)) given
      names scope (λ v. one_of the_value of (an_area (length u.areas)) v)
  area_sim agg =
      let to = length u.areas in
      let long : length entry ≡ size = part-length bs offset size fits in
      sim_as (λ s. Gives (bytes entry) s) given (λ s. ap (λ v. Gives v s) (sym (aggregate-is agg)))
      (fills_sim u the_value of size (Move (spots.Area to 0) (spots.Area area offset) size) (λ s. Gives (bytes entry) s)
      (λ at k s whole_ fine knows.
      let sized = area-size z size u whole_ in
      let small = fine.small to in
      record {
        bytes_put = entry;
        moves = reads at k s size (λ cs. flow.to_spot (spots.Area to 0) cs (stands z at k s)) (there u k knows) fits
            ∙ ap (λ b. if b then Goes (flow.ahead (flow.set_area to (overwritten (k.areas to) 0 entry) (stands z at k s)))
            else flow.stop (stands z at k s) Stuck) (le-leb 0 (length (k.areas to)) (omega arith))
            ∙ ap (λ l. Goes (flow.ahead (flow.set_area to l (stands z at k s))))
            (overwritten-whole (k.areas to) entry (omega (arith, small, sized, long)));
        is = refl;
        small = omega (arith, sized, long);
        good = (agg, long);
        same = same-self s;
      }))

  none_sim : is_aggregate z.types of ≡ false → size ≡ 0 →
      Sim z n names scope facts u (known no_word u) given names scope (λ v. one_of the_value of no_word v)
  unfolding number_of
  none_sim plain none =
      let zero_is : decoded z.types of entry ≡ word 0 =
      ap (λ l. decoded z.types of l) (part-none bs offset size none)
      ∙ ap (λ b. if b then bytes [] else word (wrapped (width_of z.types of) 0)) plain ∙ ap word (wrapped-zero (form_at z.types of)) in
      sim_as (λ s. Gives (word 0) s) given (λ s. ap (λ v. Gives v s) (sym zero_is))
      (known_sim u no_word (word 0) (λ k s fine knows. record { is = refl; own = tt; good = (plain, wrapped-zero (form_at z.types of)) }))

  nothing_area_sim : is_aggregate z.types of ≡ true → size ≡ 0 →
      Sim z n names scope facts u (known (an_area (length u.areas)) (with_area size u)) given names scope
      (λ v. one_of the_value of (an_area (length u.areas)) v)
  nothing_area_sim agg none =
      sim_as (λ s. Gives (bytes []) s) given
      (λ s. ap (λ l. Gives (bytes l) s) (sym (part-none bs offset size none)) ∙ ap (λ v. Gives v s) (sym (aggregate-is agg)))
      (empty_sim u of size agg refl none)

  pub entry_sim : Sim z n names scope facts u (loaded z.types of (spots.Area area offset) u) given names scope
      (λ v. one_of the_value of (loaded z.types of (spots.Area area offset) u).result v)
  entry_sim = by (is_aggregate z.types of) refl (nat_eq size 0) refl
    where
      from : Bool → Bool → Piece Result
      from agg none =
          if agg then (if none then known (an_area (length u.areas)) (with_area size u)
          else doing (an_area (length u.areas)) (Move (spots.Area (length u.areas) 0) (spots.Area area offset) size) (with_area size u))
          else (if none then known no_word u else loaded_word z.types of (spots.Area area offset) u)

      by : (agg : Bool) → is_aggregate z.types of ≡ agg → (none : Bool) → nat_eq size 0 ≡ none →
          Sim z n names scope facts u (from agg none) given names scope (λ v. one_of the_value of (from agg none).result v)
      by true agg true none = nothing_area_sim agg (eqb-true size 0 none)
      by true agg false none = area_sim agg
      by false agg true none = none_sim agg (eqb-true size 0 none)
      by false agg false none = word_piece_sim agg (eqb-false size 0 none) (form_at z.types of) refl

-- a value of an aggregate lies in an area

pub bytes-in-area : (z : Setting) (of : TypeId) (scope : Holders) (u : Used) (m : ℕ) (k : Private) (v : Value) →
    Means z the_value of scope u (an_area m) k v → k.areas m ≡ bytes_in v
bytes-in-area z of scope u m k v means = ap bytes_in means.is

pub no-word-area : (z : Setting) (of : TypeId) (scope : Holders) (u : Used) (r : Result) (k : Private) (v : Value) →
    is_aggregate z.types of ≡ true → Means z the_value of scope u r k v → (m : ℕ) × (r ≡ an_area m)
no-word-area z of scope u (an_area m) k v agg means = (m, refl)
no-word-area z of scope u (an_offset o) k v agg means = absurd means.good
no-word-area z of scope u (a_word o) k v agg means =
    let h = subst (λ x. IsValue z.types of x) (sym means.is) means.good in
    let bad : true ≡ false = sym agg ∙ h.0 in absurd (grind (arith, bad))
