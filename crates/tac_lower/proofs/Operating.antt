-- Operations: what each needs of its types, and that its code does what it means. Calls are a premise here.
use Rattle.std.proofs.Common.{◌≡◌, ℕ, ◌+◌, ◌≤◌, Bool, true, false, List, [], ◌∷◌, length, replicate, refl, sym, ap, ◌∙◌, subst, arith}
use Rattle.std.specs.Prelude.{◌-◌, nat_eq, nat_lt, if◌then◌else◌}
use Rattle.std.proofs.lemmas.List.{length-replicate}
use Rattle.tl_base.specs.declared.place.Place.{Place}
use Rattle.tl_base.specs.declared.ids.TypeId.{TypeId}
use Rattle.tl_base.specs.declared.ids.FnId.{FnId}
use Rattle.terra_memory.specs.Numbers.{part}
use Rattle.terra_words.specs.declared.words.BinaryOperator.TheVariants as operators
use Rattle.terra_words.specs.Words.{complemented, wrapped, flag}
use Rattle.terra_words.specs.Runs.{Value, word, number, bytes_in, value_at}
use Rattle.terra_types.specs.declared.types.TypeForm.TheVariants as forms
use Rattle.terra_types.specs.Opening.{boolean}
use Rattle.terra_term.specs.declared.operators.Operation.{Operation}
use Rattle.terra_term.specs.declared.operators.Operation.TheVariants as operations
use Rattle.terra_term.specs.declared.lists.TypedName.{TypedName}
use Rattle.terra_term.specs.Stores.{Contents}
use Rattle.terra_meaning.specs.Values.{form_at, bytes_at, is_aggregate, target_of, decoded, width_of, IsValue}
use Rattle.terra_meaning.specs.Frames.{Home}
use Rattle.terra_meaning.specs.Running.{State, Got, Gives}
use Rattle.terra_meaning.specs.Meaning.{Call, the_value, type_at, operated}
use Rattle.tac_form.specs.declared.tac.Operand.TheVariants.{Constant}
use Rattle.tac_lower.specs.Pieces.{Used, Piece, Result, a_word, an_area, an_offset, no_word, word_at, result_at, Holders, Around}
use Rattle.tac_lower.specs.Pieces.{whole_word, number_of, compute}
use Rattle.tac_lower.specs.Lowering.{fitted, operation, turned_over, extracted, are_narrow}
pub use Rattle.tac_lower.specs.Needs.{NumberUnless, OperationNeeds}
use Rattle.tac_lower.proofs.Standing.{Setting, Private, Means}
use Rattle.tac_lower.proofs.Simulates.{Fact, one_of, all_of, AllMean, Sim}
use Rattle.tac_lower.proofs.Words.{value-small}
use Rattle.tac_lower.proofs.Writes.{grown-temp, known_sim}
use Rattle.tac_lower.proofs.Operators.{value-again, negate_sim, fitted_sim}
use Rattle.tac_lower.proofs.Shorts.{bit-of-bool}
use Rattle.tac_lower.proofs.Fors.{Begins, first-value}
use Rattle.tac_lower.proofs.Targets.{first-mean}
use Rattle.tac_lower.proofs.Operations.{is-boolean, not_bool_sim, not_number_sim, to_bool_sim, forward_sim, back_sim, difference_sim}
use Rattle.tac_lower.proofs.Operations.{operator_sim, primitive_sim}
use Rattle.tac_lower.proofs.Extracts.{entry_sim, bytes-in-area, no-word-area}
use Rattle.tac_lower.proofs.Constructs.{construct_sim}

module _ (z : Setting) (n : ℕ) (st : Contents) (entries : List FnId) (homes : List Home)
    (call : FnId → List Value → Place → State → Got Value) (turns : ℕ) (CallNeeds : FnId → List TypeId → TypeId → Type 0)
    (names : List TypedName) (scope : Holders) (facts : List Fact) (u : Used) (at : Place) (of : TypeId) (ts : List TypeId)
    (rs : List Result) (vs : List Value) where
  abbrev store : Contents
  store = record st { types = z.types }

  abbrev c : Call
  c = record { store = store; entries = entries; call = call; base = z.base; homes = homes; turns = turns }

  abbrev a : Around
  a = record { types = store.types; entries = entries; homes = homes }

  -- the code of an operation does what it means
  abbrev pub Does : Operation → Type 0
  Does op = Sim z n names scope (all_of ts rs vs ∷ facts) u (operation a at of op ts rs u) (operated c at of op ts vs) names scope
      (λ v. one_of the_value of (operation a at of op ts rs u).result v)

  abbrev x0 : ℕ
  x0 = number (value_at vs 0)

  not_sim : Begins of ts → NumberUnless z.types (nat_eq of.0 boolean.0) of → Does operations.Not
  not_sim begins needs = by (nat_eq of.0 boolean.0) refl needs
    where
      code : Bool → Piece Result
      code b = if b then compute operators.Xor whole_word (word_at rs 0) (Constant 1) u
          else turned_over (number_of z.types of) (word_at rs 0) u

      by : (b : Bool) → nat_eq of.0 boolean.0 ≡ b → NumberUnless z.types b of →
          Sim z n names scope (all_of ts rs vs ∷ facts) u (code b)
          (λ s. Gives (word (if b then 1 - x0 else complemented (width_of z.types of) x0)) s) names scope
          (λ v. one_of the_value of (code b).result v)
      by true e h = record {
        grown = grown-temp u;
        over = λ t lt away. away;
        run = λ out at k s has whole_ fine knows less.
            let form = is-boolean z of e in
            (not_bool_sim z n names scope facts u of ts rs vs form
            (bit-of-bool z.types of (value_at vs 0) form (first-value z scope u of ts rs vs k begins knows.0))).run out at k s has whole_
            fine knows less;
      }
      by false e h = record {
        grown = grown-temp u;
        over = λ t lt away. away;
        run = λ out at k s has whole_ fine knows less.
            let value = first-value z scope u of ts rs vs k begins knows.0 in
            (not_number_sim z n names scope facts u of ts rs vs h (value-again z.types of (value_at vs 0) value)
            (value-small z.types of (value_at vs 0) value)).run out at k s has whole_ fine knows less;
      }

  conversion_sim : NumberUnless z.types (nat_eq of.0 boolean.0) of → Does operations.Convert
  conversion_sim needs = by (nat_eq of.0 boolean.0) refl needs
    where
      code : Bool → Piece Result
      code b = if b then compute operators.NotEqual whole_word (word_at rs 0) (Constant 0) u
          else fitted (number_of z.types of) (word_at rs 0) u

      by : (b : Bool) → nat_eq of.0 boolean.0 ≡ b → NumberUnless z.types b of →
          Sim z n names scope (all_of ts rs vs ∷ facts) u (code b)
          (λ s. Gives (word (if b then flag (nat_lt 0 x0) else wrapped (width_of z.types of) x0)) s) names scope
          (λ v. one_of the_value of (code b).result v)
      by true e h = to_bool_sim z n names scope facts u of ts rs vs (is-boolean z of e)
      by false e h = fitted_sim u of ts rs vs h

module _ (z : Setting) (n : ℕ) (names : List TypedName) (scope : Holders) (facts : List Fact) (u : Used) (of t : TypeId)
    (ts : List TypeId) (vs : List Value) (offset : ℕ) where
  -- an entry of a value of a struct
  pub extract_sim : (rs : List Result) → is_aggregate z.types t ≡ true → offset + bytes_at z.types of ≤ bytes_at z.types t →
      Sim z n names scope (all_of (t ∷ ts) rs vs ∷ facts) u (extracted z.types of offset (result_at rs 0) u)
      (λ s. Gives (decoded z.types of (part (bytes_in (value_at vs 0)) offset (bytes_at z.types of))) s) names scope
      (λ v. one_of the_value of (extracted z.types of offset (result_at rs 0) u).result v)
  extract_sim rs agg fits =
      by (result_at rs 0) (λ k u1 knows. first-mean z scope u1 t ts rs vs k knows)
    where
      bs : List ℕ
      bs = bytes_in (value_at vs 0)

      go : State → Got Value
      go s = Gives (decoded z.types of (part bs offset (bytes_at z.types of))) s

      impossible : Fact
      impossible = one_of the_value t (an_offset 0) (word 0)

      by : (r : Result) →
          ((k : Private) (u1 : Used) → AllMean z scope u1 (t ∷ ts) rs vs k → Means z the_value t scope u1 r k (value_at vs 0)) →
          Sim z n names scope (all_of (t ∷ ts) rs vs ∷ facts) u (extracted z.types of offset r u) go names scope
          (λ v. one_of the_value of (extracted z.types of offset r u).result v)
      by (an_area m) means =
          let zeros = replicate (bytes_at z.types t) 0 in
          let long : length zeros ≡ bytes_at z.types t = length-replicate (bytes_at z.types t) 0 in
          let any = entry_sim z n names scope (impossible ∷ []) u of m offset zeros (λ u1 k knows. absurd knows.0.good)
          (omega (arith, fits, long)) in
          record {
            grown = any.grown;
            over = any.over;
            run = λ out at k s has whole_ fine knows less.
                let here = means k u knows.0 in
                let value = subst (λ v. IsValue z.types t v) (sym here.is) here.good in
                let bs_long : length bs ≡ bytes_at z.types t = ap length (sym (bytes-in-area z t scope u m k (value_at vs 0) here))
                ∙ value.1 in
                (entry_sim z n names scope (all_of (t ∷ ts) rs vs ∷ facts) u of m offset bs
                (λ u1 k1 h. bytes-in-area z t scope u1 m k1 (value_at vs 0) (means k1 u1 h.0)) (omega (arith, fits, bs_long))).run
                out at k s has whole_ fine knows less;
          }
      by (a_word o) means =
          known_sim u no_word (decoded z.types of (part bs offset (bytes_at z.types of)))
          (λ k s fine knows. let no = no-word-area z t scope u (a_word o) k (value_at vs 0) agg (means k u knows.0) in absurd
          (grind (arith, no.1)))
      by (an_offset o) means =
          known_sim u no_word (decoded z.types of (part bs offset (bytes_at z.types of)))
          (λ k s fine knows. absurd (means k u knows.0).good)

module _ (z : Setting) (n : ℕ) (st : Contents) (entries : List FnId) (homes : List Home)
    (call : FnId → List Value → Place → State → Got Value) (turns : ℕ) (CallNeeds : FnId → List TypeId → TypeId → Type 0)
    (calls : (names : List TypedName) (scope : Holders) (facts : List Fact) (u : Used) (at : Place) (of : TypeId) (ts : List TypeId)
    (rs : List Result) (vs : List Value) (f : FnId) → CallNeeds f ts of →
    Does z n st entries homes call turns CallNeeds names scope facts u at of ts rs vs (operations.Call f))
    (value_calls : (names : List TypedName) (scope : Holders) (facts : List Fact) (u : Used) (at : Place) (of t : TypeId) (ts : List TypeId)
    (rs : List Result) (vs : List Value) → form_at z.types t ≡ forms.Function ts of → are_narrow z.types ts ≡ true →
    Does z n st entries homes call turns CallNeeds names scope facts u at of (t ∷ ts) rs vs operations.CallValue) where
  pub operation_sim : (names : List TypedName) (scope : Holders) (facts : List Fact) (u : Used) (at : Place) (of : TypeId) (op : Operation)
      (ts : List TypeId) (rs : List Result) (vs : List Value) → OperationNeeds z.types CallNeeds op ts of →
      Does z n st entries homes call turns CallNeeds names scope facts u at of ts rs vs op
  operation_sim names scope facts u at of operations.Negate ts rs vs needs = negate_sim u of ts rs vs needs
  operation_sim names scope facts u at of operations.Not ts rs vs needs =
      not_sim z n st entries homes call turns CallNeeds names scope facts u at of ts rs vs needs.0 needs.1
  operation_sim names scope facts u at of (operations.Binary op) ts rs vs needs =
      operator_sim z n names scope facts u of ts rs vs at op needs.0 needs.1
  operation_sim names scope facts u at of operations.StepForward ts rs vs needs =
      forward_sim z n names scope facts u of ts rs vs (bytes_at z.types (target_of z.types of)) needs
  operation_sim names scope facts u at of operations.StepBack ts rs vs needs =
      back_sim z n names scope facts u of ts rs vs (bytes_at z.types (target_of z.types of)) needs
  operation_sim names scope facts u at of operations.Difference ts rs vs needs =
      difference_sim z n names scope facts u of ts rs vs (bytes_at z.types (target_of z.types (type_at ts 0))) needs.0 needs.1
  operation_sim names scope facts u at of operations.Convert ts rs vs needs =
      conversion_sim z n st entries homes call turns CallNeeds names scope facts u at of ts rs vs needs
  operation_sim names scope facts u at of (operations.Extract offset) [] rs vs needs = absurd needs
  operation_sim names scope facts u at of (operations.Extract offset) (t ∷ ts) rs vs needs =
      extract_sim z n names scope facts u of t ts vs offset rs needs.0 needs.1
  operation_sim names scope facts u at of (operations.Call f) ts rs vs needs = calls names scope facts u at of ts rs vs f needs
  operation_sim names scope facts u at of (operations.Primitive p) ts rs vs needs =
      primitive_sim z n names scope facts u of ts rs vs at p needs
  operation_sim names scope facts u at of operations.CallValue [] rs vs needs = absurd needs
  operation_sim names scope facts u at of operations.CallValue (t ∷ ts) rs vs needs =
      value_calls names scope facts u at of t ts rs vs needs.0 needs.1
  operation_sim names scope facts u at of (operations.Construct offsets) ts rs vs needs =
      construct_sim u of offsets ts rs vs needs.0 needs.1
