-- Calls of functions, and of values that are functions.
use Rattle.std.proofs.Common.{◌≡◌, ℕ, suc, ◌<◌, Bool, true, false, List, [], ◌∷◌, length, map, Option, Some, None, refl, sym, ap, ◌∙◌}
use Rattle.std.proofs.Common.{subst, arith}
use Rattle.std.specs.Prelude.{◌&&◌, nat_eq, option_map, if◌then◌else◌}
use Rattle.std.proofs.lemmas.Bool.{eqb-true}
use Rattle.tl_base.specs.declared.place.Place.{Place}
use Rattle.tl_base.specs.declared.ids.TypeId.{TypeId}
use Rattle.tl_base.specs.declared.ids.FnId.{FnId}
use Rattle.terra_words.specs.declared.words.FaultKind.TheVariants.{BadCall}
use Rattle.terra_words.specs.Runs.{Value, number, value_at}
use Rattle.terra_types.specs.declared.types.TypeForm.{TypeForm}
use Rattle.terra_types.specs.declared.types.TypeForm.TheVariants as forms
use Rattle.terra_term.specs.declared.operators.Operation.TheVariants as operations
use Rattle.terra_term.specs.declared.lists.TypedName.{TypedName}
use Rattle.terra_term.specs.Stores.{Contents, Callable, callable_of}
use Rattle.terra_meaning.specs.Values.{form_at, bytes_at, is_aggregate}
use Rattle.terra_meaning.specs.Frames.{Home}
use Rattle.terra_meaning.specs.Running.{State, Got}
use Rattle.terra_meaning.specs.Running as running
use Rattle.terra_meaning.specs.Meaning as meaning
use Rattle.terra_meaning.specs.Meaning.{the_value, behind}
use Rattle.tac_form.specs.declared.tac.Destination.TheVariants as destinations
use Rattle.tac_form.specs.declared.tac.Instruction.{Instruction}
use Rattle.tac_form.specs.declared.tac.Instruction.TheVariants.{Call, CallValue}
use Rattle.tac_form.specs.declared.tac.Signature.{Signature}
use Rattle.tac_form.specs.Flow as flow
use Rattle.tac_form.specs.Flow.{act}
use Rattle.tac_lower.specs.Pieces.{Used, with_temp, with_area, Piece, known, then_piece, Result, given, parts_of, word_at, rest, Holders}
use Rattle.tac_lower.specs.Lowering.{lowered, code_of, unreached, are_narrow, parameter_types, type_of_name, call, call_value, signature_in}
pub use Rattle.tac_lower.specs.Needs.{CallNeeds}
use Rattle.tac_lower.proofs.Places.{Point, step_on, DoesAt}
use Rattle.tac_lower.proofs.Standing.{Setting, Private, stands, one-step, operand-is, Fine, Grown, Means, Comes, Leaves}
use Rattle.tac_lower.proofs.Simulates.{Fact, one_of, all_of, AllMean, whole, Sim}
use Rattle.tac_lower.proofs.Operators.{first-word}
use Rattle.tac_lower.proofs.Declares.{all-behind}
use Rattle.tac_lower.proofs.Operating.{Does}
use Rattle.tac_lower.proofs.Calls.{CallsOk, values-are, are-values, goes_to, used_by, grown-by, call_here, call_runs}

-- signatures are the same on both sides

same-types : (ts : List TypeId) (xs : List TypedName) → flow.same_types ts (map type_of_name xs) ≡ meaning.same_types ts xs
same-types [] [] = refl
same-types [] (x ∷ xs) = refl
same-types (t ∷ ts) [] = refl
same-types (t ∷ ts) (x ∷ xs) = ap (λ b. nat_eq t.0 x.of.0 && b) (same-types ts xs)

same-signature : (store : Contents) (entries : List FnId) (ts : List TypeId) (of : TypeId) (o : Option Callable) →
    flow.has_signature (record { params = ts; result = of }) (option_map (lowered store entries) o) ≡ meaning.has_type
    (forms.Function ts of) o
same-signature store entries ts of None = refl
same-signature store entries ts of (Some k) = by (are_narrow store.types (parameter_types k))
  where
    by : (b : Bool) →
        flow.has_signature (record { params = ts; result = of }) (Some (if b then code_of store entries k else unreached k))
        ≡ meaning.has_type (forms.Function ts of) (Some k)
    by true = ap (λ b. b && nat_eq of.0 k.body.result.0) (same-types ts k.body.parameters)
    by false = ap (λ b. b && nat_eq of.0 k.body.result.0) (same-types ts k.body.parameters)

both : (a b : Bool) → (a && b) ≡ true → (a ≡ true) × (b ≡ true)
both true b h = (refl, h)
both false b h = absurd (grind (arith, h))

same-id : (a b : TypeId) → nat_eq a.0 b.0 ≡ true → a ≡ b
same-id a b e = ap (λ m. record { 0 = m }) (eqb-true a.0 b.0 e)

types-same : (ts : List TypeId) (xs : List TypedName) → meaning.same_types ts xs ≡ true → ts ≡ map type_of_name xs
types-same [] [] e = refl
types-same (t ∷ ts) (x ∷ xs) e =
    let h = both (nat_eq t.0 x.of.0) (meaning.same_types ts xs) e in
    ap (λ y. y ∷ ts) (same-id t x.of h.0) ∙ ap (λ l. x.of ∷ l) (types-same ts xs h.1)
types-same [] (x ∷ xs) e = absurd (grind (arith, e))
types-same (t ∷ ts) [] e = absurd (grind (arith, e))

module _ (z : Setting) (m : ℕ) (st : Contents) (homes : List Home) (turns : ℕ) where
  abbrev store : Contents
  store = record st { types = z.types }

  abbrev needed : FnId → List TypeId → TypeId → Type 0
  needed = CallNeeds store

  module _ (calls : CallsOk z.program store z.memory m)
      (code_is : (f : FnId) → z.program.code f ≡ option_map (lowered store z.program.entries) (callable_of store f))
      (names : List TypedName) (scope : Holders) (facts : List Fact) (u : Used) (at : Place) (of : TypeId) where
    pub call_sim : (ts : List TypeId) (rs : List Result) (vs : List Value) (f : FnId) → needed f ts of →
        Does z (suc m) st z.program.entries homes (call_here z m st) turns needed names scope facts u at of ts rs vs (operations.Call f)
    call_sim ts rs vs f needs = by (is_aggregate z.types of) refl
      where
        code : Bool → Piece Result
        code b = then_piece (if b then known (destinations.Area (length u.areas)) (with_area (bytes_at z.types of) u)
            else known (destinations.Temp u.temps) (with_temp u)) (λ to u'. call at f rs to u')

        by : (b : Bool) → is_aggregate z.types of ≡ b →
            Sim z (suc m) names scope (all_of ts rs vs ∷ facts) u (code b) (λ s. call_here z m st f vs at s) names scope
            (λ v. one_of the_value of (code b).result v)
        by true e = record {
          grown = grown-by true (bytes_at z.types of) u;
          over = λ t lt away. away;
          run = λ out q k s has whole_ fine knows less.
              call_runs z m st calls names scope u at of f needs.0 vs needs.1
              (subst (λ l. are_narrow z.types l ≡ true) needs.2 needs.4) needs.3 true e (Call (goes_to true u) at f (parts_of rs)) q
              k s has.0
              (ap (λ l. flow.call z.program (goes_to true u) at f l (stands z q k s)) (values-are z scope u ts rs vs q k s knows.0))
              (are-values z scope u needs.0.body.parameters ts rs vs k needs.2 knows.0) whole_ fine less;
        }
        by false e = record {
          grown = grown-by false (bytes_at z.types of) u;
          over = λ t lt away. away;
          run = λ out q k s has whole_ fine knows less.
              call_runs z m st calls names scope u at of f needs.0 vs needs.1
              (subst (λ l. are_narrow z.types l ≡ true) needs.2 needs.4) needs.3 false e (Call (goes_to false u) at f (parts_of rs))
              q k s has.0
              (ap (λ l. flow.call z.program (goes_to false u) at f l (stands z q k s)) (values-are z scope u ts rs vs q k s knows.0))
              (are-values z scope u needs.0.body.parameters ts rs vs k needs.2 knows.0) whole_ fine less;
        }

    -- a function that stands as a value
    module _ (t : TypeId) (ts : List TypeId) (rs : List Result) (vs : List Value) (narrow : are_narrow z.types ts ≡ true) where
      abbrev sig : Signature
      sig = record { params = ts; result = of }

      abbrev instruction : Bool → Instruction
      instruction b = CallValue (goes_to b u) at sig (word_at rs 0) (parts_of (rest rs))

      abbrev Goal : Bool → Point → Private → State → Got Value → Type 0
      Goal b q k s g = Leaves z q k s (λ v s'. Comes z names scope q u k s (step_on q) names scope (used_by b (bytes_at z.types of) u) s'
          (λ k1. Means z the_value of scope (used_by b (bytes_at z.types of) u) (given (goes_to b u)) k1 v)) g

      abbrev called : State → Option FnId → Got Value
      called s o = meaning.called_value (record {
        store = store;
        entries = z.program.entries;
        call = call_here z m st;
        base = z.base;
        homes = homes;
        turns = turns;
      }) at (forms.Function ts of) o (behind vs) s

      run_value : (b : Bool) → is_aggregate z.types of ≡ b → (q : Point) (k : Private) (s : State) → DoesAt z.tac.blocks q (instruction b) →
          AllMean z scope u (t ∷ ts) rs vs k → Grown (used_by b (bytes_at z.types of) u) (whole z) → Fine z names scope u k s →
          s.left < suc m →
          (o : Option FnId) → flow.entry z.program.entries (number (value_at vs 0)) ≡ o → Goal b q k s (called s o)
      run_value b e q k s stood all whole_ fine less o entry_is = by o entry_is
        where
          behind_mean : AllMean z scope u ts (rest rs) (behind vs) k
          behind_mean = all-behind z scope u (t ∷ ts) rs vs k all

          acts : (p : Option FnId) → flow.entry z.program.entries (number (value_at vs 0)) ≡ p →
              act z.program (instruction b) (stands z q k s)
              ≡ flow.call_entry z.program (goes_to b u) at sig p (behind vs) (stands z q k s)
          acts p entry_p =
              ap (λ i. flow.call_entry z.program (goes_to b u) at sig (flow.entry z.program.entries i)
              (flow.values_of (stands z q k s) (parts_of (rest rs))) (stands z q k s))
              (operand-is z q k s (word_at rs 0) ∙ first-word z scope u (t ∷ ts) rs vs k all)
              ∙ ap (λ l. flow.call_entry z.program (goes_to b u) at sig (flow.entry z.program.entries (number (value_at vs 0))) l
              (stands z q k s))
              (values-are z scope u ts (rest rs) (behind vs) q k s behind_mean)
              ∙ ap (λ p. flow.call_entry z.program (goes_to b u) at sig p (behind vs) (stands z q k s)) entry_p

          bad : act z.program (instruction b) (stands z q k s) ≡ flow.fault BadCall at (stands z q k s) →
              Goal b q k s (running.fault BadCall at s)
          bad a = (1, one-step z q k s (instruction b) stood ∙ a)

          good : (f : FnId) (kk : Callable) → callable_of store f ≡ Some kk → meaning.has_type (forms.Function ts of) (Some kk) ≡ true →
              act z.program (instruction b) (stands z q k s) ≡ flow.call z.program (goes_to b u) at f (behind vs) (stands z q k s) →
              Goal b q k s (call_here z m st f (behind vs) at s)
          good f kk there same a =
              let h = both (meaning.same_types ts kk.body.parameters) (nat_eq of.0 kk.body.result.0) same in
              call_runs z m st calls names scope u at of f kk (behind vs) there
              (subst (λ l. are_narrow z.types l ≡ true) (types-same ts kk.body.parameters h.0) narrow) (sym (same-id of kk.body.result
              h.1)) b e
              (instruction b) q k s stood a
              (are-values z scope u kk.body.parameters ts (rest rs) (behind vs) k (types-same ts kk.body.parameters h.0) behind_mean)
              whole_ fine less

          tests : (f : FnId) (o1 : Option Callable) → callable_of store f ≡ o1 → (same : Bool) →
              meaning.has_type (forms.Function ts of) o1 ≡ same →
              act z.program (instruction b) (stands z q k s)
              ≡ (if same then flow.call z.program (goes_to b u) at f (behind vs) (stands z q k s) else flow.fault BadCall at
              (stands z q k s)) →
              Goal b q k s (if same then call_here z m st f (behind vs) at s else running.fault BadCall at s)
          tests f (Some kk) there true same a = good f kk there same a
          tests f None there true same a = absurd (grind (arith, same))
          tests f o1 there false same a = bad a

          by : (p : Option FnId) → flow.entry z.program.entries (number (value_at vs 0)) ≡ p → Goal b q k s (called s p)
          by None oe = bad (acts None oe)
          by (Some f) oe =
              tests f (callable_of store f) refl (meaning.has_type (forms.Function ts of) (callable_of store f)) refl
              (acts (Some f) oe
              ∙ ap (λ x. if flow.has_signature sig x then flow.call z.program (goes_to b u) at f (behind vs) (stands z q k s)
              else flow.fault BadCall at (stands z q k s)) (code_is f)
              ∙ ap (λ x. if x then flow.call z.program (goes_to b u) at f (behind vs) (stands z q k s)
              else flow.fault BadCall at (stands z q k s)) (same-signature store z.program.entries ts of (callable_of store f)))

      code : TypeForm → Bool → Piece Result
      code form b = then_piece (if b then known (destinations.Area (length u.areas)) (with_area (bytes_at z.types of) u)
          else known (destinations.Temp u.temps) (with_temp u)) (λ to u'. call_value at (signature_in form) rs to u')

      value_run : (b : Bool) → is_aggregate z.types of ≡ b →
          Sim z (suc m) names scope (all_of (t ∷ ts) rs vs ∷ facts) u (code (forms.Function ts of) b)
          (λ s. called s (meaning.entry z.program.entries (number (value_at vs 0)))) names scope
          (λ v. one_of the_value of (code (forms.Function ts of) b).result v)
      unfolding code
      value_run true e = record {
        grown = grown-by true (bytes_at z.types of) u;
        over = λ t lt away. away;
        run = λ out q k s has whole_ fine knows less.
            run_value true e q k s has.0 knows.0 whole_ fine less (meaning.entry z.program.entries (number (value_at vs 0)))
            refl;
      }
      value_run false e = record {
        grown = grown-by false (bytes_at z.types of) u;
        over = λ t lt away. away;
        run = λ out q k s has whole_ fine knows less.
            run_value false e q k s has.0 knows.0 whole_ fine less (meaning.entry z.program.entries (number (value_at vs 0)))
            refl;
      }

      pub value_call_sim : form_at z.types t ≡ forms.Function ts of →
          Does z (suc m) st z.program.entries homes (call_here z m st) turns needed names scope facts u at of
          (t ∷ ts) rs vs operations.CallValue
      unfolding code
      value_call_sim form =
          subst (λ f. Sim z (suc m) names scope (all_of (t ∷ ts) rs vs ∷ facts) u (code f (is_aggregate z.types of))
          (λ s. meaning.called_value (record {
            store = store;
            entries = z.program.entries;
            call = call_here z m st;
            base = z.base;
            homes = homes;
            turns = turns;
          }) at f (meaning.entry z.program.entries (number (value_at vs 0))) (behind vs) s) names scope
          (λ v. one_of the_value of (code f (is_aggregate z.types of)).result v)) (sym form)
          (value_run (is_aggregate z.types of) refl)
