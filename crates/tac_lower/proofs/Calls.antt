-- Calls: the count, the callee, and what it gives. What callees do is a premise here.
use Rattle.std.proofs.Common.{◌≡◌, ℕ, zero, suc, ◌+◌, ◌<◌, ◌≤◌, Bool, true, false, List, [], ◌∷◌, ◌++◌, length, map, Some, refl, sym, ap}
use Rattle.std.proofs.Common.{◌∙◌, subst, arith, length-append}
use Rattle.std.specs.Prelude.{◌^◌, if◌then◌else◌}
use Rattle.std.proofs.lemmas.Bool.{eq-eqb}
use Rattle.tl_base.specs.declared.place.Place.{Place}
use Rattle.tl_base.specs.declared.ids.TypeId.{TypeId}
use Rattle.tl_base.specs.declared.ids.FnId.{FnId}
use Rattle.terra_words.specs.Runs.{Value, word, bytes, Stuck}
use Rattle.terra_types.specs.declared.types.TypeForm.{TypeForm}
use Rattle.terra_term.specs.declared.lists.TypedName.{TypedName}
use Rattle.terra_term.specs.Stores.{Contents, Callable, callable_of}
use Rattle.terra_meaning.specs.Values.{bytes_at, is_aggregate, IsValue, AreValues}
use Rattle.terra_meaning.specs.Running.{State, Got, Gives, Ends, counted, counted_from}
use Rattle.terra_meaning.specs.Meaning.{the_value, apply, kept}
use Rattle.tac_form.specs.declared.tac.Destination.{Destination}
use Rattle.tac_form.specs.declared.tac.Destination.TheVariants as destinations
use Rattle.tac_form.specs.declared.tac.Instruction.{Instruction}
use Rattle.tac_form.specs.Flow as flow
use Rattle.tac_form.specs.Flow.{Program, Activation, Caller, Moved, Goes, Stops, steps, act, area_size}
use Rattle.tac_form.proofs.OneRun.{steps-add}
use Rattle.tac_lower.specs.Items.{does}
use Rattle.tac_lower.specs.Pieces.{Used, with_temp, with_area, Piece, Result, given, parts_of, Holders}
use Rattle.tac_lower.specs.Lowering.{type_of_name, are_narrow, parameter_types}
use Rattle.tac_lower.proofs.Places.{Point, step_on, DoesAt}
use Rattle.tac_lower.proofs.Standing.{Setting, Private, stands, one-step, Fine, Grown, Means, Comes, Leaves}
use Rattle.tac_lower.proofs.Simulates.{AllMean, whole}
use Rattle.tac_lower.proofs.Writes.{put-same, put-below, with_word, with_bytes, holds-later, fresh-apart, grown-temp, grown-area, small-put}
use Rattle.tac_lower.proofs.Loads.{area-size, is-value}
use Rattle.tac_lower.proofs.Branches.{part-value}

-- a state of three-address code with what the meaning's has
abbrev pub beside : Activation → List Caller → State → flow.State
beside here callers s = record { here = here; callers = callers; region = s.region; left = s.left; out = s.out }

-- a call came to an end with a value for its caller
pub record Gave (p : Program) (types : List TypeForm) (memory : ℕ) (callers : List Caller) (m : Moved) (of : TypeId) (left : ℕ)
    (v : Value) (s : State) : Type 0 where
  pub here : Activation
  pub behind : List Caller
  pub leads : (j : ℕ) × (steps p j m ≡ flow.give p v callers (beside here behind s))
  pub is_value : IsValue types of v
  pub sized : length s.region.bytes ≡ memory
  pub fewer : s.left ≤ left

abbrev pub CallOk : Program → List TypeForm → ℕ → List Caller → Moved → TypeId → ℕ → Got Value → Type 0
CallOk p types memory callers m of left (Gives v s) = Gave p types memory callers m of left v s
CallOk p types memory callers m of left (Ends r) = (j : ℕ) × (steps p j m ≡ Stops r)

-- calls do what they mean where less than so much is left of the count
abbrev pub CallsOk : Program → Contents → (memory n : ℕ) → Type 0
CallsOk p st memory n =
    (callers : List Caller) (top : ℕ) (f : FnId) (k : Callable) (vs : List Value) (at : Place) (here : Activation) (behind : List Caller)
    (s : State) → callable_of st f ≡ Some k → are_narrow st.types (parameter_types k) ≡ true → AreValues st.types k.body.parameters vs →
    length s.region.bytes ≡ memory → top < 2 ^ 64 →
    s.left < n →
    CallOk p st.types memory callers (flow.enter at f (p.code f) vs top callers (beside here behind s)) k.body.result s.left
    (apply st p.entries n (length callers) top f vs at s)

-- values that are passed

pub values-are : (z : Setting) (scope : Holders) (u : Used) (ts : List TypeId) (rs : List Result) (vs : List Value) (at : Point)
    (k : Private) (s : State) → AllMean z scope u ts rs vs k → flow.values_of (stands z at k s) (parts_of rs) ≡ vs
values-are z scope u [] [] [] at k s h = refl
values-are z scope u (t ∷ ts) (r ∷ rs) (v ∷ vs) at k s h =
    ap (λ x. x ∷ flow.values_of (stands z at k s) (parts_of rs)) (part-value z t scope u r at k s v h.0)
    ∙ ap (λ l. v ∷ l) (values-are z scope u ts rs vs at k s h.1)
values-are z scope u [] [] (v ∷ vs) at k s h = absurd h
values-are z scope u [] (r ∷ rs) vs at k s h = absurd h
values-are z scope u (t ∷ ts) [] vs at k s h = absurd h
values-are z scope u (t ∷ ts) (r ∷ rs) [] at k s h = absurd h

pub are-values : (z : Setting) (scope : Holders) (u : Used) (xs : List TypedName) (ts : List TypeId) (rs : List Result)
    (vs : List Value) (k : Private) → ts ≡ map type_of_name xs → AllMean z scope u ts rs vs k → AreValues z.types xs vs
are-values z scope u [] [] [] [] k e h = tt
are-values z scope u (x ∷ xs) (t ∷ ts) (r ∷ rs) (v ∷ vs) k e h =
    let first : t ≡ x.of = grind (arith, e) in
    let more : ts ≡ map type_of_name xs = grind (arith, e) in
    (subst (λ y. IsValue z.types y v) first (is-value z t r v h.0.good), are-values z scope u xs ts rs vs k more h.1)
are-values z scope u [] [] [] (v ∷ vs) k e h = absurd h
are-values z scope u [] [] (r ∷ rs) vs k e h = absurd h
are-values z scope u [] (t ∷ ts) rs vs k e h = absurd (grind (arith, e))
are-values z scope u (x ∷ xs) [] rs vs k e h = absurd (grind (arith, e))
are-values z scope u (x ∷ xs) (t ∷ ts) [] vs k e h = absurd h
are-values z scope u (x ∷ xs) (t ∷ ts) (r ∷ rs) [] k e h = absurd h

-- where a result goes

abbrev pub goes_to : Bool → Used → Destination
goes_to true u = destinations.Area (length u.areas)
goes_to false u = destinations.Temp u.temps

abbrev pub used_by : Bool → (size : ℕ) → Used → Used
used_by true size u = with_area size u
used_by false size u = with_temp u

abbrev pub call_piece : Bool → (size : ℕ) → Instruction → Used → Piece Result
call_piece agg size i u = record { result = given (goes_to agg u); code = does i ∷ []; used = used_by agg size u }

pub grown-by : (agg : Bool) (size : ℕ) (u : Used) → Grown u (used_by agg size u)
grown-by true size u = grown-area size u
grown-by false size u = grown-temp u

module _ (z : Setting) (m : ℕ) (st : Contents) where
  abbrev store : Contents
  store = record st { types = z.types }

  -- what a call in this function is
  abbrev pub call_here : FnId → List Value → Place → State → Got Value
  call_here g vs place s =
      counted s (λ s1. kept s.variables (apply store z.program.entries m (suc (length z.callers)) z.base g vs place s1))

  module _ (calls : CallsOk z.program store z.memory m) (names : List TypedName) (scope : Holders) (u : Used) (at : Place) (of : TypeId)
      (f : FnId) (kk : Callable) (vs : List Value) (there : callable_of store f ≡ Some kk)
      (narrow : are_narrow z.types (parameter_types kk) ≡ true) (result : kk.body.result ≡ of) where
    abbrev Goal : Bool → Point → Private → State → Got Value → Type 0
    Goal agg q k s g = Leaves z q k s (λ v s'. Comes z names scope q u k s (step_on q) names scope (used_by agg (bytes_at z.types of) u) s'
        (λ k1. Means z the_value of scope (used_by agg (bytes_at z.types of) u) (given (goes_to agg u)) k1 v)) g

    -- the caller goes on with what it gets
    abbrev caller : Bool → Point → Private → Caller
    caller agg q k = record {
      waits = (stands z (step_on q) k (record { variables = []; region = record { bytes = []; heap = 0 }; left = 0; out = [] })).here;
      to = goes_to agg u;
    }

    goes_on : (agg : Bool) → is_aggregate z.types of ≡ agg → (q : Point) (k : Private) (s s2 : State) (l : ℕ) (v : Value) →
        Grown (used_by agg (bytes_at z.types of) u) (whole z) → Fine z names scope u k s → s.left ≡ suc l →
        (c : Gave z.program z.types z.memory (caller agg q k ∷ z.callers) (Goes (stands z q k s)) of l v s2) →
        Goal agg q k s (Gives v (record s2 { variables = s.variables }))
    goes_on false plain q k s s2 l (word x) whole_ fine less c =
        let k1 = with_word u.temps x k in
        record {
          private = k1;
          leads = (c.leads.0, c.leads.1 ∙ ap (λ o. flow.given (word x) o (caller false q k) z.callers (beside c.here c.behind s2)) z.there);
          ok = record {
            is = ap word (put-same k.temps u.temps x);
            own = (omega arith, fresh-apart z names scope s.variables u.temps u.temps k (omega arith) fine.holds);
            good = c.is_value;
          };
          fine = record {
            holds = holds-later z names scope s.variables u.temps (suc u.temps) k k1 (omega arith)
                (λ t lt. put-below k.temps u.temps x t lt) fine.holds;
            small = fine.small;
            sized = c.sized;
          };
          keeps = record { temps = λ t lt away. put-below k.temps u.temps x t lt; areas = λ i lt. refl };
          fewer = let e = c.fewer in omega (arith, e, less);
        }
    goes_on false plain q k s s2 l (bytes bs) whole_ fine less c =
        let bad : true ≡ false = sym c.is_value.0 ∙ plain in absurd (grind (arith, bad))
    goes_on true agg q k s s2 l (word x) whole_ fine less c =
        let bad : true ≡ false = sym agg ∙ c.is_value.0 in absurd (grind (arith, bad))
    goes_on true agg q k s s2 l (bytes bs) whole_ fine less c =
        let area = length u.areas in
        let size = bytes_at z.types of in
        let k1 = with_bytes area bs k in
        let sized = area-size z size u whole_ in
        let long : length bs ≡ area_size z.tac area = c.is_value.1 ∙ sym sized in
        let longer : area < length (u.areas ++ size ∷ []) = omega (arith, length-append u.areas (size ∷ [])) in
        record {
          private = k1;
          leads = (
            c.leads.0,
            c.leads.1 ∙ ap (λ o. flow.given (bytes bs) o (caller true q k) z.callers (beside c.here c.behind s2)) z.there
                ∙ ap (λ b. if b then Goes (stands z (step_on q) k1 (record s2 { variables = s.variables })) else flow.stop
                (beside c.here c.behind s2) Stuck)
                (eq-eqb (length bs) (area_size z.tac area) long),
          );
          ok = record { is = ap bytes (put-same k.areas area bs); own = longer; good = c.is_value };
          fine = record {
            holds = holds-later z names scope s.variables u.temps u.temps k k1 (omega arith) (λ t lt. refl) fine.holds;
            small = small-put z k area bs (omega (arith, long)) fine.small;
            sized = c.sized;
          };
          keeps = record { temps = λ t lt away. refl; areas = λ i lt. put-below k.areas area bs i lt };
          fewer = let e = c.fewer in omega (arith, e, less);
        }

    -- a call whose instruction does this
    pub call_runs : (agg : Bool) → is_aggregate z.types of ≡ agg → (i : Instruction) (q : Point) (k : Private) (s : State) →
        DoesAt z.tac.blocks q i → act z.program i (stands z q k s) ≡ flow.call z.program (goes_to agg u) at f vs (stands z q k s) →
        AreValues z.types kk.body.parameters vs → Grown (used_by agg (bytes_at z.types of) u) (whole z) → Fine z names scope u k s →
        s.left < suc m → Goal agg q k s (call_here f vs at s)
    call_runs agg is_agg i q k s stood acts values whole_ fine less = by s.left refl
      where
        first : (l : ℕ) → s.left ≡ l →
            steps z.program 1 (Goes (stands z q k s)) ≡ flow.counted l (stands z q k s)
            (λ s'. flow.enter at f (z.program.code f) vs s'.here.base
            (record { waits = (flow.ahead s').here; to = goes_to agg u } ∷ s'.callers) s')
        first l e = one-step z q k s i stood ∙ acts ∙ ap
            (λ j. flow.counted j (stands z q k s) (λ s'. flow.enter at f (z.program.code f) vs s'.here.base
            (record { waits = (flow.ahead s').here; to = goes_to agg u } ∷ s'.callers) s')) e

        before : (j : ℕ) (m1 m2 : Moved) → steps z.program 1 (Goes (stands z q k s)) ≡ m1 → steps z.program j m1 ≡ m2 →
            steps z.program (1 + j) (Goes (stands z q k s)) ≡ m2
        before j m1 m2 a b = steps-add z.program 1 j (Goes (stands z q k s)) ∙ ap (steps z.program j) a ∙ b

        by : (l : ℕ) → s.left ≡ l →
            Goal agg q k s (counted_from l s
            (λ s1. kept s.variables (apply store z.program.entries m (suc (length z.callers)) z.base f vs at s1)))
        by zero e = (1, first zero e)
        by (suc l) e =
            let s1 : State = record s { left = l } in
            let here = (stands z q k s).here in
            let entered = flow.enter at f (z.program.code f) vs z.base (caller agg q k ∷ z.callers) (beside here z.callers s1) in
            came (apply store z.program.entries m (suc (length z.callers)) z.base f vs at s1)
            (calls (caller agg q k ∷ z.callers) z.base f kk vs at here z.callers s1 there narrow values fine.sized
            (let b = z.low in omega (arith, b))
            (omega (arith, e, less)))
          where
            came : (g : Got Value) → CallOk z.program z.types z.memory (caller agg q k ∷ z.callers)
                (flow.enter at f (z.program.code f) vs z.base (caller agg q k ∷ z.callers)
                (beside (stands z q k s).here z.callers (record s { left = l })))
                kk.body.result l g → Goal agg q k s (kept s.variables g)
            came (Ends r) h = (
              1 + h.0,
              before h.0 (flow.enter at f (z.program.code f) vs z.base (caller agg q k ∷ z.callers)
                  (beside (stands z q k s).here z.callers (record s { left = l }))) (Stops r) (first (suc l) e) h.1,
            )
            came (Gives v s2) c = goes_on agg is_agg q k s s2 l v whole_ fine e (record {
              here = c.here;
              behind = c.behind;
              leads = (
                1 + c.leads.0,
                before c.leads.0 (flow.enter at f (z.program.code f) vs z.base (caller agg q k ∷ z.callers)
                    (beside (stands z q k s).here z.callers (record s { left = l })))
                    (flow.give z.program v (caller agg q k ∷ z.callers) (beside c.here c.behind s2)) (first (suc l) e) c.leads.1,
              );
              is_value = subst (λ t. IsValue z.types t v) result c.is_value;
              sized = c.sized;
              fewer = c.fewer;
            })
