-- The code of a store's functions has the runs that their terms mean, where these have what lowering needs.
use Rattle.std.proofs.Common.{◌≡◌, ℕ, zero, suc, ◌+◌, ◌<◌, ◌≤◌, Bool, true, false, List, [], ◌∷◌, ◌++◌, length, replicate, Some, refl, sym}
use Rattle.std.proofs.Common.{ap, ◌∙◌, subst, arith, length-append}
use Rattle.std.specs.Prelude.{◌^◌, ◌-◌, ◌/◌, nat_le, nat_lt, option_map, if◌then◌else◌}
use Rattle.std.proofs.lemmas.Bool.{ltb-false}
use Rattle.std.proofs.lemmas.List.{length-replicate}
use Rattle.tl_base.specs.declared.place.Place.{Place}
use Rattle.tl_base.specs.declared.ids.TypeId.{TypeId}
use Rattle.tl_base.specs.declared.ids.FnId.{FnId}
use Rattle.terra_memory.specs.Region as regions
use Rattle.terra_memory.specs.Region.{IsMemorySize, heap_limit, end_address, fresh}
use Rattle.terra_words.specs.declared.words.FaultKind.TheVariants.{CallDepth, StackFull}
use Rattle.terra_words.specs.Words.{most_calls}
use Rattle.terra_words.specs.Runs.{Value, Stuck}
use Rattle.terra_types.specs.declared.types.TypeForm.TheVariants as forms
use Rattle.terra_types.specs.Opening.{boolean, unit}
use Rattle.terra_term.specs.Stores.{Contents, Callable, callable_of, static_bytes}
use Rattle.terra_meaning.specs.Values.{form_at, bytes_at, AreValues}
use Rattle.terra_meaning.specs.Frames.{frame_of}
use Rattle.terra_meaning.specs.Running as running
use Rattle.terra_meaning.specs.Running.{State, Got, Gives, Ends, counted}
use Rattle.terra_meaning.specs.Meaning.{Calls, body_run, apply, entered, kept, run_of, place_in, meaning}
use Rattle.tac_form.specs.declared.tac.Tac.{Tac}
use Rattle.tac_form.specs.Flow as flow
use Rattle.tac_form.specs.Flow.{Program, Activation, Caller, Moved, Goes, Stops, steps, begun, TacRun}
use Rattle.tac_lower.specs.Items.{empty_draft}
use Rattle.tac_lower.specs.Lowering.{lowered, code_of, unreached, are_narrow, parameter_types, ending}
use Rattle.tac_lower.specs.Needs.{BodyNeeds}
use Rattle.tac_lower.specs.Laws.{HasRun}
use Rattle.tac_lower.proofs.Places.{start_of}
use Rattle.tac_lower.proofs.Standing.{Setting, SizedBy, Private, stands, Fine}
use Rattle.tac_lower.proofs.Simulates.{grown-none}
use Rattle.tac_lower.proofs.Whole.{has-whole}
use Rattle.tac_lower.proofs.Calls.{beside, CallOk, CallsOk}
use Rattle.tac_lower.proofs.Functions as functions
use Rattle.tac_lower.proofs.Functions.{with_private, Received, receives, ends-whole, tos, D, B, code, body_grown, body_ok}
use Rattle.tac_form.proofs.OneRun.{one-run}

module _ (p : Program) (st : Contents) (memory : ℕ) (room : memory ≤ 67108864)
    (sizes : (t : TypeId) → SizedBy (form_at st.types t) (bytes_at st.types t)) (boolean_is : form_at st.types boolean ≡ forms.Bool)
    (unit_is : form_at st.types unit ≡ forms.Unit)
    (code_is : (f : FnId) → p.code f ≡ option_map (lowered st p.entries) (callable_of st f))
    (needs : (f : FnId) (k : Callable) → callable_of st f ≡ Some k → BodyNeeds st p.entries k) where
  abbrev frame : Callable → ℕ
  frame k = (frame_of st.types k.body).size

  abbrev setting : (f : FnId) (k : Callable) → List Caller → (top : ℕ) → p.code f ≡ Some (code_of st p.entries k) → frame k ≤ top →
      top < 2 ^ 64 → Setting
  setting f k callers top there le low = record {
    program = p;
    tac = code_of st p.entries k;
    function = f;
    base = top - frame k;
    callers = callers;
    types = st.types;
    memory = memory;
    there = there;
    low = omega (arith, le, low);
    room = room;
    sizes = sizes;
    boolean_is = boolean_is;
    unit_is = unit_is;
  }

  code-there : (f : FnId) (k : Callable) → callable_of st f ≡ Some k → are_narrow st.types (parameter_types k) ≡ true →
      p.code f ≡ Some (code_of st p.entries k)
  code-there f k there narrow =
      code_is f ∙ ap (option_map (lowered st p.entries)) there
      ∙ ap (λ b. Some (if b then code_of st p.entries k else unreached k)) narrow

  -- what a call is below a function with so many callers
  abbrev below : (m depth : ℕ) → Calls
  below m depth base g vs place s = counted s (λ s1. kept s.variables (apply st p.entries m (suc depth) base g vs place s1))

  entered_ok : (m : ℕ) → CallsOk p st memory m → (callers : List Caller) (top : ℕ) (f : FnId) (k : Callable) (vs : List Value) (at : Place)
      (here : Activation) (behind : List Caller) (s : State) → callable_of st f ≡ Some k →
      are_narrow st.types (parameter_types k) ≡ true → AreValues st.types k.body.parameters vs →
      length s.region.bytes ≡ memory → top < 2 ^ 64 → s.left < suc m →
      CallOk p st.types memory callers (flow.enter at f (Some (code_of st p.entries k)) vs top callers (beside here behind s))
      k.body.result s.left
      (entered st p.entries (below m (length callers)) (suc m) (length callers) top at (Some k) vs s)
  entered_ok m calls callers top f k vs at here behind s there narrow values sized low less =
      by (nat_le most_calls (length callers)) (nat_lt top (heap_limit s.region + frame k)) refl
    where
      tac : Tac
      tac = code_of st p.entries k

      fresh_call : Activation
      fresh_call = record { function = f; block = 0; at = 0; temps = λ t. 0; areas = λ n. []; base = top - frame k }

      goes : Bool → Moved
      goes b = if b then Goes (record (beside here behind s) { callers = callers; here = flow.takes_all tac.parameters vs fresh_call })
          else flow.stop (beside here behind s) Stuck

      body : Got Value
      body = body_run (record {
        store = st;
        entries = p.entries;
        call = below m (length callers) (top - frame k);
        base = top - frame k;
        homes = (frame_of st.types k.body).homes;
        turns = suc m;
      }) k vs s

      inside : nat_lt top (heap_limit s.region + frame k) ≡ false →
          CallOk p st.types memory callers (goes (flow.accepts_all tac tac.parameters vs)) k.body.result s.left body
      inside e =
          let enough = ltb-false top (heap_limit s.region + frame k) e in
          let le : frame k ≤ top = omega (arith, enough) in
          let z = setting f k callers top (code-there f k there narrow) le low in
          let h : functions.BodyNeeds z m st k = needs f k there in
          let whole_ = grown-none (B z m st k).used in
          let k0 : Private = record { temps = λ t. 0; areas = λ n. [] } in
          let r = receives z k.body.parameters (record { temps = 0; areas = [] }) vs k0 values (body_grown z m st k calls code_is h)
          (λ n. omega arith) in
          let s0 : State = record s { variables = [] } in
          let fine : Fine z [] [] (tos z m st k).used r.private s0 = record { holds = tt; small = r.small; sized = sized } in
          let ok = body_ok z m st k calls code_is h
          (has-whole (code z m st k ++ ending k ∷ []) (ends-whole (code z m st k) empty_draft k)) whole_ vs
          r.private s0 r.all fine less refl in
          let moves : goes (flow.accepts_all tac tac.parameters vs) ≡ Goes (stands z (start_of 0) r.private s0) =
          ap goes r.accepts ∙ ap (λ a. Goes (record (beside here behind s) { callers = callers; here = a })) (r.takes fresh_call) in
          subst (λ m0. CallOk p st.types memory callers m0 k.body.result s.left body) (sym moves) ok

      by : (deep full : Bool) → nat_lt top (heap_limit s.region + frame k) ≡ full →
          CallOk p st.types memory callers
          (if deep then flow.fault CallDepth at (beside here behind s)
          else (if full then flow.fault StackFull at (beside here behind s) else goes (flow.accepts_all tac tac.parameters vs)))
          k.body.result s.left
          (if deep then running.fault CallDepth at s else (if full then running.fault StackFull at s else body))
      by true full e = (0, refl)
      by false true e = (0, refl)
      by false false e = inside e

  -- calls do what they mean, however deep they go
  pub apply_ok : (n : ℕ) → CallsOk p st memory n
  apply_ok zero callers top f k vs at here behind s there narrow values sized low less = absurd (omega (arith, less))
  apply_ok (suc m) callers top f k vs at here behind s there narrow values sized low less =
      subst (λ o. CallOk p st.types memory callers (flow.enter at f (p.code f) vs top callers (beside here behind s)) k.body.result s.left
      (entered st p.entries (below m (length callers)) (suc m) (length callers) top at o vs s)) (sym there)
      (subst (λ o. CallOk p st.types memory callers (flow.enter at f o vs top callers (beside here behind s)) k.body.result s.left
      (entered st p.entries (below m (length callers)) (suc m) (length callers) top at (Some k) vs s)) (sym (code-there f k there narrow))
      (entered_ok m (λ callers1 top1 f1 k1 vs1 at1 here1 behind1 s1 there1 narrow1 values1 sized1 low1 less1.
      apply_ok m callers1 top1 f1 k1 vs1 at1 here1 behind1 s1 there1 narrow1 values1 sized1 low1 less1)
      callers top f k vs at here behind s there narrow values sized low less))

  -- a function as the entry
  pub has_run : (n : ℕ) (f : FnId) (k : Callable) (vs : List Value) → IsMemorySize memory → length (static_bytes st) ≤ memory / 2 →
      callable_of st f ≡ Some k → are_narrow st.types (parameter_types k) ≡ true → AreValues st.types k.body.parameters vs →
      HasRun p (static_bytes st) memory n f vs (meaning st p.entries memory n f vs)
  has_run n f k vs size statics there narrow values = record {
    runs = runs;
    alone = λ q h. one-run p (static_bytes st) memory n f vs (meaning st p.entries memory n f vs) q runs h;
  }
    where
      region : regions.Contents
      region = fresh memory (static_bytes st)

      s : State
      s = record { variables = []; region = region; left = n; out = [] }

      nowhere : Activation
      nowhere = record { function = f; block = 0; at = 0; temps = λ t. 0; areas = λ a. []; base = end_address region }

      long : length region.bytes ≡ memory
      long = omega (
        arith,
        length-append (static_bytes st) (replicate (memory - length (static_bytes st)) 0),
        length-replicate {A = ℕ} (memory - length (static_bytes st)) 0,
        statics,
      )

      runs_so : (at : Place) (g : Got Value) →
          CallOk p st.types memory [] (flow.enter at f (p.code f) vs (end_address region) [] (beside nowhere [] s)) k.body.result n g →
          (j : ℕ) × (steps p j (flow.enter at f (p.code f) vs (end_address region) [] (beside nowhere [] s)) ≡ Stops (run_of g))
      runs_so at (Gives v s1) g = g.leads
      runs_so at (Ends r) g = g

      same_place : flow.place_of (p.code f) ≡ place_in (callable_of st f)
      same_place = ap flow.place_of (code-there f k there narrow) ∙ ap place_in (sym there)

      runs : TacRun p (static_bytes st) memory n f vs (meaning st p.entries memory n f vs)
      runs =
          let at = place_in (callable_of st f) in
          let less : n < suc n = omega arith in
          let low : end_address region < 2 ^ 64 = let e = size.2 in omega (arith, long, e) in
          let r = runs_so at (apply st p.entries (suc n) 0 (end_address region) f vs at s)
          (apply_ok (suc n) [] (end_address region) f k vs at nowhere [] s there narrow values long low less) in
          (r.0, ap (λ a. steps p r.0 (flow.enter a f (p.code f) vs (end_address region) [] (beside nowhere [] s))) same_place ∙ r.1)
