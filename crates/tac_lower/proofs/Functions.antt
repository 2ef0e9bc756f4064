-- Whole functions: what they receive, their bodies, and what they give; by induction on how deep calls may go.
use Rattle.std.proofs.Common.{◌≡◌, ℕ, suc, ◌<◌, ◌≤◌, Bool, true, false, List, [], ◌∷◌, ◌++◌, length, map, refl, sym, ap, ◌∙◌, subst, arith}
use Rattle.std.proofs.Common.{length-append}
use Rattle.std.specs.Prelude.{◌&&◌, nat_eq, option_map, if◌then◌else◌}
use Rattle.std.proofs.lemmas.Bool.{eqb-true, eq-eqb}
use Rattle.tl_base.specs.declared.ids.TypeId.{TypeId}
use Rattle.tl_base.specs.declared.ids.FnId.{FnId}
use Rattle.terra_words.specs.declared.words.FaultKind.TheVariants.{NoReturn}
use Rattle.terra_words.specs.Runs.{Value, word, bytes}
use Rattle.terra_types.specs.declared.types.TypeForm.TheVariants as forms
use Rattle.terra_types.specs.Opening.{unit}
use Rattle.terra_term.specs.declared.lists.TypedName.{TypedName}
use Rattle.terra_term.specs.Stores.{Contents, Callable, callable_of}
use Rattle.terra_term.specs.WellTyped.{Within}
use Rattle.terra_meaning.specs.Values.{form_at, bytes_at, is_aggregate, IsValue, AreValues}
use Rattle.terra_meaning.specs.Frames.{Home, frame_of}
use Rattle.terra_meaning.specs.Running.{State, Got, Gives, Ends, next, counted}
use Rattle.terra_meaning.specs.Running as running
use Rattle.terra_meaning.specs.Meaning.{Call, Way, goes_on, breaks, gives_back, given_back, body_run, declared_all, done_all}
use Rattle.tac_form.specs.declared.tac.Destination.{Destination}
use Rattle.tac_form.specs.declared.tac.Destination.TheVariants as destinations
use Rattle.tac_form.specs.declared.tac.Exit.TheVariants.{Return, Fail}
use Rattle.tac_form.specs.Flow as flow
use Rattle.tac_form.specs.Flow.{Program, Activation, Caller, Moved, Goes, Stops, steps, area_size}
use Rattle.tac_lower.specs.Items.{Item, gives, fails, exit_of, with_item, with_items, Draft}
use Rattle.tac_lower.specs.Pieces.{Used, nothing_used, with_temp, with_area, Piece, known, then_piece, taken, given, Holders, Around}
use Rattle.tac_lower.specs.Pieces.{declare_all, part_of, no_word}
use Rattle.tac_lower.specs.Lowering.{lowered, received, ending, all, type_of_name}
use Rattle.tac_lower.proofs.Places.{Point, start_of, after, after-append, EndsAt, HasAt, has-front, has-back}
use Rattle.tac_lower.proofs.Standing.{Setting, Private, stands, Leads, leads-to, one-end, Fine, Keeps, Grown, Comes, Leaves}
use Rattle.tac_lower.proofs.Simulates.{nothing, all_of, AllMean, whole, Sim, grown-none, grown-then, keeps-none}
use Rattle.tac_lower.proofs.Words.{wrapped-zero}
use Rattle.tac_lower.proofs.Writes.{put-same, put-below, with_word, with_bytes, small-put}
use Rattle.tac_lower.proofs.Loads.{area-size}
use Rattle.tac_lower.proofs.Acts.{Acts, WayOk}
use Rattle.tac_lower.proofs.Declares.{declared_names, DeclaresWell, declare_all_sim}
use Rattle.tac_lower.proofs.Operating.{OperationNeeds, operation_sim}
use Rattle.tac_lower.proofs.Calls.{CallOk, CallsOk, used_by, grown-by, call_here}
use Rattle.tac_lower.proofs.CallSims.{CallNeeds, call_sim, value_call_sim}
use Rattle.tac_lower.specs.Needs.{NeedsBlock, names_after}
use Rattle.tac_lower.proofs.Terms.{block_acts}

-- what is received

abbrev pub with_private : Private → Activation → Activation
with_private k a = record a { temps = k.temps; areas = k.areas }

-- Values that were received: parameters hold them.
pub record Received (z : Setting) (p : Piece (List Destination)) (ts : List TypeId) (u : Used) (vs : List Value)
    (k : Private) : Type 0 where
  pub private : Private
  pub takes : (a : Activation) → flow.takes_all p.result vs (with_private k a) ≡ with_private private a
  pub accepts : flow.accepts_all z.tac p.result vs ≡ true
  pub keeps : Keeps [] u k private
  pub all : AllMean z [] p.used ts (map given p.result) vs private
  pub small : (m : ℕ) → length (private.areas m) ≤ area_size z.tac m

abbrev step_piece : (z : Setting) → Bool → TypedName → List TypedName → Used → Piece (List Destination)
step_piece z b x xs u =
    then_piece (if b then known (destinations.Area (length u.areas)) (with_area (bytes_at z.types x.of) u)
    else known (destinations.Temp u.temps) (with_temp u)) (λ to u'. taken (λ tos. to ∷ tos) (received z.types xs u'))

received-grown : (z : Setting) (xs : List TypedName) (u : Used) → Grown u (received z.types xs u).used
received-grown z [] u = grown-none u
received-grown z (x ∷ xs) u = by (is_aggregate z.types x.of) (λ v. received-grown z xs v)
  where
    by : (b : Bool) → ((v : Used) → Grown v (received z.types xs v).used) → Grown u (step_piece z b x xs u).used
    by true more = grown-then u (used_by true (bytes_at z.types x.of) u) (received z.types xs (used_by true (bytes_at z.types x.of) u)).used
        (grown-by true (bytes_at z.types x.of) u) (more (used_by true (bytes_at z.types x.of) u))
    by false more = grown-then u (with_temp u) (received z.types xs (with_temp u)).used (grown-by false 0 u) (more (with_temp u))

pub receives : (z : Setting) (xs : List TypedName) (u : Used) (vs : List Value) (k : Private) → AreValues z.types xs vs →
    Grown (received z.types xs u).used (whole z) → ((m : ℕ) → length (k.areas m) ≤ area_size z.tac m) →
    Received z (received z.types xs u) (map type_of_name xs) u vs k
receives z [] u [] k values whole_ small =
    record { private = k; takes = λ a. refl; accepts = refl; keeps = keeps-none [] u k; all = tt; small = small }
receives z [] u (v ∷ vs) k values whole_ small = absurd values
receives z (x ∷ xs) u [] k values whole_ small = absurd values
receives z (x ∷ xs) u (v ∷ vs) k values whole_ small =
    by (is_aggregate z.types x.of) refl v values.0 whole_ (λ u1 k1 w s. receives z xs u1 vs k1 values.1 w s)
  where
    by : (b : Bool) → is_aggregate z.types x.of ≡ b → (v1 : Value) → IsValue z.types x.of v1 →
        Grown (step_piece z b x xs u).used (whole z) →
        ((u1 : Used) (k1 : Private) → Grown (received z.types xs u1).used (whole z) → ((m : ℕ) → length (k1.areas m) ≤ area_size z.tac m) →
        Received z (received z.types xs u1) (map type_of_name xs) u1 vs k1) →
        Received z (step_piece z b x xs u) (x.of ∷ map type_of_name xs) u (v1 ∷ vs) k
    by false plain (word y) good w more =
        let u1 = with_temp u in
        let k1 = with_word u.temps y k in
        let r = more u1 k1 w small in
        let g = received-grown z xs u1 in
        let lt : u.temps < u1.temps = omega arith in
        let own : u.temps < (received z.types xs u1).used.temps = let e = g.temps in omega (arith, e, lt) in
        record {
          private = r.private;
          takes = λ a. r.takes a;
          accepts = r.accepts;
          keeps = record {
            temps = λ t l away. (let l1 : t < u1.temps = omega (arith, l) in r.keeps.temps t l1 tt) ∙ put-below k.temps u.temps y t l;
            areas = r.keeps.areas;
          };
          all = (record { is = ap word (r.keeps.temps u.temps lt tt ∙ put-same k.temps u.temps y); own = (own, tt); good = good }, r.all);
          small = r.small;
        }
    by false plain (bytes bs) good w more = let bad : true ≡ false = sym good.0 ∙ plain in absurd (grind (arith, bad))
    by true agg (word y) good w more = let bad : true ≡ false = sym agg ∙ good.0 in absurd (grind (arith, bad))
    by true agg (bytes bs) good w more =
        let area = length u.areas in
        let size = bytes_at z.types x.of in
        let u1 = with_area size u in
        let k1 = with_bytes area bs k in
        let g = received-grown z xs u1 in
        let sized = area-size z size u (grown-then u1 (received z.types xs u1).used (whole z) g w) in
        let long : length bs ≡ area_size z.tac area = good.1 ∙ sym sized in
        let r = more u1 k1 w (small-put z k area bs (omega (arith, long)) small) in
        let lt : area < length u1.areas = omega (arith, length-append u.areas (size ∷ [])) in
        let own : area < length (received z.types xs u1).used.areas =
        let e = ap length g.areas.1 ∙ length-append u1.areas g.areas.0 in omega (arith, e, lt) in
        record {
          private = r.private;
          takes = λ a. r.takes a;
          accepts = ap (λ b. b && flow.accepts_all z.tac (received z.types xs u1).result vs)
              (eq-eqb (length bs) (area_size z.tac area) long) ∙ r.accepts;
          keeps = record {
            temps = r.keeps.temps;
            areas = λ m l. (let l1 : m < length u1.areas = omega (arith, l, lt) in r.keeps.areas m l1) ∙ put-below k.areas area bs m l;
          };
          all = (record { is = ap bytes (r.keeps.areas area lt ∙ put-same k.areas area bs); own = own; good = good }, r.all);
          small = r.small;
        }

-- code that ends with the end of a block
pub ends-whole : (is : List Item) (d : Draft) (k : Callable) → (with_items d (is ++ ending k ∷ [])).code ≡ []
ends-whole [] d k = refl
ends-whole (i ∷ is) d k = ends-whole is (with_item d i) k

-- nothing is a value of unit
nothing-is : (z : Setting) (of : TypeId) → nat_eq of.0 unit.0 ≡ true → IsValue z.types of (word 0)
nothing-is z of e =
    let same : of ≡ unit = ap (λ m. record { 0 = m }) (eqb-true of.0 unit.0 e) in
    let form : form_at z.types of ≡ forms.Unit = subst (λ t. form_at z.types t ≡ forms.Unit) (sym same) z.unit_is in
    (subst (λ f. is_aggregate (f ∷ []) (record { 0 = 0 }) ≡ false) (sym form) refl, wrapped-zero (form_at z.types of))

module _ (z : Setting) (m : ℕ) (st : Contents) (k : Callable) where
  abbrev store : Contents
  store = record st { types = z.types }

  abbrev entries : List FnId
  entries = z.program.entries

  abbrev w : Within
  w = record { result = k.body.result; in_loop = false; in_let = false }

  abbrev homes : List Home
  homes = (frame_of z.types k.body).homes

  abbrev c : Call
  c = record { store = store; entries = entries; call = call_here z m st; base = z.base; homes = homes; turns = suc m }

  abbrev a : Around
  a = record { types = store.types; entries = entries; homes = homes }

  abbrev names1 : List TypedName
  names1 = declared_names k.body.parameters []

  -- what lowering needs of a function's types
  abbrev pub BodyNeeds : Type 0
  BodyNeeds =
      DeclaresWell z.types z.tac.frame homes 0 k.body.parameters (map type_of_name k.body.parameters)
      × NeedsBlock z.types z.tac.frame entries homes w (OperationNeeds z.types (CallNeeds store)) w names1
      (length k.body.parameters) k.body.body

  abbrev pub tos : Piece (List Destination)
  tos = received z.types k.body.parameters nothing_used

  abbrev pub D : Piece Holders
  D = declare_all a k.at k.body.parameters (map given tos.result) 0 [] tos.used

  abbrev pub B : Piece Holders
  B = all a k.body.body (length k.body.parameters) D.result D.used

  abbrev pub code : List Item
  code = D.code ++ B.code

  module _ (calls : CallsOk z.program store z.memory m)
      (code_is : (f : FnId) → z.program.code f ≡ option_map (lowered store z.program.entries) (callable_of store f))
      (needs : BodyNeeds) where
    d_sim : (vs : List Value) →
        Sim z (suc m) [] [] (all_of (map type_of_name k.body.parameters) (map given tos.result) vs ∷ []) tos.used D
        (declared_all c k.at k.body.parameters vs 0) names1 D.result (λ v. nothing)
    d_sim vs =
        declare_all_sim z (suc m) c a [] [] [] tos.used k.at k.body.parameters 0 (map type_of_name k.body.parameters)
        (map given tos.result) vs
        needs.0

    b_acts : Acts z (suc m) w names1 D.result D.used B (done_all c k.body.body (length k.body.parameters)) (names_after k.body.body names1)
    b_acts =
        block_acts z (suc m) st entries homes (call_here z m st) (suc m) w (OperationNeeds z.types (CallNeeds store)) (omega arith)
        (operation_sim z (suc m) st entries homes (call_here z m st) (suc m) (CallNeeds store)
        (λ names scope facts u at of ts rs us f h. call_sim z m st homes (suc m) calls code_is names scope facts u at of ts rs us f h)
        (λ names scope facts u at of t ts rs us form narrow. value_call_sim z m st homes (suc m) calls code_is names scope facts u at of t
        ts rs us narrow form))
        k.body.body (length k.body.parameters) w names1 D.result D.used needs.1

    pub body_grown : Grown tos.used B.used
    body_grown = grown-then tos.used D.used B.used (d_sim []).grown b_acts.grown

  module _ (calls : CallsOk z.program store z.memory m)
      (code_is : (f : FnId) → z.program.code f ≡ option_map (lowered store z.program.entries) (callable_of store f))
      (needs : BodyNeeds) (stood : HasAt z.tac.blocks 0 (start_of 0) (code ++ ending k ∷ [])) (whole_ : Grown B.used (whole z))
      (vs : List Value) (pr : Private) (s : State) (all_mean : AllMean z [] tos.used (map type_of_name k.body.parameters)
      (map given tos.result) vs pr)
      (fine : Fine z [] [] tos.used pr s) (less : s.left < suc m) where
    abbrev Ok : Got Value → Type 0
    Ok g = CallOk z.program z.types z.memory z.callers (Goes (stands z (start_of 0) pr s)) k.body.result s.left g

    -- the end of the body
    at_end : (q : Point) (p1 : Private) (s1 : State) → Leads z (start_of 0) pr s q p1 s1 → length s1.region.bytes ≡ z.memory →
        s1.left ≤ s.left →
        (b : Bool) → nat_eq k.body.result.0 unit.0 ≡ b →
        EndsAt z.tac.blocks q (exit_of 0 q.block (if b then gives (part_of no_word) else fails NoReturn k.at)) →
        Ok (if b then Gives (word 0) s1 else running.fault NoReturn k.at s1)
    at_end q p1 s1 leads sized fewer true e h = record {
      here = (stands z q p1 s1).here;
      behind = z.callers;
      leads = leads-to z (start_of 0) pr s q p1 s1 (flow.give z.program (word 0) z.callers (stands z q p1 s1)) leads
          (1, one-end z q p1 s1 (Return (part_of no_word)) h);
      is_value = nothing-is z k.body.result e;
      sized = sized;
      fewer = fewer;
    }
    at_end q p1 s1 leads sized fewer false e h =
        leads-to z (start_of 0) pr s q p1 s1 (flow.fault NoReturn k.at (stands z q p1 s1)) leads
        (1, one-end z q p1 s1 (Fail NoReturn k.at) h)

    second : (s1 : State) → (d : Comes z [] [] (start_of 0) tos.used pr s (after D.code (start_of 0)) names1 D.result D.used s1
        (λ k1. Unit {0})) →
        (g : Got Way) →
        Leaves z (after D.code (start_of 0)) d.private s1
        (λ way s'. WayOk z w names1 D.result (after D.code (start_of 0)) D.used d.private s1
        (after B.code (after D.code (start_of 0))) (names_after k.body.body names1) B.result B.used 0 way s') g →
        Ok (next g (given_back k))
    second s1 d (Ends r) h = leads-to z (start_of 0) pr s (after D.code (start_of 0)) d.private s1 (Stops r) d.leads h
    second s1 d (Gives goes_on s2) b =
        let q1 = after D.code (start_of 0) in
        let q2 = after B.code q1 in
        let here : after code (start_of 0) ≡ q2 = after-append D.code B.code (start_of 0) in
        let last = subst (λ q. HasAt z.tac.blocks 0 q (ending k ∷ [])) here
        (has-back z.tac.blocks 0 (start_of 0) code (ending k ∷ []) stood) in
        at_end q2 b.private s2 (leads-to z (start_of 0) pr s q1 d.private s1 (Goes (stands z q2 b.private s2)) d.leads b.leads) b.fine.sized
        (omega (arith, d.fewer, b.fewer)) (nat_eq k.body.result.0 unit.0) refl last.0
    second s1 d (Gives breaks s2) b = absurd (grind (arith, b.0))
    second s1 d (Gives (gives_back v) s2) b = record {
      here = (stands z b.to b.private s2).here;
      behind = z.callers;
      leads = leads-to z (start_of 0) pr s (after D.code (start_of 0)) d.private s1
          (flow.give z.program v z.callers (stands z b.to b.private s2))
          d.leads b.leads;
      is_value = b.is_value;
      sized = b.sized;
      fewer = omega (arith, d.fewer, b.fewer);
    }

    first : (g : Got Value) →
        Leaves z (start_of 0) pr s (λ v s'. Comes z [] [] (start_of 0) tos.used pr s (after D.code (start_of 0)) names1 D.result D.used s'
        (λ k1. Unit {0})) g →
        Ok (next g (λ v s'. next (done_all c k.body.body (length k.body.parameters) s') (given_back k)))
    first (Ends r) h = h
    first (Gives v s1) d =
        let front = has-front z.tac.blocks 0 (start_of 0) code (ending k ∷ []) stood in
        second s1 d (done_all c k.body.body (length k.body.parameters) s1)
        ((b_acts calls code_is needs).run 0 (after D.code (start_of 0)) d.private s1
        (has-back z.tac.blocks 0 (start_of 0) D.code B.code front) whole_ d.fine
        (omega (arith, less, d.fewer)))

    -- a body does what it means
    pub body_ok : s.variables ≡ [] → Ok (body_run c k vs s)
    body_ok none =
        let front = has-front z.tac.blocks 0 (start_of 0) code (ending k ∷ []) stood in
        let s0 : State = record s { variables = [] } in
        let same : s0 ≡ s = ap (λ l. record s { variables = l }) (sym none) in
        subst (λ s1. Ok (next (declared_all c k.at k.body.parameters vs 0 s1)
        (λ v s'. next (done_all c k.body.body (length k.body.parameters) s') (given_back k)))) (sym same)
        (first (declared_all c k.at k.body.parameters vs 0 s)
        ((d_sim calls code_is needs vs).run 0 (start_of 0) pr s (has-front z.tac.blocks 0 (start_of 0) D.code B.code front)
        (grown-then D.used B.used (whole z) (b_acts calls code_is needs).grown whole_)
        fine (all_mean, tt) less))
