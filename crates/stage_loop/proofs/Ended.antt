-- How a run of an image ends is how the function does.
use Rattle.std.proofs.Common.{◌≡◌, ◌≢◌, ℕ, ◌+◌, ◌-◌, ◌*◌, ◌<◌, Bool, true, List, [], ◌∷◌, length, map, Option, Some, None, refl, sym, ap, ap₂, ◌∙◌, subst, arith}
use Rattle.std.specs.Prelude.{◌^◌, ◌/◌, ◌%◌, ◌&&◌, nat_lt}
use Rattle.std.proofs.lemmas.Bool.{and_parts}
use Rattle.std.proofs.lemmas.Bool.Decides.{nat_tests}
use Rattle.tl_base.specs.declared.ids.FnId.{FnId}
use Rattle.tl_base.specs.declared.ids.TypeId.{TypeId}
use Rattle.tl_base.specs.declared.place.Place.{Place}
use Rattle.elf_image.specs.declared.image.Image.{Image}
use Rattle.terra_words.specs.declared.words.FaultKind.{FaultKind}
use Rattle.terra_words.specs.declared.words.FaultKind.TheVariants as faults
use Rattle.terra_words.specs.Words.{fault_number, wrapped}
use Rattle.terra_words.specs.Runs.{End, Returned, Fault, Stuck, Run, Over, More, number, word}
use Rattle.terra_types.specs.Sizes.{form_at}
use Rattle.terra_term.specs.Stores.{Callable, callable_of, contents_of}
use Rattle.terra_term.specs.WellTyped.{is_placed}
use Rattle.terra_meaning.specs.Values.{AreValues, width_of}
use Rattle.exotype.specs.World.{StageState}
use Rattle.rv_machine.specs.declared.stops.MachineKind.TheVariants.{Break}
use Rattle.rv_machine.specs.declared.stops.Stop.{Stop}
use Rattle.rv_machine.specs.declared.stops.Stop.TheVariants as stops
use Rattle.rv_select.specs.Shapes.{place_number}
use Rattle.back_end.specs.Agrees.{SameEnd}
use Rattle.back_end.specs.Units.{AgreesCounted}
use Rattle.ready_image.specs.Places.{HasPlace}
use Rattle.stage_model.specs.Words.{values_of}
use Rattle.stage_model.specs.Calls.{run_at}
use Rattle.stage_loop.specs.declared.running.MachineRan.{MachineRan}
use Rattle.stage_loop.specs.declared.running.RunEnd.{RunEnd}
use Rattle.stage_loop.specs.Runs.{Took}
use Rattle.stage_loop.specs.Calls.{MayRun, EndsAs, counts_of}
use Rattle.stage_loop.specs.Machines.{HasRun, fault_kind, place_of, end_seen}
use Rattle.stage_loop.proofs.Least.{needs-least}

-- ---- faults

kind-back : (kind : FaultKind) → fault_kind (fault_number kind) ≡ kind
kind-back faults.BadAddress = refl
kind-back faults.DivZero = refl
kind-back faults.StackFull = refl
kind-back faults.CallDepth = refl
kind-back faults.NoReturn = refl
kind-back faults.BadCall = refl

-- a place with numbers of 32 bits is read back from its number
place-back : (at : Place) → is_placed at ≡ true → place_of (place_number at) ≡ at
place-back at is =
    let parts = and_parts (nat_lt at.line (2 ^ 32)) (nat_lt at.word (2 ^ 32)) is in
    let small : at.word < 2 ^ 32 = grind (arith, nat_tests, parts) in
    let line : (at.line * 2 ^ 32 + at.word) / 2 ^ 32 ≡ at.line = omega (arith, small) in
    let below : (at.line * 2 ^ 32 + at.word) % 2 ^ 32 ≡ at.word = omega (arith, small) in
    ap₂ (λ (l m : ℕ). record { line = l; word = m }) line below

module _ (w : StageState) (f : FnId) (words : List ℕ) (units : ℕ) (h : MayRun w f words) (of : TypeId) (result : of ≡ h.term.body.result)
    (left : ℕ) (out : List ℕ) where
  abbrev Ends : Stop → Type 0
  Ends stop = EndsAs w f h.term.body words units out (end_seen w.store.types of stop left)

  -- where the function ends, the machine does so
  over-ends : (e : End) (stop : Stop) → run_at w f words units ≡ Over e out → HasPlace (Over e out) →
      SameEnd w.store.types h.term.body.result e stop → left ≡ units - counts_of w f words units →
      Ends stop × (stop ≢ stops.Unfinished)
  over-ends (Returned v) (stops.Returned x) is placed same counts = (
    (
      v,
      is,
      ap (λ t. values_of (form_at w.store.types t) (wrapped (width_of w.store.types t) x)) result
          ∙ ap (values_of (form_at w.store.types h.term.body.result)) same,
      counts,
    ),
    λ no. cc,
  )
  over-ends (Fault kind at) (stops.TerraFault k place) is placed same counts =
      let kinds : fault_kind k ≡ kind = ap fault_kind same.0 ∙ kind-back kind in
      let places : place_of place ≡ at = ap place_of same.1 ∙ place-back at placed in (
        (is ∙ ap₂ (λ (l : FaultKind) (p : Place). Over (Fault l p) out) (sym kinds) (sym places), counts),
        λ no. cc,
      )
  over-ends (Returned v) (stops.TerraFault k place) is placed same counts = absurd same
  over-ends (Returned v) (stops.MachineFault k pc) is placed same counts = absurd same
  over-ends (Returned v) stops.Unfinished is placed same counts = absurd same
  over-ends (Returned v) stops.WriteFault is placed same counts = absurd same
  over-ends (Fault kind at) (stops.Returned x) is placed same counts = absurd same
  over-ends (Fault kind at) (stops.MachineFault k pc) is placed same counts = absurd same
  over-ends (Fault kind at) stops.Unfinished is placed same counts = absurd same
  over-ends (Fault kind at) stops.WriteFault is placed same counts = absurd same
  over-ends Stuck stop is placed same counts = absurd same

  -- where it needs more, the machine breaks off
  more-ends : (stop : Stop) (pc : ℕ) → run_at w f words units ≡ More out → stop ≡ stops.MachineFault Break pc →
      Ends stop × (stop ≢ stops.Unfinished)
  more-ends (stops.MachineFault k pc) at is same = (is, λ no. cc)
  more-ends (stops.Returned x) at is same = absurd cc
  more-ends (stops.TerraFault k place) at is same = absurd cc
  more-ends stops.Unfinished at is same = absurd cc
  more-ends stops.WriteFault at is same = absurd cc

-- ---- the run of an image that agrees

module _ (w : StageState) (f : FnId) (words : List ℕ) (units : ℕ) (h : MayRun w f words) (image : Image)
    (a : AgreesCounted (contents_of w.store) image w.memory f units) (placed : HasPlace (run_at w f words units)) (of : TypeId)
    (result : of ≡ h.term.body.result) (it : MachineRan)
    (ran : HasRun image a.symbol.address words ((units + 1) * length image.text) it) where
  same-term : a.function ≡ h.term
  same-term =
      let both : ◌≡◌ {A = Option Callable} (Some a.function) (Some h.term) = sym a.is ∙ h.is in
      cc

  abbrev IsDone : Type 0
  IsDone = EndsAs w f h.term.body words units it.output (end_seen w.store.types of it.stop it.left) × (it.stop ≢ stops.Unfinished)

  done-by : (r : Run) → run_at w f words units ≡ r → IsDone
  done-by (Over e out) is =
      let needs = needs-least (λ n. run_at w f words n) units e out is in
      let k =
      a.ends words e out (counts_of w f words units) ran.ran
      (subst (λ (c : Callable). AreValues w.store.types c.body.parameters (map word words)) (sym same-term) h.values) is needs ran.runs in
      let here : out ≡ it.output = sym k.0.1 ∙ ran.output in
      over-ends w f words units h of result it.left it.output e it.stop
      (is ∙ ap (λ (o : List ℕ). Over e o) here)
      (subst HasPlace (is ∙ ap (λ (o : List ℕ). Over e o) here) placed)
      (subst (λ (s : Stop). SameEnd w.store.types h.term.body.result e s) ran.stop
      (subst (λ (c : Callable). SameEnd w.store.types c.body.result e ran.ran.stop) same-term k.0.0))
      (sym ran.left ∙ k.1)
  done-by (More out) is =
      let k = a.breaks words out ran.ran (subst (λ (c : Callable). AreValues w.store.types c.body.parameters (map word words)) (sym same-term) h.values) is ran.runs in
      let here : out ≡ it.output = sym k.2 ∙ ran.output in
      more-ends w f words units h of result it.left it.output it.stop k.0 (is ∙ ap (λ (o : List ℕ). More o) here)
      (sym ran.stop ∙ k.1)

  pub ends-as : EndsAs w f h.term.body words units it.output (end_seen w.store.types of it.stop it.left)
  ends-as = (done-by (run_at w f words units) refl).0

  -- so it is whatever name its typed term has
  pub ends-for : (k : Callable) → callable_of (contents_of w.store) f ≡ Some k → (end : RunEnd) → end ≡ end_seen w.store.types of it.stop it.left →
      EndsAs w f k.body words units it.output end
  ends-for k is end seen =
      let both : ◌≡◌ {A = Option Callable} (Some h.term) (Some k) = sym h.is ∙ is in
      let same : h.term ≡ k = cc in
      subst (λ (c : Callable). EndsAs w f c.body words units it.output end) same
      (subst (λ (e : RunEnd). EndsAs w f h.term.body words units it.output e) (sym seen) ends-as)

  pub took : Took w.memory (record { store = w.store; function = f; arguments = words; units = units }) it.steps
  took = record {
    image = image;
    agrees = a;
    ran = ran.ran;
    ends = ran.ends (λ not. (done-by (run_at w f words units) refl).1 (sym ran.stop ∙ not));
  }
