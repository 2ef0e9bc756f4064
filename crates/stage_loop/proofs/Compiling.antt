-- A function that may be run can be compiled.
use Rattle.std.proofs.Common.{◌≡◌, ℕ, zero, suc, ◌+◌, ◌*◌, ◌<◌, ◌≤◌, ◌^◌, map, Bool, true, List, [], ◌∷◌, length, Option, Some, None, refl, sym, ap, ◌∙◌, subst, arith, nat_le, slice_get}
use Rattle.std.specs.Prelude.{◌&&◌}
use Rattle.std.proofs.Math.Nat.{mul-le-mul}
use Rattle.std.proofs.lemmas.Bool.{and_parts, and_from}
use Rattle.std.proofs.lemmas.Bool.Decides.{nat_tests}
use Rattle.tl_base.specs.declared.ids.FnId.{FnId}
use Rattle.tl_base.specs.declared.limits.TheConstants.{MAX_COMPILED_NODES, MAX_PARAMETERS, MAX_UNITS}
use Rattle.elf_image.specs.declared.image.Image.{Image}
use Rattle.terra_words.specs.Runs.{word}
use Rattle.terra_types.specs.declared.types.TypeForm.{TypeForm}
use Rattle.terra_types.specs.declared.types.TypeForm.TheVariants as forms
use Rattle.terra_types.specs.Sizes.{form_at}
use Rattle.terra_term.specs.declared.lists.TypedName.{TypedName}
use Rattle.terra_term.specs.declared.store.Export.{Export}
use Rattle.terra_term.specs.declared.store.Function.{Function}
use Rattle.terra_term.specs.Stores.{Callable, callable_of, contents_of}
use Rattle.terra_meaning.specs.Values.{AreValues}
use Rattle.exotype.specs.World.{StageState}
use Rattle.check_model.specs.Typing.{function_at}
use Rattle.check_library.specs.Counting.{nothing, count_function}
use Rattle.check_sound.specs.Layers.{ReachesReady}
use Rattle.export_count.specs.Counted.{OneCountsRight}
use Rattle.back_end.specs.Ready.{AreFew, IsOutward, all_scalar, is_result, is_scalar}
use Rattle.back_end.specs.Units.{IsCompiledCounted, alone, export_of}
use Rattle.ready_image.specs.Places.{FaultsHavePlaces, HasPlace}
use Rattle.ready_image.specs.Ready.{CanBeCompiled, ReadyExportsCompile}
use Rattle.stage_model.specs.Words.{are_words, is_callable, is_word, is_word_or_unit}
use Rattle.stage_model.specs.Calls.{run_at}
use Rattle.stage_loop.specs.Calls.{MayRun}

-- what can be called is there
there : (w : StageState) (f : FnId) (k : Callable) → callable_of (contents_of w.store) f ≡ Some k → (g : Function) × (function_at w f ≡ Some g)
there w f k is = by (function_at w f) refl
  where
    by : (o : Option Function) → function_at w f ≡ o → (g : Function) × (function_at w f ≡ Some g)
    by (Some g) at = (g, at)
    by None at =
        let none : callable_of (contents_of w.store) f ≡ None = rw at refl in
        let both : ◌≡◌ {A = Option Callable} None (Some k) = sym none ∙ is in
        absurd cc

one-ready : (w : StageState) (f : FnId) (e : Export) (i : ℕ) → ReachesReady w f → slice_get (alone f) i ≡ Some e → ReachesReady w e.function
one-ready w f e zero ready at =
    let one : export_of f ≡ e = cc in
    subst (λ (x : Export). ReachesReady w x.function) one ready
one-ready w f e (suc i) ready at = absurd cc

pub can-compile : OneCountsRight → ReadyExportsCompile → (w : StageState) (f : FnId) (words : List ℕ) → MayRun w f words →
    CanBeCompiled (contents_of w.store) (alone f) w.memory
can-compile counts compiles w f words h =
    let g = there w f h.term h.is in
    let ready = h.ready g.0 g.1 in
    let counted = counts w h.sound f ready (export_of f) refl h.few in
    compiles w h.sound (alone f) (count_function w nothing f).counted.functions (count_function w nothing f).counted.nodes
    (λ i e at. one-ready w f e i ready at) counted

-- so the place of its fault is one of a text
pub fault-placed : OneCountsRight → ReadyExportsCompile → FaultsHavePlaces → (w : StageState) (f : FnId) (words : List ℕ) → MayRun w f words →
    (units : ℕ) → HasPlace (run_at w f words units)
fault-placed counts compiles faults w f words h units =
    let can = can-compile counts compiles w f words h in
    faults (contents_of w.store) (alone f) can.typed can.ready 0 (export_of f) refl w.memory units (map word words)

-- and its image is short
pub short-image : (w : StageState) (f : FnId) (memory units : ℕ) (image : Image) → AreFew (contents_of w.store) (alone f) →
    IsCompiledCounted (contents_of w.store) memory f units image → length image.text ≤ 250 * MAX_COMPILED_NODES + 16
short-image w f memory units image few is =
    let nodes = few is.functions is.reached in
    omega (arith, nodes, is.short)

pub steps-fit : (units n : ℕ) → units ≤ MAX_UNITS → n ≤ 250 * MAX_COMPILED_NODES + 16 → (units + 1) * n < 2 ^ 64
steps-fit units n few short =
    let more : units + 1 ≤ 4000001 = omega (arith, few) in
    let product : (units + 1) * n ≤ 4000001 * (250 * MAX_COMPILED_NODES + 16) = mul-le-mul more short in
    omega (arith, product)

-- ---- its signature

word-scalar : (form : TypeForm) → is_word form ≡ true → is_scalar form ≡ true
word-scalar (forms.Integer i) h = refl
word-scalar forms.Bool h = refl
word-scalar (forms.Pointer t) h = refl
word-scalar form h = h

result-fits : (form : TypeForm) → is_word_or_unit form ≡ true → is_result form ≡ true
result-fits forms.Unit h = refl
result-fits (forms.Integer i) h = refl
result-fits forms.Bool h = refl
result-fits (forms.Pointer t) h = refl
result-fits form h = h

words-scalar : (types : List TypeForm) (xs : List TypedName) → are_words types xs ≡ true → all_scalar types xs ≡ true
words-scalar types [] h = refl
words-scalar types (x ∷ xs) h =
    let p = and_parts (is_word (form_at types x.of)) (are_words types xs) h in
    and_from (is_scalar (form_at types x.of)) (all_scalar types xs) (word-scalar (form_at types x.of) p.0) (words-scalar types xs p.1)

at-most : (n : ℕ) → nat_le n MAX_PARAMETERS ≡ true → n ≤ MAX_PARAMETERS
at-most n is = grind (arith, nat_tests)

-- as many words as parameters
same-length : (types : List TypeForm) (ps : List TypedName) (words : List ℕ) → AreValues types ps (map word words) → length words ≡ length ps
same-length types [] [] h = refl
same-length types (p ∷ ps) [] h = absurd h
same-length types [] (x ∷ words) h = absurd h
same-length types (p ∷ ps) (x ∷ words) h = ap suc (same-length types ps words h.1)

pub few-words : (w : StageState) (f : FnId) (words : List ℕ) → MayRun w f words → length words ≤ 8
few-words w f words h =
    let body = h.term.body in
    let most = nat_le (length body.parameters) MAX_PARAMETERS in
    let both = and_parts (most && are_words w.store.types body.parameters) (is_word_or_unit (form_at w.store.types body.result)) h.callable in
    let front = and_parts most (are_words w.store.types body.parameters) both.0 in
    let few = at-most (length body.parameters) front.0 in
    let same = same-length w.store.types body.parameters words h.values in
    omega (arith, few, same)

pub outward : (w : StageState) (f : FnId) (words : List ℕ) → MayRun w f words → IsOutward (contents_of w.store) f
outward w f words h =
    let body = h.term.body in
    let types = w.store.types in
    let most = nat_le (length body.parameters) MAX_PARAMETERS in
    let both = and_parts (most && are_words types body.parameters) (is_word_or_unit (form_at types body.result)) h.callable in
    let front = and_parts most (are_words types body.parameters) both.0 in
    record {
      term = h.term;
      is = h.is;
      eight = at-most (length body.parameters) front.0;
      scalar = words-scalar types body.parameters front.1;
      result = result-fits (form_at types body.result) both.1;
    }
