-- How functions are foreseen, and where their bodies are.
use Rattle.std.proofs.Common.{◌≡◌, ℕ, zero, suc, ◌+◌, List, [], ◌∷◌, length, Option, Some, None, refl, sym, ap, ◌∙◌, subst, arith}
use Rattle.std.proofs.Common.{slice_get}
use Rattle.std.specs.Prelude.{take}
use Rattle.std.proofs.lemmas.List.{length-append}
use Rattle.tl_base.specs.declared.ids.FnId.{FnId}
use Rattle.tl_base.specs.declared.ids.TermId.{TermId}
use Rattle.terra_types.proofs.Growing.{get-seam, grown-at, length-grown}
use Rattle.terra_term.specs.declared.store.Function.{Function}
use Rattle.terra_term.specs.declared.typed.Typed.{Typed}
use Rattle.terra_term.specs.declared.typed.Typed.TheVariants as typed_kinds
use Rattle.terra_term.specs.Keeping.{AreKept}
use Rattle.terra_term.specs.Planted.{typed_planted, typed_trees}
use Rattle.terra_term.specs.Stores.{Contents, contents_of}
use Rattle.terra_term.specs.TypedTerms as typed
use Rattle.terra_term.proofs.Staying.{kept-front}
use Rattle.exotype.specs.World.{StageState}
use Rattle.check_model.specs.Typing.{function_at}
use Rattle.check_model.specs.Calls.{found_in}
use Rattle.check_sound.specs.Sound.{foreseen, foreseen_all, foreseen_of, with_foreseen, as_typed, body_in, typed_body}
use Rattle.check_sound.proofs.Tests.{none-some, same-some, get-past, past-get}

-- ---- what the functions become

typed-step : (c : Contents) (g : Function) (o : Option typed.Item) → AreKept c.typed (with_foreseen c g o).typed
typed-step c g None i x h = h
typed-step c g (Some item) i x h = kept-front c.typed (item ∷ []) i x h

functions-step : (c : Contents) (g : Function) (o : Option typed.Item) →
    AreKept c.functions (with_foreseen c g o).functions
functions-step c g None i x h = kept-front c.functions (g ∷ []) i x h
functions-step c g (Some item) i x h = kept-front c.functions (as_typed g (record { 0 = length c.typed }) ∷ []) i x h

pub typed-kept : (w : StageState) (gs : List Function) (c : Contents) → AreKept c.typed (foreseen_all w gs c).typed
typed-kept w [] c i x h = h
typed-kept w (g ∷ gs) c i x h =
    typed-kept w gs (with_foreseen c g (foreseen_of w g)) i x (typed-step c g (foreseen_of w g) i x h)

functions-kept : (w : StageState) (gs : List Function) (c : Contents) →
    AreKept c.functions (foreseen_all w gs c).functions
functions-kept w [] c i x h = h
functions-kept w (g ∷ gs) c i x h =
    functions-kept w gs (with_foreseen c g (foreseen_of w g)) i x (functions-step c g (foreseen_of w g) i x h)

count-step : (c : Contents) (g : Function) (o : Option typed.Item) →
    length (with_foreseen c g o).functions ≡ length c.functions + 1
count-step c g None = length-append c.functions (g ∷ [])
count-step c g (Some item) = length-append c.functions (as_typed g (record { 0 = length c.typed }) ∷ [])

count : (w : StageState) (gs : List Function) (c : Contents) →
    length (foreseen_all w gs c).functions ≡ length c.functions + length gs
count w [] c = omega arith
count w (g ∷ gs) c =
    omega (arith, count w gs (with_foreseen c g (foreseen_of w g)), count-step c g (foreseen_of w g))

-- how a function is found
abbrev pub FoundAs : Option typed.Item → Function → List Function → List typed.Item → ℕ → Type 0
FoundAs None g fs items i = slice_get fs i ≡ Some g
FoundAs (Some item) g fs items i = (m : TermId) × (slice_get fs i ≡ Some (as_typed g m)) ×
    (slice_get items m.0 ≡ Some item)

found-first : (c : Contents) (g : Function) (o : Option typed.Item) →
    FoundAs o g (with_foreseen c g o).functions (with_foreseen c g o).typed (length c.functions)
found-first c g None = get-seam c.functions g
found-first c g (Some item) = (
  record { 0 = length c.typed },
  get-seam c.functions (as_typed g (record { 0 = length c.typed })),
  get-seam c.typed
      item,
)

found-kept : (o : Option typed.Item) (g : Function) (fs gs : List Function) (items more : List typed.Item) (i : ℕ) →
    AreKept fs gs → AreKept items more → FoundAs o g fs items i → FoundAs o g gs more i
found-kept None g fs gs items more i f t h = f i g h
found-kept (Some item) g fs gs items more i f t h = (h.0, f i (as_typed g h.0) h.1, t h.0.0 item h.2)

found-at : (w : StageState) (gs : List Function) (c : Contents) (i : ℕ) (g : Function) → slice_get gs i ≡ Some g →
    FoundAs (foreseen_of w g) g (foreseen_all w gs c).functions (foreseen_all w gs c).typed (length c.functions + i)
found-at w [] c i g h = absurd (none-some g h)
found-at w (x ∷ gs) c zero g h =
    let e : x ≡ g = same-some x g h in
    let c1 = with_foreseen c x (foreseen_of w x) in
    let found = found-kept (foreseen_of w x) x c1.functions (foreseen_all w gs c1).functions c1.typed
    (foreseen_all w gs c1).typed
    (length c.functions) (functions-kept w gs c1) (typed-kept w gs c1) (found-first c x (foreseen_of w x)) in
    let zero-more : length c.functions ≡ length c.functions + 0 = omega arith in
    subst (λ k. FoundAs (foreseen_of w g) g (foreseen_all w gs c1).functions (foreseen_all w gs c1).typed k) zero-more
    (subst (λ y. FoundAs (foreseen_of w y) y (foreseen_all w gs c1).functions (foreseen_all w gs c1).typed
    (length c.functions)) e found)
found-at w (x ∷ gs) c (suc i) g h =
    let c1 = with_foreseen c x (foreseen_of w x) in
    let one-more : length c1.functions + i ≡ length c.functions + suc i =
    omega (arith, count-step c x (foreseen_of w x)) in
    subst (λ k. FoundAs (foreseen_of w g) g (foreseen_all w gs c1).functions (foreseen_all w gs c1).typed k) one-more
    (found-at w gs c1 i g h)

abbrev pub base : StageState → Contents
base w = record (contents_of w.store) { functions = [] }

pub found : (w : StageState) (f : FnId) (g : Function) → function_at w f ≡ Some g →
    FoundAs (foreseen_of w g) g (foreseen w).functions (foreseen w).typed f.0
found w f g h =
    let same : 0 + f.0 ≡ f.0 = omega arith in
    subst (λ k. FoundAs (foreseen_of w g) g (foreseen w).functions (foreseen w).typed k) same
    (found-at w w.store.functions (base w) f.0 g h)

pub not-found : (w : StageState) (f : FnId) → function_at w f ≡ None → slice_get (foreseen w).functions f.0 ≡ None
not-found w f h =
    past-get (foreseen w).functions f.0
    (omega (arith, count w w.store.functions (base w), get-past w.store.functions f.0 h))

-- ---- typed bodies

-- a node has its tree
pub typed-tree : (ns : List Typed) (i : ℕ) (n : Typed) → slice_get ns i ≡ Some n →
    slice_get (typed_trees ns) i ≡ Some (typed_planted (typed_trees (take i ns)) n)
typed-tree ns i n h =
    ap (λ k. slice_get (typed_trees ns) k) (omega arith) ∙ grown-at typed_planted [] ns i n h

pub count-trees : (ns : List Typed) → length (typed_trees ns) ≡ length ns
count-trees ns = omega (arith, length-grown typed_planted [] ns)

body-there : (o : Option typed.Item) (b : typed.Body) → body_in o ≡ Some b → o ≡ Some (typed.body b)
body-there None b h = absurd (none-some b h)
body-there (Some (typed.expression x)) b h = absurd (none-some b h)
body-there (Some (typed.doing x)) b h = absurd (none-some b h)
body-there (Some (typed.body x)) b h = ap (λ y. Some (typed.body y)) (same-some x b h)

pub body-item : (w : StageState) (made : TermId) (b : typed.Body) → typed_body w made ≡ Some b →
    slice_get (typed_trees w.store.typed) made.0 ≡ Some (typed.body b)
body-item w made b h = body-there (slice_get (typed_trees w.store.typed) made.0) b h

result-in : (before : List typed.Item) (n : Typed) (b : typed.Body) → typed_planted before n ≡ typed.body b →
    found_in (Some n) ≡ Some b.result
result-in before (typed_kinds.Expression at of form) b h = absurd (cc h)
result-in before (typed_kinds.Statement at form) b h = absurd (cc h)
result-in before (typed_kinds.Function ps result body) b h = ap (λ o. Some o.result) (same-body _ b h)
  where
    same-body : (x y : typed.Body) → typed.body x ≡ typed.body y → x ≡ y
    same-body x y e = cc e

-- the node of a body has its result type
pub body-result : (w : StageState) (made : TermId) (b : typed.Body) → typed_body w made ≡ Some b →
    found_in (slice_get w.store.typed made.0) ≡ Some b.result
body-result w made b h = step (slice_get w.store.typed made.0) refl
  where
    there : slice_get (typed_trees w.store.typed) made.0 ≡ Some (typed.body b)
    there = body-item w made b h

    step : (o : Option Typed) → slice_get w.store.typed made.0 ≡ o → found_in o ≡ Some b.result
    step None at =
        absurd (none-some (typed.body b)
        (sym (past-get (typed_trees w.store.typed) made.0
        (omega (arith, get-past w.store.typed made.0 at, count-trees w.store.typed))) ∙ there))
    step (Some n) at =
        result-in (typed_trees (take made.0 w.store.typed)) n b
        (same-some _ (typed.body b) (sym (typed-tree w.store.typed made.0 n at) ∙ there))
