-- How many typed nodes functions have, as they are counted, and as they are.
use Rattle.std.proofs.Common.{◌≡◌, ℕ, zero, suc, ◌+◌, ◌<◌, ◌≤◌, Bool, true, false, min, List, [], ◌∷◌, ◌++◌, length, Option, Some, None}
use Rattle.std.proofs.Common.{refl, sym, ap, ◌∙◌, arith, slice_get}
use Rattle.std.specs.Prelude.{nat_lt, if◌then◌else◌, unwrap_or, option_map}
use Rattle.std.specs.Option.{option_map_or}
use Rattle.std.proofs.lemmas.Bool.{ltb-false}
use Rattle.std.proofs.lemmas.Option.{slice_get_within}
use Rattle.tl_base.specs.declared.ids.FnId.{FnId}
use Rattle.tl_base.specs.declared.ids.TermId.{TermId}
use Rattle.terra_term.specs.declared.store.Function.{Function}
use Rattle.terra_term.specs.declared.store.FunctionState.{FunctionState}
use Rattle.terra_term.specs.declared.store.FunctionState.TheVariants as standing
use Rattle.terra_term.specs.Held.{state_of, typed_in}
use Rattle.terra_term.specs.Sizes.{leaf, most, capped, body_size, typed_item_size}
use Rattle.terra_term.specs.Stores.{Contents, Callable, callable_of, contents_of}
use Rattle.exotype.specs.Terms.{typed_size}
use Rattle.exotype.specs.World.{StageState}
use Rattle.check_library.specs.Counting.{numbered, nodes_of, nodes_if, summed, Sum, most_nodes}
use Rattle.check_sound.specs.Exports.{body_nodes, nodes_in}
use Rattle.check_sound.specs.Sound.{IsSound}
use Rattle.check_sound.proofs.Foreseen.{body-item}
use Rattle.check_sound.proofs.Knowing.{called-as, uncalled}
use Rattle.check_sound.proofs.Tests.{none-some}

-- ---- one function

-- what isn't there can't be called
uncalled-past : (c : Contents) (f : FnId) → slice_get c.functions f.0 ≡ None → callable_of c f ≡ None
uncalled-past c f h = rw h refl

-- a function that can be called is there, and is typed
pub record TypedAt (w : StageState) (f : FnId) : Type 0 where
  pub function : Function
  pub term : TermId
  pub made : TermId
  pub at : slice_get w.store.functions f.0 ≡ Some function
  pub is : function.state ≡ standing.Typed term made

pub typed-at : (w : StageState) (f : FnId) (k : Callable) → callable_of (contents_of w.store) f ≡ Some k → TypedAt w f
typed-at w f k h = by (slice_get w.store.functions f.0) refl
  where
    bare : (g : Function) → slice_get w.store.functions f.0 ≡ Some g → typed_in g.state ≡ None → TypedAt w f
    bare g at is = absurd (none-some k (sym (uncalled (contents_of w.store) f g at is) ∙ h))

    by-state : (g : Function) (s : FunctionState) → slice_get w.store.functions f.0 ≡ Some g → g.state ≡ s → TypedAt w f
    by-state g (standing.Typed t made) at is = record { function = g; term = t; made = made; at = at; is = is }
    by-state g standing.Undefined at is = bare g at (ap typed_in is)
    by-state g (standing.Defined t) at is = bare g at (ap typed_in is)
    by-state g (standing.Typing t) at is = bare g at (ap typed_in is)
    by-state g (standing.Refused t why) at is = bare g at (ap typed_in is)

    by : (o : Option Function) → slice_get w.store.functions f.0 ≡ o → TypedAt w f
    by None at = absurd (none-some k (sym (uncalled-past (contents_of w.store) f at) ∙ h))
    by (Some g) at = by-state g g.state at refl

-- so its number is that of a function
pub number-below : (w : StageState) (f : FnId) (k : Callable) → callable_of (contents_of w.store) f ≡ Some k →
    f.0 < length w.store.functions
number-below w f k h = let a = typed-at w f k h in slice_get_within w.store.functions f.0 a.function a.at

uncapped : (n : ℕ) → n ≤ 8192 → min n most ≡ n
uncapped n h = omega (arith, h)

-- the store keeps the exact number of nodes of a function that can be called, since its body is small
pub nodes-are : (w : StageState) → IsSound w → (f : ℕ) (k : Callable) →
    callable_of (contents_of w.store) (numbered f) ≡ Some k →
    nodes_of w f ≡ body_nodes (callable_of (contents_of w.store) (numbered f))
nodes-are w sound f k h =
    let a = typed-at w (numbered f) k h in
    let has = sound.typed_bodies (numbered f) a.term a.made a.function a.at a.is in
    let item = body-item w a.made has.body has.there in
    let kept : typed_in (state_of w.store (numbered f)) ≡ Some a.made =
    ap (λ o. typed_in (option_map_or (λ (g : Function). g.state) o standing.Undefined)) a.at ∙ ap typed_in a.is in
    let size : typed_size w a.made ≡ capped (body_size has.body) =
    ap (λ o. unwrap_or (option_map (λ x. capped (typed_item_size x)) o) leaf) item in
    ap (nodes_if w) kept ∙ (ap (λ s. s.nodes) size ∙ (uncapped (body_size has.body).nodes has.small ∙
    sym (ap body_nodes (called-as (contents_of w.store) (numbered f) a.function a.made has.body a.at (ap typed_in a.is) item))))

-- ---- sums

pub nodes-beside : (w : StageState) (fs gs : List ℕ) → nodes_in w (fs ++ gs) ≡ nodes_in w fs + nodes_in w gs
nodes-beside w [] gs = omega arith
nodes-beside w (f ∷ fs) gs =
    let rest : nodes_in w (fs ++ gs) ≡ nodes_in w fs + nodes_in w gs = nodes-beside w fs gs in
    omega (arith, rest)

-- a sum that doesn't pass the most
pub record Summed (w : StageState) (n : ℕ) (fs : List ℕ) (sum : Sum) : Type 0 where
  pub is : sum.nodes ≡ n + nodes_in w fs
  pub most : sum.nodes ≤ 131072

abbrev passed : ℕ → ℕ → Sum
passed n f = record { nodes = n; passing = Some f }

pub sums : (w : StageState) (fs : List ℕ) (n : ℕ) → n ≤ 131072 →
    ((j f : ℕ) → slice_get fs j ≡ Some f → nodes_of w f ≡ body_nodes (callable_of (contents_of w.store) (numbered f))) →
    (summed w n fs).passing ≡ None → Summed w n fs (summed w n fs)
sums w [] n few nodes passing = record { is = omega arith; most = few }
sums w (f ∷ fs) n few nodes passing =
    by (nat_lt most_nodes (n + nodes_of w f)) refl passing
    (λ more h. sums w fs (n + nodes_of w f) more (λ j g at. nodes (suc j) g at) h)
  where
    by : (c : Bool) → nat_lt most_nodes (n + nodes_of w f) ≡ c →
        (if c then passed n f else summed w (n + nodes_of w f) fs).passing ≡ None →
        (n + nodes_of w f ≤ 131072 → (summed w (n + nodes_of w f) fs).passing ≡ None →
        Summed w (n + nodes_of w f) fs (summed w (n + nodes_of w f) fs)) →
        Summed w n (f ∷ fs) (if c then passed n f else summed w (n + nodes_of w f) fs)
    by true e h rest = absurd (none-some f (sym h))
    by false e h rest =
        let s = rest (ltb-false most_nodes (n + nodes_of w f) e) h in
        let one : nodes_of w f ≡ body_nodes (callable_of (contents_of w.store) (numbered f)) = nodes zero f refl in
        let sum : (summed w (n + nodes_of w f) fs).nodes ≡ n + nodes_of w f + nodes_in w fs = s.is in
        record { is = omega (arith, sum, one); most = s.most }
