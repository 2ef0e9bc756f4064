-- The exports that weren't counted yet are counted, and behind them one more.
use Rattle.std.proofs.Common.{◌≡◌, ℕ, zero, suc, ◌+◌, ◌<◌, ◌≤◌, List, [], ◌∷◌, ◌++◌, append_assoc, append-nil, length, take, drop, Option}
use Rattle.std.proofs.Common.{Some, None, refl, sym, ap, ◌∙◌, subst, arith, slice_get, length-drop, ◌-◌}
use Rattle.std.specs.Prelude.{◌⊎◌, true}
use mathlib.Core.Logic.{inl, inr}
use Rattle.std.proofs.lemmas.List.{take-append-drop}
use Rattle.std.proofs.lemmas.Option.{slice_get_within}
use Rattle.tl_base.specs.declared.ids.FnId.{FnId}
use Rattle.terra_term.specs.declared.store.Export.{Export}
use Rattle.terra_term.specs.Stores.{Callable, callable_of, contents_of}
use Rattle.terra_term.specs.WellTyped.{body_typed}
use Rattle.exotype.specs.World.{StageState}
use Rattle.check_model.specs.declared.job.Reached.{Reached}
use Rattle.check_model.specs.Checks.{was_reached}
use Rattle.check_library.specs.Counting.{CountedState, numbered, with_function, mentioned, with_reached, summed, count_function, count_on}
use Rattle.check_library.specs.Counting.{nothing, count_exports}
use Rattle.check_sound.specs.Exports.{Stands, IsClosed, AreCounted, nodes_in}
use Rattle.check_sound.specs.Layers.{ReachesReady}
use Rattle.check_sound.specs.Sound.{IsSound}
use Rattle.check_sound.proofs.Tests.{none-some}
use Rattle.export_count.specs.Counted.{CountsAreRight, OneCountsRight}
use Rattle.export_count.proofs.Lists.{Longer, longer-twice, stands-longer, old-or-new, Put, put, get-behind, in-front-or-last}
use Rattle.export_count.proofs.Reaching.{Through, Gone, goes-through, mentioned-was, was-mentioned}
use Rattle.export_count.proofs.Nodes.{number-below, nodes-are, nodes-beside, Summed, sums}

drop-front : {A : Type 0} (xs ys : List A) → drop (length xs) (xs ++ ys) ≡ ys
drop-front [] ys = refl
drop-front (x ∷ xs) ys = drop-front xs ys

-- the exports of a list and those behind them were counted
record More (w : StageState) (front rest : List Export) (c d : CountedState) : Type 0 where
  exports : d.exports ≡ c.exports + length rest
  counted : AreCounted w (front ++ rest) d.functions d.nodes

module _ (w : StageState) (sound : IsSound w) where
  -- ---- functions that were checked

  -- the number of one
  abbrev Checked : ℕ → Type 0
  Checked f = ReachesReady w (numbered f)

  abbrev CanBeCalled : ℕ → Type 0
  CanBeCalled f = (k : Callable) × (callable_of (contents_of w.store) (numbered f) ≡ Some k) ×
      (body_typed (contents_of w.store) k.body ≡ true)

  can-be-called : (f : ℕ) → Checked f → CanBeCalled f
  can-be-called f c = (c.2 (numbered f) c.1).callable

  below : (f : ℕ) → Checked f → f < length w.store.functions
  below f c = let k = can-be-called f c in number-below w (numbered f) k.0 k.1

  -- what it mentions was checked too
  on : (f : ℕ) → Checked f → (j : ℕ) (r : Reached) → slice_get (mentioned w f) j ≡ Some r → Checked r.function.0
  on f c j r h =
      let m = mentioned-was w f j r h in
      let reached : was_reached m.1.0.1 c.0 ≡ true = (c.2 (numbered f) c.1).reached m.0 m.1.0 m.1.1.0 in
      (c.0, subst (λ z. was_reached z c.0 ≡ true) (sym m.1.1.1) reached, c.2)

  -- ---- one export

  module _ (es : List Export) (c : CountedState) (counted : AreCounted w es c.functions c.nodes) (f : FnId)
      (ready : ReachesReady w f) where
    putting : Put Checked c.functions f.0 (with_function c.functions f.0)
    putting = put Checked c.functions f.0 ready

    -- those that were counted are gone through
    begun : Through w (length w.store.functions) Checked below on (length c.functions) (with_function c.functions f.0)
    begun = record { once = putting.longer.once counted.once; within = within; closed = closed; ahead = ahead }
      where
        within : (k g : ℕ) → slice_get (with_function c.functions f.0) k ≡ Some g → g < length w.store.functions
        within k g h = by (old-or-new Checked c.functions _ putting.longer k g h)
          where
            by : (slice_get c.functions k ≡ Some g) ⊎ ((length c.functions ≤ k) × Checked g) → g < length w.store.functions
            by (inl e) = let x = (counted.closed k g e).callable in number-below w (numbered g) x.0 x.1
            by (inr e) = below g e.1

        closed : (k g : ℕ) → k < length c.functions → slice_get (with_function c.functions f.0) k ≡ Some g →
            (j : ℕ) (r : Reached) → slice_get (mentioned w g) j ≡ Some r →
            Stands (with_function c.functions f.0) r.function.0
        closed k g less h j r m = by (old-or-new Checked c.functions _ putting.longer k g h)
          where
            by : (slice_get c.functions k ≡ Some g) ⊎ ((length c.functions ≤ k) × Checked g) →
                Stands (with_function c.functions f.0) r.function.0
            by (inl e) =
                let x = mentioned-was w g j r m in
                let there : Stands c.functions r.function.0 =
                subst (λ (z : FnId). Stands c.functions z.0) (sym x.1.1.1)
                ((counted.closed k g e).mentions x.0 x.1.0 x.1.1.0) in
                stands-longer Checked c.functions _ putting.longer r.function.0 there
            by (inr e) = absurd (omega (arith, e.0, less))

        ahead : (k g : ℕ) → length c.functions ≤ k → slice_get (with_function c.functions f.0) k ≡ Some g → Checked g
        ahead k g past h = by (old-or-new Checked c.functions _ putting.longer k g h)
          where
            by : (slice_get c.functions k ≡ Some g) ⊎ ((length c.functions ≤ k) × Checked g) → Checked g
            by (inl e) =
                let inside : k < length c.functions = slice_get_within c.functions k g e in
                absurd (omega (arith, inside, past))
            by (inr e) = e.1

    gone : Gone w (length w.store.functions) Checked below on (with_function c.functions f.0) (with_reached w c.functions f.0)
    gone = goes-through w (length w.store.functions) Checked below on (length w.store.functions) (length c.functions)
        (with_function c.functions f.0) begun (omega arith)

    longer : Longer Checked c.functions (with_reached w c.functions f.0)
    longer = longer-twice Checked c.functions (with_function c.functions f.0) (with_reached w c.functions f.0)
        putting.longer gone.longer

    abbrev new_ones : List ℕ
    new_ones = drop (length c.functions) (with_reached w c.functions f.0)

    new-are : new_ones ≡ longer.more
    new-are = ap (drop (length c.functions)) longer.is ∙ drop-front c.functions longer.more

    summing : (summed w c.nodes new_ones).passing ≡ None → Summed w c.nodes new_ones (summed w c.nodes new_ones)
    summing h = sums w new_ones c.nodes counted.most
        (λ j g at.
        let k = can-be-called g (longer.new j g (ap (λ l. slice_get l j) (sym new-are) ∙ at)) in
        nodes-are w sound g k.0 k.1) h

    counted-one : (x : Export) → x.function ≡ f → (count_function w c f).passing ≡ None →
        AreCounted w (es ++ x ∷ []) (count_function w c f).counted.functions (count_function w c f).counted.nodes
    counted-one x of h = record { exported = exported; once = gone.once; closed = closed; sum = sum; most = (summing h).most }
      where
        exported : (i : ℕ) (e : Export) → slice_get (es ++ x ∷ []) i ≡ Some e →
            Stands (with_reached w c.functions f.0) e.function.0
        exported i e at = by (in-front-or-last es x i e at)
          where
            by : (slice_get es i ≡ Some e) ⊎ ((i ≡ length es) × (x ≡ e)) →
                Stands (with_reached w c.functions f.0) e.function.0
            by (inl was) = stands-longer Checked c.functions _ longer e.function.0 (counted.exported i e was)
            by (inr is) =
                subst (λ (z : FnId). Stands (with_reached w c.functions f.0) z.0)
                (sym of ∙ ap (λ (z : Export). z.function) is.1)
                (stands-longer Checked (with_function c.functions f.0) _ gone.longer f.0 putting.stands)

        closed : (k g : ℕ) → slice_get (with_reached w c.functions f.0) k ≡ Some g →
            IsClosed w (with_reached w c.functions f.0) g
        closed k g at = record {
          callable = by (old-or-new Checked c.functions _ longer k g at);
          mentions = λ i m was.
              let r = was-mentioned w g i m was in
              subst (λ (z : FnId). Stands (with_reached w c.functions f.0) z.0) r.1.1.1
              (gone.closed k g at r.0 r.1.0 r.1.1.0);
        }
          where
            by : (slice_get c.functions k ≡ Some g) ⊎ ((length c.functions ≤ k) × Checked g) → CanBeCalled g
            by (inl e) = (counted.closed k g e).callable
            by (inr e) = can-be-called g e.1

        sum : nodes_in w (with_reached w c.functions f.0) ≡ (summed w c.nodes new_ones).nodes
        sum =
            let all : nodes_in w (with_reached w c.functions f.0) ≡ nodes_in w c.functions + nodes_in w longer.more =
            ap (nodes_in w) longer.is ∙ nodes-beside w c.functions longer.more in
            let new : nodes_in w new_ones ≡ nodes_in w longer.more = ap (nodes_in w) new-are in
            omega (arith, all, new, counted.sum, (summing h).is)

  -- ---- the exports that weren't counted

  counted-more : (rest front : List Export) (c : CountedState) → AreCounted w front c.functions c.nodes →
      ((i : ℕ) (e : Export) → slice_get rest i ≡ Some e → ReachesReady w e.function) →
      (count_exports w c rest).passing ≡ None → More w front rest c (count_exports w c rest).counted
  counted-more [] front c counted ready h =
      record { exports = omega arith; counted = subst (λ l. AreCounted w l c.functions c.nodes) (sym (append-nil front)) counted }
  counted-more (e ∷ es) front c counted ready h =
      by (count_function w c e.function).passing refl h
      (λ at. counted-more es (front ++ e ∷ []) (count_function w c e.function).counted
      (counted-one front c counted e.function (ready zero e refl) e refl at) (λ i x was. ready (suc i) x was))
    where
      by : (o : Option ℕ) → (count_function w c e.function).passing ≡ o →
          (count_on o (count_function w c e.function) (λ d. count_exports w d es)).passing ≡ None →
          ((count_function w c e.function).passing ≡ None →
          (count_exports w (count_function w c e.function).counted es).passing ≡ None →
          More w (front ++ e ∷ []) es (count_function w c e.function).counted
          (count_exports w (count_function w c e.function).counted es).counted) →
          More w front (e ∷ es) c (count_on o (count_function w c e.function) (λ d. count_exports w d es)).counted
      by (Some g) at h rest = absurd (none-some g (sym h ∙ at))
      by None at h rest =
          let m = rest at h in
          let many : (count_exports w (count_function w c e.function).counted es).counted.exports ≡ c.exports + 1 + length es =
          m.exports in
          record {
            exports = omega (arith, many);
            counted = subst (λ l. AreCounted w l
                (count_exports w (count_function w c e.function).counted es).counted.functions
                (count_exports w (count_function w c e.function).counted es).counted.nodes)
                (append_assoc front (e ∷ []) es) m.counted;
          }

-- the exports of a world that weren't counted
abbrev uncounted : StageState → CountedState → List Export
uncounted w c = drop c.exports w.exports.list

pub count-law : CountsAreRight
count-law w sound c f few counted ready checked x of h =
    by (count_exports w c (uncounted w c)).passing refl h
  where
    ready-rest : (i : ℕ) (e : Export) → slice_get (uncounted w c) i ≡ Some e → ReachesReady w e.function
    ready-rest i e at =
        let k = get-behind (take c.exports w.exports.list) (uncounted w c) i e at in
        ready k.0 e (ap (λ l. slice_get l k.0) (sym (take-append-drop c.exports w.exports.list)) ∙ k.1)

    by : (o : Option ℕ) → (count_exports w c (uncounted w c)).passing ≡ o →
        (count_on o (count_exports w c (uncounted w c)) (λ d. count_function w d f)).passing ≡ None →
        ((count_on o (count_exports w c (uncounted w c)) (λ d. count_function w d f)).counted.exports ≡ suc (length w.exports.list)) ×
        AreCounted w (w.exports.list ++ x ∷ [])
        (count_on o (count_exports w c (uncounted w c)) (λ d. count_function w d f)).counted.functions
        (count_on o (count_exports w c (uncounted w c)) (λ d. count_function w d f)).counted.nodes
    by (Some g) at h = absurd (none-some g (sym h ∙ at))
    by None at h =
        let d = (count_exports w c (uncounted w c)).counted in
        let m = counted-more w sound (uncounted w c) (take c.exports w.exports.list) c counted ready-rest at in
        let many : d.exports ≡ c.exports + length (uncounted w c) = m.exports in
        let behind : length (uncounted w c) ≡ length w.exports.list - c.exports = length-drop c.exports w.exports.list in (
          omega (arith, many, behind, few),
          subst (λ l. AreCounted w (l ++ x ∷ []) (count_function w d f).counted.functions (count_function w d f).counted.nodes)
              (take-append-drop c.exports w.exports.list)
              (counted-one w sound (take c.exports w.exports.list ++ (uncounted w c)) d m.counted f checked x of h),
        )

-- ---- one function

none-counted : (w : StageState) → AreCounted w [] [] 0
none-counted w = record {
  exported = λ i e at. absurd (none-some e at);
  once = λ i j f at there. absurd (none-some f at);
  closed = λ k f at. absurd (none-some f at);
  sum = refl;
  most = omega arith;
}

pub count-one : OneCountsRight
count-one w sound f checked x of h = counted-one w sound [] nothing (none-counted w) f checked x of h
