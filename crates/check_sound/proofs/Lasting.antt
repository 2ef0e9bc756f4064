-- What was ready stays so.
use Rattle.std.proofs.Common.{◌≡◌, List, length, Option, Some, None, refl, sym, ap, ◌∙◌, subst}
use Rattle.std.specs.Option.{option_map_or}
use Rattle.std.proofs.lemmas.Bool.{ltb-true, lt-ltb}
use Rattle.std.proofs.lemmas.Option.{slice_get_within}
use Rattle.tl_base.specs.declared.ids.FnId.{FnId}
use Rattle.tl_base.specs.declared.ids.TermId.{TermId}
use Rattle.tl_base.specs.declared.ids.TypeId.{TypeId}
use Rattle.terra_term.specs.declared.store.Function.{Function}
use Rattle.terra_term.specs.declared.store.FunctionState.{FunctionState}
use Rattle.terra_term.specs.declared.store.FunctionState.TheVariants as standing
use Rattle.terra_term.specs.Held.{state_of, typed_in}
use Rattle.terra_term.specs.Stores.{Callable, callable_of, contents_of}
use Rattle.exotype.specs.World.{StageState}
use Rattle.check_model.specs.declared.job.Reached.{Reached}
use Rattle.check_model.specs.declared.known.KnownResult.TheVariants.{Is, NotYet}
use Rattle.check_model.specs.Calls.{known_or, known_result, result_of, result_in_state}
use Rattle.check_model.specs.Typing.{function_at}
use Rattle.check_sound.specs.Sound.{IsThere, IsReady}
use Rattle.check_sound.specs.Growing.{Grows, WasReady}
use Rattle.check_sound.specs.Layers.{ReadyStays}
use Rattle.check_sound.proofs.Tests.{got, none-some}
use Rattle.check_sound.proofs.Foreseen.{body-result}
use Rattle.check_sound.proofs.Knowing.{same-is}
use Rattle.check_sound.proofs.Reaching.{Visited, visited-grows, ready, typed-as}

-- a function that can be called is typed
pub record IsTyped (w : StageState) (f : FnId) : Type 0 where
  pub made : TermId
  pub is : typed_in (state_of w.store f) ≡ Some made

called-typed : (w : StageState) (f : FnId) (k : Callable) (g : Function) (s : FunctionState) → function_at w f ≡ Some g →
    g.state ≡ s → callable_of (contents_of w.store) f ≡ Some k → IsTyped w f
called-typed w f k g (standing.Typed t made) at is called = record {
  made = made;
  is = ap (λ (o : Option Function). typed_in (option_map_or (λ (x : Function). x.state) o standing.Undefined)) at ∙
      ap typed_in is;
}
called-typed w f k g standing.Undefined at is called =
    let none : callable_of (contents_of w.store) f ≡ None = rw (at, is) refl in absurd (none-some k (sym none ∙ called))
called-typed w f k g (standing.Defined t) at is called =
    let none : callable_of (contents_of w.store) f ≡ None = rw (at, is) refl in absurd (none-some k (sym none ∙ called))
called-typed w f k g (standing.Typing t) at is called =
    let none : callable_of (contents_of w.store) f ≡ None = rw (at, is) refl in absurd (none-some k (sym none ∙ called))
called-typed w f k g (standing.Refused t why) at is called =
    let none : callable_of (contents_of w.store) f ≡ None = rw (at, is) refl in absurd (none-some k (sym none ∙ called))

pub callable-typed : (w : StageState) (f : FnId) (k : Callable) → callable_of (contents_of w.store) f ≡ Some k →
    (o : Option Function) → function_at w f ≡ o → IsTyped w f
callable-typed w f k called (Some g) at = called-typed w f k g g.state at refl called
callable-typed w f k called None at =
    let none : callable_of (contents_of w.store) f ≡ None = rw at refl in absurd (none-some k (sym none ∙ called))

ready-visited : (w : StageState) (queue : List Reached) (f : FnId) → IsReady w queue f → Visited w queue f
ready-visited w queue f r =
    let t = callable-typed w f r.callable.0 r.callable.1 (function_at w f) refl in
    record { made = t.made; is = t.is; mentions = r.reached }

pub ready-stays : ReadyStays
ready-stays v f sound r = (
  r.queue,
  r.reached,
  ready v sound r.queue (λ g h.
      visited-grows r.then v r.sound sound r.grows r.queue g (ready-visited r.then r.queue g (r.ready g h))),
)

-- ---- the result of what was ready

there-on : (w v : StageState) → Grows w v → (t : TypeId) → IsThere w t → IsThere v t
there-on w v g t h =
    let form = got w.store.types t.0 (ltb-true t.0 (length w.store.types) h) in
    let now = g.types t.0 form.0 form.1 in
    lt-ltb t.0 (length v.store.types) (slice_get_within v.store.types t.0 now.0 now.1.0)

-- its type is there, since the body was typed with it
pub ready-result : (w : StageState) (f : FnId) (t : TypeId) → WasReady w f → result_of w f ≡ Is t → IsThere w t
ready-result w f t r is =
    let d = r.ready f r.reached in
    let y = callable-typed r.then f d.callable.0 d.callable.1 (function_at r.then f) refl in
    let a = typed-as r.then f y.made y.is in
    let has = r.sound.typed_bodies f a.term y.made a.function a.at a.is in
    let first : result_of r.then f ≡ Is has.body.result =
    ap (result_in_state r.then) a.at ∙ (ap (known_result r.then a.function) a.is ∙
    ap (λ (o : Option TypeId). known_or o NotYet) (body-result r.then y.made has.body has.there)) in
    let same : has.body.result ≡ t = same-is has.body.result t (sym (r.grows.results f has.body.result first) ∙ is) in
    subst (IsThere w) same (there-on r.then w r.grows has.body.result has.result)
