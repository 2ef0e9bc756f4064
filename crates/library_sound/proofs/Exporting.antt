-- What is known of a new export, by the tests that it passed: its name is free, and its type has words alone.
use Rattle.std.proofs.Common.{◌≡◌, ℕ, zero, suc, ◌+◌, ◌≤◌, true, false, List, [], ◌∷◌, ◌++◌, length, Option, Some, None, refl, sym, ap, ◌∙◌}
use Rattle.std.proofs.Common.{subst, arith, slice_get}
use Rattle.std.specs.Prelude.{not, ◌==◌, ◌||◌, bytes_eq, nat_le, nat_lt, take, unwrap_or}
use Rattle.std.specs.List.{list_all}
use Rattle.std.proofs.lemmas.Bool.{and_parts, and_from, or_parts, not-true, leb-true, ltb-true}
use Rattle.std.proofs.lemmas.List.{take-append-le, take_all, length-append}
use Rattle.std.proofs.lemmas.Slice.Eq.{bytes_eq-Decides}
use Rattle.tl_base.specs.declared.ids.FnId.{FnId}
use Rattle.tl_base.specs.declared.ids.TermId.{TermId}
use Rattle.tl_base.specs.declared.ids.TypeId.{TypeId}
use Rattle.terra_types.specs.declared.types.TypeForm.{TypeForm}
use Rattle.terra_types.specs.declared.types.TypeForm.TheVariants as forms
use Rattle.terra_term.specs.declared.lists.Parameter.{Parameter}
use Rattle.terra_term.specs.declared.store.Export.{Export}
use Rattle.terra_term.specs.declared.term.Term.{Term}
use Rattle.terra_term.specs.declared.term.Term.TheVariants as kinds
use Rattle.exotype.specs.World.{StageState}
use Rattle.terra_lib.specs.Symbols.{is_scalar}
use Rattle.terra_lib.specs.Exports.{is_name, is_used, is_free, is_unit, all_scalar, takes_scalars, gives_scalar, parameters_in}
use Rattle.terra_lib.specs.Exports.{term_of_function}
use Rattle.check_model.specs.declared.known.KnownResult.TheVariants.{Is, NotYet}
use Rattle.check_model.specs.Calls.{types_of, params_of, parameters_of, result_of, result_in_state, known_result, known_or}
use Rattle.check_model.specs.Typing.{form_in, function_at}
use Rattle.check_library.specs.Counting.{CountedState, nothing, count_with}
use Rattle.check_library.specs.Exports.{found_result}
use Rattle.check_sound.specs.Sound.{IsSound, HasBodyOf}
use Rattle.check_sound.specs.Exports.{HasName, IsOutward, AreCounted, is_word_form, is_result_form, all_words}
use Rattle.check_sound.specs.Growing.{Grows, WasReady, AreFine, Leads}
use Rattle.check_sound.specs.Layers.{ReachesReady}
use Rattle.check_sound.proofs.Tests.{no, none-some, same-some, three}
use Rattle.check_sound.proofs.Foreseen.{body-result}
use Rattle.check_sound.proofs.Reaching.{TypedAs, typed-as}
use Rattle.check_sound.proofs.Lasting.{callable-typed, ready-stays}
use Rattle.check_sound.proofs.Counted.{counted-stays}
use Rattle.library_sound.specs.Leaving.{IsCounted}
use Rattle.library_sound.proofs.Writes.{MayCome}
use Rattle.export_count.proofs.Counting.{count-law}

-- ---- names

pub has-name : (x : Export) → is_name x.name ≡ true → HasName x
has-name x h =
    let parts = three (nat_le 1 (length x.name)) (nat_le (length x.name) 255) (list_all (λ b. not (b == 0)) x.name) h in
    record { least = leb-true 1 (length x.name) parts.0; most = leb-true (length x.name) 255 parts.1; no_zero = parts.2 }

-- a name that no export uses isn't that of one
pub unused-apart : (es : List Export) (name : List ℕ) → is_used es name ≡ false → (i : ℕ) (e : Export) →
    slice_get es i ≡ Some e → e.name ≡ name → ⊥
unused-apart [] name h i e at same = none-some e at
unused-apart (x ∷ es) name h zero e at same =
    let used : bytes_eq x.name name ≡ true =
    (bytes_eq-Decides x.name name).1 (ap (λ (y : Export). y.name) (same-some x e at) ∙ same) in
    no (sym (or_parts (bytes_eq x.name name) (is_used es name) h).0 ∙ used)
unused-apart (x ∷ es) name h (suc i) e at same =
    unused-apart es name (or_parts (bytes_eq x.name name) (is_used es name) h).1 i e at same

-- ---- types

scalar-word : (o : Option TypeForm) → is_scalar o ≡ true → is_word_form (unwrap_or o forms.Unit) ≡ true
scalar-word (Some (forms.Integer i)) h = refl
scalar-word (Some forms.Bool) h = refl
scalar-word (Some (forms.Pointer t)) h = refl
scalar-word (Some forms.Unit) h = absurd (no h)
scalar-word (Some (forms.Array t n)) h = absurd (no h)
scalar-word (Some (forms.Function ps r)) h = absurd (no h)
scalar-word (Some (forms.Struct n p l)) h = absurd (no h)
scalar-word None h = absurd (no h)

-- a result is scalar, or a unit
scalar-result : (o : Option TypeForm) → (is_scalar o || is_unit o) ≡ true → is_result_form (unwrap_or o forms.Unit) ≡ true
scalar-result (Some (forms.Integer i)) h = refl
scalar-result (Some forms.Bool) h = refl
scalar-result (Some (forms.Pointer t)) h = refl
scalar-result (Some forms.Unit) h = refl
scalar-result (Some (forms.Array t n)) h = absurd (no h)
scalar-result (Some (forms.Function ps r)) h = absurd (no h)
scalar-result (Some (forms.Struct n p l)) h = absurd (no h)
scalar-result None h = absurd (no h)

module _ (w : StageState) where
  scalars-words : (ps : List Parameter) → all_scalar w.store.types ps ≡ true → all_words w (types_of ps) ≡ true
  scalars-words [] h = refl
  scalars-words (p ∷ ps) h =
      let parts = and_parts (is_scalar (slice_get w.store.types p.of.0)) (all_scalar w.store.types ps) h in
      and_from (is_word_form (form_in w p.of)) (all_words w (types_of ps))
      (scalar-word (slice_get w.store.types p.of.0) parts.0) (scalars-words ps parts.1)

  as-many : (ps : List Parameter) → length (types_of ps) ≡ length ps
  as-many [] = refl
  as-many (p ∷ ps) = ap suc (as-many ps)

  -- parameters that are scalar are at most eight, and have words
  words-taken : (o : Option Term) → takes_scalars w (parameters_in o) ≡ true →
      (length (params_of o) ≤ 8) × (all_words w (params_of o) ≡ true)
  words-taken (Some (kinds.Function ps result body)) h =
      let parts = and_parts (nat_le (length ps) 8) (all_scalar w.store.types ps) h in
      (subst (λ n. n ≤ 8) (sym (as-many ps)) (leb-true (length ps) 8 parts.0), scalars-words ps parts.1)
  words-taken (Some (kinds.Expression at x)) h = (omega arith, refl)
  words-taken (Some (kinds.Statement at x)) h = (omega arith, refl)
  words-taken None h = (omega arith, refl)

  -- a typed function that takes scalars, and gives one or nothing, is as an export has to be
  typed-outward : IsSound w → (f : FnId) (made : TermId) → TypedAs w f made →
      takes_scalars w (parameters_in (term_of_function w f)) ≡ true →
      gives_scalar w (found_result (result_of w f)) ≡ true → IsOutward w f
  typed-outward sound f made t takes gives =
      let has : HasBodyOf w t.term made = sound.typed_bodies f t.term made t.function t.at t.is in
      let same : term_of_function w f ≡ slice_get w.store.terms t.term.0 = rw (t.at, t.is) refl in
      let parameters : parameters_of w f ≡ Some (params_of (slice_get w.store.terms t.term.0)) = rw (t.at, t.is) refl in
      let found : result_of w f ≡ Is has.body.result = outcome has in
      let words =
      words-taken (slice_get w.store.terms t.term.0) (subst (λ o. takes_scalars w (parameters_in o) ≡ true) same takes) in
      record {
        parameters = params_of (slice_get w.store.terms t.term.0);
        parameters_are = parameters;
        eight = words.0;
        words = words.1;
        result = has.body.result;
        result_is = found;
        gives = scalar-result (slice_get w.store.types has.body.result.0)
            (subst (λ r. gives_scalar w (found_result r) ≡ true) found gives);
      }
    where
      outcome : (has : HasBodyOf w t.term made) → result_of w f ≡ Is has.body.result
      outcome has =
          ap (result_in_state w) t.at ∙ (ap (known_result w t.function) t.is ∙
          ap (λ (o : Option TypeId). known_or o NotYet) (body-result w made has.body has.there))

  -- so is one that can be called
  ready-outward : IsSound w → (f : FnId) → ReachesReady w f → takes_scalars w (parameters_in (term_of_function w f)) ≡ true →
      gives_scalar w (found_result (result_of w f)) ≡ true → IsOutward w f
  ready-outward sound f r takes gives =
      let called = (r.2 f r.1).callable in
      let y = callable-typed w f called.0 called.1 (function_at w f) refl in
      typed-outward sound f y.made (typed-as w f y.made y.is) takes gives

-- ---- a new export

pub may-come : (w : StageState) → IsSound w → (x : Export) → WasReady w x.function → is_free w x.name ≡ true →
    takes_scalars w (parameters_in (term_of_function w x.function)) ≡ true →
    gives_scalar w (found_result (result_of w x.function)) ≡ true → MayCome w x
may-come w sound x ready free takes gives =
    let parts = three (is_name x.name) (not (is_used w.exports.list x.name)) (nat_lt (length w.exports.list) 4000000) free in
    record {
      named = has-name x parts.0;
      free = unused-apart w.exports.list x.name (not-true (is_used w.exports.list x.name) parts.1);
      few = ltb-true (length w.exports.list) 4000000 parts.2;
      ready = ready;
      outward = ready-outward w sound x.function (ready-stays w x.function sound ready) takes gives;
    }

-- ---- what was counted

-- nothing was counted yet
pub nothing-counted : (w : StageState) → IsCounted w nothing
nothing-counted w = record {
  front = omega arith;
  counted = record {
    exported = λ i e at. absurd (none-some e at);
    once = λ i j f a b. absurd (none-some f a);
    closed = λ k f at. absurd (none-some f at);
    sum = refl;
    most = omega arith;
  };
}

-- what was counted right is so where worlds have led on
pub counted-on : (w v : StageState) → IsSound w → IsSound v → Leads w v → (c : CountedState) → IsCounted w c → IsCounted v c
counted-on w v old sound leads c h =
    let more = leads.exports.0 in
    let same : take c.exports v.exports.list ≡ take c.exports w.exports.list =
    ap (λ (l : List Export). take c.exports l) leads.exports.1 ∙ take-append-le c.exports w.exports.list more h.front in
    let long : length v.exports.list ≡ length w.exports.list + length more =
    ap (λ (l : List Export). length l) leads.exports.1 ∙ length-append w.exports.list more in
    record {
      front = omega (arith, h.front, long);
      counted = subst (λ es. AreCounted v es c.functions c.nodes) (sym same)
          (counted-stays v (take c.exports w.exports.list) c.functions c.nodes sound
          (record { then = w; sound = old; grows = leads.grows; counted = h.counted }));
    }

-- where nothing passes the most that there may be, what is counted with a new export is right
pub counted-with : (w : StageState) → IsSound w → AreFine w → (c : CountedState) → IsCounted w c → (x : Export) →
    WasReady w x.function → (count_with w c x.function).passing ≡ None →
    let d = (count_with w c x.function).counted in
    (d.exports ≡ suc (length w.exports.list)) × AreCounted w (w.exports.list ++ x ∷ []) d.functions d.nodes
counted-with w sound fine c h x ready none =
    count-law w sound c x.function h.front h.counted (λ i e at. ready-stays w e.function sound (fine.ready i e at))
    (ready-stays w x.function sound ready) x refl none

-- in the world with that export too
pub counted-behind : (w v : StageState) → IsSound w → IsSound v → Grows w v → (d : CountedState) (x : Export) →
    v.exports.list ≡ w.exports.list ++ x ∷ [] →
    (d.exports ≡ suc (length w.exports.list)) × AreCounted w (w.exports.list ++ x ∷ []) d.functions d.nodes → IsCounted v d
counted-behind w v old sound grows d x list h =
    let long : length v.exports.list ≡ length w.exports.list + 1 =
    ap (λ (l : List Export). length l) list ∙ length-append w.exports.list (x ∷ []) in
    let all : take d.exports v.exports.list ≡ w.exports.list ++ x ∷ [] =
    take_all d.exports v.exports.list (omega (arith, h.0, long)) ∙ list in
    record {
      front = omega (arith, h.0, long);
      counted = subst (λ es. AreCounted v es d.functions d.nodes) (sym all)
          (counted-stays v (w.exports.list ++ x ∷ []) d.functions d.nodes sound
          (record { then = w; sound = old; grows = grows; counted = h.1 }));
    }
