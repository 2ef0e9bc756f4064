-- What a layout keeps, by nothing, and by one step and the next: the laws that the machine's `keeps` has.
use Rattle.std.proofs.Common.{ℕ, List, Option, Some, None, refl, subst, ◌∙◌, ap}
use Rattle.tl_base.specs.declared.place.Place.{Place}
use Rattle.terra_types.specs.declared.layout.Layout.{Layout}
use Rattle.terra_types.specs.declared.types.TypeForm.{TypeForm}
use Rattle.terra_types.specs.declared.types.TypeForm.TheVariants as forms
use Rattle.terra_types.specs.Keeping.{KeepsForm, KeepsTypes}
use Rattle.terra_term.specs.Held.{Held, with_types}
use Rattle.exotype.specs.World.{StageState}
use Rattle.exotype.specs.declared.property.Known.{Known}
use Rattle.exotype.specs.declared.property.Known.TheVariants as known
use Rattle.exotype.specs.Properties.{known_of}
use Rattle.check_model.specs.Keeping.{StaysKnown}
use Rattle.check_flow.specs.Keeping.{KeepsLayouts}

form_stays : (f : TypeForm) → KeepsForm f f
form_stays (forms.Integer i) = refl
form_stays forms.Bool = refl
form_stays forms.Unit = refl
form_stays (forms.Pointer t) = refl
form_stays (forms.Array t n) = refl
form_stays (forms.Function ps r) = refl
form_stays (forms.Struct n p None) = (None, refl)
form_stays (forms.Struct n p (Some l)) = refl

laid_then : (n : ℕ) (p : Place) (layout : Option Layout) (c : TypeForm)
    → KeepsForm (forms.Struct n p layout) c → KeepsForm (forms.Struct n p None) c
laid_then n p None c g = g
laid_then n p (Some l) c g = (Some l, g)

form_then : (a b c : TypeForm) → KeepsForm a b → KeepsForm b c → KeepsForm a c
form_then (forms.Integer i) b c f g = subst (λ x. KeepsForm x c) f g
form_then forms.Bool b c f g = subst (λ x. KeepsForm x c) f g
form_then forms.Unit b c f g = subst (λ x. KeepsForm x c) f g
form_then (forms.Pointer t) b c f g = subst (λ x. KeepsForm x c) f g
form_then (forms.Array t n) b c f g = subst (λ x. KeepsForm x c) f g
form_then (forms.Function ps r) b c f g = subst (λ x. KeepsForm x c) f g
form_then (forms.Struct n p None) b c f g = laid_then n p f.0 c (subst (λ x. KeepsForm x c) f.1 g)
form_then (forms.Struct n p (Some l)) b c f g = subst (λ x. KeepsForm x c) f g

types_then : (a b c : List TypeForm) → KeepsTypes a b → KeepsTypes b c → KeepsTypes a c
types_then a b c f g i form at =
    let first = f i form at in
    let second = g i first.0 first.1.0 in
    (second.0, (second.1.0, form_then form first.0 second.0 first.1.1 second.1.1))

known_stays : (k : Known) → StaysKnown k k
known_stays known.Unasked = tt
known_stays known.Asked = tt
known_stays (known.Value v) = refl
known_stays (known.Refused kind) = refl

known_then : (a b c : Known) → StaysKnown a b → StaysKnown b c → StaysKnown a c
known_then known.Unasked b c f g = tt
known_then known.Asked b c f g = tt
known_then (known.Value v) b c f g = subst (λ x. StaysKnown x c) f g
known_then (known.Refused kind) b c f g = subst (λ x. StaysKnown x c) f g

pub keeps_itself : (w : StageState) → KeepsLayouts w w
keeps_itself w = record {
  types = λ i form at. (form, (at, form_stays form));
  store = refl;
  known = λ p. known_stays (known_of w.kept p);
  structs = refl;
  heap = refl;
  exports = refl;
  memory = refl;
}

pub keeps_then : (u v w : StageState) → KeepsLayouts u v → KeepsLayouts v w → KeepsLayouts u w
keeps_then u v w f g = record {
  types = types_then u.store.types v.store.types w.store.types f.types g.types;
  store = g.store ∙ ap (λ (s : Held). with_types s w.store.types) f.store;
  known = λ p. known_then (known_of u.kept p) (known_of v.kept p) (known_of w.kept p) (f.known p) (g.known p);
  structs = g.structs ∙ f.structs;
  heap = g.heap ∙ f.heap;
  exports = g.exports ∙ f.exports;
  memory = g.memory ∙ f.memory;
}
