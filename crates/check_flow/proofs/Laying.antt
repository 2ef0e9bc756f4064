-- What the steps of layouts do that ask.
use Rattle.std.proofs.Common.{◌≡◌, ℕ, List, [], ◌∷◌, ◌++◌, refl, sym, ap, ◌∙◌}
use Rattle.tl_base.specs.declared.ids.TypeId.{TypeId}
use Rattle.tl_base.specs.declared.place.Place.{Place}
use Rattle.tl_base.specs.declared.machine.Step.TheVariants.{Stop}
use Rattle.tl_base.specs.Layer.{state}
use Rattle.tl_base.specs.Plan.{AskFor}
use Rattle.tl_base.specs.Machine.{plug, plan_run, ask}
use Rattle.lua_value.specs.declared.value.Value.{Value}
use Rattle.lua_value.specs.declared.value.Value.TheVariants as values
use Rattle.terra_types.specs.declared.layout.Entry.{Entry}
use Rattle.terra_types.specs.declared.types.TypeForm.{TypeForm}
use Rattle.terra_types.specs.declared.types.TypeForm.TheVariants as forms
use Rattle.exotype.specs.World.{StageState}
use Rattle.check_model.specs.declared.question.LayoutQuestion.{LayoutQuestion}
use Rattle.check_model.specs.declared.question.LayoutQuestion.TheVariants.{CallLua, LayoutOf}
use Rattle.check_model.specs.Layouts.{by_form, on_values}
use Rattle.check_flow.specs.declared.layout_frame.LayoutFrame.{LayoutFrame}
use Rattle.check_flow.specs.declared.layout_frame.LayoutFrame.TheVariants as frames
use Rattle.check_flow.specs.declared.layout_steps.Kind.TheVariants as kinds
use Rattle.check_flow.specs.Kinds.{kind_in}
use Rattle.check_flow.specs.LayoutFrames.{layout_rules, parts_from, after}
use Rattle.check_flow.specs.Steps.{LaysOn}
use Rattle.check_flow.proofs.Asking.{asks}

-- a question below the frame that goes on with its answer
pub asks_below : (fs pushed : List LayoutFrame) (f : LayoutFrame) (q : LayoutQuestion) (w : StageState) (left : ℕ)
    → pushed ≡ fs ++ f ∷ [] → LaysOn fs (AskFor q (λ a. after f a)) w left pushed (Stop q) w left
asks_below fs pushed f q w left is = asks layout_rules fs pushed f q (λ a. after f a) (state w left) (λ a. refl) is

-- Lua's entries of a struct
pub asks_lua : (fs pushed : List LayoutFrame) (h : Value) (t : TypeId) (vs : List Value) (at : Place) (w : StageState) (left : ℕ)
    → vs ≡ values.TerraType t ∷ [] → pushed ≡ fs ++ frames.Asked t at ∷ []
    → LaysOn fs (AskFor (CallLua h (values.TerraType t ∷ []) at) (λ a. on_values a t at)) w left pushed (Stop (CallLua h vs at)) w left
asks_lua fs pushed h t vs at w left same is = λ later.
    asks_below fs pushed (frames.Asked t at) (CallLua h (values.TerraType t ∷ []) at) w left is later
    ∙ ap (λ (us : List Value). plug layout_rules pushed (plan_run layout_rules (ask layout_rules (CallLua h us at)) (state w left) later)) (sym same)

-- the layout of an entry's type
pub asks_part : (fs pushed : List LayoutFrame) (t : TypeId) (v : Value) (xs rest all : List Entry) (x : Entry) (at : Place) (w : StageState) (left : ℕ)
    → xs ≡ x ∷ rest → pushed ≡ fs ++ frames.Part t v rest all at ∷ []
    → LaysOn fs (parts_from t v xs all at) w left pushed (Stop (LayoutOf x.of at)) w left
asks_part fs pushed t v xs rest all x at w left taken is = λ later.
    ap (λ (es : List Entry). plug layout_rules fs (plan_run layout_rules (parts_from t v es all at) (state w left) later)) taken
    ∙ asks_below fs pushed (frames.Part t v rest all at) (LayoutOf x.of at) w left is later

asks_elements : (fs pushed : List LayoutFrame) (t of : TypeId) (n : ℕ) (at : Place) (w : StageState) (left : ℕ)
    → pushed ≡ fs ++ frames.Elements t ∷ [] → LaysOn fs (by_form w (forms.Array of n) t at) w left pushed (Stop (LayoutOf of at)) w left
asks_elements fs pushed t of n at w left is = asks_below fs pushed (frames.Elements t) (LayoutOf of at) w left is

same_elements : (a b : TypeId) → kinds.Array a ≡ kinds.Array b → a ≡ b
same_elements a b is = cc

-- the layout of the type of an array's elements
pub form_asked : (fs pushed : List LayoutFrame) (form : TypeForm) (t of : TypeId) (at : Place) (w : StageState) (left : ℕ)
    → kinds.Array of ≡ kind_in form → pushed ≡ fs ++ frames.Elements t ∷ []
    → LaysOn fs (by_form w form t at) w left pushed (Stop (LayoutOf of at)) w left
form_asked fs pushed (forms.Array u n) t of at w left is pushes =
    asks_elements_of u (same_elements of u is)
  where
    asks_elements_of : (v : TypeId) → of ≡ v → LaysOn fs (by_form w (forms.Array v n) t at) w left pushed (Stop (LayoutOf of at)) w left
    asks_elements_of v same = λ later.
        ap (λ (x : TypeId). plug layout_rules fs (plan_run layout_rules (by_form w (forms.Array x n) t at) (state w left) later)) (sym same)
        ∙ asks_elements fs pushed t of n at w left pushes later
form_asked fs pushed (forms.Struct number place layout) t of at w left is pushes = absurd (cc)
form_asked fs pushed (forms.Integer i) t of at w left is pushes = absurd (cc)
form_asked fs pushed forms.Bool t of at w left is pushes = absurd (cc)
form_asked fs pushed forms.Unit t of at w left is pushes = absurd (cc)
form_asked fs pushed (forms.Pointer u) t of at w left is pushes = absurd (cc)
form_asked fs pushed (forms.Function ps r) t of at w left is pushes = absurd (cc)
