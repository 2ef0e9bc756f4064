-- The texts of bytes, and errors that are raised with one.
use Rattle.std.proofs.Common.{◌≡◌, ℕ, ◌-◌, ◌≤◌, ◌<◌, Bool, true, false, List, length, refl, sym, ap, subst, ◌∙◌, arith}
use Rattle.std.proofs.lemmas.Bool.Decides.{nat_tests}
use Rattle.std.specs.Prelude.{nat_le, if◌then◌else◌}
use Rattle.tl_base.specs.declared.ids.TextId.{TextId}
use Rattle.tl_base.specs.declared.place.Place.{Place}
use Rattle.tl_base.specs.declared.machine.Step.TheVariants.{Return, Spent}
use Rattle.tl_base.specs.Layer.{State, state}
use Rattle.tl_base.specs.Plan.{Give, Read, Write, Pay, run}
use Rattle.tl_tree.specs.Code.{Items}
use Rattle.lua_value.specs.declared.value.Value.TheVariants as values
use Rattle.lua_table.specs.Heap.{interned_id, with_text}
use Rattle.lua_model.specs.Plans.{text_units}
use Rattle.exotype.specs.declared.fault.Fault.{Fault}
use Rattle.exotype.specs.World.{StageState, with_heap}
use Rattle.spec_model.specs.declared.end.End.TheVariants.{Raised}
use Rattle.spec_model.specs.Plans.{SpecPlan, with_text_of, error_text, raise}
use Rattle.spec_machine.specs.declared.frame.SpecFrame.{SpecFrame}
use Rattle.spec_machine.specs.Steps.{SpecStep, Goes, Gets}
use Rattle.spec_machine.proofs.Doing.{moved, returns, pays, lacks, gets}

-- the plan by the test whether texts may be so long
abbrev text_by : Bool → List ℕ → (TextId → SpecPlan) → SpecPlan
text_by short bytes go =
    if short then Read (λ w. Write (with_heap w (with_text w.heap bytes)) (go (interned_id w.heap bytes))) else go (record { 0 = 0 })

is_short : (n : ℕ) → n ≤ 65535 → nat_le n 65535 ≡ true
is_short n h = grind (arith, nat_tests)

is_long : (n : ℕ) → 65535 < n → nat_le n 65535 ≡ false
is_long n h = grind (arith, nat_tests)

pub text_got : (bytes : List ℕ) (w v : StageState) (id : TextId)
    → length bytes ≤ 65535 → id ≡ interned_id w.heap bytes → v ≡ with_heap w (with_text w.heap bytes)
    → Gets (λ go. with_text_of bytes go) w id v
text_got bytes w v id short named made = λ f go left later.
    ap (λ (b : Bool). run f (text_by b bytes go) (state w left) later) (is_short (length bytes) short)
    ∙ ap (λ (i : TextId). run f (go i) (state (with_heap w (with_text w.heap bytes)) left) later) (sym named)
    ∙ ap (λ (u : StageState). run f (go id) (state u left) later) (sym made)

pub text_refused : (bytes : List ℕ) (w : StageState) → 65535 < length bytes → Gets (λ go. with_text_of bytes go) w (record { 0 = 0 }) w
text_refused bytes w long = λ f go left later.
    ap (λ (b : Bool). run f (text_by b bytes go) (state w left) later) (is_long (length bytes) long)

-- an error with a text of these bytes
abbrev raise_with : List ℕ → Place → SpecPlan
raise_with bytes place = Pay (text_units (length bytes)) (with_text_of bytes (λ text. Give (Raised (values.Text text) place)))

pub raises : (items : Items) (fs : List SpecFrame) (place : Place) (fault : Fault) (bytes : List ℕ) (id : TextId) (w v : StageState)
    (left after : ℕ)
    → bytes ≡ error_text place fault → text_units (length bytes) ≤ left → after ≡ left - text_units (length bytes)
    → Gets (λ go. with_text_of bytes go) w id v
    → Goes items fs (raise place fault) w left fs (Return (Raised (values.Text id) place)) v after
raises items fs place fault bytes id w v left after is enough paid got =
    let n = text_units (length bytes) in
    let end = λ (text : TextId). Give (Raised (values.Text text) place) in
    let step : SpecStep = Return (Raised (values.Text id) place) in
    moved items fs fs (raise place fault) (raise_with bytes place) w w v left after step
    (ap (λ (bs : List ℕ). raise_with bs place) (sym is)) refl
    (pays items fs fs n (with_text_of bytes end) w v left after after step enough paid
    (gets items fs fs (λ go. with_text_of bytes go) end id w v v after after step got
    (returns items fs (Raised (values.Text id) place) v after)))

pub raises_short : (items : Items) (fs : List SpecFrame) (place : Place) (fault : Fault) (bytes : List ℕ) (w : StageState) (left after : ℕ)
    → bytes ≡ error_text place fault → left < text_units (length bytes) → after ≡ left
    → Goes items fs (raise place fault) w left fs Spent w after
raises_short items fs place fault bytes w left after is short same =
    let n = text_units (length bytes) in
    let end = λ (text : TextId). Give (Raised (values.Text text) place) in
    moved items fs fs (raise place fault) (raise_with bytes place) w w w left after Spent
    (ap (λ (bs : List ℕ). raise_with bs place) (sym is)) refl
    (subst (λ (m : ℕ). Goes items fs (raise_with bytes place) w left fs Spent w m) (sym same) (lacks items fs n (with_text_of bytes end) w left short))
