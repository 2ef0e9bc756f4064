-- The entries of a struct: what its definition gives, and those behind one.
use Rattle.std.proofs.Common.{◌≡◌, ℕ, ◌+◌, Bool, true, false, List, [], refl, sym, ap, ◌∙◌}
use Rattle.std.specs.Prelude.{if◌then◌else◌}
use Rattle.tl_base.specs.declared.ids.EnvId.{EnvId}
use Rattle.tl_base.specs.declared.ids.NodeId.{NodeId}
use Rattle.tl_base.specs.declared.ids.TypeId.{TypeId}
use Rattle.tl_base.specs.Plan.{Give}
use Rattle.tl_tree.specs.Code.{Items}
use Rattle.lua_value.specs.declared.value.Value.TheVariants as values
use Rattle.spec_model.specs.declared.end.End.TheVariants.{Gave}
use Rattle.spec_model.specs.Plans.{SpecPlan}
use Rattle.spec_model.specs.Definitions.{over}
use Rattle.spec_model.specs.Structs.{entries_plan}
use Rattle.spec_machine.specs.declared.frame.EntryFrame.{EntryFrame}
use Rattle.spec_machine.specs.Agreeing.{struct_made}
use Rattle.spec_machine.specs.Frames.{entries_from}

-- what a struct's definition gives
abbrev given_by : Bool → TypeId → SpecPlan
given_by anonymous of = if anonymous then Give (Gave (values.TerraType of)) else over

given_is : (anonymous : Bool) (of : TypeId) → given_by anonymous of ≡ Give (Gave (if anonymous then values.TerraType of else values.Nil))
given_is true of = refl
given_is false of = refl

pub struct_is : (f : EntryFrame) → given_by f.anonymous f.of ≡ Give (Gave (struct_made f))
struct_is f = given_is f.anonymous f.of

-- the entries behind one, in its frame and in the next one
pub next_is : (items : Items) (f next : EntryFrame)
    → next.rest.now ≡ f.rest.now → next.of ≡ f.of → next.number ≡ f.number + 1 → next.env ≡ f.env → next.anonymous ≡ f.anonymous
    → entries_from items f f.rest.now (f.number + 1) ≡ entries_from items next next.rest.now next.number
next_is items f next rest of number env anonymous =
    let plan : List NodeId → TypeId → ℕ → EnvId → Bool → SpecPlan = λ ns t i v b. entries_plan items ns t i v (given_by b t) in
    sym (ap (λ (ns : List NodeId). plan ns next.of next.number next.env next.anonymous) rest
    ∙ ap (λ (t : TypeId). plan f.rest.now t next.number next.env next.anonymous) of
    ∙ ap (λ (i : ℕ). plan f.rest.now f.of i next.env next.anonymous) number
    ∙ ap (λ (v : EnvId). plan f.rest.now f.of (f.number + 1) v next.anonymous) env
    ∙ ap (λ (b : Bool). plan f.rest.now f.of (f.number + 1) f.env b) anonymous)
