-- What a staging that is done gives to compiling.
use Rattle.std.proofs.Common.{◌≡◌, ℕ, Some, sym, subst}
use Rattle.tl_base.specs.declared.limits.Limits.{Limits}
use Rattle.tl_base.specs.declared.place.Place.{Place}
use Rattle.tl_base.specs.Limits.{IsLimits}
use Rattle.tl_tree.specs.Code.{Items}
use Rattle.terra_term.specs.Stores.{contents_of}
use Rattle.spec_sound.specs.Sound.{ArePlaced}
use Rattle.stage_model.specs.declared.staging.End.TheVariants.{Done}
use Rattle.stage_model.specs.declared.staging.Mode.TheVariants.{Exports}
use Rattle.stage_model.specs.Staging.{Ending, outcome}
use Rattle.stage_sound.specs.Promises.{IsWhole}
use Rattle.stage_sound.proofs.Promises.{stagings-end-sound}
use Rattle.stage_image.specs.Emitted.{CanCompile}
use Rattle.stage_image.proofs.Compiling.{compilable}

pub can_compile : (items : Items) → ArePlaced items → (place : Place) (n : ℕ) (limits : Limits) (out : Ending) → IsLimits limits →
    outcome items place Exports n limits.budget limits.memory ≡ Some out → out.end ≡ Done →
    CanCompile (contents_of out.left.world.typing.stage.store) out.left.world.typing.stage.exports.list limits
can_compile items placed place n limits out are comes done =
    let whole : IsWhole out.end = subst IsWhole (sym done) tt in
    let ends = stagings-end-sound items placed place Exports n limits.budget limits.memory out are.most_memory comes whole in
    compilable out.left.world.typing.stage ends.sound ends.exports ends.fine limits are ends.memory
