-- At which place it is raised that exports reach too much.
use Rattle.std.proofs.Common.{◌≡◌, Bool, ap, ◌∙◌}
use Rattle.tl_base.specs.declared.ids.FnId.{FnId}
use Rattle.tl_base.specs.declared.place.Place.{Place}
use Rattle.tl_base.specs.Layer.{State}
use Rattle.terra_term.specs.declared.refusal.RefusalKind.TheVariants.{TooLarge}
use Rattle.exotype.specs.World.{StageState}
use Rattle.check_library.specs.Answers.{said, refused}
use Rattle.check_library.specs.Exports.{place_of_function, raised_at, too_large}

pub refused_past : (s : State StageState) (at_end : Bool) (f : FnId) (own at place : Place) → own ≡ place_of_function s.world f
    → at ≡ raised_at at_end own place → said (refused s TooLarge own at) ≡ too_large s at_end f place
refused_past s at_end f own at place mine raised =
    ap (λ (p : Place). said (refused s TooLarge own p)) raised
    ∙ ap (λ (p : Place). said (refused s TooLarge p (raised_at at_end p place))) mine
