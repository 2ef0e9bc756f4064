-- Definitions, by their parts.
use Rattle.std.proofs.Common.{◌≡◌, Option, Some, None, refl}
use Rattle.tl_base.specs.declared.place.Place.{Place}
use Rattle.terra_term.specs.declared.term.Term.{Term}
use Rattle.terra_term.specs.declared.term.Term.TheVariants as kinds
use Rattle.check_model.specs.declared.site.Site.{Site}
use Rattle.check_model.specs.Bodies.{definition_plan}
use Rattle.check_expr.specs.Functions.{parts_in, parts_plan}

pub parts_mean : (x : Option Term) (at : Place) (site : Site) → definition_plan x at site ≡ parts_plan (parts_in x) at site
parts_mean None at site = refl
parts_mean (Some (kinds.Function ps result body)) at site = refl
parts_mean (Some (kinds.Expression place x)) at site = refl
parts_mean (Some (kinds.Statement place x)) at site = refl
