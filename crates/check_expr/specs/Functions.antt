-- What stands in the definition of a function.
use Rattle.std.specs.Prelude.{[], Option, Some, None, unwrap_or, if◌then◌else◌}
use Rattle.tl_base.specs.declared.ids.TermId.{TermId}
use Rattle.tl_base.specs.declared.ids.TypeId.{TypeId}
use Rattle.tl_base.specs.declared.place.Place.{Place}
use Rattle.tl_base.specs.Plan.{Pay, Give}
use Rattle.terra_types.specs.Opening.{unit}
use Rattle.terra_term.specs.declared.refusal.RefusalKind.TheVariants.{Undefined, TooLarge}
use Rattle.terra_term.specs.declared.term.Term.{Term}
use Rattle.terra_term.specs.declared.term.Term.TheVariants as kinds
use Rattle.check_model.specs.declared.site.Site.{Site}
use Rattle.exotype.specs.Terms.{typed_size}
use Rattle.check_model.specs.declared.end.PartEnd.TheVariants as parts
use Rattle.check_model.specs.Plans.{BodyPlan, refuse, reading}
use Rattle.check_model.specs.Expressions.{statements}
use Rattle.check_model.specs.Bodies.{parameters, names_of, made_function, is_too_large}
use Rattle.check_expr.specs.declared.functions.Definition.{Definition}

abbrev pub parts_in : Option Term → Option Definition
parts_in (Some (kinds.Function ps result body)) =
    Some (record { parameters = ps; named = names_of ps; written = result; body = body })
parts_in _ = None

-- the plan of a definition, by its parts
abbrev pub parts_plan : Option Definition → Place → Site → BodyPlan
parts_plan None at site = refuse Undefined at site
parts_plan (Some d) at site =
    Pay 1 (parameters d.parameters (record site { result = d.written })
    (statements d.body (record site { result = d.written }) [] (λ typed found.
    made_function d.named (unwrap_or found unit) typed at site)))

-- the end of a function's node, unless it is too large
abbrev pub small_plan : TermId → TypeId → Place → Site → BodyPlan
small_plan id of at site =
    reading (λ w. if is_too_large (typed_size w id) then refuse TooLarge at site else Give (parts.Stated id (Some of)))
