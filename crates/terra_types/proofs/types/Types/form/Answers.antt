-- The form of a type is that of its entry in the table.
use Rattle.std.proofs.Common.{◌∙◌, ap}
use Rattle.std.specs.Option.{option_map}
use Rattle.terra_types.proofs.Held.{form_of-entries}
use Rattle.terra_types.proofs.types.Types.form.Goals as goal

pub returns-in-Some : goal.returns-in-Some
returns-in-Some c = rw (← c.self.view_is) (ap (option_map (λ k. k.form)) c.in-Some.ensures ∙ form_of-entries c.self.inside.table.entries c.args.t.0)

pub returns-in-None : goal.returns-in-None
returns-in-None c = rw (← c.self.view_is) (ap (option_map (λ k. k.form)) c.in-None.ensures ∙ form_of-entries c.self.inside.table.entries c.args.t.0)
