-- Values as statements: what a quote has of them, and the step that they come to.
use Rattle.std.specs.Prelude.{List, Option, Some, None}
use Rattle.tl_base.specs.declared.ids.TermId.{TermId}
use Rattle.tl_base.specs.declared.machine.Step.TheVariants.{Return}
use Rattle.terra_term.specs.declared.store.Quote.{Quote}
use Rattle.terra_term.specs.declared.store.Quote.TheVariants as quotes
use Rattle.spec_model.specs.declared.end.End.TheVariants.{Joined}
use Rattle.spec_machine.specs.declared.reached.Reached.{Reached}
use Rattle.spec_machine.specs.declared.reached.Reached.TheVariants.{Value, Left}
use Rattle.spec_machine.specs.Steps.{SpecStep}

abbrev pub statements_in : Option Quote → Option (List TermId)
statements_in (Some (quotes.Statements ts)) = Some ts
statements_in _ = None

abbrev pub joined_step : Reached (List TermId) → SpecStep
joined_step (Value ts) = Return (Joined ts)
joined_step (Left step) = step
