use Rattle.std.proofs.Common.{List}
use Rattle.terra_term.specs.Events as events
use Rattle.terra_eval.proofs.laying.Scopes.step.Goals as goal

pub returns-in-Declares : goal.returns-in-Declares
returns-in-Declares c = rw c.in-Declares.is (λ (later : List events.Event). c.declare.ensures later c.in-Declares.field-1)
