use Rattle.std.proofs.Common.{List}
use Rattle.terra_term.specs.Events as events
use Rattle.terra_eval.proofs.frame.lay.Goals as goal

pub returns-in-Declares : goal.returns-in-Declares
returns-in-Declares c = rw c.in-Declares.is (λ (later : List events.Event). c.place.ensures c.in-Declares.field-0 later)
