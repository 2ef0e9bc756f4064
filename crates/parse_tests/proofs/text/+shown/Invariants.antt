use Rattle.std.proofs.Common.{◌+◌, ◌*◌}
use Rattle.parse_tests.proofs.text.+shown.Given as goal

abbrev pub decreases-node : goal.decreases-node
decreases-node l = 8 * l.id.0 + 7

abbrev pub decreases-expression : goal.decreases-expression
decreases-expression l = 8 * l.id.0 + 6

abbrev pub decreases-terra_expression : goal.decreases-terra_expression
decreases-terra_expression l = 8 * l.id.0 + 6

abbrev pub decreases-statement : goal.decreases-statement
decreases-statement l = 8 * l.id.0 + 6

abbrev pub decreases-terra_statement : goal.decreases-terra_statement
decreases-terra_statement l = 8 * l.id.0 + 6

abbrev pub decreases-piece : goal.decreases-piece
decreases-piece l = 8 * l.id.0 + 6

abbrev pub decreases-definition : goal.decreases-definition
decreases-definition l = 8 * l.id.0 + 5

abbrev pub decreases-choice : goal.decreases-choice
decreases-choice l = 8 * l.id.0 + 4

abbrev pub decreases-counted : goal.decreases-counted
decreases-counted l = 8 * l.id.0 + 4

abbrev pub decreases-body : goal.decreases-body
decreases-body l = 8 * l.id.0 + 4

abbrev pub decreases-terra_body : goal.decreases-terra_body
decreases-terra_body l = 8 * l.id.0 + 4

abbrev pub decreases-applied : goal.decreases-applied
decreases-applied l = 8 * l.parent.0 + 4

abbrev pub decreases-lists : goal.decreases-lists
decreases-lists l = 8 * l.parent.0 + 4

abbrev pub decreases-pair : goal.decreases-pair
decreases-pair l = 8 * l.id.0 + 4

abbrev pub decreases-form : goal.decreases-form
decreases-form l = 8 * l.parent.0 + 3

abbrev pub decreases-list : goal.decreases-list
decreases-list l = 8 * l.parent.0 + 2

abbrev pub decreases-nodes : goal.decreases-nodes
decreases-nodes l = 8 * l.parent.0 + 1
