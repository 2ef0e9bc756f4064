-- Examples: a quote of a number, and an escape, computed by the checker.
use Rattle.std.specs.Prelude.{◌≡◌, ℕ, [], ◌∷◌, codes, refl, Option, Some, None, false}
use Rattle.tl_base.specs.declared.ids.NodeId.{NodeId}
use Rattle.tl_base.specs.declared.place.Place.{Place}
use Rattle.tl_base.specs.Layer.{given, Seen, Ended, SpentAt, Asks}
use Rattle.tl_base.specs.Plan.{run_within, run_job}
use Rattle.tl_tree.specs.declared.node.Expression.TheVariants as expressions
use Rattle.tl_tree.specs.declared.node.TerraExpression.TheVariants as terra_expressions
use Rattle.tl_tree.specs.Item as kept
use Rattle.tl_tree.specs.Numbers.{value_of}
use Rattle.lua_value.specs.declared.value.Value.TheVariants as values
use Rattle.lua_table.specs.Heap.{with_env}
use Rattle.terra_types.specs.Opening.{opening_types}
use Rattle.exotype.specs.World.{StageState, opening, with_heap}
use Rattle.tl_tree.specs.Code.{Items}
use Rattle.spec_model.specs.declared.end.SpecEnd.{SpecEnd}
use Rattle.spec_model.specs.declared.end.SpecEnd.TheVariants as ends
use Rattle.spec_model.specs.declared.question.SpecQuestion.{SpecQuestion}
use Rattle.spec_model.specs.declared.question.SpecQuestion.TheVariants as questions
use Rattle.spec_model.specs.declared.question.SpecAnswer.TheVariants as answers
use Rattle.spec_model.specs.Meaning.{spec}

abbrev p : ℕ → Place
p w = record { line = 1; word = w }

abbrev n : ℕ → NodeId
n i = record { 0 = i }

abbrev world : StageState
world = let w = opening opening_types 1048576 in with_heap w (with_env w.heap (n 0) None)

abbrev ended : Seen StageState SpecQuestion SpecEnd → Option SpecEnd
ended (Ended r s) = Some r
ended (SpentAt s) = None
ended (Asks q s) = None

abbrev asked : Seen StageState SpecQuestion SpecEnd → Option SpecQuestion
asked (Ended r s) = None
asked (SpentAt s) = None
asked (Asks q s) = Some q

abbrev left_of : Seen StageState SpecQuestion SpecEnd → ℕ
left_of (Ended r s) = s.left
left_of (SpentAt s) = s.left
left_of (Asks q s) = s.left

-- `1` behind a backtick
abbrev number : Items
number = kept.Numeral (p 2) (codes "1") ∷ kept.Expression (p 1) (expressions.Backtick (n 0)) ∷ []

gives_a_quote :
    ended (spec number (record { node = n 1; env = record { 0 = 0 } }) (given answers.Go world 5) [])
    ≡ Some (ends.Done (values.Quote (record { 0 = 0 })))
unfolding run_within run_job value_of
gives_a_quote = refl

pays_one : left_of (spec number (record { node = n 1; env = record { 0 = 0 } }) (given answers.Go world 5) []) ≡ 4
unfolding run_within run_job value_of
pays_one = refl

-- `[1]` behind a backtick
abbrev escape : Items
escape =
    kept.Numeral (p 3) (codes "1") ∷ kept.TerraExpression (p 2) (terra_expressions.Escape (n 0))
    ∷ kept.Expression (p 1) (expressions.Backtick (n 1)) ∷ []

asks_for_one :
    asked (spec escape (record { node = n 2; env = record { 0 = 0 } }) (given answers.Go world 5) [])
    ≡ Some (questions.Eval (n 0) (record { 0 = 0 }))
unfolding run_within run_job
asks_for_one = refl
