-- A source, computed from the plans: `local x = 1 print(x)` asks for `print` with 1, and has paid for its two
-- statements and four
-- expressions.
use Rattle.std.proofs.Common.{◌≡◌, ℕ, pos, [], ◌∷◌, refl, Option, Some, None}
use Rattle.std.specs.Prelude.{codes}
use Rattle.tl_base.specs.declared.ids.NodeId.{NodeId}
use Rattle.tl_base.specs.declared.place.Place.{Place}
use Rattle.tl_base.specs.Layer.{given, Seen, Ended, SpentAt, Asks}
use Rattle.tl_base.specs.Plan.{run_within, run_job}
use Rattle.tl_tree.specs.declared.node.Expression.TheVariants as expressions
use Rattle.tl_tree.specs.declared.node.Statement.TheVariants as statements
use Rattle.tl_tree.specs.declared.node.Piece.TheVariants as pieces
use Rattle.tl_tree.specs.Item as kept
use Rattle.tl_tree.specs.Numbers.{value_of}
use Rattle.lua_value.specs.declared.library.LibFn.TheVariants as library
use Rattle.lua_value.specs.declared.value.Value.TheVariants as values
use Rattle.lua_table.specs.LuaState.{LuaState}
use Rattle.lua_table.specs.Heap.{empty, with_table, with_text, interned_id, with_stored}
use Rattle.lua_model.specs.declared.job.LuaJob.TheVariants as tasks
use Rattle.lua_model.specs.declared.end.LuaEnd.{LuaEnd}
use Rattle.lua_model.specs.declared.question.LuaQuestion.{LuaQuestion}
use Rattle.lua_model.specs.declared.question.LuaQuestion.TheVariants as questions
use Rattle.lua_model.specs.declared.question.LuaAnswer.TheVariants as answers
use Rattle.tl_tree.specs.Code.{Items}
use Rattle.tl_tree.specs.Scopes.{binder}
use Rattle.lua_model.specs.Fields.{globals}
use Rattle.lua_model.specs.Meaning.{lua}

abbrev pub p : ℕ → Place
p w = record { line = 1; word = w }

abbrev pub n : ℕ → NodeId
n i = record { 0 = i }

abbrev pub source : Items
source =
    kept.Name (p 2) 0 (codes "x") ∷ kept.Numeral (p 4) (codes "1") ∷ kept.Statement (p 1) (statements.Local
    (n 0 ∷ []) (n 1 ∷ []))
    ∷ kept.Name (p 5) 0 (codes "print") ∷ kept.Name (p 7) 0 (codes "x") ∷ kept.Expression (p 6) (expressions.Call
    (n 3) (n 4 ∷ []))
    ∷ kept.Statement (p 5) (statements.Call (n 5)) ∷ kept.Piece (pieces.Block (n 2 ∷ n 6 ∷ [])) ∷ []

-- the use of the local, and that of the global
local_is_found : binder source (n 4) ≡ Some (record { depth = 0; position = 0; declaration = n 0 })
local_is_found = refl

global_is_not_found : binder source (n 3) ≡ None
global_is_not_found = refl

-- a heap with `print` among the globals
abbrev pub opening : LuaState
opening =
    let s = with_text (with_table empty) (codes "print") in
    with_stored s globals (values.Text (interned_id s (codes "print"))) (values.Library library.Print)

abbrev pub asked : Seen LuaState LuaQuestion LuaEnd → Option LuaQuestion
asked (Ended r s) = None
asked (SpentAt s) = None
asked (Asks q s) = Some q

abbrev pub left_of : Seen LuaState LuaQuestion LuaEnd → ℕ
left_of (Ended r s) = s.left
left_of (SpentAt s) = s.left
left_of (Asks q s) = s.left

prints_one :
    asked (lua source tasks.Chunk (given answers.Go opening 20) [])
    ≡ Some (questions.Library (record {
      function = library.Print;
      args = values.Number (pos 1) ∷ [];
      place =
          p 6;
      outer = None;
    }))
unfolding run_within run_job value_of
prints_one = refl

pays_six : left_of (lua source tasks.Chunk (given answers.Go opening 20) []) ≡ 14
unfolding run_within run_job value_of
pays_six = refl
