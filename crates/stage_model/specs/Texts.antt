-- What is written of a source's staging with checks.
use Rattle.std.specs.Prelude.{ℕ, suc, ◌≡◌, List, [], ◌∷◌, ◌++◌, Option, Some, None, codes}
use Rattle.std.specs.Fmt.{decimal}
use Rattle.tl_base.specs.declared.ids.FnId.{FnId}
use Rattle.tl_base.specs.declared.ids.TypeId.{TypeId}
use Rattle.tl_base.specs.declared.place.Place.{Place}
use Rattle.tl_tree.specs.Code.{Items}
use Rattle.terra_types.specs.declared.types.TypeForm.{TypeForm}
use Rattle.terra_types.specs.declared.types.TypeForm.TheVariants as forms
use Rattle.terra_term.specs.declared.refusal.Refusal.{Refusal}
use Rattle.terra_term.specs.declared.store.Function.{Function}
use Rattle.terra_term.specs.TermText.{type_made, type_texts}
use Rattle.exotype.specs.World.{StageState}
use Rattle.check_model.specs.declared.known.KnownResult.{KnownResult}
use Rattle.check_model.specs.declared.known.KnownResult.TheVariants.{Is}
use Rattle.check_model.specs.Typing.{function_at}
use Rattle.check_model.specs.Calls.{parameters_of, result_of}
use Rattle.check_library.specs.Answers.{kind_text}
use Rattle.stage_text.specs.Terms.{terms_text}
use Rattle.stage_model.specs.declared.staging.CheckLine.{CheckLine}
use Rattle.stage_model.specs.declared.staging.Mode.TheVariants.{Exports, CheckAll}
use Rattle.stage_model.specs.declared.texts.Written.{Written}
use Rattle.stage_model.specs.Staging.{Ending, outcome}
pub use Rattle.stage_model.specs.Places.{place_text}

-- ---- the lines of checks

-- functions are numbered from 1
abbrev pub number_text : FnId → List ℕ
number_text f = decimal (suc f.0)

-- the place of a function, behind its number
abbrev pub placed : Option Function → List ℕ
placed None = []
placed (Some g) = codes " at " ++ place_text g.place

-- the type of functions of these parameters and this result, where both are known; it needn't be a type that is there
abbrev pub type_if_known : List TypeForm → Option (List TypeId) → KnownResult → List ℕ
type_if_known types (Some params) (Is result) = type_made (type_texts types) (forms.Function params result)
type_if_known types params result = []

-- a function without a refusal has a type
abbrev pub function_type : StageState → FnId → List ℕ
function_type w f = type_if_known w.store.types (parameters_of w f) (result_of w f)

-- a refusal has its own place, and the function in whose body it is
abbrev pub refusal_text : Refusal → List ℕ
refusal_text why =
    codes "refused " ++ kind_text why.kind ++ codes " at " ++ place_text why.place
    ++ codes " in function " ++ number_text why.function

abbrev pub verdict : StageState → FnId → Option Refusal → List ℕ
verdict w f None = codes "ok " ++ function_type w f
verdict w f (Some why) = refusal_text why

abbrev pub check_text : StageState → CheckLine → List ℕ
check_text w line =
    codes "function " ++ number_text line.function ++ placed (function_at w line.function) ++ codes ": "
    ++ verdict w line.function line.refusal ++ codes "\n"

abbrev pub checks_text : StageState → List CheckLine → List ℕ
checks_text w [] = []
checks_text w (line ∷ lines) = check_text w line ++ checks_text w lines

-- ---- what is written

-- The texts are those of the ending to which the staging comes: what was printed until then, how it ended, and the lines
-- of the checks that were made, with types as they are known then.
pub record AreChecks (items : Items) (place : Place) (units memory : ℕ) (it : Written) : Type 0 where
  pub n : ℕ
  pub ending : Ending
  pub comes : outcome items place CheckAll n units memory ≡ Some ending
  pub printed : it.printed ≡ ending.left.world.typing.stage.heap.printed
  pub end : it.end ≡ ending.end
  pub lines : it.lines ≡ checks_text ending.left.world.typing.stage ending.lines

-- the same where exports are made: the lines are those of the exports that there are then and of their terms
pub record AreTerms (items : Items) (place : Place) (units memory : ℕ) (it : Written) : Type 0 where
  pub n : ℕ
  pub ending : Ending
  pub comes : outcome items place Exports n units memory ≡ Some ending
  pub printed : it.printed ≡ ending.left.world.typing.stage.heap.printed
  pub end : it.end ≡ ending.end
  pub lines : it.lines ≡ terms_text ending.left.world.typing.stage.store ending.left.world.typing.stage.exports.list
