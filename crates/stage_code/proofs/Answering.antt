-- Answers of the stage as answers of the specialisation of Terra code.
use Rattle.std.proofs.Common.{◌≡◌, false, refl}
use Rattle.lua_model.specs.declared.question.LuaAnswer.{LuaAnswer}
use Rattle.lua_model.specs.declared.question.LuaAnswer.TheVariants.{Go, Values, Raise}
use Rattle.lua_eval.specs.Frames.{is_go}
use Rattle.spec_machine.specs.Frames.{is_go as is_spec_go}
use Rattle.stage_code.specs.Layers.{spec_answer}

-- an answer that begins no layer begins no specialisation
pub spec_answers : (a : LuaAnswer) → is_go a ≡ false → is_spec_go (spec_answer a) ≡ false
spec_answers Go h = cc
spec_answers (Values vs) h = refl
spec_answers (Raise v place) h = refl
