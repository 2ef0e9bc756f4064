-- Answers of the stage as answers of its layers: one that begins no layer begins none of these.
use Rattle.std.proofs.Common.{◌≡◌, false, refl}
use Rattle.lua_eval.specs.Frames.{is_go as is_lua_go}
use Rattle.check_model.specs.declared.question.CheckAnswer.{CheckAnswer}
use Rattle.check_model.specs.declared.question.CheckAnswer.TheVariants as answers
use Rattle.check_expr.specs.Frames.{is_go}
use Rattle.check_flow.specs.CheckFrames as checks
use Rattle.check_flow.specs.LayoutFrames as layouts
use Rattle.stage_check.specs.Layers.{lua_answer}

pub lua_answers : (a : CheckAnswer) → is_go a ≡ false → is_lua_go (lua_answer a) ≡ false
lua_answers answers.Go h = cc
lua_answers (answers.Values vs) h = refl
lua_answers (answers.Raise v place) h = refl
lua_answers (answers.Result t) h = refl
lua_answers (answers.Refused why) h = refl
lua_answers answers.Done h = refl
lua_answers (answers.NoLayout kind) h = refl

pub check_answers : (a : CheckAnswer) → is_go a ≡ false → checks.is_go a ≡ false
check_answers answers.Go h = cc
check_answers (answers.Values vs) h = refl
check_answers (answers.Raise v place) h = refl
check_answers (answers.Result t) h = refl
check_answers (answers.Refused why) h = refl
check_answers answers.Done h = refl
check_answers (answers.NoLayout kind) h = refl

pub layout_answers : (a : CheckAnswer) → is_go a ≡ false → layouts.is_go a ≡ false
layout_answers answers.Go h = cc
layout_answers (answers.Values vs) h = refl
layout_answers (answers.Raise v place) h = refl
layout_answers (answers.Result t) h = refl
layout_answers (answers.Refused why) h = refl
layout_answers answers.Done h = refl
layout_answers (answers.NoLayout kind) h = refl
