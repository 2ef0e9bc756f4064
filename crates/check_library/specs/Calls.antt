-- What a call of a function comes to that may ask for a check or a layout, and how one goes on with the answer.
use Rattle.std.specs.Prelude.{Bool, true, false, List, []}
use Rattle.tl_base.specs.declared.place.Place.{Place}
use Rattle.tl_base.specs.Layer.{State}
use Rattle.lua_value.specs.declared.library.LibFn.{LibFn}
use Rattle.lua_value.specs.declared.library.LibFn.TheVariants.{Global, SizeOf, OffsetOf, SaveObj, Compile, GetType}
use Rattle.lua_value.specs.declared.value.Value.{Value}
use Rattle.lua_table.specs.declared.call.LibCall.{LibCall}
use Rattle.exotype.specs.World.{StageState}
use Rattle.terra_lib.specs.Answers.{gives}
use Rattle.check_model.specs.declared.question.CheckAnswer.{CheckAnswer}
use Rattle.check_library.specs.declared.ask.AskNext.{AskNext}
use Rattle.check_library.specs.declared.ask.AskNext.TheVariants as nexts
use Rattle.check_library.specs.Answers.{Asked, said}
use Rattle.check_library.specs.Layouts.{sizeof_asked, sizeof_backed, offsetof_asked, offsetof_backed, global_asked, global_backed}
use Rattle.check_library.specs.Checks.{compile_asked, compile_backed, gettype_asked, gettype_backed}
use Rattle.check_library.specs.Exports.{saveobj_asked, export_backed}

-- the functions that may ask for a check or a layout
abbrev pub asks : LibFn → Bool
asks Global = true
asks SizeOf = true
asks OffsetOf = true
asks Compile = true
asks GetType = true
asks SaveObj = true
asks _ = false

-- what one of them comes to, given arguments, at the place of its call; any other function gives nothing
abbrev pub answered : State StageState → LibFn → List Value → Place → Asked
answered s Global vs place = global_asked s vs place
answered s SizeOf vs place = sizeof_asked s vs place
answered s OffsetOf vs place = offsetof_asked s vs place
answered s Compile vs place = compile_asked s vs place
answered s GetType vs place = gettype_asked s vs place
answered s SaveObj vs place = saveobj_asked s vs place
answered s f vs place = said (gives s s.world [])

-- what a call comes to
abbrev pub called : State StageState → LibCall → Asked
called s call = answered s call.function call.args call.place

-- what a function comes to that goes on with the answer to its question, at the place of its call
abbrev pub backed : State StageState → AskNext → CheckAnswer → Place → Asked
backed s (nexts.SizeOf t) answer place = sizeof_backed s t answer place
backed s (nexts.OffsetOf t name) answer place = offsetof_backed s t name answer place
backed s (nexts.Global t bits) answer place = global_backed s t bits answer place
backed s nexts.Compile answer place = compile_backed s answer place
backed s (nexts.GetType f) answer place = gettype_backed s f answer place
backed s (nexts.Export next) answer place = export_backed s next answer place
