-- Functions of the library that ask for checks or for a layout, and the exports at the end of the chunk, as layers of the stage.
use Rattle.std.specs.Prelude.{List, [], ◌∷◌, Option, Some, None}
use Rattle.tl_base.specs.declared.place.Place.{Place}
use Rattle.tl_base.specs.Layer.{State, Given, Seen, Ended, SpentAt, Asks, Meaning}
use Rattle.lua_table.specs.declared.call.LibCall.{LibCall}
use Rattle.check_model.specs.declared.question.CheckAnswer.{CheckAnswer}
use Rattle.exotype.specs.World.{StageState}
use Rattle.lua_table.specs.declared.call.LibTurn.{LibTurn}
use Rattle.lua_table.specs.declared.call.LibTurn.TheVariants as turns
use Rattle.check_library.specs.declared.ask.AskTurn.{AskTurn}
use Rattle.check_library.specs.declared.ask.AskTurn.TheVariants as asks
use Rattle.check_library.specs.declared.ask.AskNext.{AskNext}
use Rattle.check_library.specs.Answers as library
use Rattle.check_library.specs.Calls as calls
use Rattle.check_library.specs.Exports.{chunk_ended}
use Rattle.stage_check.specs.declared.jobs.Job.{Job}
use Rattle.stage_check.specs.declared.jobs.Job.TheVariants as jobs
use Rattle.stage_check.specs.declared.jobs.JobEnd.{JobEnd}
use Rattle.stage_check.specs.declared.jobs.JobEnd.TheVariants as ends
use Rattle.stage_check.specs.declared.asking.Asker.{Asker}
use Rattle.stage_check.specs.declared.asking.Asker.TheVariants as begins
use Rattle.stage_check.specs.declared.asking.Asking.{Asking}

-- what begins
abbrev pub begun : Asker → State StageState → library.Asked
begun (begins.Call call) s = calls.called s call
begun (begins.Export place) s = chunk_ended s place

-- the place at which it asks
abbrev pub place_of : Asker → Place
place_of (begins.Call call) = call.place
place_of (begins.Export place) = place

-- an end; a function that asks neither calls a function of Lua nor asks for a text
abbrev pub end_seen : LibTurn → State StageState → Seen StageState Job JobEnd
end_seen (turns.Values vs) s = Ended (ends.Values vs) s
end_seen (turns.Raise v at) s = Ended (ends.Raised v at) s
end_seen turns.Spent s = SpentAt s
end_seen turn s = Ended (ends.Values []) s

-- what shows of what it comes to; a layout is asked for at its place
abbrev pub turn_seen : Place → AskTurn → State StageState → Seen StageState Job JobEnd
turn_seen place (asks.Turn turn) s = end_seen turn s
turn_seen place (asks.Check f next) s = Asks (jobs.Check f) s
turn_seen place (asks.Layout t next) s = Asks (jobs.Layout t place) s

-- what asks goes on; of the rest so much shows
abbrev pub on_question : AskTurn → Seen StageState Job JobEnd → (AskNext → Seen StageState Job JobEnd) → Seen StageState Job JobEnd
on_question (asks.Check f next) shown go = go next
on_question (asks.Layout t next) shown go = go next
on_question turn shown go = shown

-- what shows of it, given the answers after that
abbrev pub asking_seen : Place → List (Given StageState CheckAnswer) → AskTurn → State StageState → Seen StageState Job JobEnd
asking_seen place [] turn s = turn_seen place turn s
asking_seen place (given ∷ later) turn s =
    on_question turn (turn_seen place turn s) (λ next.
    let left = calls.backed given.state next given.answer place in asking_seen place later left.turn left.left)

-- what comes of an answer where it is to begin, or waits
abbrev pub asking_turned : Asker → Option AskNext → Given StageState CheckAnswer → library.Asked
asking_turned what None first = begun what first.state
asking_turned what (Some next) first = calls.backed first.state next first.answer (place_of what)

abbrev pub asking_going : Asker → Option AskNext → Meaning StageState Job CheckAnswer JobEnd
asking_going what waiting first later =
    let left = asking_turned what waiting first in asking_seen (place_of what) later left.turn left.left

-- what a call of such a function means, and what the exports at the end of the chunk mean
abbrev pub called : LibCall → Meaning StageState Job CheckAnswer JobEnd
called call = asking_going (begins.Call call) None

abbrev pub exporting : Place → Meaning StageState Job CheckAnswer JobEnd
exporting place = asking_going (begins.Export place) None

-- what remains to be done by a layer
abbrev pub asking_rest : Asking → Meaning StageState Job CheckAnswer JobEnd
asking_rest a = asking_going a.what a.waiting
