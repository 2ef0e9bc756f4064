-- What the code has of a running program, and what its calls give, as the meaning has it.
use Rattle.std.specs.Prelude.{◌≡◌, ℕ, suc, List, [], ◌∷◌, map, Result, Ok, Err}
use Rattle.tl_base.specs.declared.place.Place.{Place}
use Rattle.tl_base.specs.declared.ids.FnId.{FnId}
use Rattle.terra_words.specs.Runs as runs
use Rattle.terra_term.specs.declared.operators.Constant.{Constant}
use Rattle.terra_term.specs.declared.operators.Constant.TheVariants as constants
use Rattle.terra_term.specs.Events as events
use Rattle.terra_term.specs.Stores.{Contents, contents_of}
use Rattle.terra_meaning.specs.Frames as frames
use Rattle.terra_meaning.specs.Running.{State, Got, Gives, Ends, counted}
use Rattle.terra_meaning.specs.Meaning as meanings
use Rattle.terra_meaning.specs.Meaning.{Way, Wanted, apply, kept}
use Rattle.terra_eval.specs.declared.stop.Halt.{Halt}
use Rattle.terra_eval.specs.declared.stop.Halt.TheVariants as halts
use Rattle.terra_eval.specs.declared.stop.Stop.{Stop}
use Rattle.terra_eval.specs.declared.stop.Stop.TheVariants as stops
use Rattle.terra_eval.specs.declared.stop.End as code_ends
use Rattle.terra_eval.specs.declared.stop.End.TheVariants as end_kinds
use Rattle.terra_eval.specs.declared.stop.Run as code_runs
use Rattle.terra_eval.specs.declared.stop.Run.TheVariants as run_kinds
use Rattle.terra_eval.specs.declared.events.Event.{Event}
use Rattle.terra_eval.specs.declared.events.Event.TheVariants as event_kinds
use Rattle.terra_eval.specs.declared.frame.Home.{Home}
use Rattle.terra_eval.specs.declared.frame.Home.TheVariants as homes
use Rattle.terra_eval.specs.declared.frame.Frame.{Frame}
use Rattle.terra_eval.specs.declared.call.Call.{Call}
use Rattle.terra_eval.specs.declared.call.Way as code_ways
use Rattle.terra_eval.specs.declared.call.Way.TheVariants as ways
use Rattle.terra_eval.specs.declared.call.Wanted as code_wants
use Rattle.terra_eval.specs.declared.call.Wanted.TheVariants as wants

abbrev pub end_view : code_ends.End → runs.End
end_view (end_kinds.Returned v) = runs.Returned v
end_view (end_kinds.Fault kind at) = runs.Fault kind at
end_view end_kinds.Stuck = runs.Stuck

abbrev pub run_view : code_runs.Run → runs.Run
run_view (run_kinds.Over e out) = runs.Over (end_view e) out.items
run_view (run_kinds.More out) = runs.More out.items

-- how a run that stops ends, with the output so far
abbrev pub halted : Halt → List ℕ → runs.Run
halted (halts.Fault kind at) out = runs.Over (runs.Fault kind at) out
halted halts.Stuck out = runs.Over runs.Stuck out
halted halts.More out = runs.More out

-- a part that the meaning has so ended in this state; want of memory says nothing
abbrev pub Ended : {B : Type 0} → Stop → State → Got B → Type 0
Ended stops.NoMemory s got = Unit {0}
Ended (stops.Halted h) s got = got ≡ Ends (halted h s.out)

-- what a part gave, and the state then
abbrev pub GaveValue : Result runs.Value Stop → State → Got runs.Value → Type 0
GaveValue (Ok v) s got = got ≡ Gives v s
GaveValue (Err e) s got = Ended e s got

-- a part that gives nothing has the value 0
abbrev pub GaveUnit : Result (Unit {0}) Stop → State → Got runs.Value → Type 0
GaveUnit (Ok v) s got = got ≡ Gives (runs.word 0) s
GaveUnit (Err e) s got = Ended e s got

abbrev pub OnlyMemory : Stop → Type 0
OnlyMemory stops.NoMemory = Unit {0}
OnlyMemory (stops.Halted h) = ⊥

-- a value, but for want of memory
abbrev pub GaveJust : Result runs.Value Stop → runs.Value → Type 0
GaveJust (Ok v) value = v ≡ value
GaveJust (Err e) value = OnlyMemory e

-- the values of a list
abbrev pub GaveList : {V : Type 0} → (V → List runs.Value) → Result V Stop → State → Got (List runs.Value) → Type 0
GaveList items (Ok vs) s got = got ≡ Gives (items vs) s
GaveList items (Err e) s got = Ended e s got

-- a call that needs something first
abbrev pub Called : {A : Type 0} → Result A Stop → State → Got runs.Value → (A → Got runs.Value) → Type 0
Called (Ok x) s got call = got ≡ call x
Called (Err e) s got call = Ended e s got

abbrev pub way_of : code_ways.Way → Way
way_of ways.GoesOn = meanings.goes_on
way_of ways.Breaks = meanings.breaks
way_of (ways.GivesBack v) = meanings.gives_back v

abbrev pub GaveWay : Result code_ways.Way Stop → State → Got Way → Type 0
GaveWay (Ok way) s got = got ≡ Gives (way_of way) s
GaveWay (Err e) s got = Ended e s got

abbrev pub want_of : code_wants.Wanted → Wanted
want_of wants.Value = meanings.the_value
want_of wants.Address = meanings.the_address

-- events
abbrev pub event_of : Event → events.Event
event_of event_kinds.Opens = events.Opens
event_of event_kinds.Closes = events.Closes
event_of (event_kinds.Declares x t) = events.Declares x t
event_of (event_kinds.Takes x) = events.Takes x
event_of (event_kinds.Uses at x t) = events.Uses at x t
event_of (event_kinds.Mentions at f) = events.Mentions at f

abbrev pub events_in : List Event → List events.Event
events_in es = map event_of es

abbrev pub mentions_of : Place → Constant → List events.Event
mentions_of at (constants.FnValue f) = events.Mentions at f ∷ []
mentions_of at _ = []

abbrev pub home_of : Home → frames.Home
home_of homes.ByValue = frames.by_value
home_of (homes.InFrame offset) = frames.in_frame offset

abbrev pub frame_view : Frame → frames.Frame
frame_view f = record { homes = map home_of f.homes.items; size = f.size }

-- a call gives this to a function that counts it, below so many callers
abbrev pub call_from : Contents → List FnId → (turns depth base : ℕ) → FnId → List runs.Value → Place → State → Got runs.Value
call_from store entries turns depth base f vs place s =
    counted s (λ s'. kept s.variables (apply store entries turns (suc depth) base f vs place s'))

abbrev pub call_of : Call → meanings.Call
call_of c = record {
  store = contents_of c.store.now;
  entries = c.entries.now;
  call = call_from (contents_of c.store.now) c.entries.now c.turns c.depth c.base;
  base = c.base;
  homes = map home_of c.homes.now;
  turns = suc c.turns;
}
