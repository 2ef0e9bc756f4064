-- Functions of the library that ask for checks or for a layout, and the exports at the end of the chunk, as layers of the stage.
use Rattle.std.proofs.Common.{◌≡◌, List, [], ◌∷◌, ◌++◌, None, refl, sym, ap, ◌∙◌, subst}
use Rattle.tl_base.specs.declared.place.Place.{Place}
use Rattle.tl_base.specs.declared.ids.FnId.{FnId}
use Rattle.tl_base.specs.declared.ids.TypeId.{TypeId}
use Rattle.tl_base.specs.Layer.{State, Given, Meaning}
use Rattle.stage_form.specs.Within.{given_part, within}
use Rattle.tl_tree.specs.Code.{Items}
use Rattle.lua_table.specs.declared.call.LibCall.{LibCall}
use Rattle.lua_table.specs.declared.call.LibTurn.{LibTurn}
use Rattle.lua_table.specs.declared.call.LibTurn.TheVariants as turns
use Rattle.exotype.specs.World.{StageState}
use Rattle.check_model.specs.declared.question.CheckAnswer.{CheckAnswer}
use Rattle.check_model.specs.Typing.{TypingState}
use Rattle.check_sound.specs.Sound.{IsSound}
use Rattle.check_library.specs.declared.ask.AskTurn.{AskTurn}
use Rattle.check_library.specs.declared.ask.AskTurn.TheVariants as asks
use Rattle.check_library.specs.declared.ask.AskNext.{AskNext}
use Rattle.check_library.specs.Calls as calls
use Rattle.check_sound.specs.Growing.{WasReady}
use Rattle.check_sound.specs.Layers.{ReachesReady}
use Rattle.check_sound.proofs.Grows.{grows-itself}
use Rattle.library_sound.specs.Leaving.{AskIsFine, AsksSound, FitsAsk}
use Rattle.stage_check.specs.declared.jobs.Job.{Job}
use Rattle.stage_check.specs.declared.jobs.Job.TheVariants as jobs
use Rattle.stage_check.specs.declared.jobs.Asked.{Asked}
use Rattle.stage_check.specs.declared.jobs.Asked.TheVariants as asked
use Rattle.stage_check.specs.declared.jobs.JobEnd.{JobEnd}
use Rattle.stage_check.specs.declared.jobs.JobEnd.TheVariants as ends
use Rattle.stage_check.specs.declared.asking.Asker.{Asker}
use Rattle.stage_check.specs.declared.asking.Asker.TheVariants as begins
use Rattle.stage_check.specs.Asking.{begun, place_of, end_seen, turn_seen, asking_seen, asking_going}
use Rattle.stage_check.specs.Layers.{answer_of, with_stage, asking_fitting}
use Rattle.stage_form.specs.Holding.{IsBackFor, Shows, Holds}
use Rattle.stage_sound.specs.Jobs.{Begins, Says, Leaves, Came}
use Rattle.stage_sound.proofs.Layers.{LayersKeep}
use Rattle.stage_sound.proofs.OfChecks.{JobHolds}
use Rattle.stage_sound.proofs.OfTasks.{Led}
use Rattle.stage_sound.proofs.Parts.{within-holds}

-- what such a layer asks for: a check or a layout
abbrev IsAsked : Job → StageState → Type 0
IsAsked (jobs.Check f) w = IsSound w
IsAsked (jobs.Layout t at) w = IsSound w
IsAsked job w = ⊥

-- what an answer says to it
abbrev SaysTo : Job → CheckAnswer → StageState → Type 0
SaysTo job answer v = (end : JobEnd) × ((answer ≡ answer_of end) × Says (asked.Job job) end v)

abbrev AskedBack : Job → State StageState → Given StageState CheckAnswer → Type 0
AskedBack job s next = Led s.world next.state.world × SaysTo job next.answer next.state.world

-- it ends with values or an error
abbrev IsEnd : JobEnd → Type 0
IsEnd (ends.Values vs) = Unit {0}
IsEnd (ends.Raised x at) = Unit {0}
IsEnd end = ⊥

abbrev Ends : StageState → JobEnd → StageState → Type 0
Ends w end v = IsEnd end × Led w v

-- a function that was reached is ready now
ready-now : (w : StageState) (f : FnId) → IsSound w → ReachesReady w f → WasReady w f
ready-now w f sound r = record {
  then = w;
  sound = sound;
  grows = grows-itself w;
  queue = r.0;
  reached = r.1;
  ready = r.2;
}

-- the answers that fit
fits-check : (f : FnId) (n : AskNext) (end : JobEnd) (v : StageState) → IsSound v → Says (asked.Job (jobs.Check f)) end v →
    FitsAsk (asks.Check f n) (answer_of end) v
fits-check f n ends.Done v sound h = λ g at. ready-now v f sound (h g at)
fits-check f n (ends.Refused why) v sound h = tt
fits-check f n (ends.Values vs) v sound h = absurd h
fits-check f n (ends.Raised x at) v sound h = absurd h
fits-check f n (ends.Result t) v sound h = absurd h
fits-check f n (ends.NoLayout kind) v sound h = absurd h

fits-layout : (t : TypeId) (place : Place) (n : AskNext) (end : JobEnd) (v : StageState) → Says (asked.Job (jobs.Layout t place)) end v →
    FitsAsk (asks.Layout t n) (answer_of end) v
fits-layout t place n ends.Done v h = h
fits-layout t place n (ends.NoLayout kind) v h = tt
fits-layout t place n (ends.Refused why) v h = absurd h
fits-layout t place n (ends.Values vs) v h = absurd h
fits-layout t place n (ends.Raised x at) v h = absurd h
fits-layout t place n (ends.Result u) v h = absurd h

module _ (items : Items) (k : LayersKeep items) where
  end-shows : (w : StageState) (turn : LibTurn) (s : State StageState) → Led w s.world →
      Shows IsAsked (Ends w) (end_seen turn s)
  end-shows w (turns.Values vs) s h = (tt, h)
  end-shows w (turns.Raise v at) s h = (tt, h)
  end-shows w turns.Spent s h = tt
  end-shows w (turns.CallBack f vs next) s h = (tt, h)
  end-shows w (turns.TypeText t next) s h = (tt, h)

  turn-shows : (w : StageState) (place : Place) (turn : AskTurn) (s : State StageState) → Led w s.world →
      Shows IsAsked (Ends w) (turn_seen place turn s)
  turn-shows w place (asks.Turn turn) s h = end-shows w turn s h
  turn-shows w place (asks.Check f next) s h = h.0
  turn-shows w place (asks.Layout t next) s h = h.0

  abbrev SeenBack : Place → AskTurn → State StageState → List (Given StageState CheckAnswer) → Type 0
  SeenBack place turn s later =
      (before behind : List (Given StageState CheckAnswer)) (next : Given StageState CheckAnswer) →
      later ≡ before ++ next ∷ behind → IsBackFor AskedBack (asking_seen place before turn s) next

  seen-shows : (w : StageState) (place : Place) (later : List (Given StageState CheckAnswer)) (turn : AskTurn)
      (s : State StageState) → Led w s.world → AskIsFine w s.world turn → SeenBack place turn s later →
      Shows IsAsked (Ends w) (asking_seen place later turn s)
  seen-shows w place [] turn s led fine back = turn-shows w place turn s led
  seen-shows w place (g ∷ later) (asks.Turn turn) s led fine back = end-shows w turn s led
  seen-shows w place (g ∷ later) (asks.Check f n) s led fine back =
      let b : AskedBack (jobs.Check f) s g = back [] later g refl in
      let left = calls.backed g.state n g.answer place in
      let fits : FitsAsk (asks.Check f n) g.answer g.state.world =
      subst (λ a. FitsAsk (asks.Check f n) a g.state.world) (sym b.1.1.0)
      (fits-check f n b.1.0 g.state.world b.0.0 b.1.1.1) in
      let x = k.asking_answers w s.world (asks.Check f n) n g.answer g.state place refl led.0 led.1 fine b.0.0 b.0.1 fits in
      seen-shows w place later left.turn left.left (x.0, x.1.0) x.1.1
      (λ before behind y split. back (g ∷ before) behind y (ap (λ l. g ∷ l) split))
  seen-shows w place (g ∷ later) (asks.Layout t n) s led fine back =
      let b : AskedBack (jobs.Layout t place) s g = back [] later g refl in
      let left = calls.backed g.state n g.answer place in
      let fits : FitsAsk (asks.Layout t n) g.answer g.state.world =
      subst (λ a. FitsAsk (asks.Layout t n) a g.state.world) (sym b.1.1.0)
      (fits-layout t place n b.1.0 g.state.world b.1.1.1) in
      let x = k.asking_answers w s.world (asks.Layout t n) n g.answer g.state place refl led.0 led.1 fine b.0.0 b.0.1 fits in
      seen-shows w place later left.turn left.left (x.0, x.1.0) x.1.1
      (λ before behind y split. back (g ∷ before) behind y (ap (λ l. g ∷ l) split))

  begun-sound : (what : Asker) (s : State StageState) → IsSound s.world → AsksSound s.world (begun what s)
  begun-sound (begins.Call call) s sound = k.asking_calls s call sound
  begun-sound (begins.Export place) s sound = k.asking_ends s place sound

  going-holds : (what : Asker) (first : Given StageState CheckAnswer) → IsSound first.state.world →
      Holds IsAsked AskedBack (Ends first.state.world) (asking_going what None) first
  going-holds what first sound later all =
      let left = begun what first.state in
      let x = begun-sound what first.state sound in
      seen-shows first.state.world (place_of what) later left.turn left.left (x.0, x.1.0) x.1.1 all

  -- ---- in the stage

  asks-begin : (w : TypingState) (q : Job) (p : StageState) → IsAsked q p → Begins (asked.Job q) (with_stage w p)
  asks-begin w (jobs.Check f) p h = (h, tt)
  asks-begin w (jobs.Layout t at) p h = (h, tt)
  asks-begin w (jobs.Stage task) p h = absurd h
  asks-begin w (jobs.Call call) p h = absurd h
  asks-begin w (jobs.Export place) p h = absurd h
  asks-begin w (jobs.Body f) p h = absurd h
  asks-begin w (jobs.Result f) p h = absurd h

  module _ (layer : Meaning StageState Job CheckAnswer JobEnd) (question : Asked)
      (says : (end : JobEnd) (v : StageState) → IsEnd end → Says question end v) (first : Given TypingState CheckAnswer)
      (holds : Holds IsAsked AskedBack (Ends first.state.world.stage) layer (given_part asking_fitting first)) where
    going-in-stage : Holds Begins Came (Leaves question first.state.world)
        (within asking_fitting layer) first
    going-in-stage =
        within-holds asking_fitting IsAsked AskedBack (Ends first.state.world.stage) Begins
        Came (Leaves question first.state.world)
        (λ w. w.variables ≡ first.state.world.variables)
        (λ w q p b h. asks-begin w q p h)
        (λ w end p b h. record { sound = h.1.0; leads = h.1.1; variables = b; says = says end p h.0 })
        (λ w q s next b may h.
        (((h.1.1.sound, h.1.1.leads), (h.0, (h.1.0, h.1.1.says))), h.1.1.variables ∙ b))
        layer first refl holds

  call-says : (call : LibCall) (end : JobEnd) (v : StageState) → IsEnd end → Says (asked.Job (jobs.Call call)) end v
  call-says call (ends.Values vs) v h = tt
  call-says call (ends.Raised x at) v h = tt
  call-says call (ends.Result t) v h = absurd h
  call-says call (ends.Refused why) v h = absurd h
  call-says call ends.Done v h = absurd h
  call-says call (ends.NoLayout kind) v h = absurd h

  export-says : (place : Place) (end : JobEnd) (v : StageState) → IsEnd end → Says (asked.Job (jobs.Export place)) end v
  export-says place (ends.Values vs) v h = tt
  export-says place (ends.Raised x at) v h = tt
  export-says place (ends.Result t) v h = absurd h
  export-says place (ends.Refused why) v h = absurd h
  export-says place ends.Done v h = absurd h
  export-says place (ends.NoLayout kind) v h = absurd h

  pub call-holds : (call : LibCall) (first : Given TypingState CheckAnswer) → Begins (asked.Job (jobs.Call call)) first.state.world →
      JobHolds items k (jobs.Call call) first
  call-holds call first begin =
      going-in-stage (asking_going (begins.Call call) None) (asked.Job (jobs.Call call)) (call-says call) first
      (going-holds (begins.Call call) (given_part asking_fitting first) begin.0)

  pub export-holds : (place : Place) (first : Given TypingState CheckAnswer) →
      Begins (asked.Job (jobs.Export place)) first.state.world → JobHolds items k (jobs.Export place) first
  export-holds place first begin =
      going-in-stage (asking_going (begins.Export place) None) (asked.Job (jobs.Export place)) (export-says place) first
      (going-holds (begins.Export place) (given_part asking_fitting first) begin.0)
