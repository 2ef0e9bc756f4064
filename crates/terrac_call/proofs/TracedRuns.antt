-- A run that is traced, step by step.
use Rattle.std.proofs.Common.{◌≡◌, ◌≢◌, ℕ, suc, ◌+◌, ◌-◌, ◌<◌, ◌≤◌, List, [], ◌++◌, Option, refl, sym, ap, subst, ◌∙◌, append_assoc, append-nil, arith}
use Rattle.tl_base.specs.Outside.{with_back, IsRisen}
use Rattle.rv_isa.specs.declared.instr.Instr.{Instr}
use Rattle.rv_machine.specs.declared.stops.Stop.{Stop}
use Rattle.rv_machine.specs.declared.stops.Stop.TheVariants as stops
use Rattle.rv_machine.specs.Machine.{State, Ran, after_output, run_of}
use Rattle.rv_machine.specs.Steps.{Counted}
use Rattle.rv_machine.proofs.Runs.{run_of-add, run_of-over}
use Rattle.rv_machine.proofs.Taken.{with_back-none, with_back-both}
use Rattle.terrac_call.specs.Delivery.{StopsShort}
use Rattle.terrac_call.specs.Tracing.{Ended, TookAll, TookPart, lines_of}
use Rattle.terrac_call.proofs.Deliveries.{back_none, front_none, rose_from, took_both}
use Rattle.terrac_call.proofs.Traces.{lines_first, lines_last, lines_on}

-- a sink that keeps nothing counts no fault
pub unheard : (stop : Stop) → Counted stop 0 0 → stop ≢ stops.WriteFault
unheard (stops.MachineFault kind pc) h = λ e. absurd cc
unheard (stops.TerraFault kind place) h = λ e. absurd cc
unheard stops.WriteFault h = λ e. absurd (omega (arith, h))
unheard (stops.Returned value) h = λ e. absurd cc
unheard stops.Unfinished h = λ e. absurd cc

-- nothing went out
pub took_none : (old : Option (List ℕ)) (faults : ℕ) (bytes : List ℕ) (Same : Type 0) → bytes ≡ [] → Same → TookAll bytes old old faults faults Same
took_none old faults bytes Same none same = record {
  took = with_back-none old ∙ ap (λ (o : List ℕ). with_back old o) (sym none);
  quiet = refl;
  none = λ _. same;
}

ran_is : (ran : Ran) (stop : Stop) (s : State) → Ended ran stop s → ran ≡ record { stop = stop; state = s; output = ran.output }
ran_is ran stop s h =
    subst (λ (t : Stop). ran ≡ record { stop = t; state = s; output = ran.output }) h.stops
    (subst (λ (x : State). ran ≡ record { stop = ran.stop; state = x; output = ran.output }) h.stands refl)

-- a piece of which a sink took a part
pub part_of : (piece bytes : List ℕ) (old new : Option (List ℕ)) (f0 f1 : ℕ) → piece ≡ bytes → piece ≢ [] → StopsShort piece old new f0 f1
    → TookPart bytes old new f0 f1
part_of piece bytes old new f0 f1 same some short = record {
  part = short.front;
  rest = short.is_front.0;
  front = sym same ∙ short.is_front.1;
  some = λ none. some (same ∙ none);
  took = short.took;
  rose = short.rose;
}

-- A run stands here: these lines went out, and from this state it goes on with the steps that are left.
pub record Along
    (program : List (Option Instr)) (words : List ℕ) (start now : State) (steps left : ℕ) (old new : Option (List ℕ))
    (faults_old faults_new : ℕ) (Same : Type 0) : Type 0 where
  pub few : left ≤ steps
  pub done : List ℕ
  pub lines : lines_of program words start 1 steps ≡ done ++ lines_of program words now (steps - left + 1) left
  pub ends : (run_of program start steps).stop ≡ (run_of program now left).stop
  pub all : TookAll done old new faults_old faults_new Same

module _ (program : List (Option Instr)) (words : List ℕ) where
  pub along_start : (start : State) (steps : ℕ) (old : Option (List ℕ)) (faults : ℕ) (Same : Type 0) → Same
      → Along program words start start steps steps old old faults faults Same
  along_start start steps old faults Same same =
      let first : 1 ≡ steps - steps + 1 = omega arith in
      record {
        few = omega arith;
        done = [];
        lines = ap (λ (n : ℕ). lines_of program words start n steps) first;
        ends = refl;
        all = took_none old faults [] Same refl same;
      }

  module _ (start now : State) (steps left k : ℕ) (old mid new : Option (List ℕ)) (f0 f1 f2 : ℕ) (Mid Step Same : Type 0)
      (along : Along program words start now steps left old mid f0 f1 Mid) (is : left ≡ suc k) where
    -- the lines from here on, with those of the step before the others
    here : lines_of program words start 1 steps ≡ along.done ++ lines_of program words now (steps - left + 1) (suc k)
    here = along.lines ∙ ap (λ (l : ℕ). along.done ++ lines_of program words now (steps - left + 1) l) is

    took_step : (Mid → Step → Same) → TookAll (lines_of program words now (steps - left + 1) 1) mid new f1 f2 Step
        → TookAll (along.done ++ lines_of program words now (steps - left + 1) 1) old new f0 f2 Same
    took_step same step = record {
      took = took_both old mid new along.done (lines_of program words now (steps - left + 1) 1) along.all.took step.took;
      quiet = step.quiet ∙ along.all.quiet;
      none = λ none. same (along.all.none (front_none along.done (lines_of program words now (steps - left + 1) 1) none))
          (step.none (back_none along.done (lines_of program words now (steps - left + 1) 1) none));
    }

    -- the run goes on behind a step
    pub along_more : (next : State) → (Mid → Step → Same) → Ended (run_of program now 1) stops.Unfinished next
        → TookAll (lines_of program words now (steps - left + 1) 1) mid new f1 f2 Step
        → Along program words start next steps k old new f0 f2 Same
    along_more next same ended step =
        let output = (run_of program now 1).output in
        let ran = ran_is (run_of program now 1) stops.Unfinished next ended in
        let more : steps - left + 1 + 1 ≡ steps - k + 1 = omega (arith, is, along.few) in
        let one : left ≡ 1 + k = omega (arith, is) in
        record {
          few = omega (arith, is, along.few);
          done = along.done ++ lines_of program words now (steps - left + 1) 1;
          lines = here
              ∙ ap (λ (o : List ℕ). along.done ++ o) (lines_on program words now next (steps - left + 1) k output ran
              ∙ ap (λ (n : ℕ). lines_of program words now (steps - left + 1) 1 ++ lines_of program words next n k) more)
              ∙ sym (append_assoc along.done (lines_of program words now (steps - left + 1) 1)
              (lines_of program words next (steps - k + 1) k));
          ends = along.ends ∙ ap (λ (l : ℕ). (run_of program now l).stop) one
              ∙ ap (λ (r : Ran). r.stop) (run_of-add program now next output 1 k ran);
          all = took_step same step;
        }

    -- it ended with a step
    pub along_ends : (stop : Stop) (next : State) → (Mid → Step → Same) → Ended (run_of program now 1) stop next → stop ≢ stops.Unfinished
        → TookAll (lines_of program words now (steps - left + 1) 1) mid new f1 f2 Step
        → TookAll (lines_of program words start 1 steps) old new f0 f2 Same × ((run_of program start steps).stop ≡ stop)
    along_ends stop next same ended over step =
        let last : (run_of program now 1).stop ≢ stops.Unfinished = λ e. over (sym ended.stops ∙ e) in
        let one : left ≡ 1 + k = omega (arith, is) in (
          subst (λ (o : List ℕ). TookAll o old new f0 f2 Same)
              (sym (here ∙ ap (λ (o : List ℕ). along.done ++ o) (lines_last program words now (steps - left + 1) k last)))
              (took_step same step),
          along.ends ∙ ap (λ (l : ℕ). (run_of program now l).stop) one
              ∙ ap (λ (r : Ran). r.stop) (run_of-over program now (run_of program now 1) 1 k refl last) ∙ ended.stops,
        )

    -- the sink failed at the line of a step
    pub along_cut : TookPart (lines_of program words now (steps - left + 1) 1) mid new f1 f2
        → TookPart (lines_of program words start 1 steps) old new f0 f2
    along_cut cut =
        let front = lines_first program words now (steps - left + 1) k in
        let whole : lines_of program words start 1 steps ≡ (along.done ++ cut.part) ++ (cut.rest ++ front.0) =
        here ∙ ap (λ (o : List ℕ). along.done ++ o) (front.1 ∙ ap (λ (o : List ℕ). o ++ front.0) cut.front
        ∙ append_assoc cut.part cut.rest front.0) ∙ sym (append_assoc along.done cut.part (cut.rest ++ front.0)) in
        let here_some : (lines_of program words now (steps - left + 1) (suc k)) ≢ [] =
        λ none. cut.some (front_none (lines_of program words now (steps - left + 1) 1) front.0 (sym front.1 ∙ none)) in
        record {
          part = along.done ++ cut.part;
          rest = cut.rest ++ front.0;
          front = whole;
          some = λ none. here_some (back_none along.done (lines_of program words now (steps - left + 1) (suc k)) (sym here ∙ none));
          took = took_both old mid new along.done cut.part along.all.took cut.took;
          rose = rose_from f0 f1 f2 along.all.quiet cut.rose;
        }

  -- no step is left
  pub along_over : (start now next : State) (steps : ℕ) (old new : Option (List ℕ)) (f0 f1 : ℕ) (Same : Type 0) (stop : Stop)
      → Along program words start now steps 0 old new f0 f1 Same → Ended (run_of program now 0) stop next
      → TookAll (lines_of program words start 1 steps) old new f0 f1 Same × ((run_of program start steps).stop ≡ stop)
  along_over start now next steps old new f0 f1 Same stop along ended = (
    subst (λ (o : List ℕ). TookAll o old new f0 f1 Same) (sym (along.lines ∙ append-nil along.done)) along.all,
    along.ends ∙ ended.stops,
  )
