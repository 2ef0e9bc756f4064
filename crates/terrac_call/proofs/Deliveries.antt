-- What is due goes out, piece by piece: whole, or up to a write that fails.
use Rattle.std.proofs.Common.{◌≡◌, ◌≢◌, ◌⊎◌, inl, inr, ℕ, ◌-◌, List, [], ◌∷◌, ◌++◌, take, drop, Option, refl, sym, ap, subst, ◌∙◌}
use Rattle.std.proofs.Common.{append_assoc, append-nil, arith}
use Rattle.tl_base.specs.Outside.{with_back, IsFront, IsRisen}
use Rattle.rv_isa.specs.declared.instr.Instr.{Instr}
use Rattle.rv_machine.specs.declared.stops.Stop.{Stop}
use Rattle.rv_machine.specs.declared.stops.Stop.TheVariants as stops
use Rattle.rv_machine.specs.Machine.{State, run_of}
use Rattle.rv_machine.specs.Runs.{Agrees, IsBeforeWrite}
use Rattle.rv_machine.specs.Steps.{Counted}
use Rattle.rv_machine.proofs.Reaches.{writes_front, writes_more}
use Rattle.rv_machine.proofs.Taken.{with_back-none, with_back-both}
use Rattle.terrac_call.specs.declared.status.Status.{Status}
use Rattle.terrac_call.specs.declared.status.Status.TheVariants as statuses
use Rattle.terrac_call.specs.Due.{Due, after, noting, all_notes}
use Rattle.terrac_call.specs.Exec.{due_of_stop}
use Rattle.terrac_call.specs.DueView.{due_of_ran, due_with}
use Rattle.terrac_call.specs.Writing.{IsCutOff, IsWritten}
use Rattle.terrac_call.specs.Delivery.{Delivered, IsSaid, StopsShort}
use Rattle.terrac_call.specs.Tracing.{TookAll, TookPart}

-- ---- fronts

pub front_none : (a b : List ℕ) → a ++ b ≡ [] → a ≡ []
front_none [] b e = refl
front_none (x ∷ a) b e = absurd cc

pub back_none : (a b : List ℕ) → a ++ b ≡ [] → b ≡ []
back_none [] b e = e
back_none (x ∷ a) b e = absurd cc

none_front : (whole : List ℕ) → IsFront [] whole
none_front whole = (whole, refl)

front_behind : (whole part rest : List ℕ) → IsFront part rest → IsFront (whole ++ part) (whole ++ rest)
front_behind whole part rest f = (f.0, ap (λ (o : List ℕ). whole ++ o) f.1 ∙ sym (append_assoc whole part f.0))

front_longer : (part whole rest : List ℕ) → IsFront part whole → IsFront part (whole ++ rest)
front_longer part whole rest f = (f.0 ++ rest, ap (λ (o : List ℕ). o ++ rest) f.1 ∙ append_assoc part f.0 rest)

pub took_both : (old mid new : Option (List ℕ)) (a b : List ℕ) → mid ≡ with_back old a → new ≡ with_back mid b → new ≡ with_back old (a ++ b)
took_both old mid new a b first second = second ∙ ap (λ (o : Option (List ℕ)). with_back o b) first ∙ with_back-both old a b

no_result : (status : Status) → status ≡ statuses.WriteFault → status ≡ statuses.Ok → ⊥
no_result status is ok = let bad : statuses.WriteFault ≡ statuses.Ok = sym is ∙ ok in absurd cc

-- ---- a write that fails

-- `out` failed at a piece with which what is due to it begins
pub out_short : (due : Due) (piece more : List ℕ) (status : Status) (oo on nb nn : Option (List ℕ)) (o0 o1 n0 n1 : ℕ)
    (SameOut SameNotes : Type 0) → due.out ≡ piece ++ more → piece ≢ [] → StopsShort piece oo on o0 o1 → status ≡ statuses.WriteFault
    → IsSaid nb nn n0 n1 → Delivered due status oo on nb nn o0 o1 n0 n1 SameOut SameNotes
out_short due piece more status oo on nb nn o0 o1 n0 n1 SameOut SameNotes begins some short is said = record {
  delivers = record {
    out = short.front;
    notes = said.part;
    ends = inr (record {
      write_fault = is;
      out_front = subst (λ (o : List ℕ). IsFront short.front o) (sym begins) (front_longer short.front piece more short.is_front);
      due_part = [];
      fault_part = said.part;
      parts = refl;
      due_front = none_front (all_notes due);
      line_last = inr (none_front due.noted);
      begun = n0;
      failed = inl (short.rose, refl);
      tried = said.tried;
    });
    out_took = short.took;
    notes_took = said.took;
  };
  out_rose = λ _. is;
  notes_rose = λ _. is;
  fault = λ _. inl short.rose;
  quiet_out = λ none. absurd (some (front_none piece more (sym begins ∙ none)));
  quiet_notes = λ ok _. absurd (no_result status is ok);
}

-- `notes` failed, and took a front of what is due to it, behind which the line is said
pub notes_short : (due : Due) (piece : List ℕ) (status : Status) (out nb nm nn : Option (List ℕ)) (o n0 n1 n2 : ℕ)
    (SameOut SameNotes : Type 0) → ((front : List ℕ) → IsFront front piece → IsFront front (all_notes due))
    → ((front : List ℕ) → IsFront front piece → ([] ≡ due.out) ⊎ IsFront front due.noted) → SameOut → StopsShort piece nb nm n0 n1
    → status ≡ statuses.WriteFault → IsSaid nm nn n1 n2 → Delivered due status out out nb nn o o n0 n2 SameOut SameNotes
notes_short due piece status out nb nm nn o n0 n1 n2 SameOut SameNotes within last same short is said = record {
  delivers = record {
    out = [];
    notes = short.front ++ said.part;
    ends = inr (record {
      write_fault = is;
      out_front = none_front due.out;
      due_part = short.front;
      fault_part = said.part;
      parts = refl;
      due_front = within short.front short.is_front;
      line_last = last short.front short.is_front;
      begun = n1;
      failed = inr short.rose;
      tried = said.tried;
    });
    out_took = with_back-none out;
    notes_took = took_both nb nm nn short.front said.part short.took said.took;
  };
  out_rose = λ _. is;
  notes_rose = λ _. is;
  fault = λ _. inr (omega (arith, short.rose, said.tried.later));
  quiet_out = λ _. same;
  quiet_notes = λ ok _. absurd (no_result status is ok);
}

-- it failed at what stands before the line
pub noted_short : (rest : Due) (piece : List ℕ) (status : Status) (out nb nm nn : Option (List ℕ)) (o n0 n1 n2 : ℕ)
    (SameOut SameNotes : Type 0) → SameOut → StopsShort piece nb nm n0 n1 → status ≡ statuses.WriteFault → IsSaid nm nn n1 n2
    → Delivered (noting piece rest) status out out nb nn o o n0 n2 SameOut SameNotes
noted_short rest piece status out nb nm nn o n0 n1 n2 SameOut SameNotes same short is said =
    notes_short (noting piece rest) piece status out nb nm nn o n0 n1 n2 SameOut SameNotes
    (λ front f. front_longer front (piece ++ rest.noted) rest.notes (front_longer front piece rest.noted f))
    (λ front f. inr (front_longer front piece rest.noted f)) same short is said

-- ---- what went out before

pub rose_from : (a b c : ℕ) → b ≡ a → IsRisen b c → IsRisen a c
rose_from a b c same rose = subst (λ (x : ℕ). IsRisen x c) same rose

-- `out` took this before
pub behind_out : (printed : List ℕ) (due : Due) (status : Status) (oo om on nb nn : Option (List ℕ)) (o0 o1 o2 n0 n1 : ℕ)
    (SameMid SameOut SameNotes : Type 0) → om ≡ with_back oo printed → o1 ≡ o0 → (printed ≡ [] → SameMid → SameOut)
    → Delivered due status om on nb nn o1 o2 n0 n1 SameMid SameNotes
    → Delivered (after printed due) status oo on nb nn o0 o2 n0 n1 SameOut SameNotes
behind_out printed due status oo om on nb nn o0 o1 o2 n0 n1 SameMid SameOut SameNotes took quiet same d = record {
  delivers = record {
    out = printed ++ d.delivers.out;
    notes = d.delivers.notes;
    ends = ends d.delivers.ends;
    out_took = took_both oo om on printed d.delivers.out took d.delivers.out_took;
    notes_took = d.delivers.notes_took;
  };
  out_rose = λ rose. d.out_rose (omega (arith, quiet, rose));
  notes_rose = d.notes_rose;
  fault = λ e. elim (d.fault e) [ inl rose ↦ inl (rose_from o0 o1 o2 quiet rose) | inr rose ↦ inr rose ];
  quiet_out = λ none. same (front_none printed due.out none) (d.quiet_out (back_none printed due.out none));
  quiet_notes = d.quiet_notes;
}
  where
    ends : IsWritten due status d.delivers.out d.delivers.notes ⊎ IsCutOff due status d.delivers.out d.delivers.notes o1 o2 n0 n1
        → IsWritten (after printed due) status (printed ++ d.delivers.out) d.delivers.notes
        ⊎ IsCutOff (after printed due) status (printed ++ d.delivers.out) d.delivers.notes o0 o2 n0 n1
    ends (inl w) = inl (record {
      same_status = w.same_status;
      same_out = ap (λ (o : List ℕ). printed ++ o) w.same_out;
      same_notes = w.same_notes;
    })
    ends (inr c) = inr (record {
      write_fault = c.write_fault;
      out_front = front_behind printed d.delivers.out due.out c.out_front;
      due_part = c.due_part;
      fault_part = c.fault_part;
      parts = c.parts;
      due_front = c.due_front;
      line_last = last c.line_last;
      begun = c.begun;
      failed = failed c.failed;
      tried = c.tried;
    })
      where
        last : (d.delivers.out ≡ due.out) ⊎ IsFront c.due_part due.noted
            → (printed ++ d.delivers.out ≡ printed ++ due.out) ⊎ IsFront c.due_part due.noted
        last (inl e) = inl (ap (λ (o : List ℕ). printed ++ o) e)
        last (inr f) = inr f

        failed : (IsRisen o1 o2 × (c.begun ≡ n0)) ⊎ IsRisen n0 c.begun → (IsRisen o0 o2 × (c.begun ≡ n0)) ⊎ IsRisen n0 c.begun
        failed (inl f) = inl (rose_from o0 o1 o2 quiet f.0, f.1)
        failed (inr f) = inr f

-- `notes` took this before
pub behind_notes : (noted : List ℕ) (due : Due) (status : Status) (oo on nb nm nn : Option (List ℕ)) (o0 o1 n0 n1 n2 : ℕ)
    (SameOut SameMid SameNotes : Type 0) → nm ≡ with_back nb noted → n1 ≡ n0 → (noted ≡ [] → SameMid → SameNotes)
    → Delivered due status oo on nm nn o0 o1 n1 n2 SameOut SameMid
    → Delivered (noting noted due) status oo on nb nn o0 o1 n0 n2 SameOut SameNotes
behind_notes noted due status oo on nb nm nn o0 o1 n0 n1 n2 SameOut SameMid SameNotes took quiet same d = record {
  delivers = record {
    out = d.delivers.out;
    notes = noted ++ d.delivers.notes;
    ends = ends d.delivers.ends;
    out_took = d.delivers.out_took;
    notes_took = took_both nb nm nn noted d.delivers.notes took d.delivers.notes_took;
  };
  out_rose = d.out_rose;
  notes_rose = λ rose. d.notes_rose (omega (arith, quiet, rose));
  fault = λ e. elim (d.fault e) [ inl rose ↦ inl rose | inr rose ↦ inr (rose_from n0 n1 n2 quiet rose) ];
  quiet_out = d.quiet_out;
  quiet_notes = λ ok none. same (front_none noted due.noted none) (d.quiet_notes ok (back_none noted due.noted none));
}
  where
    all : noted ++ all_notes due ≡ all_notes (noting noted due)
    all = sym (append_assoc noted due.noted due.notes)

    ends : IsWritten due status d.delivers.out d.delivers.notes ⊎ IsCutOff due status d.delivers.out d.delivers.notes o0 o1 n1 n2
        → IsWritten (noting noted due) status d.delivers.out (noted ++ d.delivers.notes)
        ⊎ IsCutOff (noting noted due) status d.delivers.out (noted ++ d.delivers.notes) o0 o1 n0 n2
    ends (inl w) = inl (record {
      same_status = w.same_status;
      same_out = w.same_out;
      same_notes = ap (λ (o : List ℕ). noted ++ o) w.same_notes ∙ all;
    })
    ends (inr c) = inr (record {
      write_fault = c.write_fault;
      out_front = c.out_front;
      due_part = noted ++ c.due_part;
      fault_part = c.fault_part;
      parts = ap (λ (o : List ℕ). noted ++ o) c.parts ∙ sym (append_assoc noted c.due_part c.fault_part);
      due_front = subst (λ (o : List ℕ). IsFront (noted ++ c.due_part) o) all (front_behind noted c.due_part (all_notes due) c.due_front);
      line_last = last c.line_last;
      begun = c.begun;
      failed = failed c.failed;
      tried = c.tried;
    })
      where
        last : (d.delivers.out ≡ due.out) ⊎ IsFront c.due_part due.noted
            → (d.delivers.out ≡ due.out) ⊎ IsFront (noted ++ c.due_part) (noted ++ due.noted)
        last (inl e) = inl e
        last (inr f) = inr (front_behind noted c.due_part due.noted f)

        failed : (IsRisen o0 o1 × (c.begun ≡ n1)) ⊎ IsRisen n1 c.begun → (IsRisen o0 o1 × (c.begun ≡ n0)) ⊎ IsRisen n0 c.begun
        failed (inl f) = inl (f.0, f.1 ∙ quiet)
        failed (inr f) = inr (rose_from n0 n1 c.begun quiet f)

-- ---- lines

-- a refusal's line goes to `notes` alone
refusal_is : (status : Status) (bytes : List ℕ) → status ≢ statuses.Ok
    → due_with status bytes ≡ record { status = status; out = []; noted = []; notes = bytes }
refusal_is statuses.Ok bytes other = absurd (other refl)
refusal_is statuses.Usage bytes other = refl
refusal_is statuses.NoEntry bytes other = refl
refusal_is (statuses.Syntax kind place) bytes other = refl
refusal_is (statuses.BadArgument number) bytes other = refl
refusal_is (statuses.Fault kind place) bytes other = refl
refusal_is statuses.Unfinished bytes other = refl
refusal_is (statuses.BadImage fault) bytes other = refl
refusal_is (statuses.MachineFault kind pc) bytes other = refl
refusal_is (statuses.BadAssembly kind number) bytes other = refl
refusal_is statuses.ReadFault bytes other = refl
refusal_is statuses.WriteFault bytes other = refl
refusal_is statuses.NoMemory bytes other = refl
refusal_is (statuses.Raised text place) bytes other = refl
refusal_is statuses.BudgetSpent bytes other = refl

pub result_whole : (bytes : List ℕ) (oo on notes : Option (List ℕ)) (o0 o1 n : ℕ) (SameOut SameNotes : Type 0)
    → on ≡ with_back oo bytes → o1 ≡ o0 → (bytes ≡ [] → SameOut) → SameNotes
    → Delivered (due_with statuses.Ok bytes) statuses.Ok oo on notes notes o0 o1 n n SameOut SameNotes
result_whole bytes oo on notes o0 o1 n SameOut SameNotes took quiet same_out same_notes = record {
  delivers = record {
    out = bytes;
    notes = [];
    ends = inl (record { same_status = refl; same_out = refl; same_notes = refl });
    out_took = took;
    notes_took = with_back-none notes;
  };
  out_rose = λ rose. absurd (omega (arith, quiet, rose));
  notes_rose = λ rose. absurd (omega (arith, rose));
  fault = λ e. absurd (no_result statuses.Ok e refl);
  quiet_out = same_out;
  quiet_notes = λ _ _. same_notes;
}

pub result_short : (bytes : List ℕ) (status : Status) (oo on nb nn : Option (List ℕ)) (o0 o1 n0 n1 : ℕ) (SameOut SameNotes : Type 0)
    → bytes ≢ [] → StopsShort bytes oo on o0 o1 → status ≡ statuses.WriteFault → IsSaid nb nn n0 n1
    → Delivered (due_with statuses.Ok bytes) status oo on nb nn o0 o1 n0 n1 SameOut SameNotes
result_short bytes status oo on nb nn o0 o1 n0 n1 SameOut SameNotes some short is said =
    out_short (due_with statuses.Ok bytes) bytes [] status oo on nb nn o0 o1 n0 n1 SameOut SameNotes (sym (append-nil bytes)) some short is said

pub refusal_whole : (status : Status) (bytes : List ℕ) (out nb nn : Option (List ℕ)) (o n0 n1 : ℕ) (SameOut SameNotes : Type 0)
    → status ≢ statuses.Ok → status ≢ statuses.WriteFault → nn ≡ with_back nb bytes → n1 ≡ n0 → SameOut
    → Delivered (due_with status bytes) status out out nb nn o o n0 n1 SameOut SameNotes
refusal_whole status bytes out nb nn o n0 n1 SameOut SameNotes other fine took quiet same = rw (refusal_is status bytes other) (record {
  delivers = record {
    out = [];
    notes = bytes;
    ends = inl (record { same_status = refl; same_out = refl; same_notes = refl });
    out_took = with_back-none out;
    notes_took = took;
  };
  out_rose = λ rose. absurd (omega (arith, rose));
  notes_rose = λ rose. absurd (omega (arith, quiet, rose));
  fault = λ e. absurd (fine e);
  quiet_out = λ _. same;
  quiet_notes = λ ok _. absurd (other ok);
})

pub refusal_short : (status after : Status) (bytes : List ℕ) (out nb nm nn : Option (List ℕ)) (o n0 n1 n2 : ℕ) (SameOut SameNotes : Type 0)
    → status ≢ statuses.Ok → SameOut → StopsShort bytes nb nm n0 n1 → after ≡ statuses.WriteFault → IsSaid nm nn n1 n2
    → Delivered (due_with status bytes) after out out nb nn o o n0 n2 SameOut SameNotes
refusal_short status after bytes out nb nm nn o n0 n1 n2 SameOut SameNotes other same short is said =
    rw (refusal_is status bytes other)
    (notes_short (record { status = status; out = []; noted = []; notes = bytes }) bytes after out nb nm nn o n0 n1 n2 SameOut SameNotes
    (λ front f. f) (λ front f. inl refl) same short is said)

-- ---- runs

module _ (written : List ℕ) (front : List ℕ) (code : ℕ) (ends : Stop) (oo on nb nn : Option (List ℕ)) (SameNotes : Type 0) where
  -- a run that `out` stopped
  pub run_short : (status : Status) (o0 o1 n0 n1 : ℕ) (SameOut : Type 0) → TookPart written oo on o0 o1
      → status ≡ statuses.WriteFault → IsSaid nb nn n0 n1
      → Delivered (due_of_ran front code written ends) status oo on nb nn o0 o1 n0 n1 SameOut SameNotes
  run_short status o0 o1 n0 n1 SameOut cut is said =
      let short : StopsShort written oo on o0 o1 = record {
        front = cut.part;
        is_front = (cut.rest, cut.front);
        took = cut.took;
        rose = cut.rose;
      } in
      out_short (due_of_ran front code written ends) written (due_of_stop front code ends).out status oo on nb nn o0 o1 n0 n1 SameOut SameNotes
      refl cut.some short is said

  -- a run that ended by itself, and the line of its end
  pub run_whole : (stop : Stop) (om : Option (List ℕ)) (due : Due) (status : Status) (o0 o1 o2 n0 n1 : ℕ) (SameMid SameLast SameOut : Type 0)
      → TookAll written oo om o0 o1 SameMid → ends ≡ stop → (SameMid → SameLast → SameOut) → due ≡ due_of_stop front code stop
      → Delivered due status om on nb nn o1 o2 n0 n1 SameLast SameNotes
      → Delivered (due_of_ran front code written ends) status oo on nb nn o0 o2 n0 n1 SameOut SameNotes
  run_whole stop om due status o0 o1 o2 n0 n1 SameMid SameLast SameOut all ended same is d =
      let due_is : due ≡ due_of_stop front code ends = is ∙ ap (λ (x : Stop). due_of_stop front code x) (sym ended) in
      subst (λ (x : Due). Delivered (after written x) status oo on nb nn o0 o2 n0 n1 SameOut SameNotes) due_is
      (behind_out written due status oo om on nb nn o0 o1 o2 n0 n1 SameLast SameOut SameNotes all.took all.quiet
      (λ none last. same (all.none none) last) d)

-- ---- what the program writes

counted_quiet : (stop : Stop) (f0 f1 : ℕ) → Counted stop f0 f1 → stop ≢ stops.WriteFault → f1 ≡ f0
counted_quiet (stops.MachineFault kind pc) f0 f1 h other = h
counted_quiet (stops.TerraFault kind place) f0 f1 h other = h
counted_quiet stops.WriteFault f0 f1 h other = absurd (other refl)
counted_quiet (stops.Returned value) f0 f1 h other = h
counted_quiet stops.Unfinished f0 f1 h other = h

module _ (program : List (Option Instr)) (start : State) (steps : ℕ) (stop : Stop) (s : State) (oo on : Option (List ℕ)) (o0 o1 : ℕ) where
  pub output_whole : (Same : Type 0) → Agrees (run_of program start steps) stop s oo on → Counted stop o0 o1 → stop ≢ stops.WriteFault
      → ((run_of program start steps).output ≡ [] → Same) → TookAll (run_of program start steps).output oo on o0 o1 Same
  output_whole Same agrees counted other none = record {
    took = agrees.took;
    quiet = counted_quiet stop o0 o1 counted other;
    none = none;
  }

  pub output_cut_off : IsBeforeWrite program start steps s oo on → Counted stop o0 o1 → stop ≡ stops.WriteFault
      → TookPart (run_of program start steps).output oo on o0 o1
  output_cut_off h counted fault =
      let part = h.output ++ take h.front h.bytes in
      let behind = drop h.front h.bytes ++ (run_of program h.next (steps - h.done - 1)).output in
      let cut : (run_of program start steps).output ≡ part ++ behind = writes_front program start steps s oo on h in
      record {
        part = part;
        rest = behind;
        front = cut;
        some = λ none. writes_more program start steps s oo on h (back_none part behind (sym cut ∙ none));
        took = h.took;
        rose = subst (λ (x : Stop). Counted x o0 o1) fault counted;
      }
