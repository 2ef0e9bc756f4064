-- From what is owed and delivered to what is answered.
use Rattle.std.proofs.Common.{◌≡◌, ◌≢◌, ◌⊎◌, inl, inr, ℕ, List, Option, Some, refl, sym, ap, subst, ◌∙◌}
use Rattle.tl_base.specs.declared.place.Place.{Place}
use Rattle.tl_base.specs.Outside.{with_back, IsRisen}
use Rattle.tl_tree.specs.Code.{Items}
use Rattle.terrac_call.specs.declared.status.Status.{Status}
use Rattle.terrac_call.specs.declared.status.Status.TheVariants as statuses
use Rattle.terrac_call.specs.Words.{Make, Stage, Exec, Task, Check, Terms, Emit, Run, Asked, Named, Refused, Unlawful, asked_of, text_of}
use Rattle.terrac_call.specs.Due.{Due, IsReadingDue, IsRefused, IsTree, Reading}
use Rattle.terrac_call.specs.Staged.{IsRestDue, IsRestOwed, IsSourceDue, IsSourceOwed, IsTreeDue, IsTreeOwed, told}
use Rattle.terrac_call.specs.Reading.{IsToldAs}
use Rattle.terrac_call.specs.Answer.{Answered, Answers, IsDue, IsOwed, OutOfMemory, Owed, Unread}
use Rattle.terrac_call.specs.Call.{AnswersExactly}

-- what is due behind what was printed has its status
pub told_status : (task : Task) (printed : List ℕ) (rest : Due) → (told task printed rest).status ≡ rest.status
told_status (Check limits) printed rest = refl
told_status (Terms limits) printed rest = refl
told_status (Emit limits) printed rest = refl
told_status (Run asking) printed rest = refl

-- ---- what is owed is due, unless memory ran out

module _ (due : Due) (found : due.status ≢ statuses.NoMemory) where
  rest_due : (task : Task) (it : _) (rest : Due) → rest.status ≢ statuses.NoMemory → IsRestOwed task it rest → IsRestDue task it rest
  rest_due task it rest other (inl is) = is
  rest_due task it rest other (inr none) = absurd (other (ap (λ (d : Due). d.status) none.1))

  tree_due : (task : Task) (items : Items) (finish : Place) → IsTreeOwed task items finish due → IsTreeDue task items finish due
  tree_due task items finish x = record {
    placed = x.placed;
    n = x.n;
    ending = x.ending;
    comes = x.comes;
    rest = x.rest;
    rest_is = rest_due task x.ending x.rest
        (λ none. found (ap (λ (d : Due). d.status) x.is ∙ told_status task x.ending.left.world.typing.stage.heap.printed x.rest ∙ none)) x.rest_is;
    is = x.is;
  }

  reading_due : (task : Task) (reading : Reading) → IsReadingDue (IsTreeOwed task) reading due → IsReadingDue (IsTreeDue task) reading due
  reading_due task (IsRefused kind place) is = is
  reading_due task (IsTree tree finish) is = tree_due task _ finish is

  source_due : (task : Task) (bytes : List ℕ) → IsSourceOwed task bytes due → IsSourceDue task bytes due
  source_due task bytes is = (is.0, is.1, reading_due task is.0 is.2)

  pub due_of_owed : (asked : Asked) (bytes : List ℕ) → IsOwed asked bytes due → IsDue asked bytes due
  due_of_owed (Named (Make what)) bytes is = is
  due_of_owed (Named (Stage task)) bytes is = source_due task (text_of task bytes) is
  due_of_owed (Named (Exec call stepping)) bytes is = is
  due_of_owed Refused bytes is = is
  due_of_owed Unlawful bytes is = is

-- ---- where nothing fails

pub answers_exactly : (words : List (List ℕ)) (left : Option (List ℕ)) (Rose : Type 0) (status : Status)
    (oo on nb nn : Option (List ℕ)) (o0 o1 n0 n1 : ℕ) (SameOut SameNotes : Type 0)
    → Answers words left Rose status oo on nb nn o0 o1 n0 n1 SameOut SameNotes
    → (status ≡ statuses.WriteFault → IsRisen o0 o1 ⊎ IsRisen n0 n1)
    → AnswersExactly words left Rose (IsRisen o0 o1) (IsRisen n0 n1) status oo on nb nn
answers_exactly words left Rose status oo on nb nn o0 o1 n0 n1 SameOut SameNotes answers fault =
    λ bytes told_as quiet_source quiet_out quiet_notes found.
    elim answers.delivered.ends [
      | inl written ↦ record {
        due = answers.due;
        is_due = due_is bytes told_as quiet_source (λ memory. found (written.same_status ∙ memory)) answers.owed;
        gives = record {
          status_is = written.same_status;
          out_took = answers.delivered.out_took ∙ ap (with_back oo) written.same_out;
          notes_took = answers.delivered.notes_took ∙ ap (with_back nb) written.same_notes;
        };
      }
      | inr cut ↦ absurd (elim (fault cut.write_fault) [ inl rose ↦ quiet_out rose | inr rose ↦ quiet_notes rose ])
    ]
  where
    due_is : (bytes : List ℕ) → left ≡ Some bytes → (Rose → ⊥) → (answers.due.status ≢ statuses.NoMemory)
        → Owed (asked_of words) left Rose answers.due → IsDue (asked_of words) bytes answers.due
    due_is bytes told_as quiet found (Answered other same is) =
        let here : bytes ≡ other = subst (λ (o : Option (List ℕ)). IsToldAs o other) told_as same in
        subst (λ (b : List ℕ). IsDue (asked_of words) b answers.due) (sym here) (due_of_owed answers.due found (asked_of words) other is)
    due_is bytes told_as quiet found (Unread named rose is) = absurd (quiet rose)
    due_is bytes told_as quiet found (OutOfMemory is) = absurd (found (ap (λ (d : Due). d.status) is))
