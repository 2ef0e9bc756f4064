-- What a call answers, whatever the source and the sinks do.
use Rattle.std.specs.Prelude.{ℕ, ◌≡◌, List, [], Option}
use Rattle.terrac_call.specs.declared.status.Status.{Status}
use Rattle.terrac_call.specs.declared.status.Status.TheVariants as statuses
use Rattle.terrac_call.specs.Words.{Make, Stage, Exec, Task, Asked, Named, Refused, Unlawful, NamesJob, asked_of, text_of}
use Rattle.terrac_call.specs.Due.{Due, refused, due_of_usage}
use Rattle.terrac_call.specs.Reading.{IsToldAs}
use Rattle.terrac_call.specs.Staged.{IsSourceDue, IsSourceOwed}
use Rattle.terrac_call.specs.Exec.{IsExecDue}
use Rattle.terrac_call.specs.Making.{IsMakingDue}
use Rattle.terrac_call.specs.Writing.{Delivers}

-- ---- what is owed, before it is written

-- for a job on these bytes, and for words that name none, by what is due for a task on a source
abbrev pub IsDueBy : (Task → List ℕ → Due → Type 0) → Asked → List ℕ → Due → Type 0
IsDueBy IsOfSource (Named (Make what)) bytes due = IsMakingDue what bytes due
IsDueBy IsOfSource (Named (Stage task)) bytes due = IsOfSource task (text_of task bytes) due
IsDueBy IsOfSource (Named (Exec call stepping)) bytes due = IsExecDue call stepping bytes due
IsDueBy IsOfSource Refused bytes due = (text : List ℕ) × (due ≡ due_of_usage text)
IsDueBy IsOfSource Unlawful bytes due = due ≡ due_of_usage []

abbrev pub IsDue : Asked → List ℕ → Due → Type 0
IsDue asked bytes due = IsDueBy IsSourceDue asked bytes due

-- with what want of memory may leave of it, behind a staging
abbrev pub IsOwed : Asked → List ℕ → Due → Type 0
IsOwed asked bytes due = IsDueBy IsSourceOwed asked bytes due

-- What is owed for what is asked: what is due on the bytes that the source has left; the line of a read that failed, where there is a
-- job and the source's count of faults rose; or that of want of memory, which is free, and behind which nothing else is written.
pub data Owed (asked : Asked) (left : Option (List ℕ)) (Rose : Type 0) (due : Due) : Type 0 where
  Answered : (bytes : List ℕ) → IsToldAs left bytes → IsOwed asked bytes due → Owed asked left Rose due
  Unread : NamesJob asked → Rose → due ≡ refused statuses.ReadFault → Owed asked left Rose due
  OutOfMemory : due ≡ refused statuses.NoMemory → Owed asked left Rose due

-- ---- what is answered

-- What a call answers: something was owed, and that was delivered. A sink that nothing is due to stays the same.
pub record Answers
    (words : List (List ℕ)) (left : Option (List ℕ)) (Rose : Type 0) (status : Status)
    (out_old out_new notes_old notes_new : Option (List ℕ)) (o0 o1 n0 n1 : ℕ) (SameOut SameNotes : Type 0) : Type 0 where
  pub due : Due
  pub owed : Owed (asked_of words) left Rose due
  pub delivered : Delivers due status out_old out_new notes_old notes_new o0 o1 n0 n1
  pub quiet_out : due.out ≡ [] → SameOut
  pub quiet_notes : status ≡ statuses.Ok → due.noted ≡ [] → SameNotes
