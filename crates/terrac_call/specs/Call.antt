-- What the top call promises where nothing fails.
use Rattle.std.specs.Prelude.{ℕ, ◌≡◌, ◌≢◌, List, Option, Some}
use Rattle.terrac_call.specs.declared.status.Status.{Status}
use Rattle.terrac_call.specs.declared.status.Status.TheVariants as statuses
use Rattle.terrac_call.specs.Words.{Make, Stage, Exec, Asked, Named, Refused, Unlawful, asked_of}
use Rattle.terrac_call.specs.Due.{Due}
use Rattle.terrac_call.specs.Staged.{Compiles}
use Rattle.terrac_call.specs.Writing.{GivesDue}
use Rattle.terrac_call.specs.Answer.{IsDue}

-- the status and the bytes are those of something that is due
pub record AnswersDue
    (words : List (List ℕ)) (bytes : List ℕ) (status : Status)
    (out_old out_new notes_old notes_new : Option (List ℕ)) : Type 0 where
  pub due : Due
  pub is_due : IsDue (asked_of words) bytes due
  pub gives : GivesDue due status out_old out_new notes_old notes_new

-- Where the source tells its bytes and no count rose, the answer is exactly what is due, want of memory aside.
abbrev pub AnswersExactly :
    List (List ℕ) → Option (List ℕ) → (RoseSource RoseOut RoseNotes : Type 0) → Status →
    (out_old out_new notes_old notes_new : Option (List ℕ)) → Type 0
AnswersExactly words left RoseSource RoseOut RoseNotes status out_old out_new notes_old notes_new =
    (bytes : List ℕ) → left ≡ Some bytes →
    (RoseSource → ⊥) → (RoseOut → ⊥) → (RoseNotes → ⊥) → status ≢ statuses.NoMemory →
    AnswersDue words bytes status out_old out_new notes_old notes_new

-- the jobs that compile nothing: of those that do, images may differ, and so how far a run comes within its steps
abbrev pub CompilesNothing : Asked → Type 0
CompilesNothing (Named (Make what)) = Unit {0}
CompilesNothing (Named (Stage task)) = Compiles task → ⊥
CompilesNothing (Named (Exec call stepping)) = Unit {0}
CompilesNothing Refused = ⊥
CompilesNothing Unlawful = Unit {0}

-- Such a job on some bytes has one thing due. Of words that `clap` refuses its text is open.
abbrev pub OneDue : Type 0
OneDue =
    (words : List (List ℕ)) (bytes : List ℕ) (one other : Due) → CompilesNothing (asked_of words) →
    IsDue (asked_of words) bytes one → IsDue (asked_of words) bytes other → one ≡ other
