-- What is written of what is due, whatever the sinks do.
use Rattle.std.specs.Prelude.{ℕ, ◌≡◌, ◌≤◌, ◌⊎◌, List, ◌++◌, Option}
use Rattle.tl_base.specs.Outside.{with_back, IsFront, IsRisen}
use Rattle.terrac_call.specs.declared.status.Status.{Status}
use Rattle.terrac_call.specs.declared.status.Status.TheVariants as statuses
use Rattle.terrac_call.specs.Statuses.{text_of}
use Rattle.terrac_call.specs.Due.{Due, all_notes, line}

-- every write was whole
pub record IsWritten (due : Due) (status : Status) (out notes : List ℕ) : Type 0 where
  pub same_status : status ≡ due.status
  pub same_out : out ≡ due.out
  pub same_notes : notes ≡ all_notes due

-- The line `write fault` was tried once, and `notes` took this part of it, all of it unless its count rose then. The count stood so before.
pub record IsTried (begun faults_new : ℕ) (part : List ℕ) : Type 0 where
  pub front : IsFront part (line (text_of statuses.WriteFault))
  pub later : begun ≤ faults_new
  pub whole : (IsRisen begun faults_new → ⊥) → part ≡ line (text_of statuses.WriteFault)

-- A write failed: the sinks took fronts of what was due, and then `notes` a front of the line `write fault`. The line of the status comes
-- last: it is begun only where `out` took all.
pub record IsCutOff (due : Due) (status : Status) (out notes : List ℕ) (o0 o1 n0 n1 : ℕ) : Type 0 where
  pub write_fault : status ≡ statuses.WriteFault
  pub out_front : IsFront out due.out
  pub due_part : List ℕ
  pub fault_part : List ℕ
  pub parts : notes ≡ due_part ++ fault_part
  pub due_front : IsFront due_part (all_notes due)
  pub line_last : (out ≡ due.out) ⊎ IsFront due_part due.noted
  -- the count of `notes` before its line: it rose until then, or that of `out` rose, and it stood where it began
  pub begun : ℕ
  pub failed : (IsRisen o0 o1 × (begun ≡ n0)) ⊎ IsRisen n0 begun
  pub tried : IsTried begun n1 fault_part

-- What the sinks took is what was due, or fronts of it where a write failed.
pub record Delivers
    (due : Due) (status : Status) (out_old out_new notes_old notes_new : Option (List ℕ)) (o0 o1 n0 n1 : ℕ) : Type 0 where
  pub out : List ℕ
  pub notes : List ℕ
  pub ends : IsWritten due status out notes ⊎ IsCutOff due status out notes o0 o1 n0 n1
  pub out_took : out_new ≡ with_back out_old out
  pub notes_took : notes_new ≡ with_back notes_old notes

-- the sinks took all that is due, and the status is that which is due
pub record GivesDue (due : Due) (status : Status) (out_old out_new notes_old notes_new : Option (List ℕ)) : Type 0 where
  pub status_is : status ≡ due.status
  pub out_took : out_new ≡ with_back out_old due.out
  pub notes_took : notes_new ≡ with_back notes_old (all_notes due)
