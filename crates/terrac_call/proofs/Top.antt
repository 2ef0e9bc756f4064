-- From what the work came to and how it went out to what the call answers.
use Rattle.std.proofs.Common.{◌≡◌, ◌≢◌, ◌⊎◌, inl, inr, ℕ, List, Option, sym, ◌∙◌}
use Rattle.terrac_call.specs.declared.status.Status.{Status}
use Rattle.terrac_call.specs.declared.status.Status.TheVariants as statuses
use Rattle.terrac_call.specs.Words.{Asked, Refused, Unlawful, asked_of}
use Rattle.terrac_call.specs.Due.{Due}
use Rattle.terrac_call.specs.Writing.{Delivers}
use Rattle.terrac_call.specs.Delivery.{Delivered}
use Rattle.terrac_call.specs.Answer.{Answers, Owed}
use Rattle.terrac_call.proofs.Statuses.{job_no_usage, read_fault_rose}

pub answers : (words : List (List ℕ)) (left : Option (List ℕ)) (Rose : Type 0) (due : Due) (status : Status)
    (oo on nb nn : Option (List ℕ)) (o0 o1 n0 n1 : ℕ) (SameOut SameNotes : Type 0) → Owed (asked_of words) left Rose due
    → Delivered due status oo on nb nn o0 o1 n0 n1 SameOut SameNotes
    → Answers words left Rose status oo on nb nn o0 o1 n0 n1 SameOut SameNotes
answers words left Rose due status oo on nb nn o0 o1 n0 n1 SameOut SameNotes owed d = record {
  due = due;
  owed = owed;
  delivered = d.delivers;
  quiet_out = d.quiet_out;
  quiet_notes = d.quiet_notes;
}

module _ (due : Due) (status : Status) (oo on nb nn : Option (List ℕ)) (o0 o1 n0 n1 : ℕ)
    (d : Delivers due status oo on nb nn o0 o1 n0 n1) where
  -- the status is that which is due, or that of a write that failed
  pub status_kept : (status ≡ due.status) ⊎ (status ≡ statuses.WriteFault)
  status_kept = elim d.ends [ inl written ↦ inl written.same_status | inr cut ↦ inr cut.write_fault ]

  module _ (asked : Asked) (left : Option (List ℕ)) (Rose : Type 0) (owed : Owed asked left Rose due) where
    pub read_rose : status ≡ statuses.ReadFault → Rose
    read_rose fault =
        elim status_kept [
          | inl same ↦ read_fault_rose asked left Rose due owed (sym same ∙ fault)
          | inr other ↦ let bad : statuses.WriteFault ≡ statuses.ReadFault = sym other ∙ fault in absurd cc
        ]

    pub no_usage : (asked ≢ Refused) ⊎ (due.status ≡ statuses.NoMemory) → asked ≢ Unlawful → status ≢ statuses.Usage
    no_usage named lawful usage =
        elim status_kept [
          | inl same ↦ elim named [
            | inl taken ↦ job_no_usage asked left Rose due taken lawful owed (sym same ∙ usage)
            | inr memory ↦ let bad : statuses.NoMemory ≡ statuses.Usage = sym memory ∙ sym same ∙ usage in absurd cc
          ]
          | inr other ↦ let bad : statuses.WriteFault ≡ statuses.Usage = sym other ∙ usage in absurd cc
        ]
