-- What one piece does to a sink, and what all of them do; and one read to what was read.
use Rattle.std.specs.Prelude.{ℕ, ◌≡◌, ◌<◌, ◌≤◌, ◌⊎◌, List, [], ◌++◌, length, Option}
use Rattle.tl_base.specs.Outside.{with_front, with_back, IsRisen, IsFront}
use Rattle.terrac_call.specs.declared.status.Status.{Status}
use Rattle.terrac_call.specs.declared.status.Status.TheVariants as statuses
use Rattle.terrac_call.specs.Due.{Due}
use Rattle.terrac_call.specs.Writing.{Delivers, IsTried}

-- a sink took a front of a piece, and its count of faults rose
pub record StopsShort (piece : List ℕ) (old new : Option (List ℕ)) (faults_old faults_new : ℕ) : Type 0 where
  pub front : List ℕ
  pub is_front : IsFront front piece
  pub took : new ≡ with_back old front
  pub rose : IsRisen faults_old faults_new

-- `notes` took a part of the line `write fault`
pub record IsSaid (old new : Option (List ℕ)) (faults_old faults_new : ℕ) : Type 0 where
  pub part : List ℕ
  pub tried : IsTried faults_old faults_new part
  pub took : new ≡ with_back old part

-- All that is due was delivered, or a write failed, which the status says. A sink that nothing is due to stays the same.
pub record Delivered
    (due : Due) (status : Status) (out_old out_new notes_old notes_new : Option (List ℕ)) (o0 o1 n0 n1 : ℕ)
    (SameOut SameNotes : Type 0) : Type 0 where
  pub delivers : Delivers due status out_old out_new notes_old notes_new o0 o1 n0 n1
  pub out_rose : o0 < o1 → status ≡ statuses.WriteFault
  pub notes_rose : n0 < n1 → status ≡ statuses.WriteFault
  pub fault : status ≡ statuses.WriteFault → IsRisen o0 o1 ⊎ IsRisen n0 n1
  pub quiet_out : due.out ≡ [] → SameOut
  pub quiet_notes : status ≡ statuses.Ok → due.noted ≡ [] → SameNotes

-- a source gave at most so many bytes, which come behind those that it gave before
pub record Gathered (most : ℕ) (bytes_old bytes_new : List ℕ) (old new : Option (List ℕ)) : Type 0 where
  pub part : List ℕ
  pub few : length part ≤ most
  pub added : bytes_new ≡ bytes_old ++ part
  pub front : old ≡ with_front part new
