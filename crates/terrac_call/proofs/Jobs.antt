-- What is owed for the words as a whole: where they name no job, and where a read fails or memory isn't found.
use Rattle.std.proofs.Common.{◌≡◌, ℕ, List, [], Option, Some, None, refl, ap, subst, ◌∙◌}
use Rattle.terrac_call.specs.declared.status.Status.TheVariants as statuses
use Rattle.terrac_call.specs.Words.{Asked, Job, Named, Refused, Unlawful}
use Rattle.terrac_call.specs.Due.{Due, due_of_usage}
use Rattle.terrac_call.specs.JobView.{HasUsageLine}
use Rattle.terrac_call.specs.Reading.{IsToldAs, TookAtMost, most_read}
use Rattle.terrac_call.specs.Answer.{Answered, IsDue, Owed}

-- bytes that a source has left
told : (left : Option (List ℕ)) → (bytes : List ℕ) × IsToldAs left bytes
told None = ([], tt)
told (Some bytes) = (bytes, refl)

abbrev pub usage_with : List ℕ → Due
usage_with notes = record { status = statuses.Usage; out = []; noted = []; notes = notes }

-- words that `clap` refuses
pub usage_owed : (asked : Asked) (left : Option (List ℕ)) (Rose : Type 0) (text : List ℕ) (due : Due) → Refused ≡ asked → HasUsageLine text
    → due ≡ usage_with text → Owed asked left Rose due
usage_owed asked left Rose text due none line shown =
    let bytes : (bytes : List ℕ) × IsToldAs left bytes = told left in
    let is : IsDue Refused bytes.0 due = (line.0, shown ∙ ap usage_with line.1) in
    subst (λ (j : Asked). Owed j left Rose due) none (Answered bytes.0 bytes.1 is)

-- words that ask for an image whose function can't have its name
pub unlawful_owed : (asked : Asked) (left : Option (List ℕ)) (Rose : Type 0) (due : Due) → Unlawful ≡ asked → due ≡ due_of_usage []
    → Owed asked left Rose due
unlawful_owed asked left Rose due none shown =
    let bytes : (bytes : List ℕ) × IsToldAs left bytes = told left in
    subst (λ (j : Asked). Owed j left Rose due) none (Answered bytes.0 bytes.1 shown)

-- what is owed and read for a job is so for the words that name it
pub owed_named : (job : Job) (words : Asked) (left : Option (List ℕ)) (Rose : Type 0) (due : Due) → Named job ≡ words
    → Owed (Named job) left Rose due → Owed words left Rose due
owed_named job words left Rose due named owed = subst (λ (j : Asked). Owed j left Rose due) named owed

pub bound_named : (job : Job) (words : Asked) (old new : Option (List ℕ)) → Named job ≡ words
    → TookAtMost (most_read (Named job)) old new → TookAtMost (most_read words) old new
bound_named job words old new named took = subst (λ (j : Asked). TookAtMost (most_read j) old new) named took
