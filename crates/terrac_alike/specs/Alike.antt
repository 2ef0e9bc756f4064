-- Two sources that bind alike are due the same: what a source comes to depends on no name of a local.
use Rattle.std.specs.Prelude.{ℕ, ◌≡◌, ◌≤◌, ◌↔◌, List, [], length, None}
use Rattle.std.specs.Str.{IsUtf8}
use Rattle.tl_tree.specs.Nodes.{lay}
use Rattle.tl_tree.specs.Binding.{Alike}
use Rattle.tl_renaming.specs.Call.{IsRenaming}
use Rattle.renaming_alike.specs.Renamed.{HaveShortNames}
use Rattle.terrac_call.specs.Words.{Make, Stage, Exec, Asked, Named, Refused, Unlawful, generated_of, asked_of}
use Rattle.terrac_call.specs.Due.{Due, longest}
use Rattle.terrac_call.specs.Answer.{IsDue}
use Rattle.terrac_call.specs.Call.{CompilesNothing}

-- two sources that may be read, and bind alike
pub record AreAlikeSources (a b : List ℕ) : Type 0 where
  pub short : length a ≤ longest
  pub other_short : length b ≤ longest
  pub utf8 : IsUtf8 a
  pub other_utf8 : IsUtf8 b
  pub alike : Alike a b

-- the jobs that stage the source that they read
abbrev pub StagesSource : Asked → Type 0
StagesSource (Named (Make what)) = ⊥
StagesSource (Named (Stage task)) = generated_of task ≡ None
StagesSource (Named (Exec call steps)) = ⊥
StagesSource Refused = ⊥
StagesSource Unlawful = ⊥

-- What is due for the one is due for the other, and no more: of `run` and `emit` on either the same images, of the same exports.
abbrev pub AlikeSourcesAreDueAlike : Type 0
AlikeSourcesAreDueAlike =
    (words : List (List ℕ)) (a b : List ℕ) → AreAlikeSources a b → StagesSource (asked_of words) → (due : Due)
    → IsDue (asked_of words) a due ↔ IsDue (asked_of words) b due

-- So `check` and `terms`, which have one thing due, are due the very same.
abbrev pub AlikeSourcesAnswerAlike : Type 0
AlikeSourcesAnswerAlike =
    (words : List (List ℕ)) (a b : List ℕ) → AreAlikeSources a b → StagesSource (asked_of words) → CompilesNothing (asked_of words)
    → (one other : Due) → IsDue (asked_of words) a one → IsDue (asked_of words) b other → one ≡ other

-- So is a source and what `rename` gives of it, where no name has more than 248 bytes and that text may be read too.
abbrev pub RenamedSourcesAreDueAlike : Type 0
RenamedSourcesAreDueAlike =
    (words : List (List ℕ)) (bytes other : List ℕ) (renaming : IsRenaming bytes other) → length bytes ≤ longest → IsUtf8 bytes
    → HaveShortNames (lay renaming.tree []) → length other ≤ longest → StagesSource (asked_of words) → (due : Due)
    → IsDue (asked_of words) bytes due ↔ IsDue (asked_of words) other due
