-- The ranges of what the words name: `clap` refuses words that name a number beyond its range.
use Rattle.std.specs.Prelude.{ℕ, ◌≡◌, ◌≤◌, Bool, true, false, List, [], ◌∷◌, Option, Some, None, IsTrue, codes}
use Rattle.clap.specs.Words.{Text}
use Rattle.elf_image.specs.Lawful.{is_name}
use Rattle.terrac_call.specs.Words.{Limits, Running, Making, Rename, ListImage, Assemble, Task, Check, Terms, Emit, Run, Job, Make, Stage, Exec}
use Rattle.terrac_call.specs.Words.{Named, Refused, Unlawful, asked_of, main_call}

-- a budget from 1 to 4,000,000 units, and a memory from 64 to 65,536 KiB
pub record AreLimits (limits : Limits) : Type 0 where
  pub least_budget : 1 ≤ limits.budget
  pub most_budget : limits.budget ≤ 4000000
  pub least_memory : 64 ≤ limits.memory
  pub most_memory : limits.memory ≤ 65536

-- from 1 to 1,000,000,000,000 steps
pub record AreSteps (steps : ℕ) : Type 0 where
  pub least : 1 ≤ steps
  pub most : steps ≤ 1000000000000

-- from 1 to 1,000,000 steps, where each is told
pub record AreTraced (steps : ℕ) : Type 0 where
  pub least : 1 ≤ steps
  pub most : steps ≤ 1000000

abbrev pub CanStep : (traced : Bool) → (steps : ℕ) → Type 0
CanStep true steps = AreTraced steps
CanStep false steps = AreSteps steps

-- from 1 to 2,000 functions of a generated source
abbrev pub IsCount : Option ℕ → Type 0
IsCount None = Unit {0}
IsCount (Some count) = (1 ≤ count) × (count ≤ 2000)

abbrev pub IsLawfulTask : Task → Type 0
IsLawfulTask (Check limits) = AreLimits limits
IsLawfulTask (Terms limits) = AreLimits limits
IsLawfulTask (Emit limits) = AreLimits limits
IsLawfulTask (Run asking) = AreLimits asking.running.limits × AreSteps asking.running.steps × IsCount asking.generated

-- a memory from 64 to 65,536 KiB, and a name that a function of an image can have
abbrev pub IsLawfulMaking : Making → Type 0
IsLawfulMaking Rename = Unit {0}
IsLawfulMaking ListImage = Unit {0}
IsLawfulMaking (Assemble entry memory) = (64 ≤ memory) × (memory ≤ 65536) × IsTrue (is_name entry)

abbrev pub IsLawfulJob : Job → Type 0
IsLawfulJob (Make what) = IsLawfulMaking what
IsLawfulJob (Stage task) = IsLawfulTask task
IsLawfulJob (Exec call stepping) = CanStep stepping.traced stepping.steps

-- so each job is that words name
abbrev pub JobsAreLawful : Type 0
JobsAreLawful = (words : List Text) (job : Job) → asked_of words ≡ Named job → IsLawfulJob job

-- ---- worked words

abbrev pub default_limits : Limits
default_limits = record { budget = 1000000; memory = 1024 }

abbrev pub default_running : Running
default_running = record { limits = default_limits; steps = 100000000; shows = false }

-- A number that isn't given is its default, and one that is given is read. A number beyond its range is refused, and so is an option that
-- the command hasn't, or that is given twice. No function has the empty name.
pub record AreWorked : Type 0 where
  pub check : asked_of (codes "terrac" ∷ codes "check" ∷ []) ≡ Named (Stage (Check default_limits))
  pub terms : asked_of (codes "terrac" ∷ codes "terms" ∷ []) ≡ Named (Stage (Terms default_limits))
  pub emit : asked_of (codes "terrac" ∷ codes "emit" ∷ []) ≡ Named (Stage (Emit default_limits))
  pub rename : asked_of (codes "terrac" ∷ codes "rename" ∷ []) ≡ Named (Make Rename)
  pub list : asked_of (codes "terrac" ∷ codes "list" ∷ []) ≡ Named (Make ListImage)
  pub asm : asked_of (codes "terrac" ∷ codes "asm" ∷ codes "five" ∷ []) ≡ Named (Make (Assemble (codes "five") 1024))
  pub unlawful : asked_of (codes "terrac" ∷ codes "asm" ∷ [] ∷ []) ≡ Unlawful
  pub nameless : asked_of (codes "terrac" ∷ codes "asm" ∷ []) ≡ Refused
  pub run : asked_of (codes "terrac" ∷ codes "run" ∷ codes "add" ∷ codes "2" ∷ [])
      ≡ Named (Stage (Run (record {
        call = record { entry = codes "add"; arguments = codes "2" ∷ [] };
        running = default_running;
        generated = None;
      })))
  pub exec : asked_of (codes "terrac" ∷ codes "exec" ∷ codes "add" ∷ [])
      ≡ Named (Exec (record { entry = codes "add"; arguments = [] }) (record { steps = 100000000; traced = false }))
  pub trace : asked_of (codes "terrac" ∷ codes "trace" ∷ codes "+5" ∷ codes "add" ∷ codes "2" ∷ [])
      ≡ Named (Exec (record { entry = codes "add"; arguments = codes "2" ∷ [] }) (record { steps = 5; traced = true }))
  pub gen : asked_of (codes "terrac" ∷ codes "gen" ∷ codes "2000" ∷ [])
      ≡ Named (Stage (Run (record { call = main_call; running = default_running; generated = Some 2000 })))
  pub given : asked_of (codes "terrac" ∷ codes "check" ∷ codes "--budget" ∷ codes "4000000" ∷ codes "--memory=64" ∷ [])
      ≡ Named (Stage (Check (record { budget = 4000000; memory = 64 })))
  pub below : asked_of (codes "terrac" ∷ codes "check" ∷ codes "--budget" ∷ codes "0" ∷ []) ≡ Refused
  pub above : asked_of (codes "terrac" ∷ codes "gen" ∷ codes "2001" ∷ []) ≡ Refused
  pub untold : asked_of (codes "terrac" ∷ codes "trace" ∷ codes "1000001" ∷ codes "add" ∷ []) ≡ Refused
  pub other : asked_of (codes "terrac" ∷ codes "check" ∷ codes "--steps" ∷ codes "1" ∷ []) ≡ Refused
  pub twice : asked_of (codes "terrac" ∷ codes "emit" ∷ codes "--memory" ∷ codes "64" ∷ codes "--memory" ∷ codes "64" ∷ []) ≡ Refused
  pub none : asked_of (codes "terrac" ∷ []) ≡ Refused
