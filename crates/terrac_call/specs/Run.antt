-- What is due for a call of what a source exports: that is compiled to one image, whose run says what it prints, and its result.
use Rattle.std.specs.Prelude.{ℕ, false, ◌++◌, ◌*◌, List, [], Option, Some, None, codes}
use Rattle.std.specs.Fmt.{decimal}
use Rattle.tl_base.specs.declared.limits.TheConstants.Limits.{MEMORY_UNIT}
use Rattle.elf_image.specs.declared.image.Image.{Image}
use Rattle.elf_image.specs.Calls.{symbol_named}
use Rattle.terra_term.specs.Stores.{contents_of}
use Rattle.exotype.specs.World.{StageState}
use Rattle.back_end.specs.Compiled.{IsCompiled}
use Rattle.stage_image.specs.Emitted.{defined_count}
use Rattle.terrac_call.specs.Words.{Asking}
use Rattle.terrac_call.specs.Due.{Due}
use Rattle.terrac_call.specs.Exec.{Manner, IsCallDue}

-- of a generated source the line of the result begins with what was asked for, and with how many functions are defined
abbrev pub front_of : Option ℕ → (functions : ℕ) → List ℕ
front_of None functions = []
front_of (Some count) functions = codes "gen " ++ decimal count ++ codes " functions " ++ decimal functions ++ codes " "

abbrev pub manner_of : Asking → (functions : ℕ) → Manner
manner_of it functions = record {
  steps = it.running.steps;
  front = front_of it.generated functions;
  shows = it.running.shows;
  traced = false;
}

-- the bytes of the memory of what is compiled
abbrev pub memory_of : Asking → ℕ
memory_of it = it.running.limits.memory * MEMORY_UNIT

-- What a compiled image of exports owes for a call: any image that compiling may give, and a staging gives one.
pub record IsImageDue (it : Asking) (w : StageState) (due : Due) : Type 0 where
  pub image : Image
  pub compiled : IsCompiled (contents_of w.store) (memory_of it) w.exports.list image
  pub due_is : IsCallDue image it.call (manner_of it (defined_count w.store)) (symbol_named it.call.entry image.exports) due
