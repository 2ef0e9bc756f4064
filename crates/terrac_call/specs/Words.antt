-- What the words of a command line ask for, by what `clap` says of a simple command: which words it takes, and what it makes of them.
use Rattle.std.specs.Prelude.{ℕ, ◌≡◌, ◌^◌, Bool, ◌&&◌, ◌==◌, nat_lt, List, [], ◌∷◌, length, Option, Some, None, unwrap_or}
use Rattle.std.specs.Prelude.{if◌then◌else◌, true, false, codes}
use Rattle.std.specs.List.{list_all}
use Rattle.std.specs.Char.{digit_value}
use Rattle.std.specs.Str.{bytes_eq}
use Rattle.std.specs.Str.Parse.{digits_value, without_leading_plus}
use Rattle.elf_image.specs.Lawful.{is_name}
use Rattle.gen_source.specs.Generated.{generated}
use Rattle.clap.specs.Words.{App, Row, Rule, Text, all_of, fault_of, first_of, new_app, new_rule}
use Rattle.clap.specs.Words.{subcommand_of, takes, with_rule, with_subcommand}
use Rattle.clap.specs.Simple.{new_shape}
use Rattle.clap.specs.Walk.{is_empty}
use Rattle.clap.specs.declared.builder.action.ArgAction.TheVariants.{Append}
use Rattle.clap.specs.declared.builder.value_parser.ValueParser.TheVariants as parsers

-- ---- the command line

-- ENTRY: one value, required
abbrev pub entry_rule : Rule
entry_rule = record (new_rule (codes "ENTRY")) { required = true }

-- ARG..: the last positional, with any number of values
abbrev pub arguments_rule : Rule
arguments_rule = record (new_rule (codes "ARG")) { action = Some Append }

-- --steps: a number from 1 to 1,000,000,000,000, at most once, and 100,000,000 where it isn't given
abbrev pub steps_rule : Rule
steps_rule = record (new_rule (codes "steps")) {
  long = Some (codes "steps");
  value_names = 1;
  parser = Some (parsers.Unsigned 1 1000000000000);
  defaults = codes "100000000" ∷ [];
}

-- --budget: a number from 1 to 4,000,000, at most once, and 1,000,000 where it isn't given
abbrev pub budget_rule : Rule
budget_rule = record (new_rule (codes "budget")) {
  long = Some (codes "budget");
  value_names = 1;
  parser = Some (parsers.Unsigned 1 4000000);
  defaults = codes "1000000" ∷ [];
}

-- --memory: a number of KiB from 64 to 65,536, at most once, and 1,024 where it isn't given
abbrev pub memory_rule : Rule
memory_rule = record (new_rule (codes "memory")) {
  long = Some (codes "memory");
  value_names = 1;
  parser = Some (parsers.Unsigned 64 65536);
  defaults = codes "1024" ∷ [];
}

-- --image: 0 or 1, at most once, and 0 where it isn't given
abbrev pub image_rule : Rule
image_rule = record (new_rule (codes "image")) {
  long = Some (codes "image");
  value_names = 1;
  parser = Some (parsers.Unsigned 0 1);
  defaults = codes "0" ∷ [];
}

-- N: a number from 1 to 2,000, required
abbrev pub count_rule : Rule
count_rule = record (new_rule (codes "N")) { required = true; parser = Some (parsers.Unsigned 1 2000) }

-- K: a number of steps from 1 to 1,000,000, required
abbrev pub traced_rule : Rule
traced_rule = record (new_rule (codes "K")) { required = true; parser = Some (parsers.Unsigned 1 1000000) }

-- a command with the limits of a staging
abbrev pub staging_command : App → App
staging_command app = with_rule (with_rule app budget_rule) memory_rule

-- run ENTRY ARG.., with its options
abbrev pub run_command : App
run_command =
    with_rule (with_rule (with_rule (with_rule (staging_command (new_app (codes "run"))) steps_rule) image_rule) entry_rule)
    arguments_rule

-- emit, with its options
abbrev pub emit_command : App
emit_command = staging_command (new_app (codes "emit"))

-- exec ENTRY ARG.., with its option
abbrev pub exec_command : App
exec_command = with_rule (with_rule (with_rule (new_app (codes "exec")) steps_rule) entry_rule) arguments_rule

-- check, with its options
abbrev pub check_command : App
check_command = staging_command (new_app (codes "check"))

-- terms, with its options
abbrev pub terms_command : App
terms_command = staging_command (new_app (codes "terms"))

-- rename, without options
abbrev pub rename_command : App
rename_command = new_app (codes "rename")

-- gen N, with its options
abbrev pub gen_command : App
gen_command = with_rule (with_rule (staging_command (new_app (codes "gen"))) steps_rule) count_rule

-- list, without options
abbrev pub list_command : App
list_command = new_app (codes "list")

-- asm ENTRY, with its option
abbrev pub asm_command : App
asm_command = with_rule (with_rule (new_app (codes "asm")) memory_rule) entry_rule

-- trace K ENTRY ARG.., without options
abbrev pub trace_command : App
trace_command = with_rule (with_rule (with_rule (new_app (codes "trace")) traced_rule) entry_rule) arguments_rule

-- the program without a command
abbrev pub program : App
program = record { top = record (new_shape (codes "terrac")) { subcommand_required = true }; subs = [] }

-- the program requires one of its commands
abbrev pub command_line : App
command_line =
    with_subcommand
    (with_subcommand
    (with_subcommand
    (with_subcommand
    (with_subcommand
    (with_subcommand
    (with_subcommand
    (with_subcommand (with_subcommand (with_subcommand program run_command.top) emit_command.top) exec_command.top)
    check_command.top)
    terms_command.top)
    rename_command.top)
    gen_command.top)
    list_command.top)
    asm_command.top)
    trace_command.top

-- ---- the job

-- a call of an entry with arguments
pub record Call : Type 0 where
  pub entry : Text
  pub arguments : List Text

-- how many units staging may pay, and how many KiB of memory what is compiled has
pub record Limits : Type 0 where
  pub budget : ℕ
  pub memory : ℕ

-- how a source is run: within which limits, for at most how many steps, and whether its image goes to `notes` first
pub record Running : Type 0 where
  pub limits : Limits
  pub steps : ℕ
  pub shows : Bool

-- which function of a source is called, how the source is run, and of a generated source how many functions were asked for
pub record Asking : Type 0 where
  pub call : Call
  pub running : Running
  pub generated : Option ℕ

-- how a function of an image is run: for at most how many steps, and whether a line tells of each in place of what it writes
pub record Stepping : Type 0 where
  pub steps : ℕ
  pub traced : Bool

-- what is made of bytes, with nothing written before it: a source with its locals renamed; the listing of an image; or the image of lines
-- of instructions, with a function of this name and so many KiB of memory
pub data Making : Type 0 where
  Rename : Making
  ListImage : Making
  Assemble : (entry : Text) (memory : ℕ) → Making

-- what a source is staged for: a line for the check of each function that it defines; the terms of what it exports; the image of that; or a
-- call of it, of a source that is read or of one that is generated
pub data Task : Type 0 where
  Check : (limits : Limits) → Task
  Terms : (limits : Limits) → Task
  Emit : (limits : Limits) → Task
  Run : (asking : Asking) → Task

-- to make something of bytes; to stage a source; or to run an entry of an image
pub data Job : Type 0 where
  Make : (what : Making) → Job
  Stage : (task : Task) → Job
  Exec : (call : Call) (stepping : Stepping) → Job

-- how many functions the source of a task has, where it is generated
abbrev pub generated_of : Task → Option ℕ
generated_of (Check limits) = None
generated_of (Terms limits) = None
generated_of (Emit limits) = None
generated_of (Run asking) = asking.generated

-- the source of a task, by the bytes that are read
abbrev pub source_of : Option ℕ → List ℕ → List ℕ
source_of None bytes = bytes
source_of (Some count) bytes = generated count

abbrev pub text_of : Task → List ℕ → List ℕ
text_of task bytes = source_of (generated_of task) bytes

-- ---- what was found

-- What is required or has a default is always there, and a number is one in its range; these definitions say something of other
-- rows as well.
abbrev pub text_or_none : Option Text → Text
text_or_none found = unwrap_or found []

abbrev pub is_numeral : Text → Bool
is_numeral digits =
    nat_lt 0 (length digits)
    && (list_all (λ digit. nat_lt (digit_value digit) 10) digits && nat_lt (digits_value 10 digits) (2 ^ 64))

abbrev pub number_or_zero : Text → ℕ
number_or_zero text =
    if is_numeral (without_leading_plus text) then digits_value 10 (without_leading_plus text) else 0

abbrev pub call_of : List Row → Call
call_of rows = record {
  entry = text_or_none (first_of (codes "ENTRY") rows);
  arguments = unwrap_or (all_of (codes "ARG") rows) [];
}

-- the number that was found for an option, for N or for K
abbrev pub number_found : Text → List Row → ℕ
number_found id rows = number_or_zero (text_or_none (first_of id rows))

abbrev pub limits_of : List Row → Limits
limits_of rows = record { budget = number_found (codes "budget") rows; memory = number_found (codes "memory") rows }

-- a command without `--image` shows no image
abbrev pub running_of : List Row → Running
running_of rows = record {
  limits = limits_of rows;
  steps = number_found (codes "steps") rows;
  shows = number_found (codes "image") rows == 1;
}

abbrev pub run_of : List Row → Asking
run_of rows = record { call = call_of rows; running = running_of rows; generated = None }

-- a generated source is run from its `main`
abbrev pub main_call : Call
main_call = record { entry = codes "main"; arguments = [] }

abbrev pub gen_of : List Row → Asking
gen_of rows = record { call = main_call; running = running_of rows; generated = Some (number_found (codes "N") rows) }

-- the image that is assembled
abbrev pub assembly_of : List Row → Making
assembly_of rows = Assemble (text_or_none (first_of (codes "ENTRY") rows)) (number_found (codes "memory") rows)

-- the run of an image, and one that is traced
abbrev pub exec_of : List Row → Job
exec_of rows = Exec (call_of rows) (record { steps = number_found (codes "steps") rows; traced = false })

abbrev pub trace_of : List Row → Job
trace_of rows = Exec (call_of rows) (record { steps = number_found (codes "K") rows; traced = true })

-- the job of a command with what was found for its arguments; there is one of ten
abbrev pub job_of_command : Option (Text × List Row) → Job
job_of_command None = Make Rename
job_of_command (Some found) =
    if bytes_eq found.0 (codes "run") then Stage (Run (run_of found.1))
    else (if bytes_eq found.0 (codes "exec") then exec_of found.1
    else (if bytes_eq found.0 (codes "check") then Stage (Check (limits_of found.1))
    else (if bytes_eq found.0 (codes "terms") then Stage (Terms (limits_of found.1))
    else (if bytes_eq found.0 (codes "emit") then Stage (Emit (limits_of found.1))
    else (if bytes_eq found.0 (codes "gen") then Stage (Run (gen_of found.1))
    else (if bytes_eq found.0 (codes "list") then Make ListImage
    else (if bytes_eq found.0 (codes "asm") then Make (assembly_of found.1)
    else (if bytes_eq found.0 (codes "trace") then trace_of found.1 else Make Rename))))))))

-- ---- what is asked for

-- What words ask for: a job; nothing, as `clap` refuses them, with a text of its own; or an image whose function can't have its name.
pub data Asked : Type 0 where
  Named : (job : Job) → Asked
  Refused : Asked
  Unlawful : Asked

-- a function of an image has a name of 1 to 255 bytes, none of them zero
abbrev pub asked_making : Making → Asked
asked_making Rename = Named (Make Rename)
asked_making ListImage = Named (Make ListImage)
asked_making (Assemble entry memory) = if is_name entry then Named (Make (Assemble entry memory)) else Unlawful

abbrev pub asked_job : Job → Asked
asked_job (Make what) = asked_making what
asked_job (Stage task) = Named (Stage task)
asked_job (Exec call stepping) = Named (Exec call stepping)

-- what the words ask for, the program's own name first: refused exactly where `clap` refuses them
unfoldable pub asked_of : List Text → Asked
asked_of words =
    if is_empty (fault_of command_line words) then asked_job (job_of_command (subcommand_of command_line words)) else Refused

-- a job was asked for
abbrev pub NamesJob : Asked → Type 0
NamesJob (Named job) = Unit {0}
NamesJob Refused = ⊥
NamesJob Unlawful = ⊥

-- the words are ones of which `clap` says that a simple command takes them
unfoldable pub AreTaken : List Text → Type 0
AreTaken words = takes command_line words ≡ true
