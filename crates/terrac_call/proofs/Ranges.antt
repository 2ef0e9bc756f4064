-- What the words name is in its range.
use Rattle.std.proofs.Common.{◌≡◌, inl, inr, ◌≤◌, Bool, true, false, List, [], ◌∷◌, length, find, Option, Some, None, refl, sym}
use Rattle.std.proofs.Common.{subst, codes, option_map, ◌∙◌, arith}
use Rattle.std.proofs.lemmas.Bool.{ne_eqb}
use Rattle.std.specs.Option.{option_map_or}
use Rattle.std.specs.Prelude.{if◌then◌else◌}
use Rattle.elf_image.specs.Lawful.{is_name}
use Rattle.clap.specs.Words.{Rule, Row, Text, Shape, fault_of, subcommand_of}
use Rattle.clap.specs.Simple.{argument_words, built, built_leaf, entered, filled, inherited, label_of, marked_built, names_of, on_top, rows_at}
use Rattle.clap.specs.Simple.{with_index, with_leaf_noted}
use Rattle.clap.specs.Walk.{answers_to, is_empty, nothing_held, rows_after, stop_after}
use Rattle.clap.specs.Faults.{entered_fault, level_fault}
use Rattle.clap.specs.declared.builder.value_parser.ValueParser.TheVariants as parsers
use Rattle.clap.specs.declared.error.ErrorKind.{ErrorKind}
use Rattle.clap.proofs.OnLiterals.{clap_on_literals}
use Rattle.clap.proofs.ValueTestLemmas.{accepts-Accepts}
use Rattle.terrac_call.specs.Words.{budget_rule, memory_rule, steps_rule, count_rule, traced_rule, command_line, asked_of, asked_job}
use Rattle.terrac_call.specs.Words.{Job, Make, Stage, Exec, Rename, ListImage, Assemble, Named, Refused, Unlawful, asm_command}
use Rattle.terrac_call.specs.Words.{job_of_command, limits_of, number_found, check_command, emit_command, exec_command, gen_command}
use Rattle.terrac_call.specs.Words.{run_command, terms_command, trace_command}
use Rattle.terrac_call.specs.Ranges.{AreLimits, AreSteps, AreTraced, AreWorked, CanStep, IsCount, IsLawfulJob, IsLawfulTask, JobsAreLawful}
use Rattle.terrac_call.proofs.Found.{Each, HasId, IsDefault, IsNumber, IsOne, all_found, number_in, or_both}

no : false ≡ true → ⊥
no e = absurd cc

-- a command of the program, as it is built
abbrev top : Shape
top = (on_top with_leaf_noted (on_top marked_built command_line)).top

abbrev sub : Shape → Shape
sub s = built_leaf (inherited top s)

-- words that a command takes without a fault
abbrev Takes : Shape → List Text → Type 0
Takes s words = level_fault s [] nothing_held words false [] ≡ []

abbrev rows_of : Shape → List Text → List Row
rows_of s words = rows_after s.rules [] words

-- ---- the numbers

record HasOne (k : Text) (b : Rule) (s : Shape) : Type 0 where
  ones : Each (IsOne k b) s.rules
  has : HasId k s.rules

budget_in : (s : Shape) (words : List Text) → HasOne (codes "budget") (filled budget_rule) s → Takes s words
    → (1 ≤ number_found (codes "budget") (rows_of s words)) × (number_found (codes "budget") (rows_of s words) ≤ 4000000)
budget_in s words one fault =
    let number : IsNumber (codes "budget") 1 4000000 (filled budget_rule) =
    record { id = refl; set = refl; range = refl; parser = refl } in
    let lawful : IsDefault 1 4000000 (codes "1000000" ∷ []) = accepts-Accepts false (parsers.Unsigned 1 4000000) (codes "1000000") refl in
    number_in (codes "budget") 1 4000000 (filled budget_rule) number s one.ones lawful words fault one.has (inl tt)

memory_in : (s : Shape) (words : List Text) → HasOne (codes "memory") (filled memory_rule) s → Takes s words
    → (64 ≤ number_found (codes "memory") (rows_of s words)) × (number_found (codes "memory") (rows_of s words) ≤ 65536)
memory_in s words one fault =
    let number : IsNumber (codes "memory") 64 65536 (filled memory_rule) =
    record { id = refl; set = refl; range = refl; parser = refl } in
    let lawful : IsDefault 64 65536 (codes "1024" ∷ []) = accepts-Accepts false (parsers.Unsigned 64 65536) (codes "1024") refl in
    number_in (codes "memory") 64 65536 (filled memory_rule) number s one.ones lawful words fault one.has (inl tt)

steps_in : (s : Shape) (words : List Text) → HasOne (codes "steps") (filled steps_rule) s → Takes s words
    → AreSteps (number_found (codes "steps") (rows_of s words))
steps_in s words one fault =
    let number : IsNumber (codes "steps") 1 1000000000000 (filled steps_rule) =
    record { id = refl; set = refl; range = refl; parser = refl } in
    let lawful : IsDefault 1 1000000000000 (codes "100000000" ∷ []) =
    accepts-Accepts false (parsers.Unsigned 1 1000000000000) (codes "100000000") refl in
    let both =
    number_in (codes "steps") 1 1000000000000 (filled steps_rule) number s one.ones lawful words fault one.has (inl tt) in
    record { least = both.0; most = both.1 }

abbrev numbered : Rule
numbered = with_index 1 (filled count_rule)

count_in : (s : Shape) (words : List Text) → HasOne (codes "N") numbered s → s.subcommand_negates_reqs ≡ false → Takes s words
    → IsCount (Some (number_found (codes "N") (rows_of s words)))
count_in s words one negates fault =
    let number : IsNumber (codes "N") 1 2000 numbered = record { id = refl; set = refl; range = refl; parser = refl } in
    number_in (codes "N") 1 2000 numbered number s one.ones tt words fault one.has (inr (refl, negates))

abbrev first_of_trace : Rule
first_of_trace = with_index 1 (filled traced_rule)

traced_in : (s : Shape) (words : List Text) → HasOne (codes "K") first_of_trace s → s.subcommand_negates_reqs ≡ false → Takes s words
    → AreTraced (number_found (codes "K") (rows_of s words))
traced_in s words one negates fault =
    let number : IsNumber (codes "K") 1 1000000 first_of_trace = record { id = refl; set = refl; range = refl; parser = refl } in
    let both =
    number_in (codes "K") 1 1000000 first_of_trace number s one.ones tt words fault one.has (inr (refl, negates)) in
    record { least = both.0; most = both.1 }

limits_in : (s : Shape) (words : List Text) → HasOne (codes "budget") (filled budget_rule) s
    → HasOne (codes "memory") (filled memory_rule) s → Takes s words → AreLimits (limits_of (rows_of s words))
limits_in s words budget memory fault =
    let b = budget_in s words budget fault in
    let m = memory_in s words memory fault in
    record { least_budget = b.0; most_budget = b.1; least_memory = m.0; most_memory = m.1 }

-- ---- each command

-- the numbers are in their ranges
abbrev IsInRange : Job → Type 0
IsInRange (Make Rename) = Unit {0}
IsInRange (Make ListImage) = Unit {0}
IsInRange (Make (Assemble entry memory)) = (64 ≤ memory) × (memory ≤ 65536)
IsInRange (Stage task) = IsLawfulTask task
IsInRange (Exec call stepping) = CanStep stepping.traced stepping.steps

abbrev IsLawfulSub : Shape → Type 0
IsLawfulSub s = (words : List Text) → Takes s words → IsInRange (job_of_command (Some (s.name, rows_of s words)))

run_sub : IsLawfulSub (sub run_command.top)
unfolding clap_on_literals
run_sub words fault = (
  limits_in (sub run_command.top) words
      (record {
        ones = (λ e. refl, (λ e. absurd (no e), (λ e. absurd (no e), (λ e. absurd (no e), (λ e. absurd (no e), (λ e. absurd (no e), (λ e. absurd (no e), tt)))))));
        has = inl refl;
      })
      (record {
        ones = (λ e. absurd (no e), (λ e. refl, (λ e. absurd (no e), (λ e. absurd (no e), (λ e. absurd (no e), (λ e. absurd (no e), (λ e. absurd (no e), tt)))))));
        has = inr (inl refl);
      }) fault,
  steps_in (sub run_command.top) words
      (record {
        ones = (λ e. absurd (no e), (λ e. absurd (no e), (λ e. refl, (λ e. absurd (no e), (λ e. absurd (no e), (λ e. absurd (no e), (λ e. absurd (no e), tt)))))));
        has = inr (inr (inl refl));
      }) fault,
  tt,
)

-- emit, check and terms have the limits alone
staging_sub : (s : Shape) → s.rules ≡ (sub emit_command.top).rules → (words : List Text) → Takes s words
    → AreLimits (limits_of (rows_of s words))
unfolding clap_on_literals
staging_sub s same words fault =
    limits_in s words
    (record {
      ones = subst (λ (rules : List Rule). Each (IsOne (codes "budget") (filled budget_rule)) rules) (sym same)
          (λ e. refl, (λ e. absurd (no e), (λ e. absurd (no e), tt)));
      has = subst (HasId (codes "budget")) (sym same) (inl refl);
    })
    (record {
      ones = subst (λ (rules : List Rule). Each (IsOne (codes "memory") (filled memory_rule)) rules) (sym same)
          (λ e. absurd (no e), (λ e. refl, (λ e. absurd (no e), tt)));
      has = subst (HasId (codes "memory")) (sym same) (inr (inl refl));
    }) fault

emit_sub : IsLawfulSub (sub emit_command.top)
unfolding clap_on_literals
emit_sub words fault = staging_sub (sub emit_command.top) refl words fault

check_sub : IsLawfulSub (sub check_command.top)
unfolding clap_on_literals
check_sub words fault = staging_sub (sub check_command.top) refl words fault

terms_sub : IsLawfulSub (sub terms_command.top)
unfolding clap_on_literals
terms_sub words fault = staging_sub (sub terms_command.top) refl words fault

exec_sub : IsLawfulSub (sub exec_command.top)
unfolding clap_on_literals
exec_sub words fault =
    steps_in (sub exec_command.top) words
    (record {
      ones = (λ e. refl, (λ e. absurd (no e), (λ e. absurd (no e), (λ e. absurd (no e), tt))));
      has = inl refl;
    }) fault

gen_sub : IsLawfulSub (sub gen_command.top)
unfolding clap_on_literals
gen_sub words fault = (
  limits_in (sub gen_command.top) words
      (record {
        ones = (λ e. refl, (λ e. absurd (no e), (λ e. absurd (no e), (λ e. absurd (no e), (λ e. absurd (no e), tt)))));
        has = inl refl;
      })
      (record {
        ones = (λ e. absurd (no e), (λ e. refl, (λ e. absurd (no e), (λ e. absurd (no e), (λ e. absurd (no e), tt)))));
        has = inr (inl refl);
      }) fault,
  steps_in (sub gen_command.top) words
      (record {
        ones = (λ e. absurd (no e), (λ e. absurd (no e), (λ e. refl, (λ e. absurd (no e), (λ e. absurd (no e), tt)))));
        has = inr (inr (inl refl));
      }) fault,
  count_in (sub gen_command.top) words
      (record {
        ones = (λ e. absurd (no e), (λ e. absurd (no e), (λ e. absurd (no e), (λ e. refl, (λ e. absurd (no e), tt)))));
        has = inr (inr (inr (inl refl)));
      }) refl fault,
)

asm_sub : IsLawfulSub (sub asm_command.top)
unfolding clap_on_literals
asm_sub words fault =
    memory_in (sub asm_command.top) words
    (record {
      ones = (λ e. refl, (λ e. absurd (no e), (λ e. absurd (no e), tt)));
      has = inl refl;
    }) fault

trace_sub : IsLawfulSub (sub trace_command.top)
unfolding clap_on_literals
trace_sub words fault =
    traced_in (sub trace_command.top) words
    (record {
      ones = (λ e. refl, (λ e. absurd (no e), (λ e. absurd (no e), (λ e. absurd (no e), tt))));
      has = inl refl;
    }) refl fault

subs_lawful : Each IsLawfulSub (built command_line).subs
unfolding clap_on_literals
subs_lawful = (run_sub, (emit_sub, (exec_sub, (check_sub, (terms_sub, (λ words fault. tt, (gen_sub, (λ words fault. tt, (asm_sub, (trace_sub, (λ words fault. tt, tt)))))))))))

-- ---- the job

-- what was found for the command at which a walk stopped
found_lawful : (stop : Option (Text × List Text)) → entered_fault (built command_line) stop ≡ []
    → IsInRange (job_of_command (entered (built command_line) stop))
found_lawful None fault = tt
found_lawful (Some p) fault = by (find (λ s. answers_to p.0 (label_of s)) (built command_line).subs) refl fault
  where
    by : (o : Option Shape) → find (λ s. answers_to p.0 (label_of s)) (built command_line).subs ≡ o
        → option_map_or (λ s. level_fault s [] nothing_held p.1 false []) o [] ≡ []
        → IsInRange (job_of_command (option_map (λ s. rows_at s p.1) o))
    by None e fault = tt
    by (Some s) e fault =
        all_found IsLawfulSub (λ s. answers_to p.0 (label_of s)) (built command_line).subs s subs_lawful e p.1 fault

nothing : (kinds : List ErrorKind) → is_empty kinds ≡ true → kinds ≡ []
nothing [] e = refl
nothing (k ∷ ks) e = absurd (no (sym (ne_eqb (length (k ∷ ks)) 0 (λ e. omega arith)) ∙ e))

-- a job that is asked for has a lawful name as well
asked_lawful : (found job : Job) → IsInRange found → asked_job found ≡ Named job → IsLawfulJob job
asked_lawful (Make Rename) job range named = let same : Make Rename ≡ job = cc in subst IsLawfulJob same tt
asked_lawful (Make ListImage) job range named = let same : Make ListImage ≡ job = cc in subst IsLawfulJob same tt
asked_lawful (Make (Assemble entry memory)) job range named = by (is_name entry) refl named
  where
    by : (b : Bool) → is_name entry ≡ b → (if b then Named (Make (Assemble entry memory)) else Unlawful) ≡ Named job → IsLawfulJob job
    by true e named = let same : Make (Assemble entry memory) ≡ job = cc in subst IsLawfulJob same (range.0, range.1, e)
    by false e named = absurd cc
asked_lawful (Stage task) job range named = let same : Stage task ≡ job = cc in subst IsLawfulJob same range
asked_lawful (Exec call stepping) job range named = let same : Exec call stepping ≡ job = cc in subst IsLawfulJob same range

pub jobs_are_lawful : JobsAreLawful
unfolding asked_of
jobs_are_lawful words job named = by (is_empty (fault_of command_line words)) refl named
  where
    by : (b : Bool) → is_empty (fault_of command_line words) ≡ b
        → (if b then asked_job (job_of_command (subcommand_of command_line words)) else Refused) ≡ Named job → IsLawfulJob job
    by false e named = absurd cc
    by true e named =
        let none : fault_of command_line words ≡ [] = nothing (fault_of command_line words) e in
        let inner = (or_both _ _ (or_both _ _ none).1).0 in
        asked_lawful (job_of_command (subcommand_of command_line words)) job
        (found_lawful (stop_after (built command_line).top.rules (names_of (built command_line)) (argument_words command_line words)) inner)
        named

pub are_worked : AreWorked
unfolding clap_on_literals asked_of
are_worked = record {
  check = refl;
  terms = refl;
  emit = refl;
  rename = refl;
  list = refl;
  asm = refl;
  unlawful = refl;
  nameless = refl;
  run = refl;
  exec = refl;
  trace = refl;
  gen = refl;
  given = refl;
  below = refl;
  above = refl;
  untold = refl;
  other = refl;
  twice = refl;
  none = refl;
}
