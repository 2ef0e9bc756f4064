-- A machine that is ready to run an image.
use Rattle.std.proofs.Common.{◌≡◌, ◌≤◌, ℕ, Bool, true, false, List, length, Option, refl, sym, ap, ap₂, subst, ◌∙◌}
use Rattle.std.specs.List.{concat}
use Rattle.elf_image.specs.declared.image.Image.{Image}
use Rattle.elf_image.specs.declared.image.Symbol.{Symbol}
use Rattle.rv_isa.specs.declared.instr.Instr.{Instr}
use Rattle.rv_machine.specs.Machine.{State, loaded_state, run_of, start_state}
use Rattle.rv_machine.specs.Program.{IsProgram}
use Rattle.rv_machine.specs.ImageRun.{RvRun, image_start, private_bytes, region_bytes}
use Rattle.rv_machine.proofs.ImageRuns.{start_same}
use Rattle.rv_listing.specs.Trace.{Trace}
use Rattle.terrac_call.specs.Arguments.{Good}
use Rattle.terrac_call.specs.Due.{noting}
use Rattle.terrac_call.specs.Exec.{Manner, IsRunDue, shown_file}
use Rattle.terrac_call.specs.DueView.{due_of_ran, words_traced}
use Rattle.terrac_call.specs.Traced.{shown_run}
use Rattle.terrac_call.specs.Tracing.{IsTextOf, written_of}

-- the words that a machine has beside it are those of its program
pub text_kept : (traced : Bool) (image : Image) (words : Option (List ℕ)) (program after : List (Option Instr)) → IsProgram image.text program
    → after ≡ program → words ≡ words_traced traced image → IsTextOf words after
text_kept traced image words program after decoded same is = subst (λ (ws : Option (List ℕ)). IsTextOf ws after) (sym is) (by traced)
  where
    by : (t : Bool) → IsTextOf (words_traced t image) after
    by true = subst (IsProgram image.text) (sym same) decoded
    by false = tt

module _ (image : Image) (symbol : Symbol) (values : List ℕ) (manner : Manner) (few : length values ≤ 8)
    (program after : List (Option Instr)) (heap : ℕ) (loaded started : State) (decoded : IsProgram image.text program)
    (same_heap : heap ≡ image.heap) (same_memory : loaded ≡ loaded_state (region_bytes image) (private_bytes image))
    (same_program : after ≡ program) (same_start : started ≡ start_state symbol.address heap values loaded.region loaded.private) where
  starts : started ≡ image_start image symbol.address values
  starts = same_start ∙ start_same image heap loaded symbol.address values same_heap same_memory

  abbrev runs : RvRun image symbol.address values manner.steps (run_of after started manner.steps)
  runs = record {
    few = few;
    program = after;
    decoded = subst (IsProgram image.text) (sym same_program) decoded;
    runs = ap (λ (s : State). run_of after s manner.steps) (sym starts);
  }

  -- what goes out of it
  written : (traced : Bool) → written_of (words_traced traced image) after started manner.steps
      ≡ shown_run traced image symbol.address values manner.steps after (run_of after started manner.steps)
  written true = ap (λ (s : State). concat (Trace after image.text s 1 manner.steps)) starts
  written false = refl

  -- that is due for the run, behind the file where that is shown
  pub ready_due : (file front : List ℕ) (words : Option (List ℕ)) → file ≡ shown_file manner image → front ≡ manner.front
      → words ≡ words_traced manner.traced image
      → IsRunDue image symbol manner (Good values)
      (noting file (due_of_ran front symbol.result (written_of words after started manner.steps) (run_of after started manner.steps).stop))
  ready_due file front words same_file same_front same_words = (
    run_of after started manner.steps,
    runs,
    ap₂ (λ (f t : List ℕ). noting f (due_of_ran t symbol.result (written_of words after started manner.steps)
        (run_of after started manner.steps).stop)) same_file same_front
        ∙ ap (λ (o : List ℕ). noting (shown_file manner image) (due_of_ran manner.front symbol.result o (run_of after started manner.steps).stop))
        (ap (λ (ws : Option (List ℕ)). written_of ws after started manner.steps) same_words ∙ written manner.traced),
  )
