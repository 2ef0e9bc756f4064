-- Runs of an image whose text was linked.
use Rattle.std.specs.Prelude.{◌≡◌, ℕ, ◌+◌, ◌*◌, ◌^◌, ◌<◌, ◌≤◌, true, false, List, [], ◌++◌, length, map, Some, slice_get}
use Rattle.tl_base.specs.declared.ids.FnId.{FnId}
use Rattle.tl_base.specs.declared.limits.TheConstants.{MAX_CALLS}
use Rattle.elf_image.specs.declared.image.Image.{Image}
use Rattle.elf_image.specs.Lawful.{IsLawful}
use Rattle.elf_image.specs.Layout.{text_address}
use Rattle.rv_isa.specs.Table.{word_of}
use Rattle.rv_machine.specs.declared.stops.MachineKind.TheVariants.{Break}
use Rattle.rv_machine.specs.declared.stops.Stop.{Stop}
use Rattle.rv_machine.specs.declared.stops.Stop.TheVariants as stops
use Rattle.rv_machine.specs.Machine.{State}
use Rattle.rv_machine.specs.ImageRun.{RvRun, image_start}
use Rattle.terra_words.specs.Words.{fault_number}
use Rattle.terra_words.specs.Runs.{Returned, Fault, Stuck, Run, Over, More, word}
use Rattle.terra_memory.specs.Region.{fresh}
use Rattle.tac_form.specs.declared.tac.Tac.{Tac}
use Rattle.tac_form.specs.Flow.{TacRun, begun}
use Rattle.tac_counts.specs.Counts.{left_after, left_in}
use Rattle.rv_select.specs.Shapes.{place_number, units_given}
use Rattle.rv_select.specs.Whole.{Starts}
use Rattle.rv_link.specs.declared.function.Function.{Function}
use Rattle.rv_link.specs.declared.function.Linked.{Linked}
use Rattle.rv_link.specs.Linked.{AreSelected, AreSound, IsLinkedText, code_in, image_of, program_of}

abbrev pub AreWords : List ℕ → Type 0
AreWords arguments = (k x : ℕ) → slice_get arguments k ≡ Some x → x < 2 ^ 64

-- A lawful image without entries begins, at an address, as functions that begin as the entry ask for: with its memory as a region that
-- has the statics.
abbrev pub ImagesStart : Type 0
ImagesStart =
    (image : Image) (at : ℕ) (arguments : List ℕ) → IsLawful image → image.entries ≡ [] → length arguments ≤ 8 → AreWords arguments →
    Starts at (fresh image.memory image.statics) arguments (image_start image at arguments)

-- The image's run stops so, in that many steps and in all that are more, with this output.
abbrev pub Halts : Image → (at : ℕ) → (arguments : List ℕ) → (steps : ℕ) → Stop → State → (out : List ℕ) → Type 0
Halts image at arguments steps stop last out =
    (more : ℕ) → RvRun image at arguments (steps + more) (record { stop = stop; state = last; output = out })

pub record ImageReturns (image : Image) (at : ℕ) (arguments : List ℕ) (most : ℕ) (out : List ℕ) (result : ℕ → Type 0) : Type 0 where
  pub steps : ℕ
  pub last : State
  pub few : steps ≤ most
  pub gives : result (last.registers 10)
  pub halts : Halts image at arguments steps (stops.Returned (last.registers 10)) last out

pub record ImageFails (image : Image) (at : ℕ) (arguments : List ℕ) (most kind place : ℕ) (out : List ℕ) : Type 0 where
  pub steps : ℕ
  pub last : State
  pub few : steps ≤ most
  pub halts : Halts image at arguments steps (stops.TerraFault kind place) last out

-- The image's run isn't over after at least and at most so many steps, and has written this.
pub record ImageGoesOn (image : Image) (at : ℕ) (arguments : List ℕ) (least most : ℕ) (out : List ℕ) : Type 0 where
  pub steps : ℕ
  pub stands : State
  pub enough : least ≤ steps
  pub few : steps ≤ most
  pub runs : RvRun image at arguments steps (record { stop = stops.Unfinished; state = stands; output = out })

-- The image's run ends as one of three-address code does that had a count, with the same output, in at most so many steps; where that
-- needs more counts, it has written the same output in at least as many steps as the count, and isn't over. Of code that is stuck nothing
-- is promised.
abbrev pub EndsLike : Image → (at : ℕ) → (arguments : List ℕ) → (n most : ℕ) → Run → Type 0
EndsLike image at arguments n most (Over (Returned v) out) =
    ImageReturns image at arguments most out (λ r. (x : ℕ) → v ≡ word x → r ≡ x)
EndsLike image at arguments n most (Over (Fault kind place) out) =
    ImageFails image at arguments most (fault_number kind) (place_number place) out
EndsLike image at arguments n most (Over Stuck out) = Unit {0}
EndsLike image at arguments n most (More out) = ImageGoesOn image at arguments n most out

abbrev pub text_end : Linked → ℕ
text_end linked = text_address + 4 * length linked.words.items

-- The image's run ends as one of three-address code does that had a count, with the same output, in at most so many steps, and S1 has the
-- counts that are left then; where that needs more counts, it has written the same output and breaks off. Of code that is stuck nothing is
-- promised.
pub record CountedReturns (image : Image) (at : ℕ) (arguments : List ℕ) (most left : ℕ) (out : List ℕ) (result : ℕ → Type 0) : Type 0 where
  pub steps : ℕ
  pub last : State
  pub few : steps ≤ most
  pub gives : result (last.registers 10)
  pub counted : last.registers 9 ≡ left
  pub halts : Halts image at arguments steps (stops.Returned (last.registers 10)) last out

pub record CountedFails (image : Image) (at : ℕ) (arguments : List ℕ) (most left kind place : ℕ) (out : List ℕ) : Type 0 where
  pub steps : ℕ
  pub last : State
  pub few : steps ≤ most
  pub counted : last.registers 9 ≡ left
  pub halts : Halts image at arguments steps (stops.TerraFault kind place) last out

pub record CountedBreaks (image : Image) (at : ℕ) (arguments : List ℕ) (most : ℕ) (out : List ℕ) : Type 0 where
  pub steps : ℕ
  pub last : State
  pub few : steps ≤ most
  pub halts : Halts image at arguments steps (stops.MachineFault Break last.pc) last out

abbrev pub EndsCounted : Image → (at : ℕ) → (arguments : List ℕ) → (most left : ℕ) → Run → Type 0
EndsCounted image at arguments most left (Over (Returned v) out) =
    CountedReturns image at arguments most left out (λ r. (x : ℕ) → v ≡ word x → r ≡ x)
EndsCounted image at arguments most left (Over (Fault kind place) out) =
    CountedFails image at arguments most left (fault_number kind) (place_number place) out
EndsCounted image at arguments most left (Over Stuck out) = Unit {0}
EndsCounted image at arguments most left (More out) = CountedBreaks image at arguments most out

-- Linked functions in a lawful image without entries: a run of the image, from where one of them begins as the entry, ends as that of its
-- three-address code does at each count n, in at most n + 1 times as many steps as the image has instructions.
abbrev pub ImagesAreCarried : Type 0
ImagesAreCarried =
    (functions : List Function) (values : List FnId) (linked : Linked) (image : Image) (f : FnId) (code : Tac) (n : ℕ)
    (arguments : List ℕ) (r : Run) →
    AreSelected functions → AreSound (program_of functions values) functions → IsLinkedText functions linked → IsLawful image →
    image.text ≡ linked.words.items → image.entries ≡ [] → MAX_CALLS * linked.frame ≤ image.private →
    code_in functions f ≡ Some code → code.counts ≡ false → AreWords arguments → length arguments ≤ 8 →
    length arguments ≡ length code.parameters →
    TacRun (program_of functions values) image.statics image.memory n f (map word arguments) r →
    EndsLike image (image_of functions f).at arguments n ((n + 1) * length image.text) r

-- The same of functions that count, where behind them all stand the words by which one of them is entered with a number of counts: from
-- there it has so many, and the run ends in at most one more times as many steps as the image has instructions.
abbrev pub CountedImagesAreCarried : Type 0
CountedImagesAreCarried =
    (functions : List Function) (values : List FnId) (linked : Linked) (image : Image) (f : FnId) (code : Tac) (units : ℕ)
    (arguments : List ℕ) (r : Run) →
    AreSelected functions → AreSound (program_of functions values) functions → IsLinkedText functions linked → IsLawful image →
    image.text ≡ linked.words.items ++ map word_of (units_given units (text_end linked) (image_of functions f).at) →
    image.entries ≡ [] → MAX_CALLS * linked.frame ≤ image.private →
    code_in functions f ≡ Some code → code.counts ≡ true → units < 2 ^ 64 → AreWords arguments → length arguments ≤ 8 →
    length arguments ≡ length code.parameters →
    (ran : TacRun (program_of functions values) image.statics image.memory units f (map word arguments) r) →
    EndsCounted image (text_end linked) arguments ((units + 1) * length image.text)
    (left_after (begun (program_of functions values) image.statics image.memory units f (map word arguments))
    (left_in (program_of functions values) ran.0) units) r
