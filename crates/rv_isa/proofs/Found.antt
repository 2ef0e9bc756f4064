-- What is found under a word is the instruction of the word, since no other has it.
use Rattle.std.proofs.Common.{◌≡◌, ◌≢◌, ◌↔◌, ◌∙◌, ℕ, IsNone, Option, Some, None, sym, ap, refl}
use Rattle.rv_isa.specs.Finds.{Finds}
use Rattle.rv_isa.specs.Table.{word_of}
use Rattle.rv_isa.specs.declared.instr.Instr.{Instr}
use Rattle.rv_isa.proofs.OneWord.{word_of-same}

pub found_some : (w : ℕ) (found : Option Instr) → Finds word_of w found → (i : Instr) → (found ≡ Some i) ↔ (word_of i ≡ w)
found_some w (Some j) h i =
    (λ e. (let same : j ≡ i = cc in ap word_of (sym same) ∙ h), λ e. ap Some (word_of-same j i (h ∙ sym e)))
found_some w None h i = (λ e. cc, λ e. absurd (h i e))

pub found_none : (w : ℕ) (found : Option Instr) → Finds word_of w found → IsNone found ↔ ((i : Instr) → word_of i ≢ w)
found_none w (Some j) h = (λ e. cc, λ none. absurd (none j h))
found_none w None h = (λ e. h, λ none. refl)
