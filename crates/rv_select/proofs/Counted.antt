-- Code that counts and the same code that does not have the same reads and homes.
use Rattle.std.proofs.Common.{◌≡◌, Bool, List, Option, None, length, replicate, refl, ap}
use Rattle.std.specs.List.{flat_map}
use Rattle.reg_alloc.specs.declared.assignment.Home.{Home}
use Rattle.tac_form.specs.declared.tac.Tac.{Tac}
use Rattle.rv_select.specs.Asked.{asked_homes, asked_of, block_asks, first_word, if_small, is_small, with_given}
use Rattle.rv_select.specs.Pairs.{reads_of}
use Rattle.rv_select.specs.Places.{as_counting}

pub reads-counting : (counts : Bool) (code : Tac) → reads_of code ≡ reads_of (as_counting counts code)
unfolding reads_of
reads-counting counts code = refl

asked-counting : (counts : Bool) (code : Tac) → asked_of code ≡ asked_of (as_counting counts code)
unfolding asked_of
asked-counting counts code = ap (λ r. flat_map (block_asks r) code.blocks) (reads-counting counts code)

pub homes-counting : (counts : Bool) (code : Tac) (homes : List (Option Home)) → asked_homes code homes ≡ asked_homes (as_counting counts code) homes
unfolding asked_homes
homes-counting counts code homes =
    ap (λ a. if_small (is_small (first_word code homes) (length code.parameters)) (first_word code homes) code.parameters
    (with_given homes (replicate (length homes) None) a)) (asked-counting counts code)
