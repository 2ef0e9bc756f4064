-- A layer that stands in a stage.
use Rattle.std.proofs.Common.{◌≡◌, List, [], ◌∷◌, ◌++◌, refl, ap}
use Rattle.tl_base.specs.Layer.{State, Given, Seen, Ended, SpentAt, Asks, Meaning, IsSameUnlessAsks}
use Rattle.stage_form.specs.Stage.{after}
use Rattle.stage_form.specs.Within.{Fitting, given_part, whole, seen_within, answered, within}
use Rattle.stage_form.proofs.Reaching.{same_meaning}

seen_within-agrees : {W P Q R A B E F : Type 0} (f : Fitting W P Q R A B E F) (w : W) (o : Seen P Q E) (go go2 : Seen W R F → Seen W R F) → ((r : R) (s : State W) → IsSameUnlessAsks (go (Asks r s)) (go2 (Asks r s))) → IsSameUnlessAsks (seen_within f w o go) (seen_within f w o go2)
seen_within-agrees f w (Ended e s) go go2 h = refl
seen_within-agrees f w (SpentAt s) go go2 h = refl
seen_within-agrees f w (Asks q s) go go2 h = h (f.question q) (whole f w s)

answered-agrees : {W P Q R A B E F : Type 0} (f : Fitting W P Q R A B E F) (meaning : Meaning P Q A E) (answers more : List (Given W B)) (r : R) (s : State W) → IsSameUnlessAsks (answered f meaning answers (Asks r s)) (answered f meaning (answers ++ more) (Asks r s))
answered-agrees f meaning [] more r s = tt
answered-agrees f meaning (next ∷ later) more r s =
    seen_within-agrees f next.state.world (meaning (given_part f next) []) (answered f (after meaning (given_part f next)) later) (answered f (after meaning (given_part f next)) (later ++ more))
    (answered-agrees f (after meaning (given_part f next)) later more)

-- answers past its end are not read, whatever the layer is
pub within_reads_no_more : {W P Q R A B E F : Type 0} (f : Fitting W P Q R A B E F) (meaning : Meaning P Q A E) (first : Given W B) (answers more : List (Given W B)) → IsSameUnlessAsks (within f meaning first answers) (within f meaning first (answers ++ more))
within_reads_no_more f meaning first answers more =
    seen_within-agrees f first.state.world (meaning (given_part f first) []) (answered f (after meaning (given_part f first)) answers) (answered f (after meaning (given_part f first)) (answers ++ more))
    (answered-agrees f (after meaning (given_part f first)) answers more)

-- layers that mean the same do so in a stage
pub within_same : {W P Q R A B E F : Type 0} (f : Fitting W P Q R A B E F) (c d : Meaning P Q A E) → ((first : Given P A) (later : List (Given P A)) → c first later ≡ d first later) → (first : Given W B) (later : List (Given W B)) → within f c first later ≡ within f d first later
within_same f c d h first later = ap (λ m. within f m first later) (same_meaning c d h)
