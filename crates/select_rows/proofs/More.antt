-- One more function behind others.
use Rattle.std.proofs.Common.{◌≡◌, true, List, [], ◌∷◌, ◌++◌}
use Rattle.rv_select.specs.Calls.{IsSelected}
use Rattle.rv_link.specs.declared.function.Function.{Function}
use Rattle.rv_link.specs.Linked.{AreSelected, AreThere, blocks_there}

pub selected-more : (xs : List Function) (x : Function) → AreSelected xs → IsSelected x.tac x.homes x.code → AreSelected (xs ++ x ∷ [])
selected-more [] x h s = (s, tt)
selected-more (y ∷ xs) x h s = (h.0, selected-more xs x h.1 s)

pub there-more : (xs : List Function) (x : Function) → AreThere xs → blocks_there x.tac ≡ true → AreThere (xs ++ x ∷ [])
there-more [] x h s = (s, tt)
there-more (y ∷ xs) x h s = (h.0, there-more xs x h.1 s)
