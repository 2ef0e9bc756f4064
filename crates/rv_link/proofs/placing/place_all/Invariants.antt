use Rattle.std.proofs.Common.{◌≡◌, ◌+◌, ◌*◌, ◌≤◌, ◌++◌, drop}
use Rattle.tl_base.specs.declared.ids.FnId.{FnId}
use Rattle.rv_link.specs.Filling.{entry_at, entry_in, first_of, words_in}
use Rattle.rv_link.specs.Linked.{starts_in}
use Rattle.rv_link.proofs.placing.place_all.Given as goal

-- with what is still to come, all starts and entries are there
abbrev pub invariant-loop-function : goal.invariant-loop-function
invariant-loop-function l =
    (l.starts.items ++ starts_in l.at (drop l.function-index l.functions) ≡ starts_in 65536 l.functions)
    × ((f : FnId) → first_of (entry_at l.entries.items f) (entry_in l.at (drop l.function-index l.functions) f) ≡ entry_in 65536 l.functions f)
    × (l.at + 4 * words_in (drop l.function-index l.functions) ≡ 65536 + 4 * words_in l.functions)
    × (65536 ≤ l.at)
