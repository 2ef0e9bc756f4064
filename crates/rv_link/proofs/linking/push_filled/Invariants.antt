use Rattle.std.proofs.Common.{◌≡◌, ◌++◌, drop, length}
use Rattle.rv_link.specs.Filling.{AreIn, entry_at, filled}
use Rattle.rv_link.proofs.linking.push_filled.Given as goal

-- with the words to come, all words are there
abbrev pub invariant-loop-call : goal.invariant-loop-call
invariant-loop-call l =
    (l.text.items ++ filled (entry_at l.entries) l.base l.from (drop l.call-index l.calls) (drop l.from l.words)
    ≡ l.fn.text.items ++ filled (entry_at l.entries) l.base 0 l.calls l.words)
    × AreIn l.from (length l.words) (drop l.call-index l.calls)
