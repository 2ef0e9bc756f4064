use Rattle.std.proofs.Common.{◌≡◌, take, map, length}
use Rattle.rv_machine.specs.Decoded.{found_of}
use Rattle.rv_machine.specs.Program.{IsProgram}
use Rattle.rv_machine.proofs.machine.decode_text.Given as goal

-- the words so far are decoded
abbrev pub invariant-loop-word : goal.invariant-loop-word
invariant-loop-word l = IsProgram (take l.word-index l.words) (map found_of l.text.items) × (length l.text.items ≡ l.word-index)
