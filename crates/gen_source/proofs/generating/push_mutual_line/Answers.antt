use Rattle.std.proofs.Common.{append_assoc}
use Rattle.gen_source.proofs.generating.push_mutual_line.Goals as goal

-- what one write of the line says
pub returns : goal.returns
returns c = simp append_assoc at c.in_ok-write.ensures.bytes
