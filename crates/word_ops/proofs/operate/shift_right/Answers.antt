use Rattle.word_ops.proofs.Powers.{right-none}
use Rattle.word_ops.proofs.operate.shift_right.Goals as goal

pub returns-then-width-eq0 : goal.returns-then-width-eq0
returns-then-width-eq0 c = right-none c.args.width c.args.x c.args.y c.if-width-eq0.true
