use Rattle.std.proofs.Common.{arith}
use Rattle.terrac_call.specs.Due.{IsTooLong, IsNotUtf8}
use Rattle.terrac_call.proofs.parsing.source_text.Goals as goal

pub returns-then-source-gt-LONGEST_TEXT-clause-refused : goal.returns-then-source-gt-LONGEST_TEXT-clause-refused
returns-then-source-gt-LONGEST_TEXT-clause-refused c = IsTooLong (omega arith)

pub returns-in-Err-clause-refused : goal.returns-in-Err-clause-refused
returns-in-Err-clause-refused c = IsNotUtf8 c.if-source-gt-LONGEST_TEXT.false c.in-Err.ensures.cases.0
