use Rattle.lua_base.proofs.Shortness.{is_short, text_by_name}
use Rattle.lua_base.proofs.answers.bad_argument_text.Goals as goal

pub returns-clause-text : goal.returns-clause-text
returns-clause-text c =
    rw c.in_ok-format.ensures.ok
    (text_by_name c.args.line c.args.word c.args.position c.args.function c.name-name.result.now c.name-name.ensures)

pub returns-clause-short : goal.returns-clause-short
returns-clause-short c =
    rw (returns-clause-text c)
    (is_short c.args.line c.args.word c.args.position c.args.function c.ranges.line.fits c.ranges.word.fits c.ranges.position.fits)
