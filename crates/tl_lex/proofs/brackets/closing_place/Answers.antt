use Rattle.std.proofs.Common.{sym, ap, ◌∙◌}
use Rattle.std.proofs.lemmas.List.{take_rest}
use Rattle.tl_lex.specs.Brackets.{closes}
use Rattle.tl_lex.proofs.BracketLemmas.{open_more, closed_here, never_closed}
use Rattle.tl_lex.proofs.brackets.closing_place.Goals as goal

pub returns-then-closes : goal.returns-then-closes
returns-then-closes c =
    let e = ap (closes c.args.level) (sym (take_rest c.args.bytes.now c.loop-at.at)) ∙ sym c.closes.ensures ∙ c.if-closes.true in
    sym (closed_here _ _ _ c.loop-at-test.true e c.loop-at.invariant)

pub loop-at-preserved : goal.loop-at-preserved
loop-at-preserved c =
    let e = ap (closes c.args.level) (sym (take_rest c.args.bytes.now c.loop-at.at)) ∙ sym c.closes.ensures ∙ c.if-closes.false in
    open_more _ _ _ c.loop-at-test.true e c.loop-at.invariant

pub returns : goal.returns
returns c = sym (never_closed _ _ _ c.loop-at-test.false c.loop-at.invariant)
