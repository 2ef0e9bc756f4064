use Rattle.std.proofs.Common.{sym, ◌∙◌}
use Rattle.tl_lex.proofs.WordLemmas.{reserved_of_length, reserved_of_no_length}
use Rattle.tl_lex.proofs.words.is_reserved.Goals as goal

pub returns-then-len-eq2 : goal.returns-then-len-eq2
returns-then-len-eq2 c = c.is_two_byte_word.ensures ∙ sym (reserved_of_length c.args.word.now 2 c.if-len-eq2.true)

pub returns-then-len-eq3 : goal.returns-then-len-eq3
returns-then-len-eq3 c = c.is_three_byte_word.ensures ∙ sym (reserved_of_length c.args.word.now 3 c.if-len-eq3.true)

pub returns-then-len-eq4 : goal.returns-then-len-eq4
returns-then-len-eq4 c = c.is_four_byte_word.ensures ∙ sym (reserved_of_length c.args.word.now 4 c.if-len-eq4.true)

pub returns-then-len-eq5 : goal.returns-then-len-eq5
returns-then-len-eq5 c = c.is_five_byte_word.ensures ∙ sym (reserved_of_length c.args.word.now 5 c.if-len-eq5.true)

pub returns-then-len-eq6 : goal.returns-then-len-eq6
returns-then-len-eq6 c = c.is_six_byte_word.ensures ∙ sym (reserved_of_length c.args.word.now 6 c.if-len-eq6.true)

pub returns-then-len-eq8 : goal.returns-then-len-eq8
returns-then-len-eq8 c = c.is_eight_byte_word.ensures ∙ sym (reserved_of_length c.args.word.now 8 c.if-len-eq8.true)

pub returns-else-len-eq8 : goal.returns-else-len-eq8
returns-else-len-eq8 c =
    sym (reserved_of_no_length c.args.word.now c.if-len-eq2.false c.if-len-eq3.false c.if-len-eq4.false c.if-len-eq5.false c.if-len-eq6.false c.if-len-eq8.false)
