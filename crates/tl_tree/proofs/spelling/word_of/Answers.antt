use Rattle.std.proofs.Common.{sym, ◌∙◌}
use Rattle.tl_tree.specs.Symbols.{words}
use Rattle.tl_tree.proofs.Lengths.{written_of_length}
use Rattle.tl_tree.proofs.spelling.word_of.Goals as goal

pub returns-in-2 : goal.returns-in-2
returns-in-2 c = c.two_byte_word.ensures ∙ sym (written_of_length words c.args.text.now 2 c.in-2.is)

pub returns-in-3 : goal.returns-in-3
returns-in-3 c = c.three_byte_word.ensures ∙ sym (written_of_length words c.args.text.now 3 c.in-3.is)

pub returns-in-4 : goal.returns-in-4
returns-in-4 c = c.four_byte_word.ensures ∙ sym (written_of_length words c.args.text.now 4 c.in-4.is)

pub returns-in-5 : goal.returns-in-5
returns-in-5 c = c.five_byte_word.ensures ∙ sym (written_of_length words c.args.text.now 5 c.in-5.is)

pub returns-in-6 : goal.returns-in-6
returns-in-6 c = c.six_byte_word.ensures ∙ sym (written_of_length words c.args.text.now 6 c.in-6.is)

pub returns-in-8 : goal.returns-in-8
returns-in-8 c = c.eight_byte_word.ensures ∙ sym (written_of_length words c.args.text.now 8 c.in-8.is)
