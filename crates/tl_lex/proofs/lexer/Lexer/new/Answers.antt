use Rattle.std.proofs.Common.{ℕ, List, drop, sym, ap, ◌∙◌, subst}
use Rattle.std.specs.Str.{IsCharBoundary}
use Rattle.tl_lex.specs.Answers.{first_line_len}
use Rattle.tl_lex.specs.Lexing.{answers_from}
use Rattle.tl_lex.proofs.StartLemmas.{position_at, first_line_cut, answers_begin}
use Rattle.tl_lex.proofs.lexer.Lexer.new.Goals as goal

pub range_from-requires : goal.range_from-requires
range_from-requires c =
    let e = c.first_line_len-first_line.ensures ∙ ap first_line_len c.as_bytes.ensures.value in
    λ _. subst (λ (n : ℕ). IsCharBoundary c.args.text.now n) (sym e) (first_line_cut c.args.text.now c.utf8.text)

pub returns : goal.returns
returns c =
    let e = c.first_line_len-first_line.ensures ∙ ap first_line_len c.as_bytes.ensures.value in
    ap (λ (b : List ℕ). answers_from b (position_at 1 1 c.first_line_len-first_line.result)) c.range_from.ensures.value
    ∙ ap (λ (n : ℕ). answers_from (drop n c.args.text.now) (position_at 1 1 n)) e
    ∙ answers_begin c.args.text.now
