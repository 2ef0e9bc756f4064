use Rattle.std.proofs.Common.{ℕ, List, take, drop, Some, Ok, sym, ap, ◌∙◌, subst}
use Rattle.std.specs.Prelude.{slice_get}
use Rattle.std.specs.Str.{IsUtf8}
use Rattle.std.proofs.lemmas.List.{length-take-le}
use Rattle.tl_lex.specs.LineEnds.{line_ends}
use Rattle.tl_lex.specs.Fronts.{front_of}
use Rattle.tl_lex.specs.Answers.{Answer, Position, token_at}
use Rattle.tl_lex.specs.Lexing.{position_of, behind, answers_from, behind_first}
use Rattle.tl_lex.specs.declared.TokenKind.TheVariants as kinds
use Rattle.tl_lex.specs.declared.front.Front.TheVariants as fronts
use Rattle.tl_lex.proofs.LexLemmas.{lexeme_fits, answers_lexeme, answers_refusal, behind_some, some_left, end_empty}
use Rattle.tl_lex.proofs.lexer.Lexer.next_token.Goals as goal

pub slice_bounds-line_ends_in-end : goal.slice_bounds-line_ends_in-end
slice_bounds-line_ends_in-end c =
    let f = lexeme_fits _ _ _ (ap front_of c.as_bytes.ensures.value ∙ sym c.in-Lexeme.ensures.front) in
    sym (length-take-le c.in-Lexeme.len c.as_bytes.result.now f.fits.within)

pub line_ends_in-lines-requires : goal.line_ends_in-lines-requires
line_ends_in-lines-requires c =
    (lexeme_fits _ _ _ (ap front_of c.as_bytes.ensures.value ∙ sym c.in-Lexeme.ensures.front)).no_ends

pub pass-text-requires-clause-cut : goal.pass-text-requires-clause-cut
pass-text-requires-clause-cut c =
    (lexeme_fits c.pass_blanks-front.new.self.rest.now _ c.in-Lexeme.len (sym c.in-Lexeme.ensures.front)).fits.cut (subst (λ (b : List ℕ). IsUtf8 b) c.as_bytes.ensures.value c.as_bytes.ensures.utf8)

pub pass-text-requires-clause-some : goal.pass-text-requires-clause-some
pass-text-requires-clause-some c = (lexeme_fits _ _ _ (sym c.in-Lexeme.ensures.front)).fits.some

pub returns-in-Lexeme-clause-first : goal.returns-in-Lexeme-clause-first
returns-in-Lexeme-clause-first c =
    let rest = c.pass_blanks-front.new.self.rest.now in
    let place = position_of c.pass_blanks-front.new.self in
    ap (λ (xs : List Answer). slice_get xs 0) (sym c.in-Lexeme.ensures.left ∙ answers_lexeme rest place c.in-Lexeme.kind c.in-Lexeme.len (sym c.in-Lexeme.ensures.front))
    ∙ ap (λ (t : List ℕ). Some (Ok (token_at c.in-Lexeme.kind t place))) (sym c.pass-text.ensures.text)

pub returns-in-Lexeme-clause-rest : goal.returns-in-Lexeme-clause-rest
returns-in-Lexeme-clause-rest c =
    let rest = c.pass_blanks-front.new.self.rest.now in
    let place = position_of c.pass_blanks-front.new.self in
    let len = c.in-Lexeme.len in
    let lines = c.line_ends_in-lines.ensures ∙ ap (λ (b : List ℕ). line_ends (take len b)) c.as_bytes.ensures.value in
    let after = behind place len (line_ends (take len rest)) 1 in
    ap (λ (b : List ℕ). answers_from b (position_of c.pass-text.new.self)) c.pass-text.ensures.rest
    ∙ ap (λ (p : Position). answers_from (drop len rest) p) (c.pass-text.ensures.position ∙ ap (λ (n : ℕ). behind place len n 1) lines)
    ∙ sym (behind_some (Ok (token_at c.in-Lexeme.kind (take len rest) place)) (answers_from (drop len rest) after) (some_left (drop len rest) after))
    ∙ ap behind_first (sym (answers_lexeme rest place c.in-Lexeme.kind len (sym c.in-Lexeme.ensures.front)) ∙ c.in-Lexeme.ensures.left)

pub returns-in-Refusal-clause-first : goal.returns-in-Refusal-clause-first
returns-in-Refusal-clause-first c =
    let s = c.pass_blanks-front.new.self in
    ap (λ (xs : List Answer). slice_get xs 0) (sym c.in-Refusal.ensures.left ∙ answers_refusal s.rest.now (position_of s) (fronts.Refusal c.in-Refusal.kind) (sym c.in-Refusal.ensures.front))

pub returns-in-Refusal-clause-rest : goal.returns-in-Refusal-clause-rest
returns-in-Refusal-clause-rest c =
    let s = c.pass_blanks-front.new.self in
    let only = answers_refusal s.rest.now (position_of s) (fronts.Refusal c.in-Refusal.kind) (sym c.in-Refusal.ensures.front) in
    only ∙ sym (ap behind_first only) ∙ ap behind_first c.in-Refusal.ensures.left

pub returns-in-End-clause-first : goal.returns-in-End-clause-first
returns-in-End-clause-first c =
    let s = c.pass_blanks-front.new.self in
    ap (λ (xs : List Answer). slice_get xs 0) (sym c.in-End.ensures.left ∙ answers_refusal s.rest.now (position_of s) fronts.End (sym c.in-End.ensures.front))
    ∙ ap (λ (t : List ℕ). Some (Ok (token_at kinds.End t (position_of s)))) (sym (end_empty s.rest.now (sym c.in-End.ensures.front)))

pub returns-in-End-clause-rest : goal.returns-in-End-clause-rest
returns-in-End-clause-rest c =
    let s = c.pass_blanks-front.new.self in
    let only = answers_refusal s.rest.now (position_of s) fronts.End (sym c.in-End.ensures.front) in
    only ∙ sym (ap behind_first only) ∙ ap behind_first c.in-End.ensures.left
