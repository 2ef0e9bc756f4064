use Rattle.std.proofs.Common.{◌≡◌, ℕ, List, length, take, drop, sym, ap, ◌∙◌, subst, arith}
use Rattle.std.specs.Str.{IsUtf8}
use Rattle.std.proofs.lemmas.List.{length-take-le, length-drop}
use Rattle.tl_lex.specs.Answers.{Position}
use Rattle.tl_lex.specs.LineEnds.{line_ends}
use Rattle.tl_lex.specs.Fronts.{front_of}
use Rattle.tl_lex.specs.Lexing.{position_of, behind, answers_from}
use Rattle.tl_lex.specs.declared.front.Front.TheVariants as fronts
use Rattle.tl_lex.proofs.LexLemmas.{blank_fits, answers_blank}
use Rattle.tl_lex.proofs.lexer.Lexer.pass_runs.Goals as goal

pub slice_bounds-count_line_ends-end : goal.slice_bounds-count_line_ends-end
slice_bounds-count_line_ends-end c =
    sym (length-take-le c.in-Blank.len c.as_bytes-bytes.result.now (blank_fits _ _ (sym c.in-Blank.ensures)).within)

pub pass-requires-clause-cut : goal.pass-requires-clause-cut
pass-requires-clause-cut c =
    let e = ap front_of (sym c.as_bytes-bytes.ensures.value) ∙ sym c.in-Blank.ensures in
    (blank_fits c.blanks.self.rest.now c.in-Blank.len e).cut (subst (λ (b : List ℕ). IsUtf8 b) c.as_bytes-bytes.ensures.value c.as_bytes-bytes.ensures.utf8)

pub pass-requires-clause-some : goal.pass-requires-clause-some
pass-requires-clause-some c = (blank_fits _ _ (sym c.in-Blank.ensures)).some

pub blanks-smaller : goal.blanks-smaller
blanks-smaller c =
    let e : front_of c.blanks.self.rest.now ≡ fronts.Blank c.in-Blank.len = ap front_of (sym c.as_bytes-bytes.ensures.value) ∙ sym c.in-Blank.ensures in
    let f = blank_fits c.blanks.self.rest.now c.in-Blank.len e in
    omega (arith, f.some, f.within, ap length c.pass.ensures.rest, length-drop c.in-Blank.len c.blanks.self.rest.now)

pub blanks-preserved : goal.blanks-preserved
blanks-preserved c =
    let rest = c.blanks.self.rest.now in
    let place = position_of c.blanks.self in
    let len = c.in-Blank.len in
    let e : front_of rest ≡ fronts.Blank len = ap front_of (sym c.as_bytes-bytes.ensures.value) ∙ sym c.in-Blank.ensures in
    let lines = c.count_line_ends-lines.ensures.line_ends ∙ ap (λ (b : List ℕ). line_ends (take len b)) c.as_bytes-bytes.ensures.value in
    ap (λ (b : List ℕ). answers_from b (position_of c.pass.new.self)) c.pass.ensures.rest
    ∙ ap (λ (p : Position). answers_from (drop len rest) p) (c.pass.ensures.position ∙ ap (λ (n : ℕ). behind place len n 0) lines)
    ∙ sym (answers_blank rest place len e)
    ∙ c.blanks.invariant
