use Rattle.std.proofs.Common.{◌≡◌, ℕ, true, List, length, drop, sym, ap, ◌∙◌, subst, arith}
use Rattle.std.specs.Str.{IsUtf8}
use Rattle.std.proofs.lemmas.List.{length-drop}
use Rattle.tl_lex.specs.Answers.{Position}
use Rattle.tl_lex.specs.Brackets.{begins_with}
use Rattle.tl_lex.specs.Lexing.{position_of, answers_from}
use Rattle.tl_lex.proofs.SpaceLemmas.{spaced}
use Rattle.tl_lex.proofs.lexer.Lexer.pass_spaces.Goals as goal

pub pass-requires-clause-cut : goal.pass-requires-clause-cut
pass-requires-clause-cut c =
    let e : begins_with 32 c.spaces.self.rest.now ≡ true = ap (begins_with 32) (sym c.as_bytes.ensures.value) ∙ sym c.begins_with.ensures ∙ c.spaces-test.true in
    (spaced c.spaces.self.rest.now e).cut (subst (λ (b : List ℕ). IsUtf8 b) c.as_bytes.ensures.value c.as_bytes.ensures.utf8)

pub pass-requires-clause-lines : goal.pass-requires-clause-lines
pass-requires-clause-lines c =
    let e : begins_with 32 c.spaces.self.rest.now ≡ true = ap (begins_with 32) (sym c.as_bytes.ensures.value) ∙ sym c.begins_with.ensures ∙ c.spaces-test.true in
    (spaced c.spaces.self.rest.now e).lines

pub spaces-smaller : goal.spaces-smaller
spaces-smaller c =
    let e : begins_with 32 c.spaces.self.rest.now ≡ true = ap (begins_with 32) (sym c.as_bytes.ensures.value) ∙ sym c.begins_with.ensures ∙ c.spaces-test.true in
    let some = (spaced c.spaces.self.rest.now e).some in
    omega (arith, some, ap length c.pass.ensures.rest, length-drop 1 c.spaces.self.rest.now)

pub spaces-preserved : goal.spaces-preserved
spaces-preserved c =
    let rest = c.spaces.self.rest.now in
    let e : begins_with 32 rest ≡ true = ap (begins_with 32) (sym c.as_bytes.ensures.value) ∙ sym c.begins_with.ensures ∙ c.spaces-test.true in
    ap (λ (b : List ℕ). answers_from b (position_of c.pass.new.self)) c.pass.ensures.rest
    ∙ ap (λ (p : Position). answers_from (drop 1 rest) p) c.pass.ensures.position
    ∙ sym ((spaced rest e).passes (position_of c.spaces.self))
    ∙ c.spaces.invariant
