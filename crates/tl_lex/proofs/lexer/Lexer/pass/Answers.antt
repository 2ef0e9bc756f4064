use Rattle.std.proofs.Common.{◌≡◌, ◌+◌, length, take, cond, eqb, ap, arith}
use Rattle.tl_base.specs.declared.place.Place.{Place}
use Rattle.tl_lex.proofs.LexLemmas.{word_bound}
use Rattle.std.proofs.lemmas.List.{length-take}
use Rattle.tl_lex.proofs.LineLemmas.{line_ends_few}
use Rattle.tl_lex.proofs.lexer.Lexer.pass.Goals as goal

pub overflow_cast-lines : goal.overflow_cast-lines
overflow_cast-lines c = omega (arith, c.requires.lines, c.requires.cut.0, line_ends_few (take c.args.len c.args.self.now.rest.now), length-take c.args.len c.args.self.now.rest.now)

pub moved-self-requires-clause-line_fits : goal.moved-self-requires-clause-line_fits
moved-self-requires-clause-line_fits c = omega (arith, c.requires.lines, c.requires.cut.0, line_ends_few (take c.args.len c.args.self.now.rest.now), length-take c.args.len c.args.self.now.rest.now)

pub invariant_of-self : goal.invariant_of-self
invariant_of-self c =
    let old = c.args.self.now in
    let rest = c.split_at.ensures.back_len in
    let line : c.moved-self.result.line ≡ old.place.line + c.args.lines = ap (λ (p : Place). p.line) c.moved-self.ensures in
    let word : c.moved-self.result.word ≡ cond (eqb c.args.lines 0) (old.place.word + c.args.words) 1 = ap (λ (p : Place). p.word) c.moved-self.ensures in
    let few = line_ends_few (take c.args.len old.rest.now) in
    let most = length-take c.args.len old.rest.now in
    record {
      line_fits = omega (arith, c.requires.lines, c.requires.cut.0, old.line_fits);
      word_fits = omega (arith, word_bound (eqb c.args.lines 0) (old.place.word + c.args.words) (length c.split_at.result.1.now) 4294967296 (omega (arith, c.requires.words, c.requires.some, c.requires.cut.0, old.word_fits)) (omega (arith, c.requires.some, c.requires.cut.0, old.word_fits)));
      offset_fits = omega (arith, c.requires.cut.0, old.offset_fits);
    }
