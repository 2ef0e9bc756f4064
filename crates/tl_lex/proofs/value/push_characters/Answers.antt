use Rattle.std.proofs.Common.{ap, ◌∙◌, arith}
use Rattle.std.proofs.lemmas.List.{take_rest}
use Rattle.tl_lex.specs.Quoted.{quoted_character}
use Rattle.tl_lex.proofs.ValueLemmas.{written_more, written_all, values_next, values_last, character_within}
use Rattle.tl_lex.proofs.value.push_characters.Goals as goal

pub returns-then-character-eq0 : goal.returns-then-character-eq0
returns-then-character-eq0 c =
    let e = c.quoted_character-character.ensures ∙ ap (quoted_character c.args.quote) (take_rest c.args.bytes.now c.characters.at) in
    written_all _ _ _ _ (values_last c.args.quote c.args.bytes.now c.characters.at _ e c.if-character-eq0.true) c.characters.invariant.1

pub overflow_add-at : goal.overflow_add-at
overflow_add-at c =
    let e = c.quoted_character-character.ensures ∙ ap (quoted_character c.args.quote) (take_rest c.args.bytes.now c.characters.at) in
    omega (arith, character_within c.args.quote c.args.bytes.now c.characters.at _ e c.characters.invariant.0)

pub characters-smaller : goal.characters-smaller
characters-smaller c =
    let e = c.quoted_character-character.ensures ∙ ap (quoted_character c.args.quote) (take_rest c.args.bytes.now c.characters.at) in
    omega (arith, character_within c.args.quote c.args.bytes.now c.characters.at _ e c.characters.invariant.0, c.if-character-eq0.false)

pub characters-preserved : goal.characters-preserved
characters-preserved c =
    let e = c.quoted_character-character.ensures ∙ ap (quoted_character c.args.quote) (take_rest c.args.bytes.now c.characters.at) in
    let w = written_more _ _ _ _ _ _ (values_next c.args.quote c.args.bytes.now c.characters.at _ e c.if-character-eq0.false) c.characters.invariant.1 in
    (character_within c.args.quote c.args.bytes.now c.characters.at _ e c.characters.invariant.0, rw c.in_ok-push.ensures.items w)
