use Rattle.std.proofs.Common.{ap, ◌∙◌, arith}
use Rattle.std.proofs.lemmas.List.{take_rest}
use Rattle.tl_lex.specs.Quoted.{quoted_character}
use Rattle.tl_lex.proofs.QuotedLemmas.{walked_more, walked_all, bad_already, bad_now}
use Rattle.tl_lex.proofs.quoted.count_characters.Goals as goal

pub returns-then-character-eq0-clause-len : goal.returns-then-character-eq0-clause-len
returns-then-character-eq0-clause-len c =
    let e = c.quoted_character-character.ensures ∙ ap (quoted_character c.args.quote) (take_rest c.args.bytes.now c.characters.source_len) in
    (walked_all _ _ _ _ _ _ e c.if-character-eq0.true c.characters.invariant).0

pub returns-then-character-eq0-clause-count : goal.returns-then-character-eq0-clause-count
returns-then-character-eq0-clause-count c =
    let e = c.quoted_character-character.ensures ∙ ap (quoted_character c.args.quote) (take_rest c.args.bytes.now c.characters.source_len) in
    (walked_all _ _ _ _ _ _ e c.if-character-eq0.true c.characters.invariant).1

pub returns-then-character-eq0-clause-bad : goal.returns-then-character-eq0-clause-bad
returns-then-character-eq0-clause-bad c =
    let e = c.quoted_character-character.ensures ∙ ap (quoted_character c.args.quote) (take_rest c.args.bytes.now c.characters.source_len) in
    (walked_all _ _ _ _ _ _ e c.if-character-eq0.true c.characters.invariant).2

pub returns-then-character-eq0-clause-within : goal.returns-then-character-eq0-clause-within
returns-then-character-eq0-clause-within c = c.characters.invariant.within

pub overflow_add-source_len : goal.overflow_add-source_len
overflow_add-source_len c =
    let e = c.quoted_character-character.ensures ∙ ap (quoted_character c.args.quote) (take_rest c.args.bytes.now c.characters.source_len) in
    let w = walked_more _ _ _ _ _ _ e c.if-character-eq0.false c.characters.invariant in
    omega (arith, w.within)

pub characters-smaller-then-has_bad_escape : goal.characters-smaller-then-has_bad_escape
characters-smaller-then-has_bad_escape c =
    let e = c.quoted_character-character.ensures ∙ ap (quoted_character c.args.quote) (take_rest c.args.bytes.now c.characters.source_len) in
    let w = walked_more _ _ _ _ _ _ e c.if-character-eq0.false c.characters.invariant in
    omega (arith, w.within, c.if-character-eq0.false)

pub characters-preserved-then-has_bad_escape : goal.characters-preserved-then-has_bad_escape
characters-preserved-then-has_bad_escape c =
    let e = c.quoted_character-character.ensures ∙ ap (quoted_character c.args.quote) (take_rest c.args.bytes.now c.characters.source_len) in
    let w = walked_more _ _ _ _ _ _ e c.if-character-eq0.false c.characters.invariant in
    rw (bad_already _ _ c.if-has_bad_escape.true) at w

pub characters-smaller : goal.characters-smaller
characters-smaller c =
    let e = c.quoted_character-character.ensures ∙ ap (quoted_character c.args.quote) (take_rest c.args.bytes.now c.characters.source_len) in
    let w = walked_more _ _ _ _ _ _ e c.if-character-eq0.false c.characters.invariant in
    omega (arith, w.within, c.if-character-eq0.false)

pub characters-preserved : goal.characters-preserved
characters-preserved c =
    let e = c.quoted_character-character.ensures ∙ ap (quoted_character c.args.quote) (take_rest c.args.bytes.now c.characters.source_len) in
    let w = walked_more _ _ _ _ _ _ e c.if-character-eq0.false c.characters.invariant in
    rw (bad_now _ _ c.if-has_bad_escape.false) at w
