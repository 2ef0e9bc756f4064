use Rattle.std.proofs.Common.{◌+◌, ◌∷◌, [], ◌++◌, take, map, length, length-append, arith, sym, ap, ◌∙◌, subst, get_or}
use Rattle.std.proofs.lemmas.List.{take_more, map-append}
use Rattle.rv_machine.specs.Program.{IsProgram}
use Rattle.rv_machine.specs.Decoded.{found_of}
use Rattle.rv_machine.proofs.Programs.{program_more}
use Rattle.rv_machine.proofs.machine.decode_text.Goals as goal

pub loop-word-preserved : goal.loop-word-preserved
loop-word-preserved c =
    let words = c.args.words.now in
    let i = c.loop-word.word-index in
    let before = map found_of c.loop-word.text.items in
    let more = program_more (take i words) before (get_or words i 0) c.decode.result c.loop-word.invariant.0 c.decode.ensures.found in
    let pushed = ap (map found_of) c.in_ok-push.ensures.items ∙ map-append found_of c.loop-word.text.items (c.new.result ∷ []) ∙ ap (λ found. before ++ found ∷ []) c.new.ensures in (
      subst (λ p. IsProgram (take (i + 1) words) p) (sym pushed) (subst (λ ws. IsProgram ws (before ++ c.decode.result ∷ [])) (sym (take_more words i 0 c.loop-word-test.true)) more),
      omega (arith, ap length c.in_ok-push.ensures.items, length-append c.loop-word.text.items (c.new.result ∷ []), c.loop-word.invariant.1),
    )
