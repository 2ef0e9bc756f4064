use Rattle.std.proofs.Common.{◌≡◌}
use Rattle.rv_listing.proofs.Words.{same_word, not_its_text}
use Rattle.rv_listing.proofs.reading.read_line.Goals as goal

pub returns-else-eq-clause-ok : goal.returns-else-eq-clause-ok
returns-else-eq-clause-ok c w small text =
    let same : c.in_ok-word.word ≡ w = same_word c.in_ok-word.word w c.candidate.result c.in_ok-word.was (c.candidate.ensures.only w small text) in
    absurd (not_its_text c.args.line.now c.new-text.result.items c.put_word.new.line.items c.as_slice.result.now c.eq.result c.in_ok-word.word w
    same c.new-text.ensures c.put_word.ensures.text c.as_slice.ensures.value c.eq.ensures c.if-eq.false text)

pub returns-else-eq-clause-bad : goal.returns-else-eq-clause-bad
returns-else-eq-clause-bad c = (
  c.in_ok-word.ensures.named,
  λ t.
      let same : c.in_ok-word.word ≡ t.0 = same_word c.in_ok-word.word t.0 c.candidate.result c.in_ok-word.was (c.candidate.ensures.only t.0 t.1 t.2) in
      not_its_text c.args.line.now c.new-text.result.items c.put_word.new.line.items c.as_slice.result.now c.eq.result c.in_ok-word.word t.0
      same c.new-text.ensures c.put_word.ensures.text c.as_slice.ensures.value c.eq.ensures c.if-eq.false t.2,
)
