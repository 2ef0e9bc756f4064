use Rattle.library_sound.proofs.AskedCalls.{answer-fine}
use Rattle.library_sound.proofs.law.answers_ask_sound.Goals as goal

pub returns : goal.returns
returns c = λ begin w question next answer s place is before led fine old leads fits.
    answer-fine begin w s before led old leads question next answer place is fine fits
