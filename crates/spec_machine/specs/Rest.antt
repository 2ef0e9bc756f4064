-- What remains to be done by a specialisation that is suspended.
use Rattle.std.specs.Prelude.{◌≡◌, true}
use Rattle.tl_base.specs.Layer.{Meaning}
use Rattle.tl_base.specs.Machine.{rest_of, fits_waiting}
use Rattle.tl_tree.specs.Arena.{items_of}
use Rattle.exotype.specs.World.{StageState}
use Rattle.spec_model.specs.declared.end.SpecEnd.{SpecEnd}
use Rattle.spec_model.specs.declared.question.SpecQuestion.{SpecQuestion}
use Rattle.spec_model.specs.declared.question.SpecAnswer.{SpecAnswer}
use Rattle.spec_model.specs.Meaning.{SpecGiven}
use Rattle.spec_machine.specs.declared.spec.Spec.{Spec}
use Rattle.spec_machine.specs.Frames.{spec_rules, is_go}

abbrev pub spec_rest : Spec → Meaning StageState SpecQuestion SpecAnswer SpecEnd
spec_rest s = rest_of (spec_rules (items_of s.machine.machine.tree.now)) s.machine.frames.items s.machine.waiting

-- only the first answer begins
abbrev pub SpecFits : Spec → SpecGiven → Type 0
SpecFits s next = fits_waiting is_go s.machine.waiting next.answer ≡ true
