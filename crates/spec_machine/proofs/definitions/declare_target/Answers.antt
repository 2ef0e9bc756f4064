use Rattle.std.proofs.Common.{◌-◌}
use Rattle.spec_model.specs.declared.question.SpecQuestion.TheVariants as questions
use Rattle.spec_machine.specs.declared.frame.ValueFrame.TheVariants as of_value
use Rattle.spec_machine.proofs.Asking.{asks_value}
use Rattle.spec_machine.proofs.definitions.declare_target.Goals as goal

pub returns : goal.returns
returns c =
    let a = c.args in
    record {
      means = λ items w left.
          asks_value items a.frames.now.items c.push.new.self.items (of_value.Declared a.of a.target a.at) (questions.Eval a.of a.env) w left
          c.in_ok-push.ensures.items;
    }
