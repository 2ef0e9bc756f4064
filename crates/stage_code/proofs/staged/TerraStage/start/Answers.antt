use Rattle.std.proofs.Common.{refl}
use Rattle.tl_base.specs.Layer.{at}
use Rattle.tl_tree.specs.Arena.{items_of}
use Rattle.stage_form.specs.Within.{given_part}
use Rattle.stage_form.proofs.Standing.{within_same}
use Rattle.lua_model.specs.declared.question.LuaAnswer.TheVariants.{Go}
use Rattle.lua_model.specs.Meaning.{lua}
use Rattle.lua_eval.specs.Rest.{lua_rest}
use Rattle.spec_model.specs.Meaning.{spec}
use Rattle.spec_machine.specs.Rest.{spec_rest}
use Rattle.stage_code.specs.Layers.{lua_fitting, spec_fitting}
use Rattle.stage_code.proofs.staged.TerraStage.start.Goals as goal

-- each layer means what its task does, and begins with `Go`
pub returns-in-Evaluate-clause-means : goal.returns-in-Evaluate-clause-means
returns-in-Evaluate-clause-means c = λ first later.
    rw c.in-Evaluate.is (within_same lua_fitting (lua_rest c.start.result)
    (lua (items_of c.args.self.now.tree.now) c.in-Evaluate.job) c.start.ensures.means first later)

pub returns-in-Evaluate-clause-fits : goal.returns-in-Evaluate-clause-fits
returns-in-Evaluate-clause-fits c = λ s. c.start.ensures.fits (given_part lua_fitting (at Go s)) refl

pub returns-in-Specialise-clause-means : goal.returns-in-Specialise-clause-means
returns-in-Specialise-clause-means c = λ first later.
    rw c.in-Specialise.is (within_same spec_fitting (spec_rest c.start-in-Specialise.result)
    (spec (items_of c.args.self.now.tree.now) (record { node = c.in-Specialise.node; env = c.in-Specialise.env }))
    c.start-in-Specialise.ensures.means first later)

pub returns-in-Specialise-clause-fits : goal.returns-in-Specialise-clause-fits
returns-in-Specialise-clause-fits c = λ s. c.start-in-Specialise.ensures.fits (given_part spec_fitting (at Go s)) refl

pub returns-in-Library-clause-means : goal.returns-in-Library-clause-means
returns-in-Library-clause-means c = λ first later. rw c.in-Library.is (rw c.new.ensures.call (rw c.new.ensures.begins refl))
