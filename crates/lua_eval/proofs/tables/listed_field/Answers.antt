use Rattle.std.proofs.Common.{sym, ◌∙◌}
use Rattle.tl_base.specs.Plan.{Do}
use Rattle.lua_model.specs.declared.job.Job.TheVariants.{Expression}
use Rattle.lua_eval.specs.declared.frame.LuaFrame.TheVariants as frames
use Rattle.lua_eval.specs.declared.frame.OneFrame.TheVariants.{Field}
use Rattle.lua_eval.specs.declared.frame.AllFrame.TheVariants.{LastField}
use Rattle.lua_eval.specs.declared.frame.FieldFrame.TheVariants.{Next}
use Rattle.lua_eval.specs.declared.tables.FieldKind.TheVariants.{Listed}
use Rattle.lua_eval.specs.Fields.{field_by}
use Rattle.lua_eval.specs.Frames.{after}
use Rattle.lua_eval.proofs.Below.{same_run}
use Rattle.lua_eval.proofs.Entering.{last_field_plan, field_plan}
use Rattle.lua_eval.proofs.Listing.{none_of, some_of}
use Rattle.lua_eval.proofs.tables.listed_field.Goals as goal

pub returns-then-is_empty : goal.returns-then-is_empty
returns-then-is_empty c =
    let a = c.args in
    let f = a.frame in
    record {
      means = λ items s left later.
          same_run items a.frames.now.items (field_by items Listed a.node f)
          (Do (Expression a.node f.scope) (after items (frames.All (LastField f)))) s left later
          (last_field_plan items a.node f (none_of f.rest.now (sym c.is_empty.ensures ∙ c.if-is_empty.true)))
          ∙ c.in_ok-last.ensures.means items s left later;
    }

pub returns : goal.returns
returns c =
    let a = c.args in
    let f = a.frame in
    record {
      means = λ items s left later.
          same_run items a.frames.now.items (field_by items Listed a.node f)
          (Do (Expression a.node f.scope) (after items (frames.One (Field f Next)))) s left later
          (field_plan items a.node f (some_of f.rest.now (sym c.is_empty.ensures ∙ c.if-is_empty.false)))
          ∙ c.in_ok-entered.ensures.means items s left later;
    }
