use Rattle.std.proofs.Common.{◌∷◌, sym, ◌∙◌}
use Rattle.tl_base.specs.Plan.{Do}
use Rattle.lua_model.specs.declared.job.Job.TheVariants.{Expression}
use Rattle.lua_eval.specs.declared.frame.LuaFrame.TheVariants as frames
use Rattle.lua_eval.specs.declared.frame.OneFrame.TheVariants.{Item}
use Rattle.lua_eval.specs.declared.frame.AllFrame.TheVariants.{Last}
use Rattle.lua_eval.specs.Frames.{after, list_plan}
use Rattle.lua_eval.proofs.Below.{same_run}
use Rattle.lua_eval.proofs.Entering.{last_plan, item_plan}
use Rattle.lua_eval.proofs.Listing.{none_of, some_of}
use Rattle.lua_eval.proofs.lists.item.Goals as goal

pub returns-then-is_empty : goal.returns-then-is_empty
returns-then-is_empty c =
    let a = c.args in
    let f = a.frame in
    record {
      means = λ items s left later.
          same_run items a.frames.now.items (list_plan items (a.node ∷ f.rest.now) f.scope f.values f.then)
          (Do (Expression a.node f.scope) (after items (frames.All (Last f)))) s left later
          (last_plan items a.node f (none_of f.rest.now (sym c.is_empty.ensures ∙ c.if-is_empty.true)))
          ∙ c.in_ok-last.ensures.means items s left later;
    }

pub returns : goal.returns
returns c =
    let a = c.args in
    let f = a.frame in
    record {
      means = λ items s left later.
          same_run items a.frames.now.items (list_plan items (a.node ∷ f.rest.now) f.scope f.values f.then)
          (Do (Expression a.node f.scope) (after items (frames.One (Item f)))) s left later
          (item_plan items a.node f (some_of f.rest.now (sym c.is_empty.ensures ∙ c.if-is_empty.false)))
          ∙ c.in_ok-entered.ensures.means items s left later;
    }
