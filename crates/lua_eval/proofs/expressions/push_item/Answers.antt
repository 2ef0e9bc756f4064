use Rattle.std.proofs.Common.{sym, ◌∙◌}
use Rattle.lua_eval.specs.declared.frame.LuaFrame.TheVariants as frames
use Rattle.lua_eval.specs.declared.frame.OneFrame.TheVariants.{Item}
use Rattle.lua_eval.specs.declared.frame.AllFrame.TheVariants.{Last}
use Rattle.lua_eval.proofs.Entering.{item_after, last_after}
use Rattle.lua_eval.proofs.Listing.{none_of, some_of}
use Rattle.lua_eval.proofs.expressions.push_item.Goals as goal

pub returns-in_ok-push : goal.returns-in_ok-push
returns-in_ok-push c =
    let f = c.args.frame in (
      frames.All (Last f),
      c.in_ok-push.ensures.items,
      λ items r.
          last_after items f r (none_of f.rest.now (sym c.is_empty.ensures ∙ c.if-is_empty.true)),
    )

pub returns-in_ok-push-2 : goal.returns-in_ok-push-2
returns-in_ok-push-2 c =
    let f = c.args.frame in (
      frames.One (Item f),
      c.in_ok-push-2.ensures.items,
      λ items r.
          item_after items f r (some_of f.rest.now (sym c.is_empty.ensures ∙ c.if-is_empty.false)),
    )
