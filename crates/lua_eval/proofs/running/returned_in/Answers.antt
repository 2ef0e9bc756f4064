use Rattle.std.proofs.Common.{List, [], ap, ◌∙◌, sym}
use Rattle.tl_base.specs.declared.ids.NodeId.{NodeId}
use Rattle.tl_base.specs.Plan.{Give}
use Rattle.lua_model.specs.declared.end.End.TheVariants.{Returned}
use Rattle.lua_model.specs.Plans.{values_of}
use Rattle.lua_eval.proofs.AtOnce.{if-some}
use Rattle.lua_eval.proofs.running.returned_in.Goals as goal

pub returns-in-Return : goal.returns-in-Return
returns-in-Return c =
    rw c.in-Return.is (if-some c.only.result c.only.ensures (λ value h items n place scope.
    ap (λ (es : List NodeId). values_of es scope [] (λ vs. Give (Returned vs []))) (sym c.as_slice.ensures ∙ h)))
