use Rattle.std.proofs.Common.{◌≡◌, sym, ap, ◌∙◌, Option, Some}
use Rattle.std.specs.Prelude.{option_map}
use Rattle.terra_term.specs.Stores as stores
use Rattle.terra_term.specs.Stores.{callable_of, contents_of}
use Rattle.terra_eval.specs.Trees.{callable_tree}
use Rattle.terra_eval.specs.declared.nodes.Callable.{Callable}
use Rattle.tac_form.specs.declared.tac.Tac.{Tac}
use Rattle.tac_lower.specs.Lowering.{lowered}
use Rattle.tac_lower.proofs.Good.{good-where-typed}
use Rattle.tac_lower.proofs.callable.lower.Goals as goal

pub lower_callable-requires : goal.lower_callable-requires
lower_callable-requires c =
    let store = c.args.store.now in
    c.in_ok-nodes-in-Some.ensures (callable_tree store c.in-Some.k)
    (sym c.callable_of.ensures.callable ∙ ap (λ (o : Option Callable). option_map (callable_tree store) o) c.in-Some.is)

pub returns-in_ok-code-in-Some-clause-good : goal.returns-in_ok-code-in-Some-clause-good
returns-in_ok-code-in-Some-clause-good c =
    let store = c.args.store.now in
    let found : callable_of (contents_of store) c.args.f ≡ Some (callable_tree store c.in-Some.k) =
    sym c.callable_of.ensures.callable ∙ ap (λ (o : Option Callable). option_map (callable_tree store) o) c.in-Some.is in
    good-where-typed (contents_of store) c.args.entries.now c.args.f (Some c.in_ok-code-in-Some.code)
    (ap (λ (t : Tac). Some t) c.in_ok-code-in-Some.ensures
    ∙ ap (λ (o : Option stores.Callable). option_map (lowered (contents_of store) c.args.entries.now) o) (sym found))
