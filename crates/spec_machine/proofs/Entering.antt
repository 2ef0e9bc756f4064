-- What a step does that made a node, an environment or a name first, or whose end or plan is known by an equation.
use Rattle.std.proofs.Common.{◌≡◌, ℕ, List, [], ◌∷◌, ◌++◌, refl, sym, ap, ◌∙◌, Option, Some, None}
use Rattle.tl_base.specs.declared.ids.EnvId.{EnvId}
use Rattle.tl_base.specs.declared.ids.NodeId.{NodeId}
use Rattle.tl_base.specs.declared.ids.TermId.{TermId}
use Rattle.tl_base.specs.declared.machine.Step.TheVariants.{Return}
use Rattle.tl_base.specs.Layer.{state}
use Rattle.tl_base.specs.Plan.{Give, Gives, run}
use Rattle.tl_base.specs.Machine.{plug}
use Rattle.tl_tree.specs.Code.{Items}
use Rattle.lua_value.specs.declared.value.Value.{Value}
use Rattle.lua_table.specs.Heap.{next_env, with_env}
use Rattle.lua_table.specs.Cells.{declare}
use Rattle.terra_term.specs.declared.term.Term.{Term}
use Rattle.exotype.specs.World.{StageState, with_heap}
use Rattle.spec_model.specs.declared.end.End.{End}
use Rattle.spec_model.specs.declared.end.End.TheVariants.{Joined}
use Rattle.spec_model.specs.Making.{next_term, with_term}
use Rattle.spec_model.specs.Plans.{SpecPlan, entering, declaring, node}
use Rattle.spec_model.specs.Statements.{joined}
use Rattle.spec_machine.specs.declared.frame.SpecFrame.{SpecFrame}
use Rattle.spec_machine.specs.declared.reached.Reached.{Reached}
use Rattle.spec_machine.specs.declared.reached.Reached.TheVariants.{Value as Came, Left}
use Rattle.spec_machine.specs.Frames.{spec_rules}
use Rattle.spec_machine.specs.Splices.{joined_step}
use Rattle.spec_machine.specs.Steps.{SpecStep, Goes, Does, Comes, Gets}
use Rattle.spec_machine.proofs.Doing.{jobs_of, moved}

-- ---- by equations

-- a step over any frames, whose plan is known by an equation
pub does_as : (items : Items) (fs : List SpecFrame) (p q : SpecPlan) (w w2 : StageState) (left left2 : ℕ) (step : SpecStep)
    → p ≡ q → Does items q w left step w2 left2 → Goes items fs p w left fs step w2 left2
does_as items fs p q w w2 left left2 step is does = moved items fs fs p q w w w2 left left2 step is refl (does fs)

-- an end that is known by an equation
pub gives : (items : Items) (fs : List SpecFrame) (r r2 : End) (w : StageState) (left : ℕ)
    → r2 ≡ r → Goes items fs (Give r) w left fs (Return r2) w left
gives items fs r r2 w left is = λ later. ap (λ (x : End). plug (spec_rules items) fs (Gives x (state w left) later)) (sym is)

-- what came, as the statements of a statement
pub joins : (items : Items) (plan : (List TermId → SpecPlan) → SpecPlan) (r : Reached (List TermId)) (step : SpecStep)
    (w w2 : StageState) (left left2 : ℕ)
    → step ≡ joined_step r → Comes plan w left r w2 left2 → Does items (plan joined) w left step w2 left2
joins items plan (Came ts) step w w2 left left2 is came = λ fs later.
    rw is (ap (plug (spec_rules items) fs) (came (jobs_of items) joined later))
joins items plan (Left left_by) step w w2 left left2 is came = λ fs later. rw is (came items joined fs later)

-- ---- what was made first

-- an environment
pub entering_goes : (items : Items) (fs fs2 : List SpecFrame) (n : NodeId) (env inner : EnvId) (go : EnvId → SpecPlan)
    (w v w2 : StageState) (left left2 : ℕ) (step : SpecStep)
    → inner ≡ next_env w.heap → v ≡ with_heap w (with_env w.heap n (Some env))
    → Goes items fs (go inner) v left fs2 step w2 left2 → Goes items fs (entering n env go) w left fs2 step w2 left2
entering_goes items fs fs2 n env inner go w v w2 left left2 step inner_is world_is g =
    moved items fs fs2 (go (next_env w.heap)) (go inner) (with_heap w (with_env w.heap n (Some env))) v w2 left left2 step
    (ap go (sym inner_is)) (sym world_is) g

-- a name
pub declaring_goes : (items : Items) (fs fs2 : List SpecFrame) (env : EnvId) (value : Value) (rest : SpecPlan)
    (w v w2 : StageState) (left left2 : ℕ) (step : SpecStep)
    → v ≡ with_heap w (declare env value w.heap)
    → Goes items fs rest v left fs2 step w2 left2 → Goes items fs (declaring env value rest) w left fs2 step w2 left2
declaring_goes items fs fs2 env value rest w v w2 left left2 step world_is g =
    moved items fs fs2 rest rest (with_heap w (declare env value w.heap)) v w2 left left2 step refl (sym world_is) g

-- a node
pub node_gets : (w v : StageState) (t : Term) (id : TermId) → id ≡ next_term w → v ≡ with_term w t → Gets (λ go. node t go) w id v
node_gets w v t id id_is world_is = λ f go left later.
    ap (λ (x : TermId). run f (go x) (state (with_term w t) left) later) (sym id_is)
    ∙ ap (λ (u : StageState). run f (go id) (state u left) later) (sym world_is)
