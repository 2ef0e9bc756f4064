-- The arms of an `if`, of which each stands behind the `else` of the one before it.
use Rattle.std.proofs.Common.{◌≡◌, ℕ, List, [], ◌∷◌, ◌++◌, refl, sym, ap, ◌∙◌, Option, Some, None}
use Rattle.tl_base.specs.declared.ids.TermId.{TermId}
use Rattle.tl_base.specs.declared.machine.Step.TheVariants.{Return}
use Rattle.tl_base.specs.Layer.{state}
use Rattle.tl_base.specs.Plan.{run}
use Rattle.tl_base.specs.Machine.{plug}
use Rattle.tl_tree.specs.Code.{Items}
use Rattle.terra_term.specs.declared.term.Statement.TheVariants as s
use Rattle.terra_term.specs.declared.term.Term.TheVariants as terms
use Rattle.exotype.specs.World.{StageState}
use Rattle.spec_model.specs.declared.end.End.TheVariants.{Joined}
use Rattle.spec_model.specs.Plans.{SpecPlan, node}
use Rattle.spec_machine.specs.declared.frame.Arm.{Arm}
use Rattle.spec_machine.specs.declared.frame.SpecFrame.{SpecFrame}
use Rattle.spec_machine.specs.Frames.{behind, joined_one, last_arm, spec_rules}
use Rattle.spec_machine.specs.Steps.{Goes, Gets, Runs}
use Rattle.spec_machine.proofs.Doing.{jobs_of}
use Rattle.spec_machine.proofs.Entering.{gives}

-- an arm, with what stands behind its `else`
abbrev pub closed : Arm → (TermId → SpecPlan) → TermId → SpecPlan
closed a go t = node (terms.Statement a.place (s.If a.test a.statements (Some (t ∷ [])))) go

-- the last arm is made first
pub behind_more : (before : List Arm) (a : Arm) (go : TermId → SpecPlan)
    → ◌≡◌ {A = TermId → SpecPlan} (behind (before ++ a ∷ []) go) (closed a (behind before go))
behind_more [] a go = refl
behind_more (b ∷ before) a go = behind_more before a (closed b go)

-- ---- the loop that makes them

pub arms_begin : (last : Arm) (arms : List Arm) (otherwise : Option (List TermId)) (made : TermId) (w v : StageState)
    → Gets (λ (go : TermId → SpecPlan). node (terms.Statement last.place (s.If last.test last.statements otherwise)) go) w made v
    → Runs (last_arm last arms otherwise) w (behind arms joined_one made) v
arms_begin last arms otherwise made w v got = λ f left later. got f (behind arms joined_one) left later

pub arms_turn : (p : SpecPlan) (arms rest : List Arm) (arm : Arm) (ts : List TermId) (made next : TermId) (w v u : StageState)
    → Runs p w (behind arms joined_one made) v → arms ≡ rest ++ arm ∷ [] → ts ≡ made ∷ []
    → Gets (λ (go : TermId → SpecPlan). node (terms.Statement arm.place (s.If arm.test arm.statements (Some ts))) go) v next u
    → Runs p w (behind rest joined_one next) u
arms_turn p arms rest arm ts made next w v u runs arms_is ts_is got = λ f left later.
    let go = behind rest joined_one in
    let by : List TermId → SpecPlan = λ l. node (terms.Statement arm.place (s.If arm.test arm.statements (Some l))) go in
    runs f left later
    ∙ ap (λ (bs : List Arm). run f (behind bs joined_one made) (state v left) later) arms_is
    ∙ ap (λ (k : TermId → SpecPlan). run f (k made) (state v left) later) (behind_more rest arm joined_one)
    ∙ ap (λ (l : List TermId). run f (by l) (state v left) later) (sym ts_is)
    ∙ got f go left later

pub arms_end : (items : Items) (fs : List SpecFrame) (p : SpecPlan) (arms : List Arm) (made : TermId) (ts : List TermId) (w v : StageState) (left : ℕ)
    → Runs p w (behind arms joined_one made) v → arms ≡ [] → ts ≡ made ∷ []
    → Goes items fs p w left fs (Return (Joined ts)) v left
arms_end items fs p arms made ts w v left runs none ts_is = λ later.
    ap (plug (spec_rules items) fs) (runs (jobs_of items) left later
    ∙ ap (λ (bs : List Arm). run (jobs_of items) (behind bs joined_one made) (state v left) later) none)
    ∙ gives items fs (Joined (made ∷ [])) (Joined ts) v left (ap (λ (l : List TermId). Joined l) ts_is) later
