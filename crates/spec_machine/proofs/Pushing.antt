-- A frame that is pushed, and the job or the question that is done above it.
use Rattle.std.proofs.Math.Path.{fun_ext}
use Rattle.std.proofs.Common.{◌≡◌, ℕ, ◌<◌, List, [], ◌∷◌, ◌++◌, length, refl, sym, ap, ◌∙◌, Option, Some, None, arith}
use Rattle.tl_base.specs.declared.ids.EnvId.{EnvId}
use Rattle.tl_base.specs.declared.ids.NodeId.{NodeId}
use Rattle.tl_base.specs.declared.place.Place.{Place}
use Rattle.tl_base.specs.declared.machine.Step.TheVariants.{Enter, Return, Stop, Spent}
use Rattle.tl_base.specs.Plan.{Do, AskFor}
use Rattle.tl_tree.specs.Code.{Items}
use Rattle.lua_value.specs.declared.value.Value.{Value}
use Rattle.lua_table.specs.Cells.{first_value}
use Rattle.exotype.specs.World.{StageState}
use Rattle.spec_model.specs.declared.job.Job.{Job}
use Rattle.spec_model.specs.declared.job.Job.TheVariants as jobs
use Rattle.spec_model.specs.declared.question.SpecQuestion.{SpecQuestion}
use Rattle.spec_model.specs.declared.question.SpecQuestion.TheVariants as questions
use Rattle.spec_model.specs.declared.question.SpecAnswer.{SpecAnswer}
use Rattle.spec_model.specs.declared.question.SpecAnswer.TheVariants as answers
use Rattle.spec_model.specs.Plans.{SpecPlan, on_value, on_values, eval, emitted, term}
use Rattle.spec_model.specs.Statements.{each_spliced, joined}
use Rattle.spec_machine.specs.declared.frame.SpecFrame.{SpecFrame}
use Rattle.spec_machine.specs.declared.frame.SpecFrame.TheVariants as frames
use Rattle.spec_machine.specs.declared.frame.TermFrame.{TermFrame}
use Rattle.spec_machine.specs.declared.frame.TermsFrame.{TermsFrame}
use Rattle.spec_machine.specs.declared.frame.BlockFrame.{BlockFrame}
use Rattle.spec_machine.specs.declared.frame.ValueFrame.{ValueFrame}
use Rattle.spec_machine.specs.Frames.{after, reply, on_answer, with_term, with_value, terms_plan, block_plan}
use Rattle.spec_machine.specs.Steps.{Goes}
use Rattle.spec_machine.proofs.Doing.{moved, enters, asks}

-- ---- lists of nodes

pub none_is : (ns : List NodeId) → length ns ≡ 0 → ns ≡ []
none_is [] none = refl
none_is (n ∷ ns) none = absurd (omega arith)

-- ---- jobs

-- one term
pub term_enters : (items : Items) (fs pushed : List SpecFrame) (f : TermFrame) (n : NodeId) (env : EnvId) (w : StageState) (left : ℕ)
    → pushed ≡ fs ++ frames.Term f ∷ []
    → Goes items fs (term n env (with_term items f)) w left pushed (Enter (jobs.Expression n env)) w left
term_enters items fs pushed f n env w left is = enters items fs pushed (frames.Term f) (jobs.Expression n env) w left is

-- the first of the expressions of a list
pub list_enters : (items : Items) (fs pushed : List SpecFrame) (ns : List NodeId) (n : NodeId) (f : TermsFrame) (w : StageState) (left : ℕ)
    → ns ≡ n ∷ f.rest.now → pushed ≡ fs ++ frames.Terms f ∷ []
    → Goes items fs (terms_plan items ns f.env f.terms f.then) w left pushed (Enter (jobs.Expression n f.env)) w left
list_enters items fs pushed ns n f w left nodes is =
    moved items fs pushed (terms_plan items ns f.env f.terms f.then) (Do (jobs.Expression n f.env) (after items (frames.Terms f)))
    w w w left left (Enter (jobs.Expression n f.env))
    (ap (λ (l : List NodeId). terms_plan items l f.env f.terms f.then) nodes) refl
    (enters items fs pushed (frames.Terms f) (jobs.Expression n f.env) w left is)

-- the first of the statements of a block
pub block_enters : (items : Items) (fs pushed : List SpecFrame) (ns : List NodeId) (n : NodeId) (f : BlockFrame) (w : StageState) (left : ℕ)
    → ns ≡ n ∷ f.rest.now → pushed ≡ fs ++ frames.Block f ∷ []
    → Goes items fs (block_plan items ns f.env f.terms f.then) w left pushed (Enter (jobs.Statement n f.env)) w left
block_enters items fs pushed ns n f w left nodes is =
    moved items fs pushed (block_plan items ns f.env f.terms f.then) (Do (jobs.Statement n f.env) (after items (frames.Block f)))
    w w w left left (Enter (jobs.Statement n f.env))
    (ap (λ (l : List NodeId). block_plan items l f.env f.terms f.then) nodes) refl
    (enters items fs pushed (frames.Block f) (jobs.Statement n f.env) w left is)

-- ---- questions

value_of_answer : (go : Value → SpecPlan) (a : SpecAnswer) → on_value a go ≡ on_answer (reply a) (λ vs. go (first_value vs))
value_of_answer go answers.Go = refl
value_of_answer go (answers.Values vs) = refl
value_of_answer go (answers.Raise v place) = refl

values_of_answer : (go : List Value → SpecPlan) (a : SpecAnswer) → on_values a go ≡ on_answer (reply a) go
values_of_answer go answers.Go = refl
values_of_answer go (answers.Values vs) = refl
values_of_answer go (answers.Raise v place) = refl

-- a question, with whose value a frame goes on
pub asks_any : (items : Items) (fs pushed : List SpecFrame) (f : ValueFrame) (q : SpecQuestion) (w : StageState) (left : ℕ)
    → pushed ≡ fs ++ frames.Value f ∷ []
    → Goes items fs (AskFor q (λ a. on_value a (with_value items f))) w left pushed (Stop q) w left
asks_any items fs pushed f q w left is =
    moved items fs pushed (AskFor q (λ a. on_value a (with_value items f))) (AskFor q (λ a. after items (frames.Value f) (reply a)))
    w w w left left (Stop q)
    (ap (λ (go : SpecAnswer → SpecPlan). AskFor q go) (fun_ext (λ a. value_of_answer (with_value items f) a))) refl
    (asks items fs pushed (frames.Value f) q w left is)

-- Lua code that gives one value
pub asks_value : (items : Items) (fs pushed : List SpecFrame) (f : ValueFrame) (n : NodeId) (env : EnvId) (w : StageState) (left : ℕ)
    → pushed ≡ fs ++ frames.Value f ∷ []
    → Goes items fs (eval n env (with_value items f)) w left pushed (Stop (questions.Eval n env)) w left
asks_value items fs pushed f n env w left is = asks_any items fs pushed f (questions.Eval n env) w left is

-- the statements of an escape
pub asks_emitted : (items : Items) (fs pushed : List SpecFrame) (at : Place) (b : NodeId) (env : EnvId) (w : StageState) (left : ℕ)
    → pushed ≡ fs ++ frames.Emitted at ∷ []
    → Goes items fs (emitted b env (λ vs. each_spliced vs at [] joined)) w left pushed (Stop (questions.Emitted b env)) w left
asks_emitted items fs pushed at b env w left is =
    let q = questions.Emitted b env in
    let go : List Value → SpecPlan = λ vs. each_spliced vs at [] joined in
    moved items fs pushed (emitted b env go) (AskFor q (λ a. after items (frames.Emitted at) (reply a))) w w w left left (Stop q)
    (ap (λ (k : SpecAnswer → SpecPlan). AskFor q k) (fun_ext (λ a. values_of_answer go a))) refl
    (asks items fs pushed (frames.Emitted at) q w left is)
