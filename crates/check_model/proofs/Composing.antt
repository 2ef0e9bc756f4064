-- What follows the end of a plan of bodies may be a frame: its run is that of the plan, and behind it that of what follows.
use Rattle.std.proofs.Common.{◌≡◌, ℕ, Bool, true, false, List, [], ◌∷◌, ◌++◌, length, refl}
use Rattle.std.specs.Prelude.{if◌then◌else◌, ◌-◌, nat_le, slice_get, Some}
use Rattle.tl_base.specs.declared.place.Place.{Place}
use Rattle.tl_base.specs.declared.ids.TypeId.{TypeId}
use Rattle.tl_base.specs.declared.ids.TermId.{TermId}
use Rattle.tl_base.specs.Layer.{State, state}
use Rattle.tl_base.specs.Plan.{Give, Do, AskFor, Read, Write, Pay, Run, Gives, Stops, Lacks, Course, then_do, paid, run}
use Rattle.terra_term.specs.declared.typed.Typed.{Typed}
use Rattle.terra_term.specs.declared.typed.TypedExpression.{TypedExpression}
use Rattle.terra_term.specs.declared.refusal.RefusalKind.{RefusalKind}
use Rattle.terra_term.specs.declared.refusal.RefusalKind.TheVariants.{TooWide}
use Rattle.check_model.specs.declared.job.BodyJob.{BodyJob}
use Rattle.check_model.specs.declared.site.Site.{Site}
use Rattle.check_model.specs.declared.end.PartEnd.{PartEnd}
use Rattle.check_model.specs.declared.question.BodyQuestion.{BodyQuestion}
use Rattle.check_model.specs.declared.question.BodyQuestion.TheVariants.{LayoutOf}
use Rattle.check_model.specs.declared.question.CheckAnswer.{CheckAnswer}
use Rattle.check_model.specs.declared.question.CheckAnswer.TheVariants as answers
use Rattle.check_model.specs.declared.made.Made.{Made}
use Rattle.check_model.specs.Typing.{TypingState, form_in, is_aggregate_form}
use Rattle.check_model.specs.Plans.{BodyPlan, then_on, reading, on_made, make, give, refuse, on_layout, laid_out, is_wide, as_value}
use Rattle.check_model.specs.Bodies.{BodyGiven}

abbrev pub BodyCourse : Type 0
BodyCourse = Course TypingState BodyQuestion CheckAnswer PartEnd

abbrev pub BodyRun : Type 0
BodyRun = Run TypingState BodyQuestion CheckAnswer PartEnd

-- a run goes on as through two frames, where each of its ends does
pub then_twice :
    (o : BodyRun) (k k2 go : PartEnd → BodyCourse) →
    ((r : PartEnd) (s : State TypingState) (l : List BodyGiven) → k r s l ≡ then_do (k2 r s l) go) → then_do o k ≡ then_do (then_do o k2) go
then_twice (Gives r s l) k k2 go each = each r s l
then_twice (Stops at) k k2 go each = refl

pub either_then :
    (c : Bool) (x y x2 y2 : BodyRun) (k : PartEnd → BodyCourse) → x ≡ then_do x2 k → y ≡ then_do y2 k →
    (if c then x else y) ≡ then_do (if c then x2 else y2) k
either_then true x y x2 y2 k p q = p
either_then false x y x2 y2 k p q = q

pub paid_then :
    (n : ℕ) (s : State TypingState) (x x2 : State TypingState → BodyRun) (k : PartEnd → BodyCourse) →
    ((t : State TypingState) → x t ≡ then_do (x2 t) k) → paid n s x ≡ then_do (paid n s x2) k
paid_then n s x x2 k each =
    either_then (nat_le n s.left) (x (state s.world (s.left - n))) (Stops (Lacks s)) (x2 (state s.world (s.left - n))) (Stops (Lacks s)) k
    (each (state s.world (s.left - n))) refl

-- a plan with what follows its end gives the same as the plan under a frame
pub run_then_on :
    (f : BodyJob → BodyCourse) (p : BodyPlan) (go : PartEnd → BodyPlan) (s : State TypingState) (l : List BodyGiven)
    → run f (then_on p go) s l ≡ then_do (run f p s l) (λ r. run f (go r))
run_then_on f (Give r) go s l = refl
run_then_on f (Do job next) go s l =
    then_twice (f job s l) (λ r. run f (then_on (next r) go)) (λ r. run f (next r)) (λ r. run f (go r))
    (λ r s2 l2. run_then_on f (next r) go s2 l2)
run_then_on f (AskFor q next) go s [] = refl
run_then_on f (AskFor q next) go s (a ∷ l) = run_then_on f (next a.answer) go a.state l
run_then_on f (Read next) go s l = run_then_on f (next s.world) go s l
run_then_on f (Write w p) go s l = run_then_on f p go (state w s.left) l
run_then_on f (Pay n p) go s l =
    paid_then n s (λ t. run f (then_on p go) t l) (λ t. run f p t l) (λ r. run f (go r)) (λ t. run_then_on f p go t l)

-- ---- typed nodes

pub get_last : (xs : List Typed) (x : Typed) → slice_get (xs ++ x ∷ []) (length xs) ≡ Some x
get_last [] x = refl
get_last (y ∷ ys) x = get_last ys x

-- what goes on with an expression, as what follows its end
abbrev pub going_on : (Made → BodyPlan) → PartEnd → BodyPlan
going_on go r = on_made r go

-- a node that is made, and what is behind it
pub run_make :
    (f : BodyJob → BodyCourse) (source : TermId) (at : Place) (of : TypeId) (form : TypedExpression) (go : Made → BodyPlan)
    (s : State TypingState) (l : List BodyGiven)
    → run f (make source at of form go) s l ≡ then_do (run f (make source at of form give) s l) (λ r. run f (going_on go r))
run_make f source at of form go s l = refl

-- ---- layouts and values

-- a refusal is passed by
abbrev pub PassesRefused : (BodyJob → BodyCourse) → (PartEnd → BodyCourse) → Type 0
PassesRefused f k =
    (kind : RefusalKind) (at : Place) (site : Site) (s : State TypingState) (l : List BodyGiven) →
    run f (refuse kind at site) s l ≡ then_do (run f (refuse kind at site) s l) k

pub going_on_passes : (f : BodyJob → BodyCourse) (go : Made → BodyPlan) → PassesRefused f (λ r. run f (going_on go r))
going_on_passes f go kind at site s l = refl

-- a plan does what another does with something behind it
abbrev pub IsWith : (BodyJob → BodyCourse) → BodyPlan → BodyPlan → (PartEnd → BodyCourse) → Type 0
IsWith f p p2 k = (s : State TypingState) (l : List BodyGiven) → run f p s l ≡ then_do (run f p2 s l) k

pub on_layout_then :
    (f : BodyJob → BodyCourse) (a : CheckAnswer) (at : Place) (site : Site) (p p2 : BodyPlan) (k : PartEnd → BodyCourse)
    → PassesRefused f k → IsWith f p p2 k → IsWith f (on_layout a at site p) (on_layout a at site p2) k
on_layout_then f (answers.NoLayout kind) at site p p2 k passes each s l = passes kind at site s l
on_layout_then f answers.Go at site p p2 k passes each s l = each s l
on_layout_then f (answers.Values vs) at site p p2 k passes each s l = each s l
on_layout_then f (answers.Raise v place) at site p p2 k passes each s l = each s l
on_layout_then f (answers.Result t) at site p p2 k passes each s l = each s l
on_layout_then f (answers.Refused r) at site p p2 k passes each s l = each s l
on_layout_then f answers.Done at site p p2 k passes each s l = each s l

pub ask_layout_then :
    (f : BodyJob → BodyCourse) (t : TypeId) (at : Place) (site : Site) (p p2 : BodyPlan) (k : PartEnd → BodyCourse)
    → PassesRefused f k → IsWith f p p2 k
    → IsWith f (AskFor (LayoutOf t at) (λ a. on_layout a at site p)) (AskFor (LayoutOf t at) (λ a. on_layout a at site p2)) k
ask_layout_then f t at site p p2 k passes each s [] = refl
ask_layout_then f t at site p p2 k passes each s (a ∷ l) = on_layout_then f a.answer at site p p2 k passes each a.state l

pub if_then :
    (f : BodyJob → BodyCourse) (c : Bool) (p q p2 q2 : BodyPlan) (k : PartEnd → BodyCourse)
    → IsWith f p p2 k → IsWith f q q2 k → IsWith f (if c then p else q) (if c then p2 else q2) k
if_then f true p q p2 q2 k first second s l = first s l
if_then f false p q p2 q2 k first second s l = second s l

-- a layout that is asked for, and what is behind it
pub laid_out_then :
    (f : BodyJob → BodyCourse) (t : TypeId) (at : Place) (site : Site) (p p2 : BodyPlan) (k : PartEnd → BodyCourse)
    → PassesRefused f k → IsWith f p p2 k → IsWith f (laid_out t at site p) (laid_out t at site p2) k
laid_out_then f t at site p p2 k passes each s l =
    if_then f (is_aggregate_form (form_in s.world.stage t)) (AskFor (LayoutOf t at) (λ a. on_layout a at site p)) p
    (AskFor (LayoutOf t at) (λ a. on_layout a at site p2)) p2 k (ask_layout_then f t at site p p2 k passes each) each s l

-- a value, and what is behind it
pub as_value_then :
    (f : BodyJob → BodyCourse) (m : Made) (site : Site) (p p2 : BodyPlan) (k : PartEnd → BodyCourse)
    → PassesRefused f k → IsWith f p p2 k → IsWith f (as_value m site p) (as_value m site p2) k
as_value_then f m site p p2 k passes each =
    laid_out_then f m.of m.at site (reading (λ w. if is_wide w m.of then refuse TooWide m.at site else p))
    (reading (λ w. if is_wide w m.of then refuse TooWide m.at site else p2)) k passes
    (λ s l. if_then f (is_wide s.world.stage m.of) (refuse TooWide m.at site) p (refuse TooWide m.at site) p2 k
    (passes TooWide m.at site) each s l)
