-- What a step does that asks, in any language.
use Rattle.std.proofs.Common.{◌≡◌, List, [], ◌∷◌, ◌++◌, refl, sym, ap, ◌∙◌}
use Rattle.tl_base.specs.Layer.{State, Given}
use Rattle.tl_base.specs.declared.machine.Step.TheVariants.{Stop}
use Rattle.tl_base.specs.Plan.{Plan, AskFor, then_do}
use Rattle.tl_base.specs.Machine.{Rules, GoesOn, plug, plan_run, ask}
use Rattle.tl_base.proofs.Steps.{plug-push}

asked : {T J W Q A R E F : Type 0} (rules : Rules T J W Q A R E F) (f : F) (q : Q) (go : A → Plan J W Q A R)
    (same : (a : A) → go a ≡ rules.after f (rules.reply a)) (s : State W) (later : List (Given W A))
    → plan_run rules (AskFor q go) s later ≡ then_do (plan_run rules (ask rules q) s later) (λ r. plan_run rules (rules.after f r))
asked rules f q go same s [] = refl
asked rules f q go same s (a ∷ later) = ap (λ p. plan_run rules p a.state later) (same a.answer)

-- a question below a frame, which goes on with what each answer gives
pub asks : {T J W Q A R E F : Type 0} (rules : Rules T J W Q A R E F) (fs pushed : List F) (f : F) (q : Q) (go : A → Plan J W Q A R) (s : State W)
    → ((a : A) → go a ≡ rules.after f (rules.reply a)) → pushed ≡ fs ++ f ∷ [] → GoesOn rules fs (AskFor q go) s pushed (Stop q) s
asks {T} {J} {W} {Q} {A} {R} {E} {F} rules fs pushed f q go s same is = λ later.
    ap (plug rules fs) (asked rules f q go same s later)
    ∙ sym (plug-push rules fs f (plan_run rules (ask rules q) s later))
    ∙ ap (λ (gs : List F). plug rules gs (plan_run rules (ask rules q) s later)) (sym is)
