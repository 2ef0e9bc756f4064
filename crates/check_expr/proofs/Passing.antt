-- Ends and answers for which no frame waits: they pass by.
use Rattle.std.proofs.Common.{◌≡◌, Option, refl}
use Rattle.tl_base.specs.declared.ids.TermId.{TermId}
use Rattle.tl_base.specs.declared.ids.TypeId.{TypeId}
use Rattle.tl_base.specs.declared.place.Place.{Place}
use Rattle.tl_base.specs.Plan.{Give}
use Rattle.terra_term.specs.declared.refusal.Refusal.{Refusal}
use Rattle.terra_term.specs.declared.refusal.RefusalKind.{RefusalKind}
use Rattle.terra_term.specs.declared.refusal.RefusalKind.TheVariants.{Undefined}
use Rattle.check_model.specs.declared.end.PartEnd.{PartEnd}
use Rattle.check_model.specs.declared.end.PartEnd.TheVariants as ends
use Rattle.check_model.specs.declared.made.Made.{Made}
use Rattle.check_model.specs.declared.question.CheckAnswer.{CheckAnswer}
use Rattle.check_model.specs.declared.question.CheckAnswer.TheVariants as answers
use Rattle.check_model.specs.declared.site.Site.{Site}
use Rattle.check_model.specs.Calls.{on_result}
use Rattle.check_model.specs.Plans.{BodyPlan, refuse, on_made, on_stated, on_layout}
use Rattle.check_expr.specs.Frames.{on_answer}

pub none_made : (r : PartEnd) (go : Made → BodyPlan) → ((m : Made) → r ≡ ends.Made m → ⊥) → on_made r go ≡ Give r
none_made (ends.Made m) go not_made = absurd (not_made m refl)
none_made r go not_made = refl

pub none_stated : (r : PartEnd) (go : TermId → Option TypeId → BodyPlan)
    → ((id : TermId) (result : Option TypeId) → r ≡ ends.Stated id result → ⊥) → on_stated r go ≡ Give r
none_stated (ends.Stated id result) go not_stated = absurd (not_stated id result refl)
none_stated r go not_stated = refl

pub none_answered : (r : PartEnd) (go : CheckAnswer → BodyPlan) → ((a : CheckAnswer) → r ≡ ends.Answered a → ⊥) → on_answer r go ≡ Give r
none_answered (ends.Answered a) go not_answered = absurd (not_answered a refl)
none_answered r go not_answered = refl

pub laid_out_so : (a : CheckAnswer) (at : Place) (site : Site) (rest : BodyPlan)
    → ((kind : RefusalKind) → a ≡ answers.NoLayout kind → ⊥) → on_layout a at site rest ≡ rest
laid_out_so (answers.NoLayout kind) at site rest laid = absurd (laid kind refl)
laid_out_so a at site rest laid = refl

pub no_result : (a : CheckAnswer) (at : Place) (site : Site) (go : TypeId → BodyPlan)
    → ((t : TypeId) → a ≡ answers.Result t → ⊥) → ((r : Refusal) → a ≡ answers.Refused r → ⊥)
    → on_result a at site go ≡ refuse Undefined at site
no_result (answers.Result t) at site go not_result not_refused = absurd (not_result t refl)
no_result (answers.Refused r) at site go not_result not_refused = absurd (not_refused r refl)
no_result a at site go not_result not_refused = refl
