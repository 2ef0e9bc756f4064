-- What each turn keeps of the world, and which answers fit.
use Rattle.std.specs.Prelude.{◌≡◌, Bool, true, false, List, is_some, Some}
use Rattle.tl_base.specs.declared.ids.FnId.{FnId}
use Rattle.tl_base.specs.declared.ids.TermId.{TermId}
use Rattle.tl_base.specs.declared.ids.TypeId.{TypeId}
use Rattle.terra_types.specs.Keeping.{KeepsTypes}
use Rattle.terra_types.specs.Sizes.{size_of}
use Rattle.terra_term.specs.Keeping.{AllStay, AreKept}
use Rattle.terra_term.specs.Held.{state_of, typed_in}
use Rattle.exotype.specs.World.{StageState}
use Rattle.exotype.specs.Properties.{known_of}
use Rattle.exotype.specs.declared.property.Property.{Property}
use Rattle.exotype.specs.declared.property.Known.{Known}
use Rattle.exotype.specs.declared.property.Known.TheVariants as known
use Rattle.check_model.specs.declared.question.BodyQuestion.{BodyQuestion}
use Rattle.check_model.specs.declared.question.BodyQuestion.TheVariants.{CallLua, ResultOf, LayoutOf}
use Rattle.check_model.specs.declared.question.CheckAnswer.{CheckAnswer}
use Rattle.check_model.specs.declared.question.CheckAnswer.TheVariants as answers
use Rattle.check_model.specs.declared.question.CheckQuestion.{CheckQuestion}
use Rattle.check_model.specs.declared.question.CheckQuestion.TheVariants as asked_for
use Rattle.check_model.specs.Typing.{form_in, is_aggregate_form}
use Rattle.check_model.specs.declared.known.KnownResult.TheVariants.{Is}
use Rattle.check_model.specs.Calls.{parameters_of, result_of}

-- ---- what each turn keeps

-- what was answered stays
abbrev pub StaysKnown : Known → Known → Type 0
StaysKnown (known.Value v) after = after ≡ known.Value v
StaysKnown (known.Refused kind) after = after ≡ known.Refused kind
StaysKnown _ after = Unit {0}

-- nodes, quotes and statics have their places for ever; a type keeps what it is, and a layout that is settled; a function keeps its term,
-- its typed term and its refusal, and its type once that is known; and a property that was answered keeps its answer
pub record Keeps (before after : StageState) : Type 0 where
  pub terms : AreKept before.store.terms after.store.terms
  pub typed : AreKept before.store.typed after.store.typed
  pub quotes : AreKept before.store.quotes after.store.quotes
  pub statics : AreKept before.store.statics after.store.statics
  pub types : KeepsTypes before.store.types after.store.types
  pub functions : AllStay before.store after.store
  pub parameters : (f : FnId) (ps : List TypeId) → parameters_of before f ≡ Some ps → parameters_of after f ≡ Some ps
  pub results : (f : FnId) (t : TypeId) → result_of before f ≡ Is t → result_of after f ≡ Is t
  pub known : (p : Property) → StaysKnown (known_of before.kept p) (known_of after.kept p)

-- ---- which answers fit

-- the size of an aggregate is known where its layout is settled
abbrev pub IsLaidOut : StageState → TypeId → Bool → Type 0
IsLaidOut w t true = is_some (size_of w.store.types t) ≡ true
IsLaidOut w t false = Unit {0}

abbrev pub Answers : BodyQuestion → CheckAnswer → StageState → Type 0
Answers (CallLua h vs at) (answers.Values us) w = Unit {0}
Answers (CallLua h vs at) (answers.Raise v place) w = Unit {0}
Answers (ResultOf f) (answers.Result t) w = result_of w f ≡ Is t
Answers (ResultOf f) (answers.Refused why) w = Unit {0}
Answers (LayoutOf t at) answers.Done w = IsLaidOut w t (is_aggregate_form (form_in w t))
Answers (LayoutOf t at) (answers.NoLayout kind) w = Unit {0}
Answers _ _ w = ⊥

-- to a check: where a body is done, its function is typed
abbrev pub HasBody : StageState → CheckQuestion → Type 0
HasBody w (asked_for.Body f) = (made : TermId) × (typed_in (state_of w.store f) ≡ Some made)

abbrev pub ChecksAnswer : CheckQuestion → CheckAnswer → StageState → Type 0
ChecksAnswer question answers.Done w = HasBody w question
ChecksAnswer question (answers.Refused why) w = Unit {0}
ChecksAnswer question _ w = ⊥
