use Rattle.std.proofs.Common.{ℕ, true, false, List, [], Option, Some, None, length, refl, sym, ap, ◌∙◌}
use Rattle.std.specs.Prelude.{nat_lt}
use Rattle.std.proofs.lemmas.Bool.{lt-ltb, le-ltb}
use Rattle.tl_base.specs.declared.ids.TextId.{TextId}
use Rattle.terra_types.specs.declared.layout.Laid.{Laid}
use Rattle.terra_types.specs.Layouts.{entries_of}
use Rattle.terra_term.specs.WellTyped.{widest}
use Rattle.terra_term.specs.declared.refusal.RefusalKind.TheVariants.{TooWide, WrongCount}
use Rattle.check_model.specs.Expressions as models
use Rattle.check_model.specs.Plans.{BodyPlan, refuse}
use Rattle.check_model.specs.Typing.{TypingState, bytes_in}
use Rattle.check_expr.specs.Frames.{initials_in}
use Rattle.check_expr.proofs.Doing.{moved, chosen}
use Rattle.tl_base.proofs.Results.{carried}
use Rattle.check_expr.proofs.constructing.construct.Goals as goal

pub returns-then-bytes-gt-MAX_VALUE_BYTES-clause-means : goal.returns-then-bytes-gt-MAX_VALUE_BYTES-clause-means
returns-then-bytes-gt-MAX_VALUE_BYTES-clause-means c = λ left.
    let a = c.args in
    let n = a.node in
    let fs = a.frames.now.items in
    let w = a.typing.now in
    let ls = entries_of w.stage.store.types a.of in
    let rest : BodyPlan = models.initialised ls (initials_in a.values.names a.values.values) a.of n.at n.source n.site in
    chosen fs fs (nat_lt widest (bytes_in w.stage a.of)) true (refuse TooWide n.at n.site) rest w w left left c.refuse.result
    (ap (λ (v : TypingState). nat_lt widest (bytes_in v.stage a.of)) (sym c.typing.view_is) ∙ ap (nat_lt widest) (sym c.bytes.ensures)
    ∙ lt-ltb widest c.bytes.result c.if-bytes-gt-MAX_VALUE_BYTES.true) (c.refuse.ensures.means w left fs)

pub returns-then-entry_count-len-clause-means : goal.returns-then-entry_count-len-clause-means
returns-then-entry_count-len-clause-means c = λ left.
    let a = c.args in
    let n = a.node in
    let fs = a.frames.now.items in
    let w = a.typing.now in
    let ts = a.values.values in
    let ls = entries_of w.stage.store.types a.of in
    let plan : Option (List TextId) → BodyPlan = λ ns. models.initialised ls (initials_in ns ts) a.of n.at n.source n.site in
    let all : BodyPlan = models.into (models.in_order ls ts) ts n.at n.site [] [] (models.constructed a.of n.at n.source) in
    let step = c.refuse-then-entry_count-len.result in
    chosen fs fs (nat_lt widest (bytes_in w.stage a.of)) false (refuse TooWide n.at n.site) (plan a.values.names) w w left left step
    (ap (λ (v : TypingState). nat_lt widest (bytes_in v.stage a.of)) (sym c.typing.view_is) ∙ ap (nat_lt widest) (sym c.bytes.ensures)
    ∙ le-ltb widest c.bytes.result c.if-bytes-gt-MAX_VALUE_BYTES.false)
    (moved fs fs (plan a.values.names) (plan None) w w w left left step (ap plan c.in-None.is) refl
    (chosen fs fs (nat_lt (length ls) (length ts)) true (refuse WrongCount n.at n.site) all w w left left step
    (ap (λ (v : TypingState). nat_lt (length (entries_of v.stage.store.types a.of)) (length ts)) (sym c.typing.view_is)
    ∙ ap (λ (k : ℕ). nat_lt k (length ts)) (sym c.entry_count.ensures) ∙ ap (nat_lt c.entry_count.result) (sym c.len.ensures)
    ∙ lt-ltb c.entry_count.result c.len.result c.if-entry_count-len.true)
    (c.refuse-then-entry_count-len.ensures.means w left fs)))

pub returns-in_ok-entries-in-None-clause-means : goal.returns-in_ok-entries-in-None-clause-means
returns-in_ok-entries-in-None-clause-means c = carried _ _ c.with_entries.result c.with_entries.ensures.means (λ step g left.
    let a = c.args in
    let n = a.node in
    let fs = a.frames.now.items in
    let fs2 = c.with_entries.new.frames.items in
    let w = a.typing.now in
    let w2 = c.with_entries.new.typing in
    let ts = a.values.values in
    let ls = entries_of w.stage.store.types a.of in
    let plan : Option (List TextId) → BodyPlan = λ ns. models.initialised ls (initials_in ns ts) a.of n.at n.source n.site in
    let all : List (Option Laid) → BodyPlan = λ es. models.into es ts n.at n.site [] [] (models.constructed a.of n.at n.source) in
    chosen fs fs2 (nat_lt widest (bytes_in w.stage a.of)) false (refuse TooWide n.at n.site) (plan a.values.names) w w2 left left step
    (ap (λ (v : TypingState). nat_lt widest (bytes_in v.stage a.of)) (sym c.typing.view_is) ∙ ap (nat_lt widest) (sym c.bytes.ensures)
    ∙ le-ltb widest c.bytes.result c.if-bytes-gt-MAX_VALUE_BYTES.false)
    (moved fs fs2 (plan a.values.names) (plan None) w w w2 left left step (ap plan c.in-None.is) refl
    (chosen fs fs2 (nat_lt (length ls) (length ts)) false (refuse WrongCount n.at n.site) (all (models.in_order ls ts)) w w2 left left step
    (ap (λ (v : TypingState). nat_lt (length (entries_of v.stage.store.types a.of)) (length ts)) (sym c.typing.view_is)
    ∙ ap (λ (k : ℕ). nat_lt k (length ts)) (sym c.entry_count.ensures) ∙ ap (nat_lt c.entry_count.result) (sym c.len.ensures)
    ∙ le-ltb c.entry_count.result c.len.result c.if-entry_count-len.false)
    (moved fs fs2 (all (models.in_order ls ts)) (all c.in_ok-entries-in-None.entries) w w w2 left left step
    (ap all (ap (models.in_order ls) (sym c.as_slice.ensures)
    ∙ ap (λ (v : TypingState). models.in_order (entries_of v.stage.store.types a.of) c.as_slice.result.now) (sym c.typing.view_is)
    ∙ sym c.in_ok-entries-in-None.ensures)) refl (g left)))))

pub returns-in_ok-entries-in-Some-clause-means : goal.returns-in_ok-entries-in-Some-clause-means
returns-in_ok-entries-in-Some-clause-means c = carried _ _ c.with_entries-in-Some.result c.with_entries-in-Some.ensures.means (λ step g left.
    let a = c.args in
    let n = a.node in
    let fs = a.frames.now.items in
    let fs2 = c.with_entries-in-Some.new.frames.items in
    let w = a.typing.now in
    let w2 = c.with_entries-in-Some.new.typing in
    let ts = a.values.values in
    let ls = entries_of w.stage.store.types a.of in
    let names = c.in-Some.names in
    let plan : Option (List TextId) → BodyPlan = λ ns. models.initialised ls (initials_in ns ts) a.of n.at n.source n.site in
    let all : List (Option Laid) → BodyPlan = λ es. models.into es ts n.at n.site [] [] (models.constructed a.of n.at n.source) in
    chosen fs fs2 (nat_lt widest (bytes_in w.stage a.of)) false (refuse TooWide n.at n.site) (plan a.values.names) w w2 left left step
    (ap (λ (v : TypingState). nat_lt widest (bytes_in v.stage a.of)) (sym c.typing.view_is) ∙ ap (nat_lt widest) (sym c.bytes.ensures)
    ∙ le-ltb widest c.bytes.result c.if-bytes-gt-MAX_VALUE_BYTES.false)
    (moved fs fs2 (plan a.values.names) (plan (Some names)) w w w2 left left step (ap plan c.in-Some.is) refl
    (moved fs fs2 (all (models.by_name ls names)) (all c.in_ok-entries-in-Some.entries) w w w2 left left step
    (ap all (ap (models.by_name ls) (sym c.as_slice-in-Some.ensures)
    ∙ ap (λ (v : TypingState). models.by_name (entries_of v.stage.store.types a.of) c.as_slice-in-Some.result.now) (sym c.typing.view_is)
    ∙ sym c.in_ok-entries-in-Some.ensures)) refl (g left))))
