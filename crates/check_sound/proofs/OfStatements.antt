-- Statements leave typed terms.
use Rattle.std.proofs.Common.{◌≡◌, ℕ, true, Option, Some, None, refl, slice_get}
use Rattle.tl_base.specs.declared.place.Place.{Place}
use Rattle.tl_base.specs.declared.ids.TermId.{TermId}
use Rattle.terra_term.specs.declared.term.Term as nodes
use Rattle.terra_term.specs.declared.term.Term.TheVariants as kinds
use Rattle.terra_term.specs.declared.term.Statement as statement_nodes
use Rattle.terra_term.specs.declared.term.Statement.TheVariants as st
use Rattle.terra_term.specs.WellTyped.{Scope, is_placed}
use Rattle.check_model.specs.declared.site.Site.{Site}
use Rattle.check_model.specs.declared.end.PartEnd.{PartEnd}
use Rattle.check_model.specs.Typing.{TypingState}
use Rattle.check_model.specs.Statements.{doing_plan, node_plan, statement_job}
use Rattle.check_model.specs.Sound.{StatementIsSound, is_statement}
use Rattle.check_sound.proofs.Tests.{no}
use Rattle.check_sound.proofs.Running.{Holds, ResultThere}
use Rattle.check_sound.proofs.Combining.{In, Refuses}
use Rattle.check_sound.proofs.Stating.{States}
use Rattle.check_sound.proofs.OfVars.{holds-var}
use Rattle.check_sound.proofs.OfAssigns.{holds-assign}
use Rattle.check_sound.proofs.OfBranches.{holds-choice, holds-while, holds-do, holds-repeat}
use Rattle.check_sound.proofs.OfLoops.{holds-for}
use Rattle.check_sound.proofs.OfReturns.{holds-return, holds-break, holds-perform}

module _ (q : PartEnd → TypingState → Type 0) (b : ℕ) (s : Scope) (site : Site) (base : site.base ≡ b) where
  -- ---- each statement

  holds-doing : (w : TypingState) (i : In b s w) (r : Refuses q w) (x : statement_nodes.Statement) (at : Place) →
      States q b s site base w → is_placed at ≡ true →
      ResultThere site.in_let w.stage site.result → StatementIsSound w.stage x → Holds q (doing_plan x at site) w
  holds-doing w i r (st.Var names values) at k placed there sound = holds-var q b s site base w i r names values at k
      placed there sound
  holds-doing w i r (st.Assign places values) at k placed there sound =
      holds-assign q b s site base w i r places values at k placed there
  holds-doing w i r (st.If test body more) at k placed there sound =
      holds-choice q b s site base w i r test body more at k placed there sound.0 sound.1
  holds-doing w i r (st.While test body) at k placed there sound =
      holds-while q b s site base w i r test body at k placed there sound
  holds-doing w i r (st.Repeat body test) at k placed there sound = holds-repeat q b s site base w i r body test at k
      placed there sound
  holds-doing w i r (st.For name bounds body) at k placed there sound =
      holds-for q b s site base w i r name bounds body at k placed there sound.0 sound.1
  holds-doing w i r (st.Do body) at k placed there sound = holds-do q b s site base w i r body at k placed there sound
  holds-doing w i r st.Break at k placed there sound = holds-break q b s site base w i r at k placed there
  holds-doing w i r (st.Return values) at k placed there sound = holds-return q b s site base w i r values at k placed
      there
  holds-doing w i r (st.Perform t) at k placed there sound = holds-perform q b s site base w i r t at k placed there

  holds-node : (w : TypingState) (i : In b s w) (r : Refuses q w) (n : ℕ) → States q b s site base w →
      ResultThere site.in_let w.stage site.result →
      (o : Option nodes.Term) → slice_get w.stage.store.terms n ≡ o → is_statement o ≡ true →
      Holds q (node_plan o site) w
  holds-node w i r n k there (Some (kinds.Statement at x)) h is =
      let sound = i.sound.terms n (kinds.Statement at x) h in
      holds-doing w i r x at k sound.0 there sound.1
  holds-node w i r n k there (Some (kinds.Expression at x)) h is = absurd (no is)
  holds-node w i r n k there (Some (kinds.Function ps x body)) h is = absurd (no is)
  holds-node w i r n k there None h is = absurd (no is)

  pub holds-statement-job : (w : TypingState) (i : In b s w) (r : Refuses q w) (t : TermId) →
      States q b s site base w → ResultThere site.in_let w.stage site.result →
      is_statement (slice_get w.stage.store.terms t.0) ≡ true → Holds q (statement_job t site) w
  holds-statement-job w i r t k there is = holds-node w i r t.0 k there (slice_get w.stage.store.terms t.0) refl is
