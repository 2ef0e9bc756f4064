-- Quotes do the same in trees that are alike.
use Rattle.std.proofs.Common.{List, [], Option, Some, None, refl, subst}
use Rattle.std.specs.Prelude.{nat_le, if◌then◌else◌}
use Rattle.tl_base.specs.declared.ids.EnvId.{EnvId}
use Rattle.tl_base.specs.declared.ids.NodeId.{NodeId}
use Rattle.tl_base.specs.declared.ids.TermId.{TermId}
use Rattle.tl_base.specs.declared.place.Place.{Place}
use Rattle.tl_tree.specs.Code.{Items, statements_at}
use Rattle.tl_alike.specs.Alike.{AreAlike, HasSameUse}
use Rattle.terra_term.specs.declared.size.Size.{Size}
use Rattle.terra_term.specs.declared.store.Quote.{Quote}
use Rattle.terra_term.specs.declared.store.Quote.TheVariants as quotes
use Rattle.terra_term.specs.declared.term.Expression.TheVariants as e
use Rattle.exotype.specs.declared.fault.Fault.TheVariants as faults
use Rattle.exotype.specs.Terms.{term_size, terms_size}
use Rattle.spec_model.specs.Nodes.{QuotedParts, quoted_at}
use Rattle.spec_model.specs.Plans.{SpecPlan, raise, expression, block}
use Rattle.spec_model.specs.Quotes.{most_nodes, most_levels, limited, give_quote, quote_term, backtick_plan, quoted_plan, quote_plan}
use Rattle.spec_alike.proofs.Children.{IfAny}
use Rattle.spec_alike.proofs.Reading.{same-quoted, quoted-use}
use Rattle.spec_alike.proofs.OfPlans.{Same, same-if, same-raise, same-expression, same-term, same-entering}
use Rattle.spec_alike.proofs.OfStatements.{same-statements}

module _ (items other : Items) where
  pub same-limited : (size : Size) (place : Place) (rest more : SpecPlan) → Same items other rest more
      → Same items other (limited size place rest) (limited size place more)
  same-limited size place rest more h =
      let deep : SpecPlan = raise place faults.TermTooDeep in
      let large : SpecPlan = raise place faults.TermTooLarge in
      same-if items other (nat_le size.nodes most_nodes) (if nat_le size.levels most_levels then rest else deep) large
      (if nat_le size.levels most_levels then more else deep) large
      (same-if items other (nat_le size.levels most_levels) rest deep more deep h (same-raise items other place faults.TermTooDeep))
      (same-raise items other place faults.TermTooLarge)

  same-give-quote : (q : Quote) → Same items other (give_quote q) (give_quote q)
  same-give-quote q = λ w. (refl, refl)

  same-quote-term : (place : Place) (t : TermId) → Same items other (quote_term place t) (quote_term place t)
  same-quote-term place t =
      λ w. same-limited (term_size w t) place (give_quote (quotes.Expression t)) (give_quote (quotes.Expression t))
      (same-give-quote (quotes.Expression t))

  pub same-backtick-plan : (n : NodeId) (place : Place) (env : EnvId) → HasSameUse items other n
      → Same items other (backtick_plan n place env) (backtick_plan n place env)
  same-backtick-plan n place env used =
      same-term items other n env used (λ t. quote_term place t) (λ t. quote_term place t) (λ t. same-quote-term place t)

  same-quoted-plan : (o : Option NodeId) (ts : List TermId) (place : Place) (inner : EnvId) → IfAny (HasSameUse items other) o
      → Same items other (quoted_plan o ts place inner) (quoted_plan o ts place inner)
  same-quoted-plan (Some n) ts place inner used =
      let let_in : TermId → SpecPlan = λ t. expression place (e.Let ts t) (λ l. quote_term place l) in
      same-term items other n inner used let_in let_in
      (λ t. same-expression items other place (e.Let ts t) (λ l. quote_term place l) (λ l. quote_term place l)
      (λ l. same-quote-term place l))
  same-quoted-plan None ts place inner used =
      λ w. same-limited (terms_size w ts) place (give_quote (quotes.Statements ts)) (give_quote (quotes.Statements ts))
      (same-give-quote (quotes.Statements ts))

module _ (items other : Items) (alike : AreAlike items other) where
  pub same-quote-plan : (q : NodeId) (place : Place) (env : EnvId)
      → Same items other (quote_plan items q place env) (quote_plan other q place env)
  same-quote-plan q place env =
      let parts : QuotedParts = quoted_at items q in
      let behind : Items → QuotedParts → EnvId → SpecPlan = λ tree x inner.
      block (statements_at tree x.block) inner [] (λ ts. quoted_plan x.value ts place inner) in
      same-entering items other q env (behind items parts) (behind other (quoted_at other q))
      (λ inner. subst (λ x. Same items other (behind items parts inner) (behind other x inner)) (same-quoted items other alike q)
      (same-statements items other alike parts.block inner [] (λ ts. quoted_plan parts.value ts place inner)
      (λ ts. quoted_plan parts.value ts place inner)
      (λ ts. same-quoted-plan items other parts.value ts place inner (quoted-use items other alike q))))
