-- Quotes, and the limits of nodes and levels.
use Rattle.std.specs.Prelude.{ℕ, List, [], nat_le, Option, Some, None, if◌then◌else◌}
use Rattle.tl_base.specs.declared.ids.EnvId.{EnvId}
use Rattle.tl_base.specs.declared.ids.NodeId.{NodeId}
use Rattle.tl_base.specs.declared.ids.TermId.{TermId}
use Rattle.tl_base.specs.declared.place.Place.{Place}
use Rattle.tl_base.specs.Plan.{Give, Read, Write}
use Rattle.tl_base.specs.declared.limits.TheConstants.{MAX_TERM_NODES, MAX_TERM_LEVELS}
use Rattle.lua_value.specs.declared.value.Value.TheVariants as values
use Rattle.tl_tree.specs.Code.{Items, statements_at}
use Rattle.terra_term.specs.declared.store.Quote.{Quote}
use Rattle.terra_term.specs.declared.store.Quote.TheVariants as quotes
use Rattle.terra_term.specs.declared.term.Expression.TheVariants as e
use Rattle.terra_term.specs.declared.size.Size.{Size}
use Rattle.exotype.specs.declared.fault.Fault.TheVariants as faults
use Rattle.exotype.specs.Terms.{term_size, terms_size}
use Rattle.spec_model.specs.Making.{next_quote, with_quote}
use Rattle.spec_model.specs.declared.end.End.TheVariants.{Gave}
use Rattle.spec_model.specs.Nodes.{quoted_at}
use Rattle.spec_model.specs.Plans.{SpecPlan, raise, expression, term, block, entering}

-- the most nodes and levels of a quote or a function
abbrev pub most_nodes : ℕ
most_nodes = MAX_TERM_NODES

abbrev pub most_levels : ℕ
most_levels = MAX_TERM_LEVELS

-- goes on with what is within the limits
abbrev pub limited : Size → Place → SpecPlan → SpecPlan
limited size place rest =
    if nat_le size.nodes most_nodes then (if nat_le size.levels most_levels then rest else raise place faults.TermTooDeep)
    else raise place faults.TermTooLarge

abbrev pub give_quote : Quote → SpecPlan
give_quote q = Read (λ w. Write (with_quote w q) (Give (Gave (values.Quote (next_quote w)))))

-- an expression as a quote
abbrev pub quote_term : Place → TermId → SpecPlan
quote_term place t = Read (λ w. limited (term_size w t) place (give_quote (quotes.Expression t)))

abbrev pub backtick_plan : NodeId → Place → EnvId → SpecPlan
backtick_plan n place env = term n env (λ t. quote_term place t)

-- statements, or statements and an expression in their scope
abbrev pub quoted_plan : Option NodeId → List TermId → Place → EnvId → SpecPlan
quoted_plan (Some n) ts place inner = term n inner (λ t. expression place (e.Let ts t) (λ l. quote_term place l))
quoted_plan None ts place inner = Read (λ w. limited (terms_size w ts) place (give_quote (quotes.Statements ts)))

abbrev pub quote_plan : Items → NodeId → Place → EnvId → SpecPlan
quote_plan items q place env =
    entering q env (λ inner.
    block (statements_at items (quoted_at items q).block) inner [] (λ ts. quoted_plan (quoted_at items q).value ts place inner))
