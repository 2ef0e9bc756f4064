-- What reading the parts of Terra expressions gives.
use Rattle.std.proofs.Common.{◌≡◌, ℕ, List, refl, ap}
use Rattle.tl_tree.specs.declared.mode.Mode.{Mode}
use Rattle.tl_tree.specs.Tokens.{Token}
use Rattle.tl_tree.specs.Tree.{Nothing, TerraExpression, TerraOperand, Initialisers, Entries}
use Rattle.tl_tree.specs.Grammar.{Outcome, Took, ◌>>=◌}
use Rattle.tl_tree.specs.Forms.{Chained, chain}
use Rattle.tl_parse.specs.Views.Using.{part_at}
use Rattle.tl_parse.specs.Views.TerraExpressions.{terra_exponent_at, terra_unary_at, terra_inner_at, terra_first_at, terra_binary_at}
use Rattle.tl_parse.specs.Views.TerraExpressions.{initialisers_at}
use Rattle.tl_parse.specs.Views.Entries.{more_entries_at}
use Rattle.tl_parse.specs.declared.terra_expressions.TerraPrecedence.{TerraPrecedence}
use Rattle.tl_parse.specs.declared.terra_expressions.TerraPrecedence.TheVariants as precedences
use Rattle.tl_parse.proofs.TerraAgreeing.{terra_exponent_agrees, terra_unary_agrees, terra_product_agrees, terra_sum_agrees}
use Rattle.tl_parse.proofs.TerraAgreeing.{terra_shift_agrees, terra_comparison_agrees, terra_conjunction_agrees, terra_disjunction_agrees}
use Rattle.tl_parse.proofs.TerraAgreeing.{initialisers_agree}
use Rattle.tl_parse.proofs.Failing.{fails_after, fails_bind, fails_same}

pub terra_expression_part : (levels : ℕ) (ts : List Token) → part_at levels TerraExpression ts ≡ (terra_binary_at levels precedences.Disjunction chain ts >>= λ a rest. Took a.tree rest)
unfolding part_at
terra_expression_part levels ts = ap (λ (o : Outcome Chained). o >>= λ a rest. Took a.tree rest) (terra_disjunction_agrees levels chain ts)

pub terra_operand_part : (levels : ℕ) (ts : List Token) → part_at levels TerraOperand ts ≡ (terra_unary_at levels chain ts >>= λ a rest. Took a.tree rest)
unfolding part_at
terra_operand_part levels ts = ap (λ (o : Outcome Chained). o >>= λ a rest. Took a.tree rest) (terra_unary_agrees levels chain ts)

pub initialisers_part : (levels : ℕ) (ts : List Token) → part_at levels Initialisers ts ≡ initialisers_at levels ts
unfolding part_at
initialisers_part levels ts = initialisers_agree levels ts

pub entries_part : (levels : ℕ) (m : Mode) (ts : List Token) → part_at levels (Entries m) ts ≡ more_entries_at levels m Nothing ts
unfolding part_at more_entries_at
entries_part levels m ts = refl

pub inner_power : (levels links : ℕ) (ts : List Token) → terra_inner_at levels precedences.Power links ts ≡ terra_exponent_at levels links ts
unfolding terra_inner_at
inner_power levels links ts = terra_exponent_agrees levels links ts

pub inner_product : (levels links : ℕ) (ts : List Token) → terra_inner_at levels precedences.Product links ts ≡ terra_unary_at levels links ts
unfolding terra_inner_at
inner_product levels links ts = terra_unary_agrees levels links ts

pub inner_sum : (levels links : ℕ) (ts : List Token) → terra_inner_at levels precedences.Sum links ts ≡ terra_binary_at levels precedences.Product links ts
unfolding terra_inner_at
inner_sum levels links ts = terra_product_agrees levels links ts

pub inner_shift : (levels links : ℕ) (ts : List Token) → terra_inner_at levels precedences.Shift links ts ≡ terra_binary_at levels precedences.Sum links ts
unfolding terra_inner_at
inner_shift levels links ts = terra_sum_agrees levels links ts

pub inner_comparison : (levels links : ℕ) (ts : List Token) → terra_inner_at levels precedences.Comparison links ts ≡ terra_binary_at levels precedences.Shift links ts
unfolding terra_inner_at
inner_comparison levels links ts = terra_shift_agrees levels links ts

pub inner_conjunction : (levels links : ℕ) (ts : List Token) → terra_inner_at levels precedences.Conjunction links ts ≡ terra_binary_at levels precedences.Comparison links ts
unfolding terra_inner_at
inner_conjunction levels links ts = terra_comparison_agrees levels links ts

pub inner_disjunction : (levels links : ℕ) (ts : List Token) → terra_inner_at levels precedences.Disjunction links ts ≡ terra_binary_at levels precedences.Conjunction links ts
unfolding terra_inner_at
inner_disjunction levels links ts = terra_conjunction_agrees levels links ts

pub first_others : (p : TerraPrecedence) (levels links : ℕ) (ts : List Token) → (p ≡ precedences.Power → ⊥) → terra_first_at levels p links ts ≡ terra_inner_at levels p links ts
unfolding terra_first_at
first_others precedences.Power levels links ts h = absurd (h refl)
first_others _ levels links ts h = refl

pub ruleset inner = (fails_bind, fails_after, inner_power, inner_product, inner_sum, inner_shift, inner_comparison, inner_conjunction, inner_disjunction, fails_same)

pub ruleset first = (fails_bind, fails_after, fails_same, first_others)
