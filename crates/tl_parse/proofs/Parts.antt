-- What reading the parts of Lua expressions gives.
use Rattle.std.proofs.Common.{◌≡◌, ℕ, cond, List, refl, ap, arith}
use Rattle.tl_tree.specs.declared.mode.Mode.{Mode}
use Rattle.tl_tree.specs.declared.symbol.Symbol.TheVariants as symbols
use Rattle.tl_tree.specs.Tokens.{Token, is}
use Rattle.tl_tree.specs.Tree.{Tree, Nothing, More, Expression, Operand, Concatenation, Fields}
use Rattle.tl_tree.specs.Grammar.{Outcome, Took, ◌>>=◌, begins}
use Rattle.tl_tree.specs.Forms.{Chained, chain}
use Rattle.tl_parse.specs.Views.Using.{part_at}
use Rattle.tl_parse.specs.Views.Expressions.{arguments_at, unary_at, chained_at, binary_at, more_fields_at, fields_at}
use Rattle.tl_parse.specs.Views.Codes.{arguments_in}
use Rattle.tl_parse.specs.Views.Lists.{element_at, more_elements_at, elements_at}
use Rattle.tl_parse.specs.declared.parser.Code.{Code}
use Rattle.tl_parse.specs.declared.parser.Code.TheVariants as codes
use Rattle.tl_parse.proofs.Agreeing.{unary_agrees, binary_agrees, chained_agrees, field_agrees}
use Rattle.tl_parse.proofs.Failing.{fails_after, fails_bind, fails_same}
use Rattle.tl_parse.specs.declared.parser.Code.TheVariants as codes

pub expression_part : (levels : ℕ) (m : Mode) (ts : List Token) → part_at levels (Expression m) ts ≡ (chained_at levels m ts >>= λ a rest. Took a.tree rest)
unfolding part_at
expression_part levels m ts = ap (λ (o : Outcome Chained). o >>= λ a rest. Took a.tree rest) (chained_agrees levels m ts)

pub operand_part : (levels : ℕ) (m : Mode) (ts : List Token) → part_at levels (Operand m) ts ≡ (unary_at levels m chain ts >>= λ a rest. Took a.tree rest)
unfolding part_at
operand_part levels m ts = ap (λ (o : Outcome Chained). o >>= λ a rest. Took a.tree rest) (unary_agrees levels m chain ts)

pub concatenation_part : (levels : ℕ) (m : Mode) (ts : List Token) → part_at levels (Concatenation m) ts ≡ (binary_at levels 3 m chain ts >>= λ a rest. Took a.tree rest)
unfolding part_at
concatenation_part levels m ts = ap (λ (o : Outcome Chained). o >>= λ a rest. Took a.tree rest) (binary_agrees 3 levels m chain ts (omega arith))

pub arguments_part : (levels : ℕ) (code : Code) (ts : List Token) → part_at levels (arguments_in code) ts ≡ arguments_at levels code ts
unfolding part_at arguments_at elements_at element_at more_elements_at
arguments_part levels (codes.Lua m) ts = refl
arguments_part levels codes.Terra ts = refl

pub fields_part : (levels : ℕ) (m : Mode) (ts : List Token) → part_at levels (Fields m) ts ≡ fields_at levels m ts
unfolding part_at fields_at more_fields_at
fields_part levels m ts =
    ap (λ (o : Outcome Tree). cond (begins (is symbols.CloseBrace) ts) (Took Nothing ts) (o >>= λ f rest. more_fields_at levels m (More Nothing f) rest)) (field_agrees levels m ts)

pub ruleset arguments = (fails_bind, fails_after, fails_same, arguments_part)
