-- What reading the Terra code in expressions of Lua code gives, from left to right. `proofs/TerraCodeAgreeing.antt`
-- shows that it is what the grammar of each name gives.
use Rattle.std.specs.Prelude.{ℕ, ◌-◌, List, if◌then◌else◌}
use Rattle.tl_tree.specs.declared.symbol.Symbol.TheVariants as symbols
use Rattle.tl_tree.specs.declared.mode.Mode.{Mode}
use Rattle.tl_tree.specs.Tokens.{Token, is}
use Rattle.tl_tree.specs.Tree.{Tree, TerraFunction, Struct, Quote, Backtick, Entries, QuotedCode}
use Rattle.tl_tree.specs.Tree.{TerraExpression}
use Rattle.tl_tree.specs.Grammar.{Outcome, Took, ◌>>=◌, begins}
use Rattle.tl_parse.specs.Views.Using.{part_at, sign_at, open_at}
use Rattle.tl_parse.specs.Views.Codes.{opened_terra_body_at}

unfoldable pub terra_function_at : ℕ → List Token → Outcome Tree
terra_function_at levels ts =
    sign_at symbols.Terra ts >>= λ t a. opened_terra_body_at levels a >>= λ x rest. Took (TerraFunction t.place x) rest

-- the entries of a struct in their brackets
unfoldable pub struct_body_at : ℕ → Mode → List Token → Outcome Tree
struct_body_at levels m ts =
    open_at symbols.OpenBrace levels ts >>= λ t a. part_at (levels - 1) (Entries m) a >>= λ x b.
    sign_at symbols.CloseBrace b >>= λ y rest. Took x rest

unfoldable pub struct_at : ℕ → Mode → List Token → Outcome Tree
struct_at levels m ts = sign_at symbols.Struct ts >>= λ t a. struct_body_at levels m a
    >>= λ x rest. Took (Struct t.place x) rest

unfoldable pub quote_at : ℕ → List Token → Outcome Tree
quote_at levels ts =
    open_at symbols.Quote levels ts >>= λ t a. part_at (levels - 1) QuotedCode a >>= λ x b. sign_at symbols.End b
    >>= λ y rest. Took (Quote t.place x) rest

unfoldable pub backtick_at : ℕ → List Token → Outcome Tree
backtick_at levels ts = open_at symbols.Backtick levels ts >>= λ t a. part_at (levels - 1) TerraExpression a
    >>= λ x rest. Took (Backtick t.place x) rest

unfoldable pub terra_code_at : ℕ → Mode → List Token → Outcome Tree
terra_code_at levels m ts =
    if begins (is symbols.Terra) ts then terra_function_at levels ts
    else (if begins (is symbols.Struct) ts then struct_at levels m ts
    else (if begins (is symbols.Quote) ts then quote_at levels ts
    else backtick_at levels ts))
