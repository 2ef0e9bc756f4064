-- What reading Terra code in Lua expressions gives is what its grammar gives.
use Rattle.std.proofs.Common.{◌≡◌, ℕ, List, refl}
use Rattle.tl_tree.specs.declared.mode.Mode.{Mode}
use Rattle.tl_tree.specs.declared.symbol.Symbol.TheVariants as symbols
use Rattle.tl_tree.specs.Tokens.{Token, is}
use Rattle.tl_tree.specs.Tree.{TerraFunction, Struct, Quote, Backtick, Entries, TerraFunctionBody, QuotedCode, TerraExpression}
use Rattle.tl_tree.specs.Grammar.{give, bind, Took, ◌>>=◌, begins}
use Rattle.tl_tree.specs.Forms.{sign, opening_at}
use Rattle.tl_tree.specs.LuaExpressions as lua
use Rattle.tl_parse.specs.Views.Using.{reading, sign_at}
use Rattle.tl_parse.specs.Views.TerraCode.{terra_function_at, struct_body_at, struct_at, quote_at, backtick_at, terra_code_at}
use Rattle.tl_parse.specs.Views.Codes.{opened_terra_body_at}
use Rattle.tl_parse.proofs.Following.{sign_then, open_then, then, either_is, terra_body_give}

terra_function_agrees : (levels : ℕ) (ts : List Token) → reading levels lua.terra_function ts ≡ terra_function_at levels ts
unfolding terra_function_at
terra_function_agrees levels ts =
    sign_then levels symbols.Terra (λ t. bind (opening_at symbols.OpenParen TerraFunctionBody) λ x. give (TerraFunction t.0.place x.1)) (λ t us. opened_terra_body_at levels us >>= λ x rest. Took (TerraFunction t.place x) rest)
    (λ t us. terra_body_give levels (λ x. TerraFunction t.place x) us) ts

pub struct_body_agrees : (levels : ℕ) (m : Mode) (ts : List Token) → reading levels (lua.struct_body m) ts ≡ struct_body_at levels m ts
unfolding struct_body_at
struct_body_agrees levels m ts =
    open_then levels symbols.OpenBrace (Entries m) (λ x. bind (sign symbols.CloseBrace) λ y. give x.1) (λ t x us. sign_at symbols.CloseBrace us >>= λ y rest. Took x rest)
    (λ t x us. sign_then levels symbols.CloseBrace (λ y. give x) (λ y rest. Took x rest) (λ y vs. refl) us) ts

struct_agrees : (levels : ℕ) (m : Mode) (ts : List Token) → reading levels (lua.struct m) ts ≡ struct_at levels m ts
unfolding struct_at
struct_agrees levels m ts =
    sign_then levels symbols.Struct (λ t. bind (lua.struct_body m) λ es. give (Struct t.0.place es)) (λ t us. struct_body_at levels m us >>= λ x rest. Took (Struct t.place x) rest)
    (λ t us. then levels (lua.struct_body m) (λ es. give (Struct t.place es)) (λ vs. struct_body_at levels m vs) (λ x rest. Took (Struct t.place x) rest) (λ vs. struct_body_agrees levels m vs) (λ x vs. refl) us) ts

quote_agrees : (levels : ℕ) (ts : List Token) → reading levels lua.quote ts ≡ quote_at levels ts
unfolding quote_at
quote_agrees levels ts =
    open_then levels symbols.Quote QuotedCode (λ x. bind (sign symbols.End) λ y. give (Quote x.0.place x.1)) (λ t x us. sign_at symbols.End us >>= λ y rest. Took (Quote t.place x) rest)
    (λ t x us. sign_then levels symbols.End (λ y. give (Quote t.place x)) (λ y rest. Took (Quote t.place x) rest) (λ y vs. refl) us) ts

backtick_agrees : (levels : ℕ) (ts : List Token) → reading levels lua.backtick ts ≡ backtick_at levels ts
unfolding backtick_at
backtick_agrees levels ts =
    open_then levels symbols.Backtick TerraExpression (λ x. give (Backtick x.0.place x.1)) (λ t x rest. Took (Backtick t.place x) rest) (λ t x us. refl) ts

pub terra_code_agrees : (levels : ℕ) (m : Mode) (ts : List Token) → reading levels (lua.terra_code m) ts ≡ terra_code_at levels m ts
unfolding terra_code_at
terra_code_agrees levels m ts =
    either_is (begins (is symbols.Terra) ts) (reading levels lua.terra_function ts) _ (terra_function_at levels ts) _ (terra_function_agrees levels ts)
    (either_is (begins (is symbols.Struct) ts) (reading levels (lua.struct m) ts) _ (struct_at levels m ts) _ (struct_agrees levels m ts)
    (either_is (begins (is symbols.Quote) ts) (reading levels lua.quote ts) (reading levels lua.backtick ts) (quote_at levels ts) (backtick_at levels ts) (quote_agrees levels ts) (backtick_agrees levels ts)))
