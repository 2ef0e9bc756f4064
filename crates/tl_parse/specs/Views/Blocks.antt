-- What reading a statement and a block gives, in either language.
use Rattle.std.specs.Prelude.{ℕ, Bool, false, not, ◌&&◌, List, [], ◌∷◌, if◌then◌else◌}
use Rattle.tl_tree.specs.declared.symbol.Symbol.{Symbol}
use Rattle.tl_tree.specs.declared.symbol.Symbol.TheVariants as symbols
use Rattle.tl_tree.specs.declared.mode.TokenUse.TheVariants.{Plain}
use Rattle.tl_tree.specs.Tokens.{Token, among, is}
use Rattle.tl_tree.specs.Tree.{Tree, Nothing, More, Block}
use Rattle.tl_tree.specs.Grammar.{Grammar, give, bind, many, Outcome, Took, ◌>>=◌, begins}
use Rattle.tl_tree.specs.Forms.{semicolon}
use Rattle.tl_tree.specs.LuaStatements.{Sequence, sequence}
use Rattle.tl_parse.specs.Views.Using.{reading, sign_at}
use Rattle.tl_parse.specs.Views.Codes.{begins_statement, statement_opens, statement_behind, ends_block}
use Rattle.tl_parse.specs.Views.Statements.{statement_at}
use Rattle.tl_parse.specs.Views.TerraStatements.{terra_statement_at}
use Rattle.tl_parse.specs.declared.parser.BlockCode.{BlockCode}
use Rattle.tl_parse.specs.declared.parser.BlockCode.TheVariants as block_codes

-- a statement of the language
abbrev pub statement_in_at : ℕ → BlockCode → List Token → Outcome Tree
statement_in_at levels (block_codes.Lua c) ts = statement_at levels c ts
statement_in_at levels block_codes.Terra ts = terra_statement_at levels ts

-- the words of statements that end a block
abbrev pub last_symbols : List Symbol
last_symbols = symbols.Return ∷ symbols.Break ∷ []

-- a statement, and whether it ends its block
unfoldable pub next_statement_at : ℕ → BlockCode → List Token → Outcome Sequence
next_statement_at levels block ts =
    statement_in_at levels block ts >>= λ s a.
    if begins (is symbols.Semicolon) a then (sign_at symbols.Semicolon a
    >>= λ y rest. Took (sequence s (begins (among last_symbols) ts)) rest)
    else Took (sequence s (begins (among last_symbols) ts)) a

-- the tokens that begin a statement in all blocks of Lua code
abbrev pub plain_statements : List Symbol
plain_statements =
    symbols.Name ∷ symbols.OpenParen ∷ symbols.Do ∷ symbols.While ∷ symbols.Repeat ∷ symbols.If ∷ symbols.For
    ∷ symbols.Function ∷ symbols.Local ∷ symbols.Return ∷ symbols.Terra ∷ symbols.Struct ∷ []

-- May a token be the first of one more statement of a block?
abbrev pub goes_on : BlockCode → Bool → Token → Bool
goes_on block ended t = begins_statement block t && not ended

-- the statements behind those so far
abbrev pub more_statements : BlockCode → Sequence → Grammar Sequence
more_statements block a =
    many (λ a t. goes_on block a.ended t) (λ a t. Plain) (λ a t. statement_opens block t.symbol)
    (λ t x a. bind (statement_behind block t x) λ s. bind semicolon λ y.
    give (sequence (More a.statements s) (ends_block block t.symbol))) a

unfoldable pub more_statements_at : ℕ → BlockCode → Tree → Bool → List Token → Outcome Sequence
more_statements_at levels block tree ended ts = reading levels (more_statements block (sequence tree ended)) ts

unfoldable pub block_at : ℕ → BlockCode → List Token → Outcome Tree
block_at levels block ts = more_statements_at levels block Nothing false ts >>= λ a rest. Took (Block a.statements) rest
