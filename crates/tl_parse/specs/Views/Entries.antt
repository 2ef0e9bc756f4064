-- What reading the entries of a struct gives, from left to right.
use Rattle.std.specs.Prelude.{ℕ, List, if◌then◌else◌, None}
use Rattle.tl_tree.specs.declared.symbol.Symbol.TheVariants as symbols
use Rattle.tl_tree.specs.declared.mode.Mode.{Mode}
use Rattle.tl_tree.specs.declared.mode.TokenUse.TheVariants.{Plain}
use Rattle.tl_tree.specs.Tokens.{Token, among, is}
use Rattle.tl_tree.specs.Tree.{Tree, Nothing, More, Name, Entry}
use Rattle.tl_tree.specs.Grammar.{Grammar, Outcome, Took, ◌>>=◌, give, bind, many, begins}
use Rattle.tl_tree.specs.Forms.{sign, separator}
use Rattle.tl_tree.specs.LuaExpressions as lua
use Rattle.tl_parse.specs.Views.Using.{reading, sign_among_at}
use Rattle.tl_parse.specs.Views.Codes.{expression_behind_at}
use Rattle.tl_parse.specs.declared.parser.Code.TheVariants as codes
use Rattle.tl_parse.specs.Views.Expressions.{name_at, separators}

-- a separator if one follows
unfoldable pub separator_at : List Token → Outcome Tree
separator_at ts = if begins (among separators) ts then (sign_among_at separators ts >>= λ y rest. Took Nothing rest)
    else Took Nothing ts

unfoldable pub entry_at : ℕ → Mode → List Token → Outcome Tree
entry_at levels m ts =
    name_at ts >>= λ n a. expression_behind_at levels symbols.Colon (codes.Lua m) a >>= λ e b. separator_at b
    >>= λ z rest. Took (Entry n e) rest

-- entries behind a list of them
abbrev pub entries_behind : Mode → Tree → Grammar Tree
entries_behind m before =
    many (λ a t. is symbols.Name t) (λ a t. Plain) (λ a t. None)
    (λ t x a. bind (sign symbols.Colon) λ y. bind (lua.expression m) λ e. bind separator λ z.
    give (More a (Entry (Name t.place t.offset t.text) e)))
    before

unfoldable pub more_entries_at : ℕ → Mode → Tree → List Token → Outcome Tree
more_entries_at levels m before ts = reading levels (entries_behind m before) ts
