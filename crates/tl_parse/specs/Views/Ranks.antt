-- The operators between two operands of Lua code, by their ranks: 0 is the highest precedence.
use Rattle.std.specs.Prelude.{ℕ, nat_le, nat_lt, Bool, false, ◌==◌, ◌&&◌, List, [], ◌∷◌, if◌then◌else◌}
use Rattle.tl_tree.specs.declared.symbol.Symbol.{Symbol}
use Rattle.tl_tree.specs.declared.symbol.Symbol.TheVariants as symbols
use Rattle.tl_tree.specs.declared.mode.TokenUse.TheVariants.{Continues}
use Rattle.tl_tree.specs.Tokens.{Token}
use Rattle.tl_tree.specs.Grammar.{Outcome}
use Rattle.tl_parse.specs.Views.Using.{used}

-- The rank of the operator that a token is. Tokens that are none, and `->`, stand behind all ranks.
abbrev pub rank_of : Symbol → ℕ
rank_of symbols.Star = 0
rank_of symbols.Slash = 0
rank_of symbols.Percent = 0
rank_of symbols.Plus = 1
rank_of symbols.Minus = 1
rank_of symbols.DoubleDot = 2
rank_of symbols.Less = 3
rank_of symbols.Greater = 3
rank_of symbols.LessEqual = 3
rank_of symbols.GreaterEqual = 3
rank_of symbols.NotEqual = 3
rank_of symbols.DoubleEqual = 3
rank_of symbols.And = 4
rank_of symbols.Or = 5
rank_of _ = 6

-- the rank of the next token
abbrev pub rank_at : List Token → ℕ
rank_at [] = 6
rank_at (t ∷ ts) = rank_of t.symbol

-- the next token has a rank from this one on, before that one
abbrev pub is_ranked : ℕ → ℕ → List Token → Bool
is_ranked from end ts = nat_le from (rank_at ts) && nat_lt (rank_at ts) end

abbrev pub is_of_rank : ℕ → Token → Bool
is_of_rank rank t = rank_of t.symbol == rank

-- an operator of this rank, which continues a chain
unfoldable pub ranked_at : ℕ → ℕ → List Token → Outcome Token
ranked_at rank links ts = used (is_of_rank rank) false 0 (Continues links) ts

-- The rank from which it goes on behind an operator and its right operand: operators that group to the left may follow
-- one another, and what follows `..` belongs to its right operand.
abbrev pub rank_behind : ℕ → ℕ
rank_behind rank = if rank == 2 then 3 else rank
