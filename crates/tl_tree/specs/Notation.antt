-- Grammars as data: what a token may be used for, and what a grammar is made of.
use Rattle.std.specs.Prelude.{ℕ, zero, suc, Bool, true, false, List, [], ◌∷◌, if◌then◌else◌, ◌||◌, ◌&&◌, nat_lt, Option}
use Rattle.std.specs.Prelude.{Some, None}
use Rattle.tl_lex.specs.declared.SyntaxKind.{SyntaxKind}
use Rattle.tl_lex.specs.declared.SyntaxKind.TheVariants as why
use Rattle.tl_tree.specs.declared.mode.TokenUse.{TokenUse}
use Rattle.tl_tree.specs.declared.mode.TokenUse.TheVariants.{Continues, Calls, LuaNumber, TerraNumber}
use Rattle.tl_tree.specs.Symbols.{is_bad}
use Rattle.tl_tree.specs.Numbers.{value_of, largest_lua, largest_terra}
use Rattle.tl_tree.specs.Tokens.{Token}
use Rattle.tl_tree.specs.Tree.{Tree, Part}

-- what a token is used for: what it opens where so many levels are left, and what else it does
pub record Use : Type 0 where
  pub opens : Option Part
  pub levels : ℕ
  pub usage : TokenUse

abbrev pub is_none_left : ℕ → Bool
is_none_left zero = true
is_none_left (suc n) = false

abbrev pub opens_too_deep : Option Part → ℕ → Bool
opens_too_deep None levels = false
opens_too_deep (Some part) levels = is_none_left levels

abbrev pub chain_too_long : TokenUse → Bool
chain_too_long (Continues links) = is_none_left links
chain_too_long (Calls links) = is_none_left links
chain_too_long _ = false

-- the use goes past the limits on levels and chains
abbrev pub is_too_deep : Use → Bool
is_too_deep usage = opens_too_deep usage.opens usage.levels || chain_too_long usage.usage

abbrev pub calls : TokenUse → Bool
calls (Calls links) = true
calls _ = false

-- a bracket first on its line could open a call or begin a statement
abbrev pub is_ambiguous : Use → Token → Bool
is_ambiguous usage t = calls usage.usage && t.first_on_line

-- a numeral is used for a number that its language doesn't have
abbrev pub is_too_large : TokenUse → Token → Bool
is_too_large LuaNumber t = nat_lt largest_lua (value_of t.text)
is_too_large TerraNumber t = nat_lt (largest_terra t.symbol) (value_of t.text)
is_too_large _ t = false

-- the use of a token goes past the limits in this way
abbrev pub breaks : SyntaxKind → Use → Token → Bool
breaks why.BadNumber usage t = is_too_large usage.usage t
breaks why.TooDeep usage t = is_too_deep usage
breaks why.Ambiguous usage t = is_ambiguous usage t
breaks _ usage t = false

-- why the limits refuse a use of a token, if they do
abbrev pub bar : Use → Token → Option SyntaxKind
bar usage t =
    if breaks why.BadNumber usage t then Some why.BadNumber
    else (if breaks why.TooDeep usage t then Some why.TooDeep
    else (if breaks why.Ambiguous usage t then Some why.Ambiguous else None))

-- the token is of the class, and breaks no rule of tokens
abbrev pub is_of : (Token → Bool) → Token → Bool
is_of class t = if is_bad t.symbol then false else class t

-- the next token is of the class
abbrev pub begins : (Token → Bool) → List Token → Bool
begins class [] = false
begins class (t ∷ ts) = is_of class t

pub data Grammar : Type 0 → Type 1 where
  -- nothing
  give : {A : Type 0} → A → Grammar A
  -- a token of a class, and the part that it opens, if it opens one; the sample is of the class
  token : (Token → Bool) → (Token → TokenUse) → (Token → Option Part) → Token → Grammar (Token × Tree)
  -- one after the other
  bind : {A B : Type 0} → Grammar A → (A → Grammar B) → Grammar B
  -- the first where the next token is of the class, else the second
  when : {A : Type 0} → (Token → Bool) → Grammar A → Grammar A → Grammar A
  -- as long as the next token is of the class, which depends on what was read: this token, the part that it opens, and
  -- what follows
  many : {A : Type 0} → (A → Token → Bool) → (A → Token → TokenUse) → (A → Token → Option Part)
      → (Token → Tree → A → Grammar A) → A → Grammar A

-- ---- the grammars of parts

-- the grammar of each part
abbrev pub Table : Type 1
Table = Part → Grammar Tree

-- one level less, where any is left
abbrev pub down : ℕ → ℕ
down zero = zero
down (suc levels) = levels

-- the levels of nesting of a text
abbrev pub all_levels : ℕ
all_levels = 100
