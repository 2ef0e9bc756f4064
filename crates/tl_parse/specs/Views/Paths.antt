-- What reading lists of names and paths gives, from left to right.
use Rattle.std.specs.Prelude.{ℕ, List, if◌then◌else◌}
use Rattle.tl_tree.specs.declared.symbol.Symbol.{Symbol}
use Rattle.tl_tree.specs.declared.symbol.Symbol.TheVariants as symbols
use Rattle.tl_tree.specs.Tokens.{Token, is}
use Rattle.tl_tree.specs.Tree.{Tree, Nothing, More, Just, Name, Path}
use Rattle.tl_tree.specs.Grammar.{Outcome, Took, ◌>>=◌, begins}
use Rattle.tl_tree.specs.Forms.{name, listed_behind, path_names}
use Rattle.tl_parse.specs.Views.Using.{reading, sign_at}
use Rattle.tl_parse.specs.Views.Expressions.{name_at}

unfoldable pub more_names_at : ℕ → Tree → List Token → Outcome Tree
more_names_at levels before ts = reading levels (listed_behind name before) ts

unfoldable pub next_name_at : List Token → Outcome Tree
next_name_at ts = sign_at symbols.Comma ts >>= λ y a. name_at a

unfoldable pub names_at : ℕ → List Token → Outcome Tree
names_at levels ts = name_at ts >>= λ n a. more_names_at levels (More Nothing n) a

-- a sign and a name behind it, with the place of the sign
unfoldable pub behind_sign_at : Symbol → List Token → Outcome Tree
behind_sign_at s ts = sign_at s ts >>= λ t a. sign_at symbols.Name a
    >>= λ n rest. Took (Name t.place n.offset n.text) rest

unfoldable pub path_names_at : ℕ → Tree → List Token → Outcome Tree
path_names_at levels before ts = reading levels (path_names before) ts

-- the method's name, if there is one
unfoldable pub path_method_at : List Token → Outcome Tree
path_method_at ts = if begins (is symbols.Colon) ts then (behind_sign_at symbols.Colon ts
    >>= λ n rest. Took (Just n) rest) else Took Nothing ts

unfoldable pub path_at : ℕ → List Token → Outcome Tree
path_at levels ts = name_at ts >>= λ n a. path_names_at levels (More Nothing n) a >>= λ ns b. path_method_at b
    >>= λ o rest. Took (Path ns o) rest
