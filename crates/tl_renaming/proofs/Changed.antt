-- Trees and tokens whose names are changed: each name by its offset and its text, and no other text.
use Rattle.std.specs.Prelude.{ℕ, Bool, List, [], ◌∷◌, ◌++◌, if◌then◌else◌}
use Rattle.tl_tree.specs.declared.symbol.Symbol.TheVariants as symbols
use Rattle.tl_tree.specs.Tokens.{Token, is}
use Rattle.tl_tree.specs.Tree.{Tree}
use Rattle.tl_tree.specs.Tree as t
use Rattle.tl_tree.specs.Forms.{Chained}
use Rattle.tl_tree.specs.LuaStatements.{Parameters, Sequence}

-- what becomes of the offset and of the text of a name, by its offset and its text
pub record Change : Type 0 where
  pub offset : ℕ → ℕ
  pub text : ℕ → List ℕ → List ℕ

-- a name, by its offset and its text
pub record Named : Type 0 where
  pub offset : ℕ
  pub text : List ℕ

abbrev pub named : ℕ → List ℕ → Named
named offset text = record { offset = offset; text = text }

-- ---- tokens

abbrev pub is_name : Token → Bool
is_name t = is symbols.Name t

abbrev pub named_by : Token → List Named
named_by t = if is_name t then named t.offset t.text ∷ [] else []

abbrev pub all_named : List Token → List Named
all_named [] = []
all_named (t ∷ ts) = named_by t ++ all_named ts

abbrev pub changed_text : Change → Token → List ℕ
changed_text c t = if is_name t then c.text t.offset t.text else t.text

abbrev pub changed_token : Change → Token → Token
changed_token c t =
    record { symbol = t.symbol; text = changed_text c t; place = t.place; offset = c.offset t.offset; first_on_line = t.first_on_line }

abbrev pub changed_tokens : Change → List Token → List Token
changed_tokens c [] = []
changed_tokens c (t ∷ ts) = changed_token c t ∷ changed_tokens c ts

-- ---- trees

abbrev pub changed : Change → Tree → Tree
changed c t.Nothing = t.Nothing
changed c (t.More a b) = t.More (changed c a) (changed c b)
changed c (t.Just a) = t.Just (changed c a)
changed c (t.Name place offset text) = t.Name place (c.offset offset) (c.text offset text)
changed c (t.Numeral place text) = t.Numeral place text
changed c (t.Literal place text) = t.Literal place text
changed c (t.Nil place) = t.Nil place
changed c (t.False place) = t.False place
changed c (t.True place) = t.True place
changed c (t.Varargs place) = t.Varargs place
changed c (t.Function place a) = t.Function place (changed c a)
changed c (t.Table place a) = t.Table place (changed c a)
changed c (t.Binary place op a b) = t.Binary place op (changed c a) (changed c b)
changed c (t.Unary place op a) = t.Unary place op (changed c a)
changed c (t.Paren place a) = t.Paren place (changed c a)
changed c (t.Index place a b) = t.Index place (changed c a) (changed c b)
changed c (t.Select place a b) = t.Select place (changed c a) (changed c b)
changed c (t.Call place a b) = t.Call place (changed c a) (changed c b)
changed c (t.Method place a b d) = t.Method place (changed c a) (changed c b) (changed c d)
changed c (t.TerraFunction place a) = t.TerraFunction place (changed c a)
changed c (t.Struct place a) = t.Struct place (changed c a)
changed c (t.Quote place a) = t.Quote place (changed c a)
changed c (t.Backtick place a) = t.Backtick place (changed c a)
changed c (t.Assign place a b) = t.Assign place (changed c a) (changed c b)
changed c (t.CallStatement place a) = t.CallStatement place (changed c a)
changed c (t.Do place a) = t.Do place (changed c a)
changed c (t.While place a b) = t.While place (changed c a) (changed c b)
changed c (t.Repeat place a b) = t.Repeat place (changed c a) (changed c b)
changed c (t.If place a b) = t.If place (changed c a) (changed c b)
changed c (t.NumericFor place a b d e f) = t.NumericFor place (changed c a) (changed c b) (changed c d) (changed c e) (changed c f)
changed c (t.GenericFor place a b d) = t.GenericFor place (changed c a) (changed c b) (changed c d)
changed c (t.DefineFunction place a b) = t.DefineFunction place (changed c a) (changed c b)
changed c (t.LocalFunction place a b) = t.LocalFunction place (changed c a) (changed c b)
changed c (t.Local place a b) = t.Local place (changed c a) (changed c b)
changed c (t.DefineTerra place a b) = t.DefineTerra place (changed c a) (changed c b)
changed c (t.DeclareTerra place a b) = t.DeclareTerra place (changed c a) (changed c b)
changed c (t.LocalTerra place word a b) = t.LocalTerra place word (changed c a) (changed c b)
changed c (t.LocalDeclareTerra place word a b) = t.LocalDeclareTerra place word (changed c a) (changed c b)
changed c (t.DefineStruct place a b) = t.DefineStruct place (changed c a) (changed c b)
changed c (t.LocalStruct place word a b) = t.LocalStruct place word (changed c a) (changed c b)
changed c (t.Emit place a) = t.Emit place (changed c a)
changed c (t.Return place a) = t.Return place (changed c a)
changed c (t.Break place) = t.Break place
changed c (t.TerraNil place) = t.TerraNil place
changed c (t.TerraFalse place) = t.TerraFalse place
changed c (t.TerraTrue place) = t.TerraTrue place
changed c (t.TerraBinary place op a b) = t.TerraBinary place op (changed c a) (changed c b)
changed c (t.TerraUnary place op a) = t.TerraUnary place op (changed c a)
changed c (t.TerraParen place a) = t.TerraParen place (changed c a)
changed c (t.Escape place a) = t.Escape place (changed c a)
changed c (t.TerraIndex place a b) = t.TerraIndex place (changed c a) (changed c b)
changed c (t.TerraSelect place a b) = t.TerraSelect place (changed c a) (changed c b)
changed c (t.TerraCall place a b) = t.TerraCall place (changed c a) (changed c b)
changed c (t.TerraMethod place a b d) = t.TerraMethod place (changed c a) (changed c b) (changed c d)
changed c (t.Construct place a b) = t.Construct place (changed c a) (changed c b)
changed c (t.TerraAssign place a b) = t.TerraAssign place (changed c a) (changed c b)
changed c (t.TerraCallStatement place a) = t.TerraCallStatement place (changed c a)
changed c (t.Splice place a) = t.Splice place (changed c a)
changed c (t.TerraDo place a) = t.TerraDo place (changed c a)
changed c (t.TerraWhile place a b) = t.TerraWhile place (changed c a) (changed c b)
changed c (t.TerraRepeat place a b) = t.TerraRepeat place (changed c a) (changed c b)
changed c (t.TerraIf place a b) = t.TerraIf place (changed c a) (changed c b)
changed c (t.TerraFor place a b d e f) = t.TerraFor place (changed c a) (changed c b) (changed c d) (changed c e) (changed c f)
changed c (t.Var place a b) = t.Var place (changed c a) (changed c b)
changed c (t.EscapeBlock place a) = t.EscapeBlock place (changed c a)
changed c (t.TerraReturn place a) = t.TerraReturn place (changed c a)
changed c (t.TerraBreak place) = t.TerraBreak place
changed c (t.Block a) = t.Block (changed c a)
changed c (t.Arm a b) = t.Arm (changed c a) (changed c b)
changed c (t.Body a flag b) = t.Body (changed c a) flag (changed c b)
changed c (t.Path a b) = t.Path (changed c a) (changed c b)
changed c (t.NamedField a b) = t.NamedField (changed c a) (changed c b)
changed c (t.KeyedField a b) = t.KeyedField (changed c a) (changed c b)
changed c (t.Entry a b) = t.Entry (changed c a) (changed c b)
changed c (t.Quoted a b) = t.Quoted (changed c a) (changed c b)
changed c (t.TerraBody place a b d) = t.TerraBody place (changed c a) (changed c b) (changed c d)
changed c (t.Parameter place a b) = t.Parameter place (changed c a) (changed c b)
changed c (t.SpliceParameter place a) = t.SpliceParameter place (changed c a)
changed c (t.Variable place a b) = t.Variable place (changed c a) (changed c b)

-- the names of a tree, in order of the text
abbrev pub names_in : Tree → List Named
names_in t.Nothing = []
names_in (t.More a b) = names_in a ++ names_in b
names_in (t.Just a) = names_in a
names_in (t.Name place offset text) = named offset text ∷ []
names_in (t.Numeral place text) = []
names_in (t.Literal place text) = []
names_in (t.Nil place) = []
names_in (t.False place) = []
names_in (t.True place) = []
names_in (t.Varargs place) = []
names_in (t.Function place a) = names_in a
names_in (t.Table place a) = names_in a
names_in (t.Binary place op a b) = names_in a ++ names_in b
names_in (t.Unary place op a) = names_in a
names_in (t.Paren place a) = names_in a
names_in (t.Index place a b) = names_in a ++ names_in b
names_in (t.Select place a b) = names_in a ++ names_in b
names_in (t.Call place a b) = names_in a ++ names_in b
names_in (t.Method place a b d) = (names_in a ++ names_in b) ++ names_in d
names_in (t.TerraFunction place a) = names_in a
names_in (t.Struct place a) = names_in a
names_in (t.Quote place a) = names_in a
names_in (t.Backtick place a) = names_in a
names_in (t.Assign place a b) = names_in a ++ names_in b
names_in (t.CallStatement place a) = names_in a
names_in (t.Do place a) = names_in a
names_in (t.While place a b) = names_in a ++ names_in b
names_in (t.Repeat place a b) = names_in a ++ names_in b
names_in (t.If place a b) = names_in a ++ names_in b
names_in (t.NumericFor place a b d e f) = (((names_in a ++ names_in b) ++ names_in d) ++ names_in e) ++ names_in f
names_in (t.GenericFor place a b d) = (names_in a ++ names_in b) ++ names_in d
names_in (t.DefineFunction place a b) = names_in a ++ names_in b
names_in (t.LocalFunction place a b) = names_in a ++ names_in b
names_in (t.Local place a b) = names_in a ++ names_in b
names_in (t.DefineTerra place a b) = names_in a ++ names_in b
names_in (t.DeclareTerra place a b) = names_in a ++ names_in b
names_in (t.LocalTerra place word a b) = names_in a ++ names_in b
names_in (t.LocalDeclareTerra place word a b) = names_in a ++ names_in b
names_in (t.DefineStruct place a b) = names_in a ++ names_in b
names_in (t.LocalStruct place word a b) = names_in a ++ names_in b
names_in (t.Emit place a) = names_in a
names_in (t.Return place a) = names_in a
names_in (t.Break place) = []
names_in (t.TerraNil place) = []
names_in (t.TerraFalse place) = []
names_in (t.TerraTrue place) = []
names_in (t.TerraBinary place op a b) = names_in a ++ names_in b
names_in (t.TerraUnary place op a) = names_in a
names_in (t.TerraParen place a) = names_in a
names_in (t.Escape place a) = names_in a
names_in (t.TerraIndex place a b) = names_in a ++ names_in b
names_in (t.TerraSelect place a b) = names_in a ++ names_in b
names_in (t.TerraCall place a b) = names_in a ++ names_in b
names_in (t.TerraMethod place a b d) = (names_in a ++ names_in b) ++ names_in d
names_in (t.Construct place a b) = names_in a ++ names_in b
names_in (t.TerraAssign place a b) = names_in a ++ names_in b
names_in (t.TerraCallStatement place a) = names_in a
names_in (t.Splice place a) = names_in a
names_in (t.TerraDo place a) = names_in a
names_in (t.TerraWhile place a b) = names_in a ++ names_in b
names_in (t.TerraRepeat place a b) = names_in a ++ names_in b
names_in (t.TerraIf place a b) = names_in a ++ names_in b
names_in (t.TerraFor place a b d e f) = (((names_in a ++ names_in b) ++ names_in d) ++ names_in e) ++ names_in f
names_in (t.Var place a b) = names_in a ++ names_in b
names_in (t.EscapeBlock place a) = names_in a
names_in (t.TerraReturn place a) = names_in a
names_in (t.TerraBreak place) = []
names_in (t.Block a) = names_in a
names_in (t.Arm a b) = names_in a ++ names_in b
names_in (t.Body a flag b) = names_in a ++ names_in b
names_in (t.Path a b) = names_in a ++ names_in b
names_in (t.NamedField a b) = names_in a ++ names_in b
names_in (t.KeyedField a b) = names_in a ++ names_in b
names_in (t.Entry a b) = names_in a ++ names_in b
names_in (t.Quoted a b) = names_in a ++ names_in b
names_in (t.TerraBody place a b d) = (names_in a ++ names_in b) ++ names_in d
names_in (t.Parameter place a b) = names_in a ++ names_in b
names_in (t.SpliceParameter place a) = names_in a
names_in (t.Variable place a b) = names_in a ++ names_in b

-- ---- other values of the grammar

-- values with names in them, and how these are changed
pub record Shape (A : Type 0) : Type 0 where
  pub change : A → A
  pub names : A → List Named

abbrev pub tree : Change → Shape Tree
tree c = record { change = changed c; names = names_in }

-- a tree of which nothing is kept
abbrev pub silent : Change → Shape Tree
silent c = record { change = changed c; names = λ a. [] }

-- a token with what it opens
abbrev pub opened : Change → Shape (Token × Tree)
opened c = record { change = λ x. (changed_token c x.0, changed c x.1); names = λ x. named_by x.0 ++ names_in x.1 }

abbrev pub chained : Change → Shape Chained
chained c = record { change = λ a. record { tree = changed c a.tree; links = a.links; kind = a.kind }; names = λ a. names_in a.tree }

abbrev pub parameters : Change → Shape Parameters
parameters c = record { change = λ a. record { names = changed c a.names; variadic = a.variadic }; names = λ a. names_in a.names }

abbrev pub sequence : Change → Shape Sequence
sequence c = record { change = λ a. record { statements = changed c a.statements; ended = a.ended }; names = λ a. names_in a.statements }
