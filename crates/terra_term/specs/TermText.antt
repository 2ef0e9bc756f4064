-- The text of specialised terms.
use Rattle.std.specs.Prelude.{ℕ, suc, ◌-◌, ◌^◌, Bool, false, ◌&&◌, if◌then◌else◌, List, [], ◌∷◌, ◌++◌, Option, Some, None, slice_get}
use Rattle.std.specs.Prelude.{unwrap_or, codes, decimal}
use Rattle.tl_base.specs.declared.ids.SymId.{SymId}
use Rattle.tl_base.specs.declared.ids.TypeId.{TypeId}
use Rattle.tl_base.specs.declared.ids.TextId.{TextId}
use Rattle.tl_base.specs.declared.ids.FnId.{FnId}
use Rattle.tl_base.specs.declared.ids.GlobalId.{GlobalId}
use Rattle.tl_base.specs.declared.ids.TermId.{TermId}
use Rattle.terra_words.specs.declared.words.BinaryOperator.{BinaryOperator}
use Rattle.terra_words.specs.declared.words.BinaryOperator.TheVariants as operators
use Rattle.terra_words.specs.Words.{is_negative}
use Rattle.terra_types.specs.declared.types.Integer.{Integer}
use Rattle.terra_types.specs.declared.types.Integer.TheVariants.{Int8, Int16, Int32, Int64, Uint8, Uint16, Uint32, Uint64}
use Rattle.terra_types.specs.declared.types.TypeForm.{TypeForm}
use Rattle.terra_types.specs.declared.types.TypeForm.TheVariants as forms
use Rattle.terra_types.specs.Grown.{grown}
use Rattle.terra_types.specs.Sizes.{is_signed}
use Rattle.terra_term.specs.declared.operators.UnaryOperator.{UnaryOperator}
use Rattle.terra_term.specs.declared.operators.UnaryOperator.TheVariants as unary
use Rattle.lua_value.specs.Library.{primitive_text}
use Rattle.terra_term.specs.declared.lists.Parameter.{Parameter}
use Rattle.terra_term.specs.declared.lists.VarName.{VarName}
use Rattle.terra_term.specs.declared.store.TerraGlobal.{TerraGlobal}
use Rattle.terra_term.specs.declared.store.TextBytes as names
use Rattle.terra_term.specs.Terms.{Term, term, Number, Truth, Nil, Variable, Function, Primitive', Static, Global, Named, Macro, SizeOf}
use Rattle.terra_term.specs.Terms.{Unary, Binary, Call, Method, Select, Index, New, Let, Typed, Terms, no_more, then_one, Statement}
use Rattle.terra_term.specs.Terms.{statement, Declare, Var, Assign, If, IfElse, While, Repeat, For, Do, Break, Return, Perform, Statements}
use Rattle.terra_term.specs.Terms.{done, and_then, Definition}
use Rattle.terra_term.specs.Terms as trees_of_terms
use Rattle.terra_term.specs.Planted.{trees}
use Rattle.terra_term.specs.Held.{Held, state_of, term_in, name_of}

abbrev pub Bytes : Type 0
Bytes = List ℕ

-- texts, each behind a space, and texts with a space or a comma between them
abbrev pub spaced : List Bytes → Bytes
spaced [] = []
spaced (b ∷ bs) = codes " " ++ b ++ spaced bs

abbrev pub between_spaces : List Bytes → Bytes
between_spaces [] = []
between_spaces (b ∷ bs) = b ++ spaced bs

abbrev pub behind_commas : List Bytes → Bytes
behind_commas [] = []
behind_commas (b ∷ bs) = codes ", " ++ b ++ behind_commas bs

abbrev pub between_commas : List Bytes → Bytes
between_commas [] = []
between_commas (b ∷ bs) = b ++ behind_commas bs

-- a form: its word and its parts in brackets
abbrev pub bracketed : Bytes → List Bytes → Bytes
bracketed head parts = codes "(" ++ head ++ spaced parts ++ codes ")"

-- types

abbrev pub integer_text : Integer → Bytes
integer_text Int8 = codes "int8"
integer_text Int16 = codes "int16"
integer_text Int32 = codes "int32"
integer_text Int64 = codes "int64"
integer_text Uint8 = codes "uint8"
integer_text Uint16 = codes "uint16"
integer_text Uint32 = codes "uint32"
integer_text Uint64 = codes "uint64"

abbrev pub made : List Bytes → TypeId → Bytes
made before t = unwrap_or (slice_get before t.0) []

abbrev pub all_made : List Bytes → List TypeId → List Bytes
all_made before [] = []
all_made before (t ∷ ts) = made before t ∷ all_made before ts

-- the text of a type, where those of the types before it are known
abbrev pub type_made : List Bytes → TypeForm → Bytes
type_made before (forms.Integer i) = integer_text i
type_made before forms.Bool = codes "bool"
type_made before forms.Unit = codes "{}"
type_made before (forms.Pointer t) = codes "&" ++ made before t
type_made before (forms.Array t n) = made before t ++ codes "[" ++ decimal n ++ codes "]"
type_made before (forms.Function params result) =
    codes "{" ++ between_commas (all_made before params) ++ codes "} -> " ++ made before result
type_made before (forms.Struct number place layout) = codes "struct " ++ decimal number

-- the texts of all types, in order
abbrev pub type_texts : List TypeForm → List Bytes
type_texts types = grown type_made [] types

abbrev pub type_text : List TypeForm → TypeId → Bytes
type_text types t = made (type_texts types) t

-- leaves

abbrev pub symbol_text : SymId → Bytes
symbol_text x = codes "$" ++ decimal (suc x.0)

abbrev pub function_name : FnId → Bytes
function_name f = codes "f" ++ decimal (suc f.0)

abbrev pub signed_form : TypeForm → Bool
signed_form (forms.Integer i) = is_signed i
signed_form _ = false

abbrev pub has_sign : List TypeForm → TypeId → Bool
has_sign types of = signed_form (unwrap_or (slice_get types of.0) forms.Unit)

-- a word as the number of its type
abbrev pub number_digits : List TypeForm → ℕ → TypeId → Bytes
number_digits types bits of = if has_sign types of && is_negative bits then codes "-" ++ decimal (2 ^ 64 - bits) else decimal bits

abbrev pub number_text : List TypeForm → ℕ → TypeId → Bytes
number_text types bits of = number_digits types bits of ++ codes ":" ++ type_text types of

abbrev pub unary_text : UnaryOperator → Bytes
unary_text unary.Negate = codes "neg"
unary_text unary.Not = codes "not"
unary_text unary.Dereference = codes "@"
unary_text unary.Address = codes "&"

abbrev pub binary_text : BinaryOperator → Bytes
binary_text operators.Add = codes "+"
binary_text operators.Subtract = codes "-"
binary_text operators.Multiply = codes "*"
binary_text operators.Divide = codes "/"
binary_text operators.Modulo = codes "%"
binary_text operators.Xor = codes "^"
binary_text operators.And = codes "and"
binary_text operators.Or = codes "or"
binary_text operators.ShiftLeft = codes "<<"
binary_text operators.ShiftRight = codes ">>"
binary_text operators.Equal = codes "=="
binary_text operators.NotEqual = codes "~="
binary_text operators.Less = codes "<"
binary_text operators.LessEqual = codes "<="
binary_text operators.Greater = codes ">"
binary_text operators.GreaterEqual = codes ">="

abbrev address_in : Option TerraGlobal → ℕ
address_in None = 0
address_in (Some g) = g.address

abbrev pub global_address : Held → GlobalId → ℕ
global_address store g = address_in (slice_get store.globals g.0)

abbrev pub typed_name_text : List TypeForm → VarName → Option TypeId → Bytes
typed_name_text types name None = symbol_text name.symbol
typed_name_text types name (Some t) = symbol_text name.symbol ++ codes ":" ++ type_text types t

abbrev pub name_text : List TypeForm → VarName → Bytes
name_text types name = typed_name_text types name name.of

abbrev pub names_text : List TypeForm → List VarName → List Bytes
names_text types [] = []
names_text types (n ∷ ns) = name_text types n ∷ names_text types ns

-- the values of a constructor, with their names where it has names
abbrev pub initialisers : List names.TextBytes → List TextId → List Bytes → List Bytes
initialisers names [] values = values
initialisers names (f ∷ fs) [] = []
initialisers names (f ∷ fs) (v ∷ vs) = bracketed (name_of names f) (v ∷ []) ∷ initialisers names fs vs

-- the bounds of a `for`, with a step if there is one
abbrev pub bounds_text : List Bytes → List Bytes
bounds_text (a ∷ b ∷ step ∷ more) = a ∷ b ∷ bracketed (codes "by") (step ∷ []) ∷ []
bounds_text bounds = bounds

abbrev pub in_do : List Bytes → Bytes
in_do parts = bracketed (codes "do") parts

abbrev pub in_brackets : List Bytes → Bytes
in_brackets parts = codes "(" ++ between_spaces parts ++ codes ")"

abbrev mutual
  pub text_of : Held → Term → Bytes
  text_of store (term at (Number bits of)) = number_text store.types bits of
  text_of store (term at (Truth b)) = if b then codes "true" else codes "false"
  text_of store (term at Nil) = codes "nil"
  text_of store (term at (Variable x)) = symbol_text x
  text_of store (term at (Function f)) = function_name f
  text_of store (term at (Primitive' p)) = primitive_text p
  text_of store (term at (Static address)) = bracketed (codes "static") (decimal address ∷ [])
  text_of store (term at (Global g)) = bracketed (codes "global") (decimal (global_address store g) ∷ [])
  text_of store (term at (Named t)) = bracketed (codes "type") (type_text store.types t ∷ [])
  text_of store (term at (Macro m)) = bracketed (codes "macro") (decimal (suc m.0) ∷ [])
  text_of store (term at SizeOf) = codes "sizeof"
  text_of store (term at (Unary op a)) = bracketed (unary_text op) (text_of store a ∷ [])
  text_of store (term at (Binary op a b)) = bracketed (binary_text op) (text_of store a ∷ text_of store b ∷ [])
  text_of store (term at (Call callee arguments)) = bracketed (codes "call") (text_of store callee ∷ texts_of store arguments)
  text_of store (term at (Method o name arguments)) =
      bracketed (codes "method") (text_of store o ∷ name_of store.names name ∷ texts_of store arguments)
  text_of store (term at (Select o field)) = bracketed (codes ".") (text_of store o ∷ name_of store.names field ∷ [])
  text_of store (term at (Index a i)) = bracketed (codes "index") (text_of store a ∷ text_of store i ∷ [])
  text_of store (term at (New of fields values)) =
      bracketed (codes "new") (type_text store.types of ∷ initialisers store.names fields (texts_of store values))
  text_of store (term at (Let block e)) = bracketed (codes "let") (block_texts store block ++ text_of store e ∷ [])
  text_of store (term at (Typed source e)) = text_of store source

  pub texts_of : Held → Terms → List Bytes
  texts_of store no_more = []
  texts_of store (then_one e es) = text_of store e ∷ texts_of store es

  pub statement_text : Held → Statement → Bytes
  statement_text store (statement at (Declare names)) = bracketed (codes "var") (in_brackets (names_text store.types names) ∷ [])
  statement_text store (statement at (Var names values)) =
      bracketed (codes "var") (in_brackets (names_text store.types names) ∷ texts_of store values)
  statement_text store (statement at (Assign targets values)) =
      bracketed (codes "set") (in_brackets (texts_of store targets) ∷ in_brackets (texts_of store values) ∷ [])
  statement_text store (statement at (If test then_block)) =
      bracketed (codes "if") (text_of store test ∷ in_do (block_texts store then_block) ∷ [])
  statement_text store (statement at (IfElse test then_block else_block)) =
      bracketed (codes "if") (text_of store test ∷ in_do (block_texts store then_block) ∷ in_do (block_texts store else_block) ∷ [])
  statement_text store (statement at (While test body)) = bracketed (codes "while") (text_of store test ∷ block_texts store body)
  statement_text store (statement at (Repeat body test)) =
      bracketed (codes "repeat") (in_do (block_texts store body) ∷ text_of store test ∷ [])
  statement_text store (statement at (For name bounds body)) =
      bracketed (codes "for") (symbol_text name.symbol ∷ bounds_text (texts_of store bounds) ++ block_texts store body)
  statement_text store (statement at (Do body)) = in_do (block_texts store body)
  statement_text store (statement at Break) = codes "(break)"
  statement_text store (statement at (Return values)) = bracketed (codes "return") (texts_of store values)
  statement_text store (statement at (Perform e)) = bracketed (codes "expr") (text_of store e ∷ [])

  pub block_texts : Held → Statements → List Bytes
  block_texts store done = []
  block_texts store (and_then s ss) = statement_text store s ∷ block_texts store ss

abbrev pub parameters_text : List TypeForm → List Parameter → List Bytes
parameters_text types [] = []
parameters_text types (p ∷ ps) =
    bracketed (symbol_text p.symbol) (type_text types p.of ∷ []) ∷ parameters_text types ps

abbrev pub result_text : List TypeForm → Option TypeId → Bytes
result_text types None = codes "?"
result_text types (Some t) = type_text types t

-- the text of a function
abbrev pub definition_text : Held → FnId → Definition → Bytes
definition_text store f d =
    bracketed (codes "fn")
    (function_name f ∷ in_brackets (parameters_text store.types d.parameters)
    ∷ result_text store.types d.result ∷ block_texts store d.body)

abbrev pub item_text : Held → FnId → Option trees_of_terms.Item → Bytes
item_text store f (Some (trees_of_terms.definition d)) = definition_text store f d
item_text store f _ = []

abbrev pub text_at : Held → FnId → Option TermId → Bytes
text_at store f None = []
text_at store f (Some t) = item_text store f (slice_get (trees store.terms) t.0)

-- the text of a function's term; nothing where it isn't defined
abbrev pub term_text : Held → FnId → Bytes
term_text store f = text_at store f (term_in (state_of store f))
