-- The pieces of the text of each node, in order: what is written at once, and the parts whose texts follow. `proofs/Pieces.antt`
-- shows that together they are the text of the node's tree.
use Rattle.std.specs.Prelude.{ℕ, suc, true, false, List, [], ◌∷◌, ◌++◌, take, Option, Some, None, codes, decimal}
use Rattle.tl_base.specs.declared.ids.FnId.{FnId}
use Rattle.tl_base.specs.declared.ids.TermId.{TermId}
use Rattle.tl_base.specs.declared.ids.TextId.{TextId}
use Rattle.tl_base.specs.declared.ids.TypeId.{TypeId}
use Rattle.terra_types.specs.declared.types.TypeForm.{TypeForm}
use Rattle.terra_types.specs.declared.types.TypeForm.TheVariants as forms
use Rattle.terra_term.specs.declared.lists.Parameter.{Parameter}
use Rattle.terra_term.specs.declared.lists.VarName.{VarName}
use Rattle.terra_term.specs.declared.piece.Word.{Word}
use Rattle.terra_term.specs.declared.piece.Word.TheVariants as words
use Rattle.terra_term.specs.declared.piece.PartKind.{PartKind}
use Rattle.terra_term.specs.declared.piece.PartKind.TheVariants as part_kinds
use Rattle.terra_term.specs.declared.piece.Piece.{Piece}
use Rattle.terra_term.specs.declared.piece.Piece.TheVariants as pieces
use Rattle.terra_term.specs.declared.term.Expression as expressions
use Rattle.terra_term.specs.declared.term.Expression.TheVariants as e
use Rattle.terra_term.specs.declared.term.Statement as statements
use Rattle.terra_term.specs.declared.term.Statement.TheVariants as s
use Rattle.terra_term.specs.declared.term.Initialiser as initialisers
use Rattle.terra_term.specs.declared.term.Initialiser.TheVariants.{Positional, Named}
use Rattle.terra_term.specs.Planted.{trees, term_at, statement_at}
use Rattle.terra_term.specs.Held.{Held, name_of}
use Rattle.lua_value.specs.Library.{primitive_text}
use Rattle.terra_term.specs.TermText.{text_of, statement_text, symbol_text, function_name, number_digits, made, type_texts, type_text}
use Rattle.terra_term.specs.TermText.{integer_text, unary_text, binary_text, global_address}

abbrev pub word_text : Word → List ℕ
word_text words.Open = codes "("
word_text words.Close = codes ")"
word_text words.Space = codes " "
word_text words.Colon = codes ":"
word_text words.Unwritten = codes "?"
word_text words.True = codes "true"
word_text words.False = codes "false"
word_text words.Nil = codes "nil"
word_text words.SizeOf = codes "sizeof"
word_text words.Static = codes "static"
word_text words.Global = codes "global"
word_text words.Type = codes "type"
word_text words.Macro = codes "macro"
word_text words.Call = codes "call"
word_text words.Method = codes "method"
word_text words.Dot = codes "."
word_text words.Index = codes "index"
word_text words.New = codes "new"
word_text words.Let = codes "let"
word_text words.Var = codes "var"
word_text words.Set = codes "set"
word_text words.If = codes "if"
word_text words.Do = codes "do"
word_text words.While = codes "while"
word_text words.Repeat = codes "repeat"
word_text words.For = codes "for"
word_text words.By = codes "by"
word_text words.Break = codes "break"
word_text words.Return = codes "return"
word_text words.Perform = codes "expr"
word_text words.Fn = codes "fn"
word_text words.Bool = codes "bool"
word_text words.Unit = codes "{}"
word_text words.Pointer = codes "&"
word_text words.OpenIndex = codes "["
word_text words.CloseIndex = codes "]"
word_text words.OpenBrace = codes "{"
word_text words.Comma = codes ", "
word_text words.Arrow = codes "} -> "
word_text words.Struct = codes "struct "

-- the text of a piece; parts are among the nodes before a number
abbrev pub piece_text : Held → Piece → List ℕ
piece_text store (pieces.Word w) = word_text w
piece_text store (pieces.Unary op) = unary_text op
piece_text store (pieces.Binary op) = binary_text op
piece_text store (pieces.Primitive p) = primitive_text p
piece_text store (pieces.Symbol x) = symbol_text x
piece_text store (pieces.Function f) = function_name f
piece_text store (pieces.Integer i) = integer_text i
piece_text store (pieces.Number bits of) = number_digits store.types bits of
piece_text store (pieces.Decimal n) = decimal n
piece_text store (pieces.Macro m) = decimal (suc m.0)
piece_text store (pieces.Type t) = type_text store.types t
piece_text store (pieces.TypeBefore t below) = made (take below (type_texts store.types)) t
piece_text store (pieces.Name name) = name_of store.names name
piece_text store (pieces.Expression t below) = text_of store (term_at (take below (trees store.terms)) t)
piece_text store (pieces.Statement t below) = statement_text store (statement_at (take below (trees store.terms)) t)

-- the text of pieces
abbrev pub text_in : Held → List Piece → List ℕ
text_in store [] = []
text_in store (p ∷ ps) = piece_text store p ++ text_in store ps

abbrev pub opening : Piece
opening = pieces.Word words.Open

abbrev pub closing : Piece
closing = pieces.Word words.Close

abbrev pub space : Piece
space = pieces.Word words.Space

abbrev pub part : ℕ → TermId → Piece
part below t = pieces.Expression t below

abbrev pub part_of : PartKind → ℕ → TermId → Piece
part_of part_kinds.Expression below t = pieces.Expression t below
part_of part_kinds.Statement below t = pieces.Statement t below

-- parts, each behind a space, and with spaces between

abbrev pub spaced_parts : PartKind → ℕ → List TermId → List Piece
spaced_parts kind below [] = []
spaced_parts kind below (t ∷ ts) = space ∷ part_of kind below t ∷ spaced_parts kind below ts

abbrev pub spaced_terms : ℕ → List TermId → List Piece
spaced_terms below ts = spaced_parts part_kinds.Expression below ts

abbrev pub spaced_statements : ℕ → List TermId → List Piece
spaced_statements below ts = spaced_parts part_kinds.Statement below ts

abbrev pub listed_terms : ℕ → List TermId → List Piece
listed_terms below [] = []
listed_terms below (t ∷ ts) = part below t ∷ spaced_terms below ts

-- what stands in brackets behind a word
abbrev pub form : Piece → List Piece → List Piece
form head parts = opening ∷ head ∷ parts ++ closing ∷ []

abbrev pub word_form : Word → List Piece → List Piece
word_form w parts = form (pieces.Word w) parts

abbrev pub in_brackets_pieces : List Piece → List Piece
in_brackets_pieces ps = opening ∷ ps ++ closing ∷ []

abbrev pub do_pieces : ℕ → List TermId → List Piece
do_pieces below block = word_form words.Do (spaced_statements below block)

abbrev pub typed_name_pieces : VarName → Option TypeId → List Piece
typed_name_pieces name None = pieces.Symbol name.symbol ∷ []
typed_name_pieces name (Some t) = pieces.Symbol name.symbol ∷ pieces.Word words.Colon ∷ pieces.Type t ∷ []

abbrev pub name_pieces : VarName → List Piece
name_pieces name = typed_name_pieces name name.of

abbrev pub spaced_names : List VarName → List Piece
spaced_names [] = []
spaced_names (n ∷ ns) = space ∷ name_pieces n ++ spaced_names ns

abbrev pub listed_names : List VarName → List Piece
listed_names [] = []
listed_names (n ∷ ns) = name_pieces n ++ spaced_names ns

abbrev pub parameter_pieces : Parameter → List Piece
parameter_pieces p = form (pieces.Symbol p.symbol) (space ∷ pieces.Type p.of ∷ [])

abbrev pub spaced_parameters : List Parameter → List Piece
spaced_parameters [] = []
spaced_parameters (p ∷ ps) = space ∷ parameter_pieces p ++ spaced_parameters ps

abbrev pub listed_parameters : List Parameter → List Piece
listed_parameters [] = []
listed_parameters (p ∷ ps) = parameter_pieces p ++ spaced_parameters ps

-- the values of a constructor with their names
abbrev pub named_value : ℕ → TextId → TermId → List Piece
named_value below field value = space ∷ form (pieces.Name field) (space ∷ part below value ∷ [])

abbrev pub named_values : ℕ → List TextId → List TermId → List Piece
named_values below [] values = spaced_terms below values
named_values below (f ∷ fs) [] = []
named_values below (f ∷ fs) (v ∷ vs) = named_value below f v ++ named_values below fs vs

-- the bounds of a `for`
abbrev pub bounds_pieces : ℕ → List TermId → List Piece
bounds_pieces below (a ∷ b ∷ step ∷ more) =
    space ∷ part below a ∷ space ∷ part below b ∷ space ∷ word_form words.By (space ∷ part below step ∷ [])
bounds_pieces below bounds = spaced_terms below bounds

abbrev pub new_pieces : ℕ → TypeId → initialisers.Initialiser → List Piece
new_pieces below of (Positional values) = word_form words.New (space ∷ pieces.Type of ∷ spaced_terms below values)
new_pieces below of (Named fields values) = word_form words.New (space ∷ pieces.Type of ∷ named_values below fields values)

-- the pieces of an expression whose parts are before a number
abbrev pub expression_pieces : Held → ℕ → expressions.Expression → List Piece
expression_pieces store below (e.Number bits of) = pieces.Number bits of ∷ pieces.Word words.Colon ∷ pieces.Type of ∷ []
expression_pieces store below (e.Truth true) = pieces.Word words.True ∷ []
expression_pieces store below (e.Truth false) = pieces.Word words.False ∷ []
expression_pieces store below e.Nil = pieces.Word words.Nil ∷ []
expression_pieces store below (e.Variable x) = pieces.Symbol x ∷ []
expression_pieces store below (e.Function f) = pieces.Function f ∷ []
expression_pieces store below (e.Primitive p) = pieces.Primitive p ∷ []
expression_pieces store below (e.Static address) = word_form words.Static (space ∷ pieces.Decimal address ∷ [])
expression_pieces store below (e.Global g) = word_form words.Global (space ∷ pieces.Decimal (global_address store g) ∷ [])
expression_pieces store below (e.Type t) = word_form words.Type (space ∷ pieces.Type t ∷ [])
expression_pieces store below (e.Macro m) = word_form words.Macro (space ∷ pieces.Macro m ∷ [])
expression_pieces store below e.SizeOf = pieces.Word words.SizeOf ∷ []
expression_pieces store below (e.Unary op a) = form (pieces.Unary op) (space ∷ part below a ∷ [])
expression_pieces store below (e.Binary op a b) = form (pieces.Binary op) (space ∷ part below a ∷ space ∷ part below b ∷ [])
expression_pieces store below (e.Call f arguments) = word_form words.Call (space ∷ part below f ∷ spaced_terms below arguments)
expression_pieces store below (e.Method o name arguments) =
    word_form words.Method (space ∷ part below o ∷ space ∷ pieces.Name name ∷ spaced_terms below arguments)
expression_pieces store below (e.Select o field) = word_form words.Dot (space ∷ part below o ∷ space ∷ pieces.Name field ∷ [])
expression_pieces store below (e.Index a i) = word_form words.Index (space ∷ part below a ∷ space ∷ part below i ∷ [])
expression_pieces store below (e.New of initialiser) = new_pieces below of initialiser
expression_pieces store below (e.Let block a) = word_form words.Let (spaced_statements below block ++ space ∷ part below a ∷ [])
expression_pieces store below (e.Typed source made) = part below source ∷ []

abbrev pub var_pieces : ℕ → List VarName → Option (List TermId) → List Piece
var_pieces below names None = word_form words.Var (space ∷ in_brackets_pieces (listed_names names))
var_pieces below names (Some values) = word_form words.Var (space ∷ in_brackets_pieces (listed_names names) ++ spaced_terms below values)

abbrev pub choice_pieces : ℕ → TermId → List TermId → Option (List TermId) → List Piece
choice_pieces below test then_block None = word_form words.If (space ∷ part below test ∷ space ∷ do_pieces below then_block)
choice_pieces below test then_block (Some else_block) =
    word_form words.If (space ∷ part below test ∷ space ∷ do_pieces below then_block ++ space ∷ do_pieces below else_block)

abbrev pub assignment_pieces : ℕ → (targets values : List TermId) → List Piece
assignment_pieces below targets values =
    word_form words.Set (space ∷ in_brackets_pieces (listed_terms below targets) ++ space ∷ in_brackets_pieces (listed_terms below values))

abbrev pub for_pieces : ℕ → VarName → (bounds body : List TermId) → List Piece
for_pieces below name bounds body =
    word_form words.For (space ∷ pieces.Symbol name.symbol ∷ bounds_pieces below bounds ++ spaced_statements below body)

-- the pieces of a statement whose parts are before a number
abbrev pub statement_pieces : ℕ → statements.Statement → List Piece
statement_pieces below (s.Var names values) = var_pieces below names values
statement_pieces below (s.Assign targets values) = assignment_pieces below targets values
statement_pieces below (s.If test then_block else_block) = choice_pieces below test then_block else_block
statement_pieces below (s.While test body) = word_form words.While (space ∷ part below test ∷ spaced_statements below body)
statement_pieces below (s.Repeat body test) = word_form words.Repeat (space ∷ do_pieces below body ++ space ∷ part below test ∷ [])
statement_pieces below (s.For name bounds body) = for_pieces below name bounds body
statement_pieces below (s.Do body) = do_pieces below body
statement_pieces below s.Break = opening ∷ pieces.Word words.Break ∷ closing ∷ []
statement_pieces below (s.Return values) = word_form words.Return (spaced_terms below values)
statement_pieces below (s.Perform a) = word_form words.Perform (space ∷ part below a ∷ [])

abbrev pub result_pieces : Option TypeId → Piece
result_pieces None = pieces.Word words.Unwritten
result_pieces (Some t) = pieces.Type t

-- the pieces of a function whose body is before a number
abbrev pub definition_pieces : FnId → ℕ → List Parameter → Option TypeId → List TermId → List Piece
definition_pieces f below parameters result body =
    word_form words.Fn
    (space ∷ pieces.Function f ∷ space ∷ in_brackets_pieces (listed_parameters parameters)
    ++ space ∷ result_pieces result ∷ spaced_statements below body)

-- types

abbrev pub comma_types : ℕ → List TypeId → List Piece
comma_types below [] = []
comma_types below (t ∷ ts) = pieces.Word words.Comma ∷ pieces.TypeBefore t below ∷ comma_types below ts

abbrev pub listed_types : ℕ → List TypeId → List Piece
listed_types below [] = []
listed_types below (t ∷ ts) = pieces.TypeBefore t below ∷ comma_types below ts

abbrev pub function_type_pieces : ℕ → List TypeId → TypeId → List Piece
function_type_pieces below parameters of =
    pieces.Word words.OpenBrace ∷ listed_types below parameters ++ pieces.Word words.Arrow ∷ pieces.TypeBefore of below ∷ []

-- the pieces of a type that is made of types before a number
abbrev pub type_pieces : ℕ → TypeForm → List Piece
type_pieces below (forms.Integer i) = pieces.Integer i ∷ []
type_pieces below forms.Bool = pieces.Word words.Bool ∷ []
type_pieces below forms.Unit = pieces.Word words.Unit ∷ []
type_pieces below (forms.Pointer t) = pieces.Word words.Pointer ∷ pieces.TypeBefore t below ∷ []
type_pieces below (forms.Array t n) =
    pieces.TypeBefore t below ∷ pieces.Word words.OpenIndex ∷ pieces.Decimal n ∷ pieces.Word words.CloseIndex ∷ []
type_pieces below (forms.Function parameters of) = function_type_pieces below parameters of
type_pieces below (forms.Struct number place layout) = pieces.Word words.Struct ∷ pieces.Decimal number ∷ []
