-- The pieces of a node, written one after the other, are the text of its tree.
use Rattle.std.proofs.Common.{◌≡◌, refl, ℕ, suc, true, false, List, [], ◌∷◌, ◌++◌, ◌∙◌, ap, sym, take, append_assoc, append-nil, Option}
use Rattle.std.proofs.Common.{Some, None}
use Rattle.std.specs.Prelude.{codes, decimal}
use Rattle.tl_base.specs.declared.place.Place.{Place}
use Rattle.tl_base.specs.declared.ids.FnId.{FnId}
use Rattle.tl_base.specs.declared.ids.TermId.{TermId}
use Rattle.tl_base.specs.declared.ids.TextId.{TextId}
use Rattle.tl_base.specs.declared.ids.TypeId.{TypeId}
use Rattle.terra_types.specs.declared.types.TypeForm.{TypeForm}
use Rattle.terra_types.specs.declared.types.TypeForm.TheVariants as forms
use Rattle.terra_term.specs.declared.lists.Parameter.{Parameter}
use Rattle.terra_term.specs.declared.lists.VarName.{VarName}
use Rattle.terra_term.specs.declared.piece.Word.TheVariants as words
use Rattle.terra_term.specs.declared.piece.Piece.{Piece}
use Rattle.terra_term.specs.declared.piece.Piece.TheVariants as pieces
use Rattle.terra_term.specs.declared.term.Expression as expressions
use Rattle.terra_term.specs.declared.term.Expression.TheVariants as e
use Rattle.terra_term.specs.declared.term.Statement as statements
use Rattle.terra_term.specs.declared.term.Statement.TheVariants as s
use Rattle.terra_term.specs.declared.term.Initialiser as initialisers'
use Rattle.terra_term.specs.declared.term.Initialiser.TheVariants.{Positional, Named}
use Rattle.terra_term.specs.Terms as terms
use Rattle.terra_term.specs.Planted.{trees, term_at, list_at, block_at, form_of, doing_of}
use Rattle.terra_term.specs.Held.{Held, name_of}
use Rattle.lua_value.specs.Library.{primitive_text}
use Rattle.terra_term.specs.TermText.{symbol_text, function_name, number_digits, made, all_made, type_made, type_texts, behind_commas}
use Rattle.terra_term.specs.TermText.{between_commas, type_text, integer_text, global_address, typed_name_text, Bytes, spaced}
use Rattle.terra_term.specs.TermText.{between_spaces, bracketed, in_do, in_brackets, bounds_text, initialisers, name_text, names_text}
use Rattle.terra_term.specs.TermText.{parameters_text, result_text, text_of, texts_of, statement_text, block_texts, definition_text}
use Rattle.terra_term.specs.Pieces.{piece_text, text_in, closing, space, part, spaced_terms, spaced_statements, listed_terms, form}
use Rattle.terra_term.specs.Pieces.{in_brackets_pieces, do_pieces, new_pieces, assignment_pieces, for_pieces, typed_name_pieces}
use Rattle.terra_term.specs.Pieces.{name_pieces, spaced_names, listed_names, parameter_pieces, spaced_parameters, listed_parameters}
use Rattle.terra_term.specs.Pieces.{named_value, named_values, bounds_pieces, expression_pieces, var_pieces, choice_pieces}
use Rattle.terra_term.specs.Pieces.{statement_pieces, result_pieces, definition_pieces, comma_types, listed_types, type_pieces}

pub text-append : (h : Held) (ps qs : List Piece) → text_in h (ps ++ qs) ≡ text_in h ps ++ text_in h qs
text-append h [] qs = refl
text-append h (p ∷ ps) qs = rw (text-append h ps qs) (sym (append_assoc (piece_text h p) (text_in h ps) (text_in h qs)))

both : {x y a b : Bytes} → x ≡ y → a ≡ b → x ++ a ≡ y ++ b
both {x} {y} {a} {b} p q = ap (λ (bs : Bytes). bs ++ a) p ∙ ap (λ (bs : Bytes). y ++ bs) q

pub spaced-append : (xs ys : List Bytes) → spaced (xs ++ ys) ≡ spaced xs ++ spaced ys
spaced-append [] ys = refl
spaced-append (x ∷ xs) ys = rw (spaced-append xs ys) (simp append_assoc)

-- the trees before a number, and the texts of parts among them
abbrev before : Held → ℕ → List terms.Item
before h below = take below (trees h.terms)

abbrev text_part : Held → ℕ → TermId → Bytes
text_part h below t = text_of h (term_at (before h below) t)

abbrev text_parts : Held → ℕ → List TermId → List Bytes
text_parts h below ts = texts_of h (list_at (before h below) ts)

abbrev text_block : Held → ℕ → List TermId → List Bytes
text_block h below ts = block_texts h (block_at (before h below) ts)

-- a form is its head and parts in brackets
form-text : (h : Held) (head : Piece) (parts : List Piece) (bs : List Bytes) → text_in h parts ≡ spaced bs → text_in h (form head parts) ≡ bracketed (piece_text h head) bs
form-text h head parts bs same =
    rw (text-append h parts (closing ∷ []), same) (simp (append_assoc))

brackets-text : (h : Held) (ps : List Piece) (bs : List Bytes) → text_in h ps ≡ between_spaces bs → text_in h (in_brackets_pieces ps) ≡ in_brackets bs
brackets-text h ps bs same = rw (text-append h ps (closing ∷ []), same) (simp (append_assoc))

terms-text : (h : Held) (below : ℕ) (ts : List TermId) → text_in h (spaced_terms below ts) ≡ spaced (texts_of h (list_at (before h below) ts))
terms-text h below [] = refl
terms-text h below (t ∷ ts) = rw (terms-text h below ts) refl

listed-text : (h : Held) (below : ℕ) (ts : List TermId) → text_in h (listed_terms below ts) ≡ between_spaces (texts_of h (list_at (before h below) ts))
listed-text h below [] = refl
listed-text h below (t ∷ ts) = rw (terms-text h below ts) refl

statements-text : (h : Held) (below : ℕ) (ts : List TermId) → text_in h (spaced_statements below ts) ≡ spaced (block_texts h (block_at (before h below) ts))
statements-text h below [] = refl
statements-text h below (t ∷ ts) = rw (statements-text h below ts) refl

do-text : (h : Held) (below : ℕ) (ts : List TermId) → text_in h (do_pieces below ts) ≡ in_do (block_texts h (block_at (before h below) ts))
do-text h below ts = form-text h (pieces.Word words.Do) (spaced_statements below ts) (block_texts h (block_at (before h below) ts)) (statements-text h below ts)

name-text : (h : Held) (n : VarName) → text_in h (name_pieces n) ≡ name_text h.types n
name-text h n = elim n.of as (λ (of : Option TypeId). text_in h (typed_name_pieces n of) ≡ typed_name_text h.types n of) [ None ↦ append-nil (symbol_text n.symbol) | Some t ↦ simp (append_assoc, append-nil) ]

names-text : (h : Held) (ns : List VarName) → text_in h (spaced_names ns) ≡ spaced (names_text h.types ns)
names-text h [] = refl
names-text h (n ∷ ns) = rw (text-append h (name_pieces n) (spaced_names ns), name-text h n, names-text h ns) refl

listed-names-text : (h : Held) (ns : List VarName) → text_in h (listed_names ns) ≡ between_spaces (names_text h.types ns)
listed-names-text h [] = refl
listed-names-text h (n ∷ ns) = rw (text-append h (name_pieces n) (spaced_names ns), name-text h n, names-text h ns) refl

parameter-text : (h : Held) (p : Parameter) → text_in h (parameter_pieces p) ≡ bracketed (symbol_text p.symbol) (type_text h.types p.of ∷ [])
parameter-text h p = form-text h (pieces.Symbol p.symbol) (space ∷ pieces.Type p.of ∷ []) (type_text h.types p.of ∷ []) refl

parameters-texts : (h : Held) (ps : List Parameter) → text_in h (spaced_parameters ps) ≡ spaced (parameters_text h.types ps)
parameters-texts h [] = refl
parameters-texts h (p ∷ ps) =
    ap (λ (bs : Bytes). codes " " ++ bs)
    (text-append h (parameter_pieces p) (spaced_parameters ps) ∙ both (parameter-text h p) (parameters-texts h ps))

listed-parameters-text : (h : Held) (ps : List Parameter) → text_in h (listed_parameters ps) ≡ between_spaces (parameters_text h.types ps)
listed-parameters-text h [] = refl
listed-parameters-text h (p ∷ ps) = text-append h (parameter_pieces p) (spaced_parameters ps) ∙ both (parameter-text h p) (parameters-texts h ps)

named-text : (h : Held) (below : ℕ) (field : TextId) (v : TermId) → text_in h (named_value below field v) ≡ codes " " ++ bracketed (name_of h.names field) (text_part h below v ∷ [])
named-text h below field v =
    ap (λ (bs : Bytes). codes " " ++ bs) (form-text h (pieces.Name field) (space ∷ part below v ∷ []) (text_part h below v ∷ []) refl)

named-texts : (h : Held) (below : ℕ) (fields : List TextId) (vs : List TermId) → text_in h (named_values below fields vs) ≡ spaced (initialisers h.names fields (texts_of h (list_at (before h below) vs)))
named-texts h below [] vs = terms-text h below vs
named-texts h below (f ∷ fs) [] = refl
named-texts h below (f ∷ fs) (v ∷ vs) =
    text-append h (named_value below f v) (named_values below fs vs) ∙ both (named-text h below f v) (named-texts h below fs vs)

new-text : (h : Held) (below : ℕ) (at : Place) (of : TypeId) (i : initialisers'.Initialiser) → text_in h (new_pieces below of i) ≡ text_of h (terms.term at (form_of (before h below) (e.New of i)))
new-text h below at of (Positional values) =
    form-text h (pieces.Word words.New) (space ∷ pieces.Type of ∷ spaced_terms below values) (type_text h.types of ∷ text_parts h below values) (rw (terms-text h below values) refl)
new-text h below at of (Named fields values) =
    form-text h (pieces.Word words.New) (space ∷ pieces.Type of ∷ named_values below fields values) (type_text h.types of ∷ initialisers h.names fields (text_parts h below values)) (rw (named-texts h below fields values) refl)

pub expression-text : (h : Held) (below : ℕ) (at : Place) (x : expressions.Expression) → text_in h (expression_pieces h below x) ≡ text_of h (terms.term at (form_of (before h below) x))
expression-text h below at (e.Number bits of) =
    ap (λ (bs : Bytes). number_digits h.types bits of ++ (codes ":" ++ bs)) (append-nil (type_text h.types of)) ∙
    sym (append_assoc (number_digits h.types bits of) (codes ":") (type_text h.types of))
expression-text h below at (e.Truth true) = refl
expression-text h below at (e.Truth false) = refl
expression-text h below at e.Nil = refl
expression-text h below at (e.Variable x) = append-nil (symbol_text x)
expression-text h below at (e.Function f) = append-nil (function_name f)
expression-text h below at (e.Primitive p) = append-nil (primitive_text p)
expression-text h below at (e.Static address) = form-text h (pieces.Word words.Static) (space ∷ pieces.Decimal address ∷ []) (decimal address ∷ []) refl
expression-text h below at (e.Global g) = form-text h (pieces.Word words.Global) (space ∷ pieces.Decimal (global_address h g) ∷ []) (decimal (global_address h g) ∷ []) refl
expression-text h below at (e.Type t) = form-text h (pieces.Word words.Type) (space ∷ pieces.Type t ∷ []) (type_text h.types t ∷ []) refl
expression-text h below at (e.Macro m) = form-text h (pieces.Word words.Macro) (space ∷ pieces.Macro m ∷ []) (decimal (suc m.0) ∷ []) refl
expression-text h below at e.SizeOf = refl
expression-text h below at (e.Unary op a) = form-text h (pieces.Unary op) (space ∷ part below a ∷ []) (text_part h below a ∷ []) refl
expression-text h below at (e.Binary op a b) = form-text h (pieces.Binary op) (space ∷ part below a ∷ space ∷ part below b ∷ []) (text_part h below a ∷ text_part h below b ∷ []) refl
expression-text h below at (e.Call f arguments) =
    form-text h (pieces.Word words.Call) (space ∷ part below f ∷ spaced_terms below arguments) (text_part h below f ∷ text_parts h below arguments) (rw (terms-text h below arguments) refl)
expression-text h below at (e.Method o name arguments) =
    form-text h (pieces.Word words.Method) (space ∷ part below o ∷ space ∷ pieces.Name name ∷ spaced_terms below arguments) (text_part h below o ∷ name_of h.names name ∷ text_parts h below arguments) (rw (terms-text h below arguments) refl)
expression-text h below at (e.Select o field) =
    form-text h (pieces.Word words.Dot) (space ∷ part below o ∷ space ∷ pieces.Name field ∷ []) (text_part h below o ∷ name_of h.names field ∷ []) refl
expression-text h below at (e.Index a i) = form-text h (pieces.Word words.Index) (space ∷ part below a ∷ space ∷ part below i ∷ []) (text_part h below a ∷ text_part h below i ∷ []) refl
expression-text h below at (e.New of initialiser) = new-text h below at of initialiser
expression-text h below at (e.Let block a) =
    form-text h (pieces.Word words.Let) (spaced_statements below block ++ space ∷ part below a ∷ []) (text_block h below block ++ text_part h below a ∷ [])
    (text-append h (spaced_statements below block) (space ∷ part below a ∷ []) ∙ rw (statements-text h below block) (sym (spaced-append (text_block h below block) (text_part h below a ∷ []))))
expression-text h below at (e.Typed source made) = append-nil (text_of h (term_at (before h below) source))

bounds-text : (h : Held) (below : ℕ) (bounds : List TermId) → text_in h (bounds_pieces below bounds) ≡ spaced (bounds_text (text_parts h below bounds))
bounds-text h below [] = refl
bounds-text h below (a ∷ []) = refl
bounds-text h below (a ∷ b ∷ []) = refl
bounds-text h below (a ∷ b ∷ step ∷ more) =
    ap (λ (bs : Bytes). codes " " ++ text_part h below a ++ (codes " " ++ text_part h below b ++ (codes " " ++ bs)))
    (form-text h (pieces.Word words.By) (space ∷ part below step ∷ []) (text_part h below step ∷ []) refl ∙
    sym (append-nil (bracketed (codes "by") (text_part h below step ∷ []))))

var-text : (h : Held) (below : ℕ) (at : Place) (names : List VarName) (values : Option (List TermId)) → text_in h (var_pieces below names values) ≡ statement_text h (terms.statement at (doing_of (before h below) (s.Var names values)))
var-text h below at names None =
    form-text h (pieces.Word words.Var) (space ∷ in_brackets_pieces (listed_names names)) (in_brackets (names_text h.types names) ∷ [])
    (ap (λ (bs : Bytes). codes " " ++ bs) (brackets-text h (listed_names names) (names_text h.types names) (listed-names-text h names) ∙ sym (append-nil (in_brackets (names_text h.types names)))))
var-text h below at names (Some values) =
    form-text h (pieces.Word words.Var) (space ∷ in_brackets_pieces (listed_names names) ++ spaced_terms below values) (in_brackets (names_text h.types names) ∷ text_parts h below values)
    (ap (λ (bs : Bytes). codes " " ++ bs)
    (text-append h (in_brackets_pieces (listed_names names)) (spaced_terms below values) ∙
    both (brackets-text h (listed_names names) (names_text h.types names) (listed-names-text h names)) (terms-text h below values)))

assignment-text : (h : Held) (below : ℕ) (at : Place) (targets values : List TermId) → text_in h (assignment_pieces below targets values) ≡ statement_text h (terms.statement at (doing_of (before h below) (s.Assign targets values)))
assignment-text h below at targets values =
    form-text h (pieces.Word words.Set) (space ∷ in_brackets_pieces (listed_terms below targets) ++ space ∷ in_brackets_pieces (listed_terms below values)) (in_brackets (text_parts h below targets) ∷ in_brackets (text_parts h below values) ∷ [])
    (ap (λ (bs : Bytes). codes " " ++ bs)
    (text-append h (in_brackets_pieces (listed_terms below targets)) (space ∷ in_brackets_pieces (listed_terms below values)) ∙
    both (brackets-text h (listed_terms below targets) (text_parts h below targets) (listed-text h below targets))
    (ap (λ (bs : Bytes). codes " " ++ bs) (brackets-text h (listed_terms below values) (text_parts h below values) (listed-text h below values) ∙ sym (append-nil (in_brackets (text_parts h below values)))))))

choice-text : (h : Held) (below : ℕ) (at : Place) (test : TermId) (then_block : List TermId) (else_block : Option (List TermId)) → text_in h (choice_pieces below test then_block else_block) ≡ statement_text h (terms.statement at (doing_of (before h below) (s.If test then_block else_block)))
choice-text h below at test then_block None =
    form-text h (pieces.Word words.If) (space ∷ part below test ∷ space ∷ do_pieces below then_block) (text_part h below test ∷ in_do (text_block h below then_block) ∷ [])
    (ap (λ (bs : Bytes). codes " " ++ text_part h below test ++ (codes " " ++ bs)) (do-text h below then_block ∙ sym (append-nil (in_do (text_block h below then_block)))))
choice-text h below at test then_block (Some else_block) =
    form-text h (pieces.Word words.If) (space ∷ part below test ∷ space ∷ do_pieces below then_block ++ space ∷ do_pieces below else_block) (text_part h below test ∷ in_do (text_block h below then_block) ∷ in_do (text_block h below else_block) ∷ [])
    (ap (λ (bs : Bytes). codes " " ++ text_part h below test ++ (codes " " ++ bs))
    (text-append h (do_pieces below then_block) (space ∷ do_pieces below else_block) ∙
    both (do-text h below then_block) (ap (λ (bs : Bytes). codes " " ++ bs) (do-text h below else_block ∙ sym (append-nil (in_do (text_block h below else_block)))))))

for-text : (h : Held) (below : ℕ) (at : Place) (name : VarName) (bounds body : List TermId) → text_in h (for_pieces below name bounds body) ≡ statement_text h (terms.statement at (doing_of (before h below) (s.For name bounds body)))
for-text h below at name bounds body =
    form-text h (pieces.Word words.For) (space ∷ pieces.Symbol name.symbol ∷ bounds_pieces below bounds ++ spaced_statements below body) (symbol_text name.symbol ∷ bounds_text (text_parts h below bounds) ++ text_block h below body)
    (ap (λ (bs : Bytes). codes " " ++ symbol_text name.symbol ++ bs)
    (text-append h (bounds_pieces below bounds) (spaced_statements below body) ∙
    (both (bounds-text h below bounds) (statements-text h below body) ∙ sym (spaced-append (bounds_text (text_parts h below bounds)) (text_block h below body)))))

pub statement-text : (h : Held) (below : ℕ) (at : Place) (x : statements.Statement) → text_in h (statement_pieces below x) ≡ statement_text h (terms.statement at (doing_of (before h below) x))
statement-text h below at (s.Var names values) = var-text h below at names values
statement-text h below at (s.Assign targets values) = assignment-text h below at targets values
statement-text h below at (s.If test then_block else_block) = choice-text h below at test then_block else_block
statement-text h below at (s.While test body) =
    form-text h (pieces.Word words.While) (space ∷ part below test ∷ spaced_statements below body) (text_part h below test ∷ text_block h below body) (rw (statements-text h below body) refl)
statement-text h below at (s.Repeat body test) =
    form-text h (pieces.Word words.Repeat) (space ∷ do_pieces below body ++ space ∷ part below test ∷ []) (in_do (text_block h below body) ∷ text_part h below test ∷ [])
    (ap (λ (bs : Bytes). codes " " ++ bs)
    (text-append h (do_pieces below body) (space ∷ part below test ∷ []) ∙ ap (λ (bs : Bytes). bs ++ (codes " " ++ (text_part h below test ++ []))) (do-text h below body)))
statement-text h below at (s.For name bounds body) = for-text h below at name bounds body
statement-text h below at (s.Do body) = do-text h below body
statement-text h below at s.Break = refl
statement-text h below at (s.Return values) = form-text h (pieces.Word words.Return) (spaced_terms below values) (text_parts h below values) (terms-text h below values)
statement-text h below at (s.Perform a) = form-text h (pieces.Word words.Perform) (space ∷ part below a ∷ []) (text_part h below a ∷ []) refl

result-text : (h : Held) (of : Option TypeId) → piece_text h (result_pieces of) ≡ result_text h.types of
result-text h None = refl
result-text h (Some t) = refl

-- a function's pieces are the text of its tree
pub definition-text : (h : Held) (f : FnId) (below : ℕ) (ps : List Parameter) (of : Option TypeId) (body : List TermId) → text_in h (definition_pieces f below ps of body) ≡ definition_text h f (record { parameters = ps; result = of; body = block_at (before h below) body })
definition-text h f below ps of body =
    form-text h (pieces.Word words.Fn) (space ∷ pieces.Function f ∷ space ∷ in_brackets_pieces (listed_parameters ps) ++ space ∷ result_pieces of ∷ spaced_statements below body)
    (function_name f ∷ in_brackets (parameters_text h.types ps) ∷ result_text h.types of ∷ text_block h below body)
    (ap (λ (bs : Bytes). codes " " ++ function_name f ++ (codes " " ++ bs))
    (text-append h (in_brackets_pieces (listed_parameters ps)) (space ∷ result_pieces of ∷ spaced_statements below body) ∙
    both (brackets-text h (listed_parameters ps) (parameters_text h.types ps) (listed-parameters-text h ps))
    (ap (λ (bs : Bytes). codes " " ++ bs) (both (result-text h of) (statements-text h below body)))))

commas-text : (h : Held) (below : ℕ) (ts : List TypeId) → text_in h (comma_types below ts) ≡ behind_commas (all_made (take below (type_texts h.types)) ts)
commas-text h below [] = refl
commas-text h below (t ∷ ts) = rw (commas-text h below ts) refl

listed-types-text : (h : Held) (below : ℕ) (ts : List TypeId) → text_in h (listed_types below ts) ≡ between_commas (all_made (take below (type_texts h.types)) ts)
listed-types-text h below [] = refl
listed-types-text h below (t ∷ ts) = rw (commas-text h below ts) refl

-- a type's pieces are its text
pub type-pieces-text : (h : Held) (below : ℕ) (form' : TypeForm) → text_in h (type_pieces below form') ≡ type_made (take below (type_texts h.types)) form'
type-pieces-text h below (forms.Integer i) = append-nil (integer_text i)
type-pieces-text h below forms.Bool = refl
type-pieces-text h below forms.Unit = refl
type-pieces-text h below (forms.Pointer t) = ap (λ (bs : Bytes). codes "&" ++ bs) (append-nil (made (take below (type_texts h.types)) t))
type-pieces-text h below (forms.Array t n) = simp (append_assoc, append-nil)
type-pieces-text h below (forms.Function parameters of) =
    rw (text-append h (listed_types below parameters) (pieces.Word words.Arrow ∷ pieces.TypeBefore of below ∷ []), listed-types-text h below parameters) (simp (append_assoc, append-nil))
type-pieces-text h below (forms.Struct number place layout) = ap (λ (bs : Bytes). codes "struct " ++ bs) (append-nil (decimal number))

-- a part's own pieces in its place
pub part-step : (h : Held) (out : List ℕ) (ps work new : List Piece) (text : List ℕ) → new ≡ ps ++ work → text_in h ps ≡ text → out ++ text_in h new ≡ (out ++ text) ++ text_in h work
part-step h out ps work new text moved same =
    rw (moved, text-append h ps work, same) (sym (append_assoc out text (text_in h work)))
