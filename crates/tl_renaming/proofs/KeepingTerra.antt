-- What `Keeping` says of the grammar of Terra code, name by name.
use Rattle.std.proofs.Common.{◌≡◌, ℕ, true, false, List, [], ◌∷◌, ◌++◌, refl, sym, ap, ◌∙◌, subst, append_assoc, append-nil}
use Rattle.std.proofs.lemmas.Bool.{and_parts, false≢true}
use Rattle.tl_base.specs.declared.place.Place.{Place}
use Rattle.tl_tree.specs.declared.symbol.Symbol.{Symbol}
use Rattle.tl_tree.specs.declared.symbol.Symbol.TheVariants as symbols
use Rattle.tl_tree.specs.declared.mode.Mode.TheVariants as modes
use Rattle.tl_tree.specs.declared.mode.TokenUse.TheVariants.{TerraNumber}
use Rattle.tl_tree.specs.declared.mode.OperandKind.{OperandKind}
use Rattle.tl_tree.specs.declared.mode.OperandKind.TheVariants as operands
use Rattle.tl_tree.specs.declared.node.UnaryOperator.TheVariants as unary
use Rattle.tl_tree.specs.Symbols.{number_of, has}
use Rattle.tl_tree.specs.Tokens.{Token}
use Rattle.tl_tree.specs.Tree.{Tree, Nothing, More, Name, NamedField, Part, Expression, Statements, TerraExpression, TerraOperand, TerraArguments}
use Rattle.tl_tree.specs.Tree.{Initialisers, TerraStatements}
use Rattle.tl_tree.specs.Tree as trees
use Rattle.tl_tree.specs.Grammar.{Grammar, give, bind, Parts}
use Rattle.tl_tree.specs.Forms.{Chained, chain, multiplicative, additive, comparisons}
use Rattle.tl_tree.specs.Forms as forms
use Rattle.tl_tree.specs.TerraExpressions as terra
use Rattle.tl_tree.specs.TerraStatements as statements
use Rattle.tl_renaming.proofs.Changed.{Change, Named, is_name, named_by, changed_token, changed, names_in, Shape, tree, chained, sequence}
use Rattle.tl_renaming.proofs.Keeping.{not_named, PartsKeep, Keeps, Fits, keeps_give, keeps_same, keeps_beside, keeps_bind, keeps_on}
use Rattle.tl_renaming.proofs.Keeping.{keeps_when, keeps_many}
use Rattle.tl_renaming.proofs.KeepingForms.{unnamed, name_token, as_name, keeps_sign, keeps_among, keeps_numeral, keeps_opening, keeps_named}
use Rattle.tl_renaming.proofs.KeepingForms.{keeps_name, keeps_then_name, keeps_turns, keeps_opens, keeps_behind, keeps_listed, keeps_separated}
use Rattle.tl_renaming.proofs.KeepingForms.{keeps_skip, keeps_semicolon, keeps_operators}
use Rattle.tl_renaming.proofs.KeepingExpressions.{fine_suffix, literal, expression, as_operand}

no_suffix : (t : Token) → terra.is_terra_suffix t ≡ true → is_name t ≡ false
no_suffix t h = unnamed terra.terra_suffix_symbols t refl (and_parts _ _ h).0

-- the first token of a statement is a name just where the statement begins with one
pub Begins : statements.TerraStatement → Token → Type 0
Begins statements.FromName t = is_name t ≡ true
Begins _ t = is_name t ≡ false

begins_by : (s : Symbol) (text : List ℕ) (u : Token) → has statements.terra_statement_symbols (number_of s) ≡ true
    → Begins (statements.terra_statement_of s) (record { symbol = s; text = text; place = u.place; offset = u.offset; first_on_line = u.first_on_line })
unfolding Begins
begins_by symbols.Name text u h = refl
begins_by symbols.OpenParen text u h = refl
begins_by symbols.OpenBracket text u h = refl
begins_by symbols.At text u h = refl
begins_by symbols.Do text u h = refl
begins_by symbols.While text u h = refl
begins_by symbols.Repeat text u h = refl
begins_by symbols.If text u h = refl
begins_by symbols.For text u h = refl
begins_by symbols.Var text u h = refl
begins_by symbols.Escape text u h = refl
begins_by symbols.Return text u h = refl
begins_by symbols.Break text u h = refl
begins_by _ text u h = absurd (false≢true h)

module _ (c : Change) (levels : ℕ) (parts : Parts) (keep : PartsKeep c parts) where
  -- ---- names, and what may follow them

  keeps_escaped : {B : Type 0} {T : Shape B} {before : List Named} (goes : Place → Tree → Grammar B)
      → ((place : Place) (e : Tree) → Keeps c levels parts T (before ++ names_in e) (goes place e) (goes place (changed c e)))
      → Keeps c levels parts T before (terra.escaped goes) (terra.escaped goes)
  keeps_escaped goes go =
      keeps_opening keep symbols.OpenBracket (Expression modes.Plain) refl
      (λ t x. keeps_sign keep symbols.CloseBracket refl (λ u plain. go t.place (trees.Escape t.place x)))

  escape : Keeps c levels parts (tree c) [] terra.escape terra.escape
  escape = keeps_escaped (λ place e. give e) (λ place e. keeps_give)

  terra_name : Keeps c levels parts (tree c) [] terra.terra_name terra.terra_name
  terra_name = keeps_when (λ t. refl) escape (keeps_name keep)

  terra_paren : Keeps c levels parts (chained c) [] terra.terra_paren terra.terra_paren
  terra_paren =
      keeps_opening keep symbols.OpenParen TerraExpression refl (λ t x. keeps_sign keep symbols.CloseParen refl (λ u plain. keeps_give))

  terra_base : Keeps c levels parts (chained c) [] terra.terra_base terra.terra_base
  terra_base =
      keeps_when (λ t. refl) terra_paren
      (keeps_when (λ t. refl) (keeps_bind (tree c) escape (λ e. keeps_give)) (keeps_then_name keep (λ n. keeps_give)))

  without : {g h : Grammar Chained} (a : Chained) (x : Tree) → x ≡ Nothing → Keeps c levels parts (chained c) (names_in a.tree) g h
      → Keeps c levels parts (chained c) (names_in a.tree ++ names_in x) g h
  without {g} {h} a x e k =
      subst (λ (l : List Named). Keeps c levels parts (chained c) l g h)
      (sym (ap (λ (y : Tree). names_in a.tree ++ names_in y) e ∙ append-nil (names_in a.tree))) k

  terra_suffix : (k : terra.TerraSuffix) (t : Token) (x : Tree) (a : Chained) → Fits (terra.terra_suffix_opens k) x
      → Keeps c levels parts (chained c) (names_in a.tree ++ names_in x) (terra.terra_suffix k t x a)
      (terra.terra_suffix k (changed_token c t) (changed c x) ((chained c).change a))
  terra_suffix terra.InParens t x a fits = keeps_sign keep symbols.CloseParen refl (λ u plain. keeps_give)
  terra_suffix terra.InBrackets t x a fits = keeps_sign keep symbols.CloseBracket refl (λ u plain. keeps_give)
  terra_suffix terra.Selects t x a fits = without a x fits (keeps_bind (tree c) terra_name (λ n. keeps_give))
  terra_suffix terra.CallsMethod t x a fits =
      without a x fits
      (keeps_bind (tree c) terra_name
      (λ n. keeps_opening keep symbols.OpenParen TerraArguments refl (λ u es. keeps_sign keep symbols.CloseParen refl (λ v plain. keeps_give))))
  terra_suffix terra.Constructs t x a fits = keeps_sign keep symbols.CloseBrace refl (λ u plain. keeps_give)

  terra_suffixes : (a : Chained)
      → Keeps c levels parts (chained c) (names_in a.tree) (terra.terra_suffixes a) (terra.terra_suffixes ((chained c).change a))
  terra_suffixes a =
      keeps_opens keep {S = chained c} (λ b t. refl) (λ b t. refl) (λ b t. refl) (λ b t at. fine_suffix b t) (λ b t at. no_suffix t at)
      (λ t x b at fits. terra_suffix (terra.terra_suffix_of t.symbol) t x b fits)

  terra_prefix : (n : ℕ) → Keeps c levels parts (chained c) [] (terra.terra_prefix n) (terra.terra_prefix n)
  terra_prefix n = keeps_bind (chained c) terra_base (λ b. keeps_on (chained c) (terra_suffixes b) (λ a. keeps_give))

  -- ---- other operands

  terra_nil : Keeps c levels parts (tree c) [] terra.terra_nil terra.terra_nil
  terra_nil = keeps_sign keep symbols.Nil refl (λ t plain. keeps_give)

  terra_false : Keeps c levels parts (tree c) [] terra.terra_false terra.terra_false
  terra_false = keeps_sign keep symbols.False refl (λ t plain. keeps_give)

  terra_true : Keeps c levels parts (tree c) [] terra.terra_true terra.terra_true
  terra_true = keeps_sign keep symbols.True refl (λ t plain. keeps_give)

  terra_number : Keeps c levels parts (tree c) [] terra.terra_number terra.terra_number
  terra_number = keeps_numeral keep terra.terra_numerals TerraNumber refl (λ t plain. plain)

  terra_primary : (n : ℕ) → Keeps c levels parts (chained c) [] (terra.terra_primary n) (terra.terra_primary n)
  terra_primary n =
      keeps_when (λ t. refl) (as_operand c levels parts keep n terra_number)
      (keeps_when (λ t. refl) (as_operand c levels parts keep n (literal c levels parts keep))
      (keeps_when (λ t. refl) (as_operand c levels parts keep n terra_nil)
      (keeps_when (λ t. refl) (as_operand c levels parts keep n terra_false)
      (keeps_when (λ t. refl) (as_operand c levels parts keep n terra_true)
      (terra_prefix n)))))

  -- ---- operators

  terra_prefixed : (n : ℕ) → Keeps c levels parts (chained c) [] (terra.terra_prefixed n) (terra.terra_prefixed n)
  terra_prefixed n = keeps_among keep terra.terra_prefix_symbols TerraOperand refl (λ t x. keeps_give)

  terra_exponent : (n : ℕ) → Keeps c levels parts (chained c) [] (terra.terra_exponent n) (terra.terra_exponent n)
  terra_exponent n = keeps_when (λ t. refl) (terra_prefixed n) (terra_primary n)

  terra_power : (n : ℕ) → Keeps c levels parts (chained c) [] (terra.terra_power n) (terra.terra_power n)
  terra_power n =
      keeps_bind (chained c) (terra_primary n)
      (λ a. keeps_operators keep (symbols.Caret ∷ []) terra.terra_operation refl terra_exponent (λ t a b. refl) (λ t a b. refl))

  terra_unary : (n : ℕ) → Keeps c levels parts (chained c) [] (terra.terra_unary n) (terra.terra_unary n)
  terra_unary n = keeps_when (λ t. refl) (terra_prefixed n) (terra_power n)

  products : (a : Chained) → Keeps c levels parts (chained c) (names_in a.tree)
      (forms.operators multiplicative (λ n. terra.terra_unary n) terra.terra_operation a)
      (forms.operators multiplicative (λ n. terra.terra_unary n) terra.terra_operation ((chained c).change a))
  products a = keeps_operators keep multiplicative terra.terra_operation refl terra_unary (λ t a b. refl) (λ t a b. refl)

  terra_product : (n : ℕ) → Keeps c levels parts (chained c) [] (terra.terra_product n) (terra.terra_product n)
  terra_product n = keeps_bind (chained c) (terra_unary n) products

  sums : (a : Chained) → Keeps c levels parts (chained c) (names_in a.tree)
      (forms.operators additive (λ n. terra.terra_product n) terra.terra_operation a)
      (forms.operators additive (λ n. terra.terra_product n) terra.terra_operation ((chained c).change a))
  sums a = keeps_operators keep additive terra.terra_operation refl terra_product (λ t a b. refl) (λ t a b. refl)

  terra_sum : (n : ℕ) → Keeps c levels parts (chained c) [] (terra.terra_sum n) (terra.terra_sum n)
  terra_sum n = keeps_bind (chained c) (terra_product n) sums

  shifts : (a : Chained) → Keeps c levels parts (chained c) (names_in a.tree)
      (forms.operators terra.shifts (λ n. terra.terra_sum n) terra.terra_operation a)
      (forms.operators terra.shifts (λ n. terra.terra_sum n) terra.terra_operation ((chained c).change a))
  shifts a = keeps_operators keep terra.shifts terra.terra_operation refl terra_sum (λ t a b. refl) (λ t a b. refl)

  terra_shift : (n : ℕ) → Keeps c levels parts (chained c) [] (terra.terra_shift n) (terra.terra_shift n)
  terra_shift n = keeps_bind (chained c) (terra_sum n) shifts

  compared : (a : Chained) → Keeps c levels parts (chained c) (names_in a.tree)
      (forms.operators comparisons (λ n. terra.terra_shift n) terra.terra_operation a)
      (forms.operators comparisons (λ n. terra.terra_shift n) terra.terra_operation ((chained c).change a))
  compared a = keeps_operators keep comparisons terra.terra_operation refl terra_shift (λ t a b. refl) (λ t a b. refl)

  terra_comparison : (n : ℕ) → Keeps c levels parts (chained c) [] (terra.terra_comparison n) (terra.terra_comparison n)
  terra_comparison n = keeps_bind (chained c) (terra_shift n) compared

  conjunctions : (a : Chained) → Keeps c levels parts (chained c) (names_in a.tree)
      (forms.operators (symbols.And ∷ []) (λ n. terra.terra_comparison n) terra.terra_operation a)
      (forms.operators (symbols.And ∷ []) (λ n. terra.terra_comparison n) terra.terra_operation ((chained c).change a))
  conjunctions a = keeps_operators keep (symbols.And ∷ []) terra.terra_operation refl terra_comparison (λ t a b. refl) (λ t a b. refl)

  terra_conjunction : (n : ℕ) → Keeps c levels parts (chained c) [] (terra.terra_conjunction n) (terra.terra_conjunction n)
  terra_conjunction n = keeps_bind (chained c) (terra_comparison n) conjunctions

  disjunctions : (a : Chained) → Keeps c levels parts (chained c) (names_in a.tree)
      (forms.operators (symbols.Or ∷ []) (λ n. terra.terra_conjunction n) terra.terra_operation a)
      (forms.operators (symbols.Or ∷ []) (λ n. terra.terra_conjunction n) terra.terra_operation ((chained c).change a))
  disjunctions a = keeps_operators keep (symbols.Or ∷ []) terra.terra_operation refl terra_conjunction (λ t a b. refl) (λ t a b. refl)

  terra_disjunction : (n : ℕ) → Keeps c levels parts (chained c) [] (terra.terra_disjunction n) (terra.terra_disjunction n)
  terra_disjunction n = keeps_bind (chained c) (terra_conjunction n) disjunctions

  terra_expression_behind : (a : Chained)
      → Keeps c levels parts (chained c) (names_in a.tree) (terra.terra_expression_behind a) (terra.terra_expression_behind ((chained c).change a))
  terra_expression_behind a =
      keeps_on (chained c) (products a)
      (λ b. keeps_on (chained c) (sums b)
      (λ d. keeps_on (chained c) (shifts d)
      (λ e. keeps_on (chained c) (compared e) (λ f. keeps_on (chained c) (conjunctions f) disjunctions))))

  pub terra_expression : Keeps c levels parts (tree c) [] terra.terra_expression terra.terra_expression
  terra_expression = keeps_bind (chained c) (terra_disjunction chain) (λ a. keeps_give)

  terra_expressions : Keeps c levels parts (tree c) [] terra.terra_expressions terra.terra_expressions
  terra_expressions = keeps_listed keep terra_expression

  -- ---- what the tokens of expressions open

  pub terra_operand_of : Keeps c levels parts (tree c) [] terra.terra_operand_of terra.terra_operand_of
  terra_operand_of = keeps_bind (chained c) (terra_unary chain) (λ a. keeps_give)

  pub terra_arguments_of : Keeps c levels parts (tree c) [] terra.terra_arguments_of terra.terra_arguments_of
  terra_arguments_of = keeps_when (λ t. refl) keeps_give terra_expressions

  named_initialiser : Keeps c levels parts (tree c) [] terra.named_initialiser terra.named_initialiser
  named_initialiser =
      keeps_then_name keep (λ n. keeps_sign keep symbols.Equal refl (λ t plain. keeps_bind (tree c) terra_expression (λ v. keeps_give)))

  positional_initialisers : (e : Tree)
      → Keeps c levels parts (tree c) (names_in e) (terra.positional_initialisers e) (terra.positional_initialisers (changed c e))
  positional_initialisers e = keeps_separated keep {a = More Nothing e} terra_expression

  initialisers_behind : (k : OperandKind) (e : Tree)
      → Keeps c levels parts (tree c) (names_in e) (terra.initialisers_behind k e) (terra.initialisers_behind k (changed c e))
  initialisers_behind operands.Name e =
      keeps_when (λ t. refl)
      (keeps_sign keep symbols.Equal refl
      (λ t plain. keeps_bind (tree c) terra_expression (λ v. keeps_separated keep {a = More Nothing (NamedField e v)} named_initialiser)))
      (positional_initialisers e)
  initialisers_behind _ e = positional_initialisers e

  pub initialisers : Keeps c levels parts (tree c) [] terra.initialisers terra.initialisers
  initialisers =
      keeps_when (λ t. refl) keeps_give (keeps_bind (chained c) (terra_disjunction chain) (λ e. initialisers_behind e.kind e.tree))

  -- ---- assignments, calls and splices

  terra_assignment : (t : Token) (e : Tree)
      → Keeps c levels parts (tree c) (names_in e) (statements.terra_assignment t e) (statements.terra_assignment (changed_token c t) (changed c e))
  terra_assignment t e =
      keeps_on (tree c) (keeps_behind keep {a = More Nothing e} terra_expression)
      (λ targets. keeps_sign keep symbols.Equal refl (λ u plain. keeps_bind (tree c) terra_expressions (λ es. keeps_give)))

  terra_simple_statement : (t : Token) (k : OperandKind) (e : Tree)
      → Keeps c levels parts (tree c) (names_in e) (statements.terra_simple_statement t k e)
      (statements.terra_simple_statement (changed_token c t) k (changed c e))
  terra_simple_statement t operands.Call e = keeps_give
  terra_simple_statement t operands.Escape e = keeps_when (λ u. refl) (terra_assignment t e) keeps_give
  terra_simple_statement t _ e = terra_assignment t e

  -- ---- parts of statements

  terra_type : Keeps c levels parts (tree c) [] statements.terra_type statements.terra_type
  terra_type = expression c levels parts keep modes.Types

  written_type : Keeps c levels parts (tree c) [] statements.written_type statements.written_type
  written_type =
      keeps_when (λ t. refl) (keeps_sign keep symbols.Colon refl (λ t plain. keeps_bind (tree c) terra_type (λ e. keeps_give))) keeps_give

  terra_loop : Keeps c levels parts (tree c) [] statements.terra_loop statements.terra_loop
  terra_loop = keeps_opening keep symbols.Do TerraStatements refl (λ t x. keeps_sign keep symbols.End refl (λ u plain. keeps_give))

  terra_arm : (a : Tree) → Keeps c levels parts (tree c) (names_in a) (statements.terra_arm a) (statements.terra_arm (changed c a))
  terra_arm a =
      keeps_bind (tree c) terra_expression
      (λ e. keeps_opening keep symbols.Then TerraStatements refl
      (λ t x. keeps_same (sym (append_assoc (names_in a) (names_in e) (names_in x))) refl))

  terra_arms : (a : Tree) → Keeps c levels parts (tree c) (names_in a) (statements.terra_arms a) (statements.terra_arms (changed c a))
  terra_arms a =
      keeps_turns keep {S = tree c} (λ b t. refl) (λ b t. refl) (λ b t at. tt) (λ b t at. unnamed (symbols.Elseif ∷ []) t refl at)
      (λ t b plain. terra_arm b)

  terra_otherwise : Keeps c levels parts (tree c) [] statements.terra_otherwise statements.terra_otherwise
  terra_otherwise = keeps_when (λ t. refl) (keeps_opening keep symbols.Else TerraStatements refl (λ t x. keeps_give)) keeps_give

  terra_step : Keeps c levels parts (tree c) [] statements.terra_step statements.terra_step
  terra_step =
      keeps_when (λ t. refl) (keeps_sign keep symbols.Comma refl (λ t plain. keeps_bind (tree c) terra_expression (λ e. keeps_give))) keeps_give

  variable_behind : (place : Place) (n : Tree)
      → Keeps c levels parts (tree c) (names_in n) (statements.variable_behind place n) (statements.variable_behind place (changed c n))
  variable_behind place n = keeps_bind (tree c) written_type (λ e. keeps_give)

  terra_variable : Keeps c levels parts (tree c) [] statements.terra_variable statements.terra_variable
  terra_variable =
      keeps_when (λ t. refl) (keeps_escaped statements.variable_behind variable_behind)
      (keeps_named keep {goes = statements.variable_behind} variable_behind)

  terra_initial_values : Keeps c levels parts (tree c) [] statements.terra_initial_values statements.terra_initial_values
  terra_initial_values = keeps_when (λ t. refl) (keeps_sign keep symbols.Equal refl (λ t plain. terra_expressions)) keeps_give

  terra_returned_values : Keeps c levels parts (tree c) [] statements.terra_returned_values statements.terra_returned_values
  terra_returned_values = keeps_when (λ t. refl) terra_expressions keeps_give

  -- ---- statements

  terra_simple_behind : (t : Token) (b : Chained)
      → Keeps c levels parts (tree c) (names_in b.tree) (statements.terra_simple_behind t b)
      (statements.terra_simple_behind (changed_token c t) ((chained c).change b))
  terra_simple_behind t b = keeps_on (chained c) (terra_suffixes b) (λ a. terra_simple_statement t a.kind a.tree)

  -- where nothing is opened there are no names
  alone : {g h : Grammar Tree} (x : Tree) → x ≡ Nothing → Keeps c levels parts (tree c) [] g h → Keeps c levels parts (tree c) (names_in x) g h
  alone {g} {h} x e k = subst (λ (y : Tree). Keeps c levels parts (tree c) (names_in y) g h) (sym e) k

  behind : (k : statements.TerraStatement) (t : Token) (x : Tree) → is_name t ≡ false
      → Keeps c levels parts (tree c) (names_in x) (statements.terra_statement k t x) (statements.terra_statement k (changed_token c t) (changed c x))
      → Keeps c levels parts (tree c) (named_by t ++ names_in x) (statements.terra_statement k t x)
      (statements.terra_statement k (changed_token c t) (changed c x))
  behind k t x plain p =
      subst (λ (l : List Named). Keeps c levels parts (tree c) (l ++ names_in x) (statements.terra_statement k t x)
      (statements.terra_statement k (changed_token c t) (changed c x))) (sym (not_named t plain)) p

  statement : (k : statements.TerraStatement) (t : Token) (x : Tree) → Begins k t → Fits (statements.terra_statement_opens k) x
      → Keeps c levels parts (tree c) (named_by t ++ names_in x) (statements.terra_statement k t x)
      (statements.terra_statement k (changed_token c t) (changed c x))
  unfolding Begins
  statement statements.FromName t x b fits =
      subst (λ (y : Tree). Keeps c levels parts (tree c) (named_by t ++ names_in y) (statements.terra_statement statements.FromName t x)
      (statements.terra_statement statements.FromName (changed_token c t) (changed c x))) (sym fits)
      (subst (λ (u : Token). Keeps c levels parts (tree c) (named_by u ++ []) (statements.terra_statement statements.FromName u x)
      (statements.terra_statement statements.FromName (changed_token c u) (changed c x))) (sym (as_name t b))
      (terra_simple_behind (name_token t.text t.place t.offset t.first_on_line)
      (forms.chained (Name t.place t.offset t.text) chain operands.Name)))
  statement statements.FromParen t x b fits =
      behind statements.FromParen t x b
      (keeps_sign keep symbols.CloseParen refl
      (λ u plain. terra_simple_behind t (forms.chained (trees.TerraParen t.place x) chain operands.Other)))
  statement statements.FromBracket t x b fits =
      behind statements.FromBracket t x b
      (keeps_sign keep symbols.CloseBracket refl
      (λ u plain. terra_simple_behind t (forms.chained (trees.Escape t.place x) chain operands.Escape)))
  statement statements.FromAt t x b fits =
      behind statements.FromAt t x b
      (keeps_on (chained c) (terra_expression_behind (forms.operand chain (trees.TerraUnary t.place unary.Dereference x)))
      (λ a. terra_assignment t a.tree))
  statement statements.FromDo t x b fits = behind statements.FromDo t x b (keeps_sign keep symbols.End refl (λ u plain. keeps_give))
  statement statements.FromWhile t x b fits =
      behind statements.FromWhile t x b
      (alone x fits (keeps_bind (tree c) terra_expression (λ e. keeps_bind (tree c) terra_loop (λ d. keeps_give))))
  statement statements.FromRepeat t x b fits =
      behind statements.FromRepeat t x b
      (keeps_sign keep symbols.Until refl (λ u plain. keeps_bind (tree c) terra_expression (λ e. keeps_give)))
  statement statements.FromIf t x b fits =
      behind statements.FromIf t x b
      (alone x fits
      (keeps_bind (tree c) (terra_arm Nothing)
      (λ first. keeps_on (tree c) (terra_arms first)
      (λ all. keeps_bind (tree c) terra_otherwise (λ o. keeps_sign keep symbols.End refl (λ u plain. keeps_give))))))
  statement statements.FromFor t x b fits =
      behind statements.FromFor t x b
      (alone x fits
      (keeps_bind (tree c) terra_name
      (λ n. keeps_sign keep symbols.Equal refl
      (λ u plain. keeps_bind (tree c) terra_expression
      (λ a. keeps_sign keep symbols.Comma refl
      (λ v other. keeps_bind (tree c) terra_expression
      (λ e. keeps_bind (tree c) terra_step (λ s. keeps_bind (tree c) terra_loop (λ d. keeps_give)))))))))
  statement statements.FromVar t x b fits =
      behind statements.FromVar t x b
      (alone x fits (keeps_bind (tree c) (keeps_listed keep terra_variable) (λ vs. keeps_bind (tree c) terra_initial_values (λ es. keeps_give))))
  statement statements.FromEscape t x b fits = behind statements.FromEscape t x b (keeps_sign keep symbols.End refl (λ u plain. keeps_give))
  statement statements.FromReturn t x b fits =
      behind statements.FromReturn t x b (alone x fits (keeps_bind (tree c) terra_returned_values (λ es. keeps_give)))
  statement statements.FromBreak t x b fits = behind statements.FromBreak t x b (alone x fits keeps_give)

  -- ---- blocks

  pub terra_block : Keeps c levels parts (tree c) [] statements.terra_block statements.terra_block
  terra_block =
      keeps_bind (sequence c)
      (keeps_many keep {S = sequence c} (λ a t. refl) (λ a t. refl) (λ a t. refl) (λ a t at. tt)
      (λ t x a at fits. keeps_beside (tree c) (names_in a.statements)
      (statement (statements.terra_statement_of t.symbol) t x (begins_by t.symbol t.text t (and_parts _ _ at).0) fits)
      (λ s. keeps_skip keep (keeps_semicolon keep) (λ y. keeps_give))))
      (λ a. keeps_give)

  -- ---- functions and quotes

  terra_parameter : Keeps c levels parts (tree c) [] statements.terra_parameter statements.terra_parameter
  terra_parameter =
      keeps_when (λ t. refl) (keeps_escaped (λ place e. give (trees.SpliceParameter place e)) (λ place e. keeps_give))
      (keeps_named keep {goes = λ place n. bind (forms.sign symbols.Colon) λ y. bind statements.terra_type λ e. give (trees.Parameter place n e)}
      (λ place n. keeps_sign keep symbols.Colon refl (λ u plain. keeps_bind (tree c) terra_type (λ e. keeps_give))))

  terra_parameters : Keeps c levels parts (tree c) [] statements.terra_parameters statements.terra_parameters
  terra_parameters = keeps_when (λ t. refl) keeps_give (keeps_listed keep terra_parameter)

  pub terra_function_body : (place : Place)
      → Keeps c levels parts (tree c) [] (statements.terra_function_body place) (statements.terra_function_body place)
  terra_function_body place =
      keeps_bind (tree c) terra_parameters
      (λ ps. keeps_sign keep symbols.CloseParen refl
      (λ u plain. keeps_bind (tree c) written_type
      (λ r. keeps_bind (tree c) terra_block (λ b. keeps_sign keep symbols.End refl (λ v other. keeps_give)))))

  pub quoted_code : Keeps c levels parts (tree c) [] statements.quoted_code statements.quoted_code
  quoted_code =
      keeps_bind (tree c) terra_block
      (λ b. keeps_when (λ t. refl) (keeps_sign keep symbols.In refl (λ t plain. keeps_bind (tree c) terra_expression (λ e. keeps_give)))
      (keeps_same (append-nil (names_in b)) refl))
