-- The kinds of the trees of Terra code, name by name of the grammar.
use Rattle.std.proofs.Common.{◌≡◌, ℕ, Bool, true, List, [], ◌∷◌, Some, refl}
use Rattle.std.proofs.lemmas.Bool.{false≢true, and_from}
use Rattle.tl_base.specs.declared.place.Place.{Place}
use Rattle.tl_tree.specs.declared.symbol.Symbol.{Symbol}
use Rattle.tl_tree.specs.declared.symbol.Symbol.TheVariants as symbols
use Rattle.tl_tree.specs.declared.mode.Mode.TheVariants as modes
use Rattle.tl_tree.specs.declared.mode.OperandKind.{OperandKind}
use Rattle.tl_tree.specs.declared.mode.OperandKind.TheVariants as operands
use Rattle.tl_tree.specs.declared.node.UnaryOperator.TheVariants as unaries
use Rattle.tl_tree.specs.Tokens.{Token}
use Rattle.tl_tree.specs.Tree.{Tree, Nothing, More, Name, Escape, Arm, NamedField, SpliceParameter, TerraUnary}
use Rattle.tl_tree.specs.Tree.{TerraBinary, TerraParen, Expression, TerraExpression, TerraOperand, TerraArguments}
use Rattle.tl_tree.specs.Tree.{TerraStatements}
use Rattle.tl_tree.specs.Grammar.{Grammar, give, bind, Rule, Parts, down}
use Rattle.tl_tree.specs.Forms.{listed_behind, name, chain, Chained, chained, operand, operators, multiplicative}
use Rattle.tl_tree.specs.Forms.{additive, comparisons}
use Rattle.tl_tree.specs.LuaExpressions as lua
use Rattle.tl_tree.specs.LuaStatements as statements
use Rattle.tl_tree.specs.TerraExpressions as terra
use Rattle.tl_tree.specs.TerraStatements as terra_statements
use Rattle.tl_tree.specs.Kinds.{are, is_if_any, is_name, is_expression, is_escape, begins_with_at, is_first_target}
use Rattle.tl_tree.specs.Kinds.{are_terra_targets, is_terra_name, is_terra_call, is_terra_expression, is_initialiser}
use Rattle.tl_tree.specs.Kinds.{is_terra_statement, is_terra_block, is_terra_arm, is_parameter, is_variable}
use Rattle.tl_tree.specs.Kinds.{is_terra_body, is_quoted, WellFormed}
use Rattle.tl_tree.proofs.Giving.{Has, OpenedHas, Kept, Gives, gives_value, gives_bind, gives_then, gives_when}
use Rattle.tl_tree.proofs.Giving.{gives_token, gives_opening, gives_many, one_more, one_alone}
use Rattle.tl_tree.proofs.Giving.{gives_listed, gives_separated}
use Rattle.tl_tree.proofs.LuaGives as of_lua

-- a name is an expression, and a name of Terra code
name_expression : (a : Tree) → is_name a ≡ true → is_terra_expression a ≡ true
name_expression (Name place offset text) h = refl
name_expression _ h = absurd (false≢true h)

-- an expression is an initialiser
expression_initialiser : (a : Tree) → is_terra_expression a ≡ true → is_initialiser a ≡ true
expression_initialiser (NamedField _ value) h = absurd (false≢true h)
expression_initialiser _ h = h

-- what a shape says of its tree
abbrev terra_fits : OperandKind → Tree → Bool
terra_fits operands.Name a = is_name a
terra_fits operands.Call a = is_terra_call a
terra_fits operands.Escape a = is_escape a
terra_fits _ a = true

-- an operand
abbrev pub Terra : Chained → Type 0
Terra a = (is_terra_expression a.tree ≡ true) × (terra_fits a.kind a.tree ≡ true) × WellFormed a.tree

-- a chain of suffixes that is no call can be assigned to
abbrev may_assign : OperandKind → Tree → Bool
may_assign operands.Call a = true
may_assign _ a = is_first_target a

abbrev Suffixed : Chained → Type 0
Suffixed a = Terra a × (may_assign a.kind a.tree ≡ true)

-- a name can be assigned to
name_first : (a : Tree) → is_name a ≡ true → is_first_target a ≡ true
name_first (Name place offset text) h = refl
name_first _ h = absurd (false≢true h)

escape_first : (a : Tree) → is_escape a ≡ true → is_first_target a ≡ true
escape_first (Escape place e) h = refl
escape_first _ h = absurd (false≢true h)

-- an operand that begins with `@`
abbrev BeginsWithAt : Chained → Type 0
BeginsWithAt a = Terra a × (begins_with_at a.tree ≡ true)

at_first : (a : Tree) → begins_with_at a ≡ true → is_first_target a ≡ true
at_first (TerraUnary place op a) h = h
at_first (TerraBinary place op a b) h = h
at_first _ h = absurd (false≢true h)

-- one more target behind the first
one_target : (before e : Tree) → Has are_terra_targets before → Has is_terra_expression e
    → Has are_terra_targets (More before e)
one_target (More x y) e p q = (and_from (are_terra_targets (More x y)) (is_terra_expression e) p.0 q.0, (p.1, q.1))
one_target _ e p q = absurd (false≢true p.0)

module _ (rule : Rule) (levels : ℕ) (parts : Parts) (kept : Kept parts) where
  abbrev Of : {A : Type 0} → (A → Type 0) → Grammar A → Type 0
  Of P g = Gives rule levels parts P g

  name_is : Of (Has is_name) name
  name_is = gives_then (λ n. gives_value (refl, tt))

  as_operand : {x : Grammar Tree} (n : ℕ) → Of (Has is_terra_expression) x → Of Terra (lua.as_operand n x)
  as_operand n p = gives_bind (Has is_terra_expression) p (λ e q. gives_value (q.0, refl, q.1))

  -- ---- names

  -- Lua code in brackets, and what depends on it
  escaped : {A : Type 0} {P : A → Type 0} (goes : Place → Tree → Grammar A)
      → ((place : Place) (e : Tree) → Has is_expression e → Of P (goes place (Escape place e)))
      → Of P (terra.escaped goes)
  escaped goes p = gives_bind (λ (x : Token × Tree). Has is_expression x.1)
      (gives_opening kept symbols.OpenBracket (Expression modes.Plain)) (λ x q. gives_then (λ y. p x.0.place x.1 q))

  terra_name : Of (Has is_terra_name) terra.terra_name
  terra_name = gives_when (escaped (λ place e. give e) (λ place e p. gives_value (refl, p)))
      (gives_then (λ n. gives_value (refl, tt)))

  -- ---- what may follow them

  terra_paren : Of Suffixed terra.terra_paren
  terra_paren = gives_bind (λ (x : Token × Tree). Has is_terra_expression x.1)
      (gives_opening kept symbols.OpenParen TerraExpression)
      (λ x p. gives_then (λ y. gives_value ((refl, refl, p), refl)))

  escape_base : Of Suffixed (bind terra.escape λ e. give (chained e chain operands.Escape))
  escape_base =
      gives_bind (λ (e : Tree). (is_terra_expression e ≡ true) × (is_escape e ≡ true) × WellFormed e)
      (escaped (λ place e. give e) (λ place e p. gives_value (refl, refl, p)))
      (λ e p. gives_value (p, escape_first e p.1))

  terra_base : Of Suffixed terra.terra_base
  terra_base = gives_when terra_paren
      (gives_when escape_base (gives_bind (Has is_name) name_is
      (λ n p. gives_value ((name_expression n p.0, p.0, p.1), name_first n p.0))))

  terra_suffix : (k : terra.TerraSuffix) (t : Token) (x : Tree) (a : Chained)
      → OpenedHas (terra.terra_suffix_opens k) x → Terra a → Of Suffixed (terra.terra_suffix k t x a)
  terra_suffix terra.InParens t x a o p = gives_then (λ y. gives_value ((refl, refl, ((p.0, p.2), o)), refl))
  terra_suffix terra.InBrackets t x a o p = gives_then (λ y. gives_value ((refl, refl, ((p.0, p.2), o)), refl))
  terra_suffix terra.Selects t x a o p =
      gives_bind (Has is_terra_name) terra_name (λ n q. gives_value ((refl, refl, ((p.0, p.2), q)), refl))
  terra_suffix terra.CallsMethod t x a o p =
      gives_bind (Has is_terra_name) terra_name
      (λ n q. gives_bind (λ (x : Token × Tree). Has (are is_terra_expression) x.1)
      (gives_opening kept symbols.OpenParen TerraArguments) (λ es r.
      gives_then (λ y. gives_value ((refl, refl, ((p.0, p.2), q, r)), refl))))
  terra_suffix terra.Constructs t x a o p = gives_then (λ y. gives_value ((refl, refl, ((p.0, p.2), o)), refl))

  terra_suffixes : (a : Chained) → Suffixed a → Of Suffixed (terra.terra_suffixes a)
  terra_suffixes a p = gives_many kept p (λ t x b q is o. terra_suffix (terra.terra_suffix_of t.symbol) t x b o q.0)

  terra_prefix : (n : ℕ) → Of Terra (terra.terra_prefix n)
  terra_prefix n = gives_bind Suffixed terra_base
      (λ b p. gives_bind Suffixed (terra_suffixes b p) (λ a q. gives_value q.0))

  terra_primary : (n : ℕ) → Of Terra (terra.terra_primary n)
  terra_primary n =
      gives_when (as_operand n (gives_then (λ x. gives_value (refl, tt))))
      (gives_when (as_operand n (gives_then (λ x. gives_value (refl, tt))))
      (gives_when (as_operand n (gives_then (λ x. gives_value (refl, tt))))
      (gives_when (as_operand n (gives_then (λ x. gives_value (refl, tt))))
      (gives_when (as_operand n (gives_then (λ x. gives_value (refl, tt)))) (terra_prefix n)))))

  -- ---- operators

  binary : (ss : List Symbol) (x : ℕ → Grammar Chained) (a : Chained) → ((n : ℕ) → Of Terra (x n)) → Terra a
      → Of Terra (operators ss x terra.terra_operation a)
  binary ss x a p q = gives_many kept q
      (λ t y b r is o. gives_bind Terra (p (down b.links)) (λ d s. gives_value (refl, refl, ((r.0, r.2), (s.0, s.2)))))

  terra_prefixed : (n : ℕ) → Of Terra (terra.terra_prefixed n)
  terra_prefixed n = gives_bind _ (gives_token kept (λ t. Some TerraOperand)) (λ x p. gives_value (refl, refl, p.1))

  terra_exponent : (n : ℕ) → Of Terra (terra.terra_exponent n)
  terra_exponent n = gives_when (terra_prefixed n) (terra_primary n)

  terra_power : (n : ℕ) → Of Terra (terra.terra_power n)
  terra_power n = gives_bind Terra (terra_primary n)
      (λ a p. binary (symbols.Caret ∷ []) terra.terra_exponent a terra_exponent p)

  terra_unary : (n : ℕ) → Of Terra (terra.terra_unary n)
  terra_unary n = gives_when (terra_prefixed n) (terra_power n)

  terra_product : (n : ℕ) → Of Terra (terra.terra_product n)
  terra_product n = gives_bind Terra (terra_unary n) (λ a p. binary multiplicative terra.terra_unary a terra_unary p)

  terra_sum : (n : ℕ) → Of Terra (terra.terra_sum n)
  terra_sum n = gives_bind Terra (terra_product n) (λ a p. binary additive terra.terra_product a terra_product p)

  terra_shift : (n : ℕ) → Of Terra (terra.terra_shift n)
  terra_shift n = gives_bind Terra (terra_sum n) (λ a p. binary terra.shifts terra.terra_sum a terra_sum p)

  terra_comparison : (n : ℕ) → Of Terra (terra.terra_comparison n)
  terra_comparison n = gives_bind Terra (terra_shift n) (λ a p. binary comparisons terra.terra_shift a terra_shift p)

  terra_conjunction : (n : ℕ) → Of Terra (terra.terra_conjunction n)
  terra_conjunction n = gives_bind Terra (terra_comparison n)
      (λ a p. binary (symbols.And ∷ []) terra.terra_comparison a terra_comparison p)

  terra_disjunction : (n : ℕ) → Of Terra (terra.terra_disjunction n)
  terra_disjunction n = gives_bind Terra (terra_conjunction n)
      (λ a p. binary (symbols.Or ∷ []) terra.terra_conjunction a terra_conjunction p)

  -- behind an operand that begins with `@`
  binary_at : (ss : List Symbol) (x : ℕ → Grammar Chained) (a : Chained) → ((n : ℕ) → Of Terra (x n)) → BeginsWithAt a
      → Of BeginsWithAt (operators ss x terra.terra_operation a)
  binary_at ss x a p q = gives_many kept q
      (λ t y b r is o. gives_bind Terra (p (down b.links))
      (λ d s. gives_value ((refl, refl, ((r.0.0, r.0.2), (s.0, s.2))), r.1)))

  terra_expression_behind : (a : Chained) → BeginsWithAt a → Of BeginsWithAt (terra.terra_expression_behind a)
  terra_expression_behind a p =
      gives_bind BeginsWithAt (binary_at multiplicative terra.terra_unary a terra_unary p) (λ b q.
      gives_bind BeginsWithAt (binary_at additive terra.terra_product b terra_product q) (λ d r.
      gives_bind BeginsWithAt (binary_at terra.shifts terra.terra_sum d terra_sum r) (λ e s.
      gives_bind BeginsWithAt (binary_at comparisons terra.terra_shift e terra_shift s) (λ f u.
      gives_bind BeginsWithAt (binary_at (symbols.And ∷ []) terra.terra_comparison f terra_comparison u) (λ g v.
      binary_at (symbols.Or ∷ []) terra.terra_conjunction g terra_conjunction v)))))

  pub terra_expression : Of (Has is_terra_expression) terra.terra_expression
  terra_expression = gives_bind Terra (terra_disjunction chain) (λ a p. gives_value (p.0, p.2))

  terra_expressions : Of (Has (are is_terra_expression)) terra.terra_expressions
  terra_expressions = gives_listed kept is_terra_expression terra_expression

  pub terra_operand : Of (Has is_terra_expression) terra.terra_operand_of
  terra_operand = gives_bind Terra (terra_unary chain) (λ a p. gives_value (p.0, p.2))

  pub terra_arguments : Of (Has (are is_terra_expression)) terra.terra_arguments_of
  terra_arguments = gives_when (gives_value (refl, tt)) terra_expressions

  -- ---- initialisers

  named : (n v : Tree) → Has is_name n → Has is_terra_expression v → Has is_initialiser (NamedField n v)
  named n v p q = (and_from (is_name n) (is_terra_expression v) p.0 q.0, (p.1, q.1))

  positional : (e : Tree) → Has is_terra_expression e → Has is_initialiser e
  positional e p = (expression_initialiser e p.0, p.1)

  named_initialiser : Of (Has is_initialiser) terra.named_initialiser
  named_initialiser = gives_bind (Has is_name) name_is
      (λ n p. gives_then (λ y.
      gives_bind (Has is_terra_expression) terra_expression (λ v q. gives_value (named n v p q))))

  positional_initialiser : Of (Has is_initialiser) terra.terra_expression
  positional_initialiser = record { all = λ ts b rest h. positional b (terra_expression.all ts b rest h) }

  positional_initialisers : (e : Tree) → Has is_terra_expression e
      → Of (Has (are is_initialiser)) (terra.positional_initialisers e)
  positional_initialisers e p =
      gives_separated kept is_initialiser positional_initialiser (one_alone is_initialiser e (positional e p))

  initialisers_behind : (kind : OperandKind) (e : Tree) → is_terra_expression e ≡ true → terra_fits kind e ≡ true
      → WellFormed e → Of (Has (are is_initialiser)) (terra.initialisers_behind kind e)
  initialisers_behind operands.Name e p q w =
      gives_when
      (gives_then (λ y. gives_bind (Has is_terra_expression) terra_expression
      (λ v r. gives_separated kept is_initialiser named_initialiser
      (one_alone is_initialiser (NamedField e v) (named e v (q, w) r)))))
      (positional_initialisers e (p, w))
  initialisers_behind operands.Variable e p q w = positional_initialisers e (p, w)
  initialisers_behind operands.Call e p q w = positional_initialisers e (p, w)
  initialisers_behind operands.Escape e p q w = positional_initialisers e (p, w)
  initialisers_behind operands.Other e p q w = positional_initialisers e (p, w)

  pub initialisers : Of (Has (are is_initialiser)) terra.initialisers
  initialisers = gives_when (gives_value (refl, tt))
      (gives_bind Terra (terra_disjunction chain) (λ e p. initialisers_behind e.kind e.tree p.0 p.1 p.2))

  -- ---- assignments, calls and splices

  targets_behind : (e : Tree) → Has is_first_target e
      → Of (Has are_terra_targets) (listed_behind terra.terra_expression (More Nothing e))
  targets_behind e p =
      gives_many kept (p.0, (tt, p.1))
      (λ t y a q is o. gives_bind (Has is_terra_expression) terra_expression
      (λ d r. gives_value (one_target a d q r)))

  terra_assignment : (t : Token) (e : Tree) → Has is_first_target e
      → Of (Has is_terra_statement) (terra_statements.terra_assignment t e)
  terra_assignment t e p =
      gives_bind (Has are_terra_targets) (targets_behind e p) (λ targets q. gives_then (λ y.
      gives_bind (Has (are is_terra_expression)) terra_expressions (λ es r. gives_value (refl, (q, r)))))

  terra_simple_statement : (t : Token) (kind : OperandKind) (e : Tree) → terra_fits kind e ≡ true
      → may_assign kind e ≡ true → WellFormed e
      → Of (Has is_terra_statement) (terra_statements.terra_simple_statement t kind e)
  terra_simple_statement t operands.Call e q r w = gives_value (refl, (q, w))
  terra_simple_statement t operands.Escape e q r w = gives_when (terra_assignment t e (r, w)) (gives_value (refl, (q, w)))
  terra_simple_statement t operands.Name e q r w = terra_assignment t e (r, w)
  terra_simple_statement t operands.Variable e q r w = terra_assignment t e (r, w)
  terra_simple_statement t operands.Other e q r w = terra_assignment t e (r, w)

  terra_simple_behind : (t : Token) (b : Chained) → Suffixed b
      → Of (Has is_terra_statement) (terra_statements.terra_simple_behind t b)
  terra_simple_behind t b p =
      gives_bind Suffixed (terra_suffixes b p) (λ a q. terra_simple_statement t a.kind a.tree q.0.1 q.1 q.0.2)

  -- ---- parts of statements

  terra_type : Of (Has is_expression) terra_statements.terra_type
  terra_type = of_lua.expression rule levels parts kept modes.Types

  written_type : Of (Has (is_if_any is_expression)) terra_statements.written_type
  written_type = gives_when (gives_then (λ y. gives_bind (Has is_expression) terra_type (λ e p. gives_value p)))
      (gives_value (refl, tt))

  terra_loop : Of (Has is_terra_block) terra_statements.terra_loop
  terra_loop = gives_bind (λ (x : Token × Tree). Has is_terra_block x.1)
      (gives_opening kept symbols.Do TerraStatements) (λ x p. gives_then (λ y. gives_value p))

  terra_arm : (a : Tree) → Has (are is_terra_arm) a → Of (Has (are is_terra_arm)) (terra_statements.terra_arm a)
  terra_arm a p =
      gives_bind (Has is_terra_expression) terra_expression
      (λ e q. gives_bind (λ (x : Token × Tree). Has is_terra_block x.1)
      (gives_opening kept symbols.Then TerraStatements) (λ x r.
      gives_value (one_more is_terra_arm a (Arm e x.1) p
      (and_from (is_terra_expression e) (is_terra_block x.1) q.0 r.0, (q.1, r.1)))))

  terra_otherwise : Of (Has (is_if_any is_terra_block)) terra_statements.terra_otherwise
  terra_otherwise = gives_when
      (gives_bind (λ (x : Token × Tree). Has is_terra_block x.1) (gives_opening kept symbols.Else TerraStatements)
      (λ x p. gives_value p)) (gives_value (refl, tt))

  terra_step : Of (Has (is_if_any is_terra_expression)) terra_statements.terra_step
  terra_step = gives_when (gives_then
      (λ y. gives_bind (Has is_terra_expression) terra_expression (λ e p. gives_value p))) (gives_value (refl, tt))

  variable_behind : (place : Place) (n : Tree) → Has is_terra_name n
      → Of (Has is_variable) (terra_statements.variable_behind place n)
  variable_behind place n p =
      gives_bind (Has (is_if_any is_expression)) written_type (λ e q. gives_value (refl, (p, q)))

  terra_variable : Of (Has is_variable) terra_statements.terra_variable
  terra_variable = gives_when
      (escaped terra_statements.variable_behind (λ place e p. variable_behind place (Escape place e) (refl, p)))
      (gives_then (λ n. variable_behind n.0.place (Name n.0.place n.0.offset n.0.text) (refl, tt)))

  -- ---- statements

  terra_statement : (k : terra_statements.TerraStatement) (t : Token) (x : Tree)
      → OpenedHas (terra_statements.terra_statement_opens k) x
      → Of (Has is_terra_statement) (terra_statements.terra_statement k t x)
  terra_statement terra_statements.FromName t x o =
      terra_simple_behind t (chained (Name t.place t.offset t.text) chain operands.Name) ((refl, refl, tt), refl)
  terra_statement terra_statements.FromParen t x o =
      gives_then (λ y. terra_simple_behind t (chained (TerraParen t.place x) chain operands.Other)
      ((refl, refl, o), refl))
  terra_statement terra_statements.FromBracket t x o =
      gives_then (λ y. terra_simple_behind t (chained (Escape t.place x) chain operands.Escape) ((refl, refl, o), refl))
  terra_statement terra_statements.FromAt t x o =
      gives_bind BeginsWithAt (terra_expression_behind (operand chain (TerraUnary t.place unaries.Dereference x))
      ((refl, refl, o), refl)) (λ a p.
      terra_assignment t a.tree (at_first a.tree p.1, p.0.2))
  terra_statement terra_statements.FromDo t x o = gives_then (λ y. gives_value (refl, o))
  terra_statement terra_statements.FromWhile t x o =
      gives_bind (Has is_terra_expression) terra_expression
      (λ e p. gives_bind (Has is_terra_block) terra_loop (λ b q. gives_value (refl, (p, q))))
  terra_statement terra_statements.FromRepeat t x o =
      gives_then (λ y. gives_bind (Has is_terra_expression) terra_expression (λ e p. gives_value (refl, (o, p))))
  terra_statement terra_statements.FromIf t x o =
      gives_bind (Has (are is_terra_arm)) (terra_arm Nothing (refl, tt))
      (λ first p. gives_bind (Has (are is_terra_arm)) (gives_many kept p (λ u y b q is v. terra_arm b q)) (λ all q.
      gives_bind (Has (is_if_any is_terra_block)) terra_otherwise
      (λ e r. gives_then (λ y. gives_value (refl, (q, r))))))
  terra_statement terra_statements.FromFor t x o =
      gives_bind (Has is_terra_name) terra_name
      (λ n p. gives_then (λ y. gives_bind (Has is_terra_expression) terra_expression (λ a q. gives_then (λ z.
      gives_bind (Has is_terra_expression) terra_expression
      (λ b r. gives_bind (Has (is_if_any is_terra_expression)) terra_step (λ s u.
      gives_bind (Has is_terra_block) terra_loop (λ d v. gives_value (refl, (p, q, r, u, v)))))))))
  terra_statement terra_statements.FromVar t x o =
      gives_bind (Has (are is_variable)) (gives_listed kept is_variable terra_variable) (λ vs p.
      gives_bind (Has (are is_terra_expression))
      (gives_when (gives_then (λ y. terra_expressions)) (gives_value (refl, tt)))
      (λ es q. gives_value (refl, (p, q))))
  terra_statement terra_statements.FromEscape t x o = gives_then (λ y. gives_value (refl, o))
  terra_statement terra_statements.FromReturn t x o =
      gives_bind (Has (are is_terra_expression)) (gives_when terra_expressions (gives_value (refl, tt)))
      (λ es p. gives_value (refl, p))
  terra_statement terra_statements.FromBreak t x o = gives_value (refl, tt)

  -- the statements so far
  abbrev So : statements.Sequence → Type 0
  So a = Has (are is_terra_statement) a.statements

  pub terra_block : Of (Has is_terra_block) terra_statements.terra_block
  terra_block =
      gives_bind So
      (gives_many kept (refl, tt)
      (λ t x a p is o. gives_bind (Has is_terra_statement)
      (terra_statement (terra_statements.terra_statement_of t.symbol) t x o) (λ s q. gives_then (λ y.
      gives_value (one_more is_terra_statement a.statements s p q)))))
      (λ a p. gives_value p)

  -- ---- functions and quotes

  terra_parameter : Of (Has is_parameter) terra_statements.terra_parameter
  terra_parameter =
      gives_when (escaped (λ place e. give (SpliceParameter place e)) (λ place e p. gives_value (refl, (refl, p))))
      (gives_then (λ n. gives_then
      (λ y. gives_bind (Has is_expression) terra_type (λ e p. gives_value (refl, ((refl, tt), p))))))

  pub terra_function_body : (place : Place) → Of (Has is_terra_body) (terra_statements.terra_function_body place)
  terra_function_body place =
      gives_bind (Has (are is_parameter))
      (gives_when (gives_value (refl, tt)) (gives_listed kept is_parameter terra_parameter))
      (λ ps p. gives_then (λ y.
      gives_bind (Has (is_if_any is_expression)) written_type
      (λ r q. gives_bind (Has is_terra_block) terra_block
      (λ b s. gives_then (λ z. gives_value (refl, (p, q, s)))))))

  pub quoted_code : Of (Has is_quoted) terra_statements.quoted_code
  quoted_code =
      gives_bind (Has is_terra_block) terra_block (λ b p.
      gives_when (gives_then (λ y.
      gives_bind (Has is_terra_expression) terra_expression (λ e q. gives_value (refl, (p, q)))))
      (gives_value (refl, (p, (refl, tt)))))
