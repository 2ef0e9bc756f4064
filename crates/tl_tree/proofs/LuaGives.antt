-- The kinds of the trees of Lua code, name by name of the grammar.
use Rattle.std.proofs.Common.{◌≡◌, ℕ, Bool, true, false, cond, List, [], ◌∷◌, Some, refl}
use Rattle.std.specs.Prelude.{◌&&◌}
use Rattle.std.proofs.lemmas.Bool.{false≢true, and_from, and_parts}
use Rattle.tl_tree.specs.declared.symbol.Symbol.{Symbol}
use Rattle.tl_tree.specs.declared.symbol.Symbol.TheVariants as symbols
use Rattle.tl_tree.specs.declared.mode.Mode.{Mode}
use Rattle.tl_tree.specs.declared.mode.Context.{Context}
use Rattle.tl_tree.specs.declared.mode.OperandKind.{OperandKind}
use Rattle.tl_tree.specs.declared.mode.OperandKind.TheVariants as operands
use Rattle.tl_tree.specs.Symbols.{number_of, has, is_bad}
use Rattle.tl_tree.specs.Tokens.{Token, among}
use Rattle.tl_tree.specs.Tree.{Tree, Nothing, More, Name, Literal, Table, Part, Expression, Operand, Concatenation}
use Rattle.tl_tree.specs.Tree.{Arguments, Fields, Statements, FunctionBody, Entries, TerraExpression, TerraFunctionBody}
use Rattle.tl_tree.specs.Tree.{QuotedCode}
use Rattle.tl_tree.specs.Tree as trees
use Rattle.tl_tree.specs.Grammar.{Grammar, give, bind, Rule, Parts, down, is_of}
use Rattle.tl_tree.specs.Forms.{opening, name, names, path_names, chain, Chained, chained, operators, right_operator}
use Rattle.tl_tree.specs.Forms.{multiplicative, additive, comparisons}
use Rattle.tl_tree.specs.LuaExpressions as lua
use Rattle.tl_tree.specs.LuaStatements as statements
use Rattle.tl_tree.specs.Kinds.{are, is_if_any, is_name, is_target, is_call, is_expression, is_field, is_entry, is_path}
use Rattle.tl_tree.specs.Kinds.{is_statement, is_block, is_arm, is_body, is_terra_expression, is_terra_body, is_quoted}
use Rattle.tl_tree.specs.Kinds.{WellFormed}
use Rattle.tl_tree.proofs.Giving.{Has, PartHas, OpenedHas, Kept, Gives, gives_value, gives_bind, gives_then, gives_when}
use Rattle.tl_tree.proofs.Giving.{gives_less, gives_token, gives_opening, gives_opening_at, gives_many, one_more}
use Rattle.tl_tree.proofs.Giving.{one_alone, gives_behind, gives_listed, gives_separated}

-- a name is an expression of both languages, and a target
pub name_expression : (a : Tree) → is_name a ≡ true → is_expression a ≡ true
name_expression (Name place offset text) h = refl
name_expression _ h = absurd (false≢true h)

name_target : (a : Tree) → is_name a ≡ true → is_target a ≡ true
name_target (Name place offset text) h = refl
name_target _ h = absurd (false≢true h)

-- an expression is a field
expression_field : (a : Tree) → is_expression a ≡ true → is_field a ≡ true
expression_field (trees.NamedField _ value) h = absurd (false≢true h)
expression_field (trees.KeyedField key value) h = absurd (false≢true h)
expression_field _ h = h

-- what a shape says of its tree
abbrev lua_fits : OperandKind → Tree → Bool
lua_fits operands.Name a = is_name a
lua_fits operands.Variable a = is_target a
lua_fits operands.Call a = is_call a
lua_fits _ a = true

-- an operand
abbrev pub Lua : Chained → Type 0
Lua a = (is_expression a.tree ≡ true) × (lua_fits a.kind a.tree ≡ true) × WellFormed a.tree

-- a name, a variable or a call, and not brackets alone
abbrev is_applied : OperandKind → Bool
is_applied operands.Name = true
is_applied operands.Variable = true
is_applied operands.Call = true
is_applied _ = false

abbrev Applied : Chained → Type 0
Applied a = Lua a × (is_applied a.kind ≡ true)

-- a target
abbrev Settled : Chained → Type 0
Settled a = Lua a × (is_target a.tree ≡ true)

-- the tokens that index open what an index does
data Indexing : lua.Suffix → Type 0 where
  in_brackets : Indexing lua.InBrackets
  selects : Indexing lua.Selects

indexing : (s : Symbol) → has statements.index_symbols (number_of s) ≡ true → Indexing (lua.suffix_of s)
indexing symbols.OpenBracket h = in_brackets
indexing symbols.Dot h = selects
indexing _ h = absurd (false≢true h)

of_class : (class : Token → Bool) (t : Token) → is_of class t ≡ true → class t ≡ true
of_class class t h = go (is_bad t.symbol) h
  where
    go : (b : Bool) → cond b false (class t) ≡ true → class t ≡ true
    go true k = absurd (false≢true k)
    go false k = k

module _ (rule : Rule) (levels : ℕ) (parts : Parts) (kept : Kept parts) where
  abbrev Of : {A : Type 0} → (A → Type 0) → Grammar A → Type 0
  Of P g = Gives rule levels parts P g

  pub name_is : Of (Has is_name) name
  name_is = gives_then (λ n. gives_value (refl, tt))

  names_are : Of (Has (are is_name)) names
  names_are = gives_listed kept is_name name_is

  as_operand : {x : Grammar Tree} (n : ℕ) → Of (Has is_expression) x → Of Lua (lua.as_operand n x)
  as_operand n p = gives_bind (Has is_expression) p (λ e q. gives_value (q.0, refl, q.1))

  -- ---- prefix expressions

  paren : (m : Mode) → Of Lua (lua.paren m)
  paren m = gives_bind (λ (x : Token × Tree). Has is_expression x.1)
      (gives_opening kept symbols.OpenParen (Expression m)) (λ x p. gives_then (λ y. gives_value (refl, refl, p)))

  named_base : Of Applied (bind name λ n. give (chained n chain operands.Name))
  named_base = gives_bind (Has is_name) name_is (λ n p. gives_value ((name_expression n p.0, p.0, p.1), refl))

  base : (m : Mode) → Of Lua (lua.base m)
  base m = gives_when (paren m) (gives_less Applied named_base (λ a p. p.0))

  arguments : (m : Mode) → Of (Has (are is_expression)) (lua.arguments m)
  arguments m =
      gives_when (gives_bind (λ (x : Token × Tree). Has (are is_expression) x.1)
      (gives_opening kept symbols.OpenParen (Arguments m)) (λ x p. gives_then (λ y. gives_value p)))
      (gives_when
      (gives_bind (λ (x : Token × Tree). Has (are is_field) x.1) (gives_opening kept symbols.OpenBrace (Fields m))
      (λ x p. gives_then (λ y. gives_value (one_alone is_expression (Table x.0.place x.1) (refl, p)))))
      (gives_then (λ x. gives_value (one_alone is_expression (Literal x.0.place x.0.text) (refl, tt)))))

  suffix : (m : Mode) (k : lua.Suffix) (t : Token) (x : Tree) (a : Chained) → OpenedHas (lua.suffix_opens m k) x
      → Lua a → Of Applied (lua.suffix m k t x a)
  suffix m lua.InParens t x a o p = gives_then (λ y. gives_value ((refl, refl, ((p.0, p.2), o)), refl))
  suffix m lua.InBrackets t x a o p = gives_then (λ y. gives_value ((refl, refl, ((p.0, p.2), o)), refl))
  suffix m lua.Selects t x a o p =
      gives_bind (Has is_name) name_is (λ n q. gives_value ((refl, refl, ((p.0, p.2), q)), refl))
  suffix m lua.CallsMethod t x a o p =
      gives_bind (Has is_name) name_is
      (λ n q. gives_bind (Has (are is_expression)) (arguments m)
      (λ es r. gives_value ((refl, refl, ((p.0, p.2), q, r)), refl)))
  suffix m lua.WithTable t x a o p =
      gives_then (λ y. gives_value
      ((refl, refl, ((p.0, p.2), one_alone is_expression (Table t.place x) (refl, o))), refl))
  suffix m lua.WithText t x a o p =
      gives_value ((refl, refl, ((p.0, p.2), one_alone is_expression (Literal t.place t.text) (refl, tt))), refl)

  suffixes : (m : Mode) (a : Chained) → Lua a → Of Lua (lua.suffixes m a)
  suffixes m a p = gives_many kept p
      (λ t x b q is o. gives_less Applied (suffix m (lua.suffix_of t.symbol) t x b o q) (λ d r. r.0))

  applied : (m : Mode) (a : Chained) → Applied a → Of Applied (lua.suffixes m a)
  applied m a p = gives_many kept p (λ t x b q is o. suffix m (lua.suffix_of t.symbol) t x b o q.0)

  prefix : (m : Mode) (n : ℕ) → Of Lua (lua.prefix m n)
  prefix m n = gives_bind Lua (base m) (λ b p. gives_bind Lua (suffixes m b p) (λ a q. gives_value q))

  -- ---- other operands

  struct_body : (m : Mode) → Of (Has (are is_entry)) (lua.struct_body m)
  struct_body m = gives_bind (λ (x : Token × Tree). Has (are is_entry) x.1)
      (gives_opening kept symbols.OpenBrace (Entries m)) (λ x p. gives_then (λ y. gives_value p))

  terra_code : (m : Mode) → Of (Has is_expression) (lua.terra_code m)
  terra_code m =
      gives_when (gives_then (λ t.
      gives_bind (λ (x : Token × Tree). Has is_terra_body x.1)
      (gives_opening_at kept symbols.OpenParen TerraFunctionBody) (λ x p. gives_value (refl, p))))
      (gives_when (gives_then (λ t. gives_bind (Has (are is_entry)) (struct_body m) (λ es p. gives_value (refl, p))))
      (gives_when (gives_bind (λ (x : Token × Tree). Has is_quoted x.1) (gives_opening kept symbols.Quote QuotedCode)
      (λ x p. gives_then (λ y. gives_value (refl, p))))
      (gives_bind (λ (x : Token × Tree). Has is_terra_expression x.1)
      (gives_opening kept symbols.Backtick TerraExpression) (λ x p. gives_value (refl, p)))))

  primary : (m : Mode) (n : ℕ) → Of Lua (lua.primary m n)
  primary m n =
      gives_when (as_operand n (gives_then (λ x. gives_value (refl, tt))))
      (gives_when (as_operand n (gives_then (λ x. gives_value (refl, tt))))
      (gives_when (as_operand n (gives_then (λ x. gives_value (refl, tt))))
      (gives_when (as_operand n (gives_then (λ x. gives_value (refl, tt))))
      (gives_when (as_operand n (gives_then (λ x. gives_value (refl, tt))))
      (gives_when (as_operand n (gives_then (λ x. gives_value (refl, tt))))
      (gives_when (as_operand n
      (gives_then (λ f. gives_bind (λ (x : Token × Tree). Has is_body x.1)
      (gives_opening kept symbols.OpenParen FunctionBody) (λ x p. gives_value (refl, p)))))
      (gives_when (as_operand n
      (gives_bind (λ (x : Token × Tree). Has (are is_field) x.1) (gives_opening kept symbols.OpenBrace (Fields m))
      (λ x p. gives_then (λ y. gives_value (refl, p)))))
      (gives_when (as_operand n (terra_code m)) (prefix m n)))))))))

  -- ---- operators

  binary : (ss : List Symbol) (x : ℕ → Grammar Chained) (a : Chained) → ((n : ℕ) → Of Lua (x n)) → Lua a
      → Of Lua (operators ss x lua.operation a)
  binary ss x a p q = gives_many kept q
      (λ t y b r is o. gives_bind Lua (p (down b.links)) (λ d s. gives_value (refl, refl, ((r.0, r.2), (s.0, s.2)))))

  right : (s : Symbol) (part : Part) (a : Chained) → ((z : Tree) → PartHas part z → is_expression z ≡ true) → Lua a
      → Of Lua (right_operator s part lua.operation a)
  right s part a e q =
      gives_when (gives_bind _ (gives_token kept (λ t. Some part))
      (λ x r. gives_value (refl, refl, ((q.0, q.2), (e x.1 r.1, r.1.1))))) (gives_value q)

  power : (m : Mode) (n : ℕ) → Of Lua (lua.power m n)
  power m n = gives_bind Lua (primary m n) (λ a p. right symbols.Caret (Operand m) a (λ z h. h.0) p)

  unary : (m : Mode) (n : ℕ) → Of Lua (lua.unary m n)
  unary m n = gives_when (gives_bind _ (gives_token kept (λ t. Some (Operand m)))
      (λ x p. gives_value (refl, refl, p.1))) (power m n)

  product : (m : Mode) (n : ℕ) → Of Lua (lua.product m n)
  product m n = gives_bind Lua (unary m n) (λ a p. binary multiplicative (lua.unary m) a (unary m) p)

  sum : (m : Mode) (n : ℕ) → Of Lua (lua.sum m n)
  sum m n = gives_bind Lua (product m n) (λ a p. binary additive (lua.product m) a (product m) p)

  concatenation : (m : Mode) (n : ℕ) → Of Lua (lua.concatenation m n)
  concatenation m n = gives_bind Lua (sum m n) (λ a p. right symbols.DoubleDot (Concatenation m) a (λ z h. h.0) p)

  comparison : (m : Mode) (n : ℕ) → Of Lua (lua.comparison m n)
  comparison m n = gives_bind Lua (concatenation m n)
      (λ a p. binary comparisons (lua.concatenation m) a (concatenation m) p)

  conjunction : (m : Mode) (n : ℕ) → Of Lua (lua.conjunction m n)
  conjunction m n = gives_bind Lua (comparison m n)
      (λ a p. binary (symbols.And ∷ []) (lua.comparison m) a (comparison m) p)

  disjunction : (m : Mode) (n : ℕ) → Of Lua (lua.disjunction m n)
  disjunction m n = gives_bind Lua (conjunction m n)
      (λ a p. binary (symbols.Or ∷ []) (lua.conjunction m) a (conjunction m) p)

  chained_expression : (m : Mode) → Of Lua (lua.chained_expression m)
  chained_expression m = gives_bind Lua (disjunction m chain)
      (λ a p. right symbols.Arrow (Expression m) a (λ z h. h.0) p)

  pub expression : (m : Mode) → Of (Has is_expression) (lua.expression m)
  expression m = gives_bind Lua (chained_expression m) (λ a p. gives_value (p.0, p.2))

  expressions : (m : Mode) → Of (Has (are is_expression)) (lua.expressions m)
  expressions m = gives_listed kept is_expression (expression m)

  -- ---- fields and entries

  field_behind : (m : Mode) (kind : OperandKind) (e : Tree) → is_expression e ≡ true → lua_fits kind e ≡ true
      → WellFormed e → Of (Has is_field) (lua.field_behind m kind e)
  field_behind m operands.Name e p q w =
      gives_when (gives_then (λ y.
      gives_bind (Has is_expression) (expression m)
      (λ v r. gives_value (and_from (is_name e) (is_expression v) q r.0, (w, r.1)))))
      (gives_value (expression_field e p, w))
  field_behind m operands.Variable e p q w = gives_value (expression_field e p, w)
  field_behind m operands.Call e p q w = gives_value (expression_field e p, w)
  field_behind m operands.Escape e p q w = gives_value (expression_field e p, w)
  field_behind m operands.Other e p q w = gives_value (expression_field e p, w)

  field : (m : Mode) → Of (Has is_field) (lua.field m)
  field m =
      gives_when
      (gives_bind (λ (x : Token × Tree). Has is_expression x.1) (gives_opening kept symbols.OpenBracket (Expression m))
      (λ k p. gives_then (λ y. gives_then (λ z.
      gives_bind (Has is_expression) (expression m)
      (λ v q. gives_value (and_from (is_expression k.1) (is_expression v) p.0 q.0, (p.1, q.1)))))))
      (gives_bind Lua (chained_expression m) (λ e p. field_behind m e.kind e.tree p.0 p.1 p.2))

  fields : (m : Mode) → Of (Has (are is_field)) (lua.fields m)
  fields m = gives_when (gives_value (refl, tt))
      (gives_bind (Has is_field) (field m) (λ f p. gives_separated kept is_field (field m) (one_alone is_field f p)))

  entries : (m : Mode) → Of (Has (are is_entry)) (lua.entries m)
  entries m =
      gives_many kept (refl, tt)
      (λ t x a p is o. gives_then (λ y. gives_bind (Has is_expression) (expression m) (λ e q. gives_then (λ z.
      gives_value (one_more is_entry a (trees.Entry (Name t.place t.offset t.text) e) p (q.0, (tt, q.1)))))))

  -- ---- targets

  to_variable : (m : Mode) (a : Chained) → Lua a → Of Settled (statements.to_variable m a)
  to_variable m a p =
      gives_bind Lua (gives_many kept p
      (λ t x b q is o. gives_less Applied (suffix m (lua.suffix_of t.symbol) t x b o q) (λ d r. r.0)))
      (λ b q. gives_bind _ (gives_token kept (λ t. lua.suffix_opens m (lua.suffix_of t.symbol))) (λ x r.
      index m (lua.suffix_of x.0.symbol) x.0 x.1 b
      (indexing x.0.symbol (and_parts (among statements.index_symbols x.0) (lua.is_suffix m x.0)
      (of_class (λ t. among statements.index_symbols t && lua.is_suffix m t) x.0 r.0)).0) r.1 q))
    where
      index : (m : Mode) (k : lua.Suffix) (t : Token) (x : Tree) (a : Chained) → Indexing k
          → OpenedHas (lua.suffix_opens m k) x → Lua a → Of Settled (lua.suffix m k t x a)
      index m _ t x a in_brackets o p = gives_then (λ y. gives_value ((refl, refl, ((p.0, p.2), o)), refl))
      index m _ t x a selects o p =
          gives_bind (Has is_name) name_is (λ n q. gives_value ((refl, refl, ((p.0, p.2), q)), refl))

  as_variable : (m : Mode) (kind : OperandKind) (a : Chained) → Lua a → lua_fits kind a.tree ≡ true → is_applied kind ≡ true
      → Of Settled (statements.as_variable m kind a)
  as_variable m operands.Call a p q r = to_variable m a p
  as_variable m operands.Name a p q r = gives_value (p, name_target a.tree q)
  as_variable m operands.Variable a p q r = gives_value (p, q)
  as_variable m operands.Escape a p q r = absurd (false≢true r)
  as_variable m operands.Other a p q r = absurd (false≢true r)

  variable_suffixes : (m : Mode) (a : Chained) → Settled a → Of Settled (statements.variable_suffixes m a)
  variable_suffixes m a p =
      gives_many kept p (λ t x b q is o.
      gives_bind Applied (suffix m (lua.suffix_of t.symbol) t x b o q.0) (λ d r. as_variable m d.kind d r.0 r.0.1 r.1))

  variable : (m : Mode) → Of (Has is_target) (statements.variable m)
  variable m =
      gives_when (gives_bind Lua (paren m)
      (λ b p. gives_bind Settled (to_variable m b p)
      (λ d q. gives_bind Settled (variable_suffixes m d q) (λ a r. gives_value (r.1, r.0.2)))))
      (gives_bind (Has is_name) name_is
      (λ n p. gives_bind Settled
      (variable_suffixes m (chained n chain operands.Name) ((name_expression n p.0, p.0, p.1), name_target n p.0))
      (λ a r. gives_value (r.1, r.0.2))))

  next_suffix : (m : Mode) (a : Chained) → Lua a → Of Applied (statements.next_suffix m a)
  next_suffix m a p =
      gives_bind _ (gives_token kept (λ t. lua.suffix_opens m (lua.suffix_of t.symbol)))
      (λ x q. suffix m (lua.suffix_of x.0.symbol) x.0 x.1 a q.1 p)

  assignment : (m : Mode) (t : Token) (e : Tree) → Has is_target e → Of (Has is_statement) (statements.assignment m t e)
  assignment m t e p =
      gives_bind (Has (are is_target)) (gives_behind kept is_target (variable m) (one_alone is_target e p))
      (λ targets q. gives_then (λ y.
      gives_bind (Has (are is_expression)) (expressions m) (λ es r. gives_value (refl, (q, r)))))

  call_or_assignment : (m : Mode) (t : Token) (kind : OperandKind) (e : Tree) → lua_fits kind e ≡ true
      → is_applied kind ≡ true → WellFormed e → Of (Has is_statement) (statements.call_or_assignment m t kind e)
  call_or_assignment m t operands.Call e q r w = gives_value (refl, (q, w))
  call_or_assignment m t operands.Name e q r w = assignment m t e (name_target e q, w)
  call_or_assignment m t operands.Variable e q r w = assignment m t e (q, w)
  call_or_assignment m t operands.Escape e q r w = absurd (false≢true r)
  call_or_assignment m t operands.Other e q r w = absurd (false≢true r)

  -- ---- paths and parts of statements

  path_names_are : (a : Tree) → Has (are is_name) a → Of (Has (are is_name)) (path_names a)
  path_names_are a p = gives_many kept p
      (λ t x b q is o. gives_then
      (λ n. gives_value (one_more is_name b (Name t.place n.0.offset n.0.text) q (refl, tt))))

  path : Of (Has is_path) statements.path
  path =
      gives_bind (Has is_name) name_is
      (λ n p. gives_bind (Has (are is_name)) (path_names_are (More Nothing n) (one_alone is_name n p)) (λ ns q.
      gives_when (gives_then (λ c. gives_then (λ m. gives_value (and_from (are is_name ns) true q.0 refl, (q.1, tt)))))
      (gives_value (and_from (are is_name ns) true q.0 refl, (q.1, tt)))))

  struct_path : Of (Has is_path) statements.struct_path
  struct_path =
      gives_bind (Has is_name) name_is
      (λ n p. gives_bind (Has (are is_name)) (path_names_are (More Nothing n) (one_alone is_name n p)) (λ ns q.
      gives_value (and_from (are is_name ns) true q.0 refl, (q.1, tt))))

  loop : (c : Context) → Of (Has is_block) (statements.loop c)
  loop c = gives_bind (λ (x : Token × Tree). Has is_block x.1)
      (gives_opening kept symbols.Do (Statements (statements.looped c))) (λ x p. gives_then (λ y. gives_value p))

  arm : (c : Context) (a : Tree) → Has (are is_arm) a → Of (Has (are is_arm)) (statements.arm c a)
  arm c a p =
      gives_bind (Has is_expression) (expression c.mode)
      (λ e q. gives_bind (λ (x : Token × Tree). Has is_block x.1) (gives_opening kept symbols.Then (Statements c))
      (λ x r.
      gives_value (one_more is_arm a (trees.Arm e x.1) p
      (and_from (is_expression e) (is_block x.1) q.0 r.0, (q.1, r.1)))))

  otherwise : (c : Context) → Of (Has (is_if_any is_block)) (statements.otherwise c)
  otherwise c = gives_when
      (gives_bind (λ (x : Token × Tree). Has is_block x.1) (gives_opening kept symbols.Else (Statements c))
      (λ x p. gives_value p)) (gives_value (refl, tt))

  step : (m : Mode) → Of (Has (is_if_any is_expression)) (statements.step m)
  step m = gives_when (gives_then (λ y. gives_bind (Has is_expression) (expression m) (λ e p. gives_value p)))
      (gives_value (refl, tt))

  numeric_for : (c : Context) (t : Token) (n : Tree) → Has is_name n
      → Of (Has is_statement) (statements.numeric_for c t n)
  numeric_for c t n p =
      gives_then (λ y. gives_bind (Has is_expression) (expression c.mode)
      (λ a q. gives_then (λ z. gives_bind (Has is_expression) (expression c.mode) (λ b r.
      gives_bind (Has (is_if_any is_expression)) (step c.mode)
      (λ s u. gives_bind (Has is_block) (loop c) (λ x v. gives_value (refl, (p, q, r, u, v))))))))

  generic_for : (c : Context) (t : Token) (n : Tree) → Has is_name n
      → Of (Has is_statement) (statements.generic_for c t n)
  generic_for c t n p =
      gives_bind (Has (are is_name)) (gives_behind kept is_name name_is (one_alone is_name n p))
      (λ ns q. gives_then (λ y.
      gives_bind (Has (are is_expression)) (expressions c.mode)
      (λ es r. gives_bind (Has is_block) (loop c) (λ x u. gives_value (refl, (q, r, u))))))

  initial_values : (m : Mode) → Of (Has (are is_expression)) (statements.initial_values m)
  initial_values m = gives_when (gives_then (λ y. expressions m)) (gives_value (refl, tt))

  terra_definition : (c : Context) (declare define : Tree → Tree)
      → ((e : Tree) → Has is_expression e → Has is_statement (declare e))
      → ((b : Tree) → Has is_terra_body b → Has is_statement (define b))
      → Of (Has is_statement) (statements.terra_definition c declare define)
  terra_definition c declare define p q =
      gives_when (gives_then (λ y. gives_bind (Has is_expression) (expression c.mode) (λ e r. gives_value (p e r))))
      (gives_bind (λ (x : Token × Tree). Has is_terra_body x.1)
      (gives_opening_at kept symbols.OpenParen TerraFunctionBody) (λ b r. gives_value (q b.1 r)))

  local_terra : (c : Context) (t : Token) → Of (Has is_statement) (statements.local_terra c t)
  local_terra c t =
      gives_when (gives_then (λ y.
      gives_bind (Has is_name) name_is
      (λ n p. gives_bind (Has (are is_entry)) (struct_body c.mode) (λ es q. gives_value (refl, (p, q))))))
      (gives_then (λ y. gives_bind (Has is_name) name_is
      (λ n p. terra_definition c _ _ (λ e q. (refl, (p, q))) (λ b q. (refl, (p, q))))))

  function_of : Of (λ (x : Token × Tree). Has is_body x.1) (opening symbols.OpenParen FunctionBody)
  function_of = gives_opening kept symbols.OpenParen FunctionBody

  -- ---- statements

  statement : (c : Context) (k : statements.Statement) (t : Token) (x : Tree)
      → OpenedHas (statements.statement_opens c k) x → Of (Has is_statement) (statements.statement c k t x)
  statement c statements.FromName t x o =
      gives_bind Applied (applied c.mode (chained (Name t.place t.offset t.text) chain operands.Name)
      ((refl, refl, tt), refl)) (λ a p. call_or_assignment c.mode t a.kind a.tree p.0.1 p.1 p.0.2)
  statement c statements.FromParen t x o =
      gives_then (λ y. gives_bind Applied
      (next_suffix c.mode (chained (trees.Paren t.place x) chain operands.Other) (refl, refl, o)) (λ b p.
      gives_bind Applied (applied c.mode b p) (λ a q. call_or_assignment c.mode t a.kind a.tree q.0.1 q.1 q.0.2)))
  statement c statements.FromDo t x o = gives_then (λ y. gives_value (refl, o))
  statement c statements.FromWhile t x o =
      gives_bind (Has is_expression) (expression c.mode)
      (λ e p. gives_bind (Has is_block) (loop c) (λ b q. gives_value (refl, (p, q))))
  statement c statements.FromRepeat t x o =
      gives_then (λ y. gives_bind (Has is_expression) (expression c.mode) (λ e p. gives_value (refl, (o, p))))
  statement c statements.FromIf t x o =
      gives_bind (Has (are is_arm)) (arm c Nothing (refl, tt))
      (λ first p. gives_bind (Has (are is_arm)) (gives_many kept p (λ u y b q is v. arm c b q)) (λ all q.
      gives_bind (Has (is_if_any is_block)) (otherwise c) (λ e r. gives_then (λ y. gives_value (refl, (q, r))))))
  statement c statements.FromFor t x o =
      gives_bind (Has is_name) name_is (λ n p. gives_when (numeric_for c t n p) (generic_for c t n p))
  statement c statements.FromFunction t x o =
      gives_bind (Has is_path) path
      (λ p q. gives_bind (λ (x : Token × Tree). Has is_body x.1) function_of (λ b r. gives_value (refl, (q, r))))
  statement c statements.FromLocal t x o =
      gives_when
      (gives_then (λ y. gives_bind (Has is_name) name_is
      (λ n p. gives_bind (λ (x : Token × Tree). Has is_body x.1) function_of (λ b q. gives_value (refl, (p, q))))))
      (gives_when (local_terra c t)
      (gives_bind (Has (are is_name)) names_are
      (λ ns p. gives_bind (Has (are is_expression)) (initial_values c.mode) (λ es q. gives_value (refl, (p, q))))))
  statement c statements.FromReturn t x o =
      gives_bind (Has (are is_expression)) (gives_when (expressions c.mode) (gives_value (refl, tt)))
      (λ es p. gives_value (refl, p))
  statement c statements.FromBreak t x o = gives_value (refl, tt)
  statement c statements.FromTerra t x o =
      gives_bind (Has is_path) path (λ p q. terra_definition c _ _ (λ e r. (refl, (q, r))) (λ b r. (refl, (q, r))))
  statement c statements.FromStruct t x o =
      gives_bind (Has is_path) struct_path
      (λ p q. gives_bind (Has (are is_entry)) (struct_body c.mode) (λ es r. gives_value (refl, (q, r))))
  statement c statements.FromEmit t x o =
      gives_bind (Has is_expression) (expression c.mode) (λ e p. gives_value (refl, p))

  -- the statements so far
  abbrev So : statements.Sequence → Type 0
  So a = Has (are is_statement) a.statements

  block : (c : Context) → Of (Has is_block) (statements.block c)
  block c =
      gives_bind So
      (gives_many kept (refl, tt)
      (λ t x a p is o. gives_bind (Has is_statement) (statement c (statements.statement_of t.symbol) t x o)
      (λ s q. gives_then (λ y. gives_value (one_more is_statement a.statements s p q)))))
      (λ a p. gives_value p)

  abbrev Names : statements.Parameters → Type 0
  Names p = Has (are is_name) p.names

  parameter : (before : Tree) → Has (are is_name) before → Of Names (statements.parameter before)
  parameter before p = gives_when (gives_then (λ y. gives_value p))
      (gives_bind (Has is_name) name_is (λ n q. gives_value (one_more is_name before n p q)))

  parameters : Of Names statements.parameters
  parameters = gives_when (gives_value (refl, tt))
      (gives_bind Names (parameter Nothing (refl, tt)) (λ p q. gives_many kept q (λ t x a r is o. parameter a.names r)))

  function_body : Of (Has is_body) statements.function_body
  function_body =
      gives_bind Names parameters
      (λ p q. gives_then (λ y.
      gives_bind (Has is_block) (block (statements.fresh (statements.body_mode p.variadic)))
      (λ b r. gives_then (λ z.
      gives_value (and_from (are is_name p.names) (is_block b) q.0 r.0, (q.1, r.1))))))

  -- ---- parts

  pub lua_operand : (m : Mode) → Of (Has is_expression) (lua.operand_of m)
  lua_operand m = gives_bind Lua (unary m chain) (λ a p. gives_value (p.0, p.2))

  pub lua_concatenation : (m : Mode) → Of (Has is_expression) (lua.concatenation_of m)
  lua_concatenation m = gives_bind Lua (concatenation m chain) (λ a p. gives_value (p.0, p.2))

  pub lua_arguments : (m : Mode) → Of (Has (are is_expression)) (lua.arguments_of m)
  lua_arguments m = gives_when (gives_value (refl, tt)) (expressions m)

  pub lua_fields : (m : Mode) → Of (Has (are is_field)) (lua.fields m)
  lua_fields m = fields m

  pub lua_entries : (m : Mode) → Of (Has (are is_entry)) (lua.entries m)
  lua_entries m = entries m

  pub lua_block : (c : Context) → Of (Has is_block) (statements.block c)
  lua_block c = block c

  pub lua_function_body : Of (Has is_body) statements.function_body
  lua_function_body = function_body
