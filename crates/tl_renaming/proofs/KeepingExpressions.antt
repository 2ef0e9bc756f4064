-- What `Keeping` says of the grammar of Lua expressions, name by name.
use Rattle.std.proofs.Common.{◌≡◌, ℕ, Bool, true, false, cond, List, [], ◌∷◌, ◌++◌, refl, sym, ap, ◌∙◌, subst, append_assoc, append-nil}
use Rattle.std.proofs.lemmas.Bool.{and_parts}
use Rattle.tl_tree.specs.declared.symbol.Symbol.TheVariants as symbols
use Rattle.tl_tree.specs.declared.mode.Mode.{Mode}
use Rattle.tl_tree.specs.declared.mode.Mode.TheVariants as modes
use Rattle.tl_tree.specs.declared.mode.TokenUse.TheVariants.{Calls, Continues, LuaNumber}
use Rattle.tl_tree.specs.declared.mode.OperandKind.{OperandKind}
use Rattle.tl_tree.specs.declared.mode.OperandKind.TheVariants as operands
use Rattle.tl_tree.specs.Tokens.{Token, is}
use Rattle.tl_tree.specs.Tree.{Tree, Nothing, More, Name, Literal, Call, Entry, Expression, Operand, Concatenation, Arguments, Fields, FunctionBody}
use Rattle.tl_tree.specs.Tree.{Entries, TerraFunctionBody, QuotedCode, TerraExpression}
use Rattle.tl_tree.specs.Grammar.{Grammar, give, bind, Parts}
use Rattle.tl_tree.specs.Forms.{sign, separator, Chained, multiplicative, additive, comparisons}
use Rattle.tl_tree.specs.LuaExpressions as lua
use Rattle.tl_renaming.proofs.Changed.{Change, Named, named, is_name, named_by, changed_token, changed, names_in, tree, chained}
use Rattle.tl_renaming.proofs.Keeping.{same_text, IsFine, PartsKeep, Keeps, Fits, keeps_give, keeps_same, keeps_bind, keeps_on, keeps_when}
use Rattle.tl_renaming.proofs.Keeping.{keeps_many}
use Rattle.tl_renaming.proofs.KeepingForms.{unnamed, as_name, keeps_sign, keeps_among, keeps_numeral, keeps_opening, keeps_opening_at}
use Rattle.tl_renaming.proofs.KeepingForms.{keeps_then_name, keeps_opens, keeps_listed, keeps_separated, keeps_skip, keeps_separator}
use Rattle.tl_renaming.proofs.KeepingForms.{keeps_operators, keeps_right}

-- whether a token is a suffix doesn't depend on its text
pub same_suffix : (c : Change) (m : Mode) (t : Token) → lua.is_suffix m (changed_token c t) ≡ lua.is_suffix m t
same_suffix c modes.Types t = refl
same_suffix c _ t = refl

pub fine_suffix : (a : Chained) (t : Token) → IsFine (lua.suffix_use a t) t
fine_suffix a t = go (is symbols.OpenParen t)
  where
    go : (b : Bool) → IsFine (cond b (Calls a.links) (Continues a.links)) t
    go true = tt
    go false = tt

pub no_suffix : (m : Mode) (t : Token) → lua.is_suffix m t ≡ true → is_name t ≡ false
no_suffix m t h = unnamed lua.suffix_symbols t refl (and_parts _ _ h).0

same_varargs : (c : Change) (m : Mode) (t : Token) → lua.is_varargs m (changed_token c t) ≡ lua.is_varargs m t
same_varargs c modes.Variadic t = refl
same_varargs c _ t = refl

module _ (c : Change) (levels : ℕ) (parts : Parts) (keep : PartsKeep c parts) where
  abbrev Tree_keeps : Grammar Tree → Type 0
  Tree_keeps g = Keeps c levels parts (tree c) [] g g

  abbrev Chain_keeps : Grammar Chained → Type 0
  Chain_keeps g = Keeps c levels parts (chained c) [] g g

  -- ---- prefix expressions, and what may follow them

  pub paren : (m : Mode) → Keeps c levels parts (chained c) [] (lua.paren m) (lua.paren m)
  paren m = keeps_opening keep symbols.OpenParen (Expression m) refl (λ t x. keeps_sign keep symbols.CloseParen refl (λ u plain. keeps_give))

  base : (m : Mode) → Keeps c levels parts (chained c) [] (lua.base m) (lua.base m)
  base m = keeps_when (λ t. refl) (paren m) (keeps_then_name keep (λ n. keeps_give))

  pub literal : Keeps c levels parts (tree c) [] lua.literal lua.literal
  literal = keeps_sign keep symbols.Literal refl (λ t plain. keeps_same refl (ap (λ text. Literal t.place text) (same_text c t plain)))

  arguments : (m : Mode) → Keeps c levels parts (tree c) [] (lua.arguments m) (lua.arguments m)
  arguments m =
      keeps_when (λ t. refl) (keeps_opening keep symbols.OpenParen (Arguments m) refl (λ t x. keeps_sign keep symbols.CloseParen refl (λ u plain. keeps_give)))
      (keeps_when (λ t. refl) (keeps_opening keep symbols.OpenBrace (Fields m) refl (λ t x. keeps_sign keep symbols.CloseBrace refl (λ u plain. keeps_give)))
      (keeps_sign keep symbols.Literal refl (λ t plain. keeps_same refl (ap (λ text. More Nothing (Literal t.place text)) (same_text c t plain)))))

  pub suffix : (m : Mode) (k : lua.Suffix) (t : Token) (x : Tree) (a : Chained) → is_name t ≡ false → Fits (lua.suffix_opens m k) x
      → Keeps c levels parts (chained c) (names_in a.tree ++ names_in x) (lua.suffix m k t x a)
      (lua.suffix m k (changed_token c t) (changed c x) ((chained c).change a))
  suffix m lua.InParens t x a plain fits = keeps_sign keep symbols.CloseParen refl (λ u other. keeps_give)
  suffix m lua.InBrackets t x a plain fits = keeps_sign keep symbols.CloseBracket refl (λ u other. keeps_give)
  suffix m lua.Selects t x a plain fits =
      subst (λ (l : List Named). Keeps c levels parts (chained c) l (lua.suffix m lua.Selects t x a)
      (lua.suffix m lua.Selects (changed_token c t) (changed c x) ((chained c).change a)))
      (sym (ap (λ (y : Tree). names_in a.tree ++ names_in y) fits ∙ append-nil (names_in a.tree)))
      (keeps_then_name keep (λ n. keeps_give))
  suffix m lua.CallsMethod t x a plain fits =
      subst (λ (l : List Named). Keeps c levels parts (chained c) l (lua.suffix m lua.CallsMethod t x a)
      (lua.suffix m lua.CallsMethod (changed_token c t) (changed c x) ((chained c).change a)))
      (sym (ap (λ (y : Tree). names_in a.tree ++ names_in y) fits ∙ append-nil (names_in a.tree)))
      (keeps_then_name keep (λ n. keeps_bind (tree c) (arguments m) (λ es. keeps_give)))
  suffix m lua.WithTable t x a plain fits = keeps_sign keep symbols.CloseBrace refl (λ u other. keeps_give)
  suffix m lua.WithText t x a plain fits =
      keeps_same (ap (λ (y : Tree). names_in a.tree ++ names_in y) (sym fits))
      (ap (λ text. lua.called ((chained c).change a) (Call t.place (changed c a.tree) (More Nothing (Literal t.place text)))) (same_text c t plain))

  pub suffixes : (m : Mode) (a : Chained)
      → Keeps c levels parts (chained c) (names_in a.tree) (lua.suffixes m a) (lua.suffixes m ((chained c).change a))
  suffixes m a =
      keeps_opens keep {S = chained c} (λ b t. same_suffix c m t) (λ b t. refl) (λ b t. refl) (λ b t at. fine_suffix b t) (λ b t at. no_suffix m t at)
      (λ t x b at fits. suffix m (lua.suffix_of t.symbol) t x b (no_suffix m t at) fits)

  prefix : (m : Mode) (links : ℕ) → Keeps c levels parts (chained c) [] (lua.prefix m links) (lua.prefix m links)
  prefix m links = keeps_bind (chained c) (base m) (λ b. keeps_on (chained c) (suffixes m b) (λ a. keeps_give))

  -- ---- other operands

  pub as_operand : {x : Grammar Tree} (links : ℕ) → Keeps c levels parts (tree c) [] x x
      → Keeps c levels parts (chained c) [] (lua.as_operand links x) (lua.as_operand links x)
  as_operand links p = keeps_bind (tree c) p (λ e. keeps_give)

  nil : Keeps c levels parts (tree c) [] lua.nil lua.nil
  nil = keeps_sign keep symbols.Nil refl (λ t plain. keeps_give)

  constant_false : Keeps c levels parts (tree c) [] lua.constant_false lua.constant_false
  constant_false = keeps_sign keep symbols.False refl (λ t plain. keeps_give)

  constant_true : Keeps c levels parts (tree c) [] lua.constant_true lua.constant_true
  constant_true = keeps_sign keep symbols.True refl (λ t plain. keeps_give)

  number : Keeps c levels parts (tree c) [] lua.number lua.number
  number = keeps_numeral keep (symbols.Numeral ∷ []) LuaNumber refl (λ t plain. plain)

  varargs : Keeps c levels parts (tree c) [] lua.varargs lua.varargs
  varargs = keeps_sign keep symbols.Ellipsis refl (λ t plain. keeps_give)

  function : Keeps c levels parts (tree c) [] lua.function lua.function
  function = keeps_sign keep symbols.Function refl (λ f plain. keeps_opening keep symbols.OpenParen FunctionBody refl (λ t x. keeps_give))

  table : (m : Mode) → Keeps c levels parts (tree c) [] (lua.table m) (lua.table m)
  table m = keeps_opening keep symbols.OpenBrace (Fields m) refl (λ t x. keeps_sign keep symbols.CloseBrace refl (λ u plain. keeps_give))

  terra_function : Keeps c levels parts (tree c) [] lua.terra_function lua.terra_function
  terra_function = keeps_sign keep symbols.Terra refl (λ f plain. keeps_opening_at keep symbols.OpenParen TerraFunctionBody refl (λ t x. keeps_give))

  pub struct_body : (m : Mode) → Keeps c levels parts (tree c) [] (lua.struct_body m) (lua.struct_body m)
  struct_body m = keeps_opening keep symbols.OpenBrace (Entries m) refl (λ t x. keeps_sign keep symbols.CloseBrace refl (λ u plain. keeps_give))

  struct : (m : Mode) → Keeps c levels parts (tree c) [] (lua.struct m) (lua.struct m)
  struct m = keeps_sign keep symbols.Struct refl (λ t plain. keeps_bind (tree c) (struct_body m) (λ es. keeps_give))

  quote : Keeps c levels parts (tree c) [] lua.quote lua.quote
  quote = keeps_opening keep symbols.Quote QuotedCode refl (λ t x. keeps_sign keep symbols.End refl (λ u plain. keeps_give))

  backtick : Keeps c levels parts (tree c) [] lua.backtick lua.backtick
  backtick = keeps_opening keep symbols.Backtick TerraExpression refl (λ t x. keeps_give)

  terra_code : (m : Mode) → Keeps c levels parts (tree c) [] (lua.terra_code m) (lua.terra_code m)
  terra_code m = keeps_when (λ t. refl) terra_function (keeps_when (λ t. refl) (struct m) (keeps_when (λ t. refl) quote backtick))

  primary : (m : Mode) (n : ℕ) → Keeps c levels parts (chained c) [] (lua.primary m n) (lua.primary m n)
  primary m n =
      keeps_when (λ t. refl) (as_operand n number)
      (keeps_when (λ t. refl) (as_operand n literal)
      (keeps_when (λ t. refl) (as_operand n nil)
      (keeps_when (λ t. refl) (as_operand n constant_false)
      (keeps_when (λ t. refl) (as_operand n constant_true)
      (keeps_when (λ t. same_varargs c m t) (as_operand n varargs)
      (keeps_when (λ t. refl) (as_operand n function)
      (keeps_when (λ t. refl) (as_operand n (table m))
      (keeps_when (λ t. refl) (as_operand n (terra_code m))
      (prefix m n)))))))))

  -- ---- operators

  power : (m : Mode) (n : ℕ) → Keeps c levels parts (chained c) [] (lua.power m n) (lua.power m n)
  power m n =
      keeps_bind (chained c) (primary m n)
      (λ a. keeps_right keep symbols.Caret (Operand m) lua.operation refl (λ t a b. refl) (λ t a b. refl))

  unary : (m : Mode) (n : ℕ) → Keeps c levels parts (chained c) [] (lua.unary m n) (lua.unary m n)
  unary m n = keeps_when (λ t. refl) (keeps_among keep lua.prefix_symbols (Operand m) refl (λ t x. keeps_give)) (power m n)

  product : (m : Mode) (n : ℕ) → Keeps c levels parts (chained c) [] (lua.product m n) (lua.product m n)
  product m n =
      keeps_bind (chained c) (unary m n)
      (λ a. keeps_operators keep multiplicative lua.operation refl (unary m) (λ t a b. refl) (λ t a b. refl))

  sum : (m : Mode) (n : ℕ) → Keeps c levels parts (chained c) [] (lua.sum m n) (lua.sum m n)
  sum m n =
      keeps_bind (chained c) (product m n)
      (λ a. keeps_operators keep additive lua.operation refl (product m) (λ t a b. refl) (λ t a b. refl))

  concatenation : (m : Mode) (n : ℕ) → Keeps c levels parts (chained c) [] (lua.concatenation m n) (lua.concatenation m n)
  concatenation m n =
      keeps_bind (chained c) (sum m n)
      (λ a. keeps_right keep symbols.DoubleDot (Concatenation m) lua.operation refl (λ t a b. refl) (λ t a b. refl))

  comparison : (m : Mode) (n : ℕ) → Keeps c levels parts (chained c) [] (lua.comparison m n) (lua.comparison m n)
  comparison m n =
      keeps_bind (chained c) (concatenation m n)
      (λ a. keeps_operators keep comparisons lua.operation refl (concatenation m) (λ t a b. refl) (λ t a b. refl))

  conjunction : (m : Mode) (n : ℕ) → Keeps c levels parts (chained c) [] (lua.conjunction m n) (lua.conjunction m n)
  conjunction m n =
      keeps_bind (chained c) (comparison m n)
      (λ a. keeps_operators keep (symbols.And ∷ []) lua.operation refl (comparison m) (λ t a b. refl) (λ t a b. refl))

  disjunction : (m : Mode) (n : ℕ) → Keeps c levels parts (chained c) [] (lua.disjunction m n) (lua.disjunction m n)
  disjunction m n =
      keeps_bind (chained c) (conjunction m n)
      (λ a. keeps_operators keep (symbols.Or ∷ []) lua.operation refl (conjunction m) (λ t a b. refl) (λ t a b. refl))

  chained_expression : (m : Mode) → Keeps c levels parts (chained c) [] (lua.chained_expression m) (lua.chained_expression m)
  chained_expression m =
      keeps_bind (chained c) (disjunction m 1000)
      (λ a. keeps_right keep symbols.Arrow (Expression m) lua.operation refl (λ t a b. refl) (λ t a b. refl))

  pub expression : (m : Mode) → Keeps c levels parts (tree c) [] (lua.expression m) (lua.expression m)
  expression m = keeps_bind (chained c) (chained_expression m) (λ a. keeps_give)

  pub expressions : (m : Mode) → Keeps c levels parts (tree c) [] (lua.expressions m) (lua.expressions m)
  expressions m = keeps_listed keep (expression m)

  -- ---- what the tokens of expressions open

  pub operand_of : (m : Mode) → Keeps c levels parts (tree c) [] (lua.operand_of m) (lua.operand_of m)
  operand_of m = keeps_bind (chained c) (unary m 1000) (λ a. keeps_give)

  pub concatenation_of : (m : Mode) → Keeps c levels parts (tree c) [] (lua.concatenation_of m) (lua.concatenation_of m)
  concatenation_of m = keeps_bind (chained c) (concatenation m 1000) (λ a. keeps_give)

  pub arguments_of : (m : Mode) → Keeps c levels parts (tree c) [] (lua.arguments_of m) (lua.arguments_of m)
  arguments_of m = keeps_when (λ t. refl) keeps_give (expressions m)

  field_behind : (m : Mode) (k : OperandKind) (e : Tree)
      → Keeps c levels parts (tree c) (names_in e) (lua.field_behind m k e) (lua.field_behind m k (changed c e))
  field_behind m operands.Name e =
      keeps_when (λ t. refl) (keeps_sign keep symbols.Equal refl (λ t plain. keeps_bind (tree c) (expression m) (λ v. keeps_give))) keeps_give
  field_behind m _ e = keeps_give

  keyed_field : (m : Mode) → Keeps c levels parts (tree c) [] (lua.keyed_field m) (lua.keyed_field m)
  keyed_field m =
      keeps_opening keep symbols.OpenBracket (Expression m) refl
      (λ t k. keeps_sign keep symbols.CloseBracket refl
      (λ u plain. keeps_sign keep symbols.Equal refl (λ v other. keeps_bind (tree c) (expression m) (λ e. keeps_give))))

  field : (m : Mode) → Keeps c levels parts (tree c) [] (lua.field m) (lua.field m)
  field m = keeps_when (λ t. refl) (keyed_field m) (keeps_bind (chained c) (chained_expression m) (λ e. field_behind m e.kind e.tree))

  pub fields : (m : Mode) → Keeps c levels parts (tree c) [] (lua.fields m) (lua.fields m)
  fields m = keeps_when (λ t. refl) keeps_give (keeps_bind (tree c) (field m) (λ f. keeps_separated keep (field m)))

  entry : Mode → Token → Tree → Grammar Tree
  entry m t a =
      bind (sign symbols.Colon) λ y. bind (lua.expression m) λ e. bind separator λ z. give (More a (Entry (Name t.place t.offset t.text) e))

  entry_keeps : (m : Mode) (t : Token) (x a : Tree) → is_name t ≡ true → x ≡ Nothing
      → Keeps c levels parts (tree c) (names_in a ++ (named_by t ++ names_in x)) (entry m t a) (entry m (changed_token c t) (changed c a))
  unfolding entry
  entry_keeps m t x a at fits =
      subst (λ (y : Tree). Keeps c levels parts (tree c) (names_in a ++ (named_by t ++ names_in y)) (entry m t a) (entry m (changed_token c t) (changed c a)))
      (sym fits)
      (subst (λ (u : Token). Keeps c levels parts (tree c) (names_in a ++ (named_by u ++ [])) (entry m u a) (entry m (changed_token c u) (changed c a)))
      (sym (as_name t at))
      (keeps_sign keep symbols.Colon refl
      (λ u plain. keeps_bind (tree c) (expression m)
      (λ e. keeps_skip keep (keeps_separator keep)
      (λ z. keeps_same (sym (append_assoc (names_in a) (named t.offset t.text ∷ []) (names_in e))) refl)))))

  pub entries : (m : Mode) → Keeps c levels parts (tree c) [] (lua.entries m) (lua.entries m)
  unfolding entry
  entries m =
      keeps_many keep {S = tree c} (λ a t. refl) (λ a t. refl) (λ a t. refl) (λ a t at. tt) (λ t x a at fits. entry_keeps m t x a at fits)
