-- What `Keeping` says of the grammar of Lua statements and functions, name by name.
use Rattle.std.proofs.Common.{◌≡◌, ℕ, Bool, true, false, List, [], ◌∷◌, ◌++◌, refl, sym, ap, ◌∙◌, subst, append_assoc, append-nil}
use Rattle.std.specs.Prelude.{◌&&◌}
use Rattle.std.proofs.lemmas.Bool.{and_parts, false≢true}
use Rattle.tl_tree.specs.declared.symbol.Symbol.{Symbol}
use Rattle.tl_tree.specs.declared.symbol.Symbol.TheVariants as symbols
use Rattle.tl_tree.specs.declared.mode.Mode.{Mode}
use Rattle.tl_tree.specs.declared.mode.Context.{Context}
use Rattle.tl_tree.specs.declared.mode.OperandKind.{OperandKind}
use Rattle.tl_tree.specs.declared.mode.OperandKind.TheVariants as operands
use Rattle.tl_tree.specs.Symbols.{number_of, has}
use Rattle.tl_tree.specs.Tokens.{Token, among}
use Rattle.tl_tree.specs.Tree.{Tree, Nothing, More, Name, Part, Expression, Statements, FunctionBody, TerraFunctionBody}
use Rattle.tl_tree.specs.Tree as trees
use Rattle.tl_tree.specs.Grammar.{Grammar, Parts}
use Rattle.tl_tree.specs.Forms.{Chained, chain, semicolon}
use Rattle.tl_tree.specs.Forms as forms
use Rattle.tl_tree.specs.LuaExpressions as lua
use Rattle.tl_tree.specs.LuaStatements as statements
use Rattle.tl_tree.specs.LuaStatements.{looped, fresh}
use Rattle.tl_renaming.proofs.Changed.{Change, Named, named, is_name, named_by, changed_token, changed, names_in, Shape, tree, chained, sequence}
use Rattle.tl_renaming.proofs.Changed as of
use Rattle.tl_renaming.proofs.Keeping.{not_named, PartsKeep, Keeps, Fits, keeps_give, keeps_same, keeps_beside, keeps_bind, keeps_on}
use Rattle.tl_renaming.proofs.Keeping.{keeps_when, keeps_token, keeps_many}
use Rattle.tl_renaming.proofs.KeepingForms.{unnamed, name_token, as_name, keeps_sign, keeps_opening, keeps_opening_at, keeps_name_token}
use Rattle.tl_renaming.proofs.KeepingForms.{keeps_name, keeps_then_name, keeps_turns, keeps_opens, keeps_behind, keeps_names, keeps_path_names}
use Rattle.tl_renaming.proofs.KeepingForms.{keeps_skip, keeps_semicolon}
use Rattle.tl_renaming.proofs.KeepingExpressions.{same_suffix, fine_suffix, no_suffix, paren, suffix, suffixes, struct_body, expression, expressions}

same_both : (ss : List Symbol) (c : Change) (m : Mode) (t : Token)
    → (among ss (changed_token c t) && lua.is_suffix m (changed_token c t)) ≡ (among ss t && lua.is_suffix m t)
same_both ss c m t = ap (λ (b : Bool). among ss t && b) (same_suffix c m t)

-- the first token of a statement is a name just where the statement begins with one
pub Begins : statements.Statement → Token → Type 0
Begins statements.FromName t = is_name t ≡ true
Begins _ t = is_name t ≡ false

begins_by : (s : Symbol) (text : List ℕ) (u : Token) → has statements.statement_symbols (number_of s) ≡ true
    → Begins (statements.statement_of s) (record { symbol = s; text = text; place = u.place; offset = u.offset; first_on_line = u.first_on_line })
unfolding Begins
begins_by symbols.Name text u h = refl
begins_by symbols.OpenParen text u h = refl
begins_by symbols.Do text u h = refl
begins_by symbols.While text u h = refl
begins_by symbols.Repeat text u h = refl
begins_by symbols.If text u h = refl
begins_by symbols.For text u h = refl
begins_by symbols.Function text u h = refl
begins_by symbols.Local text u h = refl
begins_by symbols.Return text u h = refl
begins_by symbols.Break text u h = refl
begins_by symbols.Terra text u h = refl
begins_by symbols.Struct text u h = refl
begins_by symbols.Emit text u h = refl
begins_by _ text u h = absurd (false≢true h)

module _ (c : Change) (levels : ℕ) (parts : Parts) (keep : PartsKeep c parts) where
  -- ---- targets of assignments

  next_suffix : (m : Mode) (a : Chained)
      → Keeps c levels parts (chained c) (names_in a.tree) (statements.next_suffix m a) (statements.next_suffix m ((chained c).change a))
  next_suffix m a =
      keeps_token keep (λ t. same_suffix c m t) (λ t. refl) (λ t. refl) (λ t at. fine_suffix a t)
      (λ t x at fits. one_suffix m (lua.suffix_of t.symbol) t x a (no_suffix m t at) fits)
    where
      one_suffix : (m : Mode) (k : lua.Suffix) (t : Token) (x : Tree) (a : Chained) → is_name t ≡ false → Fits (lua.suffix_opens m k) x
          → Keeps c levels parts (chained c) (names_in a.tree ++ (named_by t ++ names_in x)) (lua.suffix m k t x a)
          (lua.suffix m k (changed_token c t) (changed c x) ((chained c).change a))
      one_suffix m k t x a plain fits =
          subst (λ (l : List Named). Keeps c levels parts (chained c) (names_in a.tree ++ (l ++ names_in x)) (lua.suffix m k t x a)
          (lua.suffix m k (changed_token c t) (changed c x) ((chained c).change a))) (sym (not_named t plain))
          (suffix c levels parts keep m k t x a plain fits)

  to_variable : (m : Mode) (a : Chained)
      → Keeps c levels parts (chained c) (names_in a.tree) (statements.to_variable m a) (statements.to_variable m ((chained c).change a))
  to_variable m a =
      keeps_on (chained c)
      (keeps_opens keep {S = chained c} (λ b t. same_both statements.call_symbols c m t) (λ b t. refl) (λ b t. refl) (λ b t at. fine_suffix b t)
      (λ b t at. no_suffix m t (and_parts _ _ at).1)
      (λ t x b at fits. suffix c levels parts keep m (lua.suffix_of t.symbol) t x b (no_suffix m t (and_parts _ _ at).1) fits))
      (λ b. keeps_token keep (λ t. same_both statements.index_symbols c m t) (λ t. refl) (λ t. refl) (λ t at. fine_suffix b t)
      (λ t x at fits.
      subst (λ (l : List Named). Keeps c levels parts (chained c) (names_in b.tree ++ (l ++ names_in x)) (lua.suffix m (lua.suffix_of t.symbol) t x b)
      (lua.suffix m (lua.suffix_of t.symbol) (changed_token c t) (changed c x) ((chained c).change b)))
      (sym (not_named t (no_suffix m t (and_parts _ _ at).1)))
      (suffix c levels parts keep m (lua.suffix_of t.symbol) t x b (no_suffix m t (and_parts _ _ at).1) fits)))

  as_variable : (m : Mode) (k : OperandKind) (a : Chained)
      → Keeps c levels parts (chained c) (names_in a.tree) (statements.as_variable m k a) (statements.as_variable m k ((chained c).change a))
  as_variable m operands.Call a = to_variable m a
  as_variable m _ a = keeps_give

  variable_suffixes : (m : Mode) (a : Chained)
      → Keeps c levels parts (chained c) (names_in a.tree) (statements.variable_suffixes m a) (statements.variable_suffixes m ((chained c).change a))
  variable_suffixes m a =
      keeps_opens keep {S = chained c} (λ b t. same_suffix c m t) (λ b t. refl) (λ b t. refl) (λ b t at. fine_suffix b t) (λ b t at. no_suffix m t at)
      (λ t x b at fits. keeps_on (chained c) (suffix c levels parts keep m (lua.suffix_of t.symbol) t x b (no_suffix m t at) fits)
      (λ d. as_variable m d.kind d))

  variable : (m : Mode) → Keeps c levels parts (tree c) [] (statements.variable m) (statements.variable m)
  variable m =
      keeps_when (λ t. refl)
      (keeps_bind (chained c) (paren c levels parts keep m)
      (λ b. keeps_on (chained c) (to_variable m b) (λ d. keeps_on (chained c) (variable_suffixes m d) (λ a. keeps_give))))
      (keeps_then_name keep (λ n. keeps_on (chained c) (variable_suffixes m (forms.chained n chain operands.Name)) (λ a. keeps_give)))

  -- ---- paths and loops

  path_method : (ns : Tree) → Keeps c levels parts (tree c) (names_in ns) (statements.path_method ns) (statements.path_method (changed c ns))
  path_method ns =
      keeps_when (λ t. refl)
      (keeps_sign keep symbols.Colon refl (λ t plain. keeps_name_token keep (λ text place offset first. keeps_give)))
      (keeps_same (append-nil (names_in ns)) refl)

  path : Keeps c levels parts (tree c) [] statements.path statements.path
  path =
      keeps_then_name keep (λ n. keeps_on (tree c) (keeps_path_names keep {a = More Nothing n}) (λ ns. path_method ns))

  struct_path : Keeps c levels parts (tree c) [] statements.struct_path statements.struct_path
  struct_path =
      keeps_then_name keep
      (λ n. keeps_on (tree c) (keeps_path_names keep {a = More Nothing n}) (λ ns. keeps_same (append-nil (names_in ns)) refl))

  loop : (d : Context) → Keeps c levels parts (tree c) [] (statements.loop d) (statements.loop d)
  loop d = keeps_opening keep symbols.Do (Statements (looped d)) refl (λ t x. keeps_sign keep symbols.End refl (λ u plain. keeps_give))

  -- ---- parameters

  parameter : (a : Tree) → Keeps c levels parts (of.parameters c) (names_in a) (statements.parameter a) (statements.parameter (changed c a))
  parameter a = keeps_when (λ t. refl) (keeps_sign keep symbols.Ellipsis refl (λ t plain. keeps_give)) (keeps_then_name keep (λ n. keeps_give))

  parameters : Keeps c levels parts (of.parameters c) [] statements.parameters statements.parameters
  parameters =
      keeps_when (λ t. refl) keeps_give
      (keeps_bind (of.parameters c) (parameter Nothing)
      (λ p. keeps_turns keep {S = of.parameters c} (λ a t. refl) (λ a t. refl) (λ a t at. tt)
      (λ a t at. unnamed (symbols.Comma ∷ []) t refl (and_parts _ _ at).0) (λ t a plain. parameter a.names)))

  -- ---- parts of statements

  assignment : (m : Mode) (t : Token) (e : Tree)
      → Keeps c levels parts (tree c) (names_in e) (statements.assignment m t e) (statements.assignment m (changed_token c t) (changed c e))
  assignment m t e =
      keeps_on (tree c) (keeps_behind keep {a = More Nothing e} (variable m))
      (λ targets. keeps_sign keep symbols.Equal refl (λ u plain. keeps_bind (tree c) (expressions c levels parts keep m) (λ es. keeps_give)))

  call_or_assignment : (m : Mode) (t : Token) (k : OperandKind) (e : Tree)
      → Keeps c levels parts (tree c) (names_in e) (statements.call_or_assignment m t k e)
      (statements.call_or_assignment m (changed_token c t) k (changed c e))
  call_or_assignment m t operands.Call e = keeps_give
  call_or_assignment m t _ e = assignment m t e

  arm : (d : Context) (a : Tree) → Keeps c levels parts (tree c) (names_in a) (statements.arm d a) (statements.arm d (changed c a))
  arm d a =
      keeps_bind (tree c) (expression c levels parts keep d.mode)
      (λ e. keeps_opening keep symbols.Then (Statements d) refl
      (λ t x. keeps_same (sym (append_assoc (names_in a) (names_in e) (names_in x))) refl))

  arms : (d : Context) (a : Tree) → Keeps c levels parts (tree c) (names_in a) (statements.arms d a) (statements.arms d (changed c a))
  arms d a =
      keeps_turns keep {S = tree c} (λ b t. refl) (λ b t. refl) (λ b t at. tt) (λ b t at. unnamed (symbols.Elseif ∷ []) t refl at)
      (λ t b plain. arm d b)

  otherwise : (d : Context) → Keeps c levels parts (tree c) [] (statements.otherwise d) (statements.otherwise d)
  otherwise d = keeps_when (λ t. refl) (keeps_opening keep symbols.Else (Statements d) refl (λ t x. keeps_give)) keeps_give

  step : (m : Mode) → Keeps c levels parts (tree c) [] (statements.step m) (statements.step m)
  step m =
      keeps_when (λ t. refl)
      (keeps_sign keep symbols.Comma refl (λ t plain. keeps_bind (tree c) (expression c levels parts keep m) (λ e. keeps_give))) keeps_give

  numeric_for : (d : Context) (t : Token) (n : Tree)
      → Keeps c levels parts (tree c) (names_in n) (statements.numeric_for d t n) (statements.numeric_for d (changed_token c t) (changed c n))
  numeric_for d t n =
      keeps_sign keep symbols.Equal refl
      (λ u plain. keeps_bind (tree c) (expression c levels parts keep d.mode)
      (λ a. keeps_sign keep symbols.Comma refl
      (λ v other. keeps_bind (tree c) (expression c levels parts keep d.mode)
      (λ b. keeps_bind (tree c) (step d.mode) (λ s. keeps_bind (tree c) (loop d) (λ x. keeps_give))))))

  generic_for : (d : Context) (t : Token) (n : Tree)
      → Keeps c levels parts (tree c) (names_in n) (statements.generic_for d t n) (statements.generic_for d (changed_token c t) (changed c n))
  generic_for d t n =
      keeps_on (tree c) (keeps_behind keep {a = More Nothing n} (keeps_name keep))
      (λ ns. keeps_sign keep symbols.In refl
      (λ u plain. keeps_bind (tree c) (expressions c levels parts keep d.mode) (λ es. keeps_bind (tree c) (loop d) (λ x. keeps_give))))

  initial_values : (m : Mode) → Keeps c levels parts (tree c) [] (statements.initial_values m) (statements.initial_values m)
  initial_values m = keeps_when (λ t. refl) (keeps_sign keep symbols.Equal refl (λ t plain. expressions c levels parts keep m)) keeps_give

  returned_values : (m : Mode) → Keeps c levels parts (tree c) [] (statements.returned_values m) (statements.returned_values m)
  returned_values m = keeps_when (λ t. refl) (expressions c levels parts keep m) keeps_give

  terra_definition : (d : Context) (before : List Named) (declare declare' define define' : Tree → Tree)
      → ((e : Tree) → names_in (declare e) ≡ before ++ names_in e) → ((e : Tree) → declare' (changed c e) ≡ changed c (declare e))
      → ((e : Tree) → names_in (define e) ≡ before ++ names_in e) → ((e : Tree) → define' (changed c e) ≡ changed c (define e))
      → Keeps c levels parts (tree c) before (statements.terra_definition d declare define) (statements.terra_definition d declare' define')
  terra_definition d before declare declare' define define' p q r s =
      keeps_when (λ t. refl)
      (keeps_sign keep symbols.DoubleColon refl
      (λ t plain. keeps_bind (tree c) (expression c levels parts keep d.mode) (λ e. keeps_same (p e) (q e))))
      (keeps_opening_at keep symbols.OpenParen TerraFunctionBody refl (λ t x. keeps_same (r x) (s x)))

  local_terra : (d : Context) (t : Token)
      → Keeps c levels parts (tree c) [] (statements.local_terra d t) (statements.local_terra d (changed_token c t))
  local_terra d u =
      keeps_when (λ t. refl)
      (keeps_sign keep symbols.Struct refl
      (λ v plain. keeps_then_name keep (λ n. keeps_bind (tree c) (struct_body c levels parts keep d.mode) (λ es. keeps_give))))
      (keeps_sign keep symbols.Terra refl
      (λ v plain. keeps_then_name keep
      (λ n. terra_definition d (names_in n) (trees.LocalDeclareTerra u.place v.place n) (trees.LocalDeclareTerra u.place v.place (changed c n))
      (trees.LocalTerra u.place v.place n) (trees.LocalTerra u.place v.place (changed c n)) (λ e. refl) (λ e. refl) (λ e. refl) (λ e. refl))))

  -- ---- statements

  begun_by_name : (d : Context) (x : Tree) (text : List ℕ) (place : _) (offset : ℕ) (first : Bool)
      → Keeps c levels parts (tree c) (named offset text ∷ []) (statements.statement d statements.FromName (name_token text place offset first) x)
      (statements.statement d statements.FromName (name_token (c.text offset text) place (c.offset offset) first) (changed c x))
  begun_by_name d x text place offset first =
      keeps_on (chained c) (suffixes c levels parts keep d.mode (forms.chained (Name place offset text) chain operands.Name))
      (λ a. call_or_assignment d.mode (name_token text place offset first) a.kind a.tree)

  -- where nothing is opened there are no names
  alone : {g h : Grammar Tree} (x : Tree) → x ≡ Nothing → Keeps c levels parts (tree c) [] g h → Keeps c levels parts (tree c) (names_in x) g h
  alone {g} {h} x e k = subst (λ (y : Tree). Keeps c levels parts (tree c) (names_in y) g h) (sym e) k

  behind : (d : Context) (k : statements.Statement) (t : Token) (x : Tree) → is_name t ≡ false
      → Keeps c levels parts (tree c) (names_in x) (statements.statement d k t x) (statements.statement d k (changed_token c t) (changed c x))
      → Keeps c levels parts (tree c) (named_by t ++ names_in x) (statements.statement d k t x)
      (statements.statement d k (changed_token c t) (changed c x))
  behind d k t x plain p =
      subst (λ (l : List Named). Keeps c levels parts (tree c) (l ++ names_in x) (statements.statement d k t x)
      (statements.statement d k (changed_token c t) (changed c x))) (sym (not_named t plain)) p

  -- a statement that begins with another token
  begun_plain : (d : Context) (k : statements.Statement) (t : Token) (x : Tree) → Begins k t → is_name t ≡ false → Fits (statements.statement_opens d k) x
      → Keeps c levels parts (tree c) (names_in x) (statements.statement d k t x) (statements.statement d k (changed_token c t) (changed c x))
  unfolding Begins
  begun_plain d statements.FromName t x b plain fits = absurd (false≢true (sym plain ∙ b))
  begun_plain d statements.FromParen t x b plain fits =
      keeps_sign keep symbols.CloseParen refl
      (λ u other. keeps_on (chained c) (next_suffix d.mode (forms.chained (trees.Paren t.place x) chain operands.Other))
      (λ b. keeps_on (chained c) (suffixes c levels parts keep d.mode b) (λ a. call_or_assignment d.mode t a.kind a.tree)))
  begun_plain d statements.FromDo t x b plain fits = keeps_sign keep symbols.End refl (λ u other. keeps_give)
  begun_plain d statements.FromRepeat t x b plain fits =
      keeps_sign keep symbols.Until refl (λ u other. keeps_bind (tree c) (expression c levels parts keep d.mode) (λ e. keeps_give))
  begun_plain d statements.FromWhile t x b plain fits =
      alone x fits (keeps_bind (tree c) (expression c levels parts keep d.mode) (λ e. keeps_bind (tree c) (loop d) (λ y. keeps_give)))
  begun_plain d statements.FromIf t x b plain fits =
      alone x fits
      (keeps_bind (tree c) (arm d Nothing)
      (λ first. keeps_on (tree c) (arms d first)
      (λ all. keeps_bind (tree c) (otherwise d) (λ o. keeps_sign keep symbols.End refl (λ u other. keeps_give)))))
  begun_plain d statements.FromFor t x b plain fits =
      alone x fits (keeps_then_name keep (λ n. keeps_when (λ u. refl) (numeric_for d t n) (generic_for d t n)))
  begun_plain d statements.FromFunction t x b plain fits =
      alone x fits (keeps_bind (tree c) path (λ p. keeps_opening keep symbols.OpenParen FunctionBody refl (λ u y. keeps_give)))
  begun_plain d statements.FromLocal t x b plain fits =
      alone x fits
      (keeps_when (λ u. refl)
      (keeps_sign keep symbols.Function refl
      (λ u other. keeps_then_name keep (λ n. keeps_opening keep symbols.OpenParen FunctionBody refl (λ v y. keeps_give))))
      (keeps_when (λ u. refl) (local_terra d t)
      (keeps_bind (tree c) (keeps_names keep) (λ ns. keeps_bind (tree c) (initial_values d.mode) (λ es. keeps_give)))))
  begun_plain d statements.FromReturn t x b plain fits = alone x fits (keeps_bind (tree c) (returned_values d.mode) (λ es. keeps_give))
  begun_plain d statements.FromBreak t x b plain fits = alone x fits keeps_give
  begun_plain d statements.FromTerra t x b plain fits =
      alone x fits
      (keeps_bind (tree c) path
      (λ p. terra_definition d (names_in p) (trees.DeclareTerra t.place p) (trees.DeclareTerra t.place (changed c p))
      (trees.DefineTerra t.place p) (trees.DefineTerra t.place (changed c p)) (λ e. refl) (λ e. refl) (λ e. refl) (λ e. refl)))
  begun_plain d statements.FromStruct t x b plain fits =
      alone x fits (keeps_bind (tree c) struct_path (λ p. keeps_bind (tree c) (struct_body c levels parts keep d.mode) (λ es. keeps_give)))
  begun_plain d statements.FromEmit t x b plain fits =
      alone x fits (keeps_bind (tree c) (expression c levels parts keep d.mode) (λ e. keeps_give))

  statement : (d : Context) (k : statements.Statement) (t : Token) (x : Tree) → Begins k t → Fits (statements.statement_opens d k) x
      → Keeps c levels parts (tree c) (named_by t ++ names_in x) (statements.statement d k t x)
      (statements.statement d k (changed_token c t) (changed c x))
  unfolding Begins
  statement d statements.FromName t x b fits =
      subst (λ (y : Tree). Keeps c levels parts (tree c) (named_by t ++ names_in y) (statements.statement d statements.FromName t x)
      (statements.statement d statements.FromName (changed_token c t) (changed c x))) (sym fits)
      (subst (λ (u : Token). Keeps c levels parts (tree c) (named_by u ++ []) (statements.statement d statements.FromName u x)
      (statements.statement d statements.FromName (changed_token c u) (changed c x))) (sym (as_name t b))
      (begun_by_name d x t.text t.place t.offset t.first_on_line))
  statement d statements.FromParen t x b fits = behind d statements.FromParen t x b (begun_plain d statements.FromParen t x b b fits)
  statement d statements.FromDo t x b fits = behind d statements.FromDo t x b (begun_plain d statements.FromDo t x b b fits)
  statement d statements.FromWhile t x b fits = behind d statements.FromWhile t x b (begun_plain d statements.FromWhile t x b b fits)
  statement d statements.FromRepeat t x b fits = behind d statements.FromRepeat t x b (begun_plain d statements.FromRepeat t x b b fits)
  statement d statements.FromIf t x b fits = behind d statements.FromIf t x b (begun_plain d statements.FromIf t x b b fits)
  statement d statements.FromFor t x b fits = behind d statements.FromFor t x b (begun_plain d statements.FromFor t x b b fits)
  statement d statements.FromFunction t x b fits = behind d statements.FromFunction t x b (begun_plain d statements.FromFunction t x b b fits)
  statement d statements.FromLocal t x b fits = behind d statements.FromLocal t x b (begun_plain d statements.FromLocal t x b b fits)
  statement d statements.FromReturn t x b fits = behind d statements.FromReturn t x b (begun_plain d statements.FromReturn t x b b fits)
  statement d statements.FromBreak t x b fits = behind d statements.FromBreak t x b (begun_plain d statements.FromBreak t x b b fits)
  statement d statements.FromTerra t x b fits = behind d statements.FromTerra t x b (begun_plain d statements.FromTerra t x b b fits)
  statement d statements.FromStruct t x b fits = behind d statements.FromStruct t x b (begun_plain d statements.FromStruct t x b b fits)
  statement d statements.FromEmit t x b fits = behind d statements.FromEmit t x b (begun_plain d statements.FromEmit t x b b fits)

  -- ---- blocks

  same_place : (d : Context) (t : Token) → statements.is_statement d (changed_token c t) ≡ statements.is_statement d t
  same_place d t = refl

  pub block : (d : Context) → Keeps c levels parts (tree c) [] (statements.block d) (statements.block d)
  block d =
      keeps_bind (sequence c)
      (keeps_many keep {S = sequence c} (λ a t. refl) (λ a t. refl) (λ a t. refl) (λ a t at. tt)
      (λ t x a at fits. keeps_beside (tree c) (names_in a.statements)
      (statement d (statements.statement_of t.symbol) t x
      (begins_by t.symbol t.text t (and_parts _ _ (and_parts _ _ at).0).0) fits)
      (λ s. keeps_skip keep (keeps_semicolon keep) (λ y. keeps_give))))
      (λ a. keeps_give)

  -- ---- functions

  pub function_body : Keeps c levels parts (tree c) [] statements.function_body statements.function_body
  function_body =
      keeps_bind (of.parameters c) parameters
      (λ p. keeps_sign keep symbols.CloseParen refl
      (λ u plain. keeps_bind (tree c) (block (fresh (statements.body_mode p.variadic)))
      (λ b. keeps_sign keep symbols.End refl (λ v other. keeps_give))))
