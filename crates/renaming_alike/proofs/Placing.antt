-- What the children of a node are: code, but for the statements of a block, the parameters of a Terra function, and what `var` declares.
use Rattle.std.proofs.Common.{◌≡◌, Bool, true, false, List, [], ◌∷◌, ◌++◌, Option, Some, None}
use Rattle.std.proofs.Common.{refl, sym, ap, ◌∙◌}
use Rattle.std.specs.Prelude.{◌&&◌, ◌||◌, not}
use Rattle.std.specs.List.{AllByRecursion}
use Rattle.std.specs.Option.{option_to_list}
use Rattle.std.proofs.lemmas.Bool.{true≢false, false≢true, and_from, and_parts, or_right}
use Rattle.tl_base.specs.declared.place.Place.{Place}
use Rattle.tl_base.specs.declared.ids.NodeId.{NodeId}
use Rattle.tl_tree.specs.declared.node.Expression as of_expressions
use Rattle.tl_tree.specs.declared.node.Expression.TheVariants as expressions
use Rattle.tl_tree.specs.declared.node.Statement as of_statements
use Rattle.tl_tree.specs.declared.node.Statement.TheVariants as statements
use Rattle.tl_tree.specs.declared.node.TerraExpression as of_terra_expressions
use Rattle.tl_tree.specs.declared.node.TerraExpression.TheVariants as terra_expressions
use Rattle.tl_tree.specs.declared.node.TerraStatement as of_terra_statements
use Rattle.tl_tree.specs.declared.node.TerraStatement.TheVariants as terra_statements
use Rattle.tl_tree.specs.declared.node.Piece as of_pieces
use Rattle.tl_tree.specs.declared.node.Piece.TheVariants as pieces
use Rattle.tl_tree.specs.Item.{Item}
use Rattle.tl_tree.specs.Item as kept
use Rattle.tl_tree.specs.Tree.{Tree}
use Rattle.tl_tree.specs.Tree as t
use Rattle.tl_tree.specs.Kinds.{are, is_if_any, is_name, is_target, is_call, is_expression, is_field, is_entry, is_path, is_statement, is_block, is_arm}
use Rattle.tl_tree.specs.Kinds.{is_body, is_escape, is_terra_name, is_terra_call, is_terra_expression, is_first_target, are_terra_targets}
use Rattle.tl_tree.specs.Kinds.{is_initialiser, is_terra_statement, is_terra_block, is_terra_arm, is_parameter, is_variable, is_terra_body, is_quoted}
use Rattle.tl_tree.specs.Kinds.{child, WellFormed}
use Rattle.tl_tree.specs.Children.{children_of}
use Rattle.tl_tree.proofs.Fitting.{Slot, One, Many, Any}
use Rattle.tl_tree.proofs.TreeAt.{of_item, list_behind}
use Rattle.tl_tree.proofs.TreeAt as numbered
use Rattle.tl_alike.proofs.Each.{each_append}

-- ---- trees: statements, bindings and code

-- a statement of Lua or of Terra code
abbrev pub is_any_statement : Tree → Bool
is_any_statement a = is_statement a || is_terra_statement a

-- a parameter of a Terra function, or a variable of `var`
abbrev pub is_binding : Tree → Bool
is_binding a = is_parameter a || is_variable a

-- Code is neither. Where a node's kind says what the node holds, so does this: a block holds statements, and the others hold code.
abbrev pub coded : Tree → Slot → Bool
coded t.Nothing One = false
coded (t.More before next) One = false
coded (t.Just a) One = false
coded (t.Block statements) One = are is_any_statement statements
coded (t.Arm e block) One = coded e One && coded block One
coded (t.Body names variadic block) One = coded names Many && coded block One
coded (t.Path names method) One = coded names Many && coded method Any
coded (t.NamedField name value) One = coded name One && coded value One
coded (t.KeyedField key value) One = coded key One && coded value One
coded (t.Entry name type) One = coded name One && coded type One
coded a One = not (is_any_statement a || is_binding a)
coded t.Nothing Many = true
coded (t.More before next) Many = coded before Many && coded next One
coded _ Many = false
coded t.Nothing Any = true
coded (t.Just a) Any = coded a One
coded _ Any = false

abbrev pub is_code : Tree → Bool
is_code a = coded a One

-- ---- kinds that are code

abbrev pub IsCode : (Tree → Bool) → Type 0
IsCode kind = (a : Tree) → kind a ≡ true → is_code a ≡ true

-- by a test that computes at each constructor
abbrev Test : (Tree → Bool) → Tree → Type 0
Test kind a = (kind a && not (is_code a)) ≡ false

from_test : (b d : Bool) → (b && not d) ≡ false → b ≡ true → d ≡ true
from_test true true e h = refl
from_test true false e h = absurd (true≢false e)
from_test false d e h = absurd (false≢true h)

by_test : (kind : Tree → Bool) → ((a : Tree) → Test kind a) → IsCode kind
by_test kind test a h = from_test (kind a) (is_code a) (test a) h

record Tests (a : Tree) : Type 0 where
  name : Test is_name a
  target : Test is_target a
  call : Test is_call a
  expression : Test is_expression a
  escape : Test is_escape a
  terra_name : Test is_terra_name a
  terra_call : Test is_terra_call a
  terra_expression : Test is_terra_expression a
  terra_body : Test is_terra_body a
  quoted : Test is_quoted a

tests : (a : Tree) → Tests a
tests t.Nothing = record {
  name = refl;
  target = refl;
  call = refl;
  expression = refl;
  escape = refl;
  terra_name = refl;
  terra_call = refl;
  terra_expression = refl;
  terra_body = refl;
  quoted = refl;
}
tests _ = record {
  name = refl;
  target = refl;
  call = refl;
  expression = refl;
  escape = refl;
  terra_name = refl;
  terra_call = refl;
  terra_expression = refl;
  terra_body = refl;
  quoted = refl;
}

name : IsCode is_name
name = by_test is_name (λ a. (tests a).name)

target : IsCode is_target
target = by_test is_target (λ a. (tests a).target)

call : IsCode is_call
call = by_test is_call (λ a. (tests a).call)

expression : IsCode is_expression
expression = by_test is_expression (λ a. (tests a).expression)

escape : IsCode is_escape
escape = by_test is_escape (λ a. (tests a).escape)

terra_name : IsCode is_terra_name
terra_name = by_test is_terra_name (λ a. (tests a).terra_name)

terra_call : IsCode is_terra_call
terra_call = by_test is_terra_call (λ a. (tests a).terra_call)

terra_expression : IsCode is_terra_expression
terra_expression = by_test is_terra_expression (λ a. (tests a).terra_expression)

terra_body : IsCode is_terra_body
terra_body = by_test is_terra_body (λ a. (tests a).terra_body)

quoted : IsCode is_quoted
quoted = by_test is_quoted (λ a. (tests a).quoted)

-- lists, and what may be left out
all : (kind : Tree → Bool) → IsCode kind → (a : Tree) → are kind a ≡ true → coded a Many ≡ true
all kind p t.Nothing h = refl
all kind p (t.More before next) h =
    let parts = and_parts (are kind before) (kind next) h in
    and_from (coded before Many) (coded next One) (all kind p before parts.0) (p next parts.1)
all kind p _ h = absurd (false≢true h)

if_any : (kind : Tree → Bool) → IsCode kind → (a : Tree) → is_if_any kind a ≡ true → coded a Any ≡ true
if_any kind p t.Nothing h = refl
if_any kind p (t.Just a) h = p a h
if_any kind p _ h = absurd (false≢true h)

all_statements : (kind : Tree → Bool) → ((a : Tree) → kind a ≡ true → is_any_statement a ≡ true) → (a : Tree) → are kind a ≡ true → are is_any_statement a ≡ true
all_statements kind p t.Nothing h = refl
all_statements kind p (t.More before next) h =
    let parts = and_parts (are kind before) (kind next) h in
    and_from (are is_any_statement before) (is_any_statement next) (all_statements kind p before parts.0) (p next parts.1)
all_statements kind p _ h = absurd (false≢true h)

-- kinds that look at what a node holds
first_target : (a : Tree) → is_first_target a ≡ true → is_terra_expression a ≡ true
first_target (t.TerraUnary place op a) h = refl
first_target (t.TerraBinary place op a b) h = refl
first_target (t.Name place offset text) h = refl
first_target (t.Escape place e) h = refl
first_target (t.TerraParen place a) h = refl
first_target (t.TerraIndex place a key) h = refl
first_target (t.TerraSelect place a name') h = refl
first_target (t.Construct place a initialisers) h = refl
first_target _ h = absurd (false≢true h)

terra_targets : (a : Tree) → are_terra_targets a ≡ true → coded a Many ≡ true
terra_targets (t.More t.Nothing first) h = terra_expression first (first_target first h)
terra_targets (t.More before next) h =
    let parts = and_parts (are_terra_targets before) (is_terra_expression next) h in
    and_from (coded before Many) (coded next One) (terra_targets before parts.0) (terra_expression next parts.1)
terra_targets _ h = absurd (false≢true h)

both : (k l : Tree → Bool) → IsCode k → IsCode l → (a b : Tree) → (k a && l b) ≡ true → (is_code a && is_code b) ≡ true
both k l p q a b h = let parts = and_parts (k a) (l b) h in and_from (is_code a) (is_code b) (p a parts.0) (q b parts.1)

field : IsCode is_field
field (t.NamedField name' value) h = both is_name is_expression name expression name' value h
field (t.KeyedField key value) h = both is_expression is_expression expression expression key value h
field a h = expression a h

initialiser : IsCode is_initialiser
initialiser (t.NamedField name' value) h = both is_name is_terra_expression name terra_expression name' value h
initialiser a h = terra_expression a h

entry : IsCode is_entry
entry (t.Entry name' type) h = both is_name is_expression name expression name' type h
entry _ h = absurd (false≢true h)

path : IsCode is_path
path (t.Path names method) h =
    let parts = and_parts (are is_name names) (is_if_any is_name method) h in
    and_from (coded names Many) (coded method Any) (all is_name name names parts.0) (if_any is_name name method parts.1)
path _ h = absurd (false≢true h)

pub block : IsCode is_block
block (t.Block ss) h = all_statements is_statement (λ a e. ap (λ b. b || is_terra_statement a) e) ss h
block _ h = absurd (false≢true h)

terra_block : IsCode is_terra_block
terra_block (t.Block ss) h = all_statements is_terra_statement (λ a e. or_right (is_statement a) (is_terra_statement a) e) ss h
terra_block _ h = absurd (false≢true h)

arm : IsCode is_arm
arm (t.Arm e b) h = both is_expression is_block expression block e b h
arm _ h = absurd (false≢true h)

terra_arm : IsCode is_terra_arm
terra_arm (t.Arm e b) h = both is_terra_expression is_terra_block terra_expression terra_block e b h
terra_arm _ h = absurd (false≢true h)

body : IsCode is_body
body (t.Body names variadic b) h =
    let parts = and_parts (are is_name names) (is_block b) h in
    and_from (coded names Many) (is_code b) (all is_name name names parts.0) (block b parts.1)
body _ h = absurd (false≢true h)

-- a tree is at most one of the three
pub record IsApart (a : Tree) : Type 0 where
  pub statement_or_binding : (is_any_statement a && is_binding a) ≡ false
  pub statement_or_code : (is_any_statement a && is_code a) ≡ false
  pub binding_or_code : (is_binding a && is_code a) ≡ false

pub apart : (a : Tree) → IsApart a
apart t.Nothing = record { statement_or_binding = refl; statement_or_code = refl; binding_or_code = refl }
apart _ = record { statement_or_binding = refl; statement_or_code = refl; binding_or_code = refl }

pub not_first : (b d : Bool) → (b && d) ≡ false → d ≡ true → b ≡ false
not_first true d e h = absurd (true≢false (sym h ∙ e))
not_first false d e h = refl

pub not_second : (b d : Bool) → (b && d) ≡ false → b ≡ true → d ≡ false
not_second true d e h = e
not_second false d e h = absurd (false≢true h)

-- ---- what the children of a node are

module _ (at : NodeId → Tree) where
  -- the tree at a node is of a kind, and well formed
  abbrev pub HasKind : (Tree → Bool) → NodeId → Type 0
  HasKind kind c = child kind (at c) (WellFormed (at c))

  abbrev pub HaveKind : (Tree → Bool) → List NodeId → Type 0
  HaveKind kind ns = AllByRecursion (HasKind kind) ns

  -- where a list is of a kind, so is each in it
  listed : (list kind : Tree → Bool) → ((b n : Tree) → list (t.More b n) ≡ true → (list b ≡ true) × (kind n ≡ true)) → (ns : List NodeId)
      → (before : Tree) → child list (list_behind at before ns) (WellFormed (list_behind at before ns))
      → child list before (WellFormed before) × HaveKind kind ns
  listed list kind split [] before w = (w, tt)
  listed list kind split (n ∷ ns) before w =
      let rest = listed list kind split ns (t.More before (at n)) w in
      let parts = split before (at n) rest.0.0 in
      ((parts.0, rest.0.1.0), ((parts.1, rest.0.1.1), rest.1))

  coded_list : (ns : List NodeId) → coded (numbered.list at ns) Many ≡ true → WellFormed (numbered.list at ns) → HaveKind is_code ns
  coded_list ns h w = (listed (λ a. coded a Many) is_code (λ b n e. and_parts (coded b Many) (is_code n) e) ns t.Nothing (h, w)).1

  coded_any : (o : Option NodeId) → coded (numbered.if_any at o) Any ≡ true → WellFormed (numbered.if_any at o) → HaveKind is_code (option_to_list o)
  coded_any None h w = tt
  coded_any (Some n) h w = ((h, w), tt)

  one : (kind : Tree → Bool) → IsCode kind → (c : NodeId) → HasKind kind c → HasKind is_code c
  one kind p c w = (p (at c) w.0, w.1)

  many : (kind : Tree → Bool) → IsCode kind → (ns : List NodeId) → child (are kind) (numbered.list at ns) (WellFormed (numbered.list at ns))
      → HaveKind is_code ns
  many kind p ns w = coded_list ns (all kind p (numbered.list at ns) w.0) w.1

  any : (kind : Tree → Bool) → IsCode kind → (o : Option NodeId)
      → child (is_if_any kind) (numbered.if_any at o) (WellFormed (numbered.if_any at o)) → HaveKind is_code (option_to_list o)
  any kind p o w = coded_any o (if_any kind p (numbered.if_any at o) w.0) w.1

  joined : (ns ms : List NodeId) → HaveKind is_code ns → HaveKind is_code ms → HaveKind is_code (ns ++ ms)
  joined ns ms h k = each_append (HasKind is_code) ns ms h k

  in_expression : (place : Place) (e : of_expressions.Expression) → WellFormed (of_item at (kept.Expression place e))
      → HaveKind is_code (children_of (kept.Expression place e))
  in_expression place (expressions.Function b) w = (one is_body body b w, tt)
  in_expression place (expressions.Table fields) w = many is_field field fields w
  in_expression place (expressions.Binary op a b) w = (one is_expression expression a w.0, (one is_expression expression b w.1, tt))
  in_expression place (expressions.Unary op a) w = (one is_expression expression a w, tt)
  in_expression place (expressions.Paren a) w = (one is_expression expression a w, tt)
  in_expression place (expressions.Index a key) w = (one is_expression expression a w.0, (one is_expression expression key w.1, tt))
  in_expression place (expressions.Select a name') w = (one is_expression expression a w.0, (one is_name name name' w.1, tt))
  in_expression place (expressions.Call a es) w = (one is_expression expression a w.0, many is_expression expression es w.1)
  in_expression place (expressions.Method a name' es) w =
      (one is_expression expression a w.0, (one is_name name name' w.1, many is_expression expression es w.2))
  in_expression place (expressions.Terra b) w = (one is_terra_body terra_body b w, tt)
  in_expression place (expressions.Struct entries) w = many is_entry entry entries w
  in_expression place (expressions.Quote q) w = (one is_quoted quoted q w, tt)
  in_expression place (expressions.Backtick e) w = (one is_terra_expression terra_expression e w, tt)
  in_expression place _ w = tt

  in_statement : (place : Place) (s : of_statements.Statement) → WellFormed (of_item at (kept.Statement place s))
      → HaveKind is_code (children_of (kept.Statement place s))
  in_statement place (statements.Assign targets es) w =
      joined targets es (many is_target target targets w.0) (many is_expression expression es w.1)
  in_statement place (statements.Call e) w = (one is_call call e w, tt)
  in_statement place (statements.Do b) w = (one is_block block b w, tt)
  in_statement place (statements.While e b) w = (one is_expression expression e w.0, (one is_block block b w.1, tt))
  in_statement place (statements.Repeat b e) w = (one is_block block b w.0, (one is_expression expression e w.1, tt))
  in_statement place (statements.If arms otherwise) w =
      joined arms (option_to_list otherwise) (many is_arm arm arms w.0) (any is_block block otherwise w.1)
  in_statement place (statements.NumericFor name' a b step body') w = (
    one is_name name name' w.0,
    (
      one is_expression expression a w.1,
      (
        one is_expression expression b w.2,
        joined (option_to_list step) (body' ∷ []) (any is_expression expression step w.3) (one is_block block body' w.4, tt),
      ),
    ),
  )
  in_statement place (statements.GenericFor names es b) w =
      joined names (es ++ b ∷ []) (many is_name name names w.0)
      (joined es (b ∷ []) (many is_expression expression es w.1) (one is_block block b w.2, tt))
  in_statement place (statements.Function p b) w = (one is_path path p w.0, (one is_body body b w.1, tt))
  in_statement place (statements.LocalFunction name' b) w = (one is_name name name' w.0, (one is_body body b w.1, tt))
  in_statement place (statements.Local names es) w =
      joined names es (many is_name name names w.0) (many is_expression expression es w.1)
  in_statement place (statements.Terra p b) w = (one is_path path p w.0, (one is_terra_body terra_body b w.1, tt))
  in_statement place (statements.DeclareTerra p e) w = (one is_path path p w.0, (one is_expression expression e w.1, tt))
  in_statement place (statements.LocalTerra word name' b) w = (one is_name name name' w.0, (one is_terra_body terra_body b w.1, tt))
  in_statement place (statements.LocalDeclareTerra word name' e) w = (one is_name name name' w.0, (one is_expression expression e w.1, tt))
  in_statement place (statements.Struct p entries) w = (one is_path path p w.0, many is_entry entry entries w.1)
  in_statement place (statements.LocalStruct word name' entries) w = (one is_name name name' w.0, many is_entry entry entries w.1)
  in_statement place (statements.Emit e) w = (one is_expression expression e w, tt)
  in_statement place (statements.Return es) w = many is_expression expression es w
  in_statement place statements.Break w = tt

  in_terra_expression : (place : Place) (e : of_terra_expressions.TerraExpression) → WellFormed (of_item at (kept.TerraExpression place e))
      → HaveKind is_code (children_of (kept.TerraExpression place e))
  in_terra_expression place (terra_expressions.Binary op a b) w =
      (one is_terra_expression terra_expression a w.0, (one is_terra_expression terra_expression b w.1, tt))
  in_terra_expression place (terra_expressions.Unary op a) w = (one is_terra_expression terra_expression a w, tt)
  in_terra_expression place (terra_expressions.Paren a) w = (one is_terra_expression terra_expression a w, tt)
  in_terra_expression place (terra_expressions.Escape e) w = (one is_expression expression e w, tt)
  in_terra_expression place (terra_expressions.Index a key) w =
      (one is_terra_expression terra_expression a w.0, (one is_terra_expression terra_expression key w.1, tt))
  in_terra_expression place (terra_expressions.Select a name') w =
      (one is_terra_expression terra_expression a w.0, (one is_terra_name terra_name name' w.1, tt))
  in_terra_expression place (terra_expressions.Call a es) w =
      (one is_terra_expression terra_expression a w.0, many is_terra_expression terra_expression es w.1)
  in_terra_expression place (terra_expressions.Method a name' es) w = (
    one is_terra_expression terra_expression a w.0,
    (one is_terra_name terra_name name' w.1, many is_terra_expression terra_expression es w.2),
  )
  in_terra_expression place (terra_expressions.Construct a es) w =
      (one is_terra_expression terra_expression a w.0, many is_initialiser initialiser es w.1)
  in_terra_expression place _ w = tt

  -- the children of a node are code, but for the statements of a block, the parameters of a Terra function, and what `var` declares
  abbrev pub Placed : Item → Type 0
  Placed (kept.Piece (pieces.Block ns)) = HaveKind is_any_statement ns
  Placed (kept.Piece (pieces.TerraBody place parameters result b)) =
      HaveKind is_binding parameters × HaveKind is_code (option_to_list result ++ b ∷ [])
  Placed (kept.TerraStatement place (terra_statements.Var variables es)) = HaveKind is_binding variables × HaveKind is_code es
  Placed i = HaveKind is_code (children_of i)

  in_terra_statement : (place : Place) (s : of_terra_statements.TerraStatement) → WellFormed (of_item at (kept.TerraStatement place s))
      → Placed (kept.TerraStatement place s)
  in_terra_statement place (terra_statements.Assign targets es) w =
      joined targets es (coded_list targets (terra_targets (numbered.list at targets) w.0.0) w.0.1)
      (many is_terra_expression terra_expression es w.1)
  in_terra_statement place (terra_statements.Call e) w = (one is_terra_call terra_call e w, tt)
  in_terra_statement place (terra_statements.Splice e) w = (one is_escape escape e w, tt)
  in_terra_statement place (terra_statements.Do b) w = (one is_terra_block terra_block b w, tt)
  in_terra_statement place (terra_statements.While e b) w =
      (one is_terra_expression terra_expression e w.0, (one is_terra_block terra_block b w.1, tt))
  in_terra_statement place (terra_statements.Repeat b e) w =
      (one is_terra_block terra_block b w.0, (one is_terra_expression terra_expression e w.1, tt))
  in_terra_statement place (terra_statements.If arms otherwise) w =
      joined arms (option_to_list otherwise) (many is_terra_arm terra_arm arms w.0) (any is_terra_block terra_block otherwise w.1)
  in_terra_statement place (terra_statements.For name' a b step body') w = (
    one is_terra_name terra_name name' w.0,
    (
      one is_terra_expression terra_expression a w.1,
      (
        one is_terra_expression terra_expression b w.2,
        joined (option_to_list step) (body' ∷ []) (any is_terra_expression terra_expression step w.3) (one is_terra_block terra_block body' w.4, tt),
      ),
    ),
  )
  in_terra_statement place (terra_statements.Var variables es) w = (
    (listed (are is_variable) is_binding
        (λ b n e. let parts = and_parts (are is_variable b) (is_variable n) e in (parts.0, or_right (is_parameter n) (is_variable n) parts.1))
        variables t.Nothing w.0).1,
    many is_terra_expression terra_expression es w.1,
  )
  in_terra_statement place (terra_statements.Escape b) w = (one is_block block b w, tt)
  in_terra_statement place (terra_statements.Return es) w = many is_terra_expression terra_expression es w
  in_terra_statement place terra_statements.Break w = tt

  two : (a b : NodeId) → (is_code (at a) && is_code (at b)) ≡ true → WellFormed (at a) × WellFormed (at b) → HaveKind is_code (a ∷ b ∷ [])
  two a b h w = let parts = and_parts (is_code (at a)) (is_code (at b)) h in ((parts.0, w.0), ((parts.1, w.1), tt))

  in_piece : (p : of_pieces.Piece) → WellFormed (of_item at (kept.Piece p))
      → (is_any_statement (of_item at (kept.Piece p)) ≡ false → is_binding (of_item at (kept.Piece p)) ≡ false → is_code (of_item at (kept.Piece p)) ≡ true)
      → Placed (kept.Piece p)
  in_piece (pieces.Block ns) w h =
      (listed (are is_any_statement) is_any_statement (λ b n e. and_parts (are is_any_statement b) (is_any_statement n) e) ns t.Nothing (h refl refl, w)).1
  in_piece (pieces.Arm e b) w h = two e b (h refl refl) w
  in_piece (pieces.Body names variadic b) w h =
      let parts = and_parts (coded (numbered.list at names) Many) (is_code (at b)) (h refl refl) in
      joined names (b ∷ []) (coded_list names parts.0 w.0) ((parts.1, w.1), tt)
  in_piece (pieces.Path names method) w h =
      let parts = and_parts (coded (numbered.list at names) Many) (coded (numbered.if_any at method) Any) (h refl refl) in
      joined names (option_to_list method) (coded_list names parts.0 w.0) (coded_any method parts.1 w.1)
  in_piece (pieces.NamedField name' value) w h = two name' value (h refl refl) w
  in_piece (pieces.KeyedField key value) w h = two key value (h refl refl) w
  in_piece (pieces.Entry name' type) w h = two name' type (h refl refl) w
  in_piece (pieces.Quoted b value) w h =
      (one is_terra_block terra_block b w.0, any is_terra_expression terra_expression value w.1)
  in_piece (pieces.TerraBody place parameters result b) w h = (
    (listed (are is_parameter) is_binding
        (λ b n e. let parts = and_parts (are is_parameter b) (is_parameter n) e in (parts.0, ap (λ x. x || is_variable n) parts.1))
        parameters t.Nothing w.0).1,
    joined (option_to_list result) (b ∷ []) (any is_expression expression result w.1) (one is_terra_block terra_block b w.2, tt),
  )
  in_piece (pieces.Parameter place name' type) w h = (one is_name name name' w.0, (one is_expression expression type w.1, tt))
  in_piece (pieces.SpliceParameter place e) w h = (one is_escape escape e w, tt)
  in_piece (pieces.Variable place name' type) w h = (one is_terra_name terra_name name' w.0, any is_expression expression type w.1)

  pub placed : (i : Item) → WellFormed (of_item at i)
      → (is_any_statement (of_item at i) ≡ false → is_binding (of_item at i) ≡ false → is_code (of_item at i) ≡ true) → Placed i
  placed (kept.Expression place e) w h = in_expression place e w
  placed (kept.Statement place s) w h = in_statement place s w
  placed (kept.TerraExpression place e) w h = in_terra_expression place e w
  placed (kept.TerraStatement place s) w h = in_terra_statement place s w
  placed (kept.Piece p) w h = in_piece p w h
  placed _ w h = tt
