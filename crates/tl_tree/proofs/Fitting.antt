-- Where one tree is to stand, a list of trees, and one tree or none: what the kinds of children say of it.
use Rattle.std.proofs.Common.{◌≡◌, Bool, true, false, refl}
use Rattle.std.specs.Prelude.{◌&&◌, not}
use Rattle.std.proofs.lemmas.Bool.{false≢true, and_from, and_parts}
use Rattle.tl_tree.specs.Tree.{Tree, Nothing, More, Just, Name, Block, Arm, Body, Path, NamedField, KeyedField, Entry}
use Rattle.tl_tree.specs.Tree.{Escape, TerraUnary, TerraBinary, TerraParen, TerraIndex, TerraSelect, Construct}
use Rattle.tl_tree.specs.Kinds.{are, is_if_any, is_name, is_target, is_call, is_expression, is_field, is_entry, is_path}
use Rattle.tl_tree.specs.Kinds.{is_statement, is_block, is_arm, is_body, is_escape, is_first_target}
use Rattle.tl_tree.specs.Kinds.{are_terra_targets, is_terra_name, is_terra_call, is_terra_expression, is_initialiser}
use Rattle.tl_tree.specs.Kinds.{is_terra_statement, is_terra_block, is_terra_arm, is_parameter, is_variable}
use Rattle.tl_tree.specs.Kinds.{is_terra_body, is_quoted}

-- what stands somewhere
pub data Slot : Type 0 where
  One Many Any : Slot

abbrev pub fits : Tree → Slot → Bool
fits Nothing One = false
fits (More before next) One = false
fits (Just a) One = false
fits (Block statements) One = fits statements Many
fits (Arm e block) One = fits e One && fits block One
fits (Body names variadic block) One = fits names Many && fits block One
fits (Path names method) One = fits names Many && fits method Any
fits (NamedField name value) One = fits name One && fits value One
fits (KeyedField key value) One = fits key One && fits value One
fits (Entry name type) One = fits name One && fits type One
fits _ One = true
fits Nothing Many = true
fits (More before next) Many = fits before Many && fits next One
fits _ Many = false
fits Nothing Any = true
fits (Just a) Any = fits a One
fits _ Any = false

abbrev pub Fits : Slot → Tree → Type 0
Fits s a = fits a s ≡ true

-- of a kind is only what fits as one tree
abbrev Single : (Tree → Bool) → Type 0
Single kind = (a : Tree) → kind a ≡ true → Fits One a

-- ---- kinds that look at a node alone: by a test that computes at each constructor

from_test : (b d : Bool) → (b && not d) ≡ false → b ≡ true → d ≡ true
from_test true true e h = refl
from_test true false e h = absurd cc
from_test false d e h = absurd (false≢true h)

-- a node whose kind doesn't say what it holds
abbrev is_plain : Tree → Bool
is_plain Nothing = false
is_plain (More before next) = false
is_plain (Just a) = false
is_plain (Block statements) = false
is_plain (Arm e block) = false
is_plain (Body names variadic block) = false
is_plain (Path names method) = false
is_plain (NamedField name value) = false
is_plain (KeyedField key value) = false
is_plain (Entry name type) = false
is_plain _ = true

plain_fits : Single is_plain
plain_fits Nothing h = h
plain_fits (More before next) h = h
plain_fits (Just a) h = h
plain_fits (Block statements) h = absurd (false≢true h)
plain_fits (Arm e block) h = absurd (false≢true h)
plain_fits (Body names variadic block) h = absurd (false≢true h)
plain_fits (Path names method) h = absurd (false≢true h)
plain_fits (NamedField name value) h = absurd (false≢true h)
plain_fits (KeyedField key value) h = absurd (false≢true h)
plain_fits (Entry name type) h = absurd (false≢true h)
plain_fits _ h = refl

abbrev IsPlain : (Tree → Bool) → Type 0
IsPlain kind = (a : Tree) → (kind a && not (is_plain a)) ≡ false

single : (kind : Tree → Bool) → IsPlain kind → Single kind
single kind p a h = plain_fits a (from_test (kind a) (is_plain a) (p a) h)

plain_name : IsPlain is_name
plain_name Nothing = refl
plain_name _ = refl

pub name : Single is_name
name = single is_name plain_name

plain_target : IsPlain is_target
plain_target Nothing = refl
plain_target _ = refl

pub target : Single is_target
target = single is_target plain_target

plain_call : IsPlain is_call
plain_call Nothing = refl
plain_call _ = refl

pub call : Single is_call
call = single is_call plain_call

plain_expression : IsPlain is_expression
plain_expression Nothing = refl
plain_expression _ = refl

pub expression : Single is_expression
expression = single is_expression plain_expression

plain_statement : IsPlain is_statement
plain_statement Nothing = refl
plain_statement _ = refl

pub statement : Single is_statement
statement = single is_statement plain_statement

plain_escape : IsPlain is_escape
plain_escape Nothing = refl
plain_escape _ = refl

pub escape : Single is_escape
escape = single is_escape plain_escape

plain_terra_name : IsPlain is_terra_name
plain_terra_name Nothing = refl
plain_terra_name _ = refl

pub terra_name : Single is_terra_name
terra_name = single is_terra_name plain_terra_name

plain_terra_call : IsPlain is_terra_call
plain_terra_call Nothing = refl
plain_terra_call _ = refl

pub terra_call : Single is_terra_call
terra_call = single is_terra_call plain_terra_call

plain_terra_expression : IsPlain is_terra_expression
plain_terra_expression Nothing = refl
plain_terra_expression _ = refl

pub terra_expression : Single is_terra_expression
terra_expression = single is_terra_expression plain_terra_expression

plain_terra_statement : IsPlain is_terra_statement
plain_terra_statement Nothing = refl
plain_terra_statement _ = refl

pub terra_statement : Single is_terra_statement
terra_statement = single is_terra_statement plain_terra_statement

plain_parameter : IsPlain is_parameter
plain_parameter Nothing = refl
plain_parameter _ = refl

pub parameter : Single is_parameter
parameter = single is_parameter plain_parameter

plain_variable : IsPlain is_variable
plain_variable Nothing = refl
plain_variable _ = refl

pub variable : Single is_variable
variable = single is_variable plain_variable

plain_terra_body : IsPlain is_terra_body
plain_terra_body Nothing = refl
plain_terra_body _ = refl

pub terra_body : Single is_terra_body
terra_body = single is_terra_body plain_terra_body

plain_quoted : IsPlain is_quoted
plain_quoted Nothing = refl
plain_quoted _ = refl

pub quoted : Single is_quoted
quoted = single is_quoted plain_quoted

-- ---- lists, and what may be left out

pub all : (kind : Tree → Bool) → Single kind → (a : Tree) → are kind a ≡ true → Fits Many a
all kind p Nothing h = refl
all kind p (More before next) h =
    let parts = and_parts (are kind before) (kind next) h in
    and_from (fits before Many) (fits next One) (all kind p before parts.0) (p next parts.1)
all kind p _ h = absurd (false≢true h)

pub if_any : (kind : Tree → Bool) → Single kind → (a : Tree) → is_if_any kind a ≡ true → Fits Any a
if_any kind p Nothing h = refl
if_any kind p (Just a) h = p a h
if_any kind p _ h = absurd (false≢true h)

-- ---- kinds that look at what a node holds

first_target : (a : Tree) → is_first_target a ≡ true → is_terra_expression a ≡ true
first_target (TerraUnary place op a) h = refl
first_target (TerraBinary place op a b) h = refl
first_target (Name place offset text) h = refl
first_target (Escape place e) h = refl
first_target (TerraParen place a) h = refl
first_target (TerraIndex place a key) h = refl
first_target (TerraSelect place a name') h = refl
first_target (Construct place a initialisers) h = refl
first_target _ h = absurd (false≢true h)

pub terra_targets : (a : Tree) → are_terra_targets a ≡ true → Fits Many a
terra_targets (More Nothing first) h = terra_expression first (first_target first h)
terra_targets (More before next) h =
    let parts = and_parts (are_terra_targets before) (is_terra_expression next) h in
    and_from (fits before Many) (fits next One) (terra_targets before parts.0) (terra_expression next parts.1)
terra_targets _ h = absurd (false≢true h)

both : (k l : Tree → Bool) → Single k → Single l → (a b : Tree) → (k a && l b) ≡ true
    → (fits a One && fits b One) ≡ true
both k l p q a b h = let parts = and_parts (k a) (l b) h in
    and_from (fits a One) (fits b One) (p a parts.0) (q b parts.1)

pub field : Single is_field
field (NamedField name' value) h = both is_name is_expression name expression name' value h
field (KeyedField key value) h = both is_expression is_expression expression expression key value h
field a h = expression a h

pub initialiser : Single is_initialiser
initialiser (NamedField name' value) h = both is_name is_terra_expression name terra_expression name' value h
initialiser a h = terra_expression a h

pub entry : Single is_entry
entry (Entry name' type) h = both is_name is_expression name expression name' type h
entry _ h = absurd (false≢true h)

pub path : Single is_path
path (Path names method) h =
    let parts = and_parts (are is_name names) (is_if_any is_name method) h in
    and_from (fits names Many) (fits method Any) (all is_name name names parts.0) (if_any is_name name method parts.1)
path _ h = absurd (false≢true h)

pub block : Single is_block
block (Block statements) h = all is_statement statement statements h
block _ h = absurd (false≢true h)

pub terra_block : Single is_terra_block
terra_block (Block statements) h = all is_terra_statement terra_statement statements h
terra_block _ h = absurd (false≢true h)

pub arm : Single is_arm
arm (Arm e b) h = both is_expression is_block expression block e b h
arm _ h = absurd (false≢true h)

pub terra_arm : Single is_terra_arm
terra_arm (Arm e b) h = both is_terra_expression is_terra_block terra_expression terra_block e b h
terra_arm _ h = absurd (false≢true h)

pub body : Single is_body
body (Body names variadic b) h =
    let parts = and_parts (are is_name names) (is_block b) h in
    and_from (fits names Many) (fits b One) (all is_name name names parts.0) (block b parts.1)
body _ h = absurd (false≢true h)
