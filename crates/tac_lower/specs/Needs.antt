-- What lowering needs of typed terms: what typing keeps, said by the types and the frame of a function. Where an operand, a
-- place or a result isn't of the type that the node says, no code is promised to do anything.
use Rattle.std.specs.Prelude.{◌≡◌, ◌≢◌, ℕ, suc, ◌+◌, ◌^◌, ◌<◌, ◌≤◌, Bool, true, false, nat_eq, List, [], ◌∷◌, length, map, Some}
use Rattle.tl_base.specs.declared.ids.SymId.{SymId}
use Rattle.tl_base.specs.declared.ids.TypeId.{TypeId}
use Rattle.tl_base.specs.declared.ids.FnId.{FnId}
use Rattle.lua_value.specs.declared.primitive.Primitive.{Primitive}
use Rattle.lua_value.specs.declared.primitive.Primitive.TheVariants as primitives
use Rattle.terra_words.specs.declared.words.BinaryOperator.{BinaryOperator}
use Rattle.terra_words.specs.declared.words.BinaryOperator.TheVariants as operators
use Rattle.terra_words.specs.Runs.{word}
use Rattle.terra_types.specs.declared.types.TypeForm.{TypeForm}
use Rattle.terra_types.specs.declared.types.TypeForm.TheVariants as forms
use Rattle.terra_types.specs.Opening.{boolean}
use Rattle.terra_term.specs.declared.operators.Operation.{Operation}
use Rattle.terra_term.specs.declared.operators.Operation.TheVariants as operations
use Rattle.terra_term.specs.declared.lists.TypedName.{TypedName}
use Rattle.terra_term.specs.TypedTerms.{Expression, typed, Constant', Variable, Global, Operate, Both, Either, Dereference, Select, Follow}
use Rattle.terra_term.specs.TypedTerms.{Element, Index, Address, Decay, Let, Expressions, no_more, then_one, Statement, statement, Var}
use Rattle.terra_term.specs.TypedTerms.{Assign, If, IfElse, While, Repeat, For, Do, Break, Finish, Return, Perform, Statements, done}
use Rattle.terra_term.specs.TypedTerms.{and_then, type_of}
use Rattle.terra_term.specs.Stores.{Contents, Callable, callable_of}
use Rattle.terra_term.specs.WellTyped.{Within}
use Rattle.terra_meaning.specs.Values.{form_at, bytes_at, is_aggregate, target_of, IsValue}
use Rattle.terra_meaning.specs.Frames.{Home, by_value, in_frame, home_at, frame_of}
use Rattle.terra_meaning.specs.Meaning.{Wanted, the_value, the_address, constant, types_of, type_at, in_expression, in_list, in_statement}
use Rattle.terra_meaning.specs.Meaning.{in_block}
use Rattle.tac_lower.specs.Lowering.{type_of_name, are_narrow}
pub use Rattle.terra_words.specs.Words.{is_comparison}

-- types and words

-- forms whose words have all bits of their bytes: integers, pointers and functions
abbrev pub HasNumber : TypeForm → Type 0
HasNumber (forms.Integer i) = Unit {0}
HasNumber (forms.Pointer t) = Unit {0}
HasNumber (forms.Function params result) = Unit {0}
HasNumber _ = ⊥

-- a word is what is wanted: a value of the type, or an address
abbrev pub IsWanted : List TypeForm → Wanted → TypeId → ℕ → Type 0
IsWanted types the_value of x = IsValue types of (word x)
IsWanted types the_address of x = x < 2 ^ 64

-- what is asked for is a value
abbrev pub IsValueWanted : Wanted → Type 0
IsValueWanted the_value = Unit {0}
IsValueWanted the_address = ⊥

-- each word is a value of the type
abbrev pub IsWide : List TypeForm → TypeId → Type 0
IsWide types of = (x : ℕ) → x < 2 ^ 64 → IsValue types of (word x)

-- the first of some types is this
abbrev pub Begins : TypeId → List TypeId → Type 0
Begins of [] = ⊥
Begins of (t ∷ ts) = t ≡ of

-- variables

-- the nearest variable of a symbol has this type
abbrev pub by_test : Bool → Type 0 → Type 0 → Type 0
by_test true a b = a
by_test false a b = b

abbrev pub InScope : SymId → TypeId → List TypedName → Type 0
InScope x of [] = ⊥
InScope x of (y ∷ ys) = by_test (nat_eq x.0 y.symbol.0) (of ≡ y.of) (InScope x of ys)

-- where a declaration's variable may be: alone where it is no aggregate, or within the frame
abbrev pub GoodHome : List TypeForm → (frame : ℕ) → TypeId → Home → Type 0
GoodHome types frame of by_value = is_aggregate types of ≡ false
GoodHome types frame of (in_frame offset) = offset + bytes_at types of ≤ frame

-- declarations from the k-th on may be where they are, and have values of their types, or none
abbrev pub DeclaresWell : List TypeForm → (frame : ℕ) → List Home → ℕ → List TypedName → List TypeId → Type 0
DeclaresWell types frame homes k [] ts = Unit {0}
DeclaresWell types frame homes k (x ∷ xs) [] =
    GoodHome types frame x.of (home_at homes k) × DeclaresWell types frame homes (suc k) xs []
DeclaresWell types frame homes k (x ∷ xs) (t ∷ ts) =
    GoodHome types frame x.of (home_at homes k) × (t ≡ x.of) × DeclaresWell types frame homes (suc k) xs ts

-- the names in scope after declarations, after a statement, and after statements
abbrev pub declared_names : List TypedName → List TypedName → List TypedName
declared_names [] names = names
declared_names (x ∷ xs) names = declared_names xs (x ∷ names)

abbrev pub names_after_one : Statement → List TypedName → List TypedName
names_after_one (statement at (Var xs values)) names = declared_names xs names
names_after_one _ names = names

abbrev pub names_after : Statements → List TypedName → List TypedName
names_after done names = names
names_after (and_then s ss) names = names_after ss (names_after_one s names)

-- operations

-- the operators on the bits of two words of one type
abbrev pub joins_bits : BinaryOperator → Bool
joins_bits operators.Xor = true
joins_bits operators.And = true
joins_bits operators.Or = true
joins_bits _ = false

-- a comparison gives a bool, and another operator a value of its first operand's type
abbrev pub BinaryNeeds : List TypeForm → Bool → TypeId → TypeId → Type 0
BinaryNeeds types true first of = form_at types of ≡ forms.Bool
BinaryNeeds types false first of = HasNumber (form_at types first) × (first ≡ of)

abbrev pub PrimitiveNeeds : List TypeForm → Primitive → TypeId → Type 0
PrimitiveNeeds types primitives.PutByte of = IsValue types of (word 0)
PrimitiveNeeds types primitives.Write of = IsValue types of (word 0)
PrimitiveNeeds types primitives.Alloc of = IsWide types of

-- a type with numbers where it isn't the type of bools
abbrev pub NumberUnless : List TypeForm → Bool → TypeId → Type 0
NumberUnless types true of = Unit {0}
NumberUnless types false of = HasNumber (form_at types of)

-- entries lie within a size
abbrev pub EntriesFit : List TypeForm → (size : ℕ) → List ℕ → List TypeId → Type 0
EntriesFit types size (o ∷ os) (t ∷ ts) = (o + bytes_at types t ≤ size) × EntriesFit types size os ts
EntriesFit types size _ _ = Unit {0}

-- the callee of a call is there, with parameters of these types, which values have, and this result
abbrev pub CallNeeds : Contents → FnId → List TypeId → TypeId → Type 0
CallNeeds store f ts of =
    (k : Callable) × (callable_of store f ≡ Some k) × (ts ≡ map type_of_name k.body.parameters) × (k.body.result ≡ of) ×
    (are_narrow store.types ts ≡ true)

-- what operations need of the types of their operands and their results
abbrev pub OperationNeeds : List TypeForm → (FnId → List TypeId → TypeId → Type 0) → Operation → List TypeId → TypeId → Type 0
OperationNeeds types Called operations.Negate ts of = HasNumber (form_at types of)
OperationNeeds types Called operations.Not ts of = Begins of ts × NumberUnless types (nat_eq of.0 boolean.0) of
OperationNeeds types Called (operations.Binary op) ts of =
    BinaryNeeds types (is_comparison op) (type_at ts 0) of × (joins_bits op ≡ true → type_at ts 1 ≡ type_at ts 0)
OperationNeeds types Called operations.StepForward ts of = IsWide types of
OperationNeeds types Called operations.StepBack ts of = IsWide types of
OperationNeeds types Called operations.Difference ts of = (bytes_at types (target_of types (type_at ts 0)) ≢ 0) × IsWide types of
OperationNeeds types Called operations.Convert ts of = NumberUnless types (nat_eq of.0 boolean.0) of
OperationNeeds types Called (operations.Extract offset) [] of = ⊥
OperationNeeds types Called (operations.Extract offset) (t ∷ ts) of =
    (is_aggregate types t ≡ true) × (offset + bytes_at types of ≤ bytes_at types t)
OperationNeeds types Called (operations.Call f) ts of = Called f ts of
OperationNeeds types Called (operations.Primitive p) ts of = PrimitiveNeeds types p of
OperationNeeds types Called operations.CallValue [] of = ⊥
OperationNeeds types Called operations.CallValue (t ∷ ts) of =
    (form_at types t ≡ forms.Function ts of) × (are_narrow types ts ≡ true)
OperationNeeds types Called (operations.Construct offsets) ts of =
    (is_aggregate types of ≡ true) × EntriesFit types (bytes_at types of) offsets ts

-- terms

-- a loop is left by breaks, and statements in it may break
abbrev pub in_loop : Within → Within
in_loop w = record w { in_loop = true }

-- the statements of a `let` neither break nor give back
abbrev pub in_let : Within → Within
in_let w = record w { in_loop = false; in_let = true }

-- What a term needs, where these names are in scope, and so many declarations of the function stand before it.
module _ (types : List TypeForm) (frame : ℕ) (entries : List FnId) (homes : List Home) (outside : Within)
    (OperationNeeds : Operation → List TypeId → TypeId → Type 0) where
  abbrev mutual
    pub Needs : Wanted → List TypedName → ℕ → Expression → Type 0
    Needs want names from (typed at of (Constant' k)) = IsWanted types want of (constant entries k)
    Needs want names from (typed at of (Variable x)) = InScope x of names
    Needs want names from (typed at of (Global address)) = address < 2 ^ 64
    Needs want names from (typed at of (Operate op es)) = IsValueWanted want × NeedsAll names from es × OperationNeeds op (types_of es) of
    Needs want names from (typed at of (Both x y)) =
        IsValueWanted want × Needs the_value names from x × Needs the_value names (from + in_expression x) y × (type_of x ≡ of) ×
        (type_of y ≡ of) × (is_aggregate types of ≡ false)
    Needs want names from (typed at of (Either x y)) =
        IsValueWanted want × Needs the_value names from x × Needs the_value names (from + in_expression x) y × (type_of x ≡ of) ×
        (type_of y ≡ of) × (form_at types of ≡ forms.Bool)
    Needs want names from (typed at of (Dereference p)) = Needs the_value names from p
    Needs want names from (typed at of (Select offset e)) =
        Needs the_address names from e × (offset + bytes_at types of ≤ bytes_at types (type_of e))
    Needs want names from (typed at of (Follow offset p)) = Needs the_value names from p
    Needs want names from (typed at of (Element e i)) = Needs the_address names from e × Needs the_value names (from + in_expression e) i
    Needs want names from (typed at of (Index p i)) = Needs the_value names from p × Needs the_value names (from + in_expression p) i
    Needs want names from (typed at of (Address e)) = Needs the_address names from e × ((x : ℕ) → x < 2 ^ 64 → IsWanted types want of x)
    Needs want names from (typed at of (Decay e)) = Needs the_address names from e × ((x : ℕ) → x < 2 ^ 64 → IsWanted types want of x)
    Needs want names from (typed at of (Let block e)) =
        IsValueWanted want × NeedsBlock (in_let outside) names from block ×
        Needs the_value (names_after block names) (from + in_block block) e × (type_of e ≡ of)

    pub NeedsAll : List TypedName → ℕ → Expressions → Type 0
    NeedsAll names from no_more = Unit {0}
    NeedsAll names from (then_one e es) = Needs the_value names from e × NeedsAll names (from + in_expression e) es

    pub NeedsTargets : List TypedName → ℕ → Expressions → Type 0
    NeedsTargets names from no_more = Unit {0}
    NeedsTargets names from (then_one e es) = Needs the_address names from e × NeedsTargets names (from + in_expression e) es

    pub NeedsOne : Within → List TypedName → ℕ → Statement → Type 0
    NeedsOne w names from (statement at (Var xs values)) =
        NeedsAll names from values × DeclaresWell types frame homes (from + in_list values) xs (types_of values)
    NeedsOne w names from (statement at (Assign places values)) =
        NeedsAll names from values × NeedsTargets names (from + in_list values) places × (types_of places ≡ types_of values)
    NeedsOne w names from (statement at (If test block)) =
        Needs the_value names from test × NeedsBlock w names (from + in_expression test) block
    NeedsOne w names from (statement at (IfElse test block other)) =
        Needs the_value names from test × NeedsBlock w names (from + in_expression test) block ×
        NeedsBlock w names (from + in_expression test + in_block block) other
    NeedsOne w names from (statement at (While test body)) =
        Needs the_value names from test × NeedsBlock (in_loop w) names (from + in_expression test) body
    NeedsOne w names from (statement at (Repeat body test)) =
        NeedsBlock (in_loop w) names from body × Needs the_value (names_after body names) (from + in_block body) test
    NeedsOne w names from (statement at (For x bounds body)) =
        NeedsAll names from bounds × HasNumber (form_at types x.of) × Begins x.of (types_of bounds) ×
        GoodHome types frame x.of (home_at homes (from + in_list bounds)) ×
        NeedsBlock (in_loop w) (x ∷ names) (suc (from + in_list bounds)) body
    NeedsOne w names from (statement at (Do body)) = NeedsBlock w names from body
    NeedsOne w names from (statement at Break) = w.in_loop ≡ true
    NeedsOne w names from (statement at Finish) = IsValue types w.result (word 0) × (w.in_let ≡ false)
    NeedsOne w names from (statement at (Return e)) = Needs the_value names from e × (type_of e ≡ w.result) × (w.in_let ≡ false)
    NeedsOne w names from (statement at (Perform e)) = Needs the_value names from e

    pub NeedsBlock : Within → List TypedName → ℕ → Statements → Type 0
    NeedsBlock w names from done = Unit {0}
    NeedsBlock w names from (and_then s ss) = NeedsOne w names from s × NeedsBlock w (names_after_one s names) (from + in_statement s) ss

-- what a function of a store needs, where these functions stand as values
abbrev pub BodyNeeds : Contents → List FnId → Callable → Type 0
BodyNeeds store entries k =
    let f = frame_of store.types k.body in
    let w : Within = record { result = k.body.result; in_loop = false; in_let = false } in
    let parameters = k.body.parameters in
    DeclaresWell store.types f.size f.homes 0 parameters (map type_of_name parameters)
    × NeedsBlock store.types f.size entries f.homes w (OperationNeeds store.types (CallNeeds store)) w (declared_names parameters [])
    (length parameters) k.body.body
