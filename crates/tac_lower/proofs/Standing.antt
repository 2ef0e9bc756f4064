-- A call of lowered code in progress, beside the state of the terms' meaning: where it stands, and what it leads to.
use Rattle.std.proofs.Common.{◌≡◌, ℕ, ◌+◌, ◌<◌, ◌≤◌, List, [], ◌∷◌, ◌++◌, length, Some, refl, ap, ◌∙◌}
use Rattle.std.specs.Prelude.{◌^◌, ◌≢◌}
use Rattle.tl_base.specs.declared.ids.TypeId.{TypeId}
use Rattle.tl_base.specs.declared.ids.FnId.{FnId}
use Rattle.terra_words.specs.Runs.{Value, word, bytes, number, Run}
use Rattle.terra_types.specs.declared.types.TypeForm.{TypeForm}
use Rattle.terra_types.specs.declared.types.TypeForm.TheVariants as forms
use Rattle.terra_types.specs.Opening.{boolean, unit}
use Rattle.terra_types.specs.Sizes.{bytes_of}
use Rattle.terra_term.specs.declared.lists.TypedName.{TypedName}
use Rattle.terra_meaning.specs.Values.{form_at, bytes_at, IsValue}
use Rattle.terra_meaning.specs.Running.{Held, held, lies, Variable, State, Got, Gives, Ends}
use Rattle.terra_meaning.specs.Meaning.{Wanted, the_value, the_address}
use Rattle.tac_form.specs.declared.tac.Operand.{Operand}
use Rattle.tac_form.specs.declared.tac.Operand.TheVariants.{Temp, Constant}
use Rattle.tac_form.specs.declared.tac.Instruction.{Instruction}
use Rattle.tac_form.specs.declared.tac.Exit.{Exit}
use Rattle.tac_form.specs.declared.tac.Tac.{Tac}
use Rattle.tac_form.specs.Flow as flow
use Rattle.tac_form.specs.Flow.{Program, Temps, Areas, Caller, Moved, Goes, Stops, steps, act, leave, in_function, in_block}
use Rattle.tac_form.specs.Flow.{step_in, area_size}
use Rattle.tac_form.proofs.OneRun.{steps-add}
use Rattle.tac_lower.specs.Pieces.{Used, Result, a_word, an_area, an_offset, Holder, in_temp, at_offset, Holders}
use Rattle.tac_lower.proofs.Places.{Point, DoesAt, EndsAt}

-- how many bytes the values of a form have that are no aggregates
abbrev pub SizedBy : TypeForm → ℕ → Type 0
SizedBy (forms.Integer i) n = n ≡ bytes_of i
SizedBy forms.Bool n = n ≡ 1
SizedBy forms.Unit n = n ≡ 0
SizedBy (forms.Pointer t) n = n ≡ 8
SizedBy (forms.Function params result) n = n ≡ 8
SizedBy _ n = Unit {0}

-- A call of a function in a program: its code, its frame's address, its callers, and the types.
pub record Setting : Type 0 where
  pub program : Program
  pub tac : Tac
  pub function : FnId
  pub base : ℕ
  pub callers : List Caller
  pub types : List TypeForm
  pub memory : ℕ
  pub there : program.code function ≡ Some tac
  pub low : base + tac.frame < 2 ^ 64
  pub room : memory ≤ 67108864
  pub sizes : (t : TypeId) → SizedBy (form_at types t) (bytes_at types t)
  pub boolean_is : form_at types boolean ≡ forms.Bool
  pub unit_is : form_at types unit ≡ forms.Unit

-- what a call keeps for itself
pub record Private : Type 0 where
  pub temps : Temps
  pub areas : Areas

-- the state in which the call stands at a place, where memory, count and output are those of the meaning
abbrev pub stands : Setting → Point → Private → State → flow.State
stands z at k s = record {
  here = record {
    function = z.function;
    block = at.block;
    at = at.at;
    temps = k.temps;
    areas = k.areas;
    base = z.base;
  };
  callers = z.callers;
  region = s.region;
  left = s.left;
  out = s.out;
}

abbrev pub Leads : Setting → Point → Private → State → Point → Private → State → Type 0
Leads z at k s to k' s' = (j : ℕ) × (steps z.program j (Goes (stands z at k s)) ≡ Goes (stands z to k' s'))

abbrev pub Halts : Setting → Point → Private → State → Run → Type 0
Halts z at k s r = (j : ℕ) × (steps z.program j (Goes (stands z at k s)) ≡ Stops r)

-- steps

pub leads-to : (z : Setting) (a : Point) (k : Private) (s : State) (b : Point) (k1 : Private) (s1 : State) (m : Moved) →
    Leads z a k s b k1 s1 → (j : ℕ) × (steps z.program j (Goes (stands z b k1 s1)) ≡ m) →
    (j : ℕ) × (steps z.program j (Goes (stands z a k s)) ≡ m)
leads-to z a k s b k1 s1 m x y =
    (x.0 + y.0, steps-add z.program x.0 y.0 (Goes (stands z a k s)) ∙ ap (steps z.program y.0) x.1 ∙ y.1)

pub leads-none : (z : Setting) (a : Point) (k : Private) (s : State) → Leads z a k s a k s
leads-none z a k s = (0, refl)

-- one instruction, and the end of a block
pub one-step : (z : Setting) (a : Point) (k : Private) (s : State) (i : Instruction) → DoesAt z.tac.blocks a i →
    steps z.program 1 (Goes (stands z a k s)) ≡ act z.program i (stands z a k s)
one-step z a k s i h =
    ap (λ o. in_function z.program o (stands z a k s)) z.there
    ∙ ap (λ o. in_block z.program o (stands z a k s)) h.there
    ∙ ap (λ o. step_in z.program h.block.exit o (stands z a k s)) h.does

pub one-end : (z : Setting) (a : Point) (k : Private) (s : State) (e : Exit) → EndsAt z.tac.blocks a e →
    steps z.program 1 (Goes (stands z a k s)) ≡ leave z.program e (stands z a k s)
one-end z a k s e h =
    ap (λ o. in_function z.program o (stands z a k s)) z.there
    ∙ ap (λ o. in_block z.program o (stands z a k s)) h.there
    ∙ ap (λ o. step_in z.program h.block.exit o (stands z a k s)) h.does
    ∙ ap (λ x. leave z.program x (stands z a k s)) h.ends

-- words and values

abbrev pub word_in : Private → Operand → ℕ
word_in k (Temp t) = k.temps t
word_in k (Constant c) = c

abbrev pub value_in : Setting → Private → Result → Value
value_in z k (a_word a) = word (word_in k a)
value_in z k (an_area n) = bytes (k.areas n)
value_in z k (an_offset o) = word (z.base + o)

pub operand-is : (z : Setting) (a : Point) (k : Private) (s : State) (o : Operand) → flow.operand (stands z a k s) o ≡ word_in k o
operand-is z a k s (Temp t) = refl
operand-is z a k s (Constant c) = refl

-- variables

-- a temporary isn't a variable's
abbrev pub Elsewhere : ℕ → Holder → Type 0
Elsewhere t (in_temp u) = t ≢ u
Elsewhere t (at_offset o) = Unit {0}

abbrev pub Apart : ℕ → Holders → Type 0
Apart t [] = Unit {0}
Apart t (b ∷ bs) = Elsewhere t b.holder × Apart t bs

-- a variable of a type is what its holder says
abbrev pub Is : Setting → TypeId → Holder → Held → (limit : ℕ) → Private → Type 0
Is z of (in_temp t) (held w) limit k = (t < limit) × (k.temps t ≡ w) × IsValue z.types of (word w)
Is z of (at_offset o) (lies a) limit k = (a ≡ z.base + o) × (o + bytes_at z.types of ≤ z.tac.frame)
Is z of _ _ limit k = ⊥

abbrev pub below : Holder → ℕ → ℕ
below (in_temp t) limit = t
below (at_offset o) limit = limit

-- the variables in scope, in temporaries below a number that fall from the nearest outwards
abbrev pub Holds : Setting → List TypedName → Holders → List Variable → (limit : ℕ) → Private → Type 0
Holds z [] [] [] limit k = Unit {0}
Holds z (x ∷ xs) (b ∷ bs) (v ∷ vs) limit k =
    (b.symbol ≡ x.symbol) × (v.symbol ≡ x.symbol) × Is z x.of b.holder v.is limit k × Holds z xs bs vs (below b.holder limit) k
Holds z _ _ _ limit k = ⊥

-- What holds where the call stands: its variables, areas no longer than they may be, and a region of its size.
pub record Fine (z : Setting) (names : List TypedName) (scope : Holders) (u : Used) (k : Private) (s : State) : Type 0 where
  pub holds : Holds z names scope s.variables u.temps k
  pub small : (n : ℕ) → length (k.areas n) ≤ area_size z.tac n
  pub sized : length s.region.bytes ≡ z.memory

-- What a stretch of code leaves: the temporaries used before it that are no variables', and the areas used before it.
pub record Keeps (scope : Holders) (u : Used) (k k' : Private) : Type 0 where
  pub temps : (t : ℕ) → t < u.temps → Apart t scope → k'.temps t ≡ k.temps t
  pub areas : (n : ℕ) → n < length u.areas → k'.areas n ≡ k.areas n

-- More is used.
pub record Grown (u u' : Used) : Type 0 where
  pub temps : u.temps ≤ u'.temps
  pub areas : (more : List ℕ) × (u'.areas ≡ u.areas ++ more)

-- results

-- later code keeps it
abbrev pub Own : Holders → Used → Result → Type 0
Own scope u (a_word (Temp t)) = (t < u.temps) × Apart t scope
Own scope u (a_word (Constant c)) = Unit {0}
Own scope u (an_area n) = n < length u.areas
Own scope u (an_offset o) = Unit {0}

-- a value has its type; an address is a word, and one in the frame is that of bytes in the frame
abbrev pub Good : Setting → Wanted → TypeId → Result → Value → Type 0
Good z the_value of (an_offset o) v = ⊥
Good z the_value of r v = IsValue z.types of v
Good z the_address of (an_area n) v = ⊥
Good z the_address of (an_offset o) v = o + bytes_at z.types of ≤ z.tac.frame
Good z the_address of r v = number v < 2 ^ 64

pub record Means (z : Setting) (want : Wanted) (of : TypeId) (scope : Holders) (u : Used) (r : Result) (k : Private)
    (v : Value) : Type 0 where
  pub is : value_in z k r ≡ v
  pub own : Own scope u r
  pub good : Good z want of r v

-- What a stretch of code leads to where the meaning gives something.
pub record Comes (z : Setting) (names : List TypedName) (scope : Holders) (at : Point) (u : Used) (k : Private) (s : State)
    (to : Point) (names' : List TypedName) (scope' : Holders) (u' : Used) (s' : State) (Ok : Private → Type 0) : Type 0 where
  pub private : Private
  pub leads : Leads z at k s to private s'
  pub ok : Ok private
  pub fine : Fine z names' scope' u' private s'
  pub keeps : Keeps scope u k private
  pub fewer : s'.left ≤ s.left

-- What code leads to, by what the meaning gives.
abbrev pub Leaves : {A : Type 0} → Setting → Point → Private → State → (A → State → Type 0) → Got A → Type 0
Leaves z at k s Ok (Gives a s') = Ok a s'
Leaves z at k s Ok (Ends r) = Halts z at k s r
