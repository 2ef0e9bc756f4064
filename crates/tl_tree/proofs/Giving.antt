-- What holds of every value that a grammar gives: the kinds of trees, form by form.
use Rattle.std.proofs.Common.{◌≡◌, ℕ, Bool, true, List, Option, Some, None, refl, sym, subst, inl, inr}
use Rattle.std.proofs.lemmas.Bool.{and_from}
use Rattle.tl_base.specs.declared.place.Place.{Place}
use Rattle.tl_tree.specs.declared.symbol.Symbol.{Symbol}
use Rattle.tl_tree.specs.declared.mode.TokenUse.{TokenUse}
use Rattle.tl_tree.specs.Tokens.{Token}
use Rattle.tl_tree.specs.Tree.{Tree, More, Nothing, Part, Expression, Operand, Concatenation, Arguments, Fields}
use Rattle.tl_tree.specs.Tree.{Statements, FunctionBody, Entries, TerraExpression, TerraOperand, TerraArguments}
use Rattle.tl_tree.specs.Tree.{Initialisers, TerraStatements, TerraFunctionBody, QuotedCode}
use Rattle.tl_tree.specs.Grammar.{Grammar, give, token, bind, when, many, Rule, Parts, Turns, stop, turn, Reads, Opened}
use Rattle.tl_tree.specs.Grammar.{is_of}
use Rattle.tl_tree.specs.Forms.{opening, opening_at, listed, listed_behind, separated_behind}
use Rattle.tl_tree.specs.Kinds.{are, is_expression, is_field, is_entry, is_block, is_body, is_terra_expression}
use Rattle.tl_tree.specs.Kinds.{is_initialiser, is_terra_block, is_terra_body, is_quoted, WellFormed}

-- a well formed tree of a kind
abbrev pub Has : (Tree → Bool) → Tree → Type 0
Has kind a = (kind a ≡ true) × WellFormed a

-- the kind of the tree of a part
abbrev pub kind_of : Part → Tree → Bool
kind_of (Expression m) a = is_expression a
kind_of (Operand m) a = is_expression a
kind_of (Concatenation m) a = is_expression a
kind_of (Arguments m) a = are is_expression a
kind_of (Fields m) a = are is_field a
kind_of (Statements c) a = is_block a
kind_of FunctionBody a = is_body a
kind_of (Entries m) a = are is_entry a
kind_of TerraExpression a = is_terra_expression a
kind_of TerraOperand a = is_terra_expression a
kind_of TerraArguments a = are is_terra_expression a
kind_of Initialisers a = are is_initialiser a
kind_of TerraStatements a = is_terra_block a
kind_of (TerraFunctionBody place) a = is_terra_body a
kind_of QuotedCode a = is_quoted a

abbrev pub PartHas : Part → Tree → Type 0
PartHas part x = (kind_of part x ≡ true) × WellFormed x

-- what a token opens
abbrev pub OpenedHas : Option Part → Tree → Type 0
OpenedHas None x = Unit {0}
OpenedHas (Some part) x = PartHas part x

-- what all parts give is so
abbrev pub Kept : Parts → Type 0
Kept parts = (part : Part) (ts : List Token) (x : Tree) (rest : List Token) → parts part ts x rest → PartHas part x

-- under a rule, with so many levels left
pub record Gives {A : Type 0} (rule : Rule) (levels : ℕ) (parts : Parts) (P : A → Type 0) (g : Grammar A) : Type 0 where
  pub all : (ts : List Token) (b : A) (rest : List Token) → Reads rule levels parts g ts b rest → P b

-- what each turn of a repetition keeps, the repetition keeps
turns_keep : {A : Type 0} (P : A → Type 0) (class : A → Token → Bool)
    (Turn : A → Token → List Token → A → List Token → Type 0)
    → ((a : A) (t : Token) (ts : List Token) (x : A) (mid : List Token) → P a → is_of (class a) t ≡ true
    → Turn a t ts x mid → P x) → {a b : A} {ts rest : List Token} → P a → Turns class Turn a ts b rest → P b
turns_keep P class Turn keep p (stop e) = p
turns_keep P class Turn keep p (turn {a} {x} {b} {t} {ts} {mid} {rest} is this more) =
    turns_keep P class Turn keep (keep a t ts x mid p is this) more

opened_has : (parts : Parts) → Kept parts → (o : Option Part) (ts : List Token) (x : Tree) (rest : List Token)
    → Opened parts o ts x rest → OpenedHas o x
opened_has parts kept None ts x rest h = tt
opened_has parts kept (Some part) ts x rest h = kept part ts x rest h

-- one more tree of a list
pub one_more : (kind : Tree → Bool) (before e : Tree) → Has (are kind) before → Has kind e
    → Has (are kind) (More before e)
one_more kind before e p q = (and_from (are kind before) (kind e) p.0 q.0, (p.1, q.1))

pub one_alone : (kind : Tree → Bool) (e : Tree) → Has kind e → Has (are kind) (More Nothing e)
one_alone kind e q = one_more kind Nothing e (refl, tt) q

module _ {rule : Rule} {levels : ℕ} {parts : Parts} where
  pub gives_value : {A : Type 0} {P : A → Type 0} {a : A} → P a → Gives rule levels parts P (give a)
  gives_value {A} {P} {a} p = record { all = λ ts b rest h. subst P (sym h.0) p }

  pub gives_bind : {A B : Type 0} (Q : A → Type 0) {P : B → Type 0} {g : Grammar A} {f : A → Grammar B}
      → Gives rule levels parts Q g → ((a : A) → Q a → Gives rule levels parts P (f a))
      → Gives rule levels parts P (bind g f)
  gives_bind Q p q = record { all = λ ts b rest h. (q h.0 (p.all ts h.0 h.1 h.2)).all h.1 b rest h.3 }

  pub gives_then : {A B : Type 0} {P : B → Type 0} {g : Grammar A} {f : A → Grammar B}
      → ((a : A) → Gives rule levels parts P (f a)) → Gives rule levels parts P (bind g f)
  gives_then q = record { all = λ ts b rest h. (q h.0).all h.1 b rest h.3 }

  pub gives_when : {A : Type 0} {P : A → Type 0} {class : Token → Bool} {g f : Grammar A} → Gives rule levels parts P g
      → Gives rule levels parts P f → Gives rule levels parts P (when class g f)
  gives_when p q = record { all = λ ts b rest h. elim h [ inl x ↦ p.all ts b rest x.1 | inr x ↦ q.all ts b rest x.1 ] }

  -- less is known
  pub gives_less : {A : Type 0} (Q : A → Type 0) {P : A → Type 0} {g : Grammar A} → Gives rule levels parts Q g
      → ((a : A) → Q a → P a) → Gives rule levels parts P g
  gives_less Q p q = record { all = λ ts b rest h. q b (p.all ts b rest h) }

  module _ (kept : Kept parts) where
    -- a token of a class, and what it opens
    pub gives_token : {class : Token → Bool} {usage : Token → TokenUse} (opens : Token → Option Part) {sample : Token}
        → Gives rule levels parts (λ (x : Token × Tree). (is_of class x.0 ≡ true) × OpenedHas (opens x.0) x.1)
        (token class usage opens sample)
    gives_token opens = record { all = λ ts b rest h. (h.2, opened_has parts kept (opens b.0) h.0 b.1 rest h.4) }

    pub gives_opening : (s : Symbol) (part : Part)
        → Gives rule levels parts (λ (x : Token × Tree). PartHas part x.1) (opening s part)
    gives_opening s part = record { all = λ ts b rest h. kept part h.0 b.1 rest h.4 }

    pub gives_opening_at : (s : Symbol) (part : Place → Part)
        → Gives rule levels parts (λ (x : Token × Tree). PartHas (part x.0.place) x.1) (opening_at s part)
    gives_opening_at s part = record { all = λ ts b rest h. kept (part b.0.place) h.0 b.1 rest h.4 }

    -- a repetition whose turns keep something
    pub gives_many : {A : Type 0} {P : A → Type 0} {class : A → Token → Bool} {usage : A → Token → TokenUse}
        {opens : A → Token → Option Part} {step : Token → Tree → A → Grammar A} {a : A} → P a
        → ((t : Token) (x : Tree) (b : A) → P b → is_of (class b) t ≡ true → OpenedHas (opens b t) x
        → Gives rule levels parts P (step t x b)) → Gives rule levels parts P (many class usage opens step a)
    gives_many {A} {P} {class} {usage} {opens} {step} {a} p q =
        record {
          all = λ ts b rest h.
              turns_keep P class _ (λ c t us x mid pc is this.
              (q t this.1 c pc is (opened_has parts kept (opens c t) us this.1 this.2 this.3)).all this.2 x mid this.4) p
              h;
        }

  module _ (kept : Kept parts) where
    pub gives_behind : (kind : Tree → Bool) {x : Grammar Tree} {before : Tree} → Gives rule levels parts (Has kind) x
        → Has (are kind) before → Gives rule levels parts (Has (are kind)) (listed_behind x before)
    gives_behind kind p b = gives_many kept b
        (λ t y a q is o. gives_bind (Has kind) p (λ e r. gives_value (one_more kind a e q r)))

    pub gives_listed : (kind : Tree → Bool) {x : Grammar Tree} → Gives rule levels parts (Has kind) x
        → Gives rule levels parts (Has (are kind)) (listed x)
    gives_listed kind p = gives_bind (Has kind) p (λ e q. gives_behind kind p (one_alone kind e q))

    pub gives_separated : (kind : Tree → Bool) {x : Grammar Tree} {before : Tree}
        → Gives rule levels parts (Has kind) x → Has (are kind) before
        → Gives rule levels parts (Has (are kind)) (separated_behind x before)
    gives_separated kind p b =
        gives_many kept b (λ t y a q is o.
        gives_when (gives_value q) (gives_bind (Has kind) p (λ e r. gives_value (one_more kind a e q r))))
