-- A repetition, turn by turn.
use Rattle.std.proofs.Common.{◌≡◌, ℕ, zero, suc, ◌≤◌, Bool, true, false, cond, List, [], ◌∷◌, length, Option, Some}
use Rattle.std.proofs.Common.{None, refl, ap, ◌∙◌, subst, arith}
use Rattle.tl_tree.specs.Tokens.{Token}
use Rattle.tl_tree.specs.Tree.{Tree, Part}
use Rattle.tl_lex.specs.declared.SyntaxKind.{SyntaxKind}
use Rattle.tl_tree.specs.declared.mode.TokenUse.{TokenUse}
use Rattle.tl_tree.specs.Grammar.{Grammar, many, begins, is_of, bar, Outcome, Took, Stop, ◌>>=◌, unless, Readers}
use Rattle.tl_tree.specs.Grammar.{opened, turns, run, Table, below}
use Rattle.tl_tree.proofs.Reading.{rest_of, Leaves, leaves_all, leaves_length, leaves, leaves-bind, leaves-opened}
use Rattle.tl_tree.proofs.Reading.{ReadersLeave}
use Rattle.tl_tree.proofs.Levels.{leave_at}

pub bind_again : {A B C : Type 0} (o : Outcome A) (f : A → List Token → Outcome B) (g : B → List Token → Outcome C)
    → ((o >>= f) >>= g) ≡ (o >>= λ x mid. f x mid >>= g)
bind_again (Took a mid) f g = refl
bind_again (Stop why rest) f g = refl

bind_same : {A B : Type 0} (o : Outcome A) (f g : A → List Token → Outcome B)
    → ((a : A) (mid : List Token) → o ≡ Took a mid → f a mid ≡ g a mid) → (o >>= f) ≡ (o >>= g)
bind_same (Took a mid) f g h = h a mid refl
bind_same (Stop why rest) f g h = refl

module _ {A : Type 0} (class : A → Token → Bool) (bars : A → Token → Option SyntaxKind)
    (step : A → Token → List Token → Outcome A)
    (step_leaves : (a : A) (t : Token) (ts : List Token) → Leaves (rest_of (step a t ts)) ts) where
  -- more fuel than tokens is enough
  turns_fuel : (n m : ℕ) (a : A) (ts : List Token) → length ts ≤ n → length ts ≤ m
      → turns n class bars step a ts ≡ turns m class bars step a ts
  turns_fuel zero zero a [] p q = refl
  turns_fuel zero (suc m) a [] p q = refl
  turns_fuel (suc n) zero a [] p q = refl
  turns_fuel (suc n) (suc m) a [] p q = refl
  turns_fuel zero m a (t ∷ ts) p q = absurd (omega arith)
  turns_fuel (suc n) zero a (t ∷ ts) p q = absurd (omega arith)
  turns_fuel (suc n) (suc m) a (t ∷ ts) p q =
      ap (λ (o : Outcome A). cond (is_of (class a) t) (unless (bars a t) (t ∷ ts) o) (Took a (t ∷ ts)))
      (bind_same (step a t ts) (λ x mid. turns n class bars step x mid) (λ x mid. turns m class bars step x mid)
      (λ x mid e.
      let left : Leaves mid ts = subst (λ (o : Outcome A). Leaves (rest_of o) ts) e (step_leaves a t ts) in
      let short = leaves_length mid ts left in
      turns_fuel n m x mid (omega arith) (omega arith)))

module _ (levels : ℕ) (readers : Readers) (readers_leave : ReadersLeave readers) where
  -- one turn
  pub many_turn : {A : Type 0} (class : A → Token → Bool) (usage : A → Token → TokenUse) (opens : A → Token → Option Part)
      (step : Token → Tree → A → Grammar A) (a : A) (t : Token) (ts : List Token) → is_of (class a) t ≡ true
      → bar (record { opens = opens a t; levels = levels; usage = usage a t }) t ≡ None
      → run levels readers (many class usage opens step a) (t ∷ ts)
      ≡ (opened readers (opens a t) ts >>= λ x mid. run levels readers (step t x a) mid
      >>= λ y next. run levels readers (many class usage opens step y) next)
  many_turn {A} class usage opens step a t ts h k =
      let bars : A → Token → Option SyntaxKind =
      λ a t. bar (record { opens = opens a t; levels = levels; usage = usage a t }) t in
      let go_on : A → Token → List Token → Outcome A =
      λ a t inner. opened readers (opens a t) inner >>= λ x mid. run levels readers (step t x a) mid in
      let left : (a : A) (t : Token) (inner : List Token) → Leaves (rest_of (go_on a t inner)) inner =
      λ a t inner. leaves-bind (opened readers (opens a t) inner) (λ x mid. run levels readers (step t x a) mid)
      inner (leaves-opened readers readers_leave (opens a t) inner)
      (λ x mid. leaves levels readers readers_leave (step t x a) mid) in
      let next : Outcome A = go_on a t ts >>= λ y mid. turns (length ts) class bars go_on y mid in
      let e1 : run levels readers (many class usage opens step a) (t ∷ ts) ≡ unless (bars a t) (t ∷ ts) next =
      ap (λ (c : Bool). cond c (unless (bars a t) (t ∷ ts) next) (Took a (t ∷ ts))) h in
      let e2 : unless (bars a t) (t ∷ ts) next ≡ next = ap (λ (o : Option SyntaxKind). unless o (t ∷ ts) next) k in
      let e3 : next ≡ (go_on a t ts >>= λ y mid. run levels readers (many class usage opens step y) mid) =
      bind_same (go_on a t ts) (λ y mid. turns (length ts) class bars go_on y mid)
      (λ y mid. run levels readers (many class usage opens step y) mid)
      (λ y mid e. turns_fuel class bars go_on left (length ts) (length mid) y mid
      (leaves_length mid ts (subst (λ (o : Outcome A). Leaves (rest_of o) ts) e (left a t ts))) (omega arith)) in
      e1 ∙ e2 ∙ e3 ∙ bind_again (opened readers (opens a t) ts) (λ x mid. run levels readers (step t x a) mid)
      (λ y next. run levels readers (many class usage opens step y) next)

  -- the limits end it
  pub many_barred : {A : Type 0} (class : A → Token → Bool) (usage : A → Token → TokenUse)
      (opens : A → Token → Option Part) (step : Token → Tree → A → Grammar A) (a : A) (t : Token) (ts : List Token)
      (why : SyntaxKind) → is_of (class a) t ≡ true
      → bar (record { opens = opens a t; levels = levels; usage = usage a t }) t ≡ Some why
      → run levels readers (many class usage opens step a) (t ∷ ts) ≡ Stop why (t ∷ ts)
  many_barred {A} class usage opens step a t ts why h k =
      let bars : A → Token → Option SyntaxKind =
      λ a t. bar (record { opens = opens a t; levels = levels; usage = usage a t }) t in
      let go_on : A → Token → List Token → Outcome A =
      λ a t inner. opened readers (opens a t) inner >>= λ x mid. run levels readers (step t x a) mid in
      let next : Outcome A = go_on a t ts >>= λ y mid. turns (length ts) class bars go_on y mid in
      let e1 : run levels readers (many class usage opens step a) (t ∷ ts) ≡ unless (bars a t) (t ∷ ts) next =
      ap (λ (c : Bool). cond c (unless (bars a t) (t ∷ ts) next) (Took a (t ∷ ts))) h in
      e1 ∙ ap (λ (o : Option SyntaxKind). unless o (t ∷ ts) next) k

  -- another token ends it
  pub many_ends : {A : Type 0} (class : A → Token → Bool) (usage : A → Token → TokenUse) (opens : A → Token → Option Part)
      (step : Token → Tree → A → Grammar A) (a : A) (ts : List Token) → begins (class a) ts ≡ false
      → run levels readers (many class usage opens step a) ts ≡ Took a ts
  many_ends class usage opens step a [] h = refl
  many_ends {A} class usage opens step a (t ∷ ts) h =
      let bars : A → Token → Option SyntaxKind =
      λ a t. bar (record { opens = opens a t; levels = levels; usage = usage a t }) t in
      let go_on : A → Token → List Token → Outcome A =
      λ a t inner. opened readers (opens a t) inner >>= λ x mid. run levels readers (step t x a) mid in
      let next : Outcome A = go_on a t ts >>= λ y mid. turns (length ts) class bars go_on y mid in
      ap (λ (c : Bool). cond c (unless (bars a t) (t ∷ ts) next) (Took a (t ∷ ts))) h

pub below_leave : (table : Table) (levels : ℕ) → ReadersLeave (λ part us. below table levels part us)
below_leave table zero part [] = leaves_all []
below_leave table zero part (t ∷ ts) = leaves_all (t ∷ ts)
below_leave table (suc levels) part ts = leave_at table levels part ts
