-- What reading from left to right gives is what the grammar reads.
use Rattle.std.proofs.Common.{◌≡◌, ℕ, zero, suc, ◌≤◌, Bool, true, false, cond, List, [], ◌∷◌, ◌++◌, length, Option}
use Rattle.std.proofs.Common.{Some, None, refl, sym, ap, ◌∙◌, subst, append_assoc, arith, inl, inr, ◌⊎◌, length-append}
use Rattle.std.specs.Prelude.{◌||◌}
use Rattle.std.proofs.lemmas.List.{append_cancel_right}
use Rattle.tl_tree.specs.Tokens.{Token}
use Rattle.tl_lex.specs.declared.SyntaxKind.{SyntaxKind}
use Rattle.tl_lex.specs.declared.SyntaxKind.TheVariants.{BadNumber, TooDeep, Ambiguous}
use Rattle.tl_tree.specs.declared.mode.TokenUse.{TokenUse}
use Rattle.tl_tree.specs.Symbols.{is_bad}
use Rattle.tl_tree.specs.Tree.{Tree, Nothing, Part}
use Rattle.tl_tree.specs.Grammar.{Use, bar, is_too_large, is_ambiguous, is_of, is_none_left, chain_too_long, Grammar}
use Rattle.tl_tree.specs.Grammar.{give, token, bind, when, many, begins, Rule, Parts, Opened, Turns, stop, turn, Reads}
use Rattle.tl_tree.specs.Grammar.{Outcome, Took, Stop, ◌>>=◌, blame, unless, Readers, opened, turns, run}

-- the tokens that are left
abbrev pub rest_of : {A : Type 0} → Outcome A → List Token
rest_of (Took a rest) = rest
rest_of (Stop why rest) = rest

-- the same outcome with other tokens left
abbrev pub with_rest : {A : Type 0} → List Token → Outcome A → Outcome A
with_rest rest (Took a old) = Took a rest
with_rest rest (Stop why old) = Stop why rest

-- a function of a test, at each answer
pub chosen : {B : Type 0} (b : Bool) (x y z : B) → cond b x y ≡ z → ((b ≡ true) × (x ≡ z)) ⊎ ((b ≡ false) × (y ≡ z))
chosen true x y z e = inl (refl, e)
chosen false x y z e = inr (refl, e)

pub bind_took : {A B : Type 0} (o : Outcome A) (f : A → List Token → Outcome B) (y : B) (rest : List Token)
    → (o >>= f) ≡ Took y rest → (a : A) × (mid : List Token) × (o ≡ Took a mid) × (f a mid ≡ Took y rest)
bind_took (Took a mid) f y rest e = (a, mid, refl, e)
bind_took (Stop why r) f y rest e = absurd cc

-- a rule that allows what the limits allow
abbrev pub Allows : Rule → Type 0
Allows rule = (usage : Use) (t : Token) (ts : List Token) → bar usage t ≡ None → rule usage (t ∷ ts) ≡ true

-- ---- the tokens that are left are a back of the tokens, and those before are good

abbrev pub AllGood : List Token → Type 0
AllGood [] = Unit {0}
AllGood (t ∷ ts) = (is_bad t.symbol ≡ false) × AllGood ts

pub AllGood-append : (xs ys : List Token) → AllGood xs → AllGood ys → AllGood (xs ++ ys)
AllGood-append [] ys p q = q
AllGood-append (x ∷ xs) ys p q = (p.0, AllGood-append xs ys p.1 q)

abbrev pub Leaves : List Token → List Token → Type 0
Leaves rest ts = (front : List Token) × (ts ≡ front ++ rest) × AllGood front

pub leaves_all : (ts : List Token) → Leaves ts ts
leaves_all ts = ([], refl, tt)

pub leaves_then : (c b a : List Token) → Leaves b a → Leaves c b → Leaves c a
leaves_then c b a p q = (
  p.0 ++ q.0,
  p.1 ∙ ap (λ (x : List Token). p.0 ++ x) q.1
      ∙ sym (append_assoc p.0 q.0 c),
  AllGood-append p.0 q.0 p.2 q.2,
)

is_of_good : (class : Token → Bool) (t : Token) (b : Bool) → is_bad t.symbol ≡ b → cond b false (class t) ≡ true
    → b ≡ false
is_of_good class t true e h = absurd cc
is_of_good class t false e h = refl

pub good : (class : Token → Bool) (t : Token) → is_of class t ≡ true → is_bad t.symbol ≡ false
good class t h = is_of_good class t (is_bad t.symbol) refl h

pub leaves_one : (class : Token → Bool) (t : Token) (rest ts : List Token) → is_of class t ≡ true → Leaves rest ts
    → Leaves rest (t ∷ ts)
leaves_one class t rest ts h p = (t ∷ p.0, ap (λ (x : List Token). t ∷ x) p.1, (good class t h, p.2))

pub leaves-bind : {A B : Type 0} (o : Outcome A) (f : A → List Token → Outcome B) (ts : List Token)
    → Leaves (rest_of o) ts → ((a : A) (mid : List Token) → Leaves (rest_of (f a mid)) mid)
    → Leaves (rest_of (o >>= f)) ts
leaves-bind (Took a mid) f ts p q = leaves_then (rest_of (f a mid)) mid ts p (q a mid)
leaves-bind (Stop why r) f ts p q = p

-- what comes of a token that is of the class, and of one that is not
leaves-taken : {A : Type 0} (class : Token → Bool) (t : Token) (ts : List Token) (next other : Outcome A) (c : Bool)
    → is_of class t ≡ c → (o : Option SyntaxKind) → Leaves (rest_of next) ts → Leaves (rest_of other) (t ∷ ts)
    → Leaves (rest_of (cond c (unless o (t ∷ ts) next) other)) (t ∷ ts)
leaves-taken class t ts next other true e None p q = leaves_one class t (rest_of next) ts e p
leaves-taken class t ts next other true e (Some why) p q = leaves_all (t ∷ ts)
leaves-taken class t ts next other false e o p q = q

leaves-when : {A : Type 0} (b : Bool) (x y : Outcome A) (ts : List Token) → Leaves (rest_of x) ts
    → Leaves (rest_of y) ts → Leaves (rest_of (cond b x y)) ts
leaves-when true x y ts p q = p
leaves-when false x y ts p q = q

module _ {A : Type 0} (class : A → Token → Bool) (bars : A → Token → Option SyntaxKind)
    (step : A → Token → List Token → Outcome A)
    (step_leaves : (a : A) (t : Token) (ts : List Token) → Leaves (rest_of (step a t ts)) ts) where
  pub leaves-turns : (fuel : ℕ) (a : A) (ts : List Token) → Leaves (rest_of (turns fuel class bars step a ts)) ts
  leaves-turns zero a [] = leaves_all []
  leaves-turns (suc fuel) a [] = leaves_all []
  leaves-turns zero a (t ∷ ts) = leaves_all (t ∷ ts)
  leaves-turns (suc fuel) a (t ∷ ts) =
      leaves-taken (class a) t ts (step a t ts >>= λ x mid. turns fuel class bars step x mid) (Took a (t ∷ ts))
      (is_of (class a) t) refl (bars a t)
      (leaves-bind (step a t ts) (λ x mid. turns fuel class bars step x mid) ts (step_leaves a t ts)
      (λ x mid. leaves-turns fuel x mid)) (leaves_all (t ∷ ts))

-- readers leave a back of the tokens
abbrev pub ReadersLeave : Readers → Type 0
ReadersLeave readers = (part : Part) (ts : List Token) → Leaves (rest_of (readers part ts)) ts

pub leaves-opened : (readers : Readers) → ReadersLeave readers → (o : Option Part) (ts : List Token)
    → Leaves (rest_of (opened readers o ts)) ts
leaves-opened readers h None ts = leaves_all ts
leaves-opened readers h (Some part) ts = h part ts

module _ (levels : ℕ) (readers : Readers) (readers_leave : ReadersLeave readers) where
  pub leaves : {A : Type 0} (g : Grammar A) (ts : List Token) → Leaves (rest_of (run levels readers g ts)) ts
  leaves (give a) ts = leaves_all ts
  leaves (token class usage opens sample) [] = leaves_all []
  leaves (token class usage opens sample) (t ∷ ts) =
      leaves-taken class t ts (opened readers (opens t) ts >>= λ x rest. Took (t, x) rest)
      (Stop (blame t.symbol) (t ∷ ts)) (is_of class t) refl
      (bar (record { opens = opens t; levels = levels; usage = usage t }) t)
      (leaves-bind (opened readers (opens t) ts) (λ x rest. Took (t, x) rest) ts
      (leaves-opened readers readers_leave (opens t) ts) (λ x rest. leaves_all rest)) (leaves_all (t ∷ ts))
  leaves (bind g h) ts = leaves-bind (run levels readers g ts) (λ a mid. run levels readers (h a) mid) ts (leaves g ts)
      (λ a mid. leaves (h a) mid)
  leaves (when class g h) ts =
      leaves-when (begins class ts) (run levels readers g ts) (run levels readers h ts) ts (leaves g ts) (leaves h ts)
  leaves (many class usage opens step a) ts =
      leaves-turns class (λ a t. bar (record { opens = opens a t; levels = levels; usage = usage a t }) t)
      (λ a t inner. opened readers (opens a t) inner >>= λ x mid. run levels readers (step t x a) mid)
      (λ a t inner. leaves-bind (opened readers (opens a t) inner) (λ x mid. run levels readers (step t x a) mid) inner
      (leaves-opened readers readers_leave (opens a t) inner) (λ x mid. leaves (step t x a) mid))
      (length ts) a ts

pub leaves_length : (rest ts : List Token) → Leaves rest ts → length rest ≤ length ts
leaves_length rest ts p = let e = ap length p.1 in omega (arith, length-append p.0 rest, e)

-- ---- what is read is in the grammar

-- a use that the limits allow opens no level where none is left
unless_both : (n b d : Bool) → cond n (Some BadNumber) (cond b (Some TooDeep) (cond d (Some Ambiguous) None)) ≡ None
    → b ≡ false
unless_both true b d h = absurd cc
unless_both false true d h = absurd cc
unless_both false false d h = refl

no_level : (levels : ℕ) (c : Bool) → (is_none_left levels || c) ≡ false → is_none_left levels ≡ false
no_level zero c h = absurd cc
no_level (suc levels) c h = refl

pub bar_levels : (part : Part) (levels : ℕ) (usage : TokenUse) (t : Token)
    → bar (record { opens = Some part; levels = levels; usage = usage }) t ≡ None → is_none_left levels ≡ false
bar_levels part levels usage t h =
    no_level levels (chain_too_long usage)
    (unless_both (is_too_large usage t) (is_none_left levels || chain_too_long usage)
    (is_ambiguous (record { opens = Some part; levels = levels; usage = usage }) t) h)

module _ {A : Type 0} (class : A → Token → Bool) (bars : A → Token → Option SyntaxKind)
    (step : A → Token → List Token → Outcome A) (Turn : A → Token → List Token → A → List Token → Type 0)
    (step_leaves : (a : A) (t : Token) (ts : List Token) → Leaves (rest_of (step a t ts)) ts)
    (step_sound : (a : A) (t : Token) (ts : List Token) (x : A) (mid : List Token) → bars a t ≡ None
    → step a t ts ≡ Took x mid → Turn a t ts x mid) where
  sound-turn : (fuel : ℕ) (a : A) (t : Token) (ts : List Token) (b : A) (rest : List Token) → length ts ≤ fuel
      → ((x : A) (mid : List Token) → length mid ≤ fuel → turns fuel class bars step x mid ≡ Took b rest
      → Turns class Turn x mid b rest) → (c : Bool) → is_of (class a) t ≡ c → (o : Option SyntaxKind) → bars a t ≡ o
      → cond c (unless o (t ∷ ts) (step a t ts >>= λ x mid. turns fuel class bars step x mid)) (Took a (t ∷ ts))
      ≡ Took b rest → Turns class Turn a (t ∷ ts) b rest
  sound-turn fuel a t ts b rest le again true h None k e =
      let s = bind_took (step a t ts) (λ x mid. turns fuel class bars step x mid) b rest e in
      let left : Leaves (rest_of (step a t ts)) ts = step_leaves a t ts in
      let short : length s.1 ≤ fuel =
      omega (arith, leaves_length s.1 ts (subst (λ (o : Outcome A). Leaves (rest_of o) ts) s.2 left)) in
      turn h (step_sound a t ts s.0 s.1 k s.2) (again s.0 s.1 short s.3)
  sound-turn fuel a t ts b rest le again true h (Some why) k e = absurd cc
  sound-turn fuel a t ts b rest le again false h o k e =
      let same : a ≡ b = cc in let tail : t ∷ ts ≡ rest = cc in
      subst (λ (x : A). Turns class Turn a (t ∷ ts) x rest) same
      (subst (λ (r : List Token). Turns class Turn a (t ∷ ts) a r) tail (stop h))

  pub sound-turns : (fuel : ℕ) (a : A) (ts : List Token) (b : A) (rest : List Token) → length ts ≤ fuel
      → turns fuel class bars step a ts ≡ Took b rest → Turns class Turn a ts b rest
  sound-turns zero a [] b rest le e =
      let same : a ≡ b = cc in let tail : [] ≡ rest = cc in
      subst (λ (x : A). Turns class Turn a [] x rest) same
      (subst (λ (r : List Token). Turns class Turn a [] a r) tail (stop refl))
  sound-turns (suc fuel) a [] b rest le e =
      let same : a ≡ b = cc in let tail : [] ≡ rest = cc in
      subst (λ (x : A). Turns class Turn a [] x rest) same
      (subst (λ (r : List Token). Turns class Turn a [] a r) tail (stop refl))
  sound-turns zero a (t ∷ ts) b rest le e = absurd (omega arith)
  sound-turns (suc fuel) a (t ∷ ts) b rest le e =
      sound-turn fuel a t ts b rest (omega arith) (λ x mid short. sound-turns fuel x mid b rest short)
      (is_of (class a) t) refl (bars a t) refl e

-- what readers give is in the parts, where a level is left
abbrev pub ReadersSound : ℕ → Readers → Parts → Type 0
ReadersSound levels readers parts =
    is_none_left levels ≡ false → (part : Part) (ts : List Token) (x : Tree) (rest : List Token)
    → readers part ts ≡ Took x rest → parts part ts x rest

pub sound-opened : (levels : ℕ) (readers : Readers) (parts : Parts) → ReadersSound levels readers parts
    → (usage : TokenUse) (t : Token) (o : Option Part)
    → bar (record { opens = o; levels = levels; usage = usage }) t ≡ None
    → (ts : List Token) (x : Tree) (rest : List Token) → opened readers o ts ≡ Took x rest → Opened parts o ts x rest
sound-opened levels readers parts h usage t None k ts x rest e = (cc, cc)
sound-opened levels readers parts h usage t (Some part) k ts x rest e =
    h (bar_levels part levels usage t k) part ts x rest e

module _ (rule : Rule) (ok : Allows rule) (levels : ℕ) (readers : Readers) (parts : Parts)
    (readers_leave : ReadersLeave readers) (readers_sound : ReadersSound levels readers parts) where
  sound-token : (class : Token → Bool) (usage : Token → TokenUse) (opens : Token → Option Part) (sample t : Token)
      (ts : List Token) (b : Token × Tree) (rest : List Token) (c : Bool) → is_of class t ≡ c → (o : Option SyntaxKind)
      → bar (record { opens = opens t; levels = levels; usage = usage t }) t ≡ o
      → cond c (unless o (t ∷ ts) (opened readers (opens t) ts >>= λ x mid. Took (t, x) mid))
      (Stop (blame t.symbol) (t ∷ ts)) ≡ Took b rest
      → Reads rule levels parts (token class usage opens sample) (t ∷ ts) b rest
  sound-token class usage opens sample t ts b rest true h None k e =
      let s = bind_took (opened readers (opens t) ts) (λ x mid. Took (t, x) mid) b rest e in
      let inside : Opened parts (opens t) ts s.0 s.1 =
      sound-opened levels readers parts readers_sound (usage t) t (opens t) k ts s.0 s.1 s.2 in
      let same : (t, s.0) ≡ b = took_value s.3 in
      let tail : s.1 ≡ rest = took_rest s.3 in
      subst (λ (y : Token × Tree). Reads rule levels parts (token class usage opens sample) (t ∷ ts) y rest) same (
        ts,
        refl,
        h,
        ok (record { opens = opens t; levels = levels; usage = usage t }) t ts k,
        subst (λ (r : List Token). Opened parts (opens t) ts s.0 r) tail inside,
      )
    where
      took_value : {x y : Token × Tree} {p q : List Token} → Took x p ≡ Took y q → x ≡ y
      took_value e = cc

      took_rest : {x y : Token × Tree} {p q : List Token} → Took x p ≡ Took y q → p ≡ q
      took_rest e = cc
  sound-token class usage opens sample t ts b rest true h (Some why) k e = absurd cc
  sound-token class usage opens sample t ts b rest false h o k e = absurd cc

  pub sound : {A : Type 0} (g : Grammar A) (ts : List Token) (b : A) (rest : List Token)
      → run levels readers g ts ≡ Took b rest → Reads rule levels parts g ts b rest
  sound (give a) ts b rest e = (cc, cc)
  sound (token class usage opens sample) [] b rest e = absurd cc
  sound (token class usage opens sample) (t ∷ ts) b rest e =
      sound-token class usage opens sample t ts b rest (is_of class t) refl
      (bar (record { opens = opens t; levels = levels; usage = usage t }) t) refl e
  sound (bind g h) ts b rest e =
      let s = bind_took (run levels readers g ts) (λ a mid. run levels readers (h a) mid) b rest e in
      (s.0, s.1, sound g ts s.0 s.1 s.2, sound (h s.0) s.1 b rest s.3)
  sound (when class g h) ts b rest e =
      elim (chosen (begins class ts) (run levels readers g ts) (run levels readers h ts) (Took b rest) e) [
        | inl p ↦ inl (p.0, sound g ts b rest p.1)
        | inr p ↦ inr (p.0, sound h ts b rest p.1)
      ]
  sound (many class usage opens step a) ts b rest e =
      sound-turns class (λ a t. bar (record { opens = opens a t; levels = levels; usage = usage a t }) t)
      (λ a t inner. opened readers (opens a t) inner >>= λ x mid. run levels readers (step t x a) mid)
      (λ a t inner y next. (rule (record { opens = opens a t; levels = levels; usage = usage a t }) (t ∷ inner) ≡ true)
      × (x : Tree) × (mid : List Token) × Opened parts (opens a t) inner x mid
      × Reads rule levels parts (step t x a) mid y next)
      (λ a t inner. leaves-bind (opened readers (opens a t) inner) (λ x mid. run levels readers (step t x a) mid) inner
      (leaves-opened readers readers_leave (opens a t) inner)
      (λ x mid. leaves levels readers readers_leave (step t x a) mid))
      (λ a t inner y next k e2.
      let s = bind_took (opened readers (opens a t) inner) (λ x mid. run levels readers (step t x a) mid) y next e2 in (
        ok (record { opens = opens a t; levels = levels; usage = usage a t }) t inner k,
        s.0,
        s.1,
        sound-opened levels readers parts readers_sound (usage a t) t (opens a t) k inner s.0 s.1 s.2,
        sound (step t s.0 a) s.1 y next s.3,
      ))
      (length ts) a ts b rest (omega arith) e

-- ---- what is in the grammar is read, or refused where the limits refuse what the rule allows

abbrev pub Barred : Rule → SyntaxKind → List Token → Type 0
Barred rule why [] = ⊥
Barred rule why (t ∷ ts) =
    (usage : Use) × (rule usage (t ∷ ts) ≡ true) × (bar usage t ≡ Some why) × (is_bad t.symbol ≡ false)

abbrev pub Answers : {A : Type 0} → Rule → A → List Token → Outcome A → Type 0
Answers rule b rest (Took x r) = (b ≡ x) × (rest ≡ r)
Answers rule b rest (Stop why r) = Barred rule why r

answers-bind : {A B : Type 0} (rule : Rule) (o : Outcome A) (f : A → List Token → Outcome B) (a : A) (mid : List Token)
    (b : B) (rest : List Token) → Answers rule a mid o → (o ≡ Took a mid → Answers rule b rest (f a mid))
    → Answers rule b rest (o >>= f)
answers-bind rule (Took x r) f a mid b rest p q =
    let same : Took x r ≡ Took a mid =
    ap (λ (y : _). Took y r) (sym p.0) ∙ ap (λ (y : List Token). Took a y) (sym p.1) in
    subst (λ (o : Outcome _). Answers rule b rest (o >>= f)) (sym same) (q same)
answers-bind rule (Stop why r) f a mid b rest p q = p

answers-unless : {A : Type 0} (rule : Rule) (usage : Use) (t : Token) (ts : List Token) (next : Outcome A) (b : A)
    (rest : List Token) (o : Option SyntaxKind) → is_bad t.symbol ≡ false → bar usage t ≡ o
    → rule usage (t ∷ ts) ≡ true → (o ≡ None → Answers rule b rest next) → Answers rule b rest (unless o (t ∷ ts) next)
answers-unless rule usage t ts next b rest None fine k r p = p refl
answers-unless rule usage t ts next b rest (Some why) fine k r p = (usage, r, k, fine)

-- a turn is barred, or goes on behind it
answers-turn : {A B : Type 0} (rule : Rule) (ts : List Token) (o : Option SyntaxKind) (next : Outcome A)
    (f : A → List Token → Outcome B) (x : A) (mid : List Token) (b : B) (rest : List Token)
    → Answers rule x mid (unless o ts next) → (next ≡ Took x mid → Answers rule b rest (f x mid))
    → Answers rule b rest (unless o ts (next >>= f))
answers-turn rule ts None next f x mid b rest p q = answers-bind rule next f x mid b rest p q
answers-turn rule ts (Some why) next f x mid b rest p q = p

module _ {A : Type 0} (rule : Rule) (class : A → Token → Bool) (bars : A → Token → Option SyntaxKind)
    (step : A → Token → List Token → Outcome A) (Turn : A → Token → List Token → A → List Token → Type 0)
    (step_leaves : (a : A) (t : Token) (ts : List Token) → Leaves (rest_of (step a t ts)) ts)
    (step_complete : (a : A) (t : Token) (ts : List Token) (x : A) (mid : List Token) → is_bad t.symbol ≡ false
    → Turn a t ts x mid → Answers rule x mid (unless (bars a t) (t ∷ ts) (step a t ts))) where
  complete-turns : (fuel : ℕ) (a : A) (ts : List Token) (b : A) (rest : List Token) → length ts ≤ fuel
      → Turns class Turn a ts b rest → Answers rule b rest (turns fuel class bars step a ts)
  complete-turns zero a [] b rest le (stop e) = (refl, refl)
  complete-turns (suc fuel) a [] b rest le (stop e) = (refl, refl)
  complete-turns zero a (t ∷ ts) b rest le d = absurd (omega arith)
  complete-turns (suc fuel) a (t ∷ ts) b rest le (stop e) = rw e (refl, refl)
  complete-turns (suc fuel) a (t ∷ ts) b rest le (turn {x = x} {mid = mid} h s k) =
      let next = answers-turn rule (t ∷ ts) (bars a t) (step a t ts) (λ y m. turns fuel class bars step y m) x mid b
      rest (step_complete a t ts x mid (good (class a) t h) s)
      (λ e. let left : Leaves (rest_of (step a t ts)) ts = step_leaves a t ts in
      complete-turns fuel x mid b rest
      (omega (arith, leaves_length mid ts (subst (λ (o : Outcome A). Leaves (rest_of o) ts) e left))) k) in
      subst (λ (c : Bool). Answers rule b rest
      (cond c (unless (bars a t) (t ∷ ts) (step a t ts >>= λ y m. turns fuel class bars step y m))
      (Took a (t ∷ ts)))) (sym h) next

-- what is in the parts is read, where a level is left
abbrev pub ReadersComplete : Rule → ℕ → Readers → Parts → Type 0
ReadersComplete rule levels readers parts =
    is_none_left levels ≡ false → (part : Part) (ts : List Token) (x : Tree) (rest : List Token) → parts part ts x rest
    → Answers rule x rest (readers part ts)

complete-opened : (rule : Rule) (levels : ℕ) (readers : Readers) (parts : Parts)
    → ReadersComplete rule levels readers parts → (usage : TokenUse) (t : Token) (o : Option Part)
    → bar (record { opens = o; levels = levels; usage = usage }) t ≡ None
    → (ts : List Token) (x : Tree) (rest : List Token) → Opened parts o ts x rest
    → Answers rule x rest (opened readers o ts)
complete-opened rule levels readers parts h usage t None k ts x rest p = (p.0, p.1)
complete-opened rule levels readers parts h usage t (Some part) k ts x rest p =
    h (bar_levels part levels usage t k) part ts x rest p

module _ (rule : Rule) (levels : ℕ) (readers : Readers) (parts : Parts) (readers_leave : ReadersLeave readers)
    (readers_complete : ReadersComplete rule levels readers parts) where
  complete-token : (class : Token → Bool) (usage : Token → TokenUse) (opens : Token → Option Part) (sample : Token)
      (ts : List Token) (b : Token × Tree) (rest : List Token)
      → Reads rule levels parts (token class usage opens sample) ts b rest
      → Answers rule b rest (run levels readers (token class usage opens sample) ts)
  complete-token class usage opens sample [] b rest p = absurd (nil_cons p.1)
    where
      nil_cons : {t : Token} {ts : List Token} → ◌≡◌ {A = List Token} [] (t ∷ ts) → ⊥
      nil_cons e = cc
  complete-token class usage opens sample (t ∷ ts) b rest p =
      let heads = cons_is t b.0 ts p.0 p.1 in
      let h : is_of class t ≡ true = subst (λ (x : Token). is_of class x ≡ true) (sym heads.0) p.2 in
      let r : rule (record { opens = opens t; levels = levels; usage = usage t }) (t ∷ ts) ≡ true =
      subst (λ (x : Token). rule (record { opens = opens x; levels = levels; usage = usage x }) (t ∷ ts) ≡ true)
      (sym heads.0) p.3 in
      let inside : Opened parts (opens t) ts b.1 rest =
      subst (λ (x : Token). Opened parts (opens x) ts b.1 rest) (sym heads.0)
      (subst (λ (i : List Token). Opened parts (opens b.0) i b.1 rest) (sym heads.1) p.4) in
      let next = answers-unless rule (record { opens = opens t; levels = levels; usage = usage t }) t ts
      (opened readers (opens t) ts >>= λ x mid. Took (t, x) mid) b rest
      (bar (record { opens = opens t; levels = levels; usage = usage t }) t) (good class t h) refl r
      (λ k. answers-bind rule (opened readers (opens t) ts) (λ x mid. Took (t, x) mid) b.1 rest b rest
      (complete-opened rule levels readers parts readers_complete (usage t) t (opens t) k ts b.1 rest inside)
      (λ e. (pair_is b t heads.0, refl))) in
      subst (λ (c : Bool). Answers rule b rest
      (cond c (unless (bar (record { opens = opens t; levels = levels; usage = usage t }) t) (t ∷ ts)
      (opened readers (opens t) ts >>= λ x mid. Took (t, x) mid)) (Stop (blame t.symbol) (t ∷ ts)))) (sym h) next
    where
      cons_is : (t u : Token) (ts us : List Token) → t ∷ ts ≡ u ∷ us → (t ≡ u) × (ts ≡ us)
      cons_is t u ts us e = (cc, cc)

      pair_is : (b : Token × Tree) (t : Token) → t ≡ b.0 → b ≡ (t, b.1)
      pair_is b t e = ap (λ (x : Token). (x, b.1)) (sym e)

  pub complete : {A : Type 0} (g : Grammar A) (ts : List Token) (b : A) (rest : List Token)
      → Reads rule levels parts g ts b rest → Answers rule b rest (run levels readers g ts)
  complete (give a) ts b rest p = p
  complete (token class usage opens sample) ts b rest p = complete-token class usage opens sample ts b rest p
  complete (bind g h) ts b rest p =
      answers-bind rule (run levels readers g ts) (λ a mid. run levels readers (h a) mid) p.0 p.1 b rest
      (complete g ts p.0 p.1 p.2) (λ e. complete (h p.0) p.1 b rest p.3)
  complete (when class g h) ts b rest p =
      elim p [
        | inl q ↦ subst (λ (c : Bool). Answers rule b rest
            (cond c (run levels readers g ts) (run levels readers h ts))) (sym q.0) (complete g ts b rest q.1)
        | inr q ↦ subst (λ (c : Bool). Answers rule b rest
            (cond c (run levels readers g ts) (run levels readers h ts))) (sym q.0) (complete h ts b rest q.1)
      ]
  complete (many class usage opens step a) ts b rest p =
      complete-turns rule class (λ a t. bar (record { opens = opens a t; levels = levels; usage = usage a t }) t)
      (λ a t inner. opened readers (opens a t) inner >>= λ x mid. run levels readers (step t x a) mid)
      (λ a t inner y next. (rule (record { opens = opens a t; levels = levels; usage = usage a t }) (t ∷ inner) ≡ true)
      × (x : Tree) × (mid : List Token) × Opened parts (opens a t) inner x mid
      × Reads rule levels parts (step t x a) mid y next)
      (λ a t inner. leaves-bind (opened readers (opens a t) inner) (λ x mid. run levels readers (step t x a) mid) inner
      (leaves-opened readers readers_leave (opens a t) inner)
      (λ x mid. leaves levels readers readers_leave (step t x a) mid))
      (λ a t inner y next fine q.
      answers-unless rule (record { opens = opens a t; levels = levels; usage = usage a t }) t inner
      (opened readers (opens a t) inner >>= λ x mid. run levels readers (step t x a) mid) y next
      (bar (record { opens = opens a t; levels = levels; usage = usage a t }) t) fine refl q.0
      (λ k. answers-bind rule (opened readers (opens a t) inner) (λ x mid. run levels readers (step t x a) mid) q.1 q.2
      y next (complete-opened rule levels readers parts readers_complete (usage a t) t (opens a t) k inner q.1 q.2
      q.3) (λ e. complete (step t q.1 a) q.2 y next q.4)))
      (length ts) a ts b rest (omega arith) p

-- ---- reading looks at one token beyond what it takes

pub same_back : (front r x b : List Token) (t : Token) → front ++ r ≡ t ∷ (b ++ r) → front ++ x ≡ t ∷ (b ++ x)
same_back front r x b t e = ap (λ (f : List Token). f ++ x) (append_cancel_right front (t ∷ b) r e)

pub not_longer : (rest r b : List Token) (t : Token) → Leaves rest r → rest ≡ t ∷ (b ++ r) → ⊥
not_longer rest r b t p e = let l = ap length e in omega (arith, leaves_length rest r p, l, length-append b r)

pub not_empty : (q b : List Token) (t : Token) → (s : Token) × (c : List Token) × (q ++ t ∷ b ≡ s ∷ c)
not_empty [] b t = (t, b, refl)
not_empty (s ∷ q) b t = (s, q ++ t ∷ b, refl)

-- what is left of a back is a back
pub back_of : (mid r b : List Token) (t : Token) (rest : List Token) → Leaves rest mid → rest ≡ t ∷ (b ++ r)
    → (s : Token) × (c : List Token) × (mid ≡ s ∷ (c ++ r))
back_of mid r b t rest p e =
    let n = not_empty p.0 b t in (
      n.0,
      n.1,
      p.1 ∙ ap (λ (x : List Token). p.0 ++ x) e ∙ sym (append_assoc p.0 (t ∷ b) r)
          ∙ ap (λ (x : List Token). x ++ r) n.2,
    )

pub steady-bind : {A B : Type 0} (o1 o2 : Outcome A) (f1 f2 : A → List Token → Outcome B) (r x b : List Token)
    (t : Token) → ((a : A) (mid : List Token) → Leaves (rest_of (f1 a mid)) mid)
    → ((s : Token) (c : List Token) → rest_of o1 ≡ s ∷ (c ++ r) → o2 ≡ with_rest (s ∷ (c ++ x)) o1)
    → ((a : A) (s : Token) (c : List Token) → o1 ≡ Took a (s ∷ (c ++ r)) → rest_of (f1 a (s ∷ (c ++ r))) ≡ t ∷ (b ++ r)
    → f2 a (s ∷ (c ++ x)) ≡ with_rest (t ∷ (b ++ x)) (f1 a (s ∷ (c ++ r)))) → rest_of (o1 >>= f1) ≡ t ∷ (b ++ r)
    → (o2 >>= f2) ≡ with_rest (t ∷ (b ++ x)) (o1 >>= f1)
steady-bind (Took a mid) o2 f1 f2 r x b t left first second e =
    let n = back_of mid r b t (rest_of (f1 a mid)) (left a mid) e in
    let o2-is : o2 ≡ Took a (n.0 ∷ (n.1 ++ x)) = first n.0 n.1 n.2 in
    let e2 : rest_of (f1 a (n.0 ∷ (n.1 ++ r))) ≡ t ∷ (b ++ r) =
    ap (λ (m : List Token). rest_of (f1 a m)) (sym n.2) ∙ e in
    ap (λ (o : Outcome _). o >>= f2) o2-is ∙ second a n.0 n.1 (ap (λ (m : List Token). Took a m) n.2) e2
    ∙ ap (λ (m : List Token). with_rest (t ∷ (b ++ x)) (f1 a m)) (sym n.2)
steady-bind (Stop why mid) o2 f1 f2 r x b t left first second e = ap (λ (o : Outcome _). o >>= f2) (first t b e)

steady-unless : {A : Type 0} (t0 : Token) (f r x b : List Token) (t : Token) (c : Bool) (o : Option SyntaxKind)
    (n1 n2 m1 m2 : Outcome A) → (rest_of n1 ≡ t ∷ (b ++ r) → n2 ≡ with_rest (t ∷ (b ++ x)) n1)
    → (rest_of m1 ≡ t ∷ (b ++ r) → m2 ≡ with_rest (t ∷ (b ++ x)) m1)
    → rest_of (cond c (unless o (t0 ∷ (f ++ r)) n1) m1) ≡ t ∷ (b ++ r)
    → cond c (unless o (t0 ∷ (f ++ x)) n2) m2 ≡ with_rest (t ∷ (b ++ x)) (cond c (unless o (t0 ∷ (f ++ r)) n1) m1)
steady-unless t0 f r x b t true None n1 n2 m1 m2 p q e = p e
steady-unless t0 f r x b t true (Some why) n1 n2 m1 m2 p q e =
    ap (λ (l : List Token). Stop why l) (same_back (t0 ∷ f) r x b t e)
steady-unless t0 f r x b t false o n1 n2 m1 m2 p q e = q e

steady-cond : {A : Type 0} (c : Bool) (x1 y1 x2 y2 : Outcome A) (z w : List Token)
    → (rest_of x1 ≡ z → x2 ≡ with_rest w x1) → (rest_of y1 ≡ z → y2 ≡ with_rest w y1) → rest_of (cond c x1 y1) ≡ z
    → cond c x2 y2 ≡ with_rest w (cond c x1 y1)
steady-cond true x1 y1 x2 y2 z w p q e = p e
steady-cond false x1 y1 x2 y2 z w p q e = q e

module _ {A : Type 0} (class : A → Token → Bool) (bars : A → Token → Option SyntaxKind)
    (step : A → Token → List Token → Outcome A)
    (step_leaves : (a : A) (t : Token) (ts : List Token) → Leaves (rest_of (step a t ts)) ts)
    (step_steady : (a : A) (t : Token) (front r x b : List Token) (s : Token)
    → rest_of (step a t (front ++ r)) ≡ s ∷ (b ++ r)
    → step a t (front ++ x) ≡ with_rest (s ∷ (b ++ x)) (step a t (front ++ r))) where
  pub steady-turns : (n m : ℕ) (a : A) (front r x b : List Token) (t : Token) → length (front ++ r) ≤ n
      → length (front ++ x) ≤ m → rest_of (turns n class bars step a (front ++ r)) ≡ t ∷ (b ++ r)
      → turns m class bars step a (front ++ x) ≡ with_rest (t ∷ (b ++ x)) (turns n class bars step a (front ++ r))
  steady-turns n m a [] r x b t le lem e =
      absurd (not_longer (rest_of (turns n class bars step a r)) r b t (leaves-turns class bars step step_leaves n a r)
      e)
  steady-turns zero m a (t0 ∷ f) r x b t le lem e = absurd (omega arith)
  steady-turns (suc n) zero a (t0 ∷ f) r x b t le lem e = absurd (omega arith)
  steady-turns (suc n) (suc m) a (t0 ∷ f) r x b t le lem e =
      steady-unless t0 f r x b t (is_of (class a) t0) (bars a t0)
      (step a t0 (f ++ r) >>= λ y mid. turns n class bars step y mid)
      (step a t0 (f ++ x) >>= λ y mid. turns m class bars step y mid)
      (Took a (t0 ∷ (f ++ r))) (Took a (t0 ∷ (f ++ x)))
      (steady-bind (step a t0 (f ++ r)) (step a t0 (f ++ x)) (λ y mid. turns n class bars step y mid)
      (λ y mid. turns m class bars step y mid) r x b t
      (λ y mid. leaves-turns class bars step step_leaves n y mid)
      (λ s c h. step_steady a t0 f r x c s h)
      (λ y s c h k.
      let left : Leaves (s ∷ (c ++ r)) (f ++ r) =
      subst (λ (o : Outcome A). Leaves (rest_of o) (f ++ r)) h (step_leaves a t0 (f ++ r)) in
      let short = leaves_length (s ∷ (c ++ r)) (f ++ r) left in
      steady-turns n m y (s ∷ c) r x b t (omega arith)
      (omega (arith, length-append c r, length-append c x, length-append f r, length-append f x)) k))
      (λ h. ap (λ (l : List Token). Took a l) (same_back (t0 ∷ f) r x b t h))
      e

-- readers look at one token beyond what they take
abbrev pub ReadersSteady : Readers → Type 0
ReadersSteady readers = (part : Part) (front r x b : List Token) (t : Token)
    → rest_of (readers part (front ++ r)) ≡ t ∷ (b ++ r)
    → readers part (front ++ x) ≡ with_rest (t ∷ (b ++ x)) (readers part (front ++ r))

pub steady-opened : (readers : Readers) → ReadersSteady readers
    → (o : Option Part) (front r x b : List Token) (t : Token) → rest_of (opened readers o (front ++ r)) ≡ t ∷ (b ++ r)
    → opened readers o (front ++ x) ≡ with_rest (t ∷ (b ++ x)) (opened readers o (front ++ r))
steady-opened readers h None front r x b t e = ap (λ (l : List Token). Took Nothing l) (same_back front r x b t e)
steady-opened readers h (Some part) front r x b t e = h part front r x b t e

module _ (levels : ℕ) (readers : Readers) (readers_leave : ReadersLeave readers)
    (readers_steady : ReadersSteady readers) where
  pub steady : {A : Type 0} (g : Grammar A) (front r x b : List Token) (t : Token)
      → rest_of (run levels readers g (front ++ r)) ≡ t ∷ (b ++ r)
      → run levels readers g (front ++ x) ≡ with_rest (t ∷ (b ++ x)) (run levels readers g (front ++ r))
  steady (give a) front r x b t e = ap (λ (l : List Token). Took a l) (same_back front r x b t e)
  steady (token class usage opens sample) [] r x b t e =
      absurd (not_longer (rest_of (run levels readers (token class usage opens sample) r)) r b t
      (leaves levels readers readers_leave (token class usage opens sample) r) e)
  steady (token class usage opens sample) (t0 ∷ f) r x b t e =
      steady-unless t0 f r x b t (is_of class t0)
      (bar (record { opens = opens t0; levels = levels; usage = usage t0 }) t0)
      (opened readers (opens t0) (f ++ r) >>= λ y rest. Took (t0, y) rest)
      (opened readers (opens t0) (f ++ x) >>= λ y rest. Took (t0, y) rest) (Stop (blame t0.symbol) (t0 ∷ (f ++ r)))
      (Stop (blame t0.symbol) (t0 ∷ (f ++ x)))
      (steady-bind (opened readers (opens t0) (f ++ r)) (opened readers (opens t0) (f ++ x))
      (λ y rest. Took (t0, y) rest) (λ y rest. Took (t0, y) rest) r x b t
      (λ y rest. leaves_all rest) (λ s c h. steady-opened readers readers_steady (opens t0) f r x c s h)
      (λ y s c h k. ap (λ (l : List Token). Took (t0, y) l) (same_back (s ∷ c) r x b t k)))
      (λ h. ap (λ (l : List Token). Stop (blame t0.symbol) l) (same_back (t0 ∷ f) r x b t h))
      e
  steady (bind g h) front r x b t e =
      steady-bind (run levels readers g (front ++ r)) (run levels readers g (front ++ x))
      (λ a mid. run levels readers (h a) mid) (λ a mid. run levels readers (h a) mid) r x b t
      (λ a mid. leaves levels readers readers_leave (h a) mid) (λ s c k. steady g front r x c s k)
      (λ a s c k l. steady (h a) (s ∷ c) r x b t l) e
  steady (when class g h) [] r x b t e =
      absurd (not_longer (rest_of (run levels readers (when class g h) r)) r b t
      (leaves levels readers readers_leave (when class g h) r) e)
  steady (when class g h) (t0 ∷ f) r x b t e =
      steady-cond (is_of class t0) (run levels readers g (t0 ∷ (f ++ r))) (run levels readers h (t0 ∷ (f ++ r)))
      (run levels readers g (t0 ∷ (f ++ x))) (run levels readers h (t0 ∷ (f ++ x))) (t ∷ (b ++ r)) (t ∷ (b ++ x))
      (λ k. steady g (t0 ∷ f) r x b t k) (λ k. steady h (t0 ∷ f) r x b t k) e
  steady (many class usage opens step a) front r x b t e =
      steady-turns class (λ a t. bar (record { opens = opens a t; levels = levels; usage = usage a t }) t)
      (λ a t inner. opened readers (opens a t) inner >>= λ x mid. run levels readers (step t x a) mid)
      (λ a t inner. leaves-bind (opened readers (opens a t) inner) (λ x mid. run levels readers (step t x a) mid) inner
      (leaves-opened readers readers_leave (opens a t) inner)
      (λ x mid. leaves levels readers readers_leave (step t x a) mid))
      (λ a t f r1 x1 b1 t1 k.
      steady-bind (opened readers (opens a t) (f ++ r1)) (opened readers (opens a t) (f ++ x1))
      (λ y mid. run levels readers (step t y a) mid) (λ y mid. run levels readers (step t y a) mid) r1 x1 b1 t1
      (λ y mid. leaves levels readers readers_leave (step t y a) mid)
      (λ s c h. steady-opened readers readers_steady (opens a t) f r1 x1 c s h)
      (λ y s c h l. steady (step t y a) (s ∷ c) r1 x1 b1 t1 l) k)
      (length (front ++ r)) (length (front ++ x)) a front r x b t (omega arith) (omega arith) e
