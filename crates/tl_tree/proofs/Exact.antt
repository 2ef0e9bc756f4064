-- Reading gives a tree exactly where the tokens have it, and refuses a token exactly where the first row holds.
use Rattle.std.proofs.Common.{◌≡◌, ℕ, zero, suc, ◌<◌, ◌≤◌, Bool, true, false, not, cond, eqb, List, [], ◌∷◌, ◌++◌}
use Rattle.std.proofs.Common.{length, Option, Some, None, refl, sym, ap, ◌∙◌, subst, append_assoc, append-nil, arith}
use Rattle.std.proofs.Common.{inl, inr, ◌⊎◌, length-append, eq-eqb}
use Rattle.tl_lex.specs.Answers.{Position}
use Rattle.tl_tree.specs.Tokens.{Token}
use Rattle.tl_tree.specs.declared.symbol.Symbol.{Symbol}
use Rattle.tl_tree.specs.declared.symbol.Symbol.TheVariants.{Bad}
use Rattle.tl_lex.specs.declared.SyntaxKind.{SyntaxKind}
use Rattle.tl_lex.specs.declared.SyntaxKind.TheVariants.{BadByte, OpenText, BadEscape, BadNumber, NameTooLong}
use Rattle.tl_lex.specs.declared.SyntaxKind.TheVariants.{TextTooLong, TooDeep, Ambiguous, Unexpected, TooLong, NotUtf8}
use Rattle.tl_tree.specs.Symbols.{is_bad}
use Rattle.tl_tree.specs.Tree.{Part}
use Rattle.tl_tree.specs.Grammar.{Use, bar, breaks, is_too_large, is_too_deep, is_ambiguous, is_of, Grammar, give}
use Rattle.tl_tree.specs.Grammar.{token, bind, when, many, begins, Rule, Outcome, Took, Stop, ◌>>=◌, blame, unless}
use Rattle.tl_tree.specs.Grammar.{Readers, opened, turns, run}
use Rattle.tl_tree.specs.Refusing.{any, limits, is_allowed, limit_at, PastLimits, GrammarRefuses, Language, HasTree}
use Rattle.tl_tree.specs.Refusing.{Viable, Row, rank, FirstRow, NoRow, Refuses, Answer, IsTree, Refused, answer, Says}
use Rattle.tl_tree.proofs.Reading.{rest_of, with_rest, Allows, AllGood, Leaves, good, Answers, Barred}
use Rattle.tl_tree.proofs.Spelled.{Spelled}
use Rattle.tl_tree.proofs.Completing.{Shows, Forgives, Lenient, IsLimitKind, IsLimit, no_limit}

-- ---- who is to blame

abbrev pub Blames : {A : Type 0} → Outcome A → Type 0
Blames (Took a rest) = Unit {0}
Blames (Stop why []) = why ≡ Unexpected
Blames (Stop why (t ∷ rest)) =
    ((usage : Use) × (bar usage t ≡ Some why) × (is_bad t.symbol ≡ false)) ⊎ (why ≡ blame t.symbol)

blames-bind : {A B : Type 0} (o : Outcome A) (f : A → List Token → Outcome B) → Blames o
    → ((a : A) (mid : List Token) → Blames (f a mid)) → Blames (o >>= f)
blames-bind (Took a mid) f p q = q a mid
blames-bind (Stop why []) f p q = p
blames-bind (Stop why (t ∷ r)) f p q = p

blames-unless : {A : Type 0} (class : Token → Bool) (usage : Use) (t : Token) (ts : List Token)
    (next other : Outcome A) (c : Bool) → is_of class t ≡ c → (o : Option SyntaxKind) → bar usage t ≡ o → Blames next
    → Blames other → Blames (cond c (unless o (t ∷ ts) next) other)
blames-unless class usage t ts next other true h None k p q = p
blames-unless class usage t ts next other true h (Some why) k p q = inl (usage, k, good class t h)
blames-unless class usage t ts next other false h o k p q = q

blames-cond : {A : Type 0} (c : Bool) (x y : Outcome A) → Blames x → Blames y → Blames (cond c x y)
blames-cond true x y p q = p
blames-cond false x y p q = q

module _ {A : Type 0} (class : A → Token → Bool) (usage : A → Token → Use) (step : A → Token → List Token → Outcome A)
    (step_blames : (a : A) (t : Token) (ts : List Token) → Blames (step a t ts)) where
  blames-turns : (n : ℕ) (a : A) (ts : List Token) → Blames (turns n class (λ a t. bar (usage a t) t) step a ts)
  blames-turns zero a [] = tt
  blames-turns (suc n) a [] = tt
  blames-turns zero a (t ∷ ts) = tt
  blames-turns (suc n) a (t ∷ ts) =
      blames-unless (class a) (usage a t) t ts
      (step a t ts >>= λ x mid. turns n class (λ a t. bar (usage a t) t) step x mid) (Took a (t ∷ ts))
      (is_of (class a) t) refl (bar (usage a t) t) refl
      (blames-bind (step a t ts) (λ x mid. turns n class (λ a t. bar (usage a t) t) step x mid) (step_blames a t ts)
      (λ x mid. blames-turns n x mid)) tt

-- readers blame as the table says
abbrev pub ReadersBlame : Readers → Type 0
ReadersBlame readers = (part : Part) (ts : List Token) → Blames (readers part ts)

blames-opened : (readers : Readers) → ReadersBlame readers → (o : Option Part) (ts : List Token)
    → Blames (opened readers o ts)
blames-opened readers h None ts = tt
blames-opened readers h (Some part) ts = h part ts

pub blames-run : (levels : ℕ) (readers : Readers) → ReadersBlame readers
    → {A : Type 0} (g : Grammar A) (ts : List Token) → Blames (run levels readers g ts)
blames-run levels readers h (give a) ts = tt
blames-run levels readers h (token class usage opens sample) [] = refl
blames-run levels readers h (token class usage opens sample) (t ∷ ts) =
    blames-unless class (record { opens = opens t; levels = levels; usage = usage t }) t ts
    (opened readers (opens t) ts >>= λ x rest. Took (t, x) rest) (Stop (blame t.symbol) (t ∷ ts)) (is_of class t)
    refl (bar (record { opens = opens t; levels = levels; usage = usage t }) t) refl
    (blames-bind (opened readers (opens t) ts) (λ x rest. Took (t, x) rest) (blames-opened readers h (opens t) ts)
    (λ x rest. tt)) (inr refl)
blames-run levels readers h (bind g f) ts =
    blames-bind (run levels readers g ts) (λ a mid. run levels readers (f a) mid) (blames-run levels readers h g ts)
    (λ a mid. blames-run levels readers h (f a) mid)
blames-run levels readers h (when class g f) ts =
    blames-cond (begins class ts) (run levels readers g ts) (run levels readers f ts)
    (blames-run levels readers h g ts) (blames-run levels readers h f ts)
blames-run levels readers h (many class usage opens step a) ts =
    blames-turns class (λ a t. record { opens = opens a t; levels = levels; usage = usage a t })
    (λ a t inner. opened readers (opens a t) inner >>= λ x mid. run levels readers (step t x a) mid)
    (λ a t inner. blames-bind (opened readers (opens a t) inner) (λ x mid. run levels readers (step t x a) mid)
    (blames-opened readers h (opens a t) inner) (λ x mid. blames-run levels readers h (step t x a) mid))
    (length ts) a ts

-- ---- the rules

-- why the limits refuse a use, by the three tests
abbrev barred_by : Bool → Bool → Bool → Option SyntaxKind
barred_by n d a = cond n (Some BadNumber) (cond d (Some TooDeep) (cond a (Some Ambiguous) None))

some_same : (v w : SyntaxKind) → Some v ≡ Some w → v ≡ w
some_same v w e = cc

bar_limit : (n d a : Bool) (kind : SyntaxKind) → barred_by n d a ≡ Some kind → IsLimitKind kind
bar_limit true d a kind e = subst (λ (k : SyntaxKind). IsLimitKind k) (some_same BadNumber kind e) tt
bar_limit false true a kind e = subst (λ (k : SyntaxKind). IsLimitKind k) (some_same TooDeep kind e) tt
bar_limit false false true kind e = subst (λ (k : SyntaxKind). IsLimitKind k) (some_same Ambiguous kind e) tt
bar_limit false false false kind e = absurd cc

limit_kind : (usage : Use) (t : Token) (kind : SyntaxKind) → bar usage t ≡ Some kind → IsLimitKind kind
limit_kind usage t kind e = bar_limit (is_too_large usage.usage t) (is_too_deep usage) (is_ambiguous usage t) kind e

by_number : (n d a : Bool) → barred_by n d a ≡ Some BadNumber → n ≡ true
by_number true d a e = refl
by_number false true a e = absurd cc
by_number false false true e = absurd cc
by_number false false false e = absurd cc

by_depth : (n d a : Bool) → barred_by n d a ≡ Some TooDeep → d ≡ true
by_depth true d a e = absurd cc
by_depth false true a e = refl
by_depth false false true e = absurd cc
by_depth false false false e = absurd cc

by_ambiguity : (n d a : Bool) → barred_by n d a ≡ Some Ambiguous → a ≡ true
by_ambiguity true d a e = absurd cc
by_ambiguity false true a e = absurd cc
by_ambiguity false false true e = refl
by_ambiguity false false false e = absurd cc

-- a use that is refused for a reason breaks the limit that the reason names
broken : (usage : Use) (t : Token) (kind : SyntaxKind) → bar usage t ≡ Some kind → breaks kind usage t ≡ true
broken usage t BadNumber e = by_number (is_too_large usage.usage t) (is_too_deep usage) (is_ambiguous usage t) e
broken usage t TooDeep e = by_depth (is_too_large usage.usage t) (is_too_deep usage) (is_ambiguous usage t) e
broken usage t Ambiguous e = by_ambiguity (is_too_large usage.usage t) (is_too_deep usage) (is_ambiguous usage t) e
broken usage t kind e = absurd (limit_kind usage t kind e)

number_free : (n d a : Bool) (kind : SyntaxKind) → barred_by n d a ≡ Some kind → 3 < rank kind → n ≡ false
number_free true d a kind e lt = let r = ap (λ (k : SyntaxKind). rank k) (some_same BadNumber kind e) in
    absurd (omega (arith, r))
number_free false d a kind e lt = refl

depth_free : (n d a : Bool) (kind : SyntaxKind) → barred_by n d a ≡ Some kind → 6 < rank kind → d ≡ false
depth_free true d a kind e lt = let r = ap (λ (k : SyntaxKind). rank k) (some_same BadNumber kind e) in
    absurd (omega (arith, r))
depth_free false true a kind e lt = let r = ap (λ (k : SyntaxKind). rank k) (some_same TooDeep kind e) in
    absurd (omega (arith, r))
depth_free false false a kind e lt = refl

ambiguity_free : (n d a : Bool) (kind : SyntaxKind) → barred_by n d a ≡ Some kind → 7 < rank kind → a ≡ false
ambiguity_free true d a kind e lt = let r = ap (λ (k : SyntaxKind). rank k) (some_same BadNumber kind e) in
    absurd (omega (arith, r))
ambiguity_free false true a kind e lt = let r = ap (λ (k : SyntaxKind). rank k) (some_same TooDeep kind e) in
    absurd (omega (arith, r))
ambiguity_free false false true kind e lt = let r = ap (λ (k : SyntaxKind). rank k) (some_same Ambiguous kind e) in
    absurd (omega (arith, r))
ambiguity_free false false false kind e lt = refl

-- and no limit that comes earlier in the table
unbroken : (usage : Use) (t : Token) (kind other : SyntaxKind) → bar usage t ≡ Some kind → rank other < rank kind
    → breaks other usage t ≡ false
unbroken usage t kind BadNumber e lt =
    number_free (is_too_large usage.usage t) (is_too_deep usage) (is_ambiguous usage t) kind e lt
unbroken usage t kind TooDeep e lt =
    depth_free (is_too_large usage.usage t) (is_too_deep usage) (is_ambiguous usage t) kind e lt
unbroken usage t kind Ambiguous e lt =
    ambiguity_free (is_too_large usage.usage t) (is_too_deep usage) (is_ambiguous usage t) kind e lt
unbroken usage t kind _ e lt = refl

all_free : (n d a : Bool) → barred_by n d a ≡ None → (n ≡ false) × (d ≡ false) × (a ≡ false)
all_free true d a e = absurd cc
all_free false true a e = absurd cc
all_free false false true e = absurd cc
all_free false false false e = (refl, refl, refl)

-- a use that the limits allow breaks none
free : (usage : Use) (t : Token) (kind : SyntaxKind) → bar usage t ≡ None → breaks kind usage t ≡ false
free usage t BadNumber e = (all_free (is_too_large usage.usage t) (is_too_deep usage) (is_ambiguous usage t) e).0
free usage t TooDeep e = (all_free (is_too_large usage.usage t) (is_too_deep usage) (is_ambiguous usage t) e).1
free usage t Ambiguous e = (all_free (is_too_large usage.usage t) (is_too_deep usage) (is_ambiguous usage t) e).2
free usage t _ e = refl

cond_same : (c : Bool) (b : Bool) → b ≡ true → cond c b true ≡ true
cond_same true b e = e
cond_same false b e = refl

cond_not_here : (c b : Bool) → c ≡ false → cond c b true ≡ true
cond_not_here true b e = absurd cc
cond_not_here false b e = refl

not_same : (m n : ℕ) (b : Bool) → eqb m n ≡ b → m < n → b ≡ false
not_same m n true e lt = absurd (omega (arith, eqb_same m n e))
  where
    eqb_same : (m n : ℕ) → eqb m n ≡ true → m ≡ n
    eqb_same m n e = grind arith
not_same m n false e lt = refl

allows-any : Allows any
allows-any usage t ts e = refl

lenient-any : (n : ℕ) → Lenient any n
lenient-any n usage ts le = refl

allows-limits : Allows limits
allows-limits usage t ts e = ap (λ (o : Option SyntaxKind). is_allowed o) e

allows-limit_at : (kind : SyntaxKind) (after : List Token) → Allows (limit_at kind after)
allows-limit_at kind after usage t ts e =
    cond_same (eqb (length (t ∷ ts)) (suc (length after))) (not (breaks kind usage t))
    (ap (λ (b : Bool). not b) (free usage t kind e))

lenient-limit_at : (kind : SyntaxKind) (after : List Token) (n : ℕ) → n ≤ length after → Lenient (limit_at kind after) n
lenient-limit_at kind after n le usage [] short = refl
lenient-limit_at kind after n le usage (t ∷ ts) short =
    cond_not_here (eqb (length (t ∷ ts)) (suc (length after))) (not (breaks kind usage t))
    (not_same (length (t ∷ ts)) (suc (length after)) (eqb (length (t ∷ ts)) (suc (length after))) refl (omega arith))

-- ---- a token that is read meets no row

not_bad : (s : Symbol) (kind : SyntaxKind) → s ≡ Bad kind → is_bad s ≡ false → ⊥
not_bad s kind e h = let f = ap (λ (s : Symbol). is_bad s) e in cc

no_row_at : {A : Type 0} (Reads : Language A) (before : List Token) (t : Token) (after : List Token) (tree : A)
    → is_bad t.symbol ≡ false → Reads any (before ++ t ∷ after) tree
    → ((kind : SyntaxKind) → Reads (limit_at kind after) (before ++ t ∷ after) tree) → (kind : SyntaxKind)
    → Row Reads before t kind → ⊥
no_row_at {A} Reads before t after tree fine plain under kind (inl e) = not_bad t.symbol kind e fine
no_row_at {A} Reads before t after tree fine plain under kind (inr row) = against kind row
  where
    past : (kind : SyntaxKind) → PastLimits Reads before t kind → ⊥
    past kind row = row.1 after tree (under kind)

    against : (kind : SyntaxKind) → GrammarRefuses Reads before t kind → ⊥
    against BadNumber row = past BadNumber row
    against TooDeep row = past TooDeep row
    against Ambiguous row = past Ambiguous row
    against Unexpected row =
        row (after, tree, subst (λ (x : List Token). Reads any x tree) (sym (append_assoc before (t ∷ []) after)) plain)
    against _ row = row

-- ---- the front of a refused token can be completed

shows_open : {A : Type 0} (o : Outcome A) → rest_of o ≡ [] → Shows o []
shows_open (Took a rest) e = (e, refl)
shows_open (Stop why []) e = refl
shows_open (Stop why (t ∷ rest)) e = absurd cc

forgives_open : {A : Type 0} (o : Outcome A) (rule : Rule) (tail : List Token) → rest_of o ≡ [] → Forgives o rule tail
forgives_open (Took a rest) rule tail e = tt
forgives_open (Stop why []) rule tail e = tt
forgives_open (Stop why (t ∷ rest)) rule tail e = absurd cc

-- an outcome looks at one token beyond what it takes
abbrev pub Steady : {A : Type 0} → (List Token → Outcome A) → Type 0
Steady o = (front r x b : List Token) (t : Token) → rest_of (o (front ++ r)) ≡ t ∷ (b ++ r)
    → o (front ++ x) ≡ with_rest (t ∷ (b ++ x)) (o (front ++ r))

-- what is left after the tokens before a token that is left
open_before : {A : Type 0} (o : List Token → Outcome A) → Steady o
    → (before after : List Token) (t : Token) (rest : List Token) → rest_of (o (before ++ [])) ≡ rest
    → rest_of (o (before ++ t ∷ after)) ≡ t ∷ after → rest ≡ []
open_before o steady before after t [] e h = refl
open_before o steady before after t (s ∷ q) e h =
    let moved = steady before [] (t ∷ after) q s (e ∙ ap (λ (x : List Token). s ∷ x) (sym (append-nil q))) in
    let both : s ∷ (q ++ t ∷ after) ≡ t ∷ after =
    sym (rest-with (s ∷ (q ++ t ∷ after)) (o (before ++ []))) ∙ ap (λ (o : Outcome _). rest_of o) (sym moved) ∙ h in
    let l = ap length both in
    absurd (omega (arith, l, length-append q (t ∷ after)))
  where
    rest-with : {A : Type 0} (r : List Token) (o : Outcome A) → rest_of (with_rest r o) ≡ r
    rest-with r (Took a rest) = refl
    rest-with r (Stop why rest) = refl

-- Reading meets a language: what it takes is read, what is read it takes or the limits refuse, and what it shows can be
-- completed.
pub record Meets {A : Type 0} (o : List Token → Outcome A) (Reads : Language A) : Type 0 where
  pub leaves : (ts : List Token) → Leaves (rest_of (o ts)) ts
  pub steady : Steady o
  pub blames : (ts : List Token) → Blames (o ts)
  pub sound : (rule : Rule) → Allows rule → (ts : List Token) (a : A) → o ts ≡ Took a [] → Reads rule ts a
  pub complete : (rule : Rule) (ts : List Token) (a : A) → Reads rule ts a → Answers rule a [] (o ts)
  pub completes : (front r : List Token) → Shows (o (front ++ r)) r → (more : List Token) × (a : A)
      × ((rule : Rule) → Allows rule → Lenient rule (length more) → Forgives (o (front ++ r)) rule more
      → Reads rule (front ++ more) a)

module _ {A : Type 0} (o : List Token → Outcome A) (Reads : Language A) (meets : Meets o Reads) where
  open meets use {leaves, steady, blames, sound, complete, completes}

  -- the front, with some tokens after it, is read under each rule that allows what the limits allow in the front, and
  -- everything after it
  Goes : List Token → Type 0
  Goes front = (more : List Token) × (a : A)
      × ((rule : Rule) → Allows rule → Lenient rule (length more) → Reads rule (front ++ more) a)

  goes : (front : List Token) → rest_of (o (front ++ [])) ≡ [] → Goes front
  unfolding Goes
  goes front e =
      let c = completes front [] (shows_open (o (front ++ [])) e) in
      (c.0, c.1, λ rule al le. c.2 rule al le (forgives_open (o (front ++ [])) rule c.0 e))

  good_at : (before : List Token) (t : Token) (between : List Token) → AllGood (before ++ t ∷ between)
      → is_bad t.symbol ≡ false
  good_at [] t between h = h.0
  good_at (x ∷ before) t between h = good_at before t between h.1

  no_row : (front : List Token) → AllGood front → Goes front → NoRow Reads front
  unfolding Goes
  no_row front fine w before t between e kind row =
      let same : front ++ w.0 ≡ before ++ t ∷ (between ++ w.0) =
      ap (λ (x : List Token). x ++ w.0) e ∙ append_assoc before (t ∷ between) w.0 in
      no_row_at Reads before t (between ++ w.0) w.1
      (good_at before t between (subst (λ (x : List Token). AllGood x) e fine))
      (subst (λ (x : List Token). Reads any x w.1) same (w.2 any allows-any (lenient-any (length w.0))))
      (λ other. subst (λ (x : List Token). Reads (limit_at other (between ++ w.0)) x w.1) same
      (w.2 (limit_at other (between ++ w.0)) (allows-limit_at other (between ++ w.0))
      (lenient-limit_at other (between ++ w.0) (length w.0) (omega (arith, length-append between w.0)))))
      kind row

  -- ---- the row at the refused token

  retail : (before rest : List Token) (t : Token) (more : List Token) → rest_of (o (before ++ t ∷ rest)) ≡ t ∷ rest
      → o (before ++ t ∷ more) ≡ with_rest (t ∷ more) (o (before ++ t ∷ rest))
  retail before rest t more e =
      let one : (x : List Token) → (before ++ t ∷ []) ++ x ≡ before ++ t ∷ x = λ x. append_assoc before (t ∷ []) x in
      let h = steady (before ++ t ∷ []) rest more [] t (ap (λ (x : List Token). rest_of (o x)) (one rest) ∙ e) in
      ap (λ (x : List Token). o x) (sym (one more)) ∙ h ∙ ap (λ (x : List Token). with_rest (t ∷ more) (o x)) (one rest)

  -- a reading that goes on after the refused token
  barred : (rule : Rule) (before rest : List Token) (t : Token) (why : SyntaxKind) (more : List Token) (a : A)
      → o (before ++ t ∷ rest) ≡ Stop why (t ∷ rest) → Reads rule (before ++ t ∷ more) a → Barred rule why (t ∷ more)
  barred rule before rest t why more a e r =
      subst (λ (o : Outcome A). Answers rule a [] o)
      (retail before rest t more (ap (λ (o : Outcome A). rest_of o) e)
      ∙ ap (λ (o : Outcome A). with_rest (t ∷ more) o) e) (complete rule (before ++ t ∷ more) a r)

  passed : (rule : Rule) (before rest : List Token) (t : Token) (x : A) (more : List Token) (a : A)
      → o (before ++ t ∷ rest) ≡ Took x (t ∷ rest) → Reads rule (before ++ t ∷ more) a → ⊥
  passed rule before rest t x more a e r =
      let h : Answers rule a [] (Took x (t ∷ more)) =
      subst (λ (o : Outcome A). Answers rule a [] o)
      (retail before rest t more (ap (λ (o : Outcome A). rest_of o) e)
      ∙ ap (λ (o : Outcome A). with_rest (t ∷ more) o) e) (complete rule (before ++ t ∷ more) a r) in
      absurd (nil_cons h.1)
    where
      nil_cons : {t : Token} {ts : List Token} → ◌≡◌ {A = List Token} [] (t ∷ ts) → ⊥
      nil_cons e = cc

  -- no text goes on after the token
  Ended : List Token → Token → Type 0
  Ended before t = Viable Reads (before ++ t ∷ []) → ⊥

  rank_most : (kind : SyntaxKind) → rank kind ≤ 10
  rank_most BadByte = omega arith
  rank_most OpenText = omega arith
  rank_most BadEscape = omega arith
  rank_most BadNumber = omega arith
  rank_most NameTooLong = omega arith
  rank_most TextTooLong = omega arith
  rank_most TooDeep = omega arith
  rank_most Ambiguous = omega arith
  rank_most Unexpected = omega arith
  rank_most TooLong = omega arith
  rank_most NotUtf8 = omega arith

  -- where no text goes on, the grammar has nothing earlier against the token
  not_against : (before : List Token) (t : Token) → Ended before t → (kind : SyntaxKind) → rank kind < 10
      → GrammarRefuses Reads before t kind → ⊥
  unfolding Ended
  not_against before t none BadNumber lt row = none row.0
  not_against before t none TooDeep lt row = none row.0
  not_against before t none Ambiguous lt row = none row.0
  not_against before t none Unexpected lt row = absurd (omega arith)
  not_against before t none _ lt row = row

  bad_row : (before : List Token) (t : Token) → Ended before t → (kind : SyntaxKind) → t.symbol ≡ Bad kind
      → FirstRow Reads before t kind
  bad_row before t none kind e =
      record {
        holds = inl e;
        earlier = λ other lt row.
            elim row [
              | inl f ↦ let r = ap (λ (k : SyntaxKind). rank k) (bad_same other kind (sym f ∙ e)) in
                  absurd (omega (arith, r))
              | inr row ↦ not_against before t none other (omega (arith, rank_most kind)) row
            ];
      }
    where
      bad_same : (v w : SyntaxKind) → Bad v ≡ Bad w → v ≡ w
      bad_same v w e = cc

  unexpected_row : (before : List Token) (t : Token) → Ended before t → is_bad t.symbol ≡ false
      → FirstRow Reads before t Unexpected
  unfolding Ended
  unexpected_row before t none fine =
      record {
        holds = inr none;
        earlier = λ other lt row.
            elim row [ inl f ↦ not_bad t.symbol other f fine | inr row ↦ not_against before t none other lt row ];
      }

  blamed_row : (before : List Token) (t : Token) → Ended before t → (s : Symbol) → t.symbol ≡ s
      → FirstRow Reads before t (blame s)
  blamed_row before t none (Bad kind) e = bad_row before t none kind e
  blamed_row before t none s e = unexpected_row before t none (ap (λ (s : Symbol). is_bad s) e)

  viable : (before rest : List Token) (t : Token) (why : SyntaxKind) → IsLimit t why
      → o (before ++ t ∷ rest) ≡ Stop why (t ∷ rest) → (more : List Token) × (a : A)
      × ((rule : Rule) → Allows rule → Lenient rule (length more) → Forgives {A = A} (Stop why (t ∷ rest)) rule more
      → Reads rule ((before ++ t ∷ []) ++ more) a)
  viable before rest t why limit e =
      let is : o ((before ++ t ∷ []) ++ rest) ≡ Stop why (t ∷ rest) =
      ap (λ (x : List Token). o x) (append_assoc before (t ∷ []) rest) ∙ e in
      subst (λ (p : Outcome A). (more : List Token) × (a : A)
      × ((rule : Rule) → Allows rule → Lenient rule (length more) → Forgives p rule more
      → Reads rule ((before ++ t ∷ []) ++ more) a)) is
      (completes (before ++ t ∷ []) rest (subst (λ (o : Outcome A). Shows o rest) (sym is) (refl, limit)))

  past_limits : (why : SyntaxKind) → IsLimitKind why → (before : List Token) (t : Token)
      → PastLimits Reads before t why → GrammarRefuses Reads before t why
  past_limits BadNumber limit before t row = row
  past_limits TooDeep limit before t row = row
  past_limits Ambiguous limit before t row = row
  past_limits _ limit before t row = absurd limit

  here : (n : ℕ) → eqb n n ≡ true
  here n = eq-eqb n n refl

  forbidden : (why : SyntaxKind) (usage : Use) (t : Token) (more : List Token) → breaks why usage t ≡ true
      → limit_at why more usage (t ∷ more) ≡ true → ⊥
  forbidden why usage t more h r =
      let s : limit_at why more usage (t ∷ more) ≡ false =
      ap (λ (b : Bool). cond b (not (breaks why usage t)) true) (here (length (t ∷ more)))
      ∙ ap (λ (b : Bool). not b) h in
      cc

  limit_row : (before rest : List Token) (t : Token) (why : SyntaxKind) → o (before ++ t ∷ rest) ≡ Stop why (t ∷ rest)
      → (usage : Use) → bar usage t ≡ Some why → is_bad t.symbol ≡ false → FirstRow Reads before t why
  limit_row before rest t why e usage k fine =
      let limit : IsLimitKind why = limit_kind usage t why k in
      let c = viable before rest t why (fine, limit) e in
      let begun : Viable Reads (before ++ t ∷ []) =
      (c.0, c.1, c.2 any allows-any (lenient-any (length c.0)) (λ r h. refl)) in
      record {
        holds = inr (past_limits why limit before t (
          begun,
          λ more a r.
              let b = barred (limit_at why more) before rest t why more a e r in
              forbidden why b.0 t more (broken b.0 t why b.2) b.1,
        ));
        earlier = λ other lt row.
            elim row [ inl f ↦ not_bad t.symbol other f fine | inr row ↦ none_earlier c.0 c.1 c.2 begun other lt row ];
      }
    where
      none_earlier : (tail : List Token) (a : A)
          → ((rule : Rule) → Allows rule → Lenient rule (length tail)
          → Forgives {A = A} (Stop why (t ∷ rest)) rule tail → Reads rule ((before ++ t ∷ []) ++ tail) a)
          → Viable Reads (before ++ t ∷ []) → (other : SyntaxKind) → rank other < rank why
          → GrammarRefuses Reads before t other → ⊥
      none_earlier tail a reads begun other lt row = against other lt row
        where
          past : (other : SyntaxKind) → rank other < rank why → PastLimits Reads before t other → ⊥
          past other lt row =
              row.1 tail a (subst (λ (x : List Token). Reads (limit_at other tail) x a)
              (append_assoc before (t ∷ []) tail)
              (reads (limit_at other tail) (allows-limit_at other tail)
              (lenient-limit_at other tail (length tail) (omega arith))
              (λ r h. cond_same (eqb (length (t ∷ tail)) (suc (length tail))) (not (breaks other r t))
              (ap (λ (b : Bool). not b) (unbroken r t why other h lt)))))

          against : (other : SyntaxKind) → rank other < rank why → GrammarRefuses Reads before t other → ⊥
          against BadNumber lt row = past BadNumber lt row
          against TooDeep lt row = past TooDeep lt row
          against Ambiguous lt row = past Ambiguous lt row
          against Unexpected lt row = row begun
          against _ lt row = row

  -- ---- what reading answers

  tree_reads : (ts : List Token) (tree : A) → o ts ≡ Took tree [] → HasTree Reads ts tree
  tree_reads ts tree e = sound limits allows-limits ts tree e

  refused : (ts : List Token) (why : SyntaxKind) (t : Token) (rest : List Token) (p : Outcome A) → o ts ≡ p
      → rest_of p ≡ t ∷ rest → ((before : List Token) → ts ≡ before ++ t ∷ rest → FirstRow Reads before t why)
      → Refuses Reads ts why (t ∷ rest)
  refused ts why t rest p e h row =
      let left = leaves ts in
      let left-is : rest_of (o ts) ≡ t ∷ rest = ap (λ (x : Outcome A). rest_of x) e ∙ h in
      let parts : ts ≡ left.0 ++ t ∷ rest = left.1 ∙ ap (λ (x : List Token). left.0 ++ x) left-is in
      let goes_on = goes left.0
      (open_before o steady left.0 rest t (rest_of (o (left.0 ++ []))) refl
      (ap (λ (x : List Token). rest_of (o x)) (sym parts) ∙ left-is)) in
      (left.0, parts, no_row left.0 left.2 goes_on, row left.0 parts)

  ended_stop : (before rest : List Token) (t : Token) (why : SyntaxKind) → o (before ++ t ∷ rest) ≡ Stop why (t ∷ rest)
      → why ≡ blame t.symbol → Ended before t
  unfolding Ended
  ended_stop before rest t why e h v =
      let b = barred any before rest t why v.0 v.1 e
      (subst (λ (x : List Token). Reads any x v.1) (append_assoc before (t ∷ []) v.0) v.2) in
      no_limit t (b.3, subst (λ (w : SyntaxKind). IsLimitKind w) h (limit_kind b.0 t why b.2))

  ended_took : (before rest : List Token) (t : Token) (x : A) → o (before ++ t ∷ rest) ≡ Took x (t ∷ rest)
      → Ended before t
  unfolding Ended
  ended_took before rest t x e v =
      passed any before rest t x v.0 v.1 e
      (subst (λ (y : List Token). Reads any y v.1) (append_assoc before (t ∷ []) v.0) v.2)

  says : (ts : List Token) (p : Outcome A) → o ts ≡ p → Says Reads ts (answer p)
  says ts (Took tree []) e = tree_reads ts tree e
  says ts (Took tree (t ∷ rest)) e =
      refused ts (blame t.symbol) t rest (Took tree (t ∷ rest)) e refl
      (λ before parts. blamed_row before t
      (ended_took before rest t tree (ap (λ (x : List Token). o x) (sym parts) ∙ e)) t.symbol refl)
  says ts (Stop why []) e = (
    subst (λ (o : Outcome A). Blames o) e (blames ts),
    no_row ts (all_good ts (subst (λ (o : Outcome A). Leaves (rest_of o) ts) e (leaves ts)))
        (goes ts (ap (λ (x : List Token). rest_of (o x)) (append-nil ts) ∙ ap (λ (o : Outcome A). rest_of o) e)),
    λ tree r. subst (λ (o : Outcome A). Answers any tree [] o) e (complete any ts tree r),
  )
    where
      all_good : (ts : List Token) → Leaves [] ts → AllGood ts
      all_good ts p = subst (λ (x : List Token). AllGood x) (sym (append-nil p.0) ∙ sym p.1) p.2
  says ts (Stop why (t ∷ rest)) e =
      refused ts why t rest (Stop why (t ∷ rest)) e refl
      (λ before parts.
      let is : o (before ++ t ∷ rest) ≡ Stop why (t ∷ rest) = ap (λ (x : List Token). o x) (sym parts) ∙ e in
      let b : Blames {A = A} (Stop why (t ∷ rest)) = subst (λ (o : Outcome A). Blames o) e (blames ts) in
      elim b [
        | inl p ↦ limit_row before rest t why is p.0 p.1 p.2
        | inr p ↦ subst (λ (w : SyntaxKind). FirstRow Reads before t w) (sym p)
            (blamed_row before t (ended_stop before rest t why is p) t.symbol refl)
      ])

  -- each list of tokens has the tree, or is refused where, the answer says
  pub answers : (ts : List Token) → Says Reads ts (answer (o ts))
  answers ts = says ts (o ts) refl

-- ---- one answer

-- two places in a list are one, or one comes before the other
data Places (b1 : List Token) (t1 : Token) (a1 : List Token) (b2 : List Token) (t2 : Token) (a2 : List Token) : Type 0
  where
    same : b1 ≡ b2 → t1 ≡ t2 → a1 ≡ a2 → Places b1 t1 a1 b2 t2 a2
    before_it : (m : List Token) → b2 ≡ b1 ++ t1 ∷ m → Places b1 t1 a1 b2 t2 a2
    behind_it : (m : List Token) → b1 ≡ b2 ++ t2 ∷ m → Places b1 t1 a1 b2 t2 a2

more_before : (x : Token) (b1 : List Token) (t1 : Token) (a1 b2 : List Token) (t2 : Token) (a2 : List Token)
    → Places b1 t1 a1 b2 t2 a2 → Places (x ∷ b1) t1 a1 (x ∷ b2) t2 a2
more_before x b1 t1 a1 b2 t2 a2 (same p q r) = same (ap (λ (l : List Token). x ∷ l) p) q r
more_before x b1 t1 a1 b2 t2 a2 (before_it m p) = before_it m (ap (λ (l : List Token). x ∷ l) p)
more_before x b1 t1 a1 b2 t2 a2 (behind_it m p) = behind_it m (ap (λ (l : List Token). x ∷ l) p)

heads : (x y : Token) (xs ys : List Token) → x ∷ xs ≡ y ∷ ys → (x ≡ y) × (xs ≡ ys)
heads x y xs ys e = (cc, cc)

places : (b1 : List Token) (t1 : Token) (a1 b2 : List Token) (t2 : Token) (a2 : List Token) → b1 ++ t1 ∷ a1 ≡ b2
    ++ t2 ∷ a2 → Places b1 t1 a1 b2 t2 a2
places [] t1 a1 [] t2 a2 e = let h = heads t1 t2 a1 a2 e in same refl h.0 h.1
places [] t1 a1 (y ∷ b2) t2 a2 e = let h = heads t1 y a1 (b2 ++ t2 ∷ a2) e in
    before_it b2 (ap (λ (z : Token). z ∷ b2) (sym h.0))
places (x ∷ b1) t1 a1 [] t2 a2 e = let h = heads x t2 (b1 ++ t1 ∷ a1) a2 e in
    behind_it b1 (ap (λ (z : Token). z ∷ b1) h.0)
places (x ∷ b1) t1 a1 (y ∷ b2) t2 a2 e =
    let h = heads x y (b1 ++ t1 ∷ a1) (b2 ++ t2 ∷ a2) e in
    subst (λ (z : Token). Places (x ∷ b1) t1 a1 (z ∷ b2) t2 a2) h.0
    (more_before x b1 t1 a1 b2 t2 a2 (places b1 t1 a1 b2 t2 a2 h.1))

abbrev kind_at : ℕ → SyntaxKind
kind_at n =
    cond (eqb n 0) BadByte (cond (eqb n 1) OpenText
    (cond (eqb n 2) BadEscape (cond (eqb n 3) BadNumber (cond (eqb n 4) NameTooLong (cond (eqb n 5) TextTooLong
    (cond (eqb n 6) TooDeep (cond (eqb n 7) Ambiguous
    (cond (eqb n 8) TooLong (cond (eqb n 9) NotUtf8 Unexpected)))))))))

kind_at_rank : (v : SyntaxKind) → kind_at (rank v) ≡ v
kind_at_rank BadByte = refl
kind_at_rank OpenText = refl
kind_at_rank BadEscape = refl
kind_at_rank BadNumber = refl
kind_at_rank NameTooLong = refl
kind_at_rank TextTooLong = refl
kind_at_rank TooDeep = refl
kind_at_rank Ambiguous = refl
kind_at_rank Unexpected = refl
kind_at_rank TooLong = refl
kind_at_rank NotUtf8 = refl

same_rank : (v w : SyntaxKind) → rank v ≡ rank w → v ≡ w
same_rank v w e = sym (kind_at_rank v) ∙ ap (λ (n : ℕ). kind_at n) e ∙ kind_at_rank w

one_first : {A : Type 0} (Reads : Language A) (before : List Token) (t : Token) (v w : SyntaxKind)
    → FirstRow Reads before t v → FirstRow Reads before t w → v ≡ w
one_first Reads before t v w p q = go (cases_three (rank v) (rank w))
  where
    cases_three : (m n : ℕ) → (m ≡ n) ⊎ ((m < n) ⊎ (n < m))
    cases_three zero zero = inl refl
    cases_three zero (suc n) = inr (inl (omega arith))
    cases_three (suc m) zero = inr (inr (omega arith))
    cases_three (suc m) (suc n) =
        elim (cases_three m n) [
          | inl e ↦ inl (ap suc e)
          | inr s ↦ inr
              (elim s [ inl l ↦ inl (omega arith) | inr l ↦ inr (omega arith) ])
        ]

    go : (rank v ≡ rank w) ⊎ ((rank v < rank w) ⊎ (rank w < rank v)) → v ≡ w
    go (inl e) = same_rank v w e
    go (inr (inl l)) = absurd (q.earlier v l p.holds)
    go (inr (inr l)) = absurd (p.earlier w l q.holds)

pub one_refusal : {A : Type 0} (Reads : Language A) (ts : List Token) (v : SyntaxKind) (r : List Token)
    (w : SyntaxKind) (s : List Token) → Refuses Reads ts v r → Refuses Reads ts w s → (v ≡ w) × (r ≡ s)
one_refusal Reads ts v [] w [] p q = (p.0 ∙ sym q.0, refl)
one_refusal Reads ts v [] w (t ∷ after) p q = absurd (p.1 q.0 t after q.1 w q.3.holds)
one_refusal Reads ts v (t ∷ after) w [] p q = absurd (q.1 p.0 t after p.1 v p.3.holds)
one_refusal Reads ts v (t ∷ after) w (u ∷ later) p q = go (places p.0 t after q.0 u later (sym p.1 ∙ q.1))
  where
    go : Places p.0 t after q.0 u later → (v ≡ w) × (◌≡◌ {A = List Token} (t ∷ after) (u ∷ later))
    go (same e f h) =
        let moved : FirstRow Reads p.0 t w =
        subst (λ (b : List Token). FirstRow Reads b t w) (sym e)
        (subst (λ (x : Token). FirstRow Reads q.0 x w) (sym f) q.3) in
        (one_first Reads p.0 t v w p.3 moved, cc)
    go (before_it m e) = absurd (q.2 p.0 t m e v p.3.holds)
    go (behind_it m e) = absurd (p.2 q.0 u m e w q.3.holds)

module _ {A : Type 0} (o : List Token → Outcome A) (Reads : Language A) (meets : Meets o Reads) where
  open meets use {leaves, sound, complete}

  pub tree_runs : (ts : List Token) (tree : A) → HasTree Reads ts tree → o ts ≡ Took tree []
  tree_runs ts tree h = go (o ts) (complete limits ts tree h)
    where
      not_barred : (why : SyntaxKind) (rest : List Token) → Barred limits why rest → ⊥
      not_barred why [] b = b
      not_barred why (t ∷ rest) b = let e = ap (λ (o : Option SyntaxKind). is_allowed o) b.2 in let f = b.1 in cc

      go : (p : Outcome A) → Answers limits tree [] p → p ≡ Took tree []
      go (Took x rest) p = ap (λ (y : A). Took y rest) (sym p.0) ∙ ap (λ (y : List Token). Took tree y) (sym p.1)
      go (Stop why rest) p = absurd (not_barred why rest p)

  pub one_tree : (ts : List Token) (a b : A) → HasTree Reads ts a → HasTree Reads ts b → a ≡ b
  one_tree ts a b p q = took_same (sym (tree_runs ts a p) ∙ tree_runs ts b q)
    where
      took_same : Took a [] ≡ Took b [] → a ≡ b
      took_same e = cc

  pub not_both : (ts : List Token) (tree : A) (why : SyntaxKind) (rest : List Token) → HasTree Reads ts tree
      → Refuses Reads ts why rest → ⊥
  not_both ts tree why rest h r = go why rest r
    where
      run-is : o ts ≡ Took tree []
      run-is = tree_runs ts tree h

      under : (rule : Rule) → Allows rule → Reads rule ts tree
      under rule al = sound rule al ts tree run-is

      all_good : AllGood ts
      all_good =
          let left = subst (λ (p : Outcome A). Leaves (rest_of p) ts) run-is (leaves ts) in
          subst (λ (x : List Token). AllGood x) (sym (append-nil left.0) ∙ sym left.1) left.2

      is_good : (before : List Token) (t : Token) (between : List Token) → AllGood (before ++ t ∷ between)
          → is_bad t.symbol ≡ false
      is_good [] t between p = p.0
      is_good (x ∷ before) t between p = is_good before t between p.1

      row : (before : List Token) (t : Token) (after : List Token) → ts ≡ before ++ t ∷ after → (why : SyntaxKind)
          → Row Reads before t why → ⊥
      row before t after e why p =
          no_row_at Reads before t after tree
          (is_good before t after (subst (λ (x : List Token). AllGood x) e all_good))
          (subst (λ (x : List Token). Reads any x tree) e (under any allows-any))
          (λ other. subst (λ (x : List Token). Reads (limit_at other after) x tree) e
          (under (limit_at other after) (allows-limit_at other after))) why p

      go : (why : SyntaxKind) (rest : List Token) → Refuses Reads ts why rest → ⊥
      go why [] p = p.2 tree (under any allows-any)
      go why (t ∷ after) p = row p.0 t after p.1 why p.3.holds

  -- each list of tokens has what reading answers, and nothing else
  pub only_answer : (ts : List Token) (x : Answer A) → Says Reads ts x → x ≡ answer (o ts)
  only_answer ts (IsTree tree) h = sym (ap (λ (p : Outcome A). answer p) (tree_runs ts tree h))
  only_answer ts (Refused why rest) h = go (answer (o ts)) (answers o Reads meets ts)
    where
      go : (y : Answer A) → Says Reads ts y → Refused why rest ≡ y
      go (IsTree tree) k = absurd (not_both ts tree why rest k h)
      go (Refused w s) k = let e = one_refusal Reads ts why rest w s h k in
          ap (λ (v : SyntaxKind). Refused v rest) e.0 ∙ ap (λ (l : List Token). Refused w l) e.1

-- ---- what goes on

-- The front breaks no rule of tokens, and goes on from this place with tokens that stand one behind the other, the
-- limits aside.
pub record GoesOn {A : Type 0} (Reads : Language A) (p : Position) (front : List Token) : Type 0 where
  pub good : AllGood front
  pub more : List Token
  pub tree : A
  pub spelled : Spelled p more
  pub reads : Reads any (front ++ more) tree

module _ {A : Type 0} (o : List Token → Outcome A) (Reads : Language A) (meets : Meets o Reads) where
  -- where no row holds at any of its tokens, reading takes all of it
  pub unrefused_viable : (front : List Token) → NoRow Reads front → Viable Reads front
  unfolding Goes
  unrefused_viable front none = go (o front) refl
    where
      taken : rest_of (o front) ≡ [] → Viable Reads front
      taken e =
          let g = goes o Reads meets front (ap (λ (x : List Token). rest_of (o x)) (append-nil front) ∙ e) in
          (g.0, g.1, g.2 any allows-any (lenient-any (length g.0)))

      go : (out : Outcome A) → o front ≡ out → Viable Reads front
      go (Took x []) e = taken (ap (λ (o : Outcome A). rest_of o) e)
      go (Stop why []) e = taken (ap (λ (o : Outcome A). rest_of o) e)
      go (Took x (u ∷ rest)) e = let r = says o Reads meets front (Took x (u ∷ rest)) e in
          absurd (none r.0 u rest r.1 (blame u.symbol) r.3.holds)
      go (Stop why (u ∷ rest)) e = let r = says o Reads meets front (Stop why (u ∷ rest)) e in
          absurd (none r.0 u rest r.1 why r.3.holds)
