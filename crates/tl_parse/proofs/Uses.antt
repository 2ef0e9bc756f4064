-- The forms of grammars, in terms of uses of single tokens and of what parts give.
use Rattle.std.proofs.Common.{◌≡◌, ℕ, zero, suc, ◌-◌, ◌<◌, Bool, true, false, cond, List, [], ◌∷◌, length, Option, Some, None, refl, sym}
use Rattle.std.proofs.Common.{ap, subst, ◌∙◌, arith}
use Rattle.std.specs.Prelude.{◌||◌}
use Rattle.tl_base.specs.declared.place.Place.{Place}
use Rattle.tl_lex.specs.declared.SyntaxKind.{SyntaxKind}
use Rattle.tl_lex.specs.declared.SyntaxKind.TheVariants as why
use Rattle.tl_tree.specs.declared.symbol.Symbol.{Symbol}
use Rattle.tl_tree.specs.declared.mode.TokenUse.{TokenUse}
use Rattle.tl_tree.specs.declared.mode.TokenUse.TheVariants.{Plain}
use Rattle.tl_tree.specs.Symbols.{is_bad}
use Rattle.tl_tree.specs.Tokens.{Token, is, sample}
use Rattle.tl_tree.specs.Tree.{Tree, Nothing, Part}
use Rattle.tl_tree.specs.Grammar.{Grammar, token, bind, many, Outcome, Took, Stop, ◌>>=◌, begins, is_of, blame, unless, unexpected, opened}
use Rattle.tl_tree.specs.Grammar.{bar, is_too_large, is_ambiguous, chain_too_long, below, readers_at}
use Rattle.tl_tree.specs.Forms.{sign, opening, opening_at, Chained}
use Rattle.tl_tree.specs.Syntax.{syntax_of}
use Rattle.tl_tree.proofs.Reading.{rest_of, Leaves, leaves, leaves_length, leaves-opened, bind_took}
use Rattle.tl_tree.proofs.Unrolling.{bind_again, many_turn, many_barred, many_ends, below_leave}
use Rattle.tl_parse.specs.Views.Using.{reading, part_at, barred, used, sign_at, open_at}

-- no token is of a class that it is not of
pub never : false ≡ true → ⊥
never h = cc

pub bind_same : {A B : Type 0} (o : Outcome A) (f g : A → List Token → Outcome B) → ((a : A) (mid : List Token) → f a mid ≡ g a mid) → (o >>= f) ≡ (o >>= g)
bind_same (Took a mid) f g h = h a mid
bind_same (Stop kind rest) f g h = refl

-- ---- tokens

-- a token, and what it opens
abbrev pub both : Token → Tree → Token × Tree
both t x = (t, x)

-- an operator, and its right operand
abbrev pub operator_with : Token → Chained → Token × Chained
operator_with t b = (t, b)

-- what a token opens
abbrev pub opened_at : ℕ → Option Part → List Token → Outcome Tree
opened_at levels None ts = Took Nothing ts
opened_at levels (Some part) ts = part_at (levels - 1) part ts

abbrev pub opens_any : Option Part → Bool
opens_any None = false
opens_any (Some part) = true

readers_read : (l : ℕ) (part : Part) (ts : List Token) → readers_at syntax_of l part ts ≡ part_at l part ts
unfolding part_at
readers_read zero part ts = refl
readers_read (suc l) part ts = refl

none_left : (large c d : Bool) → cond large (Some why.BadNumber) (cond (true || c) (Some why.TooDeep) (cond d (Some why.Ambiguous) None)) ≡ None → ⊥
none_left true c d h = cc
none_left false c d h = cc

opened_is : (levels : ℕ) (o : Option Part) (usage : TokenUse) (t : Token) (ts : List Token) → bar (record { opens = o; levels = levels; usage = usage }) t ≡ None → opened (λ part us. below syntax_of levels part us) o ts ≡ opened_at levels o ts
opened_is levels None usage t ts h = refl
opened_is zero (Some part) usage t ts h = absurd (none_left (is_too_large usage t) (chain_too_long usage) (is_ambiguous (record { opens = Some part; levels = zero; usage = usage }) t) h)
opened_is (suc l) (Some part) usage t ts h = let e : suc l - 1 ≡ l = omega arith in readers_read l part ts ∙ ap (λ (k : ℕ). part_at k part ts) (sym e)

barred_is : (levels : ℕ) (o : Option Part) (usage : TokenUse) (t : Token) → bar (record { opens = o; levels = levels; usage = usage }) t ≡ barred (opens_any o) levels usage t
barred_is levels None usage t = refl
barred_is levels (Some part) usage t = refl

by_token : (levels : ℕ) (o : Option Part) (t : Token) (ts : List Token) (c : Bool) (b : Option SyntaxKind) → (b ≡ None → opened (λ part us. below syntax_of levels part us) o ts ≡ opened_at levels o ts) →
    cond c (unless b (t ∷ ts) (opened (λ part us. below syntax_of levels part us) o ts >>= λ x rest. Took (both t x) rest)) (Stop (blame t.symbol) (t ∷ ts))
    ≡ (cond c (unless b (t ∷ ts) (Took t ts)) (Stop (blame t.symbol) (t ∷ ts)) >>= λ u mid. opened_at levels o mid >>= λ x rest. Took (both u x) rest)
by_token levels o t ts false b h = refl
by_token levels o t ts true (Some kind) h = refl
by_token levels o t ts true None h = ap (λ (x : Outcome Tree). x >>= λ x rest. Took (both t x) rest) (h refl)

-- a token, and the part that it opens
pub token_is : (levels : ℕ) (class : Token → Bool) (usage : Token → TokenUse) (opens : Token → Option Part) (piece : Token) (t : Token) (ts : List Token) →
    reading levels (token class usage opens piece) (t ∷ ts) ≡ (used class (opens_any (opens t)) levels (usage t) (t ∷ ts) >>= λ u mid. opened_at levels (opens t) mid >>= λ x rest. Took (both u x) rest)
unfolding used
token_is levels class usage opens piece t ts =
    by_token levels (opens t) t ts (is_of class t) (bar (record { opens = opens t; levels = levels; usage = usage t }) t) (opened_is levels (opens t) (usage t) t ts)
    ∙ ap (λ (b : Option SyntaxKind). cond (is_of class t) (unless b (t ∷ ts) (Took t ts)) (Stop (blame t.symbol) (t ∷ ts)) >>= λ u mid. opened_at levels (opens t) mid >>= λ x rest. Took (both u x) rest) (barred_is levels (opens t) (usage t) t)

-- the same of tokens that all open this part
pub opening_is : (levels : ℕ) (class : Token → Bool) (usage : TokenUse) (part : Part) (piece : Token) (ts : List Token) → reading levels (token class (λ t. usage) (λ t. Some part) piece) ts ≡ (used class true levels usage ts >>= λ t mid. part_at (levels - 1) part mid >>= λ x rest. Took (both t x) rest)
unfolding used
opening_is levels class usage part piece [] = refl
opening_is levels class usage part piece (t ∷ ts) = token_is levels class (λ t. usage) (λ t. Some part) piece t ts

-- the token that is taken is the first
pub used_first : {B : Type 0} (class : Token → Bool) (opens : Bool) (levels : ℕ) (usage : TokenUse) (t : Token) (ts : List Token) (f : Token → Token → List Token → Outcome B) → (used class opens levels usage (t ∷ ts) >>= λ u mid. f t u mid) ≡ (used class opens levels usage (t ∷ ts) >>= λ u mid. f u u mid)
unfolding used
used_first {B} class opens levels usage t ts f = go (is_of class t) (barred opens levels usage t)
  where
    go : (c : Bool) (b : Option SyntaxKind) → ◌≡◌ {A = Outcome B} (cond c (unless b (t ∷ ts) (Took t ts)) (Stop (blame t.symbol) (t ∷ ts)) >>= λ u mid. f t u mid) (cond c (unless b (t ∷ ts) (Took t ts)) (Stop (blame t.symbol) (t ∷ ts)) >>= λ u mid. f u u mid)
    go false b = refl
    go true None = refl
    go true (Some kind) = refl

-- the same where the part depends on the token's place
pub opening_at_is : (levels : ℕ) (s : Symbol) (part : Place → Part) (ts : List Token) → reading levels (opening_at s part) ts ≡ (open_at s levels ts >>= λ t mid. part_at (levels - 1) (part t.place) mid >>= λ x rest. Took (both t x) rest)
unfolding open_at used
opening_at_is levels s part [] = refl
opening_at_is levels s part (t ∷ ts) =
    token_is levels (is s) (λ t. Plain) (λ t. Some (part t.place)) (sample s) t ts
    ∙ used_first (is s) true levels Plain t ts (λ v u mid. part_at (levels - 1) (part v.place) mid >>= λ x rest. Took (both u x) rest)

used_anywhere : (class : Token → Bool) (levels : ℕ) (usage : TokenUse) (t : Token) (ts : List Token) → used class false levels usage (t ∷ ts) ≡ used class false 0 usage (t ∷ ts)
unfolding used
used_anywhere class levels usage t ts = refl

-- and of tokens that open none
pub plain_is : (levels : ℕ) (class : Token → Bool) (usage : TokenUse) (piece : Token) (ts : List Token) → reading levels (token class (λ t. usage) (λ t. None) piece) ts ≡ (used class false 0 usage ts >>= λ t rest. Took (both t Nothing) rest)
unfolding used
plain_is levels class usage piece [] = refl
plain_is levels class usage piece (t ∷ ts) = token_is levels class (λ t. usage) (λ t. None) piece t ts

pub sign_is : (levels : ℕ) (s : Symbol) (ts : List Token) → reading levels (sign s) ts ≡ (sign_at s ts >>= λ t rest. Took (both t Nothing) rest)
unfolding sign_at
sign_is levels s ts = plain_is levels (is s) Plain (sample s) ts

pub open_is : (levels : ℕ) (s : Symbol) (part : Part) (ts : List Token) → reading levels (opening s part) ts ≡ (open_at s levels ts >>= λ t mid. part_at (levels - 1) part mid >>= λ x rest. Took (both t x) rest)
unfolding open_at
open_is levels s part ts = opening_is levels (is s) Plain part (sample s) ts

-- ---- repetitions

turn_by : {A : Type 0} (levels : ℕ) (class : A → Token → Bool) (usage : A → Token → TokenUse) (opens : A → Token → Option Part) (step : Token → Tree → A → Grammar A) (piece : Token) (a : A) (t : Token) (ts : List Token) → is_of (class a) t ≡ true → (o : Option SyntaxKind) → bar (record { opens = opens a t; levels = levels; usage = usage a t }) t ≡ o →
    reading levels (many class usage opens step a) (t ∷ ts) ≡ (reading levels (bind (token (class a) (usage a) (opens a) piece) λ x. step x.0 x.1 a) (t ∷ ts) >>= λ y next. reading levels (many class usage opens step y) next)
turn_by {A} levels class usage opens step piece a t ts h None k =
    many_turn levels (λ part us. below syntax_of levels part us) (below_leave syntax_of levels) class usage opens step a t ts h k
    ∙ sym (ap (λ (o : Outcome (Token × Tree)). (o >>= λ x mid. reading levels (step x.0 x.1 a) mid) >>= λ y next. reading levels (many class usage opens step y) next) took ∙ ap (λ (o : Outcome A). o >>= λ y next. reading levels (many class usage opens step y) next) (bind_again inner (λ x rest. Took (both t x) rest) (λ x mid. reading levels (step x.0 x.1 a) mid)) ∙ bind_again inner (λ x mid. reading levels (step t x a) mid) (λ y next. reading levels (many class usage opens step y) next))
  where
    inner : Outcome Tree
    inner = opened (λ part us. below syntax_of levels part us) (opens a t) ts

    took : reading levels (token (class a) (usage a) (opens a) piece) (t ∷ ts) ≡ (inner >>= λ x rest. Took (both t x) rest)
    took = ap (λ (c : Bool). cond c (unless (bar (record { opens = opens a t; levels = levels; usage = usage a t }) t) (t ∷ ts) (inner >>= λ x rest. Took (both t x) rest)) (Stop (blame t.symbol) (t ∷ ts))) h
        ∙ ap (λ (o : Option SyntaxKind). unless o (t ∷ ts) (inner >>= λ x rest. Took (both t x) rest)) k
turn_by {A} levels class usage opens step piece a t ts h (Some kind) k =
    many_barred levels (λ part us. below syntax_of levels part us) (below_leave syntax_of levels) class usage opens step a t ts kind h k
    ∙ sym (ap (λ (o : Outcome (Token × Tree)). (o >>= λ x mid. reading levels (step x.0 x.1 a) mid) >>= λ y next. reading levels (many class usage opens step y) next) stop)
  where
    inner : Outcome Tree
    inner = opened (λ part us. below syntax_of levels part us) (opens a t) ts

    stop : reading levels (token (class a) (usage a) (opens a) piece) (t ∷ ts) ≡ Stop kind (t ∷ ts)
    stop = ap (λ (c : Bool). cond c (unless (bar (record { opens = opens a t; levels = levels; usage = usage a t }) t) (t ∷ ts) (inner >>= λ x rest. Took (both t x) rest)) (Stop (blame t.symbol) (t ∷ ts))) h
        ∙ ap (λ (o : Option SyntaxKind). unless o (t ∷ ts) (inner >>= λ x rest. Took (both t x) rest)) k

-- a repetition goes on with a turn
pub unrolls : {A : Type 0} (levels : ℕ) (class : A → Token → Bool) (usage : A → Token → TokenUse) (opens : A → Token → Option Part) (step : Token → Tree → A → Grammar A) (piece : Token) (a : A) (ts : List Token) → begins (class a) ts ≡ true →
    reading levels (many class usage opens step a) ts ≡ (reading levels (bind (token (class a) (usage a) (opens a) piece) λ x. step x.0 x.1 a) ts >>= λ y next. reading levels (many class usage opens step y) next)
unrolls levels class usage opens step piece a [] h = absurd cc
unrolls levels class usage opens step piece a (t ∷ ts) h = turn_by levels class usage opens step piece a t ts h (bar (record { opens = opens a t; levels = levels; usage = usage a t }) t) refl

-- another token is refused
pub refuses : (levels : ℕ) (class : Token → Bool) (usage : Token → TokenUse) (opens : Token → Option Part) (piece : Token) (ts : List Token) → begins class ts ≡ false → reading levels (token class usage opens piece) ts ≡ unexpected ts
refuses levels class usage opens piece [] h = refl
refuses levels class usage opens piece (t ∷ ts) h =
    ap (λ (c : Bool). cond c (unless (bar (record { opens = opens t; levels = levels; usage = usage t }) t) (t ∷ ts) (opened (λ part us. below syntax_of levels part us) (opens t) ts >>= λ x rest. Took (both t x) rest)) (Stop (blame t.symbol) (t ∷ ts))) h

-- A repetition goes on with a turn, which gives what comes of a piece.
pub repeats : {A P : Type 0} (levels : ℕ) (class : A → Token → Bool) (usage : A → Token → TokenUse) (opens : A → Token → Option Part) (step : Token → Tree → A → Grammar A) (piece : Token) (a : A) (o : Outcome P) (f : P → A) (ts : List Token) → begins (class a) ts ≡ true →
    reading levels (bind (token (class a) (usage a) (opens a) piece) λ x. step x.0 x.1 a) ts ≡ (o >>= λ p rest. Took (f p) rest) →
    reading levels (many class usage opens step a) ts ≡ (o >>= λ p rest. reading levels (many class usage opens step (f p)) rest)
repeats levels class usage opens step piece a o f [] h e = absurd cc
repeats {A} levels class usage opens step piece a o f (t ∷ ts) h e =
    turn_by levels class usage opens step piece a t ts h (bar (record { opens = opens a t; levels = levels; usage = usage a t }) t) refl
    ∙ ap (λ (x : Outcome A). x >>= λ y next. reading levels (many class usage opens step y) next) e
    ∙ bind_again o (λ p rest. Took (f p) rest) (λ y next. reading levels (many class usage opens step y) next)

pub ends : {A : Type 0} (levels : ℕ) (class : A → Token → Bool) (usage : A → Token → TokenUse) (opens : A → Token → Option Part) (step : Token → Tree → A → Grammar A) (a : A) (ts : List Token) → begins (class a) ts ≡ false → reading levels (many class usage opens step a) ts ≡ Took a ts
ends levels class usage opens step a ts h = many_ends levels (λ part us. below syntax_of levels part us) (below_leave syntax_of levels) class usage opens step a ts h

-- ---- what is read is shorter

took_rest : {A : Type 0} {x y : A} {p q : List Token} → Took x p ≡ Took y q → p ≡ q
took_rest e = cc

shorter_opened : {A : Type 0} (levels : ℕ) (c : Bool) (bars : Option SyntaxKind) (o : Option Part) (h : Token × Tree → Grammar A) (t : Token) (ts rest : List Token) (x : A) →
    (cond c (unless bars (t ∷ ts) (opened (λ part us. below syntax_of levels part us) o ts >>= λ x rest. Took (both t x) rest)) (Stop (blame t.symbol) (t ∷ ts)) >>= λ a mid. reading levels (h a) mid) ≡ Took x rest → length rest < length (t ∷ ts)
shorter_opened {A} levels true None o h t ts rest x e =
    let s = bind_took (opened (λ part us. below syntax_of levels part us) o ts >>= λ x rest. Took (both t x) rest) (λ a mid. reading levels (h a) mid) x rest e in
    let k = bind_took (opened (λ part us. below syntax_of levels part us) o ts) (λ x rest. Took (both t x) rest) s.0 s.1 s.2 in
    let l1 : Leaves k.1 ts = subst (λ (o : Outcome Tree). Leaves (rest_of o) ts) k.2 (leaves-opened (λ part us. below syntax_of levels part us) (below_leave syntax_of levels) o ts) in
    let same : k.1 ≡ s.1 = took_rest k.3 in
    let l2 : Leaves rest s.1 = subst (λ (o : Outcome A). Leaves (rest_of o) s.1) s.3 (leaves levels (λ part us. below syntax_of levels part us) (below_leave syntax_of levels) (h s.0) s.1) in
    let n1 = leaves_length k.1 ts l1 in let n2 = leaves_length rest s.1 l2 in let n3 = ap length same in
    omega arith
shorter_opened levels true (Some kind) o h t ts rest x e = absurd cc
shorter_opened levels false bars o h t ts rest x e = absurd cc

shorter_by : {A : Type 0} (levels : ℕ) (class : Token → Bool) (usage : Token → TokenUse) (opens : Token → Option Part) (piece : Token) (h : Token × Tree → Grammar A) (x : A) (ts rest : List Token) → reading levels (bind (token class usage opens piece) h) ts ≡ Took x rest → length rest < length ts
shorter_by levels class usage opens piece h x [] rest e = absurd cc
shorter_by levels class usage opens piece h x (t ∷ ts) rest e = shorter_opened levels (is_of class t) (bar (record { opens = opens t; levels = levels; usage = usage t }) t) (opens t) h t ts rest x e

-- a piece of a turn begins with a token
pub shorter_turn : {A P : Type 0} (levels : ℕ) (class : Token → Bool) (usage : Token → TokenUse) (opens : Token → Option Part) (piece : Token) (h : Token × Tree → Grammar A) (o : Outcome P) (f : P → A) (p : P) (ts rest : List Token) → reading levels (bind (token class usage opens piece) h) ts ≡ (o >>= λ p rest. Took (f p) rest) → o ≡ Took p rest → length rest < length ts
shorter_turn {A} {P} levels class usage opens piece h o f p ts rest e is = shorter_by levels class usage opens piece h (f p) ts rest (e ∙ ap (λ (x : Outcome P). x >>= λ p rest. Took (f p) rest) is)

-- classes that hold the same tokens
pub used_classes : (x y : Token → Bool) (opens : Bool) (levels : ℕ) (usage : TokenUse) → ((t : Token) → x t ≡ y t) → (ts : List Token) → used x opens levels usage ts ≡ used y opens levels usage ts
unfolding used
used_classes x y opens levels usage h [] = refl
used_classes x y opens levels usage h (t ∷ ts) = ap (λ (c : Bool). cond (cond (is_bad t.symbol) false c) (unless (barred opens levels usage t) (t ∷ ts) (Took t ts)) (Stop (blame t.symbol) (t ∷ ts))) (h t)
