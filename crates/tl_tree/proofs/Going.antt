-- The completions of each form of grammar, by lists of symbols: what the shortest text begins with, and what may
-- follow.
use Rattle.std.proofs.Common.{◌≡◌, ℕ, Bool, true, false, List, [], ◌∷◌, Option, Some, None, refl}
use Rattle.tl_lex.specs.Answers.{Position}
use Rattle.tl_base.specs.declared.place.Place.{Place}
use Rattle.tl_tree.specs.declared.symbol.Symbol.{Symbol}
use Rattle.tl_tree.specs.declared.mode.TokenUse.{TokenUse}
use Rattle.tl_tree.specs.declared.mode.TokenUse.TheVariants.{Plain}
use Rattle.tl_tree.specs.Tokens.{Token, among, is, sample}
use Rattle.tl_tree.specs.Tree.{Tree, Part}
use Rattle.tl_tree.specs.Grammar.{Grammar, give, token, bind, when, many, Rule, Parts, is_of}
use Rattle.tl_tree.specs.Forms.{sign, opening, opening_at}
use Rattle.tl_tree.proofs.Classes.{subset, within}
use Rattle.tl_tree.proofs.Spelled.{is_written, placed, among_one}
use Rattle.tl_tree.proofs.Completing.{Starts, bare-give, bare-token, bare-bind, bare-when, bare-many, bare-within}
use Rattle.tl_tree.proofs.Continuing.{completes-within, completes-give, completes-token, completes-bind, completes-then}
use Rattle.tl_tree.proofs.Continuing.{completes-when, completes-many}
use Rattle.tl_tree.proofs.Parting.{Turned, turned-within, turned-give, turned-token, turned-bind, turned-then}
use Rattle.tl_tree.proofs.Parting.{turned-when, turned-many}
use Rattle.tl_tree.proofs.Settings.{Setting, Completable, CoveredBy, covering}

abbrev pub one : Symbol → List Symbol
one s = s ∷ []

-- no token of the list is of the class
abbrev pub Apart : List Symbol → (Token → Bool) → Type 0
Apart xs class = (t : Token) → among xs t ≡ true → is_of class t ≡ false

-- ---- from nothing on, without a part that is opened

pub record Begins (levels : ℕ) (parts : Rule → Parts) {A : Type 0} (g : Grammar A) (first after : List Symbol) : Type 0
  where
    pub starts : Starts levels parts g (among first) (among after)

pub begins-give : {levels : ℕ} {parts : Rule → Parts} {A : Type 0} {a : A} {xs : List Symbol}
    → Begins levels parts (give a) xs xs
begins-give {levels} {parts} {A} {a} {xs} = record { starts = bare-give levels parts a (among xs) }

pub begins-bind : {levels : ℕ} {parts : Rule → Parts} {A B : Type 0} {g : Grammar A} {h : A → Grammar B}
    {first wide mid after : List Symbol} → Begins levels parts g first wide
    → ((a : A) → Begins levels parts (h a) mid after) → subset mid wide ≡ true
    → Begins levels parts (bind g h) first after
begins-bind {levels} {parts} {A} {B} {g} {h} {first} {wide} {mid} {after} p q d =
    record {
      starts = bare-bind levels parts g h (among first) (among mid) (among after)
          (bare-within levels parts g (among first) (among first) (among wide) (among mid) (λ t k. k) (within mid wide d)
          p.starts) (λ a. (q a).starts);
    }

pub begins-next : {levels : ℕ} {parts : Rule → Parts} {A B : Type 0} {g : Grammar A} {h : A → Grammar B}
    {first mid after : List Symbol} → Begins levels parts g first mid → ((a : A) → Begins levels parts (h a) mid after)
    → Begins levels parts (bind g h) first after
begins-next {levels} {parts} {A} {B} {g} {h} {first} {mid} {after} p q =
    record { starts = bare-bind levels parts g h (among first) (among mid) (among after) p.starts (λ a. (q a).starts) }

pub begins-then : {levels : ℕ} {parts : Rule → Parts} {A : Type 0} {h : Token × Tree → Grammar A}
    {mid after : List Symbol} (s : Symbol) → ((x : Token × Tree) → Begins levels parts (h x) mid after)
    → is_of (is s) (sample s) ≡ true → is_written s ≡ true → Begins levels parts (bind (sign s) h) (one s) after
begins-then {levels} {parts} {A} {h} {mid} {after} s q good written =
    record {
      starts = bare-bind levels parts (sign s) h (among (one s)) (among mid) (among after)
          (bare-token levels parts (is s) (λ t. Plain) (λ t. None) (sample s) s (among (one s)) (among mid) written
          (λ p. good) (λ p. among_one s p) (λ p. refl)) (λ x. (q x).starts);
    }

pub begins-when : {levels : ℕ} {parts : Rule → Parts} {A : Type 0} {class : Token → Bool} {g h : Grammar A}
    {first after : List Symbol} → Begins levels parts h first after → Apart first class
    → Begins levels parts (when class g h) first after
begins-when {levels} {parts} {A} {class} {g} {h} {first} {after} q far =
    record { starts = bare-when levels parts class g h (among first) (among after) q.starts far }

pub begins-many : {levels : ℕ} {parts : Rule → Parts} {A : Type 0} {class : A → Token → Bool}
    {usage : A → Token → TokenUse} {opens : A → Token → Option Part} {step : Token → Tree → A → Grammar A} {a : A}
    {after : List Symbol} → ((b : A) → Apart after (class b))
    → Begins levels parts (many class usage opens step a) after after
begins-many {levels} {parts} {A} {class} {usage} {opens} {step} {a} {after} far =
    record { starts = bare-many levels parts class usage opens step a (among after) far }

-- ---- from any front

pub record Goes {part_after : Part → Token → Bool} (s : Setting part_after) {A : Type 0} (g : Grammar A)
    (first after : List Symbol) : Type 0 where
  pub completes : Completable s g (among first) (among after)
  pub turned : Turned s.deep g (among first) (among after)

module _ {part_after : Part → Token → Bool} {s : Setting part_after} where
  pub goes-within : {A : Type 0} {g : Grammar A} {first first' after after' : List Symbol} → Goes s g first after
      → subset first first' ≡ true → subset after' after ≡ true → Goes s g first' after'
  goes-within {A} {g} {first} {first'} {after} {after'} p wider narrower =
      record {
        completes = completes-within s.levels s.readers s.parts part_after s.leave s.steady s.sound s.bare
            s.below g (among first) (among first') (among after) (among after') (within first first' wider)
            (within after' after narrower) p.completes;
        turned =
            turned-within s.deep g (among first) (among first') (among after) (among after') (within first first' wider)
            (within after' after narrower) p.turned;
      }

  pub goes-give : {A : Type 0} {a : A} {xs : List Symbol} → Goes s (give a) xs xs
  goes-give {A} {a} {xs} =
      record {
        completes = completes-give s.levels s.readers s.parts part_after s.leave s.steady s.sound s.bare s.below
            a (among xs);
        turned = turned-give s.deep a (among xs);
      }

  pub goes-bind : {A B : Type 0} {g : Grammar A} {h : A → Grammar B} {first wide mid after : List Symbol}
      → Goes s g first wide → ((a : A) → Goes s (h a) mid after) → subset mid wide ≡ true
      → Goes s (bind g h) first after
  goes-bind {A} {B} {g} {h} {first} {wide} {mid} {after} p q d =
      record {
        completes =
            completes-bind s.levels s.readers s.parts part_after s.leave s.steady s.sound s.bare s.below g h
            (among first) (among mid) (among after)
            (completes-within s.levels s.readers s.parts part_after s.leave s.steady s.sound s.bare s.below g
            (among first) (among first) (among wide) (among mid) (λ t k. k) (within mid wide d) p.completes)
            (λ a. (q a).completes);
        turned = turned-bind s.deep g h (among first) (among mid) (among after)
            (turned-within s.deep g (among first) (among first) (among wide) (among mid) (λ t k. k) (within mid wide d)
            p.turned) (λ a. (q a).turned);
      }

  pub goes-next : {A B : Type 0} {g : Grammar A} {h : A → Grammar B} {first mid after : List Symbol}
      → Goes s g first mid → ((a : A) → Goes s (h a) mid after) → Goes s (bind g h) first after
  goes-next {A} {B} {g} {h} {first} {mid} {after} p q =
      record {
        completes = completes-bind s.levels s.readers s.parts part_after s.leave s.steady s.sound s.bare s.below
            g h (among first) (among mid) (among after) p.completes (λ a. (q a).completes);
        turned =
            turned-bind s.deep g h (among first) (among mid) (among after) p.turned (λ a. (q a).turned);
      }

  -- a token that opens nothing, and what follows it
  pub goes-then : {A : Type 0} {h : Token × Tree → Grammar A} {mid after : List Symbol} (k : Symbol)
      → ((x : Token × Tree) → Goes s (h x) mid after) → is_of (is k) (sample k) ≡ true → is_written k ≡ true
      → Goes s (bind (sign k) h) (one k) after
  goes-then {A} {h} {mid} {after} k q good written =
      record {
        completes =
            completes-bind s.levels s.readers s.parts part_after s.leave s.steady s.sound s.bare s.below (sign k) h
            (among (one k)) (among mid) (among after)
            (completes-token s.levels s.readers s.parts part_after s.leave s.steady s.sound s.bare s.below (is k)
            (λ t. Plain) (λ t. None) (sample k) k (among (one k)) (among mid) written (λ p. good)
            (λ p. among_one k p) (λ t h. tt))
            (λ a. (q a).completes);
        turned = turned-bind s.deep (sign k) h (among (one k)) (among mid) (among after)
            (turned-token s.deep (is k) (λ t. Plain) (λ t. None) (sample k) k (among (one k)) (among mid) written
            (λ p. good) (λ p. among_one k p) (λ t h. tt)) (λ a. (q a).turned);
      }

  -- a token that opens a part, and what follows it
  pub goes-open_at : {A : Type 0} {h : Token × Tree → Grammar A} {mid after : List Symbol} (k : Symbol)
      (part : Place → Part) → ((x : Token × Tree) → Goes s (h x) mid after) → is_of (is k) (sample k) ≡ true
      → is_written k ≡ true → ((place : Place) (t : Token) → among mid t ≡ true → part_after (part place) t ≡ true)
      → Goes s (bind (opening_at k part) h) (one k) after
  goes-open_at {A} {h} {mid} {after} k part q good written covers =
      record {
        completes =
            completes-bind s.levels s.readers s.parts part_after s.leave s.steady s.sound s.bare s.below
            (opening_at k part) h (among (one k)) (among mid) (among after)
            (completes-token s.levels s.readers s.parts part_after s.leave s.steady s.sound s.bare s.below (is k)
            (λ t. Plain) (λ t. Some (part t.place)) (sample k) k (among (one k)) (among mid) written (λ p. good)
            (λ p. among_one k p) (λ t h. covers t.place))
            (λ a. (q a).completes);
        turned = turned-bind s.deep (opening_at k part) h (among (one k)) (among mid) (among after)
            (turned-token s.deep (is k) (λ t. Plain) (λ t. Some (part t.place)) (sample k) k (among (one k))
            (among mid) written (λ p. good) (λ p. among_one k p) (λ t h. covers t.place)) (λ a. (q a).turned);
      }

  pub goes-open : {A : Type 0} {h : Token × Tree → Grammar A} {mid after : List Symbol} (k : Symbol) (part : Part)
      → ((x : Token × Tree) → Goes s (h x) mid after) → is_of (is k) (sample k) ≡ true → is_written k ≡ true
      → ((t : Token) → among mid t ≡ true → part_after part t ≡ true) → Goes s (bind (opening k part) h) (one k) after
  goes-open k part q good written covers = goes-open_at k (λ place. part) q good written (λ place. covers)

  -- a token of a class, with all its uses, and what follows it
  pub goes-token : {A : Type 0} {class : Token → Bool} {usage : Token → TokenUse} {opens : Token → Option Part}
      {h : Token × Tree → Grammar A} {after : List Symbol} (k : Symbol) (other : Token → List Symbol)
      → ((t : Token) → is_of class t ≡ true → CoveredBy s (among (other t)) (opens t))
      → ((x : Token × Tree) → is_of class x.0 ≡ true → Goes s (h x) (other x.0) after)
      → ((p : Position) → is_of class (placed p k) ≡ true) → is_written k ≡ true
      → Goes s (bind (token class usage opens (sample k)) h) (one k) after
  goes-token {A} {class} {usage} {opens} {h} {after} k other covers next good written =
      record {
        completes =
            completes-then s.levels s.readers s.parts part_after s.leave s.steady s.sound s.bare s.below class usage
            opens (sample k) k h (among (one k)) (λ t. among (other t)) (among after) written good
            (λ p. among_one k p) covers
            (λ x e. (next x e).completes);
        turned = turned-then s.deep class usage opens (sample k) k h (among (one k)) (λ t. among (other t))
            (among after) written good (λ p. among_one k p)
            (λ t e. covering s (among (other t)) (opens t) (covers t e)) (λ x e. (next x e).turned);
      }

  pub goes-when : {A : Type 0} {class : Token → Bool} {g h : Grammar A} {first other after : List Symbol}
      → Goes s g other after → Goes s h first after → Apart first class → Goes s (when class g h) first after
  goes-when {A} {class} {g} {h} {first} {other} {after} p q far =
      record {
        completes = completes-when s.levels s.readers s.parts part_after s.leave s.steady s.sound s.bare s.below
            class g h (among first) (among other) (among after) p.completes q.completes far;
        turned =
            turned-when s.deep class g h (among first) (among other) (among after) p.turned q.turned far;
      }

  pub goes-many : {A : Type 0} {class : A → Token → Bool} {usage : A → Token → TokenUse} {opens : A → Token → Option Part}
      {step : Token → Tree → A → Grammar A} {a : A} {after : List Symbol} (other : Token → List Symbol)
      → ((b : A) (t : Token) → is_of (class b) t ≡ true → CoveredBy s (among (other t)) (opens b t))
      → ((t : Token) (x : Tree) (b : A) → is_of (class b) t ≡ true → Goes s (step t x b) (other t) after)
      → ((b : A) → Apart after (class b)) → Goes s (many class usage opens step a) after after
  goes-many {A} {class} {usage} {opens} {step} {a} {after} other covers next far =
      record {
        completes =
            completes-many s.levels s.readers s.parts part_after s.leave s.steady s.sound s.bare s.below class usage
            opens step (λ t. among (other t)) (among after) covers
            (λ t x b e. (next t x b e).completes) far a;
        turned = turned-many s.deep class usage opens step (λ t. among (other t)) (among after)
            (λ b t e. covering s (among (other t)) (opens b t) (covers b t e)) (λ t x b e. (next t x b e).turned) far a;
      }
