-- What was not refused can be completed: some tokens after it make the grammar read it.
use Rattle.std.proofs.Common.{◌≡◌, ℕ, ◌≤◌, Bool, true, false, List, [], ◌∷◌, ◌++◌, length, Option}
use Rattle.std.proofs.Common.{Some, None, refl, sym, ap, ◌∙◌, subst, append_assoc, append-nil, arith, inr}
use Rattle.std.proofs.Common.{length-append}
use Rattle.tl_lex.specs.Answers.{Position}
use Rattle.tl_tree.specs.Tokens.{Token}
use Rattle.tl_tree.specs.declared.symbol.Symbol.{Symbol}
use Rattle.tl_tree.specs.declared.symbol.Symbol.TheVariants.{Bad}
use Rattle.tl_lex.specs.declared.SyntaxKind.{SyntaxKind}
use Rattle.tl_lex.specs.declared.SyntaxKind.TheVariants.{BadNumber, TooDeep, Ambiguous}
use Rattle.tl_tree.specs.declared.mode.TokenUse.{TokenUse}
use Rattle.tl_tree.specs.Symbols.{is_bad}
use Rattle.tl_tree.specs.Tree.{Tree, Nothing, Part}
use Rattle.tl_tree.specs.Grammar.{Use, bar, is_of, Grammar, give, token, bind, when, many, begins, Rule}
use Rattle.tl_tree.specs.Grammar.{Parts, Opened, stop, Reads, Outcome, Took, Stop, ◌>>=◌, blame}
use Rattle.tl_tree.proofs.Spelled.{is_written, placed, next_word, behind, Spelled, spelled-append}
use Rattle.tl_tree.proofs.Reading.{rest_of, with_rest, Allows, Leaves}
use Rattle.tl_tree.proofs.Reading.{leaves_length, not_longer, back_of}

-- the next token, if there is one, is of the class
abbrev pub fits : (Token → Bool) → List Token → Bool
fits class [] = true
fits class (t ∷ ts) = class t

abbrev pub IsLimitKind : SyntaxKind → Type 0
IsLimitKind BadNumber = Unit {0}
IsLimitKind TooDeep = Unit {0}
IsLimitKind Ambiguous = Unit {0}
IsLimitKind _ = ⊥

-- the limits refuse the token, which breaks no rule of tokens
abbrev pub IsLimit : Token → SyntaxKind → Type 0
IsLimit t why = (is_bad t.symbol ≡ false) × IsLimitKind why

-- Nothing is refused before the tokens r, or the limits refuse the last token before them.
abbrev pub Shows : {A : Type 0} → Outcome A → List Token → Type 0
Shows (Took a rest) r = (rest ≡ []) × (r ≡ [])
Shows (Stop why []) r = r ≡ []
Shows (Stop why (t ∷ rest)) r = (rest ≡ r) × IsLimit t why

-- a rule that allows all uses of the last n tokens
abbrev pub Lenient : Rule → ℕ → Type 0
Lenient rule n = (usage : Use) (ts : List Token) → length ts ≤ n → rule usage ts ≡ true

-- a rule that allows what was refused by the limits
abbrev pub Forgives : {A : Type 0} → Outcome A → Rule → List Token → Type 0
Forgives (Took a rest) rule tail = Unit {0}
Forgives (Stop why []) rule tail = Unit {0}
Forgives (Stop why (t ∷ rest)) rule tail = (usage : Use) → bar usage t ≡ Some why → rule usage (t ∷ tail) ≡ true

-- tokens that complete the front, from this place on and whatever follows them, if its first token is of the class
-- after
pub record Completion {A : Type 0} (R : Rule → List Token → A → List Token → Type 0) (p : Position) (o : Outcome A)
    (first after : Token → Bool) (front : List Token) : Type 0 where
  pub more : List Token
  pub spelled : Spelled p more
  pub value : A
  pub starts : front ≡ [] → (close : List Token) → fits after close ≡ true → fits first (more ++ close) ≡ true
  pub reads : (close : List Token) → fits after close ≡ true → (rule : Rule) → Allows rule
      → Lenient rule (length (more ++ close)) → Forgives o rule (more ++ close)
      → R rule (front ++ (more ++ close)) value close

-- the same from nothing on
pub record Bare {A : Type 0} (R : Rule → List Token → A → List Token → Type 0) (p : Position)
    (first after : Token → Bool) : Type 0 where
  pub more : List Token
  pub spelled : Spelled p more
  pub value : A
  pub starts : (close : List Token) → fits after close ≡ true → fits first (more ++ close) ≡ true
  pub reads : (close : List Token) → fits after close ≡ true → (rule : Rule) → Allows rule
      → Lenient rule (length (more ++ close)) → R rule (more ++ close) value close

-- ---- about what is shown

nothing_left : (rest : List Token) → Leaves rest [] → rest ≡ []
nothing_left [] p = refl
nothing_left (t ∷ rest) p = absurd (omega (arith, leaves_length (t ∷ rest) [] p))

pub shows_nothing : {A : Type 0} (o : Outcome A) → Leaves (rest_of o) [] → Shows o []
shows_nothing (Took a rest) p = (nothing_left rest p, refl)
shows_nothing (Stop why []) p = refl
shows_nothing (Stop why (t ∷ rest)) p = absurd (omega (arith, leaves_length (t ∷ rest) [] p))

pub forgives_nothing : {A : Type 0} (o : Outcome A) (rule : Rule) (tail : List Token) → Leaves (rest_of o) []
    → Forgives o rule tail
forgives_nothing (Took a rest) rule tail p = tt
forgives_nothing (Stop why []) rule tail p = tt
forgives_nothing (Stop why (t ∷ rest)) rule tail p = absurd (omega (arith, leaves_length (t ∷ rest) [] p))

shows_from_nothing : {A : Type 0} (o : Outcome A) (r : List Token) → Leaves (rest_of o) [] → Shows o r → r ≡ []
shows_from_nothing (Took a rest) r p q = q.1
shows_from_nothing (Stop why []) r p q = q
shows_from_nothing (Stop why (t ∷ rest)) r p q = absurd (omega (arith, leaves_length (t ∷ rest) [] p))

pub shows_no_front : {A : Type 0} (o : Outcome A) (r : List Token) → Leaves (rest_of o) r → Shows o r → r ≡ []
shows_no_front (Took a rest) r p q = q.1
shows_no_front (Stop why []) r p q = q
shows_no_front (Stop why (t ∷ rest)) r p q = let l = ap length q.0 in
    absurd (omega (arith, leaves_length (t ∷ rest) r p, l))

shows_back : {A : Type 0} (o : Outcome A) (t : Token) (m r : List Token) → Leaves (rest_of o) (t ∷ m) → Shows o r
    → (s : Token) × (c : List Token) × (t ∷ m ≡ s ∷ (c ++ r))
shows_back (Took a rest) t m r p q =
    (t, m, sym (ap (λ (x : List Token). t ∷ (m ++ x)) q.1 ∙ ap (λ (x : List Token). t ∷ x) (append-nil m)))
shows_back (Stop why []) t m r p q =
    (t, m, sym (ap (λ (x : List Token). t ∷ (m ++ x)) q ∙ ap (λ (x : List Token). t ∷ x) (append-nil m)))
shows_back (Stop why (t2 ∷ rest)) t m r p q =
    back_of (t ∷ m) r [] t2 (t2 ∷ rest) p (ap (λ (x : List Token). t2 ∷ x) q.0)

no_limit_of : (s : Symbol) → is_bad s ≡ false → IsLimitKind (blame s) → ⊥
no_limit_of (Bad why) e h = absurd cc
no_limit_of _ e h = h

pub no_limit : (t : Token) → IsLimit t (blame t.symbol) → ⊥
no_limit t h = no_limit_of t.symbol h.0 h.1

pub apart : (b class : Token → Bool) → ((t : Token) → b t ≡ true → is_of class t ≡ false) → (ts : List Token)
    → fits b ts ≡ true → begins class ts ≡ false
apart b class h [] e = refl
apart b class h (t ∷ ts) e = h t e

-- ---- one after the other

abbrev pub Both : {A B : Type 0} → (Rule → List Token → A → List Token → Type 0)
    → (Rule → A → List Token → B → List Token → Type 0) → Rule → List Token → B → List Token → Type 0
Both {A} Reads1 Reads2 rule ts b rest = (a : A) × (m : List Token) × Reads1 rule ts a m × Reads2 rule a m b rest

module _ {A B : Type 0} (o1 : List Token → Outcome A) (Reads1 : Rule → List Token → A → List Token → Type 0)
    (o2 : A → List Token → Outcome B) (Reads2 : Rule → A → List Token → B → List Token → Type 0) (p : Position)
    (first mid after : Token → Bool) (n : ℕ)
    (leaves1 : (ts : List Token) → Leaves (rest_of (o1 ts)) ts)
    (steady1 : (front r x b : List Token) (t : Token) → rest_of (o1 (front ++ r)) ≡ t ∷ (b ++ r)
    → o1 (front ++ x) ≡ with_rest (t ∷ (b ++ x)) (o1 (front ++ r)))
    (sound1 : (rule : Rule) → Allows rule → (ts : List Token) (a : A) (rest : List Token) → o1 ts ≡ Took a rest
    → Reads1 rule ts a rest)
    (leaves2 : (a : A) (ts : List Token) → Leaves (rest_of (o2 a ts)) ts)
    (completes1 : (front r : List Token) → Shows (o1 (front ++ r)) r
    → Completion Reads1 p (o1 (front ++ r)) first mid front)
    (bare2 : (q : Position) (a : A) → Bare (λ rule ts b rest. Reads2 rule a ts b rest) q mid after)
    (completes2 : (a : A) (front r : List Token) → length (front ++ r) ≤ n → Shows (o2 a (front ++ r)) r
    → Completion (λ rule ts b rest. Reads2 rule a ts b rest) p (o2 a (front ++ r)) mid after front) where
  join : (o : Outcome A) (o' : Outcome B) (front : List Token) → Completion Reads1 p o first mid front
      → ((rule : Rule) (tail : List Token) → Forgives o' rule tail → Forgives o rule tail)
      → Completion (Both Reads1 Reads2) p o' first after front
  join o o' front c1 pass =
      let c2 = bare2 (behind p c1.more) c1.value in
      record {
        more = c1.more ++ c2.more;
        spelled = spelled-append p c1.more c2.more c1.spelled c2.spelled;
        value = c2.value;
        starts = λ none close k.
            subst (λ (x : List Token). fits first x ≡ true) (sym (append_assoc c1.more c2.more close))
            (c1.starts none (c2.more ++ close) (c2.starts close k));
        reads = λ close k rule al le fo.
            let same : (c1.more ++ c2.more) ++ close ≡ c1.more ++ (c2.more ++ close) =
            append_assoc c1.more c2.more close in
            let len : length (c2.more ++ close) ≤ length ((c1.more ++ c2.more) ++ close) =
            subst (λ (x : List Token). length (c2.more ++ close) ≤ length x) (sym same)
            (omega (arith, length-append c1.more (c2.more ++ close))) in (
              c1.value,
              c2.more ++ close,
              subst (λ (x : List Token). Reads1 rule (front ++ x) c1.value (c2.more ++ close)) (sym same)
                  (c1.reads (c2.more ++ close) (c2.starts close k) rule al
                  (subst (λ (x : List Token). Lenient rule (length x)) same le)
                  (pass rule (c1.more ++ (c2.more ++ close))
                  (subst (λ (x : List Token). Forgives o' rule x) same fo))),
              c2.reads close k rule al (λ usage ts short. le usage ts (omega arith)),
            );
      }

  pub seq : (front r : List Token) → length (front ++ r) ≤ n → (o : Outcome A) → o1 (front ++ r) ≡ o
      → Shows (o >>= o2) r → Completion (Both Reads1 Reads2) p (o >>= o2) first after front
  seq front r le (Took a []) e sh =
      let none : r ≡ [] = shows_from_nothing (o2 a []) r (leaves2 a []) sh in
      join (o1 (front ++ r)) (o2 a []) front
      (completes1 front r (subst (λ (o : Outcome A). Shows o r) (sym e) (refl, none)))
      (λ rule tail f. subst (λ (o : Outcome A). Forgives o rule tail) (sym e) tt)
  seq front r le (Stop why rest) e sh =
      join (o1 (front ++ r)) (Stop why rest) front
      (completes1 front r (subst (λ (o : Outcome A). Shows o r) (sym e) (stops why rest r sh)))
      (λ rule tail f. subst (λ (o : Outcome A). Forgives o rule tail) (sym e) (forgives why rest rule tail f))
    where
      stops : (why : SyntaxKind) (rest r : List Token) → Shows {A = B} (Stop why rest) r
          → Shows {A = A} (Stop why rest) r
      stops why [] r p = p
      stops why (t ∷ rest) r p = p

      forgives : (why : SyntaxKind) (rest : List Token) (rule : Rule) (tail : List Token)
          → Forgives {A = B} (Stop why rest) rule tail → Forgives {A = A} (Stop why rest) rule tail
      forgives why [] rule tail p = p
      forgives why (t ∷ rest) rule tail p = p
  seq front r le (Took a (t ∷ m)) e sh =
      let back = shows_back (o2 a (t ∷ m)) t m r (leaves2 a (t ∷ m)) sh in
      let s = back.0 in let c = back.1 in
      let is : t ∷ m ≡ s ∷ (c ++ r) = back.2 in
      let e1 : o1 (front ++ r) ≡ Took a (s ∷ (c ++ r)) = e ∙ ap (λ (x : List Token). Took a x) is in
      let left : Leaves (s ∷ (c ++ r)) (front ++ r) =
      subst (λ (o : Outcome A). Leaves (rest_of o) (front ++ r)) e1 (leaves1 (front ++ r)) in
      let len = leaves_length (s ∷ (c ++ r)) (front ++ r) left in
      let c2 = completes2 a (s ∷ c) r (omega arith) (subst (λ (x : List Token). Shows (o2 a x) r) is sh) in
      record {
        more = c2.more;
        spelled = c2.spelled;
        value = c2.value;
        starts = λ none close k.
            absurd (not_longer (s ∷ (c ++ r)) r c s
            (subst (λ (x : List Token). Leaves (s ∷ (c ++ r)) (x ++ r)) none left) refl);
        reads = λ close k rule al len2 fo.
            let tail = c2.more ++ close in
            let moved : o1 (front ++ tail) ≡ Took a (s ∷ (c ++ tail)) =
            steady1 front r tail c s (ap (λ (o : Outcome A). rest_of o) e1)
            ∙ ap (λ (o : Outcome A). with_rest (s ∷ (c ++ tail)) o) e1 in (
              a,
              s ∷ (c ++ tail),
              sound1 rule al (front ++ tail) a (s ∷ (c ++ tail)) moved,
              c2.reads close k rule al len2 (subst (λ (x : List Token). Forgives (o2 a x) rule tail) is fo),
            );
      }

pub all_fit : (ts : List Token) → fits (λ t. true) ts ≡ true
all_fit [] = refl
all_fit (t ∷ ts) = refl

pub fits_also : (a b : Token → Bool) → ((t : Token) → a t ≡ true → b t ≡ true) → (ts : List Token) → fits a ts ≡ true
    → fits b ts ≡ true
fits_also a b h [] e = refl
fits_also a b h (t ∷ ts) e = h t e

-- ---- the completions from nothing, form by form

pub bare-both : {A B : Type 0} (Reads1 : Rule → List Token → A → List Token → Type 0)
    (Reads2 : Rule → A → List Token → B → List Token → Type 0) (p : Position) (first mid after : Token → Bool)
    → Bare Reads1 p first mid → ((q : Position) (a : A) → Bare (λ rule ts b rest. Reads2 rule a ts b rest) q mid after)
    → Bare (Both Reads1 Reads2) p first after
bare-both Reads1 Reads2 p first mid after c1 h =
    let c2 = h (behind p c1.more) c1.value in
    record {
      more = c1.more ++ c2.more;
      spelled = spelled-append p c1.more c2.more c1.spelled c2.spelled;
      value = c2.value;
      starts = λ close k. subst (λ (x : List Token). fits first x ≡ true) (sym (append_assoc c1.more c2.more close))
          (c1.starts (c2.more ++ close) (c2.starts close k));
      reads = λ close k rule al le.
          let same : (c1.more ++ c2.more) ++ close ≡ c1.more ++ (c2.more ++ close) =
          append_assoc c1.more c2.more close in
          let len : length (c2.more ++ close) ≤ length ((c1.more ++ c2.more) ++ close) =
          subst (λ (x : List Token). length (c2.more ++ close) ≤ length x) (sym same)
          (omega (arith, length-append c1.more (c2.more ++ close))) in (
            c1.value,
            c2.more ++ close,
            subst (λ (x : List Token). Reads1 rule x c1.value (c2.more ++ close)) (sym same)
                (c1.reads (c2.more ++ close) (c2.starts close k) rule al
                (subst (λ (x : List Token). Lenient rule (length x)) same le)),
            c2.reads close k rule al (λ usage ts short. le usage ts (omega arith)),
          );
    }

module _ (levels : ℕ) (parts : Rule → Parts) where
  -- a grammar that some tokens complete, from each place on
  abbrev pub Starts : {A : Type 0} → Grammar A → (Token → Bool) → (Token → Bool) → Type 0
  Starts g first after = (p : Position)
      → Bare (λ rule ts a rest. Reads rule levels (parts rule) g ts a rest) p first after

  pub bare-within : {A : Type 0} (g : Grammar A) (first first' after after' : Token → Bool)
      → ((t : Token) → first t ≡ true → first' t ≡ true) → ((t : Token) → after' t ≡ true → after t ≡ true)
      → Starts g first after → Starts g first' after'
  bare-within g first first' after after' wider narrower starts p =
      let c = starts p in
      record {
        more = c.more;
        spelled = c.spelled;
        value = c.value;
        starts = λ close k.
            fits_also first first' wider (c.more ++ close) (c.starts close (fits_also after' after narrower close k));
        reads = λ close k rule al le. c.reads close (fits_also after' after narrower close k) rule al le;
      }

  pub bare-give : {A : Type 0} (a : A) (after : Token → Bool) → Starts (give a) after after
  bare-give a after p = record
      { more = []; spelled = tt; value = a; starts = λ close k. k; reads = λ close k rule al le. (refl, refl) }

  pub bare-opened : (class : Token → Bool) (usage : Token → TokenUse) (opens : Token → Option Part) (sample : Token)
      (k : Symbol) (p : Position) (first other after : Token → Bool) → is_written k ≡ true
      → is_of class (placed p k) ≡ true → first (placed p k) ≡ true
      → Bare (λ rule ts x rest. Opened (parts rule) (opens (placed p k)) ts x rest) (next_word p k) other after
      → Bare (λ rule ts a rest. Reads rule levels (parts rule) (token class usage opens sample) ts a rest) p first after
  bare-opened class usage opens sample k p first other after written good good_first c =
      let t : Token = placed p k in
      record {
        more = t ∷ c.more;
        spelled = ((k, written, refl), c.spelled);
        value = (t, c.value);
        starts = λ close h. good_first;
        reads = λ close h rule al le. (
          c.more ++ close,
          refl,
          good,
          le (record { opens = opens t; levels = levels; usage = usage t }) (t ∷ (c.more ++ close))
              (omega arith),
          c.reads close h rule al (λ usage ts short. le usage ts (omega arith)),
        );
      }

  pub bare-none : (p : Position) (after : Token → Bool)
      → Bare (λ rule ts x rest. Opened (parts rule) None ts x rest) p after after
  bare-none p after = record
      { more = []; spelled = tt; value = Nothing; starts = λ close k. k; reads = λ close k rule al le. (refl, refl) }

  pub bare-token : (class : Token → Bool) (usage : Token → TokenUse) (opens : Token → Option Part) (sample : Token)
      (k : Symbol) (first after : Token → Bool) → is_written k ≡ true
      → ((p : Position) → is_of class (placed p k) ≡ true) → ((p : Position) → first (placed p k) ≡ true)
      → ((p : Position) → opens (placed p k) ≡ None) → Starts (token class usage opens sample) first after
  bare-token class usage opens sample k first after written good good_first none p =
      bare-opened class usage opens sample k p first after after written (good p) (good_first p)
      (subst (λ (o : Option Part). Bare (λ rule ts x rest. Opened (parts rule) o ts x rest) (next_word p k) after
      after) (sym (none p)) (bare-none (next_word p k) after))

  pub bare-bind : {A B : Type 0} (g : Grammar A) (h : A → Grammar B) (first mid after : Token → Bool)
      → Starts g first mid → ((a : A) → Starts (h a) mid after) → Starts (bind g h) first after
  bare-bind g h first mid after c d p =
      bare-both (λ rule ts a rest. Reads rule levels (parts rule) g ts a rest)
      (λ rule a ts b rest. Reads rule levels (parts rule) (h a) ts b rest) p first mid after (c p) (λ q a. d a q)

  pub bare-when : {A : Type 0} (class : Token → Bool) (g h : Grammar A) (first after : Token → Bool)
      → Starts h first after → ((t : Token) → first t ≡ true → is_of class t ≡ false)
      → Starts (when class g h) first after
  bare-when class g h first after starts far p =
      let c = starts p in
      record {
        more = c.more;
        spelled = c.spelled;
        value = c.value;
        starts = c.starts;
        reads = λ close k rule al le.
            inr (apart first class far (c.more ++ close) (c.starts close k), c.reads close k rule al le);
      }

  pub bare-many : {A : Type 0} (class : A → Token → Bool) (usage : A → Token → TokenUse) (opens : A → Token → Option Part)
      (step : Token → Tree → A → Grammar A) (a : A) (after : Token → Bool)
      → ((b : A) (t : Token) → after t ≡ true → is_of (class b) t ≡ false)
      → Starts (many class usage opens step a) after after
  bare-many class usage opens step a after far p =
      record {
        more = [];
        spelled = tt;
        value = a;
        starts = λ close k. k;
        reads = λ close k rule al le.
            stop (apart after (class a) (far a) close k);
      }
