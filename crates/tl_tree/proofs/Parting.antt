-- A reading that is parted at some token, the limits aside: what was read before the place is read whatever follows it,
-- and shortest tokens complete the rest.
use Rattle.std.proofs.Common.{◌≡◌, ℕ, Bool, true, false, List, [], ◌∷◌, ◌++◌, length, Option, Some, None, refl, sym, ap}
use Rattle.std.proofs.Common.{◌∙◌, subst, append_assoc, arith, inl, inr, ◌⊎◌, length-append}
use Rattle.tl_lex.specs.Answers.{Position}
use Rattle.tl_tree.specs.declared.symbol.Symbol.{Symbol}
use Rattle.tl_tree.specs.declared.mode.TokenUse.{TokenUse}
use Rattle.tl_tree.specs.Tokens.{Token}
use Rattle.tl_tree.specs.Tree.{Tree, Nothing, Part}
use Rattle.tl_tree.specs.Grammar.{is_of, Grammar, give, token, bind, when, many, begins, Rule, Parts, Opened, Turns}
use Rattle.tl_tree.specs.Grammar.{stop, turn, Reads}
use Rattle.tl_tree.specs.Refusing.{any}
use Rattle.tl_tree.proofs.Spelled.{is_written, placed, next_word, behind, Spelled, spelled-append}
use Rattle.tl_tree.proofs.Reading.{Leaves, leaves_all, leaves_then, leaves_one, not_longer, same_back, back_of}
use Rattle.tl_tree.proofs.Completing.{fits, fits_also, all_fit, apart, Bare, Starts, bare-both, bare-within, bare-give}
use Rattle.tl_tree.proofs.Completing.{bare-opened, bare-bind, bare-when, bare-many}

-- how a value is read from tokens, up to the rest
abbrev pub Reading : Type 0 → Type 1
Reading A = List Token → A → List Token → Type 0

-- the rest is a back of these tokens
abbrev pub Behind : List Token → List Token → Type 0
Behind rest r = (d : List Token) × (r ≡ d ++ rest)

-- what is left is a back of the tokens
abbrev pub Leaving : {A : Type 0} → Reading A → Type 0
Leaving {A} In = (ts : List Token) (a : A) (rest : List Token) → In ts a rest → Leaves rest ts

-- what is read before the place is read in the second way whatever follows
abbrev pub Keeping : {A : Type 0} → Reading A → Reading A → Type 0
Keeping {A} In Out = (front r x b : List Token) (t : Token) (a : A) → In (front ++ r) a (t ∷ (b ++ r))
    → Out (front ++ x) a (t ∷ (b ++ x))

-- tokens that complete the front, if its first is of the class after
pub record Ended {A : Type 0} (Out : Reading A) (p : Position) (after : Token → Bool) (front : List Token) : Type 0
  where
    pub more : List Token
    pub spelled : Spelled p more
    pub value : A
    pub reads : (close : List Token) → fits after close ≡ true → Out (front ++ (more ++ close)) value close

-- what is read beyond a front is completed behind it in the second way
abbrev pub Ending : {A : Type 0} → Reading A → Reading A → (Token → Bool) → Type 0
Ending {A} In Out after =
    (p : Position) (t : Token) (f r : List Token) (a : A) (rest : List Token) → In (t ∷ (f ++ r)) a rest
    → Behind rest r → Ended Out p after (t ∷ f)

-- the same for a front that may be empty
abbrev pub EndingAny : {A : Type 0} → Reading A → Reading A → (Token → Bool) → Type 0
EndingAny {A} In Out after =
    (p : Position) (front r : List Token) (a : A) (rest : List Token) → In (front ++ r) a rest → Behind rest r
    → Ended Out p after front

pub ending_any : {A : Type 0} (In : Reading A) (Out : Rule → Reading A) (first after : Token → Bool)
    → ((p : Position) → Bare Out p first after) → Ending In (Out any) after → EndingAny In (Out any) after
ending_any In Out first after bare ending p [] r a rest h k =
    let c = bare p in
    record {
      more = c.more;
      spelled = c.spelled;
      value = c.value;
      reads = λ close g.
          c.reads close g any (λ usage t ts e. refl) (λ usage ts e. refl);
    }
ending_any In Out first after bare ending p (t ∷ f) r a rest h k = ending p t f r a rest h k

-- ---- where a reading is parted

heads : (x y : Token) (xs ys : List Token) → x ∷ xs ≡ y ∷ ys → (x ≡ y) × (xs ≡ ys)
heads x y xs ys e = (cc, cc)

-- the rest begins within the front, or behind it
parted : (front r d rest : List Token) → front ++ r ≡ d ++ rest
    → ((t : Token) × (b : List Token) × (rest ≡ t ∷ (b ++ r))) ⊎ Behind rest r
parted [] r d rest e = inr (d, e)
parted (x ∷ front) r [] rest e = inl (x, front, sym e)
parted (x ∷ front) r (y ∷ d) rest e = parted front r d rest (heads x y (front ++ r) (d ++ rest) e).1

never_behind : (t : Token) (f r : List Token) → Behind (t ∷ (f ++ r)) r → ⊥
never_behind t f r k = let l = ap length k.1 in
    absurd (omega (arith, l, length-append k.0 (t ∷ (f ++ r)), length-append f r))

-- ---- one after the other

abbrev pub Then : {A B : Type 0} → Reading A → (A → Reading B) → Reading B
Then {A} {B} First Second ts b rest = (a : A) × (m : List Token) × First ts a m × Second a m b rest

pub leaving_then : {A B : Type 0} (First : Reading A) (Second : A → Reading B) → Leaving First
    → ((a : A) → Leaving (Second a)) → Leaving (Then First Second)
leaving_then First Second first_leaves second_leaves ts b rest h =
    leaves_then rest h.1 ts (first_leaves ts h.0 h.1 h.2) (second_leaves h.0 h.1 b rest h.3)

pub keeping_then : {A B : Type 0} (First FirstOut : Reading A) (Second SecondOut : A → Reading B)
    → Keeping First FirstOut → ((a : A) → Keeping (Second a) (SecondOut a)) → ((a : A) → Leaving (Second a))
    → Keeping (Then First Second) (Then FirstOut SecondOut)
keeping_then First FirstOut Second SecondOut first_keeps second_keeps second_leaves front r x b t y h =
    let n = back_of h.1 r b t (t ∷ (b ++ r)) (second_leaves h.0 h.1 y (t ∷ (b ++ r)) h.3) refl in (
      h.0,
      n.0 ∷ (n.1 ++ x),
      first_keeps front r x n.1 n.0 h.0 (subst (λ (m : List Token). First (front ++ r) h.0 m) n.2 h.2),
      second_keeps h.0 (n.0 ∷ n.1) r x b t y (subst (λ (m : List Token). Second h.0 m y (t ∷ (b ++ r))) n.2 h.3),
    )

pub ending_then : {A B : Type 0} (First FirstOut : Reading A) (Second : A → Reading B)
    (SecondOut : A → Rule → Reading B) (mid after : Token → Bool) → Leaving First → Keeping First FirstOut
    → EndingAny First FirstOut mid → ((a : A) (p : Position) → Bare (SecondOut a) p mid after)
    → ((a : A) → Ending (Second a) (SecondOut a any) after)
    → EndingAny (Then First Second) (Then FirstOut (λ a. SecondOut a any)) after
ending_then {A} {B} First FirstOut Second SecondOut mid after first_leaves first_keeps first_ends second_bare
    second_ends p front r b rest h k = go (parted front r left.0 h.1 left.1)
  where
    left : Leaves h.1 (front ++ r)
    left = first_leaves (front ++ r) h.0 h.1 h.2

    go : ((t : Token) × (c : List Token) × (h.1 ≡ t ∷ (c ++ r))) ⊎ Behind h.1 r
        → Ended (Then FirstOut (λ a. SecondOut a any)) p after front
    go (inl n) =
        let c = second_ends h.0 p n.0 n.1 r b rest (subst (λ (m : List Token). Second h.0 m b rest) n.2 h.3) k in
        record {
          more = c.more;
          spelled = c.spelled;
          value = c.value;
          reads = λ close f. (
            h.0,
            n.0 ∷ (n.1 ++ (c.more ++ close)),
            first_keeps front r (c.more ++ close) n.1 n.0 h.0
                (subst (λ (m : List Token). First (front ++ r) h.0 m) n.2 h.2),
            c.reads close f,
          );
        }
    go (inr n) =
        let c1 = first_ends p front r h.0 h.1 h.2 n in
        let c2 = second_bare c1.value (behind p c1.more) in
        record {
          more = c1.more ++ c2.more;
          spelled = spelled-append p c1.more c2.more c1.spelled c2.spelled;
          value = c2.value;
          reads = λ close f. (
            c1.value,
            c2.more ++ close,
            subst (λ (x : List Token). FirstOut (front ++ x) c1.value (c2.more ++ close))
                (sym (append_assoc c1.more c2.more close)) (c1.reads (c2.more ++ close) (c2.starts close f)),
            c2.reads close f any (λ usage t ts e. refl) (λ usage ts e. refl),
          );
        }

-- ---- repetitions

module _ {A : Type 0} (class : A → Token → Bool) (In : A → Token → Reading A)
    (turn_leaves : (a : A) (t : Token) → Leaving (In a t)) where
  pub leaving_turns : (a : A) (ts : List Token) (b : A) (rest : List Token) → Turns class In a ts b rest
      → Leaves rest ts
  leaving_turns a [] b rest (stop e) = leaves_all []
  leaving_turns a (u ∷ ts) b rest (stop e) = leaves_all (u ∷ ts)
  leaving_turns a (u ∷ ts) b rest (turn {x = x} {mid = mid} h here later) =
      leaves_one (class a) u rest ts h
      (leaves_then rest mid ts (turn_leaves a u ts x mid here) (leaving_turns x mid b rest later))

  module _ (Out : A → Token → Reading A) (turn_keeps : (a : A) (t : Token) → Keeping (In a t) (Out a t)) where
    kept_stop : (a : A) (front r x c : List Token) (t : Token) (ts : List Token) → begins (class a) ts ≡ false
        → ts ≡ front ++ r → ts ≡ t ∷ (c ++ r) → Turns class Out a (front ++ x) a (t ∷ (c ++ x))
    kept_stop a front r x c t ts e f g =
        let h : begins (class a) (t ∷ (c ++ x)) ≡ false = ap (begins (class a)) (sym g) ∙ e in
        subst (λ (y : List Token). Turns class Out a y a (t ∷ (c ++ x))) (sym (same_back front r x c t (sym f ∙ g)))
        (stop h)

    pub keeping_turns : (a : A) (ts : List Token) (b : A) (rest : List Token) → Turns class In a ts b rest
        → (front r x c : List Token) (t : Token) → ts ≡ front ++ r → rest ≡ t ∷ (c ++ r)
        → Turns class Out a (front ++ x) b (t ∷ (c ++ x))
    keeping_turns a [] b rest (stop e) front r x c t f g = kept_stop a front r x c t [] e f g
    keeping_turns a (u ∷ ts) b rest (stop e) front r x c t f g = kept_stop a front r x c t (u ∷ ts) e f g
    keeping_turns a (u ∷ ts) b rest (turn {x = y} {mid = mid} h here later) [] r x c t f g =
        absurd (not_longer rest r c t
        (subst (λ (z : List Token). Leaves rest z) f (leaving_turns a (u ∷ ts) b rest (turn h here later))) g)
    keeping_turns a (u ∷ ts) b rest (turn {x = y} {mid = mid} h here later) (v ∷ front) r x c t f g =
        let same = heads u v ts (front ++ r) f in
        let n = back_of mid r c t rest (leaving_turns y mid b rest later) g in
        let first : Out a u (front ++ x) y (n.0 ∷ (n.1 ++ x)) =
        turn_keeps a u front r x n.1 n.0 y
        (subst (λ (z : List Token). In a u z y (n.0 ∷ (n.1 ++ r))) same.1
        (subst (λ (m : List Token). In a u ts y m) n.2 here)) in
        subst (λ (z : Token). Turns class Out a (z ∷ (front ++ x)) b (t ∷ (c ++ x))) same.0
        (turn h first (keeping_turns y mid b rest later (n.0 ∷ n.1) r x c t n.2 g))

    module _ (after : Token → Bool)
        (turn_ends : (a : A) (t : Token) → is_of (class a) t ≡ true → EndingAny (In a t) (Out a t) after)
        (far : (a : A) (t : Token) → after t ≡ true → is_of (class a) t ≡ false) where
      pub ending_turns : (a : A) (ts : List Token) (b : A) (rest : List Token) → Turns class In a ts b rest
          → (p : Position) (t : Token) (f r : List Token) → ts ≡ t ∷ (f ++ r) → Behind rest r
          → Ended (λ us y left. Turns class Out a us y left) p after (t ∷ f)
      ending_turns a [] b rest (stop e) p t f r g k = absurd cc
      ending_turns a (u ∷ ts) b rest (stop e) p t f r g k =
          absurd (never_behind t f r (subst (λ (z : List Token). Behind z r) g k))
      ending_turns a (u ∷ ts) b rest (turn {x = y} {mid = mid} h here later) p t f r g k =
          go (parted f r left.0 mid (sym same.1 ∙ left.1)) (λ w c e. ending_turns y mid b rest later p w c r e k)
        where
          same : (u ≡ t) × (ts ≡ f ++ r)
          same = heads u t ts (f ++ r) g

          left : Leaves mid ts
          left = turn_leaves a u ts y mid here

          inner : In a u (f ++ r) y mid
          inner = subst (λ (z : List Token). In a u z y mid) same.1 here

          go : ((w : Token) × (c : List Token) × (mid ≡ w ∷ (c ++ r))) ⊎ Behind mid r
              → ((w : Token) (c : List Token) → mid ≡ w ∷ (c ++ r)
              → Ended (λ us z rest. Turns class Out y us z rest) p after (w ∷ c))
              → Ended (λ us z rest. Turns class Out a us z rest) p after (t ∷ f)
          go (inl n) again =
              let c = again n.0 n.1 n.2 in
              record {
                more = c.more;
                spelled = c.spelled;
                value = c.value;
                reads = λ close q.
                    subst (λ (z : Token). Turns class Out a (z ∷ (f ++ (c.more ++ close))) c.value close) same.0
                    (turn h (turn_keeps a u f r (c.more ++ close) n.1 n.0 y
                    (subst (λ (m : List Token). In a u (f ++ r) y m) n.2 inner)) (c.reads close q));
              }
          go (inr n) again =
              let c = turn_ends a u h p f r y mid inner n in
              record {
                more = c.more;
                spelled = c.spelled;
                value = c.value;
                reads = λ close q.
                    subst (λ (z : Token). Turns class Out a (z ∷ (f ++ (c.more ++ close))) c.value close) same.0
                    (turn h (c.reads close q) (stop (apart after (class c.value) (far c.value) close q)));
              }

-- ---- grammars, where parts are read in one way and completed in another

pub record Deep (part_after : Part → Token → Bool) : Type 1 where
  pub levels : ℕ
  pub inner : Parts
  pub outer : Parts
  pub leaving : (part : Part) → Leaving (λ ts x rest. inner part ts x rest)
  pub keeping : (part : Part) → Keeping (λ ts x rest. inner part ts x rest) (λ ts x rest. outer part ts x rest)
  pub bare : (part : Part) (p : Position)
      → Bare (λ rule ts x rest. outer part ts x rest) p (λ t. true) (part_after part)
  pub ending : (part : Part)
      → Ending (λ ts x rest. inner part ts x rest) (λ ts x rest. outer part ts x rest) (part_after part)

module _ {part_after : Part → Token → Bool} (d : Deep part_after) where
  abbrev pub ReadsIn : {A : Type 0} → Grammar A → Reading A
  ReadsIn g ts a rest = Reads any d.levels d.inner g ts a rest

  abbrev pub ReadsOut : {A : Type 0} → Grammar A → Rule → Reading A
  ReadsOut g rule ts a rest = Reads rule d.levels d.outer g ts a rest

  abbrev pub Covering : (Token → Bool) → Option Part → Type 0
  Covering after None = Unit {0}
  Covering after (Some part) = (t : Token) → after t ≡ true → part_after part t ≡ true

  abbrev OpenedIn : Option Part → Reading Tree
  OpenedIn o ts x rest = Opened d.inner o ts x rest

  abbrev OpenedOut : Option Part → Rule → Reading Tree
  OpenedOut o rule ts x rest = Opened d.outer o ts x rest

  opened_leaving : (o : Option Part) → Leaving (OpenedIn o)
  opened_leaving None ts x rest h = subst (λ (z : List Token). Leaves z ts) (sym h.1) (leaves_all ts)
  opened_leaving (Some part) ts x rest h = d.leaving part ts x rest h

  opened_keeping : (o : Option Part) → Keeping (OpenedIn o) (OpenedOut o any)
  opened_keeping None front r x b t y h = (h.0, sym (same_back front r x b t (sym h.1)))
  opened_keeping (Some part) front r x b t y h = d.keeping part front r x b t y h

  opened_bare : (o : Option Part) (after : Token → Bool) → Covering after o → (p : Position)
      → Bare (OpenedOut o) p (λ t. true) after
  opened_bare None after c p =
      record {
        more = [];
        spelled = tt;
        value = Nothing;
        starts = λ close k.
            all_fit close;
        reads = λ close k rule al le. (refl, refl);
      }
  opened_bare (Some part) after c p =
      let b = d.bare part p in
      record {
        more = b.more;
        spelled = b.spelled;
        value = b.value;
        starts = λ close k.
            all_fit (b.more ++ close);
        reads =
            λ close k rule al le. b.reads close (fits_also after (part_after part) c close k) rule al le;
      }

  opened_ending : (o : Option Part) (after : Token → Bool) → Covering after o
      → Ending (OpenedIn o) (OpenedOut o any) after
  opened_ending None after c p t f r x rest h k =
      absurd (never_behind t f r (subst (λ (z : List Token). Behind z r) h.1 k))
  opened_ending (Some part) after c p t f r x rest h k =
      let e = d.ending part p t f r x rest h k in
      record {
        more = e.more;
        spelled = e.spelled;
        value = e.value;
        reads = λ close q.
            e.reads close (fits_also after (part_after part) c close q);
      }

  opened_any : (o : Option Part) (after : Token → Bool) → Covering after o
      → EndingAny (OpenedIn o) (OpenedOut o any) after
  opened_any o after c = ending_any (OpenedIn o) (OpenedOut o) (λ t. true) after (opened_bare o after c)
      (opened_ending o after c)

  pub leaving_of : {A : Type 0} (g : Grammar A) → Leaving (ReadsIn g)
  leaving_of (give a) ts x rest h = subst (λ (z : List Token). Leaves z ts) (sym h.1) (leaves_all ts)
  leaving_of (token class usage opens sample) ts x rest h =
      subst (λ (z : List Token). Leaves rest z) (sym h.1)
      (leaves_one class x.0 rest h.0 h.2 (opened_leaving (opens x.0) h.0 x.1 rest h.4))
  leaving_of (bind g k) ts x rest h =
      leaves_then rest h.1 ts (leaving_of g ts h.0 h.1 h.2) (leaving_of (k h.0) h.1 x rest h.3)
  leaving_of (when class g k) ts x rest (inl h) = leaving_of g ts x rest h.1
  leaving_of (when class g k) ts x rest (inr h) = leaving_of k ts x rest h.1
  leaving_of (many class usage opens step a) ts x rest h =
      leaving_turns class (λ a t inner y next.
      (any (record { opens = opens a t; levels = d.levels; usage = usage a t }) (t ∷ inner) ≡ true) × (x : Tree)
      × (mid : List Token) × Opened d.inner (opens a t) inner x mid
      × Reads any d.levels d.inner (step t x a) mid y next)
      (λ a t inner y next q. leaves_then next q.2 inner (opened_leaving (opens a t) inner q.1 q.2 q.3)
      (leaving_of (step t q.1 a) q.2 y next q.4)) a ts x rest h

  -- a turn of a repetition
  abbrev TurnIn : {A : Type 0} → (A → Token → TokenUse) → (A → Token → Option Part) → (Token → Tree → A → Grammar A) → A
      → Token → Reading A
  TurnIn usage opens step a t inner y next =
      (any (record { opens = opens a t; levels = d.levels; usage = usage a t }) (t ∷ inner) ≡ true) × (x : Tree)
      × (mid : List Token) × Opened d.inner (opens a t) inner x mid
      × Reads any d.levels d.inner (step t x a) mid y next

  abbrev TurnOut : {A : Type 0} → (A → Token → TokenUse) → (A → Token → Option Part) → (Token → Tree → A → Grammar A) → A
      → Token → Reading A
  TurnOut usage opens step a t inner y next =
      (any (record { opens = opens a t; levels = d.levels; usage = usage a t }) (t ∷ inner) ≡ true) × (x : Tree)
      × (mid : List Token) × Opened d.outer (opens a t) inner x mid
      × Reads any d.levels d.outer (step t x a) mid y next

  turn_leaving : {A : Type 0} (usage : A → Token → TokenUse) (opens : A → Token → Option Part)
      (step : Token → Tree → A → Grammar A) (a : A) (t : Token) → Leaving (TurnIn usage opens step a t)
  turn_leaving usage opens step a t inner y next q =
      leaves_then next q.2 inner (opened_leaving (opens a t) inner q.1 q.2 q.3)
      (leaving_of (step t q.1 a) q.2 y next q.4)

  pub keeping_of : {A : Type 0} (g : Grammar A) → Keeping (ReadsIn g) (ReadsOut g any)
  keeping_of (give v) front r x b t a h = (h.0, sym (same_back front r x b t (sym h.1)))
  keeping_of (token class usage opens sample) [] r x b t a h =
      absurd (not_longer (t ∷ (b ++ r)) r b t (leaving_of (token class usage opens sample) r a (t ∷ (b ++ r)) h) refl)
  keeping_of (token class usage opens sample) (u ∷ f) r x b t a h =
      let same = heads u a.0 (f ++ r) h.0 h.1 in (
        f ++ x,
        ap (λ (z : Token). z ∷ (f ++ x)) same.0,
        h.2,
        refl,
        opened_keeping (opens a.0) f r x b t a.1
            (subst (λ (z : List Token). Opened d.inner (opens a.0) z a.1 (t ∷ (b ++ r))) (sym same.1) h.4),
      )
  keeping_of (bind g k) front r x b t a h =
      keeping_then (ReadsIn g) (ReadsOut g any) (λ v. ReadsIn (k v)) (λ v. ReadsOut (k v) any) (keeping_of g)
      (λ v. keeping_of (k v)) (λ v. leaving_of (k v)) front r x b t a h
  keeping_of (when class g k) [] r x b t a h =
      absurd (not_longer (t ∷ (b ++ r)) r b t (leaving_of (when class g k) r a (t ∷ (b ++ r)) h) refl)
  keeping_of (when class g k) (u ∷ f) r x b t a (inl h) = inl (h.0, keeping_of g (u ∷ f) r x b t a h.1)
  keeping_of (when class g k) (u ∷ f) r x b t a (inr h) = inr (h.0, keeping_of k (u ∷ f) r x b t a h.1)
  keeping_of (many class usage opens step v) front r x b t a h =
      keeping_turns class (TurnIn usage opens step) (turn_leaving usage opens step) (TurnOut usage opens step)
      (λ v u f s y c w z q.
      let k =
      keeping_then (OpenedIn (opens v u)) (OpenedOut (opens v u) any) (λ o. ReadsIn (step u o v))
      (λ o. ReadsOut (step u o v) any) (opened_keeping (opens v u)) (λ o. keeping_of (step u o v))
      (λ o. leaving_of (step u o v)) f s y c w z
      (q.1, q.2, q.3, q.4) in
      (refl, k.0, k.1, k.2, k.3))
      v (front ++ r) a (t ∷ (b ++ r)) h front r x b t refl refl

-- ---- the completions, form by form

-- Some tokens complete the grammar from nothing on, and behind each place at which a reading is parted.
pub record Turned {part_after : Part → Token → Bool} (d : Deep part_after) {A : Type 0} (g : Grammar A)
    (first after : Token → Bool) : Type 0 where
  pub starts : Starts d.levels (λ rule. d.outer) g first after
  pub ends : Ending (ReadsIn d g) (ReadsOut d g any) after

module _ {part_after : Part → Token → Bool} (d : Deep part_after) where
  pub turned_any : {A : Type 0} (g : Grammar A) (first after : Token → Bool) → Turned d g first after
      → EndingAny (ReadsIn d g) (ReadsOut d g any) after
  turned_any g first after c = ending_any (ReadsIn d g) (ReadsOut d g) first after c.starts c.ends

  pub turned-within : {A : Type 0} (g : Grammar A) (first first' after after' : Token → Bool)
      → ((t : Token) → first t ≡ true → first' t ≡ true) → ((t : Token) → after' t ≡ true → after t ≡ true)
      → Turned d g first after → Turned d g first' after'
  turned-within g first first' after after' wider narrower c =
      record {
        starts = bare-within d.levels (λ rule. d.outer) g first first' after after' wider narrower c.starts;
        ends = λ p t f r a rest h k.
            let e = c.ends p t f r a rest h k in
            record {
              more = e.more;
              spelled = e.spelled;
              value = e.value;
              reads = λ close q.
                  e.reads close (fits_also after' after narrower close q);
            };
      }

  pub turned-give : {A : Type 0} (a : A) (after : Token → Bool) → Turned d (give a) after after
  turned-give a after = record {
    starts = bare-give d.levels (λ rule. d.outer) a after;
    ends = λ p t f r x rest h k.
        absurd (never_behind t f r (subst (λ (z : List Token). Behind z r) h.1 k));
  }

  pub turned-token : (class : Token → Bool) (usage : Token → TokenUse) (opens : Token → Option Part) (sample : Token)
      (k : Symbol) (first after : Token → Bool) → is_written k ≡ true
      → ((p : Position) → is_of class (placed p k) ≡ true) → ((p : Position) → first (placed p k) ≡ true)
      → ((t : Token) → is_of class t ≡ true → Covering d after (opens t))
      → Turned d (token class usage opens sample) first after
  turned-token class usage opens sample k first after written good good_first covers =
      record {
        starts = λ p. bare-opened d.levels (λ rule. d.outer) class usage opens sample k p first (λ t. true) after
            written (good p) (good_first p)
            (opened_bare d (opens (placed p k)) after (covers (placed p k) (good p)) (next_word p k));
        ends = λ p t f r a rest h n.
            let same = heads t a.0 (f ++ r) h.0 h.1 in
            let fine : is_of class t ≡ true = subst (λ (z : Token). is_of class z ≡ true) (sym same.0) h.2 in
            let inner : Opened d.inner (opens t) (f ++ r) a.1 rest =
            subst (λ (z : Token). Opened d.inner (opens z) (f ++ r) a.1 rest) (sym same.0)
            (subst (λ (z : List Token). Opened d.inner (opens a.0) z a.1 rest) (sym same.1) h.4) in
            let e = opened_any d (opens t) after (covers t fine) p f r a.1 rest inner n in
            record {
              more = e.more;
              spelled = e.spelled;
              value = (t, e.value);
              reads = λ close q.
                  (f ++ (e.more ++ close), refl, fine, refl, e.reads close q);
            };
      }

  pub turned-bind : {A B : Type 0} (g : Grammar A) (h : A → Grammar B) (first mid after : Token → Bool)
      → Turned d g first mid → ((a : A) → Turned d (h a) mid after) → Turned d (bind g h) first after
  turned-bind g h first mid after c1 c2 =
      record {
        starts = bare-bind d.levels (λ rule. d.outer) g h first mid after c1.starts (λ a. (c2 a).starts);
        ends = λ p t f r b rest q k.
            ending_then (ReadsIn d g) (ReadsOut d g any) (λ a. ReadsIn d (h a)) (λ a. ReadsOut d (h a)) mid after
            (leaving_of d g) (keeping_of d g) (turned_any g first mid c1) (λ a p. (c2 a).starts p)
            (λ a. (c2 a).ends) p (t ∷ f) r b rest q k;
      }

  -- a token and what follows it, which begins in a class that depends on the token
  pub turned-then : {A : Type 0} (class : Token → Bool) (usage : Token → TokenUse) (opens : Token → Option Part)
      (sample : Token) (s : Symbol) (h : Token × Tree → Grammar A) (first : Token → Bool)
      (other : Token → Token → Bool) (after : Token → Bool) → is_written s ≡ true
      → ((p : Position) → is_of class (placed p s) ≡ true) → ((p : Position) → first (placed p s) ≡ true)
      → ((t : Token) → is_of class t ≡ true → Covering d (other t) (opens t))
      → ((x : Token × Tree) → is_of class x.0 ≡ true → Turned d (h x) (other x.0) after)
      → Turned d (bind (token class usage opens sample) h) first after
  turned-then {A} class usage opens sample s h first other after written good good_first covers next =
      record { starts = begins_at; ends = ends_at }
    where
      opened_then : (t : Token) → is_of class t ≡ true
          → EndingAny (Then (OpenedIn d (opens t)) (λ x. ReadsIn d (h (t, x))))
          (Then (OpenedOut d (opens t) any) (λ x. ReadsOut d (h (t, x)) any)) after
      opened_then t e = ending_then (OpenedIn d (opens t)) (OpenedOut d (opens t) any) (λ x. ReadsIn d (h (t, x)))
          (λ x. ReadsOut d (h (t, x))) (other t) after (opened_leaving d (opens t)) (opened_keeping d (opens t))
          (opened_any d (opens t) (other t) (covers t e)) (λ x p. (next (t, x) e).starts p) (λ x. (next (t, x) e).ends)

      begins_at : (p : Position) → Bare (ReadsOut d (bind (token class usage opens sample) h)) p first after
      begins_at p =
          let t : Token = placed p s in
          let c = bare-both (OpenedOut d (opens t))
          (λ rule x ts y rest. Reads rule d.levels d.outer (h (t, x)) ts y rest) (next_word p s) (λ u. true)
          (other t) after (opened_bare d (opens t) (other t) (covers t (good p)) (next_word p s))
          (λ q x. (next (t, x) (good p)).starts q) in
          record {
            more = t ∷ c.more;
            spelled = ((s, written, refl), c.spelled);
            value = c.value;
            starts = λ close k. good_first p;
            reads = λ close k rule al le.
                let i = c.reads close k rule al (λ usage ts short. le usage ts (omega arith)) in (
                  (t, i.0),
                  i.1,
                  (
                    c.more ++ close,
                    refl,
                    good p,
                    le (record { opens = opens t; levels = d.levels; usage = usage t }) (t ∷ (c.more ++ close))
                        (omega arith),
                    i.2,
                  ),
                  i.3,
                );
          }

      ends_at : Ending (ReadsIn d (bind (token class usage opens sample) h))
          (ReadsOut d (bind (token class usage opens sample) h) any) after
      ends_at p t f r b rest q k = go q.0 q.2 q.3
        where
          go : (x : Token × Tree) → ReadsIn d (token class usage opens sample) (t ∷ (f ++ r)) x q.1
              → ReadsIn d (h x) q.1 b rest
              → Ended (ReadsOut d (bind (token class usage opens sample) h) any) p after (t ∷ f)
          go x i j =
              let same = heads t x.0 (f ++ r) i.0 i.1 in
              let fine : is_of class t ≡ true = subst (λ (z : Token). is_of class z ≡ true) (sym same.0) i.2 in
              let inner : Opened d.inner (opens t) (f ++ r) x.1 q.1 =
              subst (λ (z : Token). Opened d.inner (opens z) (f ++ r) x.1 q.1) (sym same.0)
              (subst (λ (z : List Token). Opened d.inner (opens x.0) z x.1 q.1) (sym same.1) i.4) in
              let behind_it : ReadsIn d (h (t, x.1)) q.1 b rest =
              subst (λ (z : Token). ReadsIn d (h (z, x.1)) q.1 b rest) (sym same.0) j in
              let e = opened_then t fine p f r b rest (x.1, q.1, inner, behind_it) k in
              record {
                more = e.more;
                spelled = e.spelled;
                value = e.value;
                reads = λ close g.
                    let o = e.reads close g in
                    ((t, o.0), o.1, (f ++ (e.more ++ close), refl, fine, refl, o.2), o.3);
              }

  pub turned-when : {A : Type 0} (class : Token → Bool) (g h : Grammar A) (first other after : Token → Bool)
      → Turned d g other after → Turned d h first after → ((t : Token) → first t ≡ true → is_of class t ≡ false)
      → Turned d (when class g h) first after
  turned-when {A} class g h first other after c1 c2 far =
      record { starts = bare-when d.levels (λ rule. d.outer) class g h first after c2.starts far; ends = ends_at }
    where
      ends_at : Ending (ReadsIn d (when class g h)) (ReadsOut d (when class g h) any) after
      ends_at p t f r a rest (inl q) k =
          let e = c1.ends p t f r a rest q.1 k in
          record { more = e.more; spelled = e.spelled; value = e.value; reads = λ close n. inl (q.0, e.reads close n) }
      ends_at p t f r a rest (inr q) k =
          let e = c2.ends p t f r a rest q.1 k in
          record { more = e.more; spelled = e.spelled; value = e.value; reads = λ close n. inr (q.0, e.reads close n) }

  pub turned-many : {A : Type 0} (class : A → Token → Bool) (usage : A → Token → TokenUse)
      (opens : A → Token → Option Part) (step : Token → Tree → A → Grammar A) (other : Token → Token → Bool)
      (after : Token → Bool) → ((a : A) (t : Token) → is_of (class a) t ≡ true → Covering d (other t) (opens a t))
      → ((t : Token) (x : Tree) (a : A) → is_of (class a) t ≡ true → Turned d (step t x a) (other t) after)
      → ((a : A) (t : Token) → after t ≡ true → is_of (class a) t ≡ false) → (a : A)
      → Turned d (many class usage opens step a) after after
  turned-many {A} class usage opens step other after covers next far a =
      record {
        starts = bare-many d.levels (λ rule. d.outer) class usage opens step a after far;
        ends = λ p t f r b rest q k.
            ending_turns class (TurnIn d usage opens step) (turn_leaving d usage opens step)
            (TurnOut d usage opens step) turn_keeps after turn_ends far a (t ∷ (f ++ r)) b rest q p t f r refl k;
      }
    where
      turn_keeps : (a : A) (t : Token) → Keeping (TurnIn d usage opens step a t) (TurnOut d usage opens step a t)
      turn_keeps v u f s y c w z q =
          let k =
          keeping_then (OpenedIn d (opens v u)) (OpenedOut d (opens v u) any) (λ o. ReadsIn d (step u o v))
          (λ o. ReadsOut d (step u o v) any) (opened_keeping d (opens v u)) (λ o. keeping_of d (step u o v))
          (λ o. leaving_of d (step u o v)) f s y c w z
          (q.1, q.2, q.3, q.4) in
          (refl, k.0, k.1, k.2, k.3)

      turn_ends : (a : A) (t : Token) → is_of (class a) t ≡ true
          → EndingAny (TurnIn d usage opens step a t) (TurnOut d usage opens step a t) after
      turn_ends v u e p front r y rest q k =
          let c =
          ending_then (OpenedIn d (opens v u)) (OpenedOut d (opens v u) any) (λ o. ReadsIn d (step u o v))
          (λ o. ReadsOut d (step u o v)) (other u) after (opened_leaving d (opens v u))
          (opened_keeping d (opens v u)) (opened_any d (opens v u) (other u) (covers v u e))
          (λ o p. (next u o v e).starts p) (λ o. (next u o v e).ends) p front r y rest
          (q.1, q.2, q.3, q.4) k in
          record {
            more = c.more;
            spelled = c.spelled;
            value = c.value;
            reads = λ close n. let o = c.reads close n in (refl, o.0, o.1, o.2, o.3);
          }
