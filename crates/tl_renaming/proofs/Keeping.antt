-- What a grammar reads of tokens whose names are changed: the value with its names changed. And the names of a value are those of the
-- tokens that were read, in order. Form by form.
use Rattle.std.proofs.Common.{◌≡◌, ℕ, Bool, true, false, cond, List, [], ◌∷◌, ◌++◌, Option, Some, None, refl, sym, ap, ◌∙◌}
use Rattle.std.proofs.Common.{subst, append_assoc, append-nil, inl, inr}
use Rattle.std.proofs.lemmas.Bool.{false≢true}
use Rattle.tl_tree.specs.declared.mode.TokenUse.{TokenUse}
use Rattle.tl_tree.specs.declared.mode.TokenUse.TheVariants.{Plain, Continues, Calls, LuaNumber, TerraNumber}
use Rattle.tl_tree.specs.Symbols.{is_bad}
use Rattle.tl_tree.specs.Tokens.{Token, is}
use Rattle.tl_tree.specs.Tree.{Tree, Nothing, Part}
use Rattle.tl_tree.specs.Grammar.{bar, Grammar, give, token, bind, when, many, begins, is_of, Parts, Opened, Turns, stop, turn, Reads}
use Rattle.tl_tree.specs.Refusing.{limits, is_allowed}
use Rattle.tl_renaming.proofs.Changed.{Change, Named, named, is_name, named_by, all_named, changed_text, changed_token, changed_tokens}
use Rattle.tl_renaming.proofs.Changed.{changed, names_in, Shape, tree}

-- ---- tokens

pub all_named-append : (xs ys : List Token) → all_named (xs ++ ys) ≡ all_named xs ++ all_named ys
all_named-append [] ys = refl
all_named-append (t ∷ xs) ys =
    ap (λ (l : List Named). named_by t ++ l) (all_named-append xs ys) ∙ sym (append_assoc (named_by t) (all_named xs) (all_named ys))

-- no name
pub not_named : (t : Token) → is_name t ≡ false → named_by t ≡ []
not_named t e = ap (λ (b : Bool). cond b (named t.offset t.text ∷ []) []) e

pub same_text : (c : Change) (t : Token) → is_name t ≡ false → changed_text c t ≡ t.text
same_text c t e = ap (λ (b : Bool). cond b (c.text t.offset t.text) t.text) e

-- a use that looks at the text is none of a name
abbrev pub IsFine : TokenUse → Token → Type 0
IsFine LuaNumber t = is_name t ≡ false
IsFine TerraNumber t = is_name t ≡ false
IsFine _ t = Unit {0}

-- the limits allow the same uses
abbrev with_text : Token → List ℕ → Token
with_text t text = record { symbol = t.symbol; text = text; place = t.place; offset = t.offset; first_on_line = t.first_on_line }

same_bar : (c : Change) (o : Option Part) (levels : ℕ) (u : TokenUse) (t : Token) → IsFine u t
    → bar (record { opens = o; levels = levels; usage = u }) (changed_token c t) ≡ bar (record { opens = o; levels = levels; usage = u }) t
same_bar c o levels Plain t fine = refl
same_bar c o levels (Continues links) t fine = refl
same_bar c o levels (Calls links) t fine = refl
same_bar c o levels LuaNumber t fine =
    ap (λ (text : List ℕ). bar (record { opens = o; levels = levels; usage = LuaNumber }) (with_text t text)) (same_text c t fine)
same_bar c o levels TerraNumber t fine =
    ap (λ (text : List ℕ). bar (record { opens = o; levels = levels; usage = TerraNumber }) (with_text t text)) (same_text c t fine)

of_class : (class : Token → Bool) (t : Token) → is_of class t ≡ true → class t ≡ true
of_class class t h = go (is_bad t.symbol) h
  where
    go : (b : Bool) → cond b false (class t) ≡ true → class t ≡ true
    go true k = absurd (false≢true k)
    go false k = k

-- ---- what is read

-- So many tokens were read, whose names are those of the value behind those before; and with the names changed the value with its names
-- changed.
pub record Kept {A : Type 0} (c : Change) (S : Shape A) (before : List Named) (ReadsIt : List Token → A → List Token → Type 0) (ts : List Token) (b : A)
    (rest : List Token) : Type 0 where
  pub front : List Token
  pub parts : ts ≡ front ++ rest
  pub names : S.names b ≡ before ++ all_named front
  pub reads : ReadsIt (changed_tokens c ts) (S.change b) (changed_tokens c rest)

-- what the parts read
abbrev pub PartsKeep : Change → Parts → Type 0
PartsKeep c parts = (part : Part) (ts : List Token) (x : Tree) (rest : List Token) → parts part ts x rest → Kept c (tree c) [] (parts part) ts x rest

-- two grammars: the second is the first, but for values with changed names in it
pub record Keeps {A : Type 0} (c : Change) (levels : ℕ) (parts : Parts) (S : Shape A) (before : List Named) (g h : Grammar A) : Type 0 where
  pub all : (ts : List Token) (b : A) (rest : List Token) → Reads limits levels parts g ts b rest
      → Kept c S before (Reads limits levels parts h) ts b rest

same_begins : (c : Change) (class : Token → Bool) → ((t : Token) → class (changed_token c t) ≡ class t) → (ts : List Token)
    → begins class (changed_tokens c ts) ≡ begins class ts
same_begins c class e [] = refl
same_begins c class e (t ∷ ts) = ap (λ (b : Bool). cond (is_bad t.symbol) false b) (e t)

-- what a token opens
abbrev pub Fits : Option Part → Tree → Type 0
Fits None x = x ≡ Nothing
Fits (Some part) x = Unit {0}

kept_opened : (c : Change) (parts : Parts) → PartsKeep c parts → (o : Option Part) (ts : List Token) (x : Tree) (rest : List Token) → Opened parts o ts x rest
    → Kept c (tree c) [] (Opened parts o) ts x rest × Fits o x
kept_opened c parts keep None ts x rest h = (
  record {
    front = [];
    parts = sym h.1;
    names = ap names_in h.0;
    reads = (ap (changed c) h.0, ap (changed_tokens c) h.1);
  },
  h.0,
)
kept_opened c parts keep (Some part) ts x rest h =
    let k = keep part ts x rest h in (record { front = k.front; parts = k.parts; names = k.names; reads = k.reads }, tt)

allowed : (c : Change) (o : Option Part) (levels : ℕ) (u : TokenUse) (t : Token) (ts ts' : List Token) → IsFine u t
    → limits (record { opens = o; levels = levels; usage = u }) (t ∷ ts) ≡ true
    → limits (record { opens = o; levels = levels; usage = u }) (changed_token c t ∷ ts') ≡ true
allowed c o levels u t ts ts' fine h = ap is_allowed (same_bar c o levels u t fine) ∙ h

module _ {c : Change} {levels : ℕ} {parts : Parts} where
  -- ---- forms

  -- a value that is known
  pub keeps_give : {A : Type 0} {S : Shape A} {b : A} → Keeps c levels parts S (S.names b) (give b) (give (S.change b))
  keeps_give {A} {S} {b} =
      record {
        all = λ ts x rest h. record {
          front = [];
          parts = sym h.1;
          names = ap S.names h.0 ∙ sym (append-nil (S.names b));
          reads = (ap S.change h.0, ap (changed_tokens c) h.1);
        };
      }

  pub keeps_same : {A : Type 0} {S : Shape A} {before : List Named} {b b' : A} → S.names b ≡ before → b' ≡ S.change b
      → Keeps c levels parts S before (give b) (give b')
  keeps_same {A} {S} {before} {b} {b'} n e =
      record {
        all = λ ts x rest h. record {
          front = [];
          parts = sym h.1;
          names = ap S.names h.0 ∙ n ∙ sym (append-nil before);
          reads = (ap S.change h.0 ∙ sym e, ap (changed_tokens c) h.1);
        };
      }

  -- a grammar with values before it that it doesn't have, and what goes on with all
  pub keeps_beside : {A B : Type 0} (S : Shape A) {T : Shape B} (before : List Named) {own : List Named} {g g' : Grammar A} {h h' : A → Grammar B}
      → Keeps c levels parts S own g g' → ((a : A) → Keeps c levels parts T (before ++ S.names a) (h a) (h' (S.change a)))
      → Keeps c levels parts T (before ++ own) (bind g h) (bind g' h')
  keeps_beside {A} {B} S {T} before {own} p q =
      record {
        all = λ ts b rest r.
            let k = p.all ts r.0 r.1 r.2 in
            let l = (q r.0).all r.1 b rest r.3 in
            record {
              front = k.front ++ l.front;
              parts = k.parts ∙ ap (λ (x : List Token). k.front ++ x) l.parts ∙ sym (append_assoc k.front l.front rest);
              names = l.names
                  ∙ append_assoc before (S.names r.0) (all_named l.front)
                  ∙ ap (λ (x : List Named). before ++ (x ++ all_named l.front)) k.names
                  ∙ ap (λ (x : List Named). before ++ x) (append_assoc own (all_named k.front) (all_named l.front)
                  ∙ ap (λ (x : List Named). own ++ x) (sym (all_named-append k.front l.front)))
                  ∙ sym (append_assoc before own (all_named (k.front ++ l.front)));
              reads = (S.change r.0, changed_tokens c r.1, k.reads, l.reads);
            };
      }

  -- a grammar behind others, and what goes on with its value
  pub keeps_bind : {A B : Type 0} (S : Shape A) {T : Shape B} {before : List Named} {g g' : Grammar A} {h h' : A → Grammar B}
      → Keeps c levels parts S [] g g' → ((a : A) → Keeps c levels parts T (before ++ S.names a) (h a) (h' (S.change a)))
      → Keeps c levels parts T before (bind g h) (bind g' h')
  keeps_bind {A} {B} S {T} {before} p q =
      record {
        all = λ ts b rest r.
            let k = p.all ts r.0 r.1 r.2 in
            let l = (q r.0).all r.1 b rest r.3 in
            record {
              front = k.front ++ l.front;
              parts = k.parts ∙ ap (λ (x : List Token). k.front ++ x) l.parts ∙ sym (append_assoc k.front l.front rest);
              names = l.names
                  ∙ append_assoc before (S.names r.0) (all_named l.front)
                  ∙ ap (λ (x : List Named). before ++ (x ++ all_named l.front)) k.names
                  ∙ ap (λ (x : List Named). before ++ x) (sym (all_named-append k.front l.front));
              reads = (S.change r.0, changed_tokens c r.1, k.reads, l.reads);
            };
      }

  -- and one that takes the values before with it
  pub keeps_on : {A B : Type 0} (S : Shape A) {T : Shape B} {before : List Named} {g g' : Grammar A} {h h' : A → Grammar B}
      → Keeps c levels parts S before g g' → ((a : A) → Keeps c levels parts T (S.names a) (h a) (h' (S.change a)))
      → Keeps c levels parts T before (bind g h) (bind g' h')
  keeps_on {A} {B} S {T} {before} p q =
      record {
        all = λ ts b rest r.
            let k = p.all ts r.0 r.1 r.2 in
            let l = (q r.0).all r.1 b rest r.3 in
            record {
              front = k.front ++ l.front;
              parts = k.parts ∙ ap (λ (x : List Token). k.front ++ x) l.parts ∙ sym (append_assoc k.front l.front rest);
              names = l.names
                  ∙ ap (λ (x : List Named). x ++ all_named l.front) k.names
                  ∙ append_assoc before (all_named k.front) (all_named l.front)
                  ∙ ap (λ (x : List Named). before ++ x) (sym (all_named-append k.front l.front));
              reads = (S.change r.0, changed_tokens c r.1, k.reads, l.reads);
            };
      }

  pub keeps_when : {A : Type 0} {S : Shape A} {before : List Named} {class : Token → Bool} {g g' h h' : Grammar A}
      → ((t : Token) → class (changed_token c t) ≡ class t) → Keeps c levels parts S before g g' → Keeps c levels parts S before h h'
      → Keeps c levels parts S before (when class g h) (when class g' h')
  keeps_when {A} {S} {before} {class} {g} {g'} {h} {h'} e p q = record { all = λ ts b rest r. pick ts b rest r }
    where
      pick : (ts : List Token) (b : A) (rest : List Token) → Reads limits levels parts (when class g h) ts b rest
          → Kept c S before (Reads limits levels parts (when class g' h')) ts b rest
      pick ts b rest (inl x) =
          let k = p.all ts b rest x.1 in
          record { front = k.front; parts = k.parts; names = k.names; reads = inl (same_begins c class e ts ∙ x.0, k.reads) }
      pick ts b rest (inr x) =
          let k = q.all ts b rest x.1 in
          record { front = k.front; parts = k.parts; names = k.names; reads = inr (same_begins c class e ts ∙ x.0, k.reads) }

  module _ (keep : PartsKeep c parts) where
    -- a token of a class, what it opens, and what goes on with both
    pub keeps_token : {B : Type 0} {T : Shape B} {before : List Named} {class : Token → Bool} {usage : Token → TokenUse}
        {opens : Token → Option Part} {sample : Token} {h h' : (Token × Tree) → Grammar B}
        → ((t : Token) → class (changed_token c t) ≡ class t) → ((t : Token) → usage (changed_token c t) ≡ usage t)
        → ((t : Token) → opens (changed_token c t) ≡ opens t) → ((t : Token) → class t ≡ true → IsFine (usage t) t)
        → ((t : Token) (x : Tree) → class t ≡ true → Fits (opens t) x
        → Keeps c levels parts T (before ++ (named_by t ++ names_in x)) (h (t, x)) (h' (changed_token c t, changed c x)))
        → Keeps c levels parts T before (bind (token class usage opens sample) h) (bind (token class usage opens sample) h')
    keeps_token {B} {T} {before} {class} {usage} {opens} {sample} {h} {h'} same_class same_usage same_opens fine go =
        record { all = λ ts b rest r. read ts b rest r.0 r.1 r.2 r.3 }
      where
        read : (ts : List Token) (b : B) (rest : List Token) (a : Token × Tree) (mid : List Token)
            → Reads limits levels parts (token class usage opens sample) ts a mid → Reads limits levels parts (h a) mid b rest
            → Kept c T before (Reads limits levels parts (bind (token class usage opens sample) h')) ts b rest
        read ts b rest a mid r more =
            let t = a.0 in
            let x = a.1 in
            let o = kept_opened c parts keep (opens t) r.0 x mid r.4 in
            let k = o.0 in
            let at = of_class class t r.2 in
            let l = (go t x at o.1).all mid b rest more in
            let bad : is_of class (changed_token c t) ≡ true = ap (λ (b : Bool). cond (is_bad t.symbol) false b) (same_class t) ∙ r.2 in
            let may : limits (record { opens = opens t; levels = levels; usage = usage t }) (t ∷ r.0) ≡ true =
            subst (λ (us : List Token). limits (record { opens = opens t; levels = levels; usage = usage t }) us ≡ true) r.1 r.3 in
            let now = allowed c (opens t) levels (usage t) t r.0 (changed_tokens c r.0) (fine t at) may in
            let now' = subst (λ (o : Option Part). limits (record { opens = o; levels = levels; usage = usage t })
            (changed_token c t ∷ changed_tokens c r.0) ≡ true) (sym (same_opens t)) now in
            let now'' = subst (λ (u : TokenUse). limits (record { opens = opens (changed_token c t); levels = levels; usage = u })
            (changed_token c t ∷ changed_tokens c r.0) ≡ true) (sym (same_usage t)) now' in
            let inside = subst (λ (o : Option Part). Opened parts o (changed_tokens c r.0) (changed c x) (changed_tokens c mid)) (sym (same_opens t)) k.reads in
            let here : Reads limits levels parts (token class usage opens sample) (changed_token c t ∷ changed_tokens c r.0)
            (changed_token c t, changed c x) (changed_tokens c mid) = (changed_tokens c r.0, refl, bad, now'', inside) in
            record {
              front = (t ∷ k.front) ++ l.front;
              parts = r.1
                  ∙ ap (λ (y : List Token). t ∷ y) (k.parts ∙ ap (λ (y : List Token). k.front ++ y) l.parts ∙ sym (append_assoc k.front l.front rest));
              names = l.names
                  ∙ append_assoc before (named_by t ++ names_in x) (all_named l.front)
                  ∙ ap (λ (y : List Named). before ++ ((named_by t ++ y) ++ all_named l.front)) k.names
                  ∙ ap (λ (y : List Named). before ++ y) (sym (all_named-append (t ∷ k.front) l.front));
              reads = subst (λ (us : List Token). Reads limits levels parts (bind (token class usage opens sample) h') us (T.change b) (changed_tokens c rest))
                  (ap (changed_tokens c) (sym r.1)) ((changed_token c t, changed c x), changed_tokens c mid, here, l.reads);
            }

-- ---- repetitions

module _ {c : Change} {levels : ℕ} {parts : Parts} (keep : PartsKeep c parts) where
  module _ {A : Type 0} {S : Shape A} {class : A → Token → Bool} {usage : A → Token → TokenUse} {opens : A → Token → Option Part}
      {step : Token → Tree → A → Grammar A}
      (same_class : (a : A) (t : Token) → class (S.change a) (changed_token c t) ≡ class a t)
      (same_usage : (a : A) (t : Token) → usage (S.change a) (changed_token c t) ≡ usage a t)
      (same_opens : (a : A) (t : Token) → opens (S.change a) (changed_token c t) ≡ opens a t)
      (fine : (a : A) (t : Token) → class a t ≡ true → IsFine (usage a t) t)
      (go : (t : Token) (x : Tree) (a : A) → class a t ≡ true → Fits (opens a t) x
      → Keeps c levels parts S (S.names a ++ (named_by t ++ names_in x)) (step t x a) (step (changed_token c t) (changed c x) (S.change a))) where
    abbrev Turn : A → Token → List Token → A → List Token → Type 0
    Turn a t inner y next =
        (limits (record { opens = opens a t; levels = levels; usage = usage a t }) (t ∷ inner) ≡ true) × (x : Tree) × (mid : List Token)
        × Opened parts (opens a t) inner x mid × Reads limits levels parts (step t x a) mid y next

    record Turned (a : A) (ts : List Token) (b : A) (rest : List Token) : Type 0 where
      front : List Token
      parts_are : ts ≡ front ++ rest
      names : S.names b ≡ S.names a ++ all_named front
      turns : Turns class Turn (S.change a) (changed_tokens c ts) (S.change b) (changed_tokens c rest)

    begun : (a : A) (ts : List Token) → begins (class a) ts ≡ false → begins (class (S.change a)) (changed_tokens c ts) ≡ false
    begun a [] e = refl
    begun a (t ∷ ts) e = ap (λ (b : Bool). cond (is_bad t.symbol) false b) (same_class a t) ∙ e

    turned_on : (a x b : A) (t : Token) (ts mid rest : List Token) → is_of (class a) t ≡ true → Turn a t ts x mid → Turned x mid b rest
        → Turned a (t ∷ ts) b rest
    turned_on a x b t ts mid rest is this more =
        let y = this.1 in
        let o = kept_opened c parts keep (opens a t) ts y this.2 this.3 in
        let k = o.0 in
        let at = of_class (class a) t is in
        let l = (go t y a at o.1).all this.2 x mid this.4 in
        let bad : is_of (class (S.change a)) (changed_token c t) ≡ true = ap (λ (b : Bool). cond (is_bad t.symbol) false b) (same_class a t) ∙ is in
        let now = allowed c (opens a t) levels (usage a t) t ts (changed_tokens c ts) (fine a t at) this.0 in
        let now' = subst (λ (o : Option Part). limits (record { opens = o; levels = levels; usage = usage a t })
        (changed_token c t ∷ changed_tokens c ts) ≡ true) (sym (same_opens a t)) now in
        let now'' = subst (λ (u : TokenUse). limits (record { opens = opens (S.change a) (changed_token c t); levels = levels; usage = u })
        (changed_token c t ∷ changed_tokens c ts) ≡ true) (sym (same_usage a t)) now' in
        let inside = subst (λ (o : Option Part). Opened parts o (changed_tokens c ts) (changed c y) (changed_tokens c this.2)) (sym (same_opens a t)) k.reads in
        record {
          front = (t ∷ (k.front ++ l.front)) ++ more.front;
          parts_are = ap (λ (z : List Token). t ∷ z)
              (k.parts ∙ ap (λ (z : List Token). k.front ++ z) (l.parts ∙ ap (λ (z : List Token). l.front ++ z) more.parts_are
              ∙ sym (append_assoc l.front more.front rest)) ∙ sym (append_assoc k.front (l.front ++ more.front) rest)
              ∙ ap (λ (z : List Token). z ++ rest) (sym (append_assoc k.front l.front more.front)));
          names = more.names
              ∙ ap (λ (z : List Named). z ++ all_named more.front)
              (l.names ∙ append_assoc (S.names a) (named_by t ++ names_in y) (all_named l.front)
              ∙ ap (λ (z : List Named). S.names a ++ ((named_by t ++ z) ++ all_named l.front)) k.names
              ∙ ap (λ (z : List Named). S.names a ++ z) (sym (all_named-append (t ∷ k.front) l.front)))
              ∙ append_assoc (S.names a) (all_named ((t ∷ k.front) ++ l.front)) (all_named more.front)
              ∙ ap (λ (z : List Named). S.names a ++ z) (sym (all_named-append (t ∷ (k.front ++ l.front)) more.front));
          turns = turn bad (now'', changed c y, changed_tokens c this.2, inside, l.reads) more.turns;
        }

    turned : {a b : A} {ts rest : List Token} → Turns class Turn a ts b rest → Turned a ts b rest
    turned {a} {b} {ts} {rest} (stop e) =
        record { front = []; parts_are = refl; names = sym (append-nil (S.names a)); turns = stop (begun a ts e) }
    turned (turn {a} {x} {b} {t} {ts} {mid} {rest} is this more) = turned_on a x b t ts mid rest is this (turned more)

    pub keeps_many : {a : A} → Keeps c levels parts S (S.names a) (many class usage opens step a) (many class usage opens step (S.change a))
    keeps_many {a} =
        record {
          all = λ ts b rest h.
              let k : Turned a ts b rest = turned h in
              record { front = k.front; parts = k.parts_are; names = k.names; reads = k.turns };
        }
