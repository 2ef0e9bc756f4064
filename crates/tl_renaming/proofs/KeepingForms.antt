-- What `Keeping` says of the forms that the grammars of Lua and Terra code are made of.
use Rattle.std.proofs.Common.{◌≡◌, ℕ, Bool, true, false, eqb, List, [], ◌∷◌, ◌++◌, Option, Some, None, refl, sym, ap, ◌∙◌, subst, append-nil}
use Rattle.std.specs.Prelude.{◌||◌}
use Rattle.std.proofs.lemmas.Bool.{false≢true, eqb-true}
use Rattle.tl_base.specs.declared.place.Place.{Place}
use Rattle.tl_tree.specs.declared.symbol.Symbol.{Symbol}
use Rattle.tl_tree.specs.declared.symbol.Symbol.TheVariants as symbols
use Rattle.tl_tree.specs.declared.mode.TokenUse.{TokenUse}
use Rattle.tl_tree.specs.declared.mode.TokenUse.TheVariants.{Plain}
use Rattle.tl_tree.specs.Symbols.{number_of, has}
use Rattle.tl_tree.specs.Tokens.{Token, among}
use Rattle.tl_tree.specs.Tree.{Tree, Nothing, Name, Numeral, Part}
use Rattle.tl_tree.specs.Grammar.{Grammar, give, token, bind, many, Parts, down}
use Rattle.tl_tree.specs.Forms.{sign, opening_at, opening, listed_behind, listed, separated_behind, named, name, names, semicolon, separator}
use Rattle.tl_tree.specs.Forms.{path_names, Chained, operand, operators, right_operator}
use Rattle.tl_renaming.proofs.Changed.{Change, Named, is_name, named_by, changed_text, changed_token, changed, names_in, Shape, tree, chained, silent}
use Rattle.tl_renaming.proofs.Changed as of
use Rattle.tl_renaming.proofs.Keeping.{not_named, same_text, IsFine, PartsKeep, Keeps, Fits, keeps_give, keeps_same, keeps_bind, keeps_when}
use Rattle.tl_renaming.proofs.Keeping.{keeps_token, keeps_many}

-- ---- tokens that are no names

unnamed_by : (ss : List Symbol) (n : ℕ) (b : Bool) → eqb 60 n ≡ b → has ss 60 ≡ false → has ss n ≡ true → (b || false) ≡ false
unnamed_by ss n true e none h = absurd (false≢true (sym none ∙ ap (has ss) (eqb-true 60 n e) ∙ h))
unnamed_by ss n false e none h = refl

pub unnamed : (ss : List Symbol) (t : Token) → has ss 60 ≡ false → among ss t ≡ true → is_name t ≡ false
unnamed ss t none h = unnamed_by ss (number_of t.symbol) (eqb 60 (number_of t.symbol)) refl none h

-- ---- and names

the_name : (s : Symbol) → (eqb 60 (number_of s) || false) ≡ true → s ≡ symbols.Name
the_name symbols.Name h = refl
the_name _ h = absurd (false≢true h)

-- a name with this text, at this place
abbrev pub name_token : List ℕ → Place → ℕ → Bool → Token
name_token text place offset first =
    record { symbol = symbols.Name; text = text; place = place; offset = offset; first_on_line = first }

pub as_name : (t : Token) → is_name t ≡ true → t ≡ name_token t.text t.place t.offset t.first_on_line
as_name t h =
    ap (λ (s : Symbol). record { symbol = s; text = t.text; place = t.place; offset = t.offset; first_on_line = t.first_on_line }) (the_name t.symbol h)

module _ {c : Change} {levels : ℕ} {parts : Parts} (keep : PartsKeep c parts) where
  -- a sign, which has no name in it
  pub keeps_sign : {B : Type 0} {T : Shape B} {before : List Named} (s : Symbol) {h h' : (Token × Tree) → Grammar B} → has (s ∷ []) 60 ≡ false
      → ((t : Token) → is_name t ≡ false → Keeps c levels parts T before (h (t, Nothing)) (h' (changed_token c t, Nothing)))
      → Keeps c levels parts T before (bind (sign s) h) (bind (sign s) h')
  keeps_sign {B} {T} {before} s {h} {h'} none go =
      keeps_token keep (λ t. refl) (λ t. refl) (λ t. refl) (λ t at. tt)
      (λ t x at fits.
      let plain = unnamed (s ∷ []) t none at in
      subst (λ (y : Tree). Keeps c levels parts T (before ++ (named_by t ++ names_in y)) (h (t, y)) (h' (changed_token c t, changed c y))) (sym fits)
      (subst (λ (l : List Named). Keeps c levels parts T l (h (t, Nothing)) (h' (changed_token c t, Nothing)))
      (sym (ap (λ (l : List Named). before ++ (l ++ [])) (not_named t plain) ∙ append-nil before)) (go t plain)))

  -- a token of a class without names, and what it opens
  pub keeps_among : {B : Type 0} {T : Shape B} {before : List Named} (ss : List Symbol) (part : Part) {sample : Token} {h h' : (Token × Tree) → Grammar B}
      → has ss 60 ≡ false → ((t : Token) (x : Tree) → Keeps c levels parts T (before ++ names_in x) (h (t, x)) (h' (changed_token c t, changed c x)))
      → Keeps c levels parts T before (bind (token (among ss) (λ t. Plain) (λ t. Some part) sample) h)
      (bind (token (among ss) (λ t. Plain) (λ t. Some part) sample) h')
  keeps_among {B} {T} {before} ss part {sample} {h} {h'} none go =
      keeps_token keep (λ t. refl) (λ t. refl) (λ t. refl) (λ t at. tt)
      (λ t x at fits.
      subst (λ (l : List Named). Keeps c levels parts T (before ++ (l ++ names_in x)) (h (t, x)) (h' (changed_token c t, changed c x)))
      (sym (not_named t (unnamed ss t none at))) (go t x))

  -- a numeral
  pub keeps_numeral : (ss : List Symbol) (u : TokenUse) {sample : Token} → has ss 60 ≡ false → ((t : Token) → is_name t ≡ false → IsFine u t)
      → Keeps c levels parts (tree c) [] (bind (token (among ss) (λ t. u) (λ t. None) sample) λ x. give (Numeral x.0.place x.0.text))
      (bind (token (among ss) (λ t. u) (λ t. None) sample) λ x. give (Numeral x.0.place x.0.text))
  keeps_numeral ss u none fine =
      keeps_token keep (λ t. refl) (λ t. refl) (λ t. refl) (λ t at. fine t (unnamed ss t none at))
      (λ t x at fits.
      let plain = unnamed ss t none at in
      keeps_same (sym (ap (λ (l : List Named). l ++ names_in x) (not_named t plain) ∙ ap names_in fits))
      (ap (λ (text : List ℕ). Numeral t.place text) (same_text c t plain)))

  -- a sign, and what it opens
  pub keeps_opening_at : {B : Type 0} {T : Shape B} {before : List Named} (s : Symbol) (part : Place → Part) {h h' : (Token × Tree) → Grammar B}
      → has (s ∷ []) 60 ≡ false → ((t : Token) (x : Tree) → Keeps c levels parts T (before ++ names_in x) (h (t, x)) (h' (changed_token c t, changed c x)))
      → Keeps c levels parts T before (bind (opening_at s part) h) (bind (opening_at s part) h')
  keeps_opening_at {B} {T} {before} s part {h} {h'} none go =
      keeps_token keep (λ t. refl) (λ t. refl) (λ t. refl) (λ t at. tt)
      (λ t x at fits.
      subst (λ (l : List Named). Keeps c levels parts T (before ++ (l ++ names_in x)) (h (t, x)) (h' (changed_token c t, changed c x)))
      (sym (not_named t (unnamed (s ∷ []) t none at))) (go t x))

  pub keeps_opening : {B : Type 0} {T : Shape B} {before : List Named} (s : Symbol) (part : Part) {h h' : (Token × Tree) → Grammar B}
      → has (s ∷ []) 60 ≡ false → ((t : Token) (x : Tree) → Keeps c levels parts T (before ++ names_in x) (h (t, x)) (h' (changed_token c t, changed c x)))
      → Keeps c levels parts T before (bind (opening s part) h) (bind (opening s part) h')
  keeps_opening s part none go = keeps_opening_at s (λ place. part) none go

  -- a name
  pub keeps_name_token : {B : Type 0} {T : Shape B} {before : List Named} {h h' : (Token × Tree) → Grammar B}
      → ((text : List ℕ) (place : Place) (offset : ℕ) (first : Bool)
      → Keeps c levels parts T (before ++ of.named offset text ∷ []) (h (name_token text place offset first, Nothing))
      (h' (name_token (c.text offset text) place (c.offset offset) first, Nothing)))
      → Keeps c levels parts T before (bind (sign symbols.Name) h) (bind (sign symbols.Name) h')
  keeps_name_token {B} {T} {before} {h} {h'} go =
      keeps_token keep (λ t. refl) (λ t. refl) (λ t. refl) (λ t at. tt)
      (λ t x at fits.
      subst (λ (y : Tree). Keeps c levels parts T (before ++ (named_by t ++ names_in y)) (h (t, y)) (h' (changed_token c t, changed c y))) (sym fits)
      (subst (λ (u : Token). Keeps c levels parts T (before ++ (named_by u ++ [])) (h (u, Nothing)) (h' (changed_token c u, Nothing))) (sym (as_name t at))
      (go t.text t.place t.offset t.first_on_line)))

  pub keeps_named : {B : Type 0} {T : Shape B} {before : List Named} {goes : Place → Tree → Grammar B}
      → ((place : Place) (n : Tree) → Keeps c levels parts T (before ++ names_in n) (goes place n) (goes place (changed c n)))
      → Keeps c levels parts T before (named goes) (named goes)
  keeps_named go = keeps_name_token (λ text place offset first. go place (Name place offset text))

  pub keeps_name : Keeps c levels parts (tree c) [] name name
  keeps_name = keeps_named {goes = λ place n. give n} (λ place n. keeps_give)

  -- a name and what goes on with it
  pub keeps_then_name : {B : Type 0} {T : Shape B} {before : List Named} {h h' : Tree → Grammar B}
      → ((n : Tree) → Keeps c levels parts T (before ++ names_in n) (h n) (h' (changed c n))) → Keeps c levels parts T before (bind name h) (bind name h')
  keeps_then_name go = keeps_bind (tree c) keeps_name go

  -- ---- repetitions

  -- behind tokens that are no names and open nothing
  pub keeps_turns : {A : Type 0} {S : Shape A} {class : A → Token → Bool} {usage : A → Token → TokenUse} {step : Token → Tree → A → Grammar A} {a : A}
      → ((a : A) (t : Token) → class (S.change a) (changed_token c t) ≡ class a t)
      → ((a : A) (t : Token) → usage (S.change a) (changed_token c t) ≡ usage a t)
      → ((a : A) (t : Token) → class a t ≡ true → IsFine (usage a t) t) → ((a : A) (t : Token) → class a t ≡ true → is_name t ≡ false)
      → ((t : Token) (a : A) → is_name t ≡ false → Keeps c levels parts S (S.names a) (step t Nothing a) (step (changed_token c t) Nothing (S.change a)))
      → Keeps c levels parts S (S.names a) (many class usage (λ b t. None) step a) (many class usage (λ b t. None) step (S.change a))
  keeps_turns {A} {S} {class} {usage} {step} {a} same_class same_usage fine plain go =
      keeps_many keep same_class same_usage (λ b t. refl) fine
      (λ t x b at fits.
      subst (λ (y : Tree). Keeps c levels parts S (S.names b ++ (named_by t ++ names_in y)) (step t y b) (step (changed_token c t) (changed c y) (S.change b))) (sym fits)
      (subst (λ (l : List Named). Keeps c levels parts S l (step t Nothing b) (step (changed_token c t) Nothing (S.change b)))
      (sym (ap (λ (l : List Named). S.names b ++ (l ++ [])) (not_named t (plain b t at)) ∙ append-nil (S.names b))) (go t b (plain b t at))))

  -- behind tokens that are no names
  pub keeps_opens : {A : Type 0} {S : Shape A} {class : A → Token → Bool} {usage : A → Token → TokenUse} {opens : A → Token → Option Part}
      {step : Token → Tree → A → Grammar A} {a : A}
      → ((a : A) (t : Token) → class (S.change a) (changed_token c t) ≡ class a t)
      → ((a : A) (t : Token) → usage (S.change a) (changed_token c t) ≡ usage a t)
      → ((a : A) (t : Token) → opens (S.change a) (changed_token c t) ≡ opens a t)
      → ((a : A) (t : Token) → class a t ≡ true → IsFine (usage a t) t) → ((a : A) (t : Token) → class a t ≡ true → is_name t ≡ false)
      → ((t : Token) (x : Tree) (a : A) → class a t ≡ true → Fits (opens a t) x
      → Keeps c levels parts S (S.names a ++ names_in x) (step t x a) (step (changed_token c t) (changed c x) (S.change a)))
      → Keeps c levels parts S (S.names a) (many class usage opens step a) (many class usage opens step (S.change a))
  keeps_opens {A} {S} {class} {usage} {opens} {step} {a} same_class same_usage same_opens fine plain go =
      keeps_many keep same_class same_usage same_opens fine
      (λ t x b at fits.
      subst (λ (l : List Named). Keeps c levels parts S (S.names b ++ (l ++ names_in x)) (step t x b) (step (changed_token c t) (changed c x) (S.change b)))
      (sym (not_named t (plain b t at))) (go t x b at fits))

  -- ---- lists

  pub keeps_behind : {x : Grammar Tree} {a : Tree} → Keeps c levels parts (tree c) [] x x → Keeps c levels parts (tree c) (names_in a) (listed_behind x a) (listed_behind x (changed c a))
  keeps_behind p =
      keeps_turns {S = tree c} (λ a t. refl) (λ a t. refl) (λ a t at. tt) (λ a t at. unnamed (symbols.Comma ∷ []) t refl at)
      (λ t a plain. keeps_bind (tree c) p (λ e. keeps_give))

  pub keeps_listed : {x : Grammar Tree} → Keeps c levels parts (tree c) [] x x → Keeps c levels parts (tree c) [] (listed x) (listed x)
  keeps_listed p = keeps_bind (tree c) p (λ e. keeps_behind p)

  pub keeps_separated : {x : Grammar Tree} {a : Tree} → Keeps c levels parts (tree c) [] x x → Keeps c levels parts (tree c) (names_in a) (separated_behind x a) (separated_behind x (changed c a))
  keeps_separated p =
      keeps_turns {S = tree c} (λ a t. refl) (λ a t. refl) (λ a t at. tt) (λ a t at. unnamed (symbols.Comma ∷ symbols.Semicolon ∷ []) t refl at)
      (λ t a plain. keeps_when (λ u. refl) keeps_give (keeps_bind (tree c) p (λ e. keeps_give)))

  pub keeps_names : Keeps c levels parts (tree c) [] names names
  keeps_names = keeps_listed keeps_name

  pub keeps_path_names : {a : Tree} → Keeps c levels parts (tree c) (names_in a) (path_names a) (path_names (changed c a))
  keeps_path_names =
      keeps_turns {S = tree c} (λ a t. refl) (λ a t. refl) (λ a t at. tt) (λ a t at. unnamed (symbols.Dot ∷ []) t refl at)
      (λ t a plain. keeps_name_token (λ text place offset first. keeps_give))

  -- ---- what is read and thrown away

  -- a grammar whose value has no names, and is not kept
  pub keeps_skip : {B : Type 0} {T : Shape B} {before : List Named} {g : Grammar Tree} {h h' : Tree → Grammar B} → Keeps c levels parts (silent c) [] g g
      → ((a : Tree) → Keeps c levels parts T before (h a) (h' (changed c a))) → Keeps c levels parts T before (bind g h) (bind g h')
  keeps_skip {B} {T} {before} {g} {h} {h'} p q =
      keeps_bind (silent c) p (λ a. subst (λ (l : List Named). Keeps c levels parts T l (h a) (h' (changed c a))) (sym (append-nil before)) (q a))

  pub keeps_semicolon : Keeps c levels parts (silent c) [] semicolon semicolon
  keeps_semicolon = keeps_when (λ t. refl) (keeps_sign symbols.Semicolon refl (λ t plain. keeps_give)) keeps_give

  pub keeps_separator : Keeps c levels parts (silent c) [] separator separator
  keeps_separator =
      keeps_when (λ t. refl)
      (keeps_token keep (λ t. refl) (λ t. refl) (λ t. refl) (λ t at. tt)
      (λ t x at fits. keeps_same
      (sym (ap (λ (l : List Named). l ++ names_in x) (not_named t (unnamed (symbols.Comma ∷ symbols.Semicolon ∷ []) t refl at)) ∙ ap names_in fits)) refl))
      keeps_give

  -- ---- operators

  pub keeps_operators : (ss : List Symbol) {x : ℕ → Grammar Chained} (make : Token → Tree → Tree → Tree) {a : Chained} → has ss 60 ≡ false
      → ((n : ℕ) → Keeps c levels parts (chained c) [] (x n) (x n))
      → ((t : Token) (a b : Tree) → make (changed_token c t) (changed c a) (changed c b) ≡ changed c (make t a b))
      → ((t : Token) (a b : Tree) → names_in (make t a b) ≡ names_in a ++ names_in b)
      → Keeps c levels parts (chained c) (names_in a.tree) (operators ss x make a) (operators ss x make ((chained c).change a))
  keeps_operators ss {x} make {a} none p change same_names =
      keeps_turns {S = chained c} (λ a t. refl) (λ a t. refl) (λ a t at. tt) (λ a t at. unnamed ss t none at)
      (λ t b plain. keeps_bind (chained c) (p (down b.links))
      (λ d. keeps_same (same_names t b.tree d.tree) (ap (λ (y : Tree). operand d.links y) (change t b.tree d.tree))))

  pub keeps_right : (s : Symbol) (part : Part) (make : Token → Tree → Tree → Tree) {a : Chained} → has (s ∷ []) 60 ≡ false
      → ((t : Token) (a b : Tree) → make (changed_token c t) (changed c a) (changed c b) ≡ changed c (make t a b))
      → ((t : Token) (a b : Tree) → names_in (make t a b) ≡ names_in a ++ names_in b)
      → Keeps c levels parts (chained c) (names_in a.tree) (right_operator s part make a) (right_operator s part make ((chained c).change a))
  keeps_right s part make {a} none change same_names =
      keeps_when (λ t. refl)
      (keeps_token keep (λ t. refl) (λ t. refl) (λ t. refl) (λ t at. tt)
      (λ t x at fits. keeps_same
      (same_names t a.tree x ∙ sym (ap (λ (l : List Named). names_in a.tree ++ (l ++ names_in x)) (not_named t (unnamed (s ∷ []) t none at))))
      (ap (λ (y : Tree). operand (down a.links) y) (change t a.tree x))))
      keeps_give
