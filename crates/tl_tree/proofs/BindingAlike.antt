-- Trees that bind alike have the same scopes, and a declaration that a use finds by its name is found by its number by the same steps.
use Rattle.std.specs.Prelude.{◌≡◌, ℕ, zero, suc, ◌+◌, ◌==◌, Bool, true, false, List, [], ◌∷◌, length, get_or, map, take, Option, Some, None}
use Rattle.std.specs.Prelude.{if◌then◌else◌}
use Rattle.std.proofs.Common.{refl, sym, ap, subst, ◌∙◌, arith}
use Rattle.std.proofs.lemmas.Bool.{eqb-true, eq-eqb, false≢true}
use Rattle.std.proofs.lemmas.Option.{none-some}
use Rattle.tl_base.specs.declared.ids.NodeId.{NodeId}
use Rattle.tl_base.specs.declared.place.Place.{Place}
use Rattle.tl_tree.specs.Item.{Item}
use Rattle.tl_tree.specs.Item as kept
use Rattle.tl_tree.specs.Nodes.{item_at, absent_item}
use Rattle.tl_tree.specs.Code.{Items}
use Rattle.tl_tree.specs.declared.scope.Scope.{Scope}
use Rattle.tl_tree.specs.Scopes.{Found, Standing, scope_in, scope_at, standing_of, or_found, last_found, declared_in, declarations}
use Rattle.tl_tree.specs.Scopes.{found_from, found_for, has_name, binder}
use Rattle.tl_tree.specs.Binding.{BoundItem, Declared, Used, OtherName, NumberValue, TextValue, Other, bound, bound_from, bound_item}
use Rattle.tl_tree.specs.Binding.{bound_name, name_alone, is_declared_below}
use Rattle.tl_tree.specs.ScopeLaws.{BoundDetermines}
use Rattle.tl_tree.proofs.Nameless.{bare, all_bare, declarations_same, standing_same}

-- ---- the nodes without texts

abbrev unbound : BoundItem → Item
unbound (Declared place k) = kept.Name place 0 []
unbound (Used place k) = kept.Name place 0 []
unbound (OtherName place text) = kept.Name place 0 []
unbound (NumberValue place symbol value) = kept.Numeral place []
unbound (TextValue place value) = kept.Literal place []
unbound (Other item) = item

unbound_alone : (place : Place) (text : List ℕ) (b : Bool) (n : ℕ) → unbound (name_alone place text b n) ≡ kept.Name place 0 []
unbound_alone place text true n = refl
unbound_alone place text false n = refl

unbound_name : (items : Items) (place : Place) (text : List ℕ) (n : ℕ) (found : Option Found) → unbound (bound_name items place text n found) ≡ kept.Name place 0 []
unbound_name items place text n (Some f) = refl
unbound_name items place text n None = unbound_alone place text (is_declared_below (length items) items n) n

unbound_item : (items : Items) (n : ℕ) (i : Item) → unbound (bound_item items n i) ≡ bare i
unbound_item items n (kept.Name place offset text) = unbound_name items place text n (binder items (record { 0 = n }))
unbound_item items n (kept.Numeral place text) = refl
unbound_item items n (kept.Literal place text) = refl
unbound_item items n (kept.Expression place e) = refl
unbound_item items n (kept.Statement place s) = refl
unbound_item items n (kept.TerraExpression place e) = refl
unbound_item items n (kept.TerraStatement place s) = refl
unbound_item items n (kept.Piece p) = refl

unbound_from : (items : Items) (n : ℕ) (more : List Item) → map unbound (bound_from items n more) ≡ map bare more
unbound_from items n [] = refl
unbound_from items n (i ∷ more) =
    ap (λ x. x ∷ map unbound (bound_from items (n + 1) more)) (unbound_item items n i) ∙ ap (λ l. bare i ∷ l) (unbound_from items (n + 1) more)

bare_alike : (a b : Items) (finish end : Place) → bound a finish ≡ bound b end → all_bare a ≡ all_bare b
bare_alike a b finish end e = sym (unbound_from a 0 a) ∙ ap (λ x. map unbound x.items) e ∙ unbound_from b 0 b

standing_alike : (a b : Items) → all_bare a ≡ all_bare b → standing_of a ≡ standing_of b
standing_alike a b e = sym (standing_same a) ∙ ap standing_of e ∙ standing_same b

declarations_alike : (a b : Items) → all_bare a ≡ all_bare b → (n : NodeId) → declarations a n ≡ declarations b n
declarations_alike a b e n = sym (declarations_same a n) ∙ ap (λ i. declarations i n) e ∙ declarations_same b n

-- ---- found by a number

-- the declarations that one test asks for are among those of another
abbrev Among : (NodeId → Bool) → (NodeId → Bool) → Type 0
Among q p = (d : NodeId) → q d ≡ true → p d ≡ true

abbrev found_or : Found → Option Found → Found
found_or f (Some x) = x
found_or f None = f

some_inj : (f g : Found) → Some f ≡ Some g → f ≡ g
some_inj f g h = ap (found_or f) h

abbrev one : Bool → ℕ → ℕ → NodeId → Option Found
one b depth at d = if b then Some (record { depth = depth; position = at; declaration = d }) else None

not_among : (p q : NodeId → Bool) → Among q p → (d : NodeId) (depth at : ℕ) → (b c : Bool) → p d ≡ b → q d ≡ c → one b depth at d ≡ None → one c depth at d ≡ None
not_among p q among d depth at b false e g h = refl
not_among p q among d depth at true true e g h = h
not_among p q among d depth at false true e g h = absurd (false≢true (sym e ∙ among d g))

none_one : (b : Bool) (rest : Option Found) (depth at : ℕ) (d : NodeId) → or_found rest (one b depth at d) ≡ None → (rest ≡ None) × (one b depth at d ≡ None)
none_one b (Some f) depth at d h = absurd (none-some f (sym h))
none_one b None depth at d h = (refl, h)

-- where none is found by the wider test, none is by the narrower
none_narrow : (p q : NodeId → Bool) → Among q p → (depth at : ℕ) (ds : List NodeId) → last_found p depth at ds ≡ None → last_found q depth at ds ≡ None
none_narrow p q among depth at [] h = refl
none_narrow p q among depth at (d ∷ ds) h =
    let both = none_one (p d) (last_found p depth (at + 1) ds) depth at d h in
    ap (λ o. or_found o (one (q d) depth at d)) (none_narrow p q among depth (at + 1) ds both.0)
    ∙ not_among p q among d depth at (p d) (q d) refl refl both.1

-- what the wider test finds and the narrower asks for, the narrower finds
here_narrow : (q : NodeId → Bool) (depth at : ℕ) (d : NodeId) (f : Found) (b : Bool) → one b depth at d ≡ Some f → q f.declaration ≡ true → one (q d) depth at d ≡ Some f
here_narrow q depth at d f true h e =
    let same : record { depth = depth; position = at; declaration = d } ≡ f = some_inj (record { depth = depth; position = at; declaration = d }) f h in
    ap (λ c. one c depth at d) (ap (λ g. q g.declaration) same ∙ e) ∙ h
here_narrow q depth at d f false h e = absurd (none-some f h)

last_narrow_by : (p q : NodeId → Bool) → Among q p → (depth at : ℕ) (d : NodeId) (ds : List NodeId) (f : Found) → q f.declaration ≡ true
    → ((g : Found) → last_found p depth (at + 1) ds ≡ Some g → q g.declaration ≡ true → last_found q depth (at + 1) ds ≡ Some g)
    → (rest : Option Found) → last_found p depth (at + 1) ds ≡ rest → or_found rest (one (p d) depth at d) ≡ Some f
    → last_found q depth at (d ∷ ds) ≡ Some f
last_narrow_by p q among depth at d ds f e more (Some g) r h =
    let same : g ≡ f = some_inj g f h in
    ap (λ o. or_found o (one (q d) depth at d)) (more g r (ap (λ x. q x.declaration) same ∙ e)) ∙ h
last_narrow_by p q among depth at d ds f e more None r h =
    ap (λ o. or_found o (one (q d) depth at d)) (none_narrow p q among depth (at + 1) ds r) ∙ here_narrow q depth at d f (p d) h e

last_narrow : (p q : NodeId → Bool) → Among q p → (depth at : ℕ) (ds : List NodeId) (f : Found) → last_found p depth at ds ≡ Some f → q f.declaration ≡ true
    → last_found q depth at ds ≡ Some f
last_narrow p q among depth at [] f h e = absurd (none-some f h)
last_narrow p q among depth at (d ∷ ds) f h e =
    last_narrow_by p q among depth at d ds f e (λ g. last_narrow p q among depth (at + 1) ds g) (last_found p depth (at + 1) ds) refl h

found_narrow_by : (items : Items) (standing : Standing) (p q : NodeId → Bool) → Among q p → (owners depth : ℕ) (scope : Scope) (f : Found) → q f.declaration ≡ true
    → (found_from owners items standing p (depth + 1) (scope_in standing scope.owner.0) ≡ Some f
    → found_from owners items standing q (depth + 1) (scope_in standing scope.owner.0) ≡ Some f)
    → (last : Option Found) → last_found p depth 0 (declared_in items scope) ≡ last
    → or_found last (found_from owners items standing p (depth + 1) (scope_in standing scope.owner.0)) ≡ Some f
    → found_from (suc owners) items standing q depth (Some scope) ≡ Some f
found_narrow_by items standing p q among owners depth scope f e more (Some g) r h =
    let same : g ≡ f = some_inj g f h in
    ap (λ o. or_found o (found_from owners items standing q (depth + 1) (scope_in standing scope.owner.0)))
    (last_narrow p q among depth 0 (declared_in items scope) g r (ap (λ x. q x.declaration) same ∙ e)) ∙ h
found_narrow_by items standing p q among owners depth scope f e more None r h =
    ap (λ o. or_found o (found_from owners items standing q (depth + 1) (scope_in standing scope.owner.0)))
    (none_narrow p q among depth 0 (declared_in items scope) r) ∙ more h

found_narrow : (items : Items) (standing : Standing) (p q : NodeId → Bool) → Among q p → (owners depth : ℕ) (scope : Option Scope) (f : Found)
    → found_from owners items standing p depth scope ≡ Some f → q f.declaration ≡ true → found_from owners items standing q depth scope ≡ Some f
found_narrow items standing p q among zero depth scope f h e = absurd (none-some f h)
found_narrow items standing p q among (suc owners) depth None f h e = absurd (none-some f h)
found_narrow items standing p q among (suc owners) depth (Some scope) f h e =
    found_narrow_by items standing p q among owners depth scope f e
    (λ g. found_narrow items standing p q among owners (depth + 1) (scope_in standing scope.owner.0) f g e)
    (last_found p depth 0 (declared_in items scope)) refl h

-- ---- what is found is asked for

one_asked : (p : NodeId → Bool) (depth at : ℕ) (d : NodeId) (f : Found) (b : Bool) → p d ≡ b → one b depth at d ≡ Some f → p f.declaration ≡ true
one_asked p depth at d f true e h = subst (λ g. p g.declaration ≡ true) (some_inj (record { depth = depth; position = at; declaration = d }) f h) e
one_asked p depth at d f false e h = absurd (none-some f h)

last_asked_by : (p : NodeId → Bool) (depth at : ℕ) (d : NodeId) (f : Found) (rest : Option Found) → (rest ≡ Some f → p f.declaration ≡ true)
    → or_found rest (one (p d) depth at d) ≡ Some f → p f.declaration ≡ true
last_asked_by p depth at d f (Some g) more h = more h
last_asked_by p depth at d f None more h = one_asked p depth at d f (p d) refl h

last_asked : (p : NodeId → Bool) (depth at : ℕ) (ds : List NodeId) (f : Found) → last_found p depth at ds ≡ Some f → p f.declaration ≡ true
last_asked p depth at [] f h = absurd (none-some f h)
last_asked p depth at (d ∷ ds) f h = last_asked_by p depth at d f (last_found p depth (at + 1) ds) (last_asked p depth (at + 1) ds f) h

or_asked : (p : NodeId → Bool) (f : Found) (last around : Option Found) → (last ≡ Some f → p f.declaration ≡ true) → (around ≡ Some f → p f.declaration ≡ true)
    → or_found last around ≡ Some f → p f.declaration ≡ true
or_asked p f (Some g) around a b h = a h
or_asked p f None around a b h = b h

found_asked : (items : Items) (standing : Standing) (p : NodeId → Bool) (owners depth : ℕ) (scope : Option Scope) (f : Found)
    → found_from owners items standing p depth scope ≡ Some f → p f.declaration ≡ true
found_asked items standing p zero depth scope f h = absurd (none-some f h)
found_asked items standing p (suc owners) depth None f h = absurd (none-some f h)
found_asked items standing p (suc owners) depth (Some scope) f h =
    or_asked p f (last_found p depth 0 (declared_in items scope)) (found_from owners items standing p (depth + 1) (scope_in standing scope.owner.0))
    (last_asked p depth 0 (declared_in items scope) f) (found_asked items standing p owners (depth + 1) (scope_in standing scope.owner.0) f) h

-- ---- a use by its declaration's number

abbrev is_number : ℕ → NodeId → Bool
is_number k d = d.0 == k

abbrev by_number : Items → Standing → NodeId → ℕ → Option Found
by_number items standing n k = found_from (length standing) items standing (is_number k) 0 (scope_in standing n.0)

found_by_number : (items : Items) (n : NodeId) (f : Found) (i : Item) → found_for items (standing_of items) i (scope_at items n) ≡ Some f
    → by_number items (standing_of items) n f.declaration.0 ≡ Some f
found_by_number items n f (kept.Name place offset text) h =
    let standing = standing_of items in
    let named = found_asked items standing (has_name items text) (length standing) 0 (scope_at items n) f h in
    found_narrow items standing (has_name items text) (is_number f.declaration.0)
    (λ d e. let same : d.0 ≡ f.declaration.0 = eqb-true d.0 f.declaration.0 e in
    let id : d ≡ f.declaration = ap (λ k. record { 0 = k }) same in
    ap (has_name items text) id ∙ named)
    (length standing) 0 (scope_at items n) f h (eq-eqb f.declaration.0 f.declaration.0 refl)
found_by_number items n f (kept.Numeral place text) h = absurd (none-some f h)
found_by_number items n f (kept.Literal place text) h = absurd (none-some f h)
found_by_number items n f (kept.Expression place e) h = absurd (none-some f h)
found_by_number items n f (kept.Statement place s) h = absurd (none-some f h)
found_by_number items n f (kept.TerraExpression place e) h = absurd (none-some f h)
found_by_number items n f (kept.TerraStatement place s) h = absurd (none-some f h)
found_by_number items n f (kept.Piece p) h = absurd (none-some f h)

found_alike : (a b : Items) → ((n : NodeId) → declarations a n ≡ declarations b n) → (standing : Standing) (asked : NodeId → Bool) (owners depth : ℕ) (scope : Option Scope)
    → found_from owners a standing asked depth scope ≡ found_from owners b standing asked depth scope
found_alike a b e standing asked zero depth scope = refl
found_alike a b e standing asked (suc owners) depth None = refl
found_alike a b e standing asked (suc owners) depth (Some scope) =
    ap (λ l. or_found (last_found asked depth 0 (take scope.count l)) (found_from owners a standing asked (depth + 1) (scope_in standing scope.owner.0))) (e scope.owner)
    ∙ ap (λ o. or_found (last_found asked depth 0 (declared_in b scope)) o) (found_alike a b e standing asked owners (depth + 1) (scope_in standing scope.owner.0))

-- ---- the number in the bound tree

abbrev used : BoundItem → Option ℕ
used (Used place k) = Some k
used _ = None

abbrev number_of : Option Found → Option ℕ
number_of (Some f) = Some f.declaration.0
number_of None = None

used_alone : (place : Place) (text : List ℕ) (b : Bool) (n : ℕ) → used (name_alone place text b n) ≡ None
used_alone place text true n = refl
used_alone place text false n = refl

used_name : (items : Items) (place : Place) (text : List ℕ) (n : ℕ) (found : Option Found) → used (bound_name items place text n found) ≡ number_of found
used_name items place text n (Some f) = refl
used_name items place text n None = used_alone place text (is_declared_below (length items) items n) n

used_item : (items : Items) (n : NodeId) (i : Item) → item_at items n ≡ i → used (bound_item items n.0 i) ≡ number_of (binder items n)
used_item items n (kept.Name place offset text) e = used_name items place text n.0 (binder items n)
used_item items n (kept.Numeral place text) e = sym (ap (λ i. number_of (found_for items (standing_of items) i (scope_at items n))) e)
used_item items n (kept.Literal place text) e = sym (ap (λ i. number_of (found_for items (standing_of items) i (scope_at items n))) e)
used_item items n (kept.Expression place x) e = sym (ap (λ i. number_of (found_for items (standing_of items) i (scope_at items n))) e)
used_item items n (kept.Statement place x) e = sym (ap (λ i. number_of (found_for items (standing_of items) i (scope_at items n))) e)
used_item items n (kept.TerraExpression place x) e = sym (ap (λ i. number_of (found_for items (standing_of items) i (scope_at items n))) e)
used_item items n (kept.TerraStatement place x) e = sym (ap (λ i. number_of (found_for items (standing_of items) i (scope_at items n))) e)
used_item items n (kept.Piece x) e = sym (ap (λ i. number_of (found_for items (standing_of items) i (scope_at items n))) e)

read_bound : (items : Items) (k : ℕ) (more : List Item) (i : ℕ) → get_or (bound_from items k more) i (Other absent_item) ≡ bound_item items (k + i) (get_or more i absent_item)
read_bound items k [] i = refl
read_bound items k (x ∷ more) zero = ap (λ m. bound_item items m x) (omega arith)
read_bound items k (x ∷ more) (suc i) = read_bound items (k + 1) more i ∙ ap (λ m. bound_item items m (get_or more i absent_item)) (omega arith)

bound_at : (items : Items) (n : NodeId) → get_or (bound_from items 0 items) n.0 (Other absent_item) ≡ bound_item items n.0 (item_at items n)
bound_at items n = read_bound items 0 items n.0 ∙ ap (λ m. bound_item items m (item_at items n)) (omega arith)

numbers_alike : (a b : Items) (finish end : Place) → bound a finish ≡ bound b end → (n : NodeId) → number_of (binder a n) ≡ number_of (binder b n)
numbers_alike a b finish end e n =
    sym (used_item a n (item_at a n) refl)
    ∙ ap used (sym (bound_at a n) ∙ ap (λ x. get_or x.items n.0 (Other absent_item)) e ∙ bound_at b n)
    ∙ used_item b n (item_at b n) refl

abbrev number_or : ℕ → Option ℕ → ℕ
number_or k (Some n) = n
number_or k None = k

decided : (a b : Items) (n : NodeId) → all_bare a ≡ all_bare b → (x y : Option Found) → binder a n ≡ x → binder b n ≡ y → number_of x ≡ number_of y → x ≡ y
decided a b n e None None ha hb h = refl
decided a b n e (Some f) None ha hb h = absurd (none-some f.declaration.0 (sym h))
decided a b n e None (Some g) ha hb h = absurd (none-some g.declaration.0 h)
decided a b n e (Some f) (Some g) ha hb h =
    let same : f.declaration.0 ≡ g.declaration.0 = ap (number_or 0) h in
    sym (found_by_number a n f (item_at a n) ha)
    ∙ found_alike a b (declarations_alike a b e) (standing_of a) (is_number f.declaration.0) (length (standing_of a)) 0 (scope_in (standing_of a) n.0)
    ∙ ap (λ s. by_number b s n f.declaration.0) (standing_alike a b e)
    ∙ ap (by_number b (standing_of b) n) same
    ∙ found_by_number b n g (item_at b n) hb

pub bound_determines : (items other : Items) → BoundDetermines items other
bound_determines items other finish end e n =
    decided items other n (bare_alike items other finish end e) (binder items n) (binder other n) refl refl (numbers_alike items other finish end e n)
