-- Scopes that grow, variables in them, and statements in order.
use Rattle.std.proofs.Common.{◌≡◌, ℕ, zero, suc, ◌≤◌, Bool, true, false, List, [], ◌∷◌, ◌++◌, length, take, drop, Option, Some, None, refl}
use Rattle.std.proofs.Common.{ap, ◌∙◌, subst, arith, slice_get}
use Rattle.std.specs.Prelude.{◌==◌, if◌then◌else◌}
use Rattle.std.proofs.lemmas.Bool.{and_from, and_parts}
use Rattle.tl_base.specs.declared.ids.SymId.{SymId}
use Rattle.tl_base.specs.declared.ids.TermId.{TermId}
use Rattle.tl_base.specs.declared.ids.TypeId.{TypeId}
use Rattle.terra_term.specs.declared.lists.TypedName.{TypedName}
use Rattle.terra_term.specs.Planted.{typed_doing_in, typed_block_at}
use Rattle.terra_term.specs.Stores.{Contents}
use Rattle.terra_term.specs.TypedTerms as typed
use Rattle.terra_term.specs.WellTyped.{Within, Scope, same, in_scope, with_names, after_one, after_all, one_typed, all_typed}
use Rattle.exotype.specs.World.{StageState}
use Rattle.check_model.specs.Typing.{found_in}
use Rattle.check_sound.specs.Sound.{IsThere}
use Rattle.check_sound.proofs.Tests.{same-refl, none-some, same-some}
use Rattle.check_sound.proofs.Running.{AllThere}

-- ---- names

pub names-append : (xs ys s : List TypedName) → with_names (xs ++ ys) s ≡ with_names ys (with_names xs s)
names-append [] ys s = refl
names-append (x ∷ xs) ys s = names-append xs ys (x ∷ s)

pub drop-append : {A : Type 0} (n : ℕ) (xs ys : List A) → n ≤ length xs → drop n (xs ++ ys) ≡ drop n xs ++ ys
drop-append zero [] [] h = refl
drop-append zero [] (y ∷ ys) h = refl
drop-append zero (x ∷ xs) ys h = refl
drop-append (suc n) [] ys h = absurd (omega (arith, h))
drop-append (suc n) (x ∷ xs) ys h = drop-append n xs ys (omega (arith, h))

pub take-front : {A : Type 0} (xs ys : List A) → take (length xs) (xs ++ ys) ≡ xs
take-front [] [] = refl
take-front [] (y ∷ ys) = refl
take-front (x ∷ xs) ys = ap (λ l. x ∷ l) (take-front xs ys)

pub there-append : (w : StageState) (xs ys : List TypedName) → AllThere w xs → AllThere w ys → AllThere w (xs ++ ys)
there-append w [] ys h k = k
there-append w (x ∷ xs) ys h k = (h.0, there-append w xs ys h.1 k)

-- ---- the type of a variable

seen-in : (x : SymId) (t : TypeId) (v : TypedName) (s : Scope) (found : Option TypeId) →
    (found ≡ Some t → in_scope x t s ≡ true) →
    (if x.0 == v.symbol.0 then Some v.of else found) ≡ Some t → in_scope x t (v ∷ s) ≡ true
seen-in x t v s found h e = by (x.0 == v.symbol.0) e
  where
    by : (c : Bool) → (if c then Some v.of else found) ≡ Some t → (if c then same t v.of else in_scope x t s) ≡ true
    by true e = ap (same t) (same-some v.of t e) ∙ same-refl t
    by false e = h e

found-scope : (x : SymId) (t : TypeId) (vs : List TypedName) (s : Scope) (found : Option TypeId) →
    (found ≡ Some t → in_scope x t s ≡ true) →
    found_in x vs found ≡ Some t → in_scope x t (with_names vs s) ≡ true
found-scope x t [] s found h e = h e
found-scope x t (v ∷ vs) s found h e =
    found-scope x t vs (v ∷ s) (if x.0 == v.symbol.0 then Some v.of else found) (seen-in x t v s found h) e

pub variable-in : (x : SymId) (t : TypeId) (vs : List TypedName) → found_in x vs None ≡ Some t →
    in_scope x t (with_names vs []) ≡ true
variable-in x t vs e = found-scope x t vs [] None (λ z. absurd (none-some t z)) e

found-there : (w : StageState) (x : SymId) (t : TypeId) (vs : List TypedName) (found : Option TypeId) →
    (found ≡ Some t → IsThere w t) → AllThere w vs →
    found_in x vs found ≡ Some t → IsThere w t
found-there w x t [] found h all e = h e
found-there w x t (v ∷ vs) found h all e = found-there w x t vs (if x.0 == v.symbol.0 then Some v.of else found)
    (by (x.0 == v.symbol.0)) all.1 e
  where
    by : (c : Bool) → (if c then Some v.of else found) ≡ Some t → IsThere w t
    by true e = subst (IsThere w) (same-some v.of t e) all.0
    by false e = h e

pub variable-there : (w : StageState) (x : SymId) (t : TypeId) (vs : List TypedName) → AllThere w vs →
    found_in x vs None ≡ Some t → IsThere w t
variable-there w x t vs all e = found-there w x t vs None (λ z. absurd (none-some t z)) all e

-- ---- statements in order

pub after-snoc : (items : List typed.Item) (ids : List TermId) (id : TermId) (s : Scope) →
    after_all (typed_block_at items (ids ++ id ∷ [])) s ≡ after_one (typed_doing_in (slice_get items id.0))
    (after_all (typed_block_at items ids) s)
after-snoc items [] id s = refl
after-snoc items (x ∷ ids) id s = after-snoc items ids id (after_one (typed_doing_in (slice_get items x.0)) s)

pub typed-snoc : (c : Contents) (u : Within) (items : List typed.Item) (ids : List TermId) (id : TermId) (s : Scope) →
    all_typed c u s (typed_block_at items ids) ≡ true →
    one_typed c u (after_all (typed_block_at items ids) s) (typed_doing_in (slice_get items id.0)) ≡ true →
    all_typed c u s (typed_block_at items (ids ++ id ∷ [])) ≡ true
typed-snoc c u items [] id s h k = and_from _ _ k refl
typed-snoc c u items (x ∷ ids) id s h k =
    let p = and_parts _ _ h in
    and_from _ _ p.0 (typed-snoc c u items ids id (after_one (typed_doing_in (slice_get items x.0)) s) p.1 k)
