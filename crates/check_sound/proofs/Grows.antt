-- Worlds that grow, and lists that are kept.
use Rattle.std.proofs.Common.{◌≡◌, ℕ, zero, suc, ◌<◌, List, [], ◌∷◌, ◌++◌, length, Option, Some, None, refl, sym, ap, ◌∙◌, subst, arith}
use Rattle.std.proofs.Common.{slice_get}
use Rattle.std.proofs.lemmas.Option.{slice_get_within}
use Rattle.tl_base.specs.declared.ids.TermId.{TermId}
use Rattle.terra_types.specs.declared.types.TypeForm.{TypeForm}
use Rattle.terra_types.specs.declared.types.TypeForm.TheVariants as forms
use Rattle.terra_types.specs.Keeping.{KeepsForm, KeepsTypes}
use Rattle.terra_types.proofs.Growing.{grown-more, grown-keeps}
use Rattle.terra_types.proofs.Staying.{keeps_itself}
use Rattle.terra_term.specs.declared.typed.Typed.{Typed}
use Rattle.terra_term.specs.Held.{state_of}
use Rattle.terra_term.specs.Keeping.{AreKept}
use Rattle.terra_term.specs.Planted.{typed_planted, typed_trees, typed_at, typed_in, typed_list_at, typed_block_at, typed_doing_in}
use Rattle.terra_term.specs.TypedTerms as typed
use Rattle.terra_term.proofs.Staying.{stays-same}
use Rattle.exotype.specs.World.{StageState}
pub use Rattle.check_sound.specs.Growing.{Grows}
use Rattle.check_sound.proofs.Tests.{none-some, same-some, got}
use Rattle.check_sound.proofs.Foreseen.{count-trees}

-- ---- worlds that grow

pub keeps-types-of : (w : StageState) → KeepsTypes w.store.types w.store.types
keeps-types-of w i form at = (form, (at, keeps_itself form))

form-twice : (f g h : TypeForm) → KeepsForm f g → KeepsForm g h → KeepsForm f h
form-twice (forms.Integer i) g h a b = subst (λ x. KeepsForm x h) a b
form-twice forms.Bool g h a b = subst (λ x. KeepsForm x h) a b
form-twice forms.Unit g h a b = subst (λ x. KeepsForm x h) a b
form-twice (forms.Pointer t) g h a b = subst (λ x. KeepsForm x h) a b
form-twice (forms.Array t n) g h a b = subst (λ x. KeepsForm x h) a b
form-twice (forms.Function ps r) g h a b = subst (λ x. KeepsForm x h) a b
form-twice (forms.Struct n p (Some l)) g h a b = subst (λ x. KeepsForm x h) a b
form-twice (forms.Struct n p None) g h a b = behind a.0 (subst (λ x. KeepsForm x h) a.1 b)
  where
    behind : (l : Option _) → KeepsForm (forms.Struct n p l) h → (m : Option _) × (h ≡ forms.Struct n p m)
    behind None b = b
    behind (Some l) b = (Some l, b)

types-twice : (a b c : List TypeForm) → KeepsTypes a b → KeepsTypes b c → KeepsTypes a c
types-twice a b c p q i form at =
    let x = p i form at in
    let y = q i x.0 x.1.0 in
    (y.0, (y.1.0, form-twice form x.0 y.0 x.1.1 y.1.1))

pub grows-itself : (w : StageState) → Grows w w
grows-itself w = record {
  terms = λ i x h. h;
  typed_nodes = λ i x h. h;
  types = λ i form at. (form, (at, keeps_itself form));
  functions = λ f. stays-same (state_of w.store f);
  parameters = λ f ps h. h;
  results = λ f t h. h;
}

pub grows-twice : (w v x : StageState) → Grows w v → Grows v x → Grows w x
grows-twice w v x a b = record {
  terms = λ i y h. b.terms i y (a.terms i y h);
  typed_nodes = λ i y h. b.typed_nodes i y (a.typed_nodes i y h);
  types = types-twice w.store.types v.store.types x.store.types a.types b.types;
  functions = λ f. record {
    term = λ t h. (b.functions f).term t ((a.functions f).term t h);
    typed = λ t h. (b.functions f).typed t ((a.functions f).typed t h);
    refusal = λ t h. (b.functions f).refusal t ((a.functions f).refusal t h);
  };
  parameters = λ f ps h. b.parameters f ps (a.parameters f ps h);
  results = λ f t h. b.results f t (a.results f t h);
}

-- ---- lists that are kept

pub get-same : {A : Type 0} (xs ys : List A) → AreKept xs ys → (i : ℕ) → i < length xs → slice_get ys i ≡ slice_get xs i
get-same xs ys k i h = let g = got xs i h in k i g.0 g.1 ∙ sym g.1

pub longer : {A : Type 0} (xs ys : List A) → AreKept xs ys → (i : ℕ) → i < length xs → i < length ys
longer xs ys k i h = let g = got xs i h in slice_get_within ys i g.0 (k i g.0 g.1)

front-of : {A : Type 0} (xs ys : List A) → AreKept xs ys → (zs : List A) × (ys ≡ xs ++ zs)
front-of [] ys k = (ys, refl)
front-of (x ∷ xs) [] k = absurd (none-some x (k zero x refl))
front-of (x ∷ xs) (y ∷ ys) k =
    let r = front-of xs ys (λ i z h. k (suc i) z h) in
    (r.0, ap (λ l. y ∷ l) r.1 ∙ ap (λ z. z ∷ (xs ++ r.0)) (same-some y x (k zero x refl)))

pub trees-kept : (ns ms : List Typed) → AreKept ns ms → AreKept (typed_trees ns) (typed_trees ms)
trees-kept ns ms k i x h =
    let r = front-of ns ms k in
    subst (λ l. slice_get (typed_trees l) i ≡ Some x) (sym r.1)
    (ap (λ l. slice_get l i) (grown-more typed_planted [] ns r.0) ∙
    (grown-keeps typed_planted (typed_trees ns) r.0 i (slice_get_within (typed_trees ns) i x h) ∙ h))

pub item-same : (ns ms : List Typed) → AreKept ns ms → (t : TermId) → t.0 < length ns →
    slice_get (typed_trees ms) t.0 ≡ slice_get (typed_trees ns) t.0
item-same ns ms k t h =
    get-same (typed_trees ns) (typed_trees ms) (trees-kept ns ms k) t.0 (omega (arith, h, count-trees ns))

pub tree-same : (ns ms : List Typed) → AreKept ns ms → (t : TermId) → t.0 < length ns →
    typed_at (typed_trees ms) t ≡ typed_at (typed_trees ns) t
tree-same ns ms k t h = ap typed_in (item-same ns ms k t h)

-- nodes that are there
abbrev pub AllBelow : ℕ → List TermId → Type 0
AllBelow n [] = Unit {0}
AllBelow n (t ∷ ts) = (t.0 < n) × AllBelow n ts

pub list-same : (ns ms : List Typed) → AreKept ns ms → (ts : List TermId) → AllBelow (length ns) ts →
    typed_list_at (typed_trees ms) ts ≡ typed_list_at (typed_trees ns) ts
list-same ns ms k [] h = refl
list-same ns ms k (t ∷ ts) h =
    ap (λ x. typed.then_one x (typed_list_at (typed_trees ms) ts)) (tree-same ns ms k t h.0) ∙
    ap (λ l. typed.then_one (typed_at (typed_trees ns) t) l) (list-same ns ms k ts h.1)

pub block-same : (ns ms : List Typed) → AreKept ns ms → (ts : List TermId) → AllBelow (length ns) ts →
    typed_block_at (typed_trees ms) ts ≡ typed_block_at (typed_trees ns) ts
block-same ns ms k [] h = refl
block-same ns ms k (t ∷ ts) h =
    ap (λ o. typed.and_then (typed_doing_in o) (typed_block_at (typed_trees ms) ts)) (item-same ns ms k t h.0) ∙
    ap (λ l. typed.and_then (typed_doing_in (slice_get (typed_trees ns) t.0)) l) (block-same ns ms k ts h.1)

pub all-below : (ns ms : List Typed) → AreKept ns ms → (ts : List TermId) → AllBelow (length ns) ts →
    AllBelow (length ms) ts
all-below ns ms k [] h = tt
all-below ns ms k (t ∷ ts) h = (longer ns ms k t.0 h.0, all-below ns ms k ts h.1)
