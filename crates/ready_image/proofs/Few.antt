-- What exports reach stands among what was counted, so it has no more typed nodes.
use Rattle.std.proofs.Common.{◌≡◌, ℕ, zero, suc, ◌+◌, ◌≤◌, List, [], ◌∷◌, Option, Some, None, refl, sym, ap, ◌∙◌, arith, slice_get}
use Rattle.tl_base.specs.declared.ids.FnId.{FnId}
use Rattle.terra_term.specs.declared.store.Export.{Export}
use Rattle.terra_term.specs.Stores.{Callable, callable_of, contents_of}
use Rattle.terra_meaning.specs.Laws.{Reaches, itself, value, mentioned}
use Rattle.exotype.specs.World.{StageState}
use Rattle.check_model.specs.Typing.{function_at}
use Rattle.check_sound.specs.Exports as counting
use Rattle.check_sound.specs.Exports.{AreCounted, IsClosed, Stands, body_nodes, numbered}
use Rattle.check_sound.proofs.Restricting.{mentions-called}
use Rattle.check_sound.proofs.Tests.{none-some, same-some}
use Rattle.back_end.specs.Ready.{AreFew, nodes_in, nodes_of}

-- ---- lists without a place

without : List ℕ → ℕ → List ℕ
without [] k = []
without (f ∷ fs) zero = fs
without (f ∷ fs) (suc k) = f ∷ without fs k

stands-without : (fs : List ℕ) (k j f g : ℕ) → slice_get fs k ≡ Some f → slice_get fs j ≡ Some g → (f ≡ g → ⊥) →
    Stands (without fs k) g
unfolding without
stands-without [] k j f g at other apart = absurd (none-some f at)
stands-without (x ∷ fs) zero zero f g at other apart = absurd (apart (same-some f g (sym at ∙ other)))
stands-without (x ∷ fs) zero (suc j) f g at other apart = (j, other)
stands-without (x ∷ fs) (suc k) zero f g at other apart = (zero, other)
stands-without (x ∷ fs) (suc k) (suc j) f g at other apart =
    let r = stands-without fs k j f g at other apart in (suc r.0, r.1)

same-nodes : (o : Option Callable) → nodes_of o ≡ body_nodes o
same-nodes None = refl
same-nodes (Some k) = refl

module _ (w : StageState) where
  abbrev weight : ℕ → ℕ
  weight f = body_nodes (callable_of (contents_of w.store) (numbered f))

  parted : (fs : List ℕ) (k f : ℕ) → slice_get fs k ≡ Some f →
      counting.nodes_in w fs ≡ weight f + counting.nodes_in w (without fs k)
  unfolding without
  parted [] k f at = absurd (none-some f at)
  parted (x ∷ fs) zero f at = ap (λ y. weight y + counting.nodes_in w fs) (same-some x f at)
  parted (x ∷ fs) (suc k) f at = omega (arith, parted fs k f at)

  -- functions that stand in a list, each once, have no more nodes than those of the list
  at-most : (gs : List FnId) (fs : List ℕ) → ((n : ℕ) (g : FnId) → slice_get gs n ≡ Some g → Stands fs g.0) →
      ((n m : ℕ) (g : FnId) → slice_get gs n ≡ Some g → slice_get gs m ≡ Some g → n ≡ m) →
      nodes_in (contents_of w.store) gs ≤ counting.nodes_in w fs
  at-most [] fs stand once = omega arith
  at-most (g ∷ gs) fs stand once =
      let here = stand zero g refl in
      let rest : nodes_in (contents_of w.store) gs ≤ counting.nodes_in w (without fs here.0) =
      at-most gs (without fs here.0)
      (λ n h at.
      let there = stand (suc n) h at in
      stands-without fs here.0 there.0 g.0 h.0 here.1 there.1
      (λ e. apart n (once zero (suc n) h (ap (λ (i : ℕ). Some (numbered i)) e) at)))
      (λ n m h at also. down n m (once (suc n) (suc m) h at also)) in
      let own : nodes_of (callable_of (contents_of w.store) g) ≡ weight g.0 = same-nodes (callable_of (contents_of w.store) g) in
      let all : counting.nodes_in w fs ≡ weight g.0 + counting.nodes_in w (without fs here.0) = parted fs here.0 g.0 here.1 in
      omega (arith, rest, own, all)
    where
      apart : (n : ℕ) → zero ≡ suc n → ⊥
      apart n e = omega (arith, e)

      down : (n m : ℕ) → suc n ≡ suc m → n ≡ m
      down n m e = omega (arith, e)

  -- ---- what is reached

  module _ (exports : List Export) (fs : List ℕ) (nodes : ℕ) (all : AreCounted w exports fs nodes) where
    closed-at : (f : ℕ) → Stands fs f → IsClosed w fs f
    closed-at f s = all.closed s.0 f s.1

    reached-stands : (f g : FnId) → Stands fs f.0 → Reaches (contents_of w.store) [] f g → Stands fs g.0
    reached-stands f g start itself = start
    reached-stands f g start (value i h at) = absurd (none-some g at)
    reached-stands f g start (mentioned h g2 i at k r called m) =
        (closed-at h.0 (reached-stands f h start r)).mentions i (at, g)
        (ap (λ l. slice_get l i) (mentions-called w [] h k called (function_at w h) refl) ∙ m)

    pub are-few : AreFew (contents_of w.store) exports
    are-few gs reached =
        let most = at-most gs fs
        (λ n g at.
        let by = reached.only n g at in
        reached-stands by.1.function g (all.exported by.0 by.1 by.2) by.3) reached.once in
        omega (arith, most, all.sum, all.most)
