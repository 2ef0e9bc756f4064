-- Which functions events mention.
use Rattle.std.proofs.Common.{◌≡◌, List, [], ◌∷◌, ◌++◌}
use Rattle.std.specs.Prelude.{◌⊎◌}
use mathlib.Core.Logic.{inl, inr}
use Rattle.tl_base.specs.declared.ids.FnId.{FnId}
use Rattle.terra_term.specs.Events.{Event, Opens, Closes, Declares, Takes, Uses, Mentions}

-- ---- which functions are mentioned

abbrev pub Names : FnId → List Event → Type 0
Names f [] = ⊥
Names f (Mentions at g ∷ es) = (f ≡ g) ⊎ Names f es
Names f (_ ∷ es) = Names f es

pub names-left : (f : FnId) (a b : List Event) → Names f a → Names f (a ++ b)
names-left f [] b h = absurd h
names-left f (Opens ∷ a) b h = names-left f a b h
names-left f (Closes ∷ a) b h = names-left f a b h
names-left f (Declares x t ∷ a) b h = names-left f a b h
names-left f (Takes x ∷ a) b h = names-left f a b h
names-left f (Uses at x t ∷ a) b h = names-left f a b h
names-left f (Mentions at g ∷ a) b (inl e) = inl e
names-left f (Mentions at g ∷ a) b (inr h) = inr (names-left f a b h)

pub names-right : (f : FnId) (a b : List Event) → Names f b → Names f (a ++ b)
names-right f [] b h = h
names-right f (Opens ∷ a) b h = names-right f a b h
names-right f (Closes ∷ a) b h = names-right f a b h
names-right f (Declares x t ∷ a) b h = names-right f a b h
names-right f (Takes x ∷ a) b h = names-right f a b h
names-right f (Uses at x t ∷ a) b h = names-right f a b h
names-right f (Mentions at g ∷ a) b h = inr (names-right f a b h)
