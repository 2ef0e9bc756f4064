-- Sound worlds that follow sound worlds, and what holds in them still.
use Rattle.tl_base.specs.declared.ids.TermId.{TermId}
use Rattle.tl_base.specs.declared.ids.TypeId.{TypeId}
use Rattle.std.proofs.Common.{List, Option}
use Rattle.exotype.specs.World.{StageState}
use Rattle.check_sound.specs.Sound.{IsSound, IsThere, IsThereIfAny, AreStatements}
use Rattle.check_sound.proofs.Leading.{leads-itself, leads-twice}
use Rattle.check_sound.proofs.Worlds.{fair-of, there-grows, any-grows, statements-grow}
pub use Rattle.check_sound.proofs.Becoming.{Next}

pub next-itself : (w : StageState) → IsSound w → Next w w
next-itself w sound = record { sound = sound; leads = leads-itself w }

pub next-twice : (w v x : StageState) → Next w v → Next v x → Next w x
next-twice w v x a b = record { sound = b.sound; leads = leads-twice w v x a.leads b.leads }

module _ (w v : StageState) (sound : IsSound w) (f : Next w v) where
  pub there-still : (t : TypeId) → IsThere w t → IsThere v t
  there-still t h = there-grows w v (fair-of w sound) (fair-of v f.sound) f.leads.grows t h

  pub any-still : (o : Option TypeId) → IsThereIfAny w o → IsThereIfAny v o
  any-still o h = any-grows w v (fair-of w sound) (fair-of v f.sound) f.leads.grows o h

  pub statements-still : (ts : List TermId) → AreStatements w ts → AreStatements v ts
  statements-still ts h = statements-grow w v (fair-of w sound) (fair-of v f.sound) f.leads.grows ts h
