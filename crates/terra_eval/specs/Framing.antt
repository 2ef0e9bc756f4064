-- The declarations in scope, and a frame that is laid out, as the meaning has them.
use Rattle.std.specs.Prelude.{ℕ, List, ◌++◌, map, length}
use Rattle.terra_types.specs.declared.types.TypeForm.{TypeForm}
use Rattle.terra_term.specs.Events as events
use Rattle.terra_term.specs.Events.{declared_in}
use Rattle.terra_meaning.specs.Frames as frames
use Rattle.terra_meaning.specs.Frames.{framed, taken}
use Rattle.terra_eval.specs.declared.frame.Home.{Home}
use Rattle.terra_eval.specs.declared.laying.InScope.{InScope}
use Rattle.terra_eval.specs.declared.laying.Scopes.{Scopes}
use Rattle.terra_eval.specs.Views.{home_of}

abbrev pub in_scope_of : InScope → frames.InScope
in_scope_of d = record { symbol = d.symbol; number = d.number }

abbrev pub scope_of : List InScope → List frames.InScope
scope_of ds = map in_scope_of ds

-- the numbers whose address was taken so far, and those that events take
abbrev pub taken_with : Scopes → List events.Event → List ℕ
taken_with s es = s.taken.items ++ taken es (scope_of s.here.items) (map (λ v. scope_of v.items) s.around.items) s.next

-- a frame behind homes
abbrev pub behind_homes : List frames.Home → frames.Frame → frames.Frame
behind_homes homes f = record f { homes = homes ++ f.homes }

-- the homes so far, and the rest of the frame
abbrev pub laid_out : List TypeForm → (placed : List ℕ) → List Home → (offset : ℕ) → List events.Event → frames.Frame
laid_out types placed homes offset es =
    behind_homes (map home_of homes) (framed types placed (length homes) offset (declared_in es))
