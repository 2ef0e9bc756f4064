-- Where the variables of a function lie in its frame.
use Rattle.std.specs.Prelude.{◌≡◌, ℕ, ◌+◌, ◌*◌, ◌<◌, ◌≤◌, List, Some, slice_get, unwrap_or}
use Rattle.tl_base.specs.declared.ids.TypeId.{TypeId}
use Rattle.terra_types.specs.declared.types.TypeForm.{TypeForm}
use Rattle.terra_types.specs.Opening.{AreTypes}
use Rattle.terra_types.specs.Sizes.{align_of}
use Rattle.terra_term.specs.Events.{body_events, declared_in}
use Rattle.terra_term.specs.TypedTerms.{Body}
use Rattle.terra_meaning.specs.Frames.{Frame, in_frame, frame_of}
use Rattle.terra_meaning.specs.Values.{bytes_at}

-- The variable of the i-th declaration has this type and lies at this offset of the frame.
pub record LiesAt (types : List TypeId) (frame : Frame) (i : ℕ) (of : TypeId) (at : ℕ) : Type 0 where
  pub declared : slice_get types i ≡ Some of
  pub home : slice_get frame.homes i ≡ Some (in_frame at)

-- Variables of these types lie within the frame, each at a multiple of its type's alignment, and none before the end of one that is declared
-- before it; so no two share a byte. The frame's size is a multiple of 16.
pub record AreLaidOut (forms : List TypeForm) (types : List TypeId) (frame : Frame) : Type 0 where
  pub within : (i at : ℕ) (of : TypeId) → LiesAt types frame i of at → at + bytes_at forms of ≤ frame.size
  pub aligned : (i at : ℕ) (of : TypeId) → LiesAt types frame i of at → (k : ℕ) × (at ≡ k * unwrap_or (align_of forms of) 1)
  pub behind : (i j at next : ℕ) (of other : TypeId) → i < j → LiesAt types frame i of at → LiesAt types frame j other next →
      at + bytes_at forms of ≤ next
  pub size : (k : ℕ) × (frame.size ≡ k * 16)

-- The law: so they lie in the frame of each body.
abbrev pub FramesAreLaidOut : Type 0
FramesAreLaidOut =
    (forms : List TypeForm) → AreTypes forms → (body : Body) → AreLaidOut forms (declared_in (body_events body)) (frame_of forms body)
