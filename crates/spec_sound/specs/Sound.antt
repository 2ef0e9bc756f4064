-- That specialising keeps worlds sound: the terms that it makes are such that typing can go on.
use Rattle.std.specs.Prelude.{◌≡◌, ℕ, true, Some, slice_get}
use Rattle.tl_base.specs.declared.place.Place.{Place}
use Rattle.tl_tree.specs.declared.node.Statement.TheVariants as statements
use Rattle.tl_tree.specs.Item.{Item}
use Rattle.tl_tree.specs.Item as kept
use Rattle.tl_tree.specs.Code.{Items, place_of}
use Rattle.terra_term.specs.WellTyped.{is_placed}
use Rattle.check_sound.specs.Layers.{LayerKeepsSound}
use Rattle.spec_model.specs.declared.job.SpecJob.{SpecJob}
use Rattle.spec_model.specs.Meaning.{spec}

-- the place of the word `terra` behind `local`; any other node has but one place
abbrev pub word_of : Item → Place
word_of (kept.Statement place (statements.LocalTerra word name body)) = word
word_of (kept.Statement place (statements.LocalDeclareTerra word name type)) = word
word_of item = place_of item

-- the nodes of a tree have places of a text
abbrev pub ArePlaced : Items → Type 0
ArePlaced items =
    (i : ℕ) (x : Item) → slice_get items i ≡ Some x → (is_placed (place_of x) ≡ true) × (is_placed (word_of x) ≡ true)

-- The law: where Terra code of such a tree is specialised from a sound world, and each question is answered in a sound world to which
-- the world of the question led, it asks in sound worlds, and ends in one to which the first world led.
abbrev pub SpecialisingKeepsSound : Type 0
SpecialisingKeepsSound = (items : Items) → ArePlaced items → (task : SpecJob) → LayerKeepsSound (spec items task)
