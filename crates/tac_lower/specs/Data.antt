-- What the code's values stand for. A view of the code: nothing is promised here.
use Rattle.std.specs.Prelude.{ℕ, List, Option, Some, None, slice_get, slice_set}
use Rattle.tac_lower.specs.Items as items
use Rattle.tac_lower.specs.Items.{does, ends, skips, tests, repeats, repeats_unless, leaves, gives, fails}
use Rattle.tac_lower.specs.Pieces as pieces
use Rattle.tac_lower.specs.Pieces.{a_word, an_area, an_offset, in_temp, at_offset}
use Rattle.tac_lower.specs.Lowering as lowering
use Rattle.tac_lower.specs.Lowering.{to_temp, to_place}
use Rattle.terra_meaning.specs.Meaning as meanings
use Rattle.tac_lower.specs.declared.item.Ending.{Ending}
use Rattle.tac_lower.specs.declared.item.Ending.TheVariants as endings
use Rattle.tac_lower.specs.declared.item.Item.{Item}
use Rattle.tac_lower.specs.declared.item.Item.TheVariants as kinds
use Rattle.tac_lower.specs.declared.value.Wanted.{Wanted}
use Rattle.tac_lower.specs.declared.value.Wanted.TheVariants as wants
use Rattle.tac_lower.specs.declared.value.Value.{Value}
use Rattle.tac_lower.specs.declared.value.Value.TheVariants as values
use Rattle.tac_lower.specs.declared.value.Holder.{Holder}
use Rattle.tac_lower.specs.declared.value.Holder.TheVariants as holders
use Rattle.tac_lower.specs.declared.value.Bound.{Bound}
use Rattle.tac_lower.specs.declared.value.Target.{Target}
use Rattle.tac_lower.specs.declared.value.Target.TheVariants as targets
use Rattle.tac_lower.specs.declared.counting.Counting.{Counting}

abbrev pub ending_of : Ending → items.Ending
ending_of (endings.Skips k) = skips k
ending_of (endings.Tests a k) = tests a k
ending_of (endings.Repeats k) = repeats k
ending_of (endings.RepeatsUnless a k) = repeats_unless a k
ending_of endings.Leaves = leaves
ending_of (endings.Gives v) = gives v
ending_of (endings.Fails kind at) = fails kind at

abbrev pub item_of : Item → items.Item
item_of (kinds.Does i) = does i
item_of (kinds.Ends e) = ends (ending_of e)

-- a forward ending, past so many blocks
abbrev pub reaching : items.Ending → (blocks : ℕ) → items.Ending
reaching (skips k) blocks = skips blocks
reaching (tests a k) blocks = tests a blocks
reaching e blocks = e

-- the ending that an item is
abbrev pub ending_in : Option items.Item → Option items.Ending
ending_in (Some (ends e)) = Some e
ending_in _ = None

-- the forward ending at a position leads past so many blocks
abbrev pub reached_by : List items.Item → (position blocks : ℕ) → Option items.Ending → List items.Item
reached_by code position blocks (Some e) = slice_set code position (ends (reaching e blocks))
reached_by code position blocks None = code

abbrev pub reached : List items.Item → (position blocks : ℕ) → List items.Item
reached code position blocks = reached_by code position blocks (ending_in (slice_get code position))

abbrev pub want_of : Wanted → meanings.Wanted
want_of wants.Value = meanings.the_value
want_of wants.Address = meanings.the_address

abbrev pub result_of : Value → pieces.Result
result_of (values.Word a) = a_word a
result_of (values.Area n) = an_area n
result_of (values.Offset o) = an_offset o

abbrev pub held_of : Holder → pieces.Holder
held_of (holders.Temp t) = in_temp t
held_of (holders.Offset o) = at_offset o

abbrev pub bound_of : Bound → pieces.Bound
bound_of b = record { symbol = b.symbol; holder = held_of b.holder }

abbrev pub target_of : Target → lowering.Target
target_of (targets.Temp t) = to_temp t
target_of (targets.Place v) = to_place (result_of v)

abbrev pub counting_of : Counting → lowering.Counting
counting_of k = record { number = k.number; value = k.value; limit = k.limit; step = k.step }
