-- The numbers of a total, one after another.
use Rattle.std.proofs.Common.{◌≡◌, ℕ, ◌+◌, ◌<◌, ◌≤◌, List, length, drop, min, ap}
use Rattle.std.proofs.Math.ListN.{get_or}
use Rattle.std.proofs.lemmas.List.{at_drop_more, drop_all}
use Rattle.tl_base.specs.Plan.{AskFor, Give, Read, Write}
use Rattle.layer_examples.specs.declared.total.Table.{Table}
use Rattle.layer_examples.specs.declared.end.Flow.TheVariants.{Value}
use Rattle.layer_examples.specs.Ends.{added, reply_of}
use Rattle.layer_examples.specs.Total.{total_of, on_value, counted}

-- the next number is asked for
pub total_next : (table : Table) (xs : List ℕ) (i sum : ℕ) → i < length xs → total_of table (drop i xs) sum ≡ AskFor (min (get_or xs i 0) table.largest) (λ a. on_value (reply_of a) (λ y. total_of table (drop (i + 1) xs) (added sum y)))
total_next table xs i sum h = at_drop_more (λ ys. total_of table ys sum) xs i 0 h

-- after the last one the total is counted
pub total_end : (table : Table) (xs : List ℕ) (i sum : ℕ) → length xs ≤ i → total_of table (drop i xs) sum ≡ Read (λ w. Write (counted w) (Give (Value sum)))
total_end table xs i sum h = ap (λ ys. total_of table ys sum) (drop_all i xs h)
