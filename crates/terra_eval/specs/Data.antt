-- What a value is.
use Rattle.terra_words.specs.Runs as runs
use Rattle.terra_eval.specs.declared.value.Datum.{Datum}
use Rattle.terra_eval.specs.declared.value.Datum.TheVariants as kinds

abbrev pub value_of : Datum → runs.Value
value_of (kinds.Word x) = runs.word x
value_of (kinds.Bytes bs) = runs.bytes bs.items
