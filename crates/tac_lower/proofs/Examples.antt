-- The code of the small functions of `terra_meaning`'s examples, with its runs, computed. The results are those of another reading of the
-- rules.
use Rattle.std.specs.Prelude.{◌≡◌, refl, ℕ, ◌+◌, ◌*◌, ◌<◌, ◌^◌, true, ◌&&◌, Bool, nat_le, List, [], ◌∷◌, option_map}
use Rattle.std.specs.List.{list_all}
use Rattle.std.proofs.Common.{arith}
use Rattle.terra_memory.specs.Numbers.{number_of, low_bytes}
use Rattle.terra_memory.specs.Region.{range_of, alloc_of}
use Rattle.terra_words.specs.declared.words.FaultKind.TheVariants.{BadAddress, DivZero, NoReturn}
use Rattle.terra_words.specs.Words.{wrapped, applied, negated, complemented}
use Rattle.terra_words.specs.Runs.{Value, word, put_bytes, Returned, Fault, Over, More}
use Rattle.terra_term.specs.Stores.{callable_of}
use Rattle.terra_term.specs.TypedTerms.{Body}
use Rattle.terra_meaning.specs.Values.{IsValue}
use Rattle.terra_meaning.proofs.Examples.{t, f, at, sample, body_2, all}
use Rattle.tac_form.specs.declared.tac.Tac.{Tac}
use Rattle.tac_form.specs.Flow.{Program, Moved, Stops, steps, begun}
use Rattle.tac_form.specs.Weights.{code_words, private_bytes}
use Rattle.tac_form.specs.Fits.{blocks_count, is_within}
use Rattle.tac_lower.specs.Lowering.{lowered}
use Rattle.tac_lower.specs.Needs.{BodyNeeds}

abbrev program : Program
program = record { code = λ g. option_map (lowered sample []) (callable_of sample g); entries = [] }

-- the run of a function's code in a region of 1,024 bytes, where no function stands as a value
abbrev ran : (count function : ℕ) → List Value → Moved
ran n g arguments = steps program 4000 (begun program [] 1024 n (f g) arguments)

abbrev gives : ℕ → List ℕ → Moved
gives v out = Stops (Over (Returned (word v)) out)

pub fib : ran 24 0 (word 6 ∷ []) ≡ gives 8 []
unfolding wrapped applied negated complemented number_of low_bytes range_of alloc_of put_bytes
fib = refl

pub fib_needs_more : ran 23 0 (word 6 ∷ []) ≡ Stops (More [])
unfolding wrapped applied negated complemented number_of low_bytes range_of alloc_of put_bytes
fib_needs_more = refl

pub sum : ran 10 1 (word 10 ∷ []) ≡ gives 45 []
unfolding wrapped applied negated complemented number_of low_bytes range_of alloc_of put_bytes
sum = refl

pub sum_needs_more : ran 9 1 (word 10 ∷ []) ≡ Stops (More [])
unfolding wrapped applied negated complemented number_of low_bytes range_of alloc_of put_bytes
sum_needs_more = refl

pub keep : ran 0 2 ([]) ≡ gives 9 []
unfolding wrapped applied negated complemented number_of low_bytes range_of alloc_of put_bytes
keep = refl

pub div : ran 0 3 (word 18446744073709551609 ∷ word 2 ∷ []) ≡ gives 18446744073709551613 []
unfolding wrapped applied negated complemented number_of low_bytes range_of alloc_of put_bytes
div = refl

pub div_by_zero : ran 0 3 (word 1 ∷ word 0 ∷ []) ≡ Stops (Over (Fault DivZero (at 5 16)) [])
unfolding wrapped applied negated complemented number_of low_bytes range_of alloc_of put_bytes
div_by_zero = refl

pub wild : ran 0 4 ([]) ≡ Stops (Over (Fault BadAddress (at 6 15)) [])
unfolding wrapped applied negated complemented number_of low_bytes range_of alloc_of put_bytes
wild = refl

pub pair : ran 0 5 (word 7 ∷ []) ≡ gives 21 []
unfolding wrapped applied negated complemented number_of low_bytes range_of alloc_of put_bytes
pair = refl

pub out : ran 2 6 ([]) ≡ gives 0 (65 ∷ 66 ∷ 67 ∷ [])
unfolding wrapped applied negated complemented number_of low_bytes range_of alloc_of put_bytes
out = refl

pub out_needs_more : ran 1 6 ([]) ≡ Stops (More (65 ∷ 66 ∷ []))
unfolding wrapped applied negated complemented number_of low_bytes range_of alloc_of put_bytes
out_needs_more = refl

pub apart : ran 0 7 ([]) ≡ gives 8 []
unfolding wrapped applied negated complemented number_of low_bytes range_of alloc_of put_bytes
apart = refl

pub returns : ran 0 8 (word 1 ∷ []) ≡ gives 1 []
unfolding wrapped applied negated complemented number_of low_bytes range_of alloc_of put_bytes
returns = refl

pub no_return : ran 0 8 (word 0 ∷ []) ≡ Stops (Over (Fault NoReturn (at 10 1)) [])
unfolding wrapped applied negated complemented number_of low_bytes range_of alloc_of put_bytes
no_return = refl

-- the code is counted and keeps within its words and bytes, and what it names is there
abbrev code : Body → Tac
code b = lowered sample [] (record { at = at 1 1; body = b })

abbrev is_good : Tac → Bool
is_good c =
    is_within c && blocks_count 0 c.blocks && nat_le (code_words c) (250 * c.nodes) && nat_le (private_bytes c) (136 * c.nodes + 65536)

pub good : list_all (λ b. is_good (code b)) all ≡ true
unfolding wrapped
good = refl

-- the term of `keep`, whose variable has an address, has what lowering needs
wide : (x : ℕ) → x < 2 ^ 64 → IsValue sample.types (t 11) (word x)
unfolding wrapped
wide x lt = (refl, omega (arith, lt))

pub ready : BodyNeeds sample [] (record { at = at 1 1; body = body_2 })
unfolding wrapped
ready = (
  tt,
  (
    (((refl, refl), tt), (omega arith, refl, tt)),
    (
      (((refl, wide), tt), (refl, refl, tt)),
      ((((refl, refl), tt), (refl, tt), refl), ((refl, refl, refl), tt)),
    ),
  ),
)
