-- What the small functions of Sampled mean, computed. The results are those of another reading of the rules.
use Rattle.std.specs.Prelude.{◌≡◌, refl, ℕ, true, List, [], ◌∷◌}
use Rattle.std.specs.List.{list_all}
use Rattle.terra_memory.specs.Numbers.{number_of, low_bytes}
use Rattle.terra_memory.specs.Region.{range_of, alloc_of}
use Rattle.terra_words.specs.declared.words.FaultKind.TheVariants.{BadAddress, DivZero}
use Rattle.terra_words.specs.Words.{wrapped, applied, negated, complemented}
use Rattle.terra_term.specs.WellTyped.{body_typed}
use Rattle.terra_words.specs.Runs.{Value, word, put_bytes, Returned, Fault, Run, Over}
use Rattle.terra_meaning.specs.Meaning.{meaning}
use Rattle.terra_meaning.proofs.Examples.{at, f}
use Rattle.terra_meaning.proofs.Sampled.{sample, all}

-- the run of a function in a region of 1,024 bytes, where no function stands as a value
abbrev ran : (count function : ℕ) → List Value → Run
ran n g arguments = meaning sample [] 1024 n (f g) arguments

abbrev gives : ℕ → List ℕ → Run
gives v out = Over (Returned (word v)) out

-- sh 3 5
pub row_0 : ran 100 0 (word 3 ∷ word 5 ∷ []) ≡ gives 96 ([])
unfolding wrapped applied negated complemented number_of low_bytes range_of alloc_of put_bytes
row_0 = refl

-- sh 3 6
pub row_1 : ran 100 0 (word 3 ∷ word 6 ∷ []) ≡ gives 18446744073709551552 ([])
unfolding wrapped applied negated complemented number_of low_bytes range_of alloc_of put_bytes
row_1 = refl

-- sh -- 1 -1
pub row_2 : ran 100 0 (word 1 ∷ word 18446744073709551615 ∷ []) ≡ gives 18446744073709551488 ([])
unfolding wrapped applied negated complemented number_of low_bytes range_of alloc_of put_bytes
row_2 = refl

-- sr -- -100 2
pub row_3 : ran 100 1 (word 18446744073709551516 ∷ word 2 ∷ []) ≡ gives 18446744073709551591 ([])
unfolding wrapped applied negated complemented number_of low_bytes range_of alloc_of put_bytes
row_3 = refl

-- sr -- -1 70
pub row_4 : ran 100 1 (word 18446744073709551615 ∷ word 70 ∷ []) ≡ gives 18446744073709551615 ([])
unfolding wrapped applied negated complemented number_of low_bytes range_of alloc_of put_bytes
row_4 = refl

-- su 200 3
pub row_5 : ran 100 2 (word 200 ∷ word 3 ∷ []) ≡ gives 25 ([])
unfolding wrapped applied negated complemented number_of low_bytes range_of alloc_of put_bytes
row_5 = refl

-- conv -- -130
pub row_6 : ran 100 3 (word 18446744073709551486 ∷ []) ≡ gives 65532 ([])
unfolding wrapped applied negated complemented number_of low_bytes range_of alloc_of put_bytes
row_6 = refl

-- tobool 256
pub row_7 : ran 100 4 (word 256 ∷ []) ≡ gives 1 ([])
unfolding wrapped applied negated complemented number_of low_bytes range_of alloc_of put_bytes
row_7 = refl

-- tobool 0
pub row_8 : ran 100 4 (word 0 ∷ []) ≡ gives 0 ([])
unfolding wrapped applied negated complemented number_of low_bytes range_of alloc_of put_bytes
row_8 = refl

-- frombool true
pub row_9 : ran 100 5 (word 1 ∷ []) ≡ gives 2 ([])
unfolding wrapped applied negated complemented number_of low_bytes range_of alloc_of put_bytes
row_9 = refl

-- cmp -- -1 1
pub row_10 : ran 100 6 (word 18446744073709551615 ∷ word 1 ∷ []) ≡ gives 0 ([])
unfolding wrapped applied negated complemented number_of low_bytes range_of alloc_of put_bytes
row_10 = refl

-- cmp 1 2
pub row_11 : ran 100 6 (word 1 ∷ word 2 ∷ []) ≡ gives 1 ([])
unfolding wrapped applied negated complemented number_of low_bytes range_of alloc_of put_bytes
row_11 = refl

-- cmps -- -1 0
pub row_12 : ran 100 7 (word 18446744073709551615 ∷ word 0 ∷ []) ≡ gives 1 ([])
unfolding wrapped applied negated complemented number_of low_bytes range_of alloc_of put_bytes
row_12 = refl

-- logic 12 10
pub row_13 : ran 100 8 (word 12 ∷ word 10 ∷ []) ≡ gives 243 ([])
unfolding wrapped applied negated complemented number_of low_bytes range_of alloc_of put_bytes
row_13 = refl

-- notb true false
pub row_14 : ran 100 9 (word 1 ∷ word 0 ∷ []) ≡ gives 0 ([])
unfolding wrapped applied negated complemented number_of low_bytes range_of alloc_of put_bytes
row_14 = refl

-- notb true true
pub row_15 : ran 100 9 (word 1 ∷ word 1 ∷ []) ≡ gives 1 ([])
unfolding wrapped applied negated complemented number_of low_bytes range_of alloc_of put_bytes
row_15 = refl

-- rem -- -7 2
pub row_16 : ran 100 10 (word 18446744073709551609 ∷ word 2 ∷ []) ≡ gives 18446744073709551615 ([])
unfolding wrapped applied negated complemented number_of low_bytes range_of alloc_of put_bytes
row_16 = refl

-- rem 7 -- -2
pub row_17 : ran 100 10 (word 7 ∷ word 18446744073709551614 ∷ []) ≡ gives 1 ([])
unfolding wrapped applied negated complemented number_of low_bytes range_of alloc_of put_bytes
row_17 = refl

-- rem 5 0
pub row_18 : ran 100 10 (word 5 ∷ word 0 ∷ []) ≡ Over (Fault DivZero (at 14 16)) ([])
unfolding wrapped applied negated complemented number_of low_bytes range_of alloc_of put_bytes
row_18 = refl

-- rem -- -2147483648 -1
pub row_19 : ran 100 10 (word 18446744071562067968 ∷ word 18446744073709551615 ∷ []) ≡ gives 0 ([])
unfolding wrapped applied negated complemented number_of low_bytes range_of alloc_of put_bytes
row_19 = refl

-- least -- -9223372036854775808 -1
pub row_20 : ran 100 11 (word 9223372036854775808 ∷ word 18446744073709551615 ∷ []) ≡ gives 9223372036854775808 ([])
unfolding wrapped applied negated complemented number_of low_bytes range_of alloc_of put_bytes
row_20 = refl

-- least -- -9223372036854775808 10
pub row_21 : ran 100 11 (word 9223372036854775808 ∷ word 10 ∷ []) ≡ gives 17524406870024074036 ([])
unfolding wrapped applied negated complemented number_of low_bytes range_of alloc_of put_bytes
row_21 = refl

-- udiv 18446744073709551615 10
pub row_22 : ran 100 12 (word 18446744073709551615 ∷ word 10 ∷ []) ≡ gives 1844674407370955166 ([])
unfolding wrapped applied negated complemented number_of low_bytes range_of alloc_of put_bytes
row_22 = refl

-- arr 3
pub row_23 : ran 100 13 (word 3 ∷ []) ≡ gives 114 ([])
unfolding wrapped applied negated complemented number_of low_bytes range_of alloc_of put_bytes
row_23 = refl

-- ptr
pub row_24 : ran 100 14 ([]) ≡ gives 18446744073709551614 ([])
unfolding wrapped applied negated complemented number_of low_bytes range_of alloc_of put_bytes
row_24 = refl

-- nest
pub row_25 : ran 100 16 ([]) ≡ gives 5907 ([])
unfolding wrapped applied negated complemented number_of low_bytes range_of alloc_of put_bytes
row_25 = refl

-- agg 7
pub row_26 : ran 100 18 (word 7 ∷ []) ≡ gives 1267 ([])
unfolding wrapped applied negated complemented number_of low_bytes range_of alloc_of put_bytes
row_26 = refl

-- rep 4
pub row_27 : ran 100 19 (word 4 ∷ []) ≡ gives 10 ([])
unfolding wrapped applied negated complemented number_of low_bytes range_of alloc_of put_bytes
row_27 = refl

-- down 9
pub row_28 : ran 100 20 (word 9 ∷ []) ≡ gives 97 ([])
unfolding wrapped applied negated complemented number_of low_bytes range_of alloc_of put_bytes
row_28 = refl

-- down 10
pub row_29 : ran 100 20 (word 10 ∷ []) ≡ gives 108642 ([])
unfolding wrapped applied negated complemented number_of low_bytes range_of alloc_of put_bytes
row_29 = refl

-- glob
pub row_30 : ran 100 21 ([]) ≡ gives 16 ([])
unfolding wrapped applied negated complemented number_of low_bytes range_of alloc_of put_bytes
row_30 = refl

-- swap 1 2
pub row_31 : ran 100 22 (word 1 ∷ word 2 ∷ []) ≡ gives 21 ([])
unfolding wrapped applied negated complemented number_of low_bytes range_of alloc_of put_bytes
row_31 = refl

-- deep 40
pub row_32 : ran 100 23 (word 40 ∷ []) ≡ gives 40 ([])
unfolding wrapped applied negated complemented number_of low_bytes range_of alloc_of put_bytes
row_32 = refl

-- say
pub row_33 : ran 100 24 ([]) ≡ gives 0 (104 ∷ 101 ∷ 121 ∷ 10 ∷ [])
unfolding wrapped applied negated complemented number_of low_bytes range_of alloc_of put_bytes
row_33 = refl

-- badsay
pub row_34 : ran 100 25 ([]) ≡ Over (Fault BadAddress (at 29 11)) ([])
unfolding wrapped applied negated complemented number_of low_bytes range_of alloc_of put_bytes
row_34 = refl

-- heap
pub row_35 : ran 100 26 ([]) ≡ gives 5 ([])
unfolding wrapped applied negated complemented number_of low_bytes range_of alloc_of put_bytes
row_35 = refl

-- boolmem 3
pub row_36 : ran 100 27 (word 3 ∷ []) ≡ gives 1 ([])
unfolding wrapped applied negated complemented number_of low_bytes range_of alloc_of put_bytes
row_36 = refl

-- boolmem 2
pub row_37 : ran 100 27 (word 2 ∷ []) ≡ gives 0 ([])
unfolding wrapped applied negated complemented number_of low_bytes range_of alloc_of put_bytes
row_37 = refl

-- u8s 200
pub row_38 : ran 100 28 (word 200 ∷ []) ≡ gives 18446744073709551416 ([])
unfolding wrapped applied negated complemented number_of low_bytes range_of alloc_of put_bytes
row_38 = refl

-- negu 5
pub row_39 : ran 100 29 (word 5 ∷ []) ≡ gives 4294967291 ([])
unfolding wrapped applied negated complemented number_of low_bytes range_of alloc_of put_bytes
row_39 = refl

-- wrap 100000
pub row_40 : ran 100 30 (word 100000 ∷ []) ≡ gives 18446744072972133375 ([])
unfolding wrapped applied negated complemented number_of low_bytes range_of alloc_of put_bytes
row_40 = refl

-- shadow
pub row_41 : ran 100 31 ([]) ≡ gives 1 ([])
unfolding wrapped applied negated complemented number_of low_bytes range_of alloc_of put_bytes
row_41 = refl

-- lets 5
pub row_42 : ran 100 32 (word 5 ∷ []) ≡ gives 26 ([])
unfolding wrapped applied negated complemented number_of low_bytes range_of alloc_of put_bytes
row_42 = refl

-- orders 4
pub row_43 : ran 100 33 (word 4 ∷ []) ≡ gives 42 ([])
unfolding wrapped applied negated complemented number_of low_bytes range_of alloc_of put_bytes
row_43 = refl

-- steps 1 3
pub row_44 : ran 100 34 (word 1 ∷ word 3 ∷ []) ≡ gives 3 ([])
unfolding wrapped applied negated complemented number_of low_bytes range_of alloc_of put_bytes
row_44 = refl

-- steps 9 200
pub row_45 : ran 100 34 (word 9 ∷ word 200 ∷ []) ≡ gives 1 ([])
unfolding wrapped applied negated complemented number_of low_bytes range_of alloc_of put_bytes
row_45 = refl

-- steps 1 0
pub row_46 : ran 100 34 (word 1 ∷ word 0 ∷ []) ≡ gives 0 ([])
unfolding wrapped applied negated complemented number_of low_bytes range_of alloc_of put_bytes
row_46 = refl

-- member
pub row_47 : ran 100 35 ([]) ≡ gives 16 ([])
unfolding wrapped applied negated complemented number_of low_bytes range_of alloc_of put_bytes
row_47 = refl

-- wildread 1073741824
pub row_48 : ran 100 36 (word 1073741824 ∷ []) ≡ gives 7 ([])
unfolding wrapped applied negated complemented number_of low_bytes range_of alloc_of put_bytes
row_48 = refl

-- wildread 1073741823
pub row_49 : ran 100 36 (word 1073741823 ∷ []) ≡ Over (Fault BadAddress (at 42 11)) ([])
unfolding wrapped applied negated complemented number_of low_bytes range_of alloc_of put_bytes
row_49 = refl

-- all of them pass the test of typed terms
pub typed_terms : list_all (body_typed sample) all ≡ true
typed_terms = refl
