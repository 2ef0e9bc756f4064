-- The words of arguments are values of their parameters' types.
use Rattle.std.proofs.Common.{◌≡◌, ℕ, zero, suc, ◌+◌, ◌-◌, ◌<◌, ◌≤◌, ℤ, pos, negsuc, Bool, true, false, List, [], ◌∷◌, ◌++◌, length, map, drop}
use Rattle.std.proofs.Common.{Option, Some, None, get_or, refl, sym, ap, ap₂, ◌∙◌, subst, arith, add-one, drop-cons}
use Rattle.std.specs.Prelude.{◌%◌, ◌*◌, ◌&&◌, nat_le, int_le, if◌then◌else◌}
use Rattle.std.specs.Int.{cast_unsigned, w64}
use Rattle.std.proofs.lemmas.Bool.{and_parts, leb-true, le-leb, lt-leb}
use Rattle.tl_base.specs.declared.ids.TypeId.{TypeId}
use Rattle.lua_value.specs.declared.value.Value.{Value}
use Rattle.lua_value.specs.declared.value.Value.TheVariants as values
use Rattle.terra_words.specs.Words.{flag, wrapped}
use Rattle.terra_words.specs.Runs.{word}
use Rattle.terra_types.specs.declared.types.Integer.{Integer}
use Rattle.terra_types.specs.declared.types.Integer.TheVariants.{Int8, Int16, Int32, Int64, Uint8, Uint16, Uint32, Uint64}
use Rattle.terra_types.specs.declared.types.TypeForm.{TypeForm}
use Rattle.terra_types.specs.declared.types.TypeForm.TheVariants as forms
use Rattle.terra_types.specs.Sizes.{bytes_of, is_signed, form_at}
use Rattle.terra_term.specs.declared.lists.TypedName.{TypedName}
use Rattle.terra_meaning.specs.Values.{AreValues, IsValue}
use Rattle.stage_model.specs.Words.{Taken, Words, Bad, least, most, word_of, with_word, taken_with, taken}

-- ---- numbers

-- a number that isn't negative is its own word, and a negative one has copies of its sign
above-zero : (half rest n low : ℕ) → low ≡ n → n < half → (if nat_le half low then low + rest else low) ≡ n
above-zero half rest n low same small = rw (same, lt-leb half n small) refl

below-zero : (half rest low all : ℕ) → half ≤ low → low + rest ≡ all → (if nat_le half low then low + rest else low) ≡ all
below-zero half rest low all large same = rw (le-leb half low large) same

signed-8 : (z : ℤ) → (int_le (negsuc 127) z && int_le z (pos 127)) ≡ true → wrapped (record { signed = true; bits = 8 }) (cast_unsigned w64 z) ≡ cast_unsigned w64 z
unfolding wrapped
signed-8 (pos n) h =
    let small : n ≤ 127 = leb-true n 127 h in
    above-zero 128 18446744073709551360 n (n % 256) (omega (arith, small)) (omega (arith, small))
signed-8 (negsuc n) h =
    let small : n ≤ 127 = leb-true n 127 (and_parts (nat_le n 127) true h).0 in
    below-zero 128 18446744073709551360 ((18446744073709551616 - suc n) % 256) (18446744073709551616 - suc n) (omega (arith, small)) (omega (arith, small))

signed-16 : (z : ℤ) → (int_le (negsuc 32767) z && int_le z (pos 32767)) ≡ true → wrapped (record { signed = true; bits = 16 }) (cast_unsigned w64 z) ≡ cast_unsigned w64 z
unfolding wrapped
signed-16 (pos n) h =
    let small : n ≤ 32767 = leb-true n 32767 h in
    above-zero 32768 18446744073709486080 n (n % 65536) (omega (arith, small)) (omega (arith, small))
signed-16 (negsuc n) h =
    let small : n ≤ 32767 = leb-true n 32767 (and_parts (nat_le n 32767) true h).0 in
    below-zero 32768 18446744073709486080 ((18446744073709551616 - suc n) % 65536) (18446744073709551616 - suc n) (omega (arith, small)) (omega (arith, small))

signed-32 : (z : ℤ) → (int_le (negsuc 2147483647) z && int_le z (pos 2147483647)) ≡ true → wrapped (record { signed = true; bits = 32 }) (cast_unsigned w64 z) ≡ cast_unsigned w64 z
unfolding wrapped
signed-32 (pos n) h =
    let small : n ≤ 2147483647 = leb-true n 2147483647 h in
    above-zero 2147483648 18446744069414584320 n (n % 4294967296) (omega (arith, small)) (omega (arith, small))
signed-32 (negsuc n) h =
    let small : n ≤ 2147483647 = leb-true n 2147483647 (and_parts (nat_le n 2147483647) true h).0 in
    below-zero 2147483648 18446744069414584320 ((18446744073709551616 - suc n) % 4294967296) (18446744073709551616 - suc n) (omega (arith, small)) (omega (arith, small))

signed-64 : (z : ℤ) → (int_le (negsuc 9223372036854775807) z && int_le z (pos 9223372036854775807)) ≡ true → wrapped (record { signed = true; bits = 64 }) (cast_unsigned w64 z) ≡ cast_unsigned w64 z
unfolding wrapped
signed-64 (pos n) h =
    let small : n ≤ 9223372036854775807 = leb-true n 9223372036854775807 h in
    above-zero 9223372036854775808 0 n (n % 18446744073709551616) (omega (arith, small)) (omega (arith, small))
signed-64 (negsuc n) h =
    let small : n ≤ 9223372036854775807 = leb-true n 9223372036854775807 (and_parts (nat_le n 9223372036854775807) true h).0 in
    below-zero 9223372036854775808 0 ((18446744073709551616 - suc n) % 18446744073709551616) (18446744073709551616 - suc n) (omega (arith, small)) (omega (arith, small))

unsigned-8 : (z : ℤ) → (int_le (pos 0) z && int_le z (pos 255)) ≡ true → wrapped (record { signed = false; bits = 8 }) (cast_unsigned w64 z) ≡ cast_unsigned w64 z
unfolding wrapped
unsigned-8 (pos n) h =
    let small : n ≤ 255 = leb-true n 255 (and_parts (nat_le 0 n) (nat_le n 255) h).1 in
    let low : n % 256 ≡ n = omega (arith, small) in low
unsigned-8 (negsuc n) h = absurd cc

unsigned-16 : (z : ℤ) → (int_le (pos 0) z && int_le z (pos 65535)) ≡ true → wrapped (record { signed = false; bits = 16 }) (cast_unsigned w64 z) ≡ cast_unsigned w64 z
unfolding wrapped
unsigned-16 (pos n) h =
    let small : n ≤ 65535 = leb-true n 65535 (and_parts (nat_le 0 n) (nat_le n 65535) h).1 in
    let low : n % 65536 ≡ n = omega (arith, small) in low
unsigned-16 (negsuc n) h = absurd cc

unsigned-32 : (z : ℤ) → (int_le (pos 0) z && int_le z (pos 4294967295)) ≡ true → wrapped (record { signed = false; bits = 32 }) (cast_unsigned w64 z) ≡ cast_unsigned w64 z
unfolding wrapped
unsigned-32 (pos n) h =
    let small : n ≤ 4294967295 = leb-true n 4294967295 (and_parts (nat_le 0 n) (nat_le n 4294967295) h).1 in
    let low : n % 4294967296 ≡ n = omega (arith, small) in low
unsigned-32 (negsuc n) h = absurd cc

unsigned-64 : (z : ℤ) → (int_le (pos 0) z && int_le z (pos 18446744073709551615)) ≡ true → wrapped (record { signed = false; bits = 64 }) (cast_unsigned w64 z) ≡ cast_unsigned w64 z
unfolding wrapped
unsigned-64 (pos n) h =
    let small : n ≤ 18446744073709551615 = leb-true n 18446744073709551615 (and_parts (nat_le 0 n) (nat_le n 18446744073709551615) h).1 in
    let low : n % 18446744073709551616 ≡ n = omega (arith, small) in low
unsigned-64 (negsuc n) h = absurd cc

integer-word : (i : Integer) (z : ℤ) → (int_le (least i) z && int_le z (most i)) ≡ true →
    wrapped (record { signed = is_signed i; bits = 8 * bytes_of i }) (cast_unsigned w64 z) ≡ cast_unsigned w64 z
integer-word Int8 z h = signed-8 z h
integer-word Int16 z h = signed-16 z h
integer-word Int32 z h = signed-32 z h
integer-word Int64 z h = signed-64 z h
integer-word Uint8 z h = unsigned-8 z h
integer-word Uint16 z h = unsigned-16 z h
integer-word Uint32 z h = unsigned-32 z h
integer-word Uint64 z h = unsigned-64 z h

truth-word : (b : Bool) → wrapped (record { signed = false; bits = 1 }) (flag b) ≡ flag b
unfolding wrapped
truth-word true = refl
truth-word false = refl

-- ---- one argument

module _ (types : List TypeForm) (t : TypeId) where
  number-fits : (i : Integer) → form_at types t ≡ forms.Integer i → (z : ℤ) (x : ℕ) → word_of (forms.Integer i) (values.Number z) ≡ Some x →
      IsValue types t (word x)
  number-fits i e z x is = by (int_le (least i) z && int_le z (most i)) refl is
    where
      by : (c : Bool) → (int_le (least i) z && int_le z (most i)) ≡ c → (if c then Some (cast_unsigned w64 z) else None) ≡ Some x →
          IsValue types t (word x)
      by true inside is =
          let same : cast_unsigned w64 z ≡ x = cc in
          rw e (refl, subst (λ (y : ℕ). wrapped (record { signed = is_signed i; bits = 8 * bytes_of i }) y ≡ y) same (integer-word i z inside))
      by false inside is = absurd cc

  truth-fits : form_at types t ≡ forms.Bool → (b : Bool) (x : ℕ) → word_of forms.Bool (values.Boolean b) ≡ Some x → IsValue types t (word x)
  truth-fits e b x is =
      let same : flag b ≡ x = cc in
      rw e (refl, subst (λ (y : ℕ). wrapped (record { signed = false; bits = 1 }) y ≡ y) same (truth-word b))

  value-fits : (form : TypeForm) → form_at types t ≡ form → (v : Value) (x : ℕ) → word_of form v ≡ Some x → IsValue types t (word x)
  value-fits (forms.Integer i) e (values.Number z) x is = number-fits i e z x is
  value-fits (forms.Integer i) e values.Nil x is = absurd cc
  value-fits (forms.Integer i) e (values.Boolean b) x is = absurd cc
  value-fits (forms.Integer i) e (values.Text id) x is = absurd cc
  value-fits (forms.Integer i) e (values.Table id) x is = absurd cc
  value-fits (forms.Integer i) e (values.Closure id) x is = absurd cc
  value-fits (forms.Integer i) e (values.Library f) x is = absurd cc
  value-fits (forms.Integer i) e (values.TerraFunction f) x is = absurd cc
  value-fits (forms.Integer i) e (values.TerraType id) x is = absurd cc
  value-fits (forms.Integer i) e (values.Quote id) x is = absurd cc
  value-fits (forms.Integer i) e (values.Symbol id) x is = absurd cc
  value-fits (forms.Integer i) e (values.Macro id) x is = absurd cc
  value-fits (forms.Integer i) e (values.Global id) x is = absurd cc
  value-fits (forms.Integer i) e (values.Constant id) x is = absurd cc
  value-fits (forms.Integer i) e (values.Primitive p) x is = absurd cc
  value-fits forms.Bool e (values.Boolean b) x is = truth-fits e b x is
  value-fits forms.Bool e values.Nil x is = absurd cc
  value-fits forms.Bool e (values.Number z) x is = absurd cc
  value-fits forms.Bool e (values.Text id) x is = absurd cc
  value-fits forms.Bool e (values.Table id) x is = absurd cc
  value-fits forms.Bool e (values.Closure id) x is = absurd cc
  value-fits forms.Bool e (values.Library f) x is = absurd cc
  value-fits forms.Bool e (values.TerraFunction f) x is = absurd cc
  value-fits forms.Bool e (values.TerraType id) x is = absurd cc
  value-fits forms.Bool e (values.Quote id) x is = absurd cc
  value-fits forms.Bool e (values.Symbol id) x is = absurd cc
  value-fits forms.Bool e (values.Macro id) x is = absurd cc
  value-fits forms.Bool e (values.Global id) x is = absurd cc
  value-fits forms.Bool e (values.Constant id) x is = absurd cc
  value-fits forms.Bool e (values.Primitive p) x is = absurd cc
  value-fits forms.Unit e v x is = absurd cc
  value-fits (forms.Pointer u) e v x is = absurd cc
  value-fits (forms.Array u n) e v x is = absurd cc
  value-fits (forms.Function us u) e v x is = absurd cc
  value-fits (forms.Struct n at l) e v x is = absurd cc

-- ---- all arguments

pub words-fit : (types : List TypeForm) (n : ℕ) (ps : List TypedName) (vs : List Value) (ws : List ℕ) → taken types n ps vs ≡ Words ws →
    AreValues types ps (map word ws)
words-fit types n [] [] ws is =
    let same : [] ≡ ws = cc in
    subst (λ (l : List ℕ). AreValues types [] (map word l)) same tt
words-fit types n [] (v ∷ vs) ws is = absurd cc
words-fit types n (x ∷ xs) [] ws is = absurd cc
words-fit types n (x ∷ xs) (v ∷ vs) ws is =
    by (word_of (form_at types x.of) v) refl (taken types (n + 1) xs vs) (λ zs rest. words-fit types (n + 1) xs vs zs rest) is
  where
    by : (o : Option ℕ) → word_of (form_at types x.of) v ≡ o → (r : Taken) → ((zs : List ℕ) → r ≡ Words zs → AreValues types xs (map word zs)) →
        taken_with n o r ≡ Words ws → AreValues types (x ∷ xs) (map word ws)
    by None one r others is = absurd cc
    by (Some y) one (Bad m) others is = absurd cc
    by (Some y) one (Words zs) others is =
        let same : y ∷ zs ≡ ws = cc in
        subst (λ (l : List ℕ). AreValues types (x ∷ xs) (map word l)) same
        (value-fits types x.of (form_at types x.of) refl v y one, others zs refl)

-- ---- the words that were taken so far

abbrev pub joined : List ℕ → Taken → Taken
joined [] t = t
joined (x ∷ xs) t = with_word x (joined xs t)

pub joined-bad : (xs : List ℕ) (n : ℕ) → joined xs (Bad n) ≡ Bad n
joined-bad [] n = refl
joined-bad (x ∷ xs) n = rw (joined-bad xs n) refl

pub joined-all : (xs : List ℕ) → joined xs (Words []) ≡ Words xs
joined-all [] = refl
joined-all (x ∷ xs) = rw (joined-all xs) refl

pub joined-more : (xs : List ℕ) (y : ℕ) (t : Taken) → joined (xs ++ y ∷ []) t ≡ joined xs (with_word y t)
joined-more [] y t = refl
joined-more (x ∷ xs) y t = rw (joined-more xs y t) refl

-- ---- arguments from a position on

past : {A : Type 0} (xs : List A) (i : ℕ) → length xs ≤ i → drop i xs ≡ []
past [] zero h = refl
past [] (suc i) h = refl
past (x ∷ xs) zero h = absurd (omega (arith, h))
past (x ∷ xs) (suc i) h = let few : length xs ≤ i = omega (arith, h) in past xs i few

next : {A : Type 0} (xs : List A) (i : ℕ) (d : A) → i < length xs → drop i xs ≡ get_or xs i d ∷ drop (i + 1) xs
next xs i d h = drop-cons xs i d h ∙ ap (λ (n : ℕ). get_or xs i d ∷ drop n xs) (sym (add-one i))

module _ (types : List TypeForm) (ps : List TypedName) (vs : List Value) (ws : List ℕ) (i : ℕ)
    (so_far : taken types 1 ps vs ≡ joined ws (taken types (i + 1) (drop i ps) (drop i vs))) where
  abbrev behind : Taken
  behind = taken types (i + 1 + 1) (drop (i + 1) ps) (drop (i + 1) vs)

  from-here : (d : TypedName) (e : Value) → i < length ps → i < length vs →
      taken types 1 ps vs ≡ joined ws (taken_with (i + 1) (word_of (form_at types (get_or ps i d).of) (get_or vs i e)) behind)
  from-here d e p v =
      so_far ∙ ap₂ (λ (xs : List TypedName) (ys : List Value). joined ws (taken types (i + 1) xs ys)) (next ps i d p) (next vs i e v)

  -- the argument here is v
  with-value : (d : TypedName) (v : Value) → i < length ps → i < length vs → v ≡ get_or vs i v →
      taken types 1 ps vs ≡ joined ws (taken_with (i + 1) (word_of (form_at types (get_or ps i d).of) v) behind)
  with-value d v p few is =
      from-here d v p few
      ∙ ap (λ (x : Value). joined ws (taken_with (i + 1) (word_of (form_at types (get_or ps i d).of) x) behind)) (sym is)

  pub taken-next : (d : TypedName) (v : Value) (y : ℕ) → i < length ps → i < length vs → v ≡ get_or vs i v →
      word_of (form_at types (get_or ps i d).of) v ≡ Some y → taken types 1 ps vs ≡ joined (ws ++ y ∷ []) behind
  taken-next d v y p few is some =
      with-value d v p few is ∙ ap (λ (o : Option ℕ). joined ws (taken_with (i + 1) o behind)) some ∙ sym (joined-more ws y behind)

  pub taken-bad : (d : TypedName) (v : Value) → i < length ps → i < length vs → v ≡ get_or vs i v →
      word_of (form_at types (get_or ps i d).of) v ≡ None → taken types 1 ps vs ≡ Bad (i + 1)
  taken-bad d v p few is none =
      with-value d v p few is ∙ ap (λ (o : Option ℕ). joined ws (taken_with (i + 1) o behind)) none ∙ joined-bad ws (i + 1)

  pub taken-missing : (d : TypedName) → i < length ps → length vs ≤ i → taken types 1 ps vs ≡ Bad (i + 1)
  taken-missing d p few =
      so_far ∙ ap₂ (λ (xs : List TypedName) (ys : List Value). joined ws (taken types (i + 1) xs ys)) (next ps i d p) (past vs i few)
      ∙ joined-bad ws (i + 1)

  pub taken-many : (e : Value) → length ps ≤ i → i < length vs → taken types 1 ps vs ≡ Bad (i + 1)
  taken-many e few v =
      so_far ∙ ap₂ (λ (xs : List TypedName) (ys : List Value). joined ws (taken types (i + 1) xs ys)) (past ps i few) (next vs i e v)
      ∙ joined-bad ws (i + 1)

  pub taken-all : length ps ≤ i → length vs ≤ i → taken types 1 ps vs ≡ Words ws
  taken-all few fewer =
      so_far ∙ ap₂ (λ (xs : List TypedName) (ys : List Value). joined ws (taken types (i + 1) xs ys)) (past ps i few) (past vs i fewer)
      ∙ joined-all ws
