-- What is due for a call of an export, by what the run of its image tells.
use Rattle.std.proofs.Common.{◌≡◌, ◌⊎◌, inl, inr, ℕ, zero, suc, ◌+◌, ◌-◌, ◌*◌, ◌<◌, ◌≤◌, Bool, true, false, cond, List, [], ◌∷◌, length}
use Rattle.std.proofs.Common.{Option, Some, None, map, refl, sym, ap, subst, ◌∙◌, arith, nat_le, drop}
use Rattle.std.proofs.lemmas.Bool.Decides.{nat_tests}
use Rattle.std.specs.Prelude.{◌^◌, ◌%◌, slice_get, if◌then◌else◌, option_and_then}
use Rattle.std.specs.List.{list_all}
use Rattle.std.specs.Str.{bytes_eq}
use Rattle.tl_lex.proofs.FrontLemmas.{bytes_same}
use Rattle.elf_image.specs.declared.image.Image.{Image}
use Rattle.elf_image.specs.declared.image.Symbol.{Symbol}
use Rattle.elf_image.specs.Calls.{deepest, greatest, symbol_named, word_above, word_below}
use Rattle.elf_image.specs.Exports.{param_rule}
use Rattle.elf_image.specs.Fields.{allows}
use Rattle.terra_words.specs.Runs.{word}
use Rattle.terra_words.specs.Words.{wrapped}
use Rattle.terra_types.specs.declared.types.Integer.TheVariants.{Int8, Int16, Int32, Int64, Uint8, Uint16, Uint32, Uint64}
use Rattle.terra_types.specs.declared.types.TypeForm.{TypeForm}
use Rattle.terra_types.specs.declared.types.TypeForm.TheVariants as forms
use Rattle.terra_term.specs.declared.lists.TypedName.{TypedName}
use Rattle.terra_term.specs.declared.store.Export.{Export}
use Rattle.terra_term.specs.Stores.{Contents, contents_of}
use Rattle.terra_meaning.specs.Values.{AreValues, IsValue, form_at}
use Rattle.back_end.specs.Compiled.{AreExported, IsExported, codes_of, type_code}
use Rattle.stage_image.specs.Emitted.{defined_count}
use Rattle.terrac_call.specs.Arguments.{Arguments, Good, Bad, argument_of, arguments_of, begins_with_dash, bool_word, number_word}
use Rattle.terrac_call.specs.Arguments.{size_of, then_arguments}
use Rattle.terrac_call.specs.Due.{Due, after, noting}
use Rattle.terrac_call.specs.Exec.{IsCallDue, IsGoodDue, IsRunDue, Manner, due_of_stop, shown_file}
use Rattle.terrac_call.specs.Headline.{DueTellsMeaning}
use Rattle.terrac_call.specs.Words.{Asking}
use Rattle.terrac_call.specs.Run.{manner_of, memory_of}
use Rattle.terrac_call.proofs.Calls.{both, is_true_or_false, scalar_params}
use Rattle.terrac_call.proofs.Headline.{runs_tell_meaning}

-- ---- which export a name is

-- the symbol of a name has a place, and the name
pub named_at : (name : List ℕ) (symbols : List Symbol) (s : Symbol) → symbol_named name symbols ≡ Some s
    → (i : ℕ) × (slice_get symbols i ≡ Some s) × (name ≡ s.name)
named_at name [] s found = absurd cc
named_at name (t ∷ ts) s found =
    elim (is_true_or_false (bytes_eq name t.name)) [
      | inl here ↦
          let same : ◌≡◌ {A = Option Symbol} (Some t) (Some s) = sym (ap (λ (b : Bool). cond b (Some t) (symbol_named name ts)) here)
          ∙ found in
          let is : t ≡ s = cc in
          (zero, same, bytes_same name t.name here ∙ ap (λ (x : Symbol). x.name) is)
      | inr behind ↦
          let later = named_at name ts s (sym (ap (λ (b : Bool). cond b (Some t) (symbol_named name ts)) behind) ∙ found) in
          (suc later.0, later.1, later.2)
    ]

-- where a symbol stands an export stands, for which it is
pub export_at : (store : Contents) (image : Image) (most : ℕ) (es : List Export) (ss : List Symbol) (i : ℕ) (s : Symbol)
    → AreExported store image most es ss → slice_get ss i ≡ Some s
    → (e : Export) × (slice_get es i ≡ Some e) × IsExported store image most e s
export_at store image most [] [] i s all there = absurd cc
export_at store image most [] (y ∷ ss) i s all there = absurd all
export_at store image most (x ∷ es) [] i s all there = absurd all
export_at store image most (x ∷ es) (y ∷ ss) zero s all there =
    let same : y ≡ s = cc in
    (x, refl, subst (λ (b : Symbol). IsExported store image most x b) same all.0)
export_at store image most (x ∷ es) (y ∷ ss) (suc i) s all there = export_at store image most es ss i s all.1 there

-- ---- words of arguments are values

-- a number of the range of a type code, as a word: from zero up, or so far below zero
abbrev InRange : ℕ → ℕ → Type 0
InRange code x = (x ≤ greatest code) ⊎ ((size : ℕ) × (size ≤ deepest code) × (x ≡ (2 ^ 64 - size) % 2 ^ 64))

above_in_range : (code : ℕ) (size : Option ℕ) (x : ℕ) → option_and_then (word_above code) size ≡ Some x → InRange code x
above_in_range code None x is = absurd cc
above_in_range code (Some size) x is = by (nat_le size (greatest code)) refl is
  where
    by : (b : Bool) → nat_le size (greatest code) ≡ b → (if b then Some size else None) ≡ Some x → InRange code x
    by true within same = let one : size ≡ x = cc in inl (grind (arith, nat_tests))
    by false within same = absurd cc

below_in_range : (code : ℕ) (size : Option ℕ) (x : ℕ) → option_and_then (word_below code) size ≡ Some x → InRange code x
below_in_range code None x is = absurd cc
below_in_range code (Some size) x is = by (nat_le size (deepest code)) refl is
  where
    by : (b : Bool) → nat_le size (deepest code) ≡ b → (if b then Some ((2 ^ 64 - size) % 2 ^ 64) else None) ≡ Some x → InRange code x
    by true within same = inr (size, grind (arith, nat_tests), cc)
    by false within same = absurd cc

number_in_range : (code : ℕ) (text : List ℕ) (x : ℕ) → number_word code text ≡ Some x → InRange code x
number_in_range code text x is = by (begins_with_dash text) is
  where
    by : (b : Bool) → (if b then option_and_then (word_below code) (size_of (drop 1 text))
        else option_and_then (word_above code) (size_of text)) ≡ Some x → InRange code x
    by true same = below_in_range code (size_of (drop 1 text)) x same
    by false same = above_in_range code (size_of text) x same

-- a word whose low bits are kept with their sign
kept : (half more low x : ℕ) → (low < half → low ≡ x) → (half ≤ low → low + more ≡ x) → (if nat_le half low then low + more else low) ≡ x
kept half more low x above below = grind (arith, nat_tests, above, below)

bool_kept : (text : List ℕ) (x : ℕ) → bool_word text ≡ Some x → x < 2
bool_kept text x is = by (bytes_eq text _) (bytes_eq text _) is
  where
    by : (a b : Bool) → (if a then Some 1 else (if b then Some 0 else None)) ≡ Some x → x < 2
    by true b same = let one : 1 ≡ x = cc in omega arith
    by false true same = let none : 0 ≡ x = cc in omega arith
    by false false same = absurd cc

-- the word of an argument for a type is a value of it, where its code is that of a scalar type
is_of_form : (form : TypeForm) (text : List ℕ) (x : ℕ) → allows param_rule (type_code form) ≡ true
    → argument_of (type_code form) text ≡ Some x → IsValue (form ∷ []) (record { 0 = 0 }) (word x)
unfolding wrapped
is_of_form (forms.Integer Int8) text x scalar is = (refl, by (number_in_range 1 text x is))
  where
    by : InRange 1 x → (if nat_le 128 (x % 256) then x % 256 + (2 ^ 64 - 256) else x % 256) ≡ x
    by (inl above) = kept 128 (2 ^ 64 - 256) (x % 256) x (λ h. omega arith) (λ h. omega arith)
    by (inr below) = kept 128 (2 ^ 64 - 256) (x % 256) x (λ h. omega (arith, below.1, below.2)) (λ h. omega (arith, below.1, below.2))
is_of_form (forms.Integer Int16) text x scalar is = (refl, by (number_in_range 2 text x is))
  where
    by : InRange 2 x → (if nat_le 32768 (x % 65536) then x % 65536 + (2 ^ 64 - 65536) else x % 65536) ≡ x
    by (inl above) = kept 32768 (2 ^ 64 - 65536) (x % 65536) x (λ h. omega arith) (λ h. omega arith)
    by (inr below) =
        kept 32768 (2 ^ 64 - 65536) (x % 65536) x (λ h. omega (arith, below.1, below.2)) (λ h. omega (arith, below.1, below.2))
is_of_form (forms.Integer Int32) text x scalar is = (refl, by (number_in_range 3 text x is))
  where
    by : InRange 3 x → (if nat_le (2 ^ 31) (x % 2 ^ 32) then x % 2 ^ 32 + (2 ^ 64 - 2 ^ 32) else x % 2 ^ 32) ≡ x
    by (inl above) = kept (2 ^ 31) (2 ^ 64 - 2 ^ 32) (x % 2 ^ 32) x (λ h. omega arith) (λ h. omega arith)
    by (inr below) =
        kept (2 ^ 31) (2 ^ 64 - 2 ^ 32) (x % 2 ^ 32) x (λ h. omega (arith, below.1, below.2)) (λ h. omega (arith, below.1, below.2))
is_of_form (forms.Integer Int64) text x scalar is = (refl, by (number_in_range 4 text x is))
  where
    by : InRange 4 x → (if nat_le (2 ^ 63) (x % 2 ^ 64) then x % 2 ^ 64 + (2 ^ 64 - 2 ^ 64) else x % 2 ^ 64) ≡ x
    by (inl above) = kept (2 ^ 63) 0 (x % 2 ^ 64) x (λ h. omega arith) (λ h. omega arith)
    by (inr below) = kept (2 ^ 63) 0 (x % 2 ^ 64) x (λ h. omega (arith, below.1, below.2)) (λ h. omega (arith, below.1, below.2))
is_of_form (forms.Integer Uint8) text x scalar is = (refl, by (number_in_range 5 text x is))
  where
    by : InRange 5 x → x % 256 ≡ x
    by (inl above) = omega arith
    by (inr below) = omega (arith, below.1, below.2)
is_of_form (forms.Integer Uint16) text x scalar is = (refl, by (number_in_range 6 text x is))
  where
    by : InRange 6 x → x % 65536 ≡ x
    by (inl above) = omega arith
    by (inr below) = omega (arith, below.1, below.2)
is_of_form (forms.Integer Uint32) text x scalar is = (refl, by (number_in_range 7 text x is))
  where
    by : InRange 7 x → x % 2 ^ 32 ≡ x
    by (inl above) = omega arith
    by (inr below) = omega (arith, below.1, below.2)
is_of_form (forms.Integer Uint64) text x scalar is = (refl, by (number_in_range 8 text x is))
  where
    by : InRange 8 x → x % 2 ^ 64 ≡ x
    by (inl above) = omega arith
    by (inr below) = omega (arith, below.1, below.2)
is_of_form forms.Bool text x scalar is = (refl, omega (arith, bool_kept text x is))
is_of_form (forms.Pointer t) text x scalar is = (refl, by (number_in_range 10 text x is))
  where
    by : InRange 10 x → x % 2 ^ 64 ≡ x
    by (inl above) = omega arith
    by (inr below) = omega (arith, below.1, below.2)
is_of_form forms.Unit text x scalar is = absurd cc
is_of_form (forms.Function params result) text x scalar is = absurd cc
is_of_form (forms.Array t n) text x scalar is = absurd cc
is_of_form (forms.Struct number place layout) text x scalar is = absurd cc

-- arguments that are good begin with a good one
record BeginsGood (first : Option ℕ) (others : Arguments) (values : List ℕ) : Type 0 where
  value : ℕ
  rest : List ℕ
  good : first ≡ Some value
  goods : others ≡ Good rest
  are : value ∷ rest ≡ values

begins_good : (first : Option ℕ) (position : ℕ) (others : Arguments) (values : List ℕ)
    → then_arguments first position others ≡ Good values → BeginsGood first others values
begins_good None position others values is = absurd cc
begins_good (Some value) position (Bad later) values is = absurd cc
begins_good (Some value) position (Good rest) values is =
    record { value = value; rest = rest; good = refl; goods = refl; are = cc }

-- the words of arguments for parameters of scalar types are values of these
pub are_of_types : (types : List TypeForm) (xs : List TypedName) (position : ℕ) (texts : List (List ℕ)) (values : List ℕ)
    → list_all (allows param_rule) (codes_of types xs) ≡ true → arguments_of (codes_of types xs) position texts ≡ Good values
    → AreValues types xs (map word values)
are_of_types types [] position [] [] scalar is = tt
are_of_types types [] position [] (value ∷ values) scalar is = absurd cc
are_of_types types [] position (text ∷ texts) values scalar is = absurd cc
are_of_types types (x ∷ xs) position [] values scalar is = absurd cc
are_of_types types (x ∷ xs) position (text ∷ texts) values scalar is =
    let code = type_code (form_at types x.of) in
    let scalars = both (allows param_rule code) (list_all (allows param_rule) (codes_of types xs)) scalar in
    let begins = begins_good (argument_of code text) position (arguments_of (codes_of types xs) (position + 1) texts) values is in
    subst (λ (vs : List ℕ). AreValues types (x ∷ xs) (map word vs)) begins.are (
      is_of_form (form_at types x.of) text begins.value scalars.0 begins.good,
      are_of_types types xs (position + 1) texts begins.rest scalars.1 begins.goods,
    )

-- ---- the whole

-- of a call whose name is a symbol's and whose arguments are good, the run of the image is due
pub good_due : (image : Image) (it : Asking) (manner : Manner) (symbol : Symbol) (values : List ℕ) (due : Due)
    → symbol_named it.call.entry image.exports ≡ Some symbol → arguments_of symbol.params 1 it.call.arguments ≡ Good values
    → IsCallDue image it.call manner (symbol_named it.call.entry image.exports) due → IsGoodDue image symbol manner values due
good_due image it manner symbol values due named read is =
    subst (λ (a : Arguments). IsRunDue image symbol manner a due) read
    (subst (λ (o : Option Symbol). IsCallDue image it.call manner o due) named is)

pub due_tells_meaning : DueTellsMeaning
due_tells_meaning it w due x symbol values named read =
    let store = contents_of w.store in
    let manner = manner_of it (defined_count w.store) in
    let at = named_at it.call.entry x.image.exports symbol named in
    let export = export_at store x.image (length x.image.text) w.exports.list x.image.exports at.0 symbol
    x.compiled.exported at.1 in
    let is = export.2 in
    let scalar : list_all (allows param_rule) (codes_of store.types is.function.body.parameters) ≡ true =
    subst (λ (codes : List ℕ). list_all (allows param_rule) codes ≡ true) is.params
    (scalar_params x.image it.call.entry symbol x.compiled.lawful (sym named)) in
    let reads : arguments_of (codes_of store.types is.function.body.parameters) 1 it.call.arguments ≡ Good values =
    subst (λ (codes : List ℕ). arguments_of codes 1 it.call.arguments ≡ Good values) is.params read in
    let are : AreValues store.types is.function.body.parameters (map word values) =
    are_of_types store.types is.function.body.parameters 1 it.call.arguments values scalar reads in
    let good : IsGoodDue x.image symbol manner values due = good_due x.image it manner symbol values due named read x.due_is in
    let told : ℕ → Due =
    λ code. noting (shown_file manner x.image) (after good.0.output (due_of_stop manner.front code good.0.stop)) in
    record {
      i = at.0;
      e = export.0;
      there = export.1;
      named = sym (at.2 ∙ is.name);
      function = is.function;
      is = is.is;
      read = reads;
      are_values = are;
      ran = good.0;
      tells = runs_tell_meaning store (memory_of it) w.exports.list x.image x.compiled at.0 export.0 symbol is.function
          values it.running.steps good.0 export.1 at.1 is.is are good.1;
      due_is = good.2 ∙ ap told is.result;
    }
