-- Which images are lawful.
use Rattle.std.proofs.Common.{◌≡◌, ℕ, ◌+◌, ◌*◌, ◌^◌, ◌<◌, ◌≤◌, Bool, true, false, ◌&&◌, eqb, leb, ltb, List, [], ◌∷◌, length, get_or, sym, ap}
use Rattle.std.proofs.Common.{subst, ◌∙◌, arith}
use Rattle.std.specs.List.{list_all}
use Rattle.std.proofs.lemmas.Bool.{leb-true, le-leb, ltb-true, eqb-true, lt-ltb}
use Rattle.elf_image.specs.declared.image.Symbol.{Symbol}
use Rattle.elf_image.specs.declared.image.Image.{Image}
use Rattle.elf_image.specs.declared.image.Entry.{Entry}
use Rattle.elf_image.specs.Fields.{allows}
use Rattle.elf_image.specs.Layout.{heap_start, memory_rule, private_rule}
use Rattle.elf_image.specs.Exports.{names_differ}
use Rattle.elf_image.specs.Lawful.{IsLawful, is_lawful_symbol, is_lawful_entry, names_fit}
use Rattle.elf_image.specs.Written.{names_size, layout_for, file_size}
use Rattle.elf_image.proofs.Steps.{and_true}

-- the name of a lawful symbol has at most 255 bytes
pub name_le : (text : ℕ) (s : Symbol) → is_lawful_symbol text s ≡ true → length s.name ≤ 255
name_le text s e = leb-true _ _ (and_true _ _ (and_true _ _ (and_true _ _ e).0).0).1

-- where the offsets of all names fit, the names end soon after
pub names_end : (text at : ℕ) (ss : List Symbol) → at ≤ 2 ^ 32 + 256 → list_all (is_lawful_symbol text) ss ≡ true → names_fit at ss ≡ true → at + names_size ss ≤ 2 ^ 32 + 256
unfolding names_size
names_end text at [] le e f = omega arith
names_end text at (s ∷ ss) le e f =
    let a = and_true (is_lawful_symbol text s) (list_all (is_lawful_symbol text) ss) e in
    let b = and_true (ltb at (2 ^ 32)) (names_fit (at + length s.name + 1) ss) f in
    let n = name_le text s a.0 in
    let lt = ltb-true at (2 ^ 32) b.0 in
    let h = names_end text (at + length s.name + 1) ss (omega arith) a.1 b.1 in
    omega arith

pub file_size_lt : (i : Image) → 4 * length i.text < 2 ^ 63 → length i.statics ≤ 67108864 → length i.entries ≤ 131072 → length i.exports < 2 ^ 32 → list_all (is_lawful_symbol (4 * length i.text)) i.exports ≡ true → names_fit 36 i.exports ≡ true → file_size i < 2 ^ 64
unfolding layout_for
file_size_lt i t s m n e f =
    let h = names_end (4 * length i.text) 36 i.exports (omega arith) e f in
    omega arith

abbrev pub entries_test : ℕ → List Entry → Bool
entries_test text es = leb (length es) 131072 && list_all (is_lawful_entry text (length es)) es

pub is_lawful_from : (i : Image) → 4 * length i.text < 2 ^ 63 → ((k : ℕ) → get_or i.text k 0 < 2 ^ 32) → ((k : ℕ) → get_or i.statics k 0 < 2 ^ 8)
    → (allows memory_rule i.memory && (leb (2 * length i.statics) i.memory && (eqb i.heap (heap_start (length i.statics)) && allows private_rule i.private))) ≡ true
    → entries_test (4 * length i.text) i.entries ≡ true
    → list_all (is_lawful_symbol (4 * length i.text)) i.exports ≡ true → names_differ i.exports ≡ true → length i.exports < 2 ^ 32 → names_fit 36 i.exports ≡ true → IsLawful i
is_lawful_from i text words bytes memories entries symbols differ count names =
    let a = and_true _ _ memories in
    let b = and_true _ _ a.1 in
    let c = and_true _ _ b.1 in
    let half : 2 * length i.statics ≤ i.memory = leb-true _ _ b.0 in
    let most : i.memory ≤ 67108864 = leb-true _ _ (and_true _ _ (and_true _ _ a.0).1).1 in
    let d = and_true (leb (length i.entries) 131072) (list_all (is_lawful_entry (4 * length i.text) (length i.entries)) i.entries) entries in
    let many : length i.entries ≤ 131072 = leb-true _ _ d.0 in
    record {
      words = words;
      bytes = bytes;
      addresses = omega arith;
      memory = a.0;
      statics = half;
      heap = eqb-true _ _ c.0;
      private = c.1;
      entries = d.1;
      many = many;
      symbols = symbols;
      differ = differ;
      count = count;
      names = names;
      size = file_size_lt i text (omega arith) many count symbols names;
    }

abbrev exports_test : ℕ → List Symbol → Bool
exports_test text ss = list_all (is_lawful_symbol text) ss && (names_differ ss && (ltb (length ss) (2 ^ 32) && names_fit 36 ss))

pub and_intro : (a b : Bool) → a ≡ true → b ≡ true → (a && b) ≡ true
and_intro a b ea eb = ap (λ (v : Bool). v && b) ea ∙ eb

exports_from : (i : Image) → IsLawful i → exports_test (4 * length i.text) i.exports ≡ true
exports_from i h =
    and_intro _ _ h.symbols (and_intro _ _ h.differ (and_intro _ _ (lt-ltb _ _ h.count) h.names))

entries_from : (i : Image) → IsLawful i → entries_test (4 * length i.text) i.entries ≡ true
entries_from i h = and_intro _ _ (le-leb _ _ h.many) h.entries

-- the test of the entries in a text that the image has
entries_test_is : (i : Image) (words : List ℕ) (entries : List Entry) (text : ℕ) (f : Bool) → words ≡ i.text → entries ≡ i.entries → text ≡ 4 * length words → f ≡ entries_test text entries → f ≡ entries_test (4 * length i.text) i.entries
entries_test_is i words entries text f ew en et tf =
    let text-is : text ≡ 4 * length i.text = omega (arith, ap length ew) in
    tf ∙ ap (λ (n : ℕ). entries_test n entries) text-is ∙ ap (entries_test (4 * length i.text)) en

-- an image whose entries have not passed their test isn't lawful
pub entries_refused : (i : Image) (words : List ℕ) (entries : List Entry) (text : ℕ) (f : Bool) → words ≡ i.text → entries ≡ i.entries → text ≡ 4 * length words → f ≡ entries_test text entries → f ≡ false → (false ≡ true → IsLawful i) × (IsLawful i → false ≡ true)
entries_refused i words entries text f ew en et tf failed =
    (no_true (IsLawful i), λ (h : IsLawful i). sym failed ∙ entries_test_is i words entries text f ew en et tf ∙ entries_from i h)
  where
    no_true : (X : Type 0) → false ≡ true → X
    no_true X e = absurd cc

-- what the test of an image answers: its memories and its entries have passed, and e says whether its exports do
pub is_lawful_iff : (i : Image) (words statics : List ℕ) (entries : List Entry) (exports : List Symbol) (text : ℕ) (m f e : Bool)
    → words ≡ i.text → statics ≡ i.statics → entries ≡ i.entries → exports ≡ i.exports → text ≡ 4 * length words → text < 2 ^ 63
    → ((k : ℕ) → get_or words k 0 < 2 ^ 32) → ((k : ℕ) → get_or statics k 0 < 2 ^ 8)
    → m ≡ (allows memory_rule i.memory && (leb (2 * length statics) i.memory && (eqb i.heap (heap_start (length statics)) && allows private_rule i.private)))
    → m ≡ true → f ≡ entries_test text entries → f ≡ true → e ≡ exports_test text exports → (e ≡ true → IsLawful i) × (IsLawful i → e ≡ true)
is_lawful_iff i words statics entries exports text m f e ew es en ee et lt bw bs em tm ef tf te =
    let size : 4 * length i.text < 2 ^ 63 = omega (arith, ap length ew) in
    let text-is : text ≡ 4 * length i.text = omega (arith, ap length ew) in
    let bounds : (k : ℕ) → get_or i.text k 0 < 2 ^ 32 = λ k. subst (λ (xs : List ℕ). get_or xs k 0 < 2 ^ 32) ew (bw k) in
    let bytes : (k : ℕ) → get_or i.statics k 0 < 2 ^ 8 = λ k. subst (λ (xs : List ℕ). get_or xs k 0 < 2 ^ 8) es (bs k) in
    let M : List ℕ → Bool = λ xs. allows memory_rule i.memory && (leb (2 * length xs) i.memory && (eqb i.heap (heap_start (length xs)) && allows private_rule i.private)) in
    let memories : M i.statics ≡ true = ap M (sym es) ∙ sym em ∙ tm in
    let same : e ≡ exports_test (4 * length i.text) i.exports = te ∙ ap (λ (n : ℕ). exports_test n exports) text-is ∙ ap (exports_test (4 * length i.text)) ee in (
      λ (t : e ≡ true).
          let a = and_true _ _ (sym same ∙ t) in
          let b = and_true _ _ a.1 in
          let d = and_true _ _ b.1 in
          is_lawful_from i size bounds bytes memories (sym (entries_test_is i words entries text f ew en et ef) ∙ tf) a.0 b.0 (ltb-true _ _ d.0) d.1,
      λ (h : IsLawful i). same ∙ exports_from i h,
    )
