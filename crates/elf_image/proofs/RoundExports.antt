-- The exports of a file that was written are read.
use Rattle.std.proofs.Common.{◌≡◌, ℕ, zero, suc, ◌+◌, ◌-◌, ◌^◌, ◌<◌, ◌≤◌, Bool, true, false, ◌&&◌, cond, eqb, leb, ltb, List, [], ◌∷◌, ◌++◌}
use Rattle.std.proofs.Common.{length, get_or, drop, replicate, slice_range, Option, None, refl, sym, ap, ◌∙◌, inl, inr, arith, add-zero}
use Rattle.std.proofs.Common.{append_assoc}
use Rattle.std.specs.List.{list_all}
use Rattle.std.specs.Option.{is_none}
use Rattle.std.proofs.lemmas.Bool.{leb-true, le-leb, ne_eqb, lt-ltb, le-ltb, ltb-true, cases_lt}
use Rattle.std.proofs.lemmas.List.{length-append, get_or_append_left, get_or-append_right, get_or-replicate, drop-drop, drop_at}
use Rattle.elf_image.specs.declared.error.ImageError.{ImageError}
use Rattle.elf_image.specs.declared.error.ImageError.TheVariants.{BadField}
use Rattle.elf_image.specs.declared.rule.Rule.TheVariants.{Is, Between}
use Rattle.elf_image.specs.declared.image.Symbol.{Symbol}
use Rattle.elf_image.specs.declared.layout.Layout.{Layout}
use Rattle.elf_image.specs.Fields.{number_at, u8_at, u32_at, u64_at, allows, unless, or_else, bad_field, bad_fields}
use Rattle.elf_image.specs.Layout.{text_address}
use Rattle.elf_image.specs.Exports.{names_of, before_zero, code_rule, param_rule, result_rule, code_fields, record_fields, bad_record}
use Rattle.elf_image.specs.Exports.{bad_records, symbol_at, symbols_at, symbol_fields, is_in_text, is_name_at, is_right, are_right}
use Rattle.elf_image.specs.Lawful.{is_name, is_lawful_symbol, names_fit}
use Rattle.elf_image.specs.Written.{numbers, codes_bytes, record_bytes, records_bytes, symbol_bytes, symbols_bytes, names_bytes}
use Rattle.elf_image.proofs.Steps.{and_true}
use Rattle.elf_image.proofs.Passed.{none_bad_fields}
use Rattle.elf_image.proofs.NameBytes.{before_zero-append}
use Rattle.elf_image.proofs.LawfulLemmas.{and_intro}
use Rattle.elf_image.proofs.ReadLawful.{number_at-1}
use Rattle.elf_image.proofs.Has.{Has, Has-left, Has-next, Holds, holds, length-numbers, range-has, is_allowed, by_rule}
use Rattle.elf_image.proofs.Lengths.{length-codes, length-record, length-symbol, params_few}
use Rattle.elf_image.proofs.RoundHeaders.{small, Has-start}

-- ---- the name

pub before_zero_is : (xs : List ℕ) → list_all (allows (Between 1 255)) xs ≡ true → before_zero xs ≡ xs
before_zero_is [] e = refl
before_zero_is (zero ∷ xs) e = absurd cc
before_zero_is (suc b ∷ xs) e =
    let a = and_true (allows (Between 1 255) (suc b)) (list_all (allows (Between 1 255)) xs) e in
    let ne : eqb (suc b) 0 ≡ false = ne_eqb (suc b) 0 (λ (z : suc b ≡ 0). omega arith) in
    ap (λ (v : Bool). cond v [] (suc b ∷ before_zero xs)) ne ∙ ap (λ (ys : List ℕ). suc b ∷ ys) (before_zero_is xs a.1)

-- ---- a record

abbrev tail_rows : ℕ → Symbol → List (ℕ × ℕ)
tail_rows name s = (1, length s.params) ∷ (1, s.result) ∷ (1, 0) ∷ (1, 0) ∷ (4, name) ∷ []

pub record RecordHolds (bytes : List ℕ) (r name : ℕ) (s : Symbol) : Type 0 where
  pub address : u64_at bytes r ≡ s.address
  pub codes : Has bytes (r + 8) (codes_bytes s.params)
  pub tail : Holds bytes r 16 (tail_rows name s)

pub record_holds : (bytes : List ℕ) (text r name : ℕ) (s : Symbol) → Has bytes r (record_bytes name s) → is_lawful_symbol text s ≡ true → name < 2 ^ 32 → text_address + text ≤ 2 ^ 64 → RecordHolds bytes r name s
unfolding record_bytes
record_holds bytes text r name s h e lt top =
    let few = params_few text s e in
    let first : List (ℕ × ℕ) = (8, s.address) ∷ [] in
    let rest = codes_bytes s.params ++ numbers (tail_rows name s) in
    let a = and_true (is_name s.name) _ e in
    let b = and_true (is_in_text text s.address) _ a.1 in
    let c = and_true (leb text_address s.address) _ b.0 in
    let d = and_true (ltb s.address (text_address + text)) _ c.1 in
    let below : s.address < text_address + text = ltb-true _ _ d.0 in
    let f = and_true _ (allows result_rule s.result) b.1 in
    let g = and_true (leb 0 s.result) (leb s.result 10) f.1 in
    let result : s.result ≤ 10 = leb-true _ _ g.1 in
    let h1 = Has-left bytes r (numbers first) rest h in
    let h2 : Has bytes (r + 8) rest = Has-next bytes r (r + 8) (numbers first) rest h (omega (arith, length-numbers first)) in
    let h3 : Has bytes (r + 16) (numbers (tail_rows name s)) = Has-next bytes (r + 8) (r + 16) (codes_bytes s.params) (numbers (tail_rows name s)) h2 (omega (arith, length-codes s.params few)) in
    let n0 = holds bytes r 0 first (Has-start bytes r (numbers first) h1) (omega arith, tt) in
    record {
      address = ap (λ (k : ℕ). number_at 8 bytes k) (sym (add-zero r)) ∙ n0.0;
      codes = Has-left bytes (r + 8) (codes_bytes s.params) (numbers (tail_rows name s)) h2;
      tail = holds bytes r 16 (tail_rows name s) h3 (omega arith, (omega arith, (small _ _ refl, (small _ _ refl, (lt, tt)))));
    }

list_all-at : (p : ℕ → Bool) (xs : List ℕ) (k : ℕ) → list_all p xs ≡ true → k < length xs → p (get_or xs k 0) ≡ true
list_all-at p [] k e lt = absurd (omega arith)
list_all-at p (x ∷ xs) zero e lt = (and_true (p x) (list_all p xs) e).0
list_all-at p (x ∷ xs) (suc k) e lt = list_all-at p xs k (and_true (p x) (list_all p xs) e).1 (omega arith)

code_stands : (params : List ℕ) (k : ℕ) → list_all (allows param_rule) params ≡ true → k < 8 → allows (code_rule (length params) k) (get_or (codes_bytes params) k 0) ≡ true
code_stands params k e lt =
    elim (cases_lt k (length params)) [
      | inl in_front ↦
          let at : get_or (codes_bytes params) k 0 ≡ get_or params k 0 = get_or_append_left params (replicate (8 - length params) 0) 0 k in_front in
          let rule : code_rule (length params) k ≡ param_rule = ap (λ v. cond v param_rule (Is 0)) (lt-ltb k (length params) in_front) in
          ap (λ r. allows r (get_or (codes_bytes params) k 0)) rule ∙ ap (allows param_rule) at ∙ list_all-at (allows param_rule) params k e in_front
      | inr past ↦
          let at : get_or (codes_bytes params) k 0 ≡ 0 = get_or-append_right params (replicate (8 - length params) 0) (length params) k 0 refl past ∙ get_or-replicate (8 - length params) (k - length params) 0 0 (omega arith) in
          let rule : code_rule (length params) k ≡ Is 0 = ap (λ v. cond v param_rule (Is 0)) (le-ltb k (length params) past) in
          ap (λ r. allows r (get_or (codes_bytes params) k 0)) rule ∙ is_allowed (get_or (codes_bytes params) k 0) 0 at
    ]

codes_none : (bytes params : List ℕ) (r i m : ℕ) → Has bytes (r + 8) (codes_bytes params) → length (codes_bytes params) ≡ 8 → list_all (allows param_rule) params ≡ true → i + m ≤ 8 → bad_fields bytes r (code_fields (length params) i m) ≡ None
unfolding code_fields bad_field
codes_none bytes params r i zero h len e le = refl
codes_none bytes params r i (suc m) h len e le =
    let place : r + (8 + i) ≡ r + 8 + i = omega arith in
    let at : number_at 1 bytes (r + (8 + i)) ≡ get_or (codes_bytes params) i 0 = number_at-1 (r + (8 + i)) bytes ∙ ap (λ (j : ℕ). get_or bytes j 0) place ∙ h.each i (omega arith) in
    let passed : allows (code_rule (length params) i) (number_at 1 bytes (r + (8 + i))) ≡ true = ap (allows (code_rule (length params) i)) at ∙ code_stands params i e (omega arith) in
    ap (λ (v : Bool). or_else (unless v (BadField (r + (8 + i)))) (bad_fields bytes r (code_fields (length params) (i + 1) m))) passed
    ∙ codes_none bytes params r (i + 1) m h len e (omega arith)

pub record_ok : (bytes : List ℕ) (text r name : ℕ) (s : Symbol) → RecordHolds bytes r name s → is_lawful_symbol text s ≡ true → bad_record bytes r ≡ None
unfolding bad_record
record_ok bytes text r name s h e =
    let few = params_few text s e in
    let a = and_true (is_name s.name) _ e in
    let b = and_true (is_in_text text s.address) _ a.1 in
    let c = and_true _ (allows result_rule s.result) b.1 in
    let d = and_true (leb (length s.params) 8) (list_all (allows param_rule) s.params) c.0 in
    let codes : bad_fields bytes r (code_fields (u8_at bytes (r + 16)) 0 8) ≡ None = ap (λ (n : ℕ). bad_fields bytes r (code_fields n 0 8)) h.tail.0 ∙ codes_none bytes s.params r 0 8 h.codes (length-codes s.params few) d.1 (omega arith) in
    let rest = none_bad_fields bytes r record_fields (
      by_rule (Between 0 8) _ _ h.tail.0 (and_intro (leb 0 (length s.params)) (leb (length s.params) 8) (le-leb _ _ (omega arith)) d.0),
      (
        by_rule result_rule _ _ h.tail.1.0 c.1,
        (is_allowed _ _ h.tail.1.1.0, (is_allowed _ _ h.tail.1.1.1.0, tt)),
      ),
    ) in
    ap (λ (v : Option ImageError). or_else v (bad_fields bytes r record_fields)) codes ∙ rest

-- ---- an entry of `.symtab`, and what the record says

abbrev symbol_rows : ℕ → Symbol → List (ℕ × ℕ)
symbol_rows name s = (4, name) ∷ (1, 0x12) ∷ (1, 0) ∷ (2, 1) ∷ (8, s.address) ∷ (8, 0) ∷ []

symbol_holds : (bytes : List ℕ) (text y name : ℕ) (s : Symbol) → Has bytes y (symbol_bytes name s) → is_lawful_symbol text s ≡ true → name < 2 ^ 32 → text_address + text ≤ 2 ^ 64 → Holds bytes y 0 (symbol_rows name s)
unfolding symbol_bytes
symbol_holds bytes text y name s h e lt top =
    let a = and_true (is_name s.name) _ e in
    let b = and_true (is_in_text text s.address) _ a.1 in
    let c = and_true (leb text_address s.address) _ b.0 in
    let d = and_true (ltb s.address (text_address + text)) _ c.1 in
    let below : s.address < text_address + text = ltb-true _ _ d.0 in
    holds bytes y 0 (symbol_rows name s) (Has-start bytes y _ h) (lt, (small _ _ refl, (small _ _ refl, (small _ _ refl, (omega arith, (small _ _ refl, tt))))))

-- the names from one on stand in `.strtab`
name_next : (names : List ℕ) (name : ℕ) (xs rest : List ℕ) → drop name names ≡ xs ++ 0 ∷ rest → drop (name + length xs + 1) names ≡ rest
name_next names name xs rest e =
    let split : drop (length xs + 1) (xs ++ 0 ∷ rest) ≡ rest = ap (drop (length xs + 1)) (sym (append_assoc xs (0 ∷ []) rest)) ∙ drop_at (xs ++ 0 ∷ []) rest (length xs + 1) (omega (arith, length-append xs (0 ∷ []))) in
    ap (λ (k : ℕ). drop k names) (omega arith) ∙ sym (drop-drop (length xs + 1) name names) ∙ ap (drop (length xs + 1)) e ∙ split

symbol_round : (l : Layout) (bytes : List ℕ) (text r name : ℕ) (s : Symbol) (rest : List ℕ) → RecordHolds bytes r name s → is_lawful_symbol text s ≡ true → drop name (names_of l bytes) ≡ s.name ++ 0 ∷ rest → symbol_at l bytes r ≡ s
unfolding symbol_at
symbol_round l bytes text r name s rest h e d =
    let few = params_few text s e in
    let a = and_true (is_name s.name) _ e in
    let b = and_true (leb 1 (length s.name) && leb (length s.name) 255) _ a.0 in
    let named : before_zero (drop (u32_at bytes (r + 20)) (names_of l bytes)) ≡ s.name = ap (λ (k : ℕ). before_zero (drop k (names_of l bytes))) h.tail.1.1.1.1.0 ∙ ap before_zero d ∙ before_zero-append s.name rest (before_zero_is s.name b.1) in
    let params : slice_range bytes (r + 8) (r + 8 + u8_at bytes (r + 16)) ≡ s.params = ap (λ (n : ℕ). slice_range bytes (r + 8) (r + 8 + n)) h.tail.0 ∙ range-has bytes (r + 8) (length s.params) s.params (Has-left bytes (r + 8) s.params (replicate (8 - length s.params) 0) h.codes) refl in
    rw (named, h.address, params, h.tail.1.0) refl

symbol_right : (l : Layout) (bytes : List ℕ) (text r y name : ℕ) (s : Symbol) (rest : List ℕ) → RecordHolds bytes r name s → Holds bytes y 0 (symbol_rows name s) → is_lawful_symbol text s ≡ true → l.text.size ≡ text → drop name (names_of l bytes) ≡ s.name ++ 0 ∷ rest → is_right l bytes r y ≡ true
unfolding is_right
symbol_right l bytes text r y name s rest h k e t d =
    let a = and_true (is_name s.name) _ e in
    let b = and_true (is_in_text text s.address) _ a.1 in
    let c = and_true (leb 1 (length s.name) && leb (length s.name) 255) _ a.0 in
    let n : u32_at bytes (r + 20) ≡ name = h.tail.1.1.1.1.0 in
    let rows = none_bad_fields bytes y (symbol_fields (u32_at bytes (r + 20)) (u64_at bytes r))
    (is_allowed _ _ (k.0 ∙ sym n), (is_allowed _ _ k.1.0, (is_allowed _ _ k.1.1.0, (is_allowed _ _ k.1.1.1.0, (is_allowed _ _ (k.1.1.1.1.0 ∙ sym h.address), (is_allowed _ _ k.1.1.1.1.1.0, tt)))))) in
    let in_text : is_in_text l.text.size (u64_at bytes r) ≡ true = ap (λ (x : ℕ). is_in_text x (u64_at bytes r)) t ∙ ap (is_in_text text) h.address ∙ b.0 in
    let text_is : before_zero (s.name ++ 0 ∷ rest) ≡ s.name = before_zero-append s.name rest (before_zero_is s.name c.1) in
    let ended : ltb (length s.name) (length (s.name ++ 0 ∷ rest)) ≡ true = lt-ltb _ _ (omega (arith, length-append s.name (0 ∷ rest))) in
    let named : is_name_at (s.name ++ 0 ∷ rest) ≡ true = ap (λ (xs : List ℕ). ltb (length xs) (length (s.name ++ 0 ∷ rest)) && (leb 1 (length xs) && leb (length xs) 255)) text_is ∙ and_intro _ _ ended c.0 in
    let stands : is_name_at (drop (u32_at bytes (r + 20)) (names_of l bytes)) ≡ true = ap (λ (j : ℕ). is_name_at (drop j (names_of l bytes))) n ∙ ap is_name_at d ∙ named in
    and_intro (is_none (bad_fields bytes y (symbol_fields (u32_at bytes (r + 20)) (u64_at bytes r)))) _ (ap (λ (v : Option ImageError). is_none v) rows) (and_intro _ _ in_text stands)

-- ---- all exports

pub record ExportsRound (l : Layout) (bytes : List ℕ) (r y : ℕ) (ss : List Symbol) : Type 0 where
  pub records : bad_records (length ss) bytes r ≡ None
  pub right : are_right (length ss) l bytes r y ≡ true
  pub symbols : symbols_at (length ss) l bytes r ≡ ss

pub exports_round : (l : Layout) (bytes : List ℕ) (text r y name : ℕ) (ss : List Symbol) → Has bytes r (records_bytes name ss) → Has bytes y (symbols_bytes name ss) → drop name (names_of l bytes) ≡ names_bytes ss
    → list_all (is_lawful_symbol text) ss ≡ true → names_fit name ss ≡ true → text_address + text ≤ 2 ^ 64 → l.text.size ≡ text → ExportsRound l bytes r y ss
unfolding records_bytes symbols_bytes names_bytes bad_records are_right symbols_at
exports_round l bytes text r y name [] hr hy hn e f top t = record { records = refl; right = refl; symbols = refl }
exports_round l bytes text r y name (s ∷ ss) hr hy hn e f top t =
    let a = and_true (is_lawful_symbol text s) (list_all (is_lawful_symbol text) ss) e in
    let b = and_true (ltb name (2 ^ 32)) (names_fit (name + length s.name + 1) ss) f in
    let lt = ltb-true name (2 ^ 32) b.0 in
    let next = name + length s.name + 1 in
    let few = params_few text s a.0 in
    let rh = record_holds bytes text r name s (Has-left bytes r (record_bytes name s) (records_bytes next ss) hr) a.0 lt top in
    let yh = symbol_holds bytes text y name s (Has-left bytes y (symbol_bytes name s) (symbols_bytes next ss) hy) a.0 lt top in
    let hr' = Has-next bytes r (r + 24) (record_bytes name s) (records_bytes next ss) hr (omega (arith, length-record name s few)) in
    let hy' = Has-next bytes y (y + 24) (symbol_bytes name s) (symbols_bytes next ss) hy (omega (arith, length-symbol name s)) in
    let hn' = name_next (names_of l bytes) name s.name (names_bytes ss) hn in
    let ih = exports_round l bytes text (r + 24) (y + 24) next ss hr' hy' hn' a.1 b.1 top t in
    record {
      records = ap (λ (v : Option ImageError). or_else v (bad_records (length ss) bytes (r + 24))) (record_ok bytes text r name s rh a.0) ∙ ih.records;
      right = and_intro _ _ (symbol_right l bytes text r y name s (names_bytes ss) rh yh a.0 t hn) ih.right;
      symbols = ap (λ (x : Symbol). x ∷ symbols_at (length ss) l bytes (r + 24)) (symbol_round l bytes text r name s (names_bytes ss) rh a.0 hn) ∙ ap (λ (xs : List Symbol). s ∷ xs) ih.symbols;
    }
