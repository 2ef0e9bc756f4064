-- Programs: adding an instruction, finding one by its place, and that words have one program.
use Rattle.std.proofs.Common.{◌≡◌, ◌≢◌, ℕ, ◌-◌, ◌/◌, ◌%◌, ◌^◌, ◌<◌, ◌≤◌, List, [], ◌∷◌, ◌++◌, length, get_or, map, Option, Some, None, refl}
use Rattle.std.proofs.Common.{sym, ap, ◌∙◌, ⊎_elim, arith, Bor}
use Rattle.std.specs.Prelude.{if◌then◌else◌, nat_eq, slice_get, option_map, IfSome, is_some, nat_lt, Result, Ok, Err, OnOk, IfErr}
use Rattle.std.proofs.lemmas.Bool.{cases_lt, cases_eq, lt-ltb, le-ltb, ltb-true, ltb-false, eq-eqb, ne_eqb}
use Rattle.std.proofs.lemmas.Option.{slice_get-map, slice_get_past, slice_get_read}
use Rattle.rv_isa.specs.declared.instr.Instr.{Instr}
use Rattle.rv_isa.specs.Finds.{Finds}
use Rattle.rv_isa.specs.Table.{word_of}
use Rattle.rv_isa.proofs.OneWord.{word_of-same}
use Rattle.rv_machine.specs.Program.{IsProgram}
use Rattle.rv_machine.specs.Machine.{fetch}
use Rattle.rv_machine.specs.Decoded.{found_of}
use Rattle.rv_machine.specs.declared.decoded.Decoded.{Decoded}

pub program_more : (words : List ℕ) (program : List (Option Instr)) (w : ℕ) (found : Option Instr) → IsProgram words program → Finds word_of w found → IsProgram (words ++ w ∷ []) (program ++ found ∷ [])
program_more [] [] w found h f = (f, tt)
program_more (v ∷ words) (e ∷ program) w found h f = (h.0, program_more words program w found h.1 f)
program_more [] (e ∷ program) w found h f = absurd h
program_more (v ∷ words) [] w found h f = absurd h

found_same : (w : ℕ) (a b : Option Instr) → Finds word_of w a → Finds word_of w b → a ≡ b
found_same w (Some i) (Some j) p q = ap Some (word_of-same i j (p ∙ sym q))
found_same w (Some i) None p q = absurd (q i p)
found_same w None (Some j) p q = absurd (p j q)
found_same w None None p q = refl

pub one_program : (words : List ℕ) (p q : List (Option Instr)) → IsProgram words p → IsProgram words q → p ≡ q
one_program [] [] [] f g = refl
one_program [] [] (b ∷ q) f g = absurd g
one_program [] (a ∷ p) q f g = absurd f
one_program (w ∷ words) [] q f g = absurd f
one_program (w ∷ words) (a ∷ p) [] f g = absurd g
one_program (w ∷ words) (a ∷ p) (b ∷ q) f g =
    ap (λ x. x ∷ p) (found_same w a b f.0 g.0) ∙ ap (λ xs. b ∷ xs) (one_program words p q f.1 g.1)

-- the word at an address is the one at its place among the words
pub fetch_at : (text : List Decoded) (pc index : ℕ) → (65536 ≤ pc → pc % 4 ≡ 0 → index ≡ (pc - 65536) / 4) → (pc < 65536 → 2 ^ 62 - 2 ^ 14 ≤ index) → (pc % 4 ≢ 0 → 2 ^ 62 ≤ index) → length text < 2 ^ 62 - 2 ^ 14 → fetch (map found_of text) pc ≡ option_map found_of (slice_get text index)
unfolding fetch
fetch_at text pc index inside before between short =
    ⊎_elim
    (λ low.
    ap (λ b. if b then None else (if nat_eq (pc % 4) 0 then slice_get (map found_of text) ((pc - 65536) / 4) else None)) (lt-ltb pc 65536 low)
    ∙ sym (past (omega (arith, before low))))
    (λ high.
    ap (λ b. if b then None else (if nat_eq (pc % 4) 0 then slice_get (map found_of text) ((pc - 65536) / 4) else None)) (le-ltb pc 65536 high)
    ∙ ⊎_elim
    (λ even.
    ap (λ b. if b then slice_get (map found_of text) ((pc - 65536) / 4) else None) (eq-eqb (pc % 4) 0 even)
    ∙ slice_get-map found_of text ((pc - 65536) / 4)
    ∙ ap (λ i. option_map found_of (slice_get text i)) (sym (inside high even)))
    (λ odd.
    ap (λ b. if b then slice_get (map found_of text) ((pc - 65536) / 4) else None) (ne_eqb (pc % 4) 0 odd)
    ∙ sym (past (omega (arith, between odd))))
    (cases_eq (pc % 4) 0))
    (cases_lt pc 65536)
  where
    past : length text ≤ index → option_map found_of (slice_get text index) ≡ None
    past h = ap (option_map found_of) (slice_get_past text index h)

-- no word of text is at address 0
pub not_at_zero : (program : List (Option Instr)) (pc : ℕ) (found : Option Instr) → Some found ≡ fetch program pc → pc ≢ 0
unfolding fetch
not_at_zero program pc found there zero = let e : Some found ≡ None = there ∙ ap (fetch program) zero in cc

-- the instruction of a word that is read at a place
pub found_at : (text : List Decoded) (i : ℕ) (word : Option (Bor Decoded)) → is_some word ≡ nat_lt i (length text) → IfSome word (λ w. w.now ≡ get_or text i w.now) → option_map (λ w. found_of w.now) word ≡ option_map found_of (slice_get text i)
found_at text i None some is = ap (option_map found_of) (sym (slice_get_past text i (ltb-false i (length text) (sym some))))
found_at text i (Some w) some is =
    ap (option_map found_of) (sym (slice_get_read text (length text) i w.now refl (ltb-true i (length text) (sym some)) is))

-- what holds whatever the result, holds where it is Ok and where it is Err
pub on_ok : {A E : Type 0} (r : Result A E) (P : Type 0) → P → OnOk r P
on_ok (Ok a) P p = p
on_ok (Err e) P p = tt

pub if_err : {A E : Type 0} (r : Result A E) (P : E → Type 0) → ((e : E) → P e) → IfErr r P
if_err (Ok a) P p = tt
if_err (Err e) P p = p e
