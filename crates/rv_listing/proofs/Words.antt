-- Words and their texts: a word has one text, and what is read of a text is its word.
use Rattle.std.proofs.Common.{◌≡◌, ◌∙◌, ℕ, ◌<◌, ◌≤◌, ◌^◌, ◌-◌, Result, Ok, length-drop, take_all, arith, Bool, true, false, cond, eqb, List, [], ◌∷◌, ◌++◌, length, take, drop, Option, Some, None, refl, sym, ap, subst, inl, inr}
use Rattle.std.specs.Prelude.{codes}
use Rattle.std.specs.Str.{bytes_eq}
use Rattle.std.proofs.lemmas.Slice.Eq.{bytes_eq-Decides}
use Rattle.std.proofs.lemmas.Bool.{both_ways}
use Rattle.rv_listing.specs.declared.reading.AsmError.{AsmError}
use Rattle.std.proofs.Math.Seq.{drop-append_seam}
use Rattle.rv_isa.specs.Finds.{Finds}
use Rattle.rv_isa.specs.Table.{word_of}
use Rattle.rv_isa.specs.declared.instr.Instr.{Instr}
use Rattle.rv_isa.proofs.OneWord.{word_of-same}
use Rattle.rv_listing.specs.declared.names.Operation.{Operation}
use Rattle.rv_listing.specs.Texts.{name_of, operands_of, instr_text, hex8, text_in, IsWordText}
use Rattle.rv_listing.specs.Assembly.{name_in, IsName}
use Rattle.rv_listing.specs.Reading.{operation_of, operation_name, operation_named, hex_all, scan_all, scan_start, Fills}
use Rattle.rv_listing.proofs.Operations.{named_again, name_of_operation, name_in_text, named_has_name}
use Rattle.rv_listing.proofs.Scanning.{fills_again}
use Rattle.rv_listing.proofs.Hexadecimal.{before_digits, digits_back}

-- a word has one text
one_found : (w : ℕ) (f g : Option Instr) → Finds word_of w f → Finds word_of w g → text_in w f ≡ text_in w g
one_found w (Some i) (Some j) a b = ap instr_text (word_of-same i j (a ∙ sym b))
one_found w (Some i) None a b = absurd (b i a)
one_found w None (Some j) a b = absurd (a j b)
one_found w None None a b = refl

pub one_text : (w : ℕ) (t u : List ℕ) → IsWordText w t → IsWordText w u → t ≡ u
one_text w t u a b = a.2 ∙ (one_found w a.0 b.0 a.1 b.1 ∙ sym b.2)

-- each text begins with a name
begins_named : (w : ℕ) (f : Option Instr) → IsName (name_in (text_in w f))
begins_named w (Some i) = inr (i, sym (name_in_text i))
begins_named w None = inl refl

pub text_named : (w : ℕ) (line : List ℕ) → IsWordText w line → IsName (name_in line)
text_named w line t = subst (λ (l : List ℕ). IsName (name_in l)) (sym t.2) (begins_named w t.0)

-- the name is the front of its line
pub front_is_name : (line : List ℕ) → take (length (name_in line)) line ≡ name_in line
front_is_name [] = refl
front_is_name (b ∷ bs) =
    elim (eqb b 32) as (λ v. take (length (cond v [] (b ∷ name_in bs))) (b ∷ bs) ≡ cond v [] (b ∷ name_in bs)) [
      | true ↦ refl
      | false ↦ ap (λ (l : List ℕ). b ∷ l) (front_is_name bs)
    ]

-- `word` is the name of no instruction
pub word_unnamed : (i : Instr) → name_of i ≡ codes "word" → ⊥
word_unnamed i e =
    let is : operation_named (name_of i) ≡ Some (operation_of i) = ap operation_named (name_of_operation i) ∙ named_again (operation_of i) in
    let none : operation_named (codes "word") ≡ None = refl in
    let same : operation_named (name_of i) ≡ operation_named (codes "word") = ap operation_named e in
    let wrong : Some (operation_of i) ≡ None = sym is ∙ (same ∙ none) in
    cc

-- what is read behind `word`
pub word_read : (w : ℕ) (line operands : List ℕ) → w < 2 ^ 32 → IsWordText w line → name_in line ≡ codes "word" → operands ≡ drop (length (name_in line)) line
    → hex_all 0 operands ≡ w
word_read w line operands small (Some i, finds, is) named from =
    absurd (word_unnamed i (sym (name_in_text i) ∙ (ap name_in (sym is) ∙ named)))
word_read w line operands small (None, finds, is) named from =
    let rest : operands ≡ 32 ∷ 48 ∷ 120 ∷ hex8 w = from ∙ ap (λ (l : List ℕ). drop (length (name_in l)) l) is in
    ap (hex_all 0) rest ∙ (before_digits (hex8 w) ∙ digits_back w small)

-- no name that isn't found names anything
pub unnamed : (name : List ℕ) → (name ≡ codes "word" → ⊥) → operation_named name ≡ None → IsName name → ⊥
unnamed name other none (inl e) = other e
unnamed name other none (inr (i, e)) =
    let is : operation_named name ≡ Some (operation_of i) = ap operation_named (sym e ∙ name_of_operation i) ∙ named_again (operation_of i) in
    cc

-- an instruction of a name's operation makes it a name
pub operation_names : (name : List ℕ) (o : Operation) (i : Instr) → operation_named name ≡ Some o → operation_of i ≡ o → IsName name
operation_names name o i named is = inr (i, name_of_operation i ∙ (ap operation_name is ∙ named_has_name name o named))

-- what is read of an instruction
pub instruction_read : (w : ℕ) (line name operands : List ℕ) (o : Operation) (got : Instr)
    → name ≡ name_in line → operands ≡ drop (length (name_in line)) line
    → (name ≡ codes "word" → ⊥) → operation_named name ≡ Some o
    → ((i : Instr) → operation_of i ≡ o → Fills i (scan_all scan_start operands) → got ≡ i)
    → IsWordText w line → word_of got ≡ w
instruction_read w line name operands o got is from other named filled (Some i, finds, same) =
    let its_name : name_in line ≡ name_of i = ap name_in same ∙ name_in_text i in
    let operation : operation_of i ≡ o =
    (let found : operation_named name ≡ Some (operation_of i) = ap operation_named (is ∙ (its_name ∙ name_of_operation i)) ∙ named_again (operation_of i) in cc) in
    let at : length (name_in line) ≡ length (name_of i) = ap length its_name in
    let rest : operands ≡ operands_of i =
    from ∙ (ap (λ (n : ℕ). drop n line) at ∙ (ap (drop (length (name_of i))) same ∙ drop-append_seam (name_of i) (operands_of i))) in
    let fills : Fills i (scan_all scan_start operands) = subst (λ (l : List ℕ). Fills i (scan_all scan_start l)) (sym rest) (fills_again i) in
    ap word_of (filled i operation fills) ∙ finds
instruction_read w line name operands o got is from other named filled (None, finds, same) =
    absurd (other (is ∙ ap name_in same))

-- a line as the code takes it apart
pub name_taken : (line : List ℕ) (at : ℕ) → at ≡ length (name_in line) → take at line ≡ name_in line
name_taken line at is = ap (λ (n : ℕ). take n line) is ∙ front_is_name line

pub operands_taken : (line : List ℕ) (at : ℕ) → at ≡ length (name_in line)
    → take (length line - at) (drop at line) ≡ drop (length (name_in line)) line
operands_taken line at is =
    let all : length (drop at line) ≤ length line - at = omega (arith, length-drop at line) in
    take_all (length line - at) (drop at line) all ∙ ap (λ (n : ℕ). drop n line) is

-- what the comparison of the name tells
pub is_word : (line word : List ℕ) (at : ℕ) (t : Bool) → at ≡ length (name_in line) → word ≡ codes "word"
    → t ≡ bytes_eq (take at line) word → t ≡ true → name_in line ≡ codes "word"
is_word line word at t is its test holds =
    sym (name_taken line at is) ∙ ((bytes_eq-Decides (take at line) word).0 (sym test ∙ holds) ∙ its)

pub is_no_word : (line word : List ℕ) (at : ℕ) (t : Bool) → word ≡ codes "word"
    → t ≡ bytes_eq (take at line) word → t ≡ false → take at line ≡ codes "word" → ⊥
is_no_word line word at t its test fails same =
    both_ways t fails (test ∙ (bytes_eq-Decides (take at line) word).1 (same ∙ sym its))

pub none_from : (found : Option Operation) → ((o : Operation) → found ≡ Some o → ⊥) → found ≡ None
none_from (Some o) h = absurd (h o refl)
none_from None h = refl

pub same_word : (v w : ℕ) (r : Result ℕ AsmError) → r ≡ Ok v → r ≡ Ok w → v ≡ w
same_word v w r e f = cc

-- a line that isn't the text of the word that it would be has no word
pub not_its_text : (line start items got : List ℕ) (t : Bool) (v w : ℕ) → v ≡ w → start ≡ []
    → (text : List ℕ) × IsWordText v text × (items ≡ start ++ text) → got ≡ items → t ≡ bytes_eq got line → t ≡ false → IsWordText w line → ⊥
not_its_text line start items got t v w same empty written taken test fails its =
    let text : written.0 ≡ line = one_text w written.0 line (subst (λ (n : ℕ). IsWordText n written.0) same written.1) its in
    let whole : got ≡ line = taken ∙ (written.2 ∙ (ap (λ (l : List ℕ). l ++ written.0) empty ∙ text)) in
    both_ways t fails (test ∙ (bytes_eq-Decides got line).1 whole)
