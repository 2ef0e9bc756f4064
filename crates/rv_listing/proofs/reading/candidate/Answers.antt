use Rattle.std.proofs.Common.{◌≡◌, ◌∙◌, ℕ, ◌-◌, List, length, take, drop, Some, None, sym, ap, subst, Ok}
use Rattle.std.specs.Prelude.{codes}
use Rattle.rv_isa.specs.declared.instr.Instr.{Instr}
use Rattle.rv_listing.specs.Assembly.{name_in, IsName}
use Rattle.rv_listing.specs.Reading.{operation_of, operation_named, scan_all, scan_start, Fills}
use Rattle.rv_listing.proofs.Words.{name_taken, operands_taken, is_word, is_no_word, none_from, unnamed, operation_names, word_read, instruction_read}
use Rattle.rv_listing.proofs.reading.candidate.Goals as goal

pub returns-then-eq-clause-only : goal.returns-then-eq-clause-only
returns-then-eq-clause-only c w small text =
    let line = c.args.line.now in
    let at = c.name_length-at.result in
    let operands : List ℕ = take (length line - at) (drop at line) in
    let named : name_in line ≡ codes "word" =
    is_word line c.as_slice.result.now at c.eq.result c.name_length-at.ensures.length c.as_slice.ensures c.eq.ensures c.if-eq.true in
    let read : c.hex_number.result ≡ w =
    c.hex_number.ensures ∙ word_read w line operands small text named (operands_taken line at c.name_length-at.ensures.length) in
    ap (λ (n : ℕ). Ok n) read

pub returns-in_default-clause-bad : goal.returns-in_default-clause-bad
returns-in_default-clause-bad c named =
    let line = c.args.line.now in
    let at = c.name_length-at.result in
    let same = name_taken line at c.name_length-at.ensures.length in
    let other = is_no_word line c.as_slice.result.now at c.eq.result c.as_slice.ensures c.eq.ensures c.if-eq.false in
    let none : operation_named (take at line) ≡ None = sym c.named.ensures ∙ none_from c.named.result c.in_default.not-Some in
    unnamed (take at line) other none (subst IsName (sym same) named)

pub returns-clause-only : goal.returns-clause-only
returns-clause-only c w small text =
    let line = c.args.line.now in
    let at = c.name_length-at.result in
    let operands : List ℕ = take (length line - at) (drop at line) in
    let other = is_no_word line c.as_slice.result.now at c.eq.result c.as_slice.ensures c.eq.ensures c.if-eq.false in
    let found : operation_named (take at line) ≡ Some c.in-Some.operation = sym c.named.ensures ∙ c.in-Some.is in
    let read : c.encode.result ≡ w =
    c.encode.ensures ∙ instruction_read w line (take at line) operands c.in-Some.operation c.filled.result
    (name_taken line at c.name_length-at.ensures.length) (operands_taken line at c.name_length-at.ensures.length) other found
    (λ (i : Instr) (is : operation_of i ≡ c.in-Some.operation) (fills : Fills i (scan_all scan_start operands)).
    c.filled.ensures.filled i is (subst (Fills i) (sym c.numbers_of.ensures) fills))
    text in
    ap (λ (n : ℕ). Ok n) read

pub returns-clause-named : goal.returns-clause-named
returns-clause-named c =
    let line = c.args.line.now in
    let at = c.name_length-at.result in
    let found : operation_named (take at line) ≡ Some c.in-Some.operation = sym c.named.ensures ∙ c.in-Some.is in
    subst IsName (name_taken line at c.name_length-at.ensures.length)
    (operation_names (take at line) c.in-Some.operation c.filled.result found c.filled.ensures.operation)
