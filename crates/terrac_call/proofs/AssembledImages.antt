-- The image of a good source of instructions is one that a file can have.
use Rattle.std.proofs.Common.{◌<◌, ◌≤◌, ◌+◌, ◌*◌, ◌^◌, ℕ, List, length, refl, arith}
use Rattle.std.proofs.lemmas.Bool.{eq-eqb, le-leb, lt-ltb}
use Rattle.std.proofs.Math.Nat.{mul-mod_left}
use Rattle.std.specs.Prelude.{IsTrue, nat_le, nat_lt, slice_index, ◌%◌, ◌&&◌, ◌==◌}
use Rattle.std.specs.List.{list_all}
use Rattle.elf_image.specs.Fields.{allows}
use Rattle.elf_image.specs.Layout.{memory_rule, text_address}
use Rattle.elf_image.specs.Exports.{is_in_text}
use Rattle.elf_image.specs.Lawful.{IsLawful, is_lawful_symbol, is_name}
use Rattle.elf_image.proofs.LawfulLemmas.{and_intro, file_size_lt}
use Rattle.tl_base.specs.declared.limits.TheConstants.Limits.{MEMORY_UNIT}
use Rattle.terrac_call.specs.Assembled.{assembled}

memory_allowed : (memory : ℕ) → 64 ≤ memory → memory ≤ 65536 → IsTrue (allows memory_rule (memory * MEMORY_UNIT))
memory_allowed memory least most =
    and_intro (memory * 1024 % 1024 == 0) (nat_le 65536 (memory * 1024) && nat_le (memory * 1024) 67108864)
    (eq-eqb (memory * 1024 % 1024) 0 (mul-mod_left memory 1024))
    (and_intro (nat_le 65536 (memory * 1024)) (nat_le (memory * 1024) 67108864)
    (le-leb 65536 (memory * 1024) (omega arith)) (le-leb (memory * 1024) 67108864 (omega arith)))

in_text : (count : ℕ) → 0 < count → IsTrue (is_in_text (4 * count) text_address)
in_text count some =
    and_intro (nat_le text_address text_address) (nat_lt text_address (text_address + 4 * count) && (text_address % 4 == 0)) refl
    (and_intro (nat_lt text_address (text_address + 4 * count)) (text_address % 4 == 0)
    (lt-ltb text_address (text_address + 4 * count) (omega arith)) refl)

symbol_lawful : (entry words : List ℕ) → IsTrue (is_name entry) → 0 < length words
    → IsTrue (list_all (is_lawful_symbol (4 * length words)) (assembled entry 0 words).exports)
symbol_lawful entry words name some = rw (name, in_text (length words) some) refl

pub assembled_lawful : (entry : List ℕ) (memory : ℕ) (words : List ℕ) → 64 ≤ memory → memory ≤ 65536 → IsTrue (is_name entry)
    → 0 < length words → length words ≤ 1048576 → ((k : ℕ) → slice_index words k < 2 ^ 32) → IsLawful (assembled entry memory words)
assembled_lawful entry memory words least most name some few fit =
    let symbols = symbol_lawful entry words name some in
    record {
      words = fit;
      bytes = λ k. omega arith;
      addresses = omega arith;
      memory = memory_allowed memory least most;
      statics = omega arith;
      heap = refl;
      private = refl;
      entries = refl;
      many = omega arith;
      symbols = symbols;
      differ = refl;
      count = omega arith;
      names = refl;
      size = file_size_lt (assembled entry memory words) (omega arith) (omega arith) (omega arith) (omega arith) symbols refl;
    }
