-- Code that a loop puts, an item at a time, with what is still to come.
use Rattle.std.proofs.Common.{◌≡◌, ℕ, ◌+◌, ◌-◌, ◌*◌, ◌<◌, ◌≤◌, true, List, [], ◌∷◌, ◌++◌, length, get_or, drop, append_assoc, Option, None}
use Rattle.std.proofs.Common.{refl, sym, ap, ◌∙◌, subst, arith}
use Rattle.std.specs.Prelude.{map}
use Rattle.std.specs.List.{list_all}
use Rattle.std.proofs.lemmas.List.{append-nil, drop_all, drop_more, length-drop}
use Rattle.rv_isa.specs.declared.instr.Instr.{Instr}
use Rattle.rv_isa.specs.Table.{word_of}
use Rattle.tac_form.specs.declared.tac.Instruction.{Instruction}
use Rattle.tac_form.specs.declared.tac.Block.{Block}
use Rattle.rv_select.specs.declared.selected.Call.{Call as Site}
use Rattle.rv_select.specs.Pairs.{plain_of}
use Rattle.rv_select.specs.Places.{Layout}
use Rattle.rv_select.specs.Shapes.{held_after}
use Rattle.rv_select.specs.Calls.{block_code, block_has_code, blocks_calls, blocks_code, has_code, held_behind, instruction_calls}
use Rattle.rv_select.specs.Calls.{instruction_code, instructions_calls, instructions_code, starts_from}
use Rattle.rv_select.proofs.Lengths.{block-length, instruction-length}
use Rattle.rv_select.proofs.Numbers.{pushed_words}
use Rattle.rv_select.proofs.Pushed.{behind-placed}
use Rattle.rv_select.proofs.Stands.{both-true}

-- items behind others, where what follows depends on a number
list-turn : {S : Type 0} (before between after : List S) (a : List S) (f : ℕ → List S) (n k : ℕ) → n ≡ k → between ≡ before ++ a →
    after ≡ between ++ f n → after ≡ before ++ (a ++ f k)
list-turn before between after a f n k e g h = h ∙ (ap (λ z. z ++ f n) g ∙ (append_assoc before a (f n) ∙ ap (λ m. before ++ (a ++ f m)) e))

-- how many words there are behind a block
block-end : (y : Layout) (sizes : List ℕ) (starts : ℕ → ℕ) (last rest : ℕ) (b : Block) (old mid : List ℕ) →
    mid ≡ old ++ map word_of (block_code y sizes (λ f. 0) starts last (4 * length old) rest b) →
    length mid ≡ length old + length (block_code y sizes (λ f. 0) (λ c. 0) 0 0 rest b)
block-end y sizes starts last rest b old mid e =
    ap length e ∙ (pushed_words old (block_code y sizes (λ f. 0) starts last (4 * length old) rest b)
    ∙ ap (λ n. length old + n) (block-length y sizes (λ f. 0) (λ f. 0) starts (λ c. 0) last 0 (4 * length old) 0 rest b))

-- the item at which a loop stands
pub drop-item : {X : Type 0} (xs : List X) (i : ℕ) (x : X) → x ≡ get_or xs i x → i < length xs → drop i xs ≡ x ∷ drop (i + 1) xs
drop-item xs i x e h = drop_more xs i x h ∙ ap (λ y. y ∷ drop (i + 1) xs) (sym e)

pub drop-end : {X : Type 0} (xs : List X) (i : ℕ) → length xs ≤ i → drop i xs ≡ []
drop-end xs i h = drop_all i xs h

words-turn : (old new : List ℕ) (a : List Instr) (f : ℕ → List Instr) (whole : List Instr) (total : List ℕ) →
    new ≡ old ++ map word_of a → old ++ map word_of whole ≡ total → whole ≡ a ++ f (4 * length old + 4 * length a) →
    new ++ map word_of (f (4 * length new)) ≡ total
words-turn old new a f whole total e g w =
    behind-placed old new (new ++ map word_of (f (4 * length new))) a f e refl ∙ (ap (λ z. old ++ map word_of z) (sym w) ∙ g)

items-turn : {S : Type 0} (before between a : List S) (f : ℕ → List S) (n k : ℕ) (whole total : List S) → n ≡ k →
    between ≡ before ++ a → before ++ whole ≡ total → whole ≡ a ++ f k → between ++ f n ≡ total
items-turn before between a f n k whole total e g b w =
    list-turn before between (between ++ f n) a f n k e g refl ∙ (ap (λ z. before ++ z) (sym w) ∙ b)

pub items-end : {S : Type 0} (out whole total : List S) → out ++ whole ≡ total → whole ≡ [] → out ≡ total
items-end out whole total e f = sym (append-nil out) ∙ (ap (λ z. out ++ z) (sym f) ∙ e)

-- Instructions.
pub instructions-turn : (y : Layout) (sizes : List ℕ) (held next : Option ℕ) (i : ℕ) (xs : List Instruction) (x : Instruction) (old new total : List ℕ) →
    x ≡ get_or xs i x → i < length xs → next ≡ held_after x →
    new ≡ old ++ map word_of (instruction_code y sizes (λ f. 0) (4 * length old) held x) →
    old ++ map word_of (instructions_code y sizes (λ f. 0) (4 * length old) held (drop i xs)) ≡ total →
    new ++ map word_of (instructions_code y sizes (λ f. 0) (4 * length new) next (drop (i + 1) xs)) ≡ total
instructions-turn y sizes held next i xs x old new total e h is put before =
    subst (λ o. new ++ map word_of (instructions_code y sizes (λ f. 0) (4 * length new) o (drop (i + 1) xs)) ≡ total) (sym is)
    (words-turn old new (instruction_code y sizes (λ f. 0) (4 * length old) held x)
    (λ n. instructions_code y sizes (λ f. 0) n (held_after x) (drop (i + 1) xs))
    (instructions_code y sizes (λ f. 0) (4 * length old) held (drop i xs)) total
    put before (ap (instructions_code y sizes (λ f. 0) (4 * length old) held) (drop-item xs i x e h)))

pub instructions-end : (y : Layout) (sizes : List ℕ) (held : Option ℕ) (at i : ℕ) (xs : List Instruction) → length xs ≤ i →
    map word_of (instructions_code y sizes (λ f. 0) at held (drop i xs)) ≡ []
instructions-end y sizes held at i xs h = ap (λ z. map word_of (instructions_code y sizes (λ f. 0) at held z)) (drop-end xs i h)

pub calls-turn : (y : Layout) (sizes : List ℕ) (held next : Option ℕ) (i : ℕ) (xs : List Instruction) (x : Instruction) (old new : List ℕ)
    (before between total : List Site) → x ≡ get_or xs i x → i < length xs → next ≡ held_after x →
    new ≡ old ++ map word_of (instruction_code y sizes (λ f. 0) (4 * length old) held x) →
    between ≡ before ++ instruction_calls y (length old) held x →
    before ++ instructions_calls y sizes (length old) held (drop i xs) ≡ total →
    between ++ instructions_calls y sizes (length new) next (drop (i + 1) xs) ≡ total
calls-turn y sizes held next i xs x old new before between total e h is put calls b =
    let C : List Instr = instruction_code y sizes (λ f. 0) (4 * length old) held x in
    let n : ℕ = length (instruction_code y sizes (λ f. 0) 0 held x) in
    let count : length new ≡ length old + n =
    ap length put ∙ (pushed_words old C ∙ ap (λ k. length old + k) (instruction-length y sizes (λ f. 0) (λ f. 0) (4 * length old) 0 held x)) in
    subst (λ o. between ++ instructions_calls y sizes (length new) o (drop (i + 1) xs) ≡ total) (sym is)
    (items-turn before between (instruction_calls y (length old) held x)
    (λ k. instructions_calls y sizes k (held_after x) (drop (i + 1) xs)) (length new)
    (length old + n) (instructions_calls y sizes (length old) held (drop i xs)) total count calls b
    (ap (instructions_calls y sizes (length old) held) (drop-item xs i x e h)))

pub calls-end : (y : Layout) (sizes : List ℕ) (held : Option ℕ) (at i : ℕ) (xs : List Instruction) → length xs ≤ i →
    instructions_calls y sizes at held (drop i xs) ≡ []
calls-end y sizes held at i xs h = ap (instructions_calls y sizes at held) (drop-end xs i h)

-- what T0 holds behind instructions
pub held-turn : (held next whole : Option ℕ) (i : ℕ) (xs : List Instruction) (x : Instruction) → x ≡ get_or xs i x → i < length xs →
    next ≡ held_after x → held_behind held (drop i xs) ≡ whole → held_behind next (drop (i + 1) xs) ≡ whole
held-turn held next whole i xs x e h is before =
    ap (λ o. held_behind o (drop (i + 1) xs)) is ∙ (sym (ap (held_behind held) (drop-item xs i x e h)) ∙ before)

pub held-end : (held whole : Option ℕ) (i : ℕ) (xs : List Instruction) → length xs ≤ i → held_behind held (drop i xs) ≡ whole → held ≡ whole
held-end held whole i xs h before = sym (ap (held_behind held) (drop-end xs i h)) ∙ before

pub has-turn : (i : ℕ) (xs : List Instruction) (x : Instruction) → x ≡ get_or xs i x → i < length xs → list_all has_code (drop i xs) ≡ true →
    (has_code x ≡ true) × (list_all has_code (drop (i + 1) xs) ≡ true)
has-turn i xs x e h k =
    both-true (has_code x) (list_all has_code (drop (i + 1) xs)) (sym (ap (list_all has_code) (drop-item xs i x e h)) ∙ k)

-- Blocks.
pub blocks-turn : (y : Layout) (sizes : List ℕ) (starts : ℕ → ℕ) (last i : ℕ) (xs : List Block) (x : Block) (old new total : List ℕ) →
    x ≡ get_or xs i x → i < length xs →
    new ≡ old ++ map word_of (block_code y sizes (λ f. 0) starts last (4 * length old) (length (drop (i + 1) xs)) x) →
    old ++ map word_of (blocks_code y sizes (λ f. 0) starts last (4 * length old) (drop i xs)) ≡ total →
    new ++ map word_of (blocks_code y sizes (λ f. 0) starts last (4 * length new) (drop (i + 1) xs)) ≡ total
blocks-turn y sizes starts last i xs x old new total e h put before =
    words-turn old new (block_code y sizes (λ f. 0) starts last (4 * length old) (length (drop (i + 1) xs)) x)
    (λ n. blocks_code y sizes (λ f. 0) starts last n (drop (i + 1) xs)) (blocks_code y sizes (λ f. 0) starts last (4 * length old) (drop i xs))
    total put before (ap (blocks_code y sizes (λ f. 0) starts last (4 * length old)) (drop-item xs i x e h))

pub blocks-end : (y : Layout) (sizes : List ℕ) (starts : ℕ → ℕ) (last at i : ℕ) (xs : List Block) → length xs ≤ i →
    map word_of (blocks_code y sizes (λ f. 0) starts last at (drop i xs)) ≡ []
blocks-end y sizes starts last at i xs h = ap (λ z. map word_of (blocks_code y sizes (λ f. 0) starts last at z)) (drop-end xs i h)

pub blocks-calls-turn : (y : Layout) (sizes : List ℕ) (starts : ℕ → ℕ) (last i : ℕ) (xs : List Block) (x : Block) (old new : List ℕ)
    (before between total : List Site) → x ≡ get_or xs i x → i < length xs →
    new ≡ old ++ map word_of (block_code y sizes (λ f. 0) starts last (4 * length old) (length (drop (i + 1) xs)) x) →
    between ≡ before ++ instructions_calls y sizes (length old) None (plain_of y.reads x) →
    before ++ blocks_calls y sizes (length old) (drop i xs) ≡ total →
    between ++ blocks_calls y sizes (length new) (drop (i + 1) xs) ≡ total
blocks-calls-turn y sizes starts last i xs x old new before between total e h put calls b =
    items-turn before between (instructions_calls y sizes (length old) None (plain_of y.reads x))
    (λ k. blocks_calls y sizes k (drop (i + 1) xs)) (length new)
    (length old + length (block_code y sizes (λ f. 0) (λ c. 0) 0 0 (length (drop (i + 1) xs)) x)) (blocks_calls y sizes (length old) (drop i xs)) total
    (block-end y sizes starts last (length (drop (i + 1) xs)) x old new put) calls b (ap (blocks_calls y sizes (length old)) (drop-item xs i x e h))

pub blocks-calls-end : (y : Layout) (sizes : List ℕ) (at i : ℕ) (xs : List Block) → length xs ≤ i → blocks_calls y sizes at (drop i xs) ≡ []
blocks-calls-end y sizes at i xs h = ap (blocks_calls y sizes at) (drop-end xs i h)

pub begins-turn : (y : Layout) (sizes : List ℕ) (starts : ℕ → ℕ) (last i : ℕ) (xs : List Block) (x : Block) (old new : List ℕ) (at : ℕ)
    (before between total : List ℕ) → x ≡ get_or xs i x → i < length xs →
    new ≡ old ++ map word_of (block_code y sizes (λ f. 0) starts last (4 * length old) (length (drop (i + 1) xs)) x) →
    at ≡ 4 * length old → between ≡ before ++ at ∷ [] →
    before ++ starts_from y sizes (4 * length old) (drop i xs) ≡ total →
    between ++ starts_from y sizes (4 * length new) (drop (i + 1) xs) ≡ total
begins-turn y sizes starts last i xs x old new at before between total e h put p begins b =
    let n : ℕ = length (block_code y sizes (λ f. 0) (λ c. 0) 0 0 (length (drop (i + 1) xs)) x) in
    let count : length new ≡ length old + n = block-end y sizes starts last (length (drop (i + 1) xs)) x old new put in
    let place : 4 * length new ≡ 4 * length old + 4 * n = omega (arith, count) in
    items-turn before between (4 * length old ∷ []) (λ k. starts_from y sizes k (drop (i + 1) xs)) (4 * length new)
    (4 * length old + 4 * n) (starts_from y sizes (4 * length old) (drop i xs)) total
    place (begins ∙ ap (λ k. before ++ k ∷ []) p) b (ap (starts_from y sizes (4 * length old)) (drop-item xs i x e h))

pub begins-end : (y : Layout) (sizes : List ℕ) (at i : ℕ) (xs : List Block) → length xs ≤ i → starts_from y sizes at (drop i xs) ≡ []
begins-end y sizes at i xs h = ap (starts_from y sizes at) (drop-end xs i h)

-- how many blocks follow
pub rest-turn : (i : ℕ) (xs : List Block) (rest less : ℕ) → rest ≡ length (drop i xs) → i < length xs → less ≡ rest - 1 →
    less ≡ length (drop (i + 1) xs)
rest-turn i xs rest less e h is = omega (arith, e, h, is, length-drop i xs, length-drop (i + 1) xs)

-- the code of a block that so many follow
pub rest-put : (y : Layout) (sizes : List ℕ) (starts : ℕ → ℕ) (last : ℕ) (x : Block) (old new : List ℕ) (rest n : ℕ) → rest ≡ n →
    new ≡ old ++ map word_of (block_code y sizes (λ f. 0) starts last (4 * length old) rest x) →
    new ≡ old ++ map word_of (block_code y sizes (λ f. 0) starts last (4 * length old) n x)
rest-put y sizes starts last x old new rest n e put =
    put ∙ ap (λ k. old ++ map word_of (block_code y sizes (λ f. 0) starts last (4 * length old) k x)) e

pub blocks-have-turn : (i : ℕ) (xs : List Block) (x : Block) → x ≡ get_or xs i x → i < length xs → list_all block_has_code (drop i xs) ≡ true →
    (block_has_code x ≡ true) × (list_all block_has_code (drop (i + 1) xs) ≡ true)
blocks-have-turn i xs x e h k =
    both-true (block_has_code x) (list_all block_has_code (drop (i + 1) xs)) (sym (ap (list_all block_has_code) (drop-item xs i x e h)) ∙ k)
