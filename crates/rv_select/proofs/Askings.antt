-- What code asks for, as a loop collects it.
use Rattle.std.proofs.Common.{◌≡◌, ℕ, ◌+◌, ◌<◌, ◌≤◌, List, [], ◌++◌, length, get_or, drop, replicate, take, append_assoc, Option}
use Rattle.std.proofs.Common.{None, sym, ap, ◌∙◌}
use Rattle.std.specs.List.{flat_map}
use Rattle.std.proofs.lemmas.List.{take_at}
use Rattle.reg_alloc.specs.declared.assignment.Home.{Home}
use Rattle.tac_form.specs.declared.tac.Instruction.{Instruction}
use Rattle.tac_form.specs.declared.tac.Block.{Block}
use Rattle.tac_form.specs.declared.tac.Destination.{Destination}
use Rattle.tac_form.specs.declared.tac.Tac.{Tac}
use Rattle.rv_select.specs.declared.pairs.Reads.{Reads}
use Rattle.rv_select.specs.Asked.{all_ask, asked_homes, asked_of, asks, block_asks, end_asks, first_word, held_after, held_behind}
use Rattle.rv_select.specs.Asked.{if_small, is_small, with_given}
use Rattle.rv_select.specs.Pairs.{but_pair, pair_of, plain_of, reads_of}
use Rattle.rv_select.specs.declared.pairs.Pair.{Pair}
use Rattle.rv_select.proofs.Bodies.{plain-is}
use Rattle.rv_select.proofs.Granted.{given-length}
use Rattle.rv_select.proofs.Worded.{small-length}
use Rattle.rv_select.proofs.Loops.{drop-end, drop-item, items-end}

pub asks-turn : (held next : Option ℕ) (i : ℕ) (xs : List Instruction) (x : Instruction) (before between total : List ℕ) → x ≡ get_or xs i x →
    i < length xs → next ≡ held_after x → between ≡ before ++ asks held x → before ++ all_ask held (drop i xs) ≡ total →
    between ++ all_ask next (drop (i + 1) xs) ≡ total
asks-turn held next i xs x before between total e h is more b =
    ap (λ z. z ++ all_ask next (drop (i + 1) xs)) more
    ∙ (append_assoc before (asks held x) (all_ask next (drop (i + 1) xs))
    ∙ (ap (λ o. before ++ (asks held x ++ all_ask o (drop (i + 1) xs))) is
    ∙ (sym (ap (λ z. before ++ all_ask held z) (drop-item xs i x e h)) ∙ b)))

pub asks-end : (held : Option ℕ) (i : ℕ) (xs : List Instruction) (asked total : List ℕ) → length xs ≤ i → asked ++ all_ask held (drop i xs) ≡ total → asked ≡ total
asks-end held i xs asked total h b = items-end asked (all_ask held (drop i xs)) total b (ap (all_ask held) (drop-end xs i h))

-- a block
pub block-asked : (reads : List Reads) (b : Block) (is plain : List Instruction) (pair : Option Pair) (held : Option ℕ) (old mid new : List ℕ) →
    is ≡ b.instructions → pair ≡ pair_of reads b → plain ≡ but_pair pair is → mid ≡ old ++ all_ask None plain → held ≡ held_behind None plain →
    new ≡ mid ++ end_asks held pair b.exit → new ≡ old ++ block_asks reads b
block-asked reads b is plain pair held old mid new w o p e k g =
    let same : plain ≡ plain_of reads b = plain-is reads b is plain pair w o p in
    g
    ∙ (ap (λ z. mid ++ end_asks z pair b.exit) (k ∙ ap (held_behind None) same)
    ∙ (ap (λ z. mid ++ end_asks (held_behind None (plain_of reads b)) z b.exit) o
    ∙ (ap (λ z. z ++ end_asks (held_behind None (plain_of reads b)) (pair_of reads b) b.exit) (e ∙ ap (λ z. old ++ all_ask None z) same)
    ∙ append_assoc old (all_ask None (plain_of reads b)) (end_asks (held_behind None (plain_of reads b)) (pair_of reads b) b.exit))))

-- the homes of a function, in what a vector of none becomes
pub homes-made : (code : Tac) (reads : List Reads) (homes old new rest : List (Option Home)) (bs : List Block) (ds : List Destination)
    (none asked temps : List ℕ) (first len : ℕ) →
    reads ≡ reads_of code → bs ≡ code.blocks → ds ≡ code.parameters → first ≡ first_word code homes → none ≡ [] →
    asked ≡ none ++ flat_map (block_asks reads) bs → temps ≡ asked →
    old ≡ replicate (length homes) None → length old ≡ len →
    new ≡ if_small (is_small first (length ds)) first ds (with_given homes old temps) → take len (new ++ rest) ≡ asked_homes code homes
unfolding asked_homes asked_of
homes-made code reads homes old new rest bs ds none asked temps first len r b p f n a t o l e =
    take_at new rest len
    (ap length e ∙ (small-length (is_small first (length ds)) first ds (with_given homes old temps) ∙ (given-length homes old temps ∙ l)))
    ∙ (e ∙ (ap (λ z. if_small (is_small z (length ds)) z ds (with_given homes old temps)) f
    ∙ (ap (λ z. if_small (is_small (first_word code homes) (length z)) (first_word code homes) z (with_given homes old temps)) p
    ∙ ap (if_small (is_small (first_word code homes) (length code.parameters)) (first_word code homes) code.parameters)
    (ap (λ z. with_given homes z temps) o
    ∙ ap (with_given homes (replicate (length homes) None))
    (t ∙ (a ∙ (ap (λ z. z ++ flat_map (block_asks reads) bs) n
    ∙ (ap (λ z. flat_map (block_asks z) bs) r ∙ ap (flat_map (block_asks (reads_of code))) b))))))))
