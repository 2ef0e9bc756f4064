-- How many words the ways along edges take.
use Rattle.std.proofs.Common.{◌≡◌, ℕ, suc, ◌+◌, ◌*◌, ◌≤◌, Bool, true, false, ◌&&◌, ◌||◌, List, [], ◌++◌, length, refl, ap, ◌∙◌, arith}
use Rattle.std.specs.Prelude.{if◌then◌else◌}
use Rattle.std.proofs.lemmas.List.{length-append}
use Rattle.rv_isa.specs.declared.instr.Instr.{Instr}
use Rattle.rv_isa.specs.declared.operation.BranchCondition.{BranchCondition}
use Rattle.rv_isa.specs.declared.operand.Register.{Register}
use Rattle.tac_form.specs.declared.tac.Edge.{Edge}
use Rattle.tac_form.specs.Weights as weights
use Rattle.rv_select.specs.declared.settings.Setting.{Setting}
use Rattle.rv_select.specs.Settings.{falls, follower}
use Rattle.rv_select.specs.Shapes.{chosen, counted_if, counted_jump, counting, edge_shape, jump, parted, take_count}
use Rattle.rv_select.proofs.Jumps.{chosen-count, chosen-few, chosen_words, jump-count, jump-few, jump_words}

abbrev pub counted_words : (takes short : Bool) → ℕ
counted_words true short = 3 + jump_words short
counted_words false short = jump_words short

pub counted-count : (takes short : Bool) (at to : ℕ) → length (counted_jump takes short at to) ≡ counted_words takes short
counted-count true short at to = length-append take_count (jump short (at + 12) to) ∙ ap (λ n. 3 + n) (jump-count short (at + 12) to)
counted-count false short at to = jump-count short at to

abbrev pub shape_words : (falls takes short : Bool) → ℕ
shape_words true takes short = 0
shape_words false takes short = counted_words takes short

shape-count : (b takes short : Bool) (at to : ℕ) → length (if b then [] else counted_jump takes short at to) ≡ shape_words b takes short
shape-count true takes short at to = refl
shape-count false takes short at to = counted-count takes short at to

abbrev pub edge_shape_words : Setting → Edge → ℕ
edge_shape_words setting e = shape_words (falls setting.next e) (setting.counts && e.counts) setting.short

pub edge-shape-count : (setting : Setting) (e : Edge) (at to : ℕ) → length (edge_shape setting e at to) ≡ edge_shape_words setting e
edge-shape-count setting e at to = shape-count (falls setting.next e) (setting.counts && e.counts) setting.short at to

-- no more than an edge weighs
counted-weight : (c k short : Bool) → counted_words (c && k) short ≤ (if k then 5 else 2)
counted-weight true true short = omega (arith, (jump-few short).1)
counted-weight true false short = omega (arith, (jump-few short).1)
counted-weight false true short = omega (arith, (jump-few short).1)
counted-weight false false short = omega (arith, (jump-few short).1)

shape-weight : (b c k short : Bool) → shape_words b (c && k) short ≤ (if k then 5 else 2)
shape-weight true c true short = omega arith
shape-weight true c false short = omega arith
shape-weight false c k short = counted-weight c k short

pub edge-weight : (setting : Setting) (e : Edge) → edge_shape_words setting e ≤ weights.edge_words e
edge-weight setting e = shape-weight (falls setting.next e) setting.counts e.counts setting.short

pub edge-least : (e : Edge) → (2 ≤ weights.edge_words e) × (weights.edge_words e ≤ 5)
edge-least e = either e.counts
  where
    either : (b : Bool) → (2 ≤ (if b then 5 else 2)) × ((if b then 5 else 2) ≤ 5)
    either true = (omega arith, omega arith)
    either false = (omega arith, omega arith)

-- a branch to two blocks
abbrev pub parted_by : (counts : Bool) → Setting → Edge → Edge → ℕ
parted_by true setting e f = 1 + (counted_words (setting.counts && e.counts) setting.short + edge_shape_words setting f)
parted_by false setting e f = chosen_words setting.near setting.short (follower setting.next e.block f.block)

abbrev pub parted_words : Setting → Edge → Edge → ℕ
parted_words setting e f = parted_by (setting.counts && (e.counts || f.counts)) setting e f

one-more : (n : ℕ) → suc n ≡ 1 + n
one-more n = omega arith

pub parted-count : (setting : Setting) (condition : BranchCondition) (a b : Register) (at : ℕ) (e f : Edge) (first second : ℕ) →
    length (parted setting condition a b at e f first second) ≡ parted_words setting e f
parted-count setting condition a b at e f first second = either (setting.counts && (e.counts || f.counts))
  where
    J : List Instr
    J = counted_jump (setting.counts && e.counts) setting.short (at + 4) first

    either : (c : Bool) →
        length (if c then counting setting condition a b at e f first second
        else chosen setting.near setting.short (follower setting.next e.block f.block) condition a b at first second) ≡ parted_by c setting e f
    either true =
        ap suc
        (length-append J (edge_shape setting f (at + 4 + 4 * length J) second)
        ∙ (ap (λ n. n + length (edge_shape setting f (at + 4 + 4 * length J) second)) (counted-count (setting.counts && e.counts) setting.short (at + 4) first)
        ∙ ap (λ n. counted_words (setting.counts && e.counts) setting.short + n) (edge-shape-count setting f (at + 4 + 4 * length J) second)))
        ∙ one-more (counted_words (setting.counts && e.counts) setting.short + edge_shape_words setting f)
    either false = chosen-count setting.near setting.short (follower setting.next e.block f.block) condition a b at first second

pub parted-weight : (setting : Setting) (e f : Edge) → parted_words setting e f ≤ 1 + weights.edge_words e + weights.edge_words f
parted-weight setting e f = either (setting.counts && (e.counts || f.counts))
  where
    either : (c : Bool) → parted_by c setting e f ≤ 1 + weights.edge_words e + weights.edge_words f
    either true = omega (arith, counted-weight setting.counts e.counts setting.short, edge-weight setting f)
    either false =
        omega (arith, chosen-few setting.near setting.short (follower setting.next e.block f.block), (edge-least e).0, (edge-least f).0)

pub parted-few : (setting : Setting) (e f : Edge) → parted_words setting e f ≤ 11
parted-few setting e f = omega (arith, parted-weight setting e f, (edge-least e).1, (edge-least f).1)

-- code before which a count may be taken
abbrev pub count_words : Bool → ℕ
count_words true = 3
count_words false = 0

pub counted-length : (c : Bool) (code : List Instr) → length (counted_if c code) ≡ count_words c + length code
counted-length true code = length-append take_count code
counted-length false code = omega arith

pub count-few : (c : Bool) → count_words c ≤ 3
count-few true = omega arith
count-few false = omega arith

pub counted-most : (c : Bool) (code : List Instr) (n : ℕ) → length code ≤ n → length (counted_if c code) ≤ 3 + n
counted-most c code n h = omega (arith, counted-length c code, count-few c, h)

pub counted-split : (c : Bool) (a b : List Instr) → counted_if c (a ++ b) ≡ counted_if c a ++ b
counted-split true a b = refl
counted-split false a b = refl

-- what the code says of the words of a jump
pub counted_words_are : (takes short : Bool) (at to : ℕ) →
    (length (counted_jump takes short at to) ≡ counted_words takes short) × (counted_words takes short ≤ 5)
counted_words_are takes short at to = (counted-count takes short at to, few takes short)
  where
    few : (t s : Bool) → counted_words t s ≤ 5
    few true s = omega (arith, (jump-few s).1)
    few false s = omega (arith, (jump-few s).1)
