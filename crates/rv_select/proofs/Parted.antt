-- Ways along edges, before which a count may be taken, and a branch to two of them.
use Rattle.std.proofs.Common.{◌≡◌, ℕ, suc, ◌+◌, ◌*◌, ◌%◌, ◌^◌, ◌<◌, ◌≤◌, Bool, true, false, not, ◌&&◌, ◌||◌, List, [], ◌++◌, length}
use Rattle.std.proofs.Common.{Option, Some, refl, sym, ap, ◌∙◌, subst, ⊎_elim, arith}
use Rattle.std.specs.Prelude.{if◌then◌else◌}
use Rattle.std.proofs.lemmas.Bool.{cases_Bool}
use Rattle.std.proofs.lemmas.List.{length-append}
use Rattle.rv_isa.specs.declared.instr.Instr.{Instr}
use Rattle.rv_isa.specs.declared.operation.BranchCondition.{BranchCondition}
use Rattle.rv_isa.specs.declared.operand.Register.{Register}
use Rattle.rv_machine.specs.Arithmetic.{is_taken}
use Rattle.rv_machine.specs.Word.{low}
use Rattle.rv_machine.specs.Machine.{State, value_at}
use Rattle.tac_form.specs.declared.tac.Edge.{Edge}
use Rattle.rv_operators.specs.Runs.{Stands}
use Rattle.rv_select.specs.declared.settings.Setting.{Setting}
use Rattle.rv_select.specs.declared.settings.Follows.{Follows}
use Rattle.rv_select.specs.Settings.{falls, follower, is_next}
use Rattle.rv_select.specs.Places.{Holds, Housed, Layout, World}
use Rattle.rv_select.specs.Shapes.{chosen, counted_jump, counting, edge_shape, jump, negated, parted, take_count}
use Rattle.rv_select.specs.Steps.{AreFewer, Breaks, Comes, LeadsTo, with_count}
use Rattle.rv_select.proofs.Branched.{follower-first, follower-second, is-next, low-near, negated-taken}
use Rattle.rv_select.proofs.Counts.{TookCount, breaks-off, count-holds, counted-keeps, later-breaks, takes-count}
use Rattle.rv_select.proofs.Divisors.{stays}
use Rattle.rv_select.proofs.Faults.{branch-way}
use Rattle.rv_select.proofs.Jumps.{Reaches, jump-count, jump-few}
use Rattle.rv_select.proofs.Edges.{InNear, InReach, chosen-comes, jump-comes, reach-behind}
use Rattle.rv_select.proofs.Moves.{near-holds}
use Rattle.rv_select.proofs.Straight.{Scratch}
use Rattle.rv_select.proofs.Ways.{Near, Way, at_pc, near-both, near-pc, near-same, scratch-near, stands-back, stands-front, straight-way}
use Rattle.rv_select.proofs.Ways.{way-both, way-none}

-- The machine comes along an edge: as it is, where that takes no count; and else it breaks off, if none is left, or takes one.
pub record EdgeWays (y : Layout) (program : List (Option Instr)) (Next : ℕ → Type 0) (w : World) (base weight to : ℕ) (takes : Bool)
    (m : State) : Type 0 where
  pub free : takes ≡ false → Comes y program Next w base weight to [] m
  pub none : takes ≡ true → m.registers 9 ≡ 0 → Breaks program weight m
  pub some : takes ≡ true → (left : ℕ) → m.registers 9 ≡ suc left → suc left < 2 ^ 64 →
      LeadsTo y program Next w base weight to (with_count true left m) m

-- the ways along two edges that take no count, or both do
ways-same : (y : Layout) (program : List (Option Instr)) (Next : ℕ → Type 0) (w : World) (base weight to : ℕ) (m : State) →
    Comes y program Next w base weight to [] m → (takes : Bool) → (takes ≡ true → ⊥) → EdgeWays y program Next w base weight to takes m
ways-same y program Next w base weight to m c takes never = record {
  free = λ e. c;
  none = λ e z. absurd (never e);
  some = λ e left z small. absurd (never e);
}

-- a jump, before which a count may be taken
pub jump-ways : (y : Layout) (Used Next : ℕ → Type 0) (w : World) (base k weight at to : ℕ) (short takes : Bool) (program : List (Option Instr))
    (m n : State) →
    Holds y Used w base m → Housed y Used → AreFewer Used Next → Way program k m n → Near m n → n.pc ≡ at → at + 64 ≤ 2 ^ 30 → to < 2 ^ 30 →
    to % 2 ≡ 0 → ((d : ℕ) → d ≤ 12 → Reaches short (at + d) to) → Stands program at (counted_jump takes short at to) →
    k + length (counted_jump takes short at to) ≤ weight → EdgeWays y program Next w base weight to takes m
jump-ways y Used Next w base k weight at to short false program m n p h f way near here room small even reach there enough = record {
  free = λ e.
      jump-comes y Used Next w base k weight at to short program m n p h f way near here (omega (arith, room)) small even
      (subst (λ q. Reaches short q to) (none-more at) (reach 0 (omega arith))) there enough;
  none = λ e z. cc;
  some = λ e left z l. cc;
}
  where
    none-more : (q : ℕ) → q + 0 ≡ q
    none-more q = omega arith
jump-ways y Used Next w base k weight at to short true program m n p h f way near here room small even reach there enough = record {
  free = λ e. cc;
  none = λ e z. later-breaks program k 2 weight m n way (breaks-off program J n (nine ∙ z) mine) (omega (arith, enough));
  some = λ e left z l. goes left (nine ∙ z) l;
}
  where
    J : List Instr
    J = jump short (at + 12) to

    nine : n.registers 9 ≡ m.registers 9
    nine = near.keeps 9 (λ q. omega (arith, q)) (λ q. omega (arith, q)) (λ q. omega (arith, q))

    mine : Stands program n.pc (take_count ++ J)
    mine = subst (λ q. Stands program q (take_count ++ J)) (sym here) there

    goes : (left : ℕ) → n.registers 9 ≡ suc left → suc left < 2 ^ 64 → LeadsTo y program Next w base weight to (with_count true left m) m
    goes left z l =
        let t : TookCount program left J n = takes-count program left J n z l mine in
        let q : State = t.after in
        let pc-q : q.pc ≡ at + 12 = t.pc ∙ (ap (λ x. low (x + 4 * 3)) here ∙ low-near (at + 12) (omega (arith, room))) in
        let small-q : q.pc < 2 ^ 64 = subst (λ x. x < 2 ^ 64) (sym pc-q) (omega (arith, room)) in
        let small-n : n.pc < 2 ^ 64 = subst (λ x. x < 2 ^ 64) (sym here) (omega (arith, room)) in
        let hold : Holds y Used w base q =
        count-holds y Used w base n q (near-holds y Used w base m n p h near small-n) h t.keeps t.region t.private small-q in
        let c : Comes y program Next w base (length J) to [] q =
        jump-comes y Used Next w base 0 (length J) (at + 12) to short program q q hold h f (way-none program q) (near-same q) pc-q
        (omega (arith, room)) small even (reach 12 (omega arith)) (subst (λ x. Stands program x J) pc-q t.there) (omega arith) in
        record {
          steps = k + 2 + c.steps;
          after = c.after;
          some = omega (arith, c.some);
          few = omega (arith, c.few, enough);
          runs = (way-both program (k + 2) c.steps m q c.after (way-both program k 2 m n q way t.way) (record { runs = c.runs })).runs;
          at = c.at;
          holds = c.holds;
          keeps = counted-keeps y base left m q c.after c.keeps
              (λ r five six seven other. t.keeps r other ∙ near.keeps r five six seven) t.count (t.private ∙ near.private);
        }

-- an edge that falls takes no count
falls-free : (setting : Setting) (e : Edge) → falls setting.next e ≡ true → (setting.counts && e.counts) ≡ true → ⊥
falls-free setting e h g = apart setting.counts e.counts (is_next setting.next e.block) h g
  where
    apart : (c e n : Bool) → (not e && n) ≡ true → (c && e) ≡ true → ⊥
    apart true true n h g = cc
    apart true false n h g = cc
    apart false e n h g = cc

falls-next : (setting : Setting) (e : Edge) → falls setting.next e ≡ true → setting.next ≡ Some e.block
falls-next setting e h = is-next setting.next e.block (second (not e.counts) (is_next setting.next e.block) h)
  where
    second : (a b : Bool) → (a && b) ≡ true → b ≡ true
    second true b q = q
    second false b q = cc

-- the way along an edge whose block may stand behind, from where the machine has come by at least one step
pub edge-ways : (y : Layout) (Used Next : ℕ → Type 0) (w : World) (base k weight at to : ℕ) (setting : Setting) (e : Edge)
    (program : List (Option Instr)) (m n : State) →
    Holds y Used w base m → Housed y Used → AreFewer Used Next → Way program k m n → Near m n → 1 ≤ k → n.pc ≡ at → at + 64 ≤ 2 ^ 30 →
    to < 2 ^ 30 → to % 2 ≡ 0 → ((d : ℕ) → d ≤ 12 → Reaches setting.short (at + d) to) → (setting.next ≡ Some e.block → to ≡ at + 4 * length (edge_shape setting e at to)) →
    Stands program at (edge_shape setting e at to) → k + length (edge_shape setting e at to) ≤ weight →
    EdgeWays y program Next w base weight to (setting.counts && e.counts) m
edge-ways y Used Next w base k weight at to setting e program m n p h f way near some here room small even reach next there enough =
    ⊎_elim (λ g. behind g) (λ g. jumps g) (cases_Bool (falls setting.next e))
  where
    code : Bool → List Instr
    code b = if b then [] else counted_jump (setting.counts && e.counts) setting.short at to

    behind : falls setting.next e ≡ true → EdgeWays y program Next w base weight to (setting.counts && e.counts) m
    behind g =
        let none : to ≡ at + 4 * 0 =
        subst (λ b. to ≡ at + 4 * length (if b then [] else counted_jump (setting.counts && e.counts) setting.short at to)) g
        (next (falls-next setting e g)) in
        let few : k + 0 ≤ weight =
        subst (λ b. k + length (if b then [] else counted_jump (setting.counts && e.counts) setting.short at to) ≤ weight) g enough in
        ways-same y program Next w base weight to m
        (stays y Used Next w base k weight to program m n p h f way near (subst (λ q. q < 2 ^ 64) (sym here) (omega (arith, room))) some
        (omega (arith, few)) (here ∙ omega (arith, none)))
        (setting.counts && e.counts) (falls-free setting e g)

    jumps : falls setting.next e ≡ false → EdgeWays y program Next w base weight to (setting.counts && e.counts) m
    jumps g =
        jump-ways y Used Next w base k weight at to setting.short (setting.counts && e.counts) program m n p h f way near here room small even reach
        (subst (λ b. Stands program at (if b then [] else counted_jump (setting.counts && e.counts) setting.short at to)) g there)
        (subst (λ b. k + length (if b then [] else counted_jump (setting.counts && e.counts) setting.short at to) ≤ weight) g enough)

-- how many words a jump has, before which a count may be taken
pub counted-few : (takes short : Bool) (at to : ℕ) → length (counted_jump takes short at to) ≤ 5
counted-few true short at to = omega (arith, jump-count short (at + 12) to, (jump-few short).1)
counted-few false short at to = omega (arith, jump-count short at to, (jump-few short).1)

one-more : (a n : ℕ) → a + suc n ≡ a + (1 + n)
one-more a n = omega arith

-- a branch to two blocks
module _ (y : Layout) (Used Next : ℕ → Type 0) (w : World) (base first second weight : ℕ) (setting : Setting) (condition : BranchCondition)
    (a b : Register) (e f : Edge) (taken_it : Bool) (A : List Instr) (program : List (Option Instr)) (m k : State)
    (l : Scratch A m k) (p : Holds y Used w base m) (h : Housed y Used) (fewer : AreFewer Used Next)
    (enough : length (A ++ parted setting condition a b (m.pc + 4 * length A) e f first second) ≤ weight) (few : length A ≤ 16)
    (near : m.pc + 256 ≤ 2 ^ 30) (first-near : (first < 2 ^ 30) × (first % 2 ≡ 0)) (second-near : (second < 2 ^ 30) × (second % 2 ≡ 0))
    (first-reach : InReach setting.short m.pc first) (second-reach : InReach setting.short m.pc second)
    (first-close : InNear setting.near m.pc first) (second-close : InNear setting.near m.pc second)
    (first-next : setting.next ≡ Some e.block → first ≡ m.pc + 4 * length (A ++ parted setting condition a b (m.pc + 4 * length A) e f first second))
    (second-next : setting.next ≡ Some f.block → second ≡ m.pc + 4 * length (A ++ parted setting condition a b (m.pc + 4 * length A) e f first second))
    (there : Stands program m.pc (A ++ parted setting condition a b (m.pc + 4 * length A) e f first second))
    (is : is_taken condition (value_at k a) (value_at k b) ≡ taken_it) where
  abbrev at : ℕ
  at = m.pc + 4 * length A

  abbrev o : Follows
  o = follower setting.next e.block f.block

  abbrev plain : List Instr
  plain = chosen setting.near setting.short o condition a b at first second

  abbrev counted : List Instr
  counted = counting setting condition a b at e f first second

  abbrev by : Bool → List Instr
  by c = if c then counted else plain

  abbrev to : ℕ
  to = if taken_it then first else second

  abbrev takes : Bool
  takes = setting.counts && (if taken_it then e.counts else f.counts)

  never : (c x z t : Bool) → (c && (x || z)) ≡ false → (c && (if t then x else z)) ≡ true → ⊥
  never true true z t g q = cc
  never true false true t g q = cc
  never true false false true g q = cc
  never true false false false g q = cc
  never false x z t g q = cc

  -- no count is taken
  plainly : (setting.counts && (e.counts || f.counts)) ≡ false → EdgeWays y program Next w base weight to takes m
  plainly g =
      ways-same y program Next w base weight to m
      (chosen-comes y Used Next w base first second to weight setting.near setting.short o condition a b taken_it A program m k l p h fewer
      (subst (λ c. length (A ++ by c) ≤ weight) g enough) few near first-near second-near first-reach second-reach first-close second-close
      (λ q. subst (λ c. first ≡ m.pc + 4 * length (A ++ by c)) g (first-next (follower-first setting.next e.block f.block q)))
      (λ q. subst (λ c. second ≡ m.pc + 4 * length (A ++ by c)) g (second-next (follower-second setting.next e.block f.block q)))
      (subst (λ c. Stands program m.pc (A ++ by c)) g there) is refl)
      takes (never setting.counts e.counts f.counts taken_it g)

  abbrev J : List Instr
  J = counted_jump (setting.counts && e.counts) setting.short (at + 4) first

  abbrev E : List Instr
  E = edge_shape setting f (at + 4 + 4 * length J) second

  -- one of them may be taken
  counting-ways : (setting.counts && (e.counts || f.counts)) ≡ true → EdgeWays y program Next w base weight to takes m
  counting-ways g = goes taken_it is
    where
      all : Stands program m.pc (A ++ counted)
      all = subst (λ c. Stands program m.pc (A ++ by c)) g there

      enough-all : length (A ++ counted) ≤ weight
      enough-all = subst (λ c. length (A ++ by c) ≤ weight) g enough

      count : length (A ++ counted) ≡ length A + (1 + (length J + length E))
      count = length-append A counted ∙ (ap (λ n. length A + suc n) (length-append J E) ∙ one-more (length A) (length J + length E))

      j-few : length J ≤ 5
      j-few = counted-few (setting.counts && e.counts) setting.short (at + 4) first

      way-a : Way program (length A) m k
      way-a = straight-way program A m k (stands-front program m.pc A counted all) l.straight l.goes

      near-a : Near m k
      near-a = scratch-near A m k l

      at-is : k.pc ≡ at
      at-is = l.behind ∙ low-near at (omega (arith, few, near))

      behind-a : Stands program k.pc counted
      behind-a = subst (λ q. Stands program q counted) (sym l.behind) (stands-back program m.pc A counted p.pc all)

      words-fit : 4 * (length J + 1) ≤ 4094
      words-fit = omega (arith, j-few)

      words-even : 4 * (length J + 1) % 2 ≡ 0
      words-even = omega arith

      branch : (t : Bool) → is_taken condition (value_at k a) (value_at k b) ≡ t →
          Way program 1 k (at_pc k (if not t then low (k.pc + 4 * (length J + 1)) else low (k.pc + 4)))
      branch t i =
          branch-way program (negated condition) a b (4 * (length J + 1)) k (not t) words-fit words-even behind-a.0
          (negated-taken condition (value_at k a) (value_at k b) ∙ ap not i)

      at-next : low (k.pc + 4) ≡ at + 4
      at-next = ap (λ q. low (q + 4)) at-is ∙ low-near (at + 4) (omega (arith, few, near))

      at-other : low (k.pc + 4 * (length J + 1)) ≡ at + 4 + 4 * length J
      at-other = ap (λ q. low (q + 4 * (length J + 1))) at-is ∙ (low-near (at + 4 * (length J + 1)) (omega (arith, few, near, j-few)) ∙ omega arith)

      first-there : Stands program (at + 4) J
      first-there = stands-front program (at + 4) J E (subst (λ q. Stands program q (J ++ E)) at-next behind-a.1)

      second-there : Stands program (at + 4 + 4 * length J) E
      second-there =
          subst (λ q. Stands program q E) (low-near (at + 4 + 4 * length J) (omega (arith, few, near, j-few)))
          (stands-back program (at + 4) J E (omega (arith, few, near)) (subst (λ q. Stands program q (J ++ E)) at-next behind-a.1))

      later : (z n from : ℕ) → InReach setting.short m.pc z → m.pc + n ≡ from → n ≤ 256 → Reaches setting.short from z
      later z n from r i q = subst (λ x. Reaches setting.short x z) i (reach-behind setting.short m.pc z n q r)

      goes : (t : Bool) → is_taken condition (value_at k a) (value_at k b) ≡ t →
          EdgeWays y program Next w base weight (if t then first else second) (setting.counts && (if t then e.counts else f.counts)) m
      goes true i =
          let n : State = at_pc k (low (k.pc + 4)) in
          jump-ways y Used Next w base (length A + 1) weight (at + 4) first setting.short (setting.counts && e.counts) program m n p h fewer
          (way-both program (length A) 1 m k n way-a (branch true i)) (near-both m k n near-a (near-pc k (low (k.pc + 4)))) at-next
          (omega (arith, few, near)) first-near.0 first-near.1
          (λ d z. later first (4 * length A + 4 + d) (at + 4 + d) first-reach (omega arith) (omega (arith, few, z))) first-there
          (omega (arith, count, enough-all))
      goes false i =
          let n : State = at_pc k (low (k.pc + 4 * (length J + 1))) in
          edge-ways y Used Next w base (length A + 1) weight (at + 4 + 4 * length J) second setting f program m n p h fewer
          (way-both program (length A) 1 m k n way-a (branch false i))
          (near-both m k n near-a (near-pc k (low (k.pc + 4 * (length J + 1))))) (omega arith) at-other (omega (arith, few, near, j-few))
          second-near.0 second-near.1
          (λ d z. later second (4 * length A + 4 + 4 * length J + d) (at + 4 + 4 * length J + d) second-reach (omega arith)
          (omega (arith, few, j-few, z)))
          (λ q.
          let next : second ≡ m.pc + 4 * length (A ++ counted) =
          subst (λ c. second ≡ m.pc + 4 * length (A ++ by c)) g (second-next q) in
          omega (arith, next, count))
          second-there (omega (arith, count, enough-all))

  pub parted-ways : EdgeWays y program Next w base weight to takes m
  parted-ways = ⊎_elim counting-ways plainly (cases_Bool (setting.counts && (e.counts || f.counts)))
