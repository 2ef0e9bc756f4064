-- A comparison and its branch as one.
use Rattle.std.proofs.Common.{◌≡◌, ◌≢◌, ℕ, suc, ◌+◌, ◌*◌, ◌%◌, ◌^◌, ◌<◌, ◌≤◌, Bool, true, false, not, ◌&&◌, ◌||◌, List, ◌++◌, length}
use Rattle.std.proofs.Common.{map, Option, refl, sym, ap, ◌∙◌, subst, ⊎_elim, inl, arith}
use Rattle.std.specs.Prelude.{if◌then◌else◌, nat_eq, nat_lt, int_lt}
use Rattle.std.specs.List.{list_any}
use Rattle.std.proofs.lemmas.Bool.{eq-eqb, ne_eqb, eqb-true}
use Rattle.std.proofs.lemmas.List.{length-append}
use Rattle.rv_isa.specs.declared.instr.Instr.{Instr}
use Rattle.rv_isa.specs.declared.operand.Register.{Register}
use Rattle.rv_isa.specs.Table.{word_of}
use Rattle.reg_alloc.specs.declared.assignment.Home.{Home}
use Rattle.rv_machine.specs.Word.{signed}
use Rattle.rv_machine.specs.Arithmetic.{is_taken}
use Rattle.rv_machine.specs.Machine.{State, value_at}
use Rattle.terra_words.specs.declared.words.Width.{Width}
use Rattle.terra_words.specs.declared.words.BinaryOperator.{BinaryOperator}
use Rattle.terra_words.specs.declared.words.BinaryOperator.TheVariants.{Add, Subtract, Multiply, Divide, Modulo, Xor, And, Or, ShiftLeft}
use Rattle.terra_words.specs.declared.words.BinaryOperator.TheVariants.{ShiftRight, Equal, NotEqual, Less, LessEqual, Greater, GreaterEqual}
use Rattle.terra_words.specs.Words.{applied, divides, flag, is_less}
use Rattle.tac_form.specs.declared.tac.Number.{Number}
use Rattle.tac_form.specs.declared.tac.Operand.{Operand}
use Rattle.tac_form.specs.declared.tac.Operand.TheVariants.{Temp}
use Rattle.tac_form.specs.declared.tac.Edge.{Edge}
use Rattle.tac_form.specs.declared.tac.Instruction.TheVariants.{Compute}
use Rattle.tac_form.specs.declared.tac.Exit.TheVariants.{Branch}
use Rattle.tac_form.specs.declared.tac.Tac.{Tac}
use Rattle.tac_form.specs.Flow as tac
use Rattle.tac_form.specs.Flow.{Goes, Program, put, step, steps, width_of}
use Rattle.terra_words.specs.Runs.{Stuck}
use Rattle.tac_form.specs.Graph.{block_of, exit_next, graph_of, instruction_reads, operand_reads, step_of}
use Rattle.tac_form.specs.Live.{InUse, IsLive, has, read_within}
use Rattle.tac_form.specs.Fits.{edge_fits, operand_fits}
use Rattle.rv_operators.specs.Codes.{is_comparison}
use Rattle.rv_operators.proofs.Values.{signed-less}
use Rattle.rv_select.specs.Asked.{both_ask, is_second}
use Rattle.rv_select.specs.Places.{Holds, Housed, IsFirst, IsRead, Layout, World, layout_of, value_in}
use Rattle.rv_select.specs.declared.settings.Setting.{Setting}
use Rattle.rv_select.specs.Compared.{ComparesAreCarried, ComparesKeepWithin, StandsAtCompare, below_condition, compared, compared_shape}
use Rattle.rv_select.specs.Compared.{condition_of, first_register, least_condition, left_of, operands_taken, right_of, second_register}
use Rattle.rv_select.specs.Steps.{AreFewer, Left, with_temp, world_of}
use Rattle.rv_select.proofs.Moves.{at-most, fewer-holds, unused-holds}
use Rattle.rv_select.proofs.Sides.{Sides, sides-count, sides-few, sides-taken}
use Rattle.rv_select.proofs.Numbers.{pushed_words}
use Rattle.rv_select.proofs.Lives.{housed, read-live, step-in-graph, use-follows}
use Rattle.rv_select.proofs.Carries.{both-read, both-true, by-test, has-left, has-right, used-small}
use Rattle.rv_select.proofs.Leaves.{edge-left, edge-near, edge-reach, exit-in-graph, next-live, or-left, or-second}
use Rattle.rv_select.proofs.Parted.{EdgeWays, parted-ways}
use Rattle.rv_select.proofs.Weighing.{parted-count, parted-few, parted-weight, parted_words}

-- the result of a comparison, as its branch sees it
flag-is : (b : Bool) → not (nat_eq (flag b) 0) ≡ b
flag-is true = refl
flag-is false = refl

-- whether a word is below another, with a sign and without
less : (b : Bool) (x y : ℕ) → x < 2 ^ 64 → y < 2 ^ 64 → (u v : ℕ) → u ≡ x → v ≡ y →
    is_taken (below_condition b) u v ≡ (if b then nat_lt ((x + 2 ^ 63) % 2 ^ 64) ((y + 2 ^ 63) % 2 ^ 64) else nat_lt x y)
less true x y h k u v e g = ap (λ z. int_lt (signed z) (signed v)) e ∙ (ap (λ z. int_lt (signed x) (signed z)) g ∙ signed-less x y h k)
less false x y h k u v e g = ap (λ z. nat_lt z v) e ∙ ap (λ z. nat_lt x z) g

least : (b : Bool) (x y : ℕ) → x < 2 ^ 64 → y < 2 ^ 64 → (u v : ℕ) → u ≡ x → v ≡ y →
    is_taken (least_condition b) u v ≡ not (if b then nat_lt ((x + 2 ^ 63) % 2 ^ 64) ((y + 2 ^ 63) % 2 ^ 64) else nat_lt x y)
least true x y h k u v e g = ap (λ z. not (int_lt (signed z) (signed v))) e ∙ (ap (λ z. not (int_lt (signed x) (signed z))) g ∙ ap not (signed-less x y h k))
least false x y h k u v e g = ap (λ z. not (nat_lt z v)) e ∙ ap (λ z. not (nat_lt x z)) g

compare-is : (w : Width) (op : BinaryOperator) (x y : ℕ) → is_comparison op ≡ true → x < 2 ^ 64 → y < 2 ^ 64 → (a b : Register) →
    (m : State) → value_at m a ≡ x → value_at m b ≡ y →
    is_taken (condition_of w.signed op) (value_at m (left_of op a b)) (value_at m (right_of op a b)) ≡ not (nat_eq (applied w op x y) 0)
unfolding applied
compare-is w Equal x y c h k a b m e g = ap (λ v. nat_eq v (value_at m b)) e ∙ (ap (λ v. nat_eq x v) g ∙ sym (flag-is (nat_eq x y)))
compare-is w NotEqual x y c h k a b m e g =
    ap (λ v. not (nat_eq v (value_at m b))) e ∙ (ap (λ v. not (nat_eq x v)) g ∙ sym (flag-is (not (nat_eq x y))))
compare-is w Less x y c h k a b m e g = less w.signed x y h k (value_at m a) (value_at m b) e g ∙ sym (flag-is (is_less w x y))
compare-is w Greater x y c h k a b m e g = less w.signed y x k h (value_at m b) (value_at m a) g e ∙ sym (flag-is (is_less w y x))
compare-is w LessEqual x y c h k a b m e g =
    least w.signed y x k h (value_at m b) (value_at m a) g e ∙ sym (flag-is (not (is_less w y x)))
compare-is w GreaterEqual x y c h k a b m e g =
    least w.signed x y h k (value_at m a) (value_at m b) e g ∙ sym (flag-is (not (is_less w x y)))
compare-is w Add x y c h k a b m e g = cc
compare-is w Subtract x y c h k a b m e g = cc
compare-is w Multiply x y c h k a b m e g = cc
compare-is w Divide x y c h k a b m e g = cc
compare-is w Modulo x y c h k a b m e g = cc
compare-is w Xor x y c h k a b m e g = cc
compare-is w And x y c h k a b m e g = cc
compare-is w Or x y c h k a b m e g = cc
compare-is w ShiftLeft x y c h k a b m e g = cc
compare-is w ShiftRight x y c h k a b m e g = cc

-- what is in use but for a temporary
abbrev without : (ℕ → Type 0) → ℕ → ℕ → Type 0
without Used d t = Used t × (t ≢ d)

-- a temporary that isn't in use may have any word
unread-holds : (y : Layout) (Used : ℕ → Type 0) (w : World) (base d v : ℕ) (m : State) → Holds y Used w base m → Holds y (without Used d) (with_temp w d v) base m
unread-holds y Used w base d v m p =
    unused-holds y (without Used d) w base d v m (fewer-holds y Used (without Used d) w base m (λ t u. u.0) p) (λ t u. u.1)

-- the comparison at its place
module _ (p : Program) (code : Tac) (homes : List (Option Home)) (held : Option ℕ) (d : ℕ) (op : BinaryOperator) (form : Number) (a b : Operand) (e f : Edge) (starts : ℕ → ℕ) (s : tac.State)
    (program : List (Option Instr)) (base : ℕ) (m : State) (x : StandsAtCompare p code homes held d op form a b e f starts s program base m) where
  abbrev y : Layout
  y = layout_of code homes

  abbrev used : ℕ → Type 0
  used = InUse (graph_of code) s.here.block s.here.at

  abbrev va : ℕ
  va = value_in s.here.temps a

  abbrev vb : ℕ
  vb = value_in s.here.temps b

  abbrev result : ℕ
  result = applied (width_of form) op va vb

  abbrev after_it : tac.State
  after_it = tac.ahead (tac.set_temp d result s)

  abbrev A : List Instr
  A = operands_taken y held a b

  abbrev weight : ℕ
  weight = length (compared_shape y x.setting held m.pc starts op form a b e f)

  all-housed : Housed y used
  all-housed = housed code homes s.here.block s.here.at x.right

  reads-here : (t : ℕ) → has (instruction_reads (Compute d op form a b)) t ≡ true → used t
  reads-here t h =
      let g = step-in-graph code x.block (Compute d op form a b) s.here.block s.here.at x.in_function x.in_block in
      inl (read-live (graph_of code) s.here.block s.here.at t (block_of x.block) (step_of (Compute d op form a b)) g.0 g.1 h)

  -- what is in use where a block begins that follows
  next-here : (c : ℕ) → (IsLive (graph_of code) c 0 d → ⊥) → ((q : ℕ → Bool) → q c ≡ true → list_any q (exit_next (Branch (Temp d) e f)) ≡ true) → AreFewer (without used d) (InUse (graph_of code) c 0)
  next-here c unread h t u =
      let g = exit-in-graph code x.block s.here.block (suc s.here.at) x.in_function x.last in
      let k = step-in-graph code x.block (Compute d op form a b) s.here.block s.here.at x.in_function x.in_block in
      let differs : t ≢ d =
      λ same. ⊎_elim (λ live. unread (subst (λ i. IsLive (graph_of code) c 0 i) same live)) (λ w. let none : false ≡ true = w in cc) u in
      let behind : InUse (graph_of code) s.here.block (suc s.here.at) t =
      next-live (graph_of code) s.here.block (suc s.here.at) t (block_of x.block) c g.0 g.1
      (λ i r. ap (λ ns. list_any (λ j. read_within (graph_of code) i j 0 t) ns) (ap exit_next x.is) ∙ h (λ j. read_within (graph_of code) i j 0 t) r) u in (
        ⊎_elim (λ w. absurd (differs (sym (eqb-true d t w)))) (λ o. o)
            (use-follows (graph_of code) s.here.block s.here.at t (block_of x.block) (step_of (Compute d op form a b)) k.0 k.1 behind),
        differs,
      )

  fits-both : ((nat_lt d code.temps && operand_fits code a) ≡ true) × (operand_fits code b ≡ true)
  fits-both = both-true (nat_lt d code.temps && operand_fits code a) (operand_fits code b) x.fits

  fits-a : operand_fits code a ≡ true
  fits-a = (both-true (nat_lt d code.temps) (operand_fits code a) fits-both.0).1

  read-a : (t : ℕ) → has (operand_reads a) t ≡ true → used t
  read-a t u = reads-here t (has-left (operand_reads a) (operand_reads b) t u)

  read-b : (t : ℕ) → has (operand_reads b) t ≡ true → used t
  read-b t u = reads-here t (has-right (operand_reads a) (operand_reads b) t u)

  in-order : is_second held b ≡ false → IsFirst y held used a × IsRead y used b
  in-order plain = both-read code y held used a b fits-a fits-both.1 read-a read-b
      (λ t u. x.asked t (ap (λ c. has (if c then both_ask held b a else both_ask held a b) t) plain ∙ u))

  turned-round : is_second held b ≡ true → IsFirst y held used b × IsRead y used a
  turned-round turn = both-read code y held used b a fits-both.1 fits-a read-b read-a
      (λ t u. x.asked t (ap (λ c. has (if c then both_ask held b a else both_ask held a b) t) turn ∙ u))

  fit-e : edge_fits code e ≡ true
  fit-e = (both-true (operand_fits code (Temp d)) (edge_fits code e) (both-true (operand_fits code (Temp d) && edge_fits code e) (edge_fits code f) x.there).0).1

  fit-f : edge_fits code f ≡ true
  fit-f = (both-true (operand_fits code (Temp d) && edge_fits code e) (edge_fits code f) x.there).1

  small : (o : Operand) → operand_fits code o ≡ true → ((t : ℕ) → has (operand_reads o) t ≡ true → used t) →
      value_in s.here.temps o < 2 ^ 64
  small o fits reads = used-small code y used (world_of s) base m o x.holds fits reads

  compare-ways : (taken_it : Bool) (c : ℕ) → not (nat_eq result 0) ≡ taken_it → (IsLive (graph_of code) c 0 d → ⊥) →
      ((q : ℕ → Bool) → q c ≡ true → list_any q (exit_next (Branch (Temp d) e f)) ≡ true) →
      EdgeWays y program (InUse (graph_of code) c 0) (world_of after_it) base weight (if taken_it then starts e.block else starts f.block)
      (x.setting.counts && (if taken_it then e.counts else f.counts)) m
  compare-ways taken_it c is unread h =
      let l : Register = first_register y held a b in
      let r : Register = second_register y held a b in
      let k : Sides A m l r va vb = sides-taken y held used (world_of s) base m a b x.five x.holds all-housed in-order turned-round in
      let few : length A ≤ 16 = sides-few y held a b in
      parted-ways y (without used d) (InUse (graph_of code) c 0) (world_of after_it) base (starts e.block) (starts f.block) weight x.setting
      (condition_of form.signed op) (left_of op l r) (right_of op l r) e f taken_it A program m k.after
      k.scratch (unread-holds y used (world_of s) base d result m x.holds) (record { homes = λ t u k. all-housed.homes t u.0 k; apart = λ t u i j k o g. all-housed.apart t u i.0 j.0 k o g }) (next-here c unread h)
      (at-most weight) few x.near (x.blocks e.block) (x.blocks f.block) (edge-reach code starts m.pc x.setting.short e x.short_is x.reach fit-e)
      (edge-reach code starts m.pc x.setting.short f x.short_is x.reach fit-f) (edge-near code starts m.pc x.setting.near e x.near_is x.reach fit-e)
      (edge-near code starts m.pc x.setting.near f x.near_is x.reach fit-f) (λ q. x.next_there e.block q) (λ q. x.next_there f.block q) x.stands
      (compare-is (width_of form) op va vb x.compares (small a fits-a read-a) (small b fits-both.1 read-b) l r k.after k.first k.second ∙ is)

  pub carry-leave : Left y (graph_of code) program base weight starts s m (step p after_it)
  carry-leave =
      let first : result ≢ 0 → EdgeWays y program (InUse (graph_of code) e.block 0) (world_of after_it) base weight (starts e.block) (x.setting.counts && e.counts) m =
      λ n. compare-ways true e.block (ap not (ne_eqb result 0 n)) x.first_unread (λ q g. or-left (q e.block) (q f.block || false) g) in
      let second : result ≡ 0 → EdgeWays y program (InUse (graph_of code) f.block 0) (world_of after_it) base weight (starts f.block) (x.setting.counts && f.counts) m =
      λ n. compare-ways false f.block (ap not (eq-eqb result 0 n)) x.second_unread (λ q g. or-second (q e.block) (q f.block || false) (or-left (q f.block) false g)) in
      let same : tac.operand after_it (Temp d) ≡ result = ap (λ t. if t then result else s.here.temps d) (eq-eqb d d refl) in
      let e1 = x.function in
      let e2 = x.in_function in
      let e3 = x.last in
      let e4 = x.is in
      rw (e1, e2, e3) (rw e4 (rw same
      (by-test (λ moved. Left y (graph_of code) program base weight starts s m moved) (nat_eq result 0) _ _
      (λ z.
      edge-left y (graph_of code) program base weight starts f code.counts after_it m refl x.counts
      (subst (λ c. EdgeWays y program (InUse (graph_of code) f.block 0) (world_of after_it) base weight (starts f.block) (c && f.counts) m) x.counts_is
      (second (eqb-true result 0 z))))
      (λ z.
      edge-left y (graph_of code) program base weight starts e code.counts after_it m refl x.counts
      (subst (λ c. EdgeWays y program (InUse (graph_of code) e.block 0) (world_of after_it) base weight (starts e.block) (c && e.counts) m) x.counts_is
      (first (λ o. let t : nat_eq result 0 ≡ true = eq-eqb result 0 o in let none : true ≡ false = sym t ∙ z in cc)))))))

pub compares : ComparesAreCarried
compares p code homes held d op form a b e f starts s program base m x =
    let leave = carry-leave p code homes held d op form a b e f starts s program base m x in
    let e1 = x.function in
    let e2 = x.in_function in
    let e3 = x.in_block in
    let zero : Bool = divides op && nat_eq (tac.operand s b) 0 in
    let first : step p s ≡ (if zero then tac.stop s Stuck else Goes (tac.ahead (tac.set_temp d (applied (width_of form) op (tac.operand s a) (tac.operand s b)) s))) = rw (e1, e2, e3) refl in
    subst (λ moved. Left (layout_of code homes) (graph_of code) program base
    (length (compared_shape (layout_of code homes) x.setting held m.pc starts op form a b e f)) starts s m (steps p 1 moved)) (sym first)
    (by-test (λ moved. Left (layout_of code homes) (graph_of code) program base
    (length (compared_shape (layout_of code homes) x.setting held m.pc starts op form a b e f)) starts s m (steps p 1 moved)) zero _ _ (λ h. tt) (λ h. leave))

-- how many words there are
compared-count : (y : Layout) (setting : Setting) (held : Option ℕ) (signed : Bool) (op : BinaryOperator) (a b : Operand) (at : ℕ) (e f : Edge) (first second : ℕ) →
    length (operands_taken y held a b ++ compared setting signed op (first_register y held a b) (second_register y held a b) at e f first second) ≡
    length (operands_taken y held a b) + parted_words setting e f
compared-count y setting held signed op a b at e f first second =
    let l : Register = left_of op (first_register y held a b) (second_register y held a b) in
    let r : Register = right_of op (first_register y held a b) (second_register y held a b) in
    length-append (operands_taken y held a b) (compared setting signed op (first_register y held a b) (second_register y held a b) at e f first second)
    ∙ ap (λ n. length (operands_taken y held a b) + n) (parted-count setting (condition_of signed op) l r at e f first second)

pub compares-within : ComparesKeepWithin
compares-within y setting held d op form a b e f at other starts others =
    let n : length (compared_shape y setting held at starts op form a b e f) ≡ length (operands_taken y held a b) + parted_words setting e f =
    compared-count y setting held form.signed op a b (at + 4 * length (operands_taken y held a b)) e f (starts e.block) (starts f.block) in (
      omega (arith, n, parted-few setting e f, sides-few y held a b),
      omega (arith, n, parted-weight setting e f, sides-count y held a b),
      n ∙ sym (compared-count y setting held form.signed op a b (other + 4 * length (operands_taken y held a b)) e f (others e.block) (others f.block)),
    )

pub operand_words : (old : List ℕ) (y : Layout) (held : Option ℕ) (a b : Operand) →
    (length (old ++ map word_of (operands_taken y held a b)) ≡ length old + length (operands_taken y held a b)) × (length (operands_taken y held a b) ≤ 16)
operand_words old y held a b = (pushed_words old (operands_taken y held a b), sides-few y held a b)
