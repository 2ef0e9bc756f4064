-- What is in use at an instruction and behind it.
use Rattle.std.proofs.Common.{◌≡◌, ◌≢◌, ◌<◌, ◌≤◌, ℕ, zero, suc, ◌+◌, Bool, true, false, not, ◌&&◌, ◌||◌, List, [], ◌∷◌, length, option_map}
use Rattle.std.proofs.Common.{Option, Some, None, refl, sym, ap, ◌∙◌, subst, ⊎_elim, inl, inr, arith}
use Rattle.std.specs.Prelude.{nat_le, slice_get, ◌⊎◌}
use Rattle.std.specs.List.{list_any}
use Rattle.std.proofs.lemmas.Bool.{cases_Bool, cases_eq, eq-eqb, leb-true, ltb-true}
use Rattle.std.proofs.lemmas.Option.{slice_get-map}
use Rattle.tac_form.specs.declared.tac.Instruction.{Instruction}
use Rattle.tac_form.specs.declared.tac.Block.{Block}
use Rattle.tac_form.specs.declared.tac.Tac.{Tac}
use Rattle.tac_form.specs.declared.graph.Step.{Step}
use Rattle.tac_form.specs.declared.graph.FlowBlock.{FlowBlock}
use Rattle.tac_form.specs.Graph.{block_of, graph_of, step_of}
use Rattle.tac_form.specs.Live.{InUse, IsLive, at_place, at_step, has, is_written, read_within, step_writes, written_in}
use Rattle.reg_alloc.specs.declared.assignment.Home.{Home}
use Rattle.reg_alloc.specs.declared.assignment.Home.TheVariants as homes
use Rattle.reg_alloc.specs.Right.{IsRight, is_home, is_some_home}
use Rattle.rv_select.specs.Asked.{asked_homes, first_word}
use Rattle.rv_select.specs.Places.{HasHome, Housed, IsHome, IsSlot, is_register, layout_of, or_first}
use Rattle.rv_select.proofs.Granted.{asked-either, asked-length}
use Rattle.rv_select.proofs.Worded.{AtWord, TakesAt, takes-below, takes-one}

-- the step of an instruction in the flow graph
pub step-in-graph : (code : Tac) (b : Block) (i : Instruction) (block at : ℕ) → slice_get code.blocks block ≡ Some b → slice_get b.instructions at ≡ Some i →
    (slice_get (graph_of code) block ≡ Some (block_of b)) × (slice_get (block_of b).steps at ≡ Some (step_of i))
step-in-graph code b i block at e f =
    (slice_get-map block_of code.blocks block ∙ mapped block_of (slice_get code.blocks block) b e, slice_get-map step_of b.instructions at ∙ mapped step_of (slice_get b.instructions at) i f)
  where
    mapped : {A B : Type 0} (g : A → B) (o : Option A) (x : A) → o ≡ Some x → option_map g o ≡ Some (g x)
    mapped g o x q = ap (option_map g) q

or-left : (a b : Bool) → a ≡ true → (a || b) ≡ true
or-left true b e = refl
or-left false b e = cc

-- what an instruction reads is live before it
pub read-live : (graph : List FlowBlock) (block at t : ℕ) (f : FlowBlock) (s : Step) → slice_get graph block ≡ Some f → slice_get f.steps at ≡ Some s → has s.reads t ≡ true →
    IsLive graph block at t
read-live graph block at t f s e g h = (
  1,
  ap (λ o. at_place o at (λ c. read_within graph 0 c 0 t) (read_within graph 0 block (suc at) t) t) e
      ∙ (ap (λ o. at_step f o (λ c. read_within graph 0 c 0 t) (read_within graph 0 block (suc at) t) t) g
      ∙ or-left (has s.reads t) (not (is_written s.write t) && read_within graph 0 block (suc at) t) h),
)

or-right : (a b c : Bool) → b ≡ false → c ≡ true → (a || (not b && c)) ≡ true
or-right true b c e f = refl
or-right false b c e f = ap (λ x. not x && c) e ∙ f

-- what is in use behind an instruction was in use before it, or is what it writes
pub use-follows : (graph : List FlowBlock) (block at t : ℕ) (f : FlowBlock) (s : Step) → slice_get graph block ≡ Some f → slice_get f.steps at ≡ Some s → InUse graph block (suc at) t →
    (is_written s.write t ≡ true) ⊎ InUse graph block at t
use-follows graph block at t f s e g u =
    ⊎_elim
    (λ live.
    ⊎_elim (λ w. inl w)
    (λ w.
    inr (inl (
      suc live.0,
      ap (λ o. at_place o at (λ c. read_within graph live.0 c 0 t) (read_within graph live.0 block (suc at) t) t) e
          ∙ (ap (λ o. at_step f o (λ c. read_within graph live.0 c 0 t) (read_within graph live.0 block (suc at) t) t) g
          ∙ or-right (has s.reads t) (is_written s.write t) (read_within graph live.0 block (suc at) t) w live.1),
    )))
    (cases_Bool (is_written s.write t)))
    (λ written. inl (sym (ap (λ o. written_in o at t) e ∙ ap (λ o. step_writes o t) g) ∙ written))
    u

-- what is written is in use behind the instruction
pub write-used : (graph : List FlowBlock) (block at t : ℕ) (f : FlowBlock) (s : Step) → slice_get graph block ≡ Some f → slice_get f.steps at ≡ Some s → is_written s.write t ≡ true →
    InUse graph block (suc at) t
write-used graph block at t f s e g w = inr (ap (λ o. written_in o at t) e ∙ (ap (λ o. step_writes o t) g ∙ w))

-- homes of an assignment that is right
some-home : (n : ℕ) (o : Option (Option Home)) → is_some_home n o ≡ true → (h : Home) × (o ≡ Some (Some h)) × (is_home n h ≡ true)
some-home n (Some (Some h)) e = (h, refl, e)
some-home n (Some None) e = cc
some-home n None e = cc

used-here : (xs : List (Option Home)) (t x : ℕ) → slice_get xs t ≡ Some (Some (homes.Register x)) → list_any (is_register x) xs ≡ true
used-here [] t x e = cc
used-here (h ∷ xs) zero x e =
    let same : h ≡ Some (homes.Register x) = cc in
    ap (λ o. is_register x o || list_any (is_register x) xs) same ∙ ap (λ b. b || list_any (is_register x) xs) (eq-eqb x x refl)
used-here (h ∷ xs) (suc t) x e = or-second (is_register x h) (list_any (is_register x) xs) (used-here xs t x e)
  where
    or-second : (a b : Bool) → b ≡ true → (a || b) ≡ true
    or-second true b q = refl
    or-second false b q = q

both-true : (a b : Bool) → (a && b) ≡ true → (a ≡ true) × (b ≡ true)
both-true true b e = (refl, e)
both-true false b e = cc

home-of-kind : (code : Tac) (hs : List (Option Home)) (t : ℕ) (h : Home) → slice_get (asked_homes code hs) t ≡ Some (Some h) →
    is_home (length hs) h ≡ true → IsHome (layout_of code hs) h
home-of-kind code hs t (homes.Register x) e g =
    let b = both-true (nat_le 18 x) (nat_le x 27) g in
    (leb-true 18 x b.0, leb-true x 27 b.1, used-here (asked_homes code hs) t x e)
home-of-kind code hs t (homes.Slot k) e g = inl (subst (λ n. k < n) (sym (asked-length code hs)) (ltb-true k (length hs) g))

-- the word of a parameter is a slot of the frame, and none of the assignment
word-slot : (code : Tac) (hs : List (Option Home)) (t : ℕ) →
    (w : AtWord (first_word code hs) code.parameters hs (asked_homes code hs) t) → IsSlot (layout_of code hs) (first_word code hs + w.behind)
word-slot code hs t w =
    let l : length (asked_homes code hs) ≡ length hs = asked-length code hs in
    let b : w.behind < length code.parameters = takes-below code.parameters w.behind t w.takes in
    inr (omega (arith, l), omega (arith, l, b))

word-new : (n k : ℕ) (h : Home) → is_home n h ≡ true → h ≡ homes.Slot k → n ≤ k → ⊥
word-new n k h i e l =
    let below : k < n = ltb-true k n (sym (ap (is_home n) e) ∙ i) in
    omega (arith, below, l)

slot-same : (j k : ℕ) → homes.Slot j ≡ homes.Slot k → j ≡ k
slot-same j k e = cc

pub housed : (code : Tac) (hs : List (Option Home)) (block at : ℕ) → IsRight code hs → Housed (layout_of code hs) (InUse (graph_of code) block at)
housed code hs block at r = record {
  homes = λ t u k.
      ⊎_elim
      (λ e.
      let h = some-home (length hs) (slice_get hs t) (r.homes_are block at t u) in
      let there : slice_get (asked_homes code hs) t ≡ Some (Some h.0) = e ∙ h.1 in
      subst (λ o. IsHome (layout_of code hs) (or_first o)) (sym there) (home-of-kind code hs t h.0 there h.2))
      (λ w. subst (λ o. IsHome (layout_of code hs) (or_first o)) (sym w.has) (word-slot code hs t w))
      (asked-either code hs t k);
  apart = λ t u a b i j same. ⊎_elim (λ e. e) (λ n. absurd (two t u a b i j same n)) (cases_eq t u);
}
  where
    first : ℕ
    first = first_word code hs

    Used : ℕ → Type 0
    Used = InUse (graph_of code) block at

    Worded : ℕ → Type 0
    Worded t = AtWord (first_word code hs) code.parameters hs (asked_homes code hs) t

    home : (t : ℕ) → Used t → (h : Home) × (slice_get hs t ≡ Some (Some h)) × (is_home (length hs) h ≡ true)
    home t u = some-home (length hs) (slice_get hs t) (r.homes_are block at t u)

    -- a home of the assignment is the word of no parameter
    other : (t k : ℕ) → Used t → slice_get (asked_homes code hs) t ≡ slice_get hs t →
        or_first (slice_get (asked_homes code hs) t) ≡ homes.Slot (first + k) → ⊥
    other t k u e g =
        let h = home t u in
        word-new (length hs) (first + k) h.0 h.2 (sym (ap or_first (e ∙ h.1)) ∙ g) (omega arith)

    both : (t u : ℕ) → Used t → Used u → slice_get (asked_homes code hs) t ≡ slice_get hs t → slice_get (asked_homes code hs) u ≡ slice_get hs u →
        or_first (slice_get (asked_homes code hs) t) ≡ or_first (slice_get (asked_homes code hs) u) → t ≢ u → ⊥
    both t u a b e f same n =
        let g = home t a in
        let h = home u b in
        let equal : g.0 ≡ h.0 = sym (ap or_first (e ∙ g.1)) ∙ (same ∙ ap or_first (f ∙ h.1)) in
        r.apart block at t u a b n (g.1 ∙ (ap (λ x. Some (Some x)) equal ∙ sym h.1))

    words : (t u : ℕ) → Worded t → Worded u →
        or_first (slice_get (asked_homes code hs) t) ≡ or_first (slice_get (asked_homes code hs) u) → t ≡ u
    words t u w v same =
        let e : first + w.behind ≡ first + v.behind =
        slot-same (first + w.behind) (first + v.behind) (sym (ap or_first w.has) ∙ (same ∙ ap or_first v.has)) in
        let k : w.behind ≡ v.behind = omega (arith, e) in
        takes-one code.parameters v.behind t u (subst (λ z. TakesAt code.parameters z t) k w.takes) v.takes

    two : (t u : ℕ) → Used t → Used u → HasHome (layout_of code hs) t → HasHome (layout_of code hs) u →
        or_first (slice_get (asked_homes code hs) t) ≡ or_first (slice_get (asked_homes code hs) u) → t ≢ u → ⊥
    two t u a b i j same n =
        ⊎_elim
        (λ e.
        ⊎_elim (λ f. both t u a b e f same n) (λ v. other t v.behind a e (same ∙ ap or_first v.has)) (asked-either code hs u j))
        (λ w.
        ⊎_elim (λ f. other u w.behind b f (sym same ∙ ap or_first w.has)) (λ v. n (words t u w v same)) (asked-either code hs u j))
        (asked-either code hs t i)
