-- `and` and `or`: the first operand in a temporary, a test of it, and the second operand in the same one.
use Rattle.std.proofs.Common.{◌≡◌, ℕ, zero, suc, ◌<◌, ◌≤◌, Bool, true, false, List, [], ◌∷◌, ◌++◌, refl, sym, ap, ◌∙◌, subst, arith}
use Rattle.std.specs.Prelude.{◌%◌, not, nat_eq, if◌then◌else◌}
use Rattle.tl_base.specs.declared.ids.TypeId.{TypeId}
use Rattle.terra_words.specs.declared.words.BinaryOperator.TheVariants as operators
use Rattle.terra_words.specs.Words.{wrapped, applied}
use Rattle.terra_words.specs.Runs.{Value, word, bytes, number, is_true}
use Rattle.terra_types.specs.declared.types.TypeForm.{TypeForm}
use Rattle.terra_types.specs.declared.types.TypeForm.TheVariants as forms
use Rattle.terra_term.specs.declared.lists.TypedName.{TypedName}
use Rattle.terra_meaning.specs.Values.{form_at, is_aggregate, IsValue}
use Rattle.terra_meaning.specs.Running.{State, Got, Gives, Ends, next}
use Rattle.terra_meaning.specs.Meaning.{the_value}
use Rattle.tac_form.specs.declared.tac.Operand.{Operand}
use Rattle.tac_form.specs.declared.tac.Operand.TheVariants.{Temp, Constant}
use Rattle.tac_form.specs.declared.tac.Instruction.TheVariants.{Compute, Copy}
use Rattle.tac_form.specs.Flow as flow
use Rattle.tac_form.specs.Flow.{Moved, Goes, Stops}
use Rattle.tac_lower.specs.Items.{Item, does, ends, skips}
use Rattle.tac_lower.specs.Pieces.{Used, with_temp, Piece, Result, a_word, word_of, Holders, whole_word}
use Rattle.tac_lower.specs.Lowering.{into, short_circuit, passed_over, opposite}
use Rattle.tac_lower.proofs.Places.{Point, step_on, start_of, after, after-append, HasAt, DoesAt, has-front, has-back}
use Rattle.tac_lower.proofs.Standing.{Setting, Private, stands, Leads, leads-to, one-step, word_in, operand-is, Apart, Fine, Keeps, Grown}
use Rattle.tac_lower.proofs.Standing.{Means, Comes, Leaves}
use Rattle.tac_lower.proofs.Simulates.{Fact, one_of, whole, Sim, grown-then, keeps-none, keeps-then, facts-later}
use Rattle.tac_lower.proofs.Words.{width_by}
use Rattle.tac_lower.proofs.Writes.{put-same, put-below, with_word, holds-later, fresh-apart, grown-temp, same-self, fine-word}
use Rattle.tac_lower.proofs.Loads.{word-is, is-value}
use Rattle.tac_lower.proofs.Acts.{fine-later}
use Rattle.tac_lower.proofs.Branches.{passes-by, passes-in, passes-on}
use Rattle.tac_lower.proofs.Rounds.{holds-again}

-- what a test of the temporary comes to
pub record Tested (z : Setting) (names : List TypedName) (scope : Holders) (u1 u2 : Used) (from to : Point) (k : Private) (s : State)
    (test : Operand) (goes : Bool) : Type 0 where
  pub private : Private
  pub leads : Leads z from k s to private s
  pub fine : Fine z names scope u2 private s
  pub keeps : Keeps scope u1 k private
  pub is : nat_eq (word_in private test) 0 ≡ not goes

-- a temporary of its own is written again
pub fine-set : (z : Setting) (names : List TypedName) (scope : Holders) (u u1 : Used) (k k1 : Private) (s s1 : State) (x : ℕ) →
    u.temps ≤ u1.temps → Fine z names scope u k s → Fine z names scope u1 k1 s1 →
    Fine z names scope u1 (with_word u.temps x k1) s1
fine-set z names scope u u1 k k1 s s1 x le a b = record {
  holds = holds-later z names scope s1.variables u.temps u1.temps k1 (with_word u.temps x k1) le (λ t lt. put-below k1.temps u.temps x t lt)
      (holds-again z names scope s.variables s1.variables u.temps u1.temps k k1 a.holds b.holds);
  small = b.small;
  sized = b.sized;
}

word-value : (z : Setting) (of : TypeId) (v : Value) → is_aggregate z.types of ≡ false → IsValue z.types of v → word (number v) ≡ v
word-value z of (word x) plain h = refl
word-value z of (bytes bs) plain h = let bad : true ≡ false = sym h.0 ∙ plain in absurd (grind (arith, bad))

pub short_sim : {z : Setting} {n : ℕ} {names : List TypedName} {scope : Holders} {facts : List Fact} (u : Used) (of : TypeId)
    (pa : Piece Result) (goa gob : State → Got Value) (test : Used → Piece Operand) (more : Used → Piece Result) (goes : Value → Bool) →
    is_aggregate z.types of ≡ false →
    Sim z n names scope facts (with_temp u) pa goa names scope (λ v. one_of the_value of pa.result v) →
    Grown pa.used (test pa.used).used →
    ((out : ℕ) (at : Point) (k : Private) (s : State) (v : Value) → HasAt z.tac.blocks out at (test pa.used).code →
    Fine z names scope pa.used k s → k.temps u.temps ≡ number v → IsValue z.types of v →
    Tested z names scope pa.used (test pa.used).used at (after (test pa.used).code at) k s (test pa.used).result (goes v)) →
    Sim z n names scope [] (test pa.used).used (more (test pa.used).used) gob names scope
    (λ v. one_of the_value of (more (test pa.used).used).result v) →
    Sim z n names scope facts u (short_circuit u.temps (into u.temps pa) test (λ u'. into u.temps (more u')))
    (λ s. next (goa s) (λ v s'. if goes v then gob s' else Gives v s')) names scope
    (λ v. one_of the_value of (a_word (Temp u.temps)) v)
short_sim {z} {n} {names} {scope} {facts} u of pa goa gob test more goes plain x grown_t tests y = record {
  grown = all_grown;
  over = λ t lt away. away;
  run = λ out at k s has whole_ fine knows less.
      let fine1 = fine-later z names scope u (with_temp u) k s (omega arith) fine in
      let knows1 = facts-later z scope scope u (with_temp u) k k (grown-temp u) (λ t lt away. away) (keeps-none scope u k) facts knows in
      let front = has-front z.tac.blocks out at first (t.code ++ over_code) has in
      first_ out at k s has whole_ fine less (goa s)
      (x.run out at k s (has-front z.tac.blocks out at pa.code (does (Copy d (word_of pa.result)) ∷ []) front)
      (grown-then pa.used pb.used (whole z) (grown-then pa.used t.used pb.used grown_t y.grown) whole_) fine1 knows1 less);
}
  where
    d : ℕ
    d = u.temps

    t : Piece Operand
    t = test pa.used

    pb : Piece Result
    pb = more t.used

    first : List Item
    first = pa.code ++ does (Copy d (word_of pa.result)) ∷ []

    second : List Item
    second = pb.code ++ does (Copy d (word_of pb.result)) ∷ []

    over_code : List Item
    over_code = passed_over t.result second

    all_grown : Grown u pb.used
    all_grown = grown-then u (with_temp u) pb.used (grown-temp u)
        (grown-then (with_temp u) pa.used pb.used x.grown (grown-then pa.used t.used pb.used grown_t y.grown))

    -- a copy to the temporary
    copies : (at : Point) (k : Private) (s : State) (r : Result) (u1 : Used) (v : Value) → DoesAt z.tac.blocks at (Copy d (word_of r)) →
        Means z the_value of scope u1 r k v → Leads z at k s (step_on at) (with_word d (number v) k) s
    copies at k s r u1 v stood m = (
      1,
      one-step z at k s (Copy d (word_of r)) stood ∙ ap (λ w. Goes (flow.ahead (flow.set_temp d w (stands z at k s))))
          (operand-is z at k s (word_of r) ∙ word-is z of scope u1 r k v m),
    )

    ok : (u1 : Used) (k : Private) (v : Value) → d < u1.temps → Apart d scope → k.temps d ≡ number v → IsValue z.types of v →
        Means z the_value of scope u1 (a_word (Temp d)) k v
    ok u1 k v lt away e h = record { is = ap word e ∙ word-value z of v plain h; own = (lt, away); good = h }

    keeps_set : (k k1 : Private) (w : ℕ) → Keeps scope u k k1 → Keeps scope u k (with_word d w k1)
    keeps_set k k1 w h = record { temps = λ m lt away. put-below k1.temps d w m lt ∙ h.temps m lt away; areas = h.areas }

    Goal : (at : Point) (k : Private) (s : State) → Got Value → Type 0
    Goal at k s g = Leaves z at k s (λ v s'. Comes z names scope at u k s (after (first ++ (t.code ++ over_code)) at) names scope pb.used
        s' (λ k1. Means z the_value of scope pb.used (a_word (Temp d)) k1 v)) g

    own_lt : d < pb.used.temps
    own_lt = omega (arith, x.grown.temps, grown_t.temps, y.grown.temps)

    last_ : (out : ℕ) (at q3 : Point) (k k3 : Private) (s s1 : State) → Leads z at k s (start_of (suc q3.block)) k3 s1 →
        Keeps scope u k k3 → s1.left ≤ s.left → Apart d scope → HasAt z.tac.blocks out q3 over_code →
        Fine z names scope u k s → after over_code q3 ≡ after (first ++ (t.code ++ over_code)) at → (g : Got Value) →
        Leaves z (start_of (suc q3.block)) k3 s1 (λ v s'. Comes z names scope (start_of (suc q3.block)) t.used k3 s1
        (after pb.code (start_of (suc q3.block))) names scope pb.used s' (λ k1. Means z the_value of scope pb.used pb.result k1 v)) g →
        Goal at k s g
    last_ out at q3 k k3 s s1 leads keeps fewer away has3 fine done (Ends e) h =
        leads-to z at k s (start_of (suc q3.block)) k3 s1 (Stops e) leads h
    last_ out at q3 k k3 s s1 leads keeps fewer away has3 fine done (Gives v s2) c =
        let start = start_of (suc q3.block) in
        let q5 = after pb.code start in
        let inside = has-front z.tac.blocks out start second (ends (skips 0) ∷ []) has3.1 in
        let stood = (has-back z.tac.blocks out start pb.code (does (Copy d (word_of pb.result)) ∷ []) inside).0 in
        let k6 = with_word d (number v) c.private in
        let on : Leads z q5 c.private s2 (after second start) k6 s2 = subst (λ p. Leads z q5 c.private s2 p k6 s2)
        (sym (after-append pb.code (does (Copy d (word_of pb.result)) ∷ []) start))
        (copies q5 c.private s2 pb.result pb.used v stood c.ok) in
        let off : Leads z (after second start) k6 s2 (after (first ++ (t.code ++ over_code)) at) k6 s2 = subst
        (λ p. Leads z (after second start) k6 s2 p k6 s2) done (passes-on z out t.result second q3 k6 s2 has3) in
        let end = Goes (stands z (after (first ++ (t.code ++ over_code)) at) k6 s2) in
        record {
          private = k6;
          leads = leads-to z at k s start k3 s1 end leads
              (leads-to z start k3 s1 q5 c.private s2 end c.leads (leads-to z q5 c.private s2 (after second start) k6 s2 end on off));
          ok = ok pb.used k6 v own_lt away (put-same c.private.temps d (number v)) (is-value z of pb.result v c.ok.good);
          fine = fine-set z names scope u pb.used k c.private s s2 (number v) (omega (arith, own_lt)) fine c.fine;
          keeps = keeps_set k c.private (number v) (keeps-then scope scope u t.used k k3 c.private
              (grown-then u (with_temp u) t.used (grown-temp u) (grown-then (with_temp u) pa.used t.used x.grown grown_t))
              (λ m lt aw. aw) keeps c.keeps);
          fewer = omega (arith, fewer, c.fewer);
        }

    rest_ : (out : ℕ) (at q3 : Point) (k k3 : Private) (s s1 : State) (v : Value) → Leads z at k s q3 k3 s1 →
        Fine z names scope t.used k3 s1 → Keeps scope u k k3 → s1.left ≤ s.left → k3.temps d ≡ number v → Apart d scope →
        IsValue z.types of v →
        HasAt z.tac.blocks out q3 over_code → Grown pb.used (whole z) → Fine z names scope u k s → s1.left < n →
        after over_code q3 ≡ after (first ++ (t.code ++ over_code)) at →
        (b : Bool) → nat_eq (word_in k3 t.result) 0 ≡ not b → Goal at k s (if b then gob s1 else Gives v s1)
    rest_ out at q3 k k3 s s1 v leads fine3 keeps fewer e3 away value has3 whole_ fine less1 done false is = record {
      private = k3;
      leads = leads-to z at k s q3 k3 s1 (Goes (stands z (after (first ++ (t.code ++ over_code)) at) k3 s1)) leads
          (subst (λ p. Leads z q3 k3 s1 p k3 s1) done (passes-by z out t.result second q3 k3 s1 has3 is));
      ok = ok pb.used k3 v own_lt away e3 value;
      fine = fine-later z names scope t.used pb.used k3 s1 y.grown.temps fine3;
      keeps = keeps;
      fewer = fewer;
    }
    rest_ out at q3 k k3 s s1 v leads fine3 keeps fewer e3 away value has3 whole_ fine less1 done true is =
        let start = start_of (suc q3.block) in
        let inside = has-front z.tac.blocks out start second (ends (skips 0) ∷ []) has3.1 in
        last_ out at q3 k k3 s s1 (leads-to z at k s q3 k3 s1 (Goes (stands z start k3 s1)) leads
        (passes-in z out t.result second q3 k3 s1 has3 is)) keeps fewer away has3 fine done (gob s1)
        (y.run out start k3 s1 (has-front z.tac.blocks out start pb.code (does (Copy d (word_of pb.result)) ∷ []) inside) whole_ fine3 tt
        less1)

    first_ : (out : ℕ) (at : Point) (k : Private) (s : State) → HasAt z.tac.blocks out at (first ++ (t.code ++ over_code)) →
        Grown pb.used (whole z) → Fine z names scope u k s → s.left < n → (g : Got Value) →
        Leaves z at k s (λ v s'. Comes z names scope at (with_temp u) k s (after pa.code at) names scope pa.used s'
        (λ k1. Means z the_value of scope pa.used pa.result k1 v)) g →
        Goal at k s (next g (λ v s'. if goes v then gob s' else Gives v s'))
    first_ out at k s has whole_ fine less (Ends e) h = h
    first_ out at k s has whole_ fine less (Gives v s1) c =
        let q1 = after pa.code at in
        let q2 = step_on q1 in
        let copy = does (Copy d (word_of pa.result)) ∷ [] in
        let here : after first at ≡ q2 = after-append pa.code copy at in
        let stood = (has-back z.tac.blocks out at pa.code copy (has-front z.tac.blocks out at first (t.code ++ over_code) has)).0 in
        let has1 = subst (λ p. HasAt z.tac.blocks out p (t.code ++ over_code)) here
        (has-back z.tac.blocks out at first (t.code ++ over_code) has) in
        let k2 = with_word d (number v) c.private in
        let lead2 = leads-to z at k s q1 c.private s1 (Goes (stands z q2 k2 s1)) c.leads
        (copies q1 c.private s1 pa.result pa.used v stood c.ok) in
        let le : u.temps ≤ pa.used.temps = omega (arith, x.grown.temps) in
        let fine2 = fine-set z names scope u pa.used k c.private s s1 (number v) le fine c.fine in
        let value = is-value z of pa.result v c.ok.good in
        let same2 = put-same c.private.temps d (number v) in
        let r = tests out q2 k2 s1 v (has-front z.tac.blocks out q2 t.code over_code has1) fine2 same2 value in
        let away = fresh-apart z names scope s.variables u.temps d k (omega arith) fine.holds in
        let own : d < pa.used.temps = omega (arith, x.grown.temps) in
        let q3 = after t.code q2 in
        let keeps1 : Keeps scope u k c.private = record {
          temps = λ m lt aw. c.keeps.temps m (omega (arith, lt)) aw;
          areas =
              c.keeps.areas;
        } in
        rest_ out at q3 k r.private s s1 v (leads-to z at k s q2 k2 s1 (Goes (stands z q3 r.private s1)) lead2 r.leads) r.fine
        (keeps-then scope scope u pa.used k k2 r.private (grown-then u (with_temp u) pa.used (grown-temp u) x.grown) (λ m lt aw. aw)
        (keeps_set k c.private (number v) keeps1) r.keeps)
        c.fewer (r.keeps.temps d own away ∙ same2) away value (has-back z.tac.blocks out q2 t.code over_code has1) whole_ fine
        (omega (arith, less, c.fewer))
        (sym (after-append first (t.code ++ over_code) at ∙ ap (after (t.code ++ over_code)) here ∙ after-append t.code over_code q2))
        (goes v) r.is

-- `and` tests the word as it is
pub both_tests : (z : Setting) (names : List TypedName) (scope : Holders) (u1 : Used) (d : ℕ) (at : Point) (k : Private) (s : State)
    (v : Value) → Fine z names scope u1 k s → k.temps d ≡ number v →
    Tested z names scope u1 u1 at at k s (Temp d) (is_true v)
both_tests z names scope u1 d at k s v fine e = record {
  private = k;
  leads = (0, refl);
  fine = fine;
  keeps = keeps-none scope u1 k;
  is = ap (λ m. nat_eq m 0) e ∙ twice (nat_eq (number v) 0);
}
  where
    twice : (b : Bool) → b ≡ not (not b)
    twice true = refl
    twice false = refl

-- `or` tests the opposite of the word, which is 0 or 1
opposite-is : (x : ℕ) → x < 2 → nat_eq (applied (flow.width_of whole_word) operators.Xor x 1) 0 ≡ not (not (not (nat_eq x 0)))
unfolding applied wrapped
opposite-is zero lt = refl
opposite-is (suc zero) lt = refl
opposite-is (suc (suc n)) lt = absurd (omega (arith, lt))

pub bit-of-bool : (types : List TypeForm) (of : TypeId) (v : Value) → form_at types of ≡ forms.Bool → IsValue types of v → number v < 2
unfolding wrapped
bit-of-bool types of (word x) e h =
    let low : x % 2 ≡ x = subst (λ f. wrapped (width_by f) x ≡ x) e h.1 in
    omega (arith, low)
bit-of-bool types of (bytes bs) e h = omega arith

pub either_tests : (z : Setting) (names : List TypedName) (scope : Holders) (of : TypeId) (u1 : Used) (d out : ℕ) (at : Point) (k : Private)
    (s : State) (v : Value) → form_at z.types of ≡ forms.Bool → HasAt z.tac.blocks out at (opposite (Temp d) u1).code →
    Fine z names scope u1 k s → k.temps d ≡ number v → IsValue z.types of v →
    Tested z names scope u1 (with_temp u1) at (step_on at) k s (Temp u1.temps) (not (is_true v))
either_tests z names scope of u1 d out at k s v form has fine e value =
    let x = applied (flow.width_of whole_word) operators.Xor (number v) 1 in
    record {
      private = with_word u1.temps x k;
      leads = (
        1,
        one-step z at k s (Compute u1.temps operators.Xor whole_word (Temp d) (Constant 1)) has.0
            ∙ ap (λ y. Goes (flow.ahead (flow.set_temp u1.temps (applied (flow.width_of whole_word) operators.Xor y 1)
            (stands z at k s)))) e,
      );
      fine = fine-word z names scope u1 k s s x (same-self s) fine;
      keeps = record { temps = λ t lt away. put-below k.temps u1.temps x t lt; areas = λ m lt. refl };
      is = ap (λ m. nat_eq m 0) (put-same k.temps u1.temps x) ∙ opposite-is (number v) (bit-of-bool z.types of v form value);
    }

-- a choice told the other way about
pub next-not : (g : Got Value) (go : State → Got Value) →
    next g (λ v s. if not (is_true v) then go s else Gives v s) ≡ next g (λ v s. if is_true v then Gives v s else go s)
next-not (Ends r) go = refl
next-not (Gives v s) go = by (is_true v)
  where
    by : (b : Bool) → (if not b then go s else Gives v s) ≡ (if b then Gives v s else go s)
    by true = refl
    by false = refl

pub plain-bool : (types : List TypeForm) (of : TypeId) → form_at types of ≡ forms.Bool → is_aggregate types of ≡ false
plain-bool types of e = subst (λ f. is_aggregate (f ∷ []) (record { 0 = 0 }) ≡ false) (sym e) refl
