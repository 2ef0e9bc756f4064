-- Statements that end blocks: what is given back, breaks, and choices.
use Rattle.std.proofs.Common.{◌≡◌, ℕ, suc, ◌+◌, ◌<◌, ◌≤◌, Bool, true, false, List, [], ◌∷◌, ◌++◌, length, refl, sym, ap, ◌∙◌, subst, arith}
use Rattle.std.specs.Prelude.{not, nat_eq, if◌then◌else◌}
use Rattle.tl_base.specs.declared.ids.TypeId.{TypeId}
use Rattle.terra_words.specs.Runs.{Value, word, number, is_true}
use Rattle.terra_term.specs.declared.lists.TypedName.{TypedName}
use Rattle.terra_term.specs.WellTyped.{Within}
use Rattle.terra_meaning.specs.Values.{IsValue}
use Rattle.terra_meaning.specs.Running.{State, Got, Gives, Ends, next, scoped}
use Rattle.terra_meaning.specs.Meaning.{the_value, Way, goes_on, breaks, gives_back}
use Rattle.tac_form.specs.declared.tac.Operand.{Operand}
use Rattle.tac_form.specs.declared.tac.Exit.TheVariants.{Jump, Branch, Return}
use Rattle.tac_form.specs.Flow as flow
use Rattle.tac_form.specs.Flow.{Moved, Goes, Stops, steps}
use Rattle.tac_lower.specs.Items.{Item, ends, skips, leaves, gives, count_ends, onward}
use Rattle.tac_lower.specs.Pieces.{Used, Piece, Result, a_word, an_area, an_offset, no_word, word_of, part_of, Holders}
use Rattle.tac_lower.specs.Lowering.{passed_over}
use Rattle.tac_lower.proofs.Places.{Point, start_of, after, after-append, after-block, EndsAt, HasAt, has-front, has-back}
use Rattle.tac_lower.proofs.Standing.{Setting, Private, stands, Leads, leads-to, one-end, word_in, operand-is, Fine, Grown, Means, Comes}
use Rattle.tac_lower.proofs.Standing.{Leaves}
use Rattle.tac_lower.proofs.Simulates.{Fact, one_of, Knows, whole, Sim, grown-none, grown-then, keeps-none}
use Rattle.tac_lower.proofs.Loads.{word-is, is-value}
use Rattle.tac_lower.proofs.Acts.{Under, under-self, holds-length, fine-outer, fine-later, WayOk, Acts, way-before, way-at, scoped-ways}

-- a value, and what statements do with it
pub value_ways : {A B : Type 0} (w : Within) {z : Setting} {n : ℕ} {names : List TypedName} {scope : Holders} {u : Used} {p : Piece A}
    {go : State → Got B} {mid : B → Fact}
    (x : Sim z n names scope [] u p go names scope mid) (names2 : List TypedName) (scope2 : Holders) (u2 : Used) (out : ℕ) (at to : Point)
    (k : Private) (s : State) →
    HasAt z.tac.blocks out at p.code → Grown p.used (whole z) → Fine z names scope u k s → s.left < n → (go2 : B → State → Got Way) →
    ((b : B) (k1 : Private) (s1 : State) → Fine z names scope p.used k1 s1 → Knows z scope p.used (mid b) k1 → s1.left ≤ s.left →
    Leaves z (after p.code at) k1 s1 (λ way s'. WayOk z w names scope (after p.code at) p.used k1 s1 to names2 scope2 u2 out way s')
    (go2 b s1)) →
    Leaves z at k s (λ way s'. WayOk z w names scope at u k s to names2 scope2 u2 out way s') (next (go s) go2)
value_ways {A} {B} w {z} {n} {names} {scope} {u} {p} {go} {mid} x names2 scope2 u2 out at to k s has whole_ fine less go2 more =
    by (go s) (x.run out at k s has whole_ fine tt less)
  where
    by : (g : Got B) → Leaves z at k s (λ b s'. Comes z names scope at u k s (after p.code at) names scope p.used s'
        (Knows z scope p.used (mid b))) g →
        Leaves z at k s (λ way s'. WayOk z w names scope at u k s to names2 scope2 u2 out way s') (next g go2)
    by (Ends e) h = h
    by (Gives b s1) c =
        way-before z w names names names2 scope scope scope2 at (after p.code at) to u p.used u2 k c.private s s1 out c.leads x.grown
        (λ t lt away. away) (under-self names scope)
        c.keeps c.fewer fine c.fine (go2 b s1) (more b c.private s1 c.fine c.ok c.fewer)

-- ends of blocks

pub jumps : (z : Setting) (at : Point) (k : Private) (s : State) (to : ℕ) → EndsAt z.tac.blocks at (Jump (onward to)) →
    Leads z at k s (start_of to) k s
jumps z at k s to h = (1, one-end z at k s (Jump (onward to)) h)

branch-by : (z : Setting) (k : Private) (s : State) (at : Point) (x one other : ℕ) (b : Bool) → nat_eq x 0 ≡ b →
    (if nat_eq x 0 then flow.follow (onward other) (stands z at k s) else flow.follow (onward one) (stands z at k s)) ≡ Goes
    (stands z (start_of (if b then other else one)) k s)
branch-by z k s at x one other true e =
    ap (λ b. if b then flow.follow (onward other) (stands z at k s) else flow.follow (onward one) (stands z at k s)) e
branch-by z k s at x one other false e =
    ap (λ b. if b then flow.follow (onward other) (stands z at k s) else flow.follow (onward one) (stands z at k s)) e

-- a test goes to one block or the other
pub branches : (z : Setting) (at : Point) (k : Private) (s : State) (a : Operand) (one other : ℕ) (b : Bool) →
    EndsAt z.tac.blocks at (Branch a (onward one) (onward other)) →
    nat_eq (word_in k a) 0 ≡ b → Leads z at k s (start_of (if b then other else one)) k s
branches z at k s a one other b h e = (
  1,
  one-end z at k s (Branch a (onward one) (onward other)) h
      ∙ ap (λ x. if nat_eq x 0 then flow.follow (onward other) (stands z at k s) else flow.follow (onward one) (stands z at k s))
      (operand-is z at k s a)
      ∙ branch-by z k s at (word_in k a) one other b e,
)

-- code goes on where it ends
pub way-on : (z : Setting) (w : Within) (names names' : List TypedName) (scope scope' : Holders) (at to to' : Point) (u u' : Used)
    (k : Private) (s : State) (out : ℕ) →
    ((k1 : Private) (s1 : State) → Leads z to k1 s1 to' k1 s1) → (g : Got Way) →
    Leaves z at k s (λ way s'. WayOk z w names scope at u k s to names' scope' u' out way s') g →
    Leaves z at k s (λ way s'. WayOk z w names scope at u k s to' names' scope' u' out way s') g
way-on z w names names' scope scope' at to to' u u' k s out on (Ends e) h = h
way-on z w names names' scope scope' at to to' u u' k s out on (Gives goes_on s1) c = record {
  private = c.private;
  leads = leads-to z at k s to c.private s1 (Goes (stands z to' c.private s1)) c.leads (on c.private s1);
  ok = tt;
  fine = c.fine;
  keeps = c.keeps;
  fewer = c.fewer;
}
way-on z w names names' scope scope' at to to' u u' k s out on (Gives breaks s1) c = c
way-on z w names names' scope scope' at to to' u u' k s out on (Gives (gives_back v) s1) c = c

-- a way on from a place that was led to, with nothing changed
pub way-from : (z : Setting) (w : Within) (names names' : List TypedName) (scope scope' : Holders) (at at1 to : Point) (u u1 u' : Used)
    (k : Private) (s : State) (out : ℕ) → Grown u u1 →
    Leads z at k s at1 k s → Fine z names scope u k s → Fine z names scope u1 k s → (g : Got Way) →
    Leaves z at1 k s (λ way s'. WayOk z w names scope at1 u1 k s to names' scope' u' out way s') g →
    Leaves z at k s (λ way s'. WayOk z w names scope at u k s to names' scope' u' out way s') g
way-from z w names names' scope scope' at at1 to u u1 u' k s out g leads fine fine1 got h =
    way-before z w names names names' scope scope scope' at at1 to u u1 u' k k s s out leads g (λ t lt away. away)
    (under-self names scope) (keeps-none scope u k) (omega arith) fine fine1 got h

-- simple statements

pub acts_sim : {B : Type 0} {z : Setting} {n : ℕ} {w : Within} {names names1 : List TypedName} {scope : Holders} {u : Used}
    {r : Piece Holders} {go : State → Got B} {post : B → Fact} →
    Sim z n names scope [] u r go names1 r.result post → Under names scope names1 r.result →
    Acts z n w names scope u r (λ s. next (go s) (λ b s'. Gives goes_on s')) names1
acts_sim {B} {z} {n} {w} {names} {names1} {scope} {u} {r} {go} {post} x under = record {
  grown = x.grown;
  over = x.over;
  under = under;
  run = λ out at k s has whole_ fine less. by out at k s (go s) (x.run out at k s has whole_ fine tt less);
}
  where
    by : (out : ℕ) (at : Point) (k : Private) (s : State) (g : Got B) →
        Leaves z at k s (λ b s'. Comes z names scope at u k s (after r.code at) names1 r.result r.used s'
        (Knows z r.result r.used (post b))) g →
        Leaves z at k s (λ way s'. WayOk z w names scope at u k s (after r.code at) names1 r.result r.used out way s')
        (next g (λ b s'. Gives goes_on s'))
    by out at k s (Ends e) h = h
    by out at k s (Gives b s1) c = record { private = c.private; leads = c.leads; ok = tt; fine = c.fine; keeps = c.keeps; fewer = c.fewer }

pub acts_break : {z : Setting} {n : ℕ} {w : Within} {names : List TypedName} {scope : Holders} (u : Used) → w.in_loop ≡ true →
    Acts z n w names scope u (record { result = scope; code = ends leaves ∷ []; used = u }) (λ s. Gives breaks s) names
acts_break {z} {n} {w} {names} {scope} u loop = record {
  grown = grown-none u;
  over = λ t lt away. away;
  under = under-self names scope;
  run = λ out at k s has whole_ fine less. (
    loop,
    record {
      private = k;
      leads = jumps z at k s out has.0;
      ok = tt;
      fine = fine-outer z names names scope scope u k (length s.variables) s (under-self names scope)
          (holds-length z names scope s.variables u.temps k fine.holds) fine;
      keeps = keeps-none scope u k;
      fewer = omega arith;
    },
  );
}

pub part-value : (z : Setting) (of : TypeId) (scope : Holders) (u : Used) (r : Result) (at : Point) (k : Private) (s : State) (v : Value) →
    Means z the_value of scope u r k v → flow.value_of (stands z at k s) (part_of r) ≡ v
part-value z of scope u (a_word o) at k s v m = ap word (operand-is z at k s o) ∙ m.is
part-value z of scope u (an_area n) at k s v m = m.is
part-value z of scope u (an_offset o) at k s v m = absurd m.good

pub acts_return : {z : Setting} {n : ℕ} {w : Within} {names : List TypedName} {scope : Holders} {u : Used} {p : Piece Result}
    {go : State → Got Value} →
    Sim z n names scope [] u p go names scope (λ v. one_of the_value w.result p.result v) → w.in_let ≡ false →
    Acts z n w names scope u (record { result = scope; code = p.code ++ ends (gives (part_of p.result)) ∷ []; used = p.used })
    (λ s. next (go s) (λ v s'. Gives (gives_back v) s')) names
acts_return {z} {n} {w} {names} {scope} {u} {p} {go} x lawful = record {
  grown = x.grown;
  over = λ t lt away. away;
  under = under-self names scope;
  run = λ out at k s has whole_ fine less.
      value_ways w x names scope p.used out at (after (p.code ++ ends (gives (part_of p.result)) ∷ []) at) k s
      (has-front z.tac.blocks out at p.code (ends (gives (part_of p.result)) ∷ []) has) whole_ fine less
      (λ v s'. Gives (gives_back v) s') (λ v k1 s1 fine1 knows fewer. record {
        to = after p.code at;
        private = k1;
        leads = (
          1,
          one-end z (after p.code at) k1 s1 (Return (part_of p.result))
              (has-back z.tac.blocks out at p.code (ends (gives (part_of p.result)) ∷ []) has).0
              ∙ ap (λ y. flow.give z.program y z.callers (stands z (after p.code at) k1 s1))
              (part-value z w.result scope p.used p.result (after p.code at) k1 s1 v knows),
        );
        sized = fine1.sized;
        fewer = omega arith;
        is_value = is-value z w.result p.result v knows.good;
        lawful = lawful;
      });
}

-- choices

-- code that is passed over where a test fails: where it ends
passed-end : (a : Operand) (code : List Item) (q : Point) → after (passed_over a code) q ≡ start_of
    (suc (after code (start_of (suc q.block))).block)
passed-end a code q = after-append code (ends (skips 0) ∷ []) (start_of (suc q.block))

passed-skip : (a : Operand) (code : List Item) (q : Point) → start_of (suc q.block + suc (count_ends code)) ≡ after (passed_over a code) q
passed-skip a code q =
    let n : suc q.block + suc (count_ends code) ≡ suc (after code (start_of (suc q.block))).block = omega
    (arith, after-block code (start_of (suc q.block))) in
    ap start_of n ∙ sym (passed-end a code q)

pub passes-by : (z : Setting) (out : ℕ) (a : Operand) (code : List Item) (q : Point) (k : Private) (s : State) →
    HasAt z.tac.blocks out q (passed_over a code) →
    nat_eq (word_in k a) 0 ≡ true → Leads z q k s (after (passed_over a code) q) k s
passes-by z out a code q k s has e =
    subst (λ p. Leads z q k s p k s) (passed-skip a code q)
    (branches z q k s a (suc q.block) (suc q.block + suc (count_ends code)) true has.0 e)

pub passes-in : (z : Setting) (out : ℕ) (a : Operand) (code : List Item) (q : Point) (k : Private) (s : State) →
    HasAt z.tac.blocks out q (passed_over a code) →
    nat_eq (word_in k a) 0 ≡ false → Leads z q k s (start_of (suc q.block)) k s
passes-in z out a code q k s has e = branches z q k s a (suc q.block) (suc q.block + suc (count_ends code)) false has.0 e

pub passes-on : (z : Setting) (out : ℕ) (a : Operand) (code : List Item) (q : Point) (k : Private) (s : State) →
    HasAt z.tac.blocks out q (passed_over a code) →
    Leads z (after code (start_of (suc q.block))) k s (after (passed_over a code) q) k s
passes-on z out a code q k s has =
    let b = after code (start_of (suc q.block)) in
    let n : suc b.block + 0 ≡ suc b.block = omega arith in
    subst (λ p. Leads z b k s p k s) (ap start_of n ∙ sym (passed-end a code q))
    (jumps z b k s (suc b.block + 0) (has-back z.tac.blocks out (start_of (suc q.block)) code (ends (skips 0) ∷ []) has.1).0)

-- a test of a value
pub tested : (z : Setting) (of : TypeId) (scope : Holders) (u : Used) (r : Result) (k : Private) (v : Value) (b : Bool) →
    Means z the_value of scope u r k v → is_true v ≡ b →
    nat_eq (word_in k (word_of r)) 0 ≡ not b
tested z of scope u r k v b m e = ap (λ x. nat_eq x 0) (word-is z of scope u r k v m) ∙ double (nat_eq (number v) 0) b e
  where
    double : (x y : Bool) → not x ≡ y → x ≡ not y
    double true y h = ap not h
    double false y h = ap not h

pub acts_if : {z : Setting} {n : ℕ} {w : Within} {names names1 : List TypedName} {scope : Holders} {u : Used} {p : Piece Result}
    {r : Piece Holders} {go : State → Got Value} {go2 : State → Got Way} (of : TypeId) →
    Sim z n names scope [] u p go names scope (λ v. one_of the_value of p.result v) → Acts z n w names scope p.used r go2 names1 →
    Acts z n w names scope u (record { result = scope; code = p.code ++ passed_over (word_of p.result) r.code; used = r.used })
    (λ s. next (go s) (λ v s'. if is_true v then scoped s' (go2 s') else Gives goes_on s')) names
acts_if {z} {n} {w} {names} {names1} {scope} {u} {p} {r} {go} {go2} of x y = record {
  grown = grown-then u p.used r.used x.grown y.grown;
  over = λ t lt away. away;
  under = under-self names scope;
  run = λ out at k s has whole_ fine less.
      let q = after p.code at in
      let a = word_of p.result in
      let has2 = has-back z.tac.blocks out at p.code (passed_over a r.code) has in
      let done : after (passed_over a r.code) q ≡ after (p.code ++ passed_over a r.code) at = sym
      (after-append p.code (passed_over a r.code) at) in
      value_ways w x names scope r.used out at (after (p.code ++ passed_over a r.code) at) k s
      (has-front z.tac.blocks out at p.code (passed_over a r.code) has) (grown-then p.used r.used (whole z) y.grown whole_) fine less
      (λ v s'. if is_true v then scoped s' (go2 s') else Gives goes_on s') (λ v k1 s1 fine1 knows fewer.
      way-at z w names names scope scope q (after (passed_over a r.code) q) (after (p.code ++ passed_over a r.code) at) p.used r.used k1
      s1 out done
      (if is_true v then scoped s1 (go2 s1) else Gives goes_on s1)
      (by out q v k1 s1 has2 whole_ fine1 (omega (arith, less, fewer)) (is_true v)
      (tested z of scope p.used p.result k1 v (is_true v) knows refl)));
}
  where
    by : (out : ℕ) (q : Point) (v : Value) (k : Private) (s : State) → HasAt z.tac.blocks out q (passed_over (word_of p.result) r.code) →
        Grown r.used (whole z) → Fine z names scope p.used k s → s.left < n →
        (b : Bool) → nat_eq (word_in k (word_of p.result)) 0 ≡ not b →
        Leaves z q k s (λ way s'. WayOk z w names scope q p.used k s (after (passed_over (word_of p.result) r.code) q) names scope r.used
        out way s') (if b then scoped s (go2 s) else Gives goes_on s)
    by out q v k s has whole_ fine less true e =
        let start = start_of (suc q.block) in
        way-from z w names names scope scope q start (after (passed_over (word_of p.result) r.code) q) p.used p.used r.used k s out
        (grown-none p.used)
        (passes-in z out (word_of p.result) r.code q k s has e) fine fine (scoped s (go2 s))
        (way-on z w names names scope scope start (after r.code start) (after (passed_over (word_of p.result) r.code) q) p.used r.used k s
        out
        (λ k1 s1. passes-on z out (word_of p.result) r.code q k1 s1 has) (scoped s (go2 s))
        (scoped-ways z w names names1 scope r.result start (after r.code start) p.used r.used k s out fine y.under (go2 s)
        (y.run out start k s (has-front z.tac.blocks out start r.code (ends (skips 0) ∷ []) has.1) whole_ fine less)))
    by out q v k s has whole_ fine less false e = record {
      private = k;
      leads = passes-by z out (word_of p.result) r.code q k s has e;
      ok = tt;
      fine = fine-later z names scope p.used r.used k s y.grown.temps fine;
      keeps = keeps-none scope p.used k;
      fewer = omega arith;
    }

-- nothing is given back
pub acts_finish : {z : Setting} {n : ℕ} {w : Within} {names : List TypedName} {scope : Holders} (u : Used) →
    IsValue z.types w.result (word 0) → w.in_let ≡ false →
    Acts z n w names scope u (record { result = scope; code = ends (gives (part_of no_word)) ∷ []; used = u })
    (λ s. Gives (gives_back (word 0)) s) names
acts_finish {z} {n} {w} {names} {scope} u is_value lawful = record {
  grown = grown-none u;
  over = λ t lt away. away;
  under = under-self names scope;
  run = λ out at k s has whole_ fine less. record {
    to = at;
    private = k;
    leads = (1, one-end z at k s (Return (part_of no_word)) has.0);
    sized = fine.sized;
    fewer = omega arith;
    is_value = is_value;
    lawful = lawful;
  };
}
