-- Variables, and places within places.
use Rattle.std.proofs.Common.{◌≡◌, ℕ, ◌+◌, ◌*◌, ◌<◌, ◌≤◌, Bool, true, false, List, [], ◌∷◌, Option, Some, None, refl, sym, ap, ◌∙◌, subst}
use Rattle.std.proofs.Common.{arith}
use Rattle.std.specs.Prelude.{◌^◌, ◌%◌, nat_eq, if◌then◌else◌}
use Rattle.std.proofs.lemmas.Bool.{eqb-true}
use Rattle.tl_base.specs.declared.place.Place.{Place}
use Rattle.tl_base.specs.declared.ids.SymId.{SymId}
use Rattle.tl_base.specs.declared.ids.TypeId.{TypeId}
use Rattle.terra_words.specs.declared.words.BinaryOperator.TheVariants as operators
use Rattle.terra_words.specs.Words.{wrapped, applied, moved}
use Rattle.terra_words.specs.Runs.{Value, word, number}
use Rattle.terra_term.specs.declared.lists.TypedName.{TypedName}
use Rattle.terra_meaning.specs.Values.{bytes_at, IsValue}
use Rattle.terra_meaning.specs.Running.{Held, held, lies, Variable, State, Gives, find, found}
use Rattle.terra_meaning.specs.Meaning as meaning
use Rattle.terra_meaning.specs.Meaning.{Wanted, the_value, the_address}
use Rattle.tac_form.specs.declared.tac.Operand.{Operand}
use Rattle.tac_form.specs.declared.tac.Operand.TheVariants.{Temp, Constant}
use Rattle.tac_form.specs.declared.tac.Instruction.TheVariants.{Locate}
use Rattle.tac_form.specs.Flow as flow
use Rattle.tac_form.specs.Flow.{Goes}
use Rattle.tac_lower.specs.Pieces.{Used, with_temp, known, Result, a_word, an_area, an_offset, word_of, no_word, Holder, in_temp, at_offset}
use Rattle.tac_lower.specs.Pieces.{Holders, holder_of, whole_word, compute, located}
use Rattle.tac_lower.specs.Lowering.{variable, entry, element}
pub use Rattle.tac_lower.specs.Needs.{by_test, InScope}
use Rattle.tac_lower.proofs.Standing.{Setting, Private, word_in, value_in, Is, below, Holds, Fine, Own, Good, Means}
use Rattle.tac_lower.proofs.Simulates.{Fact, one_of, KnowsAll, Sim, then_sim}
use Rattle.tac_lower.proofs.Words.{value-small}
use Rattle.tac_lower.proofs.Writes.{same-self, puts_sim, is-later, below-le, known_sim}
use Rattle.tac_lower.proofs.Loads.{sim_as, sim_from, AreWords, compute_sim, copied_sim, reached_sim, word-is, is-value}

-- where a variable is, in code and in the meaning
pub record Lies (z : Setting) (x : SymId) (of : TypeId) (scope : Holders) (vs : List Variable) (limit : ℕ) (k : Private) : Type 0 where
  pub holder : Holder
  pub value : Held
  pub here : holder_of x scope ≡ Some holder
  pub there : find x vs ≡ Some value
  pub is : Is z of holder value limit k

pub lies-in : (z : Setting) (x : SymId) (of : TypeId) (names : List TypedName) (scope : Holders) (vs : List Variable) (limit : ℕ)
    (k : Private) →
    Holds z names scope vs limit k → InScope x of names → Lies z x of scope vs limit k
lies-in z x of [] scope vs limit k h i = absurd i
lies-in z x of (y ∷ ys) [] vs limit k h i = absurd h
lies-in z x of (y ∷ ys) (b ∷ bs) [] limit k h i = absurd h
lies-in z x of (y ∷ ys) (b ∷ bs) (v ∷ vs) limit k h i =
    by (nat_eq x.0 y.symbol.0) refl i (λ j. lies-in z x of ys bs vs (below b.holder limit) k h.3 j)
  where
    by : (t : Bool) → nat_eq x.0 y.symbol.0 ≡ t → by_test t (of ≡ y.of) (InScope x of ys) →
        (InScope x of ys → Lies z x of bs vs (below b.holder limit) k) →
        Lies z x of (b ∷ bs) (v ∷ vs) limit k
    by true e j deeper = record {
      holder = b.holder;
      value = v.is;
      here =
          ap (λ m. if nat_eq x.0 m.0 then Some b.holder else holder_of x bs) h.0 ∙ ap (λ t. if t then Some b.holder else holder_of x bs) e;
      there = ap (λ m. if nat_eq x.0 m.0 then Some v.is else find x vs) h.1 ∙ ap (λ t. if t then Some v.is else find x vs) e;
      is = subst (λ t. Is z t b.holder v.is limit k) (sym j) h.2;
    }
    by false e j deeper =
        let d = deeper j in
        record {
          holder = d.holder;
          value = d.value;
          here = ap (λ m. if nat_eq x.0 m.0 then Some b.holder else holder_of x bs) h.0 ∙ ap
              (λ t. if t then Some b.holder else holder_of x bs) e ∙ d.here;
          there = ap (λ m. if nat_eq x.0 m.0 then Some v.is else find x vs) h.1 ∙ ap (λ t. if t then Some v.is else find x vs) e ∙ d.there;
          is = is-later z of d.holder d.value (below b.holder limit) limit k k (below-le z y.of b.holder v.is limit k h.2)
              (λ t lt. refl) d.is;
        }

pub good-word : (z : Setting) (want : Wanted) (of : TypeId) (o : Operand) (x : ℕ) → IsValue z.types of (word x) →
    Good z want of (a_word o) (word x)
good-word z the_value of o x h = h
good-word z the_address of o x h = value-small z.types of (word x) h

-- what holds of a variable, by its holder
abbrev pub Told : Setting → TypeId → Holder → Held → Private → Type 0
Told z of (in_temp t) value k = (value ≡ held (k.temps t)) × IsValue z.types of (word (k.temps t))
Told z of (at_offset o) value k = (value ≡ lies (z.base + o)) × (o + bytes_at z.types of ≤ z.tac.frame)

told : (z : Setting) (of : TypeId) (holder : Holder) (value : Held) (limit : ℕ) (k : Private) → Is z of holder value limit k →
    Told z of holder value k
told z of (in_temp t) (held w) limit k h = (ap held (sym h.1), subst (λ x. IsValue z.types of (word x)) (sym h.1) h.2)
told z of (at_offset o) (lies a) limit k h = (ap lies h.0, h.1)
told z of (in_temp t) (lies a) limit k h = absurd h
told z of (at_offset o) (held w) limit k h = absurd h

-- what is told of a variable in scope whose holder is known
pub told_in : (z : Setting) (x : SymId) (of : TypeId) (names : List TypedName) (scope : Holders) (u : Used) (k : Private) (s : State)
    (holder : Holder) →
    Fine z names scope u k s → InScope x of names → holder_of x scope ≡ Some holder → (value : Held) × (found x s ≡ Some value) ×
    Told z of holder value k
told_in z x of names scope u k s holder fine i e =
    let l = lies-in z x of names scope s.variables u.temps k fine.holds i in
    let same : l.holder ≡ holder = grind (arith, l.here, e) in
    (l.value, l.there, subst (λ h. Told z of h l.value k) same (told z of l.holder l.value u.temps k l.is))

pub no_holder : (z : Setting) (x : SymId) (of : TypeId) (names : List TypedName) (scope : Holders) (u : Used) (k : Private) (s : State) →
    Fine z names scope u k s → InScope x of names → holder_of x scope ≡ None → ⊥
no_holder z x of names scope u k s fine i e =
    let l = lies-in z x of names scope s.variables u.temps k fine.holds i in
    let bad : Some l.holder ≡ None = sym l.here ∙ e in
    grind (arith, bad)

pub variable_sim : {z : Setting} {n : ℕ} {names : List TypedName} {scope : Holders} {facts : List Fact} (u : Used) (want : Wanted)
    (place : Place) (of : TypeId) (x : SymId) → InScope x of names →
    Sim z n names scope facts u (variable z.types want place of (holder_of x scope) u)
    (λ s. meaning.variable z.types want place of (found x s) s) names scope
    (λ v. one_of want of (variable z.types want place of (holder_of x scope) u).result v)
variable_sim {z} {n} {names} {scope} {facts} u want place of x i = by (holder_of x scope) refl
  where
    by : (o : Option Holder) → holder_of x scope ≡ o →
        Sim z n names scope facts u (variable z.types want place of o u) (λ s. meaning.variable z.types want place of (found x s) s) names
        scope (λ v. one_of want of (variable z.types want place of o u).result v)
    by None e =
        sim_from (λ s. Gives (word 0) s) (λ s. meaning.variable z.types want place of (found x s) s)
        (λ k s fine knows. absurd (no_holder z x of names scope u k s fine i e))
        (known_sim u no_word (word 0) (λ k s fine knows. absurd (no_holder z x of names scope u k s fine i e)))
    by (Some (in_temp t)) e =
        copied_sim u want of (Temp t) (λ s. meaning.variable z.types want place of (found x s) s) (λ k s fine knows.
        let l = told_in z x of names scope u k s (in_temp t) fine i e in
        (ap (λ o. meaning.variable z.types want place of o s) (l.1 ∙ ap Some l.2.0), good-word z want of (Temp u.temps) (k.temps t) l.2.1))
    by (Some (at_offset o)) e =
        sim_from (meaning.reached z.types want place of (z.base + o)) (λ s. meaning.variable z.types want place of (found x s) s)
        (λ k s fine knows.
        let l = told_in z x of names scope u k s (at_offset o) fine i e in
        sym (ap (λ v. meaning.variable z.types want place of v s) (l.1 ∙ ap Some l.2.0)))
        (reached_sim u want place of (an_offset o) (z.base + o) (λ k s fine knows.
        let l = told_in z x of names scope u k s (at_offset o) fine i e in
        record { is = refl; own = tt; good = l.2.1 }))

-- places within places

pub added : (x y : ℕ) → applied (flow.width_of whole_word) operators.Add x y ≡ (x + y) % 2 ^ 64
unfolding applied wrapped
added x y = refl

pub own-word : (scope : Holders) (u : Used) (r : Result) → Own scope u r → Own scope u (a_word (word_of r))
own-word scope u (a_word o) h = h
own-word scope u (an_area n) h = tt
own-word scope u (an_offset o) h = tt

-- behind a word
entry_word_sim : {z : Setting} {n : ℕ} {names : List TypedName} {scope : Holders} {facts : List Fact} (u : Used) (inner : TypeId)
    (offset : ℕ) (o : Operand) (v : Value) →
    ((u1 : Used) (k : Private) → KnowsAll z scope u1 facts k → (word_in k o ≡ number v) × Own scope u1 (a_word o) × (number v < 2 ^ 64)) →
    (none : Bool) → nat_eq offset 0 ≡ none →
    Sim z n names scope facts u (if none then known (a_word o) u else compute operators.Add whole_word o (Constant offset) u)
    (λ s. Gives (word (moved (number v) offset)) s) names scope
    (λ w. one_of the_address inner (if none then known (a_word o) u else compute operators.Add whole_word o (Constant offset) u).result w)
entry_word_sim u inner offset o v knows_word true e =
    known_sim u (a_word o) (word (moved (number v) offset)) (λ k s fine knows.
    let w = knows_word u k knows in
    let same : moved (number v) offset ≡ number v = omega (arith, eqb-true offset 0 e, w.2) in
    record { is = ap word (w.0 ∙ sym same); own = w.1; good = omega (arith, same, w.2) })
entry_word_sim u inner offset o v knows_word false e =
    compute_sim u the_address inner operators.Add whole_word o (Constant offset) (number v) offset (word (moved (number v) offset))
    (λ u1 k knows. ((knows_word u1 k knows).0, refl)) refl (ap word (added (number v) offset)) (omega arith)

-- the entry at an offset of what lies at an address
pub entry_sim : {z : Setting} {n : ℕ} {names : List TypedName} {scope : Holders} {facts : List Fact} (u : Used) (of inner : TypeId)
    (offset : ℕ) (r : Result) (v : Value) →
    offset + bytes_at z.types inner ≤ bytes_at z.types of →
    Sim z n names scope (one_of the_address of r v ∷ facts) u (entry offset r u) (λ s. Gives (word (moved (number v) offset)) s) names scope
    (λ w. one_of the_address inner (entry offset r u).result w)
entry_sim {z} {n} {names} {scope} {facts} u of inner offset (an_offset o) v fits =
    known_sim u (an_offset (o + offset)) (word (moved (number v) offset)) (λ k s fine knows.
    let is : z.base + o ≡ number v = ap number knows.0.is in
    let small : z.base + o + offset < 2 ^ 64 = omega (arith, z.low, knows.0.good, fits) in
    let whole_ : (z.base + o + offset) % 2 ^ 64 ≡ z.base + (o + offset) = omega (arith, small) in
    record {
      is = ap word (sym whole_ ∙ ap (λ m. (m + offset) % 2 ^ 64) is);
      own = tt;
      good = omega (arith, knows.0.good, fits);
    })
entry_sim {z} {n} {names} {scope} {facts} u of inner offset (an_area m) v fits =
    entry_word_sim u inner offset (Constant 0) v (λ u1 k knows. absurd knows.0.good) (nat_eq offset 0) refl
entry_sim {z} {n} {names} {scope} {facts} u of inner offset (a_word o) v fits =
    entry_word_sim u inner offset o v (λ u1 k knows. (ap number knows.0.is, knows.0.own, knows.0.good)) (nat_eq offset 0) refl

-- one behind a pointer
pub follow_sim : {z : Setting} {n : ℕ} {names : List TypedName} {scope : Holders} {facts : List Fact} (u : Used) (of inner : TypeId)
    (offset : ℕ) (r : Result) (v : Value) →
    Sim z n names scope (one_of the_value of r v ∷ facts) u (entry offset (a_word (word_of r)) u)
    (λ s. Gives (word (moved (number v) offset)) s) names scope
    (λ w. one_of the_address inner (entry offset (a_word (word_of r)) u).result w)
follow_sim {z} {n} {names} {scope} {facts} u of inner offset r v =
    entry_word_sim u inner offset (word_of r) v
    (λ u1 k knows. (
      word-is z of scope u1 r k v knows.0,
      own-word scope u1 r knows.0.own,
      value-small z.types of v
          (is-value z of r v knows.0.good),
    ))
    (nat_eq offset 0) refl

-- an address as a word
pub located_sim : {z : Setting} {n : ℕ} {names : List TypedName} {scope : Holders} {facts : List Fact} (u : Used) (want : Wanted)
    (inner of : TypeId) (r : Result) (v : Value) →
    ((o : Operand) (x : ℕ) → x < 2 ^ 64 → Good z want of (a_word o) (word x)) →
    Sim z n names scope (one_of the_address inner r v ∷ facts) u (located r u) (λ s. Gives v s) names scope
    (λ w. one_of want of (located r u).result w)
located_sim {z} {n} {names} {scope} {facts} u want inner of (a_word o) v good =
    known_sim u (a_word o) v (λ k s fine knows. record {
      is = knows.0.is;
      own = knows.0.own;
      good = subst (λ w. Good z want of (a_word o) w) knows.0.is
          (good o (word_in k o) (subst (λ m. m < 2 ^ 64) (sym (ap number knows.0.is)) knows.0.good));
    })
located_sim {z} {n} {names} {scope} {facts} u want inner of (an_area m) v good =
    known_sim u (an_area m) v (λ k s fine knows. absurd knows.0.good)
located_sim {z} {n} {names} {scope} {facts} u want inner of (an_offset o) v good =
    puts_sim u want of (Locate u.temps o) (λ s. Gives v s) (λ at k s fine knows.
    let small : z.base + o < 2 ^ 64 = omega (arith, z.low, knows.0.good) in
    record {
      word_put = z.base + o;
      moves = refl;
      is = knows.0.is;
      good = subst (λ w. Good z want of (a_word (Temp u.temps)) w) knows.0.is (good (Temp u.temps) (z.base + o) small);
      same = same-self s;
    })

-- a word, and another one so many times a size
pub multiplied : (x y : ℕ) → applied (flow.width_of whole_word) operators.Multiply x y ≡ (x * y) % 2 ^ 64
unfolding applied wrapped
multiplied x y = refl

pub element_sim : {z : Setting} {n : ℕ} {names : List TypedName} {scope : Holders} {facts : List Fact} (u : Used) (of : TypeId) (size : ℕ)
    (from index : Operand) (x y : ℕ) →
    AreWords z scope facts from index x y →
    Sim z n names scope facts u (element size from index u) (λ s. Gives (word (moved x (y * size))) s) names scope
    (λ w. one_of the_address of (element size from index u).result w)
element_sim {z} {n} {names} {scope} {facts} u of size from index x y words =
    sim_as (λ s. Gives (word ((x + (y * size) % 2 ^ 64) % 2 ^ 64)) s) (λ s. Gives (word (moved x (y * size))) s)
    (λ s. let e : (x + (y * size) % 2 ^ 64) % 2 ^ 64 ≡ (x + y * size) % 2 ^ 64 = omega arith in ap (λ m. Gives (word m) s) e)
    (then_sim {mid = λ w. one_of the_address of (a_word (Temp u.temps)) w} (λ r u'. compute operators.Add whole_word from (word_of r) u')
    (λ w s. Gives (word ((x + number w) % 2 ^ 64)) s) (word 0)
    (compute_sim u the_address of operators.Multiply whole_word index (Constant size) y size (word ((y * size) % 2 ^ 64))
    (λ u1 k knows. ((words u1 k knows).1, refl)) refl (ap word (multiplied y size)) (omega arith))
    (λ w. compute_sim (with_temp u) the_address of operators.Add whole_word from (Temp u.temps) x (number w)
    (word ((x + number w) % 2 ^ 64))
    (λ u1 k knows. ((words u1 k knows.1).0, ap number knows.0.is)) refl (ap word (added x (number w))) (omega arith)))

-- an address is a word
pub address-word : (z : Setting) (of : TypeId) (scope : Holders) (u : Used) (r : Result) (k : Private) (v : Value) →
    Means z the_address of scope u r k v →
    Means z the_address of scope u r k (word (number v))
address-word z of scope u (a_word o) k v m = record { is = ap word (ap number m.is); own = m.own; good = m.good }
address-word z of scope u (an_area n) k v m = absurd m.good
address-word z of scope u (an_offset o) k v m = record { is = ap word (ap number m.is); own = m.own; good = m.good }

pub located-number : (z : Setting) (k : Private) (r : Result) (u : Used) → word_in k (word_of (located r u).result) ≡ number
    (value_in z k (located r u).result)
located-number z k (a_word o) u = refl
located-number z k (an_area n) u = refl
located-number z k (an_offset o) u = refl
