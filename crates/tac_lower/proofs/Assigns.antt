-- One assignment: to a variable that is a value alone, or to what lies at an address.
use Rattle.std.proofs.Common.{◌≡◌, ◌≢◌, ℕ, ◌<◌, ◌≤◌, Bool, true, false, List, [], ◌∷◌, Some, refl, sym, ap, ◌∙◌, subst, arith}
use Rattle.std.specs.Prelude.{nat_eq, if◌then◌else◌}
use Rattle.tl_base.specs.declared.place.Place.{Place}
use Rattle.tl_base.specs.declared.ids.SymId.{SymId}
use Rattle.tl_base.specs.declared.ids.TypeId.{TypeId}
use Rattle.terra_words.specs.Runs.{Value, word, number}
use Rattle.terra_term.specs.declared.lists.TypedName.{TypedName}
use Rattle.terra_term.specs.TypedTerms.{Variable, typed}
use Rattle.terra_meaning.specs.Values.{IsValue}
use Rattle.terra_meaning.specs.Running as running
use Rattle.terra_meaning.specs.Running.{Held, held, lies, State, Got, Gives, Ends, found, set, with_value}
use Rattle.terra_meaning.specs.Meaning as meaning
use Rattle.terra_meaning.specs.Meaning.{Wanted, the_value, the_address, held_symbol}
use Rattle.tac_form.specs.declared.tac.Instruction.TheVariants.{Copy}
use Rattle.tac_form.specs.declared.tac.Spot.TheVariants as spots
use Rattle.tac_form.specs.Flow as flow
use Rattle.tac_form.specs.Flow.{Goes, put}
use Rattle.tac_lower.specs.Pieces.{Used, doing, Result, stored, address_of, word_of, Holder, in_temp, at_offset, Holders, holder_of}
use Rattle.tac_lower.proofs.Places.{step_on}
use Rattle.tac_lower.proofs.Standing.{Setting, Private, stands, one-step, operand-is, Elsewhere, Apart, Is, below, Holds, Means, Comes}
use Rattle.tac_lower.proofs.Standing.{Leaves}
use Rattle.tac_lower.proofs.Simulates.{Fact, nothing, KnowsAll, Sim, grown-none}
use Rattle.tac_lower.proofs.Writes.{put-same, put-other, put-below, with_word, holds-later, below-le}
use Rattle.tac_lower.proofs.Reaches.{by_test, InScope, told_in, address-word}
use Rattle.tac_lower.proofs.Loads.{sim_from, address-is, word-is, is-value}
use Rattle.tac_lower.proofs.Stores.{stored_sim}
use Rattle.tac_lower.proofs.Declares.{word-of-value}

-- a temporary that is a variable's is below the number of its scope
holder-below : (z : Setting) (x : SymId) (names : List TypedName) (scope : Holders) (vs : List running.Variable) (l t : ℕ) (k : Private) →
    Holds z names scope vs l k →
    holder_of x scope ≡ Some (in_temp t) → t < l
holder-below z x [] [] [] l t k h e = absurd (grind (arith, e))
holder-below z x (y ∷ ys) (b ∷ bs) (v ∷ vs) l t k h e = by (nat_eq x.0 b.symbol.0) b.holder v.is h.2 e
    (λ f. holder-below z x ys bs vs (below b.holder l) t k h.3 f) (below-le z y.of b.holder v.is l k h.2)
  where
    by : (test : Bool) (holder : Holder) (is : Held) → Is z y.of holder is l k → (if test then Some holder else holder_of x bs) ≡ Some
        (in_temp t) →
        (holder_of x bs ≡ Some (in_temp t) → t < below b.holder l) → below b.holder l ≤ l → t < l
    by true (in_temp u) (held w) i f deeper le = let same : u ≡ t = grind (arith, f) in omega (arith, i.0, same)
    by true (at_offset o) is i f deeper le = absurd (grind (arith, f))
    by true (in_temp u) (lies a) i f deeper le = absurd i
    by false holder is i f deeper le = omega (arith, deeper f, le)
holder-below z x [] [] (v ∷ vs) l t k h e = absurd h
holder-below z x [] (b ∷ bs) vs l t k h e = absurd h
holder-below z x (y ∷ ys) [] vs l t k h e = absurd h
holder-below z x (y ∷ ys) (b ∷ bs) [] l t k h e = absurd h

-- the temporary of a variable in scope is apart from no scope
apart-ne : (x : SymId) (scope : Holders) (t t' : ℕ) → holder_of x scope ≡ Some (in_temp t) → Apart t' scope → t' ≢ t
apart-ne x [] t t' e away = absurd (grind (arith, e))
apart-ne x (b ∷ bs) t t' e away = by (nat_eq x.0 b.symbol.0) b.holder e away.0 (λ f. apart-ne x bs t t' f away.1)
  where
    by : (test : Bool) (holder : Holder) → (if test then Some holder else holder_of x bs) ≡ Some (in_temp t) → Elsewhere t' holder →
        (holder_of x bs ≡ Some (in_temp t) → t' ≢ t) → t' ≢ t
    by true (in_temp u) f away1 deeper = let same : u ≡ t = grind (arith, f) in subst (λ m. t' ≢ m) same away1
    by true (at_offset o) f away1 deeper = absurd (grind (arith, f))
    by false holder f away1 deeper = deeper f

-- the nearest variable of a symbol is set, and the others stay
set-holds : (z : Setting) (x : SymId) (of : TypeId) (names : List TypedName) (scope : Holders) (vs : List running.Variable) (l t w : ℕ)
    (k : Private) → Holds z names scope vs l k → InScope x of names →
    holder_of x scope ≡ Some (in_temp t) → IsValue z.types of (word w) → Holds z names scope (set x (held w) vs) l (with_word t w k)
set-holds z x of [] [] [] l t w k h i e good = absurd i
set-holds z x of (y ∷ ys) (b ∷ bs) (v ∷ vs) l t w k h i e good =
    by (nat_eq x.0 y.symbol.0) (ap (λ m. nat_eq x.0 m.0) h.1) i (ap (λ m. if nat_eq x.0 m.0 then Some b.holder else holder_of x bs)
    (sym h.0) ∙ e) (λ j f. set-holds z x of ys bs vs (below b.holder l) t w k h.3 j f good)
  where
    here : (holder : Holder) (is : Held) → Is z y.of holder is l k → Holds z ys bs vs (below holder l) k → of ≡ y.of →
        Some holder ≡ Some (in_temp t) →
        Is z y.of holder (held w) l (with_word t w k) × Holds z ys bs vs (below holder l) (with_word t w k)
    here (in_temp u) (held o) is1 rest1 j f =
        let same : u ≡ t = grind (arith, f) in (
          (is1.0, ap (λ m. put k.temps t w m) same ∙ put-same k.temps t w, subst (λ m. IsValue z.types m (word w)) j good),
          holds-later z ys bs vs u u k (with_word t w k) (omega arith) (λ m lt. put-below k.temps t w m (omega (arith, lt, same))) rest1,
        )
    here (at_offset o) is is1 rest1 j f = absurd (grind (arith, f))
    here (in_temp u) (lies o) is1 rest1 j f = absurd is1

    there : (holder : Holder) (is : Held) → Is z y.of holder is l k → t < below holder l → Is z y.of holder is l (with_word t w k)
    there (in_temp u) (held o) is1 lt = let ne : u ≢ t = omega (arith, lt) in (is1.0, put-other k.temps t w u ne ∙ is1.1, is1.2)
    there (at_offset o) (lies m) is1 lt = is1
    there (in_temp u) (lies o) is1 lt = absurd is1
    there (at_offset o) (held m) is1 lt = absurd is1

    by : (test : Bool) → nat_eq x.0 v.symbol.0 ≡ test → by_test test (of ≡ y.of) (InScope x of ys) →
        (if test then Some b.holder else holder_of x bs) ≡ Some (in_temp t) →
        (InScope x of ys → holder_of x bs ≡ Some (in_temp t) → Holds z ys bs (set x (held w) vs) (below b.holder l) (with_word t w k)) →
        Holds z (y ∷ ys) (b ∷ bs) (set x (held w) (v ∷ vs)) l (with_word t w k)
    by true same j f deeper =
        let both = here b.holder v.is h.2 h.3 j f in
        subst (λ c. Holds z (y ∷ ys) (b ∷ bs) (if c then record v { is = held w } ∷ vs else v ∷ set x (held w) vs) l (with_word t w k))
        (sym same)
        (h.0, h.1, both.0, both.1)
    by false same j f deeper =
        let lt = holder-below z x ys bs vs (below b.holder l) t k h.3 f in
        subst (λ c. Holds z (y ∷ ys) (b ∷ bs) (if c then record v { is = held w } ∷ vs else v ∷ set x (held w) vs) l (with_word t w k))
        (sym same)
        (h.0, h.1, there b.holder v.is h.2 lt, deeper j f)
set-holds z x of [] [] (v ∷ vs) l t w k h i e good = absurd h
set-holds z x of [] (b ∷ bs) vs l t w k h i e good = absurd h
set-holds z x of (y ∷ ys) [] vs l t w k h i e good = absurd h
set-holds z x of (y ∷ ys) (b ∷ bs) [] l t w k h i e good = absurd h

-- a value goes to a variable that is a value alone
pub assign_temp_sim : {z : Setting} {n : ℕ} {names : List TypedName} {scope : Holders} {facts : List Fact} (u : Used) (place : Place)
    (of : TypeId) (x : SymId) (t : ℕ) (r : Result) (target v : Value) →
    InScope x of names → holder_of x scope ≡ Some (in_temp t) →
    ((k : Private) → KnowsAll z scope u facts k → Means z the_value of scope u r k v) →
    Sim z n names scope facts u (doing (tt {0}) (Copy t (word_of r)) u) (meaning.assigned z.types (typed place of (Variable x)) target v)
    names scope (λ w. nothing)
assign_temp_sim {z} {n} {names} {scope} {facts} u place of x t r target v i e means = record {
  grown = grown-none u;
  over = λ m lt away. away;
  run = λ out at k s has whole_ fine knows less.
      let m = means k knows in
      let l = told_in z x of names scope u k s (in_temp t) fine i e in
      let good = word-of-value z of v l.2.1.0 (is-value z of r v m.good) in
      let same : meaning.assigned z.types (typed place of (Variable x)) target v s ≡ Gives (word 0) (with_value x (number v) s) =
      ap (λ o. if held_symbol o then Gives (word 0) (with_value x (number v) s) else meaning.stored z.types place of (number target) v s)
      (l.1 ∙ ap Some l.2.0) in
      subst (λ g. Leaves z at k s (λ b s'. Comes z names scope at u k s (step_on at) names scope u s' (λ k1. Unit {0})) g) (sym same)
      (record {
        private = with_word t (number v) k;
        leads = (
          1,
          one-step z at k s (Copy t (word_of r)) has.0 ∙ ap (λ y. Goes (flow.ahead (flow.set_temp t y (stands z at k s))))
              (operand-is z at k s (word_of r) ∙ word-is z of scope u r k v m),
        );
        ok = tt;
        fine = record {
          holds = set-holds z x of names scope s.variables u.temps t (number v) k fine.holds i e good;
          small = fine.small;
          sized = fine.sized;
        };
        keeps = record { temps = λ j lt away. put-other k.temps t (number v) j (apart-ne x scope t j e away); areas = λ j lt. refl };
        fewer = omega arith;
      });
}

-- a value goes to a variable in the frame
pub assign_frame_sim : {z : Setting} {n : ℕ} {names : List TypedName} {scope : Holders} {facts : List Fact} (u : Used) (place : Place)
    (of : TypeId) (x : SymId) (o : ℕ) (p r : Result) (target v : Value) →
    InScope x of names → holder_of x scope ≡ Some (at_offset o) →
    ((k : Private) → KnowsAll z scope u facts k → Means z the_address of scope u p k target × Means z the_value of scope u r k v) →
    Sim z n names scope facts u (stored z.types of (spots.Region place (address_of p)) r u)
    (meaning.assigned z.types (typed place of (Variable x)) target v) names scope (λ w. nothing)
assign_frame_sim {z} {n} {names} {scope} {facts} u place of x o p r target v i e means =
    sim_from (meaning.stored z.types place of (number target) v) (meaning.assigned z.types (typed place of (Variable x)) target v)
    (λ k s fine knows.
    let l = told_in z x of names scope u k s (at_offset o) fine i e in
    sym (ap (λ h. if held_symbol h then Gives (word 0) (with_value x (number v) s) else meaning.stored z.types place of
    (number target) v s) (l.1 ∙ ap Some l.2.0)))
    (stored_sim u place of (address_of p) (number target) r v
    (λ at k s fine knows. address-is z of scope u p at k s (number target) (address-word z of scope u p k target (means k knows).0))
    (λ k knows. (means k knows).1))
