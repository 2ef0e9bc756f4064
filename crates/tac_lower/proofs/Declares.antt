-- Declarations: a variable goes to a temporary of its own, or to its place in the frame.
use Rattle.std.proofs.Common.{◌≡◌, ℕ, suc, ◌+◌, ◌≤◌, Bool, true, false, List, [], ◌∷◌, Option, Some, None, refl, sym, ap, ◌∙◌, subst, arith}
use Rattle.std.specs.Prelude.{nat_eq, if◌then◌else◌}
use Rattle.std.proofs.lemmas.Bool.{eqb-true}
use Rattle.tl_base.specs.declared.place.Place.{Place}
use Rattle.tl_base.specs.declared.ids.TypeId.{TypeId}
use Rattle.terra_words.specs.Runs.{Value, word, bytes, number}
use Rattle.terra_types.specs.declared.types.TypeForm.{TypeForm}
use Rattle.terra_term.specs.declared.lists.TypedName.{TypedName}
use Rattle.terra_meaning.specs.Values.{form_at, bytes_at, is_aggregate, IsValue}
use Rattle.terra_meaning.specs.Frames.{Home, by_value, in_frame, home_at}
use Rattle.terra_meaning.specs.Running.{held, lies, State, Got, Gives, Ends, next, with_variable}
use Rattle.terra_meaning.specs.Meaning as meaning
use Rattle.terra_meaning.specs.Meaning.{Call, Wanted, the_value, the_address, behind}
use Rattle.tac_form.specs.declared.tac.Operand.{Operand}
use Rattle.tac_form.specs.declared.tac.Operand.TheVariants.{Constant}
use Rattle.tac_form.specs.declared.tac.Address.TheVariants as addresses
use Rattle.tac_form.specs.declared.tac.Spot.TheVariants as spots
use Rattle.tac_form.specs.declared.tac.Instruction.TheVariants.{Copy}
use Rattle.tac_form.specs.Flow as flow
use Rattle.tac_form.specs.Flow.{Goes, Stops, put}
use Rattle.tac_lower.specs.Pieces.{Used, Piece, taken, Result, a_word, an_area, an_offset, word_of, rest, in_temp, at_offset, Holders}
use Rattle.tac_lower.specs.Pieces.{bound, copied, stored, placed, Around, declare_at, declare, declare_all, first_of}
pub use Rattle.tac_lower.specs.Needs.{GoodHome, declared_names, DeclaresWell}
use Rattle.tac_lower.proofs.Places.{Point, after}
use Rattle.tac_lower.proofs.Standing.{Setting, Private, stands, one-step, word_in, operand-is, Fine, Means, Comes, Leaves}
use Rattle.tac_lower.proofs.Simulates.{Fact, nothing, one_of, all_of, AllMean, Knows, KnowsAll, Sim, then_sim}
use Rattle.tac_lower.proofs.Words.{wrapped-zero}
use Rattle.tac_lower.proofs.Writes.{put-same, put-below, with_word, holds-later, grown-temp, same-self, fine-word, known_sim}
use Rattle.tac_lower.proofs.Loads.{sim_from, word-is, is-value}
use Rattle.tac_lower.proofs.Acts.{Under, under-self, under-then}
use Rattle.tac_lower.proofs.Stores.{stored_sim, stores-nothing}

-- less may be known
pub sim_facts : {A B : Type 0} {z : Setting} {n : ℕ} {names names' : List TypedName} {scope scope' : Holders} {facts : List Fact}
    {u : Used} {r : Piece A} {go : State → Got B} {post : B → Fact} (more : List Fact) →
    ((k : Private) → KnowsAll z scope u more k → KnowsAll z scope u facts k) → Sim z n names scope facts u r go names' scope' post →
    Sim z n names scope more u r go names' scope' post
sim_facts more h x = record {
  grown = x.grown;
  over = x.over;
  run = λ out at k s has whole_ fine knows less. x.run out at k s has whole_
      fine (h k knows) less;
}

-- a variable that is a value alone
temp_sim : {z : Setting} {n : ℕ} {names : List TypedName} {scope : Holders} {facts : List Fact} (u : Used) (x : TypedName) (o : Operand)
    (w : ℕ) →
    ((k : Private) → KnowsAll z scope u facts k → (word_in k o ≡ w) × IsValue z.types x.of (word w)) →
    Sim z n names scope facts u (taken (λ a. bound x.symbol (in_temp u.temps) scope) (copied o u))
    (λ s. Gives (word 0) (with_variable x.symbol (held w) s)) (x ∷ names) (bound x.symbol (in_temp u.temps) scope) (λ v. nothing)
temp_sim {z} {n} {names} {scope} {facts} u x o w h = record {
  grown = grown-temp u;
  over = λ t lt away. (omega (arith, lt), away);
  run = λ out at k s has whole_ fine knows less.
      let known_ = h k knows in
      let k1 = with_word u.temps w k in
      record {
        private = k1;
        leads = (
          1,
          one-step z at k s (Copy u.temps o) has.0 ∙ ap (λ y. Goes (flow.ahead (flow.set_temp u.temps y (stands z at k s))))
              (operand-is z at k s o ∙ known_.0),
        );
        ok = tt;
        fine = record {
          holds = (
            refl,
            refl,
            (omega arith, put-same k.temps u.temps w, known_.1),
            holds-later z names scope s.variables u.temps u.temps
                k k1 (omega arith) (λ t lt. put-below k.temps u.temps w t lt) fine.holds,
          );
          small = fine.small;
          sized = fine.sized;
        };
        keeps = record { temps = λ t lt away. put-below k.temps u.temps w t lt; areas = λ m lt. refl };
        fewer = omega arith;
      };
}

-- a variable in the frame, after its value went there
framed : {B : Type 0} (z : Setting) (names : List TypedName) (scope : Holders) (at to : Point) (u u' : Used) (k : Private) (s : State)
    (x : TypedName) (offset : ℕ) (Ok : B → Private → Type 0) → offset + bytes_at z.types x.of ≤ z.tac.frame → (g : Got B) →
    Leaves z at k s (λ b s'. Comes z names scope at u k s to names scope u' s' (Ok b)) g →
    Leaves z at k s (λ b s'. Comes z names scope at u k s to (x ∷ names) (bound x.symbol (at_offset offset) scope) u' s' (λ k1. Unit {0}))
    (next g (λ b s'. Gives (word 0) (with_variable x.symbol (lies (z.base + offset)) s')))
framed z names scope at to u u' k s x offset Ok fits (Ends e) h = h
framed z names scope at to u u' k s x offset Ok fits (Gives b s1) c = record {
  private = c.private;
  leads = c.leads;
  ok = tt;
  fine = record { holds = (refl, refl, (refl, fits), c.fine.holds); small = c.fine.small; sized = c.fine.sized };
  keeps = c.keeps;
  fewer = c.fewer;
}

frame_sim : {A B : Type 0} {z : Setting} {n : ℕ} {names : List TypedName} {scope : Holders} {facts : List Fact} {u : Used} {p : Piece A}
    {go : State → Got B} {mid : B → Fact} (x : TypedName) (offset : ℕ) → offset + bytes_at z.types x.of ≤ z.tac.frame →
    Sim z n names scope facts u p go names scope mid →
    Sim z n names scope facts u (taken (λ a. bound x.symbol (at_offset offset) scope) p)
    (λ s. next (go s) (λ b s'. Gives (word 0) (with_variable x.symbol (lies (z.base + offset)) s'))) (x ∷ names)
    (bound x.symbol (at_offset offset) scope) (λ v. nothing)
frame_sim {A} {B} {z} {n} {names} {scope} {facts} {u} {p} {go} {mid} x offset fits y = record {
  grown = y.grown;
  over = λ t lt away. (tt, away);
  run = λ out at k s has whole_ fine knows less.
      framed z names scope at (after p.code at) u p.used k s x offset (λ b. Knows z scope p.used (mid b)) fits (go s)
      (y.run out at k s has whole_ fine knows less);
}

-- a value goes to its place in the frame; a word of no bytes is read all the same
read_sim : {z : Setting} {n : ℕ} {names : List TypedName} {scope : Holders} {facts : List Fact} (u : Used) (o : Operand)
    (go : State → Got Value) →
    ((k : Private) (s : State) → Fine z names scope u k s → KnowsAll z scope u facts k → Gives (word 0) s ≡ go s) →
    Sim z n names scope facts u (taken (λ b. tt {0}) (copied o u)) go names scope (λ v. nothing)
read_sim {z} {n} {names} {scope} {facts} u o go h = sim_from (λ s. Gives (word 0) s) go h (record {
  grown = grown-temp u;
  over = λ t lt away. away;
  run = λ out at k s has whole_ fine knows less. record {
    private = with_word u.temps (word_in k o) k;
    leads = (
      1,
      one-step z at k s (Copy u.temps o) has.0 ∙ ap (λ y. Goes (flow.ahead (flow.set_temp u.temps y (stands z at k s))))
          (operand-is z at k s o),
    );
    ok = tt;
    fine = fine-word z names scope u k s s (word_in k o) (same-self s) fine;
    keeps = record { temps = λ t lt away. put-below k.temps u.temps (word_in k o) t lt; areas = λ m lt. refl };
    fewer = omega arith;
  };
})

placed_sim : {z : Setting} {n : ℕ} {names : List TypedName} {scope : Holders} {facts : List Fact} (u : Used) (place : Place) (of : TypeId)
    (offset : ℕ) (r : Result) (v : Value) →
    ((k : Private) → KnowsAll z scope u facts k → Means z the_value of scope u r k v) →
    Sim z n names scope facts u (placed z.types of (spots.Region place (addresses.Frame offset)) r u)
    (meaning.stored z.types place of (z.base + offset) v) names scope (λ w. nothing)
placed_sim {z} {n} {names} {scope} {facts} u place of offset (an_area m) v means =
    stored_sim u place of (addresses.Frame offset) (z.base + offset) (an_area m) v (λ at k s fine knows. refl) means
placed_sim {z} {n} {names} {scope} {facts} u place of offset (a_word o) v means = by (nat_eq (bytes_at z.types of) 0) refl
  where
    by : (b : Bool) → nat_eq (bytes_at z.types of) 0 ≡ b →
        Sim z n names scope facts u (if b then taken (λ t. tt {0}) (copied o u) else stored z.types of
        (spots.Region place (addresses.Frame offset)) (a_word o) u) (meaning.stored z.types place of (z.base + offset) v) names scope
        (λ w. nothing)
    by true e = read_sim u o (meaning.stored z.types place of (z.base + offset) v)
        (λ k s fine knows. stores-nothing z place of (z.base + offset) v s (means k knows).good (eqb-true (bytes_at z.types of) 0 e))
    by false e = stored_sim u place of (addresses.Frame offset) (z.base + offset) (a_word o) v (λ at k s fine knows. refl) means
placed_sim {z} {n} {names} {scope} {facts} u place of offset (an_offset o) v means = by (nat_eq (bytes_at z.types of) 0) refl
  where
    by : (b : Bool) → nat_eq (bytes_at z.types of) 0 ≡ b →
        Sim z n names scope facts u (if b then taken (λ t. tt {0}) (copied (Constant 0) u) else stored z.types of
        (spots.Region place (addresses.Frame offset)) (an_offset o) u) (meaning.stored z.types place of (z.base + offset) v) names
        scope (λ w. nothing)
    by true e =
        read_sim u (Constant 0) (meaning.stored z.types place of (z.base + offset) v) (λ k s fine knows. absurd (means k knows).good)
    by false e = stored_sim u place of (addresses.Frame offset) (z.base + offset) (an_offset o) v (λ at k s fine knows. refl) means

pub word-of-value : (z : Setting) (of : TypeId) (v : Value) → is_aggregate z.types of ≡ false → IsValue z.types of v →
    IsValue z.types of (word (number v))
word-of-value z of (word x) plain h = h
word-of-value z of (bytes bs) plain h = let bad : true ≡ false = sym h.0 ∙ plain in absurd (grind (arith, bad))

pub declare_some_sim : {z : Setting} {n : ℕ} {names : List TypedName} {scope : Holders} {facts : List Fact} (u : Used) (c : Call)
    (place : Place) (x : TypedName) (home : Home) (r : Result) (v : Value) → GoodHome z.types z.tac.frame x.of home →
    Sim z n names scope (one_of the_value x.of r v ∷ facts) u (declare_at z.types place x (Some r) home scope u)
    (meaning.declared_at (record c { base = z.base; store = record c.store { types = z.types } }) place x (Some v) home) (x ∷ names)
    (declare_at z.types place x (Some r) home scope u).result (λ w. nothing)
declare_some_sim {z} u c place x by_value r v good =
    temp_sim u x (word_of r) (number v)
    (λ k knows. (word-is z x.of _ u r k v knows.0, word-of-value z x.of v good (is-value z x.of r v knows.0.good)))
declare_some_sim u c place x (in_frame offset) r v good =
    frame_sim x offset good (placed_sim u place x.of offset r v (λ k knows. knows.0))

declare_none_sim : {z : Setting} {n : ℕ} {names : List TypedName} {scope : Holders} {facts : List Fact} (u : Used) (c : Call)
    (place : Place) (x : TypedName) (home : Home) → GoodHome z.types z.tac.frame x.of home →
    Sim z n names scope facts u (declare_at z.types place x None home scope u)
    (meaning.declared_at (record c { base = z.base; store = record c.store { types = z.types } }) place x None home) (x ∷ names)
    (declare_at z.types place x None home scope u).result (λ w. nothing)
declare_none_sim {z} u c place x by_value good =
    temp_sim u x (Constant 0) 0 (λ k knows. (refl, (good, wrapped-zero (form_at z.types x.of))))
declare_none_sim u c place x (in_frame offset) good =
    frame_sim x offset good (known_sim {post = λ w. nothing} u (tt {0}) (word 0) (λ k s fine knows. tt))

abbrev FirstType : List TypeId → TypedName → Type 0
FirstType [] x = Unit {0}
FirstType (t ∷ ts) x = t ≡ x.of

abbrev pub types_behind : List TypeId → List TypeId
types_behind [] = []
types_behind (t ∷ ts) = ts

first-of-well : (z : Setting) (homes : List Home) (k : ℕ) (x : TypedName) (xs : List TypedName) (ts : List TypeId) →
    DeclaresWell z.types z.tac.frame homes k (x ∷ xs) ts →
    GoodHome z.types z.tac.frame x.of (home_at homes k) × FirstType ts x × DeclaresWell z.types z.tac.frame homes (suc k) xs
    (types_behind ts)
first-of-well z homes k x xs [] h = (h.0, tt, h.1)
first-of-well z homes k x xs (t ∷ ts) h = (h.0, h.1, h.2)

pub all-behind : (z : Setting) (scope : Holders) (u : Used) (ts : List TypeId) (rs : List Result) (vs : List Value) (k : Private) →
    AllMean z scope u ts rs vs k → AllMean z scope u (types_behind ts) (rest rs) (behind vs) k
all-behind z scope u [] [] [] k h = tt
all-behind z scope u (t ∷ ts) (r ∷ rs) (v ∷ vs) k h = h.1
all-behind z scope u [] [] (v ∷ vs) k h = absurd h
all-behind z scope u [] (r ∷ rs) vs k h = absurd h
all-behind z scope u (t ∷ ts) [] vs k h = absurd h
all-behind z scope u (t ∷ ts) (r ∷ rs) [] k h = absurd h

module _ (z : Setting) (n : ℕ) (c' : Call) where
  abbrev c : Call
  c = record c' { base = z.base; store = record c'.store { types = z.types } }

  first_sim : (names : List TypedName) (scope : Holders) (facts : List Fact) (u : Used) (place : Place) (x : TypedName) (home : Home)
      (ts : List TypeId) (rs : List Result) (vs : List Value) → GoodHome z.types z.tac.frame x.of home → FirstType ts x →
      Sim z n names scope (all_of ts rs vs ∷ facts) u (declare_at z.types place x (first_of rs) home scope u)
      (meaning.declared_at c place x (meaning.first_of vs) home) (x ∷ names)
      (declare_at z.types place x (first_of rs) home scope u).result (λ w. nothing)
  first_sim names scope facts u place x home [] [] [] good first = declare_none_sim u c' place x home good
  first_sim names scope facts u place x home (t ∷ ts) (r ∷ rs) (v ∷ vs) good first =
      sim_facts (all_of (t ∷ ts) (r ∷ rs) (v ∷ vs) ∷ facts)
      (λ k knows. (subst (λ y. Means z the_value y scope u r k v) first knows.0.0, knows.1))
      (declare_some_sim u c' place x home r v good)
  first_sim names scope facts u place x home [] [] (v ∷ vs) good first =
      sim_from (meaning.declared_at c place x None home) (meaning.declared_at c place x (Some v) home) (λ k s fine knows. absurd knows.0)
      (declare_none_sim u c' place x home good)
  first_sim names scope facts u place x home (t ∷ ts) [] vs good first =
      sim_from (meaning.declared_at c place x None home) (meaning.declared_at c place x (meaning.first_of vs) home)
      (λ k s fine knows. absurd knows.0) (declare_none_sim u c' place x home good)
  first_sim names scope facts u place x home [] (r ∷ rs) vs good first =
      sim_from (meaning.declared_at c place x (Some (word 0)) home) (meaning.declared_at c place x (meaning.first_of vs) home)
      (λ k s fine knows. absurd knows.0)
      (sim_facts (all_of [] (r ∷ rs) vs ∷ facts) (λ k knows. absurd knows.0)
      (declare_some_sim {facts = facts} u c' place x home r (word 0) good))
  first_sim names scope facts u place x home (t ∷ ts) (r ∷ rs) [] good first =
      sim_from (meaning.declared_at c place x (Some (word 0)) home) (meaning.declared_at c place x None home)
      (λ k s fine knows. absurd knows.0)
      (sim_facts (all_of (t ∷ ts) (r ∷ rs) [] ∷ facts) (λ k knows. absurd knows.0)
      (declare_some_sim {facts = facts} u c' place x home r (word 0) good))

  pub declare_all_sim : (a : Around) (names : List TypedName) (scope : Holders) (facts : List Fact) (u : Used) (place : Place)
      (xs : List TypedName) (k : ℕ) (ts : List TypeId) (rs : List Result) (vs : List Value) →
      DeclaresWell z.types z.tac.frame c.homes k xs ts →
      let b : Around = record { types = z.types; entries = a.entries; homes = c.homes } in
      Sim z n names scope (all_of ts rs vs ∷ facts) u (declare_all b place xs rs k scope u) (meaning.declared_all c place xs vs k)
      (declared_names xs names) (declare_all b place xs rs k scope u).result (λ w. nothing)
  declare_all_sim a names scope facts u place [] k ts rs vs well = known_sim u scope (word 0) (λ k1 s fine knows. tt)
  declare_all_sim a names scope facts u place (x ∷ xs) k ts rs vs well =
      let b : Around = record { types = z.types; entries = a.entries; homes = c.homes } in
      let h = first-of-well z c.homes k x xs ts well in
      let q = declare b place x (first_of rs) k scope u in
      then_sim (λ scope' u'. declare_all b place xs (rest rs) (suc k) scope' u')
      (λ v s'. meaning.declared_all c place xs (behind vs) (suc k) s') (word 0)
      (first_sim names scope facts u place x (home_at c.homes k) ts rs vs h.0 h.1)
      (λ v. sim_facts (nothing ∷ all_of ts rs vs ∷ facts) (λ k1 knows. (all-behind z q.result q.used ts rs vs k1 knows.1.0, knows.1.1))
      (declare_all_sim a (x ∷ names) q.result facts q.used place xs (suc k) (types_behind ts) (rest rs) (behind vs) h.2))

pub under-one : (types : List TypeForm) (place : Place) (x : TypedName) (v : Option Result) (home : Home) (names : List TypedName)
    (scope : Holders) (u : Used) → Under names scope (x ∷ names) (declare_at types place x v home scope u).result
under-one types place x None by_value names scope u = record {
  ns = x ∷ [];
  bs = record { symbol = x.symbol; holder = in_temp u.temps } ∷
      [];
  names_are = refl;
  scope_is = refl;
  long = refl;
}
under-one types place x (Some v) by_value names scope u = record
    { ns = x ∷ []; bs = record { symbol = x.symbol; holder = in_temp u.temps } ∷ []; names_are = refl; scope_is = refl; long = refl }
under-one types place x None (in_frame o) names scope u =
    record { ns = x ∷ []; bs = record { symbol = x.symbol; holder = at_offset o } ∷ []; names_are = refl; scope_is = refl; long = refl }
under-one types place x (Some v) (in_frame o) names scope u =
    record { ns = x ∷ []; bs = record { symbol = x.symbol; holder = at_offset o } ∷ []; names_are = refl; scope_is = refl; long = refl }

pub declares-under : (a : Around) (place : Place) (xs : List TypedName) (k : ℕ) (rs : List Result) (names : List TypedName)
    (scope : Holders) (u : Used) → Under names scope (declared_names xs names) (declare_all a place xs rs k scope u).result
declares-under a place [] k rs names scope u = under-self names scope
declares-under a place (x ∷ xs) k rs names scope u =
    let q = declare a place x (first_of rs) k scope u in
    under-then names (x ∷ names) (declared_names xs (x ∷ names)) scope q.result
    (declare_all a place xs (rest rs) (suc k) q.result q.used).result
    (under-one a.types place x (first_of rs) (home_at a.homes k) names scope u)
    (declares-under a place xs (suc k) (rest rs) (x ∷ names) q.result q.used)
