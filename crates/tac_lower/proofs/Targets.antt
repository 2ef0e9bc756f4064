-- Assignments: their targets, and the values that go to them.
use Rattle.std.proofs.Common.{◌≡◌, ℕ, List, [], ◌∷◌, Option, Some, None, refl, sym, ap, ◌∙◌, subst, arith}
use Rattle.tl_base.specs.declared.place.Place.{Place}
use Rattle.tl_base.specs.declared.ids.SymId.{SymId}
use Rattle.tl_base.specs.declared.ids.TypeId.{TypeId}
use Rattle.terra_words.specs.Runs.{Value, word, number, value_at}
use Rattle.terra_term.specs.declared.lists.TypedName.{TypedName}
use Rattle.terra_term.specs.TypedTerms.{Expression, typed, Constant', Variable, Global, Operate, Both, Either, Dereference, Select, Follow}
use Rattle.terra_term.specs.TypedTerms.{Element, Index, Address, Decay, Let, Expressions, no_more, then_one, type_of}
use Rattle.terra_meaning.specs.Running.{State, Got, Gives, next, found}
use Rattle.terra_meaning.specs.Meaning as meaning
use Rattle.terra_meaning.specs.Meaning.{the_value, the_address, types_of, behind}
use Rattle.tac_form.specs.declared.tac.Spot.TheVariants as spots
use Rattle.tac_lower.specs.Pieces.{Used, Piece, taken, Result, address_of, result_at, rest, Holder, in_temp, at_offset, Holders, holder_of}
use Rattle.tac_lower.specs.Pieces.{stored}
use Rattle.tac_lower.specs.Lowering.{Target, to_temp, to_place, target_at, aimed, assigned, assigned_all}
use Rattle.tac_lower.proofs.Standing.{Setting, Private, Means, Comes, Leaves}
use Rattle.tac_lower.proofs.Simulates.{Fact, nothing, one_of, all_of, aims, Aims, AllAim, AllMean, KnowsAll, Sim, then_sim, grown-none}
use Rattle.tac_lower.proofs.Simulates.{keeps-none}
use Rattle.tac_lower.proofs.Writes.{known_sim, taken_sim}
use Rattle.tac_lower.proofs.Loads.{sim_as, sim_from, next-same, address-is}
use Rattle.tac_lower.proofs.Reaches.{InScope, told_in, no_holder, address-word}
use Rattle.tac_lower.proofs.Stores.{stored_sim}
use Rattle.tac_lower.proofs.Declares.{sim_facts, all-behind}
use Rattle.tac_lower.proofs.Assigns.{assign_temp_sim, assign_frame_sim}

-- which target an expression is, by the variable that it names

abbrev AimedBy : Option Holder → Target → Type 0
AimedBy (Some (in_temp t)) (to_temp d) = d ≡ t
AimedBy (Some (in_temp t)) (to_place r) = ⊥
AimedBy _ (to_temp d) = ⊥
AimedBy _ (to_place r) = Unit {0}

abbrev pub IsAimed : Holders → Expression → Target → Type 0
IsAimed scope (typed at of (Variable x)) p = AimedBy (holder_of x scope) p
IsAimed scope _ (to_temp d) = ⊥
IsAimed scope _ (to_place r) = Unit {0}

abbrev pub AreAimed : Holders → Expressions → List Target → Type 0
AreAimed scope no_more [] = Unit {0}
AreAimed scope (then_one e es) (p ∷ ps) = IsAimed scope e p × AreAimed scope es ps
AreAimed scope _ _ = ⊥

by-holder : (o : Option Holder) (p : Piece Result) (u : Used) → AimedBy o (target_at o p u).result
by-holder None p u = tt
by-holder (Some (in_temp t)) p u = refl
by-holder (Some (at_offset o)) p u = tt

pub is-aimed : (scope : Holders) (e : Expression) (p : Piece Result) (u : Used) → IsAimed scope e (aimed scope e p u).result
is-aimed scope (typed at of (Variable x)) p u = by-holder (holder_of x scope) p u
is-aimed scope (typed at of (Constant' c)) p u = tt
is-aimed scope (typed at of (Global a)) p u = tt
is-aimed scope (typed at of (Operate op es)) p u = tt
is-aimed scope (typed at of (Both b1 b2)) p u = tt
is-aimed scope (typed at of (Either b1 b2)) p u = tt
is-aimed scope (typed at of (Dereference q)) p u = tt
is-aimed scope (typed at of (Select o e1)) p u = tt
is-aimed scope (typed at of (Follow o q)) p u = tt
is-aimed scope (typed at of (Element b1 i)) p u = tt
is-aimed scope (typed at of (Index q i)) p u = tt
is-aimed scope (typed at of (Address e1)) p u = tt
is-aimed scope (typed at of (Decay e1)) p u = tt
is-aimed scope (typed at of (Let ss e1)) p u = tt

-- a variable among targets is in scope
abbrev pub VariableIn : List TypedName → Expression → Type 0
VariableIn names (typed at of (Variable x)) = InScope x of names
VariableIn names _ = Unit {0}

abbrev pub VariablesIn : List TypedName → Expressions → Type 0
VariablesIn names no_more = Unit {0}
VariablesIn names (then_one e es) = VariableIn names e × VariablesIn names es

-- and the meaning gives what it holds
abbrev pub ReadsVariable : Setting → Expression → (State → Got Value) → Type 0
ReadsVariable z (typed at of (Variable x)) go = (s : State) → meaning.variable z.types the_address at of (found x s) s ≡ go s
ReadsVariable z _ go = Unit {0}

-- the code of a target

place_sim : {z : Setting} {n : ℕ} {names : List TypedName} {scope : Holders} {facts : List Fact} (u : Used) (of : TypeId)
    (p : Piece Result) (go : State → Got Value) →
    Sim z n names scope facts u p go names scope (λ v. one_of the_address of p.result v) →
    Sim z n names scope facts u (taken to_place p) go names scope (λ v. aims (of ∷ []) (to_place p.result ∷ []) (v ∷ []))
place_sim u of p go x =
    sim_as (λ s. next (go s) (λ v s'. Gives v s')) go (λ s. next-same (go s)) (taken_sim to_place (λ v. v) x (λ v k h. (h, tt)))

variable_target_sim : {z : Setting} {n : ℕ} {names : List TypedName} {scope : Holders} {facts : List Fact} (u : Used) (at : Place)
    (of : TypeId) (x : SymId) (p : Piece Result) (go : State → Got Value) → InScope x of names →
    ((s : State) → meaning.variable z.types the_address at of (found x s) s ≡ go s) →
    Sim z n names scope facts u p go names scope (λ v. one_of the_address of p.result v) →
    Sim z n names scope facts u (target_at (holder_of x scope) p u) go names scope
    (λ v. aims (of ∷ []) ((target_at (holder_of x scope) p u).result ∷ []) (v ∷ []))
variable_target_sim {z} {n} {names} {scope} {facts} u place of x p go i reads y = by (holder_of x scope) refl
  where
    by : (o : Option Holder) → holder_of x scope ≡ o →
        Sim z n names scope facts u (target_at o p u) go names scope (λ v. aims (of ∷ []) ((target_at o p u).result ∷ []) (v ∷ []))
    by None e = place_sim u of p go y
    by (Some (at_offset o)) e = place_sim u of p go y
    by (Some (in_temp t)) e = record {
      grown = grown-none u;
      over = λ m lt away. away;
      run = λ out at k s has whole_ fine knows less.
          let l = told_in z x of names scope u k s (in_temp t) fine i e in
          let same : Gives (word (k.temps t)) s ≡ go s =
          sym (ap (λ h. meaning.variable z.types the_address place of h s) (l.1 ∙ ap Some l.2.0)) ∙ reads s in
          subst
          (λ g. Leaves z at k s
          (λ v s'. Comes z names scope at u k s at names scope u s' (λ k1. AllAim z scope u (of ∷ []) (to_temp t ∷ []) (v ∷ []) k1)) g)
          same
          (record { private = k; leads = (0, refl); ok = (tt, tt); fine = fine; keeps = keeps-none scope u k; fewer = omega arith });
    }

pub aimed_sim : {z : Setting} {n : ℕ} {names : List TypedName} {scope : Holders} {facts : List Fact} (u : Used) (e : Expression)
    (p : Piece Result) (go : State → Got Value) → VariableIn names e → ReadsVariable z e go →
    Sim z n names scope facts u p go names scope (λ v. one_of the_address (type_of e) p.result v) →
    Sim z n names scope facts u (aimed scope e p u) go names scope
    (λ v. aims (type_of e ∷ []) ((aimed scope e p u).result ∷ []) (v ∷ []))
aimed_sim u (typed at of (Variable x)) p go i reads y = variable_target_sim u at of x p go i reads y
aimed_sim u (typed at of (Constant' c)) p go i reads y = place_sim u of p go y
aimed_sim u (typed at of (Global a)) p go i reads y = place_sim u of p go y
aimed_sim u (typed at of (Operate op es)) p go i reads y = place_sim u of p go y
aimed_sim u (typed at of (Both b1 b2)) p go i reads y = place_sim u of p go y
aimed_sim u (typed at of (Either b1 b2)) p go i reads y = place_sim u of p go y
aimed_sim u (typed at of (Dereference q1)) p go i reads y = place_sim u of p go y
aimed_sim u (typed at of (Select o e1)) p go i reads y = place_sim u of p go y
aimed_sim u (typed at of (Follow o q1)) p go i reads y = place_sim u of p go y
aimed_sim u (typed at of (Element b1 i1)) p go i reads y = place_sim u of p go y
aimed_sim u (typed at of (Index q1 i1)) p go i reads y = place_sim u of p go y
aimed_sim u (typed at of (Address e1)) p go i reads y = place_sim u of p go y
aimed_sim u (typed at of (Decay e1)) p go i reads y = place_sim u of p go y
aimed_sim u (typed at of (Let ss e1)) p go i reads y = place_sim u of p go y

-- a value goes to a target

placed_sim : {z : Setting} {n : ℕ} {names : List TypedName} {scope : Holders} {facts : List Fact} (u : Used) (place : Place)
    (of : TypeId) (p r : Result) (target v : Value) →
    ((k : Private) → KnowsAll z scope u facts k → Means z the_address of scope u p k target × Means z the_value of scope u r k v) →
    Sim z n names scope facts u (stored z.types of (spots.Region place (address_of p)) r u)
    (meaning.stored z.types place of (number target) v)
    names scope (λ w. nothing)
placed_sim {z} {n} {names} {scope} {facts} u place of p r target v means =
    stored_sim u place of (address_of p) (number target) r v
    (λ at k s fine knows. address-is z of scope u p at k s (number target) (address-word z of scope u p k target (means k knows).0))
    (λ k knows. (means k knows).1)

to_variable_sim : {z : Setting} {n : ℕ} {names : List TypedName} {scope : Holders} {facts : List Fact} (u : Used) (place : Place)
    (of : TypeId) (x : SymId) (p : Target) (r : Result) (target v : Value) → AimedBy (holder_of x scope) p → InScope x of names →
    ((k : Private) → KnowsAll z scope u facts k → Aims z scope u of p target k × Means z the_value of scope u r k v) →
    Sim z n names scope facts u (assigned z.types (typed place of (Variable x)) p r u)
    (meaning.assigned z.types (typed place of (Variable x)) target v) names scope (λ w. nothing)
to_variable_sim {z} {n} {names} {scope} {facts} u place of x p r target v is i means = by (holder_of x scope) refl p is means
  where
    Aimed : Target → Type 0
    Aimed p1 = (k : Private) → KnowsAll z scope u facts k → Aims z scope u of p1 target k × Means z the_value of scope u r k v

    by : (o : Option Holder) → holder_of x scope ≡ o → (p1 : Target) → AimedBy o p1 → Aimed p1 →
        Sim z n names scope facts u (assigned z.types (typed place of (Variable x)) p1 r u)
        (meaning.assigned z.types (typed place of (Variable x)) target v) names scope (λ w. nothing)
    by (Some (in_temp t)) e (to_temp d) same m =
        assign_temp_sim u place of x d r target v i (e ∙ ap (λ y. Some (in_temp y)) (sym same)) (λ k knows. (m k knows).1)
    by (Some (in_temp t)) e (to_place q) bad m = absurd bad
    by (Some (at_offset o)) e (to_temp d) bad m = absurd bad
    by (Some (at_offset o)) e (to_place q) same m = assign_frame_sim u place of x o q r target v i e m
    by None e (to_temp d) bad m = absurd bad
    by None e (to_place q) same m =
        sim_from (meaning.stored z.types place of (number target) v) (meaning.assigned z.types (typed place of (Variable x)) target v)
        (λ k s fine knows. absurd (no_holder z x of names scope u k s fine i e)) (placed_sim u place of q r target v m)

pub assigned_sim : {z : Setting} {n : ℕ} {names : List TypedName} {scope : Holders} {facts : List Fact} (u : Used) (e : Expression)
    (p : Target) (r : Result) (target v : Value) → IsAimed scope e p → VariableIn names e →
    ((k : Private) → KnowsAll z scope u facts k → Aims z scope u (type_of e) p target k × Means z the_value (type_of e) scope u r k v) →
    Sim z n names scope facts u (assigned z.types e p r u) (meaning.assigned z.types e target v) names scope (λ w. nothing)
assigned_sim u (typed at of (Variable x)) p r target v is i means = to_variable_sim u at of x p r target v is i means
assigned_sim u (typed at of (Constant' c)) (to_temp d) r target v is i means = absurd is
assigned_sim u (typed at of (Constant' c)) (to_place p) r target v is i means = placed_sim u at of p r target v means
assigned_sim u (typed at of (Global a)) (to_temp d) r target v is i means = absurd is
assigned_sim u (typed at of (Global a)) (to_place p) r target v is i means = placed_sim u at of p r target v means
assigned_sim u (typed at of (Operate op es)) (to_temp d) r target v is i means = absurd is
assigned_sim u (typed at of (Operate op es)) (to_place p) r target v is i means = placed_sim u at of p r target v means
assigned_sim u (typed at of (Both b1 b2)) (to_temp d) r target v is i means = absurd is
assigned_sim u (typed at of (Both b1 b2)) (to_place p) r target v is i means = placed_sim u at of p r target v means
assigned_sim u (typed at of (Either b1 b2)) (to_temp d) r target v is i means = absurd is
assigned_sim u (typed at of (Either b1 b2)) (to_place p) r target v is i means = placed_sim u at of p r target v means
assigned_sim u (typed at of (Dereference q1)) (to_temp d) r target v is i means = absurd is
assigned_sim u (typed at of (Dereference q1)) (to_place p) r target v is i means = placed_sim u at of p r target v means
assigned_sim u (typed at of (Select o e1)) (to_temp d) r target v is i means = absurd is
assigned_sim u (typed at of (Select o e1)) (to_place p) r target v is i means = placed_sim u at of p r target v means
assigned_sim u (typed at of (Follow o q1)) (to_temp d) r target v is i means = absurd is
assigned_sim u (typed at of (Follow o q1)) (to_place p) r target v is i means = placed_sim u at of p r target v means
assigned_sim u (typed at of (Element b1 i1)) (to_temp d) r target v is i means = absurd is
assigned_sim u (typed at of (Element b1 i1)) (to_place p) r target v is i means = placed_sim u at of p r target v means
assigned_sim u (typed at of (Index q1 i1)) (to_temp d) r target v is i means = absurd is
assigned_sim u (typed at of (Index q1 i1)) (to_place p) r target v is i means = placed_sim u at of p r target v means
assigned_sim u (typed at of (Address e1)) (to_temp d) r target v is i means = absurd is
assigned_sim u (typed at of (Address e1)) (to_place p) r target v is i means = placed_sim u at of p r target v means
assigned_sim u (typed at of (Decay e1)) (to_temp d) r target v is i means = absurd is
assigned_sim u (typed at of (Decay e1)) (to_place p) r target v is i means = placed_sim u at of p r target v means
assigned_sim u (typed at of (Let ss e1)) (to_temp d) r target v is i means = absurd is
assigned_sim u (typed at of (Let ss e1)) (to_place p) r target v is i means = placed_sim u at of p r target v means

-- the first of some targets, and those behind it

first-aim : (z : Setting) (scope : Holders) (u : Used) (t : TypeId) (ts : List TypeId) (p : Target) (ps : List Target)
    (vs : List Value) (k : Private) → AllAim z scope u (t ∷ ts) (p ∷ ps) vs k →
    Aims z scope u t p (value_at vs 0) k × AllAim z scope u ts ps (behind vs) k
first-aim z scope u t ts p ps (v ∷ vs) k h = (h.0, h.1)
first-aim z scope u t ts p ps [] k h = absurd h

pub first-mean : (z : Setting) (scope : Holders) (u : Used) (t : TypeId) (ts : List TypeId) (rs : List Result) (vs : List Value)
    (k : Private) → AllMean z scope u (t ∷ ts) rs vs k → Means z the_value t scope u (result_at rs 0) k (value_at vs 0)
first-mean z scope u t ts (r ∷ rs) (v ∷ vs) k h = h.0
first-mean z scope u t ts [] vs k h = absurd h
first-mean z scope u t ts (r ∷ rs) [] k h = absurd h

pub assigned_all_sim : {z : Setting} {n : ℕ} {names : List TypedName} {scope : Holders} {facts : List Fact} (u : Used)
    (es : Expressions) (ps : List Target) (rs : List Result) (targets vs : List Value) → AreAimed scope es ps → VariablesIn names es →
    Sim z n names scope (aims (types_of es) ps targets ∷ all_of (types_of es) rs vs ∷ facts) u (assigned_all z.types es ps rs u)
    (meaning.assigned_all z.types es targets vs) names scope (λ w. nothing)
assigned_all_sim u no_more [] rs targets vs are within = known_sim u (tt {0}) (word 0) (λ k s fine knows. tt)
assigned_all_sim u no_more (p ∷ ps) rs targets vs are within = absurd are
assigned_all_sim u (then_one e es) [] rs targets vs are within = absurd are
assigned_all_sim {z} {n} {names} {scope} {facts} u (then_one e es) (p ∷ ps) rs targets vs are within =
    let q = assigned z.types e p (result_at rs 0) u in
    then_sim (λ b u'. assigned_all z.types es ps (rest rs) u') (λ w s'. meaning.assigned_all z.types es (behind targets) (behind vs) s')
    (word 0)
    (assigned_sim u e p (result_at rs 0) (value_at targets 0) (value_at vs 0) are.0 within.0 (λ k knows. (
      (first-aim z scope u (type_of e) (types_of es) p ps targets k knows.0).0,
      first-mean z scope u (type_of e) (types_of es) rs vs k knows.1.0,
    )))
    (λ w. sim_facts (nothing ∷ aims (types_of (then_one e es)) (p ∷ ps) targets ∷ all_of (types_of (then_one e es)) rs vs ∷ facts)
    (λ k knows. (
      (first-aim z scope q.used (type_of e) (types_of es) p ps targets k knows.1.0).1,
      (all-behind z scope q.used (types_of (then_one e es)) rs vs k knows.1.1.0, knows.1.1.1),
    ))
    (assigned_all_sim q.used es ps (rest rs) (behind targets) (behind vs) are.1 within.1))
