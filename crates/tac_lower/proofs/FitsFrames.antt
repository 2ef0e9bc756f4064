-- The frame of a function of few typed nodes is small: each declaration has a node, and a value of a type has few bytes.
use Rattle.std.proofs.Common.{◌≡◌, ℕ, suc, ◌+◌, ◌*◌, ◌<◌, ◌≤◌, Bool, true, false, List, [], ◌∷◌, ◌++◌, length, Option, Some, None, refl, ap}
use Rattle.std.proofs.Common.{◌∙◌, arith, length-append}
use Rattle.std.specs.Prelude.{◌^◌, ◌||◌, ◌-◌, unwrap_or, if◌then◌else◌}
use Rattle.tl_base.specs.declared.ids.TypeId.{TypeId}
use Rattle.terra_types.specs.declared.measure.Measure.{Measure}
use Rattle.terra_types.specs.declared.types.TypeForm.{TypeForm}
use Rattle.terra_types.specs.Opening.{AreTypes}
use Rattle.terra_types.specs.Sizes.{Within, measure_of, for_some, align_of}
use Rattle.terra_types.specs.Layouts.{rounded}
use Rattle.terra_term.specs.declared.operators.Constant.TheVariants as constants
use Rattle.terra_term.specs.declared.lists.TypedName.{TypedName}
use Rattle.terra_term.specs.TypedTerms.{Expression, typed, Constant', Variable, Global, Operate, Both, Either, Dereference, Select, Follow}
use Rattle.terra_term.specs.TypedTerms.{Element, Index, Address, Decay, Let, Expressions, no_more, then_one, Statement, statement, Var}
use Rattle.terra_term.specs.TypedTerms.{Assign, If, IfElse, While, Repeat, For, Do, Break, Finish, Return, Perform, Statements, done}
use Rattle.terra_term.specs.TypedTerms.{and_then, Body}
use Rattle.terra_term.specs.Sizes.{typed_size, typed_list_size, typed_statement_size, typed_block_size, body_size}
use Rattle.terra_term.specs.Events.{Event, events_of, list_events, doing_events, block_events, operation_events, takes, declares}
use Rattle.terra_term.specs.Events.{declares_all, scope, body_events, declared_in}
use Rattle.terra_meaning.specs.Values.{bytes_at, is_aggregate}
use Rattle.terra_meaning.specs.Frames.{by_value, in_frame, has, with_home, framed, frame_of, taken}
use Rattle.tac_lower.proofs.Homes.{within, sized, declared-append, declared-scope, declared-takes, declared-operation}

-- how many declarations

abbrev many : List Event → ℕ
many es = length (declared_in es)

many-append : (es fs : List Event) → many (es ++ fs) ≡ many es + many fs
many-append es fs = ap length (declared-append es fs) ∙ length-append (declared_in es) (declared_in fs)

many-scope : (es : List Event) → many (scope es) ≡ many es
many-scope es = ap length (declared-scope es)

names-many : (xs : List TypedName) → many (declares_all xs) ≡ length xs
names-many [] = refl
names-many (x ∷ xs) = ap suc (names-many xs)

mutual
  expression-many : (e : Expression) → many (events_of e) ≤ (typed_size e).nodes
  expression-many (typed at of (Constant' (constants.Number b))) = omega arith
  expression-many (typed at of (Constant' (constants.Truth b))) = omega arith
  expression-many (typed at of (Constant' constants.Nil)) = omega arith
  expression-many (typed at of (Constant' (constants.Static a))) = omega arith
  expression-many (typed at of (Constant' (constants.FnValue f))) = omega arith
  expression-many (typed at of (Variable x)) = omega arith
  expression-many (typed at of (Global a)) = omega arith
  expression-many (typed at of (Operate op es)) =
      let a = many-append (operation_events at op) (list_events es) in
      let b = ap length (declared-operation at op) in
      let x = list-many es in omega (arith, a, b, x)
  expression-many (typed at of (Both p q)) =
      let a = many-append (events_of p) (events_of q) in
      let x = expression-many p in let y = expression-many q in omega (arith, a, x, y)
  expression-many (typed at of (Either p q)) =
      let a = many-append (events_of p) (events_of q) in
      let x = expression-many p in let y = expression-many q in omega (arith, a, x, y)
  expression-many (typed at of (Dereference p)) = let x = expression-many p in omega (arith, x)
  expression-many (typed at of (Select o p)) = let x = expression-many p in omega (arith, x)
  expression-many (typed at of (Follow o p)) = let x = expression-many p in omega (arith, x)
  expression-many (typed at of (Element p q)) =
      let a = many-append (events_of p) (events_of q) in
      let x = expression-many p in let y = expression-many q in omega (arith, a, x, y)
  expression-many (typed at of (Index p q)) =
      let a = many-append (events_of p) (events_of q) in
      let x = expression-many p in let y = expression-many q in omega (arith, a, x, y)
  expression-many (typed at of (Address p)) =
      let a = many-append (takes p) (events_of p) in
      let b = ap length (declared-takes p) in
      let x = expression-many p in omega (arith, a, b, x)
  expression-many (typed at of (Decay p)) = let x = expression-many p in omega (arith, x)
  expression-many (typed at of (Let block p)) =
      let s = many-scope (block_events block ++ events_of p) in
      let a = many-append (block_events block) (events_of p) in
      let x = block-many block in let y = expression-many p in omega (arith, s, a, x, y)

  list-many : (es : Expressions) → many (list_events es) ≤ (typed_list_size es).nodes
  list-many no_more = omega arith
  list-many (then_one e es) =
      let a = many-append (events_of e) (list_events es) in
      let x = expression-many e in let y = list-many es in omega (arith, a, x, y)

  statement-many : (s : Statement) → many (doing_events s) ≤ (typed_statement_size s).nodes
  statement-many (statement at (Var xs values)) =
      let a = many-append (list_events values) (declares_all xs) in
      let n = names-many xs in
      let x = list-many values in omega (arith, a, n, x)
  statement-many (statement at (Assign places values)) =
      let a = many-append (list_events values) (list_events places) in
      let x = list-many values in let y = list-many places in omega (arith, a, x, y)
  statement-many (statement at (If test block)) =
      let a = many-append (events_of test) (scope (block_events block)) in
      let s = many-scope (block_events block) in
      let x = expression-many test in let y = block-many block in omega (arith, a, s, x, y)
  statement-many (statement at (IfElse test block other)) =
      let a = many-append (events_of test ++ scope (block_events block)) (scope (block_events other)) in
      let b = many-append (events_of test) (scope (block_events block)) in
      let s = many-scope (block_events block) in
      let r = many-scope (block_events other) in
      let x = expression-many test in let y = block-many block in let z = block-many other in omega (arith, a, b, s, r, x, y, z)
  statement-many (statement at (While test body)) =
      let a = many-append (events_of test) (scope (block_events body)) in
      let s = many-scope (block_events body) in
      let x = expression-many test in let y = block-many body in omega (arith, a, s, x, y)
  statement-many (statement at (Repeat body test)) =
      let s = many-scope (block_events body ++ events_of test) in
      let a = many-append (block_events body) (events_of test) in
      let x = expression-many test in let y = block-many body in omega (arith, a, s, x, y)
  statement-many (statement at (For v bounds body)) =
      let a = many-append (list_events bounds) (scope (declares v ++ block_events body)) in
      let s = many-scope (declares v ++ block_events body) in
      let x = list-many bounds in let y = block-many body in omega (arith, a, s, x, y)
  statement-many (statement at (Do body)) =
      let s = many-scope (block_events body) in let y = block-many body in omega (arith, s, y)
  statement-many (statement at Break) = omega arith
  statement-many (statement at Finish) = omega arith
  statement-many (statement at (Return e)) = let x = expression-many e in omega (arith, x)
  statement-many (statement at (Perform e)) = let x = expression-many e in omega (arith, x)

  block-many : (ss : Statements) → many (block_events ss) ≤ (typed_block_size ss).nodes
  block-many done = omega arith
  block-many (and_then s ss) =
      let a = many-append (doing_events s) (block_events ss) in
      let x = statement-many s in let y = block-many ss in omega (arith, a, x, y)

body-many : (b : Body) → many (body_events b) ≤ (body_size b).nodes
body-many b =
    let a = many-append (declares_all b.parameters) (block_events b.body) in
    let n = names-many b.parameters in
    let x = block-many b.body in omega (arith, a, n, x)

-- frames

rounded-most : (n a : ℕ) → 1 ≤ a → rounded n a ≤ n + (a - 1)
rounded-most n a h = omega (arith, h)

module _ (types : List TypeForm) (are : AreTypes types) where
  aligned-most : (t : TypeId) → (1 ≤ unwrap_or (align_of types t) 1) × (unwrap_or (align_of types t) 1 ≤ 8)
  aligned-most t = by (measure_of types t) (within types are t)
    where
      by : (o : Option Measure) → ((m : Measure) → o ≡ Some m → Within m) →
          (1 ≤ unwrap_or (for_some o (λ m. Some m.align)) 1) × (unwrap_or (for_some o (λ m. Some m.align)) 1 ≤ 8)
      by None h = (omega arith, omega arith)
      by (Some m) h = ((h m refl).1, (h m refl).2)

  framed-most : (placed : List ℕ) (ts : List TypeId) (next offset : ℕ) →
      (framed types placed next offset ts).size ≤ offset + 67108872 * length ts + 16
  framed-most placed [] next offset = let h = rounded-most offset 16 (omega arith) in omega (arith, h)
  framed-most placed (t ∷ ts) next offset = by (is_aggregate types t || has next placed) (λ o. framed-most placed ts (suc next) o)
    where
      at : ℕ
      at = rounded offset (unwrap_or (align_of types t) 1)

      by : (b : Bool) → ((o : ℕ) → (framed types placed (suc next) o ts).size ≤ o + 67108872 * length ts + 16) →
          (if b then with_home (in_frame at) (framed types placed (suc next) (at + bytes_at types t) ts)
          else with_home by_value (framed types placed (suc next) offset ts)).size ≤ offset + 67108872 * length (t ∷ ts) + 16
      by true more =
          let a = aligned-most t in
          let least = a.0 in let most = a.1 in
          let r = rounded-most offset (unwrap_or (align_of types t) 1) least in
          let s = sized types are t in
          let m = more (at + bytes_at types t) in omega (arith, most, least, r, s, m)
      by false more = let m = more offset in omega (arith, m)

  pub frame-small : (b : Body) → (body_size b).nodes ≤ 131072 → (frame_of types b).size < 2 ^ 63
  frame-small b few =
      let m = framed-most (taken (body_events b) [] [] 0) (declared_in (body_events b)) 0 0 in
      let n = body-many b in omega (arith, m, n, few)
