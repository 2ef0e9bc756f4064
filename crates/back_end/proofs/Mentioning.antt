-- Plain terms call only the functions that they mention.
use Rattle.std.proofs.Common.{◌≡◌, ℕ, true, List, [], ◌∷◌, ◌++◌, length}
use Rattle.std.proofs.lemmas.Bool.{and_parts}
use Rattle.tl_base.specs.declared.place.Place.{Place}
use Rattle.tl_base.specs.declared.ids.FnId.{FnId}
use Rattle.terra_term.specs.declared.operators.Operation.{Operation}
use Rattle.terra_term.specs.declared.operators.Operation.TheVariants as operations
use Rattle.terra_term.specs.TypedTerms.{Expression, typed, Constant', Variable, Global, Operate, Both, Either, Dereference, Select, Follow}
use Rattle.terra_term.specs.TypedTerms.{Element, Index, Address, Decay, Let, Expressions, no_more, then_one, Statement, statement, Var}
use Rattle.terra_term.specs.TypedTerms.{Assign, If, IfElse, While, Repeat, For, Do, Break, Finish, Return, Perform, Statements, done}
use Rattle.terra_term.specs.TypedTerms.{and_then}
use Rattle.terra_term.specs.Events.{Event, Opens, Closes, Declares, Takes, Uses, Mentions, events_of, list_events, doing_events}
use Rattle.terra_term.specs.Events.{block_events, operation_events, takes, declares, declares_all, scope}
use Rattle.terra_meaning.specs.Meaning.{types_of}
use Rattle.tac_lower.proofs.Typing.{no, three}
use Rattle.back_end.specs.Plain.{is_plain_operation, is_plain, are_plain, one_plain, all_plain}
use Rattle.back_end.proofs.Naming.{OpCalls, Calls, CallsAll, CallsOne, CallsBlock}

module _ (Mentioned : FnId → Type 0) where
  -- each function that is mentioned is one of these
  abbrev pub AllMentioned : List Event → Type 0
  AllMentioned [] = Unit {0}
  AllMentioned (Mentions at f ∷ es) = Mentioned f × AllMentioned es
  AllMentioned (Opens ∷ es) = AllMentioned es
  AllMentioned (Closes ∷ es) = AllMentioned es
  AllMentioned (Declares x t ∷ es) = AllMentioned es
  AllMentioned (Takes x ∷ es) = AllMentioned es
  AllMentioned (Uses at x t ∷ es) = AllMentioned es

  parts : (a b : List Event) → AllMentioned (a ++ b) → AllMentioned a × AllMentioned b
  parts [] b h = (tt, h)
  parts (Mentions at f ∷ a) b h = let p = parts a b h.1 in ((h.0, p.0), p.1)
  parts (Opens ∷ a) b h = parts a b h
  parts (Closes ∷ a) b h = parts a b h
  parts (Declares x t ∷ a) b h = parts a b h
  parts (Takes x ∷ a) b h = parts a b h
  parts (Uses at x t ∷ a) b h = parts a b h

  inside : (es : List Event) → AllMentioned (scope es) → AllMentioned es
  inside es h = (parts es (Closes ∷ []) h).0

  -- with any number of arguments
  abbrev pub Any : FnId → ℕ → Type 0
  Any f n = Mentioned f

  op-calls : (at : Place) (op : Operation) (n : ℕ) → is_plain_operation op ≡ true → AllMentioned (operation_events at op) → OpCalls Any op n
  op-calls at operations.Negate n p h = tt
  op-calls at operations.Not n p h = tt
  op-calls at (operations.Binary op) n p h = tt
  op-calls at operations.StepForward n p h = tt
  op-calls at operations.StepBack n p h = tt
  op-calls at operations.Difference n p h = tt
  op-calls at operations.Convert n p h = tt
  op-calls at (operations.Extract offset) n p h = tt
  op-calls at (operations.Call f) n p h = h.0
  op-calls at (operations.Primitive q) n p h = tt
  op-calls at operations.CallValue n p h = absurd (no p)
  op-calls at (operations.Construct offsets) n p h = tt

  mutual
    pub calls : (e : Expression) → is_plain e ≡ true → AllMentioned (events_of e) → Calls Any e
    calls (typed at of (Constant' k)) p h = tt
    calls (typed at of (Variable x)) p h = tt
    calls (typed at of (Global a)) p h = tt
    calls (typed at of (Operate op es)) p h =
        let q = and_parts (is_plain_operation op) (are_plain es) p in
        let m = parts (operation_events at op) (list_events es) h in
        (calls-all es q.1 m.1, op-calls at op (length (types_of es)) q.0 m.0)
    calls (typed at of (Both a b)) p h =
        let q = and_parts (is_plain a) (is_plain b) p in
        let m = parts (events_of a) (events_of b) h in (calls a q.0 m.0, calls b q.1 m.1)
    calls (typed at of (Either a b)) p h =
        let q = and_parts (is_plain a) (is_plain b) p in
        let m = parts (events_of a) (events_of b) h in (calls a q.0 m.0, calls b q.1 m.1)
    calls (typed at of (Dereference e)) p h = calls e p h
    calls (typed at of (Select offset e)) p h = calls e p h
    calls (typed at of (Follow offset e)) p h = calls e p h
    calls (typed at of (Element a i)) p h =
        let q = and_parts (is_plain a) (is_plain i) p in
        let m = parts (events_of a) (events_of i) h in (calls a q.0 m.0, calls i q.1 m.1)
    calls (typed at of (Index a i)) p h =
        let q = and_parts (is_plain a) (is_plain i) p in
        let m = parts (events_of a) (events_of i) h in (calls a q.0 m.0, calls i q.1 m.1)
    calls (typed at of (Address e)) p h = calls e p (parts (takes e) (events_of e) h).1
    calls (typed at of (Decay e)) p h = calls e p h
    calls (typed at of (Let block e)) p h =
        let q = and_parts (all_plain block) (is_plain e) p in
        let m = parts (block_events block) (events_of e) (inside (block_events block ++ events_of e) h) in
        (calls-block block q.0 m.0, calls e q.1 m.1)

    calls-all : (es : Expressions) → are_plain es ≡ true → AllMentioned (list_events es) → CallsAll Any es
    calls-all no_more p h = tt
    calls-all (then_one e es) p h =
        let q = and_parts (is_plain e) (are_plain es) p in
        let m = parts (events_of e) (list_events es) h in (calls e q.0 m.0, calls-all es q.1 m.1)

    calls-one : (st : Statement) → one_plain st ≡ true → AllMentioned (doing_events st) → CallsOne Any st
    calls-one (statement at (Var xs values)) p h = calls-all values p (parts (list_events values) (declares_all xs) h).0
    calls-one (statement at (Assign places values)) p h =
        let q = and_parts (are_plain values) (are_plain places) p in
        let m = parts (list_events values) (list_events places) h in (calls-all values q.0 m.0, calls-all places q.1 m.1)
    calls-one (statement at (If test block)) p h =
        let q = and_parts (is_plain test) (all_plain block) p in
        let m = parts (events_of test) (scope (block_events block)) h in
        (calls test q.0 m.0, calls-block block q.1 (inside (block_events block) m.1))
    calls-one (statement at (IfElse test block other)) p h =
        let q = three (is_plain test) (all_plain block) (all_plain other) p in
        let m = parts (events_of test ++ scope (block_events block)) (scope (block_events other)) h in
        let o = parts (events_of test) (scope (block_events block)) m.0 in (
          calls test q.0 o.0,
          calls-block block q.1 (inside (block_events block) o.1),
          calls-block other q.2 (inside (block_events other) m.1),
        )
    calls-one (statement at (While test body)) p h =
        let q = and_parts (is_plain test) (all_plain body) p in
        let m = parts (events_of test) (scope (block_events body)) h in
        (calls test q.0 m.0, calls-block body q.1 (inside (block_events body) m.1))
    calls-one (statement at (Repeat body test)) p h =
        let q = and_parts (all_plain body) (is_plain test) p in
        let m = parts (block_events body) (events_of test) (inside (block_events body ++ events_of test) h) in
        (calls-block body q.0 m.0, calls test q.1 m.1)
    calls-one (statement at (For x bounds body)) p h =
        let q = and_parts (are_plain bounds) (all_plain body) p in
        let m = parts (list_events bounds) (scope (declares x ++ block_events body)) h in
        let o = parts (declares x) (block_events body) (inside (declares x ++ block_events body) m.1) in
        (calls-all bounds q.0 m.0, calls-block body q.1 o.1)
    calls-one (statement at (Do body)) p h = calls-block body p (inside (block_events body) h)
    calls-one (statement at Break) p h = tt
    calls-one (statement at Finish) p h = tt
    calls-one (statement at (Return e)) p h = calls e p h
    calls-one (statement at (Perform e)) p h = calls e p h

    pub calls-block : (ss : Statements) → all_plain ss ≡ true → AllMentioned (block_events ss) → CallsBlock Any ss
    calls-block done p h = tt
    calls-block (and_then st ss) p h =
        let q = and_parts (one_plain st) (all_plain ss) p in
        let m = parts (doing_events st) (block_events ss) h in (calls-one st q.0 m.0, calls-block ss q.1 m.1)
