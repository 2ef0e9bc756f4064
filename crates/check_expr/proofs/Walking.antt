-- A walk through a typed quote: the first wrong use of what is ahead is that of the whole.
use Rattle.std.proofs.Common.{◌≡◌, ℕ, true, false, List, [], ◌∷◌, ◌++◌, refl, subst, sym, ap, ◌∙◌, Option, Some, None}
use Rattle.std.proofs.lemmas.List.{append-nil}
use Rattle.std.specs.Prelude.{is_some}
use Rattle.tl_base.specs.declared.place.Place.{Place}
use Rattle.tl_base.specs.declared.ids.TermId.{TermId}
use Rattle.terra_term.specs.declared.refusal.RefusalKind.{RefusalKind}
use Rattle.terra_term.specs.Events.{Event, events_of}
use Rattle.terra_term.specs.Planted.{typed_at, typed_trees}
use Rattle.check_model.specs.Expressions.{wrong_in, first_wrong}
use Rattle.check_model.specs.Typing.{TypingState}
use Rattle.check_expr.specs.declared.quoted.Ahead.{Ahead}
use Rattle.check_expr.specs.declared.quoted.Scopes.{Scopes}
use Rattle.check_expr.specs.Quoted.{names_in, names_ahead, ahead_names, wrong_from}
use Rattle.check_expr.proofs.Ahead.{ahead_more}
use Rattle.check_expr.proofs.Naming.{wrong_named}

-- the events of a typed term
abbrev pub all_events : TypingState → TermId → List Event
all_events w made = events_of (typed_at (typed_trees w.stage.store.typed) made)

-- as the walk begins, where the world is known by its parts
pub begun : (v w : TypingState) (base : ℕ) (s : Scopes) (made : TermId) (before now : List Ahead)
    → v ≡ w → s.declared.items ≡ [] → s.marks.items ≡ [] → before ≡ []
    → names_ahead v.stage now ≡ names_in (all_events v made) ++ names_ahead v.stage before
    → wrong_from w base s (names_ahead w.stage now) ≡ wrong_in w base [] [] (all_events w made)
begun v w base s made before now same declared marks none is =
    subst (λ (u : TypingState). wrong_from u base s (names_ahead u.stage now) ≡ wrong_in u base [] [] (all_events u made)) same
    (rw (declared, marks)
    (ap (wrong_in v base [] []) (is ∙ ap (λ (b : List Ahead). names_in (all_events v made) ++ names_ahead v.stage b) none
    ∙ append-nil (names_in (all_events v made)))
    ∙ wrong_named v base [] [] (all_events v made)))

-- the next one is taken, and what is ahead goes on with it
pub taken : (w : TypingState) (base : ℕ) (s : Scopes) (now rest : List Ahead) (next : Ahead)
    → now ≡ rest ++ next ∷ []
    → wrong_from w base s (ahead_names w.stage next ++ names_ahead w.stage rest) ≡ wrong_from w base s (names_ahead w.stage now)
taken w base s now rest next is =
    ap (wrong_from w base s) (sym (ap (names_ahead w.stage) is ∙ ahead_more w.stage rest next))

-- a use that is wrong is the first, and without one the others are looked at
pub is_first : (wrong others : Option (RefusalKind × Place)) → true ≡ is_some wrong → wrong ≡ first_wrong wrong others
is_first (Some why) others is = refl
is_first None others is = cc

pub is_later : (wrong others : Option (RefusalKind × Place)) → false ≡ is_some wrong → others ≡ first_wrong wrong others
is_later (Some why) others is = cc
is_later None others is = refl

-- nothing is ahead
pub nothing_left : (w : TypingState) (base : ℕ) (s : Scopes) (now : List Ahead)
    → now ≡ [] → None ≡ wrong_from w base s (names_ahead w.stage now)
nothing_left w base s now none = sym (ap (λ (rest : List Ahead). wrong_from w base s (names_ahead w.stage rest)) none)
