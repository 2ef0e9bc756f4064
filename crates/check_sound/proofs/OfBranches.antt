-- Statements with blocks leave typed statements.
use Rattle.std.proofs.Common.{◌≡◌, ℕ, true, List, [], length, Option, Some, None, refl, sym, ap, ◌∙◌, subst}
use Rattle.std.proofs.lemmas.Bool.{and_from}
use Rattle.tl_base.specs.declared.place.Place.{Place}
use Rattle.tl_base.specs.declared.ids.TermId.{TermId}
use Rattle.tl_base.specs.declared.ids.TypeId.{TypeId}
use Rattle.terra_types.specs.Opening.{boolean}
use Rattle.terra_term.specs.declared.lists.TypedName.{TypedName}
use Rattle.terra_term.specs.declared.typed.TypedStatement.TheVariants as made_kinds
use Rattle.terra_term.specs.Planted.{typed_trees, typed_at, typed_block_at}
use Rattle.terra_term.specs.TypedTerms as typed
use Rattle.terra_term.specs.TypedTerms.{type_of, is_place}
use Rattle.terra_term.specs.WellTyped.{Scope, same, is_placed, is_typed, with_names}
use Rattle.exotype.specs.World.{StageState}
use Rattle.check_model.specs.declared.site.Site.{Site}
use Rattle.check_model.specs.declared.end.PartEnd.{PartEnd}
use Rattle.check_model.specs.declared.made.Made.{Made}
use Rattle.check_model.specs.Typing.{TypingState, cut_to}
use Rattle.check_model.specs.Plans.{states, leaving}
use Rattle.check_model.specs.Statements.{block, in_loop, condition, repeat_plan, else_plan}
use Rattle.check_sound.specs.Sound.{foreseen, AreStatements, AreStatementsIfAny, IsSound}
use Rattle.check_sound.proofs.Grows.{Grows}
use Rattle.check_sound.proofs.Worlds.{fair-of, statements-grow}
use Rattle.check_sound.proofs.Running.{Known, Holds, ResultThere, where_it_stands}
use Rattle.check_sound.proofs.Combining.{In, Step, Refuses, step-itself, step-twice, refuses-on, still}
use Rattle.check_sound.proofs.Blocks.{More, Block, cut-step, block-on, fits-kept, holds-statements}
use Rattle.check_sound.proofs.OfExpressions.{more-on}
use Rattle.check_sound.proofs.Stating.{States, step-more, holds-states, holds-block, holds-condition}
use Rattle.check_sound.proofs.OfAssigns.{there-on}

module _ (q : PartEnd → TypingState → Type 0) (b : ℕ) (s : Scope) (site : Site) (base : site.base ≡ b) where
  -- ---- `if`, `while`, `do` and `repeat`

  holds-else : (w0 w : TypingState) (i0 : In b s w0) (i : In b s w) (p0 : Step b s w0 w) (r : Refuses q w)
      (o : Option (List TermId)) (m : Made) (stats : List TermId)
      (more : List TypedName) (result : Option TypeId) (at : Place) → States q b s site base w0 → is_placed at ≡ true →
      Known s w.stage m → same m.of boolean ≡ true →
      Block site s w.stage stats more result → AreStatementsIfAny w.stage o →
      Holds q (else_plan o m stats result at site) w
  holds-else w0 w i0 i p0 r None m stats more result at k placed known truth h are =
      holds-states q b s site base w0 w [] (step-more w0 w p0) i0 at (made_kinds.If m.id stats None)
      (typed.If (typed_at (typed_trees w.stage.store.typed) m.id)
      (typed_block_at (typed_trees w.stage.store.typed) stats)) result
      (record {
        planted = refl;
        after = refl;
        it = λ of f. and_from _ _ (and_from _ _ (and_from _ _ placed (known.it _))
            (ap (λ t. same t boolean) known.of ∙ truth)) (h.it of f);
        kept = h.kept;
        there = h.there;
      }) k
  holds-else w0 w i0 i p0 r (Some others) m stats more result at k placed known truth h are =
      holds-block q b s site base (record site { result = result }) base w i r h.there others
      (λ ids last. states at (made_kinds.If m.id stats (Some ids)) last) are
      (λ ids last more2 v p g.
      let now = still b s w v i p m known in
      let first = block-on site s w.stage v.stage i.sound p.inside.sound p.grows stats more result h in
      let whole = step-twice b s w0 w v p0 p in
      holds-states q b s site base w0 v [] (step-more w0 v whole) i0 at (made_kinds.If m.id stats (Some ids))
      (typed.IfElse (typed_at (typed_trees v.stage.store.typed) m.id)
      (typed_block_at (typed_trees v.stage.store.typed) stats)
      (typed_block_at (typed_trees v.stage.store.typed) ids)) last
      (record {
        planted = refl;
        after = refl;
        it = λ of f. and_from _ _ (and_from _ _ (and_from _ _ (and_from _ _ placed (now.it _))
            (ap (λ t. same t boolean) now.of ∙ truth))
            (first.it of (fits-kept site result last of g.kept f))) (g.it of f);
        kept = λ x e. g.kept x (h.kept x e);
        there = g.there;
      }) k)

  pub holds-choice : (w : TypingState) (i : In b s w) (r : Refuses q w) (test : TermId) (body : List TermId)
      (o : Option (List TermId)) (at : Place) →
      States q b s site base w → is_placed at ≡ true → ResultThere site.in_let w.stage site.result →
      AreStatements w.stage body → AreStatementsIfAny w.stage o →
      Holds q (condition test site (λ m. block body site (λ stats result. else_plan o m stats result at site))) w
  holds-choice w i r test body o at k placed there are others =
      holds-condition q b s site base w i r test (λ m. block body site
      (λ stats result. else_plan o m stats result at site))
      (λ m v p known truth. holds-block q b s site base site base v p.inside (refuses-on q w v r p.moves)
      (there-on q b s site base w v i p there) body
      (λ stats result. else_plan o m stats result at site)
      (statements-grow w.stage v.stage (fair-of w.stage i.sound) (fair-of v.stage p.inside.sound) p.grows body are)
      (λ ids result more x o2 h.
      let whole = step-twice b s w v x p o2 in
      holds-else w x i o2.inside whole (refuses-on q w x r whole.moves) o m ids more result at k placed
      (still b s v x p.inside o2 m known) truth h
      (optional w.stage x.stage i.sound o2.inside.sound whole.grows o others)))
    where
      optional : (w v : StageState) → IsSound w → IsSound v → Grows w v → (o : Option (List TermId)) →
          AreStatementsIfAny w o → AreStatementsIfAny v o
      optional w v a c g None h = tt
      optional w v a c g (Some ts) h = statements-grow w v (fair-of w a) (fair-of v c) g ts h

  pub holds-while : (w : TypingState) (i : In b s w) (r : Refuses q w) (test : TermId) (body : List TermId)
      (at : Place) →
      States q b s site base w → is_placed at ≡ true → ResultThere site.in_let w.stage site.result →
      AreStatements w.stage body →
      Holds q (condition test site (λ m. block body (in_loop site)
      (λ stats result. states at (made_kinds.While m.id stats) result))) w
  holds-while w i r test body at k placed there are =
      holds-condition q b s site base w i r test (λ m. block body (in_loop site)
      (λ stats result. states at (made_kinds.While m.id stats) result))
      (λ m v p known truth. holds-block q b s site base (in_loop site) base v p.inside (refuses-on q w v r p.moves)
      (there-on q b s site base w v i p there) body
      (λ stats result. states at (made_kinds.While m.id stats) result)
      (statements-grow w.stage v.stage (fair-of w.stage i.sound) (fair-of v.stage p.inside.sound) p.grows body are)
      (λ ids result more x o h.
      let now = still b s v x p.inside o m known in
      holds-states q b s site base w x [] (step-more w x (step-twice b s w v x p o)) i at (made_kinds.While m.id ids)
      (typed.While (typed_at (typed_trees x.stage.store.typed) m.id)
      (typed_block_at (typed_trees x.stage.store.typed) ids)) result
      (record {
        planted = refl;
        after = refl;
        it = λ of f. and_from _ _ (and_from _ _ (and_from _ _ placed (now.it _))
            (ap (λ t. same t boolean) now.of ∙ truth)) (h.it of f);
        kept = h.kept;
        there = h.there;
      }) k))

  pub holds-do : (w : TypingState) (i : In b s w) (r : Refuses q w) (body : List TermId) (at : Place) →
      States q b s site base w → is_placed at ≡ true →
      ResultThere site.in_let w.stage site.result → AreStatements w.stage body →
      Holds q (block body site (λ stats result. states at (made_kinds.Do stats) result)) w
  holds-do w i r body at k placed there are =
      holds-block q b s site base site base w i r there body (λ stats result. states at (made_kinds.Do stats) result)
      are
      (λ ids result more x o h. holds-states q b s site base w x [] (step-more w x o) i at (made_kinds.Do ids)
      (typed.Do (typed_block_at (typed_trees x.stage.store.typed) ids)) result
      (record {
        planted = refl;
        after = refl;
        it = λ of f. and_from _ _ placed (h.it of f);
        kept = h.kept;
        there =
            h.there;
      }) k)

  pub holds-repeat : (w : TypingState) (i : In b s w) (r : Refuses q w) (body : List TermId) (test : TermId)
      (at : Place) → States q b s site base w →
      is_placed at ≡ true → ResultThere site.in_let w.stage site.result → AreStatements w.stage body →
      Holds q (repeat_plan body test at site) w
  holds-repeat w i r body test at k placed there are =
      holds-statements q b s (in_loop site) base w i r there body
      (λ stats result. condition test site (λ m. leaving (length w.variables)
      (states at (made_kinds.Repeat stats m.id) result))) are
      (λ ids result more v m h. holds-condition q b (with_names more s) site base v m.inside
      (refuses-on q w v r m.moves) test
      (λ x. leaving (length w.variables) (states at (made_kinds.Repeat ids x.id) result))
      (λ x y p known truth.
      let later : More b s w y more = more-on w v y y more i m p (step-itself b (with_names more s) y p.inside) in
      let blocked = block-on (in_loop site) s v.stage y.stage m.inside.sound p.inside.sound p.grows ids more result h in
      holds-states q b s site base w (cut_to y (length w.variables)) []
      (step-more w (cut_to y (length w.variables)) (cut-step b s w y more i later)) i at
      (made_kinds.Repeat ids x.id) (typed.Repeat (typed_block_at (typed_trees y.stage.store.typed) ids)
      (typed_at (typed_trees y.stage.store.typed) x.id)) result
      (record {
        planted = refl;
        after = refl;
        it = λ of f. and_from _ _ (and_from _ _ (and_from _ _ placed (blocked.it of f))
            (subst (λ l. is_typed (foreseen y.stage) (where_it_stands of site) l
            (typed_at (typed_trees y.stage.store.typed) x.id) ≡ true) (sym blocked.after)
            (known.it (where_it_stands of site)))) (ap (λ t. same t boolean) known.of ∙ truth);
        kept = blocked.kept;
        there = blocked.there;
      }) k))
