-- Statements in order, and what stands behind them.
use Rattle.std.proofs.Common.{◌≡◌, ℕ, ◌<◌, ◌≤◌, Bool, true, false, List, [], ◌∷◌, ◌++◌, length, take, drop, append_assoc, append-nil}
use Rattle.std.proofs.Common.{Option, Some, None, refl, sym, ap, ◌∙◌, subst, arith, slice_get}
use Rattle.std.proofs.lemmas.List.{length-append}
use Rattle.tl_base.specs.declared.ids.TermId.{TermId}
use Rattle.tl_base.specs.declared.ids.TypeId.{TypeId}
use Rattle.terra_term.specs.declared.lists.TypedName.{TypedName}
use Rattle.terra_term.specs.Planted.{typed_trees, typed_doing_in, typed_block_at}
use Rattle.terra_term.specs.WellTyped.{Scope, with_names, after_one, after_all, one_typed, all_typed}
use Rattle.exotype.specs.World.{StageState}
use Rattle.check_model.specs.declared.site.Site.{Site}
use Rattle.check_model.specs.declared.end.PartEnd.{PartEnd}
use Rattle.check_model.specs.declared.end.PartEnd.TheVariants as ends
use Rattle.check_model.specs.Typing.{TypingState, cut_to}
use Rattle.check_model.specs.Plans.{BodyPlan, on_stated}
use Rattle.check_model.specs.Expressions.{statements}
use Rattle.check_sound.specs.Sound.{foreseen, IsSound, AreStatements}
use Rattle.check_sound.specs.Growing.{Leads}
use Rattle.check_sound.proofs.Leading.{leads-itself, leads-twice, Moves, moves-same, moves-twice}
use Rattle.check_sound.proofs.Grows.{Grows, AllBelow, all-below, block-same}
use Rattle.check_sound.proofs.Worlds.{block-grows, fair-of, any-grows, statements-grow}
use Rattle.check_sound.proofs.Running.{AllThere, scope_of, Did, Fits, ResultThere, where_it_stands, Holds, LeavesStated}
use Rattle.check_sound.proofs.Combining.{In, Step, Refuses, all-there, sees}
use Rattle.check_sound.proofs.Scopes.{names-append, drop-append, take-front, there-append, after-snoc, typed-snoc}

-- ---- more variables

-- a state with more variables
pub record More (b : ℕ) (s : Scope) (w v : TypingState) (more : List TypedName) : Type 0 where
  pub inside : In b (with_names more s) v
  pub grows : Grows w.stage v.stage
  pub moves : Moves w v
  pub variables : v.variables ≡ w.variables ++ more
  pub names : AllThere v.stage more

pub more-to : (b : ℕ) (s : Scope) (w v : TypingState) (more : List TypedName) → In b s w → IsSound v.stage →
    Leads w.stage v.stage →
    v.variables ≡ w.variables ++ more → AllThere v.stage more → More b s w v more
more-to b s w v more i sound g e there =
    let shape : drop b v.variables ≡ drop b w.variables ++ more = ap (λ (l : List TypedName). drop b l) e ∙
    drop-append b w.variables more i.base in
    record {
      inside = record {
        sound = sound;
        base = subst (λ (l : List TypedName). b ≤ length l) (sym e)
            (omega (arith, i.base, length-append w.variables more));
        scope = ap (λ (l : List TypedName). with_names l []) shape ∙
            (names-append (drop b w.variables) more [] ∙ ap (with_names more) i.scope);
        names = subst (λ (l : List TypedName). AllThere v.stage l) (sym shape)
            (there-append v.stage (drop b w.variables) more
            (all-there w.stage v.stage i.sound sound g.grows (drop b w.variables) i.names) there);
      };
      grows = g.grows;
      moves = record { leads = g; front = (more, e) };
      variables = e;
      names = there;
    }

-- and one in which they are gone again
pub cut-step : (b : ℕ) (s : Scope) (w v : TypingState) (more : List TypedName) → In b s w → More b s w v more →
    Step b s w (cut_to v (length w.variables))
cut-step b s w v more i m =
    let same : take (length w.variables) v.variables ≡ w.variables =
    ap (λ (l : List TypedName). take (length w.variables) l) m.variables ∙ take-front w.variables more in
    record {
      inside = record {
        sound = m.inside.sound;
        base = subst (λ (l : List TypedName). b ≤ length l) (sym same) i.base;
        scope = ap (λ (l : List TypedName). with_names (drop b l) []) same ∙ i.scope;
        names = subst (λ (l : List TypedName). AllThere v.stage (drop b l)) (sym same)
            (all-there w.stage v.stage i.sound m.inside.sound m.grows (drop b w.variables) i.names);
      };
      grows = m.grows;
      moves = moves-same w (cut_to v (length w.variables)) m.moves.leads same;
      same = same;
    }

-- ---- statements in order

-- statements that were typed at a site, which leave these names
pub record Block (site : Site) (s : Scope) (v : StageState) (ids : List TermId) (more : List TypedName)
    (result : Option TypeId) : Type 0 where
  pub below : AllBelow (length v.store.typed) ids
  pub it : (of : TypeId) → Fits site.in_let result of →
      all_typed (foreseen v) (where_it_stands of site) s (typed_block_at (typed_trees v.store.typed) ids) ≡ true
  pub after : after_all (typed_block_at (typed_trees v.store.typed) ids) s ≡ with_names more s
  pub there : ResultThere site.in_let v result
  pub kept : (r : TypeId) → site.result ≡ Some r → result ≡ Some r

pub result-grows : (w v : StageState) → IsSound w → IsSound v → Grows w v → (c : Bool) (o : Option TypeId) →
    ResultThere c w o → ResultThere c v o
result-grows w v a b g true o h = tt
result-grows w v a b g false o h = any-grows w v (fair-of w a) (fair-of v b) g o h

pub block-on : (site : Site) (s : Scope) (w v : StageState) → IsSound w → IsSound v → Grows w v →
    (ids : List TermId) (more : List TypedName)
    (result : Option TypeId) → Block site s w ids more result → Block site s v ids more result
block-on site s w v a b g ids more result h =
    let same = block-same w.store.typed v.store.typed g.typed_nodes ids h.below in
    record {
      below = all-below w.store.typed v.store.typed g.typed_nodes ids h.below;
      it = λ of f. ap (all_typed (foreseen v) (where_it_stands of site) s) same ∙
          block-grows w v (fair-of w a) (fair-of v b) g (where_it_stands of site) s
          (typed_block_at (typed_trees w.store.typed) ids) (h.it of f);
      after = ap (λ z. after_all z s) same ∙ h.after;
      there = result-grows w v a b g site.in_let result h.there;
      kept = h.kept;
    }

-- a result type that is known earlier is the one that is known later
fits-earlier : (c : Bool) (o p : Option TypeId) (of : TypeId) → ((r : TypeId) → o ≡ Some r → p ≡ Some r) →
    Fits c p of → Fits c o of
fits-earlier true o p of k h = tt
fits-earlier false None p of k h = tt
fits-earlier false (Some r) p of k h = subst (λ z. Fits false z of) (k r refl) h

pub fits-kept : (site : Site) (o p : Option TypeId) (of : TypeId) → ((r : TypeId) → o ≡ Some r → p ≡ Some r) →
    Fits site.in_let p of → Fits site.in_let o of
fits-kept site o p of k h = fits-earlier site.in_let o p of k h

below-snoc : (n : ℕ) (ids : List TermId) (id : TermId) → AllBelow n ids → id.0 < n → AllBelow n (ids ++ id ∷ [])
below-snoc n [] id h k = (k, tt)
below-snoc n (x ∷ ids) id h k = (h.0, below-snoc n ids id h.1 k)

module _ (q : PartEnd → TypingState → Type 0) (b : ℕ) (s : Scope) where
  -- what statements leave
  abbrev pub LeavesBlock : Site → TypingState → (List TermId → Option TypeId → BodyPlan) → Type 0
  LeavesBlock site w go =
      (ids : List TermId) (result : Option TypeId) (more : List TypedName) (v : TypingState) → More b s w v more →
      Block site s v.stage ids more result →
      Holds q (go ids result) v

  snoc-block : (site : Site) (w v x : TypingState) (ids : List TermId) (more : List TypedName)
      (result : Option TypeId) → In b s w → site.base ≡ b →
      More b s w v more → Block site s v.stage ids more result → (id : TermId) (next : Option TypeId) →
      IsSound x.stage → Moves v x →
      (d : Did (record site { result = result }) v x id next) →
      More b s w x (more ++ d.more) × Block site s x.stage (ids ++ id ∷ []) (more ++ d.more) next
  snoc-block site w v x ids more result i base m h id next sound g d =
      let earlier = block-on site s v.stage x.stage m.inside.sound sound g.leads.grows ids more result h in
      let items = typed_trees x.stage.store.typed in
      let scope : scope_of site.base v ≡ with_names more s = ap (λ n. scope_of n v) base ∙ m.inside.scope in
      let here : scope_of site.base v ≡ after_all (typed_block_at items ids) s = scope ∙ sym earlier.after in (
        more-to b s w x (more ++ d.more) i sound (leads-twice w.stage v.stage x.stage m.moves.leads g.leads)
            (d.variables ∙ (ap (λ (l : List TypedName). l ++ d.more) m.variables ∙ append_assoc w.variables more d.more))
            (there-append x.stage more d.more (all-there v.stage x.stage m.inside.sound sound g.leads.grows more m.names) d.names),
        record {
          below = below-snoc (length x.stage.store.typed) ids id earlier.below d.below;
          it = λ of f. typed-snoc (foreseen x.stage) (where_it_stands of site) items ids id s
              (earlier.it of (fits-kept site result next of d.kept f))
              (subst (λ z. one_typed (foreseen x.stage) (where_it_stands of site) z
              (typed_doing_in (slice_get items id.0)) ≡ true) here (d.it of f));
          after = after-snoc items ids id s ∙
              (ap (after_one (typed_doing_in (slice_get items id.0))) (sym here) ∙
              (d.after ∙ (ap (with_names d.more) scope ∙ sym (names-append more d.more s))));
          there = d.there;
          kept = λ r e. d.kept r (h.kept r e);
        },
      )

  on-next : (site : Site) (base : site.base ≡ b) (w : TypingState) (i : In b s w) → Refuses q w →
      (ts : List TermId) (ids : List TermId)
      (more : List TypedName) (result : Option TypeId) (v : TypingState) (go : List TermId → Option TypeId → BodyPlan) →
      More b s w v more → Block site s v.stage ids more result →
      ((ids2 : List TermId) (more2 : List TypedName) (next : Option TypeId) (x : TypingState) → Grows v.stage x.stage →
      More b s w x more2 →
      Block site s x.stage ids2 more2 next → Holds q (statements ts (record site { result = next }) ids2 go) x) →
      (z : PartEnd) (x : TypingState) → IsSound x.stage → Moves v x →
      LeavesStated (record site { result = result }) v z x →
      Holds q (on_stated z (λ id next. statements ts (record site { result = next }) (ids ++ id ∷ []) go)) x
  on-next site base w i r ts ids more result v go m h k (ends.Stated id next) x sound g d =
      let both = snoc-block site w v x ids more result i base m h id next sound g d in
      k (ids ++ id ∷ []) (more ++ d.more) next x g.leads.grows both.0 both.1
  on-next site base w i r ts ids more result v go m h k (ends.Refused why) x sound g d =
      r why x sound (moves-twice w v x m.moves g)
  on-next site base w i r ts ids more result v go m h k (ends.Made z) x sound g d = absurd d
  on-next site base w i r ts ids more result v go m h k (ends.Answered a) x sound g d = absurd d

  statements-by : (site : Site) (base : site.base ≡ b) (w : TypingState) (i : In b s w) → Refuses q w →
      (ts : List TermId) (ids : List TermId)
      (more : List TypedName) (result : Option TypeId) (v : TypingState)
      (go : List TermId → Option TypeId → BodyPlan) → AreStatements v.stage ts →
      More b s w v more → Block site s v.stage ids more result → LeavesBlock site w go →
      Holds q (statements ts (record site { result = result }) ids go) v
  statements-by site base w i r [] ids more result v go are m h k = k ids result more v m h
  statements-by site base w i r (t ∷ ts) ids more result v go are m h k = (
    m.inside.sound,
    (
      (
        sees q b (with_names more s) v m.inside (record site { result = result }) base,
        (are.0, h.there),
      ),
      on-next site base w i r ts ids more result v go m h
          (λ ids2 more2 next x g m2 h2. statements-by site base w i r ts ids2 more2 next x go
          (statements-grow v.stage x.stage (fair-of v.stage m.inside.sound) (fair-of x.stage m2.inside.sound) g ts are.1)
          m2 h2 k),
    ),
  )

  -- statements at a site, from here on
  pub holds-statements : (site : Site) → site.base ≡ b → (w : TypingState) (i : In b s w) → Refuses q w →
      ResultThere site.in_let w.stage site.result →
      (ts : List TermId) (go : List TermId → Option TypeId → BodyPlan) → AreStatements w.stage ts →
      LeavesBlock site w go →
      Holds q (statements ts site [] go) w
  holds-statements site base w i r there ts go are k =
      statements-by site base w i r ts [] [] site.result w go are
      (more-to b s w w [] i i.sound (leads-itself w.stage) (sym (append-nil w.variables)) tt)
      (record { below = tt; it = λ of f. refl; after = refl; there = there; kept = λ x e. e }) k
