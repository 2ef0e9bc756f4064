-- Calls of methods leave typed terms.
use Rattle.std.proofs.Common.{◌≡◌, ℕ, true, List, [], ◌∷◌, Option, Some, None, refl, sym, ◌∙◌}
use Rattle.std.specs.Prelude.{codes}
use Rattle.tl_base.specs.declared.place.Place.{Place}
use Rattle.tl_base.specs.declared.ids.TermId.{TermId}
use Rattle.tl_base.specs.declared.ids.TextId.{TextId}
use Rattle.tl_base.specs.declared.ids.TypeId.{TypeId}
use Rattle.lua_value.specs.declared.value.Value.{Value}
use Rattle.lua_value.specs.declared.value.Value.TheVariants as values
use Rattle.lua_value.specs.Values.{is_nil}
use Rattle.terra_term.specs.declared.refusal.RefusalKind.TheVariants.{NoMethod, Incomplete, CallbackRaised}
use Rattle.terra_term.specs.WellTyped.{Scope, is_placed}
use Rattle.exotype.specs.World.{StageState}
use Rattle.exotype.specs.Properties.{known_of, with_known}
use Rattle.exotype.specs.declared.property.Property.TheVariants.{Entries, Method}
use Rattle.exotype.specs.declared.property.Known.{Known as Kept}
use Rattle.exotype.specs.declared.property.Known.TheVariants as kept
use Rattle.check_model.specs.declared.site.Site.{Site}
use Rattle.check_model.specs.declared.end.PartEnd.{PartEnd}
use Rattle.check_model.specs.declared.made.Made.{Made}
use Rattle.check_model.specs.Typing.{TypingState}
use Rattle.check_model.specs.Structs.{metamethod, method_at}
use Rattle.check_model.specs.Plans.{BodyPlan, reading, give, refuse, calling, quoting, becoming, in_place, ready, untyped, quotes_of}
use Rattle.check_model.specs.Calls.{call_term}
use Rattle.check_model.specs.Expressions.{keeping, settled_as, settling, asked_method, find_method, by_known, missing_method, call_method}
use Rattle.check_model.specs.Expressions.{method_plan}
use Rattle.check_sound.proofs.Running.{Known, Holds}
use Rattle.check_sound.proofs.Combining.{In, Step, Refuses, step-to, step-itself, step-twice, refuses-on, still, holds-refuse, holds-if}
use Rattle.check_sound.proofs.Asking.{holds-quoting, holds-asking, holds-becoming}
use Rattle.check_sound.proofs.Arguments.{are-untyped, Gives, gives-on, holds-quotes, holds-given}
use Rattle.check_sound.proofs.OfCalls.{holds-term}
use Rattle.check_sound.proofs.Knows.{known-elsewhere}
use Rattle.check_sound.proofs.Settling.{kept_else, kept-leads, kept-sound}

module _ (q : PartEnd → TypingState → Type 0) (b : ℕ) (s : Scope) where
  -- ---- what is kept of methods

  -- of entries is known what was known before
  holds-keeping : (w : TypingState) (i : In b s w) (u : TypeId) (name : TextId) (x : Kept) (rest : BodyPlan) →
      ((v : TypingState) → Step b s w v → Holds q rest v) → Holds q (keeping u name x rest) w
  holds-keeping w i u name x rest k =
      let next = with_known w.stage.kept (Method u name) x in
      let v : TypingState = record w { stage = kept_else w.stage next } in
      let sound = kept-sound w.stage i.sound next (λ t y at.
      i.sound.settled t y (sym (known-elsewhere w.stage.kept.properties (Method u name) (Entries t) x refl) ∙ at))
      in
      k v (step-to b s w v i sound (kept-leads w.stage i.sound next) refl)

  holds-settling : (w : TypingState) (i : In b s w) (u : TypeId) (name : TextId) (x : Kept) (rest : BodyPlan) →
      ((v : TypingState) → Step b s w v → Holds q rest v) → Holds q (settling u name x rest) w
  holds-settling w i u name x rest k = by (known_of w.stage.kept (Method u name))
    where
      by : (c : Kept) → Holds q rest (record w { stage = kept_else w.stage (settled_as c w.stage.kept u name x) })
      by kept.Asked = holds-keeping w i u name x rest k
      by kept.Unasked = k w (step-itself b s w i)
      by (kept.Value y) = k w (step-itself b s w i)
      by (kept.Refused kind) = k w (step-itself b s w i)

  -- what a method leaves that is found
  abbrev Finds : TypingState → (Value → BodyPlan) → Type 0
  Finds w go = (y : Value) (v : TypingState) → Step b s w v → Holds q (go y) v

  finds-on : (w v : TypingState) (go : Value → BodyPlan) → Step b s w v → Finds w go → Finds v go
  finds-on w v go p k y x o = k y x (step-twice b s w v x p o)

  holds-asked : (w : TypingState) (i : In b s w) (r : Refuses q w) (h : Value) (u : TypeId) (name : TextId) (at : Place)
      (site : Site) (go : Value → BodyPlan) → Finds w go →
      Holds q (asked_method h u name at site go) w
  holds-asked w i r h u name at site go k =
      holds-asking q b s w i h (values.TerraType u ∷ values.Text name ∷ []) at
      (λ y. settling u name (kept.Value y) (go y))
      (settling u name (kept.Refused CallbackRaised) (refuse CallbackRaised at site))
      (λ y v p. holds-settling v p.inside u name (kept.Value y) (go y) (finds-on w v go p k y))
      (λ v p. holds-settling v p.inside u name (kept.Refused CallbackRaised) (refuse CallbackRaised at site)
      (λ x o. holds-refuse q b s x o.inside (refuses-on q v x (refuses-on q w v r p.moves) o.moves) CallbackRaised at
      site))

  holds-find : (old : StageState) (w : TypingState) (i : In b s w) (r : Refuses q w) (h : Value) (u : TypeId)
      (name : TextId) (at : Place) (site : Site) (go : Value → BodyPlan) → Finds w go →
      Holds q (find_method old h u name at site go) w
  holds-find old w i r h u name at site go k =
      holds-if q b s w i (is_nil h)
      (settling u name (kept.Value (method_at old u name)) (go (method_at old u name)))
      (asked_method h u name at site go)
      (λ c. holds-settling w i u name (kept.Value (method_at old u name)) (go (method_at old u name))
      (k (method_at old u name)))
      (λ c. holds-asked w i r h u name at site go k)

  holds-kept : (w : TypingState) (i : In b s w) (r : Refuses q w) (x : Kept) (u : TypeId) (name : TextId)
      (at : Place) (site : Site) (go : Value → BodyPlan) → Finds w go →
      Holds q (by_known w.stage x u name at site go) w
  holds-kept w i r (kept.Value y) u name at site go k = k y w (step-itself b s w i)
  holds-kept w i r (kept.Refused kind) u name at site go k = holds-refuse q b s w i r kind at site
  holds-kept w i r kept.Asked u name at site go k = holds-refuse q b s w i r Incomplete at site
  holds-kept w i r kept.Unasked u name at site go k =
      let h = metamethod w.stage u (codes "__getmethod") in
      holds-keeping w i u name kept.Asked (find_method w.stage h u name at site go)
      (λ v p. holds-find w.stage v p.inside (refuses-on q w v r p.moves) h u name at site go (finds-on w v go p k))

module _ (q : PartEnd → TypingState → Type 0) (b : ℕ) (s : Scope) (site : Site) (base : site.base ≡ b) where
  -- ---- methods

  holds-missing : (w : TypingState) (i : In b s w) (r : Refuses q w) (h : Value) (o : Made) (name : TextId)
      (args : List TermId) (at : Place) →
      Gives q b s w → is_placed at ≡ true → Known s w.stage o →
      Holds q (missing_method h o name args at site) w
  holds-missing w i r h o name args at k placed known =
      holds-if q b s w i (is_nil h) (refuse NoMethod at site)
      (quoting o (λ x. quotes_of (untyped args) site (values.Text name ∷ x ∷ []) (λ given.
      calling h given at site (λ v. in_place v at site give))))
      (λ c. holds-refuse q b s w i r NoMethod at site)
      (λ c. holds-quoting q b s w i o (λ x. quotes_of (untyped args) site (values.Text name ∷ x ∷ []) (λ given.
      calling h given at site (λ v. in_place v at site give))) known
      (λ x v p. holds-quotes q b s site base (untyped args) (values.Text name ∷ x ∷ [])
      (λ given. calling h given at site (λ y. in_place y at site give)) v p.inside (refuses-on q w v r p.moves)
      (are-untyped s v.stage args)
      (λ given y o2.
      let whole = step-twice b s w v y p o2 in
      holds-given q b s site base y whole.inside (refuses-on q w y r whole.moves) h given at
      (gives-on q b s w y whole k) placed)))

  holds-called : (w : TypingState) (i : In b s w) (r : Refuses q w) (v : Value) (u : TypeId) (o : Made) (name : TextId)
      (args : List TermId) (at : Place)
      (source : TermId) → Gives q b s w → is_placed at ≡ true → Known s w.stage o →
      Holds q (call_method v u o name args at source site) w
  holds-called w i r v u o name args at source k placed known =
      holds-if q b s w i (is_nil v) (reading (λ x. missing_method (metamethod x u (codes "__methodmissing")) o name
      args at site))
      (becoming v at site (λ t. call_term t (ready o ∷ untyped args) at true source site))
      (λ c. holds-missing w i r (metamethod w.stage u (codes "__methodmissing")) o name args at k placed known)
      (λ c. holds-becoming q b s w i v at site (λ t. call_term t (ready o ∷ untyped args) at true source site) r placed
      (λ t x p. holds-term q b s site base x p.inside (refuses-on q w x r p.moves) t (ready o ∷ untyped args) at true
      source (gives-on q b s w x p k) placed
      (still b s w x i p o known, are-untyped s x.stage args)))

  pub holds-method : (w : TypingState) (i : In b s w) (r : Refuses q w) (o : Made) (name : TextId) (args : List TermId)
      (at : Place) (source : TermId) →
      Gives q b s w → is_placed at ≡ true → Known s w.stage o →
      (x : Option TypeId) → Holds q (method_plan w.stage x o name args at source site) w
  holds-method w i r o name args at source k placed known None = holds-refuse q b s w i r NoMethod at site
  holds-method w i r o name args at source k placed known (Some u) =
      holds-kept q b s w i r (known_of w.stage.kept (Method u name)) u name at site
      (λ v. call_method v u o name args at source site)
      (λ y v p. holds-called v p.inside (refuses-on q w v r p.moves) y u o name args at source (gives-on q b s w v p k)
      placed (still b s w v i p o known))
