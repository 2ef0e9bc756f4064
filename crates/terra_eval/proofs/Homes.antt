-- A frame is laid out, one declaration after the other.
use Rattle.std.proofs.Common.{◌≡◌, refl, sym, ap, ◌∙◌, ℕ, suc, ◌+◌, ◌<◌, ◌≤◌, Bool, true, false, List, [], ◌∷◌, ◌++◌, map, length, drop}
use Rattle.std.proofs.Common.{get_or, arith, append_assoc, append-nil, length-append}
use Rattle.std.specs.Prelude.{◌||◌, nat_eq, if◌then◌else◌, unwrap_or}
use Rattle.std.proofs.lemmas.Bool.{eq-eqb, ne_eqb}
use Rattle.std.proofs.lemmas.List.{map-append}
use Rattle.tl_base.specs.declared.ids.SymId.{SymId}
use Rattle.tl_base.specs.declared.ids.TypeId.{TypeId}
use Rattle.terra_types.specs.declared.types.TypeForm.{TypeForm}
use Rattle.terra_types.specs.Layouts.{rounded}
use Rattle.terra_types.specs.Sizes.{align_of}
use Rattle.terra_term.specs.Events as events
use Rattle.terra_term.specs.Events.{declared_in}
use Rattle.terra_meaning.specs.Frames as frames
use Rattle.terra_meaning.specs.Frames.{framed, has, number_of, with_home}
use Rattle.terra_meaning.specs.Values.{bytes_at, is_aggregate}
use Rattle.terra_eval.specs.declared.events.Event.{Event}
use Rattle.terra_eval.specs.declared.frame.Home.{Home}
use Rattle.terra_eval.specs.declared.frame.Home.TheVariants as homes_kinds
use Rattle.terra_eval.specs.declared.laying.InScope.{InScope}
use Rattle.terra_eval.specs.Views.{events_in, home_of}
use Rattle.terra_eval.specs.Framing.{behind_homes, laid_out, scope_of}
use Rattle.terra_eval.proofs.Turns.{turn, none-left}

behind-more : (hs : List frames.Home) (h : frames.Home) (f : frames.Frame) → behind_homes (hs ++ h ∷ []) f ≡ behind_homes hs (with_home h f)
behind-more hs h f = ap (λ (l : List frames.Home). record f { homes = l }) (append_assoc hs (h ∷ []) f.homes)

one-more : (hs new : List Home) (h : Home) → new ≡ hs ++ h ∷ [] → length new ≡ suc (length hs)
one-more hs new h push = omega (arith, ap length push, length-append hs (h ∷ []))

module _ (types : List TypeForm) (placed : List ℕ) (hs new : List Home) (x : SymId) (t : TypeId) (later : List events.Event) where
  laid-more : (h : Home) (end : ℕ) → new ≡ hs ++ h ∷ []
      → laid_out types placed new end later ≡ behind_homes (map home_of hs) (with_home (home_of h) (framed types placed (suc (length hs)) end (declared_in later)))
  laid-more h end push =
      ap (λ (n : ℕ). behind_homes (map home_of new) (framed types placed n end (declared_in later))) (one-more hs new h push)
      ∙ ap (λ (l : List frames.Home). behind_homes l (framed types placed (suc (length hs)) end (declared_in later))) (ap (λ (l : List Home). map home_of l) push ∙ map-append home_of hs (h ∷ []))
      ∙ behind-more (map home_of hs) (home_of h) (framed types placed (suc (length hs)) end (declared_in later))

  pub laid-placed : (offset at end : ℕ) → (is_aggregate types t || has (length hs) placed) ≡ true
      → at ≡ rounded offset (unwrap_or (align_of types t) 1) → end ≡ at + bytes_at types t → new ≡ hs ++ homes_kinds.InFrame at ∷ []
      → laid_out types placed new end later ≡ laid_out types placed hs offset (events.Declares x t ∷ later)
  laid-placed offset at end test start behind push =
      let rest = λ (n : ℕ). framed types placed (suc (length hs)) n (declared_in later) in
      laid-more (homes_kinds.InFrame at) end push
      ∙ ap (λ (n : ℕ). behind_homes (map home_of hs) (with_home (frames.in_frame at) (rest n))) behind
      ∙ ap (λ (n : ℕ). behind_homes (map home_of hs) (with_home (frames.in_frame n) (rest (n + bytes_at types t)))) start
      ∙ sym (ap (λ (b : Bool). behind_homes (map home_of hs) (if b
      then with_home (frames.in_frame (rounded offset (unwrap_or (align_of types t) 1))) (rest (rounded offset (unwrap_or (align_of types t) 1) + bytes_at types t))
      else with_home frames.by_value (rest offset))) test)

  pub laid-alone : (offset : ℕ) → (is_aggregate types t || has (length hs) placed) ≡ false → new ≡ hs ++ homes_kinds.ByValue ∷ []
      → laid_out types placed new offset later ≡ laid_out types placed hs offset (events.Declares x t ∷ later)
  laid-alone offset test push =
      let rest = λ (n : ℕ). framed types placed (suc (length hs)) n (declared_in later) in
      laid-more homes_kinds.ByValue offset push
      ∙ sym (ap (λ (b : Bool). behind_homes (map home_of hs) (if b
      then with_home (frames.in_frame (rounded offset (unwrap_or (align_of types t) 1))) (rest (rounded offset (unwrap_or (align_of types t) 1) + bytes_at types t))
      else with_home frames.by_value (rest offset))) test)

pub laid-begin : (f : frames.Frame) → behind_homes [] f ≡ f
laid-begin f = refl

pub laid-end : (types : List TypeForm) (placed : List ℕ) (hs : List Home) (offset size : ℕ) (whole : frames.Frame) (es : List Event) (i : ℕ) → length es ≤ i
    → whole ≡ laid_out types placed hs offset (events_in (drop i es)) → size ≡ rounded offset 16
    → record { homes = map home_of hs; size = size } ≡ whole
laid-end types placed hs offset size whole es i past so_far round =
    sym (so_far ∙ ap (λ (l : List Event). laid_out types placed hs offset (events_in l)) (none-left es i past)
    ∙ ap (λ (l : List frames.Home). record { homes = l; size = rounded offset 16 }) (append-nil (map home_of hs))
    ∙ ap (λ (n : ℕ). record { homes = map home_of hs; size = n }) (sym round))

module _ (x : SymId) (ds : List InScope) (i : ℕ) (d : InScope) (step : drop i ds ≡ d ∷ drop (i + 1) ds)
    (passed : number_of x (scope_of ds) ≡ number_of x (scope_of (drop i ds))) where
  number-by : (b : Bool) → nat_eq x.0 d.symbol.0 ≡ b → number_of x (scope_of ds) ≡ (if b then d.number ∷ [] else number_of x (scope_of (drop (i + 1) ds)))
  number-by b test =
      passed ∙ ap (λ (l : List InScope). number_of x (scope_of l)) step
      ∙ ap (λ (b : Bool). if b then d.number ∷ [] else number_of x (scope_of (drop (i + 1) ds))) test

  pub number-here : x.0 ≡ d.symbol.0 → number_of x (scope_of ds) ≡ d.number ∷ []
  number-here same = number-by true (eq-eqb x.0 d.symbol.0 same)

  pub number-later : (x.0 ≡ d.symbol.0 → ⊥) → number_of x (scope_of ds) ≡ number_of x (scope_of (drop (i + 1) ds))
  number-later other = number-by false (ne_eqb x.0 d.symbol.0 other)

pub number-none : (x : SymId) (ds : List InScope) (i : ℕ) → length ds ≤ i → number_of x (scope_of ds) ≡ number_of x (scope_of (drop i ds)) → number_of x (scope_of ds) ≡ []
number-none x ds i past passed = passed ∙ ap (λ (l : List InScope). number_of x (scope_of l)) (none-left ds i past)

module _ (n : ℕ) (ms : List ℕ) (i : ℕ) (within : i < length ms) (passed : has n ms ≡ has n (drop i ms)) where
  has-by : (b : Bool) → nat_eq n (get_or ms i 0) ≡ b → has n ms ≡ (b || has n (drop (i + 1) ms))
  has-by b test =
      passed ∙ ap (λ (l : List ℕ). has n l) (turn ms i 0 within) ∙ ap (λ (b : Bool). b || has n (drop (i + 1) ms)) test

  pub has-here : n ≡ get_or ms i 0 → true ≡ has n ms
  has-here same = sym (has-by true (eq-eqb n (get_or ms i 0) same))

  pub has-later : (n ≡ get_or ms i 0 → ⊥) → has n ms ≡ has n (drop (i + 1) ms)
  has-later other = has-by false (ne_eqb n (get_or ms i 0) other)

pub has-none : (n : ℕ) (ms : List ℕ) (i : ℕ) → length ms ≤ i → has n ms ≡ has n (drop i ms) → false ≡ has n ms
has-none n ms i past passed = sym (passed ∙ ap (λ (l : List ℕ). has n l) (none-left ms i past))
