-- What the code of a whole function is made of, piece by piece: its parameters, its body, and what else stands in it.
use Rattle.std.proofs.Common.{◌≡◌, refl, sym, ap, ◌∙◌, ℕ, ◌+◌, ◌<◌, ◌≤◌, Bool, true, false, List, [], ◌∷◌, ◌++◌, map, length, drop, get_or}
use Rattle.std.proofs.Common.{append_assoc, append-nil, zero-add}
use Rattle.std.specs.Prelude.{◌&&◌, if◌then◌else◌}
use Rattle.std.proofs.lemmas.Bool.{le-leb, lt-leb}
use Rattle.tl_base.specs.declared.ids.TypeId.{TypeId}
use Rattle.terra_types.specs.declared.types.TypeForm.{TypeForm}
use Rattle.terra_term.specs.declared.lists.TypedName.{TypedName}
use Rattle.terra_meaning.specs.Values.{bytes_at, is_aggregate}
use Rattle.terra_eval.specs.Trees.{callable_tree}
use Rattle.terra_eval.specs.declared.nodes.Callable.{Callable}
use Rattle.tac_form.specs.declared.tac.Destination.{Destination}
use Rattle.tac_lower.specs.Items.{Item}
use Rattle.tac_lower.specs.Pieces.{Holders, Piece, Result, Used, declare_all, destination, given, known}
use Rattle.tac_lower.specs.Lowering.{all, are_narrow, ending, received, type_of_name}
use Rattle.tac_lower.specs.Works.{Made, begun, behind, scoped}
use Rattle.tac_lower.specs.Views.{all_of, around_of, destinations_of, parts_of_body}
use Rattle.tac_lower.specs.declared.around.Around.{Around}
use Rattle.terra_eval.proofs.Turns.{turn}
use Rattle.tac_lower.proofs.Lines.{none-left}

-- widths

module _ (types : List TypeForm) (names : List TypedName) (i : ℕ) (d : TypedName) (W : Bool) (within : i < length names)
    (so_far : W ≡ are_narrow types (map type_of_name (drop i names))) where
  next : W ≡ are_narrow types (map type_of_name (get_or names i d ∷ drop (i + 1) names))
  next = so_far ∙ ap (λ (l : List TypedName). are_narrow types (map type_of_name l)) (turn names i d within)

  pub narrow-later : bytes_at types (get_or names i d).of ≤ 128 → W ≡ are_narrow types (map type_of_name (drop (i + 1) names))
  narrow-later fits =
      next ∙ ap (λ (b : Bool). b && are_narrow types (map type_of_name (drop (i + 1) names))) (le-leb (bytes_at types (get_or names i d).of) 128 fits)

  pub too-wide : 128 < bytes_at types (get_or names i d).of → false ≡ W
  too-wide wide =
      sym (next ∙ ap (λ (b : Bool). b && are_narrow types (map type_of_name (drop (i + 1) names))) (lt-leb (bytes_at types (get_or names i d).of) 128 wide))

pub narrow-end : (types : List TypeForm) (names : List TypedName) (i : ℕ) (W : Bool) → length names ≤ i
    → W ≡ are_narrow types (map type_of_name (drop i names)) → true ≡ W
narrow-end types names i W past so_far =
    sym (so_far ∙ ap (λ (l : List TypedName). are_narrow types (map type_of_name l)) (none-left names i past))

-- where parameters go

none-if : (b : Bool) (x y : Destination) (u v : Used) → (if b then known x u else known y v).code ≡ []
none-if true x y u v = refl
none-if false x y u v = refl

destination-none : (types : List TypeForm) (of : TypeId) (u : Used) → (destination types of u).code ≡ []
destination-none types of u = none-if (is_aggregate types of) _ _ _ _

module _ (types : List TypeForm) (names : List TypedName) (i : ℕ) (w : Made) (W : Made) (R : List Destination) (tos : List Destination)
    (results : R ≡ tos ++ (received types (drop i names) w.used).result)
    (works : W ≡ record w { used = (received types (drop i names) w.used).used }) where
  pub received-result : (d : TypedName) (w1 : Made) (to : Destination) (new : List Destination) → i < length names
      → to ≡ (destination types (get_or names i d).of w.used).result → w1 ≡ behind w (destination types (get_or names i d).of w.used)
      → new ≡ tos ++ to ∷ [] → R ≡ new ++ (received types (drop (i + 1) names) w1.used).result
  received-result d w1 to new within same first push =
      let p = destination types (get_or names i d).of w.used in
      let xs = drop (i + 1) names in
      results ∙ ap (λ (l : List TypedName). tos ++ (received types l w.used).result) (turn names i d within)
      ∙ ap (λ (t : Destination). tos ++ t ∷ (received types xs p.used).result) (sym same)
      ∙ ap (λ (u : Used). tos ++ to ∷ (received types xs u).result) (sym (ap (λ (z : Made). z.used) first))
      ∙ sym (append_assoc tos (to ∷ []) (received types xs w1.used).result)
      ∙ ap (λ (l : List Destination). l ++ (received types xs w1.used).result) (sym push)

  pub received-work : (d : TypedName) (w1 : Made) → i < length names → w1 ≡ behind w (destination types (get_or names i d).of w.used)
      → W ≡ record w1 { used = (received types (drop (i + 1) names) w1.used).used }
  received-work d w1 within first =
      let of = (get_or names i d).of in
      let p = destination types of w.used in
      let xs = drop (i + 1) names in
      let step : w1 ≡ record w { used = p.used } =
      first ∙ ap (λ (l : List Item). record w { code = l; used = p.used })
      (ap (λ (l : List Item). w.code ++ l) (destination-none types of w.used) ∙ append-nil w.code) in
      works ∙ ap (λ (l : List TypedName). record w { used = (received types l w.used).used }) (turn names i d within)
      ∙ ap (λ (z : Made). record z { used = (received types xs z.used).used }) (sym step)

  pub received-all : length names ≤ i → (tos ≡ R) × (w ≡ W)
  received-all past = (
    sym (results ∙ ap (λ (l : List TypedName). tos ++ (received types l w.used).result) (none-left names i past) ∙ append-nil tos),
    sym (works ∙ ap (λ (l : List TypedName). record w { used = (received types l w.used).used }) (none-left names i past)),
  )

-- the parameters' declarations, the body, and its end

module _ (c : Around) (k : Callable) (w0 w1 w2 w3 w4 : Made) (tos : List Destination) (vs : List Result) (i : Item) (m : ℕ)
    (start : w0 ≡ begun)
    (places : tos ≡ (received c.store.now.types k.parameters.now w0.used).result)
    (one : w1 ≡ record w0 { used = (received c.store.now.types k.parameters.now w0.used).used })
    (values : vs ≡ map given tos)
    (two : w2 ≡ scoped w1 (declare_all (around_of c) k.at k.parameters.now vs w1.next w1.scope w1.used) (length k.parameters.now))
    (three : w3 ≡ scoped w2 (all_of c k.node k.body.now w2) m)
    (four : w4 ≡ record w3 { code = w3.code ++ i ∷ [] })
    (last : i ≡ ending (callable_tree c.store.now k)) where
  abbrev P : Piece (List Destination)
  P = destinations_of c k

  pub parts-places : tos ≡ P.result
  parts-places = places ∙ ap (λ (z : Made). (received c.store.now.types k.parameters.now z.used).result) start

  abbrev W1 : Made
  W1 = record begun { used = P.used }

  abbrev D : Piece Holders
  D = declare_all (around_of c) k.at k.parameters.now (map given P.result) 0 [] P.used

  abbrev W2 : Made
  W2 = scoped W1 D (length k.parameters.now)

  first : w1 ≡ W1
  first = one ∙ ap (λ (z : Made). record z { used = (received c.store.now.types k.parameters.now z.used).used }) start

  second : w2 ≡ W2
  second =
      two ∙ ap (λ (l : List Result). scoped w1 (declare_all (around_of c) k.at k.parameters.now l w1.next w1.scope w1.used) (length k.parameters.now))
      (values ∙ ap (λ (l : List Destination). map given l) parts-places)
      ∙ ap (λ (z : Made). scoped z (declare_all (around_of c) k.at k.parameters.now (map given P.result) z.next z.scope z.used) (length k.parameters.now)) first

  abbrev B : Piece Holders
  B = all (around_of c) (callable_tree c.store.now k).body.body (length k.parameters.now) D.result D.used

  body : all_of c k.node k.body.now W2 ≡ B
  body =
      ap (λ (j : ℕ). all (around_of c) (callable_tree c.store.now k).body.body j D.result D.used) (zero-add (length k.parameters.now))

  third : w3 ≡ scoped W2 B m
  third = three ∙ ap (λ (z : Made). scoped z (all_of c k.node k.body.now z) m) second ∙ ap (λ (p : Piece Holders). scoped W2 p m) body

  pub parts-code : w4.code ≡ (parts_of_body c k).code ++ ending (callable_tree c.store.now k) ∷ []
  parts-code =
      ap (λ (z : Made). z.code) four ∙ ap (λ (z : Made). z.code ++ i ∷ []) third ∙ ap (λ (x : Item). D.code ++ B.code ++ x ∷ []) last

  pub parts-used : w4.used ≡ (parts_of_body c k).used
  parts-used = ap (λ (z : Made). z.used) four ∙ ap (λ (z : Made). z.used) third
