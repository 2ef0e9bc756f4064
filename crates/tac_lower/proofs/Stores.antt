-- Stores: a value of a type goes to an address, in code and in the meaning.
use Rattle.std.proofs.Common.{◌≡◌, ◌≢◌, ℕ, ◌+◌, ◌≤◌, Bool, true, false, List, [], ◌∷◌, length, Option, Some, None, refl, sym, ap, ◌∙◌}
use Rattle.std.proofs.Common.{subst, arith}
use Rattle.std.specs.Prelude.{◌-◌, nat_eq, if◌then◌else◌}
use Rattle.std.proofs.lemmas.Bool.{eqb-true, eqb-false, le-leb}
use Rattle.std.proofs.lemmas.List.{take_all, nil_from_length}
use Rattle.tl_base.specs.declared.place.Place.{Place}
use Rattle.tl_base.specs.declared.ids.TypeId.{TypeId}
use Rattle.terra_memory.specs.Numbers.{low_bytes, part, overwritten}
use Rattle.terra_memory.specs.Region as regions
use Rattle.terra_memory.specs.Region.{is_inside, first_address, end_address}
use Rattle.terra_memory.proofs.RegionLaws.{inside_parts}
use Rattle.terra_memory.proofs.Overwriting.{length-overwritten}
use Rattle.terra_words.specs.Runs.{Value, word, bytes, number, put_bytes, Stuck}
use Rattle.terra_types.specs.declared.types.TypeForm.{TypeForm}
use Rattle.terra_types.specs.declared.types.TypeForm.TheVariants as forms
use Rattle.terra_term.specs.declared.lists.TypedName.{TypedName}
use Rattle.terra_meaning.specs.Values.{form_at, bytes_at, is_aggregate, encoded, IsValue}
use Rattle.terra_meaning.specs.Running.{State, Gives}
use Rattle.terra_meaning.specs.Meaning as meaning
use Rattle.terra_meaning.specs.Meaning.{Wanted, the_value, the_address}
use Rattle.tac_form.specs.declared.tac.Operand.{Operand}
use Rattle.tac_form.specs.declared.tac.Address.{Address}
use Rattle.tac_form.specs.declared.tac.Spot.TheVariants as spots
use Rattle.tac_form.specs.declared.tac.Instruction.{Instruction}
use Rattle.tac_form.specs.declared.tac.Instruction.TheVariants.{Store, Move}
use Rattle.tac_form.specs.Flow as flow
use Rattle.tac_form.specs.Flow.{Moved, Goes, Stops, act, written}
use Rattle.tac_lower.specs.Pieces.{Used, known, doing, Result, a_word, an_area, an_offset, Holders, number_of, number_in, stored}
use Rattle.tac_lower.specs.Pieces.{stored_part}
use Rattle.tac_lower.proofs.Places.{Point}
use Rattle.tac_lower.proofs.Standing.{Setting, SizedBy, Private, stands, word_in, operand-is, Means}
use Rattle.tac_lower.proofs.Simulates.{Fact, nothing, KnowsAll, Sim, grown-none}
use Rattle.tac_lower.proofs.Writes.{PassesOr, passes_sim, known_sim}
use Rattle.tac_lower.proofs.Loads.{sim_from, IsThere, load-number, is-value}

put-length : (r : regions.Contents) (a : ℕ) (bs : List ℕ) (r1 : regions.Contents) → put_bytes r a bs ≡ Some r1 →
    length r1.bytes ≡ length r.bytes
unfolding put_bytes
put-length r a [] r1 e = let same : r ≡ r1 = grind (arith, e) in ap (λ x. length x.bytes) (sym same)
put-length r a (b ∷ bs) r1 e = by (is_inside r a (length (b ∷ bs))) refl e
  where
    by : (t : Bool) → is_inside r a (length (b ∷ bs)) ≡ t →
        (if t then Some (record r { bytes = overwritten r.bytes (a - first_address) (b ∷ bs) }) else None) ≡ Some r1 →
        length r1.bytes ≡ length r.bytes
    by false inside h = grind (arith, h)
    by true inside h =
        let p = inside_parts r a (length (b ∷ bs)) inside in
        let le : (a - first_address) + length (b ∷ bs) ≤ length r.bytes = omega (arith, p.0, p.1) in
        let made : regions.Contents = record r { bytes = overwritten r.bytes (a - first_address) (b ∷ bs) } in
        let same : made ≡ r1 = grind (arith, h) in
        ap (λ x. length x.bytes) (sym same) ∙ length-overwritten r.bytes (b ∷ bs) (a - first_address) le

-- what is written is the same, so what follows is
write-by : (z : Setting) (place : Place) (at : Point) (k : Private) (s : State) (i : Instruction) (o : Option regions.Contents) →
    ((r : regions.Contents) → o ≡ Some r → length r.bytes ≡ length s.region.bytes) → act z.program i (stands z at k s) ≡ written place
    (stands z at k s) o →
    PassesOr z at k s i (meaning.written place s o)
write-by z place at k s i None sized e = e
write-by z place at k s i (Some r) sized e = record { moves = e; same = record { variables = refl; sized = sized r refl; left = refl } }

-- how many bytes a word of a type has in memory
pub store-size : (z : Setting) (of : TypeId) (form : TypeForm) → form_at z.types of ≡ form → is_aggregate z.types of ≡ false →
    bytes_at z.types of ≢ 0 →
    flow.bytes_of (number_in form).size ≡ bytes_at z.types of
store-size z of (forms.Integer i) e plain some = (load-number z of (forms.Integer i) e tt).0
store-size z of (forms.Pointer t) e plain some = (load-number z of (forms.Pointer t) e tt).0
store-size z of (forms.Function params result) e plain some = (load-number z of (forms.Function params result) e tt).0
store-size z of forms.Bool e plain some = sym (subst (λ f. SizedBy f (bytes_at z.types of)) e (z.sizes of))
store-size z of forms.Unit e plain some = absurd (some (subst (λ f. SizedBy f (bytes_at z.types of)) e (z.sizes of)))
store-size z of (forms.Array t m) e plain some =
    let p : true ≡ false = subst (λ f. is_aggregate (f ∷ []) (record { 0 = 0 }) ≡ false) e plain in absurd (grind (arith, p))
store-size z of (forms.Struct number placed layout) e plain some =
    let p : true ≡ false = subst (λ f. is_aggregate (f ∷ []) (record { 0 = 0 }) ≡ false) e plain in absurd (grind (arith, p))

pub encoded-word : (z : Setting) (of : TypeId) (x : ℕ) → is_aggregate z.types of ≡ false → encoded z.types of (word x) ≡ low_bytes
    (bytes_at z.types of) x
encoded-word z of x plain = ap (λ b. if b then [] else low_bytes (bytes_at z.types of) x) plain

-- nothing is stored of a type of no bytes
pub encoded-none : (z : Setting) (of : TypeId) (v : Value) → IsValue z.types of v → bytes_at z.types of ≡ 0 → encoded z.types of v ≡ []
unfolding low_bytes
encoded-none z of (word x) h e = encoded-word z of x h.0 ∙ ap (λ m. low_bytes m x) e
encoded-none z of (bytes bs) h e = ap (λ b. if b then bs else low_bytes (bytes_at z.types of) 0) h.0 ∙ nil_from_length bs (h.1 ∙ e)

pub stores-nothing : (z : Setting) (place : Place) (of : TypeId) (a : ℕ) (v : Value) (s : State) → IsValue z.types of v →
    bytes_at z.types of ≡ 0 → Gives (word 0) s ≡ meaning.stored z.types place of a v s
unfolding put_bytes
stores-nothing z place of a v s h e = sym (ap (λ bs. meaning.written place s (put_bytes s.region a bs)) (encoded-none z of v h e))

-- a word
store_word_sim : {z : Setting} {n : ℕ} {names : List TypedName} {scope : Holders} {facts : List Fact} (u : Used) (place : Place)
    (of : TypeId) (address : Address) (a : ℕ) (o : Operand) (v : Value) →
    IsThere z names scope u facts address a → bytes_at z.types of ≢ 0 →
    ((k : Private) → KnowsAll z scope u facts k → (word (word_in k o) ≡ v) × IsValue z.types of v) →
    Sim z n names scope facts u (doing (tt {0}) (Store (spots.Region place address) (number_of z.types of).size o) u)
    (meaning.stored z.types place of a v) names scope (λ w. nothing)
store_word_sim {z} {n} {names} {scope} {facts} u place of address a o v there some means =
    passes_sim u (tt {0}) (Store (spots.Region place address) (number_of z.types of).size o) (meaning.stored z.types place of a v)
    (λ at k s fine knows.
    let m = means k knows in
    let plain = (subst (λ w. IsValue z.types of w) (sym m.0) m.1).0 in
    let size = store-size z of (form_at z.types of) refl plain some in
    let same : low_bytes (flow.bytes_of (number_of z.types of).size) (flow.operand (stands z at k s) o) ≡ encoded z.types of v =
    ap (low_bytes (flow.bytes_of (number_of z.types of).size)) (operand-is z at k s o) ∙ ap (λ i. low_bytes i (word_in k o)) size
    ∙ sym (encoded-word z of (word_in k o) plain) ∙ ap (encoded z.types of) m.0 in
    write-by z place at k s (Store (spots.Region place address) (number_of z.types of).size o) (put_bytes s.region a (encoded z.types of v))
    (λ r e. put-length s.region a (encoded z.types of v) r e)
    (ap (λ x. written place (stands z at k s)
    (put_bytes s.region x (low_bytes (flow.bytes_of (number_of z.types of).size) (flow.operand (stands z at k s) o))))
    (there at k s fine knows)
    ∙ ap (λ bs. written place (stands z at k s) (put_bytes s.region a bs)) same)) (λ w k knows. tt)

-- the bytes of an area
pub encoded-bytes : (z : Setting) (of : TypeId) (bs : List ℕ) → is_aggregate z.types of ≡ true → encoded z.types of (bytes bs) ≡ bs
encoded-bytes z of bs agg = ap (λ b. if b then bs else low_bytes (bytes_at z.types of) 0) agg

store_area_sim : {z : Setting} {n : ℕ} {names : List TypedName} {scope : Holders} {facts : List Fact} (u : Used) (place : Place)
    (of : TypeId) (address : Address) (a area : ℕ) (v : Value) →
    IsThere z names scope u facts address a →
    ((k : Private) → KnowsAll z scope u facts k → (bytes (k.areas area) ≡ v) × IsValue z.types of v) →
    Sim z n names scope facts u (doing (tt {0}) (Move (spots.Region place address) (spots.Area area 0) (bytes_at z.types of)) u)
    (meaning.stored z.types place of a v) names scope (λ w. nothing)
store_area_sim {z} {n} {names} {scope} {facts} u place of address a area v there means =
    passes_sim u (tt {0}) (Move (spots.Region place address) (spots.Area area 0) (bytes_at z.types of))
    (meaning.stored z.types place of a v) (λ at k s fine knows.
    let m = means k knows in
    let h = subst (λ w. IsValue z.types of w) (sym m.0) m.1 in
    let within : 0 + bytes_at z.types of ≤ length (k.areas area) = omega (arith, h.1) in
    let short : length (k.areas area) ≤ bytes_at z.types of = omega (arith, h.1) in
    let same : k.areas area ≡ encoded z.types of v = sym (encoded-bytes z of (k.areas area) h.0) ∙ ap (encoded z.types of) m.0 in
    write-by z place at k s (Move (spots.Region place address) (spots.Area area 0) (bytes_at z.types of))
    (put_bytes s.region a (encoded z.types of v))
    (λ r e. put-length s.region a (encoded z.types of v) r e)
    (ap (λ b. if b then written place (stands z at k s) (put_bytes s.region (flow.address (stands z at k s) address)
    (part (k.areas area) 0 (bytes_at z.types of))) else flow.stop (stands z at k s) Stuck)
    (le-leb (0 + bytes_at z.types of) (length (k.areas area)) within)
    ∙ ap (λ x. written place (stands z at k s) (put_bytes s.region x (part (k.areas area) 0 (bytes_at z.types of))))
    (there at k s fine knows)
    ∙ ap (λ bs. written place (stands z at k s) (put_bytes s.region a bs)) (take_all (bytes_at z.types of) (k.areas area) short ∙ same)))
    (λ w k knows. tt)

-- a value of a type goes to an address
pub stored_sim : {z : Setting} {n : ℕ} {names : List TypedName} {scope : Holders} {facts : List Fact} (u : Used) (place : Place)
    (of : TypeId) (address : Address) (a : ℕ) (r : Result) (v : Value) →
    IsThere z names scope u facts address a → ((k : Private) → KnowsAll z scope u facts k → Means z the_value of scope u r k v) →
    Sim z n names scope facts u (stored z.types of (spots.Region place address) r u) (meaning.stored z.types place of a v) names scope
    (λ w. nothing)
stored_sim {z} {n} {names} {scope} {facts} u place of address a r v there means =
    by r (λ k knows. means k knows) (nat_eq (bytes_at z.types of) 0) refl
  where
    none : (r1 : Result) → ((k : Private) → KnowsAll z scope u facts k → Means z the_value of scope u r1 k v) → bytes_at z.types of ≡ 0 →
        Sim z n names scope facts u (known (tt {0}) u) (meaning.stored z.types place of a v) names scope (λ w. nothing)
    none r1 m e =
        sim_from (λ s. Gives (word 0) s) (meaning.stored z.types place of a v)
        (λ k s fine knows. stores-nothing z place of a v s (is-value z of r1 v (m k knows).good) e)
        (known_sim u (tt {0}) (word 0) (λ k s fine knows. tt))

    by : (r1 : Result) → ((k : Private) → KnowsAll z scope u facts k → Means z the_value of scope u r1 k v) → (b : Bool) →
        nat_eq (bytes_at z.types of) 0 ≡ b →
        Sim z n names scope facts u (if b then known (tt {0}) u else stored_part z.types of (spots.Region place address) r1 u)
        (meaning.stored z.types place of a v) names scope (λ w. nothing)
    by r1 m true e = none r1 m (eqb-true (bytes_at z.types of) 0 e)
    by (a_word o) m false e =
        store_word_sim u place of address a o v there (eqb-false (bytes_at z.types of) 0 e) (λ k knows. ((m k knows).is, (m k knows).good))
    by (an_area area) m false e =
        store_area_sim u place of address a area v there (λ k knows. ((m k knows).is, (m k knows).good))
    by (an_offset o) m false e = record {
      grown = grown-none u;
      over = λ t lt away. away;
      run = λ out at k s has whole_ fine knows less. absurd (m k knows).good;
    }
