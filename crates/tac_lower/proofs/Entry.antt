-- The temporaries that parameters go to are live where a function's code is entered: its first block reads each of them.
use Rattle.std.proofs.Common.{◌≡◌, ℕ, suc, ◌<◌, ◌≤◌, ◌⊎◌, inl, inr, Bool, true, false, List, [], ◌∷◌, ◌++◌, length, map, Some, refl, sym}
use Rattle.std.proofs.Common.{ap, ◌∙◌, arith}
use Rattle.std.specs.Prelude.{not, ◌&&◌, ◌||◌, ◌↔◌, nat_eq, option_map, if◌then◌else◌, IsTrue}
use Rattle.std.specs.List.{list_any}
use Rattle.std.proofs.lemmas.Bool.{or_cases, eqb-true, ne_eqb}
use Rattle.std.proofs.lemmas.Option.{slice_get-map}
use Rattle.tl_base.specs.declared.place.Place.{Place}
use Rattle.tl_base.specs.declared.ids.FnId.{FnId}
use Rattle.terra_types.specs.declared.types.TypeForm.{TypeForm}
use Rattle.terra_term.specs.declared.lists.TypedName.{TypedName}
use Rattle.terra_term.specs.Stores.{Contents, Callable}
use Rattle.terra_meaning.specs.Values.{bytes_at, is_aggregate}
use Rattle.terra_meaning.specs.Frames.{Home, by_value, in_frame, home_at}
use Rattle.tac_form.specs.declared.tac.Operand.TheVariants.{Temp, Constant}
use Rattle.tac_form.specs.declared.tac.Address.TheVariants as addresses
use Rattle.tac_form.specs.declared.tac.Spot.TheVariants as spots
use Rattle.tac_form.specs.declared.tac.Destination.{Destination}
use Rattle.tac_form.specs.declared.tac.Destination.TheVariants as destinations
use Rattle.tac_form.specs.declared.tac.Block.{Block}
use Rattle.tac_form.specs.declared.graph.FlowBlock.{FlowBlock}
use Rattle.tac_form.specs.Graph.{instruction_reads, instruction_write, step_of, block_of, graph_of}
use Rattle.tac_form.specs.Live as live
use Rattle.tac_form.specs.Live.{IsLive, is_written, at_step, at_place, read_within}
use Rattle.tac_form.specs.Fits.{goes_to, receives}
use Rattle.tac_lower.specs.Items.{Item, does, ends, empty_draft}
use Rattle.tac_lower.specs.Pieces.{Used, nothing_used, with_temp, with_area, known, then_piece, taken, a_word, an_area, given, copied}
use Rattle.tac_lower.specs.Pieces.{stored_part, Holders, Around, declare, declare_at, declare_all}
use Rattle.tac_lower.specs.Lowering.{all, around, received, ending, code_of}
use Rattle.tac_lower.proofs.Places.{Point, step_on, start_of, DoesAt, HasAt, has-front}
use Rattle.tac_lower.proofs.Whole.{has-whole}
use Rattle.tac_lower.proofs.Functions.{ends-whole}
use Rattle.tac_lower.proofs.IdleTerms.{entry-idle}

-- the temporary is read in the block, and not written before
abbrev ReadFirst : (t : ℕ) → List Item → Type 0
ReadFirst t [] = ⊥
ReadFirst t (does i ∷ is) =
    (live.has (instruction_reads i) t ≡ true) ⊎ ((is_written (instruction_write i) t ≡ false) × ReadFirst t is)
ReadFirst t (ends e ∷ is) = ⊥

first-append : (t : ℕ) (a b : List Item) → ReadFirst t a → ReadFirst t (a ++ b)
first-append t [] b h = absurd h
first-append t (does i ∷ a) b (inl h) = inl h
first-append t (does i ∷ a) b (inr h) = inr (h.0, first-append t a b h.1)
first-append t (ends e ∷ a) b h = absurd h

module _ (blocks : List Block) (t out : ℕ) where
  graph : List FlowBlock
  graph = map block_of blocks

  reads-later : (is : List Item) (at : Point) → HasAt blocks out at is → ReadFirst t is →
      (k : ℕ) × (read_within (map block_of blocks) k at.block at.at t ≡ true)
  reads-later [] at has h = absurd h
  reads-later (ends e ∷ is) at has h = absurd h
  reads-later (does i ∷ is) at has h = by h (λ r. reads-later is (step_on at) has.1 r)
    where
      d : DoesAt blocks at i
      d = has.0

      here : (j : ℕ) → read_within (map block_of blocks) (suc j) at.block at.at t
          ≡ (live.has (instruction_reads i) t
          || (not (is_written (instruction_write i) t) && read_within (map block_of blocks) j at.block (suc at.at) t))
      here j =
          ap (λ b. at_place b at.at (λ c. read_within (map block_of blocks) j c 0 t)
          (read_within (map block_of blocks) j at.block (suc at.at) t) t)
          (slice_get-map block_of blocks at.block ∙ ap (λ o. option_map block_of o) d.there)
          ∙ ap (λ s. at_step (block_of d.block) s (λ c. read_within (map block_of blocks) j c 0 t)
          (read_within (map block_of blocks) j at.block (suc at.at) t) t)
          (slice_get-map step_of d.block.instructions at.at ∙ ap (λ o. option_map step_of o) d.does)

      or-true : (a : Bool) → (a || true) ≡ true
      or-true true = refl
      or-true false = refl

      by : (live.has (instruction_reads i) t ≡ true) ⊎ ((is_written (instruction_write i) t ≡ false) × ReadFirst t is) →
          (ReadFirst t is → (k : ℕ) × (read_within (map block_of blocks) k at.block (suc at.at) t ≡ true)) →
          (k : ℕ) × (read_within (map block_of blocks) k at.block at.at t ≡ true)
      by (inl r) more = (
        1,
        here 0 ∙ ap (λ b. b || (not (is_written (instruction_write i) t) && read_within (map block_of blocks) 0 at.block (suc at.at) t))
            r,
      )
      by (inr p) more =
          let m = more p.1 in (
            suc m.0,
            here m.0
                ∙ ap (λ b. live.has (instruction_reads i) t || (not b && read_within (map block_of blocks) m.0 at.block (suc at.at) t)) p.0
                ∙ ap (λ b. live.has (instruction_reads i) t || b) m.1 ∙ or-true (live.has (instruction_reads i) t),
          )

-- a piece that doesn't write it
abbrev Passes : (t : ℕ) → List Item → Type 0
Passes t a = (b : List Item) → ReadFirst t b → ReadFirst t (a ++ b)

module _ (types : List TypeForm) (t : ℕ) where
  other : (n : ℕ) → t < n → nat_eq n t ≡ false
  other n lt = ne_eqb n t (λ e. let z : ⊥ = absurd (omega (arith, lt, e)) in z)

  parameter-reads : (at : Place) (x : TypedName) (to : Destination) (home : Home) (scope : Holders) (u : Used) → goes_to t to ≡ true →
      ReadFirst t (declare_at types at x (Some (given to)) home scope u).code
  parameter-reads at x (destinations.Temp d) by_value scope u h = inl (ap (λ b. b || false) h)
  parameter-reads at x (destinations.Temp d) (in_frame o) scope u h = by (nat_eq (bytes_at types x.of) 0)
    where
      by : (b : Bool) → ReadFirst t (if b then taken (λ c. tt {0}) (copied (Temp d) u)
          else (if b then known (tt {0}) u else stored_part types x.of (spots.Region at (addresses.Frame o)) (a_word (Temp d)) u)).code
      by true = inl (ap (λ b. b || false) h)
      by false = inl (ap (λ b. b || false) h)
  parameter-reads at x (destinations.Area n) home scope u h = let bad : false ≡ true = h in absurd (grind (arith, bad))
  parameter-reads at x destinations.Nothing home scope u h = let bad : false ≡ true = h in absurd (grind (arith, bad))

  parameter-passes : (at : Place) (x : TypedName) (to : Destination) (home : Home) (scope : Holders) (u : Used) → t < u.temps →
      Passes t (declare_at types at x (Some (given to)) home scope u).code
  parameter-passes at x (destinations.Temp d) by_value scope u lt b h = inr (other u.temps lt, h)
  parameter-passes at x (destinations.Area n) by_value scope u lt b h = inr (other u.temps lt, h)
  parameter-passes at x destinations.Nothing by_value scope u lt b h = inr (other u.temps lt, h)
  parameter-passes at x (destinations.Temp d) (in_frame o) scope u lt b h = by (nat_eq (bytes_at types x.of) 0)
    where
      by : (c : Bool) → ReadFirst t ((if c then taken (λ c. tt {0}) (copied (Temp d) u)
          else (if c then known (tt {0}) u else stored_part types x.of (spots.Region at (addresses.Frame o)) (a_word
          (Temp d)) u)).code ++ b)
      by true = inr (other u.temps lt, h)
      by false = inr (refl, h)
  parameter-passes at x (destinations.Area n) (in_frame o) scope u lt b h = by (nat_eq (bytes_at types x.of) 0)
    where
      by : (c : Bool) → ReadFirst t ((if c then known (tt {0}) u
          else stored_part types x.of (spots.Region at (addresses.Frame o)) (an_area n) u).code ++ b)
      by true = h
      by false = inr (refl, h)
  parameter-passes at x destinations.Nothing (in_frame o) scope u lt b h = by (nat_eq (bytes_at types x.of) 0)
    where
      by : (c : Bool) → ReadFirst t ((if c then taken (λ c. tt {0}) (copied (Constant 0) u)
          else (if c then known (tt {0}) u else stored_part types x.of (spots.Region at (addresses.Frame o)) (a_word
          (Constant 0)) u)).code ++ b)
      by true = inr (other u.temps lt, h)
      by false = inr (refl, h)

  parameter-later : (at : Place) (x : TypedName) (to : Destination) (home : Home) (scope : Holders) (u : Used) →
      u.temps ≤ (declare_at types at x (Some (given to)) home scope u).used.temps
  parameter-later at x (destinations.Temp d) by_value scope u = omega arith
  parameter-later at x (destinations.Area n) by_value scope u = omega arith
  parameter-later at x destinations.Nothing by_value scope u = omega arith
  parameter-later at x (destinations.Temp d) (in_frame o) scope u = by (nat_eq (bytes_at types x.of) 0)
    where
      by : (c : Bool) → u.temps ≤ (if c then taken (λ c. tt {0}) (copied (Temp d) u)
          else (if c then known (tt {0}) u else stored_part types x.of (spots.Region at (addresses.Frame o)) (a_word
          (Temp d)) u)).used.temps
      by true = omega arith
      by false = omega arith
  parameter-later at x (destinations.Area n) (in_frame o) scope u = by (nat_eq (bytes_at types x.of) 0)
    where
      by : (c : Bool) → u.temps ≤ (if c then known (tt {0}) u
          else stored_part types x.of (spots.Region at (addresses.Frame o)) (an_area n) u).used.temps
      by true = omega arith
      by false = omega arith
  parameter-later at x destinations.Nothing (in_frame o) scope u = by (nat_eq (bytes_at types x.of) 0)
    where
      by : (c : Bool) → u.temps ≤ (if c then taken (λ c. tt {0}) (copied (Constant 0) u)
          else (if c then known (tt {0}) u else stored_part types x.of (spots.Region at (addresses.Frame o)) (a_word
          (Constant 0)) u)).used.temps
      by true = omega arith
      by false = omega arith

  -- where parameters go: each to its own, to temporaries below what is used then
  abbrev Matched : List TypedName → List Destination → Type 0
  Matched [] [] = Unit {0}
  Matched (x ∷ xs) (to ∷ tos) = Matched xs tos
  Matched _ _ = ⊥

  received-matched : (xs : List TypedName) (u : Used) → Matched xs (received types xs u).result
  received-matched [] u = tt
  received-matched (x ∷ xs) u = by (is_aggregate types x.of) (λ v. received-matched xs v)
    where
      by : (b : Bool) → ((v : Used) → Matched xs (received types xs v).result) →
          Matched (x ∷ xs) (then_piece (if b then known (destinations.Area (length u.areas)) (with_area (bytes_at types x.of) u)
          else known (destinations.Temp u.temps) (with_temp u)) (λ to u'. taken (λ tos. to ∷ tos) (received types xs u'))).result
      by true more = more (with_area (bytes_at types x.of) u)
      by false more = more (with_temp u)

  abbrev Low : List Destination → ℕ → Type 0
  Low tos n = list_any (goes_to t) tos ≡ true → t < n

  received-low : (xs : List TypedName) (u : Used) →
      (u.temps ≤ (received types xs u).used.temps) × Low (received types xs u).result (received types xs u).used.temps
  received-low [] u = (omega arith, λ h. let bad : false ≡ true = h in absurd (grind (arith, bad)))
  received-low (x ∷ xs) u = by (is_aggregate types x.of) (λ v. received-low xs v)
    where
      by : (b : Bool) →
          ((v : Used) → (v.temps ≤ (received types xs v).used.temps) × Low (received types xs v).result (received types xs v).used.temps) →
          (let r = then_piece (if b then known (destinations.Area (length u.areas)) (with_area (bytes_at types x.of) u)
          else known (destinations.Temp u.temps) (with_temp u)) (λ to u'. taken (λ tos. to ∷ tos) (received types xs u')) in
          (u.temps ≤ r.used.temps) × Low r.result r.used.temps)
      by true more = more (with_area (bytes_at types x.of) u)
      by false more =
          let m = more (with_temp u) in
          let l = m.0 in
          (omega (arith, l), λ h. one (or_cases (nat_eq u.temps t) (list_any (goes_to t) (received types xs (with_temp u)).result) h) m)
        where
          one : (nat_eq u.temps t ≡ true) ⊎ (list_any (goes_to t) (received types xs (with_temp u)).result ≡ true) →
              ((with_temp u).temps ≤ (received types xs (with_temp u)).used.temps)
              × Low (received types xs (with_temp u)).result (received types xs (with_temp u)).used.temps →
              t < (received types xs (with_temp u)).used.temps
          one (inl e) m = let is = eqb-true u.temps t e in let l = m.0 in omega (arith, is, l)
          one (inr e) m = m.1 e

parameters-read : (c : Around) (t : ℕ) (at : Place) (xs : List TypedName) (tos : List Destination) (k : ℕ) (scope : Holders) (u : Used) →
    Matched c.types t xs tos → t < u.temps → list_any (goes_to t) tos ≡ true →
    ReadFirst t (declare_all c at xs (map given tos) k scope u).code
parameters-read c t at [] [] k scope u m lt h = let bad : false ≡ true = h in absurd (grind (arith, bad))
parameters-read c t at [] (to ∷ tos) k scope u m lt h = absurd m
parameters-read c t at (x ∷ xs) [] k scope u m lt h = absurd m
parameters-read c t at (x ∷ xs) (to ∷ tos) k scope u m lt h =
    let p = declare c at x (Some (given to)) k scope u in
    let q = declare_all c at xs (map given tos) (suc k) p.result p.used in
    let l = parameter-later c.types t at x to (home_at c.homes k) scope u in
    by (or_cases (goes_to t to) (list_any (goes_to t) tos) h)
    (λ e. parameters-read c t at xs tos (suc k) p.result p.used m (omega (arith, lt, l)) e)
  where
    by : (goes_to t to ≡ true) ⊎ (list_any (goes_to t) tos ≡ true) →
        (list_any (goes_to t) tos ≡ true → (let p = declare c at x (Some (given to)) k scope u in
        ReadFirst t (declare_all c at xs (map given tos) (suc k) p.result p.used).code)) →
        ReadFirst t (declare_all c at (x ∷ xs) (map given (to ∷ tos)) k scope u).code
    by (inl e) more =
        let p = declare c at x (Some (given to)) k scope u in
        let q = declare_all c at xs (map given tos) (suc k) p.result p.used in
        first-append t p.code q.code (parameter-reads c.types t at x to (home_at c.homes k) scope u e)
    by (inr e) more =
        let p = declare c at x (Some (given to)) k scope u in
        let q = declare_all c at xs (map given tos) (suc k) p.result p.used in
        parameter-passes c.types t at x to (home_at c.homes k) scope u lt q.code (more e)

-- exactly the temporaries that parameters go to are live where a function's code is entered
pub entry-live : (store : Contents) (entries : List FnId) (k : Callable) (t : ℕ) →
    IsLive (graph_of (code_of store entries k)) 0 0 t ↔ IsTrue (receives (code_of store entries k) t)
entry-live store entries k t = (to, from)
  where
    to : IsLive (graph_of (code_of store entries k)) 0 0 t → IsTrue (receives (code_of store entries k) t)
    to h = by (receives (code_of store entries k) t) refl
      where
        by : (b : Bool) → receives (code_of store entries k) t ≡ b → IsTrue b
        by true e = refl
        by false e =
            let dead = entry-idle store entries k t e (suc h.0) h.0 (omega arith) in
            let bad : false ≡ true = sym dead ∙ h.1 in absurd (grind (arith, bad))

    from : IsTrue (receives (code_of store entries k) t) → IsLive (graph_of (code_of store entries k)) 0 0 t
    from h =
        let blocks = (code_of store entries k).blocks in
        let c = around store entries k in
        let tos = received store.types k.body.parameters nothing_used in
        let D = declare_all c k.at k.body.parameters (map given tos.result) 0 [] tos.used in
        let B = all c k.body.body (length k.body.parameters) D.result D.used in
        let has = has-whole ((D.code ++ B.code) ++ ending k ∷ []) (ends-whole (D.code ++ B.code) empty_draft k) in
        let low = (received-low store.types t k.body.parameters nothing_used).1 h in
        reads-later blocks t 0 D.code (start_of 0)
        (has-front blocks 0 (start_of 0) D.code B.code (has-front blocks 0 (start_of 0) (D.code ++ B.code) (ending k ∷ []) has))
        (parameters-read c t k.at k.body.parameters tos.result 0 [] tos.used (received-matched store.types t k.body.parameters nothing_used)
        low h)
