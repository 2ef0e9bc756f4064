-- The blocks of a function's code, and what they name, are there.
use Rattle.std.proofs.Common.{◌≡◌, ℕ, suc, ◌+◌, ◌<◌, ◌≤◌, Bool, true, false, List, [], ◌∷◌, ◌++◌, length, map, refl, ◌∙◌, subst, arith}
use Rattle.std.proofs.Common.{length-append}
use Rattle.std.specs.Prelude.{◌^◌, ◌-◌, ◌&&◌, nat_eq, nat_le, nat_lt, if◌then◌else◌}
use Rattle.std.proofs.lemmas.Bool.{and_parts, and_from, lt-ltb, leb-true}
use Rattle.std.specs.List.{list_all}
use Rattle.std.proofs.lemmas.List.Folds.{list_all-append}
use Rattle.tl_base.specs.declared.ids.FnId.{FnId}
use Rattle.terra_words.specs.declared.words.FaultKind.TheVariants.{NoReturn}
use Rattle.terra_types.specs.declared.types.TypeForm.{TypeForm}
use Rattle.terra_types.specs.Opening.{AreTypes, unit}
use Rattle.terra_term.specs.declared.lists.TypedName.{TypedName}
use Rattle.terra_term.specs.Stores.{Contents, Callable}
use Rattle.terra_term.specs.Sizes.{body_size}
use Rattle.terra_term.specs.Events.{declares_all, block_events, declared_in}
use Rattle.terra_term.specs.WellTyped as typing
use Rattle.terra_term.specs.WellTyped.{Within, all_typed, body_typed, with_names}
use Rattle.terra_meaning.specs.Values.{bytes_at, is_aggregate}
use Rattle.terra_meaning.specs.Meaning.{the_value}
use Rattle.tac_form.specs.declared.tac.Destination.{Destination}
use Rattle.tac_form.specs.declared.tac.Destination.TheVariants as destinations
use Rattle.tac_form.specs.declared.tac.Block.{Block}
use Rattle.tac_form.specs.declared.tac.Tac.{Tac}
use Rattle.tac_form.specs.Fits.{area_fits, operand_fits, place_fits, area_there, destination_fits, instruction_fits, edge_fits, exit_fits}
use Rattle.tac_form.specs.Fits.{block_fits, is_within, most_nodes}
use Rattle.tac_lower.specs.Items.{Item, does, ends, Ending, skips, tests, repeats, repeats_unless, leaves, gives, fails, count_ends}
use Rattle.tac_lower.specs.Items.{exit_of, onward, Draft, empty_draft, with_item, with_items}
use Rattle.tac_lower.specs.Pieces.{Used, nothing_used, with_temp, with_area, Piece, known, then_piece, taken, an_area, no_word, part_of}
use Rattle.tac_lower.specs.Pieces.{given, Holders, Around, declare_all}
use Rattle.tac_lower.specs.Lowering.{all, received, ending, around, code_of, type_of_name, are_narrow, parameter_types}
use Rattle.tac_lower.proofs.Standing.{Grown}
use Rattle.tac_lower.proofs.Simulates.{grown-none, grown-then}
use Rattle.tac_lower.proofs.Writes.{grown-temp, grown-area}
use Rattle.tac_lower.proofs.Homes.{Homes, homes-of, halves}
use Rattle.tac_lower.proofs.Typing.{declared-count}
use Rattle.tac_lower.proofs.Places.{count-append}
use Rattle.tac_lower.proofs.Fitting as fits
use Rattle.tac_lower.proofs.FitsParts as parts
use Rattle.tac_lower.proofs.FitsParts.{declares-ok}
use Rattle.tac_lower.proofs.FitsTerms.{block-ok}
use Rattle.tac_lower.proofs.FitsFrames.{frame-small}

-- blocks

pub blocks-count : (is : List Item) (d : Draft) → length (with_items d is).blocks ≡ length d.blocks + count_ends is
blocks-count [] d = omega arith
blocks-count (does i ∷ is) d = blocks-count is (with_item d (does i))
blocks-count (ends e ∷ is) d =
    let h = blocks-count is (with_item d (ends e)) in
    let a = length-append d.blocks (record { instructions = d.code; exit = exit_of 0 (length d.blocks) e } ∷ []) in omega (arith, h, a)

module _ (types : List TypeForm) (tac : Tac) where
  abbrev EndFits : Ending → ℕ → Type 0
  EndFits e more = fits.EndFits types tac e more

  abbrev ItemsFit : List Item → ℕ → Type 0
  ItemsFit is more = fits.ItemsFit types tac is more

  abbrev Ok : {A : Type 0} (P : Type 0) → Used → Piece A → (A → Type 0) → Type 0
  Ok P u p R = fits.Ok types tac P u p R

  abbrev within : Used
  within = fits.within types tac

  below : (n : ℕ) → n < length tac.blocks → nat_lt n (length tac.blocks) ≡ true
  below n h = lt-ltb n (length tac.blocks) h

  end-fits : (e : Ending) (n more : ℕ) → n + suc more ≡ length tac.blocks → EndFits e more → exit_fits tac (exit_of 0 n e) ≡ true
  end-fits (skips k) n more e h = below (suc n + k) (omega (arith, e, h))
  end-fits (tests a k) n more e h =
      let l = h.1 in
      and_from (operand_fits tac a && edge_fits tac (onward (suc n))) (edge_fits tac (onward (suc n + k)))
      (and_from (operand_fits tac a) (edge_fits tac (onward (suc n))) h.0 (below (suc n) (omega (arith, e, l))))
      (below (suc n + k) (omega (arith, e, l)))
  end-fits (repeats k) n more e h = below (n - k) (omega (arith, e))
  end-fits (repeats_unless a k) n more e h =
      let l = h.1 in
      and_from (operand_fits tac a && edge_fits tac (onward (suc n))) (nat_lt (n - k) (length tac.blocks))
      (and_from (operand_fits tac a) (edge_fits tac (onward (suc n))) h.0 (below (suc n) (omega (arith, e, l))))
      (below (n - k) (omega (arith, e)))
  end-fits leaves n more e h = below 0 (omega (arith, e))
  end-fits (gives v) n more e h = h
  end-fits (fails kind at) n more e h = h

  items-blocks : (is : List Item) (d : Draft) → length d.blocks + count_ends is ≡ length tac.blocks → ItemsFit is 0 →
      list_all (instruction_fits tac) d.code ≡ true → list_all (block_fits tac) d.blocks ≡ true →
      list_all (block_fits tac) (with_items d is).blocks ≡ true
  items-blocks [] d e h c b = b
  items-blocks (does i ∷ is) d e h c b =
      items-blocks is (with_item d (does i)) e h.1
      (list_all-append (instruction_fits tac) d.code (i ∷ [])
      ∙ and_from (list_all (instruction_fits tac) d.code) (list_all (instruction_fits tac) (i ∷ [])) c
      (and_from (instruction_fits tac i) true h.0 refl)) b
  items-blocks (ends x ∷ is) d e h c b =
      let block : Block = record { instructions = d.code; exit = exit_of 0 (length d.blocks) x } in
      let a = length-append d.blocks (block ∷ []) in
      let f = end-fits x (length d.blocks) (count_ends is + 0) (omega (arith, e)) h.0 in
      items-blocks is (with_item d (ends x)) (omega (arith, e, a)) h.1 refl
      (list_all-append (block_fits tac) d.blocks (block ∷ [])
      ∙ and_from (list_all (block_fits tac) d.blocks) (list_all (block_fits tac) (block ∷ [])) b
      (and_from (block_fits tac block) true
      (and_from (list_all (instruction_fits tac) d.code) (exit_fits tac (exit_of 0 (length d.blocks) x)) c f) refl))

  -- where parameters go

  abbrev Received : List TypedName → Used → List Destination → Type 0
  Received xs u tos =
      (list_all (destination_fits tac) tos ≡ true) × parts.Fills types tac xs u (map given tos)

  received-ok : (xs : List TypedName) (u : Used) → are_narrow types (map type_of_name xs) ≡ true →
      Ok (Unit {0}) u (received types xs u) (Received xs (received types xs u).used)
  received-ok [] u h = fits.known-ok types tac (Received [] u) [] u (λ y. (refl, tt))
  received-ok (x ∷ xs) u h =
      let p = and_parts (nat_le (bytes_at types x.of) typing.widest) (are_narrow types (map type_of_name xs)) h in
      by (is_aggregate types x.of) refl (leb-true (bytes_at types x.of) 128 p.0) (λ v. received-ok xs v p.1)
    where
      by : (b : Bool) → is_aggregate types x.of ≡ b → bytes_at types x.of ≤ 128 →
          ((v : Used) → Ok (Unit {0}) v (received types xs v) (Received xs (received types xs v).used)) →
          (let r = then_piece (if b then known (destinations.Area (length u.areas)) (with_area (bytes_at types x.of) u)
          else known (destinations.Temp u.temps) (with_temp u)) (λ to u'. taken (λ tos. to ∷ tos) (received types xs u')) in
          Ok (Unit {0}) u r (Received (x ∷ xs) r.used))
      by true e narrow more =
          let v = with_area (bytes_at types x.of) u in
          let y = more v in
          record {
            grown = grown-then u v (received types xs v).used (grown-area (bytes_at types x.of) u) y.grown;
            slim = λ n. y.slim (fits.slim-area types tac (bytes_at types x.of) u narrow n);
            fine = λ k g. y.fine k g;
            result = λ k g.
                let g1 = grown-then v (received types xs v).used within y.grown g in
                let r = y.result k g in (
                  and_from (area_there tac (length u.areas)) (list_all (destination_fits tac) (received types xs v).result)
                      (lt-ltb (length u.areas) (length tac.areas) (fits.area-in types tac (bytes_at types x.of) u g1)) r.0,
                  (
                    fits.gives-later types tac the_value x.of v (received types xs v).used (an_area (length u.areas)) y.grown
                        (fits.new-area types tac x.of u g1),
                    r.1,
                  ),
                );
          }
      by false e narrow more =
          let v = with_temp u in
          let y = more v in
          record {
            grown = grown-then u v (received types xs v).used (grown-temp u) y.grown;
            slim = λ n. y.slim n;
            fine = λ k g. y.fine k g;
            result = λ k g.
                let g1 = grown-then v (received types xs v).used within y.grown g in
                let r = y.result k g in
                let own = fits.own-temp types tac u g1 in (
                  and_from (nat_lt u.temps tac.temps) (list_all (destination_fits tac) (received types xs v).result) own r.0,
                  ((own, e), r.1),
                );
          }

  narrow-names : (xs : List TypedName) (rs : List Destination) → are_narrow types (map type_of_name xs) ≡ true →
      parts.Narrows types tac xs (map given rs)
  narrow-names [] [] h = tt
  narrow-names [] (r ∷ rs) h = tt
  narrow-names (x ∷ xs) [] h = tt
  narrow-names (x ∷ xs) (r ∷ rs) h =
      let p = and_parts (nat_le (bytes_at types x.of) typing.widest) (are_narrow types (map type_of_name xs)) h in
      (leb-true (bytes_at types x.of) 128 p.0, narrow-names xs rs p.1)

  ending-fits : (k : Callable) → place_fits k.at ≡ true → ItemsFit (ending k ∷ []) 0
  ending-fits k place = by (nat_eq k.body.result.0 unit.0)
    where
      by : (b : Bool) → ItemsFit (ends (if b then gives (part_of no_word) else fails NoReturn k.at) ∷ []) 0
      by true = (refl, tt)
      by false = (place, tt)

-- the code of a function that calls reach
module _ (store : Contents) (entries : List FnId) (k : Callable) (are : AreTypes store.types) (few : length entries < 2 ^ 32)
    (place : place_fits k.at ≡ true) (small : (body_size k.body).nodes ≤ most_nodes) (h : body_typed store k.body ≡ true)
    (narrow : are_narrow store.types (parameter_types k) ≡ true) where
  abbrev types : List TypeForm
  types = store.types

  abbrev tac : Tac
  tac = code_of store entries k

  abbrev c : Around
  c = around store entries k

  abbrev tos : Piece (List Destination)
  tos = received types k.body.parameters nothing_used

  abbrev D : Piece Holders
  D = declare_all c k.at k.body.parameters (map given tos.result) 0 [] tos.used

  abbrev B : Piece Holders
  B = all c k.body.body (length k.body.parameters) D.result D.used

  homes : Homes types tac.frame c.homes 0 (declared_in (declares_all k.body.parameters))
      × Homes types tac.frame c.homes (length k.body.parameters) (declared_in (block_events k.body.body))
  homes =
      let s = halves types tac.frame c.homes (declares_all k.body.parameters) (block_events k.body.body) 0 (homes-of types k.body are) in
      (s.0, subst (λ j. Homes types tac.frame c.homes j (declared_in (block_events k.body.body))) (declared-count k.body.parameters) s.1)

  abbrev Start : Type 0
  Start = parts.Fills types tac k.body.parameters tos.used (map given tos.result)

  start-ok : fits.Ok types tac (Unit {0}) nothing_used tos (Received types tac k.body.parameters tos.used)
  start-ok = received-ok types tac k.body.parameters nothing_used narrow

  declares : fits.Ok types tac Start tos.used D (parts.Scoped types tac (with_names k.body.parameters []))
  declares =
      declares-ok types tac store are entries few c.homes k.at k.body.parameters
      (map given tos.result) 0 [] [] tos.used tos.used Start place
      homes.0 (narrow-names types tac k.body.parameters tos.result narrow) (λ y. y) (λ y. tt)

  body : fits.Ok types tac (parts.Scoped types tac (with_names k.body.parameters []) D.result) D.used B
      (parts.Scoped types tac (typing.after_all k.body.body (with_names k.body.parameters [])))
  body =
      let w : Within = record { result = k.body.result; in_loop = false; in_let = false } in
      let t = and_parts (typing.names_laid_out store k.body.parameters) (all_typed store w (with_names k.body.parameters []) k.body.body) h
      in
      block-ok types tac store are entries few c.homes k.body.body (length k.body.parameters) w (with_names k.body.parameters []) D.result
      D.used t.1 homes.1

  whole : Grown B.used (fits.within types tac)
  whole = grown-none B.used

  upto : Grown tos.used (fits.within types tac)
  upto = grown-then tos.used D.used (fits.within types tac) declares.grown (grown-then D.used B.used
      (fits.within types tac) body.grown whole)

  middle : Grown D.used (fits.within types tac)
  middle = grown-then D.used B.used (fits.within types tac) body.grown whole

  begun : Received types tac k.body.parameters tos.used tos.result
  begun = start-ok.result tt upto

  items-fit : fits.ItemsFit types tac ((D.code ++ B.code) ++ ending k ∷ []) 0
  items-fit =
      fits.items-append types tac (D.code ++ B.code) (ending k ∷ []) 0
      (fits.fine-append types tac D.code B.code (declares.fine begun.1 middle) (body.fine (declares.result begun.1 middle) whole) 1
      (omega arith))
      (ending-fits types tac k place)

  blocks-fit : list_all (block_fits tac) tac.blocks ≡ true
  blocks-fit =
      items-blocks types tac ((D.code ++ B.code) ++ ending k ∷ []) empty_draft
      (let e = blocks-count ((D.code ++ B.code) ++ ending k ∷ []) empty_draft in omega (arith, e)) items-fit refl refl

  some-blocks : 0 < length tac.blocks
  some-blocks =
      let e = blocks-count ((D.code ++ B.code) ++ ending k ∷ []) empty_draft in
      let a = count-append (D.code ++ B.code) (ending k ∷ []) in omega (arith, e, a)

  pub code-within : is_within tac ≡ true
  code-within =
      and_from (list_all (block_fits tac) tac.blocks && list_all (destination_fits tac) tac.parameters && list_all area_fits tac.areas
      && place_fits tac.place && nat_lt tac.frame (2 ^ 63)) (nat_lt 0 (length tac.blocks))
      (and_from (list_all (block_fits tac) tac.blocks && list_all (destination_fits tac) tac.parameters && list_all area_fits tac.areas
      && place_fits tac.place) (nat_lt tac.frame (2 ^ 63))
      (and_from (list_all (block_fits tac) tac.blocks && list_all (destination_fits tac) tac.parameters && list_all area_fits tac.areas)
      (place_fits tac.place)
      (and_from (list_all (block_fits tac) tac.blocks && list_all (destination_fits tac) tac.parameters) (list_all area_fits tac.areas)
      (and_from (list_all (block_fits tac) tac.blocks) (list_all (destination_fits tac) tac.parameters) blocks-fit begun.0)
      (body.slim (declares.slim (start-ok.slim refl))))
      place)
      (lt-ltb tac.frame (2 ^ 63) (frame-small types are k.body small)))
      (lt-ltb 0 (length tac.blocks) some-blocks)
