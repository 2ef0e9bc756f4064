-- A value of a struct from those of its entries: an area that is cleared, and stores into it.
use Rattle.std.proofs.Common.{◌≡◌, ◌≢◌, ℕ, ◌+◌, ◌<◌, ◌≤◌, Bool, true, false, List, [], ◌∷◌, ◌++◌, length, replicate, refl, sym, ap, ◌∙◌}
use Rattle.std.proofs.Common.{subst, arith, append-nil, length-append, ⊎_elim}
use Rattle.std.specs.Prelude.{nat_eq, nat_le, take, drop, if◌then◌else◌}
use Rattle.std.proofs.lemmas.Bool.{eqb-true, eqb-false, le-leb}
use Rattle.std.proofs.lemmas.List.{take_all, take-append-drop, length-replicate}
use Rattle.std.proofs.lemmas.Bool.Decides.{eqb_tells}
use Rattle.tl_base.specs.declared.ids.TypeId.{TypeId}
use Rattle.terra_memory.specs.Numbers.{low_bytes, part, overwritten}
use Rattle.terra_memory.proofs.Overwriting.{length-overwritten}
use Rattle.terra_memory.proofs.Bytes.{length-low_bytes}
use Rattle.terra_words.specs.Runs.{Value, word, bytes, Stuck}
use Rattle.terra_term.specs.declared.lists.TypedName.{TypedName}
use Rattle.terra_meaning.specs.Values.{form_at, bytes_at, is_aggregate, encoded, IsValue}
use Rattle.terra_meaning.specs.Running.{State, Gives}
use Rattle.terra_meaning.specs.Meaning as meaning
use Rattle.terra_meaning.specs.Meaning.{the_value}
use Rattle.tac_form.specs.declared.tac.Spot.TheVariants as spots
use Rattle.tac_form.specs.declared.tac.Instruction.TheVariants.{Store, Move, Clear}
use Rattle.tac_form.specs.Flow as flow
use Rattle.tac_form.specs.Flow.{Goes, area_size}
use Rattle.tac_lower.specs.Items.{Item}
use Rattle.tac_lower.specs.Pieces.{Used, with_area, Piece, known, Result, a_word, an_area, an_offset, Holders, number_of, stored}
use Rattle.tac_lower.specs.Pieces.{stored_part}
use Rattle.tac_lower.specs.Lowering.{constructed, construct}
pub use Rattle.tac_lower.specs.Needs.{EntriesFit}
use Rattle.tac_lower.proofs.Places.{Point, step_on, after, after-append, HasAt, has-front, has-back}
use Rattle.tac_lower.proofs.Standing.{Setting, Private, stands, Leads, leads-to, one-step, word_in, operand-is, Fine, Keeps, Grown, Means}
use Rattle.tac_lower.proofs.Simulates.{Fact, one_of, all_of, AllMean, whole, Sim, grown-none, facts-later}
use Rattle.tac_lower.proofs.Writes.{put-same, put-other, with_bytes, holds-later, grown-area}
use Rattle.tac_lower.proofs.Loads.{area-size, is-value}
use Rattle.tac_lower.proofs.Stores.{store-size, encoded-word, encoded-none, encoded-bytes}

-- the code uses nothing more

stored-used : (z : Setting) (t : TypeId) (area offset : ℕ) (r : Result) (u : Used) →
    (stored z.types t (spots.Area area offset) r u).used ≡ u
stored-used z t area offset r u = by (nat_eq (bytes_at z.types t) 0) r
  where
    by : (b : Bool) (q : Result) → (if b then known (tt {0}) u else stored_part z.types t (spots.Area area offset) q u).used ≡ u
    by true q = refl
    by false (a_word o) = refl
    by false (an_area m) = refl
    by false (an_offset o) = refl

constructed-used : (z : Setting) (area : ℕ) (os : List ℕ) (ts : List TypeId) (rs : List Result) (u : Used) →
    (constructed z.types area os ts rs u).used ≡ u
constructed-used z area [] ts rs u = refl
constructed-used z area (o ∷ os) [] rs u = refl
constructed-used z area (o ∷ os) (t ∷ ts) [] u = refl
constructed-used z area (o ∷ os) (t ∷ ts) (r ∷ rs) u =
    constructed-used z area os ts rs (stored z.types t (spots.Area area o) r u).used ∙ stored-used z t area o r u

-- the bytes of a value

encoded-length : (z : Setting) (t : TypeId) (v : Value) → IsValue z.types t v → length (encoded z.types t v) ≡ bytes_at z.types t
encoded-length z t (word x) h = ap length (encoded-word z t x h.0) ∙ length-low_bytes (bytes_at z.types t) x
encoded-length z t (bytes bs) h = ap length (encoded-bytes z t bs h.0) ∙ h.1

overwritten-none : (all : List ℕ) (at : ℕ) → overwritten all at [] ≡ all
overwritten-none all at =
    let e : at + 0 ≡ at = omega arith in
    ap (λ l. l ++ drop (at + 0) all) (append-nil (take at all)) ∙ ap (λ m. take at all ++ drop m all) e ∙ take-append-drop at all

-- What code leads to that fills an area: other areas and the temporaries stay.
record Filled (z : Setting) (area : ℕ) (at : Point) (k : Private) (s : State) (to : Point) (all : List ℕ) : Type 0 where
  private : Private
  leads : Leads z at k s to private s
  temps : (t : ℕ) → private.temps t ≡ k.temps t
  others : (m : ℕ) → m ≢ area → private.areas m ≡ k.areas m
  is : private.areas area ≡ all

filled-put : (z : Setting) (area : ℕ) (at : Point) (k : Private) (s : State) (bs : List ℕ) →
    Leads z at k s (step_on at) (with_bytes area bs k) s → Filled z area at k s (step_on at) bs
filled-put z area at k s bs leads = record {
  private = with_bytes area bs k;
  leads = leads;
  temps = λ t. refl;
  others = λ m ne. put-other k.areas area bs m ne;
  is = put-same k.areas area bs;
}

-- bytes go into the area
puts-into : (z : Setting) (area offset : ℕ) (at : Point) (k : Private) (s : State) (all bs : List ℕ) → k.areas area ≡ all →
    offset ≤ length all →
    flow.to_spot (spots.Area area offset) bs (stands z at k s) ≡ Goes
    (stands z (step_on at) (with_bytes area (overwritten all offset bs) k) s)
puts-into z area offset at k s all bs e le =
    ap (λ l. if nat_le offset (length l) then Goes (flow.ahead (flow.set_area area (overwritten l offset bs) (stands z at k s)))
    else flow.stop (stands z at k s) Stuck) e
    ∙ ap (λ b. if b then Goes (flow.ahead (flow.set_area area (overwritten all offset bs) (stands z at k s)))
    else flow.stop (stands z at k s) Stuck) (le-leb offset (length all) le)

module _ (z : Setting) (scope : Holders) (u0 : Used) (size : ℕ) where
  abbrev area : ℕ
  area = length u0.areas

  -- one entry
  fills_one : (t : TypeId) (offset : ℕ) (r : Result) (v : Value) (u : Used) (all : List ℕ) (out : ℕ) (at : Point) (k : Private)
      (s : State) →
      HasAt z.tac.blocks out at (stored z.types t (spots.Area area offset) r u).code → Means z the_value t scope u0 r k v →
      k.areas area ≡ all → offset + bytes_at z.types t ≤ length all →
      Filled z area at k s (after (stored z.types t (spots.Area area offset) r u).code at) (overwritten all offset (encoded z.types t v))
  fills_one t offset r v u all out at k s has means e fits = by (nat_eq (bytes_at z.types t) 0) refl r means has
    where
      code : Bool → Result → Piece (Unit {0})
      code b q = if b then known (tt {0}) u else stored_part z.types t (spots.Area area offset) q u

      End : Point → Type 0
      End to = Filled z area at k s to (overwritten all offset (encoded z.types t v))

      le : offset ≤ length all
      le = omega (arith, fits)

      by : (b : Bool) → nat_eq (bytes_at z.types t) 0 ≡ b → (q : Result) → Means z the_value t scope u0 q k v →
          HasAt z.tac.blocks out at (code b q).code → End (after (code b q).code at)
      by true none q m h =
          let empty = encoded-none z t v (is-value z t q v m.good) (eqb-true (bytes_at z.types t) 0 none) in
          record {
            private = k;
            leads = (0, refl);
            temps = λ i. refl;
            others = λ i ne. refl;
            is = e ∙ sym (ap (overwritten all offset) empty ∙ overwritten-none all offset);
          }
      by false some (a_word o) m h =
          let value = subst (λ x. IsValue z.types t x) (sym m.is) m.good in
          let width = store-size z t (form_at z.types t) refl value.0 (eqb-false (bytes_at z.types t) 0 some) in
          let same : low_bytes (flow.bytes_of (number_of z.types t).size) (flow.operand (stands z at k s) o) ≡ encoded z.types t v =
          ap (low_bytes (flow.bytes_of (number_of z.types t).size)) (operand-is z at k s o) ∙ ap (λ i. low_bytes i (word_in k o)) width
          ∙ sym (encoded-word z t (word_in k o) value.0) ∙ ap (encoded z.types t) m.is in
          filled-put z area at k s (overwritten all offset (encoded z.types t v)) (
            1,
            one-step z at k s (Store (spots.Area area offset) (number_of z.types t).size o) h.0
                ∙ ap (λ bs. flow.to_spot (spots.Area area offset) bs (stands z at k s)) same
                ∙ puts-into z area offset at k s all (encoded z.types t v) e le,
          )
      by false some (an_area j) m h =
          let value = subst (λ x. IsValue z.types t x) (sym m.is) m.good in
          let within : 0 + bytes_at z.types t ≤ length (k.areas j) = omega (arith, value.1) in
          let short : length (k.areas j) ≤ bytes_at z.types t = omega (arith, value.1) in
          let same : k.areas j ≡ encoded z.types t v = sym (encoded-bytes z t (k.areas j) value.0) ∙ ap (encoded z.types t) m.is in
          filled-put z area at k s (overwritten all offset (encoded z.types t v)) (
            1,
            one-step z at k s (Move (spots.Area area offset) (spots.Area j 0) (bytes_at z.types t)) h.0
                ∙ ap (λ b. if b then flow.to_spot (spots.Area area offset) (part (k.areas j) 0 (bytes_at z.types t)) (stands z at k s)
                else flow.stop (stands z at k s) Stuck) (le-leb (0 + bytes_at z.types t) (length (k.areas j)) within)
                ∙ ap (λ bs. flow.to_spot (spots.Area area offset) bs (stands z at k s))
                (take_all (bytes_at z.types t) (k.areas j) short ∙ same)
                ∙ puts-into z area offset at k s all (encoded z.types t v) e le,
          )
      by false some (an_offset o) m h = absurd m.good

  -- what is known of the entries stays known
  entries-later : (ts : List TypeId) (rs : List Result) (vs : List Value) (k k1 : Private) → ((t : ℕ) → k1.temps t ≡ k.temps t) →
      ((m : ℕ) → m ≢ area → k1.areas m ≡ k.areas m) → AllMean z scope u0 ts rs vs k → AllMean z scope u0 ts rs vs k1
  entries-later ts rs vs k k1 temps others h =
      let kept : Keeps scope u0 k k1 = record {
        temps = λ t lt away. temps t;
        areas = λ m lt. let ne : m ≢ area = omega (arith, lt) in others m ne;
      } in
      (facts-later z scope scope u0 u0 k k1 (grown-none u0) (λ t lt away. away) kept (all_of ts rs vs ∷ []) (h, tt)).0

  -- all entries
  fills_all : (os : List ℕ) (ts : List TypeId) (rs : List Result) (vs : List Value) (u : Used) (all : List ℕ) (out : ℕ) (at : Point)
      (k : Private) (s : State) → HasAt z.tac.blocks out at (constructed z.types area os ts rs u).code → AllMean z scope u0 ts rs vs k →
      k.areas area ≡ all → length all ≡ size → EntriesFit z.types size os ts →
      Filled z area at k s (after (constructed z.types area os ts rs u).code at) (meaning.constructed z.types all os ts vs)
      × (length (meaning.constructed z.types all os ts vs) ≡ size)
  fills_all [] ts rs vs u all out at k s has means e long fit =
      (record { private = k; leads = (0, refl); temps = λ t. refl; others = λ m ne. refl; is = e }, long)
  fills_all (o ∷ os) [] [] [] u all out at k s has means e long fit =
      (record { private = k; leads = (0, refl); temps = λ t. refl; others = λ m ne. refl; is = e }, long)
  fills_all (o ∷ os) [] [] (v ∷ vs) u all out at k s has means e long fit = absurd means
  fills_all (o ∷ os) [] (r ∷ rs) vs u all out at k s has means e long fit = absurd means
  fills_all (o ∷ os) (t ∷ ts) [] vs u all out at k s has means e long fit = absurd means
  fills_all (o ∷ os) (t ∷ ts) (r ∷ rs) [] u all out at k s has means e long fit = absurd means
  fills_all (o ∷ os) (t ∷ ts) (r ∷ rs) (v ∷ vs) u all out at k s has means e long fit =
      let p = stored z.types t (spots.Area area o) r u in
      let q = constructed z.types area os ts rs p.used in
      let within : o + bytes_at z.types t ≤ length all = omega (arith, fit.0, long) in
      let f = fills_one t o r v u all out at k s (has-front z.tac.blocks out at p.code q.code has) means.0 e within in
      let enc = encoded-length z t v (is-value z t r v means.0.good) in
      let more : o + length (encoded z.types t v) ≤ length all = omega (arith, within, enc) in
      let long1 = length-overwritten all (encoded z.types t v) o more ∙ long in
      let g = fills_all os ts rs vs p.used (overwritten all o (encoded z.types t v)) out (after p.code at) f.private s
      (has-back z.tac.blocks out at p.code q.code has) (entries-later ts rs vs k f.private f.temps f.others means.1) f.is long1 fit.1 in (
        record {
          private = g.0.private;
          leads = subst (λ to. Leads z at k s to g.0.private s) (sym (after-append p.code q.code at))
              (leads-to z at k s (after p.code at) f.private s (Goes (stands z (after q.code (after p.code at)) g.0.private s)) f.leads
              g.0.leads);
          temps = λ i. g.0.temps i ∙ f.temps i;
          others = λ m ne. g.0.others m ne ∙ f.others m ne;
          is = g.0.is;
        },
        g.1,
      )

pub construct_sim : {z : Setting} {n : ℕ} {names : List TypedName} {scope : Holders} {facts : List Fact} (u : Used) (of : TypeId)
    (os : List ℕ) (ts : List TypeId) (rs : List Result) (vs : List Value) → is_aggregate z.types of ≡ true →
    EntriesFit z.types (bytes_at z.types of) os ts →
    Sim z n names scope (all_of ts rs vs ∷ facts) u (construct z.types (bytes_at z.types of) os ts rs u)
    (λ s. Gives (bytes (meaning.constructed z.types (replicate (bytes_at z.types of) 0) os ts vs)) s) names scope
    (λ w. one_of the_value of (an_area (length u.areas)) w)
construct_sim {z} {n} {names} {scope} {facts} u of os ts rs vs agg fit = record {
  grown = subst (λ v. Grown u v) (sym used) (grown-area size u);
  over = λ t lt away. away;
  run = λ out at k s has whole_ fine knows less.
      let area_is = area-size z size u (subst (λ v. Grown v (whole z)) used whole_) in
      let zeros = replicate size 0 in
      let long : length zeros ≡ size = length-replicate size 0 in
      let k1 = with_bytes area zeros k in
      let cleared : Leads z at k s (step_on at) k1 s = (1, one-step z at k s (Clear area size) has.0) in
      let means1 = entries-later z scope u size ts rs vs k k1 (λ t. refl) (λ m ne. put-other k.areas area zeros m ne) knows.0 in
      let f = fills_all z scope u size os ts rs vs (with_area size u) zeros out (step_on at) k1 s has.1 means1
      (put-same k.areas area zeros) long fit in
      let k2 = f.0.private in
      let all = meaning.constructed z.types zeros os ts vs in
      let longer : length u.areas < length (u.areas ++ size ∷ []) = omega (arith, length-append u.areas (size ∷ [])) in
      record {
        private = k2;
        leads = leads-to z at k s (step_on at) k1 s (Goes (stands z (after code (step_on at)) k2 s)) cleared f.0.leads;
        ok = record {
          is = ap bytes f.0.is;
          own = subst (λ v. length u.areas < length v.areas) (sym used) longer;
          good = (agg, f.1);
        };
        fine = subst (λ v. Fine z names scope v k2 s) (sym used) (record {
          holds = holds-later z names scope s.variables u.temps u.temps k k2 (omega arith) (λ t lt. f.0.temps t) fine.holds;
          small = λ m. small k k2 all f.0.is (λ i ne. f.0.others i ne ∙ put-other k.areas area zeros i ne)
              (let e = f.1 in omega (arith, e, area_is)) fine.small m;
          sized = fine.sized;
        });
        keeps = record {
          temps = λ t lt away. f.0.temps t;
          areas = λ m lt. let ne : m ≢ area = omega (arith, lt) in f.0.others m ne ∙ put-other k.areas area zeros m ne;
        };
        fewer = omega arith;
      };
}
  where
    size : ℕ
    size = bytes_at z.types of

    area : ℕ
    area = length u.areas

    code : List Item
    code = (constructed z.types area os ts rs (with_area size u)).code

    used : (construct z.types size os ts rs u).used ≡ with_area size u
    used = constructed-used z area os ts rs (with_area size u)

    -- areas are no longer than they may be
    small : (k k2 : Private) (all : List ℕ) → k2.areas area ≡ all → ((m : ℕ) → m ≢ area → k2.areas m ≡ k.areas m) →
        length all ≤ area_size z.tac area → ((m : ℕ) → length (k.areas m) ≤ area_size z.tac m) → (m : ℕ) →
        length (k2.areas m) ≤ area_size z.tac m
    small k k2 all is others fits before m = ⊎_elim
        (λ t. subst (λ i. length (k2.areas i) ≤ area_size z.tac i) (sym t.1) (subst (λ l. length l ≤ area_size z.tac area) (sym is) fits))
        (λ f. subst (λ l. length l ≤ area_size z.tac m) (sym (others m f.1)) (before m))
        (eqb_tells m area)
