-- Statics take half of the memory at most, and another one for which there is room does so too.
use Rattle.std.proofs.Common.{◌≡◌, ℕ, ◌+◌, ◌-◌, ◌*◌, ◌/◌, ◌≤◌, Bool, true, false, List, [], ◌∷◌, ◌++◌, length, replicate, refl, sym, ap}
use Rattle.std.proofs.Common.{◌∙◌, subst, arith}
use Rattle.std.proofs.lemmas.Bool.{leb-true}
use Rattle.std.proofs.lemmas.List.{length-append, length-replicate}
use Rattle.terra_term.specs.declared.store.Static.{Static}
use Rattle.terra_term.specs.Held.{first_static, end_from, statics_end, next_static, has_room}
use Rattle.terra_term.specs.Stores.{static_bytes}
use Rattle.exotype.specs.World.{StageState}
use Rattle.check_sound.specs.Sound.{StaticsFit}

-- the bytes of statics behind bytes: those of statics of which the first has these bytes
abbrev behind : List ℕ → List Static → List ℕ
behind bs ss =
    static_bytes (record {
      types = [];
      functions = [];
      statics = record { address = 0; is_text = false; bytes = bs } ∷ ss;
      typed = [];
    })

-- statics fit in a world with the same ones and as much memory
pub fits-same : (w v : StageState) → v.store.statics ≡ w.store.statics → v.memory ≡ w.memory → StaticsFit w → StaticsFit v
fits-same w v statics memory h = record {
  below = subst (λ (ss : List Static). first_static + length (behind [] ss) ≤ statics_end ss) (sym statics) h.below;
  half =
      subst (λ (n : ℕ). length (behind [] v.store.statics) ≤ n / 2) (sym memory)
      (subst (λ (ss : List Static). length (behind [] ss) ≤ w.memory / 2) (sym statics) h.half);
}

-- ---- another static

-- the last one stands behind the others, with zeros up to its address
last-bytes : (bs : List ℕ) (ss : List Static) (s : Static) →
    behind bs (ss ++ s ∷ []) ≡ behind bs ss ++ replicate (s.address - first_static - length (behind bs ss)) 0 ++ s.bytes
last-bytes bs [] s = refl
last-bytes bs (x ∷ ss) s = last-bytes (bs ++ replicate (x.address - first_static - length bs) 0 ++ x.bytes) ss s

last-end : (end : ℕ) (ss : List Static) (s : Static) → end_from end (ss ++ s ∷ []) ≡ s.address + length s.bytes
last-end end [] s = refl
last-end end (x ∷ ss) s = last-end (x.address + length x.bytes) ss s

last-length : (ss : List Static) (s : Static) →
    length (behind [] (ss ++ s ∷ [])) ≡
    length (behind [] ss) + (s.address - first_static - length (behind [] ss)) + length s.bytes
last-length ss s =
    let filled : ℕ = s.address - first_static - length (behind [] ss) in
    ap (λ (l : List ℕ). length l) (last-bytes [] ss s) ∙
    (length-append (behind [] ss ++ replicate filled 0) s.bytes ∙
    ap (λ n. n + length s.bytes)
    (length-append (behind [] ss) (replicate filled 0) ∙
    ap (λ n. length (behind [] ss) + n) (length-replicate {A = ℕ} filled 0)))

-- a new static stands at the next address, and lies within half of the memory where there is room for it
pub fits-more : (w v : StageState) (is_text : Bool) (bytes : List ℕ) → v.memory ≡ w.memory →
    v.store.statics ≡
    w.store.statics ++ record { address = next_static w.store.statics; is_text = is_text; bytes = bytes } ∷ [] →
    has_room w.memory w.store.statics (length bytes) ≡ true → StaticsFit w → StaticsFit v
fits-more w v is_text bytes memory statics room h =
    let ss = w.store.statics in
    let s : Static = record { address = next_static ss; is_text = is_text; bytes = bytes } in
    let all : length (behind [] v.store.statics) ≡
    length (behind [] ss) + (next_static ss - first_static - length (behind [] ss)) + length bytes =
    ap (λ l. length (behind [] l)) statics ∙ last-length ss s in
    let end : statics_end v.store.statics ≡ next_static ss + length bytes =
    ap (λ l. statics_end l) statics ∙ last-end first_static ss s in
    let below : first_static + length (behind [] ss) ≤ statics_end ss = h.below in
    let room_is : next_static ss + length bytes ≤ first_static + w.memory / 2 =
    leb-true (next_static ss + length bytes) (first_static + w.memory / 2) room in
    let numbers = in_numbers (length (behind [] ss)) (statics_end ss) (length bytes) (w.memory / 2) below room_is in
    record {
      below =
          subst (λ n. first_static + n ≤ statics_end v.store.statics) (sym all)
          (subst (λ n. first_static + (length (behind [] ss) + (next_static ss - first_static - length (behind [] ss)) +
          length bytes) ≤ n) (sym end) numbers.0);
      half =
          subst (λ n. length (behind [] v.store.statics) ≤ n / 2) (sym memory)
          (subst (λ n. n ≤ w.memory / 2) (sym all) numbers.1);
    }
  where
    in_numbers : (bytes end size half : ℕ) → first_static + bytes ≤ end →
        (end + 15) / 16 * 16 + size ≤ first_static + half →
        (first_static + (bytes + ((end + 15) / 16 * 16 - first_static - bytes) + size) ≤ (end + 15) / 16 * 16 + size) ×
        (bytes + ((end + 15) / 16 * 16 - first_static - bytes) + size ≤ half)
    in_numbers bytes end size half below room = (omega (arith, below, room), omega (arith, below, room))
