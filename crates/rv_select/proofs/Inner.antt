-- Steps of three-address code that stay within a function.
use Rattle.std.proofs.Common.{◌≡◌, ℕ, zero, suc, ◌+◌, ◌-◌, Bool, true, false, ◌&&◌, List, [], ◌∷◌, length, Option, Some, None, refl, sym}
use Rattle.std.proofs.Common.{ap, ◌∙◌, inl, inr, arith}
use Rattle.std.specs.Prelude.{if◌then◌else◌, nat_eq, nat_le, ◌⊎◌}
use Rattle.std.specs.Prelude.{ℤ, pos, negsuc}
use Rattle.tl_base.specs.declared.place.Place.{Place}
use Rattle.terra_memory.specs.Numbers.{overwritten}
use Rattle.terra_memory.specs.Region.{Contents, alloc_of, aligned, first_address, heap_limit, is_inside, range_of}
use Rattle.terra_memory.proofs.Overwriting.{length-overwritten}
use Rattle.terra_memory.proofs.RegionLaws.{inside_parts}
use Rattle.terra_words.specs.Runs.{More, Over, put_bytes}
use Rattle.tac_form.specs.declared.tac.Spot.{Spot}
use Rattle.tac_form.specs.declared.tac.Spot.TheVariants as spots
use Rattle.tac_form.specs.declared.tac.Edge.{Edge}
use Rattle.tac_form.specs.declared.tac.Exit.{Exit}
use Rattle.tac_form.specs.declared.tac.Exit.TheVariants.{Branch, Fail, Jump, Return}
use Rattle.tac_form.specs.declared.tac.Instruction.{Instruction}
use Rattle.tac_form.specs.declared.tac.Instruction.TheVariants.{Alloc, Call, CallValue, Clear, Compute, Copy, Load, Locate, Move, PutByte}
use Rattle.tac_form.specs.declared.tac.Instruction.TheVariants.{Store, TestDivisor, Write}
use Rattle.tac_form.specs.Flow as tac
use Rattle.tac_form.specs.Flow.{Areas, Goes, Program, Stops, Temps, act, address, allocated, fetched, follow, from_spot, leave, operand}
use Rattle.tac_form.specs.Flow.{step, to_spot, written}
use Rattle.terra_words.specs.Words.{divides, is_negative}
use Rattle.rv_select.specs.Shapes.{has_exit_shape, has_shape}
use Rattle.rv_select.proofs.Carries.{by-test}

-- A step goes on behind the instruction.
pub record Stays (s t : tac.State) : Type 0 where
  pub temps : Temps
  pub areas : Areas
  pub region : Contents
  pub out : List ℕ
  pub is : t ≡ record s { here = record s.here { at = suc s.here.at; temps = temps; areas = areas }; region = region; out = out }
  pub long : length region.bytes ≡ length s.region.bytes

abbrev pub StaysIf : tac.State → tac.Moved → Type 0
StaysIf s (Goes t) = Stays s t
StaysIf s (Stops r) = Unit {0}

fetched-stays : (at : Place) (s : tac.State) (o : Option (List ℕ)) (go : List ℕ → tac.Moved) → ((bs : List ℕ) → StaysIf s (go bs)) →
    StaysIf s (fetched at s o go)
fetched-stays at s None go f = tt
fetched-stays at s (Some bs) go f = f bs

from-stays : (spot : Spot) (size : ℕ) (s : tac.State) (go : List ℕ → tac.Moved) → ((bs : List ℕ) → StaysIf s (go bs)) →
    StaysIf s (from_spot spot size s go)
from-stays (spots.Region at a) size s go f = fetched-stays at s (range_of s.region (address s a) size) go f
from-stays (spots.Area n offset) size s go f = by-test (StaysIf s) (nat_le (offset + size) (length (s.here.areas n))) _ _ (λ e. f _)
    (λ e. tt)

put-long : (r t : Contents) (a : ℕ) (bs : List ℕ) → put_bytes r a bs ≡ Some t → length t.bytes ≡ length r.bytes
unfolding put_bytes
put-long r t a [] e = let same : r ≡ t = cc in ap (λ c. length c.bytes) (sym same)
put-long r t a (b ∷ bs) e = tested (is_inside r a (length (b ∷ bs))) refl e
  where
    inside : is_inside r a (length (b ∷ bs)) ≡ true → length (overwritten r.bytes (a - first_address) (b ∷ bs)) ≡ length r.bytes
    inside g =
        let i = inside_parts r a (length (b ∷ bs)) g in
        length-overwritten r.bytes (b ∷ bs) (a - first_address) (omega (arith, i.0, i.1))

    tested : (c : Bool) → is_inside r a (length (b ∷ bs)) ≡ c →
        (if c then Some (record r { bytes = overwritten r.bytes (a - first_address) (b ∷ bs) }) else None) ≡ Some t →
        length t.bytes ≡ length r.bytes
    tested true g h = let same : record r { bytes = overwritten r.bytes (a - first_address) (b ∷ bs) } ≡ t = cc in ap (λ c. length c.bytes)
        (sym same) ∙ inside g
    tested false g h = cc

written-stays : (at : Place) (s : tac.State) (o : Option Contents) →
    ((r : Contents) → o ≡ Some r → length r.bytes ≡ length s.region.bytes) → StaysIf s (written at s o)
written-stays at s None f = tt
written-stays at s (Some r) f = record { temps = s.here.temps; areas = s.here.areas; region = r; out = s.out; is = refl; long = f r refl }

to-stays : (spot : Spot) (bs : List ℕ) (s : tac.State) → StaysIf s (to_spot spot bs s)
to-stays (spots.Region at a) bs s = written-stays at s (put_bytes s.region (address s a) bs) (λ r e. put-long s.region r (address s a) bs e)
to-stays (spots.Area n offset) bs s =
    by-test (StaysIf s) (nat_le offset (length (s.here.areas n))) _ _
    (λ e. record { temps = s.here.temps; areas = _; region = s.region; out = s.out; is = refl; long = refl }) (λ e. tt)

alloc-long : (r : Contents) (z : ℤ) → length (alloc_of r z).1.bytes ≡ length r.bytes
unfolding alloc_of
alloc-long r (negsuc n) = refl
alloc-long r (pos count) =
    by-test {A = ℕ × Contents} (λ g. length g.1.bytes ≡ length r.bytes) (nat_le (aligned r.heap + count) (heap_limit r))
    (aligned r.heap, record r { heap = aligned r.heap + count }) (0, r) (λ e. refl) (λ e. refl)

pub act-stays : (p : Program) (i : Instruction) (s : tac.State) → has_shape i ≡ true → StaysIf s (act p i s)
act-stays p (Compute d op form a b) s h =
    by-test (StaysIf s) (divides op && nat_eq (operand s b) 0) _ _ (λ e. tt)
    (λ e. record { temps = _; areas = s.here.areas; region = s.region; out = s.out; is = refl; long = refl })
act-stays p (TestDivisor at a) s h =
    by-test (StaysIf s) (nat_eq (operand s a) 0) _ _ (λ e. tt)
    (λ e. record { temps = s.here.temps; areas = s.here.areas; region = s.region; out = s.out; is = refl; long = refl })
act-stays p (Copy d a) s h = record { temps = _; areas = s.here.areas; region = s.region; out = s.out; is = refl; long = refl }
act-stays p (Locate d offset) s h = record { temps = _; areas = s.here.areas; region = s.region; out = s.out; is = refl; long = refl }
act-stays p (Load d form spot) s h =
    from-stays spot _ s _ (λ bs. record { temps = _; areas = s.here.areas; region = s.region; out = s.out; is = refl; long = refl })
act-stays p (Store spot size a) s h = to-stays spot _ s
act-stays p (Move to from size) s h = from-stays from size s (λ bs. to_spot to bs s) (λ bs. to-stays to bs s)
act-stays p (Clear n size) s h = record { temps = s.here.temps; areas = _; region = s.region; out = s.out; is = refl; long = refl }
act-stays p (Call to at f arguments) s h = cc
act-stays p (CallValue to at sig a arguments) s h = cc
act-stays p (PutByte a) s h = record { temps = s.here.temps; areas = s.here.areas; region = s.region; out = _; is = refl; long = refl }
act-stays p (Write at a b) s h =
    by-test (StaysIf s) (is_negative (operand s b)) _ _ (λ e. tt)
    (λ e.
    fetched-stays at s (range_of s.region (operand s a) (operand s b)) _
    (λ bs. record { temps = s.here.temps; areas = s.here.areas; region = s.region; out = _; is = refl; long = refl }))
act-stays p (Alloc d a) s h = record { temps = _; areas = s.here.areas; region = _; out = s.out; is = refl; long = alloc-long s.region _ }

-- the edges of an exit
abbrev pub IsNext : Exit → Edge → Type 0
IsNext (Jump e) x = x ≡ e
IsNext (Branch a e f) x = (x ≡ e) ⊎ (x ≡ f)
IsNext (Return v) x = ⊥
IsNext (Fail kind at) x = ⊥

-- An exit goes on where a block begins, for a count where its edge counts.
pub record LeavesTo (exit : Exit) (s t : tac.State) : Type 0 where
  pub edge : Edge
  pub left : ℕ
  pub is : t ≡ record s { here = record s.here { block = edge.block; at = 0 }; left = left }
  pub next : IsNext exit edge
  pub counts : edge.counts ≡ true → s.left ≡ suc left
  pub free : edge.counts ≡ false → s.left ≡ left

abbrev pub LeavesIf : Exit → tac.State → tac.Moved → Type 0
LeavesIf exit s (Goes t) = LeavesTo exit s t
LeavesIf exit s (Stops (More out)) = (out ≡ s.out) × (s.left ≡ 0)
LeavesIf exit s (Stops (Over e out)) = Unit {0}

follow-to : (exit : Exit) (e : Edge) (s : tac.State) → IsNext exit e → LeavesIf exit s (follow e s)
follow-to exit e s n =
    by-test (LeavesIf exit s) e.counts _ _ (λ h. counted-to h s.left refl)
    (λ h. record { edge = e; left = s.left; is = refl; next = n; counts = λ g. let no : true ≡ false = sym g ∙ h in cc; free = λ g. refl })
  where
    counted-to : e.counts ≡ true → (l : ℕ) → s.left ≡ l →
        LeavesIf exit s (tac.counted l s (λ z. Goes (record z { here = record z.here { block = e.block; at = 0 } })))
    counted-to h zero q = (refl, q)
    counted-to h (suc l) q = record {
      edge = e;
      left = l;
      is = refl;
      next = n;
      counts = λ g. q;
      free = λ g. let no : true ≡ false = sym h ∙ g in cc;
    }

pub leave-to : (p : Program) (exit : Exit) (s : tac.State) → has_exit_shape exit ≡ true → LeavesIf exit s (leave p exit s)
leave-to p (Jump e) s h = follow-to (Jump e) e s refl
leave-to p (Branch a e f) s h =
    by-test (LeavesIf (Branch a e f) s) (nat_eq (operand s a) 0) _ _ (λ z. follow-to (Branch a e f) f s (inr refl))
    (λ z. follow-to (Branch a e f) e s (inl refl))
leave-to p (Return v) s h = cc
leave-to p (Fail kind at) s h = tt
