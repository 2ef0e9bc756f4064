-- What the scan over intervals keeps, in the order in which they begin.
use Rattle.std.proofs.Common.{◌≡◌, ◌≢◌, ℕ, ◌+◌, ◌*◌, ◌<◌, ◌≤◌, true, false, List, ◌++◌, length, get_or, cond, take, drop}
use Rattle.std.proofs.Common.{set, replicate, Option, Some, None, refl, sym, ap, ◌∙◌, subst, ◌⊎◌, ⊎_elim, inl, inr, arith}
use Rattle.std.specs.Prelude.{slice_get, count_by, nat_le}
use Rattle.std.proofs.lemmas.List.{append-nil, drop_all, take_all, length-set, get_or-set_same, get_or-set_other, get_or_past, get_or-replicate, length-replicate}
use Rattle.std.proofs.lemmas.List.Sums.{sum_by-set, count_by-le-length}
use Rattle.std.proofs.lemmas.List.Folds.{sum_by-replicate}
use Rattle.std.proofs.lemmas.Option.{slice_get-get_or, get_or_from_slice_get}
use Rattle.std.proofs.lemmas.Bool.{cases_eq, cases_lt, ltb-true, ltb-false, lt-ltb, le-leb, and_from, true≢false}
use Rattle.reg_alloc.specs.declared.assignment.Home.{Home}
use Rattle.reg_alloc.specs.declared.assignment.Home.TheVariants.{Register, Slot}
use Rattle.reg_alloc.specs.declared.spans.Span.{Span}
use Rattle.reg_alloc.specs.declared.scan.Holder.{Holder}
use Rattle.reg_alloc.specs.Right.{is_home, is_some_home}
use Rattle.reg_alloc.specs.Noted.{span_at, IsOrdered, Covers}
use Rattle.reg_alloc.specs.Scans.{home_at, holder_at, is_free, AllBusy, Scan, scan_of, held, spilled, TakesFree, TakesOver, TakesSlot, Begins, BeginsIf}
use Rattle.reg_alloc.specs.Scans.{AreCrowded, AreDisjoint, AreHomes, is_slot}

-- The first of the temporaries in their order have homes. The holder of each register but one is the last of those that have it,
-- and the intervals of the others end before its begins.
pub record IsScanned (spans : List (Option Span)) (order : List ℕ) (k but : ℕ) (s : Scan) : Type 0 where
  pub long : length s.homes ≡ length spans
  pub ten : length s.holders ≡ 10
  pub slots : s.slots ≡ count_by is_slot s.homes
  pub done : (t : ℕ) (h : Home) → home_at s.homes t ≡ Some h → (i : ℕ) × (i < k) × (get_or order i 0 ≡ t)
  pub spanned : (t : ℕ) (h : Home) → home_at s.homes t ≡ Some h → (x : Span) × (span_at spans t ≡ Some x)
  pub homed : (i : ℕ) (x : Span) → i < k → span_at spans (get_or order i 0) ≡ Some x → (h : Home) × (home_at s.homes (get_or order i 0) ≡ Some h)
  pub registers : (t z : ℕ) → home_at s.homes t ≡ Some (Register z) → (r : ℕ) × (h : Holder) × (z ≡ 18 + r) × (r < 10) × (holder_at s.holders r ≡ Some h) ×
      ((h.temp ≡ t) ⊎ ((x y : Span) → span_at spans t ≡ Some x → span_at spans h.temp ≡ Some y → x.last < y.first))
  pub numbers : (t n : ℕ) → home_at s.homes t ≡ Some (Slot n) → n < s.slots
  pub slots_apart : (t u n : ℕ) → home_at s.homes t ≡ Some (Slot n) → home_at s.homes u ≡ Some (Slot n) → t ≡ u
  pub registers_apart : (t u z : ℕ) (x y : Span) → home_at s.homes t ≡ Some (Register z) → home_at s.homes u ≡ Some (Register z) → t ≢ u →
      span_at spans t ≡ Some x → span_at spans u ≡ Some y → AreDisjoint x y
  pub holders : (r : ℕ) (h : Holder) → r < 10 → r ≢ but → holder_at s.holders r ≡ Some h → home_at s.homes h.temp ≡ Some (Register (18 + r))
  pub lasts : (r : ℕ) (h : Holder) → holder_at s.holders r ≡ Some h → (x : Span) × (span_at spans h.temp ≡ Some x) × (h.last ≡ x.last)
  pub crowded : 0 < s.slots → AreCrowded spans

-- a home after one was put in
home-cases : (homes : List (Option Home)) (t u : ℕ) (x h : Home) → t < length homes → home_at (set homes t (Some x)) u ≡ Some h →
    ((u ≡ t) × (x ≡ h)) ⊎ ((u ≢ t) × (home_at homes u ≡ Some h))
home-cases homes t u x h l e =
    ⊎_elim
    (λ y.
    let p : Some x ≡ Some h = sym (get_or-set_same homes t (Some x) None l) ∙ (ap (λ v. get_or (set homes t (Some x)) v None) (sym y) ∙ e) in
    let q : x ≡ h = cc in
    inl (y, q))
    (λ n. inr (n, sym (get_or-set_other homes t u (Some x) None n) ∙ e))
    (cases_eq u t)

home-here : (homes : List (Option Home)) (t : ℕ) (x : Home) → t < length homes → home_at (set homes t (Some x)) t ≡ Some x
home-here homes t x l = get_or-set_same homes t (Some x) None l

home-there : (homes : List (Option Home)) (t u : ℕ) (x h : Home) → u ≢ t → home_at homes u ≡ Some h → home_at (set homes t (Some x)) u ≡ Some h
home-there homes t u x h n e = get_or-set_other homes t u (Some x) None n ∙ e

holder-cases : (holders : List (Option Holder)) (t u : ℕ) (x h : Holder) → t < length holders → holder_at (set holders t (Some x)) u ≡ Some h →
    ((u ≡ t) × (x ≡ h)) ⊎ ((u ≢ t) × (holder_at holders u ≡ Some h))
holder-cases holders t u x h l e =
    ⊎_elim
    (λ y.
    let p : Some x ≡ Some h = sym (get_or-set_same holders t (Some x) None l) ∙ (ap (λ v. get_or (set holders t (Some x)) v None) (sym y) ∙ e) in
    let q : x ≡ h = cc in
    inl (y, q))
    (λ n. inr (n, sym (get_or-set_other holders t u (Some x) None n) ∙ e))
    (cases_eq u t)

-- how many slots there are after a home was put in where none was
slot-more : (homes : List (Option Home)) (t n : ℕ) → t < length homes → is_slot (home_at homes t) ≡ false →
    count_by is_slot (set homes t (Some (Slot n))) ≡ count_by is_slot homes + 1
slot-more homes t n l e =
    let m = sum_by-set (λ x. cond (is_slot x) 1 0) homes t (Some (Slot n)) None l in
    let f : cond {A = ℕ} (is_slot (home_at homes t)) 1 0 ≡ 0 = ap (λ b. cond {A = ℕ} b 1 0) e in
    omega arith

register-more : (homes : List (Option Home)) (t z : ℕ) → t < length homes → is_slot (home_at homes t) ≡ false →
    count_by is_slot (set homes t (Some (Register z))) ≡ count_by is_slot homes
register-more homes t z l e =
    let m = sum_by-set (λ x. cond (is_slot x) 1 0) homes t (Some (Register z)) None l in
    let f : cond {A = ℕ} (is_slot (home_at homes t)) 1 0 ≡ 0 = ap (λ b. cond {A = ℕ} b 1 0) e in
    omega arith

-- the next temporary of the order, which has an interval
pub record IsNext (spans : List (Option Span)) (order : List ℕ) (k t : ℕ) (x : Span) : Type 0 where
  pub ordered : IsOrdered spans order
  pub short : k < length order
  pub is : get_or order k 0 ≡ t
  pub span : span_at spans t ≡ Some x

span-there : (spans : List (Option Span)) (t : ℕ) (s : Span) → span_at spans t ≡ Some s → t < length spans
span-there spans t s e =
    ⊎_elim (λ l. l) (λ h. let p : ◌≡◌ {A = Option Span} None (Some s) = sym (get_or_past spans t None h) ∙ e in cc) (cases_lt t (length spans))

-- it has no home yet, and none that has one begins later
no-home : (spans : List (Option Span)) (order : List ℕ) (k but t : ℕ) (x : Span) (s : Scan) → IsNext spans order k t x → IsScanned spans order k but s →
    (h : Home) → home_at s.homes t ≡ Some h → ⊥
no-home spans order k but t x s n i h e =
    let d = i.done t h e in
    let l = d.1 in
    let a = n.short in
    let o = n.ordered.once d.0 k (omega arith) n.short (d.2 ∙ sym n.is) in
    omega arith

home-none : (spans : List (Option Span)) (order : List ℕ) (k but t : ℕ) (x : Span) (s : Scan) → IsNext spans order k t x → IsScanned spans order k but s →
    home_at s.homes t ≡ None
home-none spans order k but t x s n i = by-home (home_at s.homes t) refl
  where
    by-home : (o : Option Home) → home_at s.homes t ≡ o → home_at s.homes t ≡ None
    by-home None e = e
    by-home (Some h) e = absurd (no-home spans order k but t x s n i h e)

no-slot : (spans : List (Option Span)) (order : List ℕ) (k but t : ℕ) (x : Span) (s : Scan) → IsNext spans order k t x → IsScanned spans order k but s →
    is_slot (home_at s.homes t) ≡ false
no-slot spans order k but t x s n i = ap is_slot (home-none spans order k but t x s n i)

earlier : (spans : List (Option Span)) (order : List ℕ) (k but t u : ℕ) (x y : Span) (h : Home) (s : Scan) → IsNext spans order k t x → IsScanned spans order k but s →
    home_at s.homes u ≡ Some h → span_at spans u ≡ Some y → y.first ≤ x.first
earlier spans order k but t u x y h s n i e f =
    let d = i.done u h e in
    let l = d.1 in
    n.ordered.rises d.0 k y x (omega arith) n.short (ap (λ v. span_at spans v) d.2 ∙ f) (ap (λ v. span_at spans v) n.is ∙ n.span)

there : (spans : List (Option Span)) (order : List ℕ) (k but t : ℕ) (x : Span) (s : Scan) → IsNext spans order k t x → IsScanned spans order k but s → t < length s.homes
there spans order k but t x s n i = let l = span-there spans t x n.span in omega (arith, i.long)

-- it gets a register, if the intervals of all that have it end before
pub hold-turn : (spans : List (Option Span)) (order : List ℕ) (k t r : ℕ) (x : Span) (s : Scan) → IsNext spans order k t x → r < 10 → IsScanned spans order k r s →
    ((u : ℕ) (y : Span) → home_at s.homes u ≡ Some (Register (18 + r)) → span_at spans u ≡ Some y → y.last < x.first) →
    IsScanned spans order (k + 1) 10 (held r t x.last s)
hold-turn spans order k t r x s n few i free = record {
  long = length-set s.homes t (Some home) ∙ i.long;
  ten = length-set s.holders r (Some holder) ∙ i.ten;
  slots = i.slots ∙ sym (register-more s.homes t (18 + r) l (no-slot spans order k r t x s n i));
  done = λ u h e.
      ⊎_elim
      (λ y. (k, omega arith, n.is ∙ sym y.0))
      (λ m. let d = i.done u h m.1 in let w = d.1 in (d.0, omega arith, d.2))
      (home-cases s.homes t u home h l e);
  spanned = λ u h e.
      ⊎_elim (λ y. (x, ap (λ v. span_at spans v) y.0 ∙ n.span)) (λ m. i.spanned u h m.1) (home-cases s.homes t u home h l e);
  homed = λ j y w e.
      ⊎_elim
      (λ m. (home, ap (λ v. home_at (set s.homes t (Some home)) v) m ∙ home-here s.homes t home l))
      (λ m.
      let o : j < k = not-last j w m in
      let v = i.homed j y o e in
      (v.0, home-there s.homes t (get_or order j 0) home v.0 m v.1))
      (cases_eq (get_or order j 0) t);
  registers = λ u z e.
      ⊎_elim
      (λ y.
      let f : 18 + r ≡ z = cc (y.1) in
      (r, holder, sym f, few, get_or-set_same s.holders r (Some holder) None a, inl (sym y.0)))
      (λ m. other-register u z m.0 m.1)
      (home-cases s.homes t u home (Register z) l e);
  numbers = λ u w e.
      ⊎_elim (λ y. absurd (cc (y.1))) (λ m. i.numbers u w m.1) (home-cases s.homes t u home (Slot w) l e);
  slots_apart = λ u v w e f.
      ⊎_elim
      (λ y. absurd (cc (y.1)))
      (λ m. ⊎_elim (λ y. absurd (cc (y.1))) (λ o. i.slots_apart u v w m.1 o.1) (home-cases s.homes t v home (Slot w) l f))
      (home-cases s.homes t u home (Slot w) l e);
  registers_apart = λ u v z y w e f ne g h.
      ⊎_elim
      (λ a. ⊎_elim
      (λ b. absurd (ne (a.0 ∙ sym b.0)))
      (λ b.
      let q : 18 + r ≡ z = cc (a.1) in
      let j = free v w (b.1 ∙ ap (λ m. Some (Register m)) (sym q)) h in
      let p : x ≡ y = same-span x y (sym n.span ∙ (ap (λ m. span_at spans m) (sym a.0) ∙ g)) in
      let c : x.first ≡ y.first = ap (λ (m : Span). m.first) p in
      inr (omega arith))
      (home-cases s.homes t v home (Register z) l f))
      (λ a. ⊎_elim
      (λ b.
      let q : 18 + r ≡ z = cc (b.1) in
      let j = free u y (a.1 ∙ ap (λ m. Some (Register m)) (sym q)) g in
      let p : x ≡ w = same-span x w (sym n.span ∙ (ap (λ m. span_at spans m) (sym b.0) ∙ h)) in
      let c : x.first ≡ w.first = ap (λ (m : Span). m.first) p in
      inl (omega arith))
      (λ b. i.registers_apart u v z y w a.1 b.1 ne g h)
      (home-cases s.homes t v home (Register z) l f))
      (home-cases s.homes t u home (Register z) l e);
  holders = λ q h w o e.
      ⊎_elim
      (λ y.
      let c : t ≡ h.temp = ap (λ (m : Holder). m.temp) y.1 in
      ap (λ v. home_at (set s.homes t (Some home)) v) (sym c) ∙ (home-here s.homes t home l ∙ ap (λ m. Some (Register (18 + m))) (sym y.0)))
      (λ m.
      let g = i.holders q h w m.0 m.1 in
      home-there s.homes t h.temp home (Register (18 + q)) (λ c. no-home spans order k r t x s n i (Register (18 + q)) (ap (λ v. home_at s.homes v) (sym c) ∙ g)) g)
      (holder-cases s.holders r q holder h a e);
  lasts = λ q h e.
      ⊎_elim
      (λ y.
      let c : t ≡ h.temp = ap (λ (m : Holder). m.temp) y.1 in
      let d : x.last ≡ h.last = ap (λ (m : Holder). m.last) y.1 in
      (x, ap (λ v. span_at spans v) (sym c) ∙ n.span, sym d))
      (λ m. i.lasts q h m.1)
      (holder-cases s.holders r q holder h a e);
  crowded = i.crowded;
}
  where
    home : Home
    home = Register (18 + r)

    holder : Holder
    holder = record { temp = t; last = x.last }

    l : t < length s.homes
    l = there spans order k r t x s n i

    a : r < length s.holders
    a = omega (arith, i.ten)

    same-span : (y w : Span) → Some y ≡ Some w → y ≡ w
    same-span y w e = cc

    not-last : (j : ℕ) → j < k + 1 → get_or order j 0 ≢ t → j < k
    not-last j w m =
        ⊎_elim (λ y. absurd (m (ap (λ v. get_or order v 0) y ∙ n.is))) (λ o. omega (arith, o)) (cases_eq j k)

    other-register : (u z : ℕ) → u ≢ t → home_at s.homes u ≡ Some (Register z) → (q : ℕ) × (h : Holder) × (z ≡ 18 + q) × (q < 10) ×
        (holder_at (set s.holders r (Some holder)) q ≡ Some h) ×
        ((h.temp ≡ u) ⊎ ((y w : Span) → span_at spans u ≡ Some y → span_at spans h.temp ≡ Some w → y.last < w.first))
    other-register u z m e =
        let g = i.registers u z e in
        ⊎_elim
        (λ y. (
          r,
          holder,
          g.2 ∙ ap (λ v. 18 + v) y,
          few,
          get_or-set_same s.holders r (Some holder) None a,
          inr
              (λ v w f h.
              let j = free u v (e ∙ ap (λ q. Some (Register q)) (g.2 ∙ ap (λ q. 18 + q) y)) f in
              let p : x ≡ w = same-span x w (sym n.span ∙ h) in
              let c : x.first ≡ w.first = ap (λ (q : Span). q.first) p in
              omega arith),
        ))
        (λ o. (g.0, g.1, g.2, g.3, get_or-set_other s.holders r g.0 (Some holder) None o ∙ g.4, g.5))
        (cases_eq g.0 r)

-- a temporary that has no slot gets one
pub record Spills (spans : List (Option Span)) (order : List ℕ) (k l but now v : ℕ) (s : Scan) : Type 0 where
  pub more : k ≤ l
  pub span : (x : Span) × (span_at spans v ≡ Some x)
  pub place : (i : ℕ) × (i < l) × (get_or order i 0 ≡ v)
  pub none : is_slot (home_at s.homes v) ≡ false
  pub others : (i : ℕ) → i < l → (i < k) ⊎ (get_or order i 0 ≡ v)
  pub holds : (r : ℕ) (h : Holder) → r < 10 → r ≢ now → holder_at s.holders r ≡ Some h → (r ≢ but) × (h.temp ≢ v)
  pub crowd : AreCrowded spans

pub spill-turn : (spans : List (Option Span)) (order : List ℕ) (k l but now v : ℕ) (s : Scan) → Spills spans order k l but now v s →
    IsScanned spans order k but s → IsScanned spans order l now (spilled v s)
spill-turn spans order k l but now v s a i = record {
  long = length-set s.homes v (Some home) ∙ i.long;
  ten = i.ten;
  slots = ap (λ m. m + 1) i.slots ∙ sym (slot-more s.homes v s.slots w a.none);
  done = λ u h e.
      ⊎_elim
      (λ y. (a.place.0, a.place.1, a.place.2 ∙ sym y.0))
      (λ m. let d = i.done u h m.1 in let o = d.1 in let p = a.more in (d.0, omega arith, d.2))
      (home-cases s.homes v u home h w e);
  spanned = λ u h e.
      ⊎_elim (λ y. (a.span.0, ap (λ m. span_at spans m) y.0 ∙ a.span.1)) (λ m. i.spanned u h m.1) (home-cases s.homes v u home h w e);
  homed = λ j y o e.
      ⊎_elim
      (λ m. (home, ap (λ u. home_at (set s.homes v (Some home)) u) m ∙ home-here s.homes v home w))
      (λ m.
      let g = i.homed j y (⊎_elim (λ p. p) (λ p. absurd (m p)) (a.others j o)) e in
      (g.0, home-there s.homes v (get_or order j 0) home g.0 m g.1))
      (cases_eq (get_or order j 0) v);
  registers = λ u z e.
      ⊎_elim (λ y. absurd (cc (y.1))) (λ m. i.registers u z m.1) (home-cases s.homes v u home (Register z) w e);
  numbers = λ u n e.
      ⊎_elim
      (λ y. let f : s.slots ≡ n = cc (y.1) in omega arith)
      (λ m. let f = i.numbers u n m.1 in omega arith)
      (home-cases s.homes v u home (Slot n) w e);
  slots_apart = λ t u n e f.
      ⊎_elim
      (λ y. ⊎_elim
      (λ o. y.0 ∙ sym o.0)
      (λ o. let g : s.slots ≡ n = cc (y.1) in let h = i.numbers u n o.1 in absurd (omega arith))
      (home-cases s.homes v u home (Slot n) w f))
      (λ m. ⊎_elim
      (λ o. let g : s.slots ≡ n = cc (o.1) in let h = i.numbers t n m.1 in absurd (omega arith))
      (λ o. i.slots_apart t u n m.1 o.1)
      (home-cases s.homes v u home (Slot n) w f))
      (home-cases s.homes v t home (Slot n) w e);
  registers_apart = λ t u z x y e f ne g h.
      ⊎_elim
      (λ m. absurd (cc (m.1)))
      (λ m. ⊎_elim (λ o. absurd (cc (o.1))) (λ o. i.registers_apart t u z x y m.1 o.1 ne g h) (home-cases s.homes v u home (Register z) w f))
      (home-cases s.homes v t home (Register z) w e);
  holders = λ r h o p e.
      let m = a.holds r h o p e in
      home-there s.homes v h.temp home (Register (18 + r)) m.1 (i.holders r h o m.0 e);
  lasts = i.lasts;
  crowded = λ m. a.crowd;
}
  where
    home : Home
    home = Slot s.slots

    w : v < length s.homes
    w = let l = span-there spans v a.span.0 a.span.1 in omega (arith, i.long)

-- where no register is free, the intervals of their holders and the next one contain the place where this begins
pick : Option Holder → ℕ → ℕ
pick None t = t
pick (Some h) t = h.temp

pub crowd : (spans : List (Option Span)) (order : List ℕ) (k t : ℕ) (x : Span) (s : Scan) → IsNext spans order k t x → IsScanned spans order k 10 s →
    AllBusy s.holders x.first → AreCrowded spans
unfolding pick
crowd spans order k t x s n i busy = record {
  place = x.first;
  temps = λ j. pick (holder_at s.holders j) t;
  apart = λ a b l m e. apart a b l m e;
  covers = λ j l. covers j l;
}
  where
    holder : (j : ℕ) → j < 10 → (h : Holder) × (holder_at s.holders j ≡ Some h) × (x.first ≤ h.last)
    holder j l = by-holder (holder_at s.holders j) refl
      where
        by-holder : (o : Option Holder) → holder_at s.holders j ≡ o → (h : Holder) × (holder_at s.holders j ≡ Some h) × (x.first ≤ h.last)
        by-holder None e = absurd (true≢false (sym (ap (λ o. is_free o x.first) e) ∙ busy j (omega (arith, i.ten))))
        by-holder (Some h) e = (h, e, ltb-false h.last x.first (sym (ap (λ o. is_free o x.first) e) ∙ busy j (omega (arith, i.ten))))

    last-none : (j : ℕ) → 10 ≤ j → pick (holder_at s.holders j) t ≡ t
    last-none j l = ap (λ o. pick o t) (get_or_past s.holders j None (omega (arith, i.ten)))

    apart : (a b : ℕ) → a < 11 → b < 11 → pick (holder_at s.holders a) t ≡ pick (holder_at s.holders b) t → a ≡ b
    apart a b l m e =
        ⊎_elim
        (λ y. let g = holder a y in ⊎_elim
        (λ z.
        let h = holder b z in
        let p : g.0.temp ≡ h.0.temp = sym (ap (λ o. pick o t) g.1) ∙ (e ∙ ap (λ o. pick o t) h.1) in
        let q : Some (Register (18 + a)) ≡ Some (Register (18 + b)) =
        sym (i.holders a g.0 y (omega arith) g.1) ∙ (ap (λ u. home_at s.homes u) p ∙ i.holders b h.0 z (omega arith) h.1) in
        let f : 18 + a ≡ 18 + b = cc in
        omega arith)
        (λ z. absurd (held-none a g.0 y g.1 (sym (ap (λ o. pick o t) g.1) ∙ (e ∙ last-none b z))))
        (cases_lt b 10))
        (λ y. ⊎_elim
        (λ z. let h = holder b z in absurd (held-none b h.0 z h.1 (sym (ap (λ o. pick o t) h.1) ∙ (sym e ∙ last-none a y))))
        (λ z. omega arith)
        (cases_lt b 10))
        (cases_lt a 10)
      where
        held-none : (j : ℕ) (h : Holder) → j < 10 → holder_at s.holders j ≡ Some h → h.temp ≡ t → ⊥
        held-none j h l e f =
            no-home spans order k 10 t x s n i (Register (18 + j)) (ap (λ u. home_at s.homes u) (sym f) ∙ i.holders j h l (omega arith) e)

    covers : (j : ℕ) → j < 11 → Covers spans (pick (holder_at s.holders j) t) x.first
    covers j l =
        ⊎_elim
        (λ y.
        let h = holder j y in
        let w = i.lasts j h.0 h.1 in
        let a = h.2 in
        let b = w.2 in
        let c = earlier spans order k 10 t h.0.temp x w.0 (Register (18 + j)) s n i (i.holders j h.0 y (omega arith) h.1) w.1 in
        subst (λ o. Covers spans (pick o t) x.first) (sym h.1) (w.0, w.1, c, omega arith))
        (λ y.
        let a = n.ordered.sane t x n.span in
        subst (λ u. Covers spans u x.first) (sym (last-none j y)) (x, n.span, omega arith, a))
        (cases_lt j 10)

-- the three ways
but-more : (spans : List (Option Span)) (order : List ℕ) (k r : ℕ) (s : Scan) → IsScanned spans order k 10 s → IsScanned spans order k r s
but-more spans order k r s i = record {
  long = i.long;
  ten = i.ten;
  slots = i.slots;
  done = i.done;
  spanned = i.spanned;
  homed = i.homed;
  registers = i.registers;
  numbers = i.numbers;
  slots_apart = i.slots_apart;
  registers_apart = i.registers_apart;
  holders = λ q h w o e. i.holders q h w (omega arith) e;
  lasts = i.lasts;
  crowded = i.crowded;
}

-- what ends before the holder of its register begins, or is that
ends-before : (spans : List (Option Span)) (order : List ℕ) (k but r u last : ℕ) (y : Span) (h : Holder) (s : Scan) → IsOrdered spans order → IsScanned spans order k but s →
    home_at s.homes u ≡ Some (Register (18 + r)) → span_at spans u ≡ Some y → holder_at s.holders r ≡ Some h → y.last ≤ h.last
ends-before spans order k but r u last y h s o i e f g =
    let a = i.registers u (18 + r) e in
    let b : a.0 ≡ r = let c = a.2 in omega arith in
    let d : Some a.1 ≡ Some h = sym a.4 ∙ (ap (λ q. holder_at s.holders q) b ∙ g) in
    let j : a.1 ≡ h = cc in
    let w = i.lasts r h g in
    ⊎_elim
    (λ p.
    let q : Some y ≡ Some w.0 = sym f ∙ (ap (λ v. span_at spans v) (sym p ∙ ap (λ (v : Holder). v.temp) j) ∙ w.1) in
    let v : y ≡ w.0 = cc in
    let z : y.last ≡ w.0.last = ap (λ (m : Span). m.last) v in
    let x = w.2 in
    omega arith)
    (λ p.
    let q = p y w.0 f (ap (λ (v : Holder). span_at spans v.temp) j ∙ w.1) in
    let v = o.sane h.temp w.0 w.1 in
    let x = w.2 in
    omega arith)
    a.5

free-turn : (spans : List (Option Span)) (order : List ℕ) (k t : ℕ) (x : Span) (s new : Scan) → IsNext spans order k t x → IsScanned spans order k 10 s →
    TakesFree s t x new → IsScanned spans order (k + 1) 10 new
free-turn spans order k t x s new n i f =
    let r = f.register in
    let l : r < 10 = let a = f.there in omega (arith, i.ten) in
    subst (λ v. IsScanned spans order (k + 1) 10 v) (sym f.new_is)
    (hold-turn spans order k t r x s n l (but-more spans order k r s i)
    (λ u y e g.
    let a = i.registers u (18 + r) e in
    let b : a.0 ≡ r = let c = a.2 in omega arith in
    let h : holder_at s.holders r ≡ Some a.1 = ap (λ q. holder_at s.holders q) (sym b) ∙ a.4 in
    let w = ends-before spans order k 10 r u 0 y a.1 s n.ordered i e g h in
    let q = ltb-true a.1.last x.first (sym (ap (λ o. is_free o x.first) h) ∙ f.free) in
    omega arith))

slot-turn : (spans : List (Option Span)) (order : List ℕ) (k t : ℕ) (x : Span) (s new : Scan) → IsNext spans order k t x → IsScanned spans order k 10 s →
    TakesSlot s t x new → IsScanned spans order (k + 1) 10 new
slot-turn spans order k t x s new n i f =
    subst (λ v. IsScanned spans order (k + 1) 10 v) (sym f.new_is)
    (spill-turn spans order k (k + 1) 10 10 t s
    (record {
      more = omega arith;
      span = (x, n.span);
      place = (k, omega arith, n.is);
      none = no-slot spans order k 10 t x s n i;
      others = λ j l. ⊎_elim (λ e. inr (ap (λ v. get_or order v 0) e ∙ n.is)) (λ o. inl (omega (arith, o))) (cases_eq j k);
      holds = λ r h l m e. (
        m,
        λ g. no-home spans order k 10 t x s n i (Register (18 + r)) (ap (λ v. home_at s.homes v) (sym g) ∙ i.holders r h l m e),
      );
      crowd = crowd spans order k t x s n i f.busy;
    })
    i)

over-turn : (spans : List (Option Span)) (order : List ℕ) (k t : ℕ) (x : Span) (s new : Scan) → IsNext spans order k t x → IsScanned spans order k 10 s →
    TakesOver s t x new → IsScanned spans order (k + 1) 10 new
over-turn spans order k t x s new n i f =
    subst (λ v. IsScanned spans order (k + 1) 10 v) (sym f.new_is)
    (hold-turn spans order k t f.register x (spilled f.holder.temp s) n few
    (spill-turn spans order k k 10 f.register f.holder.temp s spills i) free)
  where
    few : f.register < 10
    few = let a = f.there in omega (arith, i.ten)

    theirs : home_at s.homes f.holder.temp ≡ Some (Register (18 + f.register))
    theirs = i.holders f.register f.holder few (let a = few in omega arith) f.holder_is

    spills : Spills spans order k k 10 f.register f.holder.temp s
    spills = record {
      more = omega arith;
      span = i.spanned f.holder.temp (Register (18 + f.register)) theirs;
      place = i.done f.holder.temp (Register (18 + f.register)) theirs;
      none = ap is_slot theirs;
      others = λ j l. inl l;
      holds = λ r h l m e. (
        omega arith,
        λ g.
            let a : Some (Register (18 + r)) ≡ Some (Register (18 + f.register)) =
            sym (i.holders r h l (omega arith) e) ∙ (ap (λ v. home_at s.homes v) g ∙ theirs) in
            let b : 18 + r ≡ 18 + f.register = cc in
            m (omega arith),
      );
      crowd = crowd spans order k t x s n i f.busy;
    }

    w : f.holder.temp < length s.homes
    w = let a = i.spanned f.holder.temp (Register (18 + f.register)) theirs in let l = span-there spans f.holder.temp a.0 a.1 in omega (arith, i.long)

    free : (u : ℕ) (y : Span) → home_at (set s.homes f.holder.temp (Some (Slot s.slots))) u ≡ Some (Register (18 + f.register)) → span_at spans u ≡ Some y →
        y.last < x.first
    free u y e g =
        ⊎_elim
        (λ m. absurd (cc (m.1)))
        (λ m.
        let a = i.registers u (18 + f.register) m.1 in
        let b : a.0 ≡ f.register = let c = a.2 in omega arith in
        let d : Some a.1 ≡ Some f.holder = sym a.4 ∙ (ap (λ q. holder_at s.holders q) b ∙ f.holder_is) in
        let j : a.1 ≡ f.holder = cc in
        let q = i.lasts f.register f.holder f.holder_is in
        ⊎_elim
        (λ p. absurd (m.0 (sym p ∙ ap (λ (v : Holder). v.temp) j)))
        (λ p.
        let r = p y q.0 g (ap (λ (v : Holder). span_at spans v.temp) j ∙ q.1) in
        let v = earlier spans order k 10 t f.holder.temp x q.0 (Register (18 + f.register)) s n i theirs q.1 in
        omega arith)
        a.5)
        (home-cases s.homes f.holder.temp u (Slot s.slots) (Register (18 + f.register)) w e)

pub begin-turn : (spans : List (Option Span)) (order : List ℕ) (k t : ℕ) (x : Span) (s new : Scan) → IsNext spans order k t x → IsScanned spans order k 10 s →
    Begins s t x new → IsScanned spans order (k + 1) 10 new
begin-turn spans order k t x s new n i b =
    ⊎_elim
    (λ f. free-turn spans order k t x s new n i f)
    (λ o. ⊎_elim (λ f. over-turn spans order k t x s new n i f) (λ f. slot-turn spans order k t x s new n i f) o)
    b

pub scan-turn : (spans : List (Option Span)) (order : List ℕ) (k t : ℕ) (o : Option Span) (s new : Scan) → IsOrdered spans order → k < length order →
    get_or order k 0 ≡ t → o ≡ span_at spans t → IsScanned spans order k 10 s → BeginsIf s t o new → IsScanned spans order (k + 1) 10 new
scan-turn spans order k t None s new a l e f i b = subst (λ v. IsScanned spans order (k + 1) 10 v) (sym b) (record {
  long = i.long;
  ten = i.ten;
  slots = i.slots;
  done = λ u h g. let d = i.done u h g in let w = d.1 in (d.0, omega arith, d.2);
  spanned = i.spanned;
  homed = λ j x w g.
      ⊎_elim
      (λ m.
      let p : ◌≡◌ {A = Option Span} None (Some x) = f ∙ (ap (λ v. span_at spans v) (sym e ∙ ap (λ v. get_or order v 0) (sym m)) ∙ g) in
      absurd (cc))
      (λ o. i.homed j x (omega (arith, o)) g)
      (cases_eq j k);
  registers = i.registers;
  numbers = i.numbers;
  slots_apart = i.slots_apart;
  registers_apart = i.registers_apart;
  holders = i.holders;
  lasts = i.lasts;
  crowded = i.crowded;
})
scan-turn spans order k t (Some x) s new a l e f i b =
    begin-turn spans order k t x s new (record { ordered = a; short = l; is = e; span = sym f }) i b

-- the begin and the end
no-homes : (count t : ℕ) (h : Home) → home_at (replicate count None) t ≡ Some h → ⊥
no-homes count t h e =
    ⊎_elim
    (λ l. let w : ◌≡◌ {A = Option Home} None (Some h) = sym (get_or-replicate count t None None l) ∙ e in cc)
    (λ l.
    let k : length {A = Option Home} (replicate count None) ≤ t = omega (arith, length-replicate {A = Option Home} count None) in
    let w : ◌≡◌ {A = Option Home} None (Some h) = sym (get_or_past (replicate count None) t None k) ∙ e in cc)
    (cases_lt t count)

no-holders : (t : ℕ) (h : Holder) → holder_at (replicate 10 None) t ≡ Some h → ⊥
no-holders t h e =
    ⊎_elim
    (λ l. let w : ◌≡◌ {A = Option Holder} None (Some h) = sym (get_or-replicate 10 t None None l) ∙ e in cc)
    (λ l.
    let k : length {A = Option Holder} (replicate 10 None) ≤ t = omega (arith, length-replicate {A = Option Holder} 10 None) in
    let w : ◌≡◌ {A = Option Holder} None (Some h) = sym (get_or_past (replicate 10 None) t None k) ∙ e in cc)
    (cases_lt t 10)

pub scan-begins : (spans : List (Option Span)) (order : List ℕ) → IsScanned spans order 0 10 (scan_of (replicate (length spans) None) (replicate 10 None) 0)
scan-begins spans order = record {
  long = length-replicate {A = Option Home} (length spans) None;
  ten = length-replicate {A = Option Holder} 10 None;
  slots = sym (sum_by-replicate (λ x. cond (is_slot x) 1 0) (length spans) None ∙ times-none (length spans));
  done = λ t h e. absurd (no-homes (length spans) t h e);
  spanned = λ t h e. absurd (no-homes (length spans) t h e);
  homed = λ i x l e. absurd (omega arith);
  registers = λ t z e. absurd (no-homes (length spans) t (Register z) e);
  numbers = λ t n e. absurd (no-homes (length spans) t (Slot n) e);
  slots_apart = λ t u n e f. absurd (no-homes (length spans) t (Slot n) e);
  registers_apart = λ t u z x y e f ne g h. absurd (no-homes (length spans) t (Register z) e);
  holders = λ r h l m e. absurd (no-holders r h e);
  lasts = λ r h e. absurd (no-holders r h e);
  crowded = λ l. absurd (omega arith);
}
  where
    times-none : (n : ℕ) → n * 0 ≡ 0
    times-none n = omega arith

-- a turn of the loop, where slices are lent
pub scan-step : (spans : List (Option Span)) (order : List ℕ) (k t slots more : ℕ) (o : Option Span) (homes given new kept : List (Option Home))
    (holders lent other held : List (Option Holder)) → IsOrdered spans order → k < length order → get_or order k 0 ≡ t → o ≡ span_at spans t →
    given ≡ homes → lent ≡ holders → kept ≡ new → held ≡ other → IsScanned spans order k 10 (scan_of homes holders slots) →
    BeginsIf (scan_of given lent slots) t o (scan_of new other more) → IsScanned spans order (k + 1) 10 (scan_of kept held more)
scan-step spans order k t slots more o homes given new kept holders lent other held a l e f g h i j s b =
    subst (λ v. IsScanned spans order (k + 1) 10 (scan_of v held more)) (sym i)
    (subst (λ v. IsScanned spans order (k + 1) 10 (scan_of new v more)) (sym j)
    (scan-turn spans order k t o (scan_of given lent slots) (scan_of new other more) a l e f
    (subst (λ v. IsScanned spans order k 10 (scan_of v lent slots)) (sym g) (subst (λ v. IsScanned spans order k 10 (scan_of homes v slots)) (sym h) s)) b))

-- what a vector holds after it was lent
pub lent-back : {X : Type 0} (n : ℕ) (xs ys : List X) → length xs ≡ n → length ys ≡ n → take n (xs ++ drop (length xs) ys) ≡ xs
lent-back n xs ys e f =
    ap (λ v. take n (xs ++ v)) (drop_all (length xs) ys (omega arith))
    ∙ (ap (λ v. take n v) (append-nil xs) ∙ take_all n xs (omega arith))

pub scan-ends : (spans : List (Option Span)) (order : List ℕ) (k slots : ℕ) (homes : List (Option Home)) (holders : List (Option Holder)) → IsOrdered spans order →
    length order ≤ k → IsScanned spans order k 10 (scan_of homes holders slots) → AreHomes spans homes
scan-ends spans order k slots homes holders o short i = record {
  long = i.long;
  homes_are = λ t s e.
      let h = home-of t s e in
      ap (is_some_home (length homes)) (got t s e h.0 h.1) ∙ is-home t h.0 h.1;
  apart = λ t u s r e f ne g.
      let a = home-of t s e in
      let b = home-of u r f in
      let p : Some (Some a.0) ≡ Some (Some b.0) = sym (got t s e a.0 a.1) ∙ (g ∙ got u r f b.0 b.1) in
      let q : a.0 ≡ b.0 = cc in
      by-home t u s r a.0 a.1 (b.1 ∙ ap Some (sym q)) ne e f;
  few = λ has. let t = has.0 in let l = i.numbers t has.1 (get_or_from_slice_get homes t (Some (Slot has.1)) None has.2) in i.crowded (omega arith);
}
  where
    home-of : (t : ℕ) (s : Span) → span_at spans t ≡ Some s → (h : Home) × (home_at homes t ≡ Some h)
    home-of t s e =
        let a = o.all t s e in
        let b = a.1 in
        let c = i.homed a.0 s (omega arith) (ap (λ v. span_at spans v) a.2 ∙ e) in
        (c.0, ap (λ v. home_at homes v) (sym a.2) ∙ c.1)

    got : (t : ℕ) (s : Span) → span_at spans t ≡ Some s → (h : Home) → home_at homes t ≡ Some h → slice_get homes t ≡ Some (Some h)
    got t s e h f =
        let l = span-there spans t s e in
        slice_get-get_or homes t None (omega (arith, i.long)) ∙ ap Some f

    is-home : (t : ℕ) (h : Home) → home_at homes t ≡ Some h → is_home (length homes) h ≡ true
    is-home t (Register z) e =
        let a = i.registers t z e in
        let b = a.2 in
        let c = a.3 in
        and_from (nat_le 18 z) (nat_le z 27) (le-leb 18 z (omega arith)) (le-leb z 27 (omega arith))
    is-home t (Slot n) e =
        let a = i.numbers t n e in
        let b = count_by-le-length is_slot homes in
        let c = i.slots in
        lt-ltb n (length homes) (omega arith)

    by-home : (t u : ℕ) (s r : Span) (h : Home) → home_at homes t ≡ Some h → home_at homes u ≡ Some h → t ≢ u → span_at spans t ≡ Some s → span_at spans u ≡ Some r →
        AreDisjoint s r
    by-home t u s r (Register z) a b ne e f = i.registers_apart t u z s r a b ne e f
    by-home t u s r (Slot n) a b ne e f = absurd (ne (i.slots_apart t u n a b))
