-- What a function keeps for its caller: words in its frame.
use Rattle.std.proofs.Common.{◌≡◌, ◌≢◌, ℕ, zero, suc, ◌+◌, ◌*◌, ◌^◌, ◌<◌, ◌≤◌, Bool, true, false, List, [], ◌∷◌, ◌++◌, length, take, drop}
use Rattle.std.proofs.Common.{refl, sym, ap, ◌∙◌, subst, ⊎_elim, inl, inr, arith}
use Rattle.std.specs.Prelude.{◌⊎◌}
use Rattle.std.proofs.lemmas.Bool.{cases_eq}
use Rattle.rv_isa.specs.declared.instr.Instr.{Instr}
use Rattle.rv_isa.specs.declared.instr.Instr.TheVariants.{Load, Store}
use Rattle.rv_isa.specs.declared.operation.LoadOp.TheVariants.{Ld}
use Rattle.rv_isa.specs.declared.operation.StoreOp.TheVariants.{Sd}
use Rattle.rv_isa.specs.declared.operand.Register.{Register}
use Rattle.rv_isa.specs.declared.operand.Immediate.{Immediate}
use Rattle.rv_isa.specs.Registers.{SP}
use Rattle.terra_memory.specs.Numbers.{low_bytes, number_of, overwritten}
use Rattle.terra_memory.proofs.Bytes.{length-low_bytes, number_of-low_bytes}
use Rattle.terra_memory.proofs.Overwriting.{part-overwritten}
use Rattle.rv_machine.specs.Word.{low, word}
use Rattle.rv_machine.specs.Memory.{place_of}
use Rattle.rv_machine.specs.Machine.{State, GoesOn, act, at_with, loads, loads_from, stores, stores_to, value_at}
use Rattle.rv_operators.specs.Claims.{acts, then_on}
use Rattle.rv_operators.specs.Runs.{AreStraight}
use Rattle.rv_operators.proofs.Runs.{straight-both}
use Rattle.rv_select.specs.Places.{AreBytes, Layout, private_word, uses}
use Rattle.rv_select.specs.Numbers.{immediate_of, register_of}
use Rattle.rv_select.specs.Entering.{if_used, kept_offset, put_back, put_back_one, saved, saved_one}
use Rattle.rv_select.proofs.Bytes.{other-than-word, private-place, stored-length}
use Rattle.rv_select.proofs.Numbers.{immediate-is, register-is}
use Rattle.rv_select.proofs.Straight.{behind-both, goes-both, low-first, low-here, register-value, written-elsewhere, written-there}
use Rattle.rv_select.proofs.Words.{low-are-bytes, overwritten-bytes}
use Rattle.rv_select.proofs.Homes.{frame-sum, word_stored}

-- a store of a word in private memory, and a load
pub store-word : (m : State) (a r : Register) (far : Immediate) (at v : ℕ) → low (value_at m a + word far.value) ≡ 2 ^ 32 + at → value_at m r ≡ v →
    length m.region ≤ 67108864 → at + 8 ≤ length m.private → act (Store Sd a r far) m ≡ GoesOn (word_stored m at v)
store-word m a r far at v e g small room =
    ap (λ z. stores m Sd z (value_at m r)) e
    ∙ (ap (λ z. stores_to m (low_bytes 8 z) (place_of (length m.region) (length m.private) (2 ^ 32 + at) 8)) g
    ∙ ap (λ z. stores_to m (low_bytes 8 v) z) (private-place (length m.region) (length m.private) at small room))

pub load-word : (m : State) (d a : Register) (far : Immediate) (at : ℕ) → low (value_at m a + word far.value) ≡ 2 ^ 32 + at →
    length m.region ≤ 67108864 → at + 8 ≤ length m.private → act (Load Ld d a far) m ≡ GoesOn (at_with m (low (m.pc + 4)) d.number (private_word m at))
load-word m d a far at e small room =
    ap (λ z. loads m Ld d z) e ∙ ap (λ z. loads_from m Ld d z) (private-place (length m.region) (length m.private) at small room)

pub word-stored : (xs : List ℕ) (at x : ℕ) → at + 8 ≤ length xs → number_of (take 8 (drop at (overwritten xs at (low_bytes 8 x)))) ≡ low x
unfolding low
word-stored xs at x h =
    ap (λ n. number_of (take n (drop at (overwritten xs at (low_bytes 8 x))))) (sym (length-low_bytes 8 x))
    ∙ (ap number_of (part-overwritten xs (low_bytes 8 x) at (omega arith)) ∙ number_of-low_bytes 8 x)

low-is-small : (q : ℕ) → low q < 2 ^ 64
unfolding low
low-is-small q = omega arith

-- Code that changes private memory alone, between two offsets.
pub record Stored (code : List Instr) (first last : ℕ) (m after : State) : Type 0 where
  pub goes : acts code m ≡ GoesOn after
  pub behind : after.pc ≡ low (m.pc + 4 * length code)
  pub registers : (r : ℕ) → after.registers r ≡ m.registers r
  pub region : after.region ≡ m.region
  pub long : length after.private ≡ length m.private
  pub bytes : AreBytes m.private → AreBytes after.private
  pub outside : (at n : ℕ) → (at + n ≤ first) ⊎ (last ≤ at) → take n (drop at after.private) ≡ take n (drop at m.private)
  pub straight : AreStraight code

pub stored-none : (first behind : ℕ) (m : State) → m.pc < 2 ^ 64 → Stored [] first behind m m
stored-none first behind m p = record {
  goes = refl;
  behind = low-here m.pc p;
  registers = λ r. refl;
  region = refl;
  long = refl;
  bytes = λ b. b;
  outside = λ at n o. refl;
  straight = refl;
}

pub stored-both : (a b : List Instr) (first middle last : ℕ) (m n r : State) → first ≤ middle → middle ≤ last → Stored a first middle m n → Stored b middle last n r →
    Stored (a ++ b) first last m r
stored-both a b first middle last m n r l u h k = record {
  goes = goes-both a b m n r h.goes k.goes;
  behind = behind-both a b m.pc n.pc r.pc h.behind k.behind;
  registers = λ x. k.registers x ∙ h.registers x;
  region = k.region ∙ h.region;
  long = k.long ∙ h.long;
  bytes = λ q. k.bytes (h.bytes q);
  outside = λ at c o.
      k.outside at c (⊎_elim (λ z. inl (omega (arith, z))) (λ z. inr z) o) ∙ h.outside at c (⊎_elim (λ z. inl z) (λ z. inr (omega (arith, z))) o);
  straight = straight-both a b h.straight k.straight;
}

-- one store
pub stored-one : (m : State) (a r : Register) (far : Immediate) (at v : ℕ) → low (value_at m a + word far.value) ≡ 2 ^ 32 + at → value_at m r ≡ v →
    length m.region ≤ 67108864 → at + 8 ≤ length m.private → Stored (Store Sd a r far ∷ []) at (at + 8) m (word_stored m at v)
stored-one m a r far at v e g small room = record {
  goes = ap (λ x. then_on x (λ t. GoesOn t)) (store-word m a r far at v e g small room);
  behind = low-first m.pc;
  registers = λ x. refl;
  region = refl;
  long = stored-length m.private at v room;
  bytes = λ b. overwritten-bytes m.private (low_bytes 8 v) at b (low-are-bytes 8 v);
  outside = λ q n o. other-than-word m.private at v q n (omega arith) o;
  straight = refl;
}

-- the address of a word that is kept
kept-address : (m : State) (base x : ℕ) → m.registers 2 ≡ 2 ^ 32 + base → 18 ≤ x → x ≤ 27 → base + 88 ≤ length m.private → length m.private ≤ 603979776 →
    low (value_at m SP + word (immediate_of (kept_offset x)).value) ≡ 2 ^ 32 + (base + kept_offset x)
kept-address m base x e l u room most =
    ap (λ v. low (m.registers 2 + v)) (immediate-is (kept_offset x) (omega arith))
    ∙ frame-sum (m.registers 2) base (kept_offset x) (length m.private) e (omega arith) most

-- So many registers from one on are kept where the function uses them.
pub record Saved (y : Layout) (n x base : ℕ) (m : State) : Type 0 where
  pub after : State
  pub is : Stored (saved y n x) (base + kept_offset x) (base + kept_offset (x + n)) m after
  pub words : (r : ℕ) → x ≤ r → r < x + n → uses y r ≡ true → private_word after (base + kept_offset r) ≡ low (m.registers r)

save-one : (y : Layout) (x base : ℕ) (m : State) (used : Bool) → m.pc < 2 ^ 64 → m.registers 2 ≡ 2 ^ 32 + base → 18 ≤ x → x ≤ 27 → base + 88 ≤ length m.private →
    length m.private ≤ 603979776 → length m.region ≤ 67108864 →
    (t : State) × Stored (if_used used (Store Sd SP (register_of x) (immediate_of (kept_offset x)))) (base + kept_offset x) (base + kept_offset (x + 1)) m t
    × (used ≡ true → private_word t (base + kept_offset x) ≡ low (m.registers x))
save-one y x base m false p e l u room most small = (m, stored-none (base + kept_offset x) (base + kept_offset (x + 1)) m p, λ z. cc)
save-one y x base m true p e l u room most small =
    let value : value_at m (register_of x) ≡ m.registers x = register-value m (register_of x) x (register-is x (omega arith)) (λ z. omega (arith, z)) in
    let end : base + kept_offset x + 8 ≡ base + kept_offset (x + 1) = omega arith in (
      word_stored m (base + kept_offset x) (m.registers x),
      subst (λ z. Stored (Store Sd SP (register_of x) (immediate_of (kept_offset x)) ∷ []) (base + kept_offset x) z m (word_stored m (base + kept_offset x) (m.registers x))) end
          (stored-one m SP (register_of x) (immediate_of (kept_offset x)) (base + kept_offset x) (m.registers x) (kept-address m base x e l u room most) value small (omega arith)),
      λ z. word-stored m.private (base + kept_offset x) (m.registers x) (omega arith),
    )

pub saves : (y : Layout) (n x base : ℕ) (m : State) → m.pc < 2 ^ 64 → m.registers 2 ≡ 2 ^ 32 + base → 18 ≤ x → x + n ≤ 28 → base + 88 ≤ length m.private →
    length m.private ≤ 603979776 → length m.region ≤ 67108864 → Saved y n x base m
saves y zero x base m p e l u room most small = record {
  after = m;
  is = stored-none (base + kept_offset x) (base + kept_offset (x + 0)) m p;
  words = λ r h k used. let none : ⊥ = omega (arith, h, k) in absurd none;
}
saves y (suc n) x base m p e l u room most small =
    let one = save-one y x base m (uses y x) p e l (omega arith) room most small in
    let t : State = one.0 in
    let first : Stored (saved_one y x) (base + kept_offset x) (base + kept_offset (x + 1)) m t = one.1 in
    let rest : Saved y n (x + 1) base t =
    saves y n (x + 1) base t (subst (λ q. q < 2 ^ 64) (sym first.behind) (low-is-small (m.pc + 4 * length (saved_one y x)))) (first.registers 2 ∙ e) (omega arith) (omega arith)
    (subst (λ z. base + 88 ≤ z) (sym first.long) room) (subst (λ z. z ≤ 603979776) (sym first.long) most) (subst (λ z. length z ≤ 67108864) (sym first.region) small) in
    let end : base + kept_offset (x + 1 + n) ≡ base + kept_offset (x + suc n) = omega arith in
    record {
      after = rest.after;
      is = subst (λ z. Stored (saved_one y x ++ saved y n (x + 1)) (base + kept_offset x) z m rest.after) end
          (stored-both (saved_one y x) (saved y n (x + 1)) (base + kept_offset x) (base + kept_offset (x + 1)) (base + kept_offset (x + 1 + n)) m t rest.after
          (omega arith) (omega arith) first rest.is);
      words = λ r h k used.
          ⊎_elim
          (λ same.
          ap number_of (rest.is.outside (base + kept_offset r) 8 (inl (omega (arith, same, l))))
          ∙ subst (λ q. private_word t (base + kept_offset q) ≡ low (m.registers q)) (sym same) (one.2 (subst (λ q. uses y q ≡ true) same used)))
          (λ other. rest.words r (omega (arith, h, other)) (omega (arith, k)) used ∙ ap low (first.registers r))
          (cases_eq r x);
    }

-- Code that changes registers from 18 to 27 alone.
pub record PutBack (y : Layout) (n x base : ℕ) (m : State) : Type 0 where
  pub after : State
  pub goes : acts (put_back y n x) m ≡ GoesOn after
  pub behind : after.pc ≡ low (m.pc + 4 * length (put_back y n x))
  pub there : (r : ℕ) → x ≤ r → r < x + n → uses y r ≡ true → after.registers r ≡ private_word m (base + kept_offset r)
  pub unused : (r : ℕ) → uses y r ≡ false → after.registers r ≡ m.registers r
  pub outside : (r : ℕ) → (r < x) ⊎ (x + n ≤ r) → after.registers r ≡ m.registers r
  pub region : after.region ≡ m.region
  pub private : after.private ≡ m.private
  pub straight : AreStraight (put_back y n x)

put-back-one : (y : Layout) (x base : ℕ) (m : State) (used : Bool) → uses y x ≡ used → m.pc < 2 ^ 64 → m.registers 2 ≡ 2 ^ 32 + base → 18 ≤ x → x ≤ 27 →
    base + 88 ≤ length m.private → length m.private ≤ 603979776 → length m.region ≤ 67108864 →
    (t : State) × (acts (if_used used (Load Ld (register_of x) SP (immediate_of (kept_offset x)))) m ≡ GoesOn t)
    × (t.pc ≡ low (m.pc + 4 * length (if_used used (Load Ld (register_of x) SP (immediate_of (kept_offset x))))))
    × (used ≡ true → t.registers x ≡ private_word m (base + kept_offset x))
    × (used ≡ false → t.registers x ≡ m.registers x)
    × ((r : ℕ) → r ≢ x → t.registers r ≡ m.registers r)
    × (t.region ≡ m.region) × (t.private ≡ m.private)
    × AreStraight (if_used used (Load Ld (register_of x) SP (immediate_of (kept_offset x))))
put-back-one y x base m false is p e l u room most small = (m, refl, low-here m.pc p, λ z. cc, λ z. refl, λ r o. refl, refl, refl, refl)
put-back-one y x base m true is p e l u room most small =
    let number : (register_of x).number ≡ x = register-is x (omega arith) in
    let v : ℕ = private_word m (base + kept_offset x) in (
      at_with m (low (m.pc + 4)) x v,
      ap (λ k. then_on k (λ t. GoesOn t))
          (load-word m (register_of x) SP (immediate_of (kept_offset x)) (base + kept_offset x) (kept-address m base x e l u room most) small (omega arith)
          ∙ ap (λ k. GoesOn (at_with m (low (m.pc + 4)) k v)) number),
      low-first m.pc,
      λ z. written-there m.registers x v (λ q. omega (arith, q)),
      λ z. cc,
      λ r o. written-elsewhere m.registers x v r o,
      refl,
      refl,
      refl,
    )

pub puts-back : (y : Layout) (n x base : ℕ) (m : State) → m.pc < 2 ^ 64 → m.registers 2 ≡ 2 ^ 32 + base → 18 ≤ x → x + n ≤ 28 → base + 88 ≤ length m.private →
    length m.private ≤ 603979776 → length m.region ≤ 67108864 → PutBack y n x base m
puts-back y zero x base m p e l u room most small = record {
  after = m;
  goes = refl;
  behind = low-here m.pc p;
  there = λ r h k used. let none : ⊥ = omega (arith, h, k) in absurd none;
  unused = λ r o. refl;
  outside = λ r o. refl;
  region = refl;
  private = refl;
  straight = refl;
}
puts-back y (suc n) x base m p e l u room most small =
    let one = put-back-one y x base m (uses y x) refl p e l (omega arith) room most small in
    let t : State = one.0 in
    let pc : t.pc ≡ low (m.pc + 4 * length (put_back_one y x)) = one.2 in
    let other : (r : ℕ) → r ≢ x → t.registers r ≡ m.registers r = one.5 in
    let region : t.region ≡ m.region = one.6 in
    let private : t.private ≡ m.private = one.7 in
    let rest : PutBack y n (x + 1) base t =
    puts-back y n (x + 1) base t (subst (λ q. q < 2 ^ 64) (sym pc) (low-is-small (m.pc + 4 * length (put_back_one y x)))) (other 2 (λ z. omega (arith, z)) ∙ e) (omega arith) (omega arith)
    (subst (λ z. base + 88 ≤ length z) (sym private) room) (subst (λ z. length z ≤ 603979776) (sym private) most) (subst (λ z. length z ≤ 67108864) (sym region) small) in
    record {
      after = rest.after;
      goes = goes-both (put_back_one y x) (put_back y n (x + 1)) m t rest.after one.1 rest.goes;
      behind = behind-both (put_back_one y x) (put_back y n (x + 1)) m.pc t.pc rest.after.pc pc rest.behind;
      there = λ r h k used.
          ⊎_elim
          (λ same.
          rest.outside r (inl (omega (arith, same)))
          ∙ subst (λ q. t.registers q ≡ private_word m (base + kept_offset q)) (sym same) (one.3 (subst (λ q. uses y q ≡ true) same used)))
          (λ o.
          rest.there r (omega (arith, h, o)) (omega (arith, k)) used ∙ ap (λ z. number_of (take 8 (drop (base + kept_offset r) z))) private)
          (cases_eq r x);
      unused = λ r o.
          rest.unused r o
          ∙ ⊎_elim (λ same. subst (λ q. t.registers q ≡ m.registers q) (sym same) (one.4 (subst (λ q. uses y q ≡ false) same o))) (λ n. other r n) (cases_eq r x);
      outside = λ r o. rest.outside r (⊎_elim (λ z. inl (omega (arith, z))) (λ z. inr (omega (arith, z))) o) ∙ other r (outside-not r x (x + suc n) (omega arith) o);
      region = rest.region ∙ region;
      private = rest.private ∙ private;
      straight = straight-both (put_back_one y x) (put_back y n (x + 1)) one.8 rest.straight;
    }
  where
    outside-not : (r x k : ℕ) → x < k → (r < x) ⊎ (k ≤ r) → r ≢ x
    outside-not r x k h o same = ⊎_elim (λ z. omega (arith, z, same)) (λ z. omega (arith, z, same, h)) o
