-- Numbers of bytes, as the machine's words.
use Rattle.std.proofs.Common.{◌≡◌, ℕ, zero, suc, ◌+◌, ◌-◌, ◌*◌, ◌/◌, ◌%◌, ◌^◌, ◌<◌, ◌≤◌, Bool, true, false, ◌&&◌, negsuc, List, [], ◌∷◌}
use Rattle.std.proofs.Common.{◌++◌, length, take, drop, refl, sym, ap, ◌∙◌, subst, ⊎_elim, arith}
use Rattle.std.specs.Prelude.{if◌then◌else◌, nat_le}
use Rattle.std.specs.Int.{w8, w16, w32, cast_signed}
use Rattle.std.proofs.lemmas.Bool.{cases_lt, le-leb, lt-leb}
use Rattle.std.proofs.lemmas.Int.{to_z_pos}
use mir.Facts.{to_z-neg}
use Rattle.terra_memory.specs.Numbers.{low_bytes, number_of, overwritten}
use Rattle.terra_words.specs.declared.words.Width.{Width}
use Rattle.terra_words.specs.Words.{wrapped}
use Rattle.tac_form.specs.declared.tac.Size.{Size}
use Rattle.tac_form.specs.declared.tac.Size.TheVariants.{One, Two, Four, Eight}
use Rattle.tac_form.specs.declared.tac.Number.{Number}
use Rattle.tac_form.specs.Flow as flow
use Rattle.tac_form.specs.Flow.{width_of}
use Rattle.rv_machine.specs.Word.{word}
use Rattle.rv_machine.specs.Memory.{load_value, load_width, store_width}
use Rattle.rv_select.specs.Places.{AreBytes}
use Rattle.rv_select.specs.Shapes.{load_of, store_of}

-- bytes are below 256
pub take-bytes : (n : ℕ) (xs : List ℕ) → AreBytes xs → AreBytes (take n xs)
take-bytes zero xs h = tt
take-bytes (suc n) [] h = tt
take-bytes (suc n) (x ∷ xs) h = (h.0, take-bytes n xs h.1)

pub drop-bytes : (n : ℕ) (xs : List ℕ) → AreBytes xs → AreBytes (drop n xs)
drop-bytes zero xs h = h
drop-bytes (suc n) [] h = tt
drop-bytes (suc n) (x ∷ xs) h = drop-bytes n xs h.1

pub both-bytes : (xs ys : List ℕ) → AreBytes xs → AreBytes ys → AreBytes (xs ++ ys)
both-bytes [] ys h k = k
both-bytes (x ∷ xs) ys h k = (h.0, both-bytes xs ys h.1 k)

pub low-are-bytes : (n v : ℕ) → AreBytes (low_bytes n v)
unfolding low_bytes
low-are-bytes zero v = tt
low-are-bytes (suc n) v = (omega arith, low-are-bytes n (v / 256))

-- bytes are those of their number
pub number-bytes : (bs : List ℕ) → AreBytes bs → low_bytes (length bs) (number_of bs) ≡ bs
unfolding low_bytes number_of
number-bytes [] h = refl
number-bytes (b ∷ bs) h =
    let first : (b + 256 * number_of bs) % 256 ≡ b = omega (arith, h.0) in
    let rest : (b + 256 * number_of bs) / 256 ≡ number_of bs = omega (arith, h.0) in
    ap (λ x. x ∷ low_bytes (length bs) ((b + 256 * number_of bs) / 256)) first
    ∙ ap (λ xs. b ∷ xs) (ap (low_bytes (length bs)) rest ∙ number-bytes bs h.1)

pub overwritten-bytes : (xs ys : List ℕ) (at : ℕ) → AreBytes xs → AreBytes ys → AreBytes (overwritten xs at ys)
overwritten-bytes xs ys at h k =
    both-bytes (take at xs ++ ys) (drop (at + length ys) xs) (both-bytes (take at xs) ys (take-bytes at xs h) k) (drop-bytes (at + length ys) xs h)

abbrev pub limit : ℕ → ℕ
limit zero = 1
limit (suc n) = 256 * limit n

pub number-below : (bs : List ℕ) → AreBytes bs → number_of bs < limit (length bs)
unfolding number_of
number-below [] h = omega arith
number-below (b ∷ bs) h = let k : number_of bs < limit (length bs) = number-below bs h.1 in omega (arith, h.0)

below-limit : (bs : List ℕ) (n : ℕ) → AreBytes bs → length bs ≡ n → number_of bs < limit n
below-limit bs n h e = subst (λ k. number_of bs < limit k) e (number-below bs h)

-- what loads make of numbers
abbrev width : Bool → ℕ → Width
width signed bits = record { signed = signed; bits = bits }

plain-8 : (n : ℕ) → n < 2 ^ 8 → n ≡ wrapped (width false 8) n
unfolding wrapped
plain-8 n h = omega arith

plain-16 : (n : ℕ) → n < 2 ^ 16 → n ≡ wrapped (width false 16) n
unfolding wrapped
plain-16 n h = omega arith

plain-32 : (n : ℕ) → n < 2 ^ 32 → n ≡ wrapped (width false 32) n
unfolding wrapped
plain-32 n h = omega arith

same-if : (b : Bool) (m k : ℕ) → k ≡ m → m ≡ (if b then k else m)
same-if true m k e = sym e
same-if false m k e = refl

plain-64 : (sg : Bool) (n : ℕ) → n < 2 ^ 64 → n ≡ wrapped (width sg 64) n
unfolding wrapped
plain-64 sg n h =
    let e : n ≡ n % 2 ^ 64 = omega arith in
    e ∙ same-if (sg && nat_le (2 ^ 63) (n % 2 ^ 64)) (n % 2 ^ 64) (n % 2 ^ 64 + (2 ^ 64 - 2 ^ 64)) (omega arith)

signed-8 : (n : ℕ) → n < 2 ^ 8 → word (cast_signed w8 n) ≡ wrapped (width true 8) n
unfolding wrapped
signed-8 n h =
    let same : n % 2 ^ 8 ≡ n = omega arith in
    ⊎_elim
    (λ small. ap word (to_z_pos w8 n small) ∙ sym (ap (λ l. if nat_le (2 ^ 7) l then l + (2 ^ 64 - 2 ^ 8) else l) same ∙ ap (λ b. if b then n + (2 ^ 64 - 2 ^ 8) else n) (lt-leb (2 ^ 7) n small)))
    (λ large.
    let e : n ≡ 2 ^ 8 - suc (2 ^ 8 - suc n) = omega arith in
    let z : cast_signed w8 n ≡ negsuc (2 ^ 8 - suc n) = ap (λ k. cast_signed w8 k) e ∙ to_z-neg w8 (2 ^ 8 - suc n) (omega arith) in
    let v : 2 ^ 64 - suc (2 ^ 8 - suc n) ≡ n + (2 ^ 64 - 2 ^ 8) = omega arith in
    ap word z ∙ (v ∙ sym (ap (λ l. if nat_le (2 ^ 7) l then l + (2 ^ 64 - 2 ^ 8) else l) same ∙ ap (λ b. if b then n + (2 ^ 64 - 2 ^ 8) else n) (le-leb (2 ^ 7) n large))))
    (cases_lt n (2 ^ 7))

signed-16 : (n : ℕ) → n < 2 ^ 16 → word (cast_signed w16 n) ≡ wrapped (width true 16) n
unfolding wrapped
signed-16 n h =
    let same : n % 2 ^ 16 ≡ n = omega arith in
    ⊎_elim
    (λ small. ap word (to_z_pos w16 n small) ∙ sym (ap (λ l. if nat_le (2 ^ 15) l then l + (2 ^ 64 - 2 ^ 16) else l) same ∙ ap (λ b. if b then n + (2 ^ 64 - 2 ^ 16) else n) (lt-leb (2 ^ 15) n small)))
    (λ large.
    let e : n ≡ 2 ^ 16 - suc (2 ^ 16 - suc n) = omega arith in
    let z : cast_signed w16 n ≡ negsuc (2 ^ 16 - suc n) = ap (λ k. cast_signed w16 k) e ∙ to_z-neg w16 (2 ^ 16 - suc n) (omega arith) in
    let v : 2 ^ 64 - suc (2 ^ 16 - suc n) ≡ n + (2 ^ 64 - 2 ^ 16) = omega arith in
    ap word z ∙ (v ∙ sym (ap (λ l. if nat_le (2 ^ 15) l then l + (2 ^ 64 - 2 ^ 16) else l) same ∙ ap (λ b. if b then n + (2 ^ 64 - 2 ^ 16) else n) (le-leb (2 ^ 15) n large))))
    (cases_lt n (2 ^ 15))

signed-32 : (n : ℕ) → n < 2 ^ 32 → word (cast_signed w32 n) ≡ wrapped (width true 32) n
unfolding wrapped
signed-32 n h =
    let same : n % 2 ^ 32 ≡ n = omega arith in
    ⊎_elim
    (λ small. ap word (to_z_pos w32 n small) ∙ sym (ap (λ l. if nat_le (2 ^ 31) l then l + (2 ^ 64 - 2 ^ 32) else l) same ∙ ap (λ b. if b then n + (2 ^ 64 - 2 ^ 32) else n) (lt-leb (2 ^ 31) n small)))
    (λ large.
    let e : n ≡ 2 ^ 32 - suc (2 ^ 32 - suc n) = omega arith in
    let z : cast_signed w32 n ≡ negsuc (2 ^ 32 - suc n) = ap (λ k. cast_signed w32 k) e ∙ to_z-neg w32 (2 ^ 32 - suc n) (omega arith) in
    let v : 2 ^ 64 - suc (2 ^ 32 - suc n) ≡ n + (2 ^ 64 - 2 ^ 32) = omega arith in
    ap word z ∙ (v ∙ sym (ap (λ l. if nat_le (2 ^ 31) l then l + (2 ^ 64 - 2 ^ 32) else l) same ∙ ap (λ b. if b then n + (2 ^ 64 - 2 ^ 32) else n) (le-leb (2 ^ 31) n large))))
    (cases_lt n (2 ^ 31))

value-is : (sg : Bool) (z : Size) (bs : List ℕ) → AreBytes bs → length bs ≡ flow.bytes_of z →
    load_value (load_of sg z) bs ≡ wrapped (width sg (8 * flow.bytes_of z)) (number_of bs)
value-is true One bs h e = signed-8 (number_of bs) (below-limit bs 1 h e)
value-is true Two bs h e = signed-16 (number_of bs) (below-limit bs 2 h e)
value-is true Four bs h e = signed-32 (number_of bs) (below-limit bs 4 h e)
value-is true Eight bs h e = plain-64 true (number_of bs) (below-limit bs 8 h e)
value-is false One bs h e = plain-8 (number_of bs) (below-limit bs 1 h e)
value-is false Two bs h e = plain-16 (number_of bs) (below-limit bs 2 h e)
value-is false Four bs h e = plain-32 (number_of bs) (below-limit bs 4 h e)
value-is false Eight bs h e = plain-64 false (number_of bs) (below-limit bs 8 h e)

pub load-is : (form : Number) (bs : List ℕ) → AreBytes bs → length bs ≡ flow.bytes_of form.size →
    load_value (load_of form.signed form.size) bs ≡ wrapped (width_of form) (number_of bs)
load-is form bs h e = value-is form.signed form.size bs h e

-- how many bytes these are
pub load-bytes : (sg : Bool) (z : Size) → load_width (load_of sg z) ≡ flow.bytes_of z
load-bytes true One = refl
load-bytes true Two = refl
load-bytes true Four = refl
load-bytes true Eight = refl
load-bytes false One = refl
load-bytes false Two = refl
load-bytes false Four = refl
load-bytes false Eight = refl

pub store-bytes : (z : Size) → store_width (store_of z) ≡ flow.bytes_of z
store-bytes One = refl
store-bytes Two = refl
store-bytes Four = refl
store-bytes Eight = refl

pub size-range : (z : Size) → (1 ≤ flow.bytes_of z) × (flow.bytes_of z ≤ 8)
size-range One = (omega arith, omega arith)
size-range Two = (omega arith, omega arith)
size-range Four = (omega arith, omega arith)
size-range Eight = (omega arith, omega arith)
