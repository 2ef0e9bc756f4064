-- What is written by the functions themselves is short.
use Rattle.std.proofs.Common.{ℕ, ℤ, ◌≤◌, ◌<◌, ◌^◌, length, suc, pos, negsuc, arith}
use Rattle.std.specs.Fmt.{signed_decimal}
use Rattle.std.proofs.lemmas.Fmt.{length-decimal-le}
use Rattle.lua_value.specs.Numbers.{IsInProfile}

pub number_is_short : (z : ℤ) → IsInProfile z → length (signed_decimal z) ≤ 65535
number_is_short (pos n) h =
    let few : n ≤ 99999999999999 = h in
    omega (arith, length-decimal-le 14 n (omega arith) (omega (arith, few)) (omega (arith, few)))
number_is_short (negsuc n) h =
    let few : suc n ≤ 99999999999999 = h in
    omega (arith, length-decimal-le 14 (suc n) (omega arith) (omega (arith, few)) (omega (arith, few)))
