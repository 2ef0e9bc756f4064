-- A place before a text is short.
use Rattle.std.proofs.Common.{ℕ, ◌≤◌, ◌<◌, ◌^◌, [], length, arith}
use Rattle.std.specs.Fmt.{decimal}
use Rattle.std.proofs.lemmas.Fmt.{length-decimal-le}
use Rattle.std.proofs.lemmas.List.{length-append}
use Rattle.tl_base.specs.declared.place.Place.{Place}
use Rattle.lua_ops.specs.Placed.{placed}

pub ten_digits : (n : ℕ) → n < 2 ^ 32 → length (decimal n) ≤ 10
ten_digits n h =
    let few : n < 10 ^ 10 = omega arith in
    let wide : n < 2 ^ 64 = omega arith in
    length-decimal-le 10 n (omega arith) few wide

pub place_is_short : (place : Place) → place.line < 2 ^ 32 → place.word < 2 ^ 32 → length (placed place []) ≤ 30
place_is_short place l w =
    let a = ten_digits place.line l in
    let b = ten_digits place.word w in
    grind (length-append, arith)
