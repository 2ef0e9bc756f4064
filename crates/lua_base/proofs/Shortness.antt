-- A text that says which argument isn't of its form is short.
use Rattle.std.proofs.Common.{◌≡◌, ℕ, ◌≤◌, ◌<◌, ◌^◌, List, length, codes, ◌++◌, refl, arith}
use Rattle.std.specs.Fmt.{decimal}
use Rattle.std.proofs.lemmas.List.{length-append, append_assoc}
use Rattle.lua_value.specs.declared.library.LibFn.{LibFn}
use Rattle.lua_value.specs.declared.library.LibFn.TheVariants.{Assert, Error, GetMetatable, Ipairs, IpairsNext, Next, Pairs, Pcall, Print}
use Rattle.lua_value.specs.declared.library.LibFn.TheVariants.{RawEqual, RawGet, RawSet, Select, SetMetatable, ToNumber, ToString}
use Rattle.lua_value.specs.declared.library.LibFn.TheVariants.{«Type» as TypeOf, Unpack, Byte, Char, Format, Len, Rep, Sub, Concat}
use Rattle.lua_value.specs.declared.library.LibFn.TheVariants.{TableInsert, Remove, Field, ArrayType, PointerType, FunctionType, Symbol}
use Rattle.lua_value.specs.declared.library.LibFn.TheVariants.{Macro, Global, Constant, SizeOf, OffsetOf, NewList, Insert, InsertAll, Map}
use Rattle.lua_value.specs.declared.library.LibFn.TheVariants.{NewStruct, Pointer, Array, SaveObj, Compile, IsDefined, GetType, IsIntegral}
use Rattle.lua_value.specs.declared.library.LibFn.TheVariants.{IsLogical, IsPointer, IsArray, IsStruct}
use Rattle.lua_value.specs.Library.{library_text}
use Rattle.lua_ops.proofs.Placing.{ten_digits}
use Rattle.lua_base.specs.Calls.{bad_argument_text}

pub name_is_short : (f : LibFn) → length (library_text f) ≤ 100
name_is_short Assert = omega arith
name_is_short Error = omega arith
name_is_short GetMetatable = omega arith
name_is_short Ipairs = omega arith
name_is_short IpairsNext = omega arith
name_is_short Next = omega arith
name_is_short Pairs = omega arith
name_is_short Pcall = omega arith
name_is_short Print = omega arith
name_is_short RawEqual = omega arith
name_is_short RawGet = omega arith
name_is_short RawSet = omega arith
name_is_short Select = omega arith
name_is_short SetMetatable = omega arith
name_is_short ToNumber = omega arith
name_is_short ToString = omega arith
name_is_short TypeOf = omega arith
name_is_short Unpack = omega arith
name_is_short Byte = omega arith
name_is_short Char = omega arith
name_is_short Format = omega arith
name_is_short Len = omega arith
name_is_short Rep = omega arith
name_is_short Sub = omega arith
name_is_short Concat = omega arith
name_is_short TableInsert = omega arith
name_is_short Remove = omega arith
name_is_short Field = omega arith
name_is_short ArrayType = omega arith
name_is_short PointerType = omega arith
name_is_short FunctionType = omega arith
name_is_short Symbol = omega arith
name_is_short Macro = omega arith
name_is_short Global = omega arith
name_is_short Constant = omega arith
name_is_short SizeOf = omega arith
name_is_short OffsetOf = omega arith
name_is_short NewList = omega arith
name_is_short Insert = omega arith
name_is_short InsertAll = omega arith
name_is_short Map = omega arith
name_is_short NewStruct = omega arith
name_is_short Pointer = omega arith
name_is_short Array = omega arith
name_is_short SaveObj = omega arith
name_is_short Compile = omega arith
name_is_short IsDefined = omega arith
name_is_short GetType = omega arith
name_is_short IsIntegral = omega arith
name_is_short IsLogical = omega arith
name_is_short IsPointer = omega arith
name_is_short IsArray = omega arith
name_is_short IsStruct = omega arith

pub is_short : (line word position : ℕ) (f : LibFn) → line < 2 ^ 32 → word < 2 ^ 32 → position < 2 ^ 32 →
    length (bad_argument_text line word position f) ≤ 65535
is_short line word position f l w p =
    let a = ten_digits line l in
    let b = ten_digits word w in
    let c = ten_digits position p in
    let d = name_is_short f in
    grind (length-append, arith)

pub text_by_name : (line word position : ℕ) (f : LibFn) (name : List ℕ) → name ≡ library_text f →
    decimal line ++ (codes ":" ++ (decimal word ++ (codes ": bad argument " ++ (decimal position ++ (codes " to " ++ name)))))
    ≡ bad_argument_text line word position f
text_by_name line word position f name e =
    let a = decimal line in
    let b = decimal word in
    let c = decimal position in
    rw e (
    rw (append_assoc (a ++ codes ":" ++ b ++ codes ": bad argument " ++ c) (codes " to ") (library_text f)) (
    rw (append_assoc (a ++ codes ":" ++ b ++ codes ": bad argument ") c (codes " to " ++ library_text f)) (
    rw (append_assoc (a ++ codes ":" ++ b) (codes ": bad argument ") (c ++ (codes " to " ++ library_text f))) (
    rw (append_assoc (a ++ codes ":") b (codes ": bad argument " ++ (c ++ (codes " to " ++ library_text f)))) (
    rw (append_assoc a (codes ":") (b ++ (codes ": bad argument " ++ (c ++ (codes " to " ++ library_text f))))) refl)))))
