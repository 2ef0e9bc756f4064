-- Each call of a function of Terra's library that needs no check and no layout leaves a sound world.
use Rattle.std.proofs.Common.{◌≡◌, ℕ, pos, false, List, [], Option, Some, None}
use Rattle.tl_base.specs.declared.place.Place.{Place}
use Rattle.tl_base.specs.declared.ids.TypeId.{TypeId}
use Rattle.tl_base.specs.Layer.{State}
use Rattle.lua_value.specs.declared.library.LibFn.{LibFn}
use Rattle.lua_value.specs.declared.library.LibFn.TheVariants as library
use Rattle.lua_value.specs.declared.value.Value.{Value}
use Rattle.lua_value.specs.declared.value.Value.TheVariants as values
use Rattle.lua_table.specs.Heap.{table_at}
use Rattle.lua_table.specs.declared.call.Back.{Back}
use Rattle.lua_table.specs.declared.call.LibCall.{LibCall}
use Rattle.lua_table.specs.declared.call.LibNext.{LibNext}
use Rattle.lua_table.specs.declared.call.LibNext.TheVariants as nexts
use Rattle.lua_base.specs.Arguments.{argument, has_argument, number_in, table_in}
use Rattle.exotype.specs.declared.fault.Fault.TheVariants as faults
use Rattle.exotype.specs.World.{StageState, with_heap}
use Rattle.exotype.specs.Types.{is_type}
use Rattle.spec_model.specs.Making.{form_at}
use Rattle.spec_model.specs.Plans.{values_in}
use Rattle.terra_lib.specs.Answers.{gives, type_in, bad_argument, raised, paying}
use Rattle.terra_lib.specs.Symbols.{symbol_of, macro_of, constant_turned, is_scalar, scalar_bits, constant}
use Rattle.terra_lib.specs.Types.{pointer_of, pointer_turned, is_too_large, array_of, array_turned, count_in, test_turned, isdefined_turned}
use Rattle.terra_lib.specs.Types.{defined_in}
use Rattle.terra_lib.specs.Fields.{pointer_type, array_type, function_of, parameters_in, result_in}
use Rattle.terra_lib.specs.Lists.{list_of, insert_turned, insertall_turned, map_turned, begun_map, end_of, all_appended}
use Rattle.terra_lib.specs.Calls.{told, answered, called, backed}
use Rattle.check_library.specs.Calls.{asks}
use Rattle.check_sound.specs.Sound.{IsSound}
use Rattle.library_sound.proofs.Writes.{leaves-itself, heap-leaves, struct-leaves, symbol-leaves, constant-leaves}
use Rattle.library_sound.proofs.Words.{constant-fits}
use Rattle.library_sound.proofs.OfTypes.{pointer-leaves, array-leaves, function-leaves}
use Rattle.library_sound.proofs.Turns.{either-way, if-given, Good, bad-good, raised-good, paying-good}

module _ (s : State StageState) (old : IsSound s.world) where
  -- ---- symbols, macros and constants

  symbol-good : (v : Value) (place : Place) → Good s (symbol_of s v place)
  symbol-good values.Nil place = symbol-leaves s.world old None tt
  symbol-good (values.TerraType t) place =
      either-way (Good s) (is_type s.world.store.types t) _ (bad_argument s place 1 library.Symbol)
      (λ h. symbol-leaves s.world old (Some t) h) (λ h. bad-good s old place 1 library.Symbol)
  symbol-good _ place = bad-good s old place 1 library.Symbol

  macro-good : (v : Value) (place : Place) → Good s (macro_of s v place)
  macro-good (values.Closure c) place = heap-leaves s.world old _
  macro-good _ place = bad-good s old place 1 library.Macro

  constant-good : (vs : List Value) (place : Place) → Good s (constant_turned s vs place)
  constant-good vs place =
      if-given (Good s) (type_in (argument vs 0)) (bad_argument s place 1 library.Constant) _
      (bad-good s old place 1 library.Constant)
      (λ t e. either-way (Good s) (is_scalar (form_at s.world t)) _ (bad_argument s place 1 library.Constant)
      (λ scalar. if-given (Good s) (scalar_bits (form_at s.world t) (argument vs 1))
      (bad_argument s place 2 library.Constant) _ (bad-good s old place 2 library.Constant)
      (λ bits is. constant-leaves s.world old (constant t bits)
      (constant-fits s.world old t (argument vs 1) bits scalar is)))
      (λ h. bad-good s old place 1 library.Constant))

  -- ---- types

  pointer-good : (t : TypeId) → Good s (pointer_of s t)
  pointer-good t = pointer-leaves s.world old t

  array-good : (t : TypeId) (n : ℕ) (place : Place) → Good s (array_of s t n place)
  array-good t n place =
      either-way (Good s) (is_too_large s.world t n) (raised s place faults.TypeTooLarge) _
      (λ h. raised-good s old place faults.TypeTooLarge) (λ h. array-leaves s.world old t n)

  pointers-good : (vs : List Value) (place : Place) → Good s (pointer_turned s vs place)
  pointers-good vs place =
      if-given (Good s) (type_in (argument vs 0)) (bad_argument s place 1 library.Pointer) (λ t. pointer_of s t)
      (bad-good s old place 1 library.Pointer) (λ t e. pointer-good t)

  arrays-good : (vs : List Value) (place : Place) → Good s (array_turned s vs place)
  arrays-good vs place =
      if-given (Good s) (type_in (argument vs 0)) (bad_argument s place 1 library.Array) _
      (bad-good s old place 1 library.Array)
      (λ t e. if-given (Good s) (count_in (number_in s.world.heap (argument vs 1)))
      (bad_argument s place 2 library.Array) (λ n. array_of s t n place) (bad-good s old place 2 library.Array)
      (λ n e. array-good t n place))

  test-good : (f : LibFn) (vs : List Value) (place : Place) → Good s (test_turned s f vs place)
  test-good f vs place =
      if-given (Good s) (type_in (argument vs 0)) (bad_argument s place 1 f) _ (bad-good s old place 1 f)
      (λ t e. leaves-itself s.world old)

  isdefined-good : (vs : List Value) (place : Place) → Good s (isdefined_turned s vs place)
  isdefined-good vs place =
      if-given (Good s) (defined_in s.world (argument vs 0)) (bad_argument s place 1 library.IsDefined) _
      (bad-good s old place 1 library.IsDefined) (λ b e. leaves-itself s.world old)

  pointer-type-good : (v : Value) (place : Place) → Good s (pointer_type s v place)
  pointer-type-good (values.TerraType t) place = pointer-good t
  pointer-type-good _ place = raised-good s old place faults.NotAType

  array-of-good : (t : TypeId) (key : Value) (place : Place) → Good s (array_type s (values.TerraType t) key place)
  array-of-good t (values.Number (pos n)) place = array-good t n place
  array-of-good t _ place = raised-good s old place faults.NotAType

  array-type-good : (v key : Value) (place : Place) → Good s (array_type s v key place)
  array-type-good (values.TerraType t) key place = array-of-good t key place
  array-type-good _ key place = raised-good s old place faults.NotAType

  function-good : (ps : Option (List TypeId)) (r : Option TypeId) (place : Place) → Good s (function_of s ps r place)
  function-good (Some ps) (Some r) place = function-leaves s.world old ps r
  function-good (Some ps) None place = raised-good s old place faults.NotAType
  function-good None r place = raised-good s old place faults.NotAType

  -- ---- lists

  list-good : (v : Value) (place : Place) → Good s (list_of s v place)
  list-good values.Nil place = heap-leaves s.world old _
  list-good (values.Table t) place = heap-leaves s.world old _
  list-good _ place = bad-good s old place 1 library.NewList

  insert-good : (vs : List Value) (place : Place) → Good s (insert_turned s vs place)
  insert-good vs place =
      if-given (Good s) (table_in (argument vs 0)) (bad_argument s place 1 library.Insert) _
      (bad-good s old place 1 library.Insert)
      (λ t e. either-way (Good s) (has_argument vs 1) _ (bad_argument s place 2 library.Insert)
      (λ h. heap-leaves s.world old _) (λ h. bad-good s old place 2 library.Insert))

  insertall-good : (vs : List Value) (place : Place) → Good s (insertall_turned s vs place)
  insertall-good vs place =
      if-given (Good s) (table_in (argument vs 0)) (bad_argument s place 1 library.InsertAll) _
      (bad-good s old place 1 library.InsertAll)
      (λ t e. if-given (Good s) (table_in (argument vs 1)) (bad_argument s place 2 library.InsertAll) _
      (bad-good s old place 2 library.InsertAll)
      (λ l e. paying-good s old (end_of s.world.heap l)
      (λ paid. gives paid (with_heap s.world (all_appended s.world.heap t (values_in (table_at s.world.heap l)))) [])
      (λ n. heap-leaves s.world old _)))

  map-good : (vs : List Value) (place : Place) → Good s (map_turned s vs place)
  map-good vs place =
      if-given (Good s) (table_in (argument vs 0)) (bad_argument s place 1 library.Map) _
      (bad-good s old place 1 library.Map)
      (λ t e. either-way (Good s) (has_argument vs 1)
      (paying s (end_of s.world.heap t) (λ paid. begun_map paid t (argument vs 1))) (bad_argument s place 2 library.Map)
      (λ h. paying-good s old (end_of s.world.heap t) (λ paid. begun_map paid t (argument vs 1))
      (λ n. heap-leaves s.world old _)) (λ h. bad-good s old place 2 library.Map))

  -- ---- all of them

  told-good : (f : LibFn) (vs : List Value) (place : Place) → Good s (told s f vs place)
  told-good library.IsDefined vs place = isdefined-good vs place
  told-good library.IsIntegral vs place = test-good library.IsIntegral vs place
  told-good library.IsLogical vs place = test-good library.IsLogical vs place
  told-good library.IsPointer vs place = test-good library.IsPointer vs place
  told-good library.IsArray vs place = test-good library.IsArray vs place
  told-good library.IsStruct vs place = test-good library.IsStruct vs place
  told-good library.Field vs place = leaves-itself s.world old
  told-good library.PointerType vs place = pointer-type-good (argument vs 0) place
  told-good library.ArrayType vs place = array-type-good (argument vs 0) (argument vs 1) place
  told-good library.FunctionType vs place =
      function-good (parameters_in s.world (argument vs 0)) (result_in s.world (argument vs 1)) place
  told-good _ vs place = leaves-itself s.world old

  answered-good : (f : LibFn) (vs : List Value) (place : Place) → asks f ≡ false → Good s (answered s f vs place)
  answered-good library.Symbol vs place h = symbol-good (argument vs 0) place
  answered-good library.Macro vs place h = macro-good (argument vs 0) place
  answered-good library.Constant vs place h = constant-good vs place
  answered-good library.NewList vs place h = list-good (argument vs 0) place
  answered-good library.Insert vs place h = insert-good vs place
  answered-good library.InsertAll vs place h = insertall-good vs place
  answered-good library.Map vs place h = map-good vs place
  answered-good library.NewStruct vs place h = struct-leaves s.world old place
  answered-good library.Pointer vs place h = pointers-good vs place
  answered-good library.Array vs place h = arrays-good vs place
  answered-good f vs place h = told-good f vs place

  pub terra-called : (call : LibCall) → asks call.function ≡ false → Good s (called s call)
  terra-called call h = answered-good call.function call.args call.place h

  pub terra-backed : (next : LibNext) (answer : Back) → Good s (backed s next answer)
  terra-backed (nexts.Map source count result function at) answer = heap-leaves s.world old _
  terra-backed _ answer = leaves-itself s.world old
