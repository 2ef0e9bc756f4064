-- Each call of a function of Terra's library that may ask for a check or a layout leaves a sound world, and so does its answer.
use Rattle.std.proofs.Common.{◌≡◌, ℕ, suc, Bool, true, false, List, [], ◌∷◌, ◌++◌, length, Option, Some, None, refl, sym, subst}
use Rattle.std.specs.Prelude.{not, ◌&&◌, if◌then◌else◌, slice_get}
use Rattle.std.specs.Option.{option_map_or}
use Rattle.std.proofs.lemmas.Bool.{and_parts, not-true, ltb-true}
use Rattle.tl_base.specs.declared.ids.FnId.{FnId}
use Rattle.tl_base.specs.declared.ids.GlobalId.{GlobalId}
use Rattle.tl_base.specs.declared.ids.TableId.{TableId}
use Rattle.tl_base.specs.declared.ids.TextId.{TextId}
use Rattle.tl_base.specs.declared.ids.TypeId.{TypeId}
use Rattle.tl_base.specs.declared.place.Place.{Place}
use Rattle.tl_base.specs.Layer.{State, state}
use Rattle.lua_value.specs.declared.library.LibFn.{LibFn}
use Rattle.lua_value.specs.declared.library.LibFn.TheVariants as library
use Rattle.lua_value.specs.declared.primitive.Primitive.{Primitive}
use Rattle.lua_value.specs.declared.primitive.Primitive.TheVariants.{PutByte, Write, Alloc}
use Rattle.lua_value.specs.declared.value.Value.{Value}
use Rattle.lua_value.specs.declared.value.Value.TheVariants as values
use Rattle.lua_table.specs.Heap.{text_at, table_at}
use Rattle.lua_table.specs.Pairs.{Pairs}
use Rattle.lua_table.specs.declared.call.LibCall.{LibCall}
use Rattle.lua_base.specs.Arguments.{argument, table_in}
use Rattle.lua_base.specs.Opening.{globals}
use Rattle.terra_types.specs.Opening.{uint8, int64, unit}
use Rattle.terra_term.specs.declared.refusal.Refusal.{Refusal}
use Rattle.terra_term.specs.declared.refusal.RefusalKind.{RefusalKind}
use Rattle.terra_term.specs.declared.refusal.RefusalKind.TheVariants.{TooLarge}
use Rattle.terra_term.specs.declared.store.Export.{Export}
use Rattle.terra_term.specs.declared.store.Function.{Function}
use Rattle.terra_term.specs.declared.store.FunctionState.TheVariants as standing
use Rattle.terra_term.specs.WellTyped.{has_layout}
use Rattle.exotype.specs.declared.fault.Fault.TheVariants as faults
use Rattle.exotype.specs.World.{StageState}
use Rattle.exotype.specs.Types.{is_type, pointer_id}
use Rattle.spec_model.specs.Making.{undefined_state, is_undefined}
use Rattle.terra_lib.specs.Answers.{Turned, bad_argument, raised, gives, gives_one, type_in}
use Rattle.terra_lib.specs.Exports.{with_exported, marked, is_free, takes_scalars, gives_scalar, parameters_in, term_of_function, is_text}
use Rattle.check_library.specs.declared.exports.Fate.{Fate}
use Rattle.check_library.specs.declared.exports.Fate.TheVariants as fates
use Rattle.check_model.specs.declared.known.KnownResult.{KnownResult}
use Rattle.check_model.specs.declared.known.KnownResult.TheVariants as results
use Rattle.check_model.specs.declared.question.CheckAnswer.{CheckAnswer}
use Rattle.check_model.specs.declared.question.CheckAnswer.TheVariants as answers
use Rattle.check_model.specs.Calls.{parameters_of, result_of}
use Rattle.check_model.specs.Keeping.{IsLaidOut}
use Rattle.check_sound.specs.Sound.{foreseen, IsSound, IsThere}
use Rattle.check_model.specs.Typing.{form_in, function_at, is_aggregate_form, bytes_in}
use Rattle.check_library.specs.declared.ask.AskNext.{AskNext}
use Rattle.check_library.specs.declared.ask.AskNext.TheVariants as nexts
use Rattle.check_library.specs.declared.ask.AskTurn.{AskTurn}
use Rattle.check_library.specs.declared.ask.AskTurn.TheVariants as asked_for
use Rattle.check_library.specs.declared.ask.ExportNext.{ExportNext}
use Rattle.check_library.specs.Answers.{Asked, asked, said, with_one, refused, on_layout, on_check}
use Rattle.check_library.specs.Layouts.{sizeof_asked, sizeof_backed, struct_in, name_in, offsetof_asked, offset_turned, offsetof_backed}
use Rattle.check_library.specs.Layouts.{initial_bits, type_if, type_there, global_asked, first_bytes, with_global_in, global_or_full}
use Rattle.check_library.specs.Layouts.{global_turned, global_backed, struct_place}
use Rattle.check_library.specs.Checks.{compile_of, compile_backed, function_of, typed_or, type_or, with_bytes, primitive_type, gettype_of}
use Rattle.check_library.specs.Checks.{quote_type, gettype_backed}
use Rattle.check_library.specs.Counting.{CountedState, nothing, count_with, numbered}
use Rattle.check_library.specs.Exports.{fate_by, fate_after, found_result, next_of, waiting, fared, exported, raised_at, place_of_function}
use Rattle.check_library.specs.Exports.{added_to, added_by, checked, export_backed, taken, table_exported, saveobj_asked, chunk_ended}
use Rattle.check_library.specs.Calls.{answered, called, backed}
use Rattle.check_sound.specs.Exports.{AreCounted}
use Rattle.check_sound.specs.Growing.{WasReady, AreFine, Leads}
use Rattle.check_sound.proofs.Tests.{no, none-some, same-some}
use Rattle.check_sound.proofs.Scalars.{flat-layout, sized-layout}
use Rattle.check_sound.proofs.Leading.{leads-itself, leads-twice}
use Rattle.library_sound.specs.Leaving.{Leaves, IsCounted, AskIsFine, AsksSound, FitsAsk, goes_on_with}
use Rattle.library_sound.proofs.Extending.{there-kept}
use Rattle.library_sound.proofs.Writes.{leaves-itself, leaves-twice, heap-leaves, saved-leaves, MayCome, exporting-grows, exporting-sound}
use Rattle.library_sound.proofs.Writes.{exporting-leads, global-leaves}
use Rattle.library_sound.proofs.Exporting.{may-come, nothing-counted, counted-on, counted-with, counted-behind}
use Rattle.library_sound.proofs.OfTypes.{pointer-leaves, function-leaves}
use Rattle.library_sound.proofs.Turns.{either-way, Good, bad-good, raised-good}

-- ---- by the ways to answer

if-one : {X : Type 0} (P : Asked → Type 0) (o : Option X) (other : Asked) (go : X → Asked) → P other →
    ((x : X) → o ≡ Some x → P (go x)) → P (with_one o other go)
if-one P None other go f g = f
if-one P (Some x) other go f g = g x refl

abbrev Fine : StageState → Asked → Type 0
Fine begin it = AsksSound begin it

-- what it answers, seen from where its call began
said-fine : (begin : StageState) (s : State StageState) → Leads begin s.world → (t : Turned) → Good s t → Fine begin (said t)
said-fine begin s led t h = (h.0, (leads-twice begin s.world t.left.world led h.1, tt))

-- what was counted of the exports before is right, where they were fine when the call began
abbrev WasCounted : StageState → StageState → CountedState → Type 0
WasCounted begin w counted = AreFine begin → IsCounted w counted

-- ---- the first calls

-- a call that began in a sound world, and has come to another one
module _ (begin : StageState) (s : State StageState) (old : IsSound s.world) (led : Leads begin s.world) where
  itself : Good s (gives s s.world [])
  itself = leaves-itself s.world old

  bad-fine : (place : Place) (position : ℕ) (f : LibFn) → Fine begin (said (bad_argument s place position f))
  bad-fine place position f = said-fine begin s led (bad_argument s place position f) (bad-good s old place position f)

  refused-good : (kind : RefusalKind) (own place : Place) → Good s (refused s kind own place)
  refused-good kind own place = heap-leaves s.world old _

  refused-fine : (kind : RefusalKind) (own place : Place) → Fine begin (said (refused s kind own place))
  refused-fine kind own place = said-fine begin s led (refused s kind own place) (refused-good kind own place)

  asking-fine : (turn : AskTurn) → AskIsFine begin s.world turn → Fine begin (asked turn s)
  asking-fine turn h = (old, (led, h))

  layout-fine : (answer : CheckAnswer) (struct place : Place) (rest : Turned) → Good s rest →
      Fine begin (on_layout s answer struct place rest)
  layout-fine (answers.NoLayout kind) struct place rest h = refused-fine kind struct place
  layout-fine _ struct place rest h = said-fine begin s led rest h

  check-fine : (answer : CheckAnswer) (place : Refusal → Place) (rest : Asked) → Fine begin rest →
      Fine begin (on_check s answer place rest)
  check-fine (answers.Refused r) place rest h = refused-fine r.kind r.place (place r)
  check-fine _ place rest h = h

  -- ---- sizes and offsets

  sizeof-fine : (vs : List Value) (place : Place) → Fine begin (sizeof_asked s vs place)
  sizeof-fine vs place =
      if-one (Fine begin) (type_in (argument vs 0)) (said (bad_argument s place 1 library.SizeOf)) _
      (bad-fine place 1 library.SizeOf) (λ t e. asking-fine (asked_for.Layout t (nexts.SizeOf t)) tt)

  sizeof-back-fine : (t : TypeId) (answer : CheckAnswer) (place : Place) → Fine begin (sizeof_backed s t answer place)
  sizeof-back-fine t answer place = layout-fine answer (struct_place s.world t) place _ itself

  offsetof-fine : (vs : List Value) (place : Place) → Fine begin (offsetof_asked s vs place)
  offsetof-fine vs place =
      if-one (Fine begin) (struct_in s.world (argument vs 0)) (said (bad_argument s place 1 library.OffsetOf)) _
      (bad-fine place 1 library.OffsetOf)
      (λ t e. if-one (Fine begin) (name_in (argument vs 1)) (said (bad_argument s place 2 library.OffsetOf)) _
      (bad-fine place 2 library.OffsetOf)
      (λ name e. asking-fine (asked_for.Layout t (nexts.OffsetOf t name)) tt))

  offset-good : (o : Option ℕ) (place : Place) → Good s (offset_turned s o place)
  offset-good None place = bad-good s old place 2 library.OffsetOf
  offset-good (Some n) place = itself

  offsetof-back-fine : (t : TypeId) (name : TextId) (answer : CheckAnswer) (place : Place) →
      Fine begin (offsetof_backed s t name answer place)
  offsetof-back-fine t name answer place = layout-fine answer (struct_place s.world t) place _ (offset-good _ place)

  -- ---- globals

  there-by : (v : Value) (t : TypeId) (o : Option TypeId) → type_if s.world o ≡ Some t → IsThere s.world t
  there-by v t None h = absurd (none-some t h)
  there-by v t (Some u) h = by (is_type s.world.store.types u) refl h
    where
      by : (c : Bool) → is_type s.world.store.types u ≡ c → (if c then Some u else None) ≡ Some t → IsThere s.world t
      by true e h = subst (λ x. is_type s.world.store.types x ≡ true) (same-some u t h) e
      by false e h = absurd (none-some t h)

  global-fine : (vs : List Value) (place : Place) → Fine begin (global_asked s vs place)
  global-fine vs place =
      if-one (Fine begin) (type_there s.world (argument vs 0)) (said (bad_argument s place 1 library.Global)) _
      (bad-fine place 1 library.Global)
      (λ t there. if-one (Fine begin) (initial_bits s.world t (argument vs 1)) (said (bad_argument s place 2 library.Global)) _
      (bad-fine place 2 library.Global)
      (λ bits e. asking-fine (asked_for.Layout t (nexts.Global t bits))
      (refl, there-by (argument vs 0) t (type_in (argument vs 0)) there)))

  or-full-good : (v : StageState) → Leaves s.world v → (o : Option GlobalId) (place : Place) →
      Good s (global_or_full (state v s.left) o place)
  or-full-good v h None place =
      leaves-twice s.world v (raised (state v s.left) place faults.StaticsFull).left.world h
      (raised-good (state v s.left) h.0 place faults.StaticsFull)
  or-full-good v h (Some g) place = h

  laid-out : (t : TypeId) → IsThere s.world t → (c : Bool) → is_aggregate_form (form_in s.world t) ≡ c →
      IsLaidOut s.world t c → has_layout (foreseen s.world) t ≡ true
  laid-out t there true e h = sized-layout (foreseen s.world) t h
  laid-out t there false e h =
      flat-layout (foreseen s.world) t (ltb-true t.0 (length s.world.store.types) there) e

  global-good : (t : TypeId) (bytes : List ℕ) (place : Place) → IsThere s.world t →
      IsLaidOut s.world t (is_aggregate_form (form_in s.world t)) → Good s (global_turned s t bytes place)
  global-good t bytes place there h =
      or-full-good (with_global_in s.world t bytes)
      (global-leaves s.world old t bytes (laid-out t there (is_aggregate_form (form_in s.world t)) refl h)) _ place

  -- an answer to the question of a global
  global-back-fine : (t : TypeId) (bits : ℕ) (answer : CheckAnswer) (place : Place) → IsThere s.world t →
      FitsAsk (asked_for.Layout t (nexts.Global t bits)) answer s.world → Fine begin (global_backed s t bits answer place)
  global-back-fine t bits answers.Done place there h =
      let bytes = first_bytes (bytes_in s.world t) bits in
      said-fine begin s led (global_turned s t bytes place) (global-good t bytes place there h)
  global-back-fine t bits (answers.NoLayout kind) place there h = refused-fine kind (struct_place s.world t) place
  global-back-fine t bits _ place there h = absurd h

  -- ---- checks

  compile-fine : (v : Value) (place : Place) → Fine begin (compile_of s v place)
  compile-fine (values.TerraFunction f) place = asking-fine (asked_for.Check f nexts.Compile) tt
  compile-fine (values.Primitive p) place = said-fine begin s led (gives s s.world []) itself
  compile-fine _ place = bad-fine place 1 library.Compile

  compile-back-fine : (answer : CheckAnswer) (place : Place) → Fine begin (compile_backed s answer place)
  compile-back-fine answer place = check-fine answer (λ r. place) _ (said-fine begin s led (gives s s.world []) itself)

  typed-or-fine : (o : Option (List TypeId)) (r : KnownResult) (other : Asked) → Fine begin other → Fine begin (typed_or s o r other)
  typed-or-fine (Some ps) (results.Is t) other h = said-fine begin s led (function_of s ps t) (function-leaves s.world old ps t)
  typed-or-fine (Some ps) _ other h = h
  typed-or-fine None r other h = h

  type-or-fine : (f : FnId) (other : Asked) → Fine begin other → Fine begin (type_or s f other)
  type-or-fine f other h = typed-or-fine (parameters_of s.world f) (result_of s.world f) other h

  bytes-leave : Leaves s.world (with_bytes s).world
  bytes-leave = pointer-leaves s.world old uint8

  behind-bytes : (ps : List TypeId) (r : TypeId) → Good s (function_of (with_bytes s) ps r)
  behind-bytes ps r =
      leaves-twice s.world (with_bytes s).world (function_of (with_bytes s) ps r).left.world bytes-leave
      (function-leaves (with_bytes s).world bytes-leave.0 ps r)

  primitive-good : (p : Primitive) → Good s (primitive_type s p)
  primitive-good PutByte = function-leaves s.world old (uint8 ∷ []) unit
  primitive-good Write = behind-bytes (pointer_id s.world uint8 ∷ int64 ∷ []) unit
  primitive-good Alloc = behind-bytes (int64 ∷ []) (pointer_id s.world uint8)

  gettype-fine : (v : Value) (place : Place) → Fine begin (gettype_of s v place)
  gettype-fine (values.TerraFunction f) place =
      type-or-fine f (asked (asked_for.Check f (nexts.GetType f)) s)
      (asking-fine (asked_for.Check f (nexts.GetType f)) tt)
  gettype-fine (values.Primitive p) place = said-fine begin s led (primitive_type s p) (primitive-good p)
  gettype-fine (values.Quote q) place =
      if-one (Fine begin) (quote_type s.world (slice_get s.world.store.quotes q.0)) (said (raised s place faults.QuoteWithoutType)) _
      (said-fine begin s led (raised s place faults.QuoteWithoutType) (raised-good s old place faults.QuoteWithoutType))
      (λ t e. said-fine begin s led (gives_one s s.world (values.TerraType t)) itself)
  gettype-fine _ place = bad-fine place 1 library.GetType

  gettype-back-fine : (f : FnId) (answer : CheckAnswer) (place : Place) → Fine begin (gettype_backed s f answer place)
  gettype-back-fine f answer place =
      check-fine answer (λ r. place) (type_or s f (said (gives s s.world [])))
      (type-or-fine f (said (gives s s.world [])) (said-fine begin s led (gives s s.world []) itself))

  -- ---- exports

  bad-export-fine : (place : Place) → Fine begin (said (raised s place faults.BadExport))
  bad-export-fine place = said-fine begin s led (raised s place faults.BadExport) (raised-good s old place faults.BadExport)

  fared-fine : (at_end : Bool) (counted : CountedState) (fate : Fate) (rest : Pairs) (place : Place) →
      WasCounted begin s.world counted → Fine begin (fared s at_end counted fate rest place)
  fared-fine at_end counted (fates.Exported key f) rest place right =
      asking-fine (asked_for.Check f (nexts.Export (waiting at_end counted key f rest))) (refl, right)
  fared-fine at_end counted fates.Refused rest place right = bad-export-fine place
  fared-fine at_end counted fates.LeftOut rest place right = said-fine begin s led (gives s s.world []) itself

  exported-fine : (at_end : Bool) (counted : CountedState) (ps : Pairs) (place : Place) →
      WasCounted begin s.world counted → Fine begin (exported s at_end counted ps place)
  exported-fine at_end counted ps place right =
      fared-fine at_end counted (next_of s.world at_end ps).fate (next_of s.world at_end ps).rest place right

module _ (begin : StageState) (s : State StageState) (old : IsSound s.world) (led : Leads begin s.world) where
  there-of : (f : FnId) → is_undefined s.world f ≡ false → (g : Function) × (function_at s.world f ≡ Some g)
  there-of f h = by (function_at s.world f) refl h
    where
      by : (o : Option Function) → function_at s.world f ≡ o →
          undefined_state (option_map_or (λ (x : Function). x.state) o standing.Undefined) ≡ false →
          (g : Function) × (function_at s.world f ≡ Some g)
      by None at h = absurd (no (sym h))
      by (Some g) at h = (g, at)

  abbrev export_of : ExportNext → Export
  export_of next = record { name = text_at s.world.heap next.key; function = next.function }

  -- it is exported, and the entries behind it follow
  added-to-fine : (next : ExportNext) (counted : CountedState) (place : Place) → MayCome s.world (export_of next) →
      (AreFine begin → (counted.exports ≡ suc (length s.world.exports.list)) ×
      AreCounted s.world (s.world.exports.list ++ export_of next ∷ []) counted.functions counted.nodes) →
      Fine begin (added_to s next counted place)
  added-to-fine next counted place come right =
      let x = export_of next in
      let v = state (with_exported s.world next.key next.function) s.left in
      let sound = exporting-sound s.world old x in
      exported-fine begin v sound
      (exporting-leads s.world old x begin led come counted.functions counted.nodes (λ h. (right h).1)) next.at_end counted
      next.rest place
      (λ h. counted-behind s.world v.world old sound (exporting-grows s.world old x) counted x refl (right h))

  added-by-fine : (next : ExportNext) (o : Option ℕ) (place : Place) → MayCome s.world (export_of next) →
      WasCounted begin s.world next.counted → (count_with s.world next.counted next.function).passing ≡ o →
      Fine begin (added_by s next (count_with s.world next.counted next.function).counted o place)
  added-by-fine next None place come right none =
      added-to-fine next (count_with s.world next.counted next.function).counted place come
      (λ h. counted-with s.world old (led.fine h) next.counted (right h) (export_of next) come.ready none)
  added-by-fine next (Some f) place come right is =
      let own = place_of_function s.world (numbered f) in
      refused-fine begin s old led TooLarge own (raised_at next.at_end own place)

  fate-by-fine : (next : ExportNext) (place : Place) → WasReady s.world next.function →
      is_free s.world (text_at s.world.heap next.key) ≡ true →
      takes_scalars s.world (parameters_in (term_of_function s.world next.function)) ≡ true →
      WasCounted begin s.world next.counted →
      (at_end gives : Bool) → gives_scalar s.world (found_result (result_of s.world next.function)) ≡ gives →
      Fine begin (checked s next (fate_by at_end gives next.key next.function) place)
  fate-by-fine next place ready free takes right at_end true gives =
      added-by-fine next (count_with s.world next.counted next.function).passing place
      (may-come s.world old (export_of next) ready free takes gives) right refl
  fate-by-fine next place ready free takes right true false gives =
      exported-fine begin s old led next.at_end next.counted next.rest place right
  fate-by-fine next place ready free takes right false false gives = bad-export-fine begin s old led place

  checked-fine : (next : ExportNext) (place : Place) →
      ((g : Function) → function_at s.world next.function ≡ Some g → WasReady s.world next.function) →
      WasCounted begin s.world next.counted →
      Fine begin (checked s next (fate_after s.world next.at_end next.key next.function) place)
  checked-fine next place is right =
      let free = is_free s.world (text_at s.world.heap next.key) in
      let undefined = is_undefined s.world next.function in
      let takes = takes_scalars s.world (parameters_in (term_of_function s.world next.function)) in
      let gives = gives_scalar s.world (found_result (result_of s.world next.function)) in
      either-way (λ fate. Fine begin (checked s next fate place)) (free && (not undefined && takes))
      (fate_by next.at_end gives next.key next.function) fates.Refused
      (λ c.
      let both = and_parts free (not undefined && takes) c in
      let may = and_parts (not undefined) takes both.1 in
      let g = there-of next.function (not-true undefined may.0) in
      fate-by-fine next place (is g.0 g.1) both.0 may.1 right next.at_end gives refl)
      (λ c. bad-export-fine begin s old led place)

  export-back-fine : (next : ExportNext) (answer : CheckAnswer) (place : Place) →
      FitsAsk (asked_for.Check next.function (nexts.Export next)) answer s.world → WasCounted begin s.world next.counted →
      Fine begin (export_backed s next answer place)
  export-back-fine next (answers.Refused r) place h right =
      refused-fine begin s old led r.kind r.place (raised_at next.at_end r.place place)
  export-back-fine next answers.Done place h right = checked-fine next place h right
  export-back-fine next _ place h right = absurd h

-- ---- calls

module _ (s : State StageState) (old : IsSound s.world) where
  abbrev Begun : Asked → Type 0
  Begun it = Fine s.world it

  own : Leads s.world s.world
  own = leads-itself s.world

  marked-leaves : Leaves s.world (marked s.world)
  marked-leaves = saved-leaves s.world old true

  table-fine : (at_end : Bool) (t : TableId) (place : Place) → Begun (table_exported s at_end t place)
  table-fine at_end t place =
      let v = state (marked s.world) s.left in
      let ps = taken s.world at_end (table_at s.world.heap t) in
      exported-fine s.world v marked-leaves.0 marked-leaves.1 at_end nothing ps place (λ h. nothing-counted v.world)

  saveobj-bad : (place : Place) (position : ℕ) →
      Begun (said (bad_argument (state (marked s.world) s.left) place position library.SaveObj))
  saveobj-bad place position =
      bad-fine s.world (state (marked s.world) s.left) marked-leaves.0 marked-leaves.1 place position library.SaveObj

  saveobj-fine : (vs : List Value) (place : Place) → Begun (saveobj_asked s vs place)
  saveobj-fine vs place =
      either-way Begun (is_text (argument vs 0))
      (with_one (table_in (argument vs 1)) (said (bad_argument (state (marked s.world) s.left) place 2 library.SaveObj))
      (λ t. table_exported s false t place))
      (said (bad_argument (state (marked s.world) s.left) place 1 library.SaveObj))
      (λ h. if-one Begun (table_in (argument vs 1))
      (said (bad_argument (state (marked s.world) s.left) place 2 library.SaveObj)) (λ t. table_exported s false t place)
      (saveobj-bad place 2) (λ t e. table-fine false t place))
      (λ h. saveobj-bad place 1)

  nothing-said : Begun (said (gives s s.world []))
  nothing-said = said-fine s.world s own (gives s s.world []) (leaves-itself s.world old)

  pub chunk-fine : (place : Place) → Begun (chunk_ended s place)
  chunk-fine place =
      either-way Begun s.world.exports.saved (said (gives s s.world [])) (table_exported s true globals place)
      (λ h. nothing-said) (λ h. table-fine true globals place)

  -- ---- all of them

  answered-fine : (f : LibFn) (vs : List Value) (place : Place) → Begun (answered s f vs place)
  answered-fine library.Global vs place = global-fine s.world s old own vs place
  answered-fine library.SizeOf vs place = sizeof-fine s.world s old own vs place
  answered-fine library.OffsetOf vs place = offsetof-fine s.world s old own vs place
  answered-fine library.Compile vs place = compile-fine s.world s old own (argument vs 0) place
  answered-fine library.GetType vs place = gettype-fine s.world s old own (argument vs 0) place
  answered-fine library.SaveObj vs place = saveobj-fine vs place
  answered-fine _ vs place = nothing-said

  pub called-fine : (call : LibCall) → Begun (called s call)
  called-fine call = answered-fine call.function call.args call.place

-- ---- answers

-- The call began in one world, and its question was asked in another one, to which the first one led.
module _ (begin w : StageState) (s : State StageState) (before : IsSound w) (led : Leads begin w) (old : IsSound s.world)
    (leads : Leads w s.world) where
  on : Leads begin s.world
  on = leads-twice begin w s.world led leads

  check-back : (f : FnId) (next : AskNext) (answer : CheckAnswer) (place : Place) →
      AskIsFine begin w (asked_for.Check f next) →
      FitsAsk (asked_for.Check f next) answer s.world → Fine begin (backed s next answer place)
  check-back f (nexts.SizeOf t) answer place fine fits = sizeof-back-fine begin s old on t answer place
  check-back f (nexts.OffsetOf t name) answer place fine fits = offsetof-back-fine begin s old on t name answer place
  check-back f (nexts.Global t bits) answer place fine fits = absurd fine
  check-back f nexts.Compile answer place fine fits = compile-back-fine begin s old on answer place
  check-back f (nexts.GetType g) answer place fine fits = gettype-back-fine begin s old on g answer place
  check-back f (nexts.Export next) answer place fine fits =
      export-back-fine begin s old on next answer place (same-fits answer fits)
      (λ h. counted-on w s.world before old leads next.counted (fine.1 h))
    where
      same-fits : (answer : CheckAnswer) → FitsAsk (asked_for.Check f (nexts.Export next)) answer s.world →
          FitsAsk (asked_for.Check next.function (nexts.Export next)) answer s.world
      same-fits answer h = subst (λ x. FitsAsk (asked_for.Check x (nexts.Export next)) answer s.world) (sym fine.0) h

  layout-back : (t : TypeId) (next : AskNext) (answer : CheckAnswer) (place : Place) →
      AskIsFine begin w (asked_for.Layout t next) → FitsAsk (asked_for.Layout t next) answer s.world →
      Fine begin (backed s next answer place)
  layout-back t (nexts.SizeOf u) answer place fine fits = sizeof-back-fine begin s old on u answer place
  layout-back t (nexts.OffsetOf u name) answer place fine fits = offsetof-back-fine begin s old on u name answer place
  layout-back t (nexts.Global u bits) answer place fine fits =
      global-back-fine begin s old on u bits answer place
      (there-kept w.store.types s.world.store.types leads.grows.types u
      (subst (λ x. is_type w.store.types x ≡ true) (sym fine.0) fine.1))
      (subst (λ x. FitsAsk (asked_for.Layout x (nexts.Global u bits)) answer s.world) (sym fine.0) fits)
  layout-back t nexts.Compile answer place fine fits = compile-back-fine begin s old on answer place
  layout-back t (nexts.GetType g) answer place fine fits = gettype-back-fine begin s old on g answer place
  layout-back t (nexts.Export next) answer place fine fits = absurd fine

  pub answer-fine : (question : AskTurn) (next : AskNext) (answer : CheckAnswer) (place : Place) →
      goes_on_with question ≡ Some next → AskIsFine begin w question → FitsAsk question answer s.world →
      Fine begin (backed s next answer place)
  answer-fine (asked_for.Check f x) next answer place is fine fits =
      subst (λ n. Fine begin (backed s n answer place)) (same-some x next is) (check-back f x answer place fine fits)
  answer-fine (asked_for.Layout t x) next answer place is fine fits =
      subst (λ n. Fine begin (backed s n answer place)) (same-some x next is) (layout-back t x answer place fine fits)
  answer-fine (asked_for.Turn turn) next answer place is fine fits = absurd (none-some next is)
