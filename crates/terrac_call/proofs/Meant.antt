-- What is due for a call of an image is what the exports mean.
use Rattle.std.proofs.Common.{◌≡◌, ◌≢◌, inl, inr, ℕ, zero, suc, ◌*◌, ◌≤◌, Bool, true, cond, List, [], ◌∷◌, ◌++◌, length, map}
use Rattle.std.proofs.Common.{Option, Some, None, refl, sym, ap, subst, ◌∙◌, arith}
use Rattle.std.specs.Prelude.{slice_get, codes}
use Rattle.std.specs.List.{list_all}
use Rattle.std.specs.Str.{bytes_eq}
use Rattle.std.proofs.lemmas.Slice.Eq.{bytes_eq-Decides}
use Rattle.tl_base.specs.declared.ids.TypeId.{TypeId}
use Rattle.elf_image.specs.declared.image.Image.{Image}
use Rattle.elf_image.specs.declared.image.Symbol.{Symbol}
use Rattle.elf_image.specs.Calls.{symbol_named}
use Rattle.elf_image.specs.Exports.{param_rule}
use Rattle.elf_image.specs.Fields.{allows}
use Rattle.terra_words.specs.declared.words.FaultKind.{FaultKind as TerraFault}
use Rattle.terra_words.specs.declared.words.FaultKind.TheVariants as faults
use Rattle.terra_words.specs.Words.{fault_number}
use Rattle.terra_words.specs.Runs.{End, Returned, Fault, Stuck, Run, Over, word}
use Rattle.terra_types.specs.declared.types.TypeForm.{TypeForm}
use Rattle.terra_term.specs.declared.store.Export.{Export}
use Rattle.terra_term.specs.Stores.{Contents, contents_of}
use Rattle.terra_meaning.specs.Values.{AreValues, form_at}
use Rattle.terra_meaning.specs.Meaning.{meaning}
use Rattle.rv_machine.specs.declared.stops.Stop.{Stop}
use Rattle.rv_machine.specs.declared.stops.Stop.TheVariants as stops
use Rattle.rv_machine.specs.Machine.{Ran}
use Rattle.rv_machine.specs.ImageRun.{image_start}
use Rattle.back_end.specs.Agrees.{SameEnd}
use Rattle.back_end.specs.Compiled.{AreExported, AreReady, HasTypedPart, IsExported, codes_of, type_code}
use Rattle.exotype.specs.World.{StageState}
use Rattle.ready_image.specs.Places.{HasPlace}
use Rattle.ready_image.proofs.FaultPlaces.{faults-have-places}
use Rattle.stage_image.specs.Emitted.{defined_count}
use Rattle.terrac_call.specs.Arguments.{Arguments, Good, Bad, arguments_of}
use Rattle.terrac_call.specs.Due.{Due, after, given, line, noting}
use Rattle.terrac_call.specs.Exec.{IsCallDue, IsRunDue, Manner, due_of_fault, due_of_stop, fault_kind, place_of, shown_file}
use Rattle.terrac_call.specs.Headline.{TellsMeaning}
use Rattle.terrac_call.specs.Meant.{CallsAreMeant, IsBadWord, IsCallMeant, IsEndSaid, IsMeaningSaid, IsMeant, IsNoExport, IsOver}
use Rattle.terrac_call.specs.Meant.{IsUnfinished}
use Rattle.terrac_call.specs.Meant.{Named, arguments_said, fault_said}
use Rattle.terrac_call.specs.Words.{Asking}
use Rattle.terrac_call.specs.Run.{IsImageDue, front_of, manner_of, memory_of}
use Rattle.terrac_call.proofs.Calls.{is_true_or_false, scalar_params}
use Rattle.terrac_call.proofs.DueMeaning.{are_of_types, export_at, good_due, named_at}
use Rattle.terrac_call.proofs.Faults.{IsFewStop, few_kinds, read_back}
use Rattle.terrac_call.proofs.Headline.{runs_tell_meaning}
use Rattle.terrac_call.proofs.Saying.{same_arguments, same_text}

-- ---- how a run ends

kind_said : (kind : TerraFault) (k : ℕ) → k ≡ fault_number kind → k ≤ 6 → fault_said kind ≡ Some (fault_kind k)
kind_said faults.BadAddress k is few = subst (λ (n : ℕ). fault_said faults.BadAddress ≡ Some (fault_kind n)) (sym is) refl
kind_said faults.DivZero k is few = subst (λ (n : ℕ). fault_said faults.DivZero ≡ Some (fault_kind n)) (sym is) refl
kind_said faults.StackFull k is few = subst (λ (n : ℕ). fault_said faults.StackFull ≡ Some (fault_kind n)) (sym is) refl
kind_said faults.CallDepth k is few = subst (λ (n : ℕ). fault_said faults.CallDepth ≡ Some (fault_kind n)) (sym is) refl
kind_said faults.NoReturn k is few = subst (λ (n : ℕ). fault_said faults.NoReturn ≡ Some (fault_kind n)) (sym is) refl
kind_said faults.BadCall k is few = subst (λ (n : ℕ). fault_said faults.BadCall ≡ Some (fault_kind n)) (sym is) refl

-- what is due for how the machine stopped is what is due for how the function ended
end_said : (types : List TypeForm) (result : TypeId) (front : List ℕ) (e : End) (out : List ℕ) (stop : Stop) → SameEnd types result e stop
    → IsFewStop stop → HasPlace (Over e out)
    → IsEndSaid front (form_at types result) e (due_of_stop front (type_code (form_at types result)) stop)
end_said types result front (Returned v) out (stops.Returned x) same few placed =
    ap (λ (t : List ℕ). given (line (front ++ codes "result " ++ t))) (same_text (form_at types result) x v same)
end_said types result front (Returned v) out (stops.TerraFault k place) same few placed = absurd same
end_said types result front (Returned v) out (stops.MachineFault k pc) same few placed = absurd same
end_said types result front (Returned v) out stops.Unfinished same few placed = absurd same
end_said types result front (Returned v) out stops.WriteFault same few placed = absurd same
end_said types result front (Fault kind at) out (stops.TerraFault k place) same few placed =
    (fault_kind k, kind_said kind k same.0 few, ap (due_of_fault (fault_kind k)) (ap place_of same.1 ∙ read_back at placed))
end_said types result front (Fault kind at) out (stops.Returned x) same few placed = absurd same
end_said types result front (Fault kind at) out (stops.MachineFault k pc) same few placed = absurd same
end_said types result front (Fault kind at) out stops.Unfinished same few placed = absurd same
end_said types result front (Fault kind at) out stops.WriteFault same few placed = absurd same
end_said types result front Stuck out stop same few placed = elim same [ ]

-- a run that tells what a function means, whose faults have places of a text
module _ (types : List TypeForm) (result : TypeId) (source : ℕ → Run) (placed : (n : ℕ) → HasPlace (source n)) (steps most : ℕ)
    (file front : List ℕ) (ran : Ran) (few : IsFewStop ran.stop)
    (tells : TellsMeaning (λ end it. SameEnd types result end it.stop) source steps most ran) where
  abbrev told : Stop → Due
  told stop = noting file (after ran.output (due_of_stop front (type_code (form_at types result)) stop))

  -- where it is over
  over_said : ran.stop ≢ stops.Unfinished → IsMeaningSaid source (form_at types result) steps most file front (told ran.stop)
  over_said over =
      let ends = tells.ends_so over in
      IsOver ends.0 ran.output (due_of_stop front (type_code (form_at types result)) ran.stop) ends.1
      (end_said types result front ends.0 ran.output ran.stop ends.2 few (subst HasPlace ends.1 (placed steps))) refl

  pub meaning_said : IsMeaningSaid source (form_at types result) steps most file front (told ran.stop)
  meaning_said = by ran.stop refl
    where
      by : (stop : Stop) → ran.stop ≡ stop → IsMeaningSaid source (form_at types result) steps most file front (told ran.stop)
      by stops.Unfinished is =
          IsUnfinished ran.output (tells.unfinished is) tells.prints_no_more tells.prints_all (ap told is)
      by (stops.Returned x) is = over_said (λ not. let no : stops.Returned x ≡ stops.Unfinished = sym is ∙ not in absurd cc)
      by (stops.TerraFault k place) is = over_said (λ not. let no : stops.TerraFault k place ≡ stops.Unfinished = sym is ∙ not in absurd cc)
      by (stops.MachineFault k pc) is = over_said (λ not. let no : stops.MachineFault k pc ≡ stops.Unfinished = sym is ∙ not in absurd cc)
      by stops.WriteFault is = over_said (λ not. let no : stops.WriteFault ≡ stops.Unfinished = sym is ∙ not in absurd cc)

-- ---- which export a call names

named_there : (name : List ℕ) (symbols : List Symbol) (i : ℕ) (s : Symbol) → slice_get symbols i ≡ Some s → s.name ≡ name
    → symbol_named name symbols ≡ None → ⊥
named_there name [] i s there is none = absurd cc
named_there name (x ∷ xs) zero s there is none =
    let one : x ≡ s = cc in
    let here : bytes_eq name x.name ≡ true = (bytes_eq-Decides name x.name).1 (sym (ap (λ (y : Symbol). y.name) one ∙ is)) in
    let some : ◌≡◌ {A = Option Symbol} (Some x) None = sym (ap (λ (b : Bool). cond b (Some x) (symbol_named name xs)) here) ∙ none in
    absurd cc
named_there name (x ∷ xs) (suc i) s there is none =
    elim (is_true_or_false (bytes_eq name x.name)) [
      | inl here ↦
          let some : ◌≡◌ {A = Option Symbol} (Some x) None = sym (ap (λ (b : Bool). cond b (Some x) (symbol_named name xs)) here)
          ∙ none in
          absurd cc
      | inr behind ↦
          named_there name xs i s there is (sym (ap (λ (b : Bool). cond b (Some x) (symbol_named name xs)) behind) ∙ none)
    ]

-- where an export stands a symbol stands, which is its own
symbol_at : (store : Contents) (image : Image) (most : ℕ) (es : List Export) (ss : List Symbol) (i : ℕ) (e : Export)
    → AreExported store image most es ss → slice_get es i ≡ Some e → (s : Symbol) × (slice_get ss i ≡ Some s) × (s.name ≡ e.name)
symbol_at store image most [] ss i e all there = absurd cc
symbol_at store image most (x ∷ es) [] i e all there = absurd all
symbol_at store image most (x ∷ es) (y ∷ ss) zero e all there =
    let one : x ≡ e = cc in
    (y, refl, all.0.name ∙ ap (λ (z : Export). z.name) one)
symbol_at store image most (x ∷ es) (y ∷ ss) (suc i) e all there = symbol_at store image most es ss i e all.1 there

-- ---- the whole

module _ (it : Asking) (w : StageState) (due : Due) (x : IsImageDue it w due) (has : HasTypedPart (contents_of w.store) w.exports.list)
    (ready : AreReady (contents_of w.store) w.exports.list) where
  abbrev store : Contents
  store = contents_of w.store

  abbrev most : ℕ
  most = length x.image.text

  abbrev manner : Manner
  manner = manner_of it (defined_count w.store)

  no_export : symbol_named it.call.entry x.image.exports ≡ None → IsCallMeant it w x.image most due
  no_export none =
      IsNoExport
      (λ i e there is.
      let s = symbol_at store x.image most w.exports.list x.image.exports i e x.compiled.exported there in
      named_there it.call.entry x.image.exports i s.0 s.1 (s.2 ∙ is) none)
      (subst (λ (o : Option Symbol). IsCallDue x.image it.call manner o due) none x.due_is)

  module _ (symbol : Symbol) (found : symbol_named it.call.entry x.image.exports ≡ Some symbol) where
    abbrev at : (i : ℕ) × (slice_get x.image.exports i ≡ Some symbol) × (it.call.entry ≡ symbol.name)
    at = named_at it.call.entry x.image.exports symbol found

    abbrev export : (e : Export) × (slice_get w.exports.list at.0 ≡ Some e) × IsExported store x.image most e symbol
    export = export_at store x.image most w.exports.list x.image.exports at.0 symbol x.compiled.exported at.1

    abbrev named : Named it w
    named = record {
      i = at.0;
      e = export.0;
      there = export.1;
      named = sym (at.2 ∙ export.2.name);
      function = export.2.function;
      is = export.2.is;
    }

    -- the words say the same by the type codes of the symbol
    said : arguments_of symbol.params 1 it.call.arguments ≡ arguments_said it w named
    said =
        let scalar : list_all (allows param_rule) (codes_of store.types export.2.function.body.parameters) ≡ true =
        subst (λ (codes : List ℕ). list_all (allows param_rule) codes ≡ true) export.2.params
        (scalar_params x.image it.call.entry symbol x.compiled.lawful (sym found)) in
        ap (λ (codes : List ℕ). arguments_of codes 1 it.call.arguments) export.2.params
        ∙ same_arguments store.types export.2.function.body.parameters 1 it.call.arguments scalar

    run_due : IsRunDue x.image symbol manner (arguments_of symbol.params 1 it.call.arguments) due
    run_due = subst (λ (o : Option Symbol). IsCallDue x.image it.call manner o due) found x.due_is

    bad_word : (position : ℕ) → arguments_of symbol.params 1 it.call.arguments ≡ Bad position → IsCallMeant it w x.image most due
    bad_word position bad =
        IsBadWord named position (sym said ∙ bad) (subst (λ (a : Arguments). IsRunDue x.image symbol manner a due) bad run_due)

    good_words : (values : List ℕ) → arguments_of symbol.params 1 it.call.arguments ≡ Good values → IsCallMeant it w x.image most due
    good_words values good =
        let due_of_run = good_due x.image it manner symbol values due found good x.due_is in
        let ran = due_of_run.0 in
        let runs = due_of_run.1 in
        let function = export.2.function in
        let are : AreValues store.types function.body.parameters (map word values) =
        are_of_types store.types function.body.parameters 1 it.call.arguments values
        (subst (λ (codes : List ℕ). list_all (allows param_rule) codes ≡ true) export.2.params
        (scalar_params x.image it.call.entry symbol x.compiled.lawful (sym found)))
        (subst (λ (codes : List ℕ). arguments_of codes 1 it.call.arguments ≡ Good values) export.2.params good) in
        let source : ℕ → Run = λ n. meaning store [] (memory_of it) n export.0.function (map word values) in
        let tells = runs_tell_meaning store (memory_of it) w.exports.list x.image x.compiled at.0 export.0 symbol
        function values it.running.steps ran export.1 at.1 export.2.is are runs in
        let few : IsFewStop ran.stop =
        subst (λ (r : Ran). IsFewStop r.stop) runs.runs
        (few_kinds runs.program it.running.steps (image_start x.image symbol.address values)) in
        let front = front_of it.generated (defined_count w.store) in
        let form = form_at store.types function.body.result in
        let is : IsMeaningSaid source form it.running.steps most (shown_file manner x.image) front
        (noting (shown_file manner x.image) (after ran.output (due_of_stop front (type_code form) ran.stop))) =
        meaning_said store.types function.body.result source
        (λ n. faults-have-places store w.exports.list has ready at.0 export.0 export.1 (memory_of it) n (map word values))
        it.running.steps most (shown_file manner x.image) front ran few tells in
        let told : ℕ → Due = λ code. noting (shown_file manner x.image) (after ran.output (due_of_stop front code ran.stop)) in
        IsMeant named values (sym said ∙ good) are
        (subst (IsMeaningSaid source form it.running.steps most (shown_file manner x.image) front)
        (sym (due_of_run.2 ∙ ap told export.2.result)) is)

    by_words : (a : Arguments) → arguments_of symbol.params 1 it.call.arguments ≡ a → IsCallMeant it w x.image most due
    by_words (Good values) good = good_words values good
    by_words (Bad position) bad = bad_word position bad

  by_name : (o : Option Symbol) → symbol_named it.call.entry x.image.exports ≡ o → IsCallMeant it w x.image most due
  by_name None none = no_export none
  by_name (Some symbol) found = by_words symbol found (arguments_of symbol.params 1 it.call.arguments) refl

pub calls_are_meant : CallsAreMeant
calls_are_meant it w due x has ready = by_name it w due x has ready (symbol_named it.call.entry x.image.exports) refl
