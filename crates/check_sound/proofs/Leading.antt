-- What layers leave, one behind the other.
use Rattle.std.proofs.Common.{◌≡◌, ℕ, ◌≤◌, true, List, [], ◌∷◌, ◌++◌, length, append_assoc, append-nil, Option, Some, refl, sym, ap, ◌∙◌}
use Rattle.std.proofs.Common.{subst, slice_get}
use Rattle.std.specs.Prelude.{unwrap_or}
use Rattle.std.specs.Option.{option_map_or}
use Rattle.std.proofs.lemmas.Bool.{ltb-true}
use Rattle.tl_base.specs.declared.ids.FnId.{FnId}
use Rattle.tl_base.specs.declared.ids.TypeId.{TypeId}
use Rattle.lua_table.specs.Keeping.{IsFront}
use Rattle.lua_table.proofs.Keeping.{front_self, front_then}
use Rattle.terra_types.specs.declared.types.TypeForm.{TypeForm}
use Rattle.terra_types.specs.declared.types.TypeForm.TheVariants as forms
use Rattle.terra_types.specs.Keeping.{KeepsForm}
use Rattle.terra_term.specs.declared.lists.TypedName.{TypedName}
use Rattle.terra_term.specs.declared.store.Export.{Export}
use Rattle.terra_term.specs.declared.store.Function.{Function}
use Rattle.terra_term.specs.declared.store.FunctionState.TheVariants as standing
use Rattle.exotype.specs.World.{StageState, ExportState}
use Rattle.check_model.specs.Typing.{TypingState, function_at, form_in}
use Rattle.check_sound.specs.Sound.{IsThere}
use Rattle.check_sound.specs.Exports.{IsOutward, is_word_form, is_result_form, all_words}
use Rattle.check_sound.specs.Growing.{Grows, WasReady, StaysDeclared, WereCounted, AreFine, Leads}
use Rattle.check_sound.proofs.Tests.{got, keep, no}
use Rattle.check_sound.proofs.Shapes.{stays-is}
use Rattle.check_sound.proofs.Grows.{grows-itself, grows-twice}
use Rattle.check_sound.proofs.Lasting.{ready-result}

-- functions keep the types with which they were declared
abbrev pub StayDeclared : StageState → StageState → Type 0
StayDeclared w v = (f : FnId) (g : Function) → function_at w f ≡ Some g → StaysDeclared v f g

pub declared-itself : (w : StageState) → StayDeclared w w
declared-itself w f g at = record { now = g; at = at; declared = refl }

pub declared-twice : (w v x : StageState) → StayDeclared w v → StayDeclared v x → StayDeclared w x
declared-twice w v x a b f g at =
    let one = a f g at in
    let two = b f one.now one.at in
    record { now = two.now; at = two.at; declared = two.declared ∙ one.declared }

-- ---- exports

-- what was ready once stays so
pub was-ready-on : (w v : StageState) → Grows w v → (f : FnId) → WasReady w f → WasReady v f
was-ready-on w v g f r = record {
  then = r.then;
  sound = r.sound;
  grows = grows-twice r.then w v r.grows g;
  queue = r.queue;
  reached = r.reached;
  ready = r.ready;
}

-- what was counted once stays so
pub were-counted-on : (w v : StageState) → Grows w v → (es : List Export) (fs : List ℕ) (n : ℕ) → WereCounted w es fs n →
    WereCounted v es fs n
were-counted-on w v g es fs n c = record {
  then = c.then;
  sound = c.sound;
  grows = grows-twice c.then w v c.grows g;
  counted = c.counted;
}

-- types of one word stay so, since none of them is a struct
words-on : (w v : StageState) → Grows w v → (ts : List TypeId) → all_words w ts ≡ true → all_words v ts ≡ true
words-on w v g [] h = refl
words-on w v g (t ∷ ts) h =
    keep (is_word_form (form_in w t)) (all_words w ts) (is_word_form (form_in v t)) (all_words v ts)
    (λ e. stays-is w.store.types v.store.types g.types is_word_form refl (λ n p. refl) t e) (words-on w v g ts) h

result-kept : (f g : TypeForm) → KeepsForm f g → is_result_form f ≡ true → is_result_form g ≡ true
result-kept (forms.Integer i) g k h = ap is_result_form k
result-kept forms.Bool g k h = ap is_result_form k
result-kept forms.Unit g k h = ap is_result_form k
result-kept (forms.Pointer t) g k h = ap is_result_form k
result-kept (forms.Array t n) g k h = absurd (no h)
result-kept (forms.Function ps r) g k h = absurd (no h)
result-kept (forms.Struct n p l) g k h = absurd (no h)

-- the type of a result is there, and so stays what it is
gives-on : (w v : StageState) → Grows w v → (t : TypeId) → IsThere w t → is_result_form (form_in w t) ≡ true →
    is_result_form (form_in v t) ≡ true
gives-on w v g t there h =
    let form = got w.store.types t.0 (ltb-true t.0 (length w.store.types) there) in
    let now = g.types t.0 form.0 form.1 in
    let was : is_result_form form.0 ≡ true =
    ap (λ (o : Option TypeForm). is_result_form (unwrap_or o forms.Unit)) (sym form.1) ∙ h in
    ap (λ (o : Option TypeForm). is_result_form (unwrap_or o forms.Unit)) now.1.0 ∙
    result-kept form.0 now.0 now.1.1 was

pub outward-on : (w v : StageState) → Grows w v → (f : FnId) → WasReady w f → IsOutward w f → IsOutward v f
outward-on w v g f r h = record {
  parameters = h.parameters;
  parameters_are = g.parameters f h.parameters h.parameters_are;
  eight = h.eight;
  words = words-on w v g h.parameters h.words;
  result = h.result;
  result_is = g.results f h.result h.result_is;
  gives = gives-on w v g h.result (ready-result w f h.result r h.result_is) h.gives;
}

-- exports stay fine where the world grows, and has no other ones
pub fine-grows : (w v : StageState) → Grows w v → v.exports ≡ w.exports → AreFine w → AreFine v
fine-grows w v g same h = record {
  names = λ i e at. h.names i e (old i e at);
  differ = λ i j d e first second. h.differ i j d e (old i d first) (old j e second);
  ready = λ i e at. was-ready-on w v g e.function (h.ready i e (old i e at));
  outward = λ i e at. outward-on w v g e.function (h.ready i e (old i e at)) (h.outward i e (old i e at));
  many = subst (λ (x : ExportState). length x.list ≤ 4000000) (sym same) h.many;
  functions = h.functions;
  nodes = h.nodes;
  counted =
      subst (λ (x : ExportState). WereCounted v x.list h.functions h.nodes) (sym same)
      (were-counted-on w v g w.exports.list h.functions h.nodes h.counted);
}
  where
    old : (i : ℕ) (e : Export) → slice_get v.exports.list i ≡ Some e → slice_get w.exports.list i ≡ Some e
    old i e at = ap (λ (x : ExportState). slice_get x.list i) (sym same) ∙ at

-- ---- what is left

pub leads-itself : (w : StageState) → Leads w w
leads-itself w = record {
  grows = grows-itself w;
  declared = declared-itself w;
  typing = λ f t h. h;
  memory = refl;
  exports = front_self w.exports.list;
  fine = λ h. h;
}

pub leads-twice : (w v x : StageState) → Leads w v → Leads v x → Leads w x
leads-twice w v x a b = record {
  grows = grows-twice w v x a.grows b.grows;
  declared = declared-twice w v x a.declared b.declared;
  typing = λ f t h. b.typing f t (a.typing f t h);
  memory = b.memory ∙ a.memory;
  exports = front_then w.exports.list v.exports.list x.exports.list a.exports b.exports;
  fine = λ h. b.fine (a.fine h);
}

pub same-front : (w v : StageState) → v.exports ≡ w.exports → IsFront w.exports.list v.exports.list
same-front w v same = ([], ap (λ (x : ExportState). x.list) same ∙ sym (append-nil w.exports.list))

-- where functions, memory and exports stay as they are
pub leads-by : (w v : StageState) → Grows w v → v.store.functions ≡ w.store.functions → v.memory ≡ w.memory →
    v.exports ≡ w.exports → Leads w v
leads-by w v g functions memory exports = record {
  grows = g;
  declared = λ f x at. record { now = x; at = ap (λ l. slice_get l f.0) functions ∙ at; declared = refl };
  typing = λ f t h. ap (λ (l : List Function). option_map_or (λ (x : Function). x.state) (slice_get l f.0) standing.Undefined)
      functions ∙ h;
  memory = memory;
  exports = same-front w v exports;
  fine = fine-grows w v g exports;
}

-- ---- with the variables in scope

-- what stays of the world, and of the variables in scope, whatever is typed and however it ends
pub record Moves (w v : TypingState) : Type 0 where
  pub leads : Leads w.stage v.stage
  pub front : IsFront w.variables v.variables

pub moves-same : (w v : TypingState) → Leads w.stage v.stage → v.variables ≡ w.variables → Moves w v
moves-same w v l same = record { leads = l; front = ([], same ∙ sym (append-nil w.variables)) }

pub moves-itself : (w : TypingState) → Moves w w
moves-itself w = moves-same w w (leads-itself w.stage) refl

pub moves-twice : (w v x : TypingState) → Moves w v → Moves v x → Moves w x
moves-twice w v x a b = record {
  leads = leads-twice w.stage v.stage x.stage a.leads b.leads;
  front = (
    a.front.0 ++ b.front.0,
    b.front.1 ∙ (ap (λ (l : List TypedName). l ++ b.front.0) a.front.1 ∙ append_assoc w.variables a.front.0 b.front.0),
  );
}
