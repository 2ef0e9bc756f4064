-- What plans are made of does the same where what it goes on with does the same.
use Rattle.std.specs.Prelude.{◌≡◌, ℕ, Bool, true, false, List, [], ◌∷◌, ◌++◌, length, nat_le, if◌then◌else◌}
use Rattle.std.specs.List.{All}
use Rattle.std.proofs.Common.{refl, ap, subst}
use Rattle.std.proofs.lemmas.List.Elements.{All-head, All-tail}
use Rattle.tl_base.specs.declared.ids.NodeId.{NodeId}
use Rattle.tl_base.specs.declared.place.Place.{Place}
use Rattle.tl_base.specs.declared.text.TheConstants.Text.{MAX_LEN}
use Rattle.tl_base.specs.Plan.{Give, Do, AskFor, Read, Write, Pay}
use Rattle.tl_tree.specs.Code.{Items, name_at}
use Rattle.tl_alike.specs.Alike.{HasSameUse, HasSameName, AreAlike}
use Rattle.tl_alike.specs.Plans.{DoSame}
use Rattle.lua_value.specs.declared.value.Value.{Value}
use Rattle.lua_value.specs.declared.value.Value.TheVariants as values
use Rattle.lua_table.specs.LuaState.{LuaState}
use Rattle.lua_table.specs.Heap.{interned_id}
use Rattle.lua_table.specs.Cells.{first_value}
use Rattle.lua_ops.specs.declared.fault.Fault.{Fault}
use Rattle.lua_model.specs.declared.scope.Scope.{Scope}
use Rattle.lua_model.specs.declared.job.Job.{Job}
use Rattle.lua_model.specs.declared.job.Job.TheVariants as jobs
use Rattle.lua_model.specs.declared.end.End.{End}
use Rattle.lua_model.specs.declared.end.End.TheVariants.{One, Many, Fell, Broke, Returned, Raised}
use Rattle.lua_model.specs.declared.question.LuaQuestion.{LuaQuestion}
use Rattle.lua_model.specs.declared.question.LuaQuestion.TheVariants.{Specialise}
use Rattle.lua_model.specs.declared.question.LuaAnswer.{LuaAnswer}
use Rattle.lua_model.specs.Plans.{LuaPlan, on_one, on_all, on_fell, reply, value_of, values_of, statements, entering, specialise}
use Rattle.lua_model.specs.Plans.{with_text_of, error_text, raise}
use Rattle.lua_alike.specs.Same.{IsAsked}

-- two trees that are alike
pub record Two : Type 0 where
  pub items : Items
  pub other : Items
  pub alike : AreAlike items other

abbrev pub SameUse : Two → NodeId → Type 0
SameUse two n = HasSameUse two.items two.other n

abbrev pub SameName : Two → NodeId → Type 0
SameName two n = HasSameName two.items two.other n

-- The expressions that are evaluated are at the positions of code.
abbrev pub IsProperJob : Two → Job → Type 0
IsProperJob two (jobs.Expression n scope) = SameUse two n
IsProperJob two _ = Unit {0}

-- two plans of Lua code do the same
pub record Same (two : Two) (plan other : LuaPlan) : Type 0 where
  pub same : DoSame (IsProperJob two) IsAsked plan other

pub then_same : {two : Two} {p q r : LuaPlan} → Same two p q → q ≡ r → Same two p r
then_same {two} {p} h e = subst (λ (x : LuaPlan). Same two p x) e h

pub if_same : {two : Two} {p q p2 q2 : LuaPlan} (c : Bool) → Same two p p2 → Same two q q2
    → Same two (if c then p else q) (if c then p2 else q2)
if_same true h k = h
if_same false h k = k

-- ---- one step

pub end_same : {two : Two} (r : End) → Same two (Give r) (Give r)
end_same r = record { same = refl }

pub do_same : {two : Two} (job : Job) {go goes : End → LuaPlan} → IsProperJob two job → ((r : End) → Same two (go r) (goes r))
    → Same two (Do job go) (Do job goes)
do_same job is h = record { same = (refl, is, λ r. (h r).same) }

pub ask_same : {two : Two} (q : LuaQuestion) {go goes : LuaAnswer → LuaPlan} → ((a : LuaAnswer) → Same two (go a) (goes a))
    → Same two (AskFor q go) (AskFor q goes)
ask_same q h = record { same = (refl, tt, λ a. (h a).same) }

pub reading_same : {two : Two} {go goes : LuaState → LuaPlan} → ((s : LuaState) → Same two (go s) (goes s))
    → Same two (Read go) (Read goes)
reading_same h = record { same = λ s. (h s).same }

pub writing_same : {two : Two} {s : LuaState} {p q : LuaPlan} → Same two p q → Same two (Write s p) (Write s q)
writing_same h = record { same = (refl, h.same) }

pub paying_same : {two : Two} {n : ℕ} {p q : LuaPlan} → Same two p q → Same two (Pay n p) (Pay n q)
paying_same h = record { same = (refl, h.same) }

-- ---- ends

pub on_one_same : {two : Two} (r : End) {go goes : Value → LuaPlan} → ((v : Value) → Same two (go v) (goes v))
    → Same two (on_one r go) (on_one r goes)
on_one_same (One v) h = h v
on_one_same (Many vs) h = h (first_value vs)
on_one_same (Fell out) h = h values.Nil
on_one_same (Broke out) h = h values.Nil
on_one_same (Returned vs out) h = h values.Nil
on_one_same (Raised v place) h = end_same (Raised v place)

pub on_all_same : {two : Two} (r : End) {go goes : List Value → LuaPlan} → ((vs : List Value) → Same two (go vs) (goes vs))
    → Same two (on_all r go) (on_all r goes)
on_all_same (One v) h = h (v ∷ [])
on_all_same (Many vs) h = h vs
on_all_same (Fell out) h = h []
on_all_same (Broke out) h = h []
on_all_same (Returned vs out) h = h []
on_all_same (Raised v place) h = end_same (Raised v place)

pub on_fell_same : {two : Two} (r : End) (out : List Value) {leave leaves : End → LuaPlan} {go goes : List Value → LuaPlan}
    → ((e : End) → Same two (leave e) (leaves e)) → ((all : List Value) → Same two (go all) (goes all))
    → Same two (on_fell r out leave go) (on_fell r out leaves goes)
on_fell_same (One v) out h k = k out
on_fell_same (Many vs) out h k = k out
on_fell_same (Fell more) out h k = k (out ++ more)
on_fell_same (Broke more) out h k = h (Broke (out ++ more))
on_fell_same (Returned vs more) out h k = h (Returned vs (out ++ more))
on_fell_same (Raised v place) out h k = h (Raised v place)

-- ---- jobs

pub value_same : {two : Two} (n : NodeId) (scope : Scope) {go goes : Value → LuaPlan} → SameUse two n
    → ((v : Value) → Same two (go v) (goes v)) → Same two (value_of n scope go) (value_of n scope goes)
value_same n scope is h = do_same (jobs.Expression n scope) is (λ r. on_one_same r h)

pub values_same : {two : Two} (ns : List NodeId) (scope : Scope) (vs : List Value) {go goes : List Value → LuaPlan}
    → All (SameUse two) ns → ((all : List Value) → Same two (go all) (goes all))
    → Same two (values_of ns scope vs go) (values_of ns scope vs goes)
values_same [] scope vs uses h = h vs
values_same {two} (n ∷ []) scope vs uses h =
    do_same (jobs.Expression n scope) (All-head (SameUse two) n [] uses) (λ r. on_all_same r (λ us. h (vs ++ us)))
values_same {two} (n ∷ m ∷ ns) scope vs uses h =
    do_same (jobs.Expression n scope) (All-head (SameUse two) n (m ∷ ns) uses)
    (λ r. on_one_same r (λ v. values_same (m ∷ ns) scope (vs ++ v ∷ []) (All-tail (SameUse two) n (m ∷ ns) uses) h))

pub run_same : {two : Two} (ns : List NodeId) (scope : Scope) (out : List Value) {go goes : End → LuaPlan}
    → ((r : End) → Same two (go r) (goes r)) → Same two (statements ns scope out go) (statements ns scope out goes)
run_same [] scope out h = h (Fell out)
run_same (n ∷ ns) scope out h =
    do_same (jobs.Statement n scope) tt (λ r. on_fell_same r out h (λ all. run_same ns scope all h))

pub entering_same : {two : Two} (block : NodeId) (scope : Scope) {go goes : Scope → LuaPlan}
    → ((inner : Scope) → Same two (go inner) (goes inner)) → Same two (entering block scope go) (entering block scope goes)
entering_same block scope h = reading_same (λ s. writing_same (h _))

-- ---- questions, texts and errors

pub specialise_same : {two : Two} (n : NodeId) (scope : Scope) {go goes : End → LuaPlan} → ((r : End) → Same two (go r) (goes r))
    → Same two (specialise n scope go) (specialise n scope goes)
specialise_same n scope h = ask_same (Specialise n scope.env) (λ a. h (reply a))

pub text_same : {two : Two} (bytes : List ℕ) {go goes : Value → LuaPlan} → ((v : Value) → Same two (go v) (goes v))
    → Same two (with_text_of bytes go) (with_text_of bytes goes)
text_same bytes h =
    if_same (nat_le (length bytes) MAX_LEN) (reading_same (λ s. writing_same (h (values.Text (interned_id s bytes))))) (h values.Nil)

-- of two texts that are the same
pub texts_same : {two : Two} (bytes other : List ℕ) → bytes ≡ other → {go goes : Value → LuaPlan}
    → ((v : Value) → Same two (go v) (goes v)) → Same two (with_text_of bytes go) (with_text_of other goes)
texts_same bytes other e {go} {goes} h = then_same (text_same bytes h) (ap (λ (b : List ℕ). with_text_of b goes) e)

-- of a name that is the same
pub name_same : {two : Two} (n : NodeId) {go goes : Value → LuaPlan} → SameName two n → ((v : Value) → Same two (go v) (goes v))
    → Same two (with_text_of (name_at two.items n) go) (with_text_of (name_at two.other n) goes)
name_same {two} n e h = texts_same (name_at two.items n) (name_at two.other n) e h

pub raise_same : {two : Two} (place : Place) (fault : Fault) → Same two (raise place fault) (raise place fault)
raise_same place fault = paying_same (text_same (error_text place fault) (λ v. end_same (Raised v place)))
