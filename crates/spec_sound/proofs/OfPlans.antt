-- What plans are made of is fine: texts, errors, questions, terms, ends, jobs and environments.
use Rattle.std.proofs.Common.{◌≡◌, ℕ, ◌+◌, Bool, true, false, List, [], ◌∷◌, ◌++◌, length, Some, refl, ap, arith, slice_get}
use Rattle.std.specs.Prelude.{nat_le, if◌then◌else◌}
use Rattle.std.proofs.lemmas.List.{length-append}
use Rattle.tl_base.specs.declared.ids.EnvId.{EnvId}
use Rattle.tl_base.specs.declared.ids.NodeId.{NodeId}
use Rattle.tl_base.specs.declared.ids.TermId.{TermId}
use Rattle.tl_base.specs.declared.ids.TextId.{TextId}
use Rattle.tl_base.specs.declared.place.Place.{Place}
use Rattle.tl_base.specs.Plan.{Give, Read, Write, AskFor}
use Rattle.lua_value.specs.declared.value.Value.{Value}
use Rattle.lua_value.specs.declared.value.Value.TheVariants as values
use Rattle.lua_table.specs.Heap.{interned_id, with_text, table_at, next_env, with_env}
use Rattle.lua_table.specs.Cells.{first_value, declare}
use Rattle.terra_types.proofs.Growing.{get-seam}
use Rattle.terra_term.specs.declared.term.Expression.{Expression}
use Rattle.terra_term.specs.declared.term.Statement.{Statement}
use Rattle.terra_term.specs.declared.term.Term.{Term}
use Rattle.terra_term.specs.declared.term.Term.TheVariants as terms
use Rattle.terra_term.specs.WellTyped.{is_placed}
use Rattle.exotype.specs.declared.fault.Fault.{Fault}
use Rattle.exotype.specs.World.{StageState, with_heap}
use Rattle.exotype.specs.Becoming.{Text, became_of, after, term_of, with_term_of}
use Rattle.exotype.specs.declared.became.Became.{Became}
use Rattle.exotype.specs.declared.became.Became.TheVariants as became
use Rattle.check_sound.specs.Sound.{IsSound, TermIsSound, ExpressionIsSound, StatementIsSound, is_statement, AreStatements}
use Rattle.spec_model.specs.declared.end.End.{End}
use Rattle.spec_model.specs.declared.end.End.TheVariants.{Found, Made, Joined, Gave, Answered, Raised}
use Rattle.spec_model.specs.declared.question.SpecQuestion.TheVariants as questions
use Rattle.spec_model.specs.declared.question.SpecAnswer.{SpecAnswer}
use Rattle.spec_model.specs.declared.question.SpecAnswer.TheVariants as answers
use Rattle.spec_model.specs.Making.{next_term, with_term}
use Rattle.spec_model.specs.Plans.{SpecPlan, with_text_of, error_text, raise, on_value, on_values, eval, emitted, index, node, expression}
use Rattle.spec_model.specs.Plans.{make, join, on_became, one, literal, values_in, each_one, listed, as_term, as_terms, as_statements, term}
use Rattle.spec_model.specs.Plans.{terms_of, each_term, block, entering, declaring}
use Rattle.check_sound.proofs.Becoming.{becomes}
use Rattle.spec_sound.proofs.Following.{Next, next-itself, next-twice, statements-still}
use Rattle.spec_sound.proofs.Running.{Fine}
use Rattle.spec_sound.proofs.Writing.{heap-follows, term-follows, text-follows}

-- a choice
pub fine-if : (w : StageState) (c : Bool) (p q : SpecPlan) → (c ≡ true → Fine p w) → (c ≡ false → Fine q w) →
    Fine (if c then p else q) w
fine-if w true p q f g = f refl
fine-if w false p q f g = g refl

-- ---- texts and errors

pub fine-text : (w : StageState) → IsSound w → (bytes : List ℕ) (go : TextId → SpecPlan) →
    ((t : TextId) (v : StageState) → Next w v → Fine (go t) v) → Fine (with_text_of bytes go) w
fine-text w sound bytes go k =
    let v = with_heap w (with_text w.heap bytes) in
    fine-if w (nat_le (length bytes) 65535)
    (Read (λ u. Write (with_heap u (with_text u.heap bytes)) (go (interned_id u.heap bytes)))) (go (record { 0 = 0 }))
    (λ c. let f = heap-follows w sound (with_text w.heap bytes) in (f, k (interned_id w.heap bytes) v f))
    (λ c. k (record { 0 = 0 }) w (next-itself w sound))

pub fine-raise : (w : StageState) → IsSound w → (place : Place) (fault : Fault) → Fine (raise place fault) w
fine-raise w sound place fault =
    fine-text w sound (error_text place fault) (λ text. Give (Raised (values.Text text) place)) (λ t v f. tt)

-- ---- questions

fine-on-value : (a : SpecAnswer) (v : StageState) (go : Value → SpecPlan) → ((x : Value) → Fine (go x) v) →
    Fine (on_value a go) v
fine-on-value answers.Go v go k = k values.Nil
fine-on-value (answers.Values vs) v go k = k (first_value vs)
fine-on-value (answers.Raise x place) v go k = tt

fine-on-values : (a : SpecAnswer) (v : StageState) (go : List Value → SpecPlan) → ((xs : List Value) → Fine (go xs) v) →
    Fine (on_values a go) v
fine-on-values answers.Go v go k = k []
fine-on-values (answers.Values vs) v go k = k vs
fine-on-values (answers.Raise x place) v go k = tt

pub fine-eval : (w : StageState) (n : NodeId) (env : EnvId) (go : Value → SpecPlan) →
    ((x : Value) (v : StageState) → Next w v → Fine (go x) v) → Fine (eval n env go) w
fine-eval w n env go k = λ a v f. fine-on-value a v go (λ x. k x v f)

pub fine-emitted : (w : StageState) (n : NodeId) (env : EnvId) (go : List Value → SpecPlan) →
    ((xs : List Value) (v : StageState) → Next w v → Fine (go xs) v) → Fine (emitted n env go) w
fine-emitted w n env go k = λ a v f. fine-on-values a v go (λ xs. k xs v f)

pub fine-index : (w : StageState) → IsSound w → (object : Value) (name : List ℕ) (place : Place) (go : Value →
    SpecPlan) →
    ((x : Value) (v : StageState) → Next w v → Fine (go x) v) → Fine (index object name place go) w
fine-index w sound object name place go k =
    fine-text w sound name (λ text. AskFor (questions.Index object text place) (λ a. on_value a go))
    (λ t u f. λ a v g. fine-on-value a v go (λ x. k x v (next-twice w u v f g)))

-- the same, asked with a text that is there
pub fine-asked : (w : StageState) (object : Value) (text : TextId) (place : Place) (go : Value → SpecPlan) →
    ((x : Value) (v : StageState) → Next w v → Fine (go x) v) →
    Fine (AskFor (questions.Index object text place) (λ a. on_value a go)) w
fine-asked w object text place go k = λ a v f. fine-on-value a v go (λ x. k x v f)

-- ---- terms

pub fine-node : (w : StageState) → IsSound w → (t : Term) (go : TermId → SpecPlan) → TermIsSound w t →
    ((v : StageState) → Next w v → slice_get v.store.terms (next_term w).0 ≡ Some t → Fine (go (next_term w)) v) →
    Fine (node t go) w
fine-node w sound t go h k =
    let f = term-follows w sound t h in
    (f, k (with_term w t) f (get-seam w.store.terms t))

pub fine-expression : (w : StageState) → IsSound w → (place : Place) (e : Expression) (go : TermId → SpecPlan) →
    is_placed place ≡ true → ExpressionIsSound w e →
    ((t : TermId) (v : StageState) → Next w v → Fine (go t) v) → Fine (expression place e go) w
fine-expression w sound place e go placed h k =
    fine-node w sound (terms.Expression place e) go (placed, h) (λ v f at. k (next_term w) v f)

pub fine-make : (w : StageState) → IsSound w → (place : Place) (e : Expression) → is_placed place ≡ true →
    ExpressionIsSound w e → Fine (make place e) w
fine-make w sound place e placed h = fine-expression w sound place e (λ t. Give (Made t)) placed h (λ t v f. tt)

-- a statement that was made
pub is-statement : (v : StageState) (t : TermId) (place : Place) (s : Statement) →
    slice_get v.store.terms t.0 ≡ Some (terms.Statement place s) → AreStatements v (t ∷ [])
is-statement v t place s at = (ap is_statement at, tt)

pub fine-statement : (w : StageState) → IsSound w → (place : Place) (s : Statement) (go : TermId → SpecPlan) →
    is_placed place ≡ true → StatementIsSound w s →
    ((t : TermId) (v : StageState) → Next w v → AreStatements v (t ∷ []) → Fine (go t) v) →
    Fine (node (terms.Statement place s) go) w
fine-statement w sound place s go placed h k =
    fine-node w sound (terms.Statement place s) go (placed, h)
    (λ v f at. k (next_term w) v f (is-statement v (next_term w) place s at))

pub fine-join : (w : StageState) → IsSound w → (place : Place) (s : Statement) → is_placed place ≡ true →
    StatementIsSound w s → Fine (join place s) w
fine-join w sound place s placed h =
    fine-statement w sound place s (λ t. Give (Joined (t ∷ []))) placed h (λ t v f is. is)

fine-became : (b : Became) (w : StageState) → IsSound w → (place : Place) (go : TermId → SpecPlan) →
    ((t : TermId) → Fine (go t) w) → Fine (on_became b place go) w
fine-became (became.Term t) w sound place go k = k t
fine-became (became.Refused fault) w sound place go k = fine-raise w sound place fault

pub fine-one : (w : StageState) → IsSound w → (x : Value) (place : Place) (go : TermId → SpecPlan) →
    is_placed place ≡ true → ((t : TermId) (v : StageState) → Next w v → Fine (go t) v) → Fine (one x place go) w
fine-one w sound x place go placed k =
    let f = becomes w sound x place placed in
    (f, fine-became (term_of w x) (with_term_of w x place) f.sound place go (λ t. k t (with_term_of w x place) f))

pub fine-literal : (w : StageState) → IsSound w → (bytes : List ℕ) (place : Place) (go : TermId → SpecPlan) →
    is_placed place ≡ true → ((t : TermId) (v : StageState) → Next w v → Fine (go t) v) →
    Fine (literal bytes place go) w
fine-literal w sound bytes place go placed k =
    let v = after w place (Text bytes) in
    let f = text-follows w sound place bytes placed in
    (f, fine-became (became_of w (Text bytes)) v f.sound place go (λ t. k t v f))

-- a list of terms, and the goal behind it
abbrev pub WithTerms : StageState → (List TermId → SpecPlan) → Type 0
WithTerms w go = (ts : List TermId) (v : StageState) → Next w v → Fine (go ts) v

pub fine-each-one : (w : StageState) → IsSound w → (xs : List Value) (place : Place) (ts : List TermId)
    (go : List TermId → SpecPlan) → is_placed place ≡ true → WithTerms w go → Fine (each_one xs place ts go) w
fine-each-one w sound [] place ts go placed k = k ts w (next-itself w sound)
fine-each-one w sound (x ∷ xs) place ts go placed k =
    fine-one w sound x place (λ t. each_one xs place (ts ++ t ∷ []) go) placed
    (λ t v f. fine-each-one v f.sound xs place (ts ++ t ∷ []) go placed (λ us u g. k us u (next-twice w v u f g)))

fine-listed-one : (w : StageState) → IsSound w → (x : Value) (place : Place) (ts : List TermId)
    (go : List TermId → SpecPlan) → is_placed place ≡ true → WithTerms w go →
    Fine (one x place (λ t. go (ts ++ t ∷ []))) w
fine-listed-one w sound x place ts go placed k =
    fine-one w sound x place (λ t. go (ts ++ t ∷ [])) placed (λ t v f. k (ts ++ t ∷ []) v f)

pub fine-listed : (w : StageState) → IsSound w → (x : Value) (place : Place) (ts : List TermId)
    (go : List TermId → SpecPlan) → is_placed place ≡ true → WithTerms w go → Fine (listed x place ts go) w
fine-listed w sound (values.Table t) place ts go placed k =
    fine-each-one w sound (values_in (table_at w.heap t)) place ts go placed k
fine-listed w sound x place ts go placed k = fine-listed-one w sound x place ts go placed k

-- ---- ends

pub fine-as-term : (w : StageState) → IsSound w → (r : End) (go : TermId → SpecPlan) → Fine (Give r) w →
    ((t : TermId) (v : StageState) → Next w v → Fine (go t) v) → Fine (as_term r go) w
fine-as-term w sound (Found x place) go h k = fine-one w sound x place go h k
fine-as-term w sound (Made t) go h k = k t w (next-itself w sound)
fine-as-term w sound (Joined ts) go h k = h
fine-as-term w sound (Gave x) go h k = tt
fine-as-term w sound (Answered xs) go h k = tt
fine-as-term w sound (Raised x place) go h k = tt

fine-as-terms : (w : StageState) → IsSound w → (r : End) (ts : List TermId) (go : List TermId → SpecPlan) →
    Fine (Give r) w → WithTerms w go → Fine (as_terms r ts go) w
fine-as-terms w sound (Found x place) ts go h k = fine-listed w sound x place ts go h k
fine-as-terms w sound (Made t) ts go h k = k (ts ++ t ∷ []) w (next-itself w sound)
fine-as-terms w sound (Joined us) ts go h k = h
fine-as-terms w sound (Gave x) ts go h k = tt
fine-as-terms w sound (Answered xs) ts go h k = tt
fine-as-terms w sound (Raised x place) ts go h k = tt

-- a list of statements, and the goal behind it
abbrev pub WithStatements : StageState → (List TermId → SpecPlan) → Type 0
WithStatements w go = (ts : List TermId) (v : StageState) → Next w v → AreStatements v ts → Fine (go ts) v

pub statements-append : (w : StageState) (ts us : List TermId) → AreStatements w ts → AreStatements w us →
    AreStatements w (ts ++ us)
statements-append w [] us h k = k
statements-append w (t ∷ ts) us h k = (h.0, statements-append w ts us h.1 k)

fine-as-statements : (w : StageState) → IsSound w → (r : End) (ts : List TermId) (go : List TermId → SpecPlan) →
    Fine (Give r) w → AreStatements w ts → WithStatements w go → Fine (as_statements r ts go) w
fine-as-statements w sound (Found x place) ts go h are k = h
fine-as-statements w sound (Made t) ts go h are k = tt
fine-as-statements w sound (Joined us) ts go h are k =
    k (ts ++ us) w (next-itself w sound) (statements-append w ts us are h)
fine-as-statements w sound (Gave x) ts go h are k = tt
fine-as-statements w sound (Answered xs) ts go h are k = tt
fine-as-statements w sound (Raised x place) ts go h are k = tt

-- ---- jobs

pub fine-term : (w : StageState) (n : NodeId) (env : EnvId) (go : TermId → SpecPlan) →
    ((t : TermId) (v : StageState) → Next w v → Fine (go t) v) → Fine (term n env go) w
fine-term w n env go k =
    λ r v f h. fine-as-term v f.sound r go h (λ t u g. k t u (next-twice w v u f g))

pub fine-terms : (w : StageState) → IsSound w → (ns : List NodeId) (env : EnvId) (ts : List TermId)
    (go : List TermId → SpecPlan) → WithTerms w go → Fine (terms_of ns env ts go) w
fine-terms w sound [] env ts go k = k ts w (next-itself w sound)
fine-terms w sound (n ∷ ns) env ts go k =
    λ r v f h. fine-as-terms v f.sound r ts (λ us. terms_of ns env us go) h
    (λ us u g. fine-terms u g.sound ns env us go
    (λ xs x i. k xs x (next-twice w u x (next-twice w v u f g) i)))

-- each is one term, so there are as many
pub fine-each-term : (w : StageState) → IsSound w → (ns : List NodeId) (env : EnvId) (ts : List TermId)
    (go : List TermId → SpecPlan) →
    ((us : List TermId) (v : StageState) → Next w v → length us ≡ length ts + length ns → Fine (go us) v) →
    Fine (each_term ns env ts go) w
fine-each-term w sound [] env ts go k = k ts w (next-itself w sound) (omega arith)
fine-each-term w sound (n ∷ ns) env ts go k =
    fine-term w n env (λ t. each_term ns env (ts ++ t ∷ []) go)
    (λ t v f. fine-each-term v f.sound ns env (ts ++ t ∷ []) go
    (λ us u g count. k us u (next-twice w v u f g) (omega (arith, count, length-append ts (t ∷ [])))))

pub fine-block : (w : StageState) → IsSound w → (ns : List NodeId) (env : EnvId) (ts : List TermId)
    (go : List TermId → SpecPlan) → AreStatements w ts → WithStatements w go → Fine (block ns env ts go) w
fine-block w sound [] env ts go are k = k ts w (next-itself w sound) are
fine-block w sound (n ∷ ns) env ts go are k =
    λ r v f h. fine-as-statements v f.sound r ts (λ us. block ns env us go) h (statements-still w v sound f ts are)
    (λ us u g so. fine-block u g.sound ns env us go so
    (λ xs x i more. k xs x (next-twice w u x (next-twice w v u f g) i) more))

-- ---- environments

pub fine-entering : (w : StageState) → IsSound w → (owner : NodeId) (env : EnvId) (go : EnvId → SpecPlan) →
    ((inner : EnvId) (v : StageState) → Next w v → Fine (go inner) v) → Fine (entering owner env go) w
fine-entering w sound owner env go k =
    let heap = with_env w.heap owner (Some env) in
    let f = heap-follows w sound heap in
    (f, k (next_env w.heap) (with_heap w heap) f)

pub fine-declaring : (w : StageState) → IsSound w → (env : EnvId) (x : Value) (rest : SpecPlan) →
    ((v : StageState) → Next w v → Fine rest v) → Fine (declaring env x rest) w
fine-declaring w sound env x rest k =
    let heap = declare env x w.heap in
    let f = heap-follows w sound heap in
    (f, k (with_heap w heap) f)
