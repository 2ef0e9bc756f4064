-- What plans are made of: how they go on with ends and answers, how they raise, and how values become terms.
use Rattle.std.specs.Prelude.{ℕ, zero, suc, ◌+◌, List, [], ◌∷◌, ◌++◌, length, nat_le, if◌then◌else◌, Some}
use Rattle.tl_base.specs.declared.ids.EnvId.{EnvId}
use Rattle.tl_base.specs.declared.ids.NodeId.{NodeId}
use Rattle.tl_base.specs.declared.ids.TextId.{TextId}
use Rattle.tl_base.specs.declared.ids.TermId.{TermId}
use Rattle.tl_base.specs.declared.place.Place.{Place}
use Rattle.tl_base.specs.Plan.{Plan, Give, Do, AskFor, Read, Write, Pay}
use Rattle.tl_base.specs.declared.text.TheConstants.Text.{MAX_LEN}
use Rattle.lua_value.specs.declared.value.Value.{Value}
use Rattle.lua_value.specs.declared.value.Value.TheVariants as values
use Rattle.lua_table.specs.Pairs.{Pairs, value_at, border_of}
use Rattle.lua_table.specs.Heap.{interned_id, with_text, table_at, next_env, with_env}
use Rattle.lua_table.specs.Cells.{first_value, declare}
use Rattle.lua_ops.specs.Placed.{placed}
use Rattle.lua_model.specs.Plans.{text_units}
use Rattle.terra_term.specs.declared.term.Expression.{Expression}
use Rattle.terra_term.specs.declared.term.Statement.{Statement}
use Rattle.terra_term.specs.declared.term.Term.{Term}
use Rattle.terra_term.specs.declared.term.Term.TheVariants as terms
use Rattle.exotype.specs.declared.fault.Fault.{Fault}
use Rattle.exotype.specs.Faults.{fault_text}
use Rattle.exotype.specs.World.{StageState, with_heap}
use Rattle.exotype.specs.Becoming.{Text, became_of, after, term_of, with_term_of, spliced_nodes}
use Rattle.exotype.specs.declared.became.Became.{Became}
use Rattle.exotype.specs.declared.became.Became.TheVariants as became
use Rattle.spec_model.specs.declared.end.End.{End}
use Rattle.spec_model.specs.declared.end.End.TheVariants.{Found, Made, Joined, Gave, Answered, Raised}
use Rattle.spec_model.specs.declared.job.Job.{Job}
use Rattle.spec_model.specs.declared.job.Job.TheVariants as jobs
use Rattle.spec_model.specs.declared.question.SpecQuestion.{SpecQuestion}
use Rattle.spec_model.specs.declared.question.SpecQuestion.TheVariants as questions
use Rattle.spec_model.specs.declared.question.SpecAnswer.{SpecAnswer}
use Rattle.spec_model.specs.declared.question.SpecAnswer.TheVariants as answers
use Rattle.spec_model.specs.Making.{next_term, with_term}

abbrev pub SpecPlan : Type 0
SpecPlan = Plan Job StageState SpecQuestion SpecAnswer End

-- ---- texts and errors

-- Goes on with the text of these bytes. A longer one than texts can be is never made: names are shorter, and so are the texts of errors. So
-- the last case is met in no source's tree.
abbrev pub with_text_of : List ℕ → (TextId → SpecPlan) → SpecPlan
with_text_of bytes go =
    if nat_le (length bytes) MAX_LEN then Read (λ w. Write (with_heap w (with_text w.heap bytes)) (go (interned_id w.heap bytes)))
    else go (record { 0 = 0 })

abbrev pub error_text : Place → Fault → List ℕ
error_text place fault = placed place (fault_text fault)

-- raises a fault, with its place before its text, which is paid for
abbrev pub raise : Place → Fault → SpecPlan
raise place fault =
    Pay (text_units (length (error_text place fault)))
    (with_text_of (error_text place fault) (λ text. Give (Raised (values.Text text) place)))

-- ---- questions

abbrev pub on_value : SpecAnswer → (Value → SpecPlan) → SpecPlan
on_value answers.Go go = go values.Nil
on_value (answers.Values vs) go = go (first_value vs)
on_value (answers.Raise v place) go = Give (Raised v place)

abbrev pub on_values : SpecAnswer → (List Value → SpecPlan) → SpecPlan
on_values answers.Go go = go []
on_values (answers.Values vs) go = go vs
on_values (answers.Raise v place) go = Give (Raised v place)

-- evaluates Lua code, and goes on with one value
abbrev pub eval : NodeId → EnvId → (Value → SpecPlan) → SpecPlan
eval n env go = AskFor (questions.Eval n env) (λ a. on_value a go)

-- executes the block of an escape, and goes on with what it emits
abbrev pub emitted : NodeId → EnvId → (List Value → SpecPlan) → SpecPlan
emitted n env go = AskFor (questions.Emitted n env) (λ a. on_values a go)

-- reads what stands under a name in a value
abbrev pub index : Value → List ℕ → Place → (Value → SpecPlan) → SpecPlan
index object name place go = with_text_of name (λ text. AskFor (questions.Index object text place) (λ a. on_value a go))

-- ---- terms

-- adds a node, and goes on with it
abbrev pub node : Term → (TermId → SpecPlan) → SpecPlan
node term go = Read (λ w. Write (with_term w term) (go (next_term w)))

abbrev pub expression : Place → Expression → (TermId → SpecPlan) → SpecPlan
expression place e go = node (terms.Expression place e) go

abbrev pub make : Place → Expression → SpecPlan
make place e = expression place e (λ t. Give (Made t))

-- a statement becomes one statement
abbrev pub join : Place → Statement → SpecPlan
join place s = node (terms.Statement place s) (λ t. Give (Joined (t ∷ [])))

-- goes on with the term that something became, or raises why it became none
abbrev pub on_became : Became → Place → (TermId → SpecPlan) → SpecPlan
on_became (became.Term t) place go = go t
on_became (became.Refused fault) place go = raise place fault

-- a value in a position of one term: the nodes of a quote's term are paid for
abbrev pub one : Value → Place → (TermId → SpecPlan) → SpecPlan
one v place go = Read (λ w. Pay (spliced_nodes w v) (Write (with_term_of w v place) (on_became (term_of w v) place go)))

-- a literal of these bytes
abbrev pub literal : List ℕ → Place → (TermId → SpecPlan) → SpecPlan
literal bytes place go = Read (λ w. Write (after w place (Text bytes)) (on_became (became_of w (Text bytes)) place go))

-- the values of a table, from 1 to its border
abbrev pub values_below : ℕ → Pairs → List Value
values_below zero pairs = []
values_below (suc n) pairs = values_below n pairs ++ value_at pairs (n + 1) ∷ []

abbrev pub values_in : Pairs → List Value
values_in pairs = values_below (border_of pairs) pairs

-- each of these values in a position of one term
abbrev pub each_one : List Value → Place → List TermId → (List TermId → SpecPlan) → SpecPlan
each_one [] place ts go = go ts
each_one (v ∷ vs) place ts go = one v place (λ t. each_one vs place (ts ++ t ∷ []) go)

-- a value in a list position, behind terms
abbrev pub listed : Value → Place → List TermId → (List TermId → SpecPlan) → SpecPlan
listed (values.Table t) place ts go = Read (λ w. each_one (values_in (table_at w.heap t)) place ts go)
listed v place ts go = one v place (λ t. go (ts ++ t ∷ []))

-- ---- ends

-- goes on with one term
abbrev pub as_term : End → (TermId → SpecPlan) → SpecPlan
as_term (Found v place) go = one v place go
as_term (Made t) go = go t
as_term (Joined ts) go = Give (Joined ts)
as_term (Gave v) go = Give (Gave v)
as_term (Answered vs) go = Give (Answered vs)
as_term (Raised v place) go = Give (Raised v place)

-- goes on with the terms of a list position, behind others
abbrev pub as_terms : End → List TermId → (List TermId → SpecPlan) → SpecPlan
as_terms (Found v place) ts go = listed v place ts go
as_terms (Made t) ts go = go (ts ++ t ∷ [])
as_terms (Joined us) ts go = Give (Joined us)
as_terms (Gave v) ts go = Give (Gave v)
as_terms (Answered vs) ts go = Give (Answered vs)
as_terms (Raised v place) ts go = Give (Raised v place)

-- goes on with statements, behind others
abbrev pub as_statements : End → List TermId → (List TermId → SpecPlan) → SpecPlan
as_statements (Found v place) ts go = Give (Found v place)
as_statements (Made t) ts go = Give (Made t)
as_statements (Joined us) ts go = go (ts ++ us)
as_statements (Gave v) ts go = Give (Gave v)
as_statements (Answered vs) ts go = Give (Answered vs)
as_statements (Raised v place) ts go = Give (Raised v place)

-- ---- jobs

-- specialises an expression, and goes on with one term
abbrev pub term : NodeId → EnvId → (TermId → SpecPlan) → SpecPlan
term n env go = Do (jobs.Expression n env) (λ r. as_term r go)

-- specialises expressions in a list position, and goes on with all their terms
abbrev pub terms_of : List NodeId → EnvId → List TermId → (List TermId → SpecPlan) → SpecPlan
terms_of [] env ts go = go ts
terms_of (n ∷ ns) env ts go = Do (jobs.Expression n env) (λ r. as_terms r ts (λ us. terms_of ns env us go))

-- specialises expressions of which each is one term
abbrev pub each_term : List NodeId → EnvId → List TermId → (List TermId → SpecPlan) → SpecPlan
each_term [] env ts go = go ts
each_term (n ∷ ns) env ts go = term n env (λ t. each_term ns env (ts ++ t ∷ []) go)

-- specialises the statements of a block
abbrev pub block : List NodeId → EnvId → List TermId → (List TermId → SpecPlan) → SpecPlan
block [] env ts go = go ts
block (n ∷ ns) env ts go = Do (jobs.Statement n env) (λ r. as_statements r ts (λ us. block ns env us go))

-- ---- environments

-- enters what declares names
abbrev pub entering : NodeId → EnvId → (EnvId → SpecPlan) → SpecPlan
entering owner env go = Read (λ w. Write (with_heap w (with_env w.heap owner (Some env))) (go (next_env w.heap)))

-- declares a name, in a new cell
abbrev pub declaring : EnvId → Value → SpecPlan → SpecPlan
declaring env v rest = Read (λ w. Write (with_heap w (declare env v w.heap)) rest)
