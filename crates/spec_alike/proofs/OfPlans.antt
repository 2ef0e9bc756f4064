-- What plans are made of does the same where what goes on behind it does: texts, errors, questions, terms, ends, jobs and environments.
use Rattle.std.proofs.Common.{◌≡◌, ℕ, Bool, true, false, List, [], ◌∷◌, ◌++◌, length, refl, subst}
use Rattle.std.specs.Prelude.{nat_le, if◌then◌else◌}
use Rattle.std.specs.List.{AllByRecursion as Each}
use Rattle.tl_base.specs.declared.ids.EnvId.{EnvId}
use Rattle.tl_base.specs.declared.ids.NodeId.{NodeId}
use Rattle.tl_base.specs.declared.ids.TermId.{TermId}
use Rattle.tl_base.specs.declared.ids.TextId.{TextId}
use Rattle.tl_base.specs.declared.place.Place.{Place}
use Rattle.tl_base.specs.declared.text.TheConstants.Text.{MAX_LEN}
use Rattle.tl_base.specs.Plan.{Give, Read, Write, AskFor}
use Rattle.tl_tree.specs.Code.{Items}
use Rattle.tl_alike.specs.Alike.{HasSameUse}
use Rattle.tl_alike.specs.Plans.{DoSame}
use Rattle.lua_value.specs.declared.value.Value.{Value}
use Rattle.lua_value.specs.declared.value.Value.TheVariants as values
use Rattle.lua_table.specs.Heap.{interned_id, with_text, table_at, next_env}
use Rattle.lua_table.specs.Cells.{first_value}
use Rattle.terra_term.specs.declared.term.Expression.{Expression}
use Rattle.terra_term.specs.declared.term.Statement.{Statement}
use Rattle.terra_term.specs.declared.term.Term.{Term}
use Rattle.terra_term.specs.declared.term.Term.TheVariants as terms
use Rattle.exotype.specs.declared.fault.Fault.{Fault}
use Rattle.exotype.specs.World.{with_heap}
use Rattle.exotype.specs.Becoming.{Text, became_of, term_of}
use Rattle.exotype.specs.declared.became.Became.{Became}
use Rattle.exotype.specs.declared.became.Became.TheVariants as became
use Rattle.spec_model.specs.declared.end.End.{End}
use Rattle.spec_model.specs.declared.end.End.TheVariants.{Found, Made, Joined, Gave, Answered, Raised}
use Rattle.spec_model.specs.declared.job.Job.{Job}
use Rattle.spec_model.specs.declared.job.Job.TheVariants as jobs
use Rattle.spec_model.specs.declared.question.SpecQuestion.TheVariants as questions
use Rattle.spec_model.specs.declared.question.SpecAnswer.{SpecAnswer}
use Rattle.spec_model.specs.declared.question.SpecAnswer.TheVariants as answers
use Rattle.spec_model.specs.Making.{next_term}
use Rattle.spec_model.specs.Plans.{SpecPlan, with_text_of, error_text, raise, on_value, on_values, eval, emitted, index, node, expression}
use Rattle.spec_model.specs.Plans.{make, join, on_became, one, literal, values_in, each_one, listed, as_term, as_terms, as_statements, term}
use Rattle.spec_model.specs.Plans.{terms_of, each_term, block, entering, declaring}
use Rattle.spec_alike.specs.Same.{IsAsked}

-- a job that may be done: an expression that is read alike, and any statement
abbrev pub IsDone : Items → Items → Job → Type 0
IsDone items other (jobs.Expression n env) = HasSameUse items other n
IsDone items other (jobs.Statement n env) = Unit {0}

abbrev pub Same : Items → Items → SpecPlan → SpecPlan → Type 0
Same items other p q = DoSame (IsDone items other) (IsAsked items other) p q

-- what goes on does the same with whatever it is given
abbrev pub SameFrom : {X : Type 0} → Items → Items → (X → SpecPlan) → (X → SpecPlan) → Type 0
SameFrom {X} items other go goes = (x : X) → Same items other (go x) (goes x)

module _ (items other : Items) where
  -- a choice
  pub same-if : (c : Bool) (p q r s : SpecPlan) → Same items other p r → Same items other q s
      → Same items other (if c then p else q) (if c then r else s)
  same-if true p q r s h k = h
  same-if false p q r s h k = k

  -- ---- texts and errors

  pub same-text : (bytes : List ℕ) (go goes : TextId → SpecPlan) → SameFrom items other go goes
      → Same items other (with_text_of bytes go) (with_text_of bytes goes)
  same-text bytes go goes k =
      same-if (nat_le (length bytes) MAX_LEN)
      (Read (λ w. Write (with_heap w (with_text w.heap bytes)) (go (interned_id w.heap bytes)))) (go (record { 0 = 0 }))
      (Read (λ w. Write (with_heap w (with_text w.heap bytes)) (goes (interned_id w.heap bytes)))) (goes (record { 0 = 0 }))
      (λ w. (refl, k (interned_id w.heap bytes))) (k (record { 0 = 0 }))

  -- the same, where the bytes are those of a name in each tree
  pub same-name : (bytes others : List ℕ) → bytes ≡ others → (go goes : TextId → SpecPlan) → SameFrom items other go goes
      → Same items other (with_text_of bytes go) (with_text_of others goes)
  same-name bytes others e go goes k =
      subst (λ b. Same items other (with_text_of bytes go) (with_text_of b goes)) e (same-text bytes go goes k)

  pub same-raise : (place : Place) (fault : Fault) → Same items other (raise place fault) (raise place fault)
  same-raise place fault = (
    refl,
    same-text (error_text place fault) (λ text. Give (Raised (values.Text text) place))
        (λ text. Give (Raised (values.Text text) place)) (λ text. refl),
  )

  -- ---- questions

  pub same-on-value : (a : SpecAnswer) (go goes : Value → SpecPlan) → SameFrom items other go goes
      → Same items other (on_value a go) (on_value a goes)
  same-on-value answers.Go go goes k = k values.Nil
  same-on-value (answers.Values vs) go goes k = k (first_value vs)
  same-on-value (answers.Raise v place) go goes k = refl

  same-on-values : (a : SpecAnswer) (go goes : List Value → SpecPlan) → SameFrom items other go goes
      → Same items other (on_values a go) (on_values a goes)
  same-on-values answers.Go go goes k = k []
  same-on-values (answers.Values vs) go goes k = k vs
  same-on-values (answers.Raise v place) go goes k = refl

  pub same-eval : (n : NodeId) (env : EnvId) → HasSameUse items other n → (go goes : Value → SpecPlan)
      → SameFrom items other go goes → Same items other (eval n env go) (eval n env goes)
  same-eval n env used go goes k = (refl, used, λ a. same-on-value a go goes k)

  pub same-emitted : (n : NodeId) (env : EnvId) (go goes : List Value → SpecPlan) → SameFrom items other go goes
      → Same items other (emitted n env go) (emitted n env goes)
  same-emitted n env go goes k = (refl, tt, λ a. same-on-values a go goes k)

  pub same-index : (object : Value) (name : List ℕ) (place : Place) (go goes : Value → SpecPlan)
      → SameFrom items other go goes → Same items other (index object name place go) (index object name place goes)
  same-index object name place go goes k =
      same-text name (λ text. AskFor (questions.Index object text place) (λ a. on_value a go))
      (λ text. AskFor (questions.Index object text place) (λ a. on_value a goes))
      (λ text. (refl, tt, λ a. same-on-value a go goes k))

  -- ---- terms

  pub same-node : (t : Term) (go goes : TermId → SpecPlan) → SameFrom items other go goes
      → Same items other (node t go) (node t goes)
  same-node t go goes k = λ w. (refl, k (next_term w))

  pub same-expression : (place : Place) (e : Expression) (go goes : TermId → SpecPlan) → SameFrom items other go goes
      → Same items other (expression place e go) (expression place e goes)
  same-expression place e go goes k = same-node (terms.Expression place e) go goes k

  pub same-make : (place : Place) (e : Expression) → Same items other (make place e) (make place e)
  same-make place e = λ w. (refl, refl)

  pub same-join : (place : Place) (s : Statement) → Same items other (join place s) (join place s)
  same-join place s = λ w. (refl, refl)

  same-became : (b : Became) (place : Place) (go goes : TermId → SpecPlan) → SameFrom items other go goes
      → Same items other (on_became b place go) (on_became b place goes)
  same-became (became.Term t) place go goes k = k t
  same-became (became.Refused fault) place go goes k = same-raise place fault

  pub same-one : (v : Value) (place : Place) (go goes : TermId → SpecPlan) → SameFrom items other go goes
      → Same items other (one v place go) (one v place goes)
  same-one v place go goes k = λ w. (refl, (refl, same-became (term_of w v) place go goes k))

  pub same-literal : (bytes : List ℕ) (place : Place) (go goes : TermId → SpecPlan) → SameFrom items other go goes
      → Same items other (literal bytes place go) (literal bytes place goes)
  same-literal bytes place go goes k = λ w. (refl, same-became (became_of w (Text bytes)) place go goes k)

  same-each-one : (vs : List Value) (place : Place) (ts : List TermId) (go goes : List TermId → SpecPlan)
      → SameFrom items other go goes → Same items other (each_one vs place ts go) (each_one vs place ts goes)
  same-each-one [] place ts go goes k = k ts
  same-each-one (v ∷ vs) place ts go goes k =
      same-one v place (λ t. each_one vs place (ts ++ t ∷ []) go) (λ t. each_one vs place (ts ++ t ∷ []) goes)
      (λ t. same-each-one vs place (ts ++ t ∷ []) go goes k)

  same-listed-one : (v : Value) (place : Place) (ts : List TermId) (go goes : List TermId → SpecPlan)
      → SameFrom items other go goes
      → Same items other (one v place (λ t. go (ts ++ t ∷ []))) (one v place (λ t. goes (ts ++ t ∷ [])))
  same-listed-one v place ts go goes k =
      same-one v place (λ t. go (ts ++ t ∷ [])) (λ t. goes (ts ++ t ∷ [])) (λ t. k (ts ++ t ∷ []))

  same-listed : (v : Value) (place : Place) (ts : List TermId) (go goes : List TermId → SpecPlan)
      → SameFrom items other go goes → Same items other (listed v place ts go) (listed v place ts goes)
  same-listed (values.Table t) place ts go goes k = λ w. same-each-one (values_in (table_at w.heap t)) place ts go goes k
  same-listed v place ts go goes k = same-listed-one v place ts go goes k

  -- ---- ends

  pub same-as-term : (r : End) (go goes : TermId → SpecPlan) → SameFrom items other go goes
      → Same items other (as_term r go) (as_term r goes)
  same-as-term (Found v place) go goes k = same-one v place go goes k
  same-as-term (Made t) go goes k = k t
  same-as-term (Joined ts) go goes k = refl
  same-as-term (Gave v) go goes k = refl
  same-as-term (Answered vs) go goes k = refl
  same-as-term (Raised v place) go goes k = refl

  same-as-terms : (r : End) (ts : List TermId) (go goes : List TermId → SpecPlan) → SameFrom items other go goes
      → Same items other (as_terms r ts go) (as_terms r ts goes)
  same-as-terms (Found v place) ts go goes k = same-listed v place ts go goes k
  same-as-terms (Made t) ts go goes k = k (ts ++ t ∷ [])
  same-as-terms (Joined us) ts go goes k = refl
  same-as-terms (Gave v) ts go goes k = refl
  same-as-terms (Answered vs) ts go goes k = refl
  same-as-terms (Raised v place) ts go goes k = refl

  same-as-statements : (r : End) (ts : List TermId) (go goes : List TermId → SpecPlan) → SameFrom items other go goes
      → Same items other (as_statements r ts go) (as_statements r ts goes)
  same-as-statements (Found v place) ts go goes k = refl
  same-as-statements (Made t) ts go goes k = refl
  same-as-statements (Joined us) ts go goes k = k (ts ++ us)
  same-as-statements (Gave v) ts go goes k = refl
  same-as-statements (Answered vs) ts go goes k = refl
  same-as-statements (Raised v place) ts go goes k = refl

  -- ---- jobs

  pub same-term : (n : NodeId) (env : EnvId) → HasSameUse items other n → (go goes : TermId → SpecPlan)
      → SameFrom items other go goes → Same items other (term n env go) (term n env goes)
  same-term n env used go goes k = (refl, used, λ r. same-as-term r go goes k)

  pub same-terms-of : (ns : List NodeId) (env : EnvId) (ts : List TermId) → Each (HasSameUse items other) ns
      → (go goes : List TermId → SpecPlan) → SameFrom items other go goes
      → Same items other (terms_of ns env ts go) (terms_of ns env ts goes)
  same-terms-of [] env ts uses go goes k = k ts
  same-terms-of (n ∷ ns) env ts uses go goes k = (
    refl,
    uses.0,
    λ r. same-as-terms r ts (λ us. terms_of ns env us go) (λ us. terms_of ns env us goes)
        (λ us. same-terms-of ns env us uses.1 go goes k),
  )

  pub same-each-term : (ns : List NodeId) (env : EnvId) (ts : List TermId) → Each (HasSameUse items other) ns
      → (go goes : List TermId → SpecPlan) → SameFrom items other go goes
      → Same items other (each_term ns env ts go) (each_term ns env ts goes)
  same-each-term [] env ts uses go goes k = k ts
  same-each-term (n ∷ ns) env ts uses go goes k =
      same-term n env uses.0 (λ t. each_term ns env (ts ++ t ∷ []) go) (λ t. each_term ns env (ts ++ t ∷ []) goes)
      (λ t. same-each-term ns env (ts ++ t ∷ []) uses.1 go goes k)

  pub same-block : (ns : List NodeId) (env : EnvId) (ts : List TermId) (go goes : List TermId → SpecPlan)
      → SameFrom items other go goes → Same items other (block ns env ts go) (block ns env ts goes)
  same-block [] env ts go goes k = k ts
  same-block (n ∷ ns) env ts go goes k = (
    refl,
    tt,
    λ r. same-as-statements r ts (λ us. block ns env us go) (λ us. block ns env us goes)
        (λ us. same-block ns env us go goes k),
  )

  -- ---- environments

  pub same-entering : (owner : NodeId) (env : EnvId) (go goes : EnvId → SpecPlan) → SameFrom items other go goes
      → Same items other (entering owner env go) (entering owner env goes)
  same-entering owner env go goes k = λ w. (refl, k (next_env w.heap))

  pub same-declaring : (env : EnvId) (v : Value) (rest more : SpecPlan) → Same items other rest more
      → Same items other (declaring env v rest) (declaring env v more)
  same-declaring env v rest more h = λ w. (refl, h)
