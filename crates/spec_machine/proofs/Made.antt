-- What is made on the way: the terms of values and literals, nodes, quotes and names.
use Rattle.std.proofs.Common.{◌≡◌, ℕ, ◌-◌, ◌≤◌, ◌<◌, List, [], ◌∷◌, ◌++◌, refl, sym, ap, subst, ◌∙◌}
use Rattle.tl_base.specs.declared.ids.QuoteId.{QuoteId}
use Rattle.tl_base.specs.declared.ids.TermId.{TermId}
use Rattle.tl_base.specs.declared.ids.TextId.{TextId}
use Rattle.tl_base.specs.declared.place.Place.{Place}
use Rattle.tl_base.specs.declared.machine.Step.TheVariants.{Return, Spent}
use Rattle.tl_base.specs.Layer.{State, state}
use Rattle.tl_base.specs.Plan.{Give, Read, Write, Pay, run}
use Rattle.tl_base.specs.Machine.{plug}
use Rattle.tl_base.proofs.Plans.{paid-enough}
use Rattle.tl_tree.specs.Code.{Items}
use Rattle.lua_value.specs.declared.value.Value.{Value}
use Rattle.lua_value.specs.declared.value.Value.TheVariants as values
use Rattle.terra_term.specs.declared.store.Quote.{Quote}
use Rattle.terra_term.specs.declared.term.Expression.{Expression}
use Rattle.terra_term.specs.declared.term.Statement.{Statement}
use Rattle.terra_term.specs.declared.term.Term.{Term}
use Rattle.terra_term.specs.declared.term.Term.TheVariants as terms
use Rattle.exotype.specs.World.{StageState}
use Rattle.exotype.specs.declared.became.Became.{Became}
use Rattle.exotype.specs.Becoming.{Text, became_of, after, term_of, with_term_of, spliced_nodes}
use Rattle.spec_model.specs.declared.end.End.TheVariants.{Made, Joined, Gave}
use Rattle.spec_model.specs.Making.{next_term, with_term, next_quote, with_quote, with_name}
use Rattle.spec_model.specs.Names.{naming}
use Rattle.spec_model.specs.Plans.{SpecPlan, one, literal, on_became, node, make, join}
use Rattle.spec_model.specs.Quotes.{give_quote}
use Rattle.spec_machine.specs.declared.frame.SpecFrame.{SpecFrame}
use Rattle.spec_machine.specs.declared.reached.Reached.TheVariants.{Left}
use Rattle.spec_machine.specs.Frames.{spec_rules}
use Rattle.spec_machine.specs.Steps.{SpecStep, Goes, Comes, Gets}
use Rattle.spec_machine.proofs.Doing.{moved, returns, lacks, gets}
use Rattle.spec_machine.proofs.Reaching.{Passes}

-- ---- values and literals

-- a value whose nodes are paid for goes on with what it became
pub one_passes : (v : Value) (at : Place) (w u : StageState) (n : ℕ) (became : Became) (left middle : ℕ)
    → n ≡ spliced_nodes w v → n ≤ left → middle ≡ left - n → became ≡ term_of w v → u ≡ with_term_of w v at
    → Passes (λ go. one v at go) w left (λ go. on_became became at go) u middle
one_passes v at w u n became left middle costs enough paid found made = λ f go later.
    let rest : SpecPlan = Write (with_term_of w v at) (on_became (term_of w v) at go) in
    ap (λ (m : ℕ). run f (Pay m rest) (state w left) later) (sym costs)
    ∙ paid-enough n (state w left) (λ s. run f rest s later) enough
    ∙ ap (λ (m : ℕ). run f (on_became (term_of w v) at go) (state (with_term_of w v at) m) later) (sym paid)
    ∙ ap (λ (b : Became). run f (on_became b at go) (state (with_term_of w v at) middle) later) (sym found)
    ∙ ap (λ (x : StageState). run f (on_became became at go) (state x middle) later) (sym made)

-- one that isn't paid for
pub one_short : (v : Value) (at : Place) (w : StageState) (n left after : ℕ) → n ≡ spliced_nodes w v → left < n → after ≡ left
    → Comes (λ go. one v at go) w left (Left Spent) w after
one_short v at w n left after costs short same = λ items go fs.
    subst (λ (m : ℕ). Goes items fs (one v at go) w left fs Spent w m) (sym same)
    (lacks items fs (spliced_nodes w v) (Write (with_term_of w v at) (on_became (term_of w v) at go)) w left
    (subst (λ (m : ℕ). left < m) costs short))

pub literal_passes : (bytes : List ℕ) (at : Place) (w u : StageState) (became : Became) (left : ℕ)
    → became ≡ became_of w (Text bytes) → u ≡ after w at (Text bytes)
    → Passes (λ go. literal bytes at go) w left (λ go. on_became became at go) u left
literal_passes bytes at w u became left found made = λ f go later.
    ap (λ (b : Became). run f (on_became b at go) (state (after w at (Text bytes)) left) later) (sym found)
    ∙ ap (λ (x : StageState). run f (on_became became at go) (state x left) later) (sym made)

-- ---- nodes

-- a new node
pub node_got : (term : Term) (w v : StageState) (t : TermId) → t ≡ next_term w → v ≡ with_term w term → Gets (λ go. node term go) w t v
node_got term w v t named made = λ f go left later.
    ap (λ (i : TermId). run f (go i) (state (with_term w term) left) later) (sym named)
    ∙ ap (λ (x : StageState). run f (go t) (state x left) later) (sym made)

pub makes : (items : Items) (fs : List SpecFrame) (place : Place) (e : Expression) (w v : StageState) (left : ℕ) (t : TermId)
    → t ≡ next_term w → v ≡ with_term w (terms.Expression place e)
    → Goes items fs (make place e) w left fs (Return (Made t)) v left
makes items fs place e w v left t named made =
    gets items fs fs (λ go. node (terms.Expression place e) go) (λ (u : TermId). Give (Made u)) t w v v left left (Return (Made t))
    (node_got (terms.Expression place e) w v t named made) (returns items fs (Made t) v left)

pub joins : (items : Items) (fs : List SpecFrame) (place : Place) (s : Statement) (w v : StageState) (left : ℕ) (t : TermId) (ts : List TermId)
    → t ≡ next_term w → v ≡ with_term w (terms.Statement place s) → ts ≡ t ∷ []
    → Goes items fs (join place s) w left fs (Return (Joined ts)) v left
joins items fs place s w v left t ts named made is =
    let end : SpecStep = Return (Joined ts) in
    gets items fs fs (λ go. node (terms.Statement place s) go) (λ (u : TermId). Give (Joined (u ∷ []))) t w v v left left end
    (node_got (terms.Statement place s) w v t named made)
    (moved items fs fs (Give (Joined (t ∷ []))) (Give (Joined ts)) v v v left left end
    (ap (λ (us : List TermId). Give (Joined us)) (sym is)) refl (returns items fs (Joined ts) v left))

-- ---- quotes

pub gives_quote : (items : Items) (fs : List SpecFrame) (q : Quote) (w v : StageState) (left : ℕ) (id : QuoteId)
    → id ≡ next_quote w → v ≡ with_quote w q
    → Goes items fs (give_quote q) w left fs (Return (Gave (values.Quote id))) v left
gives_quote items fs q w v left id named made =
    let end : SpecStep = Return (Gave (values.Quote id)) in
    moved items fs fs (Give (Gave (values.Quote (next_quote w)))) (Give (Gave (values.Quote id))) (with_quote w q) v v left left end
    (ap (λ (i : QuoteId). Give (Gave (values.Quote i))) (sym named)) (sym made) (returns items fs (Gave (values.Quote id)) v left)

-- ---- names

-- the store knows a name, and the plan goes on
pub named : (items : Items) (fs fs2 : List SpecFrame) (text : TextId) (rest : SpecPlan) (w v w2 : StageState) (left left2 : ℕ) (step : SpecStep)
    → v ≡ with_name w text → Goes items fs rest v left fs2 step w2 left2 → Goes items fs (naming text rest) w left fs2 step w2 left2
named items fs fs2 text rest w v w2 left left2 step is g =
    moved items fs fs2 rest rest (with_name w text) v w2 left left2 step refl (sym is) g
