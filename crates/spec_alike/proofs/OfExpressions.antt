-- Expressions do the same in trees that are alike.
use Rattle.std.proofs.Common.{◌≡◌, ℕ, true, false, List, [], ◌∷◌, ◌++◌, Option, Some, None, refl, ap, subst, ◌∙◌}
use Rattle.std.specs.Prelude.{nat_le, if◌then◌else◌}
use Rattle.std.specs.List.{AllByRecursion as Each}
use Rattle.tl_base.specs.declared.ids.EnvId.{EnvId}
use Rattle.tl_base.specs.declared.ids.NodeId.{NodeId}
use Rattle.tl_base.specs.declared.ids.TermId.{TermId}
use Rattle.tl_base.specs.declared.ids.TextId.{TextId}
use Rattle.tl_base.specs.declared.ids.TypeId.{TypeId}
use Rattle.tl_base.specs.declared.place.Place.{Place}
use Rattle.tl_base.specs.Plan.{Give, AskFor}
use Rattle.tl_lex.specs.Values.{value_of as literal_value}
use Rattle.tl_tree.specs.declared.node.TerraExpression.{TerraExpression}
use Rattle.tl_tree.specs.declared.node.TerraExpression.TheVariants as tree
use Rattle.tl_tree.specs.Item.{Item}
use Rattle.tl_tree.specs.Item as kept
use Rattle.tl_tree.specs.Symbols.{numeral_of}
use Rattle.tl_tree.specs.Numbers.{value_of as written_value}
use Rattle.tl_tree.specs.Code.{Items, name_of, name_at, place_at}
use Rattle.tl_tree.specs.Scopes.{Found as Declared, binder}
use Rattle.tl_alike.specs.Roles.{code_in, selected_by, code_in_terra_expression, selected_by_terra_expression}
use Rattle.tl_alike.specs.Alike.{AreAlike, SameNode, SameName, SameNumeral, SameLiteral, SameItem, HasSameUse, HasSameName}
use Rattle.tl_alike.proofs.ReadAlike.{place_same}
use Rattle.lua_value.specs.declared.value.Value.{Value}
use Rattle.lua_value.specs.declared.value.Value.TheVariants as values
use Rattle.lua_table.specs.Cells.{local_value}
use Rattle.lua_model.specs.Fields.{globals}
use Rattle.terra_term.specs.declared.store.Quote.{Quote}
use Rattle.terra_term.specs.declared.store.Quote.TheVariants as quotes
use Rattle.terra_term.specs.declared.term.Expression.TheVariants as e
use Rattle.terra_term.specs.declared.term.Initialiser.TheVariants as initialisers
use Rattle.exotype.specs.declared.fault.Fault.TheVariants as faults
use Rattle.spec_model.specs.Making.{quote_at, type_at}
use Rattle.spec_model.specs.declared.end.End.{End}
use Rattle.spec_model.specs.declared.end.End.TheVariants.{Found, Made, Joined, Gave, Answered, Raised}
use Rattle.spec_model.specs.declared.question.SpecQuestion.TheVariants as questions
use Rattle.spec_model.specs.Nodes.{Initial, initial_at, are_named, operator_of, unary_of, typed_by, numeral_type}
use Rattle.spec_model.specs.Plans.{SpecPlan, with_text_of, on_value, index, make, literal, one, term, terms_of}
use Rattle.spec_model.specs.Names.{member, naming}
use Rattle.spec_model.specs.Expressions.{found, named_value, select_term, select_from, select, or_no_type, spliced_type, quoted_type}
use Rattle.spec_model.specs.Expressions.{type_from, constructed, Initials, named_initial, named_initials, construct, expression_of}
use Rattle.spec_model.specs.Expressions.{largest_of, numeral_value, expression_plan}
use Rattle.spec_alike.proofs.Children.{IfAny}
use Rattle.spec_alike.proofs.Reading.{IsReadAlike, same-initial, same-are-named, initial-use}
use Rattle.spec_alike.proofs.OfPlans.{Same, SameFrom, same-if, same-name, same-raise, same-on-value, same-eval, same-index, same-make}
use Rattle.spec_alike.proofs.OfPlans.{same-one, same-literal, same-term, same-terms-of}
use Rattle.spec_alike.proofs.OfNames.{same-naming, same-as-type, same-member}

-- ---- numerals

numeral-type-same : (text others : List ℕ) → numeral_of text ≡ numeral_of others → numeral_type text ≡ numeral_type others
numeral-type-same text others symbol = ap typed_by symbol

-- a number where its type can hold it
abbrev held : ℕ → TypeId → ℕ
held n t = if nat_le n (largest_of t) then n else 0

numeral-value-same : (text others : List ℕ) → numeral_of text ≡ numeral_of others
    → written_value text ≡ written_value others → numeral_value text ≡ numeral_value others
numeral-value-same text others symbol value =
    ap (λ n. held n (numeral_type text)) value ∙ ap (λ t. held (written_value others) t) (numeral-type-same text others symbol)

module _ (items other : Items) where
  same-number : (place : Place) (n m : ℕ) (t s : TypeId) → n ≡ m → t ≡ s
      → Same items other (make place (e.Number n t)) (make place (e.Number m s))
  same-number place n m t s same of =
      subst (λ x. Same items other (make place (e.Number n t)) (make place (e.Number x s))) same
      (subst (λ x. Same items other (make place (e.Number n t)) (make place (e.Number n x))) of
      (same-make items other place (e.Number n t)))

  same-written : (bytes others : List ℕ) → bytes ≡ others → (place : Place)
      → Same items other (literal bytes place (λ t. Give (Made t))) (literal others place (λ t. Give (Made t)))
  same-written bytes others same place =
      subst (λ b. Same items other (literal bytes place (λ t. Give (Made t))) (literal b place (λ t. Give (Made t)))) same
      (same-literal items other bytes place (λ t. Give (Made t)) (λ t. Give (Made t)) (λ t. refl))

  -- ---- names

  -- a local's value, or what stands under a name in the globals, which is the same name
  pub same-named-value : (o : Option Declared) (name others : List ℕ) → (o ≡ None → name ≡ others) → (place : Place) (env : EnvId)
      (go goes : Value → SpecPlan) → SameFrom items other go goes
      → Same items other (named_value o name place env go) (named_value o others place env goes)
  same-named-value (Some d) name others same place env go goes k = λ w. k (local_value w.heap env d.depth d.position)
  same-named-value None name others same place env go goes k =
      subst (λ b. Same items other (index (values.Table globals) name place go) (index (values.Table globals) b place goes)) (same refl)
      (same-index items other (values.Table globals) name place go goes k)

  -- ---- the types of constructors

  same-or-no-type : (o : Option TypeId) (place : Place) (go goes : TypeId → SpecPlan) → SameFrom items other go goes
      → Same items other (or_no_type o place go) (or_no_type o place goes)
  same-or-no-type (Some t) place go goes k = k t
  same-or-no-type None place go goes k = same-raise items other place faults.NotAType

  same-spliced-type : (o : Option TypeId) (place : Place) (go goes : TypeId → SpecPlan) → SameFrom items other go goes
      → Same items other (spliced_type o place go) (spliced_type o place goes)
  same-spliced-type (Some t) place go goes k = (refl, k t)
  same-spliced-type None place go goes k = same-raise items other place faults.NotAType

  same-quoted-type : (q : Option Quote) (place : Place) (go goes : TypeId → SpecPlan) → SameFrom items other go goes
      → Same items other (quoted_type q place go) (quoted_type q place goes)
  same-quoted-type (Some (quotes.Expression t)) place go goes k = λ w. same-spliced-type (type_at w t) place go goes k
  same-quoted-type q place go goes k = same-raise items other place faults.NotAType

  same-type-from : (v : Value) (place : Place) (go goes : TypeId → SpecPlan) → SameFrom items other go goes
      → Same items other (type_from v place go) (type_from v place goes)
  same-type-from (values.Quote q) place go goes k = λ w. same-quoted-type (quote_at w q) place go goes k
  same-type-from v place go goes k = same-as-type items other v place go goes k

  same-constructed : (r : End) (place : Place) (go goes : TypeId → SpecPlan) → SameFrom items other go goes
      → Same items other (constructed r place go) (constructed r place goes)
  same-constructed (Found v at) place go goes k = same-type-from v place go goes k
  same-constructed (Made t) place go goes k = λ w. same-or-no-type (type_at w t) place go goes k
  same-constructed r place go goes k = refl

-- ---- in two trees

module _ (items other : Items) (alike : AreAlike items other) where
  -- ---- selection

  same-select-term : (object : TermId) (name : NodeId) (place : Place) (env : EnvId) → HasSameName items other name
      → Same items other (select_term items object name place env) (select_term other object name place env)
  same-select-term object name place env same =
      same-member items other alike name env same (λ field. naming field (make place (e.Select object field)))
      (λ field. naming field (make place (e.Select object field)))
      (λ field. same-naming items other field (make place (e.Select object field)) (make place (e.Select object field))
      (same-make items other place (e.Select object field)))

  same-select-one : (v : Value) (at : Place) (name : NodeId) (place : Place) (env : EnvId) → HasSameName items other name
      → Same items other (one v at (λ object. select_term items object name place env))
      (one v at (λ object. select_term other object name place env))
  same-select-one v at name place env same =
      same-one items other v at (λ object. select_term items object name place env) (λ object. select_term other object name place env)
      (λ object. same-select-term object name place env same)

  same-select-from : (v : Value) (at : Place) (name : NodeId) (place : Place) (env : EnvId) → HasSameName items other name
      → Same items other (select_from items v at name place env) (select_from other v at name place env)
  same-select-from (values.Table t) at name place env same =
      same-member items other alike name env same
      (λ field. AskFor (questions.Index (values.Table t) field place) (λ a. on_value a (found place)))
      (λ field. AskFor (questions.Index (values.Table t) field place) (λ a. on_value a (found place)))
      (λ field. (refl, tt, λ a. same-on-value items other a (found place) (found place) (λ v. refl)))
  same-select-from v at name place env same = same-select-one v at name place env same

  same-select : (r : End) (name : NodeId) (place : Place) (env : EnvId) → HasSameName items other name
      → Same items other (select items r name place env) (select other r name place env)
  same-select (Found v at) name place env same = same-select-from v at name place env same
  same-select (Made t) name place env same = same-select-term t name place env same
  same-select (Joined ts) name place env same = refl
  same-select (Gave v) name place env same = refl
  same-select (Answered vs) name place env same = refl
  same-select (Raised v at) name place env same = refl

  -- ---- constructors

  -- names and terms behind which the same goes on
  abbrev SameInitials : Initials → Initials → Type 0
  SameInitials go goes = (names : List TextId) (ts : List TermId) → Same items other (go names ts) (goes names ts)

  same-named-initial : (o : Option Initial) → IfAny (IsReadAlike items other) o → (env : EnvId) (names : List TextId) (ts : List TermId)
      (go goes : Initials) → SameInitials go goes
      → Same items other (named_initial items o env names ts go) (named_initial other o env names ts goes)
  same-named-initial (Some i) read env names ts go goes k =
      same-term items other i.value env read.0
      (λ t. with_text_of (name_at items i.name) (λ name. naming name (go (names ++ name ∷ []) (ts ++ t ∷ []))))
      (λ t. with_text_of (name_at other i.name) (λ name. naming name (goes (names ++ name ∷ []) (ts ++ t ∷ []))))
      (λ t. same-name items other (name_at items i.name) (name_at other i.name) read.1
      (λ name. naming name (go (names ++ name ∷ []) (ts ++ t ∷ []))) (λ name. naming name (goes (names ++ name ∷ []) (ts ++ t ∷ [])))
      (λ name. same-naming items other name (go (names ++ name ∷ []) (ts ++ t ∷ [])) (goes (names ++ name ∷ []) (ts ++ t ∷ []))
      (k (names ++ name ∷ []) (ts ++ t ∷ []))))
  same-named-initial None read env names ts go goes k = k names ts

  same-named-initials : (ns : List NodeId) (env : EnvId) (names : List TextId) (ts : List TermId) (go goes : Initials)
      → SameInitials go goes
      → Same items other (named_initials items ns env names ts go) (named_initials other ns env names ts goes)
  same-named-initials [] env names ts go goes k = k names ts
  same-named-initials (n ∷ ns) env names ts go goes k =
      subst (λ o. Same items other (named_initials items (n ∷ ns) env names ts go)
      (named_initial other o env names ts (λ more others. named_initials other ns env more others goes))) (same-initial items other alike n)
      (same-named-initial (initial_at items n) (initial-use items other alike n) env names ts
      (λ more others. named_initials items ns env more others go) (λ more others. named_initials other ns env more others goes)
      (λ more others. same-named-initials ns env more others go goes k))

  same-construct : (of : TypeId) (ns : List NodeId) (place : Place) (env : EnvId) → Each (HasSameUse items other) ns
      → Same items other (construct items of ns place env) (construct other of ns place env)
  same-construct of ns place env uses =
      subst (λ c. Same items other (construct items of ns place env) (if c then named_initials other ns env [] [] named else positional))
      (same-are-named items other alike ns)
      (same-if items other (are_named items ns) (named_initials items ns env [] [] named) positional
      (named_initials other ns env [] [] named) positional
      (same-named-initials ns env [] [] named named (λ names ts. same-make items other place (e.New of (initialisers.Named names ts))))
      (same-terms-of items other ns env [] uses (λ ts. make place (e.New of (initialisers.Positional ts)))
      (λ ts. make place (e.New of (initialisers.Positional ts)))
      (λ ts. same-make items other place (e.New of (initialisers.Positional ts)))))
    where
      named : Initials
      named names ts = make place (e.New of (initialisers.Named names ts))

      positional : SpecPlan
      positional = terms_of ns env [] (λ ts. make place (e.New of (initialisers.Positional ts)))

  -- ---- nodes

  same-expression-of : (x : TerraExpression) (place : Place) (env : EnvId) → Each (HasSameUse items other) (code_in_terra_expression x)
      → Each (HasSameName items other) (selected_by_terra_expression x)
      → Same items other (expression_of items x place env) (expression_of other x place env)
  same-expression-of tree.Nil place env uses same = same-make items other place e.Nil
  same-expression-of tree.False place env uses same = same-make items other place (e.Truth false)
  same-expression-of tree.True place env uses same = same-make items other place (e.Truth true)
  same-expression-of (tree.Binary op a b) place env uses same =
      let made : TermId → TermId → SpecPlan = λ x y. make place (e.Binary (operator_of op) x y) in
      same-term items other a env uses.0 (λ x. term b env (λ y. made x y)) (λ x. term b env (λ y. made x y))
      (λ x. same-term items other b env uses.1.0 (λ y. made x y) (λ y. made x y)
      (λ y. same-make items other place (e.Binary (operator_of op) x y)))
  same-expression-of (tree.Unary op a) place env uses same =
      same-term items other a env uses.0 (λ x. make place (e.Unary (unary_of op) x)) (λ x. make place (e.Unary (unary_of op) x))
      (λ x. same-make items other place (e.Unary (unary_of op) x))
  same-expression-of (tree.Paren a) place env uses same =
      same-term items other a env uses.0 (λ x. Give (Made x)) (λ x. Give (Made x)) (λ x. refl)
  same-expression-of (tree.Escape a) place env uses same =
      same-eval items other a env uses.0 (found place) (found place) (λ v. refl)
  same-expression-of (tree.Index a key) place env uses same =
      same-term items other a env uses.0 (λ x. term key env (λ y. make place (e.Index x y)))
      (λ x. term key env (λ y. make place (e.Index x y)))
      (λ x. same-term items other key env uses.1.0 (λ y. make place (e.Index x y)) (λ y. make place (e.Index x y))
      (λ y. same-make items other place (e.Index x y)))
  same-expression-of (tree.Select a name) place env uses same = (refl, uses.0, λ r. same-select r name place env same.0)
  same-expression-of (tree.Call f arguments) place env uses same =
      same-term items other f env uses.0 (λ callee. terms_of arguments env [] (λ ts. make place (e.Call callee ts)))
      (λ callee. terms_of arguments env [] (λ ts. make place (e.Call callee ts)))
      (λ callee. same-terms-of items other arguments env [] uses.1 (λ ts. make place (e.Call callee ts))
      (λ ts. make place (e.Call callee ts)) (λ ts. same-make items other place (e.Call callee ts)))
  same-expression-of (tree.Method a name arguments) place env uses same =
      let made : TermId → TextId → List TermId → SpecPlan = λ object method ts.
      naming method (make place (e.Method object method ts)) in
      same-term items other a env uses.0
      (λ object. member items name env (λ method. terms_of arguments env [] (λ ts. made object method ts)))
      (λ object. member other name env (λ method. terms_of arguments env [] (λ ts. made object method ts)))
      (λ object. same-member items other alike name env same.0
      (λ method. terms_of arguments env [] (λ ts. made object method ts))
      (λ method. terms_of arguments env [] (λ ts. made object method ts))
      (λ method. same-terms-of items other arguments env [] uses.1 (λ ts. made object method ts) (λ ts. made object method ts)
      (λ ts. same-naming items other method (make place (e.Method object method ts)) (make place (e.Method object method ts))
      (same-make items other place (e.Method object method ts)))))
  same-expression-of (tree.Construct a ns) place env uses same = (
    refl,
    uses.0,
    λ r.
        subst (λ p. Same items other (constructed r (place_at items a) (λ of. construct items of ns place env))
        (constructed r p (λ of. construct other of ns place env))) (place_same items other alike a)
        (same-constructed items other r (place_at items a) (λ of. construct items of ns place env) (λ of. construct other of ns place env)
        (λ of. same-construct of ns place env uses.1)),
  )

  -- what is no expression
  same-none : (n : NodeId) → Same items other (make (place_at items n) e.Nil) (make (place_at other n) e.Nil)
  same-none n =
      subst (λ p. Same items other (make (place_at items n) e.Nil) (make p e.Nil)) (place_same items other alike n)
      (same-make items other (place_at items n) e.Nil)

  -- a name
  same-use : (place : Place) (name others : List ℕ) (n : NodeId) (env : EnvId) → (binder items n ≡ None → name ≡ others)
      → Same items other (named_value (binder items n) name place env (found place)) (named_value (binder other n) others place env
      (found place))
  same-use place name others n env same =
      subst (λ o. Same items other (named_value (binder items n) name place env (found place)) (named_value o others place env
      (found place)))
      (alike.binders n)
      (same-named-value items other (binder items n) name others same place env (found place) (found place) (λ v. refl))

  same-item : (a : Item) (n : NodeId) (env : EnvId) → Each (HasSameUse items other) (code_in a)
      → Each (HasSameName items other) (selected_by a) → Same items other (expression_plan items a n env) (expression_plan other a n env)
  same-item (kept.Name place offset name) n env uses same = same-use place name name n env (λ none. refl)
  same-item (kept.Numeral place text) n env uses same =
      same-make items other place (e.Number (numeral_value text) (numeral_type text))
  same-item (kept.Literal place text) n env uses same =
      same-literal items other (literal_value text) place (λ t. Give (Made t)) (λ t. Give (Made t)) (λ t. refl)
  same-item (kept.TerraExpression place x) n env uses same = same-expression-of x place env uses same
  same-item (kept.Expression place x) n env uses same = same-none n
  same-item (kept.Statement place x) n env uses same = same-none n
  same-item (kept.TerraStatement place x) n env uses same = same-none n
  same-item (kept.Piece p) n env uses same = same-none n

  pub same-expression-plan : {a b : Item} → SameNode a b → (n : NodeId) (env : EnvId) → (binder items n ≡ None → name_of a ≡ name_of b)
      → Each (HasSameUse items other) (code_in a) → Each (HasSameName items other) (selected_by a)
      → Same items other (expression_plan items a n env) (expression_plan other b n env)
  same-expression-plan (SameName place i j text others) n env used uses same = same-use place text others n env used
  same-expression-plan (SameNumeral place text others symbol value) n env used uses same =
      same-number items other place (numeral_value text) (numeral_value others) (numeral_type text) (numeral_type others)
      (numeral-value-same text others symbol value) (numeral-type-same text others symbol)
  same-expression-plan (SameLiteral place text others value) n env used uses same =
      same-written items other (literal_value text) (literal_value others) value place
  same-expression-plan (SameItem item) n env used uses same = same-item item n env uses same
