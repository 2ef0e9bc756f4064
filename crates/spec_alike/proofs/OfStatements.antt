-- Statements do the same in trees that are alike.
use Rattle.std.proofs.Common.{List, [], ◌∷◌, ◌++◌, Option, Some, None, refl, subst}
use Rattle.std.specs.Prelude.{option_to_list}
use Rattle.std.specs.List.{AllByRecursion as Each}
use Rattle.tl_base.specs.declared.ids.EnvId.{EnvId}
use Rattle.tl_base.specs.declared.ids.NodeId.{NodeId}
use Rattle.tl_base.specs.declared.ids.SymId.{SymId}
use Rattle.tl_base.specs.declared.ids.TermId.{TermId}
use Rattle.tl_base.specs.declared.place.Place.{Place}
use Rattle.tl_base.specs.Plan.{Read, Write}
use Rattle.tl_tree.specs.declared.node.TerraStatement.{TerraStatement}
use Rattle.tl_tree.specs.declared.node.TerraStatement.TheVariants as tree
use Rattle.tl_tree.specs.Item.{Item}
use Rattle.tl_tree.specs.Item as kept
use Rattle.tl_tree.specs.Nodes.{item_at}
use Rattle.tl_tree.specs.Code.{Items, place_at, statements_at, arm_condition, arm_block, if_any}
use Rattle.tl_alike.specs.Roles.{code_in, code_in_terra_statement, is_arm, HasKinds}
use Rattle.tl_alike.specs.Alike.{AreAlike, SameNode, SameName, SameNumeral, SameLiteral, SameItem, HasSameUse}
use Rattle.tl_alike.proofs.ReadAlike.{place_same, statements_same}
use Rattle.lua_value.specs.declared.value.Value.{Value}
use Rattle.lua_value.specs.declared.value.Value.TheVariants as values
use Rattle.lua_table.specs.Heap.{table_at}
use Rattle.terra_term.specs.declared.lists.VarName.{VarName}
use Rattle.terra_term.specs.declared.store.Quote.{Quote}
use Rattle.terra_term.specs.declared.store.Quote.TheVariants as quotes
use Rattle.terra_term.specs.declared.term.Statement.TheVariants as s
use Rattle.terra_term.specs.declared.term.Term.TheVariants as terms
use Rattle.exotype.specs.World.{StageState}
use Rattle.spec_model.specs.Making.{next_symbol, with_symbol, symbol_type, quote_at}
use Rattle.spec_model.specs.declared.wanted.Wanted.{Wanted}
use Rattle.spec_model.specs.Nodes.{escaped_at, or_first, typing_at, Typing}
use Rattle.spec_model.specs.Plans.{SpecPlan, eval, node, join, values_in, term, terms_of, each_term, block, entering, declaring}
use Rattle.spec_model.specs.Names.{symbols_of, symbol_of}
use Rattle.spec_model.specs.Types.{type_if_any}
use Rattle.spec_model.specs.Statements.{joined, performed, quoted, item_of, each_item, spliced, each_spliced, given, wanted_one, wanted}
use Rattle.spec_model.specs.Statements.{or_own, drawn_one, drawn, values_if_any, var_plan, inner_block, repeat_plan, Others, arm}
use Rattle.spec_model.specs.Statements.{else_block, else_of, if_plan, for_body, for_plan, statement_of, statement_plan}
use Rattle.tl_alike.proofs.Each.{each_front, each_behind}
use Rattle.spec_alike.proofs.Children.{IfAny, each}
use Rattle.spec_alike.proofs.Reading.{same-escaped, same-typing, same-arm, escape-use, spliced-use}
use Rattle.spec_alike.proofs.Reading.{type-use, condition-use, each-any}
use Rattle.spec_alike.proofs.OfPlans.{Same, SameFrom, same-eval, same-emitted, same-node, same-join, same-one, same-term, same-terms-of}
use Rattle.spec_alike.proofs.OfPlans.{same-each-term, same-block, same-entering, same-declaring}
use Rattle.spec_alike.proofs.OfNames.{same-symbols-of, same-symbol-of, same-type-if-any}

module _ (items other : Items) where
  -- ---- values as statements

  same-performed : (v : Value) (place : Place) (ts : List TermId) (go goes : List TermId → SpecPlan) → SameFrom items other go goes
      → Same items other (performed v place ts go) (performed v place ts goes)
  same-performed v place ts go goes k =
      same-one items other v place (λ t. node (terms.Statement place (s.Perform t)) (λ u. go (ts ++ u ∷ [])))
      (λ t. node (terms.Statement place (s.Perform t)) (λ u. goes (ts ++ u ∷ [])))
      (λ t. same-node items other (terms.Statement place (s.Perform t)) (λ u. go (ts ++ u ∷ [])) (λ u. goes (ts ++ u ∷ []))
      (λ u. k (ts ++ u ∷ [])))

  same-quoted-items : (w : StageState) (q : Option Quote) (v : Value) (place : Place) (ts : List TermId)
      (go goes : List TermId → SpecPlan) → SameFrom items other go goes
      → Same items other (quoted w q v place ts go) (quoted w q v place ts goes)
  same-quoted-items w (Some (quotes.Statements us)) v place ts go goes k = (refl, k (ts ++ us))
  same-quoted-items w q v place ts go goes k = same-performed v place ts go goes k

  same-item-of : (v : Value) (place : Place) (ts : List TermId) (go goes : List TermId → SpecPlan) → SameFrom items other go goes
      → Same items other (item_of v place ts go) (item_of v place ts goes)
  same-item-of (values.Quote q) place ts go goes k =
      λ w. same-quoted-items w (quote_at w q) (values.Quote q) place ts go goes k
  same-item-of v place ts go goes k = same-performed v place ts go goes k

  same-each-item : (vs : List Value) (place : Place) (ts : List TermId) (go goes : List TermId → SpecPlan)
      → SameFrom items other go goes → Same items other (each_item vs place ts go) (each_item vs place ts goes)
  same-each-item [] place ts go goes k = k ts
  same-each-item (v ∷ vs) place ts go goes k =
      same-item-of v place ts (λ us. each_item vs place us go) (λ us. each_item vs place us goes)
      (λ us. same-each-item vs place us go goes k)

  same-spliced : (v : Value) (place : Place) (ts : List TermId) (go goes : List TermId → SpecPlan) → SameFrom items other go goes
      → Same items other (spliced v place ts go) (spliced v place ts goes)
  same-spliced (values.Table t) place ts go goes k = λ w. same-each-item (values_in (table_at w.heap t)) place ts go goes k
  same-spliced v place ts go goes k = same-item-of v place ts go goes k

  same-each-spliced : (vs : List Value) (place : Place) (ts : List TermId) (go goes : List TermId → SpecPlan)
      → SameFrom items other go goes → Same items other (each_spliced vs place ts go) (each_spliced vs place ts goes)
  same-each-spliced [] place ts go goes k = k ts
  same-each-spliced (v ∷ vs) place ts go goes k =
      same-spliced v place ts (λ us. each_spliced vs place us go) (λ us. each_spliced vs place us goes)
      (λ us. same-each-spliced vs place us go goes k)

  -- ---- `var`

  same-drawn-one : (v : Wanted) (x : Option SymId) (env : EnvId) (names : List VarName) (go goes : List VarName → SpecPlan)
      → SameFrom items other go goes → Same items other (drawn_one v x env names go) (drawn_one v x env names goes)
  same-drawn-one v (Some x) env names go goes k =
      λ w. k (names ++ record { symbol = x; of = or_own v.of (symbol_type w x); place = v.place } ∷ [])
  same-drawn-one v None env names go goes k =
      λ w.
      let more : List VarName = names ++ record { symbol = next_symbol w; of = v.of; place = v.place } ∷ [] in
      (refl, same-declaring items other env (values.Symbol (next_symbol w)) (go more) (goes more) (k more))

  same-drawn : (vs : List Wanted) (env : EnvId) (names : List VarName) (go goes : List VarName → SpecPlan)
      → SameFrom items other go goes → Same items other (drawn vs env names go) (drawn vs env names goes)
  same-drawn [] env names go goes k = k names
  same-drawn (v ∷ vs) env names go goes k =
      same-drawn-one v v.symbol env names (λ more. drawn vs env more go) (λ more. drawn vs env more goes)
      (λ more. same-drawn vs env more go goes k)

  same-values-if-any : (es : List NodeId) (env : EnvId) → Each (HasSameUse items other) es → (go goes : Option (List TermId) → SpecPlan)
      → SameFrom items other go goes → Same items other (values_if_any es env go) (values_if_any es env goes)
  same-values-if-any [] env uses go goes k = k None
  same-values-if-any (n ∷ ns) env uses go goes k =
      same-terms-of items other (n ∷ ns) env [] uses (λ ts. go (Some ts)) (λ ts. goes (Some ts)) (λ ts. k (Some ts))

-- ---- in two trees

module _ (items other : Items) (alike : AreAlike items other) where
  same-wanted-one : (v : Typing) (o : Option NodeId) (env : EnvId) (ws : List Wanted) → IfAny (HasSameUse items other) o
      → IfAny (HasSameUse items other) v.type → (go goes : List Wanted → SpecPlan) → SameFrom items other go goes
      → Same items other (wanted_one items v o env ws go) (wanted_one other v o env ws goes)
  same-wanted-one v (Some e) env ws used type go goes k =
      let behind : Items → (List Wanted → SpecPlan) → Place → Value → SpecPlan = λ tree go place x.
      symbols_of x place (λ xs. type_if_any tree v.type env (λ of. go (ws ++ given xs of place))) in
      same-eval items other e env used (behind items go (place_at items v.name)) (behind other goes (place_at other v.name))
      (λ x. subst (λ p. Same items other (behind items go (place_at items v.name) x) (behind other goes p x))
      (place_same items other alike v.name)
      (same-symbols-of items other x (place_at items v.name)
      (λ xs. type_if_any items v.type env (λ of. go (ws ++ given xs of (place_at items v.name))))
      (λ xs. type_if_any other v.type env (λ of. goes (ws ++ given xs of (place_at items v.name))))
      (λ xs. same-type-if-any items other alike v.type env type (λ of. go (ws ++ given xs of (place_at items v.name)))
      (λ of. goes (ws ++ given xs of (place_at items v.name))) (λ of. k (ws ++ given xs of (place_at items v.name))))))
  same-wanted-one v None env ws used type go goes k =
      let behind : Items → (List Wanted → SpecPlan) → Place → SpecPlan = λ tree go place.
      type_if_any tree v.type env (λ of. go (ws ++ record { symbol = None; of = of; place = place } ∷ [])) in
      subst (λ p. Same items other (behind items go (place_at items v.name)) (behind other goes p)) (place_same items other alike v.name)
      (same-type-if-any items other alike v.type env type
      (λ of. go (ws ++ record { symbol = None; of = of; place = place_at items v.name } ∷ []))
      (λ of. goes (ws ++ record { symbol = None; of = of; place = place_at items v.name } ∷ []))
      (λ of. k (ws ++ record { symbol = None; of = of; place = place_at items v.name } ∷ [])))

  same-wanted : (ns : List NodeId) (env : EnvId) (ws : List Wanted) (go goes : List Wanted → SpecPlan) → SameFrom items other go goes
      → Same items other (wanted items ns env ws go) (wanted other ns env ws goes)
  same-wanted [] env ws go goes k = k ws
  same-wanted (n ∷ ns) env ws go goes k =
      let v : Typing = typing_at items n in
      let more : List Wanted → SpecPlan = λ us. wanted items ns env us go in
      let mores : List Wanted → SpecPlan = λ us. wanted other ns env us goes in
      let one : SpecPlan = wanted_one items v (escaped_at items v.name) env ws more in (
        refl,
        subst (λ t. Same items other one (wanted_one other t (escaped_at other t.name) env ws mores)) (same-typing items other alike n)
            (subst (λ o. Same items other one (wanted_one other v o env ws mores)) (same-escaped items other alike v.name)
            (same-wanted-one v (escaped_at items v.name) env ws (escape-use items other alike v.name)
            (type-use items other alike n) more mores (λ us. same-wanted ns env us go goes k))),
      )

  same-var-plan : (ns es : List NodeId) (place : Place) (env : EnvId) → Each (HasSameUse items other) es
      → Same items other (var_plan items ns es place env) (var_plan other ns es place env)
  same-var-plan ns es place env uses =
      let ended : List Wanted → Option (List TermId) → SpecPlan = λ ws values.
      drawn ws env [] (λ names. join place (s.Var names values)) in
      same-wanted ns env [] (λ ws. values_if_any es env (ended ws)) (λ ws. values_if_any es env (ended ws))
      (λ ws. same-values-if-any items other es env uses (ended ws) (ended ws)
      (λ values. same-drawn items other ws env [] (λ names. join place (s.Var names values)) (λ names. join place (s.Var names values))
      (λ names. same-join items other place (s.Var names values))))

  -- ---- blocks

  pub same-statements : (b : NodeId) (env : EnvId) (ts : List TermId) (go goes : List TermId → SpecPlan) → SameFrom items other go goes
      → Same items other (block (statements_at items b) env ts go) (block (statements_at other b) env ts goes)
  same-statements b env ts go goes k =
      subst (λ ns. Same items other (block (statements_at items b) env ts go) (block ns env ts goes)) (statements_same items other alike b)
      (same-block items other (statements_at items b) env ts go goes k)

  same-inner-block : (b : NodeId) (env : EnvId) (go goes : List TermId → SpecPlan) → SameFrom items other go goes
      → Same items other (inner_block items b env go) (inner_block other b env goes)
  same-inner-block b env go goes k =
      same-entering items other b env (λ inner. block (statements_at items b) inner [] go)
      (λ inner. block (statements_at other b) inner [] goes) (λ inner. same-statements b inner [] go goes k)

  same-repeat-plan : (n b condition : NodeId) (place : Place) (env : EnvId) → HasSameUse items other condition
      → Same items other (repeat_plan items n b condition place env) (repeat_plan other n b condition place env)
  same-repeat-plan n b condition place env used =
      let ended : EnvId → List TermId → SpecPlan = λ inner ts. term condition inner (λ t. join place (s.Repeat ts t)) in
      same-entering items other n env (λ inner. block (statements_at items b) inner [] (ended inner))
      (λ inner. block (statements_at other b) inner [] (ended inner))
      (λ inner. same-statements b inner [] (ended inner) (ended inner)
      (λ ts. same-term items other condition inner used (λ t. join place (s.Repeat ts t)) (λ t. join place (s.Repeat ts t))
      (λ t. same-join items other place (s.Repeat ts t))))

  -- ---- `if`

  -- the blocks behind do the same
  abbrev SameOthers : Others → Others → Type 0
  SameOthers others more =
      (next nexts : Option (List TermId) → SpecPlan) → SameFrom items other next nexts → Same items other (others next) (more nexts)

  same-arm-plan : (n : NodeId) → is_arm (item_at items n) → (place : Place) (env : EnvId) (others more : Others) → SameOthers others more
      → (go goes : TermId → SpecPlan) → SameFrom items other go goes
      → Same items other (arm items (item_at items n) place env others go) (arm other (item_at other n) place env more goes)
  same-arm-plan n is place env others more h go goes k =
      let a : Item = item_at items n in
      subst (λ b. Same items other (arm items a place env others go) (arm other b place env more goes)) (same-arm items other alike n is)
      (same-term items other (arm_condition a) env (condition-use items other alike n is)
      (λ test. inner_block items (arm_block a) env (λ ts. others (λ us. node (terms.Statement place (s.If test ts us)) go)))
      (λ test. inner_block other (arm_block a) env (λ ts. more (λ us. node (terms.Statement place (s.If test ts us)) goes)))
      (λ test. same-inner-block (arm_block a) env (λ ts. others (λ us. node (terms.Statement place (s.If test ts us)) go))
      (λ ts. more (λ us. node (terms.Statement place (s.If test ts us)) goes))
      (λ ts. h (λ us. node (terms.Statement place (s.If test ts us)) go) (λ us. node (terms.Statement place (s.If test ts us)) goes)
      (λ us. same-node items other (terms.Statement place (s.If test ts us)) go goes k))))

  same-else-block : (o : Option NodeId) (env : EnvId) → SameOthers (else_block items o env) (else_block other o env)
  same-else-block (Some b) env go goes k =
      same-inner-block b env (λ ts. go (Some ts)) (λ ts. goes (Some ts)) (λ ts. k (Some ts))
  same-else-block None env go goes k = k None

  abbrev AreArms : List NodeId → Type 0
  AreArms ns = Each (λ n. is_arm (item_at items n)) ns

  same-else-of : (ns : List NodeId) → AreArms ns → (otherwise : Option NodeId) (env : EnvId)
      → SameOthers (else_of items ns otherwise env) (else_of other ns otherwise env)
  same-else-of [] are otherwise env go goes k = same-else-block otherwise env go goes k
  same-else-of (n ∷ ns) are otherwise env go goes k =
      let one : SpecPlan = else_of items (n ∷ ns) otherwise env go in
      let two : Place → SpecPlan = λ p.
      arm other (item_at other n) p env (λ next. else_of other ns otherwise env next) (λ t. goes (Some (t ∷ []))) in
      subst (λ a. Same items other one (two (place_at other (arm_condition a)))) (same-arm items other alike n are.0)
      (subst (λ p. Same items other one (two p)) (place_same items other alike (arm_condition (item_at items n)))
      (same-arm-plan n are.0 (place_at items (arm_condition (item_at items n))) env (λ next. else_of items ns otherwise env next)
      (λ next. else_of other ns otherwise env next) (λ next nexts h. same-else-of ns are.1 otherwise env next nexts h)
      (λ t. go (Some (t ∷ []))) (λ t. goes (Some (t ∷ []))) (λ t. k (Some (t ∷ [])))))

  same-if-plan : (ns : List NodeId) → AreArms ns → (otherwise : Option NodeId) (place : Place) (env : EnvId)
      → Same items other (if_plan items ns otherwise place env) (if_plan other ns otherwise place env)
  same-if-plan [] are otherwise place env = refl
  same-if-plan (n ∷ ns) are otherwise place env =
      same-arm-plan n are.0 place env (λ next. else_of items ns otherwise env next) (λ next. else_of other ns otherwise env next)
      (λ next nexts h. same-else-of ns are.1 otherwise env next nexts h) (λ t. joined (t ∷ [])) (λ t. joined (t ∷ [])) (λ t. refl)

  -- ---- `for`

  same-for-body : (n b : NodeId) (x : SymId) (at : Place) (bounds : List TermId) (place : Place) (inner : EnvId)
      → Same items other (for_body items n b x at bounds place inner) (for_body other n b x at bounds place inner)
  same-for-body n b x at bounds place inner =
      let ended : List TermId → SpecPlan = λ ts. join place (s.For (record { symbol = x; of = None; place = at }) bounds ts) in
      same-statements b inner [] ended ended
      (λ ts. same-join items other place (s.For (record { symbol = x; of = None; place = at }) bounds ts))

  same-for-plan : (n : NodeId) (o : Option NodeId) (at : Place) (bounds : List NodeId) (b : NodeId) (place : Place) (env : EnvId)
      → IfAny (HasSameUse items other) o → Each (HasSameUse items other) bounds
      → Same items other (for_plan items n o at bounds b place env) (for_plan other n o at bounds b place env)
  same-for-plan n (Some e) at bounds b place env used uses =
      let body : Items → SymId → List TermId → SpecPlan = λ tree x ts.
      entering n env (λ inner. for_body tree n b x at ts place inner) in
      let behind : Items → Value → SpecPlan = λ tree v. symbol_of v at (λ x. each_term bounds env [] (body tree x)) in
      same-eval items other e env used (behind items) (behind other)
      (λ v. same-symbol-of items other v at (λ x. each_term bounds env [] (body items x)) (λ x. each_term bounds env [] (body other x))
      (λ x. same-each-term items other bounds env [] uses (body items x) (body other x)
      (λ ts. same-entering items other n env (λ inner. for_body items n b x at ts place inner)
      (λ inner. for_body other n b x at ts place inner)
      (λ inner. same-for-body n b x at ts place inner))))
  same-for-plan n None at bounds b place env used uses =
      let body : Items → SymId → List TermId → EnvId → SpecPlan = λ tree x ts inner.
      declaring inner (values.Symbol x) (for_body tree n b x at ts place inner) in
      let behind : Items → List TermId → SpecPlan = λ tree ts.
      Read (λ w. Write (with_symbol w None) (entering n env (body tree (next_symbol w) ts))) in
      same-each-term items other bounds env [] uses (behind items) (behind other)
      (λ ts w. (
        refl,
        same-entering items other n env (body items (next_symbol w) ts) (body other (next_symbol w) ts)
            (λ inner. same-declaring items other inner (values.Symbol (next_symbol w))
            (for_body items n b (next_symbol w) at ts place inner)
            (for_body other n b (next_symbol w) at ts place inner) (same-for-body n b (next_symbol w) at ts place inner)),
      ))

  -- ---- statements

  same-splice : (e : NodeId) (place : Place) (env : EnvId) → HasSameUse items other (or_first (escaped_at items e))
      → Same items other (statement_of items (tree.Splice e) e place env) (statement_of other (tree.Splice e) e place env)
  same-splice e place env used =
      let behind : Value → SpecPlan = λ v. spliced v place [] joined in
      subst (λ o. Same items other (eval (or_first (escaped_at items e)) env behind) (eval (or_first o) env behind))
      (same-escaped items other alike e)
      (same-eval items other (or_first (escaped_at items e)) env used behind behind
      (λ v. same-spliced items other v place [] joined joined (λ ts. refl)))

  same-for : (n name first limit : NodeId) (step : Option NodeId) (b : NodeId) (place : Place) (env : EnvId)
      → Each (HasSameUse items other) (first ∷ limit ∷ if_any step)
      → Same items other (statement_of items (tree.For name first limit step b) n place env)
      (statement_of other (tree.For name first limit step b) n place env)
  same-for n name first limit step b place env uses =
      let bounds : List NodeId = first ∷ limit ∷ if_any step in
      let one : SpecPlan = for_plan items n (escaped_at items name) (place_at items name) bounds b place env in
      subst (λ o. Same items other one (for_plan other n o (place_at other name) bounds b place env)) (same-escaped items other alike name)
      (subst (λ at. Same items other one (for_plan other n (escaped_at items name) at bounds b place env))
      (place_same items other alike name)
      (same-for-plan n (escaped_at items name) (place_at items name) bounds b place env (escape-use items other alike name) uses))

  same-statement-of : (x : TerraStatement) (n : NodeId) (place : Place) (env : EnvId)
      → Each (HasSameUse items other) (code_in_terra_statement x) → HasKinds items (kept.TerraStatement place x)
      → Same items other (statement_of items x n place env) (statement_of other x n place env)
  same-statement-of (tree.Assign targets es) n place env uses kinds =
      let ended : List TermId → List TermId → SpecPlan = λ ts us. join place (s.Assign ts us) in
      same-terms-of items other targets env [] (each_front (HasSameUse items other) targets es uses)
      (λ ts. terms_of es env [] (ended ts)) (λ ts. terms_of es env [] (ended ts))
      (λ ts. same-terms-of items other es env [] (each_behind (HasSameUse items other) targets es uses) (ended ts) (ended ts)
      (λ us. same-join items other place (s.Assign ts us)))
  same-statement-of (tree.Call e) n place env uses kinds =
      same-term items other e env uses.0 (λ t. join place (s.Perform t)) (λ t. join place (s.Perform t))
      (λ t. same-join items other place (s.Perform t))
  same-statement-of (tree.Splice e) n place env uses kinds = same-splice e place env (spliced-use items other alike e kinds)
  same-statement-of (tree.Do b) n place env uses kinds =
      same-inner-block b env (λ ts. join place (s.Do ts)) (λ ts. join place (s.Do ts)) (λ ts. same-join items other place (s.Do ts))
  same-statement-of (tree.While condition b) n place env uses kinds =
      let ended : TermId → List TermId → SpecPlan = λ t ts. join place (s.While t ts) in
      same-term items other condition env uses.0 (λ t. inner_block items b env (ended t)) (λ t. inner_block other b env (ended t))
      (λ t. same-inner-block b env (ended t) (ended t) (λ ts. same-join items other place (s.While t ts)))
  same-statement-of (tree.Repeat b condition) n place env uses kinds = same-repeat-plan n b condition place env uses.1.0
  same-statement-of (tree.If ns otherwise) n place env uses kinds =
      same-if-plan ns (each (λ c. is_arm (item_at items c)) ns kinds) otherwise place env
  same-statement-of (tree.For name first limit step b) n place env uses kinds =
      same-for n name first limit step b place env (
        uses.0,
        (
          uses.1.0,
          each-any (HasSameUse items other) step
              (each_front (HasSameUse items other) (option_to_list step) (b ∷ []) uses.1.1),
        ),
      )
  same-statement-of (tree.Var ns es) n place env uses kinds =
      same-var-plan ns es place env (each_behind (HasSameUse items other) ns es uses)
  same-statement-of (tree.Escape b) n place env uses kinds =
      same-emitted items other b env (λ vs. each_spliced vs place [] joined) (λ vs. each_spliced vs place [] joined)
      (λ vs. same-each-spliced items other vs place [] joined joined (λ ts. refl))
  same-statement-of (tree.Return es) n place env uses kinds =
      same-terms-of items other es env [] uses (λ ts. join place (s.Return ts)) (λ ts. join place (s.Return ts))
      (λ ts. same-join items other place (s.Return ts))
  same-statement-of tree.Break n place env uses kinds = same-join items other place s.Break

  same-item-plan : (a : Item) (n : NodeId) (env : EnvId) → Each (HasSameUse items other) (code_in a) → HasKinds items a
      → Same items other (statement_plan items a n env) (statement_plan other a n env)
  same-item-plan (kept.TerraStatement place x) n env uses kinds = same-statement-of x n place env uses kinds
  same-item-plan _ n env uses kinds = refl

  pub same-statement-plan : {a b : Item} → SameNode a b → (n : NodeId) (env : EnvId) → Each (HasSameUse items other) (code_in a)
      → HasKinds items a → Same items other (statement_plan items a n env) (statement_plan other b n env)
  same-statement-plan (SameName place i j text others) n env uses kinds = refl
  same-statement-plan (SameNumeral place text others symbol value) n env uses kinds = refl
  same-statement-plan (SameLiteral place text others value) n env uses kinds = refl
  same-statement-plan (SameItem item) n env uses kinds = same-item-plan item n env uses kinds
