-- Plans for statements are fine.
use Rattle.std.proofs.Common.{◌≡◌, ℕ, ◌+◌, true, List, [], ◌∷◌, ◌++◌, length, Option, Some, None, refl, ap, slice_get}
use Rattle.std.specs.Prelude.{◌||◌, nat_eq}
use Rattle.tl_base.specs.declared.ids.EnvId.{EnvId}
use Rattle.tl_base.specs.declared.ids.NodeId.{NodeId}
use Rattle.tl_base.specs.declared.ids.SymId.{SymId}
use Rattle.tl_base.specs.declared.ids.TermId.{TermId}
use Rattle.tl_base.specs.declared.ids.TypeId.{TypeId}
use Rattle.tl_base.specs.declared.place.Place.{Place}
use Rattle.tl_base.specs.Plan.{Read, Write}
use Rattle.tl_tree.specs.declared.node.TerraStatement.{TerraStatement}
use Rattle.tl_tree.specs.declared.node.TerraStatement.TheVariants as tree
use Rattle.tl_tree.specs.Item.{Item}
use Rattle.tl_tree.specs.Item as kept
use Rattle.tl_tree.specs.Nodes.{item_at}
use Rattle.lua_value.specs.declared.value.Value.{Value}
use Rattle.lua_value.specs.declared.value.Value.TheVariants as values
use Rattle.lua_table.specs.Heap.{table_at}
use Rattle.tl_tree.specs.Code.{Items, place_at, place_of, statements_at, arm_condition, arm_block, if_any}
use Rattle.terra_term.specs.declared.lists.VarName.{VarName}
use Rattle.terra_term.specs.declared.store.Quote.{Quote}
use Rattle.terra_term.specs.declared.store.Quote.TheVariants as quotes
use Rattle.terra_term.specs.declared.store.Symbol.{Symbol}
use Rattle.terra_term.specs.declared.term.Statement.TheVariants as s
use Rattle.terra_term.specs.declared.term.Term.TheVariants as terms
use Rattle.terra_term.specs.WellTyped.{is_placed}
use Rattle.exotype.specs.World.{StageState}
use Rattle.check_sound.specs.Sound.{IsSound, IsThereIfAny, NamesAreThere, AreStatements, AreStatementsIfAny}
use Rattle.check_sound.proofs.OfVars.{there-snoc}
use Rattle.spec_model.specs.Making.{next_symbol, with_symbol, symbol_type, type_of_symbol, quote_at}
use Rattle.spec_model.specs.declared.wanted.Wanted.{Wanted}
use Rattle.spec_model.specs.Nodes.{escaped_at, or_first, typing_at, Typing}
use Rattle.spec_model.specs.Plans.{SpecPlan, node, join, values_in, term, terms_of, each_term, block, entering, declaring}
use Rattle.spec_model.specs.Names.{symbols_of, symbol_of}
use Rattle.spec_model.specs.Types.{type_if_any}
use Rattle.spec_model.specs.Statements.{joined, performed, quoted, item_of, each_item, spliced, each_spliced, given, wanted_one, wanted}
use Rattle.spec_model.specs.Statements.{or_own, drawn_one, drawn, values_if_any, var_plan, inner_block, repeat_plan, Others, arm}
use Rattle.spec_model.specs.Statements.{else_block, else_of, if_plan, for_body, for_plan, statement_of, statement_plan}
use Rattle.spec_sound.specs.Sound.{ArePlaced}
use Rattle.spec_sound.proofs.Following.{Next, next-itself, next-twice, statements-still, any-still}
use Rattle.spec_sound.proofs.Running.{Fine}
use Rattle.spec_sound.proofs.Writing.{symbol-follows}
use Rattle.spec_sound.proofs.OfPlans.{WithStatements, fine-eval, fine-emitted, fine-statement, fine-join, fine-one, fine-term, fine-terms}
use Rattle.spec_sound.proofs.OfPlans.{fine-each-term, fine-block, fine-entering, fine-declaring, statements-append}
use Rattle.spec_sound.proofs.OfNames.{placed-at, fine-type-if-any, fine-symbols-of, fine-symbol-of}

-- ---- values as statements

fine-performed : (w : StageState) → IsSound w → (x : Value) (place : Place) (ts : List TermId)
    (go : List TermId → SpecPlan) → is_placed place ≡ true → AreStatements w ts → WithStatements w go →
    Fine (performed x place ts go) w
fine-performed w sound x place ts go placed are k =
    fine-one w sound x place (λ t. node (terms.Statement place (s.Perform t)) (λ u. go (ts ++ u ∷ []))) placed
    (λ t v f. fine-statement v f.sound place (s.Perform t) (λ u. go (ts ++ u ∷ [])) placed tt
    (λ u x g is.
    let h = next-twice w v x f g in
    k (ts ++ u ∷ []) x h (statements-append x ts (u ∷ []) (statements-still w x sound h ts are) is)))

fine-quoted : (w : StageState) → IsSound w → (i : ℕ) (o : Option Quote) → slice_get w.store.quotes i ≡ o → (x : Value)
    (place : Place) (ts : List TermId) (go : List TermId → SpecPlan) → is_placed place ≡ true → AreStatements w ts →
    WithStatements w go → Fine (quoted w o x place ts go) w
fine-quoted w sound i (Some (quotes.Statements us)) at x place ts go placed are k =
    k (ts ++ us) w (next-itself w sound)
    (statements-append w ts us are (sound.quotes i (quotes.Statements us) at))
fine-quoted w sound i o at x place ts go placed are k = fine-performed w sound x place ts go placed are k

fine-item : (w : StageState) → IsSound w → (x : Value) (place : Place) (ts : List TermId) (go : List TermId →
    SpecPlan) →
    is_placed place ≡ true → AreStatements w ts → WithStatements w go → Fine (item_of x place ts go) w
fine-item w sound (values.Quote q) place ts go placed are k =
    fine-quoted w sound q.0 (quote_at w q) refl (values.Quote q) place ts go placed are k
fine-item w sound x place ts go placed are k = fine-performed w sound x place ts go placed are k

fine-each-item : (w : StageState) → IsSound w → (xs : List Value) (place : Place) (ts : List TermId)
    (go : List TermId → SpecPlan) → is_placed place ≡ true → AreStatements w ts → WithStatements w go →
    Fine (each_item xs place ts go) w
fine-each-item w sound [] place ts go placed are k = k ts w (next-itself w sound) are
fine-each-item w sound (x ∷ xs) place ts go placed are k =
    fine-item w sound x place ts (λ us. each_item xs place us go) placed are
    (λ us v f so. fine-each-item v f.sound xs place us go placed so
    (λ ys u g more. k ys u (next-twice w v u f g) more))

fine-spliced : (w : StageState) → IsSound w → (x : Value) (place : Place) (ts : List TermId)
    (go : List TermId → SpecPlan) → is_placed place ≡ true → AreStatements w ts → WithStatements w go →
    Fine (spliced x place ts go) w
fine-spliced w sound (values.Table t) place ts go placed are k =
    fine-each-item w sound (values_in (table_at w.heap t)) place ts go placed are k
fine-spliced w sound x place ts go placed are k = fine-item w sound x place ts go placed are k

fine-each-spliced : (w : StageState) → IsSound w → (xs : List Value) (place : Place) (ts : List TermId)
    (go : List TermId → SpecPlan) → is_placed place ≡ true → AreStatements w ts → WithStatements w go →
    Fine (each_spliced xs place ts go) w
fine-each-spliced w sound [] place ts go placed are k = k ts w (next-itself w sound) are
fine-each-spliced w sound (x ∷ xs) place ts go placed are k =
    fine-spliced w sound x place ts (λ us. each_spliced xs place us go) placed are
    (λ us v f so. fine-each-spliced v f.sound xs place us go placed so
    (λ ys u g more. k ys u (next-twice w v u f g) more))

-- ---- `var`

-- the types that are wanted are there
abbrev AreWanted : StageState → List Wanted → Type 0
AreWanted w [] = Unit {0}
AreWanted w (x ∷ xs) = IsThereIfAny w x.of × AreWanted w xs

wanted-still : (w v : StageState) → IsSound w → Next w v → (xs : List Wanted) → AreWanted w xs → AreWanted v xs
wanted-still w v sound f [] h = tt
wanted-still w v sound f (x ∷ xs) h = (any-still w v sound f x.of h.0, wanted-still w v sound f xs h.1)

wanted-append : (w : StageState) (xs ys : List Wanted) → AreWanted w xs → AreWanted w ys → AreWanted w (xs ++ ys)
wanted-append w [] ys h k = k
wanted-append w (x ∷ xs) ys h k = (h.0, wanted-append w xs ys h.1 k)

given-wanted : (w : StageState) (xs : List SymId) (of : Option TypeId) (place : Place) → IsThereIfAny w of →
    AreWanted w (given xs of place)
given-wanted w [] of place h = tt
given-wanted w (x ∷ xs) of place h = (h, given-wanted w xs of place h)

abbrev WithWanted : StageState → (List Wanted → SpecPlan) → Type 0
WithWanted w go = (ws : List Wanted) (v : StageState) → Next w v → AreWanted v ws → Fine (go ws) v

fine-wanted-one : (w : StageState) → IsSound w → (items : Items) (x : Typing) (o : Option NodeId) (env : EnvId)
    (ws : List Wanted) (go : List Wanted → SpecPlan) → AreWanted w ws → WithWanted w go →
    Fine (wanted_one items x o env ws go) w
fine-wanted-one w sound items x (Some e) env ws go are k =
    let place = place_at items x.name in
    fine-eval w e env
    (λ y. symbols_of y place (λ xs. type_if_any items x.type env (λ of. go (ws ++ given xs of place))))
    (λ y v f. fine-symbols-of v f.sound y place (λ xs. type_if_any items x.type env (λ of. go
    (ws ++ given xs of place)))
    (λ xs. fine-type-if-any v f.sound items x.type env (λ of. go (ws ++ given xs of place))
    (λ of u g there.
    let h = next-twice w v u f g in
    k (ws ++ given xs of place) u h
    (wanted-append u ws (given xs of place) (wanted-still w u sound h ws are) (given-wanted u xs of place there)))))
fine-wanted-one w sound items x None env ws go are k =
    let place = place_at items x.name in
    fine-type-if-any w sound items x.type env (λ of. go (ws ++ record { symbol = None; of = of; place = place } ∷ []))
    (λ of v f there. k (ws ++ record { symbol = None; of = of; place = place } ∷ []) v f
    (wanted-append v ws (record { symbol = None; of = of; place = place } ∷ []) (wanted-still w v sound f ws are)
    (there, tt)))

fine-wanted : (w : StageState) → IsSound w → (items : Items) (ns : List NodeId) (env : EnvId) (ws : List Wanted)
    (go : List Wanted → SpecPlan) → AreWanted w ws → WithWanted w go → Fine (wanted items ns env ws go) w
fine-wanted w sound items [] env ws go are k = k ws w (next-itself w sound) are
fine-wanted w sound items (n ∷ ns) env ws go are k =
    fine-wanted-one w sound items (typing_at items n) (escaped_at items (typing_at items n).name) env ws
    (λ more. wanted items ns env more go) are
    (λ more v f so. fine-wanted v f.sound items ns env more go so
    (λ xs u g all. k xs u (next-twice w v u f g) all))

-- names with types that are there
abbrev WithNames : StageState → (List VarName → SpecPlan) → Type 0
WithNames w go = (names : List VarName) (v : StageState) → Next w v → NamesAreThere v names → Fine (go names) v

names-still : (w v : StageState) → IsSound w → Next w v → (ns : List VarName) → NamesAreThere w ns → NamesAreThere v ns
names-still w v sound f [] h = tt
names-still w v sound f (n ∷ ns) h = (any-still w v sound f n.of h.0, names-still w v sound f ns h.1)

-- the type of a symbol is there
pub symbol-there : (w : StageState) → IsSound w → (i : ℕ) (o : Option Symbol) → slice_get w.store.symbols i ≡ o →
    IsThereIfAny w (type_of_symbol o)
symbol-there w sound i None at = tt
symbol-there w sound i (Some x) at = sound.symbols i x at

own-there : (w : StageState) (o own : Option TypeId) → IsThereIfAny w o → IsThereIfAny w own →
    IsThereIfAny w (or_own o own)
own-there w (Some t) own h k = h
own-there w None own h k = k

fine-drawn-one : (w : StageState) → IsSound w → (x : Wanted) (o : Option SymId) (env : EnvId) (names : List VarName)
    (go : List VarName → SpecPlan) → IsThereIfAny w x.of → NamesAreThere w names → WithNames w go →
    Fine (drawn_one x o env names go) w
fine-drawn-one w sound x (Some y) env names go there are k =
    let name : VarName = record { symbol = y; of = or_own x.of (symbol_type w y); place = x.place } in
    k (names ++ name ∷ []) w (next-itself w sound)
    (there-snoc w names name are
    (own-there w x.of (symbol_type w y) there (symbol-there w sound y.0 (slice_get w.store.symbols y.0) refl)))
fine-drawn-one w sound x None env names go there are k =
    let name : VarName = record { symbol = next_symbol w; of = x.of; place = x.place } in
    let v = with_symbol w x.of in
    let f = symbol-follows w sound x.of there in (
      f,
      fine-declaring v f.sound env (values.Symbol (next_symbol w)) (go (names ++ name ∷ []))
          (λ u g.
          let h = next-twice w v u f g in
          k (names ++ name ∷ []) u h
          (there-snoc u names name (names-still w u sound h names are) (any-still w u sound h x.of there))),
    )

fine-drawn : (w : StageState) → IsSound w → (xs : List Wanted) (env : EnvId) (names : List VarName)
    (go : List VarName → SpecPlan) → AreWanted w xs → NamesAreThere w names → WithNames w go →
    Fine (drawn xs env names go) w
fine-drawn w sound [] env names go wanted are k = k names w (next-itself w sound) are
fine-drawn w sound (x ∷ xs) env names go wanted are k =
    fine-drawn-one w sound x x.symbol env names (λ more. drawn xs env more go) wanted.0 are
    (λ more v f so. fine-drawn v f.sound xs env more go (wanted-still w v sound f xs wanted.1) so
    (λ ns u g all. k ns u (next-twice w v u f g) all))

fine-values : (w : StageState) → IsSound w → (ns : List NodeId) (env : EnvId) (go : Option (List TermId) → SpecPlan) →
    ((o : Option (List TermId)) (v : StageState) → Next w v → Fine (go o) v) → Fine (values_if_any ns env go) w
fine-values w sound [] env go k = k None w (next-itself w sound)
fine-values w sound (n ∷ ns) env go k =
    fine-terms w sound (n ∷ ns) env [] (λ ts. go (Some ts)) (λ ts v f. k (Some ts) v f)

fine-var : (w : StageState) → IsSound w → (items : Items) (ns es : List NodeId) (place : Place) (env : EnvId) →
    is_placed place ≡ true → Fine (var_plan items ns es place env) w
fine-var w sound items ns es place env placed =
    fine-wanted w sound items ns env []
    (λ ws. values_if_any es env (λ values. drawn ws env [] (λ names. join place (s.Var names values)))) tt
    (λ ws v f wanted. fine-values v f.sound es env (λ values. drawn ws env [] (λ names. join place
    (s.Var names values)))
    (λ values u g. fine-drawn u g.sound ws env [] (λ names. join place (s.Var names values))
    (wanted-still v u f.sound g ws wanted) tt
    (λ names x i so. fine-join x i.sound place (s.Var names values) placed so)))

-- ---- blocks

fine-inner : (w : StageState) → IsSound w → (items : Items) (b : NodeId) (env : EnvId) (go : List TermId → SpecPlan) →
    WithStatements w go → Fine (inner_block items b env go) w
fine-inner w sound items b env go k =
    fine-entering w sound b env (λ inner. block (statements_at items b) inner [] go)
    (λ inner v f. fine-block v f.sound (statements_at items b) inner [] go tt
    (λ ts u g are. k ts u (next-twice w v u f g) are))

fine-repeat : (w : StageState) → IsSound w → (items : Items) (n b condition : NodeId) (place : Place) (env : EnvId) →
    is_placed place ≡ true → Fine (repeat_plan items n b condition place env) w
fine-repeat w sound items n b condition place env placed =
    fine-entering w sound n env
    (λ inner. block (statements_at items b) inner [] (λ ts. term condition inner (λ t. join place (s.Repeat ts t))))
    (λ inner v f. fine-block v f.sound (statements_at items b) inner []
    (λ ts. term condition inner (λ t. join place (s.Repeat ts t))) tt
    (λ ts u g are. fine-term u condition inner (λ t. join place (s.Repeat ts t))
    (λ t x i. fine-join x i.sound place (s.Repeat ts t) placed (statements-still u x g.sound i ts are))))

-- ---- `if`

-- statements, or none, behind which a plan goes on
abbrev WithOthers : StageState → (Option (List TermId) → SpecPlan) → Type 0
WithOthers w go = (o : Option (List TermId)) (v : StageState) → Next w v → AreStatementsIfAny v o → Fine (go o) v

abbrev FineOthers : Others → Type 0
FineOthers others = (w : StageState) → IsSound w → (go : Option (List TermId) → SpecPlan) → WithOthers w go →
    Fine (others go) w

abbrev WithStatement : StageState → (TermId → SpecPlan) → Type 0
WithStatement w go = (t : TermId) (v : StageState) → Next w v → AreStatements v (t ∷ []) → Fine (go t) v

fine-arm : (w : StageState) → IsSound w → (items : Items) (a : Item) (place : Place) (env : EnvId) (others : Others)
    (go : TermId → SpecPlan) → is_placed place ≡ true → FineOthers others → WithStatement w go →
    Fine (arm items a place env others go) w
fine-arm w sound items a place env others go placed fine k =
    fine-term w (arm_condition a) env
    (λ test. inner_block items (arm_block a) env (λ ts. others (λ us. node (terms.Statement place
    (s.If test ts us)) go)))
    (λ test v f. fine-inner v f.sound items (arm_block a) env
    (λ ts. others (λ us. node (terms.Statement place (s.If test ts us)) go))
    (λ ts u g are. fine u g.sound (λ us. node (terms.Statement place (s.If test ts us)) go)
    (λ us x i so. fine-statement x i.sound place (s.If test ts us) go placed
    (statements-still u x g.sound i ts are, so)
    (λ t y j is. k t y (next-twice w v y f (next-twice v u y g (next-twice u x y i j))) is))))

fine-else : (items : Items) (o : Option NodeId) (env : EnvId) → FineOthers (else_block items o env)
fine-else items (Some b) env w sound go k =
    fine-inner w sound items b env (λ ts. go (Some ts)) (λ ts v f are. k (Some ts) v f are)
fine-else items None env w sound go k = k None w (next-itself w sound) tt

fine-else-of : (items : Items) → ArePlaced items → (ns : List NodeId) (o : Option NodeId) (env : EnvId) →
    FineOthers (else_of items ns o env)
fine-else-of items all [] o env w sound go k = fine-else items o env w sound go k
fine-else-of items all (n ∷ ns) o env w sound go k =
    fine-arm w sound items (item_at items n) (place_at items (arm_condition (item_at items n))) env
    (λ next. else_of items ns o env next) (λ t. go (Some (t ∷ [])))
    (placed-at items all (arm_condition (item_at items n))) (fine-else-of items all ns o env)
    (λ t v f is. k (Some (t ∷ [])) v f is)

fine-if-plan : (w : StageState) → IsSound w → (items : Items) → ArePlaced items → (ns : List NodeId) (o : Option NodeId)
    (place : Place) (env : EnvId) → is_placed place ≡ true → Fine (if_plan items ns o place env) w
fine-if-plan w sound items all [] o place env placed = tt
fine-if-plan w sound items all (n ∷ ns) o place env placed =
    fine-arm w sound items (item_at items n) place env (λ next. else_of items ns o env next) (λ t. joined
    (t ∷ [])) placed
    (fine-else-of items all ns o env) (λ t v f is. is)

-- ---- `for`

-- a `for` has two bounds, or three
abbrev HasBounds : List TermId → Type 0
HasBounds ts = (nat_eq (length ts) 2 || nat_eq (length ts) 3) ≡ true

fine-for-body : (w : StageState) → IsSound w → (items : Items) (n b : NodeId) (x : SymId) (place : Place)
    (bounds : List TermId) (at : Place) (inner : EnvId) → is_placed at ≡ true → HasBounds bounds →
    Fine (for_body items n b x place bounds at inner) w
fine-for-body w sound items n b x place bounds at inner placed two =
    fine-block w sound (statements_at items b) inner []
    (λ ts. join at (s.For (record { symbol = x; of = None; place = place }) bounds ts)) tt
    (λ ts v f are. fine-join v f.sound at (s.For (record { symbol = x; of = None; place = place }) bounds ts) placed
    (two, are))

has-bounds : (ts : List TermId) (first limit : NodeId) (step : Option NodeId) →
    length ts ≡ length {A = TermId} [] + length (first ∷ limit ∷ if_any step) → HasBounds ts
has-bounds ts first limit None count = ap (λ n. nat_eq n 2 || nat_eq n 3) count
has-bounds ts first limit (Some n) count = ap (λ n. nat_eq n 2 || nat_eq n 3) count

fine-for : (w : StageState) → IsSound w → (items : Items) (n : NodeId) (o : Option NodeId) (at : Place)
    (first limit : NodeId) (step : Option NodeId) (b : NodeId) (place : Place) (env : EnvId) → is_placed place ≡ true →
    Fine (for_plan items n o at (first ∷ limit ∷ if_any step) b place env) w
fine-for w sound items n (Some e) at first limit step b place env placed =
    let ns = first ∷ limit ∷ if_any step in
    fine-eval w e env
    (λ v. symbol_of v at
    (λ x. each_term ns env [] (λ ts. entering n env (λ inner. for_body items n b x at ts place inner))))
    (λ y v f. fine-symbol-of v f.sound y at
    (λ x. each_term ns env [] (λ ts. entering n env (λ inner. for_body items n b x at ts place inner)))
    (λ x. fine-each-term v f.sound ns env [] (λ ts. entering n env (λ inner. for_body items n b x at ts place inner))
    (λ ts u g count. fine-entering u g.sound n env (λ inner. for_body items n b x at ts place inner)
    (λ inner z i. fine-for-body z i.sound items n b x at ts place inner placed
    (has-bounds ts first limit step count)))))
fine-for w sound items n None at first limit step b place env placed =
    let ns = first ∷ limit ∷ if_any step in
    fine-each-term w sound ns env []
    (λ ts. Read (λ w. Write (with_symbol w None) (entering n env (λ inner.
    declaring inner (values.Symbol (next_symbol w)) (for_body items n b (next_symbol w) at ts place inner)))))
    (λ ts v f count.
    let x = next_symbol v in
    let g = symbol-follows v f.sound None tt in (
      g,
      fine-entering (with_symbol v None) g.sound n env
          (λ inner. declaring inner (values.Symbol x) (for_body items n b x at ts place inner))
          (λ inner u i. fine-declaring u i.sound inner (values.Symbol x) (for_body items n b x at ts place inner)
          (λ z j. fine-for-body z j.sound items n b x at ts place inner placed (has-bounds ts first limit step count))),
    ))

-- ---- statements

fine-statement-of : (w : StageState) → IsSound w → (items : Items) → ArePlaced items → (x : TerraStatement) (n : NodeId)
    (place : Place) (env : EnvId) → is_placed place ≡ true → Fine (statement_of items x n place env) w
fine-statement-of w sound items all (tree.Assign targets es) n place env placed =
    fine-terms w sound targets env [] (λ ts. terms_of es env [] (λ us. join place (s.Assign ts us)))
    (λ ts v f. fine-terms v f.sound es env [] (λ us. join place (s.Assign ts us))
    (λ us u g. fine-join u g.sound place (s.Assign ts us) placed tt))
fine-statement-of w sound items all (tree.Call e) n place env placed =
    fine-term w e env (λ t. join place (s.Perform t)) (λ t v f. fine-join v f.sound place (s.Perform t) placed tt)
fine-statement-of w sound items all (tree.Splice e) n place env placed =
    fine-eval w (or_first (escaped_at items e)) env (λ v. spliced v place [] joined)
    (λ x v f. fine-spliced v f.sound x place [] joined placed tt (λ ts u g are. are))
fine-statement-of w sound items all (tree.Do b) n place env placed =
    fine-inner w sound items b env (λ ts. join place (s.Do ts))
    (λ ts v f are. fine-join v f.sound place (s.Do ts) placed are)
fine-statement-of w sound items all (tree.While condition b) n place env placed =
    fine-term w condition env (λ t. inner_block items b env (λ ts. join place (s.While t ts)))
    (λ t v f. fine-inner v f.sound items b env (λ ts. join place (s.While t ts))
    (λ ts u g are. fine-join u g.sound place (s.While t ts) placed are))
fine-statement-of w sound items all (tree.Repeat b condition) n place env placed =
    fine-repeat w sound items n b condition place env placed
fine-statement-of w sound items all (tree.If ns otherwise) n place env placed =
    fine-if-plan w sound items all ns otherwise place env placed
fine-statement-of w sound items all (tree.For name first limit step b) n place env placed =
    fine-for w sound items n (escaped_at items name) (place_at items name) first limit step b place env placed
fine-statement-of w sound items all (tree.Var ns es) n place env placed = fine-var w sound items ns es place env placed
fine-statement-of w sound items all (tree.Escape b) n place env placed =
    fine-emitted w b env (λ vs. each_spliced vs place [] joined)
    (λ xs v f. fine-each-spliced v f.sound xs place [] joined placed tt (λ ts u g are. are))
fine-statement-of w sound items all (tree.Return es) n place env placed =
    fine-terms w sound es env [] (λ ts. join place (s.Return ts))
    (λ ts v f. fine-join v f.sound place (s.Return ts) placed tt)
fine-statement-of w sound items all tree.Break n place env placed = fine-join w sound place s.Break placed tt

pub fine-statement-plan : (w : StageState) → IsSound w → (items : Items) → ArePlaced items → (x : Item) (n : NodeId)
    (env : EnvId) → is_placed (place_of x) ≡ true → Fine (statement_plan items x n env) w
fine-statement-plan w sound items all (kept.TerraStatement place x) n env placed =
    fine-statement-of w sound items all x n place env placed
fine-statement-plan w sound items all x n env placed = tt
