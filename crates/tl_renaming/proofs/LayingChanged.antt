-- The nodes of a tree whose names are changed are the nodes of the tree with their names changed, and the names of the nodes are those of the
-- tree, in order.
use Rattle.std.proofs.Common.{◌≡◌, ℕ, pred, List, [], ◌∷◌, ◌++◌, map, Option, refl, sym, ap, ◌∙◌, append_assoc, append-nil}
use Rattle.std.proofs.lemmas.List.{map-append, length-map}
use Rattle.tl_base.specs.declared.ids.NodeId.{NodeId}
use Rattle.tl_tree.specs.declared.node.Expression.TheVariants as expressions
use Rattle.tl_tree.specs.declared.node.Statement.TheVariants as statements
use Rattle.tl_tree.specs.declared.node.TerraExpression.TheVariants as terra_expressions
use Rattle.tl_tree.specs.declared.node.TerraStatement.TheVariants as terra_statements
use Rattle.tl_tree.specs.declared.node.Piece.TheVariants as pieces
use Rattle.tl_tree.specs.Item.{Item}
use Rattle.tl_tree.specs.Item as kept
use Rattle.tl_tree.specs.Tree.{Tree}
use Rattle.tl_tree.specs.Tree as t
use Rattle.tl_tree.specs.Nodes.{Laid, added, lay, node, last, last_of, if_any}
use Rattle.tl_renaming.proofs.Changed.{Change, Named, named, changed, names_in}

abbrev pub changed_item : Change → Item → Item
changed_item c (kept.Name place offset text) = kept.Name place (c.offset offset) (c.text offset text)
changed_item c item = item

abbrev pub changed_items : Change → List Item → List Item
changed_items c items = map (changed_item c) items

abbrev pub named_item : Item → List Named
named_item (kept.Name place offset text) = named offset text ∷ []
named_item _ = []

abbrev pub named_items : List Item → List Named
named_items [] = []
named_items (item ∷ items) = named_item item ++ named_items items

pub named_items-append : (xs ys : List Item) → named_items (xs ++ ys) ≡ named_items xs ++ named_items ys
named_items-append [] ys = refl
named_items-append (x ∷ xs) ys =
    ap (λ (l : List Named). named_item x ++ l) (named_items-append xs ys) ∙ sym (append_assoc (named_item x) (named_items xs) (named_items ys))

abbrev relaid : Change → Laid → Laid
relaid c x = record { items = changed_items c x.items; numbers = x.numbers }

record Lays (c : Change) (a : Tree) : Type 0 where
  again : (items : List Item) → added (changed c a) (changed_items c items) ≡ relaid c (added a items)
  names : (items : List Item) → named_items (added a items).items ≡ named_items items ++ names_in a

-- the number if there is one
abbrev first : List NodeId → Option NodeId
first ns = if_any (record { items = []; numbers = ns })

last_same : (c : Change) (items : List Item) → last_of (changed_items c items) ≡ last_of items
last_same c items = ap (λ (n : ℕ). record { 0 = pred n }) (length-map items (changed_item c))

node_again : (c : Change) (items : List Item) (item : Item) → node (changed_items c items) (changed_item c item) ≡ relaid c (node items item)
node_again c items item = ap (λ (l : List Item). record { items = l; numbers = [] }) (sym (map-append (changed_item c) items (item ∷ [])))

node_names : (items : List Item) (item : Item) → named_items (node items item).items ≡ named_items items ++ named_item item
node_names items item = named_items-append items (item ∷ []) ∙ ap (λ (l : List Named). named_items items ++ l) (append-nil (named_item item))

node_plain : (items : List Item) (item : Item) → named_item item ≡ [] → named_items (node items item).items ≡ named_items items
node_plain items item e = node_names items item ∙ ap (λ (l : List Named). named_items items ++ l) e ∙ append-nil (named_items items)

-- ---- nodes by the number of places in them

leaf : (c : Change) (a : Tree) (item : Item) → ((items : List Item) → added a items ≡ node items item) → changed c a ≡ a → names_in a ≡ []
    → changed_item c item ≡ item → named_item item ≡ [] → Lays c a
leaf c a item is same none item_same item_none = record {
  again = λ items. ap (λ (b : Tree). added b (changed_items c items)) same ∙ is (changed_items c items)
      ∙ ap (λ (i : Item). node (changed_items c items) i) (sym item_same) ∙ node_again c items item ∙ ap (relaid c) (sym (is items));
  names = λ items. ap (λ (x : Laid). named_items x.items) (is items) ∙ node_plain items item item_none
      ∙ sym (append-nil (named_items items)) ∙ ap (λ (l : List Named). named_items items ++ l) (sym none);
}

-- one more node behind nodes that were laid
abbrev put1 : (NodeId → List NodeId → Item) → Laid → Laid
put1 F x = node x.items (F (last x) x.numbers)

put1_again : (c : Change) (F : NodeId → List NodeId → Item) → ((n : NodeId) (ns : List NodeId) → changed_item c (F n ns) ≡ F n ns)
    → (x x' : Laid) → x' ≡ relaid c x → put1 F x' ≡ relaid c (put1 F x)
put1_again c F ok x x' e =
    ap (put1 F) e
    ∙ ap (λ (n : NodeId). node (changed_items c x.items) (F n x.numbers)) (last_same c x.items)
    ∙ ap (λ (i : Item). node (changed_items c x.items) i) (sym (ok (last x) x.numbers))
    ∙ node_again c x.items (F (last x) x.numbers)

module _ (c : Change) (make : Tree → Tree) (F : NodeId → List NodeId → Item)
    (is : (a : Tree) (items : List Item) → added (make a) items ≡ put1 F (added a items))
    (change : (a : Tree) → changed c (make a) ≡ make (changed c a)) (has : (a : Tree) → names_in (make a) ≡ names_in a)
    (ok : (n : NodeId) (ns : List NodeId) → changed_item c (F n ns) ≡ F n ns)
    (none : (n : NodeId) (ns : List NodeId) → named_item (F n ns) ≡ []) where
  one : {a : Tree} → Lays c a → Lays c (make a)
  one {a} p = record {
    again = λ items.
        let x = added a items in
        ap (λ (b : Tree). added b (changed_items c items)) (change a) ∙ is (changed c a) (changed_items c items)
        ∙ put1_again c F ok x (added (changed c a) (changed_items c items)) (p.again items) ∙ ap (relaid c) (sym (is a items));
    names = λ items.
        let x = added a items in
        ap (λ (x : Laid). named_items x.items) (is a items) ∙ node_plain x.items (F (last x) x.numbers) (none (last x) x.numbers)
        ∙ p.names items ∙ ap (λ (l : List Named). named_items items ++ l) (sym (has a));
  }

abbrev put2 : (NodeId → List NodeId → NodeId → List NodeId → Item) → Laid → Laid → Laid
put2 F x y = node y.items (F (last x) x.numbers (last y) y.numbers)

module _ (c : Change) (make : Tree → Tree → Tree) (F : NodeId → List NodeId → NodeId → List NodeId → Item)
    (is : (a b : Tree) (items : List Item) → added (make a b) items ≡ put2 F (added a items) (added b (added a items).items))
    (change : (a b : Tree) → changed c (make a b) ≡ make (changed c a) (changed c b))
    (has : (a b : Tree) → names_in (make a b) ≡ names_in a ++ names_in b)
    (ok : (n : NodeId) (ns : List NodeId) (m : NodeId) (ms : List NodeId) → changed_item c (F n ns m ms) ≡ F n ns m ms)
    (none : (n : NodeId) (ns : List NodeId) (m : NodeId) (ms : List NodeId) → named_item (F n ns m ms) ≡ []) where
  two : {a b : Tree} → Lays c a → Lays c b → Lays c (make a b)
  two {a} {b} p q = record {
    again = λ items.
        let x = added a items in
        let y = added b x.items in
        ap (λ (b : Tree). added b (changed_items c items)) (change a b) ∙ is (changed c a) (changed c b) (changed_items c items)
        ∙ ap (λ (z : Laid). put2 F z (added (changed c b) z.items)) (p.again items)
        ∙ ap (λ (n : NodeId). put2 (λ k ks m ms. F n x.numbers m ms) x (added (changed c b) (changed_items c x.items))) (last_same c x.items)
        ∙ put1_again c (F (last x) x.numbers) (ok (last x) x.numbers) y (added (changed c b) (changed_items c x.items)) (q.again x.items)
        ∙ ap (relaid c) (sym (is a b items));
    names = λ items.
        let x = added a items in
        let y = added b x.items in
        ap (λ (x : Laid). named_items x.items) (is a b items)
        ∙ node_plain y.items (F (last x) x.numbers (last y) y.numbers) (none (last x) x.numbers (last y) y.numbers)
        ∙ q.names x.items ∙ ap (λ (l : List Named). l ++ names_in b) (p.names items)
        ∙ append_assoc (named_items items) (names_in a) (names_in b) ∙ ap (λ (l : List Named). named_items items ++ l) (sym (has a b));
  }

-- three: the first two are laid one behind the other
abbrev put3 : (NodeId → List NodeId → NodeId → List NodeId → NodeId → List NodeId → Item) → Laid → Laid → Laid → Laid
put3 F x y z = node z.items (F (last x) x.numbers (last y) y.numbers (last z) z.numbers)

put3_again : (c : Change) (F : NodeId → List NodeId → NodeId → List NodeId → NodeId → List NodeId → Item) (b d : Tree) → Lays c b → Lays c d
    → ((n : NodeId) (ns : List NodeId) (m : NodeId) (ms : List NodeId) (k : NodeId) (ks : List NodeId)
    → changed_item c (F n ns m ms k ks) ≡ F n ns m ms k ks) → (x x' : Laid) → x' ≡ relaid c x
    → put3 F x' (added (changed c b) x'.items) (added (changed c d) (added (changed c b) x'.items).items)
    ≡ relaid c (put3 F x (added b x.items) (added d (added b x.items).items))
put3_again c F b d q r ok x x' e =
    let y = added b x.items in
    let z = added d y.items in
    ap (λ (w : Laid). put3 F w (added (changed c b) w.items) (added (changed c d) (added (changed c b) w.items).items)) e
    ∙ ap (λ (n : NodeId). put3 (λ i is m ms k ks. F n x.numbers m ms k ks) x (added (changed c b) (changed_items c x.items))
    (added (changed c d) (added (changed c b) (changed_items c x.items)).items)) (last_same c x.items)
    ∙ ap (λ (w : Laid). put3 (λ i is m ms k ks. F (last x) x.numbers m ms k ks) x w (added (changed c d) w.items)) (q.again x.items)
    ∙ ap (λ (m : NodeId). put3 (λ i is j js k ks. F (last x) x.numbers m y.numbers k ks) x y (added (changed c d) (changed_items c y.items)))
    (last_same c y.items)
    ∙ put1_again c (F (last x) x.numbers (last y) y.numbers) (ok (last x) x.numbers (last y) y.numbers) z
    (added (changed c d) (changed_items c y.items)) (r.again y.items)

module _ (c : Change) (make : Tree → Tree → Tree → Tree)
    (F : NodeId → List NodeId → NodeId → List NodeId → NodeId → List NodeId → Item)
    (is : (a b d : Tree) (items : List Item) → added (make a b d) items
    ≡ put3 F (added a items) (added b (added a items).items) (added d (added b (added a items).items).items))
    (change : (a b d : Tree) → changed c (make a b d) ≡ make (changed c a) (changed c b) (changed c d))
    (has : (a b d : Tree) → names_in (make a b d) ≡ (names_in a ++ names_in b) ++ names_in d)
    (ok : (n : NodeId) (ns : List NodeId) (m : NodeId) (ms : List NodeId) (k : NodeId) (ks : List NodeId)
    → changed_item c (F n ns m ms k ks) ≡ F n ns m ms k ks)
    (none : (n : NodeId) (ns : List NodeId) (m : NodeId) (ms : List NodeId) (k : NodeId) (ks : List NodeId)
    → named_item (F n ns m ms k ks) ≡ []) where
  three : {a b d : Tree} → Lays c a → Lays c b → Lays c d → Lays c (make a b d)
  three {a} {b} {d} p q r = record {
    again = λ items.
        let x = added a items in
        ap (λ (b : Tree). added b (changed_items c items)) (change a b d) ∙ is (changed c a) (changed c b) (changed c d) (changed_items c items)
        ∙ put3_again c F b d q r ok x (added (changed c a) (changed_items c items)) (p.again items)
        ∙ ap (relaid c) (sym (is a b d items));
    names = λ items.
        let x = added a items in
        let y = added b x.items in
        let z = added d y.items in
        ap (λ (x : Laid). named_items x.items) (is a b d items)
        ∙ node_plain z.items (F (last x) x.numbers (last y) y.numbers (last z) z.numbers) (none (last x) x.numbers (last y) y.numbers (last z) z.numbers)
        ∙ r.names y.items ∙ ap (λ (l : List Named). l ++ names_in d) (q.names x.items)
        ∙ ap (λ (l : List Named). (l ++ names_in b) ++ names_in d) (p.names items)
        ∙ ap (λ (l : List Named). l ++ names_in d) (append_assoc (named_items items) (names_in a) (names_in b))
        ∙ append_assoc (named_items items) (names_in a ++ names_in b) (names_in d)
        ∙ ap (λ (l : List Named). named_items items ++ l) (sym (has a b d));
  }

abbrev put5 : (NodeId → List NodeId → NodeId → List NodeId → NodeId → List NodeId → NodeId → List NodeId → NodeId → List NodeId → Item)
    → Laid → Laid → Laid → Laid → Laid → Laid
put5 F x y z u v = node v.items (F (last x) x.numbers (last y) y.numbers (last z) z.numbers (last u) u.numbers (last v) v.numbers)

module _ (c : Change) (make : Tree → Tree → Tree → Tree → Tree → Tree)
    (F : NodeId → List NodeId → NodeId → List NodeId → NodeId → List NodeId → NodeId → List NodeId → NodeId → List NodeId → Item)
    (is : (a b d e f : Tree) (items : List Item) → added (make a b d e f) items
    ≡ (let x = added a items in let y = added b x.items in let z = added d y.items in let u = added e z.items in
    put5 F x y z u (added f u.items)))
    (change : (a b d e f : Tree) → changed c (make a b d e f) ≡ make (changed c a) (changed c b) (changed c d) (changed c e) (changed c f))
    (has : (a b d e f : Tree) → names_in (make a b d e f)
    ≡ (((names_in a ++ names_in b) ++ names_in d) ++ names_in e) ++ names_in f)
    (ok : (n : NodeId) (ns : List NodeId) (m : NodeId) (ms : List NodeId) (k : NodeId) (ks : List NodeId) (l : NodeId) (ls : List NodeId)
    (i : NodeId) (js : List NodeId) → changed_item c (F n ns m ms k ks l ls i js) ≡ F n ns m ms k ks l ls i js)
    (none : (n : NodeId) (ns : List NodeId) (m : NodeId) (ms : List NodeId) (k : NodeId) (ks : List NodeId) (l : NodeId) (ls : List NodeId)
    (i : NodeId) (js : List NodeId) → named_item (F n ns m ms k ks l ls i js) ≡ []) where
  five : {a b d e f : Tree} → Lays c a → Lays c b → Lays c d → Lays c e → Lays c f → Lays c (make a b d e f)
  five {a} {b} {d} {e} {f} p q r s w = record {
    again = λ items.
        let x = added a items in
        let y = added b x.items in
        let z = added d y.items in
        let b' = changed c b in
        let d' = changed c d in
        let e' = changed c e in
        let f' = changed c f in
        ap (λ (b : Tree). added b (changed_items c items)) (change a b d e f) ∙ is (changed c a) b' d' e' f' (changed_items c items)
        ∙ ap (λ (x : Laid). let y = added b' x.items in let z = added d' y.items in let u = added e' z.items in put5 F x y z u (added f' u.items))
        (p.again items)
        ∙ ap (λ (n : NodeId). let y = added b' (changed_items c x.items) in let z = added d' y.items in let u = added e' z.items in
        put5 (λ h hs m ms k ks l ls i js. F n x.numbers m ms k ks l ls i js) x y z u (added f' u.items)) (last_same c x.items)
        ∙ ap (λ (y : Laid). let z = added d' y.items in let u = added e' z.items in
        put5 (λ h hs m ms k ks l ls i js. F (last x) x.numbers m ms k ks l ls i js) x y z u (added f' u.items)) (q.again x.items)
        ∙ ap (λ (m : NodeId). let z = added d' (changed_items c y.items) in let u = added e' z.items in
        put5 (λ h hs g gs k ks l ls i js. F (last x) x.numbers m y.numbers k ks l ls i js) x y z u (added f' u.items)) (last_same c y.items)
        ∙ put3_again c (F (last x) x.numbers (last y) y.numbers) e f s w (ok (last x) x.numbers (last y) y.numbers) z
        (added d' (changed_items c y.items)) (r.again y.items)
        ∙ ap (relaid c) (sym (is a b d e f items));
    names = λ items.
        let x = added a items in
        let y = added b x.items in
        let z = added d y.items in
        let u = added e z.items in
        let v = added f u.items in
        let start = named_items items in
        let na = names_in a in
        let nb = names_in b in
        let nd = names_in d in
        let ne = names_in e in
        let nf = names_in f in
        ap (λ (x : Laid). named_items x.items) (is a b d e f items)
        ∙ node_plain v.items (F (last x) x.numbers (last y) y.numbers (last z) z.numbers (last u) u.numbers (last v) v.numbers)
        (none (last x) x.numbers (last y) y.numbers (last z) z.numbers (last u) u.numbers (last v) v.numbers)
        ∙ w.names u.items ∙ ap (λ (l : List Named). l ++ nf) (s.names z.items)
        ∙ ap (λ (l : List Named). (l ++ ne) ++ nf) (r.names y.items)
        ∙ ap (λ (l : List Named). ((l ++ nd) ++ ne) ++ nf) (q.names x.items)
        ∙ ap (λ (l : List Named). (((l ++ nb) ++ nd) ++ ne) ++ nf) (p.names items)
        ∙ ap (λ (l : List Named). ((l ++ nd) ++ ne) ++ nf) (append_assoc start na nb)
        ∙ ap (λ (l : List Named). (l ++ ne) ++ nf) (append_assoc start (na ++ nb) nd)
        ∙ ap (λ (l : List Named). l ++ nf) (append_assoc start ((na ++ nb) ++ nd) ne)
        ∙ append_assoc start (((na ++ nb) ++ nd) ++ ne) nf
        ∙ ap (λ (l : List Named). start ++ l) (sym (has a b d e f));
  }

-- ---- lists, and names

more : (c : Change) {a b : Tree} → Lays c a → Lays c b → Lays c (t.More a b)
more c {a} {b} p q = record {
  again = λ items.
      let x = added a items in
      let y = added b x.items in
      let b' = changed c b in
      ap (λ (x : Laid). record { items = (added b' x.items).items; numbers = x.numbers ++ last (added b' x.items) ∷ [] }) (p.again items)
      ∙ ap (λ (y : Laid). record { items = y.items; numbers = x.numbers ++ last y ∷ [] }) (q.again x.items)
      ∙ ap (λ (n : NodeId). record { items = changed_items c y.items; numbers = x.numbers ++ n ∷ [] }) (last_same c y.items);
  names = λ items.
      let x = added a items in
      q.names x.items ∙ ap (λ (l : List Named). l ++ names_in b) (p.names items) ∙ append_assoc (named_items items) (names_in a) (names_in b);
}

just : (c : Change) {a : Tree} → Lays c a → Lays c (t.Just a)
just c {a} p = record {
  again = λ items.
      let x = added a items in
      ap (λ (x : Laid). record { items = x.items; numbers = last x ∷ [] }) (p.again items)
      ∙ ap (λ (n : NodeId). record { items = changed_items c x.items; numbers = n ∷ [] }) (last_same c x.items);
  names = p.names;
}

lays : (c : Change) (a : Tree) → Lays c a
lays c t.Nothing = record { again = λ items. refl; names = λ items. sym (append-nil (named_items items)) }
lays c (t.More a b) = more c (lays c a) (lays c b)
lays c (t.Just a) = just c (lays c a)
lays c (t.Name place offset text) = record {
  again = λ items. node_again c items (kept.Name place offset text);
  names = λ items. node_names items (kept.Name place offset text);
}
lays c (t.Numeral place text) = leaf c (t.Numeral place text) (kept.Numeral place text) (λ items. refl) refl refl refl refl
lays c (t.Literal place text) = leaf c (t.Literal place text) (kept.Literal place text) (λ items. refl) refl refl refl refl
lays c (t.Nil place) = leaf c (t.Nil place) (kept.Expression place expressions.Nil) (λ items. refl) refl refl refl refl
lays c (t.False place) = leaf c (t.False place) (kept.Expression place expressions.False) (λ items. refl) refl refl refl refl
lays c (t.True place) = leaf c (t.True place) (kept.Expression place expressions.True) (λ items. refl) refl refl refl refl
lays c (t.Varargs place) = leaf c (t.Varargs place) (kept.Expression place expressions.Varargs) (λ items. refl) refl refl refl refl
lays c (t.Function place a) =
    one c (t.Function place) (λ n ns. kept.Expression place (expressions.Function n))
    (λ a items. refl) (λ a. refl) (λ a. refl) (λ n ns. refl) (λ n ns. refl) (lays c a)
lays c (t.Table place a) =
    one c (t.Table place) (λ n ns. kept.Expression place (expressions.Table ns))
    (λ a items. refl) (λ a. refl) (λ a. refl) (λ n ns. refl) (λ n ns. refl) (lays c a)
lays c (t.Binary place op a b) =
    two c (t.Binary place op) (λ n ns m ms. kept.Expression place (expressions.Binary op n m))
    (λ a b items. refl) (λ a b. refl) (λ a b. refl) (λ n ns m ms. refl) (λ n ns m ms. refl) (lays c a) (lays c b)
lays c (t.Unary place op a) =
    one c (t.Unary place op) (λ n ns. kept.Expression place (expressions.Unary op n))
    (λ a items. refl) (λ a. refl) (λ a. refl) (λ n ns. refl) (λ n ns. refl) (lays c a)
lays c (t.Paren place a) =
    one c (t.Paren place) (λ n ns. kept.Expression place (expressions.Paren n))
    (λ a items. refl) (λ a. refl) (λ a. refl) (λ n ns. refl) (λ n ns. refl) (lays c a)
lays c (t.Index place a b) =
    two c (t.Index place) (λ n ns m ms. kept.Expression place (expressions.Index n m))
    (λ a b items. refl) (λ a b. refl) (λ a b. refl) (λ n ns m ms. refl) (λ n ns m ms. refl) (lays c a) (lays c b)
lays c (t.Select place a b) =
    two c (t.Select place) (λ n ns m ms. kept.Expression place (expressions.Select n m))
    (λ a b items. refl) (λ a b. refl) (λ a b. refl) (λ n ns m ms. refl) (λ n ns m ms. refl) (lays c a) (lays c b)
lays c (t.Call place a b) =
    two c (t.Call place) (λ n ns m ms. kept.Expression place (expressions.Call n ms))
    (λ a b items. refl) (λ a b. refl) (λ a b. refl) (λ n ns m ms. refl) (λ n ns m ms. refl) (lays c a) (lays c b)
lays c (t.Method place a b d) =
    three c (t.Method place) (λ n ns m ms k ks. kept.Expression place (expressions.Method n m ks))
    (λ a b d items. refl) (λ a b d. refl) (λ a b d. refl) (λ n ns m ms k ks. refl) (λ n ns m ms k ks. refl) (lays c a) (lays c b) (lays c d)
lays c (t.TerraFunction place a) =
    one c (t.TerraFunction place) (λ n ns. kept.Expression place (expressions.Terra n))
    (λ a items. refl) (λ a. refl) (λ a. refl) (λ n ns. refl) (λ n ns. refl) (lays c a)
lays c (t.Struct place a) =
    one c (t.Struct place) (λ n ns. kept.Expression place (expressions.Struct ns))
    (λ a items. refl) (λ a. refl) (λ a. refl) (λ n ns. refl) (λ n ns. refl) (lays c a)
lays c (t.Quote place a) =
    one c (t.Quote place) (λ n ns. kept.Expression place (expressions.Quote n))
    (λ a items. refl) (λ a. refl) (λ a. refl) (λ n ns. refl) (λ n ns. refl) (lays c a)
lays c (t.Backtick place a) =
    one c (t.Backtick place) (λ n ns. kept.Expression place (expressions.Backtick n))
    (λ a items. refl) (λ a. refl) (λ a. refl) (λ n ns. refl) (λ n ns. refl) (lays c a)
lays c (t.Assign place a b) =
    two c (t.Assign place) (λ n ns m ms. kept.Statement place (statements.Assign ns ms))
    (λ a b items. refl) (λ a b. refl) (λ a b. refl) (λ n ns m ms. refl) (λ n ns m ms. refl) (lays c a) (lays c b)
lays c (t.CallStatement place a) =
    one c (t.CallStatement place) (λ n ns. kept.Statement place (statements.Call n))
    (λ a items. refl) (λ a. refl) (λ a. refl) (λ n ns. refl) (λ n ns. refl) (lays c a)
lays c (t.Do place a) =
    one c (t.Do place) (λ n ns. kept.Statement place (statements.Do n))
    (λ a items. refl) (λ a. refl) (λ a. refl) (λ n ns. refl) (λ n ns. refl) (lays c a)
lays c (t.While place a b) =
    two c (t.While place) (λ n ns m ms. kept.Statement place (statements.While n m))
    (λ a b items. refl) (λ a b. refl) (λ a b. refl) (λ n ns m ms. refl) (λ n ns m ms. refl) (lays c a) (lays c b)
lays c (t.Repeat place a b) =
    two c (t.Repeat place) (λ n ns m ms. kept.Statement place (statements.Repeat n m))
    (λ a b items. refl) (λ a b. refl) (λ a b. refl) (λ n ns m ms. refl) (λ n ns m ms. refl) (lays c a) (lays c b)
lays c (t.If place a b) =
    two c (t.If place) (λ n ns m ms. kept.Statement place (statements.If ns (first ms)))
    (λ a b items. refl) (λ a b. refl) (λ a b. refl) (λ n ns m ms. refl) (λ n ns m ms. refl) (lays c a) (lays c b)
lays c (t.NumericFor place a b d e f) =
    five c (t.NumericFor place) (λ n ns m ms k ks l ls i js. kept.Statement place (statements.NumericFor n m k (first ls) i))
    (λ a b d e f items. refl) (λ a b d e f. refl) (λ a b d e f. refl) (λ n ns m ms k ks l ls i js. refl) (λ n ns m ms k ks l ls i js. refl) (lays c a) (lays c b) (lays c d) (lays c e) (lays c f)
lays c (t.GenericFor place a b d) =
    three c (t.GenericFor place) (λ n ns m ms k ks. kept.Statement place (statements.GenericFor ns ms k))
    (λ a b d items. refl) (λ a b d. refl) (λ a b d. refl) (λ n ns m ms k ks. refl) (λ n ns m ms k ks. refl) (lays c a) (lays c b) (lays c d)
lays c (t.DefineFunction place a b) =
    two c (t.DefineFunction place) (λ n ns m ms. kept.Statement place (statements.Function n m))
    (λ a b items. refl) (λ a b. refl) (λ a b. refl) (λ n ns m ms. refl) (λ n ns m ms. refl) (lays c a) (lays c b)
lays c (t.LocalFunction place a b) =
    two c (t.LocalFunction place) (λ n ns m ms. kept.Statement place (statements.LocalFunction n m))
    (λ a b items. refl) (λ a b. refl) (λ a b. refl) (λ n ns m ms. refl) (λ n ns m ms. refl) (lays c a) (lays c b)
lays c (t.Local place a b) =
    two c (t.Local place) (λ n ns m ms. kept.Statement place (statements.Local ns ms))
    (λ a b items. refl) (λ a b. refl) (λ a b. refl) (λ n ns m ms. refl) (λ n ns m ms. refl) (lays c a) (lays c b)
lays c (t.DefineTerra place a b) =
    two c (t.DefineTerra place) (λ n ns m ms. kept.Statement place (statements.Terra n m))
    (λ a b items. refl) (λ a b. refl) (λ a b. refl) (λ n ns m ms. refl) (λ n ns m ms. refl) (lays c a) (lays c b)
lays c (t.DeclareTerra place a b) =
    two c (t.DeclareTerra place) (λ n ns m ms. kept.Statement place (statements.DeclareTerra n m))
    (λ a b items. refl) (λ a b. refl) (λ a b. refl) (λ n ns m ms. refl) (λ n ns m ms. refl) (lays c a) (lays c b)
lays c (t.LocalTerra place word a b) =
    two c (t.LocalTerra place word) (λ n ns m ms. kept.Statement place (statements.LocalTerra word n m))
    (λ a b items. refl) (λ a b. refl) (λ a b. refl) (λ n ns m ms. refl) (λ n ns m ms. refl) (lays c a) (lays c b)
lays c (t.LocalDeclareTerra place word a b) =
    two c (t.LocalDeclareTerra place word) (λ n ns m ms. kept.Statement place (statements.LocalDeclareTerra word n m))
    (λ a b items. refl) (λ a b. refl) (λ a b. refl) (λ n ns m ms. refl) (λ n ns m ms. refl) (lays c a) (lays c b)
lays c (t.DefineStruct place a b) =
    two c (t.DefineStruct place) (λ n ns m ms. kept.Statement place (statements.Struct n ms))
    (λ a b items. refl) (λ a b. refl) (λ a b. refl) (λ n ns m ms. refl) (λ n ns m ms. refl) (lays c a) (lays c b)
lays c (t.LocalStruct place word a b) =
    two c (t.LocalStruct place word) (λ n ns m ms. kept.Statement place (statements.LocalStruct word n ms))
    (λ a b items. refl) (λ a b. refl) (λ a b. refl) (λ n ns m ms. refl) (λ n ns m ms. refl) (lays c a) (lays c b)
lays c (t.Emit place a) =
    one c (t.Emit place) (λ n ns. kept.Statement place (statements.Emit n))
    (λ a items. refl) (λ a. refl) (λ a. refl) (λ n ns. refl) (λ n ns. refl) (lays c a)
lays c (t.Return place a) =
    one c (t.Return place) (λ n ns. kept.Statement place (statements.Return ns))
    (λ a items. refl) (λ a. refl) (λ a. refl) (λ n ns. refl) (λ n ns. refl) (lays c a)
lays c (t.Break place) = leaf c (t.Break place) (kept.Statement place statements.Break) (λ items. refl) refl refl refl refl
lays c (t.TerraNil place) = leaf c (t.TerraNil place) (kept.TerraExpression place terra_expressions.Nil) (λ items. refl) refl refl refl refl
lays c (t.TerraFalse place) = leaf c (t.TerraFalse place) (kept.TerraExpression place terra_expressions.False) (λ items. refl) refl refl refl refl
lays c (t.TerraTrue place) = leaf c (t.TerraTrue place) (kept.TerraExpression place terra_expressions.True) (λ items. refl) refl refl refl refl
lays c (t.TerraBinary place op a b) =
    two c (t.TerraBinary place op) (λ n ns m ms. kept.TerraExpression place (terra_expressions.Binary op n m))
    (λ a b items. refl) (λ a b. refl) (λ a b. refl) (λ n ns m ms. refl) (λ n ns m ms. refl) (lays c a) (lays c b)
lays c (t.TerraUnary place op a) =
    one c (t.TerraUnary place op) (λ n ns. kept.TerraExpression place (terra_expressions.Unary op n))
    (λ a items. refl) (λ a. refl) (λ a. refl) (λ n ns. refl) (λ n ns. refl) (lays c a)
lays c (t.TerraParen place a) =
    one c (t.TerraParen place) (λ n ns. kept.TerraExpression place (terra_expressions.Paren n))
    (λ a items. refl) (λ a. refl) (λ a. refl) (λ n ns. refl) (λ n ns. refl) (lays c a)
lays c (t.Escape place a) =
    one c (t.Escape place) (λ n ns. kept.TerraExpression place (terra_expressions.Escape n))
    (λ a items. refl) (λ a. refl) (λ a. refl) (λ n ns. refl) (λ n ns. refl) (lays c a)
lays c (t.TerraIndex place a b) =
    two c (t.TerraIndex place) (λ n ns m ms. kept.TerraExpression place (terra_expressions.Index n m))
    (λ a b items. refl) (λ a b. refl) (λ a b. refl) (λ n ns m ms. refl) (λ n ns m ms. refl) (lays c a) (lays c b)
lays c (t.TerraSelect place a b) =
    two c (t.TerraSelect place) (λ n ns m ms. kept.TerraExpression place (terra_expressions.Select n m))
    (λ a b items. refl) (λ a b. refl) (λ a b. refl) (λ n ns m ms. refl) (λ n ns m ms. refl) (lays c a) (lays c b)
lays c (t.TerraCall place a b) =
    two c (t.TerraCall place) (λ n ns m ms. kept.TerraExpression place (terra_expressions.Call n ms))
    (λ a b items. refl) (λ a b. refl) (λ a b. refl) (λ n ns m ms. refl) (λ n ns m ms. refl) (lays c a) (lays c b)
lays c (t.TerraMethod place a b d) =
    three c (t.TerraMethod place) (λ n ns m ms k ks. kept.TerraExpression place (terra_expressions.Method n m ks))
    (λ a b d items. refl) (λ a b d. refl) (λ a b d. refl) (λ n ns m ms k ks. refl) (λ n ns m ms k ks. refl) (lays c a) (lays c b) (lays c d)
lays c (t.Construct place a b) =
    two c (t.Construct place) (λ n ns m ms. kept.TerraExpression place (terra_expressions.Construct n ms))
    (λ a b items. refl) (λ a b. refl) (λ a b. refl) (λ n ns m ms. refl) (λ n ns m ms. refl) (lays c a) (lays c b)
lays c (t.TerraAssign place a b) =
    two c (t.TerraAssign place) (λ n ns m ms. kept.TerraStatement place (terra_statements.Assign ns ms))
    (λ a b items. refl) (λ a b. refl) (λ a b. refl) (λ n ns m ms. refl) (λ n ns m ms. refl) (lays c a) (lays c b)
lays c (t.TerraCallStatement place a) =
    one c (t.TerraCallStatement place) (λ n ns. kept.TerraStatement place (terra_statements.Call n))
    (λ a items. refl) (λ a. refl) (λ a. refl) (λ n ns. refl) (λ n ns. refl) (lays c a)
lays c (t.Splice place a) =
    one c (t.Splice place) (λ n ns. kept.TerraStatement place (terra_statements.Splice n))
    (λ a items. refl) (λ a. refl) (λ a. refl) (λ n ns. refl) (λ n ns. refl) (lays c a)
lays c (t.TerraDo place a) =
    one c (t.TerraDo place) (λ n ns. kept.TerraStatement place (terra_statements.Do n))
    (λ a items. refl) (λ a. refl) (λ a. refl) (λ n ns. refl) (λ n ns. refl) (lays c a)
lays c (t.TerraWhile place a b) =
    two c (t.TerraWhile place) (λ n ns m ms. kept.TerraStatement place (terra_statements.While n m))
    (λ a b items. refl) (λ a b. refl) (λ a b. refl) (λ n ns m ms. refl) (λ n ns m ms. refl) (lays c a) (lays c b)
lays c (t.TerraRepeat place a b) =
    two c (t.TerraRepeat place) (λ n ns m ms. kept.TerraStatement place (terra_statements.Repeat n m))
    (λ a b items. refl) (λ a b. refl) (λ a b. refl) (λ n ns m ms. refl) (λ n ns m ms. refl) (lays c a) (lays c b)
lays c (t.TerraIf place a b) =
    two c (t.TerraIf place) (λ n ns m ms. kept.TerraStatement place (terra_statements.If ns (first ms)))
    (λ a b items. refl) (λ a b. refl) (λ a b. refl) (λ n ns m ms. refl) (λ n ns m ms. refl) (lays c a) (lays c b)
lays c (t.TerraFor place a b d e f) =
    five c (t.TerraFor place) (λ n ns m ms k ks l ls i js. kept.TerraStatement place (terra_statements.For n m k (first ls) i))
    (λ a b d e f items. refl) (λ a b d e f. refl) (λ a b d e f. refl) (λ n ns m ms k ks l ls i js. refl) (λ n ns m ms k ks l ls i js. refl) (lays c a) (lays c b) (lays c d) (lays c e) (lays c f)
lays c (t.Var place a b) =
    two c (t.Var place) (λ n ns m ms. kept.TerraStatement place (terra_statements.Var ns ms))
    (λ a b items. refl) (λ a b. refl) (λ a b. refl) (λ n ns m ms. refl) (λ n ns m ms. refl) (lays c a) (lays c b)
lays c (t.EscapeBlock place a) =
    one c (t.EscapeBlock place) (λ n ns. kept.TerraStatement place (terra_statements.Escape n))
    (λ a items. refl) (λ a. refl) (λ a. refl) (λ n ns. refl) (λ n ns. refl) (lays c a)
lays c (t.TerraReturn place a) =
    one c (t.TerraReturn place) (λ n ns. kept.TerraStatement place (terra_statements.Return ns))
    (λ a items. refl) (λ a. refl) (λ a. refl) (λ n ns. refl) (λ n ns. refl) (lays c a)
lays c (t.TerraBreak place) = leaf c (t.TerraBreak place) (kept.TerraStatement place terra_statements.Break) (λ items. refl) refl refl refl refl
lays c (t.Block a) =
    one c t.Block (λ n ns. kept.Piece (pieces.Block ns))
    (λ a items. refl) (λ a. refl) (λ a. refl) (λ n ns. refl) (λ n ns. refl) (lays c a)
lays c (t.Arm a b) =
    two c t.Arm (λ n ns m ms. kept.Piece (pieces.Arm n m))
    (λ a b items. refl) (λ a b. refl) (λ a b. refl) (λ n ns m ms. refl) (λ n ns m ms. refl) (lays c a) (lays c b)
lays c (t.Body a flag b) =
    two c (λ a b. t.Body a flag b) (λ n ns m ms. kept.Piece (pieces.Body ns flag m))
    (λ a b items. refl) (λ a b. refl) (λ a b. refl) (λ n ns m ms. refl) (λ n ns m ms. refl) (lays c a) (lays c b)
lays c (t.Path a b) =
    two c t.Path (λ n ns m ms. kept.Piece (pieces.Path ns (first ms)))
    (λ a b items. refl) (λ a b. refl) (λ a b. refl) (λ n ns m ms. refl) (λ n ns m ms. refl) (lays c a) (lays c b)
lays c (t.NamedField a b) =
    two c t.NamedField (λ n ns m ms. kept.Piece (pieces.NamedField n m))
    (λ a b items. refl) (λ a b. refl) (λ a b. refl) (λ n ns m ms. refl) (λ n ns m ms. refl) (lays c a) (lays c b)
lays c (t.KeyedField a b) =
    two c t.KeyedField (λ n ns m ms. kept.Piece (pieces.KeyedField n m))
    (λ a b items. refl) (λ a b. refl) (λ a b. refl) (λ n ns m ms. refl) (λ n ns m ms. refl) (lays c a) (lays c b)
lays c (t.Entry a b) =
    two c t.Entry (λ n ns m ms. kept.Piece (pieces.Entry n m))
    (λ a b items. refl) (λ a b. refl) (λ a b. refl) (λ n ns m ms. refl) (λ n ns m ms. refl) (lays c a) (lays c b)
lays c (t.Quoted a b) =
    two c t.Quoted (λ n ns m ms. kept.Piece (pieces.Quoted n (first ms)))
    (λ a b items. refl) (λ a b. refl) (λ a b. refl) (λ n ns m ms. refl) (λ n ns m ms. refl) (lays c a) (lays c b)
lays c (t.TerraBody place a b d) =
    three c (t.TerraBody place) (λ n ns m ms k ks. kept.Piece (pieces.TerraBody place ns (first ms) k))
    (λ a b d items. refl) (λ a b d. refl) (λ a b d. refl) (λ n ns m ms k ks. refl) (λ n ns m ms k ks. refl) (lays c a) (lays c b) (lays c d)
lays c (t.Parameter place a b) =
    two c (t.Parameter place) (λ n ns m ms. kept.Piece (pieces.Parameter place n m))
    (λ a b items. refl) (λ a b. refl) (λ a b. refl) (λ n ns m ms. refl) (λ n ns m ms. refl) (lays c a) (lays c b)
lays c (t.SpliceParameter place a) =
    one c (t.SpliceParameter place) (λ n ns. kept.Piece (pieces.SpliceParameter place n))
    (λ a items. refl) (λ a. refl) (λ a. refl) (λ n ns. refl) (λ n ns. refl) (lays c a)
lays c (t.Variable place a b) =
    two c (t.Variable place) (λ n ns m ms. kept.Piece (pieces.Variable place n (first ms)))
    (λ a b items. refl) (λ a b. refl) (λ a b. refl) (λ n ns m ms. refl) (λ n ns m ms. refl) (lays c a) (lays c b)

-- ---- the nodes of a tree

pub lay_changed : (c : Change) (a : Tree) → lay (changed c a) [] ≡ changed_items c (lay a [])
lay_changed c a = ap (λ (x : Laid). x.items) ((lays c a).again [])

unchanged : Change
unchanged = record { offset = λ n. n; text = λ n text. text }

pub lay_names : (a : Tree) → named_items (lay a []) ≡ names_in a
lay_names a = (lays unchanged a).names []
