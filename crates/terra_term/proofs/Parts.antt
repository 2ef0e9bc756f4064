-- What is written for a part is the text of its tree.
use Rattle.std.proofs.Common.{◌≡◌, ℕ, ◌<◌, ◌≤◌, List, [], ◌∙◌, ap, sym, take, Option, Some, None, slice_get, inl, inr}
use Rattle.std.specs.Prelude.{option_map, unwrap_or}
use Rattle.std.proofs.lemmas.Bool.{cases_lt}
use Rattle.tl_base.specs.declared.place.Place.{Place}
use Rattle.tl_base.specs.declared.ids.FnId.{FnId}
use Rattle.tl_base.specs.declared.ids.TermId.{TermId}
use Rattle.tl_base.specs.declared.ids.TypeId.{TypeId}
use Rattle.terra_types.specs.declared.types.TypeForm.{TypeForm}
use Rattle.terra_term.specs.declared.lists.Parameter.{Parameter}
use Rattle.terra_term.specs.declared.term.Term as nodes
use Rattle.terra_term.specs.declared.term.Term.TheVariants as kinds
use Rattle.terra_term.specs.declared.term.Expression as expressions
use Rattle.terra_term.specs.declared.term.Statement as statements
use Rattle.terra_term.specs.Terms as terms
use Rattle.terra_term.specs.Planted.{planted, trees, term_at, term_in, statement_at, doing_in}
use Rattle.terra_term.specs.Held.{Held, state_of, term_in as term_of_state}
use Rattle.terra_term.specs.TermText.{made, text_of, statement_text, type_texts, type_text, type_made, item_text, text_at, term_text}
use Rattle.terra_term.specs.Pieces.{text_in, expression_pieces, statement_pieces, definition_pieces, type_pieces}
use Rattle.terra_term.proofs.Trees.{tree-at, type-text-at, get-take, get-past}
use Rattle.terra_term.proofs.Texts.{expression-text, statement-text, definition-text, type-pieces-text}

-- the tree of a node before a number
part-tree : (ns : List nodes.Term) (below i : ℕ) → slice_get (take below (trees ns)) i ≡ option_map (planted (take i (trees ns))) (slice_get (take below ns) i)
part-tree ns below i =
    elim (cases_lt i below) [
      | inl h ↦ get-take (trees ns) below i h ∙ (tree-at ns i ∙ ap (λ (x : Option nodes.Term). option_map (planted (take i (trees ns))) x) (sym (get-take ns below i h)))
      | inr h ↦ get-past (trees ns) below i h ∙ ap (λ (x : Option nodes.Term). option_map (planted (take i (trees ns))) x) (sym (get-past ns below i h))
    ]

part-item : (h : Held) (below : ℕ) (t : TermId) (x : Option nodes.Term) → x ≡ slice_get (take below h.terms) t.0 → slice_get (take below (trees h.terms)) t.0 ≡ option_map (planted (take t.0 (trees h.terms))) x
part-item h below t x same = part-tree h.terms below t.0 ∙ ap (λ (y : Option nodes.Term). option_map (planted (take t.0 (trees h.terms))) y) (sym same)

-- an expression
pub part-expression : (h : Held) (below : ℕ) (t : TermId) (at : Place) (x : expressions.Expression) → Some (kinds.Expression at x) ≡ slice_get (take below h.terms) t.0 → text_in h (expression_pieces h t.0 x) ≡ text_of h (term_at (take below (trees h.terms)) t)
part-expression h below t at x same =
    expression-text h t.0 at x ∙ ap (λ (i : Option terms.Item). text_of h (term_in i)) (sym (part-item h below t (Some (kinds.Expression at x)) same))

-- what is no expression
pub part-statement : (h : Held) (below : ℕ) (t : TermId) (at : Place) (x : statements.Statement) → Some (kinds.Statement at x) ≡ slice_get (take below h.terms) t.0 → text_of h (terms.term (record { line = 0; word = 0 }) terms.Nil) ≡ text_of h (term_at (take below (trees h.terms)) t)
part-statement h below t at x same = ap (λ (i : Option terms.Item). text_of h (term_in i)) (sym (part-item h below t (Some (kinds.Statement at x)) same))

pub part-function : (h : Held) (below : ℕ) (t : TermId) (ps : List Parameter) (of : Option TypeId) (body : List TermId) → Some (kinds.Function ps of body) ≡ slice_get (take below h.terms) t.0 → text_of h (terms.term (record { line = 0; word = 0 }) terms.Nil) ≡ text_of h (term_at (take below (trees h.terms)) t)
part-function h below t ps of body same = ap (λ (i : Option terms.Item). text_of h (term_in i)) (sym (part-item h below t (Some (kinds.Function ps of body)) same))

pub part-none : (h : Held) (below : ℕ) (t : TermId) → None ≡ slice_get (take below h.terms) t.0 → text_of h (terms.term (record { line = 0; word = 0 }) terms.Nil) ≡ text_of h (term_at (take below (trees h.terms)) t)
part-none h below t same = ap (λ (i : Option terms.Item). text_of h (term_in i)) (sym (part-item h below t None same))

-- a statement, and what is none
pub doing-statement : (h : Held) (below : ℕ) (t : TermId) (at : Place) (x : statements.Statement) → Some (kinds.Statement at x) ≡ slice_get (take below h.terms) t.0 → text_in h (statement_pieces t.0 x) ≡ statement_text h (statement_at (take below (trees h.terms)) t)
doing-statement h below t at x same =
    statement-text h t.0 at x ∙ ap (λ (i : Option terms.Item). statement_text h (doing_in i)) (sym (part-item h below t (Some (kinds.Statement at x)) same))

pub doing-expression : (h : Held) (below : ℕ) (t : TermId) (at : Place) (x : expressions.Expression) → Some (kinds.Expression at x) ≡ slice_get (take below h.terms) t.0 → statement_text h (terms.statement (record { line = 0; word = 0 }) terms.Break) ≡ statement_text h (statement_at (take below (trees h.terms)) t)
doing-expression h below t at x same = ap (λ (i : Option terms.Item). statement_text h (doing_in i)) (sym (part-item h below t (Some (kinds.Expression at x)) same))

pub doing-function : (h : Held) (below : ℕ) (t : TermId) (ps : List Parameter) (of : Option TypeId) (body : List TermId) → Some (kinds.Function ps of body) ≡ slice_get (take below h.terms) t.0 → statement_text h (terms.statement (record { line = 0; word = 0 }) terms.Break) ≡ statement_text h (statement_at (take below (trees h.terms)) t)
doing-function h below t ps of body same = ap (λ (i : Option terms.Item). statement_text h (doing_in i)) (sym (part-item h below t (Some (kinds.Function ps of body)) same))

pub doing-none : (h : Held) (below : ℕ) (t : TermId) → None ≡ slice_get (take below h.terms) t.0 → statement_text h (terms.statement (record { line = 0; word = 0 }) terms.Break) ≡ statement_text h (statement_at (take below (trees h.terms)) t)
doing-none h below t same = ap (λ (i : Option terms.Item). statement_text h (doing_in i)) (sym (part-item h below t None same))

-- types
pub type-found : (h : Held) (t : TypeId) (x : TypeForm) → Some x ≡ slice_get h.types t.0 → text_in h (type_pieces t.0 x) ≡ type_text h.types t
type-found h t x same =
    type-pieces-text h t.0 x ∙
    ap (λ (b : Option (List ℕ)). unwrap_or b []) (sym (type-text-at h.types t.0 ∙ ap (λ (f : Option TypeForm). option_map (type_made (take t.0 (type_texts h.types))) f) (sym same)))

pub type-absent : (h : Held) (t : TypeId) → None ≡ slice_get h.types t.0 → [] ≡ type_text h.types t
type-absent h t same =
    ap (λ (b : Option (List ℕ)). unwrap_or b []) (sym (type-text-at h.types t.0 ∙ ap (λ (f : Option TypeForm). option_map (type_made (take t.0 (type_texts h.types))) f) (sym same)))

-- functions
text-of-node : (h : Held) (f : FnId) (t : TermId) (x : Option nodes.Term) → x ≡ slice_get h.terms t.0 → item_text h f (option_map (planted (take t.0 (trees h.terms))) x) ≡ text_at h f (Some t)
text-of-node h f t x same =
    ap (λ (i : Option terms.Item). item_text h f i) (sym (tree-at h.terms t.0 ∙ ap (λ (y : Option nodes.Term). option_map (planted (take t.0 (trees h.terms))) y) (sym same)))

pub function-undefined : (h : Held) (f : FnId) → None ≡ term_of_state (state_of h f) → [] ≡ term_text h f
function-undefined h f none = ap (λ (t : Option TermId). text_at h f t) none

pub function-found : (h : Held) (f : FnId) (t : TermId) (ps : List Parameter) (of : Option TypeId) (body : List TermId) → Some t ≡ term_of_state (state_of h f) → Some (kinds.Function ps of body) ≡ slice_get h.terms t.0 → text_in h (definition_pieces f t.0 ps of body) ≡ term_text h f
function-found h f t ps of body there same =
    definition-text h f t.0 ps of body ∙ (text-of-node h f t (Some (kinds.Function ps of body)) same ∙ ap (λ (t' : Option TermId). text_at h f t') there)

pub function-expression : (h : Held) (f : FnId) (t : TermId) (at : Place) (x : expressions.Expression) → Some t ≡ term_of_state (state_of h f) → Some (kinds.Expression at x) ≡ slice_get h.terms t.0 → [] ≡ term_text h f
function-expression h f t at x there same = text-of-node h f t (Some (kinds.Expression at x)) same ∙ ap (λ (t' : Option TermId). text_at h f t') there

pub function-statement : (h : Held) (f : FnId) (t : TermId) (at : Place) (x : statements.Statement) → Some t ≡ term_of_state (state_of h f) → Some (kinds.Statement at x) ≡ slice_get h.terms t.0 → [] ≡ term_text h f
function-statement h f t at x there same = text-of-node h f t (Some (kinds.Statement at x)) same ∙ ap (λ (t' : Option TermId). text_at h f t') there

pub function-absent : (h : Held) (f : FnId) (t : TermId) → Some t ≡ term_of_state (state_of h f) → None ≡ slice_get h.terms t.0 → [] ≡ term_text h f
function-absent h f t there same = text-of-node h f t None same ∙ ap (λ (t' : Option TermId). text_at h f t') there

-- a type among those before a number
pub type-before : (h : Held) (t : TypeId) (below : ℕ) → t.0 < below → type_text h.types t ≡ made (take below (type_texts h.types)) t
type-before h t below within = ap (λ (b : Option (List ℕ)). unwrap_or b []) (sym (get-take (type_texts h.types) below t.0 within))

pub type-past : (h : Held) (t : TypeId) (below : ℕ) → below ≤ t.0 → [] ≡ made (take below (type_texts h.types)) t
type-past h t below past = ap (λ (b : Option (List ℕ)). unwrap_or b []) (sym (get-past (type_texts h.types) below t.0 past))
