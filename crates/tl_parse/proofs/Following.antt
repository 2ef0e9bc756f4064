-- What reading forms of grammars one after the other gives.
use Rattle.std.proofs.Common.{◌≡◌, ℕ, ◌-◌, Bool, true, false, cond, List, refl, sym, ap, ◌∙◌}
use Rattle.tl_base.specs.declared.place.Place.{Place}
use Rattle.tl_tree.specs.declared.symbol.Symbol.{Symbol}
use Rattle.tl_tree.specs.declared.symbol.Symbol.TheVariants as symbols
use Rattle.tl_tree.specs.Tokens.{Token, is}
use Rattle.tl_tree.specs.Tree.{Tree, Nothing, Just, Part, FunctionBody, TerraFunctionBody}
use Rattle.tl_tree.specs.Grammar.{Grammar, give, bind, when, Outcome, Took, Stop, ◌>>=◌, begins}
use Rattle.tl_tree.specs.Forms.{sign, opening, opening_at}
use Rattle.tl_tree.proofs.Unrolling.{bind_again}
use Rattle.tl_parse.specs.Views.Using.{reading, part_at, sign_at, open_at}
use Rattle.tl_parse.specs.Views.Codes.{expression_of, expression_in, expression_behind_at, optional_expression_at, opened_body_at}
use Rattle.tl_parse.specs.Views.Codes.{opened_terra_body_at}
use Rattle.tl_parse.specs.declared.parser.Code.{Code}
use Rattle.tl_parse.specs.declared.parser.Code.TheVariants as codes
use Rattle.tl_parse.proofs.Uses.{both, bind_same, sign_is, open_is, opening_at_is}

pub sign_then : {A : Type 0} (levels : ℕ) (s : Symbol) (h : Token × Tree → Grammar A) (k : Token → List Token → Outcome A) → ((t : Token) (us : List Token) → reading levels (h (both t Nothing)) us ≡ k t us) → (ts : List Token) → reading levels (bind (sign s) h) ts ≡ (sign_at s ts >>= λ t rest. k t rest)
sign_then levels s h k same ts =
    ap (λ (o : Outcome (Token × Tree)). o >>= λ x mid. reading levels (h x) mid) (sign_is levels s ts)
    ∙ bind_again (sign_at s ts) (λ t rest. Took (both t Nothing) rest) (λ x mid. reading levels (h x) mid)
    ∙ bind_same (sign_at s ts) (λ t mid. reading levels (h (both t Nothing)) mid) (λ t mid. k t mid) same

pub opened_then : {A : Type 0} (levels : ℕ) (part : Part) (o : Outcome Token) (h : Token × Tree → Grammar A) (k : Token → Tree → List Token → Outcome A) → ((t : Token) (x : Tree) (us : List Token) → reading levels (h (both t x)) us ≡ k t x us) → ((o >>= λ t mid. part_at (levels - 1) part mid >>= λ x rest. Took (both t x) rest) >>= λ x mid. reading levels (h x) mid) ≡ (o >>= λ t mid. part_at (levels - 1) part mid >>= λ x rest. k t x rest)
opened_then levels part (Took t mid) h k same = bind_again (part_at (levels - 1) part mid) (λ x rest. Took (both t x) rest) (λ x mid. reading levels (h x) mid) ∙ bind_same (part_at (levels - 1) part mid) (λ x us. reading levels (h (both t x)) us) (λ x us. k t x us) (λ x us. same t x us)
opened_then levels part (Stop kind rest) h k same = refl

pub open_then : {A : Type 0} (levels : ℕ) (s : Symbol) (part : Part) (h : Token × Tree → Grammar A) (k : Token → Tree → List Token → Outcome A) → ((t : Token) (x : Tree) (us : List Token) → reading levels (h (both t x)) us ≡ k t x us) → (ts : List Token) → reading levels (bind (opening s part) h) ts ≡ (open_at s levels ts >>= λ t mid. part_at (levels - 1) part mid >>= λ x rest. k t x rest)
open_then levels s part h k same ts =
    ap (λ (o : Outcome (Token × Tree)). o >>= λ x mid. reading levels (h x) mid) (open_is levels s part ts) ∙ opened_then levels part (open_at s levels ts) h k same

-- the same where the part depends on the token's place
placed_then : {A : Type 0} (levels : ℕ) (part : Place → Part) (o : Outcome Token) (h : Token × Tree → Grammar A) (k : Token → Tree → List Token → Outcome A) → ((t : Token) (x : Tree) (us : List Token) → reading levels (h (both t x)) us ≡ k t x us) → ((o >>= λ t mid. part_at (levels - 1) (part t.place) mid >>= λ x rest. Took (both t x) rest) >>= λ x mid. reading levels (h x) mid) ≡ (o >>= λ t mid. part_at (levels - 1) (part t.place) mid >>= λ x rest. k t x rest)
placed_then levels part (Took t mid) h k same = opened_then levels (part t.place) (Took t mid) h k same
placed_then levels part (Stop kind rest) h k same = refl

pub open_at_then : {A : Type 0} (levels : ℕ) (s : Symbol) (part : Place → Part) (h : Token × Tree → Grammar A) (k : Token → Tree → List Token → Outcome A) → ((t : Token) (x : Tree) (us : List Token) → reading levels (h (both t x)) us ≡ k t x us) → (ts : List Token) → reading levels (bind (opening_at s part) h) ts ≡ (open_at s levels ts >>= λ t mid. part_at (levels - 1) (part t.place) mid >>= λ x rest. k t x rest)
open_at_then levels s part h k same ts =
    ap (λ (o : Outcome (Token × Tree)). o >>= λ x mid. reading levels (h x) mid) (opening_at_is levels s part ts) ∙ placed_then levels part (open_at s levels ts) h k same

pub then : {A B : Type 0} (levels : ℕ) (g : Grammar A) (h : A → Grammar B) (g_at : List Token → Outcome A) (k : A → List Token → Outcome B) → ((us : List Token) → reading levels g us ≡ g_at us) → ((a : A) (us : List Token) → reading levels (h a) us ≡ k a us) → (ts : List Token) → reading levels (bind g h) ts ≡ (g_at ts >>= λ a rest. k a rest)
then {A} levels g h g_at k same follows ts =
    ap (λ (o : Outcome A). o >>= λ a mid. reading levels (h a) mid) (same ts) ∙ bind_same (g_at ts) (λ a mid. reading levels (h a) mid) (λ a mid. k a mid) follows

pub either_is : {A : Type 0} (b : Bool) (x y u v : Outcome A) → x ≡ u → y ≡ v → cond b x y ≡ cond b u v
either_is true x y u v p q = p
either_is false x y u v p q = q

-- ---- bodies of functions

-- a value that is made of a body
pub body_give : {A : Type 0} (levels : ℕ) (make : Tree → A) (ts : List Token) →
    reading levels (bind (opening symbols.OpenParen FunctionBody) λ b. give (make b.1)) ts ≡ (opened_body_at levels ts >>= λ x rest. Took (make x) rest)
unfolding opened_body_at
body_give levels make ts =
    open_then levels symbols.OpenParen FunctionBody (λ b. give (make b.1)) (λ t x rest. Took (make x) rest) (λ t x us. refl) ts
    ∙ sym (bind_again (open_at symbols.OpenParen levels ts) (λ t a. part_at (levels - 1) FunctionBody a) (λ x rest. Took (make x) rest))

-- the same of a body of Terra code
pub terra_body_give : {A : Type 0} (levels : ℕ) (make : Tree → A) (ts : List Token) →
    reading levels (bind (opening_at symbols.OpenParen TerraFunctionBody) λ b. give (make b.1)) ts ≡ (opened_terra_body_at levels ts >>= λ x rest. Took (make x) rest)
unfolding opened_terra_body_at
terra_body_give levels make ts =
    open_at_then levels symbols.OpenParen TerraFunctionBody (λ b. give (make b.1)) (λ t x rest. Took (make x) rest) (λ t x us. refl) ts
    ∙ sym (bind_again (open_at symbols.OpenParen levels ts) (λ t a. part_at (levels - 1) (TerraFunctionBody t.place) a) (λ x rest. Took (make x) rest))

-- ---- expressions behind signs

-- an expression of either language
pub expression_agrees : (levels : ℕ) (code : Code) (ts : List Token) → reading levels (expression_of code) ts ≡ part_at levels (expression_in code) ts
unfolding part_at
expression_agrees levels (codes.Lua m) ts = refl
expression_agrees levels codes.Terra ts = refl

-- a sign and an expression, and what goes on with it
pub behind_then : {A : Type 0} (levels : ℕ) (s : Symbol) (code : Code) (h : Tree → Grammar A) (k : Tree → List Token → Outcome A) → ((e : Tree) (us : List Token) → reading levels (h e) us ≡ k e us) → (ts : List Token) →
    reading levels (bind (sign s) λ y. bind (expression_of code) λ e. h e) ts ≡ (expression_behind_at levels s code ts >>= λ e rest. k e rest)
unfolding expression_behind_at
behind_then levels s code h k same ts =
    sign_then levels s (λ y. bind (expression_of code) λ e. h e) (λ y a. part_at levels (expression_in code) a >>= λ e rest. k e rest)
    (λ y us. then levels (expression_of code) (λ e. h e) (λ vs. part_at levels (expression_in code) vs) (λ e rest. k e rest) (λ vs. expression_agrees levels code vs) same us) ts
    ∙ sym (bind_again (sign_at s ts) (λ y a. part_at levels (expression_in code) a) (λ e rest. k e rest))

-- a value that is made of the expression
pub behind_give : {A : Type 0} (levels : ℕ) (s : Symbol) (code : Code) (make : Tree → A) (ts : List Token) →
    reading levels (bind (sign s) λ y. bind (expression_of code) λ e. give (make e)) ts ≡ (expression_behind_at levels s code ts >>= λ e rest. Took (make e) rest)
behind_give levels s code make ts = behind_then levels s code (λ e. give (make e)) (λ e rest. Took (make e) rest) (λ e us. refl) ts

-- the same if the sign is there
pub optional_agrees : (levels : ℕ) (s : Symbol) (code : Code) (ts : List Token) →
    reading levels (when (is s) (bind (sign s) λ y. bind (expression_of code) λ e. give (Just e)) (give Nothing)) ts ≡ optional_expression_at levels s code ts
unfolding optional_expression_at
optional_agrees levels s code ts =
    either_is (begins (is s) ts) (reading levels (bind (sign s) λ y. bind (expression_of code) λ e. give (Just e)) ts) (Took Nothing ts) (expression_behind_at levels s code ts >>= λ e rest. Took (Just e) rest) (Took Nothing ts)
    (behind_give levels s code (λ e. Just e) ts) refl
