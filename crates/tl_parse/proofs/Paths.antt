-- What reading lists of names and paths gives is what their grammar gives.
use Rattle.std.proofs.Common.{◌≡◌, ℕ, Bool, true, false, cond, List, None, refl, sym, ap, ◌∙◌}
use Rattle.tl_tree.specs.declared.mode.TokenUse.TheVariants.{Plain}
use Rattle.tl_tree.specs.declared.symbol.Symbol.TheVariants as symbols
use Rattle.tl_tree.specs.Tokens.{Token, is, sample}
use Rattle.tl_tree.specs.Tree as trees
use Rattle.tl_tree.specs.Tree.{Tree, Nothing, More, Just}
use Rattle.tl_tree.specs.Grammar.{give, token, bind, Outcome, Took, Stop, ◌>>=◌, begins}
use Rattle.tl_tree.specs.Forms.{sign, name, names, listed_behind, path_names}
use Rattle.tl_tree.specs.LuaStatements as lua
use Rattle.tl_tree.proofs.Unrolling.{bind_again}
use Rattle.tl_parse.specs.Views.Using.{reading, sign_at}
use Rattle.tl_parse.specs.Views.Expressions.{name_at}
use Rattle.tl_parse.specs.Views.Paths.{more_names_at, names_at, behind_sign_at, path_names_at, path_method_at, path_at}
use Rattle.tl_parse.proofs.Uses.{bind_same}
use Rattle.tl_parse.proofs.Following.{sign_then, then}
use Rattle.tl_parse.proofs.Agreeing.{name_agrees}

pub names_agree : (levels : ℕ) (ts : List Token) → reading levels names ts ≡ names_at levels ts
unfolding names_at more_names_at
names_agree levels ts = ap (λ (o : Outcome Tree). o >>= λ n a. reading levels (listed_behind name (More Nothing n)) a) (name_agrees levels ts)

pub path_turn : (levels : ℕ) (before : Tree) (ts : List Token) →
    reading levels (bind (token (λ t. is symbols.Dot t) (λ t. Plain) (λ t. None) (sample symbols.Dot)) λ x. bind (sign symbols.Name) λ n. give (More before (trees.Name x.0.place n.0.offset n.0.text))) ts
    ≡ (behind_sign_at symbols.Dot ts >>= λ n rest. Took (More before n) rest)
unfolding behind_sign_at
path_turn levels before ts =
    sign_then levels symbols.Dot (λ x. bind (sign symbols.Name) λ n. give (More before (trees.Name x.0.place n.0.offset n.0.text))) (λ t a. sign_at symbols.Name a >>= λ n rest. Took (More before (trees.Name t.place n.offset n.text)) rest)
    (λ t a. sign_then levels symbols.Name (λ n. give (More before (trees.Name t.place n.0.offset n.0.text))) (λ n rest. Took (More before (trees.Name t.place n.offset n.text)) rest) (λ n us. refl) a) ts
    ∙ sym (bind_again (sign_at symbols.Dot ts) (λ t a. sign_at symbols.Name a >>= λ n rest. Took (trees.Name t.place n.offset n.text) rest) (λ n rest. Took (More before n) rest)
    ∙ bind_same (sign_at symbols.Dot ts) (λ t a. (sign_at symbols.Name a >>= λ n rest. Took (trees.Name t.place n.offset n.text) rest) >>= λ n rest. Took (More before n) rest) (λ t a. sign_at symbols.Name a >>= λ n rest. Took (More before (trees.Name t.place n.offset n.text)) rest)
    (λ t a. bind_again (sign_at symbols.Name a) (λ n rest. Took (trees.Name t.place n.offset n.text) rest) (λ n rest. Took (More before n) rest)))

path_method_agrees : (levels : ℕ) (ns : Tree) (ts : List Token) → reading levels (lua.path_method ns) ts ≡ (path_method_at ts >>= λ o rest. Took (trees.Path ns o) rest)
unfolding path_method_at behind_sign_at
path_method_agrees levels ns ts = by (begins (is symbols.Colon) ts)
  where
    by : (b : Bool) → cond b (reading levels (bind (sign symbols.Colon) λ c. bind (sign symbols.Name) λ n. give (trees.Path ns (Just (trees.Name c.0.place n.0.offset n.0.text)))) ts) (Took (trees.Path ns Nothing) ts)
        ≡ (cond b ((sign_at symbols.Colon ts >>= λ t a. sign_at symbols.Name a >>= λ n rest. Took (trees.Name t.place n.offset n.text) rest) >>= λ n rest. Took (Just n) rest) (Took Nothing ts) >>= λ o rest. Took (trees.Path ns o) rest)
    by false = refl
    by true =
        sign_then levels symbols.Colon (λ c. bind (sign symbols.Name) λ n. give (trees.Path ns (Just (trees.Name c.0.place n.0.offset n.0.text)))) (λ t a. sign_at symbols.Name a >>= λ n rest. Took (trees.Path ns (Just (trees.Name t.place n.offset n.text))) rest)
        (λ t a. sign_then levels symbols.Name (λ n. give (trees.Path ns (Just (trees.Name t.place n.0.offset n.0.text)))) (λ n rest. Took (trees.Path ns (Just (trees.Name t.place n.offset n.text))) rest) (λ n us. refl) a) ts
        ∙ go (sign_at symbols.Colon ts)
      where
        inner : (t : Token) (o : Outcome Token) → (o >>= λ n rest. Took (trees.Path ns (Just (trees.Name t.place n.offset n.text))) rest) ≡ (((o >>= λ n rest. Took (trees.Name t.place n.offset n.text) rest) >>= λ n rest. Took (Just n) rest) >>= λ o rest. Took (trees.Path ns o) rest)
        inner t (Took n rest) = refl
        inner t (Stop kind rest) = refl

        go : (o : Outcome Token) → (o >>= λ t a. sign_at symbols.Name a >>= λ n rest. Took (trees.Path ns (Just (trees.Name t.place n.offset n.text))) rest)
            ≡ (((o >>= λ t a. sign_at symbols.Name a >>= λ n rest. Took (trees.Name t.place n.offset n.text) rest) >>= λ n rest. Took (Just n) rest) >>= λ o rest. Took (trees.Path ns o) rest)
        go (Took t a) = inner t (sign_at symbols.Name a)
        go (Stop kind rest) = refl

pub path_agrees : (levels : ℕ) (ts : List Token) → reading levels lua.path ts ≡ path_at levels ts
unfolding path_at path_names_at
path_agrees levels ts =
    then levels name (λ n. bind (path_names (More Nothing n)) λ ns. lua.path_method ns) (λ us. name_at us) (λ n a. path_names_at levels (More Nothing n) a >>= λ ns b. path_method_at b >>= λ o rest. Took (trees.Path ns o) rest) (λ us. name_agrees levels us)
    (λ n us. then levels (path_names (More Nothing n)) (λ ns. lua.path_method ns) (λ vs. path_names_at levels (More Nothing n) vs) (λ ns b. path_method_at b >>= λ o rest. Took (trees.Path ns o) rest) (λ vs. refl) (λ ns vs. path_method_agrees levels ns vs) us) ts
