-- The repetitions of Terra statements, turn by turn.
use Rattle.std.proofs.Common.{◌≡◌, ℕ, ◌<◌, true, false, List, length, None, sym, ap, ◌∙◌}
use Rattle.tl_base.specs.declared.place.Place.{Place}
use Rattle.tl_tree.specs.declared.mode.TokenUse.TheVariants.{Plain}
use Rattle.tl_tree.specs.declared.symbol.Symbol.TheVariants as symbols
use Rattle.tl_tree.specs.Tokens.{Token, is, sample}
use Rattle.tl_tree.specs.Tree as trees
use Rattle.tl_tree.specs.Tree.{Tree, Nothing, More}
use Rattle.tl_tree.specs.Grammar.{token, bind, Outcome, Took, ◌>>=◌, begins}
use Rattle.tl_tree.specs.LuaStatements as lua
use Rattle.tl_tree.specs.TerraStatements as terra
use Rattle.tl_tree.proofs.Unrolling.{bind_again}
use Rattle.tl_parse.specs.Views.Using.{reading, sign_at}
use Rattle.tl_parse.specs.Views.TerraStatements.{terra_assignment_at}
use Rattle.tl_parse.proofs.Uses.{repeats, ends, shorter_turn}
use Rattle.tl_parse.proofs.Following.{sign_then}
use Rattle.tl_parse.proofs.Turns.{elements_go, elements_end, element_shorter}
use Rattle.tl_parse.proofs.TerraStatementAgreeing.{terra_arm_agrees}
use Rattle.tl_parse.proofs.AgreeingStatements.{arm_turn}
use Rattle.tl_parse.proofs.Failing.{fails_after, fails_bind, fails_from}
use Rattle.tl_parse.proofs.Taking.{next_of}
use Rattle.tl_parse.specs.Views.Lists.{next_element_at, more_elements_at, expressions_behind_at}
use Rattle.tl_parse.specs.Views.Statements.{arm_at, more_arms_at, next_arm_at}
use Rattle.tl_parse.specs.declared.parser.Code.TheVariants as codes
use Rattle.tl_parse.specs.declared.parser.Element.TheVariants as elements
use Rattle.tl_parse.specs.declared.parser.BlockCode.{BlockCode}
use Rattle.tl_parse.specs.declared.parser.BlockCode.TheVariants as block_codes

-- ---- arms

terra_arm_turn : (levels : ℕ) (before : Tree) (ts : List Token) →
    reading levels (bind (token (λ t. is symbols.Elseif t) (λ t. Plain) (λ t. None) (sample symbols.Elseif)) λ x. terra.terra_arm before) ts ≡ (next_arm_at levels block_codes.Terra ts >>= λ e rest. Took (More before e) rest)
unfolding next_arm_at
terra_arm_turn levels before ts =
    sign_then levels symbols.Elseif (λ x. terra.terra_arm before) (λ y us. arm_at levels block_codes.Terra us >>= λ e rest. Took (More before e) rest) (λ y us. terra_arm_agrees levels before us) ts
    ∙ sym (bind_again (sign_at symbols.Elseif ts) (λ y us. arm_at levels block_codes.Terra us) (λ e rest. Took (More before e) rest))

pub arms_go : (levels : ℕ) (block : BlockCode) (before : Tree) (ts : List Token) → begins (is symbols.Elseif) ts ≡ true → more_arms_at levels block before ts ≡ (next_arm_at levels block ts >>= λ e rest. more_arms_at levels block (More before e) rest)
unfolding more_arms_at next_arm_at
arms_go levels (block_codes.Lua c) before ts h =
    repeats levels (λ b t. is symbols.Elseif t) (λ b t. Plain) (λ b t. None) (λ t x b. lua.arm c b) (sample symbols.Elseif) before (sign_at symbols.Elseif ts >>= λ y a. arm_at levels (block_codes.Lua c) a) (λ e. More before e) ts h (arm_turn levels c before ts)
arms_go levels block_codes.Terra before ts h =
    repeats levels (λ b t. is symbols.Elseif t) (λ b t. Plain) (λ b t. None) (λ t x b. terra.terra_arm b) (sample symbols.Elseif) before (sign_at symbols.Elseif ts >>= λ y a. arm_at levels block_codes.Terra a) (λ e. More before e) ts h (terra_arm_turn levels before ts)

pub arms_end : (levels : ℕ) (block : BlockCode) (before : Tree) (ts : List Token) → begins (is symbols.Elseif) ts ≡ false → more_arms_at levels block before ts ≡ Took before ts
unfolding more_arms_at
arms_end levels (block_codes.Lua c) before ts h = ends levels (λ b t. is symbols.Elseif t) (λ b t. Plain) (λ b t. None) (λ t x b. lua.arm c b) before ts h
arms_end levels block_codes.Terra before ts h = ends levels (λ b t. is symbols.Elseif t) (λ b t. Plain) (λ b t. None) (λ t x b. terra.terra_arm b) before ts h

pub arm_shorter : (levels : ℕ) (block : BlockCode) (x : Tree) (ts rest : List Token) → next_arm_at levels block ts ≡ Took x rest → length rest < length ts
unfolding next_arm_at
arm_shorter levels (block_codes.Lua c) x ts rest e =
    shorter_turn levels (λ t. is symbols.Elseif t) (λ t. Plain) (λ t. None) (sample symbols.Elseif) (λ x. lua.arm c Nothing) (sign_at symbols.Elseif ts >>= λ y a. arm_at levels (block_codes.Lua c) a) (λ e. More Nothing e) x ts rest (arm_turn levels c Nothing ts) e
arm_shorter levels block_codes.Terra x ts rest e =
    shorter_turn levels (λ t. is symbols.Elseif t) (λ t. Plain) (λ t. None) (sample symbols.Elseif) (λ x. terra.terra_arm Nothing) (sign_at symbols.Elseif ts >>= λ y a. arm_at levels block_codes.Terra a) (λ e. More Nothing e) x ts rest (terra_arm_turn levels Nothing ts) e

-- ---- targets

pub terra_targets_go : (levels : ℕ) (place : Place) (before : Tree) (ts : List Token) → begins (is symbols.Comma) ts ≡ true → terra_assignment_at levels place before ts ≡ (next_element_at levels (elements.Expression codes.Terra) ts >>= λ e rest. terra_assignment_at levels place (More before e) rest)
unfolding terra_assignment_at
terra_targets_go levels place before ts h =
    ap (λ (o : Outcome Tree). o >>= λ targets a. expressions_behind_at levels symbols.Equal codes.Terra a >>= λ es rest. Took (trees.TerraAssign place targets es) rest) (elements_go levels (elements.Expression codes.Terra) before ts h)
    ∙ bind_again (next_element_at levels (elements.Expression codes.Terra) ts) (λ e rest. more_elements_at levels (elements.Expression codes.Terra) (More before e) rest) (λ targets a. expressions_behind_at levels symbols.Equal codes.Terra a >>= λ es rest. Took (trees.TerraAssign place targets es) rest)

pub terra_targets_end : (levels : ℕ) (place : Place) (before : Tree) (ts : List Token) → begins (is symbols.Comma) ts ≡ false → terra_assignment_at levels place before ts ≡ (expressions_behind_at levels symbols.Equal codes.Terra ts >>= λ es rest. Took (trees.TerraAssign place before es) rest)
unfolding terra_assignment_at
terra_targets_end levels place before ts h =
    ap (λ (o : Outcome Tree). o >>= λ targets a. expressions_behind_at levels symbols.Equal codes.Terra a >>= λ es rest. Took (trees.TerraAssign place targets es) rest) (elements_end levels (elements.Expression codes.Terra) before ts h)

pub terra_target_shorter : (levels : ℕ) (x : Tree) (ts rest : List Token) → next_element_at levels (elements.Expression codes.Terra) ts ≡ Took x rest → length rest < length ts
terra_target_shorter levels x ts rest e = element_shorter levels (elements.Expression codes.Terra) x ts rest e

pub ruleset arms = (fails_bind, fails_after, fails_from, arms_go, arms_end, arm_shorter)

pub ruleset targets = (fails_bind, fails_after, fails_from, terra_targets_go, terra_targets_end, terra_target_shorter)

pub ruleset placed_names = (fails_bind, fails_after, next_of)
