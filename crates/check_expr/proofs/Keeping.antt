-- What later worlds keep: with another store, and with a typed node or a quote more.
use Rattle.std.proofs.Common.{◌≡◌, [], ◌∷◌, refl, sym, subst}
use Rattle.lua_table.proofs.Keeping.{front_more}
use Rattle.terra_term.specs.declared.typed.Typed.{Typed}
use Rattle.terra_term.specs.declared.store.Quote.{Quote}
use Rattle.terra_term.specs.Held.{Held, with_typed, with_quote}
use Rattle.exotype.specs.World.{StageState, with_store}
use Rattle.check_model.specs.Typing.{TypingState}
use Rattle.check_expr.specs.Keeping.{KeepsTyping, KeepsStage, KeepsStore}
use Rattle.check_expr.specs.Kept.{store_itself, stage_itself}
use Rattle.check_expr.specs.Steps.{with_node}

-- a world that is another one, which is kept
pub kept_as : (u v w : TypingState) → v ≡ w → KeepsTyping u w → KeepsTyping u v
kept_as u v w is kept = subst (KeepsTyping u) (sym is) kept

-- what is kept of a world, where another one is that
pub kept_from : (u v w : TypingState) → v ≡ u → KeepsTyping v w → KeepsTyping u w
kept_from u v w is kept = subst (λ (x : TypingState). KeepsTyping x w) is kept

-- another store
pub keeps_store : (w : StageState) (s : Held) → KeepsStore w.store s → KeepsStage w (with_store w s)
keeps_store w s kept =
    let same = stage_itself w in
    record { heap = refl; store = kept; structs = refl; known = same.known; exports = refl; memory = refl }

pub store_typed : (s : Held) (node : Typed) → KeepsStore s (with_typed s node)
store_typed s node =
    let same = store_itself s in
    record {
      functions = same.functions;
      types = same.types;
      terms = same.terms;
      typed = front_more s.typed (node ∷ []);
      statics = same.statics;
      symbols = same.symbols;
      quotes = same.quotes;
      names = same.names;
      constants = same.constants;
      globals = same.globals;
    }

pub store_quoted : (s : Held) (quote : Quote) → KeepsStore s (with_quote s quote)
store_quoted s quote =
    let same = store_itself s in
    record {
      functions = same.functions;
      types = same.types;
      terms = same.terms;
      typed = same.typed;
      statics = same.statics;
      symbols = same.symbols;
      quotes = front_more s.quotes (quote ∷ []);
      names = same.names;
      constants = same.constants;
      globals = same.globals;
    }

pub keeps_node : (w : TypingState) (node : Typed) → KeepsTyping w (with_node w node)
keeps_node w node = keeps_store w.stage (with_typed w.stage.store node) (store_typed w.stage.store node)
