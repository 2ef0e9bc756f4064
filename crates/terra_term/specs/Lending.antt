-- The types of a store, lent to be changed.
use Rattle.std.specs.Prelude.{List}
use Rattle.std.specs.Borrow.{Lends, MutBor, Fml}
use Rattle.terra_types.specs.declared.types.TypeForm.{TypeForm}
use Rattle.terra_types.specs.contracts.types.Types as types
use Rattle.terra_term.specs.contracts.store.Store.{the_row}
use Rattle.terra_term.specs.Held.{Held, with_types}

-- the store ends with the types that are left
abbrev pub LendsTypes : MutBor Held → MutBor (List TypeForm) → Fml
LendsTypes s r = Lends the_row types.the_row s r (with_types s.now)
