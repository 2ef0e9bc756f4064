-- The texts of the errors that are raised where Lua values meet Terra code, without a place before them.
use Rattle.std.specs.Prelude.{ℕ, List, ◌++◌, codes, decimal}
use Rattle.lua_value.specs.Kinds.{kind_text}
use Rattle.lua_value.specs.Library.{library_text}
use Rattle.exotype.specs.declared.fault.Fault.{Fault}
use Rattle.exotype.specs.declared.fault.Fault.TheVariants.{NotAType, InTerraCode, NumberOutOfInt32, ListForOneTerm}
use Rattle.exotype.specs.declared.fault.Fault.TheVariants.{StatementsForExpression, SymbolWithoutType, TermTooLarge, TermTooDeep}
use Rattle.exotype.specs.declared.fault.Fault.TheVariants.{DiffersFromDeclaration, AlreadyDefined, Index, StaticsFull, TypeTooLarge}
use Rattle.exotype.specs.declared.fault.Fault.TheVariants.{BadExport, QuoteWithoutType, BadArgument}

abbrev pub fault_text : Fault → List ℕ
fault_text NotAType = codes "not a Terra type"
fault_text (InTerraCode kind) = kind_text kind ++ codes " value in Terra code"
fault_text NumberOutOfInt32 = codes "number out of int32"
fault_text ListForOneTerm = codes "list where one term is wanted"
fault_text StatementsForExpression = codes "statements where an expression is wanted"
fault_text SymbolWithoutType = codes "symbol without type"
fault_text TermTooLarge = codes "term too large"
fault_text TermTooDeep = codes "term too deep"
fault_text DiffersFromDeclaration = codes "definition differs from its declaration"
fault_text AlreadyDefined = codes "already defined"
fault_text (Index kind) = codes "attempt to index a " ++ kind_text kind ++ codes " value"
fault_text StaticsFull = codes "statics full"
fault_text TypeTooLarge = codes "type too large"
fault_text BadExport = codes "bad export"
fault_text QuoteWithoutType = codes "quote has no type"
fault_text (BadArgument n function) = codes "bad argument " ++ (decimal n ++ (codes " to " ++ library_text function))
