-- What the code reads of a node is what the definition says is within it.
use Rattle.std.specs.Prelude.{◌++◌}
use Rattle.tl_rename.specs.declared.within.Inside.{Inside}
use Rattle.tl_tree.specs.Scopes.{Within}

abbrev pub within_of : Inside → Within
within_of x = record { around = x.around; names = x.names; statements = x.statements; behind = x.behind }

-- what is read, and then more
abbrev pub and_more : Inside → Within → Within
and_more x w =
    record {
      around = x.around ++ w.around;
      names = x.names ++ w.names;
      statements = x.statements ++ w.statements;
      behind = x.behind ++ w.behind;
    }
