-- What is raised where a quote or a function is past the limits of nodes and levels.
use Rattle.std.specs.Prelude.{nat_le, if◌then◌else◌, Option, Some, None}
use Rattle.terra_term.specs.declared.size.Size.{Size}
use Rattle.exotype.specs.declared.fault.Fault.{Fault}
use Rattle.exotype.specs.declared.fault.Fault.TheVariants as faults
use Rattle.spec_model.specs.Quotes.{most_nodes, most_levels}

abbrev pub fault_of : Size → Option Fault
fault_of size =
    if nat_le size.nodes most_nodes then (if nat_le size.levels most_levels then None else Some faults.TermTooDeep)
    else Some faults.TermTooLarge
