-- What is within the limits of nodes and levels goes on, and what isn't raises.
use Rattle.std.proofs.Common.{◌≡◌, Bool, true, false, Option, Some, None, refl, ap}
use Rattle.std.specs.Prelude.{nat_le, if◌then◌else◌}
use Rattle.tl_base.specs.declared.place.Place.{Place}
use Rattle.terra_term.specs.declared.size.Size.{Size}
use Rattle.exotype.specs.declared.fault.Fault.{Fault}
use Rattle.exotype.specs.declared.fault.Fault.TheVariants as faults
use Rattle.spec_model.specs.Plans.{SpecPlan, raise}
use Rattle.spec_model.specs.Quotes.{most_nodes, most_levels, limited}
use Rattle.spec_machine.specs.Limits.{fault_of}

-- the fault by both tests, and the plan by both tests
abbrev fault_by : Bool → Bool → Option Fault
fault_by few flat = if few then (if flat then None else Some faults.TermTooDeep) else Some faults.TermTooLarge

abbrev plan_by : Bool → Bool → Place → SpecPlan → SpecPlan
plan_by few flat place rest = if few then (if flat then rest else raise place faults.TermTooDeep) else raise place faults.TermTooLarge

within_by : (few flat : Bool) (place : Place) (rest : SpecPlan) → fault_by few flat ≡ None → plan_by few flat place rest ≡ rest
within_by true true place rest is = refl
within_by true false place rest is = absurd (cc is)
within_by false flat place rest is = absurd (cc is)

past_by : (few flat : Bool) (place : Place) (rest : SpecPlan) (fault : Fault) → fault_by few flat ≡ Some fault
    → plan_by few flat place rest ≡ raise place fault
past_by true true place rest fault is = absurd (cc is)
past_by true false place rest fault is =
    let same : faults.TermTooDeep ≡ fault = cc in
    ap (λ (f : Fault). raise place f) same
past_by false flat place rest fault is =
    let same : faults.TermTooLarge ≡ fault = cc in
    ap (λ (f : Fault). raise place f) same

pub within_limits : (size : Size) (place : Place) (rest : SpecPlan) → fault_of size ≡ None → limited size place rest ≡ rest
within_limits size place rest is = within_by (nat_le size.nodes most_nodes) (nat_le size.levels most_levels) place rest is

pub past_limits : (size : Size) (place : Place) (rest : SpecPlan) (fault : Fault) → fault_of size ≡ Some fault
    → limited size place rest ≡ raise place fault
past_limits size place rest fault is = past_by (nat_le size.nodes most_nodes) (nat_le size.levels most_levels) place rest fault is
