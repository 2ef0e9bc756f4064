-- The entries of a layout as the code keeps them: a view of the code, which private contracts cite.
use Rattle.tl_base.specs.declared.ids.TextId.{TextId}
use Rattle.terra_types.specs.declared.layout.Laid.{Laid}
use Rattle.terra_types.specs.declared.layout.Spot.{Spot}

-- an entry that stands under its name
abbrev pub laid_of : TextId × Spot → Laid
laid_of e = record { field = e.0; offset = e.1.offset; of = e.1.of }
