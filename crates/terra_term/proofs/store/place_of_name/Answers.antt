use Rattle.std.proofs.Common.{List, ℕ, ◌∙◌, ap}
use Rattle.std.specs.Prelude.{nat_eq, position}
use Rattle.terra_term.proofs.Finding.{name_found}
use Rattle.terra_term.proofs.store.place_of_name.Goals as goal

pub returns : goal.returns
returns c =
    c.get_index_of.ensures.index ∙ (ap (λ (ids : List ℕ). position (nat_eq c.args.text.0) ids) c.requires ∙ name_found c.args.names.now c.args.text)
