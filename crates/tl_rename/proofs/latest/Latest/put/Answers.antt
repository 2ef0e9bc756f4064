use Rattle.std.proofs.Common.{nat_eq, map, ap, ◌∙◌, refl}
use Rattle.std.specs.Prelude.{bytes_eq, ◌&&◌}
use Rattle.indexmap.specs.IndexMap.{insert_entry}
use Rattle.tl_rename.specs.Latest.{is_key}
use Rattle.tl_rename.proofs.Keyed.{insert_moved}
use Rattle.tl_rename.proofs.latest.Latest.put.Goals as goal

pub returns : goal.returns
returns c =
    ap (map (λ e. ((e.0.0, e.0.1.now), e.1))) c.in_ok-insert.ensures.entries
    ∙ insert_moved (λ k. (k.0, k.1.now)) (λ a b. nat_eq a.0 b.0 && bytes_eq a.1.now b.1.now) is_key (λ a b. refl) c.self.inside.entries.entries (c.args.owner, c.args.name) c.args.found
    ∙ ap (λ es. insert_entry is_key es (c.args.owner, c.args.name.now) c.args.found) c.self.view_is
