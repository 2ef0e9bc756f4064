use Rattle.std.proofs.Common.{nat_eq, ap, ◌∙◌, refl}
use Rattle.std.specs.Prelude.{bytes_eq, ◌&&◌}
use Rattle.std.specs.Map.{lookup}
use Rattle.tl_rename.specs.Latest.{is_key}
use Rattle.tl_rename.proofs.Keyed.{lookup_moved}
use Rattle.tl_rename.proofs.latest.Latest.get.Goals as goal

pub returns-in-Some : goal.returns-in-Some
returns-in-Some c =
    c.in-Some.ensures.value
    ∙ lookup_moved (λ k. (k.0, k.1.now)) (λ a b. nat_eq a.0 b.0 && bytes_eq a.1.now b.1.now) is_key (λ a b. refl) c.self.inside.entries.entries (c.args.owner, c.args.name)
    ∙ ap (lookup (is_key (c.args.owner, c.args.name.now))) c.self.view_is

pub returns-in-None : goal.returns-in-None
returns-in-None c =
    c.in-None.ensures.value
    ∙ lookup_moved (λ k. (k.0, k.1.now)) (λ a b. nat_eq a.0 b.0 && bytes_eq a.1.now b.1.now) is_key (λ a b. refl) c.self.inside.entries.entries (c.args.owner, c.args.name)
    ∙ ap (lookup (is_key (c.args.owner, c.args.name.now))) c.self.view_is
