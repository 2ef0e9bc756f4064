use Rattle.std.proofs.Common.{◌≡◌, [], ◌∷◌, ◌++◌, ◌∙◌, ap, sym, rules}
use Rattle.terra_term.specs.Finding.{ids_of}
use Rattle.terra_term.proofs.Finding.{id_put}
use Rattle.terra_term.proofs.store.push_name.Goals as goal

pub returns-clause-same : goal.returns-clause-same
returns-clause-same c =
    let all : c.push.new.self.items ≡ c.args.names.now.items ++ c.args.name ∷ [] = search rules in
    c.in_ok-insert.ensures.keys ∙ (id_put c.args.ids.now.keys c.args.names.now.items c.args.name c.requires.same c.requires.absent ∙ ap ids_of (sym all))
