use Rattle.std.proofs.Common.{◌≡◌, true, [], ◌∷◌, ◌++◌, ◌∙◌, ap, sym, rules}
use Rattle.terra_term.specs.Finding.{texts_in, found_texts}
use Rattle.terra_term.proofs.Finding.{text_put}
use Rattle.terra_term.proofs.store.push_text.Goals as goal

pub returns-clause-same : goal.returns-clause-same
returns-clause-same c =
    let key : c.in_ok-key.key.items ≡ c.args.bytes.items = search rules in
    let all : c.push.new.self.items ≡ c.args.statics.now.items ++ record { address = c.args.address; is_text = true; bytes = c.args.bytes.items } ∷ [] = search rules in
    ap found_texts c.in_ok-insert.ensures.entries ∙
    (text_put c.args.texts.now.entries c.args.statics.now.items c.in_ok-key.key c.args.bytes.items c.args.address key c.requires.same c.requires.absent ∙
    ap texts_in (sym all))
