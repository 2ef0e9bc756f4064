use Rattle.check_expr.proofs.Scoping.{closed}
use Rattle.check_expr.proofs.quoted.Scopes.close.Goals as goal

pub returns-in-Some : goal.returns-in-Some
returns-in-Some c = λ w base es.
    let s = c.args.self.now in
    closed w base s.declared.items c.truncate.new.self.items s.marks.items c.pop.new.self.items c.in-Some.mark es c.in-Some.ensures.items
    c.truncate.ensures.items
