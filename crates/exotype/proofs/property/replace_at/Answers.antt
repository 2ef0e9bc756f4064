use Rattle.exotype.proofs.Keeping.{replaced}
use Rattle.exotype.proofs.property.replace_at.Goals as goal

pub returns-in-Some : goal.returns-in-Some
returns-in-Some c = replaced c.args.properties.now.entries c.args.property.now c.args.known c.args.place c.requires
