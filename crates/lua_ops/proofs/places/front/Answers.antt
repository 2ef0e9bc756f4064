use Rattle.std.proofs.Common.{◌≡◌, [], arith}
use Rattle.std.proofs.lemmas.Grind.{common_steps}
use Rattle.tl_base.specs.declared.place.Place.{Place}
use Rattle.lua_ops.specs.Placed.{placed}
use Rattle.lua_ops.proofs.Placing.{place_is_short}
use Rattle.lua_ops.proofs.places.front.Goals as goal

pub returns-clause-short : goal.returns-clause-short
returns-clause-short c =
    let place : Place = record { line = c.args.line; word = c.args.word } in
    let front : c.push_all.new.self ≡ placed place [] = grind (arith, common_steps) in
    rw front (place_is_short place c.ranges.line.fits c.ranges.word.fits)
