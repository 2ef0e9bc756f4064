use Rattle.std.proofs.Common.{◌++◌, refl}
use Rattle.rv_select.specs.Entering.{frame_taken, link_saved, pointer_down, saved}
use Rattle.rv_select.specs.Places.{Layout, with_extent}
use Rattle.rv_select.proofs.Pushed.{turn}
use Rattle.rv_select.proofs.entries.push_frame_taken.Goals as goal

pub returns : goal.returns
returns c =
    let a = c.args in
    let y : Layout = with_extent a.homes.now a.extent in
    let rest = link_saved y ++ saved y 10 18 in
    turn c.push_saved.result a.code.now.items c.push_pointer_down.new.code.items c.push_saved.new.code.items (pointer_down a.bytes) rest
    (frame_taken y a.bytes) refl c.in_ok-push_pointer_down.ensures
    (turn c.push_saved.result c.push_pointer_down.new.code.items c.push_link_saved.new.code.items c.push_saved.new.code.items
    (link_saved y) (saved y 10 18) rest refl c.in_ok-push_link_saved.ensures c.push_saved.ensures)
