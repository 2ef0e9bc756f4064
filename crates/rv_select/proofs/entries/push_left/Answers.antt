use Rattle.std.proofs.Common.{◌++◌, refl}
use Rattle.rv_select.specs.Entering.{frames_given, left, link_put_back, put_back}
use Rattle.rv_select.specs.Places.{Layout, with_extent}
use Rattle.rv_select.proofs.Pushed.{turn}
use Rattle.rv_select.proofs.entries.push_left.Goals as goal

pub returns : goal.returns
returns c =
    let a = c.args in
    let y : Layout = with_extent a.homes.now a.extent in
    let rest = put_back y 10 18 ++ frames_given a.bytes a.frame in
    turn c.push_frames_given.result a.code.now.items c.push_link_put_back.new.code.items c.push_frames_given.new.code.items
    (link_put_back y) rest (left y a.bytes a.frame) refl c.in_ok-push_link_put_back.ensures
    (turn c.push_frames_given.result c.push_link_put_back.new.code.items c.push_put_back.new.code.items
    c.push_frames_given.new.code.items (put_back y 10 18) (frames_given a.bytes a.frame) rest refl c.in_ok-push_put_back.ensures
    c.push_frames_given.ensures)
