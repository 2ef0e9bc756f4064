use Rattle.std.proofs.Common.{◌++◌, refl}
use Rattle.rv_select.specs.Places.{with_homes}
use Rattle.rv_select.specs.Shapes.{allocated, bytes_given, first_taken, heap_aligned, limit_found, put_at}
use Rattle.rv_select.proofs.Pushed.{turn}
use Rattle.rv_select.proofs.outputs.push_allocated.Goals as goal

pub returns : goal.returns
returns c =
    let y = with_homes c.args.homes.now in
    let r = c.push_put.result in
    let first = c.push_first.new.code.items in
    let second = c.push_heap_aligned.new.code.items in
    let third = c.push_limit_found.new.code.items in
    let fourth = c.push_bytes_given.new.code.items in
    let new = c.push_put.new.code.items in
    let put = put_at y c.args.temp in
    turn r c.args.code.now.items first new (first_taken y c.args.held c.args.a) (heap_aligned ++ (limit_found ++ (bytes_given ++ put)))
    (allocated y c.args.held c.args.temp c.args.a) refl c.in_ok-push_first.ensures
    (turn r first second new heap_aligned (limit_found ++ (bytes_given ++ put)) (heap_aligned ++ (limit_found ++ (bytes_given ++ put))) refl
    c.in_ok-push_heap_aligned.ensures
    (turn r second third new limit_found (bytes_given ++ put) (limit_found ++ (bytes_given ++ put)) refl c.in_ok-push_limit_found.ensures
    (turn r third fourth new bytes_given put (bytes_given ++ put) refl c.in_ok-push_bytes_given.ensures c.push_put.ensures)))
