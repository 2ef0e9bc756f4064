use Rattle.std.specs.Prelude.{codes}
use Rattle.std.specs.Int.{div_ceil}
use Rattle.std.specs.String.{string_bytes}
use Rattle.gen_source.specs.Generated.{function_lines, all_groups, group_calls}
use Rattle.gen_source.proofs.Growing.{grown-by_six}
use Rattle.gen_source.proofs.generating.generate.Goals as goal

pub returns : goal.returns
returns c =
    grown-by_six (string_bytes c.push_str.new.self) (string_bytes c.push_functions.new.out) (string_bytes c.push_groups.new.out)
    (string_bytes c.push_str-2.new.self) (string_bytes c.push_group_calls.new.out) (string_bytes c.push_str-3.new.self)
    (codes "struct P { a : int64; b : int64 }\n") (function_lines c.args.count) (all_groups c.args.count (div_ceil c.args.count 100))
    (codes "terra main() : int64\nvar s : int64 = 1\n") (group_calls (div_ceil c.args.count 100))
    (codes "return s end\nterralib.saveobj(\"gen\", {main = main})\n")
    (rw c.new-out.ensures.bytes at c.in_ok-push_str.ensures.bytes) c.in_ok-push_functions.ensures
    (rw c.div_ceil-groups.ensures at c.in_ok-push_groups.ensures) c.in_ok-push_str-2.ensures.bytes
    (rw c.div_ceil-groups.ensures at c.in_ok-push_group_calls.ensures) c.in_ok-push_str-3.ensures.bytes
