use Rattle.std.proofs.Common.{◌+◌, ◌-◌, ◌*◌}
use Rattle.std.specs.Prelude.{min, codes, decimal}
use Rattle.std.specs.String.{string_bytes}
use Rattle.gen_source.specs.Generated.{step_lines}
use Rattle.gen_source.proofs.Growing.{grown-by_group}
use Rattle.gen_source.proofs.generating.push_group.Goals as goal

pub returns : goal.returns
returns c =
    grown-by_group (string_bytes c.args.out.now) (string_bytes c.write.new.self) (string_bytes c.push_steps.new.out)
    (string_bytes c.push_str.new.self) (codes "terra m") (decimal (c.args.before + 1)) (codes "(s : int64) : int64\n")
    (step_lines (100 * c.args.before) (min 100 (c.args.count - 100 * c.args.before))) (codes "return s end\n")
    c.in_ok-write.ensures.bytes (rw c.min.ensures at c.in_ok-push_steps.ensures) c.in_ok-push_str.ensures.bytes
