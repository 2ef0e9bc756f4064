use Rattle.check_library.proofs.Kept.{behind_on, keeps_pointer}
use Rattle.check_library.proofs.checks.give_primitive_type.Goals as goal

pub returns-in_ok-bytes-in-Write-clause-kept : goal.returns-in_ok-bytes-in-Write-clause-kept
returns-in_ok-bytes-in-Write-clause-kept c =
    behind_on c.give_function_type-in-Write.result c.args.world.now _ _ c.give_function_type-in-Write.new.world
    c.in_ok-bytes-in-Write.ensures.ok (keeps_pointer _ _) c.give_function_type-in-Write.ensures.kept

pub returns-in_ok-bytes-in-Alloc-clause-kept : goal.returns-in_ok-bytes-in-Alloc-clause-kept
returns-in_ok-bytes-in-Alloc-clause-kept c =
    behind_on c.give_function_type-in-Alloc.result c.args.world.now _ _ c.give_function_type-in-Alloc.new.world
    c.in_ok-bytes-in-Alloc.ensures.ok (keeps_pointer _ _) c.give_function_type-in-Alloc.ensures.kept
