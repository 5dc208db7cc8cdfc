-- There are as many applications as were added.
use Rattle.std.proofs.Common.{◌∙◌, ap, arith, length}
use Rattle.app_table.proofs.Replacing.{length-replaced}
use Rattle.app_table.proofs.table.AppTable.unset_specs.Goals as goal

pub overflow_sub-left : goal.overflow_sub-left
overflow_sub-left c =
    let seen = ap length (c.as_slice.ensures.value ∙ c.self.view_is ∙ c.swap_back.ensures.set) in
    omega (arith, seen, length-replaced c.as_mut_slice.result.now c.args.self.now, c.requires.0)
