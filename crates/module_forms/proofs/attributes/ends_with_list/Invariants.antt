-- The last of those that were seen.
use Rattle.std.proofs.Common.{◌≡◌, take}
use Rattle.erl_ast.specs.Forms.{ends_with_list}
use Rattle.erl_ast.specs.TreeForms.{trees}
use Rattle.module_forms.proofs.attributes.ends_with_list.Given as goal

abbrev pub invariant-loop-part : goal.invariant-loop-part
invariant-loop-part l = l.ends ≡ ends_with_list (trees (take l.part-index l.parts))
