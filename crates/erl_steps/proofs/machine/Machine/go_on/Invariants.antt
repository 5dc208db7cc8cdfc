-- What comes of the values so far and of the operands that are left, is what comes of all.
use Rattle.std.proofs.Common.{◌≡◌, length}
use Rattle.erl_term.specs.Term.{trees}
use Rattle.erl_ir.specs.ExpressionForms.{exprs}
use Rattle.erl_steps.specs.Machine.{going_on}
use Rattle.erl_steps.specs.Views.{machine_of, world_of}
use Rattle.erl_steps.proofs.machine.Machine.go_on.Given as goal

abbrev pub invariant-loop-first : goal.invariant-loop-first
invariant-loop-first l =
    going_on (world_of l.world) l.operation (trees l.values.items) (exprs l.left) (machine_of l.self)
    ≡ going_on (world_of l.fn.world) l.fn.operation (trees l.fn.values.items) (exprs l.fn.rest) (machine_of l.fn.self)

abbrev pub decreases-loop-first : goal.decreases-loop-first
decreases-loop-first l = length l.left
