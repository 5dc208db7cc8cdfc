-- Whatever comes of what is left also comes of what was there first, and each step leaves less to do.
use Rattle.erl_steps.specs.Leading.{Final, Comes}
use Rattle.erl_steps.specs.Views.{control_of, machine_of, world_of}
use Rattle.erl_steps.specs.Work.{work_left}
use Rattle.callback_lang.proofs.evaluation.finish.Given as goal

abbrev pub invariant-loop-next : goal.invariant-loop-next
invariant-loop-next l = (f : Final) → Comes (world_of l.world) (control_of l.next) (machine_of l.machine) f →
    Comes (world_of l.world) (control_of l.fn.control) (machine_of l.fn.machine) f

abbrev pub decreases-loop-next : goal.decreases-loop-next
decreases-loop-next l = work_left (world_of l.world) (control_of l.next) (machine_of l.machine)
