-- A step leads on and leaves less to do, and the end is what came.
use Rattle.erl_steps.specs.Views.{control_of, machine_of, world_of}
use Rattle.callback_lang.proofs.Finishing.{at_end, not_ended, one_step, one_step_less}
use Rattle.callback_lang.proofs.evaluation.finish.Goals as goal

pub returns-in-End : goal.returns-in-End
returns-in-End c = at_end (world_of c.args.world.now) (control_of c.args.control) (machine_of c.args.machine.now) c.loop-next.machine
    c.loop-next.next c.in-End.end c.in-End.is c.loop-next.invariant

pub loop-next-preserved : goal.loop-next-preserved
loop-next-preserved c = λ f d. c.loop-next.invariant f (one_step (world_of c.args.world.now) (control_of c.loop-next.next)
    (machine_of c.loop-next.machine) (control_of c.in_ok-next-in_default.next) (machine_of c.step.new.self)
    c.in_ok-next-in_default.ensures f d)

pub loop-next-smaller : goal.loop-next-smaller
loop-next-smaller c = one_step_less (world_of c.args.world.now) (control_of c.loop-next.next) (machine_of c.loop-next.machine)
    (control_of c.in_ok-next-in_default.next) (machine_of c.step.new.self) c.in_ok-next-in_default.ensures
    (not_ended c.loop-next.next c.in_default.not-End)
