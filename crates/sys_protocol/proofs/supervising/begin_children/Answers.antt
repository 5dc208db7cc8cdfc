-- The children that have started run.
use Rattle.std.proofs.Common.{List, ap, subst, ◌∙◌}
use Rattle.values.specs.Failure.{Fails}
use Rattle.sys_protocol.specs.RunningChildren.{all_running}
use Rattle.child_specs.specs.declared.child.ChildSpec.{ChildSpec}
use Rattle.sys_protocol.specs.ChildStarts.{AllStart}
use Rattle.sys_protocol.specs.ChildFaults.{StartFails}
use Rattle.sys_protocol.proofs.supervising.begin_children.Goals as goal

pub returns-in_ok-all_running-in-Ok-clause-started : goal.returns-in_ok-all_running-in-Ok-clause-started
returns-in_ok-all_running-in-Ok-clause-started c =
    λ before t told way.
    let (after, others, all, under) = c.in-Ok.ensures.started before t told way in
    let start = subst (λ (cs : List ChildSpec). AllStart c.args.code.now cs t c.in-Ok.pids.items after others) c.as_slice.ensures all in
    let run = c.in_ok-all_running-in-Ok.ensures ∙ ap (all_running c.args.specs) c.as_slice-in-Ok.ensures.value in
    (after, others, (c.in-Ok.pids.items, start, run), under)

pub returns-in-Err-clause-failed : goal.returns-in-Err-clause-failed
returns-in-Err-clause-failed c =
    λ before t told way.
    subst (λ (cs : List ChildSpec). Fails (λ failed. StartFails failed c.args.code.now cs t) (Unit {0}) c.in-Err.failure) c.as_slice.ensures (c.in-Err.ensures.failed before t told way)
