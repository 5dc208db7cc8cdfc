-- The loop ends where no child is left, or no pid.
use Rattle.std.proofs.Common.{◌≡◌, ◌∙◌, [], inl, inr, sym}
use Rattle.sys_protocol.specs.RunningChildren.{all_running}
use Rattle.sys_protocol.proofs.AllRunning.{all_there, no_child, no_pid}
use Rattle.sys_protocol.proofs.children.all_running.Goals as goal

pub returns : goal.returns
returns c =
    let cs = c.loop-spec.spec-iterator.a.rest.items in
    let ps = c.loop-spec.spec-iterator.b.rest.now in
    let all = all_running c.args.specs c.args.pids.now in
    let no_more : all_running cs ps ≡ [] = elim c.in-None.ensures.steps [ inl ended ↦ no_child cs ps (sym c.loop-spec.spec-iterator.a.rest.ok.0 ∙ ended.1.0) | inr ended ↦ no_pid cs ps ended.1.0 ] in
    c.in_ok-running.ensures ∙ c.new.ensures ∙ all_there c.loop-spec.children.items cs ps all c.loop-spec.invariant no_more
