-- One more in each turn, and last of all the pid that was given last.
use Rattle.std.proofs.Common.{◌≡◌, ◌∙◌, ◌+◌, ◌<◌, ◌++◌, ◌∷◌, [], ap, sym, List, Option, map, take, length, arith}
use Rattle.std.proofs.lemmas.List.{take_all}
use Rattle.node_views.proofs.Taken.{entry_view, one_more_entry}
use Rattle.node_views.specs.declared.process_view.ProcessView.{ProcessView}
use Rattle.node_views.proofs.seen.process_views.Goals as goal

pub loop-pid-preserved : goal.loop-pid-preserved
loop-pid-preserved c =
    let t = c.args.processes.now in
    let pid = c.loop-pid.pid in
    let within : pid < length t.slots = omega (arith, c.last_pid-last.ensures.pid, c.loop-pid-test.true) in
    c.in_ok-push.ensures.items
    ∙ ap (λ (vs : List (Option ProcessView)). vs ++ c.in_ok-living_view.field-0 ∷ []) c.loop-pid.invariant
    ∙ ap (λ (v : Option ProcessView). map entry_view (take pid t.slots) ++ v ∷ []) c.in_ok-living_view.ensures
    ∙ sym (one_more_entry t pid within)

pub returns : goal.returns
returns c =
    let t = c.args.processes.now in
    let pid = c.loop-pid.pid in
    let last = c.last_pid-last.result in
    let at : pid ≡ last = omega (arith, c.loop-pid-test.false, c.loop-pid.auto.pid-end) in
    let within : last < length t.slots = omega (arith, c.last_pid-last.ensures.pid) in
    c.new.ensures ∙ c.in_ok-push-2.ensures.items
    ∙ ap (λ (vs : List (Option ProcessView)). vs ++ c.in_ok-living_view-2.field-0 ∷ [])
    (c.loop-pid.invariant ∙ ap (λ n. map entry_view (take n t.slots)) at)
    ∙ ap (λ (v : Option ProcessView). map entry_view (take last t.slots) ++ v ∷ []) c.in_ok-living_view-2.ensures
    ∙ sym (one_more_entry t last within)
    ∙ ap (map entry_view) (take_all (last + 1) t.slots (omega (arith, c.last_pid-last.ensures.pid)))
