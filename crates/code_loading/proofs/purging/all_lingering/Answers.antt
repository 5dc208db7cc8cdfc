-- One module more has its turn, which has old code or none.
use Rattle.std.proofs.Common.{◌+◌, ◌++◌, sym, ap, ◌∙◌, drop}
use Rattle.std.proofs.lemmas.List.{drop_all}
use Rattle.process_effects.specs.Uses.{users}
use Rattle.code_loading.proofs.Alone.{none_purged, one_purged, turns_end, without_nobody}
use Rattle.code_loading.proofs.ModuleByModule.{left_lingering}
use Rattle.code_loading.proofs.Turns.{turn_at}
use Rattle.code_loading.specs.Several.{without_all_users}
use Rattle.code_loading.proofs.purging.all_lingering.Goals.{in-Some+in_ok-push_users+in_ok-push, in_default}
use Rattle.code_loading.proofs.purging.all_lingering.Goals as goal

pub loop-name-init : goal.loop-name-init
loop-name-init c =
    (λ j. c.new-pids.ensures.items j ++ left_lingering c.args.names.now c.args.modules.now (without_all_users (c.new-serials.ensures.items j) c.args.processes.now))
    ∙ ap (left_lingering c.args.names.now c.args.modules.now) (without_nobody c.args.processes.now)

pub loop-name-preserved : goal.loop-name-preserved
loop-name-preserved c =
    let n = c.name-item.result in
    let at = turn_at c.args.names.now c.loop-name.name-index n c.loop-name-test.true c.name-item.is in
    let here = drop c.loop-name.name-index c.args.names.now in
    let ns = drop (c.loop-name.name-index + 1) c.args.names.now in
    let m = c.args.modules.now in
    let t = c.args.processes.now in
    let serials = c.loop-name.serials.items in
    let pids = c.loop-name.pids.items in
    elim c.match-old_serial.branch [
      | in-Some+in_ok-push_users+in_ok-push w ↦
          let pushed = ap (λ v. v.items) w.pids-is ∙ w.in_ok-push_users.ensures ∙ ap (λ x. pids ++ users w.in-Some.serial (without_all_users x t)) w.as_slice.ensures.value in
          let more = ap (λ v. v.items) w.serials-is ∙ w.in_ok-push.ensures.items in
          one_purged n ns here m t w.in-Some.serial serials c.match-old_serial.serials.items pids c.match-old_serial.pids.items at w.in-Some.ensures pushed more
          ∙ c.loop-name.invariant
      | in_default w ↦
          (λ j. (w.pids-is j).items ++ left_lingering ns m (without_all_users (w.serials-is j).items t))
          ∙ none_purged n ns here m (without_all_users serials t) pids at w.in_default.ensures
          ∙ c.loop-name.invariant
    ]

pub returns : goal.returns
returns c =
    let none = drop_all c.loop-name.name-index c.args.names.now c.loop-name-test.false in
    turns_end c.args.names.now c.args.modules.now c.args.processes.now (without_all_users c.loop-name.serials.items c.args.processes.now) c.loop-name.pids.items c.len-count.ensures.sound
    (ap (λ x. c.loop-name.pids.items ++ left_lingering x c.args.modules.now (without_all_users c.loop-name.serials.items c.args.processes.now)) (sym none) ∙ c.loop-name.invariant)
