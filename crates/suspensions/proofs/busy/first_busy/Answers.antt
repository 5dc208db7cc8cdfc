-- One module more.
use Rattle.std.proofs.Common.{◌+◌, ◌∙◌, ℕ, Bool, List, drop, sym, ap}
use Rattle.std.specs.List.{flat_map}
use Rattle.low_instructions.specs.declared.modules.Suspension.{Suspension}
use Rattle.process_store.specs.Table.{living}
use Rattle.script_state.proofs.Firsts.{behind, from_here, in_front, none_unless}
use Rattle.suspensions.specs.Suspending.{first_busy, is_busy, names, pids_of}
use Rattle.suspensions.proofs.busy.first_busy.Goals as goal

pub returns-in-Some : goal.returns-in-Some
returns-in-Some c =
    let test : ℕ → Bool = λ p. is_busy (living p c.args.processes.now) in
    let apps = c.args.apps.now in
    let modules = c.args.modules.now in
    let index = c.loop-module.module-index in
    let item = c.module-item.result in
    let here = from_here modules index item c.loop-module-test.true c.module-item.is in
    let rest = flat_map (λ (m : List ℕ). pids_of m apps) (names (drop (index + 1) modules)) in
    sym (c.loop-module.invariant ∙ ap (λ (ms : List Suspension). first_busy (names ms) apps c.args.processes.now) here ∙ in_front test (pids_of item.name apps) rest c.in-Some.pid (sym c.in-Some.ensures))

pub loop-module-preserved : goal.loop-module-preserved
loop-module-preserved c =
    let test : ℕ → Bool = λ p. is_busy (living p c.args.processes.now) in
    let apps = c.args.apps.now in
    let modules = c.args.modules.now in
    let index = c.loop-module.module-index in
    let item = c.module-item.result in
    let here = from_here modules index item c.loop-module-test.true c.module-item.is in
    let rest = flat_map (λ (m : List ℕ). pids_of m apps) (names (drop (index + 1) modules)) in
    let none = sym c.busy_of.ensures ∙ none_unless c.busy_of.result c.in_default.not-Some in
    c.loop-module.invariant ∙ ap (λ (ms : List Suspension). first_busy (names ms) apps c.args.processes.now) here ∙ behind test (pids_of item.name apps) rest none
