-- One application more.
use Rattle.std.proofs.Common.{◌≡◌, ◌<◌, ◌+◌, ◌∙◌, ℕ, Bool, List, drop, length, None, Some, sym, ap, arith}
use Rattle.std.specs.List.{find}
use Rattle.app_table.specs.Applications.{Application}
use Rattle.app_table.specs.declared.child.Child.{Child}
use Rattle.process_store.specs.Table.{living}
use Rattle.script_state.proofs.Firsts.{behind, from_there, in_front, none_unless}
use Rattle.suspensions.specs.Suspending.{is_busy, pids_in, pids_of}
use Rattle.suspensions.proofs.busy.busy_of.Goals as goal

pub returns-in-Some : goal.returns-in-Some
returns-in-Some c =
    let test : ℕ → Bool = λ p. is_busy (living p c.args.processes.now) in
    let apps = c.args.apps.now in
    let index = c.loop-index.index in
    let name = c.args.name.now in
    let a = c.app_at.result.now in
    let within : index < length apps = omega (arith, c.len-index-end.ensures, c.loop-index-test.true) in
    let here = from_there apps index a within c.app_at.ensures in
    let front : find test (pids_in name a.children) ≡ Some c.in-Some.pid = sym (c.in-Some.ensures ∙ ap (λ (cs : List Child). find test (pids_in name cs)) c.children.ensures) in
    sym (c.loop-index.invariant ∙ ap (λ (xs : List Application). find test (pids_of name xs)) here ∙ in_front test (pids_in name a.children) (pids_of name (drop (index + 1) apps)) c.in-Some.pid front)

pub loop-index-preserved : goal.loop-index-preserved
loop-index-preserved c =
    let test : ℕ → Bool = λ p. is_busy (living p c.args.processes.now) in
    let apps = c.args.apps.now in
    let index = c.loop-index.index in
    let name = c.args.name.now in
    let a = c.app_at.result.now in
    let within : index < length apps = omega (arith, c.len-index-end.ensures, c.loop-index-test.true) in
    let here = from_there apps index a within c.app_at.ensures in
    let none : find test (pids_in name a.children) ≡ None = ap (λ (cs : List Child). find test (pids_in name cs)) (sym c.children.ensures) ∙ sym c.busy_in.ensures ∙ none_unless c.busy_in.result c.in_default.not-Some in
    c.loop-index.invariant ∙ ap (λ (xs : List Application). find test (pids_of name xs)) here ∙ behind test (pids_in name a.children) (pids_of name (drop (index + 1) apps)) none
