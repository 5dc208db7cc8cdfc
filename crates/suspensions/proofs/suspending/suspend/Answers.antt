-- Each that was suspended rested, and they are the last.
use Rattle.std.proofs.Common.{◌≤◌, ◌++◌, ◌∙◌, ℕ, All, List, length, map, sym, ap, subst}
use Rattle.app_table.specs.Modules.{running_with}
use Rattle.process_store.specs.Table.{living}
use Rattle.process_table.specs.States.{IsIdle, all_resumed}
use Rattle.suspensions.proofs.Suspended.{but_last_appended, idle_all, last_appended, within_appended}
use Rattle.suspensions.specs.Suspending.{but_last, last_of, names}
use Rattle.suspensions.proofs.suspending.suspend.Goals as goal

pub returns-clause-back : goal.returns-clause-back
returns-clause-back c =
    let t = c.args.processes.now in
    let after = c.suspend_all.new.self in
    let before = c.args.suspended.now.items in
    let pids = c.in_ok-pids.pids.items in
    let noted = c.in_ok-append.ensures.ok ∙ ap (λ (ps : List ℕ). before ++ ps) c.as_slice.ensures.value in
    let count = ap (λ (ps : List ℕ). length ps) c.as_slice-3.ensures.value in
    let children = map (λ it. it.pid) (running_with (names c.args.modules.now) c.args.apps.now) in
    let idle = subst (All (λ (p : ℕ). IsIdle (living p t))) (sym (c.as_slice-2.ensures.value ∙ c.in_ok-pids.ensures)) (idle_all t children) in
    let last = (λ i. last_of (count i) (noted i)) ∙ last_appended before pids ∙ sym c.as_slice-2.ensures.value in (
      ap (λ (ps : List ℕ). all_resumed ps after) last ∙ c.suspend_all.ensures.back idle,
      (λ i. but_last (count i) (noted i)) ∙ but_last_appended before pids,
      subst (λ (n : ℕ). n ≤ length c.append.new.pids.items) (sym count) (subst (λ (ps : List ℕ). length pids ≤ length ps) (sym noted) (within_appended before pids)),
    )
