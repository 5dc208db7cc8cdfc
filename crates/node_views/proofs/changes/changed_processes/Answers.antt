-- Each pid has its turn, and behind the last one nobody lives in either view.
use Rattle.std.proofs.Common.{◌≢◌, ◌∙◌, ◌+◌, ◌≤◌, ℕ, List, ap, sym, subst, arith, inl, inr, length}
use Rattle.std.proofs.lemmas.Bool.{cases_lt, false≢true}
use Rattle.node_views.proofs.Found.{Pids, nobody_past, pid_found, pid_passed}
use Rattle.node_views.specs.Changes.{process_of}
use Rattle.node_views.proofs.changes.changed_processes.Goals as goal
use Rattle.node_views.proofs.changes.changed_processes.Goals.{then-differs+in_ok-push, else-differs}

pub loop-pid-preserved : goal.loop-pid-preserved
loop-pid-preserved c =
    let P : ℕ → Type 0 = λ p. process_of p c.args.before.now ≢ process_of p c.args.after.now in
    let pid = c.loop-pid.pid in
    elim c.if-differs.branch [
      | then-differs+in_ok-push w ↦ subst (λ (items : List ℕ). Pids P items (pid + 1))
          (sym (ap (λ v. v.items) w.found-is ∙ w.in_ok-push.ensures.items))
          (pid_found P c.loop-pid.found.items pid c.loop-pid.invariant (c.differs.ensures.0 w.if-differs.true))
      | else-differs w ↦
          let fails : P pid → ⊥ = λ differ. false≢true (sym w.if-differs.false ∙ c.differs.ensures.1 differ) in
          subst (λ (items : List ℕ). Pids P items (pid + 1)) (sym (ap (λ v. v.items) w.found-is))
          (pid_passed P c.loop-pid.found.items pid c.loop-pid.invariant fails)
    ]

pub returns : goal.returns
returns c p = (
  (λ there. ((c.loop-pid.invariant p).0 there).1),
  (λ differ. elim (cases_lt p c.loop-pid.pid) [
    | inl below ↦ (c.loop-pid.invariant p).1 (below, differ)
    | inr above ↦
        let one = ap length c.as_slice-before_pids.ensures in
        let other = ap length c.as_slice.ensures in
        let past : length c.args.before.now.processes ≤ p = omega (arith, above, c.loop-pid-test.false, c.max-pids.ensures, one) in
        let past_after : length c.args.after.now.processes ≤ p = omega (arith, above, c.loop-pid-test.false, c.max-pids.ensures, other) in
        absurd (differ (nobody_past c.args.before.now p past ∙ sym (nobody_past c.args.after.now p past_after)))
  ]),
)
