-- Each pid in turn.
use Rattle.std.proofs.Common.{◌∙◌, ℕ, ◌+◌, ◌≤◌, Option, ap, sym, subst, length, arith}
use Rattle.std.proofs.lemmas.Bool.{false≢true}
use Rattle.node_views.proofs.Found.{nobody_past}
use Rattle.node_views.specs.Changes.{process_of}
use Rattle.node_views.specs.declared.process_view.ProcessView.{ProcessView}
use Rattle.upgrade_review.specs.Gathering.{Adds}
use Rattle.rehearsals.proofs.Pids.{Below, pid_noted, pid_passed, pids_noted}
use Rattle.rehearsals.specs.Observing.{HasOtherState}
use Rattle.rehearsals.specs.declared.observing.Observation.{Observation}
use Rattle.rehearsals.specs.declared.observing.Observation.TheVariants.{NotRestored}
use Rattle.rehearsals.proofs.observing.note_changed.Goals as goal
use Rattle.rehearsals.proofs.observing.note_changed.Goals.{then-is_changed+in_ok-note, else-is_changed}

pub loop-pid-preserved : goal.loop-pid-preserved
loop-pid-preserved c =
    let D : ℕ → Type 0 = λ p. HasOtherState (process_of p c.args.before.now) (process_of p c.args.after.now) in
    let make : ℕ → Observation = NotRestored in
    let pid = c.loop-pid.pid in
    let old = c.args.found.now.items in
    elim c.if-is_changed.branch [
      | then-is_changed+in_ok-note w ↦ subst (λ items. Adds (Below D make (pid + 1)) old items) (sym (ap (λ v. v.items) w.found-is))
          (pid_noted D make pid old c.loop-pid.found.items w.note.new.found.items (c.is_changed.ensures.0 w.if-is_changed.true)
          c.loop-pid.invariant w.in_ok-note.ensures)
      | else-is_changed w ↦ subst (λ items. Adds (Below D make (pid + 1)) old items) (sym (ap (λ v. v.items) w.found-is))
          (pid_passed D make pid old c.loop-pid.found.items
          (λ holds. false≢true (sym w.if-is_changed.false ∙ c.is_changed.ensures.1 holds)) c.loop-pid.invariant)
    ]

pub returns : goal.returns
returns c =
    let before = c.args.before.now in
    let after = c.args.after.now in
    let D : ℕ → Type 0 = λ p. HasOtherState (process_of p before) (process_of p after) in
    let size = ap length c.as_slice.ensures in
    pids_noted D NotRestored c.loop-pid.pid c.args.found.now.items c.loop-pid.found.items (λ p above holds.
    let past : length before.processes ≤ p = omega (arith, above, c.loop-pid-test.false, size) in
    subst (λ (o : Option ProcessView). HasOtherState o (process_of p after)) (nobody_past before p past) holds)
    c.loop-pid.invariant
