-- Each pid in turn.
use Rattle.std.proofs.Common.{◌≡◌, ◌∙◌, ℕ, ◌+◌, ◌≤◌, Option, IsSome, None, ap, sym, subst, length, arith}
use Rattle.std.proofs.lemmas.Bool.{false≢true}
use Rattle.node_views.proofs.Found.{nobody_past}
use Rattle.node_views.specs.Changes.{process_of}
use Rattle.node_views.specs.declared.process_view.ProcessView.{ProcessView}
use Rattle.upgrade_review.proofs.Adding.{adds_alike}
use Rattle.upgrade_review.specs.Gathering.{Adds}
use Rattle.rehearsals.proofs.Pids.{Any, Below, pid_noted, pid_passed, pids_noted}
use Rattle.rehearsals.specs.Observing.{IsKill, Purges}
use Rattle.rehearsals.specs.declared.observing.Observation.{Observation}
use Rattle.rehearsals.specs.declared.observing.Observation.TheVariants.{Kills}
use Rattle.rehearsals.proofs.observing.note_killed.Goals as goal
use Rattle.rehearsals.proofs.observing.note_killed.Goals.{then-has_ended+in_ok-note, else-has_ended}

pub loop-pid-preserved : goal.loop-pid-preserved
loop-pid-preserved c =
    let D : ℕ → Type 0 = λ p. IsSome (process_of p c.args.before.now) × (process_of p c.args.station.now.behind ≡ None) in
    let make : ℕ → Observation = Kills c.args.way c.args.index in
    let pid = c.loop-pid.pid in
    let old = c.args.found.now.items in
    elim c.if-has_ended.branch [
      | then-has_ended+in_ok-note w ↦ subst (λ items. Adds (Below D make (pid + 1)) old items) (sym (ap (λ v. v.items) w.found-is))
          (pid_noted D make pid old c.loop-pid.found.items w.note.new.found.items (c.has_ended.ensures.0 w.if-has_ended.true)
          c.loop-pid.invariant w.in_ok-note.ensures)
      | else-has_ended w ↦ subst (λ items. Adds (Below D make (pid + 1)) old items) (sym (ap (λ v. v.items) w.found-is))
          (pid_passed D make pid old c.loop-pid.found.items
          (λ holds. false≢true (sym w.if-has_ended.false ∙ c.has_ended.ensures.1 holds)) c.loop-pid.invariant)
    ]

pub returns : goal.returns
returns c =
    let before = c.args.before.now in
    let D : ℕ → Type 0 = λ p. IsSome (process_of p before) × (process_of p c.args.station.now.behind ≡ None) in
    let make : ℕ → Observation = Kills c.args.way c.args.index in
    let old = c.args.found.now.items in
    let new = c.loop-pid.found.items in
    let purged : Purges c.args.station.now.instruction = c.purges.ensures.0 c.if-not-purges.false in
    let size = ap length c.as_slice.ensures in
    let all = pids_noted D make c.loop-pid.pid old new (λ p above holds.
    let past : length before.processes ≤ p = omega (arith, above, c.loop-pid-test.false, size) in
    false≢true (subst (λ (o : Option ProcessView). IsSome o) (nobody_past before p past) holds.0)) c.loop-pid.invariant in
    adds_alike (Any D make) (IsKill c.args.way c.args.index before c.args.station.now) old new
    (λ o w. (w.0, purged, (w.1).0, (w.1).1, w.2)) (λ o w. (w.0, (w.2, w.3), w.4)) all
