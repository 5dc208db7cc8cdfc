-- An instruction while jobs run.
use Rattle.std.proofs.Common.{◌≡◌, ◌∙◌, ℕ, true, false, List, None, Some, Result, Ok, Err, ap, subst}
use Rattle.node_core.specs.Node.{NodeState}
use Rattle.node_types.specs.declared.event.Answer.{Answer}
use Rattle.node_types.specs.declared.event.Answer.TheVariants as answer
use Rattle.node_types.specs.declared.event.Event.{Event}
use Rattle.node_types.specs.declared.event.Event.TheVariants.{Advance}
use Rattle.node_types.specs.declared.event.Refusal.{Refusal}
use Rattle.node_types.specs.declared.event.Refusal.TheVariants as refusal
use Rattle.rehearsals.specs.declared.happening.Happening.{Happening}
use Rattle.rehearsals.specs.declared.station.Outcome.{Outcome}
use Rattle.rehearsals.specs.declared.station.Outcome.TheVariants as outcome
use Rattle.upgrade_rehearsal.specs.Players.{Leads, stage_of}
use Rattle.upgrade_rehearsal.specs.Seen.{ComesTo, GoesWithJobs, advance_outcome, busy_in, outcome_by, waiting_for}
use Rattle.upgrade_rehearsal.specs.Stages.{Occurs, Stage}
use Rattle.upgrade_rehearsal.specs.declared.player.Player.{Player}

-- The process that is waited for is given by one refusal.

busy_by : (why : Refusal) (pid : ℕ) → busy_in why ≡ Some pid → why ≡ refusal.Busy pid
busy_by (refusal.OfProcesses e) pid is = let clash : None ≡ Some pid = is in cc
busy_by (refusal.OfModules e) pid is = let clash : None ≡ Some pid = is in cc
busy_by (refusal.OfApps e) pid is = let clash : None ≡ Some pid = is in cc
busy_by (refusal.OfReleases e) pid is = let clash : None ≡ Some pid = is in cc
busy_by (refusal.OfInstall e) pid is = let clash : None ≡ Some pid = is in cc
busy_by refusal.Installing pid is = let clash : None ≡ Some pid = is in cc
busy_by refusal.NotInstalling pid is = let clash : None ≡ Some pid = is in cc
busy_by (refusal.Busy other) pid is = let same : other ≡ pid = (let both : Some other ≡ Some pid = is in cc) in ap refusal.Busy same
busy_by refusal.CounterEnd pid is = let clash : None ≡ Some pid = is in cc

waits_by : (told : Outcome) (pid : ℕ) → waiting_for told ≡ Some pid → told ≡ outcome.Refused (refusal.Busy pid)
waits_by outcome.Ran pid is = let clash : None ≡ Some pid = is in cc
waits_by outcome.Finished pid is = let clash : None ≡ Some pid = is in cc
waits_by (outcome.Recovered reason) pid is = let clash : None ≡ Some pid = is in cc
waits_by (outcome.Restarted reason) pid is = let clash : None ≡ Some pid = is in cc
waits_by (outcome.Refused why) pid is = ap outcome.Refused (busy_by why pid is)

-- no answer has the outcome of a refusal
not_told : (told : Answer) (why : Refusal) → outcome.Refused why ≡ outcome_by told → ⊥
not_told (answer.Job job) why is = let clash : outcome.Refused why ≡ outcome.Ran = is in cc
not_told (answer.Revived pid) why is = let clash : outcome.Refused why ≡ outcome.Ran = is in cc
not_told (answer.Killed killed) why is = let clash : outcome.Refused why ≡ outcome.Ran = is in cc
not_told (answer.Installing vsn instructions) why is = let clash : outcome.Refused why ≡ outcome.Ran = is in cc
not_told (answer.Ran instruction) why is = let clash : outcome.Refused why ≡ outcome.Ran = is in cc
not_told (answer.Finished vsn description) why is = let clash : outcome.Refused why ≡ outcome.Finished = is in cc
not_told (answer.Recovered reason) why is = let clash : outcome.Refused why ≡ outcome.Recovered reason = is in cc
not_told (answer.Restarted reason) why is = let clash : outcome.Refused why ≡ outcome.Restarted reason = is in cc
not_told (answer.Swept modules) why is = let clash : outcome.Refused why ≡ outcome.Ran = is in cc
not_told answer.Unit why is = let clash : outcome.Refused why ≡ outcome.Ran = is in cc

abbrev stage : NodeState → ℕ → Stage
stage node arrivals = record { node = node; arrivals = arrivals }

-- what is refused leaves all unchanged
refused_stays : (e : Event) (why : Refusal) (old : Stage) (sent : List Happening) (new : Stage) →
    ComesTo e (outcome.Refused why) old sent new → new ≡ old
refused_stays e why old sent new comes = by comes.answer comes.tells comes.occurs
  where
    by : (r : Result Answer Refusal) → outcome.Refused why ≡ advance_outcome r → Occurs e r old sent new → new ≡ old
    by (Ok told) tells occurs = absurd (not_told told why tells)
    by (Err other) tells occurs =
        ap (λ n. stage n new.arrivals) occurs.happens.1 ∙ ap (λ k. stage old.node k) occurs.arrivals

-- The script waits for a process, and is advanced once more; or it waits for none.

pub goes_waiting : (pid : ℕ) (first told : Outcome) (old between new : Player) → waiting_for first ≡ Some pid →
    Leads (ComesTo (Advance false) first) old between → Leads (ComesTo (Advance true) told) between new →
    GoesWithJobs (Some pid) told (stage_of old)
goes_waiting pid first told old between new waits one other =
    let Tries : Outcome → Type 0 = λ it. ComesTo (Advance false) it (stage_of old) one.sent (stage_of between) in
    let tries : Tries (outcome.Refused (refusal.Busy pid)) = subst Tries (waits_by first pid waits) one.scene in
    let stays = refused_stays (Advance false) (refusal.Busy pid) (stage_of old) one.sent (stage_of between) tries in (
      (one.sent, stage_of between, tries),
      (other.sent, stage_of new, subst (λ s. ComesTo (Advance true) told s other.sent (stage_of new)) stays other.scene),
    )

pub goes_free : (first : Outcome) (old new : Player) → waiting_for first ≡ None → Leads (ComesTo (Advance false) first) old new →
    GoesWithJobs None first (stage_of old)
goes_free first old new waits one = (waits, (one.sent, stage_of new, one.scene))
