-- The permanent release boots.
use Rattle.std.proofs.Common.{◌≡◌, ◌∙◌, ℕ, List, [], None, Some, Ok, option_map, refl, sym, ap}
use Rattle.release_statuses.specs.Statuses.{restarted}
use Rattle.release_statuses.specs.declared.listed.Listed.{Listed}
use Rattle.undo_journal.specs.Reversible.{Accepted}
use Rattle.undo_journal.specs.declared.reversible.Told.{Told}
use Rattle.script_events.proofs.Restarts.{is_restarted}
use Rattle.node_parts.specs.Changes.{state_of}
use Rattle.node_parts.specs.Node.{NodeState}
use Rattle.node_parts.specs.Scripts.{FallsBack, reporting}
use Rattle.node_types.specs.declared.event.Answer.{Answer}
use Rattle.node_types.specs.declared.event.Answer.TheVariants as answer
use Rattle.node_types.specs.Note.{Note}
use Rattle.script_events.proofs.restarting.fall_back.Goals as goal

pub returns-in-Ok : goal.returns-in-Ok
returns-in-Ok c =
    let n = state_of c.args.parts.now in
    let after = state_of c.put_in_place.new.parts in
    let permanent = c.permanent.result.now.release in
    let booted = c.in_ok-ready.ready.booted in
    let (told, tells, said) = c.in_ok-ready.ensures.told in
    let a : Accepted NodeState Answer Note = record { node = after; answer = answer.Restarted c.args.reason; note = reporting told } in
    let stands = c.put_in_place.ensures.stands ∙ ap (λ (rs : List Listed). record { modules = booted.modules; processes = booted.processes; apps = booted.apps; releases = rs; runner = None }) c.in-Ok.ensures.ok in
    let ruled : FallsBack c.args.reason n a = record {
      permanent = permanent;
      found = ap (option_map (λ (it : Listed). it.release)) c.permanent.ensures;
      told = told;
      restarts = is_restarted permanent (restarted n.releases) n after told booted.modules booted.processes booted.apps c.in_ok-ready.ensures.ok tells c.in_ok-ready.ensures.boots stands;
      answers = refl;
      notes = refl;
    } in
    ((a, ruled, refl, ap (λ v. v.items) c.put_in_place.ensures.told ∙ said), c.put_in_place.ensures.displaced n refl c.in-Ok.ensures.takes_back c.in-Ok.ensures.statuses)
