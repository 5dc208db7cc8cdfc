-- The old release boots.
use Rattle.std.proofs.Common.{◌≡◌, ◌∙◌, ℕ, List, [], None, Some, Ok, option_map, refl, sym, ap}
use Rattle.release_statuses.specs.Statuses.{listed, reboot_refusal, rebooted}
use Rattle.release_statuses.specs.declared.listed.Listed.{Listed}
use Rattle.undo_journal.specs.Reversible.{Accepted}
use Rattle.undo_journal.specs.declared.reversible.Told.{Told}
use Rattle.script_events.proofs.Restarts.{is_restarted}
use Rattle.node_parts.specs.Changes.{state_of}
use Rattle.node_parts.specs.Node.{NodeState}
use Rattle.node_parts.specs.Scripts.{Reboots, RebootsOld, reporting}
use Rattle.node_types.specs.declared.event.Answer.{Answer}
use Rattle.node_types.specs.declared.event.Answer.TheVariants as answer
use Rattle.node_types.specs.Note.{Note}
use Rattle.node_parts.proofs.Accepting.{while_idle}
use Rattle.script_events.proofs.restarting.reboot_old.Goals as goal

pub returns-in-Ok : goal.returns-in-Ok
returns-in-Ok c =
    let n = state_of c.args.parts.now in
    let vsn = c.args.vsn.now in
    let after = state_of c.put_in_place.new.parts in
    let old = c.in-Some.old.now in
    let booted = c.in_ok-ready.ready.booted in
    let (told, tells, said) = c.in_ok-ready.ensures.told in
    let a : Accepted NodeState Answer Note = record { node = after; answer = answer.Unit; note = reporting told } in
    let statuses = c.in-Ok.ensures.ok ∙ ap (λ (v : List ℕ). rebooted v n.releases) c.as_str-2.ensures in
    let stands = c.put_in_place.ensures.stands ∙ ap (λ (rs : List Listed). record { modules = booted.modules; processes = booted.processes; apps = booted.apps; releases = rs; runner = None }) statuses in
    let ruled : Reboots vsn n a = record {
      unrefused = ap (λ (v : List ℕ). reboot_refusal v n.releases) (sym c.as_str-2.ensures) ∙ c.in-Ok.ensures.unrefused;
      old = old;
      found = ap (λ (v : List ℕ). listed v n.releases) (sym c.as_str.ensures) ∙ sym c.in-Some.ensures;
      told = told;
      restarts = is_restarted old.release (rebooted vsn n.releases) n after told booted.modules booted.processes booted.apps c.in_ok-ready.ensures.ok tells c.in_ok-ready.ensures.boots stands;
      answers = refl;
      notes = refl;
    } in
    ((a, while_idle n.runner (RebootsOld vsn n) (Ok a) c.requires.0 ruled, refl, ap (λ v. v.items) c.put_in_place.ensures.told ∙ said), c.put_in_place.ensures.displaced n refl c.in-Ok.ensures.takes_back c.in-Ok.ensures.statuses)
