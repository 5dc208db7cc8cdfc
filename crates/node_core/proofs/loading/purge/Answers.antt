-- Those who lingered in the old code are gone, and so is that.
use Rattle.std.proofs.Common.{◌≡◌, ◌∙◌, Bool, replicate, Ok, refl, sym, ap, subst}
use Rattle.undo_journal.specs.Reversible.{Accepted}
use Rattle.script_events.specs.Changes.{state_of}
use Rattle.script_events.specs.Node.{NodeState}
use Rattle.script_events.specs.Scripts.{Outcome, reporting, running_in, with_running}
use Rattle.node_types.specs.declared.event.Answer.{Answer}
use Rattle.node_types.specs.declared.event.Answer.TheVariants as answer
use Rattle.node_types.specs.Note.{Note}
use Rattle.code_loading.specs.Loading.{is_lingered_in, downs_of_purge}
use Rattle.code_replacement.specs.Replacing.{running, without_lingering}
use Rattle.code_replacement.specs.Undo.{TakesBack}
use Rattle.code_replacement.specs.declared.undo.ReplacementUndo.{ReplacementUndo}
use Rattle.script_events.proofs.Accepting.{while_idle}
use Rattle.script_events.specs.Step.{purges}
use Rattle.node_core.proofs.loading.purge.Goals as goal

pub returns-in-Ok-purge_code : goal.returns-in-Ok-purge_code
returns-in-Ok-purge_code c =
    let n = state_of c.args.parts.now in
    let name = c.args.name.now in
    let after = running c.purge.new.modules c.purge.new.processes c.purge.new.apps in
    let note = reporting (downs_of_purge name n.modules n.processes) in
    let a : Accepted NodeState Answer Note = record {
      node = with_running (without_lingering name (running_in n)) n;
      answer = answer.Killed (is_lingered_in name n.modules n.processes);
      note = note;
    } in
    let ruled = while_idle n.runner (λ (it : Outcome). it ≡ purges name n) (Ok a) c.requires refl in
    let told = c.in-Ok.ensures ∙ ap (λ (killed : Bool). replicate c.args.n (record { answer = answer.Killed killed; note = note })) c.is_lingered_in.ensures in
    let back = subst (λ (u : ReplacementUndo). TakesBack u (running_in n) after) (sym c.fill.ensures) c.in-Ok-purge_code.ensures.inverse in
    ((a, ruled, ap (λ s. with_running s n) (sym c.in-Ok-purge_code.ensures.purged), told), (back, refl))
