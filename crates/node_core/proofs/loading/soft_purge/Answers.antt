-- The old code is gone, in which nobody lingered.
use Rattle.std.proofs.Common.{◌≡◌, [], None, Ok, refl, sym, ap, subst}
use Rattle.undo_journal.specs.Reversible.{Accepted}
use Rattle.script_events.specs.Changes.{state_of}
use Rattle.script_events.specs.Node.{NodeState, with_modules}
use Rattle.script_events.specs.Scripts.{Outcome, reporting, running_in}
use Rattle.node_types.specs.declared.event.Answer.{Answer}
use Rattle.node_types.specs.declared.event.Answer.TheVariants as answer
use Rattle.node_types.specs.Note.{Note}
use Rattle.code_replacement.specs.Replacing.{running}
use Rattle.code_replacement.specs.Undo.{TakesBack}
use Rattle.code_replacement.specs.declared.undo.ReplacementUndo.{ReplacementUndo}
use Rattle.code_server.specs.Modules.{purged}
use Rattle.script_events.proofs.Accepting.{unless_none, while_idle}
use Rattle.script_events.specs.Step.{soft_purge_refusal, soft_purges}
use Rattle.node_types.specs.declared.event.Refusal.TheVariants.{OfModules}
use Rattle.node_core.proofs.loading.soft_purge.Goals as goal

pub returns : goal.returns
returns c =
    let n = state_of c.args.parts.now in
    let name = c.args.name.now in
    let after = running c.soft_purge.new.modules n.processes n.apps in
    let a : Accepted NodeState Answer Note = record { node = with_modules (purged name n.modules) n; answer = answer.Unit; note = reporting [] } in
    let ruled = while_idle n.runner (λ (it : Outcome). it ≡ soft_purges name n) (Ok a) c.requires.0 (unless_none (soft_purge_refusal name n) OfModules a c.requires.1) in
    let here : TakesBack (record { code = c.in-Ok-purge_softly.code; ended = None }) (running_in n) after = record { code = c.in-Ok-purge_softly.ensures.inverse; children = refl; specs = refl } in
    let back = subst (λ (u : ReplacementUndo). TakesBack u (running_in n) after) (sym c.fill.ensures) here in
    ((a, ruled, ap (λ m. with_modules m n) (sym c.in-Ok-purge_softly.ensures.modules), c.in-Ok.ensures), (back, refl))
