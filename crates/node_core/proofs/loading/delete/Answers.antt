-- Current code is old.
use Rattle.std.proofs.Common.{◌≡◌, [], None, Ok, refl, sym, ap, subst}
use Rattle.undo_journal.specs.Reversible.{Accepted}
use Rattle.script_events.specs.Changes.{state_of}
use Rattle.script_events.specs.Node.{NodeState, with_modules}
use Rattle.script_events.specs.Scripts.{Outcome, reporting}
use Rattle.node_types.specs.declared.event.Answer.{Answer}
use Rattle.node_types.specs.declared.event.Answer.TheVariants as answer
use Rattle.node_types.specs.Note.{Note}
use Rattle.code_server.specs.Modules.{delete_refusal, deleted}
use Rattle.code_server.specs.Undo.{Fits, held, undone}
use Rattle.code_server.specs.declared.undo.ModulesUndo.{ModulesUndo}
use Rattle.erl_ir.specs.Module.{Forms}
use Rattle.script_events.proofs.Accepting.{unless_none, while_idle}
use Rattle.script_events.specs.Step.{deletes}
use Rattle.node_types.specs.declared.event.Refusal.TheVariants.{OfModules}
use Rattle.node_core.proofs.loading.delete.Goals as goal

pub returns : goal.returns
returns c =
    let n = state_of c.args.parts.now in
    let name = c.args.name.now in
    let after = c.delete.new.self in
    let a : Accepted NodeState Answer Note = record { node = with_modules (deleted name None n.modules) n; answer = answer.Unit; note = reporting [] } in
    let ruled = while_idle n.runner (λ (it : Outcome). it ≡ deletes name n) (Ok a) c.requires.0 (unless_none (delete_refusal name n.modules) OfModules a c.requires.1) in
    let back = subst (λ (u : ModulesUndo Forms). Fits u after × (undone u after ≡ n.modules)) (sym c.fill.ensures) c.in-Ok-delete.ensures.inverse in
    let none = subst (λ (u : ModulesUndo Forms). held u ≡ None) (sym c.fill.ensures) c.in-Ok-delete.ensures.pieces in
    ((a, ruled, ap (λ m. with_modules m n) (sym c.in-Ok-delete.ensures.deleted), c.in-Ok.ensures), (back.0, back.1, refl, none))
