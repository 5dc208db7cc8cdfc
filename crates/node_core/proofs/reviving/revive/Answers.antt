-- The child runs again.
use Rattle.std.proofs.Common.{◌≡◌, ◌∙◌, [], List, map, None, refl, sym, ap, subst}
use Rattle.undo_journal.specs.Reversible.{Accepted}
use Rattle.script_events.specs.Changes.{state_of}
use Rattle.script_events.specs.Node.{NodeState}
use Rattle.node_types.specs.declared.event.Answer.{Answer}
use Rattle.node_types.specs.declared.event.Answer.TheVariants as answer
use Rattle.node_types.specs.Note.{Note}
use Rattle.app_table.specs.Applications.{Application}
use Rattle.app_table.specs.Pieces.{held}
use Rattle.app_table.specs.Undo.{undone}
use Rattle.app_table.specs.declared.undo.AppsUndo.{AppsUndo}
use Rattle.erl_semantics.specs.declared.instance.Instance.{Instance}
use Rattle.process_effects.specs.declared.told.Reply.{Reply}
use Rattle.sys_protocol.specs.ChildStarts.{Restarts}
use Rattle.undo_journal.specs.declared.reversible.Told.{Told}
use Rattle.script_events.proofs.Accepting.{each_of, ends_back}
use Rattle.script_events.specs.Step.{IsRevived, revived_as}
use Rattle.node_core.proofs.reviving.revive.Goals as goal

pub returns-in-Ok-start_again : goal.returns-in-Ok-start_again
returns-in-Ok-start_again c =
    let n = state_of c.args.parts.now in
    let app = c.args.app.now in
    let id = c.args.id.now in
    let it = c.in-Ok-start_again.revival in
    let after = c.revive.new.processes in
    let (child, told, found, due, restarts, tells, changed) = c.in-Ok-start_again.ensures.revived in
    let code = c.as_slice.ensures.value ∙ c.in-Ok.ensures in
    let again = subst (λ (is : List Instance). Restarts is child.spec n.processes it.pid after told) code restarts in
    let a : Accepted NodeState Answer Note = revived_as app id it.pid after told n in
    let said : List Reply → Told Answer Note = λ rs. record { answer = answer.Revived it.pid; note = record { replies = rs; arrival = None } } in
    let is = ap (λ (xs : List Application). record n { processes = after; apps = xs }) (sym changed) in
    let ruled : IsRevived app id n a = record { child = child; found = found; due = due; pid = it.pid; after = after; told = told; restarts = again; is = refl } in
    let back = subst (λ (u : AppsUndo). undone u c.revive.new.apps ≡ n.apps) (sym c.fill.ensures) c.in-Ok-start_again.ensures.inverse in
    let none = subst (λ (u : AppsUndo). held u c.revive.new.apps ≡ []) (sym c.fill.ensures) c.in-Ok-start_again.ensures.app_pieces in
    ((a, ruled, is, c.tell_revived.ensures ∙ ap (map said) tells ∙ each_of said told c.args.n), (ends_back it.processes n.processes after c.in-Ok-start_again.ensures.processes, back, refl, c.in-Ok-start_again.ensures.pieces, none))
