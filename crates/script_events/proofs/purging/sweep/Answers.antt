-- Old code is purged.
use Rattle.std.proofs.Common.{◌≡◌, ◌∙◌, ℕ, List, Ok, replicate, refl, sym, ap, subst}
use Rattle.code_loading.specs.Purging.{downs_of_purges}
use Rattle.code_replacement.specs.Replacing.{all_without, running}
use Rattle.code_replacement.specs.Undo.{PurgesBack}
use Rattle.code_replacement.specs.declared.undo.Purges.{Purges}
use Rattle.undo_journal.specs.Reversible.{Accepted}
use Rattle.node_parts.specs.Changes.{state_of}
use Rattle.node_parts.specs.Node.{NodeState}
use Rattle.node_parts.specs.Scripts.{reporting, running_in, swept_as, with_running}
use Rattle.node_types.specs.declared.event.Answer.{Answer}
use Rattle.node_types.specs.declared.event.Answer.TheVariants as answer
use Rattle.node_types.specs.Note.{Note}
use Rattle.script_events.proofs.purging.sweep.Goals as goal

pub returns-in-Ok : goal.returns-in-Ok
returns-in-Ok c =
    let n = state_of c.args.parts.now in
    let names = c.in_ok-names.names.items in
    let after = running c.purge_all.new.modules c.purge_all.new.processes c.purge_all.new.apps in
    let a : Accepted NodeState Answer Note = swept_as names n in
    let purged = c.in-Ok.ensures.purged ∙ ap (λ (ns : List (List ℕ)). all_without ns (running_in n)) c.as_slice-2.ensures.value in
    let is = ap (λ s. with_running s n) (sym purged) in
    let told = c.in_ok-told.ensures ∙ ap (λ (ns : List (List ℕ)). replicate c.args.n (record { answer = answer.Swept ns; note = reporting (downs_of_purges ns n.modules n.processes) })) c.as_slice.ensures.value in
    let purges = subst (λ (u : Purges). PurgesBack u (running_in n) after) (sym c.fill.ensures) c.in-Ok.ensures.inverse in
    ((a, (names, c.in_ok-names.ensures, refl), is, told), (purges, refl, refl))
