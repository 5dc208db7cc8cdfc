-- The module is current, and those who lingered in its old code are gone.
use Rattle.std.proofs.Common.{◌≡◌, ◌∙◌, ℕ, List, None, replicate, Ok, refl, sym, ap, subst}
use Rattle.undo_journal.specs.Reversible.{Accepted}
use Rattle.script_events.specs.Changes.{state_of}
use Rattle.script_events.specs.Node.{NodeState}
use Rattle.script_events.specs.Scripts.{Outcome, reporting, running_in, with_running}
use Rattle.node_types.specs.declared.event.Answer.{Answer}
use Rattle.node_types.specs.declared.event.Answer.TheVariants as answer
use Rattle.node_types.specs.Note.{Note}
use Rattle.code_loading.specs.Loading.{downs_of_purge}
use Rattle.code_replacement.specs.Replacing.{code_loaded, running}
use Rattle.code_replacement.specs.Undo.{TakesBack}
use Rattle.code_replacement.specs.declared.undo.ReplacementUndo.{ReplacementUndo}
use Rattle.erl_ir.specs.Module.{Forms}
use Rattle.script_events.proofs.Accepting.{unless_none, while_idle}
use Rattle.script_events.specs.Step.{load_refused, loaded_as, loads}
use Rattle.node_types.specs.declared.event.Refusal.TheVariants.{OfModules}
use Rattle.node_core.proofs.loading.load.Goals as goal

pub returns-in-Ok-replace : goal.returns-in-Ok-replace
returns-in-Ok-replace c =
    let n = state_of c.args.parts.now in
    let m = c.args.code.now in
    let after = running c.load.new.modules c.load.new.processes c.load.new.apps in
    let a : Accepted NodeState Answer Note = loaded_as m n in
    let ruled = while_idle n.runner (λ (it : Outcome). it ≡ loads m n) (Ok a) c.requires.0 (unless_none (load_refused m n) OfModules a c.requires.1) in
    let loaded = c.in-Ok-replace.ensures.loaded ∙ ap (λ (x : Forms). code_loaded x None (running_in n)) c.in-Ok-copy.ensures in
    let told = c.in-Ok.ensures ∙ ap (λ (name : List ℕ). replicate c.args.n (record { answer = answer.Unit; note = reporting (downs_of_purge name n.modules n.processes) })) c.name-name.ensures in
    let back = subst (λ (u : ReplacementUndo). TakesBack u (running_in n) after) (sym c.fill.ensures) c.in-Ok-replace.ensures.inverse in
    ((a, ruled, ap (λ s. with_running s n) (sym loaded), told), (back, refl))
