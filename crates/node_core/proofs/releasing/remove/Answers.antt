-- The release leaves.
use Rattle.std.proofs.Common.{◌≡◌, ◌∙◌, ℕ, List, [], Ok, refl, sym, ap, subst}
use Rattle.undo_journal.specs.Reversible.{Accepted}
use Rattle.script_events.specs.Changes.{state_of}
use Rattle.script_events.specs.Node.{NodeState, with_releases}
use Rattle.script_events.specs.Scripts.{Outcome, reporting}
use Rattle.node_types.specs.declared.event.Answer.{Answer}
use Rattle.node_types.specs.declared.event.Answer.TheVariants as answer
use Rattle.node_types.specs.Note.{Note}
use Rattle.release_statuses.specs.Statuses.{remove_refusal, removed}
use Rattle.release_statuses.specs.Undo.{TakesBack}
use Rattle.release_statuses.specs.declared.undo.ReleasesUndo.{ReleasesUndo}
use Rattle.script_events.proofs.Accepting.{unless_none, while_idle}
use Rattle.script_events.specs.Step.{release_removed}
use Rattle.node_types.specs.declared.event.Refusal.TheVariants.{OfReleases}
use Rattle.node_core.proofs.releasing.remove.Goals as goal

pub returns : goal.returns
returns c =
    let n = state_of c.args.parts.now in
    let vsn = c.args.vsn.now in
    let after = c.remove.new.self in
    let a : Accepted NodeState Answer Note = record { node = with_releases (removed vsn n.releases) n; answer = answer.Unit; note = reporting [] } in
    let ruled = while_idle n.runner (λ (it : Outcome). it ≡ release_removed vsn n) (Ok a) c.requires.0 (unless_none (remove_refusal vsn n.releases) OfReleases a c.requires.1) in
    let is = c.in-Ok-remove.ensures.ok ∙ ap (λ (v : List ℕ). removed v n.releases) c.as_str.ensures in
    let back = subst (λ (u : ReleasesUndo). TakesBack u n.releases after) (sym c.fill.ensures) c.in-Ok-remove.ensures.takes_back in
    ((a, ruled, ap (λ rs. with_releases rs n) (sym is), c.in-Ok.ensures), (back, refl))
