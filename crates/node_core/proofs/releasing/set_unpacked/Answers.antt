-- The release goes last.
use Rattle.std.proofs.Common.{◌∙◌, [], refl, sym, ap, subst}
use Rattle.undo_journal.specs.Reversible.{Accepted}
use Rattle.script_events.specs.Changes.{state_of}
use Rattle.script_events.specs.Node.{NodeState, with_releases}
use Rattle.script_events.specs.Scripts.{reporting}
use Rattle.node_types.specs.declared.event.Answer.{Answer}
use Rattle.node_types.specs.declared.event.Answer.TheVariants as answer
use Rattle.node_types.specs.Note.{Note}
use Rattle.release_statuses.specs.Statuses.{unpack_refusal, unpacked}
use Rattle.release_statuses.specs.Undo.{TakesBack}
use Rattle.release_statuses.specs.declared.undo.ReleasesUndo.{ReleasesUndo}
use Rattle.release_table.specs.declared.table.Release.{Release}
use Rattle.script_events.proofs.Accepting.{unless_none}
use Rattle.node_types.specs.declared.event.Refusal.TheVariants.{OfReleases}
use Rattle.node_core.proofs.releasing.set_unpacked.Goals as goal

pub returns : goal.returns
returns c =
    let n = state_of c.args.parts.now in
    let release = c.args.release.now in
    let after = c.set_unpacked.new.self in
    let a : Accepted NodeState Answer Note = record { node = with_releases (unpacked release n.releases) n; answer = answer.Unit; note = reporting [] } in
    let is = c.in-Ok-set_unpacked.ensures.ok ∙ ap (λ (r : Release). unpacked r n.releases) c.in-Ok-copy.ensures in
    let back = subst (λ (u : ReleasesUndo). TakesBack u n.releases after) (sym c.fill.ensures) c.in-Ok-set_unpacked.ensures.takes_back in
    ((a, unless_none (unpack_refusal release.rel.vsn n.releases) OfReleases a c.requires, ap (λ rs. with_releases rs n) (sym is), c.in-Ok.ensures), (back, refl))
