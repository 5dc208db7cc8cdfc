-- Old code is purged, and the release is permanent; or all is as it was.
use Rattle.std.proofs.Common.{◌≡◌, ◌∙◌, ℕ, List, Ok, replicate, refl, sym, ap, subst}
use Rattle.code_loading.specs.Purging.{downs_of_purges}
use Rattle.code_replacement.specs.Replacing.{all_without, running}
use Rattle.code_replacement.specs.Undo.{PurgesBack}
use Rattle.code_replacement.specs.declared.undo.Purges.{Purges}
use Rattle.release_statuses.specs.Statuses.{made_permanent}
use Rattle.release_statuses.specs.Undo.{IsRemoval, TakesBack}
use Rattle.release_statuses.specs.declared.undo.ReleasesUndo.{ReleasesUndo}
use Rattle.undo_journal.specs.Reversible.{Accepted}
use Rattle.node_parts.proofs.Accepting.{while_idle}
use Rattle.node_parts.specs.Changes.{state_of}
use Rattle.node_parts.specs.Node.{NodeState}
use Rattle.node_parts.specs.Scripts.{MakesPermanent, permanent_as, reporting, running_in, with_running}
use Rattle.node_types.specs.declared.event.Answer.{Answer}
use Rattle.node_types.specs.declared.event.Answer.TheVariants as answer
use Rattle.node_types.specs.Note.{Note}
use Rattle.script_events.proofs.purging.make_permanent.Goals as goal

pub returns-in-Ok-purge_all : goal.returns-in-Ok-purge_all
returns-in-Ok-purge_all c =
    let n = state_of c.args.parts.now in
    let vsn = c.args.vsn.now in
    let names = c.in_ok-names.names.items in
    let after = running c.purge_all.new.modules c.purge_all.new.processes c.purge_all.new.apps in
    let releases = c.make_permanent.new.self in
    let a : Accepted NodeState Answer Note = permanent_as vsn names n in
    let purged = c.in-Ok-purge_all.ensures.purged ∙ ap (λ (ns : List (List ℕ)). all_without ns (running_in n)) c.as_slice-2.ensures.value in
    let statuses = c.in-Ok.ensures.ok ∙ ap (λ (v : List ℕ). made_permanent v n.releases) c.as_str.ensures in
    let is : a.node ≡ record (with_running after n) { releases = releases } = (λ i. record (with_running (sym purged i) n) { releases = sym statuses i }) in
    let told = c.in_ok-told.ensures ∙ ap (λ (ns : List (List ℕ)). replicate c.args.n (record { answer = answer.Unit; note = reporting (downs_of_purges ns n.modules n.processes) })) c.as_slice.ensures.value in
    let purges = subst (λ (u : Purges). PurgesBack u (running_in n) after) (sym c.fill.ensures) c.in-Ok-purge_all.ensures.inverse in
    let back = subst (λ (u : ReleasesUndo). TakesBack u n.releases releases × (IsRemoval u → ⊥)) (sym c.fill-in-Ok-purge_all.ensures) (c.in-Ok.ensures.takes_back, c.in-Ok.ensures.statuses) in
    ((a, while_idle n.runner (MakesPermanent vsn n) (Ok a) c.requires.0 (c.requires.1, names, c.in_ok-names.ensures, refl), is, told), (purges, back, refl))

pub revert-requires : goal.revert-requires
revert-requires c = c.in-Ok.ensures.takes_back.fits

pub returns : goal.returns
returns c =
    let n = state_of c.args.parts.now in
    let same = c.in-Err.ensures.err in
    let statuses = c.in-Ok-revert.ensures.ok ∙ c.in-Ok.ensures.takes_back.back in
    (c.requires, (λ i. record n { modules = (same i).modules; processes = (same i).processes; apps = (same i).apps; releases = statuses i }))
