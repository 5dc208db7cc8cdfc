-- What a script that runs keeps: its release is known, it is one that can be installed, and before its point of no return the
-- specifications can be put back that stood there before.
use Rattle.std.proofs.Common.{◌≡◌, ℕ, List, Option, None, Some, IsSome, refl, sym, ap, subst, ◌∙◌}
use Rattle.std.proofs.lemmas.Option.{none-some}
use Rattle.app_table.specs.Applications.{Application}
use Rattle.app_table.specs.Changes.{specs_set}
use Rattle.app_table.specs.Undo.{Fits}
use Rattle.erl_term.specs.declared.term.Term.{Term}
use Rattle.install_checks.specs.Installing.{entry_refusal, install_refusal, old_processes, script_to, unless_bad, unless_lingering, unless_refused}
use Rattle.install_checks.specs.declared.installing.InstallError.TheVariants.{BadScript, OfReleases}
use Rattle.low_instructions.specs.declared.low.Low.{Low}
use Rattle.node_rules.proofs.BeforeThePoint.{before_point}
use Rattle.node_rules.proofs.Listing.{known_found}
use Rattle.node_rules.proofs.Specifications.{fits_too, former_fits, specs}
use Rattle.node_rules.specs.Node.{IsInstalling, NodeState, RunsScript}
use Rattle.node_rules.specs.Scripts.{Begins, gone_on, next_in, parts_in}
use Rattle.node_types.specs.Note.{Note}
use Rattle.node_types.specs.declared.event.Answer.{Answer}
use Rattle.otp_files.specs.declared.upgrade.Entry.{Entry}
use Rattle.process_effects.specs.declared.told.Reply.{Reply}
use Rattle.release_specs.specs.Specs.{specs_of}
use Rattle.release_statuses.specs.Statuses as statuses
use Rattle.release_statuses.specs.Statuses.{index_of}
use Rattle.release_statuses.specs.declared.error.RelError.{RelError}
use Rattle.release_statuses.specs.declared.listed.Listed.{Listed}
use Rattle.release_table.specs.declared.table.Release.{Release}
use Rattle.script_checks.specs.Checks.{bad_script}
use Rattle.script_runner.specs.Instructions.{RunsInstruction}
use Rattle.script_runner.specs.Parts.{Parts}
use Rattle.script_state.specs.Runner.{RunnerState, begun}
use Rattle.undo_journal.specs.Reversible.{Accepted}

-- no script runs
pub no_script : (o : Option RunnerState) (releases : List Listed) (apps : List Application) → o ≡ None →
    RunsScript o releases apps
no_script o releases apps none = subst (λ (it : Option RunnerState). RunsScript it releases apps) (sym none) tt

-- It goes on as it was where specifications stay as they are, and the releases that are known stay known.

pub same_specs : (o : Option RunnerState) (releases : List Listed) (apps after : List Application) → specs after ≡ specs apps →
    RunsScript o releases apps → RunsScript o releases after
same_specs None releases apps after same runs = tt
same_specs (Some s) releases apps after same runs = record {
  known = runs.known;
  checked = runs.checked;
  fits = λ before. fits_too s.former apps after same (runs.fits before);
}

pub more_known : (o : Option RunnerState) (releases after : List Listed) (apps : List Application) →
    ((vsn : List ℕ) → IsSome (index_of vsn releases) → IsSome (index_of vsn after)) →
    RunsScript o releases apps → RunsScript o after apps
more_known None releases after apps more runs = tt
more_known (Some s) releases after apps more runs = record {
  known = more s.target runs.known;
  checked = runs.checked;
  fits = runs.fits;
}

-- It begins: it was found, and checked.

script_checked : (refused : Option RelError) (bad old : Option ℕ) →
    unless_refused refused (unless_bad bad (unless_lingering old)) ≡ None → bad ≡ None
script_checked (Some e) bad old is = absurd (none-some (OfReleases e) (sym is))
script_checked None (Some index) old is = absurd (none-some (BadScript index) (sym is))
script_checked None None old is = refl

entry_checked : (vsn : List ℕ) (n : NodeState) (entry : Entry Term Low) → script_to vsn n.releases ≡ Some entry →
    install_refusal vsn n.releases n.modules n.processes ≡ None → bad_script entry.instructions ≡ None
entry_checked vsn n entry found unrefused =
    let refused = statuses.install_refusal vsn n.releases in
    let same = ap (λ (o : Option (Entry Term Low)). unless_refused refused (entry_refusal o n.modules n.processes)) found in
    let script = entry.instructions in
    script_checked refused (bad_script script) (old_processes n.modules n.processes script) (sym same ∙ unrefused)

pub script_begins : (vsn : List ℕ) (n : NodeState) (a : Accepted NodeState Answer Note) (it : Begins vsn n a) →
    IsInstalling (begun it.target.release it.entry n.apps) n.releases (specs_set (specs_of it.target.release) n.apps)
script_begins vsn n a it = record {
  known = known_found vsn n.releases it.target it.found;
  checked = entry_checked vsn n it.entry it.script it.unrefused;
  fits = λ before. former_fits (specs_of it.target.release) n.apps;
}

-- It goes on by an instruction, which leaves applications as they are before the point.
pub script_goes_on : (s : RunnerState) (r : Release) (i : Low) (n : NodeState) (p : Parts) (told : List Reply) →
    next_in s ≡ Some i → RunsInstruction r i (parts_in s n) p told → IsInstalling s n.releases n.apps →
    IsInstalling (gone_on p s) n.releases p.apps
script_goes_on s r i n p told next does runs = record {
  known = runs.known;
  checked = runs.checked;
  fits = λ none.
      let it = before_point r s.script s.progress.next i (parts_in s n) p told runs.checked next none does in
      subst (λ (xs : List Application). Fits s.former xs) (sym it.apps) (runs.fits it.point);
}
