-- The script runs, and the specifications stand.
use Rattle.std.proofs.Common.{◌≡◌, ◌∙◌, ℕ, List, [], Some, Ok, length, replicate, refl, sym, ap}
use Rattle.install_checks.specs.Installing.{script_to}
use Rattle.low_instructions.specs.declared.low.Low.{Low}
use Rattle.release_statuses.specs.Statuses.{listed}
use Rattle.script_state.specs.Runner.{RunnerState, runner_of}
use Rattle.undo_journal.specs.Reversible.{Accepted}
use Rattle.node_parts.proofs.Accepting.{while_idle}
use Rattle.node_parts.specs.Changes.{state_of}
use Rattle.node_parts.specs.Record.{InstallBack}
use Rattle.node_parts.specs.Node.{NodeState}
use Rattle.node_parts.specs.Scripts.{Begins, Installs, begun_as, reporting}
use Rattle.node_types.specs.declared.event.Answer.{Answer}
use Rattle.node_types.specs.declared.event.Answer.TheVariants as answer
use Rattle.node_types.specs.Note.{Note}
use Rattle.script_events.proofs.installing.install.Goals as goal

pub returns-in-Ok-begin : goal.returns-in-Ok-begin
returns-in-Ok-begin c =
    let n = state_of c.args.parts.now in
    let vsn = c.args.vsn.now in
    let target = c.in-Some-get.target.now in
    let entry = c.in-Some.entry.now in
    let runner = runner_of c.in-Ok-begin.runner in
    let after : NodeState = record n { apps = c.begin.new.apps; runner = Some runner } in
    let a : Accepted NodeState Answer Note = begun_as target.release entry n in
    let found : listed vsn n.releases ≡ Some target = ap (λ (v : List ℕ). listed v n.releases) (sym c.as_str-2.ensures) ∙ sym c.in-Some-get.ensures in
    let script : script_to vsn n.releases ≡ Some entry = ap (λ (v : List ℕ). script_to v n.releases) (sym c.as_str.ensures) ∙ sym c.in-Some.ensures in
    let begins : Begins vsn n a = record { unrefused = c.requires.1; target = target; found = found; entry = entry; script = script; is = refl } in
    let told = c.in-Ok.ensures ∙ ap (λ (is : List Low). replicate c.args.n (record { answer = answer.Installing target.release.rel.vsn (length is); note = reporting [] })) c.as_slice-count.ensures in
    let back : InstallBack runner n after = record { fits = c.in-Ok-begin.ensures.fits; apps = c.in-Ok-begin.ensures.inverse; none = c.requires.0; is = refl } in
    let is : a.node ≡ after = (λ i. record n { apps = sym c.in-Ok-begin.ensures.specs i; runner = Some (sym c.in-Ok-begin.ensures.runner i) }) in
    ((a, while_idle n.runner (Installs vsn n) (Ok a) c.requires.0 begins, is, told), (runner, back))
