-- First its process, and then its specification.
use Rattle.std.proofs.Common.{◌∙◌, Bool, Option, ap, subst}
use Rattle.app_table.specs.Applications.{child_of}
use Rattle.process.specs.Process.{ProcessState}
use Rattle.std.specs.Option.{option_copied}
use Rattle.upgrade_review.specs.Gathering.{Adds}
use Rattle.node_questions.proofs.Turns.{noted_both}
use Rattle.node_questions.specs.Parts.{DiffersIfRuns, HasOtherSpecification}
use Rattle.node_questions.specs.Running.{is_awaited, process_in, process_of, running_of}
use Rattle.node_questions.proofs.comparing.note_child.Goals as goal

pub returns : goal.returns
returns c =
    let app = c.args.app.now in
    let child = c.args.child.now in
    let id = child.spec.id in
    let u = running_of c.args.upgraded in
    let old = c.args.found.now.items in
    let between = c.note_running.new.found.items in
    let now = process_in app id u in
    let was = process_of child c.args.processes.now in
    let due = is_awaited (child_of app id u.apps) in
    let told = c.is_awaited-awaited.result in
    let of_now = subst (λ (o : Option ProcessState). Adds (DiffersIfRuns app id told o was) old between) c.process_in-now.ensures
    (subst (λ (o : Option ProcessState). Adds (DiffersIfRuns app id told (option_copied c.process_in-now.result) o) old between)
    c.process_of-process.ensures c.in_ok-note_running.ensures) in
    let first : Adds (DiffersIfRuns app id due now was) old between =
    subst (λ (b : Bool). Adds (DiffersIfRuns app id b now was) old between)
    (c.is_awaited-awaited.ensures ∙ ap is_awaited c.child_of.ensures) of_now in
    noted_both c.note_specification.result (DiffersIfRuns app id due now was)
    (HasOtherSpecification app child (child_of app id u.apps)) old between _ first c.note_specification.ensures
