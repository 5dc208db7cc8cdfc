-- A release is set unpacked, or it is told why not.
use Rattle.std.proofs.Common.{◌++◌, ap, refl, subst, sym, ◌∙◌}
use Rattle.std.specs.Str.{chars}
use Rattle.node_types.specs.declared.event.Event.TheVariants as event
use Rattle.shell_answers.specs.Answers.{line_of, set_unpacked}
use Rattle.shell_answers.specs.Refusals.{naming}
use Rattle.shell_state.proofs.Done.{IfOk-then}
use Rattle.shell_state.proofs.Performing.{halted, performed}
use Rattle.shell_state.specs.Done.{IsDone}
use Rattle.shell_state.specs.Halts.{halt_answer}
use Rattle.shell_state.specs.Performing.{Performs, done_by}
use Rattle.shell_state.specs.State.{ShellState}
use Rattle.shell_upgrades.proofs.unpacking.set_unpacked.Goals as goal

pub returns-in-Ok : goal.returns-in-Ok
returns-in-Ok c =
    let s = c.args.held.now in
    let r = c.args.release in
    let e = event.SetUnpacked r in
    let about = naming (chars c.args.vsn.now) in
    let text = c.args.out.now.items in
    IfOk-then c.tell_unpacked.result _ _ c.tell_unpacked.ensures (λ fate told. λ same. performed s c.perform.new.self e about (done_by s e) c.in-Ok.field-0 fate c.perform.new.self text c.tell_unpacked.new.out.items (λ after a. after) (λ after a. line_of (set_unpacked r.rel.vsn)) c.in-Ok.ensures.stepped (λ a rule. refl) (told.0, refl, told.1 ∙ ap (λ v. text ++ line_of (set_unpacked v)) (sym same)))

pub returns : goal.returns
returns c =
    let s = c.args.held.now in
    let e = event.SetUnpacked c.args.release in
    let about = naming (chars c.args.vsn.now) in
    let text = c.args.out.now.items in
    let out = c.tell_halt_of.new.out.items in
    IfOk-then c.tell_halt_of.result _ _ c.tell_halt_of.ensures (λ fate told. λ same. subst (λ (u : ShellState). IsDone (Performs s s e about (done_by s e) fate) u text out) (sym c.in-Err.ensures.err) (halted s e about (done_by s e) c.in-Err.halt fate text out c.in-Err.ensures.halted (told.0, told.1 ∙ ap (λ b. text ++ line_of (halt_answer b c.in-Err.halt)) c.naming-about.ensures)))
