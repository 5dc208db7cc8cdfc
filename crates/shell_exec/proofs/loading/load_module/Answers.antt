-- The module is loaded, or why it isn't is answered.
use Rattle.std.proofs.Common.{[], ◌++◌, ap, refl, subst, sym, ◌∙◌}
use Rattle.node_types.specs.declared.event.Event.TheVariants as event
use Rattle.shell_answers.specs.Answers.{line_of, loaded}
use Rattle.shell_answers.specs.Refusals.{naming_nothing}
use Rattle.shell_upgrades.proofs.Done.{IfOk-then}
use Rattle.shell_upgrades.proofs.Performing.{halted, performed}
use Rattle.shell_upgrades.specs.Performing.{Performs}
use Rattle.shell_upgrades.specs.Done.{IsDone}
use Rattle.shell_upgrades.specs.State.{ShellState, carried, stepped}
use Rattle.shell_exec.proofs.Sources.{source-read, source-unread}
use Rattle.shell_exec.proofs.loading.load_module.Goals as goal

pub returns-in_default : goal.returns-in_default
returns-in_default c =
    IfOk-then c.refuse.result _ _ c.refuse.ensures (λ fate told. λ name path it. source-unread c.args.held.now name path it.bytes fate c.args.out.now.items c.refuse.new.out.items it.stands told)

pub returns-in-Ok-perform : goal.returns-in-Ok-perform
returns-in-Ok-perform c =
    let s = c.args.held.now in
    let m = c.args.code in
    let text = c.args.out.now.items in
    let same = ap (λ n. text ++ line_of (loaded n)) (c.in-Ok.ensures ∙ c.name.ensures) in
    IfOk-then c.tell_loaded.result _ _ c.tell_loaded.ensures (λ fate told. λ name path it. source-read s name path c.perform.new.self fate text c.tell_loaded.new.out.items m it (performed s c.perform.new.self (event.Load m) naming_nothing (λ a. carried (stepped a s) (event.Load m) (loaded m.name)) c.in-Ok-perform.field-0 fate c.perform.new.self text c.tell_loaded.new.out.items (λ after a. after) (λ after a. line_of (loaded m.name)) c.in-Ok-perform.ensures.stepped (λ a rule. refl) (told.0, refl, told.1 ∙ same)))

pub returns : goal.returns
returns c =
    let s = c.args.held.now in
    let m = c.args.code in
    IfOk-then c.tell_halt.result _ _ c.tell_halt.ensures (λ fate told. λ name path it. source-read s name path c.perform.new.self fate c.args.out.now.items c.tell_halt.new.out.items m it (subst (λ (u : ShellState). IsDone (Performs s s (event.Load m) naming_nothing (λ a. carried (stepped a s) (event.Load m) (loaded m.name)) fate) u c.args.out.now.items c.tell_halt.new.out.items) (sym c.in-Err.ensures.err) (halted s (event.Load m) naming_nothing (λ a. carried (stepped a s) (event.Load m) (loaded m.name)) c.in-Err.halt fate c.args.out.now.items c.tell_halt.new.out.items c.in-Err.ensures.halted told)))
