-- What the script has come to is told, or why it doesn't go on.
use Rattle.std.proofs.Common.{◌≡◌, Some, ap, refl, subst, sym, ◌∙◌}
use Rattle.std.specs.Prelude.{option_map}
use Rattle.erl_term.specs.Term.{tree}
use Rattle.low_instructions.specs.Forms.{low_tree}
use Rattle.shell_state.specs.Node.{NodeState}
use Rattle.node_types.specs.declared.event.Event.TheVariants as event
use Rattle.shell_answers.specs.Answers.{line_of}
use Rattle.shell_answers.specs.Refusals.{naming_nothing}
use Rattle.shell_state.proofs.Done.{IfOk-then}
use Rattle.shell_state.proofs.Performing.{halted, performed}
use Rattle.shell_state.specs.Done.{IsDone}
use Rattle.shell_state.specs.Performing.{Performs, done_by}
use Rattle.shell_state.specs.State.{ShellState, node_of, stepped}
use Rattle.undo_journal.specs.declared.history.Command.TheVariants.{Perform}
use Rattle.shell_upgrades.proofs.Advanced.{advance_told}
use Rattle.shell_upgrades.specs.Advancing.{advanced_by, next_of}
use Rattle.shell_upgrades.proofs.advancing.advance.Goals as goal

pub returns-in_default : goal.returns-in_default
returns-in_default c =
    let s = c.args.held.now in
    let e = event.Advance c.args.give_up in
    IfOk-then c.tell_halt.result _ _ c.tell_halt.ensures (λ fate told. halted s e naming_nothing (done_by s e) c.halt_of_event-halt.result fate c.args.out.now.items c.tell_halt.new.out.items c.halt_of_event-halt.ensures told)

pub returns-in-Ok-perform : goal.returns-in-Ok-perform
returns-in-Ok-perform c =
    let s = c.args.held.now in
    let e = event.Advance c.args.give_up in
    let text = c.args.out.now.items in
    let new = c.perform.new.self in
    let next = option_map tree c.in-Ok.next in
    let is : next ≡ option_map low_tree (next_of (node_of s)) = c.in-Ok.ensures ∙ ap (λ (n : NodeState). option_map low_tree (next_of n)) c.node.ensures in
    IfOk-then c.tell_advanced.result _ _ c.tell_advanced.ensures (λ fate told. performed s new e naming_nothing (done_by s e) c.in-Ok-perform.answer fate new text c.tell_advanced.new.out.items (λ after a. after) (λ after a. line_of (advanced_by next a)) c.in-Ok-perform.ensures.stepped (λ a rule. (λ i. record { text = line_of (advance_told c.args.give_up (node_of s) a rule next is i); after = stepped a s; command = Some (Perform e) })) (told.0, refl, told.1))

pub returns : goal.returns
returns c =
    let s = c.args.held.now in
    let e = event.Advance c.args.give_up in
    let text = c.args.out.now.items in
    let out = c.tell_halt-in-Err.new.out.items in
    IfOk-then c.tell_halt-in-Err.result _ _ c.tell_halt-in-Err.ensures (λ fate told. subst (λ (u : ShellState). IsDone (Performs s s e naming_nothing (done_by s e) fate) u text out) (sym c.in-Err.ensures.err) (halted s e naming_nothing (done_by s e) c.in-Err.halt fate text out c.in-Err.ensures.halted told))
