-- What takes the acts back gives the processes with their new states, and what takes these back the processes before.
use Rattle.std.proofs.Common.{◌≡◌, ℕ, List, None, length, ap, subst, sym, ◌∙◌}
use Rattle.std.proofs.lemmas.List.Elements.{recursion_from_All}
use Rattle.erl_semantics.specs.Acts.{act_of}
use Rattle.erl_semantics.specs.OutcomeLaws.{IsMessage}
use Rattle.erl_semantics.specs.declared.acts.Act.{Act}
use Rattle.process_effects.specs.Begins.{acts_begun}
use Rattle.process_store.specs.Pieces.{HoldsLost}
use Rattle.process_store.specs.Table.{living}
use Rattle.process_table.specs.States.{CanUnrestateAll, all_unrestated, held_places}
use Rattle.process_table.specs.declared.states.StateChange.{StateChange}
use Rattle.upgrade_calls.proofs.Back.{changes_back, written}
use Rattle.process_table.specs.Undo.{held}
use Rattle.upgrade_calls.proofs.Kept.{more_lost, still_lost}
use Rattle.upgrade_calls.proofs.Seen.{seen, seen_begun}
use Rattle.upgrade_calls.proofs.changing.make_changes.Goals as goal

pub returns-in-Ok-clause-inverse : goal.returns-in-Ok-clause-inverse
returns-in-Ok-clause-inverse c =
    let states = c.new-states.result in
    let before = c.args.processes.now in
    let now = c.restate_all.new.self in
    let is = c.new-states.ensures ∙ written c.restate_all.new.changes c.args.states.items c.args.states.len c.args.states.ok.0 (c.restate_all.auto.changes ∙ ap length c.as_mut_slice.ensures.value) in
    let fits = subst (λ (ss : List StateChange). CanUnrestateAll ss now) (sym is) c.restate_all.ensures.fits in
    let back = subst (λ (ss : List StateChange). all_unrestated ss now ≡ before) (sym is) c.restate_all.ensures.back in
    changes_back states c.in-Ok.done before now c.act.new.processes c.in-Ok.ensures.inverse fits back

pub returns-in-Ok-clause-pieces : goal.returns-in-Ok-clause-pieces
returns-in-Ok-clause-pieces c =
    let before = c.args.processes.now in
    let now = c.restate_all.new.self in
    let after = c.act.new.processes in
    let acts = c.args.acts.items in
    let is = c.new-states.ensures ∙ written c.restate_all.new.changes c.args.states.items c.args.states.len c.args.states.ok.0 (c.restate_all.auto.changes ∙ ap length c.as_mut_slice.ensures.value) in
    let only = recursion_from_All (λ (a : Act). IsMessage (act_of a)) acts c.requires.messages in
    let lost = subst (λ (ss : List StateChange). HoldsLost (held_places ss now) before now) (sym is) c.restate_all.ensures.pieces in
    let same = λ (pid : ℕ). sym (seen_begun c.args.code.now pid acts now only) ∙ ap (λ t. seen (living pid t)) (ap (λ xs. acts_begun None c.args.code.now xs now) (sym c.new.ensures) ∙ sym c.in-Ok.ensures.done) in
    more_lost (held_places c.new-states.result after) (held c.in-Ok.done after) before after (still_lost c.new-states.result before now after same lost) c.in-Ok.ensures.none
