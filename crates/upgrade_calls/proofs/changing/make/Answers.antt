-- Where the turns of all that are to get a state can be counted on, those of all that change are counted, and else they aren't.
use Rattle.std.proofs.Common.{◌≡◌, true, All, List, None, subst, sym, ◌∙◌}
use Rattle.std.proofs.lemmas.Bool.{true≢false}
use Rattle.std.proofs.lemmas.List.Elements.{recursion_from_All}
use Rattle.erl_semantics.specs.Acts.{act_of}
use Rattle.erl_semantics.specs.OutcomeLaws.{IsMessage}
use Rattle.erl_semantics.specs.declared.acts.Act.{Act}
use Rattle.process_effects.specs.Begins.{acts_begun}
use Rattle.process_store.specs.Table.{living}
use Rattle.process_table.specs.States.{all_restated}
use Rattle.process_table.specs.declared.states.StateChange.{StateChange}
use Rattle.upgrade_calls.proofs.Seen.{all_count, all_left}
use Rattle.upgrade_calls.specs.Changing.{AreCounted}
use Rattle.upgrade_calls.specs.Evaluated.{CanCount, processes_after}
use Rattle.upgrade_calls.proofs.changing.make.Goals as goal

pub returns-then-not-can_count_all-clause-refused : goal.returns-then-not-can_count_all-clause-refused
returns-then-not-can_count_all-clause-refused c counted =
    let t = c.args.processes.now in
    let code = c.args.code.now in
    let e = c.args.evaluation in
    let only = recursion_from_All (λ (a : Act). IsMessage (act_of a)) e.acts c.requires.messages in
    let same = c.as_slice.ensures.value ∙ c.in_ok-states.ensures.0 in
    let can = all_count code e.acts only e.states t c.requires.rising c.requires.changes (c.requires.counted (processes_after code e t) counted) in
    let all : c.can_count_all.result ≡ true = c.can_count_all.ensures.1 (subst (λ (ss : List StateChange). All (λ (d : StateChange). CanCount d.turns (living d.pid t)) ss) (sym same) can) in
    true≢false (sym all ∙ c.if-not-can_count_all.true)

pub returns-clause-counted : goal.returns-clause-counted
returns-clause-counted c =
    let t = c.args.processes.now in
    let code = c.args.code.now in
    let e = c.args.evaluation in
    let only = recursion_from_All (λ (a : Act). IsMessage (act_of a)) e.acts c.requires.messages in
    let same = c.as_slice.ensures.value ∙ c.in_ok-states.ensures.0 in
    let can = subst (λ (ss : List StateChange). All (λ (d : StateChange). CanCount d.turns (living d.pid t)) ss) same (c.can_count_all.ensures.0 c.if-not-can_count_all.false) in
    let made = c.in_ok-changed.ensures.made ∙ (λ i. acts_begun None code (c.in_ok-states.ensures.1 i) (all_restated (c.in_ok-states.ensures.0 i) t)) in
    subst (AreCounted e.changes) (sym made) (c.requires.counts (processes_after code e t) (all_left code e.acts only e.states t c.requires.rising can))
