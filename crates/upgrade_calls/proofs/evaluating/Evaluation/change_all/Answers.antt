-- One process more has changed, or it is the first that fails to.
use Rattle.std.proofs.Common.{◌≡◌, ◌++◌, ◌∷◌, ◌∙◌, All, List, [], ap, arith, length, refl, subst, sym}
use Rattle.std.proofs.lemmas.List.{append_assoc}
use Rattle.std.proofs.lemmas.List.Elements.{All-tail}
use Rattle.std.specs.Vec.Iter.{into_iter_items}
use Rattle.process_store.specs.Table.{living}
use Rattle.upgrade_calls.proofs.Reached.{Reached, all_reached, first_fails, more_reached}
use Rattle.upgrade_calls.specs.Changing.{IsServer}
use Rattle.upgrade_calls.specs.declared.changing.CodeChangeCall.{CodeChangeCall}
use Rattle.upgrade_calls.proofs.evaluating.Evaluation.change_all.Goals as goal

nothing_left : (cs : List CodeChangeCall) → length cs ≡ 0 → cs ≡ []
nothing_left [] none = refl
nothing_left (d ∷ cs) none = absurd (omega (arith, none))

pub loop-change-preserved : goal.loop-change-preserved
loop-change-preserved c =
    let t = c.args.processes.now in
    let rest = into_iter_items c.next.new.self in
    let change = c.in-Some.change in
    let left : into_iter_items c.loop-change.change-iterator ≡ change ∷ rest = c.in-Some.ensures.steps.0 in
    let P : CodeChangeCall → Type 0 = λ d. IsServer (living d.pid t) in
    let has = c.in-Ok.ensures.changed in
    let here = subst (λ (cs : List CodeChangeCall). Reached c.args.code.now c.args.changes.items t c.args.self cs c.loop-change.evaluation) left c.loop-change.invariant.reached in
    record {
      evaluated = has.evaluated;
      servers = All-tail P change rest (subst (All P) left c.loop-change.invariant.servers);
      changes =
          ap (λ (cs : List CodeChangeCall). cs ++ rest) has.last
          ∙ append_assoc c.loop-change.evaluation.changes (change ∷ []) rest
          ∙ ap (λ (cs : List CodeChangeCall). c.loop-change.evaluation.changes ++ cs) (sym left)
          ∙ c.loop-change.invariant.changes;
      count = omega (arith, c.in-Some.ensures.steps.1, c.loop-change.invariant.count, ap (λ (cs : List CodeChangeCall). length cs) left);
      reached = more_reached c.args.code.now c.args.changes.items t c.args.self c.loop-change.evaluation _ change rest here has;
    }

pub returns-in-Err-clause-failed : goal.returns-in-Err-clause-failed
returns-in-Err-clause-failed c =
    let t = c.args.processes.now in
    let rest = into_iter_items c.next.new.self in
    let change = c.in-Some.change in
    let left : into_iter_items c.loop-change.change-iterator ≡ change ∷ rest = c.in-Some.ensures.steps.0 in
    let here = subst (λ (cs : List CodeChangeCall). Reached c.args.code.now c.args.changes.items t c.args.self cs c.loop-change.evaluation) left c.loop-change.invariant.reached in
    first_fails c.in-Err.failure c.args.code.now c.args.changes.items t c.args.self c.loop-change.evaluation change rest here c.in-Err.ensures.failed

pub returns-clause-changed : goal.returns-clause-changed
returns-clause-changed c =
    let t = c.args.processes.now in
    let empty : into_iter_items c.loop-change.change-iterator ≡ [] = nothing_left (into_iter_items c.loop-change.change-iterator) (sym c.loop-change.invariant.count ∙ c.in-None.ensures.steps.0) in
    let here = subst (λ (cs : List CodeChangeCall). Reached c.args.code.now c.args.changes.items t c.args.self cs c.loop-change.evaluation) empty c.loop-change.invariant.reached in
    all_reached c.args.code.now c.args.changes.items t c.args.self c.loop-change.evaluation here
