-- It gets its state behind the others, and then what it asks for is done.
use Rattle.std.proofs.Common.{◌≡◌, ◌++◌, ◌∙◌, List, ap, arith, length, subst, sym}
use Rattle.erl_semantics.specs.declared.acts.Act.{Act}
use Rattle.upgrade_calls.proofs.NewStates.{turns_within}
use Rattle.upgrade_calls.proofs.Reached.{fails_after, one_changed, with_change}
use Rattle.upgrade_calls.specs.Evaluated.{AreEvaluated, Evaluated, HasChanged, processes_after}
use Rattle.upgrade_calls.specs.Changing.{FailsToChange}
use Rattle.values.specs.Failure.{Fails}
use Rattle.upgrade_calls.proofs.evaluating.Evaluation.change.Goals as goal

pub returns-clause-changed : goal.returns-clause-changed
returns-clause-changed c =
    let code = c.args.code.now in
    let t = c.args.processes.now in
    let change = c.args.change in
    let before : Evaluated = record { changes = c.self.inside.changes.items; states = c.self.inside.states; acts = c.self.inside.acts.items } in
    let state = c.in-Ok.changed.0 in
    let (o, changes, asks) = c.in-Ok.ensures.changes in
    let it = subst (AreEvaluated t) (sym c.self.view_is) c.requires.evaluated in
    let acts = c.in_ok-append.ensures ∙ ap (λ (more : List Act). c.self.inside.acts.items ++ more) asks in
    let after : Evaluated = record { changes = c.push.new.changes.items; states = c.put.new.self; acts = c.append.new.acts.items } in
    let is : after ≡ with_change change state o.acts before = λ i. record { changes = c.in_ok-push.ensures i; states = c.in_ok-put.ensures.ok i; acts = acts i } in
    let has = one_changed code t change before o state it c.requires.server changes in
    subst (λ (e : Evaluated). HasChanged code change t e after) c.self.view_is
    (subst (HasChanged code change t before) (sym is) has)

pub returns-in-Err-clause-failed : goal.returns-in-Err-clause-failed
returns-in-Err-clause-failed c =
    let before : Evaluated = record { changes = c.self.inside.changes.items; states = c.self.inside.states; acts = c.self.inside.acts.items } in
    let it = subst (AreEvaluated c.args.processes.now) (sym c.self.view_is) c.requires.evaluated in
    subst (λ (e : Evaluated). Fails (λ failed. (failed.pid ≡ c.args.change.pid) × FailsToChange c.args.code.now c.args.change (processes_after c.args.code.now e c.args.processes.now) failed.reason) (Unit {0}) c.in-Err.failure) c.self.view_is
    (fails_after c.in-Err.failure c.args.code.now c.args.processes.now c.args.change before it c.in-Err.ensures.fails)

pub put-requires : goal.put-requires
put-requires c =
    let before : Evaluated = record { changes = c.self.inside.changes.items; states = c.self.inside.states; acts = c.self.inside.acts.items } in
    let it = subst (AreEvaluated c.args.processes.now) (sym c.self.view_is) c.requires.evaluated in
    let most = turns_within c.args.change.pid (length before.changes) before.states it.within in
    omega (arith, most, c.self.inside.changes.small, c.self.inside.changes.ok.0, c.self.inside.changes.ok.1)
