-- The children start in the processes that `init` has left.
use Rattle.std.proofs.Common.{◌++◌, List, None, subst}
use Rattle.std.proofs.lemmas.List.{append_assoc}
use Rattle.values.specs.Failure.{Fails}
use Rattle.process_effects.specs.Begins.{IsUnderWay, acts_begun, begun_told}
use Rattle.process_effects.specs.declared.told.Reply.{Reply}
use Rattle.sys_protocol.proofs.SupervisionGiven.{fails_given, starts_given}
use Rattle.sys_protocol.specs.ChildFaults.{StartFails}
use Rattle.sys_protocol.proofs.supervising.begin_supervision.Goals as goal

pub returns-in-Ok-begin_children-clause-started : goal.returns-in-Ok-begin_children-clause-started
returns-in-Ok-begin_children-clause-started c =
    λ before t told way.
    let code = c.args.code.now in
    let specs = c.in-Ok.it.specs in
    let acts = c.in-Ok.it.acts in
    let end = c.begin_children.new.batch in
    let now = c.begin_children.new.processes in
    let said = begun_told None code acts t in
    let (after, others, all, under) = c.in-Ok-begin_children.ensures.started before (acts_begun None code acts t) (told ++ said) (c.in_ok-begin.ensures.begun before t told way) in (
      after,
      said ++ others,
      starts_given code c.args.module.now specs acts c.in-Ok.ensures.given t c.in-Ok-begin_children.children after others all,
      subst (λ (r : List Reply). IsUnderWay end.changes.items end.answers.items before now after r) (append_assoc told said others) under,
    )

pub returns-in-Err-Refused-begin_children-clause-failed : goal.returns-in-Err-Refused-begin_children-clause-failed
returns-in-Err-Refused-begin_children-clause-failed c =
    λ before t told way.
    let code = c.args.code.now in
    let specs = c.in-Ok.it.specs in
    let acts = c.in-Ok.it.acts in
    let failed = c.in-Err-Refused-begin_children.failed in
    let said = begun_told None code acts t in
    let fails = c.in-Err-Refused-begin_children.ensures.failed before (acts_begun None code acts t) (told ++ said) (c.in_ok-begin.ensures.begun before t told way) in
    let one = subst (Fails (λ f. StartFails f code specs (acts_begun None code acts t)) (Unit {0})) c.in-Err-Refused-begin_children.field-0-is fails in
    fails_given code c.args.module.now specs acts c.in-Ok.ensures.given t failed one
