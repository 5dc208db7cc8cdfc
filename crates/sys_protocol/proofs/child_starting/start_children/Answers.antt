-- One child more has started, or it is the first that has failed.
use Rattle.std.proofs.Common.{◌+◌, ◌++◌, List, drop, sym, ap, subst, ◌∙◌}
use Rattle.std.proofs.lemmas.List.{append_assoc, drop_all}
use Rattle.erl_semantics.proofs.Tests.{from_here}
use Rattle.sys_protocol.proofs.Names.{pids_answered}
use Rattle.sys_protocol.proofs.Reached.{Reached, all_reached, first_fails, more_reached}
use Rattle.sys_protocol.specs.ChildStarts.{after_start, start_told}
use Rattle.process_effects.specs.Begins.{IsUnderWay}
use Rattle.process_effects.specs.declared.told.Reply.{Reply}
use Rattle.process_store.specs.Table.{next_pid}
use Rattle.sys_protocol.proofs.child_starting.start_children.Goals as goal

pub returns-in_err-note-in-Ok-clause-back : goal.returns-in_err-note-in-Ok-clause-back
returns-in_err-note-in-Ok-clause-back c = λ before way. c.start_child.ensures.back before (c.loop-child.invariant.back before way)

pub returns-in-Err-clause-back : goal.returns-in-Err-clause-back
returns-in-Err-clause-back c = λ before way. c.start_child.ensures.back before (c.loop-child.invariant.back before way)

pub returns-in-Err-clause-failed : goal.returns-in-Err-clause-failed
returns-in-Err-clause-failed c =
    λ before t told way.
    let children = c.args.children.now in
    let index = c.loop-child.child-index in
    let child = c.child-item.result in
    let (now, others, reached, under) = c.loop-child.invariant.so_far before t told way in
    first_fails c.in-Err.failure c.args.code.now children t child (drop (index + 1) children) (drop index children) c.loop-child.pids.items now others (from_here children index child c.loop-child-test.true c.child-item.is) reached (c.in-Err.ensures.failed before now (told ++ others) under)

pub loop-child-preserved : goal.loop-child-preserved
loop-child-preserved c = record {
  so_far = λ before t told way.
      let code = c.args.code.now in
      let children = c.args.children.now in
      let index = c.loop-child.child-index in
      let child = c.child-item.result in
      let pids = c.loop-child.pids.items in
      let batch = c.start_child.new.batch in
      let (now, others, reached, under) = c.loop-child.invariant.so_far before t told way in
      let (o, begun, more) = c.in-Ok.ensures.started before now (told ++ others) under in
      let after = after_start code o now in
      let said = others ++ start_told code o now in
      let one = more_reached code children t child (drop (index + 1) children) (drop index children) pids c.in-Ok.pid now others o reached (from_here children index child c.loop-child-test.true c.child-item.is) begun (c.in-Ok.ensures.pid ∙ sym (ap next_pid under.makes ∙ pids_answered c.loop-child.batch.answers.items c.loop-child.processes)) in
      (after, said, subst (λ ps. Reached code children t (drop (index + 1) children) ps after said) (sym c.in_ok-note-in-Ok.ensures) one, subst (λ (r : List Reply). IsUnderWay batch.changes.items batch.answers.items before c.start_child.new.processes after r) (append_assoc told others (start_told code o now)) more);
  back = λ before way. c.start_child.ensures.back before (c.loop-child.invariant.back before way);
}

pub returns-clause-started : goal.returns-clause-started
returns-clause-started c =
    λ before t told way.
    let (now, others, reached, under) = c.loop-child.invariant.so_far before t told way in
    (now, others, all_reached c.args.code.now c.args.children.now t (drop c.loop-child.child-index c.args.children.now) c.loop-child.pids.items now others (drop_all c.loop-child.child-index c.args.children.now c.loop-child-test.false) reached, under)
