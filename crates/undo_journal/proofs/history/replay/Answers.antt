-- Each turn carries one command out, or misses it.
use Rattle.std.proofs.Common.{◌++◌, ◌∷◌, [], take, subst, sym, ap, ◌∙◌, arith, add-one}
use Rattle.std.proofs.lemmas.Bool.{OnTrue_at, OnFalse_at}
use Rattle.std.proofs.lemmas.List.{take_all, take_more}
use Rattle.undo_journal.specs.Timeline.{opened}
use Rattle.undo_journal.proofs.Histories.{CarriedOn, CarriedOn-none, CarriedOn-done, CarriedOn-missed, IsReplayOf-all, last-command, last-missed}
use Rattle.undo_journal.proofs.history.replay.Goals as goal
use Rattle.undo_journal.proofs.history.replay.Goals.{then-not-carry_out, else-not-carry_out}

pub loop-command-init : goal.loop-command-init
loop-command-init g c =
    let begun = opened c.args.node in
    let last = ap (λ t. t.last) c.in_ok-journal.ensures in
    record {
      on = subst (λ t. CarriedOn g.S.Reversible.rule g.S.Reversible.may_run_out begun t [] 0) (sym c.in_ok-journal.ensures) (CarriedOn-none g.S.Reversible.rule g.S.Reversible.may_run_out begun);
      given = omega (arith, last);
      missed = omega arith;
    }

pub loop-command-preserved : goal.loop-command-preserved
loop-command-preserved g c =
    let rule = g.S.Reversible.rule in
    let may = g.S.Reversible.may_run_out in
    let begun = opened c.args.node in
    let before = c.loop-command.journal in
    let after = c.carry_out.new.journal in
    let command = c.command-item.result in
    let asked = take c.loop-command.command-index c.args.commands.now in
    let more = take_more c.args.commands.now c.loop-command.command-index command c.loop-command-test.true ∙ ap (λ d. asked ++ d ∷ []) (sym c.command-item.is) in
    elim c.if-not-carry_out.branch [
      | then-not-carry_out w ↦
          let missed = OnFalse_at w.if-not-carry_out.true c.carry_out.ensures.missed in
          let last = last-missed rule may before after command missed in
          let count = w.missed-is ∙ add-one c.loop-command.missed in
          record {
            on = rw (more, count) (CarriedOn-missed rule may begun before after asked c.loop-command.missed command c.loop-command.invariant.on missed);
            given = omega (arith, last, c.loop-command.invariant.given);
            missed = omega (arith, w.missed-is, c.loop-command.invariant.missed);
          }
      | else-not-carry_out w ↦
          let done = OnTrue_at w.if-not-carry_out.false c.carry_out.ensures.done in
          let last = last-command rule before after command done in
          record {
            on = rw (more, w.missed-is) (CarriedOn-done rule may begun before after asked c.loop-command.missed command c.loop-command.invariant.on done);
            given = omega (arith, last.1, c.loop-command.invariant.given);
            missed = omega (arith, w.missed-is, c.loop-command.invariant.missed);
          }
    ]

pub returns : goal.returns
returns g c =
    let all = take_all c.loop-command.command-index c.args.commands.now (omega arith) in
    IsReplayOf-all g.S.Reversible.rule g.S.Reversible.may_run_out c.args.node c.args.commands.now c.loop-command.missed c.loop-command.journal (subst (λ cs. CarriedOn g.S.Reversible.rule g.S.Reversible.may_run_out (opened c.args.node) c.loop-command.journal cs c.loop-command.missed) all c.loop-command.invariant.on)
