-- The change is put under its pid.
use Rattle.std.proofs.Common.{◌+◌, ◌∙◌, map, ap, sym, subst}
use Rattle.upgrade_calls.proofs.NewStates.{by_pid_put, put, rising_put}
use Rattle.upgrade_calls.specs.NewStates.{AreByPid, AreRising, turns_of, with_new}
use Rattle.upgrade_calls.proofs.new_states.NewStates.put.Goals as goal

pub invariant_of-self-2 : goal.invariant_of-self-2
invariant_of-self-2 c =
    let es = c.self.inside.by_pid.entries in
    let pid = c.args.pid in
    let turns = c.turns-turns.result + 1 in
    let is = ap (λ n. n + 1) (c.turns-turns.ensures ∙ ap (turns_of pid) (sym c.self.view_is)) in
    let all = ap (map (λ e. e.1)) c.in_ok-insert.ensures.entries ∙ put pid turns c.args.state es c.self.invariant.0 c.self.invariant.1 is in (
      subst AreByPid (sym c.in_ok-insert.ensures.entries) (by_pid_put pid turns c.args.state es c.self.invariant.0),
      subst AreRising (sym all) (rising_put pid c.args.state (map (λ e. e.1) es) c.self.invariant.1),
    )

pub returns-clause-ok : goal.returns-clause-ok
returns-clause-ok c =
    let es = c.self.inside.by_pid.entries in
    let pid = c.args.pid in
    let turns = c.turns-turns.result + 1 in
    let is = ap (λ n. n + 1) (c.turns-turns.ensures ∙ ap (turns_of pid) (sym c.self.view_is)) in
    ap (map (λ e. e.1)) c.in_ok-insert.ensures.entries
    ∙ put pid turns c.args.state es c.self.invariant.0 c.self.invariant.1 is
    ∙ ap (with_new pid c.args.state) c.self.view_is
