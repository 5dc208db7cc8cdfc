-- No clause takes the arguments.
use Rattle.std.proofs.Common.{ap, sym, ◌∙◌, rules}
use Rattle.std.specs.Prelude.{codes}
use Rattle.erl_semantics.specs.State.{exit_by}
use Rattle.erl_steps.specs.Views.{control_or, machine_of}
use Rattle.erl_steps.proofs.machine.Machine.enter_clauses.Goals as goal

pub returns : goal.returns
returns c =
    let failed = ap (λ o. (control_or (exit_by (codes "function_clause")) o, machine_of c.choose.new.self)) (sym c.in-None.is) ∙
    c.in_ok-next.ensures (exit_by (codes "function_clause")) in
    search rules
