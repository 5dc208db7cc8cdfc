-- A clause takes the value, or none does.
use Rattle.std.proofs.Common.{ap, sym, ◌∙◌, rules}
use Rattle.std.specs.Prelude.{codes}
use Rattle.erl_term.specs.Term.{tree, trees}
use Rattle.erl_ir.specs.ExpressionForms.{clauses}
use Rattle.erl_semantics.specs.State.{exit_by_pair}
use Rattle.erl_steps.specs.Machine.{selecting}
use Rattle.erl_steps.specs.Views.{control_or, machine_of, world_of}
use Rattle.erl_steps.proofs.machine.Machine.select_case.Goals as goal

pub returns-in-Some : goal.returns-in-Some
returns-in-Some c =
    ap (λ o. (control_or (exit_by_pair (codes "case_clause") (tree c.args.value)) o, machine_of c.choose.new.self)) (sym c.in-Some.is) ∙
    c.in_ok-next.ensures (exit_by_pair (codes "case_clause") (tree c.args.value)) ∙
    ap (λ ts. selecting (world_of c.args.world.now) (exit_by_pair (codes "case_clause") (tree c.args.value)) (clauses c.args.items.now)
    (trees ts) (machine_of c.args.self.now)) c.from_ref.ensures.value

pub returns : goal.returns
returns c =
    let failed = ap (λ o. (control_or (exit_by_pair (codes "case_clause") (tree c.args.value)) o, machine_of c.choose.new.self)) (sym c.in-None.is) ∙
    c.in_ok-next.ensures (exit_by_pair (codes "case_clause") (tree c.args.value)) ∙
    ap (λ ts. selecting (world_of c.args.world.now) (exit_by_pair (codes "case_clause") (tree c.args.value)) (clauses c.args.items.now)
    (trees ts) (machine_of c.args.self.now)) c.from_ref.ensures.value in
    search rules
