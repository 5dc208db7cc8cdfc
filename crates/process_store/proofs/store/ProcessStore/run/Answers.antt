-- A process that runs a message keeps its name and its calls, and its message comes back.
use Rattle.std.proofs.Common.{option_map, sym, ap, subst, ◌∙◌}
use Rattle.process_store.specs.Living.{run}
use Rattle.process_store.specs.Inverses.{WasTaken}
use Rattle.process_store.specs.Table.{living, living_at}
use Rattle.process_store.proofs.Runs.{run_back, run_fits, run_indexed}
use Rattle.process_store.proofs.Slots.{living_changed}
use Rattle.process_store.proofs.store.ProcessStore.run.Goals as goal

pub invariant_of-self : goal.invariant_of-self
invariant_of-self c =
    let i = c.self.inside in
    run_indexed c.args.position c.args.entry_serial c.args.code i.names i.open_calls i.slots c.run_at.new.slots c.args.pid c.self.invariant c.run_at.ensures

pub returns-clause-process : goal.returns-clause-process
returns-clause-process c =
    let f = run c.args.position c.args.entry_serial c.args.code in
    ap (λ x. living_at x c.args.pid) c.run_at.ensures ∙ living_changed f c.self.inside.slots c.args.pid ∙ ap (λ t. option_map f (living c.args.pid t)) c.self.view_is

pub returns-clause-fits : goal.returns-clause-fits
returns-clause-fits c =
    let f = run c.args.position c.args.entry_serial c.args.code in
    let there = ap (λ x. living_at x c.args.pid) c.run_at.ensures ∙ living_changed f c.self.inside.slots c.args.pid ∙ ap (λ t. option_map f (living c.args.pid t)) c.self.view_is in
    subst (WasTaken c.args.position) (sym there) (run_fits (living c.args.pid c.args.self.now) c.args.position c.args.entry_serial c.args.code c.requires)

pub returns-clause-back : goal.returns-clause-back
returns-clause-back c =
    run_back c.self.inside.slots c.run_at.new.slots c.args.self.now c.args.pid c.args.position c.args.entry_serial c.args.code c.self.view_is c.requires c.run_at.ensures
