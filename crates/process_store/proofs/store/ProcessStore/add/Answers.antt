-- The process is last, its name is its own, and the last is taken away again; where there is no memory for it, its name is free again.
use Rattle.std.proofs.Common.{◌≡◌, length, false, sym, ap, subst, ◌∙◌, ◌+◌}
use Rattle.process_store.specs.declared.living.ProcessEntry.{ProcessEntry}
use Rattle.process_store.specs.Indexed.{registered, unregistered}
use Rattle.process_store.specs.Table.{is_taken}
use Rattle.process_store.proofs.Starting.{started_back, started_indexed, unnamed_again}
use Rattle.process_store.proofs.store.ProcessStore.add.Goals as goal

pub invariant_of-self-in-Ok : goal.invariant_of-self-in-Ok
invariant_of-self-in-Ok c =
    let i = c.self.inside in
    let l : ProcessEntry = record { process = c.new.result; calls = c.new-2.result } in
    let last : c.last-pid.result + 1 ≡ length i.slots = c.last-pid.ensures in
    started_indexed i.names c.register.new.names i.open_calls i.slots c.push.new.self c.args.name (c.last-pid.result + 1) l c.self.invariant (subst (λ t. is_taken c.args.name t ≡ false) (sym c.self.view_is) c.requires.untaken)
    (ap (λ p. p.name) c.new.ensures) (ap (λ p. p.pid) c.new.ensures) c.new-2.ensures last
    (c.in_ok-register.ensures.ok ∙ ap (λ n. registered n (c.last-pid.result + 1) i.names) c.as_ref.ensures.value)
    c.in-Ok.ensures.ok

pub invariant_of-self-in-Err : goal.invariant_of-self-in-Err
invariant_of-self-in-Err c =
    let i = c.self.inside in
    let own = c.name.ensures ∙ ap (λ (l : ProcessEntry). l.process.name) c.in-Err.ensures.back ∙ ap (λ p. p.name) c.new.ensures in
    unnamed_again i.names c.register.new.names c.unregister.new.names i.open_calls i.slots c.push.new.self c.args.name (c.last-pid.result + 1) c.self.invariant (subst (λ t. is_taken c.args.name t ≡ false) (sym c.self.view_is) c.requires.untaken)
    (c.in_ok-register.ensures.ok ∙ ap (λ n. registered n (c.last-pid.result + 1) i.names) c.as_ref.ensures.value)
    (c.unregister.ensures ∙ ap (λ n. unregistered n c.register.new.names) own)
    c.in-Err.ensures.err

pub returns-in-Ok-clause-fits : goal.returns-in-Ok-clause-fits
returns-in-Ok-clause-fits c =
    let l : ProcessEntry = record { process = c.new.result; calls = c.new-2.result } in
    (started_back c.self.inside.slots c.push.new.self c.args.self.now l c.in-Ok.ensures.ok c.new-2.ensures c.self.view_is).0

pub returns-in-Ok-clause-back : goal.returns-in-Ok-clause-back
returns-in-Ok-clause-back c =
    let l : ProcessEntry = record { process = c.new.result; calls = c.new-2.result } in
    (started_back c.self.inside.slots c.push.new.self c.args.self.now l c.in-Ok.ensures.ok c.new-2.ensures c.self.view_is).1
