-- Its messages are taken whatever its state, and what is counted on is counted back.
use Rattle.std.proofs.Common.{◌≡◌, ◌-◌, ◌≤◌, true, ap, sym, subst, ◌∙◌}
use Rattle.process.specs.Process.{ProcessState, is_server_at}
use Rattle.process.proofs.Restating.{awaited_restated, turns_again}
use Rattle.process.proofs.process.Process.unrestate.Goals as goal

pub invariant_of-self : goal.invariant_of-self
invariant_of-self c =
    let i = c.self.inside in
    let p : ProcessState = record { pid = i.pid; name = i.name; place = i.place; rests_in = i.rests_in; activity = i.activity; turn = i.turn; mailbox = i.mailbox.items } in
    let server : is_server_at i.place ≡ true = ap (λ (q : ProcessState). is_server_at q.place) c.self.view_is ∙ c.requires.server in
    awaited_restated p c.exchange_state.new.place c.args.state (i.turn - c.args.turns) i.next server c.exchange_state.ensures.changed c.self.invariant

pub returns-clause-back : goal.returns-clause-back
returns-clause-back c =
    let i = c.self.inside in
    let p : ProcessState = record { pid = i.pid; name = i.name; place = i.place; rests_in = i.rests_in; activity = i.activity; turn = i.turn; mailbox = i.mailbox.items } in
    let within : c.args.turns ≤ i.turn = subst (λ (q : ProcessState). c.args.turns ≤ q.turn) (sym c.self.view_is) c.requires.turns in
    (λ k. record p { place = c.exchange_state.ensures.back k; turn = turns_again i.turn c.args.turns within k }) ∙ c.self.view_is
