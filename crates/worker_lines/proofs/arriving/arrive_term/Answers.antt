-- The term arrives, by what it is to be.
use Rattle.std.proofs.Common.{List, ℕ, IfOk, subst, sym}
use Rattle.std.specs.Str.{chars}
use Rattle.shell_requests.specs.declared.request.ArrivalKind.{ArrivalKind}
use Rattle.shell_requests.specs.declared.request.ArrivalKind.TheVariants as arrivals
use Rattle.worker_lines.specs.Asking.{IsAnswered}
use Rattle.worker_lines.specs.Execution.{Sends}
use Rattle.worker_lines.proofs.Heard.{IfOk-then}
use Rattle.worker_lines.proofs.Waiting.{unsent-told}
use Rattle.worker_lines.proofs.arriving.arrive_term.Goals as goal

pub returns-in_default : goal.returns-in_default
returns-in_default g c =
    IfOk-then c.refuse.result _ _ c.refuse.ensures (λ fate told. unsent-told c.args.kind (chars c.args.name.text.now) c.args.term c.args.seat.now c.args.out.now.items c.refuse.new.out.items fate told)

pub returns-in-Call : goal.returns-in-Call
returns-in-Call g c =
    let seat = c.args.seat.now in
    let text = c.args.out.now.items in
    let told : ArrivalKind → List ℕ → Type 0 = λ kind name. IfOk c.tell_call.result (λ fate. IsAnswered (Sends seat kind name c.args.term fate) seat c.tell_call.new.seat text c.tell_call.new.out.items) in
    subst (λ (k : ArrivalKind). told k (chars c.args.name.text.now)) (sym c.in-Call.is) (subst (λ (n : List ℕ). told arrivals.Call n) c.in-Ok.ensures c.tell_call.ensures)

pub returns-in-Cast : goal.returns-in-Cast
returns-in-Cast g c =
    let seat = c.args.seat.now in
    let text = c.args.out.now.items in
    let told : ArrivalKind → List ℕ → Type 0 = λ kind name. IfOk c.send.result (λ fate. IsAnswered (Sends seat kind name c.args.term fate) seat c.send.new.seat text c.send.new.out.items) in
    subst (λ (k : ArrivalKind). told k (chars c.args.name.text.now)) (sym c.in-Cast.is) (subst (λ (n : List ℕ). told arrivals.Cast n) c.in-Ok.ensures c.send.ensures)

pub returns-in-Info : goal.returns-in-Info
returns-in-Info g c =
    let seat = c.args.seat.now in
    let text = c.args.out.now.items in
    let told : ArrivalKind → List ℕ → Type 0 = λ kind name. IfOk c.send-in-Info.result (λ fate. IsAnswered (Sends seat kind name c.args.term fate) seat c.send-in-Info.new.seat text c.send-in-Info.new.out.items) in
    subst (λ (k : ArrivalKind). told k (chars c.args.name.text.now)) (sym c.in-Info.is) (subst (λ (n : List ℕ). told arrivals.Info n) c.in-Ok.ensures c.send-in-Info.ensures)
