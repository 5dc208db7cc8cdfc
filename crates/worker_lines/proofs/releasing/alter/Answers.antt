-- The change is made, or it is told why it isn't.
use Rattle.std.proofs.Common.{List, ℕ, IfOk, subst, sym}
use Rattle.std.specs.Str.{chars}
use Rattle.node_types.specs.declared.event.Event.TheVariants as event
use Rattle.shell_answers.specs.Refusals.{naming}
use Rattle.shell_requests.specs.declared.request.ReleaseChange.{ReleaseChange}
use Rattle.worker_lines.specs.Asking.{IsAnswered, done}
use Rattle.worker_lines.specs.Execution.{Alters, Performs}
use Rattle.worker_lines.proofs.Heard.{IfOk-then}
use Rattle.worker_lines.proofs.Waiting.{unaltered-told}
use Rattle.worker_lines.proofs.releasing.alter.Goals as goal

pub returns-in_default : goal.returns-in_default
returns-in_default g c =
    IfOk-then c.refuse.result _ _ c.refuse.ensures (λ fate told. unaltered-told c.args.kind (chars c.args.vsn.now) c.args.seat.now c.args.out.now.items c.refuse.new.out.items fate told)

pub returns-in-Install : goal.returns-in-Install
returns-in-Install g c =
    let seat = c.args.seat.now in
    let text = c.args.out.now.items in
    subst (λ (k : ReleaseChange). IfOk c.install.result (λ fate. IsAnswered (Alters seat k (chars c.args.vsn.now) fate) seat c.install.new.seat text c.install.new.out.items)) (sym c.in-Install.is) (IfOk-then c.install.result _ _ c.install.ensures (λ fate told. told c.in-Ok.ensures))

pub returns-in-Remove : goal.returns-in-Remove
returns-in-Remove g c =
    let seat = c.args.seat.now in
    let text = c.args.out.now.items in
    let vsn = chars c.args.vsn.now in
    subst (λ (k : ReleaseChange). IfOk c.alter_at_once.result (λ fate. IsAnswered (Alters seat k vsn fate) seat c.alter_at_once.new.seat text c.alter_at_once.new.out.items)) (sym c.in-Remove.is) (subst (λ (v : List ℕ). IfOk c.alter_at_once.result (λ fate. IsAnswered (Performs (event.Remove v) (naming vsn) done fate) seat c.alter_at_once.new.seat text c.alter_at_once.new.out.items)) c.in-Ok.ensures c.alter_at_once.ensures)

pub returns-in-MakePermanent : goal.returns-in-MakePermanent
returns-in-MakePermanent g c =
    let seat = c.args.seat.now in
    let text = c.args.out.now.items in
    let vsn = chars c.args.vsn.now in
    subst (λ (k : ReleaseChange). IfOk c.alter_at_once-in-MakePermanent.result (λ fate. IsAnswered (Alters seat k vsn fate) seat c.alter_at_once-in-MakePermanent.new.seat text c.alter_at_once-in-MakePermanent.new.out.items)) (sym c.in-MakePermanent.is) (subst (λ (v : List ℕ). IfOk c.alter_at_once-in-MakePermanent.result (λ fate. IsAnswered (Performs (event.MakePermanent v) (naming vsn) done fate) seat c.alter_at_once-in-MakePermanent.new.seat text c.alter_at_once-in-MakePermanent.new.out.items)) c.in-Ok.ensures c.alter_at_once-in-MakePermanent.ensures)

pub returns-in-RebootOld : goal.returns-in-RebootOld
returns-in-RebootOld g c =
    let seat = c.args.seat.now in
    let text = c.args.out.now.items in
    let vsn = chars c.args.vsn.now in
    subst (λ (k : ReleaseChange). IfOk c.alter_at_once-in-RebootOld.result (λ fate. IsAnswered (Alters seat k vsn fate) seat c.alter_at_once-in-RebootOld.new.seat text c.alter_at_once-in-RebootOld.new.out.items)) (sym c.in-RebootOld.is) (subst (λ (v : List ℕ). IfOk c.alter_at_once-in-RebootOld.result (λ fate. IsAnswered (Performs (event.RebootOld v) (naming vsn) done fate) seat c.alter_at_once-in-RebootOld.new.seat text c.alter_at_once-in-RebootOld.new.out.items)) c.in-Ok.ensures c.alter_at_once-in-RebootOld.ensures)
