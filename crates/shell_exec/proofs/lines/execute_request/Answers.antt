-- What a request asks for is done.
use Rattle.std.proofs.Common.{IfOk, subst, sym}
use Rattle.shell_exec.specs.Execution.{Executes}
use Rattle.shell_upgrades.specs.Done.{IsDone}
use Rattle.shell_requests.specs.Reading.{meant}
use Rattle.shell_requests.specs.declared.request.Request.{Request}
use Rattle.shell_exec.proofs.lines.execute_request.Goals as goal

pub returns-in-Ask : goal.returns-in-Ask
returns-in-Ask c =
    subst (λ (r : Request). IfOk c.tell.result (λ fate. IsDone (Executes fate c.args.held.now (meant r)) c.args.held.now c.args.out.now.items c.tell.new.out.items)) (sym c.in-Ask.is) c.tell.ensures

pub returns-in-Alter : goal.returns-in-Alter
returns-in-Alter c =
    subst (λ (r : Request). IfOk c.change.result (λ fate. IsDone (Executes fate c.args.held.now (meant r)) c.change.new.held c.args.out.now.items c.change.new.out.items)) (sym c.in-Alter.is) c.change.ensures

pub returns-in-Load : goal.returns-in-Load
returns-in-Load c =
    subst (λ (r : Request). IfOk c.load.result (λ fate. IsDone (Executes fate c.args.held.now (meant r)) c.load.new.held c.args.out.now.items c.load.new.out.items)) (sym c.in-Load.is) c.load.ensures

pub returns-in-Undo : goal.returns-in-Undo
returns-in-Undo c =
    subst (λ (r : Request). IfOk c.undo.result (λ fate. IsDone (Executes fate c.args.held.now (meant r)) c.undo.new.self c.args.out.now.items c.undo.new.out.items)) (sym c.in-Undo.is) c.undo.ensures

pub returns-in-Forget : goal.returns-in-Forget
returns-in-Forget c =
    subst (λ (r : Request). IfOk c.forget.result (λ fate. IsDone (Executes fate c.args.held.now (meant r)) c.forget.new.self c.args.out.now.items c.forget.new.out.items)) (sym c.in-Forget.is) c.forget.ensures

pub returns-in-Commit : goal.returns-in-Commit
returns-in-Commit c =
    subst (λ (r : Request). IfOk c.commit.result (λ fate. IsDone (Executes fate c.args.held.now (meant r)) c.commit.new.self c.args.out.now.items c.commit.new.out.items)) (sym c.in-Commit.is) c.commit.ensures

pub returns-in-Arrive : goal.returns-in-Arrive
returns-in-Arrive c =
    subst (λ (r : Request). IfOk c.arrive.result (λ fate. IsDone (Executes fate c.args.held.now (meant r)) c.arrive.new.held c.args.out.now.items c.arrive.new.out.items)) (sym c.in-Arrive.is) c.arrive.ensures

pub returns-in-Serve : goal.returns-in-Serve
returns-in-Serve c =
    subst (λ (r : Request). IfOk c.serve.result (λ fate. IsDone (Executes fate c.args.held.now (meant r)) c.serve.new.held c.args.out.now.items c.serve.new.out.items)) (sym c.in-Serve.is) c.serve.ensures

pub returns-in-Revive : goal.returns-in-Revive
returns-in-Revive c =
    subst (λ (r : Request). IfOk c.revive.result (λ fate. IsDone (Executes fate c.args.held.now (meant r)) c.revive.new.held c.args.out.now.items c.revive.new.out.items)) (sym c.in-Revive.is) c.revive.ensures

pub returns-in-Unpack : goal.returns-in-Unpack
returns-in-Unpack c =
    subst (λ (r : Request). IfOk c.unpack.result (λ fate. IsDone (Executes fate c.args.held.now (meant r)) c.unpack.new.held c.args.out.now.items c.unpack.new.out.items)) (sym c.in-Unpack.is) c.unpack.ensures

pub returns-in-Release : goal.returns-in-Release
returns-in-Release c =
    subst (λ (r : Request). IfOk c.alter_releases.result (λ fate. IsDone (Executes fate c.args.held.now (meant r)) c.alter_releases.new.held c.args.out.now.items c.alter_releases.new.out.items)) (sym c.in-Release.is) c.alter_releases.ensures

pub returns-in-Relup : goal.returns-in-Relup
returns-in-Relup c =
    subst (λ (r : Request). IfOk c.tell_relup.result (λ fate. IsDone (Executes fate c.args.held.now (meant r)) c.args.held.now c.args.out.now.items c.tell_relup.new.out.items)) (sym c.in-Relup.is) c.tell_relup.ensures

pub returns-in-Advance : goal.returns-in-Advance
returns-in-Advance c =
    subst (λ (r : Request). IfOk c.advance.result (λ fate. IsDone (Executes fate c.args.held.now (meant r)) c.advance.new.held c.args.out.now.items c.advance.new.out.items)) (sym c.in-Advance.is) c.advance.ensures

pub returns-in-Sweep : goal.returns-in-Sweep
returns-in-Sweep c =
    subst (λ (r : Request). IfOk c.sweep.result (λ fate. IsDone (Executes fate c.args.held.now (meant r)) c.sweep.new.held c.args.out.now.items c.sweep.new.out.items)) (sym c.in-Sweep.is) c.sweep.ensures
