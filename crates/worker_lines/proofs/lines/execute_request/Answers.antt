-- What a request asks for is done.
use Rattle.std.proofs.Common.{IfOk, refl, subst, sym}
use Rattle.shell_answers.specs.Answers.{fixed}
use Rattle.shell_answers.specs.declared.fixed.Fixed.TheVariants as words
use Rattle.shell_requests.specs.Reading.{meant}
use Rattle.shell_requests.specs.declared.request.Request.{Request}
use Rattle.worker_lines.specs.Asking.{IsAnswered}
use Rattle.worker_lines.specs.Execution.{Executes}
use Rattle.worker_lines.proofs.Heard.{IfOk-then, alone-told, told-alone}
use Rattle.worker_lines.proofs.lines.execute_request.Goals as goal

pub returns-in-Ask : goal.returns-in-Ask
returns-in-Ask g c =
    subst (λ (r : Request). IfOk c.tell.result (λ fate. IsAnswered (Executes c.args.office.now.files.now c.args.seat.now (meant r) fate) c.args.seat.now c.tell.new.seat c.args.out.now.items c.tell.new.out.items)) (sym c.in-Ask.is) c.tell.ensures

pub returns-in-Alter : goal.returns-in-Alter
returns-in-Alter g c =
    subst (λ (r : Request). IfOk c.change.result (λ fate. IsAnswered (Executes c.args.office.now.files.now c.args.seat.now (meant r) fate) c.args.seat.now c.change.new.seat c.args.out.now.items c.change.new.out.items)) (sym c.in-Alter.is) c.change.ensures

pub returns-in-Load : goal.returns-in-Load
returns-in-Load g c =
    subst (λ (r : Request). IfOk c.load.result (λ fate. IsAnswered (Executes c.args.office.now.files.now c.args.seat.now (meant r) fate) c.args.seat.now c.load.new.seat c.args.out.now.items c.load.new.out.items)) (sym c.in-Load.is) c.load.ensures

pub returns-in-Undo : goal.returns-in-Undo
returns-in-Undo g c =
    subst (λ (r : Request). IfOk c.undo.result (λ fate. IsAnswered (Executes c.args.office.now.files.now c.args.seat.now (meant r) fate) c.args.seat.now c.undo.new.seat c.args.out.now.items c.undo.new.out.items)) (sym c.in-Undo.is) c.undo.ensures

pub returns-in-Forget : goal.returns-in-Forget
returns-in-Forget g c =
    subst (λ (r : Request). IfOk c.forget.result (λ fate. IsAnswered (Executes c.args.office.now.files.now c.args.seat.now (meant r) fate) c.args.seat.now c.forget.new.seat c.args.out.now.items c.forget.new.out.items)) (sym c.in-Forget.is) c.forget.ensures

pub returns-in-Arrive : goal.returns-in-Arrive
returns-in-Arrive g c =
    subst (λ (r : Request). IfOk c.arrive.result (λ fate. IsAnswered (Executes c.args.office.now.files.now c.args.seat.now (meant r) fate) c.args.seat.now c.arrive.new.seat c.args.out.now.items c.arrive.new.out.items)) (sym c.in-Arrive.is) c.arrive.ensures

pub returns-in-Revive : goal.returns-in-Revive
returns-in-Revive g c =
    subst (λ (r : Request). IfOk c.revive.result (λ fate. IsAnswered (Executes c.args.office.now.files.now c.args.seat.now (meant r) fate) c.args.seat.now c.revive.new.seat c.args.out.now.items c.revive.new.out.items)) (sym c.in-Revive.is) c.revive.ensures

pub returns-in-Unpack : goal.returns-in-Unpack
returns-in-Unpack g c =
    subst (λ (r : Request). IfOk c.unpack.result (λ fate. IsAnswered (Executes c.args.office.now.files.now c.args.seat.now (meant r) fate) c.args.seat.now c.unpack.new.seat c.args.out.now.items c.unpack.new.out.items)) (sym c.in-Unpack.is) c.unpack.ensures

pub returns-in-Release : goal.returns-in-Release
returns-in-Release g c =
    subst (λ (r : Request). IfOk c.alter.result (λ fate. IsAnswered (Executes c.args.office.now.files.now c.args.seat.now (meant r) fate) c.args.seat.now c.alter.new.seat c.args.out.now.items c.alter.new.out.items)) (sym c.in-Release.is) c.alter.ensures

pub returns-in-Sweep : goal.returns-in-Sweep
returns-in-Sweep g c =
    subst (λ (r : Request). IfOk c.sweep.result (λ fate. IsAnswered (Executes c.args.office.now.files.now c.args.seat.now (meant r) fate) c.args.seat.now c.sweep.new.seat c.args.out.now.items c.sweep.new.out.items)) (sym c.in-Sweep.is) c.sweep.ensures

pub returns-in-Relup : goal.returns-in-Relup
returns-in-Relup g c =
    let files = c.args.office.now.files.now in
    let seat = c.args.seat.now in
    let text = c.args.out.now.items in
    let out = c.tell_relup_in.new.out.items in
    subst (λ (r : Request). IfOk c.tell_relup_in.result (λ fate. IsAnswered (Executes files seat (meant r) fate) seat seat text out)) (sym c.in-Relup.is) (IfOk-then c.tell_relup_in.result _ _ c.tell_relup_in.ensures (λ fate told. told-alone _ seat text out _ (told.0, told.1, refl, refl) told.2))

pub returns-in-Commit : goal.returns-in-Commit
returns-in-Commit g c =
    let files = c.args.office.now.files.now in
    let seat = c.args.seat.now in
    let text = c.args.out.now.items in
    subst (λ (r : Request). IfOk c.say.result (λ fate. IsAnswered (Executes files seat (meant r) fate) seat seat text c.say.new.out.items)) (sym c.in-Commit.is) (IfOk-then c.say.result _ _ c.say.ensures (λ fate told. alone-told (fixed words.SteppedOnly) seat text c.say.new.out.items fate told))

pub returns-in-Serve : goal.returns-in-Serve
returns-in-Serve g c =
    let files = c.args.office.now.files.now in
    let seat = c.args.seat.now in
    let text = c.args.out.now.items in
    subst (λ (r : Request). IfOk c.say-in-Serve.result (λ fate. IsAnswered (Executes files seat (meant r) fate) seat seat text c.say-in-Serve.new.out.items)) (sym c.in-Serve.is) (IfOk-then c.say-in-Serve.result _ _ c.say-in-Serve.ensures (λ fate told. alone-told (fixed words.SteppedOnly) seat text c.say-in-Serve.new.out.items fate told))

pub returns-in-Advance : goal.returns-in-Advance
returns-in-Advance g c =
    let files = c.args.office.now.files.now in
    let seat = c.args.seat.now in
    let text = c.args.out.now.items in
    subst (λ (r : Request). IfOk c.say-in-Advance.result (λ fate. IsAnswered (Executes files seat (meant r) fate) seat seat text c.say-in-Advance.new.out.items)) (sym c.in-Advance.is) (IfOk-then c.say-in-Advance.result _ _ c.say-in-Advance.ensures (λ fate told. alone-told (fixed words.SteppedOnly) seat text c.say-in-Advance.new.out.items fate told))
