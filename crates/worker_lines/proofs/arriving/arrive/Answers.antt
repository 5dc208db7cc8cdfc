-- The term of the text arrives, or it is told what stands against it.
use Rattle.std.proofs.Common.{None, Some, subst, sym}
use Rattle.std.specs.Str.{chars}
use Rattle.shell_requests.specs.Terms.{Misreads}
use Rattle.shell_exec.specs.Fate.TheVariants.{Refused}
use Rattle.worker_lines.specs.Asking.{IsAnswered}
use Rattle.worker_lines.specs.Execution.{Arrives, no_memory_to_read, no_text, read, several}
use Rattle.worker_lines.proofs.Heard.{IfOk-then, told-alone, told-as}
use Rattle.worker_lines.proofs.arriving.arrive.Goals as goal

pub returns-in-Ok : goal.returns-in-Ok
returns-in-Ok g c =
    IfOk-then c.arrive_term.result _ _ c.arrive_term.ensures (λ fate told. told-as _ _ c.args.seat.now c.arrive_term.new.seat c.args.out.now.items c.arrive_term.new.out.items (λ lines answer does. read c.in-Ok.term fate lines answer c.in-Ok.ensures does) told)

pub returns-in-Err-NotOne : goal.returns-in-Err-NotOne
returns-in-Err-NotOne g c =
    let seat = c.args.seat.now in
    let may = Arrives seat c.args.kind (chars c.args.name.text.now) c.args.text.now in
    let text = c.args.out.now.items in
    let out = c.say.new.out.items in
    IfOk-then c.say.result _ _ c.say.ensures (λ fate told. subst (λ f. IsAnswered (may f) seat seat text out) (sym told.0) (told-alone (may None) seat text out _ (several (subst (Misreads c.args.text.now) c.in-Err-NotOne.field-0-is c.in-Err-NotOne.ensures)) told.1))

pub returns-in-Err-Faulty : goal.returns-in-Err-Faulty
returns-in-Err-Faulty g c =
    let seat = c.args.seat.now in
    let may = Arrives seat c.args.kind (chars c.args.name.text.now) c.args.text.now in
    let text = c.args.out.now.items in
    let out = c.say_term_fault.new.out.items in
    IfOk-then c.say_term_fault.result _ _ c.say_term_fault.ensures (λ fate told. subst (λ f. IsAnswered (may f) seat seat text out) (sym told.0) (told-alone (may None) seat text out _ (no_text c.in-Err-Faulty.error.kind c.in-Err-Faulty.error.at (subst (Misreads c.args.text.now) c.in-Err-Faulty.field-0-is c.in-Err-Faulty.ensures)) (rw c.in-Err-Faulty.field-0-is at told.1)))

pub returns-in-Err-NoMemory : goal.returns-in-Err-NoMemory
returns-in-Err-NoMemory g c =
    let seat = c.args.seat.now in
    let may = Arrives seat c.args.kind (chars c.args.name.text.now) c.args.text.now in
    let text = c.args.out.now.items in
    let out = c.refuse.new.out.items in
    IfOk-then c.refuse.result _ _ c.refuse.ensures (λ fate told. subst (λ f. IsAnswered (may f) seat seat text out) (sym told.0) (told-alone (may (Some Refused)) seat text out _ no_memory_to_read told.1))
