-- The term of the text arrives, or it is told what stands against it.
use Rattle.std.proofs.Common.{[], refl, subst, sym}
use Rattle.std.specs.Str.{chars}
use Rattle.shell_upgrades.proofs.Done.{IfOk-then}
use Rattle.shell_exec.specs.Execution.{Arrives, no_text, several, unread}
use Rattle.shell_upgrades.specs.Done.{IsDone}
use Rattle.shell_requests.specs.Terms.{Misreads}
use Rattle.shell_exec.proofs.arriving.arrive.Goals as goal

pub returns-in-Ok : goal.returns-in-Ok
returns-in-Ok c =
    IfOk-then c.arrive_term.result _ _ c.arrive_term.ensures (λ fate done. done c.args.text.now c.in-Ok.ensures)

pub returns-in-Err-NotOne : goal.returns-in-Err-NotOne
returns-in-Err-NotOne c =
    let s = c.args.held.now in
    let name = chars c.args.name.text.now in
    IfOk-then c.say.result _ _ c.say.ensures (λ fate told. subst (λ f. IsDone (Arrives s c.args.kind name c.args.text.now f) s c.args.out.now.items c.say.new.out.items) (sym told.0) (_, several (subst (Misreads c.args.text.now) c.in-Err-NotOne.field-0-is c.in-Err-NotOne.ensures), refl, told.1))

pub returns-in-Err-Faulty : goal.returns-in-Err-Faulty
returns-in-Err-Faulty c =
    let s = c.args.held.now in
    let name = chars c.args.name.text.now in
    IfOk-then c.say_term_fault.result _ _ c.say_term_fault.ensures (λ fate told. subst (λ f. IsDone (Arrives s c.args.kind name c.args.text.now f) s c.args.out.now.items c.say_term_fault.new.out.items) (sym told.0) (_, no_text c.in-Err-Faulty.error.kind c.in-Err-Faulty.error.at (subst (Misreads c.args.text.now) c.in-Err-Faulty.field-0-is c.in-Err-Faulty.ensures), refl, rw c.in-Err-Faulty.field-0-is at told.1))

pub returns-in-Err-NoMemory : goal.returns-in-Err-NoMemory
returns-in-Err-NoMemory c =
    let s = c.args.held.now in
    let name = chars c.args.name.text.now in
    IfOk-then c.refuse.result _ _ c.refuse.ensures (λ fate told. subst (λ f. IsDone (Arrives s c.args.kind name c.args.text.now f) s c.args.out.now.items c.refuse.new.out.items) (sym told.0) (_, unread, refl, told.1))
