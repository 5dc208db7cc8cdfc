-- The fault of the files is answered, or that an allocation failed.
use Rattle.std.proofs.Common.{Some, refl, subst, sym}
use Rattle.shell_state.proofs.Done.{IfOk-then}
use Rattle.shell_state.specs.Done.{IsDone}
use Rattle.shell_upgrades.proofs.Unpacked.{fault-told}
use Rattle.shell_upgrades.specs.Upgrades.{Unpacks, release_unread}
use Rattle.shell_upgrades.proofs.unpacking.tell_unread_release.Goals as goal

pub returns-in-Memory : goal.returns-in-Memory
returns-in-Memory c =
    IfOk-then c.refuse.result _ _ c.refuse.ensures (λ fate told. λ s vsn unread. subst (λ f. IsDone (Unpacks s vsn f) s c.args.out.now.items c.refuse.new.out.items) (sym told.0) (_, release_unread, refl, told.1))

pub returns-in_default : goal.returns-in_default
returns-in_default c =
    let it = c.args.fault.now in
    IfOk-then c.say_file_fault.result _ _ c.say_file_fault.ensures (λ fate said. λ s vsn unread. fault-told s vsn it c.as_str.result.now it.fault fate c.args.out.now.items c.say_file_fault.new.out.items c.as_str.ensures.value refl c.in_default.not-Memory said unread)
