-- The module of the file is loaded, or it is told what stands against it.
use Rattle.std.proofs.Common.{[], subst}
use Rattle.std.specs.Str.{chars}
use Rattle.release_files.specs.Files.{Contents}
use Rattle.shell_upgrades.proofs.Done.{IfOk-then}
use Rattle.shell_exec.proofs.Sources.{source-faulted, source-unread}
use Rattle.shell_exec.specs.Done.{IsSourced, Unsourced}
use Rattle.shell_exec.specs.declared.loading.Unloaded.{Unloaded}
use Rattle.shell_exec.specs.declared.loading.Unloaded.TheVariants.{Faulted, Unread}
use Rattle.shell_exec.proofs.loading.load.Goals as goal

pub returns-in-Ok : goal.returns-in-Ok
returns-in-Ok c =
    let name = chars c.args.name.text.now in
    IfOk-then c.load_module.result _ _ c.load_module.ensures (λ fate done. done name c.args.path.now (subst (λ (files : Contents). IsSourced files name c.args.path.now c.in-Ok.code) c.files.ensures c.in-Ok.ensures))

pub returns-in-Err-Faulted : goal.returns-in-Err-Faulted
returns-in-Err-Faulted c =
    IfOk-then c.say_file_fault.result _ _ c.say_file_fault.ensures (λ fate told. source-faulted c.args.held.now (chars c.args.name.text.now) c.args.path.now c.in-Err-Faulted.fault fate c.args.out.now.items c.say_file_fault.new.out.items (subst (λ (files : Contents). Unsourced files (chars c.args.name.text.now) c.args.path.now (Faulted c.in-Err-Faulted.fault)) c.files.ensures (subst (λ (u : Unloaded). Unsourced c.files.result.now (chars c.args.name.text.now) c.args.path.now u) c.in-Err-Faulted.field-0-is c.in-Err-Faulted.ensures)) told)

pub returns-in-Err-Unread : goal.returns-in-Err-Unread
returns-in-Err-Unread c =
    let s = c.args.held.now in
    let there = subst (λ (files : Contents). Unsourced files (chars c.args.name.text.now) c.args.path.now Unread) c.files.ensures (subst (λ (u : Unloaded). Unsourced c.files.result.now (chars c.args.name.text.now) c.args.path.now u) c.in-Err-Unread.field-0-is c.in-Err-Unread.ensures) in
    IfOk-then c.refuse.result _ _ c.refuse.ensures (λ fate told. source-unread s (chars c.args.name.text.now) c.args.path.now there.0 fate c.args.out.now.items c.refuse.new.out.items there.1 told)
