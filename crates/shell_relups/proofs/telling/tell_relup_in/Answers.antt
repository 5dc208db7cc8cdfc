-- The first fault of the files of the one release, or else of the other, or what comes of making their relup.
use Rattle.std.proofs.Common.{string_bytes}
use Rattle.shell_state.proofs.Done.{IfOk-then}
use Rattle.shell_relups.specs.Relups.{no_source, no_target}
use Rattle.shell_relups.proofs.Told.{made-told, unmade-told, unread-told}
use Rattle.shell_relups.proofs.telling.tell_relup_in.Goals as goal

pub returns-in-Err : goal.returns-in-Err
returns-in-Err c =
    let it = c.in-Err.fault in
    let from = c.args.from.now in
    let is = c.in-Err.ensures in
    IfOk-then c.tell_unread.result _ _ c.tell_unread.ensures (λ fate said. unread-told c.args.files.now from c.args.to.now from (λ path why first. no_source path why first) (string_bytes it.path) it.fault fate c.args.out.now.items c.tell_unread.new.out.items is said)

pub returns-in-Err-read_release : goal.returns-in-Err-read_release
returns-in-Err-read_release c =
    let it = c.in-Err-read_release.fault in
    let from = c.args.from.now in
    let to = c.args.to.now in
    let old = c.in-Ok.ensures in
    let is = c.in-Err-read_release.ensures in
    IfOk-then c.tell_unread-in-Err-read_release.result _ _ c.tell_unread-in-Err-read_release.ensures (λ fate said. unread-told c.args.files.now from to to (λ path why first. no_target c.in-Ok.release path why old first) (string_bytes it.path) it.fault fate c.args.out.now.items c.tell_unread-in-Err-read_release.new.out.items is said)

pub returns-in-Ok-relup_between : goal.returns-in-Ok-relup_between
returns-in-Ok-relup_between c =
    let from = c.args.from.now in
    let to = c.args.to.now in
    let old = c.in-Ok.ensures in
    let new = c.in-Ok-read_release.ensures in
    IfOk-then c.tell_made.result _ _ c.tell_made.ensures (λ fate told. made-told c.args.files.now from to c.in-Ok.release c.in-Ok-read_release.release old new c.in-Ok-relup_between.relup fate c.args.out.now.items c.tell_made.new.out.items c.in-Ok-relup_between.ensures told)

pub returns-in-Err-relup_between : goal.returns-in-Err-relup_between
returns-in-Err-relup_between c =
    let from = c.args.from.now in
    let to = c.args.to.now in
    let old = c.in-Ok.ensures in
    let new = c.in-Ok-read_release.ensures in
    IfOk-then c.tell_unmade.result _ _ c.tell_unmade.ensures (λ fate told. unmade-told c.args.files.now from to c.in-Ok.release c.in-Ok-read_release.release old new c.in-Err-relup_between.why fate c.args.out.now.items c.tell_unmade.new.out.items c.in-Err-relup_between.ensures told)
