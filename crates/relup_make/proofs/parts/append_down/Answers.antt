-- Five parts, one behind the other.
use Rattle.std.proofs.Common.{◌++◌, map, reverse, ap, ◌∙◌}
use Rattle.std.specs.List.{flat_map}
use Rattle.std.proofs.lemmas.Result.{on_ok_weaker}
use Rattle.high_instructions.specs.declared.words.ModuleType.TheVariants.{Static, Dynamic}
use Rattle.low_instructions.specs.declared.modules.Direction.TheVariants.{Down}
use Rattle.relup_make.specs.Parts.{changes_of_kind, code_change, resume, suspend, suspensions, work_of}
use Rattle.relup_make.specs.Scripts.{at}
use Rattle.relup_make.specs.Ways.{way_of}
use Rattle.relup_make.proofs.Joining.{five}
use Rattle.relup_make.proofs.parts.append_down.Goals as goal

pub returns : goal.returns
returns c =
    let is = c.args.instructions.now in
    let lent = c.as_slice-dependants_first.ensures in
    let suspended = c.in_ok-suspended.ensures ∙ ap (λ order. suspensions (at is order)) c.as_slice.ensures in
    let resumed = c.in_ok-resumed.ensures ∙ ap (λ ss. map (λ s. s.name) (reverse ss)) (c.as_slice-2.ensures.value ∙ suspended) in
    on_ok_weaker c.append_resume.result (λ e.
    five c.args.parts.now.items c.append_suspend.new.parts.items c.append_changes_of.new.parts.items c.append_works.new.parts.items c.append_changes_of-2.new.parts.items c.append_resume.new.parts.items _ _ _ _ _
    (c.in_ok-append_suspend.ensures ∙ ap (λ ss. c.args.parts.now.items ++ suspend ss) suspended)
    (c.in_ok-append_changes_of.ensures ∙ ap (λ order. c.append_suspend.new.parts.items ++ code_change Down (changes_of_kind Dynamic (at is order))) lent)
    (c.in_ok-append_works.ensures ∙ ap (λ order. c.append_changes_of.new.parts.items ++ flat_map (work_of (way_of c.args.way.now)) (at is order)) lent)
    (c.in_ok-append_changes_of-2.ensures ∙ ap (λ order. c.append_works.new.parts.items ++ code_change Down (changes_of_kind Static (at is order))) lent)
    (e ∙ ap (λ names. c.append_changes_of-2.new.parts.items ++ resume names) resumed)) c.append_resume.ensures
