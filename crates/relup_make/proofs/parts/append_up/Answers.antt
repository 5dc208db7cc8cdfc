-- Four parts, one behind the other.
use Rattle.std.proofs.Common.{◌++◌, map, reverse, ap, ◌∙◌}
use Rattle.std.specs.List.{flat_map}
use Rattle.std.proofs.lemmas.Result.{on_ok_weaker}
use Rattle.low_instructions.specs.declared.modules.Direction.TheVariants.{Up}
use Rattle.relup_make.specs.Parts.{changes, code_change, resume, suspend, suspensions, work_of}
use Rattle.relup_make.specs.Scripts.{at}
use Rattle.relup_make.specs.Ways.{way_of}
use Rattle.relup_make.proofs.Joining.{changes_of_both, four}
use Rattle.relup_make.proofs.parts.append_up.Goals as goal

pub returns : goal.returns
returns c =
    let is = c.args.instructions.now in
    let lent = c.as_slice-dependencies_first.ensures in
    let suspended = c.in_ok-suspended.ensures ∙ ap (λ order. suspensions (at is order)) c.as_slice.ensures in
    let resumed = c.in_ok-resumed.ensures ∙ ap (λ ss. map (λ s. s.name) (reverse ss)) (c.as_slice-2.ensures.value ∙ suspended) in
    let changed = c.in_ok-changes.ensures ∙ changes_of_both (at is c.as_slice-dependencies_first.result.now) ∙ ap (λ order. changes (at is order)) lent in
    on_ok_weaker c.append_resume.result (λ e.
    four c.args.parts.now.items c.append_suspend.new.parts.items c.append_works.new.parts.items c.append_changes.new.parts.items c.append_resume.new.parts.items _ _ _ _
    (c.in_ok-append_suspend.ensures ∙ ap (λ ss. c.args.parts.now.items ++ suspend ss) suspended)
    (c.in_ok-append_works.ensures ∙ ap (λ order. c.append_suspend.new.parts.items ++ flat_map (work_of (way_of c.args.way.now)) (at is order)) lent)
    (c.in_ok-append_changes.ensures ∙ ap (λ cs. c.append_works.new.parts.items ++ code_change Up cs) changed)
    (e ∙ ap (λ names. c.append_changes.new.parts.items ++ resume names) resumed)) c.append_resume.ensures
