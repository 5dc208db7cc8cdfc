-- The jobs, in order, and their script.
use Rattle.std.proofs.Common.{◌≡◌, ◌++◌, map, sym, ap, subst, ◌∙◌}
use Rattle.std.specs.List.{All, flat_map}
use Rattle.std.proofs.lemmas.List.Elements.{All-from_recursion}
use Rattle.relup_make.specs.Arranging.{AreArrangements, arranged}
use Rattle.relup_make.specs.Dealt.{IsInTarget}
use Rattle.relup_make.specs.Scripts.{loaded_in, own_object_code}
use Rattle.relup_make.specs.Ways.{way_of}
use Rattle.relup_make.specs.Work.{jobs}
use Rattle.relup_make.proofs.InTarget.{all_load, jobs_loadable}
use Rattle.relup_make.proofs.Scripted.{is_script}
use Rattle.relup_make.proofs.scripting.script.Goals as goal

pub append_object_code-requires : goal.append_object_code-requires
append_object_code-requires c =
    let way = way_of c.args.way.now in
    let arrangements = c.as_slice-arrangements.result.now in
    let worked : c.as_slice-jobs.result.now ≡ jobs way = c.as_slice-jobs.ensures ∙ c.in_ok-work.ensures in
    let are : AreArrangements (jobs way) arrangements = subst (AreArrangements (jobs way)) (sym c.as_slice-arrangements.ensures.value) (subst (λ js. AreArrangements js c.in_ok-in_order.in_order.items) worked c.in_ok-in_order.ensures) in
    let loaded = c.as_slice.ensures.value ∙ c.in_ok-loaded.ensures in
    subst (All (IsInTarget way)) (sym loaded) (All-from_recursion (IsInTarget way) (flat_map (loaded_in way) (map arranged arrangements)) (all_load way (jobs way) arrangements (jobs_loadable way) are))

pub returns : goal.returns
returns c =
    let way = way_of c.args.way.now in
    let arrangements = c.as_slice-arrangements.result.now in
    let worked : c.as_slice-jobs.result.now ≡ jobs way = c.as_slice-jobs.ensures ∙ c.in_ok-work.ensures in
    let are : AreArrangements (jobs way) arrangements = subst (AreArrangements (jobs way)) (sym c.as_slice-arrangements.ensures.value) (subst (λ js. AreArrangements js c.in_ok-in_order.in_order.items) worked c.in_ok-in_order.ensures) in
    let loaded = c.as_slice.ensures.value ∙ c.in_ok-loaded.ensures in
    is_script way (jobs way) arrangements c.new-script.result.items c.append_object_code.new.script.items c.append_own_object_code.new.script.items c.push.new.self.items c.new.result c.as_slice.result.now are loaded
    c.new-script.ensures.items
    c.in_ok-append_object_code.ensures
    (c.in_ok-append_own_object_code.ensures ∙ ap (λ js. c.append_object_code.new.script.items ++ flat_map (λ job. flat_map own_object_code job.instructions) js) worked)
    c.in_ok-push.ensures.items
    (c.new.ensures ∙ c.in_ok-append_all_parts.ensures)
