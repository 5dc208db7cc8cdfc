-- None of the applications so far has one.
use Rattle.std.proofs.Common.{◌≡◌, drop}
use Rattle.std.specs.List.{flat_map}
use Rattle.script_state.specs.ObjectCode.{source_in}
use Rattle.upgrade_review.proofs.codes.code_in.Given as goal

abbrev pub invariant-loop-files : goal.invariant-loop-files
invariant-loop-files l =
    let rest = drop l.files-index l.files-items in
    source_in l.name (flat_map (λ f. f.modules) l.files-items) ≡ source_in l.name (flat_map (λ f. f.modules) rest)
