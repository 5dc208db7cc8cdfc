-- One instruction more is not faulty.
use Rattle.std.proofs.Common.{◌≡◌, ◌+◌, ◌-◌, ◌||◌, ◌∙◌, sym, ap, subst, length, take, cond, Some, Option, slice_get}
use Rattle.std.proofs.lemmas.List.Folds.{list_any_more}
use Rattle.std.proofs.lemmas.Option.{slice_get-get_or}
use Rattle.std.specs.List.{find, range_with_len}
use Rattle.low_instructions.specs.declared.low.Low.{Low}
use Rattle.script_checks.proofs.Least.{one_more}
use Rattle.script_checks.specs.Checks.{any_faulty, is_faulty_at, is_point}
use Rattle.script_checks.proofs.checking.check.Goals as goal

pub loop-index-preserved : goal.loop-index-preserved
loop-index-preserved c =
    let script = c.args.script.now in
    let index = c.loop-index.index in
    let item = c.index-script-index.result in
    let more = list_any_more is_point script index item c.loop-index-test.true in
    let there : slice_get script index ≡ Some item = slice_get-get_or script index item c.loop-index-test.true ∙ ap Some (sym c.index-script-index.is) in
    let good = ap (any_faulty (take index script)) there ∙ sym c.is_faulty.ensures ∙ c.if-is_faulty.false in
    let rest = find (is_faulty_at script) (range_with_len (index + 1) (length script - (index + 1))) in
    record {
      point = c.is_passed-has_point.ensures ∙ (λ i. c.loop-index.invariant.point i || is_point (c.index-script-index.is i)) ∙ sym more;
      least = c.loop-index.invariant.least ∙ one_more (is_faulty_at script) (length script) index c.loop-index-test.true ∙ ap (λ b. cond b (Some index) rest) good;
    }
