-- By the paths so far.
use Rattle.std.proofs.Common.{ℕ, ◌+◌, List, map, string_bytes, take, sym, subst, ◌∙◌}
use Rattle.release_files.specs.Paths.{IsRelName}
use Rattle.release_files.proofs.Firsts.{IsFirstOf, IsLesser, none_yet, turn_passed, turn_taken, turns_end}
use Rattle.release_files.proofs.Fronts.{false_not}
use Rattle.release_files.proofs.rel_path.first_rel.Goals as goal
use Rattle.release_files.proofs.rel_path.first_rel.Goals.{then-is_rel_name, else-is_rel_name}

pub loop-path-init : goal.loop-path-init
loop-path-init c = none_yet c.args.vsn.now

pub loop-path-preserved : goal.loop-path-preserved
loop-path-preserved c =
    let paths = c.args.paths.now in
    let vsn = c.args.vsn.now in
    let i = c.loop-path.path-index in
    let path = c.path-item.result in
    let first = c.loop-path.first in
    let behind = map (λ p. string_bytes p) (take (i + 1) paths) in
    let bytes = c.as_bytes.ensures.value ∙ c.as_str.ensures.value in
    elim c.if-is_rel_name.branch [
      | then-is_rel_name w ↦
          let named = subst (λ (t : List ℕ). IsRelName vsn t) bytes (subst (λ (v : List ℕ). IsRelName v c.as_bytes.result.now) c.as_bytes-in-loop-path.ensures.value (c.is_rel_name.ensures.0 w.if-is_rel_name.true)) in
          let lesser = subst (λ (t : List ℕ). IsLesser first t w.lesser.result.now) w.as_str-then-is_rel_name.ensures.value w.lesser.ensures in
          subst (λ f. IsFirstOf behind vsn f) (sym w.first-is) (turn_taken paths vsn i path first w.lesser.result c.loop-path-test.true c.path-item.is named lesser c.loop-path.invariant)
      | else-is_rel_name w ↦
          let other = λ (named : IsRelName vsn (string_bytes path)). false_not c.is_rel_name.result w.if-is_rel_name.false (c.is_rel_name.ensures.1 (subst (λ (v : List ℕ). IsRelName v c.as_bytes.result.now) (sym c.as_bytes-in-loop-path.ensures.value) (subst (λ (t : List ℕ). IsRelName vsn t) (sym bytes) named))) in
          subst (λ f. IsFirstOf behind vsn f) (sym w.first-is) (turn_passed paths vsn i path first c.loop-path-test.true c.path-item.is other c.loop-path.invariant)
    ]

pub returns : goal.returns
returns c =
    turns_end c.args.paths.now c.args.vsn.now c.loop-path.path-index c.loop-path.first c.loop-path-test.false c.loop-path.invariant
