-- One application more.
use Rattle.std.proofs.Common.{◌≡◌, ◌+◌, ◌∙◌, Bool, List, drop, None, Option, Some, sym, ap}
use Rattle.std.specs.List.{flat_map}
use Rattle.std.specs.Str.{bytes_eq}
use Rattle.erl_ir.specs.Module.{Forms}
use Rattle.release_table.specs.declared.table.AppFiles.{AppFiles}
use Rattle.script_state.proofs.Firsts.{behind, from_here, in_front}
use Rattle.script_state.specs.ObjectCode.{source_in, sources}
use Rattle.upgrade_review.proofs.codes.code_in.Goals as goal

pub returns-in-Some : goal.returns-in-Some
returns-in-Some c =
    let name = c.args.name.now in
    let all = c.as_slice-files-items.result.now in
    let index = c.loop-files.files-index in
    let test : Forms → Bool = λ source. bytes_eq source.name name in
    let here = from_here all index c.files-item.result c.loop-files-test.true c.files-item.is in
    let rest = flat_map (λ (f : AppFiles). f.modules) (drop (index + 1) all) in
    let front : source_in name c.files-item.result.modules ≡ Some c.in-Some.source.now =
    ap (source_in name) (sym c.as_slice.ensures) ∙ sym c.in-Some.ensures in
    let looked : List AppFiles → Option Forms = λ fs. source_in name (flat_map (λ (f : AppFiles). f.modules) fs) in
    let first = in_front test c.files-item.result.modules rest c.in-Some.source.now front in
    let found : source_in name (sources c.args.release.now) ≡ Some c.in-Some.source.now =
    ap looked (sym c.as_slice-files-items.ensures) ∙ c.loop-files.invariant ∙ ap looked here ∙ first in
    sym found

pub loop-files-preserved : goal.loop-files-preserved
loop-files-preserved c =
    let name = c.args.name.now in
    let all = c.as_slice-files-items.result.now in
    let index = c.loop-files.files-index in
    let test : Forms → Bool = λ source. bytes_eq source.name name in
    let here = from_here all index c.files-item.result c.loop-files-test.true c.files-item.is in
    let rest = flat_map (λ (f : AppFiles). f.modules) (drop (index + 1) all) in
    let none : source_in name c.files-item.result.modules ≡ None =
    ap (source_in name) (sym c.as_slice.ensures) ∙ sym c.in_default.ensures in
    c.loop-files.invariant ∙ ap (λ (fs : List AppFiles). source_in name (flat_map (λ (f : AppFiles). f.modules) fs)) here ∙
    behind test c.files-item.result.modules rest none
