-- What is left is the object code of the applications that do not stand before.
use Rattle.std.proofs.Common.{◌≡◌, ◌++◌, map}
use Rattle.low_instructions.specs.declared.low.Low.TheVariants.{LoadObjectCode}
use Rattle.relup_make.specs.Dealt.{names_of_pairs}
use Rattle.relup_make.specs.Releases.{version_in}
use Rattle.relup_make.specs.Scripts.{modules_of, object_code}
use Rattle.relup_make.specs.Ways.{way_of}
use Rattle.relup_make.specs.Work.{target}
use Rattle.relup_make.proofs.Indices.{left}
use Rattle.relup_make.proofs.object_code.append_object_code.Given as goal

abbrev pub invariant-loop-i : goal.invariant-loop-i
invariant-loop-i l =
    l.script.items ++ map (λ app. LoadObjectCode app (version_in app (target (way_of l.way))) (modules_of app l.loaded)) (left l.i (names_of_pairs l.loaded)) ≡ l.fn.script.items ++ object_code (way_of l.way) l.loaded
