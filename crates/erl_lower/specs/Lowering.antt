-- What a tree comes to: the module that it means, or its first static fault.
use Rattle.std.specs.Prelude.{◌≡◌, [], MatchOption, Some}
use Rattle.erl_ast.specs.declared.form.ModuleTree.{ModuleTree}
use Rattle.erl_lint.specs.First.{IsFirstFault}
use Rattle.erl_lint.specs.Faults.{faults_of}
use Rattle.erl_lower.specs.declared.module.Lowering.{Lowering}
use Rattle.erl_lower.specs.declared.module.Lowering.TheVariants as came
use Rattle.erl_lower.specs.Meaning.{HasNoMeaning, IsMeaning}

abbrev pub IsLoweringOf : ModuleTree → Lowering → Type 0
IsLoweringOf tree (came.Module it) = (faults_of tree ≡ []) × MatchOption it (HasNoMeaning tree) (λ m. IsMeaning tree m)
IsLoweringOf tree (came.Fault fault) = IsFirstFault (Some fault) (faults_of tree)
